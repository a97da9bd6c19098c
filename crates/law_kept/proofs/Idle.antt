-- Where no listener waits and no input is left, the entry that is due begins a unit, or serves open work.
use Rattle.std.proofs.Common.{ℕ, ◌+◌, Bool, true, false, List, [], ◌∷◌, ◌++◌, ◌≡◌, refl, sym, ap, ◌∙◌, arith}
use Rattle.std.specs.Prelude.{Option, Some, None, if◌then◌else◌}
use Rattle.rt_model.specs.Causes.{Limits}
use Rattle.rt_model.specs.Heard.{Listener}
use Rattle.rt_model.specs.Lists.{kept_by}
use Rattle.rt_model.specs.Next.{Work, RerunScope, PollTask, RunEffects, next}
use Rattle.rt_model.specs.Removal.{next_removed}
use Rattle.rt_model.specs.Replay.{Build, Entry, Effects, Fed, Input, Kept, Machine, Poll, Removed, Rerun, due, due_heard, due_item, due_work, fed_child, if_live, is_due, keeps, replay_on, step, waiting}
use Rattle.rt_model.specs.Reports.{is_opening}
use Rattle.rt_model.specs.State.{Draw, Drop, Fault, Feed, Item, Make, Row, is_live}
use Rattle.rt_model.specs.Told.{count_entries, opens}
use Rattle.rt_model.specs.Tree.{Types}
use Rattle.rt_model.specs.World.{Application}
use Rattle.rt_model.proofs.OneLogOnly.{fork, same_entry-true}
use Rattle.law_moves.specs.Moves.{AtRest, Closed, Leads, Logged, Move, Silent, entries}
use Rattle.law_moves.proofs.Insides.{fed_due, live_due, made_due}
use Rattle.law_behavior.specs.Doms.{NoneOpens}
use Rattle.law_pages.proofs.Hearing.{machine_is}
use Rattle.law_reduce.proofs.Calm.{Calm, calm_moves}

-- of two logs in a row the second one opens nothing either
pub none_opens_later : (xs ys : List Entry) → NoneOpens (xs ++ ys) → NoneOpens ys
none_opens_later [] ys h = h
none_opens_later (x ∷ xs) ys h = none_opens_later xs ys h.1

-- an entry more that opens no report
none_more : (b : Bool) (n : ℕ) → b ≡ false → n ≡ 0 → (if b then 1 else 0) + n ≡ 0
none_more true n h rest = cc
none_more false n h rest = omega (arith, rest)

module _ {K : Types} (app : Application K) where
  -- nobody waits
  pub none_waits : (m : Machine K) → m.listeners ≡ [] → waiting m ≡ []
  none_waits m h = ap (λ (ls : List (Listener K)). kept_by (λ l. is_live m.state l.origin) ls) h

  due_here : (m : Machine K) → m.dead ≡ None → m.built ≡ true → due app m ≡ if_live m.state (due_item app m m.work)
  due_here m alive built =
      ap (λ (o : Option Fault). if_live m.state (elim o as (λ z. Option Entry) [ None ↦ (if m.built then due_item app m m.work else Some Build) | Some fault ↦ None ])) alive
      ∙ ap (λ (b : Bool). if_live m.state (if b then due_item app m m.work else Some Build)) built

  -- a unit's entry, which opens no report
  unit_opens : (m : Machine K) (o : Option Work) (e : Entry) → if_live m.state (due_work app m o []) ≡ Some e → (opens e ≡ true) × (is_opening e ≡ false)
  unit_opens m (Some (RerunScope s)) e h =
      let is : e ≡ Rerun s = (live_due app m.state (Rerun s) e h).0 in (ap (λ (x : Entry). opens x) is, ap (λ (x : Entry). is_opening x) is)
  unit_opens m (Some (PollTask t)) e h =
      let is : e ≡ Poll t = (live_due app m.state (Poll t) e h).0 in (ap (λ (x : Entry). opens x) is, ap (λ (x : Entry). is_opening x) is)
  unit_opens m (Some (RunEffects s)) e h =
      let is : e ≡ Effects s = (live_due app m.state (Effects s) e h).0 in (ap (λ (x : Entry). opens x) is, ap (λ (x : Entry). is_opening x) is)
  unit_opens m None e h = cc

  -- where nothing is at work it is a unit's
  idle_opens : (m : Machine K) (e : Entry) → m.inputs ≡ [] → waiting m ≡ [] → if_live m.state (due_item app m []) ≡ Some e → (opens e ≡ true) × (is_opening e ≡ false)
  idle_opens m e inputs waits h =
      unit_opens m (next m.state) e
      (
      ap (λ (is : List (Input K)). if_live m.state (due_work app m (next m.state) is)) (sym inputs)
      ∙ ap (λ (ls : List (Listener K)). if_live m.state (due_heard app m ls)) (sym waits)
      ∙ h
      )

  fed_opens : (t : ℕ) (b : Bool) → is_opening (if b then Kept t else Fed t) ≡ false
  fed_opens t true = refl
  fed_opens t false = refl

  -- whatever is at work, no report is opened
  item_opens : (m : Machine K) (work : List (Item K)) (e : Entry) → m.inputs ≡ [] → waiting m ≡ [] → if_live m.state (due_item app m work) ≡ Some e → is_opening e ≡ false
  item_opens m [] e inputs waits h = (idle_opens m e inputs waits h).1
  item_opens m (Draw s side p k ∷ rest) e inputs waits h = cc
  item_opens m (Row b row_step ∷ rest) e inputs waits h = cc
  item_opens m (Make s side p c ∷ rest) e inputs waits h = ap (λ (x : Entry). is_opening x) (made_due app m.state (is_live m.state s) m.state.next_scope e h).1
  item_opens m (Feed s side p c ∷ rest) e inputs waits h =
      let found = fed_due app m.state c (fed_child m.state s side p) e h in
      ap (λ (x : Entry). is_opening x) found.2 ∙ fed_opens found.0 (keeps app m.state found.0 c)
  item_opens m (Drop t s side ∷ rest) e inputs waits h = ap (λ (x : Entry). is_opening x) (live_due app m.state (Removed (next_removed m.state t)) e h).0

  due_opens : (m : Machine K) (e : Entry) → Calm [] m → due app m ≡ Some e → is_opening e ≡ false
  due_opens m e h due_is = on m.dead refl
    where
      on : (o : Option Fault) → m.dead ≡ o → is_opening e ≡ false
      on None alive = item_opens m m.work e h.inputs (none_waits m h.listeners) (sym (due_here m alive h.built) ∙ due_is)
      on (Some fault) dead =
          let none : None ≡ Some e =
          sym (ap (λ (o : Option Fault). if_live m.state (elim o as (λ z. Option Entry) [ None ↦ (if m.built then due_item app m m.work else Some Build) | Some f ↦ None ])) dead) ∙ due_is in
          cc

  -- along moves from where no listener waits and no input is left no report is opened
  pub none_opened : (limits : Limits) (m v : Machine K) (moves : List Move) → Leads app limits m moves v → Calm [] m → count_entries is_opening (entries moves) ≡ 0
  none_opened limits m v [] leads h = refl
  none_opened limits m v (Silent ∷ moves) leads h =
      none_opened limits leads.0 v moves leads.2 (calm_moves app [] limits 0 m leads.0 (Silent ∷ []) (leads.0, leads.1, refl) refl h).1
  none_opened limits m v (Closed ∷ moves) leads h =
      none_opened limits leads.0 v moves leads.2 (calm_moves app [] limits 0 m leads.0 (Closed ∷ []) (leads.0, leads.1, refl) refl h).1
  none_opened limits m v (Logged e ∷ moves) leads h =
      let other : is_opening e ≡ false = due_opens m e h (leads.1).due_is in
      none_more (is_opening e) (count_entries is_opening (entries moves)) other
      (none_opened limits leads.0 v moves leads.2
      (calm_moves app [] limits 0 m leads.0 (Logged e ∷ []) (leads.0, leads.1, refl) (none_more (is_opening e) 0 other refl) h).1)

  -- a log from there in which no unit begins is none
  pub ends_there : (x v : Machine K) (log : List Entry) → x.built ≡ true → AtRest x → x.inputs ≡ [] → waiting x ≡ [] → NoneOpens log → replay_on app (Some x) log ≡ Some v → x ≡ v
  ends_there x v [] built rests inputs waits alone goes = machine_is x v goes
  ends_there x v (f ∷ fs) built rests inputs waits alone goes =
      let forked = fork app (is_due app (due app x) f) (step app x f) fs v goes in
      let opened : opens f ≡ true = on (due app x) refl forked.0 in
      let absurdity : true ≡ false = sym opened ∙ alone.0 in
      cc
    where
      on : (o : Option Entry) → due app x ≡ o → is_due app o f ≡ true → opens f ≡ true
      on None is h = cc
      on (Some d) is h =
          let here : if_live x.state (due_item app x []) ≡ Some d =
          ap (λ (items : List (Item K)). if_live x.state (due_item app x items)) (sym rests.idle) ∙ sym (due_here x rests.alive built) ∙ is in
          ap (λ (e : Entry). opens e) (sym (same_entry-true d f h)) ∙ (idle_opens x d inputs waits here).0
