-- From where nobody waits a log goes on without a listener's call, until an input is taken in.
use Rattle.std.proofs.Common.{ℕ, ◌+◌, Bool, true, false, List, [], ◌∷◌, ◌++◌, ◌≡◌, refl, sym, ap, ◌∙◌, subst, nat_eq}
use Rattle.std.specs.Prelude.{Option, Some, None, if◌then◌else◌}
pub use Rattle.rt_lemmas.proofs.Bools.{none_counted as none_opens}
use Rattle.rt_model.specs.Lists.{kept_by}
use Rattle.rt_model.specs.Tree.{Types}
use Rattle.rt_model.specs.World.{Application}
use Rattle.rt_model.specs.State.{SideName, Fault, State, Item, Draw, Row, Feed, Make, Drop, Outcome, Done, Cut, is_live}
use Rattle.rt_model.specs.Next.{Work, RerunScope, PollTask, RunEffects, at_rest, next}
use Rattle.rt_model.specs.Run.{run}
use Rattle.rt_model.specs.Removal.{next_removed, removed}
use Rattle.rt_model.specs.Heard.{Listener}
use Rattle.rt_model.specs.Replay.{Entry, Build, Taken, Heard, Rerun, Poll, Effects, Made, Fed, Kept, Removed, Input, Machine, ended_by, if_live, waiting, mounted_state, one_more_unit, fed_child, keeps, due_item, due_heard, due_work, due, outcome_of, polled, effects_run, rested, change_by}
use Rattle.rt_model.specs.Causes.{Limits}
use Rattle.rt_model.specs.Told.{count_entries}
use Rattle.rt_model.specs.Reports.{is_opening}
use Rattle.law_moves.specs.Moves.{Move, Silent, Closed, Logged, entries, Leads}
use Rattle.law_moves.proofs.Insides.{live_due, made_due, fed_due, fed_change}
use Rattle.law_lasting.specs.CellsLast.{TakenLeaves}
use Rattle.law_pages.specs.Keeps.{IsNoCall, QuietFor}

-- nor has the end of it
pub none_later : (xs ys : List Entry) → count_entries is_opening (xs ++ ys) ≡ 0 → count_entries is_opening ys ≡ 0
none_later [] ys h = h
none_later (x ∷ xs) ys h = none_later xs ys (none_opens (is_opening x) (count_entries is_opening (xs ++ ys)) h).1

module _ {K : Types} where
  -- the build has begun, no listener is left, and these are the inputs
  pub record Calm (is : List (Input K)) (m : Machine K) : Type 0 where
    pub built : m.built ≡ true
    pub listeners : m.listeners ≡ []
    pub inputs : m.inputs ≡ is

module _ {K : Types} (app : Application K) (is : List (Input K)) where
  pub ended_calm : (m : Machine K) (item : Option (Item K)) (rest : List (Item K)) (o : Outcome K) → Calm is m → Calm is (ended_by m item rest o)
  ended_calm m item rest (Done v work) h = record { built = h.built; listeners = h.listeners; inputs = h.inputs }
  ended_calm m item rest (Cut v fault) h = record { built = h.built; listeners = h.listeners; inputs = h.inputs }

  begun_calm : (m : Machine K) (w : State K) → Calm is m → Calm is (one_more_unit (record m { state = w }))
  begun_calm m w h = record { built = h.built; listeners = h.listeners; inputs = h.inputs }

  mounted_calm : (m : Machine K) → Calm is m → Calm is (record m { unit = false; state = mounted_state m.state })
  mounted_calm m h = record { built = h.built; listeners = h.listeners; inputs = h.inputs }

  -- after an entry that opens nothing it is so again, and the entry was no listener's call
  abbrev After : Machine K → Entry → Machine K → Type 0
  After m e u = is_opening e ≡ false → Calm is m → IsNoCall (Logged e) × Calm is u

  owed_by : (m : Machine K) (work : Option Work) (e : Entry) → if_live m.state (due_work app m work m.inputs) ≡ Some e → After m e (change_by app m [] e)
  owed_by m (Some (RerunScope r)) e due_is =
      let same : e ≡ Rerun r = (live_due app m.state (Rerun r) e due_is).0 in
      subst (λ (x : Entry). After m x (change_by app m [] x)) (sym same)
      (λ opens h. (tt, ended_calm (one_more_unit (rested app m)) None [] (run app (at_rest m.state) r) (begun_calm m (at_rest m.state) h)))
  owed_by m (Some (PollTask r)) e due_is =
      let same : e ≡ Poll r = (live_due app m.state (Poll r) e due_is).0 in
      subst (λ (x : Entry). After m x (change_by app m [] x)) (sym same)
      (λ opens h. (tt, ended_calm (one_more_unit (rested app m)) None [] (polled app (at_rest m.state) r) (begun_calm m (at_rest m.state) h)))
  owed_by m (Some (RunEffects r)) e due_is =
      let same : e ≡ Effects r = (live_due app m.state (Effects r) e due_is).0 in
      subst (λ (x : Entry). After m x (change_by app m [] x)) (sym same)
      (λ opens h. (tt, ended_calm (one_more_unit (rested app m)) None [] (effects_run app (at_rest m.state) r) (begun_calm m (at_rest m.state) h)))
  owed_by m None e due_is = on m.inputs refl
    where
      on : (inputs : List (Input K)) → m.inputs ≡ inputs → After m e (change_by app m [] e)
      on [] more =
          let none : None ≡ Some e = sym (ap (λ (ins : List (Input K)). if_live m.state (due_work app m None ins)) more) ∙ due_is in
          cc
      on (input ∷ inputs) more =
          let found : if_live m.state (Some (Taken (m.taken + 1))) ≡ Some e = sym (ap (λ (ins : List (Input K)). if_live m.state (due_work app m None ins)) more) ∙ due_is in
          let same : e ≡ Taken (m.taken + 1) = (live_due app m.state (Taken (m.taken + 1)) e found).0 in
          subst (λ (x : Entry). After m x (change_by app m [] x)) (sym same) (λ opens h. cc)

  heard_by_entry : (m : Machine K) (ls : List (Listener K)) (e : Entry) → waiting m ≡ ls → if_live m.state (due_heard app m ls) ≡ Some e → After m e (change_by app m [] e)
  heard_by_entry m [] e quiet due_is = owed_by m (next m.state) e due_is
  heard_by_entry m (l ∷ ls) e heard due_is =
      λ opens h.
      let none : [] ≡ l ∷ ls = sym (ap (λ (ds : List (Listener K)). kept_by (λ d. is_live m.state d.origin) ds) h.listeners) ∙ heard in
      cc

  no_call : (t : ℕ) (b : Bool) → IsNoCall (Logged (if b then Kept t else Fed t))
  no_call t true = tt
  no_call t false = tt

  dropped_calm : (m : Machine K) (r top parent : ℕ) (side : SideName) (rest : List (Item K)) (b : Bool) → Calm is m
      → Calm is (if b then ended_by m (Some (Drop top parent side)) rest (removed app m.state r) else ended_by m (Some (Drop top parent side)) (Drop top parent side ∷ rest) (removed app m.state r))
  dropped_calm m r top parent side rest true h = ended_calm m (Some (Drop top parent side)) rest (removed app m.state r) h
  dropped_calm m r top parent side rest false h = ended_calm m (Some (Drop top parent side)) (Drop top parent side ∷ rest) (removed app m.state r) h

  item_by : (m : Machine K) (work : List (Item K)) (e : Entry) → if_live m.state (due_item app m work) ≡ Some e → After m e (change_by app m work e)
  item_by m [] e due_is = heard_by_entry m (waiting m) e refl due_is
  item_by m (Draw s side p k ∷ rest) e due_is = cc
  item_by m (Row b step ∷ rest) e due_is = cc
  item_by m (Make s side p c ∷ rest) e due_is =
      let found = made_due app m.state (is_live m.state s) m.state.next_scope e due_is in
      subst (λ (x : Entry). After m x (change_by app m (Make s side p c ∷ rest) x)) (sym found.1)
      (λ opens h. (tt, ended_calm m (Some (Make s side p c)) rest (outcome_of app m.state (Make s side p c)) h))
  item_by m (Feed s side p c ∷ rest) e due_is =
      let found = fed_due app m.state c (fed_child m.state s side p) e due_is in
      let t : ℕ = found.0 in
      let b : Bool = keeps app m.state t c in
      subst (λ (x : Entry). After m x (change_by app m (Feed s side p c ∷ rest) x)) (sym found.2)
      (subst (λ (y : Machine K). After m (if b then Kept t else Fed t) y) (sym (fed_change app m s side p c rest t b))
      (λ opens h. (no_call t b, ended_calm m (Some (Feed s side p c)) rest (outcome_of app m.state (Feed s side p c)) h)))
  item_by m (Drop top parent side ∷ rest) e due_is =
      let r : ℕ = next_removed m.state top in
      let same : e ≡ Removed r = (live_due app m.state (Removed r) e due_is).0 in
      subst (λ (x : Entry). After m x (change_by app m (Drop top parent side ∷ rest) x)) (sym same)
      (λ opens h. (tt, dropped_calm m r top parent side rest (nat_eq r top) h))

  logged_by : (m : Machine K) (e : Entry) → due app m ≡ Some e → After m e (change_by app m m.work e)
  logged_by m e due_is = on m.dead refl
    where
      built_by : (b : Bool) → if_live m.state (if b then due_item app m m.work else Some Build) ≡ Some e → After m e (change_by app m m.work e)
      built_by true h = item_by m m.work e h
      built_by false h =
          let same : e ≡ Build = (live_due app m.state Build e h).0 in
          subst (λ (x : Entry). After m x (change_by app m m.work x)) (sym same) (λ opens c. cc)

      on : (o : Option Fault) → m.dead ≡ o → After m e (change_by app m m.work e)
      on None alive =
          built_by m.built
          (sym (ap (λ (o : Option Fault). if_live m.state (elim o as (λ z. Option Entry) [ None ↦ (if m.built then due_item app m m.work else Some Build) | Some fault ↦ None ])) alive) ∙ due_is)
      on (Some fault) dead =
          let none : None ≡ Some e =
          sym (ap (λ (o : Option Fault). if_live m.state (elim o as (λ z. Option Entry) [ None ↦ (if m.built then due_item app m m.work else Some Build) | Some f ↦ None ])) dead) ∙ due_is in
          cc

  taken_leaves : (n : ℕ) (inputs : List (Input K)) (e : Entry) → is_opening e ≡ false → TakenLeaves n inputs (Logged e)
  taken_leaves n inputs Build h = tt
  taken_leaves n inputs (Taken k) h = cc
  taken_leaves n inputs (Heard s) h = tt
  taken_leaves n inputs (Rerun s) h = tt
  taken_leaves n inputs (Poll t) h = tt
  taken_leaves n inputs (Effects s) h = tt
  taken_leaves n inputs (Made s) h = tt
  taken_leaves n inputs (Fed s) h = tt
  taken_leaves n inputs (Kept s) h = tt
  taken_leaves n inputs (Removed s) h = tt

  -- along moves whose entries open nothing no listener is called, and no input is taken in
  pub calm_moves : (limits : Limits) (n : ℕ) (m v : Machine K) (moves : List Move) (leads : Leads app limits m moves v) → count_entries is_opening (entries moves) ≡ 0 → Calm is m → QuietFor app limits n m v moves leads × Calm is v
  calm_moves limits n m v [] leads none h = (tt, subst (λ (x : Machine K). Calm is x) (sym leads) h)
  calm_moves limits n m v (Silent ∷ moves) leads none h =
      let move = leads.1 in
      let here : Calm is leads.0 = subst (λ (x : Machine K). Calm is x) (sym move.gives) (ended_calm m (Some move.item) move.later (outcome_of app m.state move.item) h) in
      let more = calm_moves limits n leads.0 v moves leads.2 none here in
      ((tt, tt, more.0), more.1)
  calm_moves limits n m v (Closed ∷ moves) leads none h =
      let move = leads.1 in
      let here : Calm is leads.0 = subst (λ (x : Machine K). Calm is x) (sym move.gives) (mounted_calm m h) in
      let more = calm_moves limits n leads.0 v moves leads.2 none here in
      ((tt, tt, more.0), more.1)
  calm_moves limits n m v (Logged e ∷ moves) leads none h =
      let move = leads.1 in
      let parts = none_opens (is_opening e) (count_entries is_opening (entries moves)) none in
      let step_is = logged_by m e move.due_is parts.0 h in
      let here : Calm is leads.0 = subst (λ (x : Machine K). Calm is x) (sym move.gives) step_is.1 in
      let more = calm_moves limits n leads.0 v moves leads.2 parts.1 here in
      ((step_is.0, taken_leaves n m.inputs e parts.0, more.0), more.1)
