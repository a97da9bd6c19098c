-- What comes next names what is live.
use Rattle.std.proofs.Common.{inr, ℕ, ◌+◌, Bool, true, false, List, [], ◌∷◌, ◌≡◌, refl, sym, ap, ◌∙◌, subst, nat_eq}
use Rattle.std.specs.Prelude.{Option, Some, None, is_some, if◌then◌else◌}
use Rattle.rt_lemmas.proofs.Options.{some_same as some_number}
use Rattle.rt_model.specs.Lists.{at, kept_by, has, drop_number, join}
use Rattle.rt_model.specs.Tree.{Types}
use Rattle.rt_model.specs.World.{Application}
use Rattle.rt_model.specs.Laws.{IsLawful}
use Rattle.rt_model.specs.State.{Posted, Mark, Woken, Fault, Scope, TaskRow, State, Item, Draw, Row, Feed, Make, Drop, is_live}
use Rattle.rt_model.specs.Next.{Work, RerunScope, PollTask, RunEffects, least_from, least, is_before, scope_of_task, first_task, first_seen, chosen, found, look_on, look, paused, drop_then, drops, looked, at_rest, with_effects, or_effects, next}
use Rattle.rt_model.specs.Heard.{Listener}
use Rattle.rt_model.specs.Replay.{Entry, Build, Taken, Heard, Rerun, Poll, Effects, Input, Machine, names_live, if_live, waiting, due_item, due_heard, due_work, due_any, due}
use Rattle.rt_model.specs.Causes.{Limits}
use Rattle.rt_model.proofs.Maps.{by_test, pick_true, eq_same, at_here, at_there}
use Rattle.rt_model.proofs.Members.{clash, or_left, or_right, by_either}
use Rattle.law_moves.specs.Moves.{is_silent}
use Rattle.law_moves.specs.Reached.{Reached}
use Rattle.law_moves.proofs.Insides.{live_due}
use Rattle.law_moves.proofs.Served.{due_is_served}
use Rattle.law_moves.specs.Due.{DueIsAny}
use Rattle.law_moves.proofs.Calm.{leavings_by, live_by, quiet_calm}
use Rattle.law_moves.proofs.Looks.{rest_quiet}
use Rattle.law_moves.proofs.Moved.{reached_holds}
use Rattle.law_moves.proofs.Moving.{Scheduled, calm_scheduled, Holding}

-- the least of a list is one of it
least_there : (earlier : ℕ → ℕ → Bool) (x : ℕ) (xs : List ℕ) → has (x ∷ xs) (least_from earlier x xs) ≡ true
least_there earlier x [] = or_left (nat_eq x x) false (eq_same x)
least_there earlier x (t ∷ ts) = one_of (earlier t x) (least_there earlier (if earlier t x then t else x) ts)
  where
    one_of : (b : Bool) → has ((if b then t else x) ∷ ts) (least_from earlier (if earlier t x then t else x) ts) ≡ true → has (x ∷ t ∷ ts) (least_from earlier (if earlier t x then t else x) ts) ≡ true
    one_of true h = or_right (nat_eq x (least_from earlier (if earlier t x then t else x) ts)) (has (t ∷ ts) (least_from earlier (if earlier t x then t else x) ts)) h
    one_of false h =
        let r : ℕ = least_from earlier (if earlier t x then t else x) ts in
        by_either (nat_eq x r) (has ts r) h
        (λ g. or_left (nat_eq x r) (has (t ∷ ts) r) g)
        (λ g. or_right (nat_eq x r) (has (t ∷ ts) r) (or_right (nat_eq t r) (has ts r) g))

least_of : (earlier : ℕ → ℕ → Bool) (xs : List ℕ) (s : ℕ) → least earlier xs ≡ Some s → has xs s ≡ true
least_of earlier [] s h = cc
least_of earlier (x ∷ xs) s h = subst (λ (k : ℕ). has (x ∷ xs) k ≡ true) (some_number (least_from earlier x xs) s h) (least_there earlier x xs)

effects_alone : (o : Option ℕ) (x : Work) → elim o as (λ z. Option Work) [ None ↦ None | Some r ↦ Some (RunEffects r) ] ≡ Some x → (r : ℕ) × (o ≡ Some r) × (x ≡ RunEffects r)
effects_alone None x h = cc
effects_alone (Some r) x h = (r, refl, cc)

pub either_rerun : (b : Bool) (s t r : ℕ) → (if b then Some (RerunScope s) else Some (PollTask t)) ≡ Some (RerunScope r) → s ≡ r
either_rerun true s t r h = cc
either_rerun false s t r h = cc

either_poll : (b : Bool) (s t r : ℕ) → (if b then Some (RerunScope s) else Some (PollTask t)) ≡ Some (PollTask r) → t ≡ r
either_poll true s t r h = cc
either_poll false s t r h = cc

no_effects : (b : Bool) (s t r : ℕ) → (if b then Some (RerunScope s) else Some (PollTask t)) ≡ Some (RunEffects r) → Some s ≡ None
no_effects true s t r h = cc
no_effects false s t r h = cc

module _ {K : Types} where
  -- looks and drops leave the tasks

  tasks_if : (b : Bool) (x y w : State K) → x.tasks ≡ w.tasks → y.tasks ≡ w.tasks → (if b then x else y).tasks ≡ w.tasks
  tasks_if true x y w f g = f
  tasks_if false x y w f g = g

  look_tasks : (ps : List Posted) (w : State K) → (look_on ps w).tasks ≡ w.tasks
  look_tasks [] w = refl
  look_tasks (Mark s ∷ ps) w =
      look_tasks ps (if is_live w s then record w { seen = join w.seen s } else w) ∙ tasks_if (is_live w s) (record w { seen = join w.seen s }) w w refl refl
  look_tasks (Woken t ∷ ps) w =
      look_tasks ps (if is_some (at w.tasks t) then record w { queued = join w.queued t } else w) ∙ tasks_if (is_some (at w.tasks t)) (record w { queued = join w.queued t }) w w refl refl

  drop_tasks : (go : State K → State K) (w : State K) (o : Option ℕ) → ((v : State K) → (go v).tasks ≡ v.tasks) → (drop_then go w o).tasks ≡ w.tasks
  drop_tasks go w None h = refl
  drop_tasks go w (Some t) h = h (record w { queued = drop_number w.queued t })

  drops_tasks : (qs : List ℕ) (w : State K) → (drops qs w).tasks ≡ w.tasks
  drops_tasks [] w = refl
  drops_tasks (q ∷ qs) w = drop_tasks (λ v. drops qs v) w (paused w (found w)) (λ v. drops_tasks qs v)

  looked_tasks : (w : State K) (o : Option Work) → (looked w o).tasks ≡ w.tasks
  looked_tasks w (Some x) = refl
  looked_tasks w None = drops_tasks (look w).queued (look w) ∙ look_tasks w.posted (record w { posted = [] })

  rest_tasks : (w : State K) → (at_rest w).tasks ≡ w.tasks
  rest_tasks w = let v : State K = drops w.queued w in looked_tasks v (found v) ∙ drops_tasks w.queued w

  -- what comes up was seen, queued, or has effects

  rerun_up : (w : State K) (o : Option Work) (s : ℕ) → or_effects w o ≡ Some (RerunScope s) → o ≡ Some (RerunScope s)
  rerun_up w (Some x) s h = h
  rerun_up w None s h =
      let found_effects = effects_alone (least (λ a b. is_before w.scopes a b) (with_effects w.scopes)) (RerunScope s) h in
      let absurdity : RerunScope s ≡ RunEffects found_effects.0 = found_effects.2 in
      cc

  poll_up : (w : State K) (o : Option Work) (t : ℕ) → or_effects w o ≡ Some (PollTask t) → o ≡ Some (PollTask t)
  poll_up w (Some x) t h = h
  poll_up w None t h =
      let found_effects = effects_alone (least (λ a b. is_before w.scopes a b) (with_effects w.scopes)) (PollTask t) h in
      let absurdity : PollTask t ≡ RunEffects found_effects.0 = found_effects.2 in
      cc

  rerun_chosen : (w : State K) (t s : Option ℕ) (r : ℕ) → chosen w t s ≡ Some (RerunScope r) → s ≡ Some r
  rerun_chosen w None None r h = cc
  rerun_chosen w (Some t) None r h = cc
  rerun_chosen w None (Some s) r h = cc
  rerun_chosen w (Some t) (Some s) r h = ap (λ (k : ℕ). Some k) (either_rerun (is_before w.scopes s (scope_of_task w t)) s t r h)

  poll_chosen : (w : State K) (t s : Option ℕ) (r : ℕ) → chosen w t s ≡ Some (PollTask r) → t ≡ Some r
  poll_chosen w None None r h = cc
  poll_chosen w (Some t) None r h = cc
  poll_chosen w None (Some s) r h = cc
  poll_chosen w (Some t) (Some s) r h = ap (λ (k : ℕ). Some k) (either_poll (is_before w.scopes s (scope_of_task w t)) s t r h)

  none_chosen : {P : Type 0} (w : State K) (t s : Option ℕ) (r : ℕ) → chosen w t s ≡ Some (RunEffects r) → P
  none_chosen w None None r h = cc
  none_chosen w (Some t) None r h = cc
  none_chosen w None (Some s) r h = cc
  none_chosen w (Some t) (Some s) r h = let absurdity : Some s ≡ None = no_effects (is_before w.scopes s (scope_of_task w t)) s t r h in cc

  effects_up : (w : State K) (o : Option Work) (s : ℕ) → found w ≡ o → or_effects w o ≡ Some (RunEffects s) → least (λ a b. is_before w.scopes a b) (with_effects w.scopes) ≡ Some s
  effects_up w (Some x) s up h = none_chosen w (first_task w) (first_seen w) s (up ∙ h)
  effects_up w None s up h =
      let found_effects = effects_alone (least (λ a b. is_before w.scopes a b) (with_effects w.scopes)) (RunEffects s) h in
      let same : RunEffects s ≡ RunEffects found_effects.0 = found_effects.2 in
      let one : found_effects.0 ≡ s = cc in
      found_effects.1 ∙ ap (λ (k : ℕ). Some k) one

  -- a scope with effects is live
  effects_there : (es : List (ℕ × Scope K)) (s : ℕ) → has (with_effects es) s ≡ true → is_some (at es s) ≡ true
  effects_there [] s h = clash h refl
  effects_there (e ∷ es) s h =
      by_test (nat_eq e.0 s)
      (λ q. ap (λ (o : Option (Scope K)). is_some o) (at_here e.0 e.1 es s q))
      (
      λ q.
      ap (λ (o : Option (Scope K)). is_some o) (at_there e.0 e.1 es s q)
      ∙ effects_there es s (later q (e.1).mounted (e.1).effects h)
      )
    where
      later : nat_eq e.0 s ≡ false → (b : Bool) (fs : List K.Effect) → has (if b then elim fs as (λ z. List ℕ) [ [] ↦ with_effects es | x ∷ xs ↦ e.0 ∷ with_effects es ] else with_effects es) s ≡ true → has (with_effects es) s ≡ true
      later q false fs g = g
      later q true [] g = g
      later q true (f ∷ fs) g = by_either (nat_eq e.0 s) (has (with_effects es) s) g (λ i. clash i q) (λ i. i)

  -- who waits is live
  first_waits : (w : State K) (xs : List (Listener K)) (l : Listener K) (ls : List (Listener K)) → kept_by (λ x. is_live w x.origin) xs ≡ l ∷ ls → is_live w l.origin ≡ true
  first_waits w [] l ls h = cc
  first_waits w (x ∷ xs) l ls h = first (is_live w x.origin) refl h (λ i. first_waits w xs l ls i)
    where
      first : (b : Bool) → is_live w x.origin ≡ b → (if b then x ∷ kept_by (λ y. is_live w y.origin) xs else kept_by (λ y. is_live w y.origin) xs) ≡ l ∷ ls
          → (kept_by (λ y. is_live w y.origin) xs ≡ l ∷ ls → is_live w l.origin ≡ true)
          → is_live w l.origin ≡ true
      first true q g go = let same : x ≡ l = cc in ap (λ (y : Listener K). is_live w y.origin) (sym same) ∙ q
      first false q g go = go g

  live_whole : (w : State K) (o : Option Entry) → ((e : Entry) → o ≡ Some e → names_live w e ≡ true) → if_live w o ≡ o
  live_whole w None h = refl
  live_whole w (Some e) h = pick_true (Some e) None (h e refl)

  named_by : (w : State K) (d e : Entry) → Some d ≡ Some e → names_live w d ≡ true → names_live w e ≡ true
  named_by w d e h live = let same : d ≡ e = cc in ap (λ (x : Entry). names_live w x) (sym same) ∙ live

module _ {K : Types} (app : Application K) (lawful : IsLawful K app) where
  -- what is owed, where what is seen is live and what is queued is there
  module _ (m : Machine K) (h : Scheduled app lawful (Unit {0}) m.state) where
    abbrev w : State K
    w = m.state

    abbrev r : State K
    r = at_rest m.state

    rested : Scheduled app lawful (Unit {0}) r
    rested = calm_scheduled app lawful (Unit {0}) w.next.cells w r (quiet_calm None w.next.cells w r (rest_quiet w)) h

    live_before : (s : ℕ) → is_live r s ≡ true → is_live w s ≡ true
    live_before s live = live_by (at w.scopes s) (at r.scopes s) (sym (leavings_by (at r.scopes s) (at w.scopes s) ((rest_quiet w).stand s))) live

    rerun_live : (s : ℕ) → next w ≡ Some (RerunScope s) → is_live w s ≡ true
    rerun_live s up =
        live_before s (rested.seen s (least_of (λ a b. is_before r.scopes a b) r.seen s (rerun_chosen r (first_task r) (first_seen r) s (rerun_up r (found r) s up))))

    poll_live : (t : ℕ) → next w ≡ Some (PollTask t) → is_some (at w.tasks t) ≡ true
    poll_live t up =
        sym (ap (λ (ts : List (ℕ × TaskRow K)). is_some (at ts t)) (rest_tasks w))
        ∙ rested.queued t (least_of (λ a b. is_before r.scopes (scope_of_task r a) (scope_of_task r b)) r.queued t (poll_chosen r (first_task r) (first_seen r) t (poll_up r (found r) t up)))

    effects_live : (s : ℕ) → next w ≡ Some (RunEffects s) → is_live w s ≡ true
    effects_live s up = live_before s (effects_there r.scopes s (least_of (λ a b. is_before r.scopes a b) (with_effects r.scopes) s (effects_up r (found r) s refl up)))

    work_named : (o : Option Work) (inputs : List (Input K)) (e : Entry) → next w ≡ o → due_work app m o inputs ≡ Some e → names_live w e ≡ true
    work_named (Some (RerunScope s)) inputs e up is = named_by w (Rerun s) e is (rerun_live s up)
    work_named (Some (PollTask t)) inputs e up is = named_by w (Poll t) e is (poll_live t up)
    work_named (Some (RunEffects s)) inputs e up is = named_by w (Effects s) e is (effects_live s up)
    work_named None [] e up is = cc
    work_named None (input ∷ inputs) e up is = named_by w (Taken (m.taken + 1)) e is refl

    heard_named : (ls : List (Listener K)) (e : Entry) → waiting m ≡ ls → due_heard app m ls ≡ Some e → names_live w e ≡ true
    heard_named [] e quiet is = work_named (next w) m.inputs e refl is
    heard_named (l ∷ ls) e waits is = named_by w (Heard l.origin) e is (first_waits w m.listeners l ls waits)

module _ {K : Types} (app : Application K) (lawful : IsLawful K app) (limits : Limits) (props : K.Props) (inputs : List (Input K)) (m : Machine K) (reached : Reached app limits props inputs m) where
  -- an entry of open work
  open_named : (item : Item K) (rest : List (Item K)) (silent : Bool) (e : Entry) → m.dead ≡ None → m.work ≡ item ∷ rest → is_silent item ≡ silent → due_any app m ≡ Some e → due_item app m (item ∷ rest) ≡ Some e → names_live m.state e ≡ true
  open_named item rest false e alive first loud is here =
      let served = due_is_served app lawful limits props inputs m item rest reached alive first loud in
      (live_due app m.state e served.0 (sym (ap (λ (o : Option Entry). if_live m.state o) is) ∙ served.1)).1
  open_named (Draw s a p k) rest true e alive first loud is here = cc
  open_named (Row b step) rest true e alive first loud is here = cc
  open_named (Feed s a p c) rest true e alive first loud is here = let absurdity : false ≡ true = loud in cc
  open_named (Make s a p c) rest true e alive first loud is here = let absurdity : false ≡ true = loud in cc
  open_named (Drop t s a) rest true e alive first loud is here = let absurdity : false ≡ true = loud in cc

  work_or_rest : (work : List (Item K)) (e : Entry) → m.dead ≡ None → m.built ≡ true → m.work ≡ work → due_any app m ≡ Some e → due_item app m work ≡ Some e → names_live m.state e ≡ true
  work_or_rest [] e alive built none is here =
      let h : Holding app lawful (Unit {0}) m.state m.work = reached_holds app lawful (Unit {0}) limits props inputs m reached (inr tt) built alive in
      heard_named app lawful m h.scheduled (waiting m) e refl here
  work_or_rest (item ∷ rest) e alive built first is here = open_named item rest (is_silent item) e alive first refl is here

  built_named : (built : Bool) (e : Entry) → m.dead ≡ None → m.built ≡ built → due_any app m ≡ Some e → (if built then due_item app m m.work else Some Build) ≡ Some e → names_live m.state e ≡ true
  built_named true e alive b is here = work_or_rest m.work e alive b refl is here
  built_named false e alive b is here = named_by m.state Build e here refl

  any_named : (o : Option Fault) (e : Entry) → m.dead ≡ o → due_any app m ≡ Some e → names_live m.state e ≡ true
  any_named None e alive is =
      built_named m.built e alive refl is
      (sym (ap (λ (o : Option Fault). elim o as (λ z. Option Entry) [ None ↦ (if m.built then due_item app m m.work else Some Build) | Some f ↦ None ]) alive) ∙ is)
  any_named (Some fault) e dead is =
      let absurdity : None ≡ Some e = sym (ap (λ (o : Option Fault). elim o as (λ z. Option Entry) [ None ↦ (if m.built then due_item app m m.work else Some Build) | Some f ↦ None ]) dead) ∙ is in
      cc

  any_is : due app m ≡ due_any app m
  any_is = live_whole m.state (due_any app m) (λ e is. any_named m.dead e refl is)

pub due_is_any : {K : Types} (app : Application K) → DueIsAny app
due_is_any app lawful limits props inputs m reached = any_is app lawful limits props inputs m reached
