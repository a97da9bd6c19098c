-- What comes next comes in its turn.
use Rattle.std.proofs.Common.{ℕ, ◌+◌, ◌≤◌, Bool, true, false, List, [], ◌∷◌, ◌++◌, ◌≡◌, length, refl, sym, ap, ◌∙◌, subst, arith}
use Rattle.std.specs.Prelude.{Option, Some, None, if◌then◌else◌, is_some}
use Rattle.std.specs.List.{AllByRecursion}
pub use Rattle.rt_lemmas.proofs.Lists.{none_most as no_number}
use Rattle.rt_model.specs.Lists.{at, drop_number, join}
use Rattle.rt_model.specs.Tree.{Types}
use Rattle.rt_model.specs.State.{Posted, Mark, Woken, Scope, State, is_live}
use Rattle.rt_model.specs.Next.{Work, RerunScope, PollTask, RunEffects, least, look_on, look, is_before, scope_of_task, is_active, first_task, first_seen, chosen, found, paused, drop_then, drops, looked, at_rest, with_effects, or_effects}
use Rattle.rt_model.proofs.Maps.{by_test, pick_true, pick_false}
use Rattle.law_behavior.specs.Comes.{IsFirst, task_before, ComesToRerun, ComesToEffects, ComesInTurn, emptied, NothingLeft, NextInTurn, NoneIsLeft}
use Rattle.law_behavior.proofs.Firsts.{IsOrder, scopes_order, order_by, first_of_least, none_least, all_first, all_map, shorter}

module _ {K : Types} where
  task_order : (w : State K) → IsOrder (λ a b. task_before w a b)
  task_order w = order_by (λ a b. is_before w.scopes a b) (λ t. scope_of_task w t) (scopes_order w.scopes)

  pub first_task_of : (w : State K) (t : ℕ) → first_task w ≡ Some t → IsFirst (λ a b. task_before w a b) t w.queued
  first_task_of w t h = first_of_least (λ a b. task_before w a b) (task_order w) w.queued t h

  first_seen_of : (w : State K) (s : ℕ) → first_seen w ≡ Some s → IsFirst (λ a b. is_before w.scopes a b) s w.seen
  first_seen_of w s h = first_of_least (λ a b. is_before w.scopes a b) (scopes_order w.scopes) w.seen s h

  pub no_task : (w : State K) → first_task w ≡ None → w.queued ≡ []
  no_task w h = none_least (λ a b. task_before w a b) w.queued h

  no_seen : (w : State K) → first_seen w ≡ None → w.seen ≡ []
  no_seen w h = none_least (λ a b. is_before w.scopes a b) w.seen h

  -- where the first task comes after a scope, all do
  tasks_after : (w : State K) (s t : ℕ) → is_before w.scopes s (scope_of_task w t) ≡ true → IsFirst (λ a b. task_before w a b) t w.queued
      → AllByRecursion (λ (u : ℕ). is_before w.scopes s (scope_of_task w u) ≡ true) w.queued
  tasks_after w s t h f =
      let o : IsOrder (λ a b. is_before w.scopes a b) = scopes_order w.scopes in
      let P : ℕ → Type 0 = λ u. is_before w.scopes s (scope_of_task w u) ≡ true in
      subst (λ (xs : List ℕ). AllByRecursion (λ (u : ℕ). is_before w.scopes s (scope_of_task w u) ≡ true) xs) (sym f.stands)
      (all_first P f.front f.back t
      (all_map (λ u. task_before w t u ≡ true) P f.front (λ u g. o.through s (scope_of_task w t) (scope_of_task w u) h g) f.later)
      h
      (all_map (λ u. task_before w u t ≡ false) P f.back (λ u g. o.below s (scope_of_task w t) (scope_of_task w u) h g) f.no_earlier))

  -- where the first seen scope doesn't come before a task, none does
  scopes_after : (w : State K) (s t : ℕ) → is_before w.scopes s (scope_of_task w t) ≡ false → IsFirst (λ a b. is_before w.scopes a b) s w.seen
      → AllByRecursion (λ (r : ℕ). is_before w.scopes r (scope_of_task w t) ≡ false) w.seen
  scopes_after w s t h f =
      let o : IsOrder (λ a b. is_before w.scopes a b) = scopes_order w.scopes in
      let P : ℕ → Type 0 = λ r. is_before w.scopes r (scope_of_task w t) ≡ false in
      subst (λ (xs : List ℕ). AllByRecursion (λ (r : ℕ). is_before w.scopes r (scope_of_task w t) ≡ false) xs) (sym f.stands)
      (all_first P f.front f.back s
      (all_map (λ r. is_before w.scopes s r ≡ true) P f.front (λ r g. o.above s r (scope_of_task w t) h g) f.later)
      h
      (all_map (λ r. is_before w.scopes r s ≡ false) P f.back (λ r g. o.level s r (scope_of_task w t) h g) f.no_earlier))

  rerun_alone : (w : State K) (s : ℕ) → first_task w ≡ None → first_seen w ≡ Some s → ComesToRerun w s
  rerun_alone w s none some =
      record {
        first = first_seen_of w s some;
        tasks_later = subst (λ (xs : List ℕ). AllByRecursion (λ (t : ℕ). is_before w.scopes s (scope_of_task w t) ≡ true) xs) (sym (no_task w none)) tt;
      }

  -- what a task that comes up has beside being active
  abbrev PollTurn : State K → ℕ → Type 0
  PollTurn w t = IsFirst (λ a b. task_before w a b) t w.queued × AllByRecursion (λ (s : ℕ). is_before w.scopes s (scope_of_task w t) ≡ false) w.seen

  poll_alone : (w : State K) (t : ℕ) → first_task w ≡ Some t → first_seen w ≡ None → PollTurn w t
  poll_alone w t some none = (
    first_task_of w t some,
    subst (λ (xs : List ℕ). AllByRecursion (λ (s : ℕ). is_before w.scopes s (scope_of_task w t) ≡ false) xs) (sym (no_seen w none)) tt,
  )

  abbrev Turn : State K → Work → Type 0
  Turn w (RerunScope s) = ComesToRerun w s
  Turn w (PollTask t) = PollTurn w t
  Turn w (RunEffects s) = ⊥

  chosen_turn : (w : State K) (a b : Option ℕ) (work : Work) → first_task w ≡ a → first_seen w ≡ b → chosen w a b ≡ Some work → Turn w work
  chosen_turn w None None work ea eb h = cc
  chosen_turn w (Some t) None work ea eb h =
      let same : PollTask t ≡ work = cc in subst (λ (x : Work). Turn w x) same (poll_alone w t ea eb)
  chosen_turn w None (Some s) work ea eb h =
      let same : RerunScope s ≡ work = cc in subst (λ (x : Work). Turn w x) same (rerun_alone w s ea eb)
  chosen_turn w (Some t) (Some s) work ea eb h =
      by_test (is_before w.scopes s (scope_of_task w t))
      (
      λ q.
      let picked : Some (RerunScope s) ≡ Some work = sym (pick_true (Some (RerunScope s)) (Some (PollTask t)) q) ∙ h in
      let same : RerunScope s ≡ work = cc in
      subst (λ (x : Work). Turn w x) same
      (record { first = first_seen_of w s eb; tasks_later = tasks_after w s t q (first_task_of w t ea) })
      )
      (
      λ q.
      let picked : Some (PollTask t) ≡ Some work = sym (pick_false (Some (RerunScope s)) (Some (PollTask t)) q) ∙ h in
      let same : PollTask t ≡ work = cc in
      subst (λ (x : Work). Turn w x) same (first_task_of w t ea, scopes_after w s t q (first_seen_of w s eb))
      )

  pub found_turn : (w : State K) (work : Work) → found w ≡ Some work → Turn w work
  found_turn w work h = chosen_turn w (first_task w) (first_seen w) work refl refl h

  -- nothing comes up only where nothing is seen or queued
  chosen_none : (w : State K) (a b : Option ℕ) → chosen w a b ≡ None → (a ≡ None) × (b ≡ None)
  chosen_none w None None h = (refl, refl)
  chosen_none w (Some t) None h = cc
  chosen_none w None (Some s) h = cc
  chosen_none w (Some t) (Some s) h =
      by_test (is_before w.scopes s (scope_of_task w t))
      (λ q. let absurdity : Some (RerunScope s) ≡ None = sym (pick_true (Some (RerunScope s)) (Some (PollTask t)) q) ∙ h in cc)
      (λ q. let absurdity : Some (PollTask t) ≡ None = sym (pick_false (Some (RerunScope s)) (Some (PollTask t)) q) ∙ h in cc)

  pub none_found : (w : State K) → found w ≡ None → (w.seen ≡ []) × (w.queued ≡ [])
  none_found w h = let both = chosen_none w (first_task w) (first_seen w) h in (no_seen w both.1, no_task w both.0)

  -- paused tasks that come up are all dropped

  paused_of : (w : State K) (o : Option Work) (t : ℕ) → paused w o ≡ Some t → o ≡ Some (PollTask t)
  paused_of w None t h = cc
  paused_of w (Some (RerunScope s)) t h = cc
  paused_of w (Some (RunEffects s)) t h = cc
  paused_of w (Some (PollTask u)) t h =
      by_test (is_active w u)
      (λ q. let absurdity : None ≡ Some t = sym (pick_true None (Some u) q) ∙ h in cc)
      (λ q. let same : Some u ≡ Some t = sym (pick_false None (Some u) q) ∙ h in cc)

  pub paused_none : (w : State K) → w.queued ≡ [] → (o : Option Work) → found w ≡ o → paused w o ≡ None
  paused_none w e None h = refl
  paused_none w e (Some (RerunScope s)) h = refl
  paused_none w e (Some (RunEffects s)) h = refl
  paused_none w e (Some (PollTask t)) h =
      let turn : PollTurn w t = found_turn w (PollTask t) h in
      nobody (turn.0).front (turn.0).back (sym e ∙ (turn.0).stands)
    where
      nobody : (front back : List ℕ) → [] ≡ front ++ t ∷ back → paused w (Some (PollTask t)) ≡ None
      nobody [] back g = cc
      nobody (x ∷ front) back g = cc

  pub drops_done : (qs : List ℕ) (w : State K) → length w.queued ≤ length qs → paused (drops qs w) (found (drops qs w)) ≡ None
  drops_done [] w h = paused_none w (no_number w.queued h) (found w) refl
  drops_done (q ∷ qs) w h = on (λ v g. drops_done qs v g) (paused w (found w)) refl
    where
      on : ((v : State K) → length v.queued ≤ length qs → paused (drops qs v) (found (drops qs v)) ≡ None) → (o : Option ℕ) → paused w (found w) ≡ o → paused (drop_then (λ v. drops qs v) w o) (found (drop_then (λ v. drops qs v) w o)) ≡ None
      on go None e = e
      on go (Some t) e =
          let turn : PollTurn w t = found_turn w (PollTask t) (paused_of w (found w) t e) in
          let f : IsFirst (λ a b. task_before w a b) t w.queued = turn.0 in
          let less : length (drop_number w.queued t) + 1 ≤ length w.queued =
          subst (λ (xs : List ℕ). length (drop_number xs t) + 1 ≤ length xs) (sym f.stands) (shorter f.front f.back t) in
          go (record w { queued = drop_number w.queued t }) (omega (arith, less, h))

  rest_unpaused : (w : State K) → paused (at_rest w) (found (at_rest w)) ≡ None
  rest_unpaused w = on (found (drops w.queued w)) (drops_done w.queued w (omega arith)) refl
    where
      on : (o : Option Work) → paused (drops w.queued w) (found (drops w.queued w)) ≡ None → found (drops w.queued w) ≡ o
          → paused (looked (drops w.queued w) o) (found (looked (drops w.queued w) o)) ≡ None
      on (Some x) h e = h
      on None h e = let v : State K = look (drops w.queued w) in drops_done v.queued v (omega arith)

  active_by : (w : State K) (t : ℕ) → paused w (Some (PollTask t)) ≡ None → is_active w t ≡ true
  active_by w t h =
      by_test (is_active w t) (λ q. q) (λ q. let absurdity : Some t ≡ None = sym (pick_false None (Some t) q) ∙ h in cc)

  found_in_turn : (w : State K) (work : Work) → found w ≡ Some work → paused w (found w) ≡ None → ComesInTurn w work
  found_in_turn w (RerunScope s) h p = found_turn w (RerunScope s) h
  found_in_turn w (RunEffects s) h p = absurd (found_turn w (RunEffects s) h)
  found_in_turn w (PollTask t) h p =
      let turn : PollTurn w t = found_turn w (PollTask t) h in
      record {
        active = active_by w t (sym (ap (λ (o : Option Work). paused w o) h) ∙ p);
        first = turn.0;
        scopes_no_earlier = turn.1;
      }

  -- drops and looks leave all but what they move

  -- the states are alike but for what is posted, seen and queued
  abbrev Alike : State K → State K → Type 0
  Alike w v = v ≡ record w { posted = v.posted; seen = v.seen; queued = v.queued }

  alike_then : (u v w : State K) → Alike u v → Alike v w → Alike u w
  alike_then u v w f g =
      g ∙ ap (λ (x : State K). record x { posted = w.posted; seen = w.seen; queued = w.queued }) f

  drops_alike : (qs : List ℕ) (w : State K) → Alike w (drops qs w)
  drops_alike [] w = refl
  drops_alike (q ∷ qs) w = on (λ v. drops_alike qs v) (paused w (found w))
    where
      on : ((v : State K) → Alike v (drops qs v)) → (o : Option ℕ) → Alike w (drop_then (λ v. drops qs v) w o)
      on go None = refl
      on go (Some t) =
          let v : State K = record w { queued = drop_number w.queued t } in
          alike_then w v (drops qs v) refl (go v)

  alike_if : (w x y : State K) (b : Bool) → Alike w x → Alike w y → Alike w (if b then x else y)
  alike_if w x y true f g = f
  alike_if w x y false f g = g

  look_on_alike : (ps : List Posted) (w : State K) → Alike w (look_on ps w)
  look_on_alike [] w = refl
  look_on_alike (Mark s ∷ ps) w =
      let v : State K = if is_live w s then record w { seen = join w.seen s } else w in
      alike_then w v (look_on ps v) (alike_if w (record w { seen = join w.seen s }) w (is_live w s) refl refl) (look_on_alike ps v)
  look_on_alike (Woken t ∷ ps) w =
      let v : State K = if is_some (at w.tasks t) then record w { queued = join w.queued t } else w in
      alike_then w v (look_on ps v) (alike_if w (record w { queued = join w.queued t }) w (is_some (at w.tasks t)) refl refl) (look_on_alike ps v)

  look_alike : (w : State K) → Alike w (look w)
  look_alike w = alike_then w (record w { posted = [] }) (look w) refl (look_on_alike w.posted (record w { posted = [] }))

  looked_posted : (ps : List Posted) (w : State K) → w.posted ≡ [] → (look_on ps w).posted ≡ []
  looked_posted [] w h = h
  looked_posted (Mark s ∷ ps) w h =
      let v : State K = record w { seen = join w.seen s } in
      looked_posted ps (if is_live w s then v else w) (either (is_live w s))
    where
      either : (b : Bool) → (if b then record w { seen = join w.seen s } else w).posted ≡ []
      either true = h
      either false = h
  looked_posted (Woken t ∷ ps) w h =
      let v : State K = record w { queued = join w.queued t } in
      looked_posted ps (if is_some (at w.tasks t) then v else w) (either (is_some (at w.tasks t)))
    where
      either : (b : Bool) → (if b then record w { queued = join w.queued t } else w).posted ≡ []
      either true = h
      either false = h

  drops_posted : (qs : List ℕ) (w : State K) → (drops qs w).posted ≡ w.posted
  drops_posted [] w = refl
  drops_posted (q ∷ qs) w = on (λ v. drops_posted qs v) (paused w (found w))
    where
      on : ((v : State K) → (drops qs v).posted ≡ v.posted) → (o : Option ℕ) → (drop_then (λ v. drops qs v) w o).posted ≡ w.posted
      on go None = refl
      on go (Some t) = go (record w { queued = drop_number w.queued t })

  pub rest_alike : (w : State K) → Alike w (at_rest w)
  rest_alike w = on (found (drops w.queued w))
    where
      on : (o : Option Work) → Alike w (looked (drops w.queued w) o)
      on (Some x) = drops_alike w.queued w
      on None =
          let v : State K = drops w.queued w in
          let u : State K = look v in
          alike_then w v (drops u.queued u) (drops_alike w.queued w) (alike_then v u (drops u.queued u) (look_alike v) (drops_alike u.queued u))

  rest_posted : (w : State K) → found (at_rest w) ≡ None → (at_rest w).posted ≡ []
  rest_posted w h = on (found (drops w.queued w)) refl h
    where
      on : (o : Option Work) → found (drops w.queued w) ≡ o → found (looked (drops w.queued w) o) ≡ None → (looked (drops w.queued w) o).posted ≡ []
      on (Some x) e none = let absurdity : Some x ≡ None = sym e ∙ none in cc
      on None e none =
          let v : State K = drops w.queued w in
          let u : State K = look v in
          drops_posted u.queued u ∙ looked_posted v.posted (record v { posted = [] }) refl

  pub rest_emptied : (w : State K) → found (at_rest w) ≡ None → at_rest w ≡ emptied w
  rest_emptied w h =
      let both = none_found (at_rest w) h in
      rest_alike w
      ∙ ap (λ (ps : List Posted). record w { posted = ps; seen = (at_rest w).seen; queued = (at_rest w).queued }) (rest_posted w h)
      ∙ ap (λ (xs : List ℕ). record w { posted = []; seen = xs; queued = (at_rest w).queued }) both.0
      ∙ ap (λ (xs : List ℕ). record w { posted = []; seen = []; queued = xs }) both.1

  effects_in_turn : (w : State K) (s : ℕ) → found (at_rest w) ≡ None
      → least (λ a b. is_before (at_rest w).scopes a b) (with_effects (at_rest w).scopes) ≡ Some s → ComesToEffects (at_rest w) s
  effects_in_turn w s none h =
      let v : State K = at_rest w in
      let both = none_found v none in
      record {
        unposted = rest_posted w none;
        unseen = both.0;
        unqueued = both.1;
        first = first_of_least (λ a b. is_before v.scopes a b) (scopes_order v.scopes) (with_effects v.scopes) s h;
      }

pub next_in_turn : (K : Types) → NextInTurn K
next_in_turn K w work h = on (found (at_rest w)) refl h
  where
    effects_on : (o : Option ℕ) → found (at_rest w) ≡ None → least (λ a b. is_before (at_rest w).scopes a b) (with_effects (at_rest w).scopes) ≡ o
        → elim o as (λ z. Option Work) [ None ↦ None | Some s ↦ Some (RunEffects s) ] ≡ Some work → ComesInTurn (at_rest w) work
    effects_on None none e g = cc
    effects_on (Some s) none e g =
        let same : RunEffects s ≡ work = cc in subst (λ (x : Work). ComesInTurn (at_rest w) x) same (effects_in_turn w s none e)

    on : (o : Option Work) → found (at_rest w) ≡ o → or_effects (at_rest w) o ≡ Some work → ComesInTurn (at_rest w) work
    on (Some x) e g =
        let same : x ≡ work = cc in
        subst (λ (y : Work). ComesInTurn (at_rest w) y) same (found_in_turn (at_rest w) x e (rest_unpaused w))
    on None e g = effects_on (least (λ a b. is_before (at_rest w).scopes a b) (with_effects (at_rest w).scopes)) e refl g

pub none_is_left : (K : Types) → NoneIsLeft K
none_is_left K w h = on (found (at_rest w)) refl h
  where
    effects_on : (o : Option ℕ) → found (at_rest w) ≡ None → least (λ a b. is_before (at_rest w).scopes a b) (with_effects (at_rest w).scopes) ≡ o
        → elim o as (λ z. Option Work) [ None ↦ None | Some s ↦ Some (RunEffects s) ] ≡ None → NothingLeft w
    effects_on (Some s) none e g = cc
    effects_on None none e g =
        let scopes : (at_rest w).scopes ≡ w.scopes = ap (λ (x : State K). x.scopes) (rest_alike w) in
        record {
          rest = rest_emptied w none;
          effects = ap (λ (es : List (ℕ × Scope K)). with_effects es) (sym scopes) ∙ none_least (λ a b. is_before (at_rest w).scopes a b) (with_effects (at_rest w).scopes) e;
        }

    on : (o : Option Work) → found (at_rest w) ≡ o → or_effects (at_rest w) o ≡ None → NothingLeft w
    on (Some x) e g = cc
    on None e g = effects_on (least (λ a b. is_before (at_rest w).scopes a b) (with_effects (at_rest w).scopes)) e refl g
