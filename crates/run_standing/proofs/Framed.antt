-- What a change leaves of the scopes that it doesn't serve, and what is remembered of those that it does.
use Rattle.std.proofs.Common.{ℕ, Bool, true, false, ◌||◌, List, [], ◌∷◌, ◌≡◌, refl, sym, ap, ◌∙◌, subst, nat_eq, length, suc}
use Rattle.std.specs.Prelude.{Option, Some, None, is_some, option_map, if◌then◌else◌}
use Rattle.std.proofs.lemmas.Bool.{eqb-true}
use Rattle.run_records.specs.Kept.{each, scope_of}
use Rattle.run_records.specs.declared.rest.Scope.{Scope as CodeScope}
use Rattle.law_moves.specs.Frames.{Leaves, Shown, served_by, shown, those}
use Rattle.law_moves.proofs.Untouched.{run_leaves, item_leaves, removal_leaves}
use Rattle.rt_model.proofs.Maps.{at_put_here, at_put_other, by_test}
use Rattle.rt_model.specs.Lists.{at, has}
use Rattle.rt_model.specs.OneLog.{types}
use Rattle.rt_model.specs.Tree.{Types, VComponent}
use Rattle.rt_model.specs.World.{Application}
use Rattle.rt_model.specs.State.{Posted, Mark, Woken, Scope, State, Item, Draw, Row, Feed, Make, Drop, Outcome, Done, Cut, changed_scope, is_live, is_shown}
use Rattle.rt_model.specs.Next.{look_on, look, drop_then, drops, paused, found, looked, at_rest, Work}
use Rattle.rt_model.specs.Removal.{next_removed, removed}
use Rattle.rt_model.specs.Run.{run}
use Rattle.rt_model.specs.Replay.{fed_child, handed, keeps, mounted, mounted_state, outcome_of, with_props}
use Rattle.run_shown.specs.Look.{Sight, sight_of}
use Rattle.run_shown.specs.Stands.{Stands}
use Rattle.run_shown.specs.declared.look.Stood.{Stood}
use Rattle.run_shown.proofs.Standing.{stands_changed}
use Rattle.law_moves.specs.Turn.{and_then, again, turn_of}
use Rattle.run_standing.specs.Changes.{AllKept, changes_of, changes_of_fed, unless}

module _ {K : Types} where
  -- the state after a change
  abbrev pub state_in : Outcome K → State K
  state_in (Done w work) = w
  state_in (Cut w fault) = w

  -- the scopes beside these show what they did
  abbrev pub LeavesOthers : List ℕ → State K → State K → Type 0
  LeavesOthers served w v = (t : ℕ) → has served t ≡ false → option_map sight_of (at v.scopes t) ≡ option_map sight_of (at w.scopes t)

  same_state : (o : Outcome K) (more : List (Item K)) → state_in (and_then o more) ≡ state_in o
  same_state (Done w work) more = refl
  same_state (Cut w fault) more = refl

  abbrev sight_from : Option (Shown K) → Option (Sight K)
  sight_from None = None
  sight_from (Some x) = Some (record { parent = x.1; height = x.2; below = x.3; shows = x.4; main_side = x.5; children_side = x.6; fallback_side = x.7 })

  sight_is : (o : Option (Scope K)) → option_map sight_of o ≡ sight_from (shown o)
  sight_is None = refl
  sight_is (Some x) = refl

  same_sight : (o p : Option (Scope K)) → shown o ≡ shown p → option_map sight_of o ≡ option_map sight_of p
  same_sight o p h = sight_is o ∙ ap sight_from h ∙ sym (sight_is p)

  leaves_others : (served moved : List ℕ) (w : State K) (o : Outcome K) → Leaves served moved w o → LeavesOthers served w (state_in o)
  leaves_others served moved w (Done v work) h = λ t out. same_sight (at v.scopes t) (at w.scopes t) (h.sides t out)
  leaves_others served moved w (Cut v fault) h = λ t out. same_sight (at v.scopes t) (at w.scopes t) (h.sides t out)

  -- a change of a scope that leaves what shows of it
  changed_sight : (w : State K) (s : ℕ) (f : Scope K → Scope K) (o : Option (Scope K)) → at w.scopes s ≡ o → ((x : Scope K) → sight_of (f x) ≡ sight_of x) → (t : ℕ)
      → option_map sight_of (at (changed_scope w s f o).scopes t) ≡ option_map sight_of (at w.scopes t)
  changed_sight w s f None found h t = refl
  changed_sight w s f (Some x) found h t =
      by_test (nat_eq s t)
      (
      λ q.
      ap (λ (o : Option (Scope K)). option_map sight_of o) (at_put_here w.scopes s (f x) t q)
      ∙ ap Some (h x)
      ∙ sym (ap (λ (o : Option (Scope K)). option_map sight_of o) found)
      ∙ ap (λ (i : ℕ). option_map sight_of (at w.scopes i)) (eqb-true s t q)
      )
      (λ q. ap (λ (o : Option (Scope K)). option_map sight_of o) (at_put_other w.scopes s (f x) t q))

module _ {K : Types} (app : Application K) where
  -- a scope that is handed a component and keeps its output shows what it did
  handed_leaves : (w : State K) (t : ℕ) (c : VComponent K) (kept : Bool)
      → LeavesOthers (t ∷ []) w (state_in (if kept then Done (with_props app w t c) [] else run app (with_props app w t c) t))
      → LeavesOthers (unless kept t) w (state_in (if kept then Done (with_props app w t c) [] else run app (with_props app w t c) t))
  handed_leaves w t c true h = λ s out. changed_sight w t (λ x. record x { component = c }) (at w.scopes t) refl (λ x. refl) s
  handed_leaves w t c false h = h

  fed_leaves : (w : State K) (c : VComponent K) (child : Option ℕ)
      → LeavesOthers (those child) w (state_in (elim child as (λ o. Outcome K) [ None ↦ Done w [] | Some t ↦ handed app w t c ]))
      → LeavesOthers (changes_of_fed app w c child) w (state_in (elim child as (λ o. Outcome K) [ None ↦ Done w [] | Some t ↦ handed app w t c ]))
  fed_leaves w c None h = h
  fed_leaves w c (Some t) h = handed_leaves w t c (keeps app w t c) h

  -- a turn at an item changes what shows of its own scopes alone
  pub turn_leaves : (w : State K) (item : Item K) → LeavesOthers (changes_of app w item) w (state_in (turn_of app w item))
  turn_leaves w (Draw s side p k) = leaves_others (served_by w (Draw s side p k)) [] w (outcome_of app w (Draw s side p k)) (item_leaves app w (Draw s side p k))
  turn_leaves w (Row b step) = leaves_others (served_by w (Row b step)) [] w (outcome_of app w (Row b step)) (item_leaves app w (Row b step))
  turn_leaves w (Feed s side p c) =
      fed_leaves w c (fed_child w s side p) (leaves_others (served_by w (Feed s side p c)) [] w (outcome_of app w (Feed s side p c)) (item_leaves app w (Feed s side p c)))
  turn_leaves w (Make s side p c) =
      leaves_others (served_by w (Make s side p c)) (w.next_scope ∷ []) w (outcome_of app w (Make s side p c)) (item_leaves app w (Make s side p c))
  turn_leaves w (Drop t s side) =
      let leaf : ℕ = next_removed w t in
      let o : Outcome K = removed app w leaf in
      subst (λ (v : State K). LeavesOthers (leaf ∷ []) w v) (sym (same_state o (again (nat_eq leaf t) (Drop t s side))))
      (leaves_others (leaf ∷ []) (leaf ∷ []) w o (removal_leaves app w leaf))

  -- so does a run
  pub rerun_leaves : (w : State K) (s : ℕ) → LeavesOthers (s ∷ []) w (state_in (run app w s))
  rerun_leaves w s = leaves_others (s ∷ []) [] w (run app w s) (run_leaves app w s)

-- what is kept of a scope isn't none
none_kept : {A : Type 0} {P : Type 0} (o : Option A) → o ≡ None → is_some o ≡ true → P
none_kept None none kept = cc
none_kept (Some x) none kept = cc

-- a scope of which nothing is kept isn't among those of which something is
pub not_among : {A : Type 0} (stood : List (ℕ × A)) (scopes : List ℕ) (s : ℕ) → AllKept stood scopes → at stood s ≡ None → has scopes s ≡ false
not_among stood [] s kept none = refl
not_among stood (x ∷ xs) s kept none =
    by_test (nat_eq x s)
    (
    λ q.
    let same : x ≡ s = eqb-true x s q in
    none_kept (at stood s) none (ap (λ (n : ℕ). is_some (at stood n)) (sym same) ∙ kept.0)
    )
    (λ q. ap (λ (b : Bool). b || has xs s) q ∙ not_among stood xs s kept.1 none)

module _ {P C Q V H T E L : Type 0} where
  -- what was kept still stands after a change of those of which it was kept
  pub stands_after : (stood : List (ℕ × Option (Stood P C Q V H T E L))) (was : List (ℕ × Scope (types C Q V H T E L))) (served : List ℕ) (w v : State (types C Q V H T E L))
      → Stands stood was w.scopes → AllKept stood served → LeavesOthers served w v → Stands stood was v.scopes
  stands_after stood was served w v h kept leaves =
      stands_changed stood was w.scopes v.scopes h
      (λ s none. leaves s (not_among stood served s kept none))

  pub length_each : (rows : List (ℕ × CodeScope P C Q V H T E L)) → length (each scope_of rows) ≡ length rows
  length_each [] = refl
  length_each (e ∷ es) = ap suc (length_each es)

module _ {K : Types} where
  scopes_if : (b : Bool) (v w : State K) → v.scopes ≡ w.scopes → (if b then v else w).scopes ≡ w.scopes
  scopes_if true v w h = h
  scopes_if false v w h = refl

  look_scopes : (ps : List Posted) (w : State K) → (look_on ps w).scopes ≡ w.scopes
  look_scopes [] w = refl
  look_scopes (Mark s ∷ ps) w = look_scopes ps _ ∙ scopes_if (is_live w s) _ w refl
  look_scopes (Woken t ∷ ps) w = look_scopes ps _ ∙ scopes_if (is_some (at w.tasks t)) _ w refl

  drop_scopes : (go : State K → State K) (w : State K) (o : Option ℕ) → ((v : State K) → (go v).scopes ≡ v.scopes) → (drop_then go w o).scopes ≡ w.scopes
  drop_scopes go w None h = refl
  drop_scopes go w (Some t) h = h _

  drops_scopes : (qs : List ℕ) (w : State K) → (drops qs w).scopes ≡ w.scopes
  drops_scopes [] w = refl
  drops_scopes (q ∷ qs) w = drop_scopes (λ v. drops qs v) w (paused w (found w)) (λ v. drops_scopes qs v)

  looked_scopes : (w : State K) (o : Option Work) → (looked w o).scopes ≡ w.scopes
  looked_scopes w (Some x) = refl
  looked_scopes w None = drops_scopes (look w).queued (look w) ∙ look_scopes w.posted (record w { posted = [] })

  -- the test for what is next leaves the scopes as they are
  pub rest_scopes : (w : State K) → (at_rest w).scopes ≡ w.scopes
  rest_scopes w = looked_scopes (drops w.queued w) (found (drops w.queued w)) ∙ drops_scopes w.queued w

  mounted_sights : (w : State K) (es : List (ℕ × Scope K)) (s : ℕ) → option_map sight_of (at (mounted w es) s) ≡ option_map sight_of (at es s)
  mounted_sights w [] s = refl
  mounted_sights w (e ∷ es) s = by (nat_eq e.0 s) (mounted_sights w es s)
    where
      by : (b : Bool) → option_map sight_of (at (mounted w es) s) ≡ option_map sight_of (at es s)
          → option_map sight_of (if b then Some (record (e.1) { mounted = (e.1).mounted || is_shown w e.0 }) else at (mounted w es) s) ≡ option_map sight_of (if b then Some e.1 else at es s)
      by true h = refl
      by false h = h

module _ {P C Q V H T E L : Type 0} where
  -- what is mounted shows what it did
  pub stands_mounted : (stood : List (ℕ × Option (Stood P C Q V H T E L))) (was : List (ℕ × Scope (types C Q V H T E L))) (w : State (types C Q V H T E L))
      → Stands stood was w.scopes → Stands stood was (mounted_state w).scopes
  stands_mounted stood was w h = stands_changed stood was w.scopes (mounted_state w).scopes h (λ s none. mounted_sights w w.scopes s)
