-- What the tasks of a scope leave as they end: cells and reactive contexts.
use Rattle.std.proofs.Common.{ℕ, Bool, true, false, List, [], ◌∷◌, ◌++◌, ◌≡◌, refl, ◌∙◌}
use Rattle.std.specs.Prelude.{Option, Some, None, if◌then◌else◌, is_some}
use Rattle.rt_model.specs.Lists.{at, without, drop_number}
use Rattle.rt_model.specs.Tree.{Types}
use Rattle.rt_model.specs.State.{Woken, Scope, State, changed_scope}
use Rattle.rt_model.specs.Commands.{drop_posted, holding, released, end}
use Rattle.rt_model.specs.Run.{unmarked}
use Rattle.rt_model.specs.Removal.{tasks_in, end_all, stopped}

module _ {K : Types} where
  -- the rows of cells and contexts are as they were
  abbrev pub SameRows : State K → State K → Type 0
  SameRows w v = (v.cells ≡ w.cells) × (v.contexts ≡ w.contexts)

  end_rows : (w v : State K) (b : Bool) → SameRows w v → SameRows w (if b then v else w)
  end_rows w v true h = h
  end_rows w v false h = (refl, refl)

  end_all_rows : (ts : List ℕ) (w : State K) → SameRows w (end_all w ts)
  end_all_rows [] w = (refl, refl)
  end_all_rows (t ∷ ts) w =
      let v : State K = record w {
        tasks = without w.tasks t;
        posted = drop_posted w.posted (Woken t) ++ holding w.scopes t;
        queued = drop_number w.queued t;
        scopes = released w.scopes t;
      } in
      let one : SameRows w (end w t) = end_rows w v (is_some (at w.tasks t)) (refl, refl) in
      let all : SameRows (end w t) (end_all (end w t) ts) = end_all_rows ts (end w t) in
      (all.0 ∙ one.0, all.1 ∙ one.1)

  changed_rows : (w : State K) (s : ℕ) (f : Scope K → Scope K) (o : Option (Scope K)) → SameRows w (changed_scope w s f o)
  changed_rows w s f None = (refl, refl)
  changed_rows w s f (Some x) = (refl, refl)

  -- so it is where the tasks of a scope have ended
  pub stopped_rows : (w : State K) (s : ℕ) → SameRows w (stopped w s)
  stopped_rows w s =
      let v : State K = end_all w (tasks_in s w.tasks) in
      let u : State K = unmarked v s in
      let ended : SameRows w v = end_all_rows (tasks_in s w.tasks) w in
      let changed : SameRows u (stopped w s) = changed_rows u s (λ x. record x { effects = [] }) (at u.scopes s) in
      (changed.0 ∙ ended.0, changed.1 ∙ ended.1)
