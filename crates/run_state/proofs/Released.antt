-- A task's end: whom it held is marked and let go.
use Rattle.std.proofs.Common.{◌≡◌, ℕ, ◌+◌, ◌<◌, ◌≤◌, Bool, true, false, List, [], ◌∷◌, ◌++◌, length, get_or, drop, map, refl, ap, sym, ◌∙◌, append_assoc, append-nil}
use Rattle.std.specs.Prelude.{is_some, if◌then◌else◌}
use Rattle.std.proofs.lemmas.List.{drop_more}
use Rattle.rt_model.specs.Lists.{at, without, drop_number}
use Rattle.rt_model.specs.OneLog.{types}
use Rattle.rt_model.specs.Tree.{Types}
use Rattle.rt_model.specs.State as model
use Rattle.rt_model.specs.State.{holds}
use Rattle.rt_model.specs.Commands.{released, holding, drop_posted, end}
use Rattle.run_records.specs.Kept.{each, scope_of}
use Rattle.run_records.specs.declared.rest.Scope.{Scope}
use Rattle.run_state.specs.Holders.{let_go}
use Rattle.run_state.specs.Mirror.{Unkept, task_of, scopes_of, state_of}
use Rattle.run_state.specs.declared.state.State.{State}
use Rattle.run_state.specs.declared.state.TaskRow.{TaskRow}
use Rattle.run_state.proofs.Each.{drop-all, without-each}

module _ {P C Q V H T E L : Type 0} where
  pub released-is : (es : List (ℕ × Scope P C Q V H T E L)) (t : ℕ) → scopes_of (map (let_go t) es) ≡ released (scopes_of es) t
  released-is [] t = refl
  released-is (e ∷ es) t = ap (λ rest. (e.0, scope_of (let_go t e).1) ∷ rest) (released-is es t)

  -- the mark of one more boundary
  pub held_step : (es : List (ℕ × Scope P C Q V H T E L)) (i : ℕ) (e : ℕ × Scope P C Q V H T E L) (t : ℕ) (posted new : List model.Posted)
      → i < length es → e ≡ get_or es i e
      → new ≡ posted ++ (if holds (scope_of e.1) t then model.Mark e.0 ∷ [] else [])
      → new ++ holding (scopes_of (drop (i + 1) es)) t ≡ posted ++ holding (scopes_of (drop i es)) t
  held_step es i e t posted new within is made =
      let rest = holding (scopes_of (drop (i + 1) es)) t in
      ap (λ ms. ms ++ rest) made
      ∙ append_assoc posted (if holds (scope_of e.1) t then model.Mark e.0 ∷ [] else []) rest
      ∙ ap (λ ms. posted ++ ms)
      (first (holds (scope_of e.1) t) (model.Mark e.0) rest
      ∙ ap (λ (d : ℕ × Scope P C Q V H T E L). if holds (scope_of d.1) t then model.Mark d.0 ∷ rest else rest) is
      ∙ ap (λ ys. holding (scopes_of ys) t) (sym (drop_more es i e within)))
    where
      first : (b : Bool) (m : model.Posted) (ms : List model.Posted) → ((if b then m ∷ [] else []) ++ ms) ≡ (if b then m ∷ ms else ms)
      first true m ms = refl
      first false m ms = refl

  pub held_end : (es : List (ℕ × Scope P C Q V H T E L)) (i t : ℕ) (a b : List model.Posted) → length es ≤ i → a ++ holding (scopes_of (drop i es)) t ≡ b → a ≡ b
  held_end es i t a b end is = sym (append-nil a) ∙ ap (λ ys. a ++ holding (scopes_of ys) t) (sym (drop-all es i end)) ∙ is

  -- a task that is gone has no end
  pub not_ended : (d : State P C Q V H T E L) (t : ℕ) (g : Unkept (types C Q V H T E L)) → is_some (at (state_of g d).tasks t) ≡ false → state_of g d ≡ end (state_of g d) t
  not_ended d t g gone =
      let w : model.State (types C Q V H T E L) = state_of g d in
      ap (λ b. if b then record w { tasks = without w.tasks t; posted = drop_posted w.posted (model.Woken t) ++ holding w.scopes t; queued = drop_number w.queued t; scopes = released w.scopes t } else w) (sym gone)

  -- a task ends: v is the state before the boundaries are let go
  pub ended : (d : State P C Q V H T E L) (t : ℕ) (g : Unkept (types C Q V H T E L)) (tasks : List (ℕ × TaskRow P C Q V H T E L)) (posted : List model.Posted) (queued : List ℕ) (v u : model.State (types C Q V H T E L))
      → is_some (at (state_of g d).tasks t) ≡ true → tasks ≡ without d.tasks t
      → posted ≡ drop_posted (d.owed).posted (model.Woken t) ++ holding (scopes_of (d.rows).table) t → queued ≡ drop_number (d.owed).queued t
      → v ≡ record (state_of g d) { tasks = each task_of tasks; posted = posted; queued = queued }
      → u ≡ record v { scopes = scopes_of (map (let_go t) (d.rows).table) } → u ≡ end (state_of g d) t
  ended d t g tasks posted queued v u live less marks fewer before let_all =
      let w : model.State (types C Q V H T E L) = state_of g d in
      let_all
      ∙ ap (λ (x : model.State (types C Q V H T E L)). let y : model.State (types C Q V H T E L) = record x { scopes = scopes_of (map (let_go t) (d.rows).table) } in y) before
      ∙ (λ i. record w {
        tasks = (ap (each task_of) less ∙ without-each task_of d.tasks t) i;
        posted = marks i;
        queued = fewer i;
        scopes = released-is (d.rows).table t i;
      })
      ∙ ap (λ b. if b then record w { tasks = without w.tasks t; posted = drop_posted w.posted (model.Woken t) ++ holding w.scopes t; queued = drop_number w.queued t; scopes = released w.scopes t } else w) (sym live)

-- the state with other scopes, twice
module _ {K : Types} where
  pub scopes_twice : (w v u : model.State K) (es fs : List (ℕ × model.Scope K)) → v ≡ record w { scopes = es } → u ≡ record v { scopes = fs } → u ≡ record w { scopes = fs }
  scopes_twice w v u es fs first second = second ∙ ap (λ (x : model.State K). let y : model.State K = record x { scopes = fs } in y) first

  -- the state with other scopes
  abbrev pub scoped : model.State K → List (ℕ × model.Scope K) → model.State K
  scoped w es = record w { scopes = es }
