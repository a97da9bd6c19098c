-- What a change of one value in a table is in the model.
use Rattle.std.proofs.Common.{◌≡◌, ℕ, List, refl, ap, sym, ◌∙◌}
use Rattle.std.specs.Prelude.{Option, Some, None, option_map, Result, Ok, Err, OnOk, OnErr, IfOk}
use Rattle.rt_model.specs.Lists.{at, put}
use Rattle.rt_model.specs.OneLog.{types}
use Rattle.rt_model.specs.Tree as tree
use Rattle.rt_model.specs.State as model
use Rattle.rt_model.specs.State.{change, changed_scope}
use Rattle.run_records.specs.Kept.{each, scope_of}
use Rattle.run_records.specs.declared.rest.Scope.{Scope}
use Rattle.run_state.specs.Mirror.{Unkept, task_of, changed_task, change_task, state_of}
use Rattle.run_state.specs.declared.state.TaskRow.{TaskRow}
use Rattle.run_state.specs.declared.state.State.{State}
use Rattle.run_state.proofs.Each.{at-each, put-each}

-- a fact of every successful outcome, put through an inference
pub on_ok : {U X : Type 0} {A B : Type 0} (r : Result U X) → OnOk r A → (A → B) → OnOk r B
on_ok (Ok u) a f = f a
on_ok (Err e) a f = tt

-- the same of every failed outcome
pub on_err : {U X : Type 0} {A B : Type 0} (r : Result U X) → OnErr r A → (A → B) → OnErr r B
on_err (Ok u) a f = tt
on_err (Err e) a f = f a

-- a fact of the successful and of the failed ones is one of all
pub either_way : {U X : Type 0} {A : Type 0} (r : Result U X) → OnOk r A → OnErr r A → A
either_way (Ok u) a b = a
either_way (Err e) a b = b

-- the same of a fact about the value of an outcome
pub if_ok : {U X : Type 0} {A B : U → Type 0} (r : Result U X) → IfOk r A → ((u : U) → A u → B u) → IfOk r B
if_ok (Ok u) a f = f u a
if_ok (Err e) a f = tt

-- the same of two facts
pub on_both : {U X : Type 0} {A B C : Type 0} (r : Result U X) → OnOk r A → OnOk r B → (A → B → C) → OnOk r C
on_both (Ok u) a b f = f a b
on_both (Err e) a b f = tt

-- a list with the value under a number changed, where one was found
abbrev pub changed_in : {B : Type 0} → List (ℕ × B) → ℕ → (B → B) → Option B → List (ℕ × B)
changed_in es n h None = es
changed_in es n h (Some b) = put es n (h b)

module _ {A B U X : Type 0} where
  by_found : (r : Result U X) (R : A → A → Type 0) (f : A → B) (k : A → A) (h : B → B) (old new : List (ℕ × A)) (n : ℕ) (found : Option A) → at old n ≡ found
      → (at old n ≡ None → new ≡ old)
      → ((x : A) → at old n ≡ Some x → (y : A) × R x y × (new ≡ put old n y))
      → ((x y : A) → R x y → OnOk r (y ≡ k x))
      → ((x : A) → f (k x) ≡ h (f x))
      → OnOk r (each f new ≡ changed_in (each f old) n h (option_map f found))
  by_found (Ok u) R f k h old new n None stood absent changed step law = ap (each f) (absent stood)
  by_found (Ok u) R f k h old new n (Some x) stood absent changed step law =
      let made = changed x stood in
      ap (each f) made.2 ∙ put-each f old n made.0 ∙ ap (λ y. put (each f old) n (f y)) (step x made.0 made.1) ∙ ap (λ b. put (each f old) n b) (law x)
  by_found (Err e) R f k h old new n found stood absent changed step law = tt

  -- a change of a table by a closure whose work is a function
  pub table_changed : (r : Result U X) (R : A → A → Type 0) (f : A → B) (k : A → A) (h : B → B) (old new : List (ℕ × A)) (n : ℕ)
      → (at old n ≡ None → new ≡ old)
      → ((x : A) → at old n ≡ Some x → (y : A) × R x y × (new ≡ put old n y))
      → ((x y : A) → R x y → OnOk r (y ≡ k x))
      → ((x : A) → f (k x) ≡ h (f x))
      → OnOk r (each f new ≡ changed_in (each f old) n h (at (each f old) n))
  table_changed r R f k h old new n absent changed step law =
      on_ok r (by_found r R f k h old new n (at old n) refl absent changed step law) (λ is. is ∙ ap (λ o. changed_in (each f old) n h o) (sym (at-each f old n)))

  by_revised : (r : Result U X) (R : A → A → Type 0) (f : A → B) (h : B → B) (old new : List (ℕ × A)) (n : ℕ) (found : Option A) → at old n ≡ found
      → (at old n ≡ None → new ≡ old)
      → ((x : A) → at old n ≡ Some x → (y : A) × R x y × (new ≡ put old n y))
      → ((x y : A) → R x y → OnOk r (f y ≡ h (f x)))
      → OnOk r (each f new ≡ changed_in (each f old) n h (option_map f found))
  by_revised (Ok u) R f h old new n None stood absent changed step = ap (each f) (absent stood)
  by_revised (Ok u) R f h old new n (Some x) stood absent changed step =
      let made = changed x stood in
      ap (each f) made.2 ∙ put-each f old n made.0 ∙ ap (λ b. put (each f old) n b) (step x made.0 made.1)
  by_revised (Err e) R f h old new n found stood absent changed step = tt

  -- the same by a closure of which it is known what its work is in the model
  pub table_revised : (r : Result U X) (R : A → A → Type 0) (f : A → B) (h : B → B) (old new : List (ℕ × A)) (n : ℕ)
      → (at old n ≡ None → new ≡ old)
      → ((x : A) → at old n ≡ Some x → (y : A) × R x y × (new ≡ put old n y))
      → ((x y : A) → R x y → OnOk r (f y ≡ h (f x)))
      → OnOk r (each f new ≡ changed_in (each f old) n h (at (each f old) n))
  table_revised r R f h old new n absent changed step =
      on_ok r (by_revised r R f h old new n (at old n) refl absent changed step) (λ is. is ∙ ap (λ o. changed_in (each f old) n h o) (sym (at-each f old n)))

module _ {K : tree.Types} where
  change_is : (w : model.State K) (s : ℕ) (h : model.Scope K → model.Scope K) (found : Option (model.Scope K))
      → record w { scopes = changed_in w.scopes s h found } ≡ changed_scope w s h found
  change_is w s h None = refl
  change_is w s h (Some x) = refl

  task_is : (w : model.State K) (t : ℕ) (h : model.TaskRow K → model.TaskRow K) (found : Option (model.TaskRow K))
      → record w { tasks = changed_in w.tasks t h found } ≡ changed_task w t h found
  task_is w t h None = refl
  task_is w t h (Some x) = refl

module _ {P C Q V H T E L U X : Type 0} where
  -- a change of a task
  pub task_changed : (r : Result U X) (R : TaskRow P C Q V H T E L → TaskRow P C Q V H T E L → Type 0) (d : State P C Q V H T E L) (new : List (ℕ × TaskRow P C Q V H T E L)) (t : ℕ)
      (k : TaskRow P C Q V H T E L → TaskRow P C Q V H T E L) (h : model.TaskRow (types C Q V H T E L) → model.TaskRow (types C Q V H T E L))
      → (at d.tasks t ≡ None → new ≡ d.tasks)
      → ((x : TaskRow P C Q V H T E L) → at d.tasks t ≡ Some x → (y : TaskRow P C Q V H T E L) × R x y × (new ≡ put d.tasks t y))
      → ((x y : TaskRow P C Q V H T E L) → R x y → OnOk r (y ≡ k x))
      → ((x : TaskRow P C Q V H T E L) → task_of (k x) ≡ h (task_of x))
      → OnOk r ((g : Unkept (types C Q V H T E L)) → record (state_of g d) { tasks = each task_of new } ≡ change_task (state_of g d) t h)
  task_changed r R d new t k h absent changed step law =
      on_ok r (table_changed r R task_of k h d.tasks new t absent changed step law)
      (λ is g.
      let w : model.State (types C Q V H T E L) = state_of g d in
      ap (λ (es : List (ℕ × model.TaskRow (types C Q V H T E L))). let v : model.State (types C Q V H T E L) = record w { tasks = es } in v) is
      ∙ task_is w t h (at w.tasks t))

  -- a change of a scope
  pub scope_changed : (r : Result U X) (R : Scope P C Q V H T E L → Scope P C Q V H T E L → Type 0) (d : State P C Q V H T E L) (new : List (ℕ × Scope P C Q V H T E L)) (s : ℕ)
      (k : Scope P C Q V H T E L → Scope P C Q V H T E L) (h : model.Scope (types C Q V H T E L) → model.Scope (types C Q V H T E L))
      → (at (d.rows).table s ≡ None → new ≡ (d.rows).table)
      → ((x : Scope P C Q V H T E L) → at (d.rows).table s ≡ Some x → (y : Scope P C Q V H T E L) × R x y × (new ≡ put (d.rows).table s y))
      → ((x y : Scope P C Q V H T E L) → R x y → OnOk r (y ≡ k x))
      → ((x : Scope P C Q V H T E L) → scope_of (k x) ≡ h (scope_of x))
      → OnOk r ((g : Unkept (types C Q V H T E L)) → record (state_of g d) { scopes = each scope_of new } ≡ change (state_of g d) s h)
  scope_changed r R d new s k h absent changed step law =
      on_ok r (table_changed r R scope_of k h (d.rows).table new s absent changed step law)
      (λ is g.
      let w : model.State (types C Q V H T E L) = state_of g d in
      ap (λ (es : List (ℕ × model.Scope (types C Q V H T E L))). let v : model.State (types C Q V H T E L) = record w { scopes = es } in v) is
      ∙ change_is w s h (at w.scopes s))

  -- the same by what it is in the model
  pub scope_revised : (r : Result U X) (R : Scope P C Q V H T E L → Scope P C Q V H T E L → Type 0) (d : State P C Q V H T E L) (new : List (ℕ × Scope P C Q V H T E L)) (s : ℕ)
      (h : model.Scope (types C Q V H T E L) → model.Scope (types C Q V H T E L))
      → (at (d.rows).table s ≡ None → new ≡ (d.rows).table)
      → ((x : Scope P C Q V H T E L) → at (d.rows).table s ≡ Some x → (y : Scope P C Q V H T E L) × R x y × (new ≡ put (d.rows).table s y))
      → ((x y : Scope P C Q V H T E L) → R x y → OnOk r (scope_of y ≡ h (scope_of x)))
      → OnOk r ((g : Unkept (types C Q V H T E L)) → record (state_of g d) { scopes = each scope_of new } ≡ change (state_of g d) s h)
  scope_revised r R d new s h absent changed step =
      on_ok r (table_revised r R scope_of h (d.rows).table new s absent changed step)
      (λ is g.
      let w : model.State (types C Q V H T E L) = state_of g d in
      ap (λ (es : List (ℕ × model.Scope (types C Q V H T E L))). let v : model.State (types C Q V H T E L) = record w { scopes = es } in v) is
      ∙ change_is w s h (at w.scopes s))
