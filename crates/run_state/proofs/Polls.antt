-- A task's state is taken out, to be polled.
use Rattle.std.proofs.Common.{◌≡◌, ℕ, Bool, true, false, List, [], ◌∷◌, refl, ap, sym, ◌∙◌}
use Rattle.std.specs.declared.snapshot.Snapshot.{Snapshot}
use Rattle.std.specs.Prelude.{nat_eq, Option, Some, None, IfSome, IfNone, option_map, if◌then◌else◌}
use Rattle.rt_lemmas.proofs.Options.{some_same as some_own}
use Rattle.rt_model.specs.Lists.{at, put, or_else}
use Rattle.rt_model.specs.OneLog.{types}
use Rattle.rt_model.specs.State as model
use Rattle.run_records.specs.Kept.{each}
use Rattle.run_state.specs.Mirror.{Unkept, task_of, state_held, state_of}
use Rattle.run_state.specs.declared.state.TaskRow.{TaskRow}
use Rattle.run_state.specs.declared.state.State.{State}
use Rattle.run_state.proofs.Each.{found-each, put-each}
use Rattle.run_state.proofs.CellsKept.{same-number}

-- a fact of what is there
pub if_some : {A : Type 0} {F : A → Type 0} (o : Option A) → ((a : A) → o ≡ Some a → F a) → IfSome o F
if_some None f = tt
if_some (Some a) f = f a refl

-- a fact where nothing is there
pub if_none : {A F : Type 0} (o : Option A) → (o ≡ None → F) → IfNone o F
if_none None f = f refl
if_none (Some a) f = tt

put_step : {A : Type 0} (e : ℕ × A) (es : List (ℕ × A)) (n : ℕ) (a : A) (b : Bool) → nat_eq e.0 n ≡ b
    → (at es n ≡ Some a → put es n a ≡ es) → (if b then Some e.1 else at es n) ≡ Some a → (if b then (n, a) ∷ es else e ∷ put es n a) ≡ e ∷ es
put_step e es n a true same rest is = λ i. (sym (same-number e.0 n same) i, some_own a e.1 (sym is) i) ∷ es
put_step e es n a false other rest is = ap (λ xs. e ∷ xs) (rest is)

-- what stands under a number is put there again
put_there : {A : Type 0} (es : List (ℕ × A)) (n : ℕ) (a : A) → at es n ≡ Some a → put es n a ≡ es
put_there [] n a there = absurd (cc there)
put_there (e ∷ es) n a there = put_step e es n a (nat_eq e.0 n) refl (λ is. put_there es n a is) there

module _ {P C Q V H T E L : Type 0} where
  -- a state that is taken out stands for its task still
  pub taken_out : (g : Unkept (types C Q V H T E L)) (d : State P C Q V H T E L) (t : ℕ) (row : TaskRow P C Q V H T E L) (a : T) (was : Snapshot T) (tasks : List (ℕ × TaskRow P C Q V H T E L))
      → Some row ≡ at d.tasks t → row.state ≡ Some a → was.value ≡ a → tasks ≡ put d.tasks t (record row { state = None; was = was })
      → record (state_of g d) { tasks = each task_of tasks } ≡ state_of g d
  taken_out g d t row a was tasks there own stands put_is =
      let w : model.State (types C Q V H T E L) = state_of g d in
      let bare : TaskRow P C Q V H T E L = record row { state = None; was = was } in
      let own_row : model.TaskRow (types C Q V H T E L) = task_of row in
      let same : was.value ≡ own_row.state = stands ∙ sym (ap (λ (o : Option T). or_else (row.was).value o) own) in
      ap (λ (es : List (ℕ × model.TaskRow (types C Q V H T E L))). let v : model.State (types C Q V H T E L) = record w { tasks = es } in v)
      (ap (each task_of) put_is ∙ put-each task_of d.tasks t bare
      ∙ ap (λ (b : T). put w.tasks t (record own_row { state = b })) same
      ∙ put_there w.tasks t own_row (found-each task_of d.tasks t (Some row) there))

  -- it is the task's own
  pub taken_own : (g : Unkept (types C Q V H T E L)) (d : State P C Q V H T E L) (t : ℕ) (former : TaskRow P C Q V H T E L) (taken : T)
      → Some former ≡ at d.tasks t → former.state ≡ Some taken → option_map (λ (x : model.TaskRow (types C Q V H T E L)). x.state) (at (state_of g d).tasks t) ≡ Some taken
  taken_own g d t former taken there is =
      ap (option_map (λ (x : model.TaskRow (types C Q V H T E L)). x.state)) (found-each task_of d.tasks t (Some former) there)
      ∙ ap (λ (o : Option T). Some (or_else (former.was).value o)) is

  -- a row whose state was taken out holds none
  pub none_held : (d : State P C Q V H T E L) (t : ℕ) (former : TaskRow P C Q V H T E L) → Some former ≡ at d.tasks t → former.state ≡ None → state_held (at d.tasks t) ≡ None
  none_held d t former there is = sym (ap state_held there) ∙ is
