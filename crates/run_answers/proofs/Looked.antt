-- What is asked of a dom, by the row that was found.
use Rattle.std.proofs.Common.{◌≡◌, ℕ, Bool, true, false, List, [], ◌∷◌, ap, refl, sym, ◌∙◌}
use Rattle.std.specs.Prelude.{Option, Some, None, IsTrue, ◌↔◌, is_some, option_map, option_and_then}
use Rattle.rt_cells.specs.Held.{held_at, value_at}
use Rattle.rt_cells.specs.declared.numbered.Held.{Held}
use Rattle.run_records.specs.Kept.{each}
use Rattle.rt_model.specs.Lists.{at}
use Rattle.rt_model.specs.Tree.{Types}
use Rattle.rt_model.specs.State.{Scope, State, TaskRow, parent_of}
use Rattle.run_answers.specs.Polls.{sees_none}
use Rattle.run_state.proofs.Each.{live-each, some-mapped}
use Rattle.run_state.proofs.CellsKept.{held-found}

module _ {K : Types} (w : State K) where
  -- the parent of a scope that stands, and of one that doesn't
  pub parent_there : (s : ℕ) (x : Scope K) → at w.scopes s ≡ Some x → x.parent ≡ parent_of w.scopes s
  parent_there s x found = ap (λ (o : Option (Scope K)). elim o as (λ _. Option ℕ) [ None ↦ None | Some y ↦ y.parent ]) (sym found)

  pub parent_gone : (s : ℕ) → at w.scopes s ≡ None → None ≡ parent_of w.scopes s
  parent_gone s gone = ap (λ (o : Option (Scope K)). elim o as (λ _. Option ℕ) [ None ↦ None | Some y ↦ y.parent ]) (sym gone)

  -- its height
  pub height_there : (s : ℕ) (x : Scope K) → at w.scopes s ≡ Some x → Some x.height ≡ option_map (λ (y : Scope K). y.height) (at w.scopes s)
  height_there s x found = ap (option_map (λ (y : Scope K). y.height)) (sym found)

  pub height_gone : (s : ℕ) → at w.scopes s ≡ None → None ≡ option_map (λ (y : Scope K). y.height) (at w.scopes s)
  height_gone s gone = ap (option_map (λ (y : Scope K). y.height)) (sym gone)

  -- the scope of a task that is live, and of one that isn't
  pub scope_there : (t : ℕ) (x : TaskRow K) → at w.tasks t ≡ Some x → Some x.scope ≡ option_map (λ (y : TaskRow K). y.scope) (at w.tasks t)
  scope_there t x found = ap (option_map (λ (y : TaskRow K). y.scope)) (sym found)

  pub scope_gone : (t : ℕ) → at w.tasks t ≡ None → None ≡ option_map (λ (y : TaskRow K). y.scope) (at w.tasks t)
  scope_gone t gone = ap (option_map (λ (y : TaskRow K). y.scope)) (sym gone)

  -- the task that spawned it
  pub spawner_there : (t : ℕ) (x : TaskRow K) → at w.tasks t ≡ Some x → x.parent ≡ option_and_then (λ (y : TaskRow K). y.parent) (at w.tasks t)
  spawner_there t x found = ap (option_and_then (λ (y : TaskRow K). y.parent)) (sym found)

  pub spawner_gone : (t : ℕ) → at w.tasks t ≡ None → None ≡ option_and_then (λ (y : TaskRow K). y.parent) (at w.tasks t)
  spawner_gone t gone = ap (option_and_then (λ (y : TaskRow K). y.parent)) (sym gone)

-- a value is kept under a number exactly where the cell is there
pub cell_is : {B V : Type 0} (f : Held V → B) (cells : List (ℕ × Held V)) (n : ℕ) (o : Option V) → o ≡ value_at n cells
    → is_some o ≡ is_some (at (each f cells) n)
cell_is {B} {V} f cells n o is =
    ap is_some is
    ∙ some-mapped (λ (h : Held V). h.value) (held_at n cells)
    ∙ ap is_some (held-found cells n)
    ∙ sym (live-each f cells n)

-- a list of seen scopes is empty exactly where none is seen
pub none_seen : (empty : Bool) (seen : List ℕ) → (IsTrue empty ↔ (seen ≡ [])) → empty ≡ sees_none seen
none_seen true [] h = refl
none_seen false [] h = h.1 refl
none_seen true (s ∷ ss) h = let none : s ∷ ss ≡ [] = h.0 refl in cc
none_seen false (s ∷ ss) h = refl
