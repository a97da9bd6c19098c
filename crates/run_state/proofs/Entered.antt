-- A live scope, and a task that hasn't ended, are entered.
use Rattle.std.proofs.Common.{◌≡◌, ℕ, true, List, [], ◌∷◌, refl, ap, sym, ◌∙◌, get_or, length, ◌<◌, nat_eq, zero, suc, arith}
use Rattle.std.specs.Prelude.{Option, None, Some, is_some, option_map}
use Rattle.rt_model.specs.Lists.{at, has, or_else}
use Rattle.rt_model.specs.OneLog.{types}
use Rattle.rt_model.specs.Next.{first_seen, first_task, least, scope_of_task}
use Rattle.rt_model.specs.State as model
use Rattle.rt_model.specs.State.{height_of}
use Rattle.rt_model.proofs.Maps.{eq_same}
use Rattle.rt_model.proofs.Members.{or_left, or_right}
use Rattle.run_records.specs.Kept.{scope_of}
use Rattle.run_records.specs.declared.rest.Scope.{Scope}
use Rattle.run_owed.specs.Lists.{held, numbers_of}
use Rattle.run_owed.specs.Orders.{comes_before, scope_rank, sooner, task_rank}
use Rattle.run_owed.proofs.Tables.{numbers_has, values_at, values_numbers}
use Rattle.run_state.specs.Heights.{height_in, heights_of, task_scope}
use Rattle.run_state.specs.Mirror.{Unkept, at_first, scopes_of, task_of, state_of}
use Rattle.run_state.specs.declared.state.TaskRow.{TaskRow}
use Rattle.run_state.specs.declared.state.State.{State}
use Rattle.run_state.proofs.Each.{at-each, live-each}

module _ {P C Q V H T E L : Type 0} where
  -- the scopes of the table are the entered ones
  pub rows_entered : (d : State P C Q V H T E L) → numbers_of (d.rows).table ≡ numbers_of (d.owed).scopes
  rows_entered d = sym (values_numbers height_in (d.rows).table) ∙ ap (λ (es : List (ℕ × ℕ)). numbers_of es) d.entered

  pub tasks_entered : (d : State P C Q V H T E L) → numbers_of d.tasks ≡ numbers_of (d.owed).tasks
  tasks_entered d = sym (values_numbers task_scope d.tasks) ∙ ap (λ (es : List (ℕ × ℕ)). numbers_of es) d.known

  pub scope_entered : (d : State P C Q V H T E L) (s : ℕ) → ((g : Unkept (types C Q V H T E L)) → model.is_live (state_of g d) s ≡ true) → has (numbers_of (d.owed).scopes) s ≡ true
  scope_entered d s live =
      ap (λ (ns : List ℕ). has ns s) (sym (rows_entered d)) ∙ numbers_has (d.rows).table s ∙ sym (live-each scope_of (d.rows).table s) ∙ live at_first

  pub task_entered : (d : State P C Q V H T E L) (t : ℕ) → ((g : Unkept (types C Q V H T E L)) → is_some (at (state_of g d).tasks t) ≡ true) → has (numbers_of (d.owed).tasks) t ≡ true
  task_entered d t live =
      ap (λ (ns : List ℕ). has ns t) (sym (tasks_entered d)) ∙ numbers_has d.tasks t ∙ sym (live-each task_of d.tasks t) ∙ live at_first

module _ {P C Q V H T E L : Type 0} where
  -- live scopes are the entered ones
  pub live_entered : (g : Unkept (types C Q V H T E L)) (d : State P C Q V H T E L) (s : ℕ) → model.is_live (state_of g d) s ≡ has (numbers_of (d.owed).scopes) s
  live_entered g d s = live-each scope_of (d.rows).table s ∙ sym (numbers_has (d.rows).table s) ∙ ap (λ (ns : List ℕ). has ns s) (rows_entered d)

  -- so are the tasks that haven't ended
  pub works_entered : (g : Unkept (types C Q V H T E L)) (d : State P C Q V H T E L) (t : ℕ) → is_some (at (state_of g d).tasks t) ≡ has (numbers_of (d.owed).tasks) t
  works_entered g d t = live-each task_of d.tasks t ∙ sym (numbers_has d.tasks t) ∙ ap (λ (ns : List ℕ). has ns t) (tasks_entered d)

module _ {P C Q V H T E L : Type 0} where
  -- what a scope is entered with is its height
  pub held_height : (rows : List (ℕ × Scope P C Q V H T E L)) (s : ℕ) → held (heights_of rows) s ≡ height_of (scopes_of rows) s
  held_height rows s =
      ap (λ o. or_else 0 o) (values_at height_in rows s)
      ∙ same (at rows s)
      ∙ sym (ap (λ (o : Option (model.Scope (types C Q V H T E L))). elim o as (λ _. ℕ) [ None ↦ 0 | Some x ↦ x.height ]) (at-each scope_of rows s))
    where
      same : (o : Option (Scope P C Q V H T E L)) → or_else 0 (option_map height_in o) ≡ elim (option_map scope_of o) as (λ _. ℕ) [ None ↦ 0 | Some x ↦ x.height ]
      same None = refl
      same (Some x) = refl

  -- what a task is entered with is its scope
  pub held_task : (g : Unkept (types C Q V H T E L)) (d : State P C Q V H T E L) (t : ℕ) → held (d.owed).tasks t ≡ scope_of_task (state_of g d) t
  held_task g d t =
      ap (λ (es : List (ℕ × ℕ)). held es t) (sym d.known)
      ∙ ap (λ o. or_else 0 o) (values_at task_scope d.tasks t)
      ∙ same (at d.tasks t)
      ∙ sym (ap (λ (o : Option (model.TaskRow (types C Q V H T E L))). elim o as (λ _. ℕ) [ None ↦ 0 | Some x ↦ x.scope ]) (at-each task_of d.tasks t))
    where
      same : (o : Option (TaskRow P C Q V H T E L)) → or_else 0 (option_map task_scope o) ≡ elim (option_map task_of o) as (λ _. ℕ) [ None ↦ 0 | Some x ↦ x.scope ]
      same None = refl
      same (Some x) = refl

  pub state_height : (d : State P C Q V H T E L) (s : ℕ) → held (d.owed).scopes s ≡ height_of (scopes_of (d.rows).table) s
  state_height d s = ap (λ (es : List (ℕ × ℕ)). held es s) (sym d.entered) ∙ held_height (d.rows).table s

  -- the least of what is seen, by the heights that were entered
  pub seen_least : (g : Unkept (types C Q V H T E L)) (d : State P C Q V H T E L) → least (sooner (scope_rank (d.owed).scopes)) (d.owed).seen ≡ first_seen (state_of g d)
  seen_least g d = λ i. least (λ s t. comes_before (state_height d s i, s) (state_height d t i, t)) (d.owed).seen

  -- the least of what is queued, by the scopes that were entered
  pub queued_least : (g : Unkept (types C Q V H T E L)) (d : State P C Q V H T E L)
      → least (sooner (task_rank (d.owed).scopes (d.owed).tasks)) (d.owed).queued ≡ first_task (state_of g d)
  queued_least g d = λ i. least (λ t u. comes_before (ranked t i) (ranked u i)) (d.owed).queued
    where
      ranked : (t : ℕ) → ◌≡◌ {A = ℕ × ℕ} (task_rank (d.owed).scopes (d.owed).tasks t) (height_of (scopes_of (d.rows).table) (scope_of_task (state_of g d) t), scope_of_task (state_of g d) t)
      ranked t =
          let s : ℕ = scope_of_task (state_of g d) t in
          let entered : ◌≡◌ {A = ℕ × ℕ} (task_rank (d.owed).scopes (d.owed).tasks t) (scope_rank (d.owed).scopes s) = ap (λ n. scope_rank (d.owed).scopes n) (held_task g d t) in
          let high : ◌≡◌ {A = ℕ × ℕ} (scope_rank (d.owed).scopes s) (height_of (scopes_of (d.rows).table) s, s) = λ i. (state_height d s i, s) in
          entered ∙ high

-- the number of a row is among those of the table
pub row_entered : {A : Type 0} (es : List (ℕ × A)) (entered : List ℕ) (i : ℕ) (e : ℕ × A) → numbers_of es ≡ entered → i < length es → e ≡ get_or es i e → has entered e.0 ≡ true
row_entered {A = A} es entered i e are within is =
    ap (λ (ns : List ℕ). has ns e.0) (sym are) ∙ ap (λ (d : ℕ × A). has (numbers_of es) d.0) is ∙ there es i within
  where
    there : (fs : List (ℕ × A)) (j : ℕ) → j < length fs → has (numbers_of fs) (get_or fs j e).0 ≡ true
    there [] j low = absurd (omega (arith, low))
    there (f ∷ fs) zero low = or_left (nat_eq f.0 f.0) (has (numbers_of fs) f.0) (eq_same f.0)
    there (f ∷ fs) (suc j) low = or_right (nat_eq f.0 (get_or fs j e).0) (has (numbers_of fs) (get_or fs j e).0) (there fs j (omega (arith, low)))
