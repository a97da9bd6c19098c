-- A run, by what was found of its scope.
use Rattle.std.proofs.Common.{◌≡◌, ℕ, Bool, true, false, List, [], Option, Some, None, refl, ap, sym, ◌∙◌}
use Rattle.std.specs.Prelude.{if◌then◌else◌}
use Rattle.rt_model.specs.Lists.{at}
use Rattle.rt_model.specs.Tree.{Types, VComponent, Own, Root, Fragment, ErrorBoundary, SuspenseBoundary, is_suspense_boundary}
use Rattle.rt_model.specs.World.{Application, before_render_kind}
use Rattle.rt_model.specs.State.{State, Scope, Done, RowStep, hooks_of, is_held, onward}
use Rattle.rt_model.specs.Run.{after_answer, after_hooks, boundary_run, call_body, hooks_called, row_items, row_of, run, run_as, runs_fallback, unmarked}
use Rattle.rt_scopes.specs.Runs.{body_run, run_by, run_on, steps_run}

module _ {K : Types} (app : Application K) where
  run_kind : (v : State K) (s : ℕ) (x : Scope K) (c : VComponent K) → run_as app v s x c ≡ run_on app v s c (row_of x.shows (is_held x))
  run_kind v s x (Own component props) = refl
  run_kind v s x (Root component props) = refl
  run_kind v s x (Fragment children) = refl
  run_kind v s x (ErrorBoundary children handler) = refl
  run_kind v s x (SuspenseBoundary children fallback) = refl

  -- the scope was found
  pub run_found : (w : State K) (s : ℕ) (x : Scope K) (c : VComponent K) (steps : List RowStep)
      → at w.scopes s ≡ Some x → x.component ≡ c → steps ≡ row_of x.shows (is_held x) → run app w s ≡ run_by app w s c steps
  run_found w s x c steps found component row =
      ap (λ (o : Option (Scope K)). elim o [ None ↦ Done w [] | Some y ↦ onward (hooks_called app before_render_kind (unmarked w s) s y.hooks) (λ v. run_as app v s y y.component) ]) found
      ∙ ap (λ hs. onward (hooks_called app before_render_kind (unmarked w s) s hs) (λ v. run_as app v s x x.component))
      (ap (λ (o : Option (Scope K)). elim o [ None ↦ [] | Some y ↦ y.hooks ]) (sym found))
      ∙ (λ i. onward (hooks_called app before_render_kind (unmarked w s) s (hooks_of (unmarked w s) s)) (λ v. run_kind v s x x.component i))
      ∙ ap (λ (k : VComponent K). onward (hooks_called app before_render_kind (unmarked w s) s (hooks_of (unmarked w s) s)) (λ v. run_on app v s k (row_of x.shows (is_held x)))) component
      ∙ ap (λ (rs : List RowStep). onward (hooks_called app before_render_kind (unmarked w s) s (hooks_of (unmarked w s) s)) (λ v. run_on app v s c rs)) (sym row)

  -- the scope is gone
  pub run_gone : (w : State K) (s : ℕ) → at w.scopes s ≡ None → run app w s ≡ Done w []
  run_gone w s gone = ap (λ (o : Option (Scope K)). elim o [ None ↦ Done w [] | Some y ↦ onward (hooks_called app before_render_kind (unmarked w s) s y.hooks) (λ v. run_as app v s y y.component) ]) gone

  -- a suspense boundary's run
  pub run_suspense : (w : State K) (s : ℕ) (c : VComponent K) (steps : List RowStep) (b : Bool) → b ≡ is_suspense_boundary c → b ≡ true → run_by app w s c steps ≡ steps_run app w s steps
  run_suspense w s c steps b is true_is =
      ap (λ t. onward (hooks_called app before_render_kind (unmarked w s) s (hooks_of (unmarked w s) s)) (λ v. if t then boundary_run app v s steps else call_body app v s c (λ u answer. after_answer app u s answer)))
      (sym is ∙ true_is)

  -- the run of another component
  pub run_other : (w : State K) (s : ℕ) (c : VComponent K) (steps : List RowStep) (b : Bool) → b ≡ is_suspense_boundary c → b ≡ false → run_by app w s c steps ≡ body_run app w s c
  run_other w s c steps b is false_is =
      ap (λ t. onward (hooks_called app before_render_kind (unmarked w s) s (hooks_of (unmarked w s) s)) (λ v. if t then boundary_run app v s steps else call_body app v s c (λ u answer. after_answer app u s answer)))
      (sym is ∙ false_is)

  -- a run that calls the fallback
  pub run_held : (w : State K) (b : ℕ) (steps : List RowStep) (t : Bool) → t ≡ runs_fallback steps → t ≡ true → boundary_run app w b steps ≡ Done w (row_items b steps)
  run_held w b steps t is true_is = ap (λ z. if z then Done w (row_items b steps) else onward (after_hooks app w b) (λ v. Done v (row_items b steps))) (sym is ∙ true_is)

  -- and one that doesn't
  pub run_free : (w : State K) (b : ℕ) (steps : List RowStep) (t : Bool) → t ≡ runs_fallback steps → t ≡ false → boundary_run app w b steps ≡ onward (after_hooks app w b) (λ v. Done v (row_items b steps))
  run_free w b steps t is false_is = ap (λ z. if z then Done w (row_items b steps) else onward (after_hooks app w b) (λ v. Done v (row_items b steps))) (sym is ∙ false_is)
