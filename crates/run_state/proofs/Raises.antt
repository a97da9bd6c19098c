-- A render count that rises by one.
use Rattle.std.proofs.Common.{◌≡◌, ℕ, ◌+◌, Bool, true, false, [], refl, ap, sym, ◌∙◌}
use Rattle.std.specs.Prelude.{Option, Some, None, if◌then◌else◌}
use Rattle.rt_model.specs.Lists.{at, put}
use Rattle.rt_model.specs.Tree.{Types}
use Rattle.rt_model.specs.World as world
use Rattle.rt_model.specs.State as model
use Rattle.rt_model.specs.State.{change, changed_scope, renders_of}
use Rattle.rt_model.specs.Run.{raised, suspends_on, joins}
use Rattle.run_state.specs.Mirror.{changed_task, change_task}

module _ {K : Types} where
  abbrev raised_by : model.State K → ℕ → Bool → model.Outcome K
  raised_by w s b = if b then model.Cut w (model.IdsExhausted world.Renders) else model.Done (change w s (λ x. record x { renders = x.renders + 1 })) []

  -- the counter is at its end
  pub raised_cut : (w : model.State K) (s : ℕ) → world.at_end (renders_of w s) ≡ true → raised w s ≡ model.Cut w (model.IdsExhausted world.Renders)
  raised_cut w s end = ap (raised_by w s) end

  same_count : (w : model.State K) (s r : ℕ) (found : Option (model.Scope K)) → r ≡ elim found [ None ↦ 0 | Some x ↦ x.renders ] + 1
      → changed_scope w s (λ x. record x { renders = r }) found ≡ changed_scope w s (λ x. record x { renders = x.renders + 1 }) found
  same_count w s r None is = refl
  same_count w s r (Some x) is = ap (λ (n : ℕ). changed_scope w s (λ y. record y { renders = n }) (Some x)) is

  -- the count is the next number
  pub raised_done : (w v : model.State K) (s r : ℕ) → world.at_end (renders_of w s) ≡ false → r ≡ renders_of w s + 1 → v ≡ change w s (λ x. record x { renders = r }) → raised w s ≡ model.Done v []
  raised_done w v s r more is made =
      ap (raised_by w s) more ∙ ap (λ u. model.Done u []) (sym (same_count w s r (at w.scopes s) is) ∙ sym made)

  -- the task is gone
  pub suspends_nowhere : (w : model.State K) (s origin t : ℕ) → at w.tasks t ≡ None → suspends_on w s origin t (at w.tasks t) ≡ model.Cut w (model.NoSuchTask s t)
  suspends_nowhere w s origin t gone = ap (λ o. suspends_on w s origin t o) gone

  -- the task holds the boundary above
  pub suspends_done : (w v u : model.State K) (s origin t : ℕ) (x : model.TaskRow K) (above : Option (ℕ × model.SideName)) → at w.tasks t ≡ Some x
      → v ≡ change_task w t (λ y. record y { kind = model.SuspendedTask }) → above ≡ model.location w s → u ≡ joins v origin t above
      → suspends_on w s origin t (at w.tasks t) ≡ model.Done u []
  suspends_done w v u s origin t x above stood is place made =
      ap (λ o. suspends_on w s origin t o) stood
      ∙ ap (λ (y : model.State K). model.Done (joins y origin t (model.location w s)) []) (sym (is ∙ ap (λ o. changed_task w t (λ y. record y { kind = model.SuspendedTask }) o) stood))
      ∙ ap (λ (l : Option (ℕ × model.SideName)). model.Done (joins v origin t l) []) (sym place)
      ∙ ap (λ (y : model.State K). model.Done y []) (sym made)
