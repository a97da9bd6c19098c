-- What one posted thing becomes.
use Rattle.std.proofs.Common.{◌≡◌, ℕ, true, false, List, ap, sym, ◌∙◌}
use Rattle.std.specs.Prelude.{is_some, if◌then◌else◌}
use Rattle.rt_model.specs.Lists.{at, join}
use Rattle.rt_model.specs.Tree.{Types}
use Rattle.rt_model.specs.State as model
use Rattle.run_state.specs.Looks.{looked_at}

module _ {K : Types} where
  pub mark_seen : (w : model.State K) (s : ℕ) (new : List ℕ) → model.is_live w s ≡ true → new ≡ join w.seen s → record w { seen = new } ≡ looked_at w (model.Mark s)
  mark_seen w s new live is =
      ap (λ (xs : List ℕ). let v : model.State K = record w { seen = xs } in v) is ∙ ap (λ b. if b then record w { seen = join w.seen s } else w) (sym live)

  pub mark_passed : (w : model.State K) (s : ℕ) → model.is_live w s ≡ false → w ≡ looked_at w (model.Mark s)
  mark_passed w s gone = ap (λ b. if b then record w { seen = join w.seen s } else w) (sym gone)

  pub wake_queued : (w : model.State K) (t : ℕ) (new : List ℕ) → is_some (at w.tasks t) ≡ true → new ≡ join w.queued t → record w { queued = new } ≡ looked_at w (model.Woken t)
  wake_queued w t new live is =
      ap (λ (xs : List ℕ). let v : model.State K = record w { queued = xs } in v) is ∙ ap (λ b. if b then record w { queued = join w.queued t } else w) (sym live)

  pub wake_passed : (w : model.State K) (t : ℕ) → is_some (at w.tasks t) ≡ false → w ≡ looked_at w (model.Woken t)
  wake_passed w t gone = ap (λ b. if b then record w { queued = join w.queued t } else w) (sym gone)
