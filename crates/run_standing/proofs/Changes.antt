-- The scopes of which a feed may change what shows, by what is known of the child.
use Rattle.std.proofs.Common.{ℕ, Bool, ◌≡◌, refl, sym, ap, ◌∙◌}
use Rattle.std.specs.Prelude.{Option, Some, None}
use Rattle.rt_model.specs.Tree.{Types, Place, VComponent}
use Rattle.rt_model.specs.World.{Application}
use Rattle.rt_model.specs.State.{SideName, State, Feed}
use Rattle.rt_model.specs.Replay.{fed_child}
use Rattle.run_standing.specs.Changes.{changes_of, changes_of_fed}
use Rattle.run_standing.specs.Feeds.{child_fed, fed_changes, feeds}

module _ {K : Types} (app : Application K) where
  changes_by : (w : State K) (c : VComponent K) (child : Option ℕ) → changes_of_fed app w c child ≡ fed_changes (child_fed app w c child)
  changes_by w c None = refl
  changes_by w c (Some t) = refl

  pub feed_changes : (w : State K) (s : ℕ) (side : SideName) (p : Place) (c : VComponent K) (fed : Option (ℕ × Bool)) → fed ≡ feeds app w (Feed s side p c)
      → changes_of app w (Feed s side p c) ≡ fed_changes fed
  feed_changes w s side p c fed is = changes_by w c (fed_child w s side p) ∙ ap (λ z. fed_changes z) (sym is)
