-- One posted thing that is looked at, and all that are posted.
use Rattle.std.specs.Prelude.{ℕ, List, [], ◌∷◌, if◌then◌else◌, is_some}
use Rattle.rt_model.specs.Lists.{at, join}
use Rattle.rt_model.specs.Tree.{Types}
use Rattle.rt_model.specs.State.{Posted, Mark, Woken, State, is_live}

module _ {K : Types} where
  -- a mark becomes seen and a wake queued, where the scope or task is live
  abbrev pub looked_at : State K → Posted → State K
  looked_at w (Mark s) = if is_live w s then record w { seen = join w.seen s } else w
  looked_at w (Woken t) = if is_some (at w.tasks t) then record w { queued = join w.queued t } else w

  -- the seen scopes once these are looked at, in order, where they are live
  abbrev pub seen_of : State K → List ℕ → List ℕ → List ℕ
  seen_of w [] seen = seen
  seen_of w (s ∷ ss) seen = seen_of w ss (if is_live w s then join seen s else seen)

  -- the queued tasks once these are looked at, in order, where they haven't ended
  abbrev pub queued_of : State K → List ℕ → List ℕ → List ℕ
  queued_of w [] queued = queued
  queued_of w (t ∷ ts) queued = queued_of w ts (if is_some (at w.tasks t) then join queued t else queued)
