-- Reactive contexts that a call enters and leaves.
use Rattle.std.specs.Prelude.{ℕ, ◌∷◌}
use Rattle.rt_model.specs.Program.{Call, left_behind}
use Rattle.rt_model.specs.Tree.{Types}

module _ {K : Types} where
  -- reads go to one more context
  abbrev pub entered : Call K → ℕ → Call K
  entered c n = record c { into = n ∷ c.into }

  -- the last context that was entered is left
  abbrev pub left : Call K → Call K
  left c = record c { into = left_behind c.into }
