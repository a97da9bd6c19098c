-- What reads and look-ups answer, and the call after them.
use Rattle.std.specs.Prelude.{ℕ, nat_lt, Option, Some, None, if◌then◌else◌}
use Rattle.rt_model.specs.Lists.{at}
use Rattle.rt_model.specs.Program.{Call, Found, noted, value_in, found_at, no_further, own_context}
use Rattle.rt_model.specs.Tree.{Types}
use Rattle.rt_model.specs.World.{Cell, World}

module _ {K : Types} where
  -- the value of a cell that was drawn; a cell that the call made has its first value
  abbrev pub read_value : World K → Call K → ℕ → Option K.Value
  read_value w c n = if nat_lt n c.next.cells then value_in w (at c.cells n) n else None

  -- the call after a read of a cell, which is noted where the cell was drawn
  abbrev pub read_call : Call K → ℕ → Call K
  read_call c n = if nat_lt n c.next.cells then noted c (Cell n) else c

  -- the look-up of a kind in one scope alone
  abbrev pub looked_at : World K → ℕ → ℕ → Call K → Found K
  looked_at w kind scope c = found_at w kind scope c no_further (own_context c.provided kind scope) (w.values.context kind scope)
