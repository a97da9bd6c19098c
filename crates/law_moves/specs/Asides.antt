-- Where a call that logs no entry comes, and what it leads to.
use Rattle.std.specs.Prelude.{true, ◌≡◌}
use Rattle.rt_model.specs.Tree.{Types}
use Rattle.rt_model.specs.World.{Application}
use Rattle.rt_model.specs.Replay.{Machine}
use Rattle.rt_model.specs.Asides.{Aside, Allowed, set_aside}
use Rattle.law_moves.specs.Moves.{AtRest}

module _ {K : Types} (app : Application K) where
  -- it comes where the build is done and nothing is at work
  pub record IsAside (m : Machine K) (a : Aside K) (u : Machine K) : Type 0 where
    pub rest : AtRest m
    pub built : m.built ≡ true
    pub allowed : Allowed m.state a
    pub gives : u ≡ set_aside app m a
