-- A scope that was made.
use Rattle.std.specs.Prelude.{◌≡◌, ℕ, false, Some}
use Rattle.rt_model.specs.Lists.{at}
use Rattle.rt_model.specs.Tree.{Types, Place, VComponent}
use Rattle.rt_model.specs.World.{at_end}
use Rattle.rt_model.specs.State.{SideName, Scope, State}
use Rattle.rt_model.specs.Replay.{with_new_scope}

module _ {K : Types} where
  -- a scope was made under its parent, where that is live and the counter isn't at its end
  pub record IsMade (w : State K) (s : ℕ) (side : SideName) (p : Place) (c : VComponent K) (child : ℕ) (v : State K) : Type 0 where
    pub parent : Scope K
    pub live : at w.scopes s ≡ Some parent
    pub left : at_end w.next_scope ≡ false
    pub number : child ≡ w.next_scope
    pub made : v ≡ with_new_scope w s side p c parent
