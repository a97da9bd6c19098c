-- What a change leaves of all scopes but one: who reads what has changed, and who is held in another way, is marked.
use Rattle.std.specs.Prelude.{ℕ, List, [], ◌∷◌, Option, Some, None, ◌≤◌}
use Rattle.rt_model.specs.Tree.{Types}
use Rattle.rt_model.specs.World.{Command, NewCell, Application}
use Rattle.rt_model.specs.Laws.{Tests}
use Rattle.rt_model.specs.State.{State}
use Rattle.rt_model.specs.Commands.{commands}
use Rattle.rt_model.specs.Removal.{gone}
use Rattle.law_moves.specs.Heeds.{Heeds}

module _ {K : Types} where
  -- a new cell has a number from the bound on
  abbrev pub NewFrom : ℕ → Command K → Type 0
  NewFrom n (NewCell m v) = n ≤ m
  NewFrom n _ = Unit {0}

  -- the new cells of these commands do
  abbrev pub AllFrom : ℕ → List (Command K) → Type 0
  AllFrom n [] = Unit {0}
  AllFrom n (c ∷ cs) = NewFrom n c × AllFrom n cs

-- commands heed all scopes, and sources but for the cells that they make
abbrev pub CommandsHeed : {K : Types} → Application K → Type 0
CommandsHeed {K = K} app =
    Tests K.Value app.same_value
    → (n : ℕ) (w : State K) (s : ℕ) (polled : Option ℕ) (cs : List (Command K))
    → AllFrom n cs
    → Heeds None n w (commands app w s polled cs)

-- where a scope goes with what it owns, all others are heeded
abbrev pub RemovalHeeds : Types → Type 0
RemovalHeeds K = (n : ℕ) (w : State K) (s : ℕ) → Heeds (Some s) n w (gone w s)
