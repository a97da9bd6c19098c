-- What only a patch, a feed or a removal changes of a scope; a removal takes its own scope alone.
use Rattle.std.specs.Prelude.{ℕ, false, nat_eq, List, [], Option, Some, None, ◌≡◌}
use Rattle.rt_model.specs.Lists.{at}
use Rattle.rt_model.specs.Tree.{Types, VComponent}
use Rattle.rt_model.specs.World.{Application}
use Rattle.rt_model.specs.Laws.{IsLawful}
use Rattle.rt_model.specs.State.{SideName, Side, Scope, State, Item, Done}
use Rattle.rt_model.specs.Removal.{removed}

-- a scope's component, parent, height, the side that it is below, and its sides
abbrev pub Frame : Types → Type 0
Frame K = VComponent K × Option ℕ × ℕ × SideName × Side K × Side K × Side K

module _ {K : Types} where
  -- what no command changes of a scope
  abbrev pub framed : Option (Scope K) → Option (Frame K)
  framed None = None
  framed (Some x) = Some (x.component, x.parent, x.height, x.below, x.main_side, x.children_side, x.fallback_side)

  -- from w to v the scope s went, every other one is framed as it was, and none came
  pub record TookOne (w : State K) (s : ℕ) (v : State K) : Type 0 where
    pub gone : at v.scopes s ≡ None
    pub others : (t : ℕ) → nat_eq s t ≡ false → framed (at v.scopes t) ≡ framed (at w.scopes t)

-- a removal that isn't cut leads to no work, and takes its scope alone
abbrev pub RemovalTakesOne : {K : Types} → Application K → Type 0
RemovalTakesOne {K = K} app =
    IsLawful K app → (w v : State K) (s : ℕ) (work : List (Item K)) → removed app w s ≡ Done v work → (work ≡ []) × TookOne w s v
