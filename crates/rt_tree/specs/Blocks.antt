-- What a block has, in the order of its tree.
use Rattle.std.specs.Prelude.{ℕ, List, map, length, Option}
use Rattle.rt_values.specs.declared.element.ElementId.{ElementId}
use Rattle.rt_values.specs.declared.names.ScopeId.{ScopeId}
use Rattle.rt_model.specs.Lists.{or_else}
use Rattle.run_places.specs.Drawn.{under}
use Rattle.rt_tree.specs.declared.block.Block.{Block}

-- a number, and a scope, of code; 0 for none
abbrev pub element_id : Option ℕ → ElementId
element_id n = record { 0 = or_else 0 n }

abbrev pub scope_id : Option ℕ → ScopeId
scope_id n = record { 0 = or_else 0 n }

module _ {P C Q V H T E L : Type 0} where
  -- its numbers, 0 for a node that has none
  abbrev pub numbers_of : Block P C Q V H T E L → List ElementId
  numbers_of b = map element_id (under b.side.numbers 0 (length b.side.nodes))

  -- its child scopes, 0 for a component that has none
  abbrev pub children_of : Block P C Q V H T E L → List ScopeId
  children_of b = map scope_id (under b.side.children 0 (length b.side.seats))
