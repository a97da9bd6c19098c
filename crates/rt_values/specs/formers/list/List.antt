-- How `List` holds its items, so that a type may stand in a list of its own.
use mathlib.Core.Path.{◌≡◌, refl, sym}
use mathlib.Core.List.{List, []}
use mathlib.Core.Former.{Former, this, list, via, children}
use base.Stored.{code_map}
use denote.RattleType.{RattleType}
use denote.HoleLaws.{Alike}
use denote.HolePlaces.{Recodes, struct_places, laid}
use denote.Hole.Carrier.{listed, list-listed}
use denote.Hole.Fix.{over}
use denote.Param.Weighed.{Weighed, w_list}
use denote.Model.Placed.{view_places}
use Rattle.std.specs.formers.vec.Vec as vector
use Rattle.std.specs.declared.alloc.Global.{Global}
use Rattle.std.specs.contracts.alloc.Global as allocator
use Rattle.std.specs.contracts.impls.GlobalAllocator.TheImpl.{ghosts}
use Rattle.rt_values.specs.declared.list.List.TheInside.{Inside}
use Rattle.rt_values.specs.declared.list.List.TheView.{view, invariant}
use Rattle.rt_values.specs.contracts.list.List as Outer
use Rattle.rt_values.specs.contracts.list.List.TheInside as Inner

-- A list over `inner`.
abbrev pub the_former : Former {0} → Former {0}
the_former inner = list inner

-- A list of what has a weight has one.
abbrev pub the_weighed : {inner : Former {0}} → Weighed inner → Weighed (the_former inner)
the_weighed weighed = w_list weighed

-- The list that needs no item.
pub the_empty : List ⊥
the_empty = []

-- The items of a list are the list.
abbrev pub the_items : (Item : Type 0) → List Item → List Item
the_items Item items = items

-- The items are all that a list holds.
pub the_items_listed : (Item : Type 0) (items : List Item) → listed _ (children (the_former this) Item items) ≡ the_items Item items
the_items_listed Item items = list-listed Item items

-- The one field: a vector in std's allocator.
abbrev field : Former {0}
field = via (vector.the_former this Global) Inside (λ Item inside. inside.items) (λ Item vec. record { items = vec }) (λ Item inside. refl)
    (λ Item vec. refl)

module _ (From To : RattleType) (change : From.Denot → To.Denot) where
  -- A list lies in memory as its items do.
  pub the_places : Alike From To change → Alike (Outer.the_row From) (Outer.the_row To) ((the_former this).map From.Denot To.Denot change)
  the_places alike = view_places field (list this) view (λ X Y k inside. refl) (λ X inside. refl) From.Denot To.Denot change
      (Outer.the_row From).coded (Outer.the_row To).coded (invariant From.Denot) (invariant To.Denot)
      (λ inside p q. refl) (λ inside p q. refl) (λ inside held. tt) (λ inside held. tt) (over (Inner.the_row From))
      (over (Inner.the_row To))
      (struct_places (Inner.the_type From) (Inner.the_type To) (vector.mapped change, tt) _ (λ values. refl) refl
      (laid _ _ _ (vector.the_places allocator.the_row ghosts From To change alike), tt))

  -- A list is coded as its items are.
  pub the_codes_placed : Recodes From To change
      → Recodes (Outer.the_row From) (Outer.the_row To) ((the_former this).map From.Denot To.Denot change)
  the_codes_placed recodes items = sym (code_map From.coded.code To.coded.code change (λ item. sym (recodes item)) items)
