-- How `Shared` holds its items, so that a type may stand in a list of its own.
use mathlib.Core.Path.{◌≡◌, refl, sym}
use mathlib.Core.List.{List, [], map}
use mathlib.Core.Logic.{◌⊎◌, inl, inr}
use mathlib.Core.Former.{Former, this, const, pair, or, list, via, children}
use base.Stored.{code_map, gnil}
use base.Fml.{ftrue}
use denote.RattleType.{RattleType}
use denote.Memory.{part_of}
use denote.RawPtr.{Ptr}
use denote.Sharing.{nothing}
use denote.HoleLaws.{Alike}
use denote.HolePlaces.{Recodes, struct_places, enum_places, eachs, laid, one_value}
use denote.Hole.Carrier.{listed, list-listed}
use denote.Hole.Fix.{over}
use denote.Param.Weighed.{Weighed, w_list}
use denote.Model.Placed.{held, view_places}
use Rattle.std.specs.declared.option.Option.{Option}
use Rattle.std.specs.declared.option.Option.TheVariants.{None, Some}
use Rattle.std.specs.contracts.option.Option as option
use Rattle.std.specs.formers.vec.Vec as vector
use Rattle.std.specs.declared.vec.Vec.{Vec}
use Rattle.std.specs.declared.rc.Rc.{Rc}
use Rattle.std.specs.contracts.rc.Rc as rc
use Rattle.std.specs.declared.alloc.Global.{Global}
use Rattle.std.specs.contracts.alloc.Global as allocator
use Rattle.std.specs.contracts.impls.GlobalAllocator.TheImpl.{ghosts}
use Rattle.std.specs.contracts.vec.Vec as vec
use Rattle.rt_values.specs.Held.{items_in}
use Rattle.rt_values.specs.declared.shared.Shared.TheInside.{Inside}
use Rattle.rt_values.specs.declared.shared.Shared.TheView.{view, invariant}
use Rattle.rt_values.specs.contracts.shared.Shared as Outer
use Rattle.rt_values.specs.contracts.shared.Shared.TheInside as Inner

-- A list over `inner`.
abbrev pub the_former : Former {0} → Former {0}
the_former inner = list inner

-- A list of what has a weight has one.
abbrev pub the_weighed : {inner : Former {0}} → Weighed inner → Weighed (the_former inner)
the_weighed weighed = w_list weighed

-- The list that needs no item.
pub the_empty : List ⊥
the_empty = []

-- The items of a list are the list.
abbrev pub the_items : (Item : Type 0) → List Item → List Item
the_items Item items = items

-- The items are all that a list holds.
pub the_items_listed : (Item : Type 0) (items : List Item) → listed _ (children (the_former this) Item items) ≡ the_items Item items
the_items_listed Item items = list-listed Item items

module _ {Item : Type 0} where
  -- An owner as where its vector lies, and the vector.
  abbrev split : Option (Rc (Vec Item Global) Global) → Unit {0} ⊎ (Ptr × Vec Item Global)
  split None = inl tt
  split (Some owner) = inr (owner.ptr, owner.value)

  -- The owner of a vector that lies there.
  abbrev join : Unit {0} ⊎ (Ptr × Vec Item Global) → Option (Rc (Vec Item Global) Global)
  join (inl none) = None
  join (inr parts) = Some (record { ptr = parts.0; value = parts.1 })

  join-split : (owner : Option (Rc (Vec Item Global) Global)) → join (split owner) ≡ owner
  join-split None = refl
  join-split (Some owner) = refl

  split-join : (parts : Unit {0} ⊎ (Ptr × Vec Item Global)) → split (join parts) ≡ parts
  split-join (inl none) = refl
  split-join (inr parts) = refl

-- No owner, or one.
abbrev owners : Former {0}
owners = via (or (const (Unit {0})) (pair (const Ptr) (vector.the_former this Global))) (λ Item. Option (Rc (Vec Item Global) Global))
    (λ Item. split) (λ Item. join) (λ Item. join-split) (λ Item. split-join)

-- The one field.
abbrev field : Former {0}
field = via owners Inside (λ Item inside. inside.items) (λ Item owner. record { items = owner }) (λ Item inside. refl) (λ Item owner. refl)

-- The same owner of another value.
abbrev about : {X Y : Type 0} → Rc X Global → Y → Rc Y Global
about owner other = record { ptr = owner.ptr; value = other }

module _ (X Y : Type 0) (change : X → Y) where
  -- The owner of changed items.
  abbrev over_owner : Rc (Vec X Global) Global → Rc (Vec Y Global) Global
  over_owner owner = about owner (vector.mapped change owner.value)

  -- The same of no owner or one.
  abbrev over_owners : Option (Rc (Vec X Global) Global) → Option (Rc (Vec Y Global) Global)
  over_owners None = None
  over_owners (Some owner) = Some (over_owner owner)

  over_is : (owner : Option (Rc (Vec X Global) Global)) → owners.map X Y change owner ≡ over_owners owner
  over_is None = refl
  over_is (Some owner) = refl

  natural : (owner : Option (Rc (Vec X Global) Global)) → items_in (owners.map X Y change owner) ≡ map change (items_in owner)
  natural None = refl
  natural (Some owner) = refl

keeps : (X : Type 0) (owner : Option (Rc (Vec X Global) Global))
    → held (list this) X (items_in owner) ≡ held field X (record { items = owner })
keeps X None = refl
keeps X (Some owner) = refl

-- std's owner of a type, in std's allocator.
abbrev rc_of : RattleType → RattleType
rc_of X = rc.the_row X allocator.the_row ghosts

module _ (From To : RattleType) (change : From.Denot → To.Denot) where
  -- std's owner lies in memory as its value does.
  rc_places : Alike From To change → Alike (rc_of From) (rc_of To) (λ owner. about owner (change owner.value))
  unfolding part_of
  rc_places alike = record {
    mir_same = λ i. (rc_of (one_value From (alike.mir_same i) (λ _. ftrue) (λ _ _. nothing) gnil)).mir;
    own_same = λ owner i.
        (rc_of (one_value From (alike.mir_same i) (alike.own_same owner.value i) (alike.shr_same owner.value i) gnil)).own_val
        (about owner tt);
    shr_same = λ owner i.
        (rc_of (one_value From (alike.mir_same i) (alike.own_same owner.value i) (alike.shr_same owner.value i) gnil)).shr_at
        (about owner tt);
  }

-- std's vector of a type, in std's allocator.
abbrev vec_of : RattleType → RattleType
vec_of X = vec.the_row X allocator.the_row ghosts

module _ (From To : RattleType) (change : From.Denot → To.Denot) where
  variant : (owner : Option (Rc (Vec From.Denot Global) Global))
      → (option.enum (rc_of (vec_of To))).as_values (over_owners From.Denot To.Denot change owner)
      ≡ eachs (option.enum (rc_of (vec_of From))).parts (option.enum (rc_of (vec_of To))).parts
      (tt, ((over_owner From.Denot To.Denot change, tt), tt)) ((option.enum (rc_of (vec_of From))).as_values owner)
  variant None = refl
  variant (Some owner) = refl

  -- No owner or one lies in memory as its items do.
  owners_places : Alike From To change
      → Alike (option.the_row (rc_of (vec_of From))) (option.the_row (rc_of (vec_of To))) (over_owners From.Denot To.Denot change)
  owners_places alike = enum_places (option.enum (rc_of (vec_of From))) (option.enum (rc_of (vec_of To)))
      (tt, ((over_owner From.Denot To.Denot change, tt), tt))
      (over_owners From.Denot To.Denot change) variant refl (
        tt,
        (
          (
            laid _ _ _ (rc_places (vec_of From) (vec_of To) (vector.mapped change)
                (vector.the_places allocator.the_row ghosts From To change alike)),
            tt,
          ),
          tt,
        ),
      )

  -- A list lies in memory as its items do.
  pub the_places : Alike From To change → Alike (Outer.the_row From) (Outer.the_row To) ((the_former this).map From.Denot To.Denot change)
  the_places alike = view_places field (list this) view (λ X Y k inside. natural X Y k inside.items)
      (λ X inside. keeps X inside.items) From.Denot To.Denot change
      (Outer.the_row From).coded (Outer.the_row To).coded (invariant From.Denot) (invariant To.Denot)
      (λ inside p q. refl) (λ inside p q. refl) (λ inside held. tt) (λ inside held. tt) (over (Inner.the_row From))
      (over (Inner.the_row To))
      (struct_places (Inner.the_type From) (Inner.the_type To) (over_owners From.Denot To.Denot change, tt) _
      (λ values i. (over_is From.Denot To.Denot change values.items i, tt)) refl
      (laid _ _ _ (owners_places alike), tt))

  -- A list is coded as its items are.
  pub the_codes_placed : Recodes From To change
      → Recodes (Outer.the_row From) (Outer.the_row To) ((the_former this).map From.Denot To.Denot change)
  the_codes_placed recodes items = sym (code_map From.coded.code To.coded.code change (λ item. sym (recodes item)) items)
