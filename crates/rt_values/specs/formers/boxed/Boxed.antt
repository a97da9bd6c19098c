-- How `Boxed` holds its value, so that a type may stand in a box of its own.
use mathlib.Core.Path.{refl}
use mathlib.Core.Former.{Former, this, const, pair, via}
use base.Stored.{gnil}
use base.Fml.{ftrue}
use denote.RattleType.{RattleType}
use denote.Memory.{part_of}
use denote.RawPtr.{Ptr}
use denote.Sharing.{nothing}
use denote.HoleLaws.{Alike}
use denote.HolePlaces.{Recodes, struct_places, laid, one_value}
use denote.Hole.Fix.{over}
use denote.Param.Weighed.{Weighed}
use denote.Model.Placed.{view_places}
use Rattle.std.specs.declared.boxed.Box.{Box}
use Rattle.std.specs.contracts.boxed.Box as box
use Rattle.std.specs.declared.alloc.Global.{Global}
use Rattle.std.specs.contracts.alloc.Global as allocator
use Rattle.std.specs.contracts.impls.GlobalAllocator.TheImpl.{ghosts}
use Rattle.rt_values.specs.declared.boxed.Boxed.TheInside.{Inside}
use Rattle.rt_values.specs.declared.boxed.Boxed.TheView.{view, invariant}
use Rattle.rt_values.specs.contracts.boxed.Boxed as Outer
use Rattle.rt_values.specs.contracts.boxed.Boxed.TheInside as Inner

-- A box is seen as what is in it.
abbrev pub the_former : Former {0} → Former {0}
the_former inner = inner

-- A box of what has a weight has that weight.
abbrev pub the_weighed : {inner : Former {0}} → Weighed inner → Weighed (the_former inner)
the_weighed weighed = weighed

-- The one field: where the value lies, its allocator, and the value.
abbrev field : Former {0}
field = via (pair (const (Ptr × Global)) this) Inside
    (λ Item inside. ((inside.inner.ptr, inside.inner.alloc), inside.inner.value))
    (λ Item parts. record { inner = record { ptr = parts.0.0; alloc = parts.0.1; value = parts.1 } }) (λ Item inside. refl) (λ Item parts.
    refl)

-- The same box about another value.
abbrev about : {Item Other : Type 0} → Box Item Global → Other → Box Other Global
about boxed other = record { ptr = boxed.ptr; alloc = boxed.alloc; value = other }

-- std's box of a type, in std's allocator.
abbrev box_of : RattleType → RattleType
box_of Item = box.the_row Item allocator.the_row ghosts

module _ (From To : RattleType) (change : From.Denot → To.Denot) where
  -- std's box lies in memory as its value does.
  box_places : Alike From To change → Alike (box_of From) (box_of To) (λ boxed. about boxed (change boxed.value))
  unfolding part_of
  box_places alike = record {
    mir_same = λ i. (box_of (one_value From (alike.mir_same i) (λ _. ftrue) (λ _ _. nothing) gnil)).mir;
    own_same = λ boxed i.
        (box_of (one_value From (alike.mir_same i) (alike.own_same boxed.value i) (alike.shr_same boxed.value i) gnil)).own_val
        (about boxed tt);
    shr_same = λ boxed i.
        (box_of (one_value From (alike.mir_same i) (alike.own_same boxed.value i) (alike.shr_same boxed.value i) gnil)).shr_at
        (about boxed tt);
  }

  -- So does `Boxed`.
  pub the_places : Alike From To change → Alike (Outer.the_row From) (Outer.the_row To) ((the_former this).map From.Denot To.Denot change)
  the_places alike = view_places field this view (λ X Y k inside. refl) (λ X inside. refl) From.Denot To.Denot change
      (Outer.the_row From).coded (Outer.the_row To).coded (invariant From.Denot) (invariant To.Denot)
      (λ inside p q. refl) (λ inside p q. refl) (λ inside held. tt) (λ inside held. tt) (over (Inner.the_row From))
      (over (Inner.the_row To))
      (struct_places (Inner.the_type From) (Inner.the_type To) ((λ boxed. about boxed (change boxed.value)), tt) _ (λ values. refl) refl
      (laid _ _ _ (box_places alike), tt))

  -- A box is coded as its value is.
  pub the_codes_placed : Recodes From To change
      → Recodes (Outer.the_row From) (Outer.the_row To) ((the_former this).map From.Denot To.Denot change)
  the_codes_placed recodes value = recodes value
