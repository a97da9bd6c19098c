-- A scope that a unit left as it was, with all below it, writes nothing.
use Rattle.std.proofs.Common.{ℕ, zero, suc, Bool, true, false, ◌&&◌, List, [], ◌≡◌, refl, sym, ap, ◌∙◌, subst}
use Rattle.std.specs.Prelude.{Option, Some, None, option_map, is_some, if◌then◌else◌}
use Rattle.rt_lemmas.proofs.Bools.{clash_back as not_so, and_second as no_second}
use Rattle.rt_model.specs.Lists.{at}
use Rattle.rt_model.specs.Tree.{Types, Place}
use Rattle.rt_model.specs.World.{Application}
use Rattle.rt_model.specs.Laws.{Tests}
use Rattle.rt_model.specs.Run.{child_at}
use Rattle.rt_model.specs.State.{SideName, MainSide, ChildrenSide, FallbackSide, Side, Scope, State, height_of, is_live, is_shown, parent_of, same_side, shown_from, side_of}
use Rattle.rt_model.specs.View.{nodes_of}
use Rattle.rt_model.specs.Caused.{Both, Written, writes, halts, outputs_written, side_written, sides_written, scope_written, written_within}
use Rattle.rt_model.specs.Unchanged.{AllSingle, SingleOutput}
use Rattle.rt_model.proofs.Maps.{by_test, pick_true}
use Rattle.rt_model.proofs.Quiet.{nothing_on as both_nothing}
use Rattle.run_shown.specs.Look.{Sight, sight_of}
use Rattle.run_shown.specs.Touched.{KnowParents, Stays}
use Rattle.run_shown.proofs.Alike.{IsQuiet, outputs_quiet, side_same}
use Rattle.run_shown.proofs.Agrees.{sight_side}

either_nothing : (c : Bool) (a : Written) → a ≡ writes [] → (if c then a else writes []) ≡ writes []
either_nothing true a h = h
either_nothing false a h = refl

module _ {K : Types} where
  side_is : (x : Scope K) (a : SideName) → side_of x a ≡ sight_side (sight_of x) a
  side_is x MainSide = refl
  side_is x ChildrenSide = refl
  side_is x FallbackSide = refl

  -- scopes of one sight have one side
  side_alike : (x y : Scope K) (a : SideName) → sight_of x ≡ sight_of y → side_of x a ≡ side_of y a
  side_alike x y a h = side_is x a ∙ ap (λ (z : Sight K). sight_side z a) h ∙ sym (side_is y a)

  hidden : (v : State K) (t : ℕ) → is_live v t ≡ false → is_shown v t ≡ false
  hidden v t h = ap (λ (b : Bool). b && shown_from v.scopes (height_of v.scopes t) t) h

  no_sight : {P : Type 0} (x : Scope K) → option_map sight_of (Some x) ≡ None → P
  no_sight x h = cc

  one_sight : (x y : Scope K) → option_map sight_of (Some x) ≡ option_map sight_of (Some y) → sight_of x ≡ sight_of y
  one_sight x y h = let it : sight_of x ≡ sight_of y = cc h in it

module _ {K : Types} (app : Application K) (tests : Tests K.Component app.same_component) (w v : State K) (single : AllSingle v) (touched : ℕ → Bool)
    (stays : Stays w v touched) (know : KnowParents v) where
  -- what a scope writes where what is below it writes nothing
  module _ (s : ℕ) (under : ℕ → Written) (x y : Scope K) (is : at v.scopes s ≡ Some y) (alike : sight_of x ≡ sight_of y)
      (quiet : (a : SideName) (place : Place) (t : ℕ) → child_at (side_of x a).children place ≡ Some t → under t ≡ writes []) where
    sides_at : SideName → Side K → Both K
    sides_at a new = record {
      old = side_of x a;
      new = new;
      old_child = λ t. nodes_of w t;
      new_child = λ t. nodes_of v t;
      under = under;
      stop = None;
      on_way = λ t. false;
    }

    side_nothing : (a : SideName) → side_written app w v [] under s x y a ≡ writes []
    unfolding sides_at
    side_nothing a =
        ap (λ (z : Side K). outputs_written app (sides_at a z) z.output (side_of x a).output) (sym (side_alike x y a alike))
        ∙ outputs_quiet app tests (sides_at a (side_of x a)) (record { no_stop = refl; under = quiet a }) (side_of x a).output (subst (λ (z : Side K). SingleOutput z.output) (sym (side_alike x y a alike)) (single s y is a))

    sides_nothing : (o : Option SideName) → sides_written app w v [] under s x y o o ≡ writes []
    sides_nothing None = refl
    sides_nothing (Some a) = pick_true _ _ (side_same a) ∙ side_nothing a

    shown_nothing : sides_written app w v [] under s x y x.shows y.shows ≡ writes []
    shown_nothing = ap (λ (o : Option SideName). sides_written app w v [] under s x y x.shows o) (sym (ap (λ (z : Sight K). z.shows) alike)) ∙ sides_nothing x.shows

  scope_nothing : (s : ℕ) (under : ℕ → Written) (o p : Option (Scope K)) → at v.scopes s ≡ p → option_map sight_of o ≡ option_map sight_of p
      → ((x : Scope K) → o ≡ Some x → (a : SideName) (place : Place) (t : ℕ) → child_at (side_of x a).children place ≡ Some t → under t ≡ writes [])
      → scope_written app w v [] under s o p ≡ writes []
  scope_nothing s under None None is alike quiet = refl
  scope_nothing s under None (Some y) is alike quiet = refl
  scope_nothing s under (Some x) None is alike quiet = refl
  scope_nothing s under (Some x) (Some y) is alike quiet = shown_nothing s under x y is (one_sight x y alike) (quiet x refl)

  -- one that isn't live writes nothing
  gone_nothing : (n t : ℕ) → is_live v t ≡ false → written_within app [] w v n t ≡ writes []
  gone_nothing zero t h = refl
  gone_nothing (suc n) t h =
      both_nothing
      (ap (λ (b : Bool). if b then scope_written app w v [] (λ u. written_within app [] w v n u) t (at w.scopes t) (at v.scopes t) else writes [])
      (no_second (is_shown w t) (hidden v t h)))
      refl

  -- nor a child, where those that a unit left as they were write nothing
  child_nothing : (n s t : ℕ) → touched s ≡ false → ((u : ℕ) → touched u ≡ false → written_within app [] w v n u ≡ writes [])
      → (is_live v t ≡ true → parent_of v.scopes t ≡ Some s) → written_within app [] w v n t ≡ writes []
  child_nothing n s t h quiet up =
      by_test (is_live v t)
      (
      λ live.
      by_test (touched t)
      (λ q. not_so (touched s) h (stays.above t s q (up live)))
      (λ q. quiet t q)
      )
      (λ gone. gone_nothing n t gone)

  -- a child on a side of what it was knows its parent
  child_known : (s : ℕ) → touched s ≡ false → (x : Scope K) → at w.scopes s ≡ Some x → (a : SideName) (place : Place) (t : ℕ) → child_at (side_of x a).children place ≡ Some t
      → (o : Option (Scope K)) → at v.scopes s ≡ o → is_live v t ≡ true → parent_of v.scopes t ≡ Some s
  child_known s h x was a place t found None is live =
      no_sight x (ap (λ (o : Option (Scope K)). option_map sight_of o) (sym was) ∙ stays.alike s h ∙ ap (λ (o : Option (Scope K)). option_map sight_of o) is)
  child_known s h x was a place t found (Some y) is live =
      let sight : sight_of x ≡ sight_of y =
      one_sight x y (ap (λ (o : Option (Scope K)). option_map sight_of o) (sym was) ∙ stays.alike s h ∙ ap (λ (o : Option (Scope K)). option_map sight_of o) is) in
      know s t y a place is (ap (λ (z : Side K). child_at z.children place) (sym (side_alike x y a sight)) ∙ found) live

  -- nor one that a unit left as it was, with all below it
  pub untouched_nothing : (n s : ℕ) → touched s ≡ false → written_within app [] w v n s ≡ writes []
  untouched_nothing zero s h = refl
  untouched_nothing (suc n) s h =
      both_nothing
      (either_nothing (is_shown w s && is_shown v s) (scope_written app w v [] (λ t. written_within app [] w v n t) s (at w.scopes s) (at v.scopes s))
      (scope_nothing s (λ t. written_within app [] w v n t) (at w.scopes s) (at v.scopes s) refl (stays.alike s h)
      (λ x was a place t found. child_nothing n s t h (λ u q. untouched_nothing n u q) (child_known s h x was a place t found (at v.scopes s) refl))))
      refl
