-- What no child of a quiet side writes.
use Rattle.std.proofs.Common.{ℕ, zero, suc, Bool, true, false, List, [], ◌∷◌, ◌≡◌, refl, sym, ap, ◌∙◌, map, arith}
use Rattle.std.specs.Prelude.{◌&&◌, ◌||◌, not, Option, Some, None, is_none, is_some, slice_get, if◌then◌else◌}
use Rattle.rt_lemmas.proofs.Bools.{neither as neither_of_two, and_false, both_of as both_of_two}
use Rattle.rt_lemmas.proofs.Options.{some_same as same_some}
use Rattle.rt_model.specs.Caused as caused
use Rattle.rt_model.specs.Caused.{writes, halts, then_on, is_place}
use Rattle.rt_model.specs.Lists.{at}
use Rattle.rt_model.specs.OneLog.{types}
use Rattle.rt_model.specs.Run.{child_at}
use Rattle.rt_model.specs.Tree.{Place, same_place}
use Rattle.rt_model.specs.World.{Application}
use Rattle.rt_model.proofs.Maps.{by_test, pick_false, pick_true}
use Rattle.run_places.specs.Places.{place_of, seated}
use Rattle.run_places.specs.Sides.{child_in}
use Rattle.run_shown.specs.declared.calm.Sides.{Sides}
use Rattle.run_shown.specs.declared.sides.Unit.{Unit as CodeUnit}
use Rattle.run_shown.specs.Calm.{are_calm, is_calm, is_quiet}
use Rattle.run_shown.specs.Look.{look_is_shown}
use Rattle.run_shown.specs.Touched.{is_touched}
use Rattle.run_shown.specs.Units.{Passes, child_writes, unit_writes}
use Rattle.run_shown.specs.Ways.{place_found, way_of}
use Rattle.run_shown.proofs.ScopesWrite.{unit_hidden, unit_out, unit_passed}
use Rattle.run_shown.proofs.SlotsWrite.{child_elsewhere, child_none}

not_both : (a b : Bool) → a ≡ true → not (a && b) ≡ true → b ≡ false
not_both true true is h = absurd (cc h)
not_both true false is h = refl
not_both false b is h = absurd (cc is)

none_there : (o : Option Place) → is_none o ≡ true → o ≡ None
none_there None h = refl
none_there (Some p) h = absurd (cc h)

module _ {P C Q V H T E L : Type 0} where
  -- a child that is found is one of those that stand there
  one_child : (unit : CodeUnit P C Q V H T E L) (o : Option Place) (n : ℕ) (cs : List (Place × ℕ)) (p : Place) (t : ℕ)
      → is_calm unit n ≡ true → (child_at cs p ≡ Some t → is_calm unit t ≡ true)
      → child_at (elim o as (λ z. List (Place × ℕ)) [ None ↦ cs | Some q ↦ (q, n) ∷ cs ]) p ≡ Some t → is_calm unit t ≡ true
  one_child unit None n cs p t own others there = others there
  one_child unit (Some q) n cs p t own others there =
      by_test (same_place q p)
      (λ h. sym (ap (λ (m : ℕ). is_calm unit m) (same_some n t (sym (pick_true (Some n) (child_at cs p) h) ∙ there))) ∙ own)
      (λ h. others (sym (pick_false (Some n) (child_at cs p) h) ∙ there))

  calm_child : (unit : CodeUnit P C Q V H T E L) (seats : List Place) (es : List (ℕ × ℕ)) (p : Place) (t : ℕ)
      → are_calm unit es ≡ true → child_at (seated seats es) p ≡ Some t → is_calm unit t ≡ true
  calm_child unit seats [] p t calm there = absurd (cc there)
  calm_child unit seats (e ∷ es) p t calm there =
      let parts = both_of_two (is_calm unit e.1) (are_calm unit es) calm in
      one_child unit (slice_get seats e.0) e.1 (seated seats es) p t parts.0 (λ found. calm_child unit seats es p t parts.1 found) there

module _ {P C Q V H T E L : Type 0} (app : Application (types C Q V H T E L)) where
  -- a scope that shows no more and isn't on the way writes nothing
  hidden_writes : (unit : CodeUnit P C Q V H T E L) (n t : ℕ) → look_is_shown unit.after.now t ≡ false → is_some (at (way_of unit.way.now) t) ≡ false
      → unit_writes app unit n t ≡ writes []
  hidden_writes unit zero t hidden off = unit_out app unit zero t refl
  hidden_writes unit (suc n) t hidden off =
      unit_hidden app unit (suc n) t (λ e. absurd (omega (arith, e)))
      (ap (λ (b : Bool). look_is_shown unit.before.now t && b) hidden ∙ and_false (look_is_shown unit.before.now t))
      ∙ ap (λ (b : Bool). then_on (writes []) (if b then halts else writes [])) off

  calm_writes : (unit : CodeUnit P C Q V H T E L) (n t : ℕ) → Passes app unit → is_calm unit t ≡ true → unit_writes app unit n t ≡ writes []
  calm_writes unit n t passes calm =
      by_test (is_touched unit.touched t)
      (
      λ h.
      let parts = neither_of_two (is_some (at (way_of unit.way.now) t)) (look_is_shown unit.after.now t) (not_both (is_touched unit.touched t) (is_some (at (way_of unit.way.now) t) || look_is_shown unit.after.now t) h calm) in
      hidden_writes unit n t parts.1 parts.0
      )
      (λ h. unit_passed app unit n t passes h)

  -- no child of a quiet side writes anything
  pub child_quiet : (b : Sides P C Q V H T E L) (place : Place) → Passes app b.unit.now → is_quiet b.unit.now b.old.now (place_found b.stop) ≡ true
      → child_writes app b place ≡ writes []
  child_quiet b place passes quiet = by (child_in (b.old.now).side.now place) refl
    where
      parts : (is_none (place_found b.stop) ≡ true) × (are_calm b.unit.now ((b.old.now).side.now).children ≡ true)
      parts = both_of_two (is_none (place_found b.stop)) (are_calm b.unit.now ((b.old.now).side.now).children) quiet

      by : (o : Option ℕ) → child_in (b.old.now).side.now place ≡ o → child_writes app b place ≡ writes []
      by None e = child_none app b place e
      by (Some t) e =
          child_elsewhere app b place t e (ap (λ (s : Option Place). is_place place s) (none_there (place_found b.stop) parts.0))
          ∙ calm_writes b.unit.now b.depth t passes
          (calm_child b.unit.now (map place_of ((b.old.now).side.now).seats) ((b.old.now).side.now).children place t parts.1 e)
