-- The way up, step by step; a front of a place.
use Rattle.std.proofs.Common.{ℕ, zero, suc, ◌-◌, ◌<◌, ◌≤◌, Bool, true, false, ◌&&◌, List, [], ◌∷◌, ◌++◌, ◌≡◌, ◌≢◌, refl, sym, ap, ◌∙◌, length, take, arith}
use Rattle.std.specs.Prelude.{Option, Some, None, if◌then◌else◌}
use Rattle.std.specs.List.{slice_range}
use Rattle.std.proofs.lemmas.Slice.{between_from_start}
use Rattle.std.proofs.lemmas.List.{append_assoc}
use Rattle.rt_model.specs.Tree.{Place, same_place, same_step}
use Rattle.rt_model.specs.State as state
use Rattle.rt_model.specs.Caused as caused
use Rattle.rt_model.specs.Caused.{Way}
use Rattle.run_places.specs.declared.place.Step.{Step}
use Rattle.run_places.specs.Places.{place_of, step_of}
use Rattle.run_shown.specs.declared.look.Look.{Look}
use Rattle.run_shown.specs.declared.way.Stop.{Stop}
use Rattle.run_shown.specs.Look.{look_parent}
use Rattle.run_shown.specs.Ways.{above_within, stop_of, stop_over, way_above, way_of}
use Rattle.run_shown.proofs.OneByOne.{nil-right}

pub way-append : (a b : List Stop) → way_of (a ++ b) ≡ way_of a ++ way_of b
way-append [] b = refl
way-append (x ∷ a) b = ap (λ xs. stop_of x ∷ xs) (way-append a b)

pub on_side : (side : state.SideName) (o : Option state.SideName) (place : Option Place) → caused.stop_on side (Some (o, place)) ≡ (if state.is_side o side then place else None)
on_side side None place = refl
on_side side (Some other) place = refl

module _ {P C Q V H T E L : Type 0} where
  pub above_zero : (look : Look P C Q V H T E L) (n s : ℕ) → n ≡ 0 → way_above look n s ≡ []
  unfolding way_above
  above_zero look n s none = ap (λ m. above_within look m s) none

  pub above_none : (look : Look P C Q V H T E L) (n s : ℕ) → look_parent look s ≡ None → way_above look n s ≡ []
  unfolding way_above
  above_none look zero s top = refl
  above_none look (suc n) s top = ap (λ (o : Option ℕ). elim o as (λ x. Way) [ None ↦ [] | Some p ↦ stop_over look p s ∷ above_within look n p ]) top

  pub above_some : (look : Look P C Q V H T E L) (n s p : ℕ) → n ≢ 0 → look_parent look s ≡ Some p → way_above look n s ≡ stop_over look p s ∷ way_above look (n - 1) p
  unfolding way_above
  above_some look zero s p some there = absurd (some refl)
  above_some look (suc n) s p some there =
      ap (λ (o : Option ℕ). elim o as (λ x. Way) [ None ↦ [] | Some q ↦ stop_over look q s ∷ above_within look n q ]) there ∙
      ap (λ m. stop_over look p s ∷ above_within look m p) (let e : n ≡ suc n - 1 = omega arith in e)

module _ {P C Q V H T E L : Type 0} where
  -- nothing is above
  pub way_ends : (look : Look P C Q V H T E L) (n s : ℕ) (way : List Stop) → way_above look n s ≡ [] → way_of way ≡ way_of way ++ way_above look n s
  way_ends look n s way none = sym (ap (λ xs. way_of way ++ xs) none ∙ nil-right (way_of way))

  -- the parent is above, and what is above it
  pub way_goes_on : (look : Look P C Q V H T E L) (n s p : ℕ) (stop : Stop) (before way after : List Stop)
      → n ≢ 0 → look_parent look s ≡ Some p → stop_of stop ≡ stop_over look p s → way ≡ before ++ stop ∷ []
      → way_of after ≡ way_of way ++ way_above look (n - 1) p → way_of after ≡ way_of before ++ way_above look n s
  way_goes_on look n s p stop before way after some there this more rest =
      let above : Way = way_above look (n - 1) p in
      rest ∙ ap (λ xs. way_of xs ++ above) more ∙ ap (λ xs. xs ++ above) (way-append before (stop ∷ [])) ∙
      append_assoc (way_of before) (stop_of stop ∷ []) above ∙
      ap (λ x. way_of before ++ x ∷ above) this ∙
      sym (ap (λ xs. way_of before ++ xs) (above_some look n s p some there))

-- a front is as long as the place at most, and is the place as far as it goes

front-take : (p q : Place) → length p ≤ length q → caused.is_front p q ≡ same_place p (take (length p) q)
front-take [] q low = refl
front-take (a ∷ p) [] low = absurd (let e : ⊥ = omega arith in e)
front-take (a ∷ p) (b ∷ q) low = ap (λ c. same_step a b && c) (front-take p q (omega arith))

front-long : (p q : Place) → length q < length p → caused.is_front p q ≡ false
front-long [] q long = absurd (let e : ⊥ = omega arith in e)
front-long (a ∷ p) [] long = refl
front-long (a ∷ p) (b ∷ q) long = ap (λ c. same_step a b && c) (front-long p q (omega arith)) ∙ and-false (same_step a b)
  where
    and-false : (c : Bool) → (c && false) ≡ false
    and-false true = refl
    and-false false = refl

length-place : (place : List Step) → length (place_of place) ≡ length place
length-place [] = refl
length-place (x ∷ place) = ap suc (length-place place)

take-place : (n : ℕ) (place : List Step) → place_of (take n place) ≡ take n (place_of place)
take-place zero place = refl
take-place (suc n) [] = refl
take-place (suc n) (x ∷ place) = ap (λ xs. step_of x ∷ xs) (take-place n place)

pub front_long : (p q : List Step) → length q < length p → caused.is_front (place_of p) (place_of q) ≡ false
front_long p q long = front-long (place_of p) (place_of q) (rw (length-place p, length-place q) long)

pub front_within : (p q : List Step) → length p ≤ length q → caused.is_front (place_of p) (place_of q) ≡ same_place (place_of p) (place_of (take (length p) q))
front_within p q low =
    front-take (place_of p) (place_of q) (rw (length-place p, length-place q) low) ∙
    ap (λ n. same_place (place_of p) (take n (place_of q))) (length-place p) ∙ ap (λ r. same_place (place_of p) r) (sym (take-place (length p) q))

-- what the front with as many steps says
pub front_by : (p q part : List Step) (count : ℕ) (answer : Bool) → answer ≡ same_place (place_of p) (place_of part) → part ≡ slice_range q 0 count → count ≡ length p
    → length p ≤ length q → answer ≡ caused.is_front (place_of p) (place_of q)
front_by p q part count answer said is as_long low =
    said
    ∙ ap (λ r. same_place (place_of p) (place_of r)) (is ∙ between_from_start q count ∙ ap (λ n. take n q) as_long)
    ∙ sym (front_within p q low)

pub ruleset ways = (way-append, nil-right, on_side, above_zero, above_none, above_some, front_long, front_within)
