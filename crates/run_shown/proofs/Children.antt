-- The place of a child scope among those that a side keeps under indices of its components.
use Rattle.std.proofs.Common.{ℕ, ◌+◌, ◌<◌, ◌≤◌, true, false, List, [], ◌∷◌, ◌≡◌, ◌≢◌, add-one, ap, drop, drop-cons, get_or, length, map, refl, sym, ◌∙◌}
use Rattle.std.specs.Prelude.{Option, Some, None, nat_eq, option_map, slice_get}
use Rattle.std.specs.Borrow.{Bor}
use Rattle.std.specs.Option.{option_copied}
use Rattle.std.proofs.Math.ListN.{drop_of_length-le}
use Rattle.std.proofs.lemmas.Option.{slice_get-map}
pub use Rattle.rt_lemmas.proofs.Numbers.{eq_true as number_same, eq_other as number_other}
use Rattle.rt_model.specs.Tree.{Place}
use Rattle.rt_model.specs.Caused.{place_of_child}
use Rattle.rt_model.proofs.Maps.{by_test, pick_false, pick_true}
use Rattle.run_places.specs.declared.place.Step.{Step}
use Rattle.run_places.specs.Places.{place_of, seated}
use Rattle.run_places.proofs.Placed.{by_option, seated_none, seated_one}
use Rattle.run_shown.specs.Ways.{place_found}

-- among places of components

module _ (seats : List Place) (s : ℕ) where
  -- a child without a component is passed over
  none_first : (e : ℕ × ℕ) (es : List (ℕ × ℕ)) → slice_get seats e.0 ≡ None → place_of_child (seated seats (e ∷ es)) s ≡ place_of_child (seated seats es) s
  none_first e es none = ap (λ xs. place_of_child xs s) (seated_none seats e.0 e.1 es none)

  -- and so is another scope
  other_first : (e : ℕ × ℕ) (es : List (ℕ × ℕ)) → nat_eq e.1 s ≡ false → place_of_child (seated seats (e ∷ es)) s ≡ place_of_child (seated seats es) s
  other_first e es other =
      by_option (slice_get seats e.0)
      (λ none. none_first e es none)
      (λ p is. ap (λ xs. place_of_child xs s) (seated_one seats e.0 e.1 es p is) ∙ pick_false (Some p) (place_of_child (seated seats es) s) other)

  -- the scope with a component stands there
  own_first : (e : ℕ × ℕ) (es : List (ℕ × ℕ)) (p : Place) → nat_eq e.1 s ≡ true → slice_get seats e.0 ≡ Some p → place_of_child (seated seats (e ∷ es)) s ≡ Some p
  own_first e es p own is = ap (λ xs. place_of_child xs s) (seated_one seats e.0 e.1 es p is) ∙ pick_true (Some p) (place_of_child (seated seats es) s) own

  -- what alone has no place has none before others
  passed : (e : ℕ × ℕ) (es : List (ℕ × ℕ)) → None ≡ place_of_child (seated seats (e ∷ [])) s → place_of_child (seated seats (e ∷ es)) s ≡ place_of_child (seated seats es) s
  passed e es alone =
      by_test (nat_eq e.1 s)
      (
      λ own.
      by_option (slice_get seats e.0)
      (λ none. none_first e es none)
      (λ p is. let there : None ≡ Some p = alone ∙ own_first e [] p own is in absurd (let wrong : ⊥ = cc there in wrong))
      )
      (λ other. other_first e es other)

  -- what alone has a place has it before others
  found_first : (e : ℕ × ℕ) (es : List (ℕ × ℕ)) (q : Place) → Some q ≡ place_of_child (seated seats (e ∷ [])) s → Some q ≡ place_of_child (seated seats (e ∷ es)) s
  found_first e es q alone =
      by_test (nat_eq e.1 s)
      (
      λ own.
      by_option (slice_get seats e.0)
      (λ none. let there : Some q ≡ None = alone ∙ none_first e [] none in absurd (let wrong : ⊥ = cc there in wrong))
      (λ p is. alone ∙ own_first e [] p own is ∙ sym (own_first e es p own is))
      )
      (λ other. let there : Some q ≡ None = alone ∙ other_first e [] other in absurd (let wrong : ⊥ = cc there in wrong))

  module _ (pairs : List (ℕ × ℕ)) (i : ℕ) (d : ℕ × ℕ) (low : i < length pairs) (whole : Option Place) (so_far : place_of_child (seated seats (drop i pairs)) s ≡ whole) where
    next_is : drop i pairs ≡ get_or pairs i d ∷ drop (i + 1) pairs
    next_is = let e : drop i pairs ≡ get_or pairs i d ∷ drop (i + 1) pairs = rw (add-one, drop-cons pairs i d) refl in e

    -- one more that isn't the scope
    pub child_passes : None ≡ place_of_child (seated seats (get_or pairs i d ∷ [])) s → place_of_child (seated seats (drop (i + 1) pairs)) s ≡ whole
    child_passes alone =
        sym (passed (get_or pairs i d) (drop (i + 1) pairs) alone) ∙ ap (λ es. place_of_child (seated seats es) s) (sym next_is) ∙ so_far

    -- the scope
    pub child_found : (q : Place) → Some q ≡ place_of_child (seated seats (get_or pairs i d ∷ [])) s → Some q ≡ whole
    child_found q alone =
        found_first (get_or pairs i d) (drop (i + 1) pairs) q alone ∙ ap (λ es. place_of_child (seated seats es) s) (sym next_is) ∙ so_far

  -- and all of them
  pub none_left : (pairs : List (ℕ × ℕ)) (i : ℕ) (whole : Option Place) → length pairs ≤ i → place_of_child (seated seats (drop i pairs)) s ≡ whole → None ≡ whole
  none_left pairs i whole end so_far = sym (ap (λ es. place_of_child (seated seats es) s) (drop_of_length-le pairs end)) ∙ so_far

-- under one index

-- the place of the scope is what stands under its index
pub under_own : (seats : List (List Step)) (i child s : ℕ) (found : Option (Bor (List Step))) → child ≡ s → option_copied found ≡ slice_get seats i
    → place_found found ≡ place_of_child (seated (map place_of seats) ((i, child) ∷ [])) s
under_own seats i child s None own is =
    sym (none_first (map place_of seats) s (i, child) [] (slice_get-map place_of seats i ∙ ap (λ (o : Option (List Step)). option_map place_of o) (sym is)))
under_own seats i child s (Some p) own is =
    sym (own_first (map place_of seats) s (i, child) [] (place_of p.now) (number_same child s own) (slice_get-map place_of seats i ∙ ap (λ (o : Option (List Step)). option_map place_of o) (sym is)))

-- another scope has none
pub under_other : (seats : List (List Step)) (i child s : ℕ) → child ≢ s → None ≡ place_of_child (seated (map place_of seats) ((i, child) ∷ [])) s
under_other seats i child s other = sym (other_first (map place_of seats) s (i, child) [] (number_other child s other))
