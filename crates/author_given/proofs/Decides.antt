-- The test of props with children decides.
use Rattle.std.proofs.Common.{rules, Bool, true, ◌&&◌, List, [], ◌∷◌, ◌≡◌, refl, sym, ap, subst, ◌∙◌, map}
use Rattle.std.specs.List.{AllByRecursion}
use Rattle.rt_lemmas.proofs.Bools.{and_both as both}
use Rattle.rt_model.specs.Laws.{Tests}
use Rattle.rt_model.proofs.Conjunctions.{and-left, and-right}
use Rattle.author_given.proofs.Alike.{alike}
use Rattle.author_given.specs.Same.{GivenTests, all_pass, given_step, inside_step, same_given, same_inside}
use Rattle.author_given.specs.declared.props.Given.{Given, the_lemmas}
use Rattle.author_given.specs.declared.props.Given.TheFolds.{ind-Given}
use Rattle.author_given.specs.declared.props.Given.TheOpen.{Given-F, Inside-F}
use Rattle.author_given.specs.declared.props.Given.TheViews.{out-Given, out-Inside, roll-Given, roll-Inside, out-roll-Given, out-roll-Inside, roll-out-Given, roll-out-Inside}
use Rattle.author_given.specs.declared.props.Inside.{Inside}

module _ {C Q : Type 0} (same_component : C → C → Bool) (same_own : Q → Q → Bool) (components : Tests C same_component) (owns : Tests Q same_own) where
  abbrev same : Given C Q → Given C Q → Bool
  same = same_given same_component same_own

  abbrev same_in : Inside C Q → Inside C Q → Bool
  same_in = same_inside same_component same_own

  -- one layer of the test
  same_layer : (layer : Given-F C Q (Given C Q) (Inside C Q)) → same (roll-Given C Q layer) ≡ given_step same_component same_own (record { own = layer.own; inside = map same_in layer.inside })
  same_layer layer = search (rules, the_lemmas)

  same_in_layer : (layer : Inside-F C Q (Given C Q) (Inside C Q)) → same_in (roll-Inside C Q layer) ≡ inside_step same_component same_own (record { component = layer.component; given = same layer.given })
  same_in_layer layer = search (rules, the_lemmas)

  -- the test of one decides
  abbrev Decides : Given C Q → Type 0
  Decides p = ((q : Given C Q) → same p q ≡ true → p ≡ q) × (same p p ≡ true)

  abbrev DecidesIn : Inside C Q → Type 0
  DecidesIn i = ((j : Inside C Q) → same_in i j ≡ true → i ≡ j) × (same_in i i ≡ true)

  -- so those of several do
  all_alike : (xs js : List (Inside C Q)) → AllByRecursion DecidesIn xs → all_pass (map same_in xs) js ≡ true → xs ≡ js
  all_alike [] [] known h = refl
  all_alike [] (j ∷ js) known h = cc
  all_alike (i ∷ xs) [] known h = cc
  all_alike (i ∷ xs) (j ∷ js) known h =
      ap (λ x. x ∷ xs) ((known.0).0 j (and-left (same_in i j) (all_pass (map same_in xs) js) h))
      ∙ ap (λ ys. j ∷ ys) (all_alike xs js known.1 (and-right (same_in i j) (all_pass (map same_in xs) js) h))

  all_themselves : (xs : List (Inside C Q)) → AllByRecursion DecidesIn xs → all_pass (map same_in xs) xs ≡ true
  all_themselves [] known = refl
  all_themselves (i ∷ xs) known = both (same_in i i) (all_pass (map same_in xs) xs) (known.0).1 (all_themselves xs known.1)

  all_known : (known : List ((i : Inside C Q) × DecidesIn i)) → AllByRecursion DecidesIn (map (λ k. k.0) known)
  all_known [] = tt
  all_known (k ∷ ks) = (k.1, all_known ks)

  -- a component that stands in one is its parts
  alike_in : (i j : Inside C Q) → (out-Inside C Q i).component ≡ (out-Inside C Q j).component → (out-Inside C Q i).given ≡ (out-Inside C Q j).given → i ≡ j
  alike_in i j component given =
      sym (roll-out-Inside C Q i) ∙
      ap (λ x. roll-Inside C Q (record (out-Inside C Q i) { component = x })) component ∙
      ap (λ x. roll-Inside C Q (record (out-Inside C Q j) { given = x })) given ∙
      roll-out-Inside C Q j

  given_decides : (layer : Given-F C Q (Given C Q) (Inside C Q)) → AllByRecursion DecidesIn layer.inside → Decides (roll-Given C Q layer)
  given_decides layer known =
      let p : Given C Q = roll-Given C Q layer in
      let out : out-Given C Q p ≡ layer = out-roll-Given C Q layer in (
        λ q h.
            let parts : (same_own layer.own (out-Given C Q q).own && all_pass (map same_in layer.inside) (out-Given C Q q).inside) ≡ true =
            sym (ap (λ f. f q) (same_layer layer)) ∙ h in
            alike p q
            (ap (λ l. l.own) out ∙ owns.0 layer.own (out-Given C Q q).own (and-left (same_own layer.own (out-Given C Q q).own) (all_pass (map same_in layer.inside) (out-Given C Q q).inside) parts))
            (ap (λ l. l.inside) out ∙ all_alike layer.inside (out-Given C Q q).inside known (and-right (same_own layer.own (out-Given C Q q).own) (all_pass (map same_in layer.inside) (out-Given C Q q).inside) parts)),
        ap (λ f. f p) (same_layer layer)
            ∙ ap (λ l. same_own layer.own l.own && all_pass (map same_in layer.inside) l.inside) out
            ∙ both (same_own layer.own layer.own) (all_pass (map same_in layer.inside) layer.inside) (owns.1 layer.own) (all_themselves layer.inside known),
      )

  inside_decides : (layer : Inside-F C Q (Given C Q) (Inside C Q)) → Decides layer.given → DecidesIn (roll-Inside C Q layer)
  inside_decides layer known =
      let i : Inside C Q = roll-Inside C Q layer in
      let out : out-Inside C Q i ≡ layer = out-roll-Inside C Q layer in (
        λ j h.
            let parts : (same_component layer.component (out-Inside C Q j).component && same layer.given (out-Inside C Q j).given) ≡ true =
            sym (ap (λ f. f j) (same_in_layer layer)) ∙ h in
            alike_in i j
            (ap (λ l. l.component) out ∙ components.0 layer.component (out-Inside C Q j).component (and-left (same_component layer.component (out-Inside C Q j).component) (same layer.given (out-Inside C Q j).given) parts))
            (ap (λ l. l.given) out ∙ known.0 (out-Inside C Q j).given (and-right (same_component layer.component (out-Inside C Q j).component) (same layer.given (out-Inside C Q j).given) parts)),
        ap (λ f. f i) (same_in_layer layer)
            ∙ ap (λ l. same_component layer.component l.component && same layer.given l.given) out
            ∙ both (same_component layer.component layer.component) (same layer.given layer.given) (components.1 layer.component) known.1,
      )

  decides : (p : Given C Q) → Decides p
  decides = ind-Given C Q Decides DecidesIn
      (λ layer known is. subst (λ (l : Given-F C Q (Given C Q) (Inside C Q)). Decides (roll-Given C Q l)) is (given_decides _ (all_known known.inside)))
      (λ layer known is. subst (λ (l : Inside-F C Q (Given C Q) (Inside C Q)). DecidesIn (roll-Inside C Q l)) is (inside_decides _ known.given.1))

pub given_tests : {C Q : Type 0} → GivenTests C Q
given_tests same_component same_own components owns =
    (λ p q h. (decides same_component same_own components owns p).0 q h, λ p. (decides same_component same_own components owns p).1)
