-- A component that is fed by value keeps its output where it is equal.
use Rattle.std.proofs.Common.{Bool, true, ◌≡◌, ap, ◌∙◌, subst}
use Rattle.std.specs.Prelude.{Option, IsTrue, ◌↔◌}
use Rattle.rt_lemmas.proofs.Bools.{and_left, and_right, agree}
use Rattle.tree_nodes.specs.declared.vnode.VComponent.{VComponent as CodeComponent}
use Rattle.tree_mirror.specs.Sealed.{component_of}
use Rattle.rt_model.specs.OneLog.{types}
use Rattle.rt_model.specs.Lists.{same_option}
use Rattle.rt_model.specs.Tree.{Types, VComponent, Own, Root, Fragment, ErrorBoundary, SuspenseBoundary, Element}
use Rattle.rt_model.specs.World.{Application}
use Rattle.rt_model.specs.Laws.{IsLawful, Tests}
use Rattle.rt_model.specs.Values.{same_call, same_element, keeps_output}
use Rattle.rt_model.proofs.SameTrees.{both, option_tests, element_tests}
use Rattle.tree_mirror.specs.One.{is_by_value}
use Rattle.tree_mirror.proofs.Components.{components_are_one}

module _ {K : Types} (app : Application K) (lawful : IsLawful K app) where
  elements : Tests (Element K) (λ a b. same_element app a b)
  elements = element_tests app lawful.tests_components lawful.tests_props lawful.tests_handlers

  call_true : (a b : K.Component × K.Props) → same_call app a b ≡ true → a ≡ b
  call_true a b h =
      let component : a.0 ≡ b.0 = lawful.tests_components.0 a.0 b.0 (and_left _ (app.same_props a.1 b.1) h) in
      let given : a.1 ≡ b.1 = lawful.tests_props.0 a.1 b.1 (and_right (app.same_component a.0 b.0) _ h) in
      λ t. (component t, given t)

  call_same : (a : K.Component × K.Props) → same_call app a a ≡ true
  call_same a = both (lawful.tests_components.1 a.0) (lawful.tests_props.1 a.1)

  calls : Tests (Option (K.Component × K.Props)) (λ o p. same_option (λ x y. same_call app x y) o p)
  calls = option_tests (λ x y. same_call app x y) (call_true, call_same)

  kept_true : (c d : VComponent K) → is_by_value c ≡ true → keeps_output app c d ≡ true → c ≡ d
  kept_true (Root a p) (Root b q) by h = ap (λ (x : K.Component × K.Props). Root x.0 x.1) (call_true (a, p) (b, q) h)
  kept_true (Fragment t) (Fragment u) by h = ap Fragment (elements.0 t u h)
  kept_true (SuspenseBoundary t f) (SuspenseBoundary u g) by h =
      let one : t ≡ u = elements.0 t u (and_left _ (same_option (λ x y. same_call app x y) f g) h) in
      let other : f ≡ g = calls.0 f g (and_right (same_element app t u) _ h) in
      ap (λ e. SuspenseBoundary e f) one ∙ ap (λ o. SuspenseBoundary u o) other
  kept_true (Own a p) d by h = cc
  kept_true (ErrorBoundary t f) d by h = cc
  kept_true _ _ by h = cc

  kept_same : (c : VComponent K) → is_by_value c ≡ true → keeps_output app c c ≡ true
  kept_same (Root a p) by = call_same (a, p)
  kept_same (Fragment t) by = elements.1 t
  kept_same (SuspenseBoundary t f) by = both (elements.1 t) (calls.1 f)
  kept_same (Own a p) by = cc
  kept_same (ErrorBoundary t f) by = cc

module _ {P C Q V H T E L : Type 0} (app : Application (types C Q V H T E L)) (lawful : IsLawful (types C Q V H T E L) app) where
  -- a test of equal components is the test of the definitions
  pub kept_by_value : (b : Bool) (c d : CodeComponent P C Q V H T E L) → is_by_value (component_of c) ≡ true → (IsTrue b ↔ (c ≡ d)) → b ≡ keeps_output app (component_of c) (component_of d)
  kept_by_value b c d by decides =
      agree b (keeps_output app (component_of c) (component_of d))
      (λ h. subst (λ x. keeps_output app (component_of c) (component_of x) ≡ true) (decides.0 h) (kept_same app lawful (component_of c) by))
      (λ h. decides.1 (components_are_one c d (kept_true app lawful (component_of c) (component_of d) by h)))
