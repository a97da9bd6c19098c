-- When a component that is fed keeps its output, case by case.
use Rattle.std.proofs.Common.{Bool, true, false, ◌&&◌, ◌≡◌, refl, sym, ap, ◌∙◌}
use Rattle.std.specs.Prelude.{Option, Some, None}
use Rattle.rt_model.specs.State.{Scope}
use Rattle.rt_model.specs.Tree.{Types, VComponent, Own, Root, Fragment, ErrorBoundary, SuspenseBoundary, Element}
use Rattle.rt_model.specs.World.{Application}
use Rattle.rt_model.specs.Laws.{IsLawful}
use Rattle.rt_model.specs.Values.{keeps_output}

module _ {K : Types} (app : Application K) (lawful : IsLawful K app) where
  -- the same component of the application, with other props
  pub own_same : (c d : K.Component) (p q : K.Props) (x : VComponent K) → x ≡ Own d q → c ≡ d → app.memoize c p q ≡ keeps_output app (Own c p) x
  own_same c d p q x is same =
      let test : app.same_component c d ≡ true = ap (λ z. app.same_component c z) (sym same) ∙ lawful.tests_components.1 c in
      sym (ap (λ z. keeps_output app (Own c p) z) is ∙ ap (λ (b : Bool). b && app.memoize c p q) test)

  by_test : (b : Bool) (m : Bool) → (b ≡ true → false ≡ true) → false ≡ (b && m)
  by_test true m h =
      let e : false ≡ true = h refl in
      cc
  by_test false m h = refl

  -- another one
  pub own_other : (c d : K.Component) (p q : K.Props) (x : VComponent K) → x ≡ Own d q → (c ≡ d → false ≡ true) → false ≡ keeps_output app (Own c p) x
  own_other c d p q x is other =
      by_test (app.same_component c d) (app.memoize c p q) (λ h. other (lawful.tests_components.0 c d h))
      ∙ sym (ap (λ z. keeps_output app (Own c p) z) is)

module _ {K : Types} (app : Application K) where
  -- whether a scope that was found keeps its output
  abbrev pub keeps_by : VComponent K → Option (Scope K) → Bool
  keeps_by c o = elim o as (λ z. Bool) [ None ↦ false | Some x ↦ keeps_output app x.component c ]

  never : (e : Element K) (h : Option (K.Component × K.Props)) (d : VComponent K) → false ≡ keeps_output app (ErrorBoundary e h) d
  never e h (Own a p) = refl
  never e h (Root a p) = refl
  never e h (Fragment t) = refl
  never e h (ErrorBoundary t f) = refl
  never e h (SuspenseBoundary t f) = refl

  -- an error boundary never does
  pub error_boundary_never : (e : Element K) (h : Option (K.Component × K.Props)) (c d : VComponent K) → c ≡ ErrorBoundary e h → false ≡ keeps_output app c d
  error_boundary_never e h c d is = never e h d ∙ sym (ap (λ x. keeps_output app x d) is)
