-- What stands at the start of a replay, wherever its numbers begin and whatever its root provides.
use Rattle.std.proofs.Common.{ℕ, ◌<◌, false, List, [], ◌∷◌, ◌≡◌, refl, sym, ap, ◌∙◌, subst, arith, nat_eq, inr}
use Rattle.std.specs.Prelude.{Some}
use Rattle.std.proofs.lemmas.Bool.{eqb-true}
use Rattle.rt_model.specs.Lists.{at}
use Rattle.rt_model.specs.Tree.{Types}
use Rattle.rt_model.specs.World.{Firsts, Application}
use Rattle.rt_model.specs.Laws.{IsLawful}
use Rattle.rt_model.specs.Lasting.{IsRooted}
use Rattle.rt_model.specs.State.{SideName, MainSide, ChildrenSide, FallbackSide, Side, Scope, side_of, empty_side}
use Rattle.rt_model.specs.Replay.{Input, ones}
use Rattle.rt_model.proofs.Among.{Among}
use Rattle.rt_model.proofs.Maps.{by_test, none_some, at_here, at_there}
use Rattle.rt_model.proofs.Parts.{PartFits}
use Rattle.rt_model.proofs.Stands.{Stands}
use Rattle.rt_model.proofs.Turns.{inj_scope}
use Rattle.rt_model.proofs.NumbersStand.{Sound}
use Rattle.law_moves.specs.Reached.{first_scope, start_at}

-- elements have no number below 1
pub ones_above : 0 < ones.elements
ones_above = let above : 0 < 1 = omega arith in above

module _ {K : Types} (app : Application K) (props : K.Props) (contexts : List (ℕ × K.Value)) where
  -- no other scope is there
  pub only_first : (s : ℕ) (x : Scope K) → at ((0, first_scope app props contexts) ∷ []) s ≡ Some x → (s ≡ 0) × (first_scope app props contexts ≡ x)
  only_first s x e =
      by_test (nat_eq 0 s)
      (λ q. (sym (eqb-true 0 s q), inj_scope (first_scope app props contexts) x (sym (at_here 0 (first_scope app props contexts) [] s q) ∙ e)))
      (λ q. none_some (at_there 0 (first_scope app props contexts) [] s q) e)

  pub first_sides : (a : SideName) → side_of (first_scope app props contexts) a ≡ empty_side
  first_sides MainSide = refl
  first_sides ChildrenSide = refl
  first_sides FallbackSide = refl

  module _ (firsts : Firsts) (inputs : List (Input K)) where
    begun_rooted : IsRooted (start_at app props firsts contexts inputs).state
    begun_rooted =
        record {
          drawn = λ s l. let other : nat_eq 0 s ≡ false = grind (arith, l) in at_there 0 (first_scope app props contexts) [] s other;
          parents = λ s p x e q. no_parent (only_first s x e).1 q;
          heights = λ s p x y e q f. no_parent (only_first s x e).1 q;
        }
      where
        no_parent : {P : Type 0} {x : Scope K} {p : ℕ} → first_scope app props contexts ≡ x → x.parent ≡ Some p → P
        no_parent e q = none_some (ap (λ (y : Scope K). y.parent) (sym e)) q

    begun_side : (s : ℕ) (x : Scope K) (a : SideName) → at (start_at app props firsts contexts inputs).state.scopes s ≡ Some x → side_of x a ≡ empty_side
    begun_side s x a e = ap (λ (y : Scope K). side_of y a) (sym (only_first s x e).1) ∙ first_sides a

    begun_stands : 0 < firsts.elements → Stands (start_at app props firsts contexts inputs).state []
    begun_stands above =
        record {
          first = above;
          range = λ s n x a p k e g. absurd (subst (λ (z : Side K). Among z.numbers (p, k, n)) (begun_side s x a e) g);
          once = λ s t n x y a b p q k l e f g h. absurd (subst (λ (z : Side K). Among z.numbers (p, k, n)) (begun_side s x a e) g);
          whole = λ s x a tree p k e o g. none_some (ap (λ (z : Side K). z.output) (begun_side s x a e)) o;
          fit = λ s x a tree e o. none_some (ap (λ (z : Side K). z.output) (begun_side s x a e)) o;
          parts = λ s x e. subst (λ (y : Scope K). PartFits y.component) (only_first s x e).1 (record { level = 0; fits = refl });
          items = tt;
          drawn = λ s t x a p e g. absurd (subst (λ (z : Side K). Among z.children (p, t)) (begun_side s x a e) g);
          child = λ s t x y a p e g f. absurd (subst (λ (z : Side K). Among z.children (p, t)) (begun_side s x a e) g);
          slot = λ s t x a p q e g h. absurd (subst (λ (z : Side K). Among z.children (p, t)) (begun_side s x a e) g);
        }

    pub begun_sound : (lawful : IsLawful K app) → 0 < firsts.elements → Sound app lawful (start_at app props firsts contexts inputs)
    begun_sound lawful above = record { rooted = begun_rooted; stands = λ q. begun_stands above; awaits = λ q. inr refl }
