-- Applications of pure answers are lawful.
use Rattle.std.proofs.Common.{true, ◌≡◌, refl, sym, ap, ◌∙◌, inl, inr}
use Rattle.std.specs.Prelude.{◌⊎◌}
use Rattle.std.proofs.lemmas.Bool.{eqb-true}
use Rattle.rt_lemmas.proofs.Bools.{and_both as and-both}
use Rattle.rt_model.specs.Laws.{Tests}
use Rattle.rt_model.specs.Program.{Programs, body_means}
use Rattle.rt_model.specs.Tree.{Types}
use Rattle.rt_model.proofs.Lawful.{mean_alike, programs_are_lawful}
use Rattle.rt_model.proofs.Conjunctions.{and-left, and-right}
use Rattle.rt_model.proofs.Maps.{eq_same}
use Rattle.rt_model.proofs.SameTrees.{numbers}
use Rattle.author_programs.specs.Means.{PagesAreLawful, MemoizedAreLawful, CodedTests, EitherTests, PairTests, PlainTests, same_either}
use Rattle.author_programs.specs.Pages.{programs_of_pages}

pub pages_are_lawful : (K : Types) → PagesAreLawful K
pages_are_lawful K k a tests =
    programs_are_lawful K (programs_of_pages k a)
    (λ c p q h w. mean_alike (body_means ((programs_of_pages k a).body c p) w) (body_means ((programs_of_pages k a).body c q) w)
    (ap (λ (given : K.Props). body_means ((programs_of_pages k a).body c given) w) (tests.props.0 p q h)))
    tests.components
    tests.props
    tests.values
    tests.handlers

pub memoized_are_lawful : (K : Types) → MemoizedAreLawful K
memoized_are_lawful K a by_props components props values handlers =
    programs_are_lawful K a
    (λ c p q h w. mean_alike (body_means (a.body c p) w) (body_means (a.body c q) w)
    (ap (λ (given : K.Props). body_means (a.body c given) w) (props.0 p q (sym (by_props c p q) ∙ h))))
    components
    props
    values
    handlers

pub pair_tests : {A B : Type 0} → PairTests A B
pair_tests s t f g = (
  λ a b h i. (f.0 a.0 b.0 (and-left (s a.0 b.0) (t a.1 b.1) h) i, g.0 a.1 b.1 (and-right (s a.0 b.0) (t a.1 b.1) h) i),
  λ a. and-both (s a.0 a.0) (t a.1 a.1) (f.1 a.0) (g.1 a.1),
)

pub either_tests : {A B : Type 0} → EitherTests A B
either_tests {A} {B} s t f g = (alike, itself)
  where
    alike : (a b : A ⊎ B) → same_either s t a b ≡ true → a ≡ b
    alike (inl a) (inl b) h = ap inl (f.0 a b h)
    alike (inl a) (inr b) h = cc
    alike (inr a) (inl b) h = cc
    alike (inr a) (inr b) h = ap inr (g.0 a b h)

    itself : (a : A ⊎ B) → same_either s t a a ≡ true
    itself (inl a) = f.1 a
    itself (inr a) = g.1 a

pub coded_tests : {A B : Type 0} → CodedTests A B
coded_tests {A} {B} code value same back tests =
    (λ a b h. sym (back a) ∙ ap value (tests.0 (code a) (code b) h) ∙ back b, λ a. tests.1 (code a))

pub plain_tests : PlainTests
plain_tests =
    record {
      numbers = (λ a b h. eqb-true a b h, eq_same);
      texts = numbers;
      nothing = (λ a b h. refl, λ a. refl);
    }
