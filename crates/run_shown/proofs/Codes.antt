-- Components are told apart by their codes, so an application that does so is there wherever a component is.
use Rattle.std.proofs.Common.{ℕ, Bool, true, false, ◌&&◌, [], ◌≡◌, nat_eq, refl, ap}
use Rattle.std.proofs.lemmas.Bool.{eqb-true}
use Rattle.std.specs.Prelude.{None}
use base.Stored.{Coded, Gv, gnil, gnum, gcons}
use Rattle.rt_lemmas.proofs.Bools.{both_true}
use Rattle.rt_lemmas.proofs.Numbers.{eq_same}
use Rattle.rt_model.specs.OneLog.{types}
use Rattle.rt_model.specs.Tree.{failed}
use Rattle.rt_model.specs.World.{Application, Meaning, Firsts, ready, nothing}
use Rattle.rt_model.specs.Laws.{Tests}
use Rattle.rt_model.proofs.Conjunctions.{and-left, and-right}

-- equal codes
abbrev pub same_code : Gv → Gv → Bool
same_code gnil gnil = true
same_code (gnum m) (gnum n) = nat_eq m n
same_code (gcons a b) (gcons c d) = same_code a c && same_code b d
same_code _ _ = false

code-true : (x y : Gv) → same_code x y ≡ true → x ≡ y
code-true gnil gnil h = refl
code-true (gnum m) (gnum n) h = ap gnum (eqb-true m n h)
code-true (gcons a b) (gcons c d) h =
    let first : a ≡ c = code-true a c (and-left (same_code a c) (same_code b d) h) in
    let rest : b ≡ d = code-true b d (and-right (same_code a c) (same_code b d) h) in
    λ i. gcons (first i) (rest i)
code-true _ _ h = cc

code_same : (x : Gv) → same_code x x ≡ true
code_same gnil = refl
code_same (gnum n) = eq_same n
code_same (gcons a b) = both_true (code_same a) (code_same b)

-- the test by codes decides
pub code_tests : {C : Type 0} → (code : Coded C) → Tests C (λ a b. same_code (code.code a) (code.code b))
code_tests code = (λ a b h. code.inj a b (code-true (code.code a) (code.code b) h), λ a. code_same (code.code a))

module _ {C Q V H T E L : Type 0} where
  -- a call that answers this and does nothing
  abbrev answers : {A : Type 0} → A → Meaning (types C Q V H T E L) A
  answers x =
      record {
        answer = x;
        reads = [];
        aside = [];
        commands = [];
        next = record { tasks = 0; cells = 0; contexts = 0; elements = 0; errors = 0 };
        fault = None;
      }

  -- an application with this root, whose test of components compares their codes
  abbrev pub by_code : Coded C → C → Application (types C Q V H T E L)
  by_code code c =
      record {
        root = c;
        same_component = λ a b. same_code (code.code a) (code.code b);
        same_props = λ a b. false;
        same_value = λ a b. false;
        same_handler = λ a b. false;
        memoize = λ a p q. false;
        body = λ a p w. answers (failed (record { serial = 0; text = [] }));
        poll = λ s w. answers ready;
        effect = λ e w. answers nothing;
        handle = λ h e w. answers e;
      }
