-- What is computed only looks.
use Rattle.std.proofs.Common.{ℕ, true, false, ◌≡◌, ap, sym, ◌∙◌}
use Rattle.rt_model.proofs.Conjunctions.{and-left}
use Rattle.rt_language.specs.Formulas.{looks, computed_of}
use Rattle.lang_syntax.specs.Looking.{derived_looks}
use Rattle.lang_syntax.specs.Mirror.{expression_of, derived_of}
use Rattle.lang_syntax.specs.declared.derived.Derived.{Derived}
use Rattle.lang_syntax.specs.declared.derived.Derived.TheVariants as deriveds
use Rattle.lang_syntax.specs.declared.expression.Expression.{Expression}

-- of a memo its value is computed
pub value_computed : (d : Derived) (e : Expression) → d ≡ deriveds.Value e → expression_of e ≡ computed_of (derived_of d)
value_computed d e is = sym (ap (λ (x : Derived). computed_of (derived_of x)) is)

-- which only looks
pub value_looks : (d : Derived) (e : Expression) → d ≡ deriveds.Value e → derived_looks d ≡ true → looks true (expression_of e) ≡ true
value_looks d e is h = sym (ap derived_looks is) ∙ h

-- of a resource its key
pub key_computed : (d : Derived) (k : Expression) (n : ℕ) (e : Expression) → d ≡ deriveds.Load k n e → expression_of k ≡ computed_of (derived_of d)
key_computed d k n e is = sym (ap (λ (x : Derived). computed_of (derived_of x)) is)

pub key_looks : (d : Derived) (k : Expression) (n : ℕ) (e : Expression) → d ≡ deriveds.Load k n e → derived_looks d ≡ true → looks true (expression_of k) ≡ true
key_looks d k n e is h = and-left (looks true (expression_of k)) (looks false (expression_of e)) (sym (ap derived_looks is) ∙ h)

pub ruleset computing = (value_computed, value_looks, key_computed, key_looks)
