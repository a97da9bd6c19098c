-- Which statements may stand outside of bodies, form by form.
use Rattle.std.proofs.Common.{arith, rules, ℕ, zero, suc, true, false, List, [], ◌∷◌, ◌++◌, ◌≡◌, refl, ap, ◌∙◌, ◌<◌, length, get_or, map}
use Rattle.rt_lemmas.proofs.Bools.{and_both, and_left as and_first, and_right as and_other}
use Rattle.lang_syntax.specs.declared.derived.Derived.{Derived}
use Rattle.lang_syntax.specs.declared.expression.Expression.{Expression}
use Rattle.lang_syntax.specs.declared.statement.HookTime.{HookTime}
use Rattle.lang_syntax.specs.declared.statement.SpawnKind.{SpawnKind}
use Rattle.lang_syntax.specs.declared.statement.Simple.{Simple}
use Rattle.lang_syntax.specs.declared.statement.Statement.{Statement, the_lemmas}
use Rattle.lang_syntax.specs.declared.statement.Statement.TheVariants as forms
use Rattle.lang_syntax.specs.Outside.{each_may, stands_outside, stand_outside}

pub o-Does : (s : Simple) → stands_outside (forms.Does s) ≡ true
unfolding stands_outside
o-Does s = search (rules, the_lemmas)

pub o-SpawnTask : (task : ℕ) (arguments : List Expression) (kind : SpawnKind) → stands_outside (forms.SpawnTask task arguments kind) ≡ true
unfolding stands_outside
o-SpawnTask task arguments kind = search (rules, the_lemmas)

pub o-When : (test : Expression) (inner : List Statement) → stands_outside (forms.When test inner) ≡ stand_outside inner
unfolding stands_outside stand_outside
o-When test inner = search (rules, the_lemmas)

pub o-ThrowText : (e : Expression) → stands_outside (forms.ThrowText e) ≡ true
unfolding stands_outside
o-ThrowText e = search (rules, the_lemmas)

pub o-UseCell : (e : Expression) → stands_outside (forms.UseCell e) ≡ false
unfolding stands_outside
o-UseCell e = search (rules, the_lemmas)

pub o-UseHook : (e : Expression) → stands_outside (forms.UseHook e) ≡ false
unfolding stands_outside
o-UseHook e = search (rules, the_lemmas)

pub o-UseDerived : (formula : Derived) → stands_outside (forms.UseDerived formula) ≡ false
unfolding stands_outside
o-UseDerived formula = search (rules, the_lemmas)

pub o-CallAt : (time : HookTime) (action : ℕ) (arguments : List Expression) → stands_outside (forms.CallAt time action arguments) ≡ false
unfolding stands_outside
o-CallAt time action arguments = search (rules, the_lemmas)

pub o-FailWith : (e : Expression) → stands_outside (forms.FailWith e) ≡ false
unfolding stands_outside
o-FailWith e = search (rules, the_lemmas)

pub o-SuspendOn : (variable : ℕ) → stands_outside (forms.SuspendOn variable) ≡ false
unfolding stands_outside
o-SuspendOn variable = search (rules, the_lemmas)

-- no statement
pub outside-none : stand_outside [] ≡ true
unfolding stand_outside
outside-none = refl

-- one more statement behind those that may
pub outside-more : (ss : List Statement) (s : Statement) → stand_outside ss ≡ true → stands_outside s ≡ true → stand_outside (ss ++ s ∷ []) ≡ true
unfolding stand_outside
outside-more [] s h k = and_both (stands_outside s) true k refl
outside-more (x ∷ xs) s h k =
    let rest : stand_outside (xs ++ s ∷ []) ≡ true = outside-more xs s (and_other (stands_outside x) (stand_outside xs) h) k in
    and_both (stands_outside x) (stand_outside (xs ++ s ∷ [])) (and_first (stands_outside x) (stand_outside xs) h) rest

-- each of those that may
pub outside-at : (ss : List Statement) (i : ℕ) (s : Statement) → i < length ss → s ≡ get_or ss i s → stand_outside ss ≡ true → stands_outside s ≡ true
unfolding stand_outside
outside-at [] i s low is h = absurd (omega (arith, low))
outside-at (x ∷ xs) zero s low is h = ap stands_outside is ∙ and_first (stands_outside x) (stand_outside xs) h
outside-at (x ∷ xs) (suc i) s low is h = outside-at xs i s (omega (arith, low)) is (and_other (stands_outside x) (stand_outside xs) h)
