-- The application of every source is lawful: its tests decide, and equal props mean the same.
use Rattle.std.proofs.Common.{true, List, ◌≡◌, refl, ap, nat_eq}
use Rattle.std.specs.Prelude.{ℤ, pos, negsuc}
use Rattle.std.proofs.lemmas.Bool.{eqb-true}
use Rattle.rt_lemmas.proofs.Numbers.{eq_is as place-true}
use Rattle.rt_model.specs.Laws.{Tests}
use Rattle.rt_model.specs.Program.{body_means}
use Rattle.rt_model.proofs.Maps.{eq_same}
use Rattle.rt_model.proofs.Conjunctions.{and-left, and-right}
use Rattle.rt_model.proofs.SameTrees.{both, numbers, list_tests}
use Rattle.rt_model.proofs.Lawful.{mean_alike, programs_are_lawful}
use Rattle.rt_language.specs.Values.{Value, NoValue, NumberValue, TextValue, CellValue, TaskValue, same_number, same_value, same_values}
use Rattle.rt_language.specs.Expressions.{Doing, SourceTypes}
use Rattle.rt_language.specs.Meaning.{same_doing, programs_of}
use Rattle.rt_language.specs.Laws.{SourcesAreLawful}

number-true : (a b : ℤ) → same_number a b ≡ true → a ≡ b
number-true (pos a) (pos b) h = ap pos (eqb-true a b h)
number-true (negsuc a) (negsuc b) h = ap negsuc (eqb-true a b h)
number-true _ _ h = cc

number-same : (a : ℤ) → same_number a a ≡ true
number-same (pos a) = eq_same a
number-same (negsuc a) = eq_same a

value-true : (a b : Value) → same_value a b ≡ true → a ≡ b
value-true NoValue NoValue h = refl
value-true (NumberValue a) (NumberValue b) h = ap NumberValue (number-true a b h)
value-true (TextValue t) (TextValue u) h = ap TextValue (numbers.0 t u h)
value-true (CellValue a) (CellValue b) h = ap CellValue (eqb-true a b h)
value-true (TaskValue a) (TaskValue b) h = ap TaskValue (eqb-true a b h)
value-true _ _ h = cc

value-same : (a : Value) → same_value a a ≡ true
value-same NoValue = refl
value-same (NumberValue a) = number-same a
value-same (TextValue t) = numbers.1 t
value-same (CellValue a) = eq_same a
value-same (TaskValue a) = eq_same a

-- equal values are those that the test finds equal, alone and in a row
pub value : Tests Value same_value
value = (value-true, value-same)

pub values : Tests (List Value) (λ p q. same_values p q)
values = list_tests same_value value

doing-true : (a b : Doing) → same_doing a b ≡ true → a ≡ b
doing-true a b h =
    let action : a.action ≡ b.action = eqb-true a.action b.action (and-left _ (same_values a.arguments b.arguments) h) in
    let arguments : a.arguments ≡ b.arguments = values.0 a.arguments b.arguments (and-right (nat_eq a.action b.action) _ h) in
    λ i. record { action = action i; arguments = arguments i }

doing-same : (a : Doing) → same_doing a a ≡ true
doing-same a = both (eq_same a.action) (values.1 a.arguments)

-- the laws
pub sources_are_lawful : SourcesAreLawful
sources_are_lawful s =
    programs_are_lawful SourceTypes (programs_of s)
    (
    λ c p q h w.
    mean_alike (body_means ((programs_of s).body c p) w) (body_means ((programs_of s).body c q) w)
    (ap (λ (props : List Value). body_means ((programs_of s).body c props) w) (values.0 p q h))
    )
    (place-true, eq_same)
    values
    value
    (doing-true, doing-same)
