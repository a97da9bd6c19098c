-- The expression that a value of JSON is.
use Rattle.std.specs.Prelude.{ℕ, zero, suc, ℤ, List, Option, Some, None, option_map, option_and_then, if◌then◌else◌}
use Rattle.serde_json.specs.Data.{Data}
use Rattle.serde_json.specs.Find.{as_str, as_array}
use Rattle.lang_expressions.specs.Keys.{only_member}
use Rattle.lang_expressions.specs.Fields.{integer, is_zero}
use Rattle.lang_expressions.specs.Lists.{read_each}
use Rattle.lang_expressions.specs.Names.{place_of}
use Rattle.lang_syntax.specs.declared.expression.Literal.TheVariants as literals
use Rattle.lang_syntax.specs.declared.expression.Expression.{Expression}
use Rattle.lang_syntax.specs.declared.expression.Expression.TheVariants as e
use Rattle.lang_expressions.specs.declared.signatures.Names.{Names}
use Rattle.lang_expressions.specs.declared.forms.Form.{Form}
use Rattle.lang_expressions.specs.declared.forms.Form.TheVariants.{Get, Read, LookUp, Cat, If, Two, One, Said}
use Rattle.lang_expressions.specs.Forms.{form_of, said, paired, chosen, single_of}

-- the place of the name that a text is
abbrev pub place_in : List (List ℕ) → Data → Option ℕ
place_in names d = option_and_then (place_of names) (as_str d)

-- the expression of a form with operands that are read already
abbrev pub in_a_row : Form → Option (List Expression) → Option Expression
in_a_row Cat operands = option_map e.Cat operands
in_a_row If operands = chosen operands
in_a_row (Two pair) operands = paired pair operands
in_a_row _ operands = None

-- the expression of a form with a list of operands
abbrev pub row : (Data → Option Expression) → Form → Data → Option Expression
row operand form d = in_a_row form (option_and_then (read_each operand) (as_array d))

-- the expression of a form, with its operands read by a function
abbrev pub formed : (Data → Option Expression) → Names → List (List ℕ) → Form → Data → Option Expression
formed operand names variables Get d = option_map e.Get (place_in variables d)
formed operand names variables Read d = option_map e.Read (place_in variables d)
formed operand names variables LookUp d = option_map e.LookUp (place_in names.kinds d)
formed operand names variables (Said word) d = if is_zero d then Some (said word) else None
formed operand names variables (One single) d = option_map (single_of single) (operand d)
formed operand names variables Cat d = row operand Cat d
formed operand names variables If d = row operand If d
formed operand names variables (Two pair) d = row operand (Two pair) d

-- the expression with a key and what stands there
abbrev pub keyed : (Data → Option Expression) → Names → List (List ℕ) → Option (List ℕ × Data) → Option Expression
keyed operand names variables None = None
keyed operand names variables (Some m) = option_and_then (λ form. formed operand names variables form m.1) (form_of m.0)

-- a text where there is one, else something else
abbrev pub text_or : Option (List ℕ) → Option Expression → Option Expression
text_or (Some text) other = Some (e.Say (literals.Text text))
text_or None other = other

-- a whole number where there is one, else something else
abbrev pub number_or : Option ℤ → Option Expression → Option Expression
number_or (Some number) other = Some (e.Say (literals.Number number))
number_or None other = other

-- a text, a whole number, or a form with its operands read by a function
abbrev pub expression_step : (Data → Option Expression) → Names → List (List ℕ) → Data → Option Expression
expression_step operand names variables d = text_or (as_str d) (number_or (integer d) (keyed operand names variables (only_member d)))

-- the expression of a value that nests at most so many levels, with these variables in reach
unfoldable pub expression_of : ℕ → Names → List (List ℕ) → Data → Option Expression
expression_of zero names variables d = None
expression_of (suc levels) names variables d = expression_step (expression_of levels names variables) names variables d

-- the expression of a value; JSON nests fewer levels than these
abbrev pub expression_in : Names → List (List ℕ) → Data → Option Expression
expression_in = expression_of 128
