-- The forms of an expression that is an object with one key, and what each makes of its operands.
use Rattle.std.specs.Prelude.{ℕ, List, [], ◌∷◌, Option, Some, None, if◌then◌else◌, bytes_eq, codes}
use Rattle.lang_syntax.specs.declared.expression.Expression.{Expression}
use Rattle.lang_syntax.specs.declared.expression.Expression.TheVariants as e
use Rattle.lang_expressions.specs.declared.forms.Word.{Word}
use Rattle.lang_expressions.specs.declared.forms.Word.TheVariants.{OwnScope, Generation, NearestError, Payload, Me}
use Rattle.lang_expressions.specs.declared.forms.Pair.{Pair}
use Rattle.lang_expressions.specs.declared.forms.Pair.TheVariants.{Add, Multiply, Equal, Less}
use Rattle.lang_expressions.specs.declared.forms.Single.{Single}
use Rattle.lang_expressions.specs.declared.forms.Single.TheVariants.{Not, IsAbsent, Parse}
use Rattle.lang_expressions.specs.declared.forms.Form.{Form}
use Rattle.lang_expressions.specs.declared.forms.Form.TheVariants.{Get, Read, LookUp, Cat, If, Two, One, Said}

-- the keys that stand with 0
unfoldable pub word_of : List ℕ → Option Word
word_of key =
    if bytes_eq key (codes "scope") then Some OwnScope else
    if bytes_eq key (codes "generation") then Some Generation else
    if bytes_eq key (codes "error") then Some NearestError else
    if bytes_eq key (codes "payload") then Some Payload else
    if bytes_eq key (codes "me") then Some Me else None

-- the keys that stand with two operands, or with one
unfoldable pub operator_of : List ℕ → Option Form
operator_of key =
    if bytes_eq key (codes "add") then Some (Two Add) else
    if bytes_eq key (codes "mul") then Some (Two Multiply) else
    if bytes_eq key (codes "eq") then Some (Two Equal) else
    if bytes_eq key (codes "lt") then Some (Two Less) else
    if bytes_eq key (codes "not") then Some (One Not) else
    if bytes_eq key (codes "none") then Some (One IsAbsent) else
    if bytes_eq key (codes "parse") then Some (One Parse) else None

-- a word where there is one, else something else
abbrev pub said_or : Option Word → Option Form → Option Form
said_or (Some word) other = Some (Said word)
said_or None other = other

-- the form that a key names
unfoldable pub form_of : List ℕ → Option Form
form_of key =
    if bytes_eq key (codes "get") then Some Get else
    if bytes_eq key (codes "read") then Some Read else
    if bytes_eq key (codes "context") then Some LookUp else
    if bytes_eq key (codes "cat") then Some Cat else
    if bytes_eq key (codes "if") then Some If else
    said_or (word_of key) (operator_of key)

-- what a word says
abbrev pub said : Word → Expression
said OwnScope = e.OwnScope
said Generation = e.Generation
said NearestError = e.NearestError
said Payload = e.Payload
said Me = e.Me

-- two operands, joined
abbrev pub pair_of : Pair → Expression → Expression → Expression
pair_of Add left right = e.Add left right
pair_of Multiply left right = e.Multiply left right
pair_of Equal left right = e.Equal left right
pair_of Less left right = e.Less left right

-- just two operands, joined
abbrev pub paired : Pair → Option (List Expression) → Option Expression
paired pair (Some (left ∷ right ∷ [])) = Some (pair_of pair left right)
paired pair _ = None

-- just a test, what is chosen where it is true, and what otherwise
abbrev pub chosen : Option (List Expression) → Option Expression
chosen (Some (test ∷ this ∷ other ∷ [])) = Some (e.If test this other)
chosen _ = None

-- one operand, and what is done with it
abbrev pub single_of : Single → Expression → Expression
single_of Not operand = e.Not operand
single_of IsAbsent operand = e.IsAbsent operand
single_of Parse operand = e.Parse operand
