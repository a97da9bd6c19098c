-- The values of the language, and the tables of its operators by cases.
use Rattle.std.specs.Prelude.{ℕ, ◌+◌, ◌-◌, ◌*◌, min, Bool, true, false, nat_eq, nat_lt, nat_le, ◌==◌, ℤ, pos, negsuc, ◌+ℤ◌, ◌*ℤ◌, neg_ℤ, List, [], ◌∷◌, ◌++◌, Option, Some, None, if◌then◌else◌, decimal, int_lt}
use Rattle.std.specs.Fmt.{signed_decimal}
use Rattle.std.specs.Char.{is_ascii_digit}
use Rattle.std.specs.Int.{w64, saturate_signed}
use Rattle.rt_model.specs.Lists.{Text, same_numbers, same_list}
use Rattle.rt_language.specs.Syntax.{Literal, NumberLiteral, TextLiteral}

-- what a variable, a cell, a hook or a context holds
pub data Value : Type 0 where
  NoValue : Value
  NumberValue : (number : ℤ) → Value
  TextValue : (text : Text) → Value
  CellValue : (cell : ℕ) → Value
  TaskValue : (task : ℕ) → Value

-- the greatest number
abbrev pub greatest : ℕ
greatest = 9223372036854775807

-- equal numbers
abbrev pub same_number : ℤ → ℤ → Bool
same_number (pos a) (pos b) = nat_eq a b
same_number (negsuc a) (negsuc b) = nat_eq a b
same_number _ _ = false

-- equal kinds and values
abbrev pub same_value : Value → Value → Bool
same_value NoValue NoValue = true
same_value (NumberValue a) (NumberValue b) = same_number a b
same_value (TextValue t) (TextValue u) = same_numbers t u
same_value (CellValue a) (CellValue b) = nat_eq a b
same_value (TaskValue a) (TaskValue b) = nat_eq a b
same_value _ _ = false

-- equal values in a row
abbrev pub same_values : List Value → List Value → Bool
same_values a b = same_list same_value a b

-- what a literal is worth
abbrev pub value_of : Literal → Value
value_of (NumberLiteral n) = NumberValue n
value_of (TextLiteral t) = TextValue t

-- literals in a row
abbrev pub values_of : List Literal → List Value
values_of [] = []
values_of (l ∷ ls) = value_of l ∷ values_of ls

-- the kind of hook that holds a value
abbrev pub hook_kind : Value → ℕ
hook_kind NoValue = 0
hook_kind (NumberValue n) = 1
hook_kind (TextValue t) = 2
hook_kind (CellValue c) = 3
hook_kind (TaskValue t) = 4

-- a number is true where it isn't 0; nothing else is true
abbrev pub is_true : Value → Bool
is_true (NumberValue (pos n)) = nat_lt 0 n
is_true (NumberValue (negsuc n)) = true
is_true NoValue = false
is_true (TextValue t) = false
is_true (CellValue c) = false
is_true (TaskValue t) = false

-- 1 or 0
abbrev pub flag : Bool → Value
flag b = NumberValue (pos (if b then 1 else 0))

-- a number that is counted; above the greatest it is the greatest
abbrev pub counted : ℕ → Value
counted n = NumberValue (pos (min n greatest))

-- the text of a value: a number in decimal, a text itself, nothing of none, the number of a cell or task
abbrev pub text_of : Value → Text
text_of NoValue = []
text_of (NumberValue n) = signed_decimal n
text_of (TextValue t) = t
text_of (CellValue c) = decimal c
text_of (TaskValue t) = decimal t

-- the texts of values, joined
abbrev pub texts_of : List Value → Text
texts_of [] = []
texts_of (v ∷ vs) = text_of v ++ texts_of vs

-- the sum, which stops at the ends of 64 bits
abbrev pub sum : ℤ → ℤ → ℤ
sum a b = saturate_signed w64 (a +ℤ b)

-- the product, which stops at the ends
abbrev pub product : ℤ → ℤ → ℤ
product a b = saturate_signed w64 (a *ℤ b)

-- what two numbers give; none unless both are numbers
abbrev pub of_numbers : (ℤ → ℤ → Value) → Value → Value → Value
of_numbers f (NumberValue a) (NumberValue b) = f a b
of_numbers f _ _ = NoValue

-- `add`
abbrev pub added : Value → Value → Value
added a b = of_numbers (λ x y. NumberValue (sum x y)) a b

-- `mul`
abbrev pub multiplied : Value → Value → Value
multiplied a b = of_numbers (λ x y. NumberValue (product x y)) a b

-- `lt`
abbrev pub compared : Value → Value → Value
compared a b = of_numbers (λ x y. flag (int_lt x y)) a b

-- a value is none
abbrev pub is_absent : Value → Bool
is_absent NoValue = true
is_absent (NumberValue n) = false
is_absent (TextValue t) = false
is_absent (CellValue c) = false
is_absent (TaskValue t) = false

-- the number that digits write, after a number that was read before them; none at any other byte
abbrev pub digits_after : ℕ → Text → Option ℕ
digits_after n [] = Some n
digits_after n (c ∷ cs) = if is_ascii_digit c then digits_after (n * 10 + (c - 48)) cs else None

-- the number that at least one digit writes
abbrev pub digits_of : Text → Option ℕ
digits_of [] = None
digits_of (c ∷ cs) = digits_after 0 (c ∷ cs)

-- a number that was read, where it isn't above the greatest
abbrev pub not_above : Option ℕ → Value
not_above None = NoValue
not_above (Some n) = if nat_le n greatest then NumberValue (pos n) else NoValue

-- minus a number that was read, where that isn't below the least
abbrev pub not_below : Option ℕ → Value
not_below None = NoValue
not_below (Some n) = if nat_le n (greatest + 1) then NumberValue (neg_ℤ (pos n)) else NoValue

-- the number that a text writes: an optional `-`, and digits
abbrev pub number_in : Text → Value
number_in [] = NoValue
number_in (c ∷ cs) = if c == 45 then not_below (digits_of cs) else not_above (digits_of (c ∷ cs))

-- `parse`
abbrev pub parsed : Value → Value
parsed (TextValue t) = number_in t
parsed NoValue = NoValue
parsed (NumberValue n) = NoValue
parsed (CellValue c) = NoValue
parsed (TaskValue t) = NoValue

-- how many items a list has: no number and one below 0 give none, and 10,000 is the most
abbrev pub item_count : Value → ℕ
item_count (NumberValue (pos n)) = min n 10000
item_count (NumberValue (negsuc n)) = 0
item_count NoValue = 0
item_count (TextValue t) = 0
item_count (CellValue c) = 0
item_count (TaskValue t) = 0
