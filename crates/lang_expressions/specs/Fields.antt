-- What an object of JSON has at a key.
use Rattle.std.specs.Prelude.{ℕ, ℤ, List, Bool, false, ◌==◌, Option, Some, None, option_and_then, is_some, if◌then◌else◌}
use Rattle.serde_json.specs.Data.{Data, Items, no_items}
use Rattle.serde_json.specs.Find.{get, as_str, as_array, as_number, as_i64, as_u64}

-- the text at a key
abbrev pub text_at : List ℕ → Data → Option (List ℕ)
text_at key d = option_and_then as_str (get key d)

-- the list at a key
abbrev pub list_at : List ℕ → Data → Option Items
list_at key d = option_and_then as_array (get key d)

-- no item where nothing stands, else those of a list
abbrev pub items_or_none : Option Data → Option Items
items_or_none None = Some no_items
items_or_none (Some d) = as_array d

-- the list at a key, empty where there is no such key
abbrev pub list_or_empty : List ℕ → Data → Option Items
list_or_empty key d = items_or_none (get key d)

-- the whole number of 64 bits with a sign that a value is
abbrev pub integer : Data → Option ℤ
integer d = option_and_then as_i64 (as_number d)

-- such a whole number of at least 0
abbrev pub whole : Data → Option ℕ
whole d = if is_some (integer d) then option_and_then as_u64 (as_number d) else None

-- the whole number of at least 0 at a key
abbrev pub whole_at : List ℕ → Data → Option ℕ
whole_at key d = option_and_then whole (get key d)

-- whether a number that may be absent is there and 0
abbrev pub is_some_zero : Option ℕ → Bool
is_some_zero None = false
is_some_zero (Some n) = n == 0

-- whether a value is the whole number 0
abbrev pub is_zero : Data → Bool
is_zero d = is_some_zero (option_and_then as_u64 (as_number d))

-- whether what may stand somewhere is there and 0
abbrev pub is_zero_there : Option Data → Bool
is_zero_there None = false
is_zero_there (Some d) = is_zero d

-- whether the whole number 0 stands at a key
abbrev pub is_zero_at : List ℕ → Data → Bool
is_zero_at key d = is_zero_there (get key d)
