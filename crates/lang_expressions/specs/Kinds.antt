-- The keys of contexts that a source names, each once and sorted by bytes.
use Rattle.std.specs.Prelude.{ℕ, zero, suc, List, [], ◌∷◌, ◌+◌, insert, Option, Some, None, if◌then◌else◌, bytes_eq, codes}
use Rattle.std.specs.Ordering.{nat_cmp, match_ordering}
use Rattle.std.specs.Cmp.Lexicographic.{slice_cmp}
use Rattle.serde_json.specs.Data.{Data, null, boolean, number, string, array, object, Items, no_items, item, Members, no_members, member}
use Rattle.lang_expressions.specs.Keys.{is_object_of}
use Rattle.lang_expressions.specs.Fields.{text_at}

-- where a key belongs among keys in order, counted from a place on; none where it is one of them
abbrev pub place_from : ℕ → List ℕ → List (List ℕ) → Option ℕ
place_from at key [] = Some at
place_from at key (next ∷ keys) = match_ordering (slice_cmp nat_cmp key next) (Some at) None (place_from (at + 1) key keys)

-- where a key belongs among keys in order, from 0
unfoldable pub place_among : List (List ℕ) → List ℕ → Option ℕ
place_among keys key = place_from 0 key keys

-- a key at its place, or none more
abbrev pub put_at : List ℕ → List (List ℕ) → Option ℕ → List (List ℕ)
put_at key keys None = keys
put_at key keys (Some at) = insert keys at key

-- keys in order with one more, where it isn't one of them
abbrev pub put_among : List ℕ → List (List ℕ) → List (List ℕ)
put_among key keys = put_at key keys (place_among keys key)

-- the key that a value itself names: as a look-up, or as a statement that provides
abbrev pub key_in : Data → Option (List ℕ)
key_in d =
    if is_object_of (codes "context" ∷ []) d then text_at (codes "context") d else
    if is_object_of (codes "provide" ∷ codes "be" ∷ []) d then text_at (codes "provide") d else None

-- one more key, where there is one
abbrev pub put_some : Option (List ℕ) → List (List ℕ) → List (List ℕ)
put_some None keys = keys
put_some (Some key) keys = put_among key keys

-- the key of a value itself, put among others
abbrev pub put_found : Data → List (List ℕ) → List (List ℕ)
put_found d keys = put_some (key_in d) keys

-- the keys in each item of a list
unfoldable pub found_in_items : (Data → List (List ℕ) → List (List ℕ)) → Items → List (List ℕ) → List (List ℕ)
found_in_items walk no_items keys = keys
found_in_items walk (item d rest) keys = found_in_items walk rest (walk d keys)

-- the keys in each of the values of an object
unfoldable pub found_in_each : (Data → List (List ℕ) → List (List ℕ)) → Members → List (List ℕ) → List (List ℕ)
found_in_each walk no_members keys = keys
found_in_each walk (member key d rest) keys = found_in_each walk rest (walk d keys)

-- the keys in what are the attributes of an element; that object itself is no expression, whatever its keys are
abbrev pub found_in_attributes : (Data → List (List ℕ) → List (List ℕ)) → Data → List (List ℕ) → List (List ℕ)
found_in_attributes walk null keys = keys
found_in_attributes walk (boolean b) keys = keys
found_in_attributes walk (number n) keys = keys
found_in_attributes walk (string s) keys = keys
found_in_attributes walk (array items) keys = keys
found_in_attributes walk (object members) keys = found_in_each walk members keys

-- the keys in the value at a key of an object
abbrev pub found_at : (Data → List (List ℕ) → List (List ℕ)) → List ℕ → Data → List (List ℕ) → List (List ℕ)
found_at walk key d keys = if bytes_eq key (codes "attrs") then found_in_attributes walk d keys else walk d keys

-- the keys in each member of an object
unfoldable pub found_in_members : (Data → List (List ℕ) → List (List ℕ)) → Members → List (List ℕ) → List (List ℕ)
found_in_members walk no_members keys = keys
found_in_members walk (member key d rest) keys = found_in_members walk rest (found_at walk key d keys)

-- the keys below a value
abbrev pub found_below : (Data → List (List ℕ) → List (List ℕ)) → Data → List (List ℕ) → List (List ℕ)
found_below walk null keys = keys
found_below walk (boolean b) keys = keys
found_below walk (number n) keys = keys
found_below walk (string s) keys = keys
found_below walk (array items) keys = found_in_items walk items keys
found_below walk (object members) keys = found_in_members walk members keys

-- the keys in a value that nests at most so many levels, put among others
unfoldable pub found_in : ℕ → Data → List (List ℕ) → List (List ℕ)
found_in zero d keys = keys
found_in (suc levels) d keys = found_below (found_in levels) d (put_found d keys)

-- all keys in a source; JSON nests fewer levels than these
abbrev pub kinds_in : Data → List (List ℕ)
kinds_in d = found_in 128 d []
