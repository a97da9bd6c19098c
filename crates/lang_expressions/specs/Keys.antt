-- Which keys an object of JSON has.
use Rattle.std.specs.Prelude.{ℕ, List, Bool, true, false, ◌&&◌, Option, Some, None, bytes_eq}
use Rattle.std.specs.List.{list_any}
use Rattle.serde_json.specs.Data.{Data, null, boolean, number, string, array, object, Members, no_members, member}

-- whether a key is one of those known
abbrev pub is_one_of : List (List ℕ) → List ℕ → Bool
is_one_of known key = list_any (λ name. bytes_eq name key) known

-- whether each member's key is one of those known
unfoldable pub keys_within : List (List ℕ) → Members → Bool
keys_within known no_members = true
keys_within known (member key d rest) = is_one_of known key && keys_within known rest

-- whether a value is an object with no key beside these
abbrev pub is_object_of : List (List ℕ) → Data → Bool
is_object_of known null = false
is_object_of known (boolean b) = false
is_object_of known (number n) = false
is_object_of known (string s) = false
is_object_of known (array items) = false
is_object_of known (object members) = keys_within known members

-- the only one of some members
abbrev pub only_of : Members → Option (List ℕ × Data)
only_of no_members = None
only_of (member key d no_members) = Some (key, d)
only_of (member key d (member next e rest)) = None

-- the only member of an object
abbrev pub only_member : Data → Option (List ℕ × Data)
only_member null = None
only_member (boolean b) = None
only_member (number n) = None
only_member (string s) = None
only_member (array items) = None
only_member (object members) = only_of members
