-- Names: which texts are one, where one is bound, and lists of names that differ.
use Rattle.std.specs.Prelude.{ℕ, List, [], ◌∷◌, ◌++◌, ◌+◌, Bool, map, Option, Some, None, option_and_then, is_some, if◌then◌else◌, bytes_eq}
use Rattle.std.specs.List.{list_any}
use Rattle.std.specs.Borrow.{Bor}
use Rattle.std.specs.BTreeSet.{BTreeSet}
use Rattle.serde_json.specs.Data.{Data, Items}
use Rattle.serde_json.specs.Find.{as_str}
use Rattle.lang_expressions.specs.Lists.{steps}

-- the last place of a name among those from a place on, or the place before them
abbrev pub place_from : ℕ → List ℕ → List (List ℕ) → Option ℕ → Option ℕ
place_from at name [] before = before
place_from at name (next ∷ names) before = place_from (at + 1) name names (if bytes_eq next name then Some at else before)

-- the last place of a name, from 0
unfoldable pub place_of : List (List ℕ) → List ℕ → Option ℕ
place_of names name = place_from 0 name names None

-- the texts of a set, ascending by their bytes
abbrev pub texts_of : BTreeSet (Bor (List ℕ)) → List (List ℕ)
texts_of texts = map (λ t. t.now) texts.keys

-- a text is one of those that were seen
abbrev pub is_seen : BTreeSet (Bor (List ℕ)) → List ℕ → Bool
is_seen seen text = list_any (λ t. bytes_eq text t.now) seen.keys

-- one more text, which isn't among those before it
abbrev pub one_more_text : List (List ℕ) → Data → Option (List (List ℕ))
one_more_text texts d = option_and_then (λ text. if is_some (place_of texts text) then None else Some (texts ++ text ∷ [])) (as_str d)

-- the texts of a list, where each item is one and no two are the same
abbrev pub distinct_texts : Items → Option (List (List ℕ))
distinct_texts = steps one_more_text []
