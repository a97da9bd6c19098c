-- Lists and objects of JSON, read part by part.
use Rattle.std.specs.Prelude.{ℕ, List, [], ◌∷◌, Option, Some, None, option_and_then}
use Rattle.serde_json.specs.Data.{Data, Items, no_items, item, Members, no_members, member}
use Rattle.serde_json.specs.Find.{as_object}

-- one more in front, where both are there
abbrev pub in_front : {A : Type 0} → Option A → Option (List A) → Option (List A)
in_front None rest = None
in_front (Some x) None = None
in_front (Some x) (Some xs) = Some (x ∷ xs)

-- what a reading gives for each item, where it gives something for all of them
unfoldable pub read_each : {A : Type 0} → (Data → Option A) → Items → Option (List A)
read_each reading no_items = Some []
read_each reading (item d rest) = in_front (reading d) (read_each reading rest)

-- what a reading gives for each member, in order of the keys, where it gives something for all of them
unfoldable pub read_members : {A : Type 0} → (List ℕ → Data → Option A) → Members → Option (List A)
read_members reading no_members = Some []
read_members reading (member key d rest) = in_front (reading key d) (read_members reading rest)

-- what is read of each member of an object, or nothing where nothing stands
abbrev pub each_member : {A : Type 0} → (List ℕ → Data → Option A) → Option Data → Option (List A)
each_member reading None = Some []
each_member reading (Some d) = option_and_then (read_members reading) (as_object d)

-- what a state becomes item by item, where each item gives a next one
unfoldable pub steps : {S : Type 0} → (S → Data → Option S) → S → Items → Option S
steps step s no_items = Some s
steps step s (item d rest) = option_and_then (λ t. steps step t rest) (step s d)
