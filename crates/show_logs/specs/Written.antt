-- Which JSON a log is written as: lists of the words of entries.
use Rattle.std.specs.Prelude.{◌≡◌, ℕ, List, [], ◌∷◌, Some}
use Rattle.serde_json.specs.Data.{Data, Items, no_items, item}
use Rattle.serde_json.specs.Find.{as_str, as_array}
use Rattle.rt_model.specs.Replay.{Entry}
use Rattle.rt_language.specs.Lines.{entry_text}
use Rattle.rt_language.specs.Small.{IsSmallEntry}

-- a word is that of an entry, whose number has at most 64 bits
pub record IsWord (word : List ℕ) (e : Entry) : Type 0 where
  pub text : word ≡ entry_text e
  pub small : IsSmallEntry e

-- the items of a list say these things, one after another
abbrev pub AreWritten : {A : Type 0} → (Data → A → Type 0) → Items → List A → Type 0
AreWritten Writes no_items [] = Unit {0}
AreWritten Writes no_items (x ∷ xs) = ⊥
AreWritten Writes (item d ds) [] = ⊥
AreWritten Writes (item d ds) (x ∷ xs) = Writes d x × AreWritten Writes ds xs

-- a value is a text, the word of an entry
pub record WritesEntry (d : Data) (e : Entry) : Type 0 where
  pub word : List ℕ
  pub text : as_str d ≡ Some word
  pub is : IsWord word e

-- a value is a list of the words of entries
pub record WritesList (d : Data) (entries : List Entry) : Type 0 where
  pub items : Items
  pub list : as_array d ≡ Some items
  pub are : AreWritten WritesEntry items entries

-- a value is a list of such lists
pub record WritesLog (d : Data) (log : List (List Entry)) : Type 0 where
  pub items : Items
  pub list : as_array d ≡ Some items
  pub are : AreWritten WritesList items log
