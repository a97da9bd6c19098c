-- What is read of a word, and of a value: just what it says, or nothing where it says none.
use Rattle.std.specs.Prelude.{◌≡◌, ◌<◌, ◌^◌, ℕ, List, ◌++◌, map, decimal, Option, Some, None}
use Rattle.serde_json.specs.Data.{Data, Items}
use Rattle.rt_model.specs.Replay.{Entry, Made, Fed, Kept, Removed}
use Rattle.run_reports.specs.Seen.{entry_of}
use Rattle.run_reports.specs.declared.entry.Entry.{Entry as Noted}
use Rattle.show_logs.specs.Written.{IsWord, AreWritten, WritesEntry, WritesList}
use Rattle.show_logs.specs.Recorded.{HasLog}

-- the number of 64 bits whose digits these are
abbrev pub ReadsNumber : List ℕ → Option ℕ → Type 0
ReadsNumber digits None = (n : ℕ) → n < 2 ^ 64 → digits ≡ decimal n → ⊥
ReadsNumber digits (Some n) = (digits ≡ decimal n) × (n < 2 ^ 64)

-- such a number behind a name
abbrev pub ReadsNumbered : List ℕ → List ℕ → Option ℕ → Type 0
ReadsNumbered word name None = (n : ℕ) → n < 2 ^ 64 → word ≡ name ++ decimal n → ⊥
ReadsNumbered word name (Some n) = (word ≡ name ++ decimal n) × (n < 2 ^ 64)

-- an entry
abbrev pub ReadsWord : List ℕ → Option Noted → Type 0
ReadsWord word None = (e : Entry) → IsWord word e → ⊥
ReadsWord word (Some entry) = IsWord word (entry_of entry)

-- a word is none of a scope that is made, handed a component or removed
pub record ServesNone (word : List ℕ) : Type 0 where
  pub made : (s : ℕ) → IsWord word (Made s) → ⊥
  pub fed : (s : ℕ) → IsWord word (Fed s) → ⊥
  pub kept : (s : ℕ) → IsWord word (Kept s) → ⊥
  pub removed : (s : ℕ) → IsWord word (Removed s) → ⊥

-- an entry of these
abbrev pub ReadsServed : List ℕ → Option Noted → Type 0
ReadsServed word None = ServesNone word
ReadsServed word (Some entry) = IsWord word (entry_of entry)

-- the entry whose word a value is
abbrev pub ReadsEntry : Data → Option Noted → Type 0
ReadsEntry d None = (e : Entry) → WritesEntry d e → ⊥
ReadsEntry d (Some entry) = WritesEntry d (entry_of entry)

-- the entries of items that are words
abbrev pub ReadsEntries : Items → Option (List Noted) → Type 0
ReadsEntries items None = (entries : List Entry) → AreWritten WritesEntry items entries → ⊥
ReadsEntries items (Some entries) = AreWritten WritesEntry items (map entry_of entries)

-- the entries of a list of words
abbrev pub ReadsList : Data → Option (List Noted) → Type 0
ReadsList d None = (entries : List Entry) → WritesList d entries → ⊥
ReadsList d (Some entries) = WritesList d (map entry_of entries)

-- the lists of items that are such lists
abbrev pub ReadsLists : Items → Option (List (List Noted)) → Type 0
ReadsLists items None = (log : List (List Entry)) → AreWritten WritesList items log → ⊥
ReadsLists items (Some log) = AreWritten WritesList items (map (map entry_of) log)

-- the log at a value's key
abbrev pub ReadsLog : Data → Option (List (List Noted)) → Type 0
ReadsLog d None = (log : List (List Entry)) → HasLog d log → ⊥
ReadsLog d (Some log) = HasLog d (map (map entry_of) log)
