-- What an inbox came to, once all its notifiers are back.
use Rattle.std.specs.Prelude.{◌≡◌, ℕ, ◌+◌, ◌<◌, ◌⊎◌, List, [], ◌∷◌, length, map, slice_index_or, Contains}
use Rattle.rt_inbox.specs.declared.message.Post.{Post}
use Rattle.rt_inbox.specs.declared.notifier.Notifier.{Notifier}
use Rattle.rt_inbox.specs.Rule.{Entry, times}
use Rattle.rt_inbox.specs.Ends.{number_of, posts_of}

-- each poster's number is a notifier's: all of them are here
abbrev pub HasEach : ℕ → List Notifier → Type 0
HasEach posters ns = (p : ℕ) → p < posters → Contains (map number_of ns) p

-- the list under the notifier's number is what was accepted of it
abbrev pub IsKept : List (List Post) → Notifier → Type 0
IsKept accepted n = slice_index_or accepted (number_of n) [] ≡ posts_of n

-- a notifier's number with its accepted posts
abbrev pub entry : Notifier → Entry
entry n = (number_of n, posts_of n)

-- the numbers and the lists of all of them
abbrev pub each_entry : List Notifier → List Entry
each_entry ns = map entry ns

-- how many posts were accepted in all
abbrev pub accepted_in : List Entry → ℕ
accepted_in [] = 0
accepted_in (e ∷ es) = length e.1 + accepted_in es

-- the same, of notifiers
abbrev pub count_in : List Notifier → ℕ
count_in ns = accepted_in (each_entry ns)

-- it is one of them
abbrev pub IsAmong : List Entry → Entry → Type 0
IsAmong [] e = ⊥
IsAmong (f ∷ es) e = (f ≡ e) ⊎ IsAmong es e

-- under each number of theirs stands a list of theirs
abbrev pub IsFiled : List (List Post) → List Entry → Type 0
IsFiled accepted es = (p : ℕ) → 0 < times p es → IsAmong es (p, slice_index_or accepted p [])
