-- What one read moves, and what reading to the end gives.
use Rattle.std.specs.Prelude.{◌≡◌, ℕ, ◌<◌, ◌≤◌, List, [], ◌++◌, take, drop, length, Option, Some, None}
use Rattle.show_streams.specs.declared.reading.TheConstants.{MOST_BYTES}

-- so many bytes have moved from the front of what is left, where it is told, to the front of the room
abbrev pub Moved : ℕ → List ℕ → Option (List ℕ) → Option (List ℕ) → Type 0
Moved count room None new = new ≡ None
Moved count room (Some bytes) new = (count ≤ length bytes) × (take count room ≡ take count bytes) × (new ≡ Some (drop count bytes))

-- where what is left is told, no byte comes into a room that has a place only where nothing is left
abbrev pub Ended : ℕ → List ℕ → Option (List ℕ) → Type 0
Ended count room None = Unit {0}
Ended count room (Some bytes) = count ≡ 0 → 0 < length room → bytes ≡ []

-- some bytes before those that are left, where these are told
abbrev pub preceded : List ℕ → Option (List ℕ) → Option (List ℕ)
preceded bytes None = None
preceded bytes (Some rest) = Some (bytes ++ rest)

-- at most so many bytes were read from the front of what is left, where it is told
pub record Advances (most : ℕ) (old new : Option (List ℕ)) : Type 0 where
  -- the bytes that were read
  pub front : List ℕ
  pub within : length front ≤ most
  pub moved : old ≡ preceded front new

-- the bytes are not too many, and all that was left, where that is told; nothing is left then
abbrev pub IsWhole : List ℕ → Option (List ℕ) → Option (List ℕ) → Type 0
IsWhole bytes None new = (length bytes ≤ MOST_BYTES) × (new ≡ None)
IsWhole bytes (Some all) new = (length bytes ≤ MOST_BYTES) × (all ≡ bytes) × (new ≡ Some [])

-- more bytes are left than that, where they are told
abbrev pub IsLonger : ℕ → Option (List ℕ) → Type 0
IsLonger most None = Unit {0}
IsLonger most (Some all) = most < length all
