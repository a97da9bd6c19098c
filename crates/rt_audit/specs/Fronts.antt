-- Entries that were noted, beside those of a list.
use Rattle.std.specs.Prelude.{◌≡◌, ℕ, Bool, false, List, [], ◌∷◌, ◌++◌, length}
use Rattle.rt_model.specs.Replay.{Entry, same_entry}

-- the next entry of a list is this one
abbrev pub begins_with : Entry → List Entry → Bool
begins_with d [] = false
begins_with d (e ∷ rest) = same_entry d e

-- entries are the first ones of a list
pub record IsFront (noted list : List Entry) : Type 0 where
  pub rest : List Entry
  pub is : list ≡ noted ++ rest

-- entries are those of a list up to a place, and there they aren't
pub record PartsAt (noted list : List Entry) (place : ℕ) : Type 0 where
  pub front : List Entry
  pub first : Entry
  pub more : List Entry
  pub rest : List Entry
  pub noted_is : noted ≡ front ++ first ∷ more
  pub list_is : list ≡ front ++ rest
  pub place_is : length front ≡ place
  pub other : begins_with first rest ≡ false

-- a list goes on after entries
pub record GoesOn (noted list : List Entry) : Type 0 where
  pub first : Entry
  pub more : List Entry
  pub is : list ≡ noted ++ first ∷ more
