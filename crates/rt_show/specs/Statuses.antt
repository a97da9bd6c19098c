-- What each status of the program says.
use Rattle.std.specs.Prelude.{◌≡◌, ◌≢◌, ◌↔◌, ◌⊎◌, ℕ, ◌<◌, ◌≤◌, List, Option, Some, None, Result, Ok, Err}
use Rattle.show_words.specs.Asked.{Asked, Lacks}
use Rattle.show_streams.specs.Reads.{Advances}
use Rattle.show_streams.specs.declared.reading.TheConstants.{MOST_BYTES}
use Rattle.show_streams.specs.Writes.{Puts}
use Rattle.show_words.specs.Words.{wish_of, AskForSource}
use Rattle.show_words.specs.Runs.{CanBeDone, Chooses, IsUnfit, PrintsDone, PrintsEnded, PrintsFront}
use Rattle.show_words.specs.declared.words.Wish.{Wish}
use Rattle.show_words.specs.declared.reason.Stop.{Stop}
use Rattle.show_words.specs.declared.reason.Stop.TheVariants as stops

-- what the words ask for was chosen and done, and its text was written
pub record Done (words : List (List ℕ)) (left after : Option (List ℕ)) (old new : Puts) : Type 0 where
  pub wish : Wish
  pub asked : wish_of words ≡ Some wish
  pub said : Asked
  pub chosen : Chooses wish said left after
  pub prints : PrintsDone wish said old new

-- what the words ask for was chosen and ended in a fault, and its text with the fault's line was written
pub record Ended (words : List (List ℕ)) (left after : Option (List ℕ)) (old new : Puts) : Type 0 where
  pub wish : Wish
  pub asked : wish_of words ≡ Some wish
  pub said : Asked
  pub chosen : Chooses wish said left after
  pub prints : PrintsEnded wish said old new

-- what the words ask for was chosen, and a front of the text of a run was written
pub record Cut (words : List (List ℕ)) (left after : Option (List ℕ)) (old new : Puts) : Type 0 where
  pub wish : Wish
  pub asked : wish_of words ≡ Some wish
  pub said : Asked
  pub chosen : Chooses wish said left after
  pub prints : PrintsFront wish said old new

-- what the program comes to, by its words, what is left of the input, what is written, and the counts of failures, before and after
abbrev pub Comes :
    List (List ℕ) → (left after : Option (List ℕ)) (old new : Puts) → (source_before source_after out_before out_after : ℕ)
    → Result (Unit {0}) Stop → Type 0
Comes words left after old new source_before source_after out_before out_after (Ok u) = Done words left after old new
Comes words left after old new source_before source_after out_before out_after (Err stops.Words) = (wish_of words ≡ None) × (new ≡ old)
Comes words left after old new source_before source_after out_before out_after (Err stops.Form) =
    (ask : AskForSource words) × IsUnfit (Lacks ask.wish) left after × (new ≡ old)
Comes words left after old new source_before source_after out_before out_after (Err stops.Fault) = Ended words left after old new
Comes words left after old new source_before source_after out_before out_after (Err stops.Source) =
    AskForSource words × ((source_before < source_after) × Advances MOST_BYTES left after) × (new ≡ old)
Comes words left after old new source_before source_after out_before out_after (Err stops.Out) =
    (out_before < out_after) × Cut words left after old new
Comes words left after old new source_before source_after out_before out_after (Err stops.OutOfMemory) =
    (wish_of words ≢ None) × ((new ≡ old) ⊎ Cut words left after old new)

-- the source is read only where the words ask for it: else what is left of it and its count of failures stay
abbrev pub ReadsAsked : List (List ℕ) → (left after : Option (List ℕ)) → (source_before source_after : ℕ) → Type 0
ReadsAsked words left after source_before source_after =
    AskForSource words ⊎ ((after ≡ left) × (source_after ≡ source_before))

-- what a status says, with the words, what is left of the input, what is written, and the counts of failures, before and after
pub record Shows
    (words : List (List ℕ))
    (left after : Option (List ℕ)) (old new : Puts) (source_before source_after out_before out_after status : ℕ)
    : Type 0 where
  pub known : (status ≤ 7) × (status ≢ 1)
  pub reads : ReadsAsked words left after source_before source_after
  -- 0: what the words ask for was done, and its text was written
  pub done : status ≡ 0 → Done words left after old new
  -- 2: exactly where the words aren't known
  pub unlisted : (status ≡ 2) ↔ (wish_of words ≡ None)
  -- 3: the source is asked for, and the input is too long, or describes none
  pub refused : status ≡ 3 → (ask : AskForSource words) × IsUnfit (Lacks ask.wish) left after
  -- it comes wherever the source is asked for and an input that tells its bytes describes none, unless a read fails or memory is wanted
  pub refuses :
      (ask : AskForSource words) → (bytes : List ℕ) → left ≡ Some bytes → Lacks ask.wish bytes
      → (status ≡ 3) ⊎ ((status ≡ 5) ⊎ (status ≡ 7))
  -- 4: a run came to a fault, whose line was written after what went before it
  pub faulted : status ≡ 4 → Ended words left after old new
  -- 5: the source is asked for, and a read failed before more than the limit of bytes had come
  pub unread : status ≡ 5 → AskForSource words × ((source_before < source_after) × Advances MOST_BYTES left after)
  -- 6: a put failed
  pub unwritten : status ≡ 6 → out_before < out_after
  -- then a front of the text of a run was written; at want of memory, which 7 says, such a front or nothing
  pub part : status ≡ 6 → Cut words left after old new
  pub little : status ≡ 7 → (new ≡ old) ⊎ Cut words left after old new
  -- on 2, 3 and 5 nothing was written
  pub nothing : ((status ≡ 2) ⊎ ((status ≡ 3) ⊎ (status ≡ 5))) → new ≡ old
  -- where what is asked for can be done and no failure is counted, it is done, unless memory is wanted
  pub completes :
      (wish : Wish) → wish_of words ≡ Some wish → CanBeDone wish left → source_after ≤ source_before → out_after ≤ out_before
      → (status ≡ 0) ⊎ (status ≡ 7)
