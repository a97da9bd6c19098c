-- What the program prints of a run whose source's posters post, and what its statuses say.
use Rattle.std.specs.Prelude.{◌≡◌, ◌≢◌, ◌↔◌, ◌⊎◌, ℕ, ◌+◌, ◌<◌, ◌≤◌, Bool, true, false, List, [], ◌∷◌, ◌++◌, length, map, bytes_eq, codes, All, Option, Some, Result, Ok, Err}
use Rattle.law_minding.specs.Sessions.{MemosKept}
use Rattle.rt_language.specs.Expressions.{Minding}
use Rattle.rt_language.specs.Formulas.{formulas}
use Rattle.rt_language.specs.Lines.{line, fault_text, taken_text}
use Rattle.rt_language.specs.Meaning.{meaning_of, post_of, props_of}
use Rattle.rt_language.specs.Syntax.{PostSource, Source}
use Rattle.rt_model.specs.Document.{Edit}
use Rattle.rt_model.specs.Headline.{Headline, CameTo}
use Rattle.rt_model.specs.Lists.{joined}
use Rattle.rt_model.specs.Merge.{AreSized, HasFronts, IsCut, ValidOverCuts, drained}
use Rattle.rt_model.specs.Replay.{Message, Post}
use Rattle.rt_model.specs.Reports.{Report}
use Rattle.rt_model.specs.State.{Fault}
use Rattle.run_reports.specs.Seen.{limits_of, usual}
use Rattle.lang_sources.specs.Describes.{Describes}
use Rattle.show_streams.specs.Reads.{Advances}
use Rattle.show_streams.specs.declared.reading.TheConstants.{MOST_BYTES}
use Rattle.show_streams.specs.Writes.{grown, AddsFront, Puts}
use Rattle.show_words.specs.Runs.{DescribedBy, IsRefused}
use Rattle.show_words.specs.Outs.{status_of}
use Rattle.show_words.specs.Texts.{run_lines}
use Rattle.show_words.specs.declared.reason.Stop.{Stop}
use Rattle.show_words.specs.declared.reason.Stop.TheVariants as stops

-- the words are the one for a run that takes what the source's posters post
abbrev pub asks_for_posters : List (List ℕ) → Bool
asks_for_posters [] = false
asks_for_posters (word ∷ []) = bytes_eq word (codes "--posters")
asks_for_posters (word ∷ other ∷ words) = false

-- what each poster of a source posts
abbrev pub lists_in : Source → List (List Post)
lists_in said = map (map post_of) said.posts

-- the source has a list of posts, and neither too many nor too long ones
pub record HasPosters (said : Source) : Type 0 where
  pub some : 1 ≤ length said.posts
  pub few : length said.posts ≤ 1000
  pub short : All (λ (list : List PostSource). length list ≤ 1000000) said.posts

-- the lines of the messages that the drain of the report with this number took
abbrev pub drain_lines : ℕ → List Message → List (List ℕ)
drain_lines number [] = []
drain_lines number (message ∷ messages) = line (taken_text number message) ∷ drain_lines number messages

-- the lines of the messages of drains, drain by drain, the first of which has the report with this number
abbrev pub taken_lines : ℕ → List (List Message) → List (List (List ℕ))
taken_lines number [] = []
taken_lines number (drain ∷ drains) = drain_lines number drain ∷ taken_lines (number + 1) drains

-- the edits that were taken, the reports, and the messages, of which those of the first drain have report 1
abbrev pub posted_text : List Edit → List Report → List (List Message) → List (List ℕ)
posted_text edits reports drains = run_lines edits reports ++ joined (taken_lines 1 drains)

-- a source has the headline over these drains with these edits and reports
unfoldable pub HasHeadlineOver : Source → List (List Message) → List Edit → List Report → Type 0
HasHeadlineOver said drains edits reports =
    Headline (meaning_of said) (props_of said) (drained drains) (limits_of usual) (Some edits) reports

-- its memos and resources are kept in the session of these reports
unfoldable pub KeepsMemosOver : Source → List (List Message) → List Report → Type 0
KeepsMemosOver said drains reports = MemosKept formulas (meaning_of said) Minding (props_of said) (drained drains) (limits_of usual) reports

-- it has the headline of the reports that were finished before a fault
unfoldable pub HasComeOver : Source → List (List Message) → List Edit → List Report → Fault → Type 0
HasComeOver said drains edits reports fault =
    CameTo (meaning_of said) (props_of said) (drained drains) (limits_of usual) (Some edits) reports fault

-- no cut of a merge of what a source's posters post leads to a fault
unfoldable pub IsSafeOver : Source → Type 0
IsSafeOver said = ValidOverCuts (meaning_of said) (props_of said) (lists_in said) (limits_of usual)

-- the text of a run that was done
pub record IsPostedText (said : Source) (text : List (List ℕ)) : Type 0 where
  pub edits : List Edit
  pub reports : List Report
  -- all that the posters post, in the order in which it was taken
  pub drains : List (List Message)
  pub cut : IsCut (lists_in said) usual.drain drains
  pub headline : HasHeadlineOver said drains edits reports
  -- each poll of a memo or of a resource is that of the definitions, and one that nobody else touches is kept after each report
  pub memos : KeepsMemosOver said drains reports
  pub printed : text ≡ posted_text edits reports drains

-- the text of a run that a fault ended
pub record IsPostedFault (said : Source) (text : List (List ℕ)) : Type 0 where
  pub edits : List Edit
  pub reports : List Report
  -- of each poster a front of what it posts
  pub drains : List (List Message)
  pub sized : AreSized usual.drain drains
  pub fronts : HasFronts drains (lists_in said)
  pub fault : Fault
  pub come : HasComeOver said drains edits reports fault
  -- it doesn't come where no cut leads to one
  pub unsafe : IsSafeOver said → ⊥
  pub printed : text ≡ posted_text edits reports drains ++ line (fault_text fault) ∷ []

-- this text of a run that was done was written
pub record PostsDone (said : Source) (old new : Puts) : Type 0 where
  pub text : List (List ℕ)
  pub run : IsPostedText said text
  pub written : new ≡ grown old text

-- this text of a run that a fault ended was written
pub record PostsEnded (said : Source) (old new : Puts) : Type 0 where
  pub text : List (List ℕ)
  pub run : IsPostedFault said text
  pub written : new ≡ grown old text

-- a front of the text of a run was written
pub record PostsFront (said : Source) (old new : Puts) : Type 0 where
  pub text : List (List ℕ)
  pub run : IsPostedText said text ⊎ IsPostedFault said text
  pub front : AddsFront old new text

-- what a run comes to, by what is written and the out's count of failures, before and after
abbrev pub PostsAs : Source → (old new : Puts) → (before now : ℕ) → Result (Unit {0}) Stop → Type 0
PostsAs said old new before now (Ok u) = PostsDone said old new
PostsAs said old new before now (Err stops.Fault) = PostsEnded said old new
PostsAs said old new before now (Err stops.Out) = (before < now) × PostsFront said old new
PostsAs said old new before now (Err stops.OutOfMemory) = (new ≡ old) ⊎ PostsFront said old new
PostsAs said old new before now (Err stops.Words) = ⊥
PostsAs said old new before now (Err stops.Form) = ⊥
PostsAs said old new before now (Err stops.Source) = ⊥

-- the input was read to its end, and its bytes describe a source whose run came to this
pub record Ran (left after : Option (List ℕ)) (old new : Puts) (before now : ℕ) (result : Result (Unit {0}) Stop) : Type 0 where
  pub said : Source
  pub described : DescribedBy said left after
  pub posters : HasPosters said
  pub run : PostsAs said old new before now result

-- the input is too long, or describes no source, or one without a list of posts
pub record HasNoPosts (left after : Option (List ℕ)) : Type 0 where
  pub said : Source
  pub described : DescribedBy said left after
  pub none : said.posts ≡ []

-- what the program comes to where the words ask for posters
abbrev pub Posts :
    (left after : Option (List ℕ)) (old new : Puts) → (source_before source_after out_before out_after : ℕ)
    → Result (Unit {0}) Stop → Type 0
Posts left after old new source_before source_after out_before out_after (Ok u) = Ran left after old new out_before out_after (Ok u)
Posts left after old new source_before source_after out_before out_after (Err stops.Fault) =
    Ran left after old new out_before out_after (Err stops.Fault)
Posts left after old new source_before source_after out_before out_after (Err stops.Out) =
    Ran left after old new out_before out_after (Err stops.Out)
Posts left after old new source_before source_after out_before out_after (Err stops.OutOfMemory) =
    (new ≡ old) ⊎ Ran left after old new out_before out_after (Err stops.OutOfMemory)
Posts left after old new source_before source_after out_before out_after (Err stops.Form) =
    (IsRefused left after ⊎ HasNoPosts left after) × (new ≡ old)
Posts left after old new source_before source_after out_before out_after (Err stops.Source) =
    (source_before < source_after) × Advances MOST_BYTES left after × (new ≡ old)
Posts left after old new source_before source_after out_before out_after (Err stops.Words) = ⊥

-- the input is told, it describes a source with a list of posts, and no cut of what its posters post leads to a fault
pub record SafePosts (left : Option (List ℕ)) : Type 0 where
  pub bytes : List ℕ
  pub told : left ≡ Some bytes
  pub said : Source
  pub described : Describes bytes said
  pub some : (other : Source) → Describes bytes other → other.posts ≢ []
  pub safe : (other : Source) → Describes bytes other → IsSafeOver other

-- what a status says: it is that of an end, and the end says what became of the words, the input and the out
pub record ShowsPosted
    (words : List (List ℕ))
    (left after : Option (List ℕ)) (old new : Puts) (source_before source_after out_before out_after status : ℕ)
    : Type 0 where
  pub end : Result (Unit {0}) Stop
  pub is : status ≡ status_of end
  -- 2: exactly where the words ask for something else; nothing is read or written then
  pub unlisted : (end ≡ Err stops.Words) ↔ (asks_for_posters words ≡ false)
  pub nothing : asks_for_posters words ≡ false → (new ≡ old) × (after ≡ left) × (source_after ≡ source_before)
  pub posts : asks_for_posters words ≡ true → Posts left after old new source_before source_after out_before out_after end
  -- 3: it comes wherever an input that tells its bytes describes no source with a list of posts, unless a read fails or memory is wanted
  pub refuses :
      asks_for_posters words ≡ true → (bytes : List ℕ) → left ≡ Some bytes → ((said : Source) → Describes bytes said → said.posts ≡ [])
      → (status ≡ 3) ⊎ ((status ≡ 5) ⊎ (status ≡ 7))
  -- where no cut leads to a fault and no failure is counted, the run is done, unless memory is wanted
  pub completes :
      asks_for_posters words ≡ true → SafePosts left → source_after ≤ source_before → out_after ≤ out_before
      → (status ≡ 0) ⊎ (status ≡ 7)
