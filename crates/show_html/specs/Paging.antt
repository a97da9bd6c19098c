-- What the program prints of a source that is served as a page in pieces, and what its statuses say.
use Rattle.std.specs.Prelude.{◌≡◌, ◌↔◌, ◌⊎◌, ℕ, ◌<◌, ◌≤◌, Bool, true, false, List, [], ◌∷◌, ◌++◌, bytes_eq, codes, option_and_then, option_map, Option, Some, None, Result, Ok, Err}
use Rattle.lang_sources.specs.Describes.{Describes}
use Rattle.rt_language.specs.Expressions.{SourceTypes}
use Rattle.rt_language.specs.Lines.{line, fault_text}
use Rattle.rt_language.specs.Meaning.{inputs_of, meaning_of, props_of}
use Rattle.rt_language.specs.Syntax.{Source}
use Rattle.rt_model.specs.Replay.{Drain, EventAt, Input, MarkOf, WakeOf, WriteOf}
use Rattle.rt_model.specs.State.{Fault, State}
use Rattle.run_reports.specs.Seen.{limits_of, usual}
use Rattle.rt_served.specs.Serving.{ComesTo, Served}
use Rattle.show_streams.specs.Reads.{Advances}
use Rattle.show_streams.specs.Writes.{AddsFront, Puts, grown}
use Rattle.show_streams.specs.declared.reading.TheConstants.{MOST_BYTES}
use Rattle.show_words.specs.Outs.{status_of}
use Rattle.show_words.specs.Runs.{DescribedBy, IsRefused}
use Rattle.show_words.specs.declared.reason.Stop.{Stop}
use Rattle.show_words.specs.declared.reason.Stop.TheVariants as stops

-- the words are the one for a page in pieces
abbrev pub asks_for_page : List (List ℕ) → Bool
asks_for_page [] = false
asks_for_page (word ∷ []) = bytes_eq word (codes "--html")
asks_for_page (word ∷ other ∷ words) = false

-- the task that an input wakes, where it does that
abbrev pub wake_in : Input SourceTypes → Option ℕ
wake_in (EventAt name payload element bubbles) = None
wake_in (WakeOf task) = Some task
wake_in (WriteOf cell value) = None
wake_in (MarkOf scope) = None
wake_in (Drain messages) = None

-- the tasks that inputs wake, where they do nothing else
abbrev pub wakes_in : List (Input SourceTypes) → Option (List ℕ)
wakes_in [] = Some []
wakes_in (input ∷ inputs) = option_and_then (λ task. option_map (λ tasks. task ∷ tasks) (wakes_in inputs)) (wake_in input)

-- the inputs of a source wake these tasks, and do nothing else
abbrev pub AreWakes : Source → List ℕ → Type 0
AreWakes said tasks = wakes_in (inputs_of said.inputs) ≡ Some tasks

-- a source has other inputs
abbrev pub HasOthers : Source → Type 0
HasOthers said = wakes_in (inputs_of said.inputs) ≡ None

-- this is served of a source with these wakes, within the usual limits
unfoldable pub IsServed : Source → List ℕ → List (List ℕ) → Type 0
IsServed said tasks text =
    (last : State SourceTypes) × Served (meaning_of said) (limits_of usual) (props_of said) tasks text last

-- its run with these wakes comes to this fault
unfoldable pub IsStopped : Source → List ℕ → Fault → Type 0
IsStopped said tasks fault = ComesTo (meaning_of said) (limits_of usual) (props_of said) tasks fault

-- its inputs are wakes alone, and its run with them comes to no fault
pub record IsSafePage (said : Source) : Type 0 where
  pub tasks : List ℕ
  pub wakes : AreWakes said tasks
  pub safe : (fault : Fault) → IsStopped said tasks fault → ⊥

-- the text that is served with all wakes
pub record IsPageText (said : Source) (text : List (List ℕ)) : Type 0 where
  pub tasks : List ℕ
  pub wakes : AreWakes said tasks
  pub served : IsServed said tasks text

-- nothing, or what is served with a front of these wakes
pub record IsPagePart (said : Source) (tasks : List ℕ) (text : List (List ℕ)) : Type 0 where
  pub done : List ℕ
  pub later : List ℕ
  pub cut : tasks ≡ done ++ later
  pub served : (text ≡ []) ⊎ IsServed said done text

-- the text of a page that a fault ended: such a part, and the line of the fault
pub record IsEndedPage (said : Source) (text : List (List ℕ)) : Type 0 where
  pub tasks : List ℕ
  pub wakes : AreWakes said tasks
  pub shown : List (List ℕ)
  pub part : IsPagePart said tasks shown
  pub fault : Fault
  pub comes : IsStopped said tasks fault
  pub printed : text ≡ shown ++ line (fault_text fault) ∷ []

-- that of a page that is under way
pub record IsPageFront (said : Source) (text : List (List ℕ)) : Type 0 where
  pub tasks : List ℕ
  pub wakes : AreWakes said tasks
  pub part : IsPagePart said tasks text

-- this text of a page that was served was written
pub record PagesDone (said : Source) (old new : Puts) : Type 0 where
  pub text : List (List ℕ)
  pub page : IsPageText said text
  pub written : new ≡ grown old text

-- this text of a page that a fault ended was written
pub record PagesEnded (said : Source) (old new : Puts) : Type 0 where
  pub text : List (List ℕ)
  pub page : IsEndedPage said text
  pub written : new ≡ grown old text

-- a front of such a text was written
pub record PagesFront (said : Source) (old new : Puts) : Type 0 where
  pub text : List (List ℕ)
  pub page : IsPageFront said text ⊎ IsEndedPage said text
  pub front : AddsFront old new text

-- what serving a source comes to, by what is written and the out's count of failures, before and after
abbrev pub PagesAs : Source → (old new : Puts) → (before now : ℕ) → Result (Unit {0}) Stop → Type 0
PagesAs said old new before now (Ok u) = PagesDone said old new
PagesAs said old new before now (Err stops.Fault) = PagesEnded said old new
PagesAs said old new before now (Err stops.Out) = (before < now) × PagesFront said old new
PagesAs said old new before now (Err stops.OutOfMemory) = (new ≡ old) ⊎ PagesFront said old new
PagesAs said old new before now (Err stops.Form) = HasOthers said × (new ≡ old)
PagesAs said old new before now (Err stops.Words) = ⊥
PagesAs said old new before now (Err stops.Source) = ⊥

-- the input was read to its end, and its bytes describe a source that serving came to this
pub record Ran (left after : Option (List ℕ)) (old new : Puts) (before now : ℕ) (result : Result (Unit {0}) Stop) : Type 0 where
  pub said : Source
  pub described : DescribedBy said left after
  pub run : PagesAs said old new before now result

-- the input is too long, or describes no source, or one with other inputs
abbrev pub Refuses : (left after : Option (List ℕ)) → (old new : Puts) → (before now : ℕ) → Type 0
Refuses left after old new before now =
    (IsRefused left after × (new ≡ old)) ⊎ Ran left after old new before now (Err stops.Form)

-- what the program comes to where the words ask for a page
abbrev pub Pages :
    (left after : Option (List ℕ)) (old new : Puts) → (source_before source_after out_before out_after : ℕ)
    → Result (Unit {0}) Stop → Type 0
Pages left after old new source_before source_after out_before out_after (Ok u) = Ran left after old new out_before out_after (Ok u)
Pages left after old new source_before source_after out_before out_after (Err stops.Fault) =
    Ran left after old new out_before out_after (Err stops.Fault)
Pages left after old new source_before source_after out_before out_after (Err stops.Out) =
    Ran left after old new out_before out_after (Err stops.Out)
Pages left after old new source_before source_after out_before out_after (Err stops.OutOfMemory) =
    (new ≡ old) ⊎ Ran left after old new out_before out_after (Err stops.OutOfMemory)
Pages left after old new source_before source_after out_before out_after (Err stops.Form) =
    Refuses left after old new out_before out_after
Pages left after old new source_before source_after out_before out_after (Err stops.Source) =
    (source_before < source_after) × Advances MOST_BYTES left after × (new ≡ old)
Pages left after old new source_before source_after out_before out_after (Err stops.Words) = ⊥

-- the input is told, it describes a source whose inputs are wakes alone, and no run of what it describes comes to a fault
pub record SafePages (left : Option (List ℕ)) : Type 0 where
  pub bytes : List ℕ
  pub told : left ≡ Some bytes
  pub said : Source
  pub described : Describes bytes said
  pub safe : (other : Source) → Describes bytes other → IsSafePage other

-- what a status says: it is that of an end, and the end says what became of the words, the input and the out
pub record ShowsPaged
    (words : List (List ℕ))
    (left after : Option (List ℕ)) (old new : Puts) (source_before source_after out_before out_after status : ℕ)
    : Type 0 where
  pub end : Result (Unit {0}) Stop
  pub is : status ≡ status_of end
  -- 2: exactly where the words ask for something else; nothing is read or written then
  pub unlisted : (end ≡ Err stops.Words) ↔ (asks_for_page words ≡ false)
  pub nothing : asks_for_page words ≡ false → (new ≡ old) × (after ≡ left) × (source_after ≡ source_before)
  pub pages : asks_for_page words ≡ true → Pages left after old new source_before source_after out_before out_after end
  -- 3: it comes wherever an input that tells its bytes describes no source with wakes alone, unless a read fails or memory is wanted
  pub refuses :
      asks_for_page words ≡ true → (bytes : List ℕ) → left ≡ Some bytes → ((said : Source) → Describes bytes said → HasOthers said)
      → (status ≡ 3) ⊎ ((status ≡ 5) ⊎ (status ≡ 7))
  -- where no run comes to a fault and no failure is counted, the page is served, unless memory is wanted
  pub completes :
      asks_for_page words ≡ true → SafePages left → source_after ≤ source_before → out_after ≤ out_before
      → (status ≡ 0) ⊎ (status ≡ 7)
