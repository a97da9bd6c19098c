-- What each status of the program says of an application that is given line by line.
use Rattle.std.specs.Prelude.{◌≡◌, ◌⊎◌, ◌↔◌, ◌||◌, ℕ, ◌<◌, Bool, true, false, List, [], ◌∷◌, ◌++◌, bytes_eq, codes, Option, Some, None, Result, Ok, Err}
use Rattle.rt_model.specs.Lists.{Text}
use Rattle.show_answers.specs.Told.{Form, text_form}
use Rattle.show_objects.specs.Objects.{object_form}
use Rattle.show_lines.specs.Lines.{FirstIsLonger, lines_of}
use Rattle.show_stream.specs.Streams.{IsStreamed, IsStreamedFault, IsStreamedPart}
use Rattle.show_stream.specs.UnderWay.{IsUnderWay}
use Rattle.show_stream.specs.declared.streaming.Streaming.{Streaming}
use Rattle.show_streams.specs.Writes.{AddsFront, Puts, grown}
use Rattle.show_streams.specs.declared.reading.TheConstants.{MOST_BYTES}
use Rattle.show_words.specs.Asked.{SaysNone}
use Rattle.show_words.specs.Outs.{status_of}
use Rattle.show_words.specs.declared.reason.Stop.{Stop}
use Rattle.show_words.specs.declared.reason.Stop.TheVariants as stops

-- the words are this one alone
abbrev pub is_word : List (List ℕ) → List ℕ → Bool
is_word [] name = false
is_word (word ∷ []) name = bytes_eq word name
is_word (word ∷ other ∷ words) name = false

-- the form, by which word they are
abbrev pub form_by : Bool → Bool → Option Form
form_by true objects = Some text_form
form_by false true = Some object_form
form_by false false = None

-- the form in which the words ask to tell of an application that is given line by line: in lines of text, or in objects of JSON
abbrev pub form_asked : List (List ℕ) → Option Form
form_asked words = form_by (is_word words (codes "--stream")) (is_word words (codes "--stream-json"))

-- the words are one of these two
abbrev pub asks_for_stream : List (List ℕ) → Bool
asks_for_stream words = is_word words (codes "--stream") || is_word words (codes "--stream-json")

-- of what was to be read, where that is told, the first line and these lines were handed out, and the others are those of what is left
abbrev pub IsReading : List ℕ → List (List ℕ) → (start now : Option (List ℕ)) → Type 0
IsReading first lines None now = now ≡ None
IsReading first lines (Some all) now = (rest : List ℕ) × (now ≡ Some rest) × (lines_of all ≡ first ∷ (lines ++ lines_of rest))

-- some lines were read, with what is left then, and a text of them was put, or some of it
pub record ReadAndPut (start : Option (List ℕ)) (Left : Option (List ℕ) → Type 0) (Is : List ℕ → List (List ℕ) → List Text → Type 0)
    (IsPut : List Text → Type 0) : Type 0 where
  pub first : List ℕ
  pub lines : List (List ℕ)
  pub now : Option (List ℕ)
  pub reading : IsReading first lines start now
  pub left : Left now
  pub text : List Text
  pub is : Is first lines text
  pub put : IsPut text

-- nothing is said of what is left
abbrev pub Whatever : Option (List ℕ) → Type 0
Whatever now = Unit {0}

-- nothing is left, where that is told
abbrev pub IsOver : Option (List ℕ) → Type 0
IsOver None = Unit {0}
IsOver (Some rest) = rest ≡ []

-- lines were read, and what was put is their text, of which the headline holds
abbrev pub SoFar : (form : Form) → (start : Option (List ℕ)) (Left : Option (List ℕ) → Type 0) (old new : Puts) → Type 0
SoFar form start Left old new = ReadAndPut start Left (IsStreamed form) (λ text. new ≡ grown old text)

-- what was put is a front of a text of the lines that were read
abbrev pub PartSoFar : (form : Form) → (start : Option (List ℕ)) (old new : Puts) → Type 0
PartSoFar form start old new = ReadAndPut start Whatever (IsStreamedPart form) (λ text. AddsFront old new text)

-- there is no first line, it is too long, or it describes no source
abbrev pub HasNoFirst : Option (List ℕ) → Type 0
HasNoFirst None = Unit {0}
HasNoFirst (Some all) =
    (all ≡ [])
    ⊎ (FirstIsLonger MOST_BYTES (Some all) ⊎ ((first : List ℕ) × (lines : List (List ℕ)) × (lines_of all ≡ first ∷ lines) × SaysNone first))

-- what the program comes to, by what is to be read, what is put, and the counts of failures, before and after
abbrev pub Comes : (form : Form) →
    (start : Option (List ℕ)) (old new : Puts) → (source_before source_after out_before out_after : ℕ) → Result (Unit {0}) Stop → Type 0
Comes form start old new source_before source_after out_before out_after (Ok u) = SoFar form start IsOver old new
Comes form start old new source_before source_after out_before out_after (Err stops.Form) =
    (HasNoFirst start × (new ≡ old)) ⊎ SoFar form start (FirstIsLonger MOST_BYTES) old new
Comes form start old new source_before source_after out_before out_after (Err stops.Fault) =
    ReadAndPut start Whatever (IsStreamedFault form) (λ text. new ≡ grown old text)
Comes form start old new source_before source_after out_before out_after (Err stops.Source) =
    (source_before < source_after) × ((new ≡ old) ⊎ SoFar form start Whatever old new)
Comes form start old new source_before source_after out_before out_after (Err stops.Out) =
    (out_before < out_after) × PartSoFar form start old new
Comes form start old new source_before source_after out_before out_after (Err stops.OutOfMemory) =
    (new ≡ old) ⊎ PartSoFar form start old new
Comes form start old new source_before source_after out_before out_after (Err stops.Words) = ⊥

-- no line was handed out, by why the program stops: a read failed, the line is too long, or memory was wanting
abbrev pub LacksLine : (start : Option (List ℕ)) → (before after : ℕ) → Stop → Type 0
LacksLine start before after stops.Source = before < after
LacksLine start before after stops.Form = FirstIsLonger MOST_BYTES start
LacksLine start before after stops.OutOfMemory = Unit {0}
LacksLine start before after stops.Words = ⊥
LacksLine start before after stops.Fault = ⊥
LacksLine start before after stops.Out = ⊥

-- the first line was opened, with what is left behind it; or the program stops there as it says
abbrev pub OpensFirst : (form : Form) →
    (start now : Option (List ℕ)) (old new : Puts) → (source_before source_after out_before out_after : ℕ) → Result Streaming Stop → Type 0
OpensFirst form start now old new source_before source_after out_before out_after (Ok s) =
    (first : List ℕ) × (text : List Text) × IsReading first [] start now × IsUnderWay form first [] text s × (new ≡ grown old text)
OpensFirst form start now old new source_before source_after out_before out_after (Err stop) =
    Comes form start old new source_before source_after out_before out_after (Err stop)

-- what a status says, with the words, what is left of the input, what is written, and the counts of failures, before and after
pub record ShowsStreamed
    (words : List (List ℕ))
    (left after : Option (List ℕ)) (old new : Puts) (source_before source_after out_before out_after status : ℕ)
    : Type 0 where
  pub end : Result (Unit {0}) Stop
  pub is : status ≡ status_of end
  -- 2: exactly where the words ask for something else; nothing is read or written then
  pub unlisted : (end ≡ Err stops.Words) ↔ (form_asked words ≡ None)
  pub nothing : form_asked words ≡ None → (new ≡ old) × (after ≡ left) × (source_after ≡ source_before)
  -- else: at 0 all lines were read and what was written is the text of a session of which the headline holds; at 3 so it is of the lines
  -- before one that is too long, or there is no first line of a source and nothing was written; at 4 the text ends with a fault's line;
  -- at 5 it is that of the lines before the read that failed, or nothing; at 6 and 7 a front of such a text was written
  pub comes : (form : Form) → form_asked words ≡ Some form → Comes form left old new source_before source_after out_before out_after end
