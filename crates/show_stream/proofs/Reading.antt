-- Line after line, and where the program stops.
use Rattle.std.proofs.Common.{◌≡◌, ℕ, ◌<◌, ◌≤◌, Bool, true, false, List, [], ◌∷◌, ◌++◌, Result, Ok, Err, refl, sym, ap, ◌∙◌, subst, inl, inr, append_assoc, append-nil, arith}
use Rattle.std.specs.Prelude.{codes, Option, Some, None}
use Rattle.rt_lemmas.proofs.Options.{some_same}
use Rattle.rt_model.specs.Lists.{Text}
use Rattle.show_answers.specs.Told.{Form}
use Rattle.show_lines.proofs.Cutting.{lines_cut}
use Rattle.show_lines.specs.Held.{Held, none_held, unread}
use Rattle.show_lines.specs.Lines.{FirstIsLonger, ReadsLine, lines_of}
use Rattle.show_stream.proofs.Asking.{says_front}
use Rattle.show_stream.proofs.Stopping.{front_behind, grown_twice}
use Rattle.show_stream.specs.Statuses.{Comes, HasNoFirst, IsOver, IsReading, LacksLine, OpensFirst, PartSoFar, ShowsStreamed, SoFar, Whatever, form_asked, form_by, is_word}
use Rattle.show_stream.specs.Streams.{IsStreamed, IsStreamedPart, own_asked}
use Rattle.show_stream.specs.UnderWay.{Answers, IsUnderWay, Opens, PutsPart}
use Rattle.show_stream.specs.declared.streaming.Streaming.{Streaming}
use Rattle.show_streams.specs.Reads.{preceded}
use Rattle.show_streams.specs.Writes.{Puts, grown}
use Rattle.show_streams.specs.declared.reading.TheConstants.{MOST_BYTES}
use Rattle.show_words.specs.Asked.{SaysNone}
use Rattle.show_words.specs.Outs.{status_of}
use Rattle.show_words.specs.declared.reason.Stop.{Stop}
use Rattle.show_words.specs.declared.reason.Stop.TheVariants as stops

none_before : (left : Option (List ℕ)) → preceded [] left ≡ left
none_before None = refl
none_before (Some bytes) = refl

-- nothing was held of what is to be read
pub nothing_held : (held : Held) (left : Option (List ℕ)) → held ≡ none_held → preceded (unread held) left ≡ left
nothing_held held left none = ap (λ (h : Held). preceded (unread h) left) none ∙ none_before left

-- the first line was read
pub first_read : (first : List ℕ) (start now : Option (List ℕ)) → ReadsLine (Some first) start now → IsReading first [] start now
first_read first None now reads = reads
first_read first (Some all) now reads = (reads.0, reads.1, lines_cut first all reads.0 reads.2)

-- one line more
pub next_read : (first : List ℕ) (lines : List (List ℕ)) (bytes : List ℕ) (start now next : Option (List ℕ))
    → IsReading first lines start now → ReadsLine (Some bytes) now next → IsReading first (lines ++ bytes ∷ []) start next
next_read first lines bytes None None next reading reads = reads
next_read first lines bytes None (Some left) next reading reads = absurd (cc reading)
next_read first lines bytes (Some all) None next reading reads = absurd (cc reading.1)
next_read first lines bytes (Some all) (Some left) next reading reads =
    let same : left ≡ reading.0 = some_same left reading.0 reading.1 in
    let cut : lines_of reading.0 ≡ bytes ∷ lines_of reads.0 = ap lines_of (sym same) ∙ lines_cut bytes left reads.0 reads.2 in (
      reads.0,
      reads.1,
      reading.2 ∙ ap (λ more. first ∷ (lines ++ more)) cut ∙ ap (λ all. first ∷ all) (sym (append_assoc lines (bytes ∷ []) (lines_of reads.0))),
    )

-- nothing is left to read
over : (now next : Option (List ℕ)) → ReadsLine None now next → IsOver now
over None next reads = tt
over (Some all) next reads = reads.0

-- there is no first line, by why none was handed out
no_first : (start : Option (List ℕ)) → FirstIsLonger MOST_BYTES start → HasNoFirst start
no_first None longer = tt
no_first (Some all) longer = inr (inl longer)

none_first : (start now : Option (List ℕ)) → ReadsLine None start now → HasNoFirst start
none_first None now reads = tt
none_first (Some all) now reads = inl reads.0

-- a first line that describes no source
unfit_first : (first : List ℕ) (start now : Option (List ℕ)) → ReadsLine (Some first) start now → SaysNone first → HasNoFirst start
unfit_first first None now reads none = tt
unfit_first first (Some all) now reads none = inr (inr (first, lines_of reads.0, lines_cut first all reads.0 reads.2, none))

-- the first line was not had
pub lacks_first : (form : Form) → (start now : Option (List ℕ)) (old new : Puts) (sb sa ob oa : ℕ) (stop : Stop)
    → LacksLine start sb sa stop → new ≡ old → OpensFirst form start now old new sb sa ob oa (Err stop)
lacks_first form start now old new sb sa ob oa stops.Source lacks same = (lacks, inl same)
lacks_first form start now old new sb sa ob oa stops.Form lacks same = inl ((no_first start lacks, same))
lacks_first form start now old new sb sa ob oa stops.OutOfMemory lacks same = inl same
lacks_first form start now old new sb sa ob oa stops.Words lacks same = absurd lacks
lacks_first form start now old new sb sa ob oa stops.Fault lacks same = absurd lacks
lacks_first form start now old new sb sa ob oa stops.Out lacks same = absurd lacks

-- there was none
pub without_first : (form : Form) → (start now : Option (List ℕ)) (old new : Puts) (sb sa ob oa : ℕ)
    → ReadsLine None start now → new ≡ old → OpensFirst form start now old new sb sa ob oa (Err stops.Form)
without_first form start now old new sb sa ob oa reads same = inl ((none_first start now reads, same))

-- it was opened, or the program stops there
pub opens_first : (form : Form) → (first : List ℕ) (start now : Option (List ℕ)) (old new : Puts) (sb sa ob oa : ℕ) (result : Result Streaming Stop)
    → ReadsLine (Some first) start now → Opens form first old new ob oa result → OpensFirst form start now old new sb sa ob oa result
opens_first form first start now old new sb sa ob oa (Ok s) reads opens = (first, opens.own, first_read first start now reads, opens.is, opens.put)
opens_first form first start now old new sb sa ob oa (Err stops.Form) reads opens = inl ((unfit_first first start now reads opens.0, opens.1))
opens_first form first start now old new sb sa ob oa (Err stops.Fault) reads opens =
    record { first = first; lines = []; now = now; reading = first_read first start now reads; left = tt; text = opens.own; is = opens.is; put = opens.put }
opens_first form first start now old new sb sa ob oa (Err stops.Out) reads opens =
    (opens.0, record { first = first; lines = []; now = now; reading = first_read first start now reads; left = tt; text = opens.1.own; is = opens.1.is; put = opens.1.front })
opens_first form first start now old new sb sa ob oa (Err stops.OutOfMemory) reads opens =
    elim opens [
      | inl same ↦ inl same
      | inr part ↦ inr (record { first = first; lines = []; now = now; reading = first_read first start now reads; left = tt; text = part.own; is = part.is; put = part.front })
    ]
opens_first form first start now old new sb sa ob oa (Err stops.Words) reads opens = absurd opens
opens_first form first start now old new sb sa ob oa (Err stops.Source) reads opens = absurd opens

-- some lines more were answered
pub record Goes (form : Form) (start : Option (List ℕ)) (at : Puts) (first : List ℕ) (now : Option (List ℕ)) (new : Puts) (s : Streaming) : Type 0 where
  pub lines : List (List ℕ)
  pub text : List Text
  pub reading : IsReading first lines start now
  pub is : IsUnderWay form first lines text s
  pub put : new ≡ grown at text

-- what was put so far is told
abbrev pub AreTold : (form : Form) → Streaming → Type 0
AreTold form s = (first : List ℕ) (lines : List (List ℕ)) (text : List Text) → IsUnderWay form first lines text s → IsStreamed form first lines text

part_of : (form : Form) → (first : List ℕ) (lines : List (List ℕ)) (text : List Text) → IsStreamed form first lines text → IsStreamedPart form first lines text
part_of form first lines text is =
    record {
      source = is.source;
      described = is.described;
      said = is.said;
      says = says_front lines is.said is.says;
      asked = own_asked is.source ++ is.said;
      rest = [];
      among = append-nil (own_asked is.source ++ is.said);
      told = inl is.told;
    }

module _ (form : Form) (start : Option (List ℕ)) (at : Puts) (first : List ℕ) (now : Option (List ℕ)) (new : Puts) (s : Streaming) (goes : Goes form start at first now new s) where
  sofar : (Left : Option (List ℕ) → Type 0) → Left now → AreTold form s → SoFar form start Left at new
  sofar Left left told =
      record { first = first; lines = goes.lines; now = now; reading = goes.reading; left = left; text = goes.text; is = told first goes.lines goes.text goes.is; put = goes.put }

  -- all lines were answered
  pub goes_over : (next : Option (List ℕ)) (sb sa ob oa : ℕ) → AreTold form s → ReadsLine None now next → Comes form start at new sb sa ob oa (Ok tt)
  goes_over next sb sa ob oa told reads = sofar IsOver (over now next reads) told

  -- memory was wanting
  pub goes_wanting : (sb sa ob oa : ℕ) → AreTold form s → Comes form start at new sb sa ob oa (Err stops.OutOfMemory)
  goes_wanting sb sa ob oa told =
      inr (record {
        first = first;
        lines = goes.lines;
        now = now;
        reading = goes.reading;
        left = tt;
        text = goes.text;
        is = part_of form first goes.lines goes.text (told first goes.lines goes.text goes.is);
        put = record {
          front = goes.text;
          part = [];
          rest = [];
          whole = sym (append-nil goes.text);
          begun = tt;
          added = goes.put ∙ ap (λ texts. grown at texts) (sym (append-nil goes.text));
        };
      })

  -- the next line was not had
  pub goes_without : (sb sm sa ob oa : ℕ) (stop : Stop) → sb ≤ sm → AreTold form s → LacksLine now sm sa stop → Comes form start at new sb sa ob oa (Err stop)
  goes_without sb sm sa ob oa stops.Source later told lacks =
      let failed : sm < sa = lacks in
      let counted : sb < sa = omega (arith, later, failed) in
      (counted, inr (sofar Whatever tt told))
  goes_without sb sm sa ob oa stops.Form later told lacks = inr (sofar (FirstIsLonger MOST_BYTES) lacks told)
  goes_without sb sm sa ob oa stops.OutOfMemory later told lacks = goes_wanting sb sa ob oa told
  goes_without sb sm sa ob oa stops.Words later told lacks = absurd lacks
  goes_without sb sm sa ob oa stops.Fault later told lacks = absurd lacks
  goes_without sb sm sa ob oa stops.Out later told lacks = absurd lacks

  module _ (bytes : List ℕ) (next : Option (List ℕ)) (reads : ReadsLine (Some bytes) now next) (after : Puts) (t : Streaming) where
    -- it was answered
    pub goes_on : (ob oa : ℕ) → Answers form first goes.lines bytes goes.text new after ob oa t (Ok tt) → Goes form start at first next after t
    goes_on ob oa answers =
        record {
          lines = goes.lines ++ bytes ∷ [];
          text = goes.text ++ answers.own;
          reading = next_read first goes.lines bytes start now next goes.reading reads;
          is = answers.is;
          put = answers.put ∙ ap (λ p. grown p answers.own) goes.put ∙ grown_twice at goes.text answers.own;
        }

    part : (is : PutsPart (λ own. IsStreamedPart form first (goes.lines ++ bytes ∷ []) own) goes.text new after) → PartSoFar form start at after
    part is =
        record {
          first = first;
          lines = goes.lines ++ bytes ∷ [];
          now = next;
          reading = next_read first goes.lines bytes start now next goes.reading reads;
          left = tt;
          text = goes.text ++ is.own;
          is = is.is;
          put = front_behind goes.text is.own at new after goes.put is.front;
        }

    -- the program stops there
    pub goes_stop : (sb sa ob om oa : ℕ) (stop : Stop) → ob ≤ om → Answers form first goes.lines bytes goes.text new after om oa t (Err stop)
        → Comes form start at after sb sa ob oa (Err stop)
    goes_stop sb sa ob om oa stops.Fault later answers =
        record {
          first = first;
          lines = goes.lines ++ bytes ∷ [];
          now = next;
          reading = next_read first goes.lines bytes start now next goes.reading reads;
          left = tt;
          text = goes.text ++ answers.own;
          is = answers.is;
          put = answers.put ∙ ap (λ p. grown p answers.own) goes.put ∙ grown_twice at goes.text answers.own;
        }
    goes_stop sb sa ob om oa stops.Out later answers =
        let failed : om < oa = answers.0 in
        let counted : ob < oa = omega (arith, later, failed) in
        (counted, part answers.1)
    goes_stop sb sa ob om oa stops.OutOfMemory later answers = inr (part answers)
    goes_stop sb sa ob om oa stops.Words later answers = absurd answers
    goes_stop sb sa ob om oa stops.Form later answers = absurd answers
    goes_stop sb sa ob om oa stops.Source later answers = absurd answers

-- counts that rose before count, too
pub comes_later : (form : Form) → (start : Option (List ℕ)) (at new : Puts) (sb sm sa ob om oa : ℕ) (result : Result (Unit {0}) Stop) → sb ≤ sm → ob ≤ om
    → Comes form start at new sm sa om oa result → Comes form start at new sb sa ob oa result
comes_later form start at new sb sm sa ob om oa (Ok u) s o comes = comes
comes_later form start at new sb sm sa ob om oa (Err stops.Form) s o comes = comes
comes_later form start at new sb sm sa ob om oa (Err stops.Fault) s o comes = comes
comes_later form start at new sb sm sa ob om oa (Err stops.Source) s o comes =
    let failed : sm < sa = comes.0 in
    let counted : sb < sa = omega (arith, s, failed) in
    (counted, comes.1)
comes_later form start at new sb sm sa ob om oa (Err stops.Out) s o comes =
    let failed : om < oa = comes.0 in
    let counted : ob < oa = omega (arith, o, failed) in
    (counted, comes.1)
comes_later form start at new sb sm sa ob om oa (Err stops.OutOfMemory) s o comes = comes
comes_later form start at new sb sm sa ob om oa (Err stops.Words) s o comes = absurd comes

-- where the words ask for none of the forms the program stops at them
words_asked : (left : Option (List ℕ)) (old new : Puts) (sb sa ob oa : ℕ) (end : Result (Unit {0}) Stop) (asked : Option Form)
    → ((form : Form) → asked ≡ Some form → Comes form left old new sb sa ob oa end) → end ≡ Err stops.Words → asked ≡ None
words_asked left old new sb sa ob oa end None comes stop = refl
words_asked left old new sb sa ob oa end (Some form) comes stop =
    absurd (subst (λ e. Comes form left old new sb sa ob oa e) stop (comes form refl))

-- which form the words ask for, by which word they are
pub form_is : (words : List (List ℕ)) (text objects : Bool) → is_word words (codes "--stream") ≡ text → is_word words (codes "--stream-json") ≡ objects
    → form_asked words ≡ form_by text objects
form_is words text objects first second = λ i. form_by (first i) (second i)

-- it is one alone
pub same_form : (asked : Option Form) (form other : Form) → asked ≡ Some form → asked ≡ Some other → form ≡ other
same_form asked form other is also = some_same form other (sym is ∙ also)

-- a status is that of where the program stops
pub shows_streamed : (words : List (List ℕ)) (left after : Option (List ℕ)) (old new : Puts) (sb sa ob oa status : ℕ) (end : Result (Unit {0}) Stop)
    → status ≡ status_of end
    → (form_asked words ≡ None → (end ≡ Err stops.Words) × (new ≡ old) × (after ≡ left) × (sa ≡ sb))
    → ((form : Form) → form_asked words ≡ Some form → Comes form left old new sb sa ob oa end)
    → ShowsStreamed words left after old new sb sa ob oa status
shows_streamed words left after old new sb sa ob oa status end is unasked comes =
    record {
      end = end;
      is = is;
      unlisted = (λ stop. words_asked left old new sb sa ob oa end (form_asked words) comes stop, λ other. (unasked other).0);
      nothing = λ other. ((unasked other).1, (unasked other).2, (unasked other).3);
      comes = comes;
    }
