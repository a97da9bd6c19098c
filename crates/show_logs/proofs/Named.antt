-- Which entry a word is.
use Rattle.std.proofs.Common.{ℕ, ◌^◌, ◌<◌, Bool, true, false, List, ◌≡◌, sym, ◌∙◌, bytes_eq, arith}
use Rattle.std.proofs.lemmas.Slice.Eq.{bytes_eq-Decides}
use Rattle.std.specs.Prelude.{codes, Option, Some, None, Result, Ok, Err, IfOk}
use Rattle.rt_lemmas.proofs.Options.{some_same}
use Rattle.serde_json.specs.Data.{Data}
use Rattle.serde_json.specs.Find.{as_str}
use Rattle.rt_model.specs.Replay.{Entry, Build, Taken, Heard, Rerun, Poll, Effects, Made, Fed, Kept, Removed}
use Rattle.run_reports.specs.declared.entry.Entry.{Entry as Noted}
use Rattle.show_logs.specs.Reading.{ReadsNumbered, ReadsWord, ReadsEntry, ServesNone}
use Rattle.show_logs.specs.Written.{IsWord}

-- a word has no number behind a name
abbrev NoNumber : List ℕ → List ℕ → Type 0
NoNumber word name = ReadsNumbered word name None

pub serves_none : (word : List ℕ) → NoNumber word (codes "made:") → NoNumber word (codes "fed:") → NoNumber word (codes "kept:") → NoNumber word (codes "removed:")
    → ServesNone word
serves_none word made fed kept removed =
    record {
      made = λ s h. made s h.small h.text;
      fed = λ s h. fed s h.small h.text;
      kept = λ s h. kept s h.small h.text;
      removed = λ s h. removed s h.small h.text;
    }

-- a word that is none of the ten
pub no_word : (word : List ℕ) (build : Bool) → build ≡ bytes_eq word (codes "build") → build ≡ false
    → NoNumber word (codes "input:")
    → NoNumber word (codes "heard:")
    → NoNumber word (codes "rerun:")
    → NoNumber word (codes "poll:")
    → NoNumber word (codes "effects:")
    → ServesNone word
    → (e : Entry)
    → IsWord word e
    → ⊥
no_word word build is other input heard rerun poll effects served Build h =
    let wrong : false ≡ true = sym other ∙ is ∙ (bytes_eq-Decides word (codes "build")).1 h.text in
    absurd (cc)
no_word word build is other input heard rerun poll effects served (Taken k) h = input k h.small h.text
no_word word build is other input heard rerun poll effects served (Heard s) h = heard s h.small h.text
no_word word build is other input heard rerun poll effects served (Rerun s) h = rerun s h.small h.text
no_word word build is other input heard rerun poll effects served (Poll t) h = poll t h.small h.text
no_word word build is other input heard rerun poll effects served (Effects s) h = effects s h.small h.text
no_word word build is other input heard rerun poll effects served (Made s) h = served.made s h
no_word word build is other input heard rerun poll effects served (Fed s) h = served.fed s h
no_word word build is other input heard rerun poll effects served (Kept s) h = served.kept s h
no_word word build is other input heard rerun poll effects served (Removed s) h = served.removed s h

-- the word of the build
pub build_word : (word : List ℕ) (build : Bool) → build ≡ bytes_eq word (codes "build") → build ≡ true → IsWord word Build
build_word word build is holds =
    let zero_small : 0 < 2 ^ 64 = omega arith in
    record { text = (bytes_eq-Decides word (codes "build")).0 (sym is ∙ holds); small = zero_small }

-- what is read of a text is read of its value
pub text_reads : {X : Type 0} (d : Data) (word : List ℕ) (answer : Result (Option Noted) X) → as_str d ≡ Some word → IfOk answer (ReadsWord word)
    → IfOk answer (ReadsEntry d)
text_reads d word (Ok (Some entry)) text h = record { word = word; text = text; is = h }
text_reads d word (Ok None) text h = λ e w.
    let same : w.word ≡ word = some_same w.word word (sym w.text ∙ text) in
    h e (record { text = sym same ∙ w.is.text; small = w.is.small })
text_reads d word (Err x) text h = tt

-- a value that is no text is no word
pub no_text : (d : Data) → as_str d ≡ None → ReadsEntry d None
no_text d none e h = let wrong : None ≡ Some h.word = sym none ∙ h.text in cc
