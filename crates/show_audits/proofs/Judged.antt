-- The line that is written is that of the verdict.
use Rattle.std.proofs.Common.{◌≡◌, ◌∙◌, ℕ, List, [], ◌∷◌, Result, Ok, Err, IfOk, map, ap, sym}
use Rattle.rt_audit.specs.Judging.{verdict_of}
use Rattle.rt_audit.specs.declared.verdict.Verdict.{Verdict}
use Rattle.rt_language.specs.Lines.{line}
use Rattle.rt_language.specs.Meaning.{meaning_of, props_of, inputs_of}
use Rattle.rt_language.specs.Syntax.{Source}
use Rattle.rt_language.specs.Values.{Value}
use Rattle.rt_language.specs.Expressions.{SourceTypes}
use Rattle.rt_model.specs.Replay.{Entry, Input}
use Rattle.run_reports.specs.Seen.{entry_of}
use Rattle.run_reports.specs.declared.entry.Entry.{Entry as Noted}
use Rattle.lang_script.specs.Applications.{meaning_of_script}
use Rattle.lang_script.specs.declared.script.Script.{Script}
use Rattle.lang_rows.specs.Verdicts as verdicts
use Rattle.show_words.specs.Asked.{Asked}
use Rattle.show_words.specs.Judged.{verdict_text, verdict_on, IsVerdictText}
use Rattle.show_words.specs.Ready.{MadeOf}
use Rattle.show_words.proofs.Preparing.{of_source}

-- the verdict for the script that is made of a source is that for the source
verdict_for : (said : Source) (log : List (List Entry)) (script : Script) (props : List Value) (inputs : List (Input SourceTypes)) (found : verdicts.Verdict)
    → MadeOf said script props inputs
    → found ≡ verdicts.verdict (meaning_of_script script) props inputs log
    → found ≡ verdict_on (record { source = said; log = log })
unfolding verdict_on
verdict_for said log script props inputs found made is =
    of_source (λ app p i. found ≡ verdicts.verdict app p i log) said script props inputs made is

pub judged_of : {E : Type 0} (said : Source) (log given : List (List Noted)) (script : Script) (props : List Value) (inputs : List (Input SourceTypes)) (result : Result Verdict E)
    → given ≡ log
    → MadeOf said script props inputs
    → IfOk result (λ found. verdict_of found ≡ verdicts.verdict (meaning_of_script script) props inputs (map (map entry_of) given))
    → IfOk result (λ found. verdict_of found ≡ verdict_on (record { source = said; log = map (map entry_of) log }))
judged_of said log given script props inputs (Ok found) same made is =
    verdict_for said (map (map entry_of) log) script props inputs (verdict_of found) made
    (is ∙ ap (λ (l : List (List Noted)). verdicts.verdict (meaning_of_script script) props inputs (map (map entry_of) l)) same)
judged_of said log given script props inputs (Err e) same made is = tt

-- its line is what is written
pub written : (said : Asked) (found : Verdict) (text : List ℕ) → verdict_of found ≡ verdict_on said → text ≡ line (verdict_text (verdict_of found)) → IsVerdictText said (text ∷ [])
written said found text is shown = ap (λ (t : List ℕ). t ∷ []) (shown ∙ ap (λ (v : verdicts.Verdict). line (verdict_text v)) is)
