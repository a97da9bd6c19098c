-- What is made of a source, what holds of it, and where its text stops.
use Rattle.std.proofs.Common.{◌≡◌, ◌∙◌, ℕ, List, [], Option, Some, None, Err, map, refl, ap, sym, subst, inl, inr}
use Rattle.std.specs.Prelude.{option_map}
use Rattle.rt_edits.specs.Sinks as sinks
use Rattle.rt_edits.specs.declared.edit.Edit.{Edit}
use Rattle.tree_edits.specs.Documents.{edit_of}
use Rattle.rt_model.specs.State as model
use Rattle.rt_model.specs.Replay.{Input}
use Rattle.rt_model.specs.Document as documents
use Rattle.rt_model.specs.Reports as sessions
use Rattle.rt_model.specs.World.{Application}
use Rattle.rt_language.specs.Syntax.{Source}
use Rattle.rt_language.specs.Expressions.{SourceTypes}
use Rattle.rt_language.specs.Meaning.{meaning_of, props_of, inputs_of}
use Rattle.rt_language.specs.Values.{Value}
use Rattle.rt_language.specs.Lines.{line, fault_text}
use Rattle.run_reports.specs.Seen.{report_of}
use Rattle.run_reports.specs.declared.report.Report.{Report}
use Rattle.show_streams.specs.Writes.{Writes, Puts}
use Rattle.show_streams.specs.declared.out.OutError.{OutError}
use Rattle.show_streams.specs.declared.out.OutError.TheVariants as errors
use Rattle.lang_script.specs.Applications.{meaning_of_script, props_of_script}
use Rattle.lang_script.specs.Laws.{MeansSource}
use Rattle.lang_script.specs.declared.script.Script.{Script}
use Rattle.show_words.specs.Asked.{Asked}
use Rattle.show_words.specs.Outs.{stop_of}
use Rattle.show_words.specs.Ready.{IsMeant, MadeOf}
use Rattle.show_words.specs.Runs.{IsDoneText, IsEndedText, Prints}
use Rattle.show_words.specs.declared.words.Wish.{Wish}

-- a text of a run that was not written whole stops the program where the out says
pub cut_done : (wish : Wish) (said : Asked) (text : List (List ℕ)) (old new : Puts) (before now : ℕ) (error : OutError) → IsDoneText wish said text → Writes text old new before now (Err error) → Prints wish said old new before now (Err (stop_of error))
cut_done wish said text old new before now errors.Failed run put = (put.cause refl, record { text = text; run = inl run; front = put.front })
cut_done wish said text old new before now errors.OutOfMemory run put = inr (record { text = text; run = inl run; front = put.front })

pub cut_ended : (wish : Wish) (said : Asked) (text : List (List ℕ)) (old new : Puts) (before now : ℕ) (error : OutError) → IsEndedText wish said text → Writes text old new before now (Err error) → Prints wish said old new before now (Err (stop_of error))
cut_ended wish said text old new before now errors.Failed run put = (put.cause refl, record { text = text; run = inr run; front = put.front })
cut_ended wish said text old new before now errors.OutOfMemory run put = inr (record { text = text; run = inr run; front = put.front })

-- a sink that began with nothing took what it tells
took_all : (old new : Option (List Edit)) (edits taken : List Edit) → old ≡ Some [] → new ≡ Some edits → new ≡ sinks.grown old taken → edits ≡ taken
took_all old new edits taken began tells told =
    let all : Some edits ≡ sinks.grown (Some []) taken = sym tells ∙ told ∙ ap (λ o. sinks.grown o taken) began in
    cc all

-- what is made of a source
pub made_of :
    (said : Source) (script : Script) (props : List Value) (inputs : List (Input SourceTypes))
    → MeansSource script said
    → props ≡ props_of_script script
    → inputs ≡ inputs_of said.inputs
    → MadeOf said script props inputs
unfolding IsMeant
made_of said script props inputs means props_are inputs_are =
    record { means = means; props_are = props_are; inputs_are = inputs_are }

-- a session of the script is one of the source
pub of_source :
    (Holds : Application SourceTypes → List Value → List (Input SourceTypes) → Type 0)
    (said : Source) (script : Script) (props : List Value) (inputs : List (Input SourceTypes))
    → MadeOf said script props inputs
    → Holds (meaning_of_script script) props inputs
    → Holds (meaning_of said) (props_of said) (inputs_of said.inputs)
unfolding IsMeant
of_source Holds said script props inputs made holds =
    let same : MeansSource script said = made.means in
    subst (λ (app : Application SourceTypes). Holds app (props_of said) (inputs_of said.inputs)) same.application
    (subst (λ (p : List Value). Holds (meaning_of_script script) p (inputs_of said.inputs)) (made.props_are ∙ same.props)
    (subst (λ (i : List (Input SourceTypes)). Holds (meaning_of_script script) props i) made.inputs_are holds))

-- what holds of a session of a source, into a sink that began with nothing, holds of the edits that the sink tells
pub holds_of :
    (Holds : List documents.Edit → List sessions.Report → Type 0)
    (old new : Option (List Edit)) (edits wrote : List Edit) (reports shown : List Report)
    → old ≡ Some [] → new ≡ Some edits → shown ≡ reports → new ≡ sinks.grown old wrote
    → Holds (map edit_of wrote) (map report_of reports)
    → Holds (map edit_of edits) (map report_of shown)
holds_of Holds old new edits wrote reports shown began tells same told holds =
    let all : wrote ≡ edits = sym (took_all old new edits wrote began tells told) in
    subst (λ (r : List Report). Holds (map edit_of edits) (map report_of r)) (sym same)
    (subst (λ (e : List Edit). Holds (map edit_of e) (map report_of reports)) all holds)

-- a line that is printed of a fault is that of a fault of the model
pub named : (fault : Option model.Fault) (said : List ℕ) → Some said ≡ option_map (λ f. line (fault_text f)) fault → (f : model.Fault) × (fault ≡ Some f) × (said ≡ line (fault_text f))
named None said is = absurd (cc is)
named (Some fault) said is = (fault, refl, cc is)
