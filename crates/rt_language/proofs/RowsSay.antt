-- A row that prints its text keeps the headline, and one that ends in a fault comes to it.
use Rattle.std.proofs.Common.{Bool, true, false, List, ◌++◌, ◌≡◌, refl, ap}
use Rattle.std.specs.Prelude.{Option, Some, None, is_some, if◌then◌else◌}
use Rattle.rt_model.specs.Lists.{Text, or_else, joined}
use Rattle.rt_model.specs.State.{Fault}
use Rattle.rt_model.specs.Replay.{Entry}
use Rattle.rt_model.specs.Told.{Told, Telling, tell_reports, tell_log, telling, edits_of}
use Rattle.rt_model.specs.Causes.{Limits, refusal, replay_within, edits_at_refusal}
use Rattle.rt_model.specs.Headline.{Headline, last_machine}
use Rattle.rt_model.specs.Ran.{Ran}
use Rattle.rt_model.specs.Openings.{one_each, one_each_then}
use Rattle.rt_model.specs.Finished.{reports_of, is_finished, TestsDecide}
use Rattle.rt_model.proofs.Conjunctions.{and-left, and-right}
use Rattle.rt_model.proofs.InputsLeft.{ran_is_valid}
use Rattle.rt_model.proofs.FinishedTold.{finished_is_headline, finished_comes_to}
use Rattle.rt_language.specs.Syntax.{Source}
use Rattle.rt_language.specs.Expressions.{SourceTypes}
use Rattle.rt_language.specs.Meaning.{meaning_of, props_of, inputs_of}
use Rattle.rt_language.specs.Lines.{text_of, fault_text_of}
use Rattle.rt_language.specs.Printed.{start_of, no_refusal, is_within, is_cut_within, text_of_told, text_at, text_on, fault_text_on}
use Rattle.rt_language.specs.PrintedSays.{PrintedSays, FaultSays, RowsSay, FaultRowsSay}
use Rattle.rt_language.proofs.Lawful.{sources_are_lawful}

-- what is answered only where a test is true
where-true : (b : Bool) (o : Option Text) (text : Text) → (if b then o else None) ≡ Some text → (b ≡ true) × (o ≡ Some text)
where-true true o text h = (refl, h)
where-true false o text h = cc

tests-decide : (s : Source) → TestsDecide (meaning_of s)
tests-decide s =
    let lawful = sources_are_lawful s in
    record { components = lawful.tests_components; props = lawful.tests_props; handlers = lawful.tests_handlers }

-- of reports that are told
told-says : (limits : Limits) (s : Source) (logs : List (List Entry)) (text : Text) (o : Option (List (Told SourceTypes)))
    → tell_reports (meaning_of s) (start_of s) logs ≡ o
    → one_each (inputs_of s.inputs) logs ≡ true
    → is_some (replay_within (meaning_of s) limits (Some (start_of s)) (joined logs)) ≡ true
    → text_of_told (meaning_of s) logs o ≡ Some text
    → PrintedSays limits s logs text
told-says limits s logs text None e each within h = cc
told-says limits s logs text (Some told) e each within h =
    let own = text_of (joined (edits_of told)) (reports_of logs told) in
    let split = where-true (is_finished (meaning_of s) told) (Some own) text h in
    let taken = Some (joined (edits_of told)) in
    let reports = reports_of logs told in
    let held : Headline (meaning_of s) (props_of s) (inputs_of s.inputs) limits taken reports =
    finished_is_headline (meaning_of s) (tests-decide s) (props_of s) (inputs_of s.inputs) limits logs told e each split.0 within in
    let ran : Ran (meaning_of s) (props_of s) (inputs_of s.inputs) limits taken reports =
    record { told = held.told; recorded = (held.holds).recorded; done = held.done } in
    record {
      told = told;
      headline = held;
      valid = ran_is_valid (meaning_of s) (props_of s) (inputs_of s.inputs) limits taken reports ran;
      printed = ap (λ (t : Option Text). or_else own t) split.1;
    }

-- a test of what there is
there-is : {A : Type 0} (o : Option A) (test : A → Bool) → elim o as (λ x. Bool) [ None ↦ false | Some a ↦ test a ] ≡ true → is_some o ≡ true
there-is None test h = cc
there-is (Some a) test h = refl

-- what a row computes is what it says
pub rows_say : RowsSay
rows_say limits s logs text h =
    let o = tell_reports (meaning_of s) (start_of s) logs in
    let split = where-true (is_within limits s logs) (text_of_told (meaning_of s) logs o) text h in
    let rest : Bool =
    elim (replay_within (meaning_of s) limits (Some (start_of s)) (joined logs)) as (λ x. Bool) [ None ↦ false | Some m ↦ no_refusal (refusal limits m) ]
    in
    told-says limits s logs text o refl (and-left _ rest split.0)
    (there-is (replay_within (meaning_of s) limits (Some (start_of s)) (joined logs)) (λ m. no_refusal (refusal limits m)) (and-right (one_each (inputs_of s.inputs) logs) rest split.0))
    split.1

module _ (limits : Limits) (s : Source) (logs : List (List Entry)) (log : List Entry) (text : Text) (told : List (Told SourceTypes)) where
  -- of a log that comes to a refusal
  refused-says : (last : Telling SourceTypes) (o : Option Fault)
      → tell_reports (meaning_of s) (start_of s) logs ≡ Some told
      → one_each_then (inputs_of s.inputs) logs log ≡ true
      → is_finished (meaning_of s) told ≡ true
      → tell_log (meaning_of s) (Some (telling (last_machine (start_of s) told))) log ≡ Some last
      → is_some (replay_within (meaning_of s) limits (Some (start_of s)) (joined logs ++ log)) ≡ true
      → refusal limits last.machine ≡ o
      → text_at limits (meaning_of s) logs told last o ≡ Some text
      → FaultSays limits s logs text
  refused-says last None e each h on within cause q = cc
  refused-says last (Some fault) e each h on within cause q =
      let own = fault_text_of (joined (edits_of told) ++ edits_at_refusal (meaning_of s) limits last) (reports_of logs told) fault in
      record {
        told = told;
        last = last;
        fault = fault;
        came = finished_comes_to (meaning_of s) (tests-decide s) (props_of s) (inputs_of s.inputs) limits logs log told last fault e each h on within cause;
        printed = ap (λ (t : Option Text). or_else own t) q;
      }

  -- of a log that goes on
  on-says : (o : Option (Telling SourceTypes))
      → tell_reports (meaning_of s) (start_of s) logs ≡ Some told
      → is_cut_within limits s logs log ≡ true
      → tell_log (meaning_of s) (Some (telling (last_machine (start_of s) told))) log ≡ o
      → text_on limits (meaning_of s) logs told o ≡ Some text
      → FaultSays limits s logs text
  on-says None e cut on q = cc
  on-says (Some last) e cut on q =
      let within = is_some (replay_within (meaning_of s) limits (Some (start_of s)) (joined logs ++ log)) in
      let split = where-true (is_finished (meaning_of s) told) (text_at limits (meaning_of s) logs told last (refusal limits last.machine)) text q in
      refused-says last (refusal limits last.machine) e (and-left _ within cut) split.0 on (and-right (one_each_then (inputs_of s.inputs) logs log) _ cut) refl split.1

fault-told : (limits : Limits) (s : Source) (logs : List (List Entry)) (log : List Entry) (text : Text) (o : Option (List (Told SourceTypes)))
    → tell_reports (meaning_of s) (start_of s) logs ≡ o
    → is_cut_within limits s logs log ≡ true
    → fault_text_on limits s logs log o ≡ Some text
    → FaultSays limits s logs text
fault-told limits s logs log text None e cut q = cc
fault-told limits s logs log text (Some told) e cut q =
    on-says limits s logs log text told (tell_log (meaning_of s) (Some (telling (last_machine (start_of s) told))) log) e cut refl q

-- and what a row that ends in a fault computes
pub fault_rows_say : FaultRowsSay
fault_rows_say limits s logs log text h =
    let o = tell_reports (meaning_of s) (start_of s) logs in
    let split = where-true (is_cut_within limits s logs log) (fault_text_on limits s logs log o) text h in
    fault-told limits s logs log text o refl split.0 split.1
