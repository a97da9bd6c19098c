-- What a session came to holds, by the law of sessions.
use Rattle.std.proofs.Common.{ℕ, ◌+◌, List, [], ◌∷◌, ◌++◌}
use Rattle.std.specs.Prelude.{Option, ◌≢◌}
use Rattle.std.specs.List.{AllByRecursion}
use Rattle.rt_edits.specs.declared.edit.Edit.{Edit as CodeEdit}
use Rattle.rt_model.specs.Tree.{Types}
use Rattle.rt_model.specs.World.{Application}
use Rattle.rt_model.specs.Laws.{IsLawful}
use Rattle.rt_model.specs.Replay.{Entry, Build, Taken, Input}
use Rattle.rt_model.specs.Document.{Edit}
use Rattle.rt_model.specs.Causes.{Limits, IsValid}
use Rattle.rt_model.specs.Reports.{Report, logs_of, OneEach, OpensWith, InputsFrom}
use Rattle.rt_model.specs.State.{Fault}
use Rattle.law_headline.specs.Carried.{CarriesAnew}
use Rattle.law_headline.specs.Sessions.{SessionsHold}
use Rattle.run_outside.specs.Sessions.{Broken, BrokeOff, CameAt, Finished, FinishedAt, FinishedHeld, Headlined}
use Rattle.run_outside.specs.Short.{RanShort}
use Rattle.run_outside.proofs.Short.{short_as}

opened : (first : Entry) (log : List Entry) → OpensWith first log → log ≢ []
opened first [] h = absurd h
opened first (e ∷ log) h = λ none. cc

module _ {K : Types} where
  inputs_opened : (k : ℕ) (inputs : List (Input K)) (logs later : List (List Entry)) → InputsFrom k inputs (logs ++ later) → AllByRecursion (λ (log : List Entry). log ≢ []) logs
  inputs_opened k inputs [] later h = tt
  inputs_opened k [] (log ∷ logs) later h = absurd h
  inputs_opened k (input ∷ inputs) (log ∷ logs) later h = (opened (Taken k) log h.0, inputs_opened (k + 1) inputs logs later h.1)

  each_opened : (inputs : List (Input K)) (logs later : List (List Entry)) → OneEach inputs (logs ++ later) → AllByRecursion (λ (log : List Entry). log ≢ []) logs
  each_opened inputs [] later h = tt
  each_opened inputs (log ∷ logs) later h = (opened Build log h.0, inputs_opened 1 inputs logs later h.1)

module _ {K : Types} (app : Application K) (laws : SessionsHold app) (lawful : IsLawful K app) (props : K.Props) (inputs : List (Input K)) (limits : Limits)
    (before after : Option (List CodeEdit)) (reports : List Report) where
  -- the reports that were finished before one broke off keep the headline's sentences
  held_of : (taken : Option (List Edit)) (Part : List Edit → List Edit → Type 0) → RanShort app props inputs limits taken reports Part
      → FinishedHeld app props inputs reports
  held_of taken Part r =
      record {
        told = r.told;
        holds =
            laws.held lawful props inputs limits reports r.told (r.log ++ r.unit) r.last.machine
            (each_opened inputs (logs_of reports) (r.begins).later (r.begins).one_each)
            (record { accepted = r.accepted; counted = r.counted; settled = r.settled }) r.within;
      }

  -- one that finished has the headline
  pub headlined_of : Finished app props inputs limits before after reports → Headlined app props inputs limits before after reports
  headlined_of done =
      record {
        wrote = done.wrote;
        told = done.told;
        headline = laws.headline lawful props inputs limits _ reports done.ran;
      }

  -- its edits carry no number that came before, but those of hidden nodes
  pub carried_of : Finished app props inputs limits before after reports → CarriesAnew app props inputs reports
  carried_of done =
      laws.carried lawful props inputs limits _ reports
      (laws.headline lawful props inputs limits _ reports done.ran)

  -- its inputs come to no fault
  pub valid_of : Finished app props inputs limits before after reports → IsValid app props inputs limits
  valid_of done = laws.valid props inputs limits _ reports done.ran

  -- one that came to a fault has it of its finished reports
  pub came_of : (fault : Fault) → FinishedAt app props inputs limits before after reports fault
      → CameAt app props inputs limits before after reports fault
  came_of fault done =
      record {
        wrote = done.wrote;
        told = done.told;
        came_to = laws.came_to lawful props inputs limits _ reports fault done.ran_to;
      }

  -- so has one that broke off, with the part that was taken by another name
  pub broken_of : (Part Other : List Edit → List Edit → Type 0) → ((part whole : List Edit) → Part part whole → Other part whole)
      → BrokeOff app props inputs limits before after reports Part
      → Broken app props inputs limits before after reports Other
  broken_of Part Other same broke =
      record {
        broke = record {
          wrote = broke.wrote;
          told = broke.told;
          ran_short = short_as app limits props inputs Part Other _ reports same broke.ran_short;
        };
        held = held_of _ Part broke.ran_short;
      }
