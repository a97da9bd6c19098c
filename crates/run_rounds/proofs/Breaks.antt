-- Where a build or a call breaks off, for want of memory or at its sink.
use Rattle.std.proofs.Common.{ℕ, List, [], ◌++◌, ◌≡◌, refl, sym, subst, map}
use Rattle.std.specs.Prelude.{Option, None}
use Rattle.rt_edits.specs.declared.edit.Edit.{Edit}
use Rattle.tree_edits.specs.Documents.{edit_of}
use Rattle.rt_model.specs.Document as doc
use Rattle.rt_model.specs.OneLog.{types}
use Rattle.rt_model.specs.World.{Application}
use Rattle.rt_model.specs.Laws.{IsLawful}
use Rattle.rt_model.specs.State as model
use Rattle.rt_model.specs.Causes as causes
use Rattle.rt_model.specs.Asides.{resting}
use Rattle.run_state.specs.declared.names.Stop.TheVariants as stops
use Rattle.run_machine.specs.Machines.{noted}
use Rattle.run_outside.specs.Short.{PartBy}
use Rattle.run_machine.specs.Stands.{Going, GoesOn, BrokeAt}
use Rattle.run_outside.specs.declared.ended.Ended.{Ended}
use Rattle.run_outside.specs.declared.ended.Ended.TheVariants as ends
use Rattle.run_machine.specs.declared.machine.Machine.{Machine}
use Rattle.run_machine.proofs.Breaking.{in_begun, in_at, in_after}
use Rattle.run_rounds.specs.Rounds.{BrokeAlone}
use Rattle.run_rounds.proofs.Alone.{alone_of}
use Rattle.run_rounds.proofs.Reporting.{going_at}

-- memory was wanting
abbrev pub wanting : Ended
wanting = ends.Run stops.OutOfMemory

module _ {P C Q V H T E L : Type 0} (app : Application (types C Q V H T E L)) (lawful : IsLawful (types C Q V H T E L) app)
    (limits : causes.Limits) (r : Going (types C Q V H T E L)) where
  -- after some turns, with what these had begun
  pub breaks_at : (edits : List doc.Edit) (before now : Option (List Edit)) (count : ℕ) (d : Machine P C Q V H T E L)
      → GoesOn app limits r edits before now count d → BrokeAt app limits r edits before now wanting d
  breaks_at edits before now count d on =
      in_after app limits r r.count (r.opened ++ noted d) edits before now now count d wanting on
      (in_at app limits r (edits ++ map edit_of on.wrote) now d wanting on.stands ([], refl))

  -- after a turn that had nothing to do
  pub idles_at : (edits : List doc.Edit) (before now after : Option (List Edit)) (count : ℕ) (d : Machine P C Q V H T E L)
      → GoesOn app limits r edits before now count d → after ≡ now → BrokeAt app limits r edits before after wanting d
  idles_at edits before now after count d on same =
      subst (λ (o : Option (List Edit)). BrokeAt app limits r edits before o wanting d) (sym same) (breaks_at edits before now count d on)

module _ {C Q V H T E L : Type 0} (app : Application (types C Q V H T E L)) (limits : causes.Limits) (props : Q)
    (w : model.State (types C Q V H T E L)) where
  -- nothing was taken from this state on
  pub broke_nothing : (now : Option (List Edit)) (ended : Ended) → PartBy ended [] [] → BrokeAlone app limits (resting w) now now (PartBy ended)
  broke_nothing now ended none =
      alone_of app limits (going_at props w None) [] now now ended
      (in_begun app limits (going_at props w None) now ended (record { alive = refl; idle = refl; unit = refl }) none) tt
