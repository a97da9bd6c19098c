-- A call that takes unit after unit leaves each cell whose owner it doesn't remove.
use Rattle.std.proofs.Common.{ℕ, List, [], ◌≡◌, refl, sym, ap, ◌∙◌, subst}
use Rattle.std.specs.Prelude.{Some}
use Rattle.rt_model.specs.Asides.{Looked, aside_state, resting}
use Rattle.rt_model.specs.Causes.{Limits}
use Rattle.rt_model.specs.Lists.{at}
use Rattle.rt_model.specs.Next.{look}
use Rattle.rt_model.specs.Replay.{Entry, Machine}
use Rattle.rt_model.specs.State.{CellRow, State}
use Rattle.rt_model.specs.Told.{Telling}
use Rattle.rt_model.specs.Tree.{Types}
use Rattle.rt_model.specs.World.{Application}
use Rattle.law_moves.specs.Reports.{ToldSo}
use Rattle.law_moves.proofs.Logs.{logs_are_moves}
use Rattle.law_behavior.specs.Along.{NoneRemoves}
use Rattle.law_behavior.specs.Doms.{Until, Renders, left_by}
use Rattle.author_programs.specs.Cells.{Keeping}
use Rattle.author_programs.specs.Pages.{Pages, meaning_of_pages}
use Rattle.law_pages.proofs.Keeping.{pages_keep_cells}
use Rattle.law_reduce.proofs.Calm.{Calm, calm_moves}
use Rattle.law_kept.specs.Calls.{CallsKeepCells, CellsStay}
use Rattle.law_kept.proofs.Idle.{none_opened}
use Rattle.law_kept.proofs.Rests.{left_rests, look_rests}

module _ {K : Types} (k : Keeping K.Value) (a : Pages K) where
  abbrev app : Application K
  app = meaning_of_pages k a

  -- a log from where nothing is at work and no input is left
  told_stay : (limits : Limits) (x : State K) (log : List Entry) (last : Telling K) → ToldSo app limits (resting x) log last
      → CellsStay x log (last.machine).state
  told_stay limits x log last so n row there stays =
      let m : Machine K = resting x in
      let found = logs_are_moves app limits m last.machine log refl so.accepted in
      let calm : Calm [] m = record { built = refl; listeners = refl; inputs = refl } in
      let none = none_opened app limits m last.machine found.0 found.1 calm in
      pages_keep_cells K k a limits m last.machine found.0 n row found.1
      (subst (λ (es : List Entry). NoneRemoves row.owner es) (sym found.2) stays)
      (calm_moves app [] limits n m last.machine found.0 found.1 none calm).0
      there

  -- and after a look
  pub call_stays : (limits : Limits) (w : State K) (log : List Entry) (last : Telling K) (v : Machine K)
      → ToldSo app limits (resting (aside_state app w Looked)) log last → last.machine ≡ v → CellsStay w log v.state
  call_stays limits w log last v so is n row there stays =
      ap (λ (x : Machine K). at x.state.cells n) (sym is)
      ∙ told_stay limits (look w) log last so n row (ap (λ (es : List (ℕ × CellRow K)). at es n) (look_rests w).cells ∙ there) stays

  -- so it is in the state that is left
  left_stays : (until : Until) (w v : State K) (log : List Entry) → CellsStay w log v → CellsStay w log (left_by until v)
  left_stays until w v log h n row there stays = ap (λ (es : List (ℕ × CellRow K)). at es n) (left_rests until v).cells ∙ h n row there stays

pub calls_keep_cells : (K : Types) → CallsKeepCells K
calls_keep_cells K k a limits w log edits v = (
  λ until r. left_stays k a until w v.state log (call_stays k a limits w log r.last v r.so r.machine),
  λ r. left_stays k a Renders w v.state log (call_stays k a limits w log r.last v r.so r.machine),
)
