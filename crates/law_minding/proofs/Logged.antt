-- The same along logs.
use Rattle.std.proofs.Common.{ℕ, true, false, List, [], ◌∷◌, ◌≡◌, sym, ap, ◌∙◌, subst, not, refl}
use Rattle.std.specs.Prelude.{Option, Some, None, is_some}
use Rattle.rt_model.specs.Lists.{at}
use Rattle.rt_model.specs.Tree.{Types}
use Rattle.rt_model.specs.World.{Application}
use Rattle.rt_model.specs.State.{Fault, Item, is_live}
use Rattle.rt_model.specs.Next.{Work, next, owes}
use Rattle.rt_model.specs.Replay.{Entry, Poll, Machine, is_quiet, start}
use Rattle.rt_model.proofs.Conjunctions.{and-left, and-right}
use Rattle.rt_model.specs.Causes.{Limits}
use Rattle.law_moves.specs.Moves.{Move, Silent, Closed, Logged, entries, moves_alone, IsSettled, Leads}
use Rattle.law_moves.proofs.Logs.{logs_are_moves}
use Rattle.law_moves.proofs.Ways.{start_reached, reached_moved}
use Rattle.law_headline.proofs.Reports.{settled_after}
use Rattle.law_behavior.proofs.Leading.{quiet_alive}
use Rattle.law_behavior.specs.Owed.{WakesArePolled}
use Rattle.author_formulas.specs.Formulas.{Formulas}
use Rattle.author_formulas.specs.Memos.{MemoTask}
use Rattle.law_minding.specs.Held.{LoggedHeldAreKept, SessionsKeep}
use Rattle.law_minding.proofs.Opened.{next_is_free}
use Rattle.law_minding.proofs.Homes.{homes_are_live}
use Rattle.law_minding.proofs.Level.{held_are_kept}

module _ {K : Types} (app : Application K) (limits : Limits) where
  -- who waits for an entry accepts it first
  pub begins_with : (m v : Machine K) (moves : List Move) (e : Entry) (log : List Entry) → IsSettled m → Leads app limits m moves v → entries moves ≡ e ∷ log
      → (rest : List Move) × (Leads app limits m (Logged e ∷ rest) v) × (entries rest ≡ log)
  begins_with m v [] e log settled leads is = cc
  begins_with m v (Silent ∷ moves) e log settled leads is =
      let step = leads.1 in
      let alone : moves_alone m.dead m.work m.unit ≡ true =
      ap (λ (d : Option Fault). moves_alone d m.work m.unit) step.alive ∙ ap (λ (work : List (Item K)). moves_alone None work m.unit) step.next ∙ step.silent in
      let absurdity : true ≡ false = sym alone ∙ settled in
      cc
  begins_with m v (Closed ∷ moves) e log settled leads is =
      let step = leads.1 in
      let alone : moves_alone m.dead m.work m.unit ≡ true =
      ap (λ (d : Option Fault). moves_alone d m.work m.unit) step.alive ∙ ap (λ (work : List (Item K)). moves_alone None work m.unit) step.idle ∙ step.at_work in
      let absurdity : true ≡ false = sym alone ∙ settled in
      cc
  begins_with m v (Logged d ∷ moves) e log settled leads is =
      let same : d ≡ e = cc in
      let tail : entries moves ≡ log = cc in
      (moves, subst (λ (x : Entry). Leads app limits m (Logged x ∷ moves) v) same leads, tail)

pub logged_held_are_kept : {K : Types} {F : Type 0} (a : Formulas K F) (app : Application K) (state : MemoTask K.Value F → K.TaskState)
    → WakesArePolled app
    → LoggedHeldAreKept a app state
logged_held_are_kept a app state woken lawful looks polls limits props inputs m v log t cell scope owner f loads settled reached accepted start home free =
    let found = logs_are_moves app limits m v (Poll t ∷ log) settled accepted in
    let first = begins_with app limits m v found.0 (Poll t) log settled found.1 found.2 in (
      first.0,
      first.1,
      first.2,
      λ held alive none active task there.
          held_are_kept a app state woken lawful looks polls limits props inputs m v first.0 t cell scope owner f loads first.1 reached start home free held alive none active task there,
    )

-- what isn't owed doesn't come next
pub none_next : (o : Option Work) → not (is_some o) ≡ true → o ≡ None
none_next None h = refl
none_next (Some x) h = cc

pub sessions_keep : {K : Types} {F : Type 0} (a : Formulas K F) (app : Application K) (state : MemoTask K.Value F → K.TaskState)
    → WakesArePolled app
    → SessionsKeep a app state
sessions_keep {K = K} a app state woken lawful looks polls limits props inputs m v before log t cell scope owner f loads first then_on settled fresh =
    let from : Machine K = start app props inputs in
    let led = logs_are_moves app limits from m before refl first in
    let waits : IsSettled m = settled_after app limits before from m refl first in
    let reached = reached_moved app limits props inputs from m led.0 (start_reached app limits props inputs) led.1 in
    let home : is_live m.state scope ≡ true =
    subst (λ (s : ℕ). is_live m.state s ≡ true) fresh.scope_is (homes_are_live app lawful limits props inputs m led.0 led.1 t fresh.task fresh.task_is) in
    let free : at m.state.contexts m.state.next.contexts ≡ None = next_is_free app lawful limits props inputs m led.0 led.1 in
    let found = logged_held_are_kept a app state woken lawful looks polls limits props inputs m v log t cell scope owner f loads waits reached then_on fresh home free in
    let quiet : is_quiet v ≡ true = and-left (is_quiet v) (not (owes v.state)) settled in
    let none : next v.state ≡ None = none_next (next v.state) (and-right (is_quiet v) (not (owes v.state)) settled) in
    (found.0, found.1, found.2, λ held active task there. found.3 held (quiet_alive v quiet) none active task there)
