-- A call of a kept runtime as parts of a program's way, and what it leaves of memos where it settles.
use Rattle.std.proofs.Common.{ℕ, inr, Bool, false, List, [], ◌∷◌, ◌++◌, ◌≡◌, refl, ap, ◌∙◌, arith}
use Rattle.std.specs.Prelude.{Option, Some, None}
use Rattle.rt_model.specs.Laws.{IsLawful}
use Rattle.rt_model.specs.Tree.{Types}
use Rattle.rt_model.specs.World.{Application}
use Rattle.rt_model.specs.State.{State}
use Rattle.rt_model.specs.Next.{Work, RunEffects, least, is_before, look, at_rest, next}
use Rattle.rt_model.specs.Replay.{Entry, Poll, Machine}
use Rattle.rt_model.specs.Document.{Edit}
use Rattle.rt_model.specs.Asides.{Aside, Asked, Looked, Rested, resting}
use Rattle.rt_model.specs.Causes.{Limits, replay_within}
use Rattle.law_moves.specs.Asides.{IsAside}
use Rattle.law_moves.specs.Moves.{Move, Logged, entries}
use Rattle.law_moves.specs.Reached.{ByMoves, start_at, Comes, Reached}
use Rattle.law_moves.proofs.Logs.{logs_are_moves}
use Rattle.law_moves.proofs.Ways.{comes-append}
use Rattle.law_behavior.specs.Comes.{NothingLeft}
use Rattle.law_behavior.specs.Doms.{Until, Events, Renders, Settles, left_by, LedTo, CallRan}
use Rattle.law_behavior.specs.Owed.{WakesArePolled}
use Rattle.law_behavior.proofs.Coming.{none_is_left}
use Rattle.law_behavior.proofs.Doms.{ran_told}
use Rattle.law_behavior.proofs.Leading.{rest_at, Came, came}
use Rattle.author_formulas.specs.Formulas.{Formulas}
use Rattle.author_formulas.specs.Memos.{MemoTask}
use Rattle.law_minding.specs.Settling.{leaving, called, CallsAreParts, SettledKeep}
use Rattle.law_minding.proofs.Logged.{none_next}
use Rattle.law_minding.proofs.Tended.{tended_are_kept}

module _ {K : Types} (app : Application K) (lawful : IsLawful K app) (limits : Limits) (props : K.Props) (whole : Bool) where
  -- where a call ended nothing is at work, so its test comes as a call that logs no entry
  test_comes : (until : Until) (w : State K) (log : List Entry) (edits : List Edit) (v : Machine K) → Came app lawful limits props whole w log edits v
      → IsAside app v (leaving until v.state) (resting (left_by until v.state))
  test_comes Renders w log edits v c = record { rest = c.rest; built = c.built; allowed = tt; gives = refl }
  test_comes Settles w log edits v c = record { rest = c.rest; built = c.built; allowed = tt; gives = refl }
  test_comes Events w log edits v c = by v.state.seen
    where
      by : (seen : List ℕ)
          → IsAside app v (elim seen as (λ z. Aside K) [ [] ↦ Rested | s ∷ ss ↦ Asked 0 v.state.next [] ])
          (resting (elim seen as (λ z. State K) [ [] ↦ at_rest v.state | s ∷ ss ↦ v.state ]))
      by [] = record { rest = c.rest; built = c.built; allowed = tt; gives = refl }
      by (s ∷ ss) =
          record { rest = c.rest; built = c.built; allowed = record { cells = refl; contexts = refl; tasks = refl; elements = refl; errors = omega arith }; gives = refl }

  pub call_parts : (until : Until) (w : State K) (log : List Entry) (edits : List Edit) (v : Machine K) → LedTo app limits props whole w → CallRan app limits until w log edits v
      → (moves : List Move) × Comes app limits (resting w) (called until v.state moves) (resting (left_by until v.state)) × (entries moves ≡ log)
  call_parts until w log edits v led r =
      let m : Machine K = resting (look w) in
      let begun : IsAside app (resting w) Looked m = record { rest = rest_at w; built = refl; allowed = tt; gives = refl } in
      let here : replay_within app limits (Some m) log ≡ Some v = r.so.accepted ∙ ap (λ (x : Machine K). Some x) r.machine in
      let found = logs_are_moves app limits m v log refl here in
      let c : Came app lawful limits props whole w log edits v = came app lawful limits props whole w log edits v led (ran_told app limits until w log edits v r) in
      (found.0, (m, begun, (v, found.1, (resting (left_by until v.state), test_comes until w log edits v c, refl))), found.2)

pub calls_are_parts : {K : Types} (app : Application K) → CallsAreParts app
calls_are_parts app lawful limits props whole until w log edits v led r = call_parts app lawful limits props whole until w log edits v led r

module _ {K : Types} where
  -- where nothing is owed, nothing is owed in the state at rest
  none_at_rest : (w : State K) → next w ≡ None → next (at_rest w) ≡ None
  none_at_rest w none =
      let left : NothingLeft w = none_is_left K w none in
      ap (λ (z : State K). next z) left.rest
      ∙ ap (λ (xs : List ℕ). elim (least (λ s t. is_before w.scopes s t) xs) as (λ z. Option Work) [ None ↦ None | Some s ↦ Some (RunEffects s) ]) left.effects

pub settled_keep : {K : Types} {F : Type 0} (a : Formulas K F) (app : Application K) (state : MemoTask K.Value F → K.TaskState)
    → WakesArePolled app
    → SettledKeep a app state
settled_keep {K = K} a app state woken lawful looks polls limits props m u w moves parts t cell scope owner f loads log edits v leads comes reached start home free held r =
    let from : Machine K = start_at app props reached.firsts reached.contexts [] in
    let there : Reached app limits props [] (resting w) =
    record {
      firsts = reached.firsts;
      above = reached.above;
      contexts = reached.contexts;
      parts = reached.parts ++ ByMoves (Logged (Poll t) ∷ moves) ∷ parts;
      comes = comes-append app limits reached.parts (ByMoves (Logged (Poll t) ∷ moves) ∷ parts) from m (resting w) reached.comes (u, leads, comes);
    } in
    let led : LedTo app limits props false w = record { reached = there; known = inr refl } in
    let call = call_parts app lawful limits props false Settles w log edits v led r in
    let z : Machine K = resting (at_rest v.state) in
    let goes : Comes app limits u (parts ++ called Settles v.state call.0) z =
    comes-append app limits parts (called Settles v.state call.0) u (resting w) z comes call.1 in
    let none : next z.state ≡ None = none_at_rest v.state (none_next (next v.state) r.ended) in (
      call.0,
      goes,
      call.2,
      λ through active task here.
          tended_are_kept a app state woken lawful looks polls limits props [] m u z moves (parts ++ called Settles v.state call.0) t cell scope owner f loads leads goes reached start home
          free held through refl none active task here,
    )
