-- A call of a runtime that a program keeps, as parts of the program's way; and that after one that settles, memos and resources are kept.
use Rattle.std.specs.Prelude.{ℕ, Bool, true, List, [], ◌∷◌, ◌++◌, Some, None, ◌≡◌, is_some}
use Rattle.rt_model.specs.Lists.{at}
use Rattle.rt_model.specs.Laws.{IsLawful}
use Rattle.rt_model.specs.Tree.{Types}
use Rattle.rt_model.specs.World.{Application}
use Rattle.rt_model.specs.State.{TaskRow, State}
use Rattle.rt_model.specs.Next.{is_active, at_rest}
use Rattle.rt_model.specs.Replay.{Entry, Poll, Machine}
use Rattle.rt_model.specs.Document.{Edit}
use Rattle.rt_model.specs.Asides.{Aside, Asked, Looked, Thinned, Rested, resting}
use Rattle.rt_model.specs.Causes.{Limits}
use Rattle.law_moves.specs.Moves.{Move, Logged, entries, Leads}
use Rattle.law_moves.specs.Reached.{Part, ByMoves, ByAside, Comes, Reached}
use Rattle.law_behavior.specs.Doms.{Until, Events, Renders, Settles, left_by, LedTo, CallRan}
use Rattle.author_formulas.specs.Formulas.{Formulas, FormulasLook}
use Rattle.author_formulas.specs.Memos.{MemoTask, fresh, PollsMemos}
use Rattle.law_minding.specs.Held.{next_poll_world, after_poll, HeldOn, held_to, IsFresh, IsKept}
use Rattle.law_minding.specs.Tended.{HeldThrough, held_through}

module _ {K : Types} where
  -- the test by which a call ends leaves its state so
  abbrev pub leaving : Until → State K → Aside K
  leaving Events w = elim w.seen [ [] ↦ Rested | s ∷ ss ↦ Asked 0 w.next [] ]
  leaving Renders w = Thinned
  leaving Settles w = Rested

  -- a call: a look, moves, and that test
  abbrev pub called : Until → State K → List Move → List (Part K)
  called until w moves = ByAside Looked ∷ ByMoves moves ∷ ByAside (leaving until w) ∷ []

module _ {K : Types} (app : Application K) where
  -- a call that took unit after unit is such parts of the way, whose moves its log is made of
  abbrev pub CallsAreParts : Type 0
  CallsAreParts =
      IsLawful K app
      → (limits : Limits) (props : K.Props) (whole : Bool) (until : Until) (w : State K)
      → (log : List Entry) (edits : List Edit) (v : Machine K)
      → LedTo app limits props whole w
      → CallRan app limits until w log edits v
      → (moves : List Move)
      × Comes app limits (resting w) (called until v.state moves) (resting (left_by until v.state))
      × (entries moves ≡ log)

module _ {K : Types} {F : Type 0} (a : Formulas K F) (app : Application K) (state : MemoTask K.Value F → K.TaskState) where
  -- on the way of a program from its first poll on, of which parts have led to a state, a memo or a resource that nobody else touches is
  -- kept in the state that a call leaves which settles there, where its task is active
  abbrev pub SettledKeep : Type 0
  SettledKeep =
      IsLawful K app
      → FormulasLook a
      → PollsMemos a app state
      → (limits : Limits) (props : K.Props) (m u : Machine K) (w : State K) (moves : List Move) (parts : List (Part K))
      → (t cell scope owner : ℕ) (f : F) (loads : Bool)
      → (log : List Entry) (edits : List Edit) (v : Machine K)
      → (leads : Leads app limits m (Logged (Poll t) ∷ moves) u)
      → Comes app limits u parts (resting w)
      → Reached app limits props [] m
      → IsFresh state m.state t cell scope owner f loads
      → is_some (at m.state.scopes scope) ≡ true
      → at m.state.contexts m.state.next.contexts ≡ None
      → let first = after_poll a (next_poll_world m t scope) t (fresh cell f loads) in
      let then_on = held_to a app limits t scope first leads.0 u moves leads.2 in
      HeldOn a app limits t scope owner first leads.0 u moves leads.2
      → CallRan app limits Settles w log edits v
      → (more : List Move)
      × (goes : Comes app limits u (parts ++ called Settles v.state more) (resting (at_rest v.state)))
      × (entries more ≡ log)
      × (HeldThrough a app limits t scope owner then_on u (resting (at_rest v.state)) (parts ++ called Settles v.state more) goes
      → is_active (at_rest v.state) t ≡ true
      → (task : TaskRow K)
      → at (at_rest v.state).tasks t ≡ Some task
      → IsKept a (at_rest v.state) t task
      (held_through a app limits t scope then_on u (resting (at_rest v.state)) (parts ++ called Settles v.state more) goes))
