-- What a body's call leaves, and what follows it.
use Rattle.std.specs.Prelude.{◌≡◌, ◌≢◌, ℕ, Bool, true, List, [], map, Option, Some, None, Result, Ok, Err}
use Rattle.tree_nodes.specs.declared.vnode.VNode.{VNode}
use Rattle.tree_nodes.specs.declared.error.RenderError.{RenderError}
use Rattle.tree_nodes.specs.declared.error.RenderError.TheVariants as errors
use Rattle.tree_nodes.specs.declared.error.CapturedError.{CapturedError}
use Rattle.rt_model.specs.OneLog.{types}
use Rattle.rt_model.specs.Tree as tree
use Rattle.rt_model.specs.Tree.{Types}
use Rattle.rt_model.specs.World as model
use Rattle.rt_model.specs.World.{Application}
use Rattle.rt_model.specs.State as state
use Rattle.rt_model.specs.State.{Outcome, world_of}
use Rattle.rt_model.specs.Run.{answered_with, called_where, children_tree, error_tree, plain}
use Rattle.tree_mirror.specs.Mirror.{error_of}
use Rattle.tree_mirror.specs.Sealed.{element_of}
use Rattle.run_records.specs.Records.{command_of, firsts_of, newest_first, source_of}
use Rattle.author_calls.specs.Calls.{refusal_of}
use Rattle.run_records.specs.declared.faults.CxFault.TheVariants.{OutOfMemory}
use Rattle.run_records.specs.declared.rest.Scope.{Scope}
use Rattle.author_calls.specs.declared.turn.TurnParts.{TurnParts}
use Rattle.run_records.specs.declared.world.Firsts.{Firsts}
use Rattle.run_state.specs.declared.names.Stop.{Stop}
use Rattle.run_state.specs.declared.state.State.{State}
use Rattle.run_state.specs.Mirror.{Unkept, state_of}
use Rattle.rt_scopes.specs.Counts.{CountsOn, counts_where}
use Rattle.rt_scopes.specs.Outcomes.{CutBy}

module _ {K : Types} where
  -- an answer that is no tree
  abbrev pub unanswered : RenderError → tree.Element K
  unanswered (errors.Error e) = tree.failed (error_of e)
  unanswered (errors.Suspended f) = tree.suspended f.origin.0 f.task.0

  -- a body's answer came to what follows it, or its call was cut by this fault
  abbrev pub Answered : Outcome K → (state.State K → tree.Element K → Outcome K) → state.State K → Result (tree.Element K) Stop → Type 0
  Answered outcome then_on new (Ok answer) = outcome ≡ then_on new answer
  Answered outcome then_on new (Err stop) = CutBy outcome new stop

module _ {P C Q V H T E L : Type 0} where
  -- an answer as the definitions have it, or the stop
  abbrev pub answer_in : Result (Result (VNode P C Q V H T E L) RenderError) Stop → Result (tree.Element (types C Q V H T E L)) Stop
  answer_in (Ok answer) = Ok (element_of answer)
  answer_in (Err stop) = Err stop

  -- a call of a body came to its answer, whatever follows
  abbrev pub Answers : (state.State (types C Q V H T E L)
      → (state.State (types C Q V H T E L) → tree.Element (types C Q V H T E L) → Outcome (types C Q V H T E L))
      → Outcome (types C Q V H T E L)) → State P C Q V H T E L → ℕ → State P C Q V H T E L → ℕ
      → Result (Result (VNode P C Q V H T E L) RenderError) Stop → Type 0
  Answers call old old_count new new_count result =
      (g : Unkept (types C Q V H T E L))
      → (h : Unkept (types C Q V H T E L))
      × ((then_on : state.State (types C Q V H T E L) → tree.Element (types C Q V H T E L) → Outcome (types C Q V H T E L))
      → Answered (call (state_of g old) then_on) then_on (state_of h new) (answer_in result))
      × CountsOn old_count g.calls new_count h.calls result

  -- what a call left means this, with what it read aside
  abbrev pub meaning_left : TurnParts P (Result (VNode P C Q V H T E L) RenderError) C Q V H T E L → List model.Source
      → model.Meaning (types C Q V H T E L) (tree.Element (types C Q V H T E L))
  meaning_left parts aside =
      record {
        answer = element_of parts.answer;
        reads = newest_first source_of parts.reads;
        aside = aside;
        commands = map command_of parts.commands;
        next = firsts_of parts.next;
        fault = refusal_of parts.fault;
      }

  -- what a call left is what this means in the present world, where it had memory
  abbrev pub Leaves : (model.World (types C Q V H T E L) → model.Meaning (types C Q V H T E L) (tree.Element (types C Q V H T E L)))
      → State P C Q V H T E L → ℕ → TurnParts P (Result (VNode P C Q V H T E L) RenderError) C Q V H T E L → Type 0
  Leaves body d scope parts =
      parts.fault ≢ Some OutOfMemory
      → (g : Unkept (types C Q V H T E L))
      → (aside : List model.Source)
      × (meaning_left parts aside ≡ body (world_of (state_of g d) scope None true))

  -- an answer that was taken on, or the stop
  abbrev pub settled_result : Result (VNode P C Q V H T E L) RenderError → Result (Unit {0}) Stop
      → Result (tree.Element (types C Q V H T E L)) Stop
  settled_result answer (Ok u) = Ok (element_of answer)
  settled_result answer (Err stop) = Err stop

  -- what a call left was taken on, whatever its world and whatever follows, and no other call was made
  abbrev pub Settles : Application (types C Q V H T E L) → State P C Q V H T E L → ℕ
      → TurnParts P (Result (VNode P C Q V H T E L) RenderError) C Q V H T E L → State P C Q V H T E L
      → Result (tree.Element (types C Q V H T E L)) Stop → Type 0
  Settles app old scope parts new result =
      (g : Unkept (types C Q V H T E L)) (own : Bool) (world : model.World (types C Q V H T E L)) (aside : List model.Source)
      → (h : Unkept (types C Q V H T E L))
      × ((then_on : state.State (types C Q V H T E L) → tree.Element (types C Q V H T E L) → Outcome (types C Q V H T E L))
      → Answered (answered_with app (called_where own (state_of g old)) scope world then_on (meaning_left parts aside)) then_on
      (state_of h new) result)
      × (h.calls ≡ (counts_where own g).calls)

  -- the error that an error boundary keeps, where it is live
  abbrev pub error_kept : Option (Scope P C Q V H T E L) → Option CapturedError
  error_kept None = None
  error_kept (Some x) = (x.row).error

  -- an answer for which nothing was called
  abbrev pub plain_left : Firsts → Result (VNode P C Q V H T E L) RenderError
      → TurnParts P (Result (VNode P C Q V H T E L) RenderError) C Q V H T E L
  plain_left next answer = record { answer = answer; reads = []; commands = []; next = next; fault = None }

module _ {K : Types} (app : Application K) where
  -- an error boundary's answer, but for its read of the error that it keeps
  abbrev pub handled_by : tree.Element K → Option (K.Component × K.Props) → Option tree.CapturedError → model.World K
      → model.Meaning K (tree.Element K)
  handled_by children handler None w = plain w [] (tree.rendered (children_tree children))
  handled_by children None (Some e) w = plain w [] (tree.rendered (error_tree e.text))
  handled_by children (Some h) (Some e) w = app.body h.0 h.1 w
