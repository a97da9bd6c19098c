-- The application that a script is: its calls as programs.
use Rattle.std.specs.Prelude.{nat_eq, false, ◌&&◌, ◌||◌, not, List, [], map, length, Option, Some, None}
use Rattle.rt_model.specs.Lists.{nth, or_else}
use Rattle.rt_model.specs.Tree.{Element, rendered, placeholder_tree}
use Rattle.rt_model.specs.World.{nothing, Event, Application}
use Rattle.rt_model.specs.Program.{Program, done, Programs, application_of}
use Rattle.rt_language.specs.Values.{Value, same_value, same_values, values_of}
use Rattle.rt_language.specs.Sequence.{go_on}
use Rattle.rt_language.specs.Expressions.{SourceTypes, ABody, AListener, AnotherCall}
use Rattle.rt_language.specs.Statements.{frame_of, Outcome, WentOn, EndedWith, WasRefused, run_statements}
use Rattle.rt_language.specs.Meaning.{same_doing, poll_step, poll_of, action_run, left_event}
use Rattle.lang_syntax.specs.Mirror.{literal_of, statements_of}
use Rattle.lang_views.specs.declared.plan.ComponentPlan.{ComponentPlan}
use Rattle.lang_script.specs.declared.script.Script.{Script}
use Rattle.lang_script.specs.declared.script.Asked.{Asked}
use Rattle.lang_views.specs.Plans.{Planned, planned}

-- a body's answer: the tree of its plan, unless its statements ended it
abbrev pub answered : Planned → Outcome → Program SourceTypes (Element SourceTypes)
answered view (WentOn f) = go_on (view.tree ABody f.held) (λ tree. done (rendered tree))
answered view (EndedWith answer) = done answer
answered view WasRefused = done (rendered placeholder_tree)

-- the body of a component
abbrev pub body_of : Option ComponentPlan → List Value → Program SourceTypes (Element SourceTypes)
body_of None props = done (rendered placeholder_tree)
body_of (Some c) props = go_on (run_statements ABody (frame_of props) (statements_of c.statements)) (λ o. answered (planned c.view) o)

-- what a listener's statements ask of the event
abbrev pub asked_by : Outcome → Asked
asked_by (WentOn f) = record { stopped = f.stopped; prevented = f.prevented }
asked_by (EndedWith answer) = record { stopped = false; prevented = false }
asked_by WasRefused = record { stopped = false; prevented = false }

-- an event, as it is left
abbrev pub heard : Event SourceTypes → Asked → Event SourceTypes
heard event asked =
    record { payload = event.payload; propagates = event.propagates && not asked.stopped; prevented = event.prevented || asked.prevented }

-- the calls of a script as programs; memoize is equality of the props
abbrev pub programs_of_script : Script → Programs SourceTypes
programs_of_script s =
    record {
      root = s.root;
      same_component = nat_eq;
      same_props = λ p q. same_values p q;
      same_value = same_value;
      same_handler = same_doing;
      memoize = λ c p q. same_values p q;
      body = λ c p. body_of (nth s.components c) p;
      poll = λ state. poll_of (λ at. let steps =
          or_else [] (nth (map (map statements_of) s.tasks) at.task) in poll_step at (length steps) (nth steps at.step)) state;
      effect = λ d. go_on (action_run AnotherCall (map statements_of s.actions) d) (λ o. done nothing);
      handle = λ d event. go_on (action_run (AListener event.payload) (map statements_of s.actions) d) (λ o. done (left_event event o));
    }

-- what its calls mean
abbrev pub meaning_of_script : Script → Application SourceTypes
meaning_of_script s = application_of (programs_of_script s)

-- the props of the root that it names
abbrev pub props_of_script : Script → List Value
props_of_script s = values_of (map literal_of s.props)
