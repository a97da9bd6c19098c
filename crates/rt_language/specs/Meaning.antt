-- The application that a source describes: its calls as programs, its props and its inputs.
use Rattle.std.specs.Prelude.{ℕ, ◌+◌, Bool, ◌&&◌, ◌||◌, not, nat_eq, nat_lt, pos, ℤ, true, List, [], ◌∷◌, length, Option, Some, None, if◌then◌else◌}
use Rattle.rt_model.specs.Lists.{nth, or_else}
use Rattle.rt_model.specs.Tree.{placeholder_tree, Element, rendered}
use Rattle.rt_model.specs.World.{Event, TaskStep, pending, ready, nothing, Application}
use Rattle.rt_model.specs.Program.{Program, done, Programs, application_of}
use Rattle.rt_model.specs.Replay.{Post, MarkScope, WakeTask, AllDirty, Message, Input, EventAt, WakeOf, WriteOf, MarkOf, Drain}
use Rattle.rt_language.specs.Syntax.{Literal, Statements, NoStatements, View, ComponentSource, PostSource, PostMark, PostWake, PostAll, InputSource, EventInput, WakeInput, WriteInput, MarkInput, DrainInput, Source}
use Rattle.rt_language.specs.Values.{Value, NoValue, same_number, same_value, same_values, value_of, values_of}
use Rattle.author_programs.specs.Sequence.{go_on}
use Rattle.rt_language.specs.Expressions.{Doing, Standing, TaskState, Stepping, Minding, SourceTypes, Caller, ABody, AListener, AnotherCall}
use Rattle.rt_language.specs.Statements.{frame_of, Outcome, WentOn, EndedWith, WasRefused, Running, run_statements}
use Rattle.rt_language.specs.Views.{fill, tree_of}
use Rattle.author_formulas.specs.Memos.{memo_polled}
use Rattle.rt_language.specs.Formulas.{formulas}

-- equal actions with equal arguments
abbrev pub same_doing : Doing → Doing → Bool
same_doing a b = nat_eq a.action b.action && same_values a.arguments b.arguments

-- a body's answer: the tree of its view, unless its statements ended it; after a refused call the answer is of no account
abbrev pub answered : View → Outcome → Program SourceTypes (Element SourceTypes)
answered view (WentOn f) = go_on (tree_of view (fill ABody f.held view)) (λ tree. done (rendered tree))
answered view (EndedWith answer) = done answer
answered view WasRefused = done (rendered placeholder_tree)

-- the body of a component
abbrev pub body_of : Option ComponentSource → List Value → Program SourceTypes (Element SourceTypes)
body_of None props = done (rendered placeholder_tree)
body_of (Some c) props = go_on (run_statements ABody (frame_of props) c.statements) (λ o. answered c.view o)

-- the step that follows a poll: the same where it stays
abbrev pub next_step : ℕ → Bool → ℕ
next_step step stays = if stays then step else step + 1

-- a task goes on at a step, where there is one
abbrev pub pending_at : Standing → ℕ → ℕ → TaskStep SourceTypes
pending_at at steps step = if nat_lt step steps then pending (Stepping (record at { step = step })) else ready

-- what a poll answers after its step's statements
abbrev pub stepped : Standing → ℕ → Outcome → TaskStep SourceTypes
stepped at steps (WentOn f) = pending_at at steps (next_step at.step f.stays)
stepped at steps (EndedWith answer) = ready
stepped at steps WasRefused = ready

-- the poll of a step; with no step a task is ready
abbrev pub poll_step : Standing → ℕ → Option Statements → Program SourceTypes (TaskStep SourceTypes)
poll_step at steps None = done ready
poll_step at steps (Some statements) =
    go_on (run_statements AnotherCall (frame_of at.arguments) statements) (λ o. done (stepped at steps o))

-- the poll of a task, where the next step of one that runs its steps is polled by a function
abbrev pub poll_of : (Standing → Program SourceTypes (TaskStep SourceTypes)) → TaskState → Program SourceTypes (TaskStep SourceTypes)
poll_of steps (Stepping at) = steps at
poll_of steps (Minding task) = go_on (memo_polled formulas task) (λ next. done (pending (Minding next)))

-- the statements of an action
abbrev pub action_run : Caller → List Statements → Doing → Running
action_run by actions d = run_statements by (frame_of d.arguments) (or_else NoStatements (nth actions d.action))

-- an event as a listener leaves it
abbrev pub left_event : Event SourceTypes → Outcome → Event SourceTypes
left_event event (WentOn f) =
    record { payload = event.payload; propagates = event.propagates && not f.stopped; prevented = event.prevented || f.prevented }
left_event event (EndedWith answer) = event
left_event event WasRefused = event

-- the application of a source; memoize is equality of the props
abbrev pub programs_of : Source → Programs SourceTypes
programs_of s =
    record {
      root = s.root;
      same_component = nat_eq;
      same_props = λ p q. same_values p q;
      same_value = same_value;
      same_handler = same_doing;
      memoize = λ c p q. same_values p q;
      body = λ c p. body_of (nth s.components c) p;
      poll = λ state. poll_of (λ at. let steps = or_else [] (nth s.tasks at.task) in poll_step at (length steps) (nth steps at.step)) state;
      effect = λ d. go_on (action_run AnotherCall s.actions d) (λ o. done nothing);
      handle = λ d event. go_on (action_run (AListener event.payload) s.actions d) (λ o. done (left_event event o));
    }

-- what its calls mean
abbrev pub meaning_of : Source → Application SourceTypes
meaning_of s = application_of (programs_of s)

-- the root's props
abbrev pub props_of : Source → List Value
props_of s = values_of s.props

-- what an event carries, none where nothing is said
abbrev pub payload_of : Option Literal → Value
payload_of None = NoValue
payload_of (Some l) = value_of l

-- what a message asks for
abbrev pub post_of : PostSource → Post
post_of (PostMark s) = MarkScope s
post_of (PostWake t) = WakeTask t
post_of PostAll = AllDirty

-- the messages of a poster, numbered from a place on
abbrev pub messages_from : ℕ → ℕ → List PostSource → List Message
messages_from poster k [] = []
messages_from poster k (p ∷ ps) = record { poster = poster; sequence = k; what = post_of p } ∷ messages_from poster (k + 1) ps

-- an event bubbles unless 0 is said
abbrev pub bubbles_of : Option ℤ → Bool
bubbles_of None = true
bubbles_of (Some n) = not (same_number n (pos 0))

-- what comes from outside
abbrev pub input_of : InputSource → Input SourceTypes
input_of (EventInput name element payload bubbles) = EventAt name (payload_of payload) element (bubbles_of bubbles)
input_of (WakeInput t) = WakeOf t
input_of (WriteInput c l) = WriteOf c (value_of l)
input_of (MarkInput s) = MarkOf s
input_of (DrainInput posts) = Drain (messages_from 0 0 posts)

-- the inputs in order
abbrev pub inputs_of : List InputSource → List (Input SourceTypes)
inputs_of [] = []
inputs_of (i ∷ is) = input_of i ∷ inputs_of is

-- what each poster posts
abbrev pub posts_from : ℕ → List (List PostSource) → List (List Message)
posts_from poster [] = []
posts_from poster (ps ∷ rest) = messages_from poster 0 ps ∷ posts_from (poster + 1) rest

-- what the posters post
abbrev pub posts_of : Source → List (List Message)
posts_of s = posts_from 0 s.posts
