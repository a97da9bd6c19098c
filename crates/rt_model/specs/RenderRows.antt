-- Worked rows of rendering while suspended and of a reactive context.
use Rattle.std.specs.Prelude.{ℕ, zero, suc, Bool, true, false, ◌&&◌, not, List, [], ◌∷◌, Option, Some, None, ◌≡◌, if◌then◌else◌, codes}
use Rattle.rt_model.specs.Lists.{Text, same_numbers, join, at}
use Rattle.rt_model.specs.Tree.{no_nodes, text_node, Tree, Slot, component_slot, SuspenseBoundary, one_slot, rendered}
use Rattle.rt_model.specs.World.{Freeze, TaskTarget, TaskStep, pending, ready, Application}
use Rattle.rt_model.specs.State.{FallbackSide, Woken, State, is_side}
use Rattle.rt_model.specs.Commands.{post, commands}
use Rattle.rt_model.specs.Program.{Program, done, current_task, read, new_context, reset_and_run_in, leave, Programs, application_of}
use Rattle.rt_model.specs.Replay.{Entry, Build, Rerun, Poll, Made, Kept, Taken, WriteOf, Machine, replay_on, start}
use Rattle.rt_model.specs.Rendering.{renders_on, resolved_by_height, nothing_resolved}
use Rattle.rt_model.specs.Document.{AppendChildren}
use Rattle.rt_model.specs.Small.{Val, Num, Name, Job, Idle, Fetch, R, Body, number_of, app_of, use_cell, use_task, shows, words, RowOf, Kid, Load, suspends, only, use_of}
use Rattle.rt_model.specs.Pieces.{text}

-- a body that suspends on its task until the cell is written
abbrev pub unless_fetched : ℕ → Text → ℕ → Body
unless_fetched t words zero = suspends t
unless_fetched t words (suc n) = shows (only (text_node words no_nodes))

-- a body that fetches by a task of its own
abbrev pub article : Body
article = use_cell (Num 0) (λ d. use_task (Fetch d 2) (λ t. read d (λ v. unless_fetched t (codes "Article") (number_of v))))

-- a suspense boundary with a fallback
abbrev pub held_apart : Tree R → Slot R
held_apart children = component_slot (SuspenseBoundary (rendered children) (Some (Load, [])))

-- an application with one such body under a boundary
abbrev pub loads : Name → List Val → Body
loads Kid props = article
loads Load props = shows (words (codes "Loading..."))
loads _ props = shows (one_slot (held_apart (one_slot (use_of Kid []))))

-- a boundary shows its fallback
abbrev pub shows_fallback : State R → ℕ → Bool
shows_fallback w b = elim (at w.scopes b) [ None ↦ false | Some x ↦ is_side x.shows FallbackSide ]

-- what a render answers, and which scopes it has passed over
abbrev pub rendered_as : Option (Machine R) → List ℕ → List ℕ → Bool → Bool
rendered_as None resolved skipped hidden = false
rendered_as (Some m) resolved skipped hidden =
    same_numbers (resolved_by_height m.state) resolved
    &&
    same_numbers m.state.skipped skipped
    &&
    (if hidden then shows_fallback m.state 4 else not (shows_fallback m.state 4))

-- the application of one body that suspends under a boundary
abbrev pub App : Application R
App = application_of (app_of loads)

-- a suspended render with this log
abbrev pub after_render : Option (Machine R) → List Entry → Option (Machine R)
after_render m log = renders_on App m log

-- between two renders the answer is taken, and a change is made from outside
abbrev pub between : (State R → State R) → Option (Machine R) → Option (Machine R)
between f None = None
between f (Some m) = Some (record m { state = f (nothing_resolved m.state) })

-- the build
abbrev pub built : Option (Machine R)
built = replay_on App (Some (start App [] [])) (Build ∷ Made 1 ∷ Made 2 ∷ Made 3 ∷ Made 4 ∷ Made 5 ∷ [])

-- the first render: the fallback shows, and the task is polled
abbrev pub first_render : Option (Machine R)
first_render = after_render built (Rerun 4 ∷ Kept 5 ∷ Poll 1 ∷ [])

-- the second render: the task ends, and the children show
abbrev pub second_render : Option (Machine R)
second_render = after_render (between (λ w. post w (Woken 1)) first_render) (Poll 1 ∷ Rerun 4 ∷ Kept 5 ∷ Rerun 5 ∷ [])

-- the boundary is frozen, and its child is marked
abbrev pub frozen_and_marked : State R → State R
frozen_and_marked w = let v = commands App w 4 None (Freeze ∷ []) in record v { seen = join v.seen 5 }

-- the third render: nothing may be taken
abbrev pub third_render : Option (Machine R)
third_render = after_render (between frozen_and_marked second_render) []

-- the first render resolves the root's boundary, the second the one that was held, and of a frozen one nothing is rerun
abbrev pub SuspendedRenders : Type 0
SuspendedRenders =
    rendered_as first_render (1 ∷ []) [] true && rendered_as second_render (4 ∷ []) [] false
    && rendered_as third_render [] (5 ∷ []) false ≡ true

-- a task computes in a context of its own what it reads: the second cell only while the first one isn't 0
abbrev pub then_second : ℕ → Program R (TaskStep R) → Program R (TaskStep R)
then_second zero rest = leave rest
then_second (suc n) rest = read 2 (λ v. leave rest)

-- a poll that computes anew
abbrev pub computes : ℕ → Program R (TaskStep R)
computes c = reset_and_run_in c (read 1 (λ v. then_second (number_of v) (done (pending (Idle c)))))

-- the first computation, in the context that was made
abbrev pub with_context : Option ℕ → Program R (TaskStep R)
with_context None = done ready
with_context (Some c) = computes c

-- a context that wakes this very task
abbrev pub for_task : Option ℕ → Program R (TaskStep R)
for_task None = done ready
for_task (Some t) = new_context (TaskTarget t) (λ c. with_context c)

-- the task's polls: the first one makes the context
abbrev pub memo_poll : Job → Program R (TaskStep R)
memo_poll (Fetch c n) = current_task (λ t. for_task t)
memo_poll (Idle c) = computes c

-- a body with two cells and the task
abbrev pub memo_body : Name → List Val → Body
memo_body name props = use_cell (Num 0) (λ b. use_cell (Num 0) (λ n. use_task (Fetch 0 0) (λ t. shows (words (codes "x")))))

-- an application whose task is a memo
abbrev pub memo : Programs R
memo = record (app_of memo_body) { poll = memo_poll }

-- a write polls the task only where its last poll read the cell in its context
abbrev pub ContextWakesTask : Type 0
ContextWakesTask =
    RowOf
    memo
    []
    (WriteOf 2 (Num 5) ∷ WriteOf 1 (Num 1) ∷ WriteOf 2 (Num 6) ∷ [])
    (
    (Build ∷ Made 1 ∷ Made 2 ∷ Made 3 ∷ Poll 1 ∷ [])
    ∷
    (Taken 1 ∷ [])
    ∷
    (Taken 2 ∷ Poll 1 ∷ [])
    ∷
    (Taken 3 ∷ Poll 1 ∷ [])
    ∷
    []
    )
    ((AppendChildren 0 (text 1 (codes "x")) ∷ []) ∷ [] ∷ [] ∷ [] ∷ [])
