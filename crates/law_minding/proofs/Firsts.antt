-- The first poll of a memo or of a resource leaves it standing.
use Rattle.std.proofs.Common.{ℕ, ◌+◌, ◌≤◌, Bool, true, false, List, [], ◌∷◌, ◌++◌, ◌≡◌, refl, sym, ap, ◌∙◌, subst, nat_eq, arith}
use Rattle.std.specs.Prelude.{Option, Some, None, is_some, reverse, flat_map}
use Rattle.std.specs.List.{AllByRecursion}
use Rattle.rt_model.specs.Lists.{at, put}
use Rattle.rt_model.specs.Laws.{CountUp, IsNumbered, IsLawful, new_context}
use Rattle.rt_model.specs.Program.{begun}
use Rattle.rt_model.specs.Tree.{Types}
use Rattle.rt_model.specs.World.{Source, TaskTarget, Contexts, Firsts, CounterAtEnd, at_end, Command, NewContext, Reset, World, Meaning, TaskStep, Application}
use Rattle.rt_model.specs.State.{CellRow, ContextRow, TaskRow, State}
use Rattle.rt_model.specs.Commands.{names_source, unqueued, command, commands}
use Rattle.rt_model.specs.Next.{look, at_rest}
use Rattle.rt_model.specs.Run.{fault_of}
use Rattle.rt_model.specs.Replay.{Poll, Machine}
use Rattle.rt_model.specs.Causes.{Limits}
use Rattle.rt_model.proofs.Maps.{by_test, pick_true, eq_same, at_here, at_there, at_put_here}
use Rattle.rt_model.proofs.Tour.{all_fresh}
use Rattle.rt_model.proofs.Frames.{commands_same}
use Rattle.rt_model.proofs.RunFrames.{count_rises as count_low}
use Rattle.law_moves.specs.Moves.{Logged, Moves}
use Rattle.author_programs.specs.Came.{Came, came}
use Rattle.author_formulas.specs.Looking.{MadeNothing}
use Rattle.author_formulas.specs.Formulas.{Formulas, FormulasLook}
use Rattle.author_formulas.specs.Memos.{MemoTask, fresh, memo_polled, PollsMemos}
use Rattle.author_formulas.specs.Polls.{reads_into, first_computing_call, computed, has_computed, has_then}
use Rattle.author_formulas.proofs.Polls.{memos_first_poll, resources_first_poll, first_polls_refused}
use Rattle.law_minding.specs.Minding.{polled_world}
use Rattle.law_minding.specs.Held.{after_poll}
use Rattle.law_minding.proofs.Named.{gathered}
use Rattle.law_minding.proofs.Polled.{cell_value}
use Rattle.law_minding.proofs.Since.{Here}
use Rattle.law_minding.proofs.Polling.{last_value, writes, row, new, stands_done}
use Rattle.law_minding.proofs.Rested.{look_leaves, rest_leaves, is_meant, polled_state, polled_faults}
use Rattle.law_minding.proofs.Fitting.{value_written, key_written, value_commands, keyed_commands, Fits, memo_fits, keyed_fits, has_is, all_read}
use Rattle.law_minding.proofs.Holding.{Stage, rested, minded_then, drawn_then}

-- what joins the end of a list is found there, where nothing was
at_new : {A : Type 0} (es : List (ℕ × A)) (n : ℕ) (x : A) → at es n ≡ None → at (es ++ (n, x) ∷ []) n ≡ Some x
at_new [] n x none = at_here n x [] n (eq_same n)
at_new (e ∷ es) n x none =
    by_test (nat_eq e.0 n)
    (λ q. let absurdity : Some e.1 ≡ None = sym (at_here e.0 e.1 es n q) ∙ none in cc)
    (λ q. at_there e.0 e.1 (es ++ (n, x) ∷ []) n q ∙ at_new es n x (sym (at_there e.0 e.1 es n q) ∙ none))

module _
    {K : Types} {F : Type 0} (a : Formulas K F) (app : Application K) (state : MemoTask K.Value F → K.TaskState)
    (lawful : IsLawful K app) (looks : FormulasLook a) (polls : PollsMemos a app state)
    (m u : Machine K) (limits : Limits) (t : ℕ) (step : Moves app limits m (Logged (Poll t)) u) (x : TaskRow K)
    (there : at m.state.tasks t ≡ Some x) (low : t + 1 ≤ m.state.next.tasks)
    (cell : ℕ) (f : F) (loads : Bool) (stands : x.state ≡ state (fresh cell f loads)) (held : CellRow K)
    (lives : is_some (at m.state.scopes x.scope) ≡ true) (holds : at m.state.cells cell ≡ Some held)
    (free : at m.state.contexts m.state.next.contexts ≡ None) (alive : u.dead ≡ None) where
  abbrev found : State K
  found = unqueued (at_rest m.state) t

  abbrev at_poll : World K
  at_poll = polled_world found t x

  -- the number of its context
  abbrev n : ℕ
  n = at_poll.given.next.contexts

  abbrev came_to : Came K K.Value
  came_to = computed a at_poll (first_computing_call at_poll t) f

  abbrev polled : Came K (MemoTask K.Value F)
  polled = came at_poll (memo_polled a (fresh cell f loads)) (begun false at_poll.given.next)

  abbrev later : TaskRow K
  later = record x { state = state polled.answer }

  task_then : at (at_rest m.state).tasks t ≡ Some x
  task_then = rested a app state lawful looks polls m u limits t step x (fresh cell f loads) there stands low

  outset : MadeNothing at_poll (first_computing_call at_poll t)
  outset = record { outside = refl; cells = refl; provided = refl; next = refl }

  holds_then : at found.cells cell ≡ Some held
  holds_then = ap (λ (z : State K). at z.cells cell) (rest_leaves m.state) ∙ holds

  there_then : at_poll.values.cell cell ≡ Some held.value
  there_then = ap (λ (o : Option (CellRow K)). cell_value o) holds_then

  -- a number is left for it, since the run didn't end
  number_left : at_end n ≡ false
  number_left =
      by_test (at_end n)
      (
      λ q.
      let refused = first_polls_refused a at_poll t cell f loads refl q in
      let dead : u.dead ≡ Some (fault_of (CounterAtEnd Contexts)) =
      polled_faults app t a state polls m u limits step x (fresh cell f loads) task_then stands (CounterAtEnd Contexts) refused.2 in
      let absurdity : None ≡ Some (fault_of (CounterAtEnd Contexts)) = sym alive ∙ dead in
      cc
      )
      (λ q. q)

  -- the new context, and the state in which it is made
  abbrev made : ContextRow K
  made = record { scope = x.scope; target = TaskTarget t; sources = [] }

  abbrev asks : State K
  asks = record found { calls = found.calls + 1; next = polled.call.next; tasks = put found.tasks t later }

  abbrev with_context : State K
  with_context = record asks { contexts = asks.contexts ++ (n, made) ∷ [] }

  lives_then : is_some (at found.scopes x.scope) ≡ true
  lives_then = ap (λ (z : State K). is_some (at z.scopes x.scope)) (rest_leaves m.state) ∙ lives

  is_made : command app asks x.scope (Some t) (NewContext n (TaskTarget t)) ≡ with_context
  is_made = pick_true with_context asks lives_then

  free_then : at asks.contexts n ≡ None
  free_then = ap (λ (z : State K). at z.contexts z.next.contexts) (rest_leaves m.state) ∙ free

  left_by : (sources : List Source) (vs : List K.Value)
      → polled.call.commands ≡ NewContext n (TaskTarget t) ∷ Reset n ∷ (reads_into n sources ++ writes cell vs)
      → commands app asks x.scope (Some t) polled.call.commands
      ≡ commands app with_context x.scope (Some t) (Reset n ∷ (reads_into n sources ++ writes cell vs))
  left_by sources vs asked =
      ap (λ (cs : List (Command K)). commands app asks x.scope (Some t) cs) asked
      ∙ ap (λ (z : State K). commands app z x.scope (Some t) (Reset n ∷ (reads_into n sources ++ writes cell vs))) is_made

  -- its number was drawn
  numbered_then : (cs : List (Command K)) → polled.call.commands ≡ NewContext n (TaskTarget t) ∷ cs → polled.call.fault ≡ None → n + 1 ≤ u.state.next.contexts
  numbered_then cs asked calm =
      let is : IsNumbered at_poll.given.next polled.call.commands polled.call.next =
      subst (λ (z : Meaning K (TaskStep K)). IsNumbered at_poll.given.next z.commands z.next)
      (is_meant app t a state polls m u limits step x (fresh cell f loads) task_then stands)
      (lawful.polls_number x.state at_poll) in
      let counts : CountUp n (flat_map new_context (NewContext n (TaskTarget t) ∷ cs)) polled.call.next.contexts =
      subst (λ (ds : List (Command K)). CountUp n (flat_map new_context ds) polled.call.next.contexts) asked is.contexts in
      let least : n + 1 ≤ polled.call.next.contexts = count_low (n + 1) (flat_map new_context cs) polled.call.next.contexts counts.1 in
      let left : State K = commands app asks x.scope (Some t) polled.call.commands in
      let look_is : u.state ≡ look left = polled_state app t a state polls m u limits step x (fresh cell f loads) task_then stands calm in
      let same : u.state.next.contexts ≡ polled.call.next.contexts =
      ap (λ (z : State K). z.next.contexts) (look_is ∙ look_leaves left)
      ∙ ap (λ (z : Firsts). z.contexts) (commands_same app 0 asks x.scope (Some t) polled.call.commands (all_fresh app polled.call.commands)).next in
      omega (arith, least, same)

  first_stage : (sources : List Source) (vs : List K.Value)
      → polled.call.commands ≡ NewContext n (TaskTarget t) ∷ Reset n ∷ (reads_into n sources ++ writes cell vs)
      → polled.call.fault ≡ None
      → came_to.call.aside ≡ reverse sources
      → Fits a polled.answer n cell f came_to.answer (last_value held.value vs)
      → Stage a state t cell x.scope held.owner (after_poll a at_poll t (fresh cell f loads)) u
  first_stage sources vs asked calm looked fits =
      record {
        context = n;
        held = new app x.scope (Some t) t n cell found with_context x later (state polled.answer) made held sources vs;
        reads = row app x.scope (Some t) t n cell found with_context x later (state polled.answer) made held sources vs;
        target = refl;
        home = refl;
        fits =
            subst (λ (g : F). Fits a polled.answer n cell g (computed a at_poll (first_computing_call at_poll t) g).answer (last_value held.value vs))
            (sym fits.formula) fits;
        owner_is = refl;
        minded =
            minded_then a app state lawful looks polls m u limits t step x (fresh cell f loads) there stands low n cell
            (new app x.scope (Some t) t n cell found with_context x later (state polled.answer) made held sources vs)
            (row app x.scope (Some t) t n cell found with_context x later (state polled.answer) made held sources vs)
            refl
            refl
            calm
            (subst
            (
            λ (z : State K).
            Here at_poll t n cell x.scope
            (new app x.scope (Some t) t n cell found with_context x later (state polled.answer) made held sources vs)
            (state polled.answer)
            true
            (row app x.scope (Some t) t n cell found with_context x later (state polled.answer) made held sources vs)
            refl
            refl
            z
            )
            (sym (left_by sources vs asked))
            (stands_done app x.scope (Some t) t n cell found with_context x later (state polled.answer) made held sources vs
            refl
            refl
            (at_put_here found.tasks t later t (eq_same t))
            (at_new asks.contexts n made free_then)
            refl
            refl
            refl
            lives_then
            holds_then));
        drawn = drawn_then a app state lawful looks polls m u limits t step x (fresh cell f loads) there stands low;
        numbered = numbered_then (Reset n ∷ (reads_into n sources ++ writes cell vs)) asked calm;
        outset = outset;
        read =
            subst
            (
            λ (g : F).
            AllByRecursion (λ i. names_source (gathered [] sources) i ≡ true) (computed a at_poll (first_computing_call at_poll t) g).call.aside
            )
            (sym fits.formula)
            (all_read a looks at_poll (first_computing_call at_poll t) f outset sources looked);
      }

-- after a first poll a memo or a resource stands
pub fresh_stage :
    {K : Types} {F : Type 0} (a : Formulas K F) (app : Application K) (state : MemoTask K.Value F → K.TaskState)
    → IsLawful K app
    → FormulasLook a
    → PollsMemos a app state
    → (m u : Machine K) (limits : Limits) (t : ℕ)
    → Moves app limits m (Logged (Poll t)) u
    → (x : TaskRow K)
    → at m.state.tasks t ≡ Some x
    → t + 1 ≤ m.state.next.tasks
    → (cell : ℕ) (f : F) (loads : Bool)
    → x.state ≡ state (fresh cell f loads)
    → (held : CellRow K)
    → is_some (at m.state.scopes x.scope) ≡ true
    → at m.state.cells cell ≡ Some held
    → at m.state.contexts m.state.next.contexts ≡ None
    → u.dead ≡ None
    → Stage a state t cell x.scope held.owner (after_poll a (polled_world (unqueued (at_rest m.state) t) t x) t (fresh cell f loads)) u
fresh_stage {K = K} {F = F} a app state lawful looks polls m u limits t step x there low cell f false stands held lives holds free alive =
    let w : World K = polled_world (unqueued (at_rest m.state) t) t x in
    let found : Came K K.Value = computed a w (first_computing_call w t) f in
    let has : Bool = has_computed a w cell found in
    let is = memos_first_poll a looks w t cell f refl
    (number_left a app state lawful looks polls m u limits t step x there low cell f false stands held lives holds free alive) in
    first_stage a app state lawful looks polls m u limits t step x there low cell f false stands held lives holds free alive is.sources
    (value_written has found.answer)
    (is.commands ∙ ap (λ (cs : List (Command K)). NewContext w.given.next.contexts (TaskTarget t) ∷ Reset w.given.next.contexts ∷ (reads_into w.given.next.contexts is.sources ++ cs)) (value_commands {K = K} has cell found.answer))
    is.allowed
    is.looked
    (subst (λ (p : MemoTask K.Value F). Fits a p w.given.next.contexts cell f found.answer (last_value held.value (value_written has found.answer))) (sym is.answer)
    (memo_fits a w.given.next.contexts cell f found.answer (last_value held.value (value_written has found.answer)) (set has refl)))
  where
    set : (b : Bool) → has_computed a (polled_world (unqueued (at_rest m.state) t) t x) cell
        (computed a (polled_world (unqueued (at_rest m.state) t) t x) (first_computing_call (polled_world (unqueued (at_rest m.state) t) t x) t) f) ≡ b
        → last_value held.value (value_written b (computed a (polled_world (unqueued (at_rest m.state) t) t x) (first_computing_call (polled_world (unqueued (at_rest m.state) t) t x) t) f).answer)
        ≡ (computed a (polled_world (unqueued (at_rest m.state) t) t x) (first_computing_call (polled_world (unqueued (at_rest m.state) t) t x) t) f).answer
    set true e =
        has_is a looks (polled_world (unqueued (at_rest m.state) t) t x) (first_computing_call (polled_world (unqueued (at_rest m.state) t) t x) t) f
        (outset a app state lawful looks polls m u limits t step x there low cell f false stands held lives holds free alive) cell
        (computed a (polled_world (unqueued (at_rest m.state) t) t x) (first_computing_call (polled_world (unqueued (at_rest m.state) t) t x) t) f).answer
        held.value
        (there_then a app state lawful looks polls m u limits t step x there low cell f false stands held lives holds free alive)
        e
    set false e = refl
fresh_stage {K = K} {F = F} a app state lawful looks polls m u limits t step x there low cell f true stands held lives holds free alive =
    let w : World K = polled_world (unqueued (at_rest m.state) t) t x in
    let found : Came K K.Value = computed a w (first_computing_call w t) f in
    let is_empty : Bool = has_then a w cell found a.empty in
    let vs : List K.Value = key_written a false is_empty f found.answer 0 false in
    let is = resources_first_poll a looks w t cell f refl
    (number_left a app state lawful looks polls m u limits t step x there low cell f true stands held lives holds free alive) in
    first_stage a app state lawful looks polls m u limits t step x there low cell f true stands held lives holds free alive is.sources
    vs
    (is.commands ∙ ap (λ (cs : List (Command K)). NewContext w.given.next.contexts (TaskTarget t) ∷ Reset w.given.next.contexts ∷ (reads_into w.given.next.contexts is.sources ++ cs)) (keyed_commands a false is_empty cell f found.answer 0 false))
    is.allowed
    is.looked
    (subst (λ (p : MemoTask K.Value F). Fits a p w.given.next.contexts cell f found.answer (last_value held.value vs)) (sym is.answer)
    (keyed_fits a false is_empty w.given.next.contexts cell f found.answer held.value 0 false
    (λ q. cc)
    (
    λ q.
    has_is a looks w (first_computing_call w t) f
    (outset a app state lawful looks polls m u limits t step x there low cell f true stands held lives holds free alive) cell a.empty held.value
    (there_then a app state lawful looks polls m u limits t step x there low cell f true stands held lives holds free alive)
    q
    )))
