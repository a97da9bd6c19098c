-- A memo or resource that nobody else touches is kept from its first poll on.
use Rattle.std.proofs.Common.{ℕ, ◌+◌, ◌≤◌, Bool, true, false, List, [], ◌∷◌, ◌++◌, ◌≡◌, inr, refl, sym, ap, ◌∙◌, subst, arith}
use Rattle.std.specs.Prelude.{Option, Some, None, is_some, reverse}
use Rattle.std.specs.List.{AllByRecursion}
use Rattle.rt_model.specs.Lists.{at}
use Rattle.rt_model.specs.Laws.{IsLawful}
use Rattle.rt_model.specs.Program.{begun}
use Rattle.rt_model.specs.Tree.{Types}
use Rattle.rt_model.specs.World.{Source, TaskTarget, Command, Reset, World, Application}
use Rattle.rt_model.specs.State.{CellRow, ContextRow, TaskRow, State}
use Rattle.rt_model.specs.Commands.{names_source, unqueued, commands}
use Rattle.rt_model.specs.Next.{look, at_rest}
use Rattle.rt_model.specs.Replay.{Poll, Machine}
use Rattle.rt_model.specs.Causes.{Limits}
use Rattle.rt_model.specs.Lasting.{Rises}
use Rattle.rt_model.proofs.Maps.{eq_same, at_put_here}
use Rattle.law_moves.specs.Moves.{Logged, Moves}
use Rattle.author_programs.specs.Came.{Came, came}
use Rattle.author_formulas.specs.Looking.{MadeNothing}
use Rattle.author_formulas.specs.Formulas.{Formulas, FormulasLook}
use Rattle.author_formulas.specs.Memos.{MemoTask, memo, resource, formula_of, memo_polled, PollsMemos}
use Rattle.author_formulas.specs.Polls.{reads_into, computing_call, computed, has_computed, has_then, PollsMemo}
use Rattle.author_formulas.specs.Loading.{PollsResource}
use Rattle.author_formulas.proofs.Polls.{memos_poll, resources_poll}
use Rattle.law_minding.specs.Minding.{polled_world}
use Rattle.law_minding.specs.Held.{Since, after_poll}
use Rattle.law_minding.proofs.Named.{gathered}
use Rattle.law_minding.proofs.Polled.{cell_value}
use Rattle.law_minding.proofs.Since.{Here, Minded}
use Rattle.law_minding.proofs.Moved.{frame}
use Rattle.law_minding.proofs.Numbers.{move_rises}
use Rattle.law_minding.proofs.Polling.{last_value, writes, row, new, stands_done}
use Rattle.law_minding.proofs.Rested.{look_leaves, rest_leaves, before, world, poll, finds, leaves, polled_state}
use Rattle.law_minding.proofs.Fitting.{value_written, key_written, value_commands, keyed_commands, Fits, HeldFor, memo_fits, keyed_fits, has_is, all_read}

module _ {K : Types} {F : Type 0} (a : Formulas K F) (state : MemoTask K.Value F → K.TaskState) where
  -- where a task stands at a machine, since its last poll
  pub record Stage (t cell scope owner : ℕ) (h : Since K F) (m : Machine K) : Type 0 where
    pub context : ℕ
    pub held : CellRow K
    pub reads : ContextRow K
    pub target : reads.target ≡ TaskTarget t
    pub home : reads.scope ≡ scope
    pub fits : Fits a h.place context cell (formula_of h.place) (computed a h.last h.call (formula_of h.place)).answer held.value
    pub owner_is : held.owner ≡ owner
    pub minded : Minded h.last t context cell scope held (state h.place) true reads target home m.state
    pub drawn : h.last.given.next.cells ≤ m.state.next.cells
    pub numbered : context + 1 ≤ m.state.next.contexts
    pub outset : MadeNothing h.last h.call
    pub read : AllByRecursion (λ i. names_source reads.sources i ≡ true) (computed a h.last h.call (formula_of h.place)).call.aside

module _
    {K : Types} {F : Type 0} (a : Formulas K F) (app : Application K) (state : MemoTask K.Value F → K.TaskState)
    (lawful : IsLawful K app) (looks : FormulasLook a) (polls : PollsMemos a app state)
    (m u : Machine K) (limits : Limits) (t : ℕ) (step : Moves app limits m (Logged (Poll t)) u) (x : TaskRow K) (place : MemoTask K.Value F)
    (there : at m.state.tasks t ≡ Some x) (stands : x.state ≡ state place) (low : t + 1 ≤ m.state.next.tasks) where
  pub rested : at (at_rest m.state).tasks t ≡ Some x
  rested = ap (λ (z : State K). at z.tasks t) (rest_leaves m.state) ∙ there

  -- the state that is polled, the world of the poll, and the poll
  abbrev found : State K
  found = before app t a state polls m u limits step x place rested stands

  abbrev last : World K
  last = world app t a state polls m u limits step x place rested stands

  abbrev polled : Came K (MemoTask K.Value F)
  polled = poll app t a state polls m u limits step x place rested stands

  abbrev asks : State K
  asks = finds app t a state polls m u limits step x place rested stands

  abbrev left : State K
  left = leaves app t a state polls m u limits step x place rested stands

  abbrev later : TaskRow K
  later = record x { state = state polled.answer }

  rises : Rises m.state.next u.state.next
  rises = move_rises app lawful limits m u (Logged (Poll t)) step

  pub drawn_then : last.given.next.cells ≤ u.state.next.cells
  drawn_then = omega (arith, rises.cells, same)
    where
      same : last.given.next.cells ≡ m.state.next.cells
      same = ap (λ (z : State K). z.next.cells) (rest_leaves m.state)

  -- from what the commands leave to the machine behind the poll
  module _ (context cell : ℕ) (held : CellRow K) (reads : ContextRow K) (target : reads.target ≡ TaskTarget t) (home : reads.scope ≡ x.scope)
      (calm : polled.call.fault ≡ None) where
    is_look : u.state ≡ look left
    is_look = polled_state app t a state polls m u limits step x place rested stands calm

    pub minded_then : Here last t context cell x.scope held (state polled.answer) true reads target home left
        → Minded last t context cell x.scope held (state polled.answer) true reads target home u.state
    minded_then here =
        subst (λ (z : State K). Minded last t context cell x.scope held (state polled.answer) true reads target home z) (sym is_look)
        ((frame last t context cell x.scope held (state polled.answer) true reads target home app lawful.tests_values).looks left
        (record { low = omega (arith, low, rises.tasks, same); stands = inr here }))
      where
        same : u.state.next.tasks ≡ left.next.tasks
        same = ap (λ (z : State K). z.next.tasks) is_look ∙ ap (λ (z : State K). z.next.tasks) (look_leaves left)

  -- a poll whose context is there
  module _ (context cell : ℕ) (held : CellRow K) (reads : ContextRow K) (lives : is_some (at m.state.scopes x.scope) ≡ true)
      (holds : at m.state.cells cell ≡ Some held) (read : at m.state.contexts context ≡ Some reads)
      (target : reads.target ≡ TaskTarget t) (home : reads.scope ≡ x.scope) (low_context : context + 1 ≤ m.state.next.contexts)
      (f : F) (sources : List Source) (vs : List K.Value) where
    holds_then : at found.cells cell ≡ Some held
    holds_then = ap (λ (z : State K). at z.cells cell) (rest_leaves m.state) ∙ holds

    pub value_then : last.values.cell cell ≡ Some held.value
    value_then = ap (λ (o : Option (CellRow K)). cell_value o) holds_then

    pub stage_then : polled.call.commands ≡ Reset context ∷ (reads_into context sources ++ writes cell vs)
        → polled.call.fault ≡ None
        → (computed a last (computing_call last context) f).call.aside ≡ reverse sources
        → Fits a polled.answer context cell f (computed a last (computing_call last context) f).answer (last_value held.value vs)
        → Stage a state t cell x.scope held.owner (record { place = polled.answer; last = last; call = computing_call last context }) u
    stage_then asked calm looked fits =
        record {
          context = context;
          held = new app x.scope (Some t) t context cell found asks x later (state polled.answer) reads held sources vs;
          reads = row app x.scope (Some t) t context cell found asks x later (state polled.answer) reads held sources vs;
          target = target;
          home = home;
          fits =
              subst (λ (g : F). Fits a polled.answer context cell g (computed a last (computing_call last context) g).answer (last_value held.value vs))
              (sym fits.formula) fits;
          owner_is = refl;
          minded =
              minded_then context cell
              (new app x.scope (Some t) t context cell found asks x later (state polled.answer) reads held sources vs)
              (row app x.scope (Some t) t context cell found asks x later (state polled.answer) reads held sources vs)
              target
              home
              calm
              (subst
              (
              λ (z : State K).
              Here last t context cell x.scope
              (new app x.scope (Some t) t context cell found asks x later (state polled.answer) reads held sources vs)
              (state polled.answer)
              true
              (row app x.scope (Some t) t context cell found asks x later (state polled.answer) reads held sources vs)
              target
              home
              z
              )
              (sym (ap (λ (cs : List (Command K)). commands app asks x.scope (Some t) cs) asked))
              (stands_done app x.scope (Some t) t context cell found asks x later (state polled.answer) reads held sources vs
              refl
              refl
              (at_put_here found.tasks t later t (eq_same t))
              (ap (λ (z : State K). at z.contexts context) (rest_leaves m.state) ∙ read)
              target
              home
              refl
              (ap (λ (z : State K). is_some (at z.scopes x.scope)) (rest_leaves m.state) ∙ lives)
              holds_then));
          drawn = drawn_then;
          numbered = omega (arith, low_context, rises.contexts);
          outset = record { outside = refl; cells = refl; provided = refl; next = refl };
          read =
              subst
              (λ (g : F). AllByRecursion (λ i. names_source (gathered [] sources) i ≡ true) (computed a last (computing_call last context) g).call.aside)
              (sym fits.formula)
              (all_read a looks last (computing_call last context) f (record { outside = refl; cells = refl; provided = refl; next = refl }) sources looked);
        }

module _
    {K : Types} {F : Type 0} (a : Formulas K F) (app : Application K) (state : MemoTask K.Value F → K.TaskState)
    (lawful : IsLawful K app) (looks : FormulasLook a) (polls : PollsMemos a app state)
    (m u : Machine K) (limits : Limits) (t : ℕ) (step : Moves app limits m (Logged (Poll t)) u) (x : TaskRow K)
    (there : at m.state.tasks t ≡ Some x) (low : t + 1 ≤ m.state.next.tasks)
    (context cell : ℕ) (f : F) (held : CellRow K) (reads : ContextRow K) (lives : is_some (at m.state.scopes x.scope) ≡ true)
    (holds : at m.state.cells cell ≡ Some held) (read : at m.state.contexts context ≡ Some reads)
    (target : reads.target ≡ TaskTarget t) (home : reads.scope ≡ x.scope) (low_context : context + 1 ≤ m.state.next.contexts) where
  abbrev at_poll : World K
  at_poll = polled_world (unqueued (at_rest m.state) t) t x

  abbrev came_to : Came K K.Value
  came_to = computed a at_poll (computing_call at_poll context) f

  outset : MadeNothing at_poll (computing_call at_poll context)
  outset = record { outside = refl; cells = refl; provided = refl; next = refl }

  there_then : at_poll.values.cell cell ≡ Some held.value
  there_then = ap (λ (o : Option (CellRow K)). cell_value o) (ap (λ (z : State K). at z.cells cell) (rest_leaves m.state) ∙ holds)

  -- after a poll of a memo
  pub memo_stage : x.state ≡ state (memo cell context f) → Stage a state t cell x.scope held.owner (after_poll a at_poll t (memo cell context f)) u
  memo_stage stands =
      let has : Bool = has_computed a at_poll cell came_to in
      let vs : List K.Value = value_written has came_to.answer in
      stage_then a app state lawful looks polls m u limits t step x (memo cell context f) there stands low context cell held reads lives holds read
      target
      home
      low_context
      f
      polled.sources
      vs
      (polled.commands ∙ ap (λ (cs : List (Command K)). Reset context ∷ (reads_into context polled.sources ++ cs)) (value_commands {K = K} has cell came_to.answer))
      polled.allowed
      polled.looked
      (subst (λ (p : MemoTask K.Value F). Fits a p context cell f came_to.answer (last_value held.value vs)) (sym polled.answer)
      (memo_fits a context cell f came_to.answer (last_value held.value vs) (set has refl)))
    where
      polled : PollsMemo a at_poll [] cell context f came_to (came at_poll (memo_polled a (memo cell context f)) (begun false at_poll.given.next))
      polled = memos_poll a looks at_poll t cell context f refl

      set : (b : Bool) → has_computed a at_poll cell came_to ≡ b → last_value held.value (value_written b came_to.answer) ≡ came_to.answer
      set true e = has_is a looks at_poll (computing_call at_poll context) f outset cell came_to.answer held.value there_then e
      set false e = refl

  -- after a poll of a resource
  pub resource_stage : (key : K.Value) (number : ℕ) (is_done : Bool) → x.state ≡ state (resource cell context f key number is_done)
      → HeldFor a f key number is_done held.value
      → Stage a state t cell x.scope held.owner (after_poll a at_poll t (resource cell context f key number is_done)) u
  resource_stage key number is_done stands before_it =
      let is_same : Bool = a.same key came_to.answer in
      let is_empty : Bool = has_then a at_poll cell came_to a.empty in
      let vs : List K.Value = key_written a is_same is_empty f came_to.answer number is_done in
      stage_then a app state lawful looks polls m u limits t step x (resource cell context f key number is_done) there stands low context cell held reads
      lives
      holds
      read
      target
      home
      low_context
      f
      polled.sources
      vs
      (polled.commands
      ∙ ap (λ (cs : List (Command K)). Reset context ∷ (reads_into context polled.sources ++ cs)) (keyed_commands a is_same is_empty cell f came_to.answer number is_done))
      polled.allowed
      polled.looked
      (subst (λ (p : MemoTask K.Value F). Fits a p context cell f came_to.answer (last_value held.value vs)) (sym polled.answer)
      (keyed_fits a is_same is_empty context cell f came_to.answer held.value number is_done
      (λ q. subst (λ (k : K.Value). HeldFor a f k number is_done held.value) (looks.values.0 key came_to.answer q) before_it)
      (λ q. has_is a looks at_poll (computing_call at_poll context) f outset cell a.empty held.value there_then q)))
    where
      polled :
          PollsResource a at_poll [] cell context f came_to (a.same key came_to.answer) number is_done
          (came at_poll (memo_polled a (resource cell context f key number is_done)) (begun false at_poll.given.next))
      polled = resources_poll a looks at_poll t cell context f key number is_done refl
