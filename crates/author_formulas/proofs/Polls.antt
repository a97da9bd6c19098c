-- What polls of memos and of resources mean.
use Rattle.std.proofs.Common.{ℕ, Bool, true, false, List, [], ◌∷◌, ◌++◌, ◌≡◌, refl, ap, sym, subst, ◌∙◌, nat_lt, append-nil}
use Rattle.std.specs.Prelude.{Option, Some, None, if◌then◌else◌, reverse}
use Rattle.std.proofs.lemmas.Grind.{reverse_onto}
use Rattle.std.proofs.lemmas.List.{append_assoc}
use Rattle.rt_model.specs.Program.{Program, done, leave, new_context, Call, begun, says, faults, noted, noted_at, left_behind, drew_context}
use Rattle.rt_model.specs.Tree.{Types}
use Rattle.rt_model.specs.World.{Source, Cell, TaskTarget, Contexts, Firsts, CounterAtEnd, at_end, Command, Reset, ReadInto, Write, World, Nothing, nothing}
use Rattle.author_programs.specs.Came.{Came, came, reached}
use Rattle.author_programs.specs.Contexts.{left}
use Rattle.author_programs.specs.Sequence.{go_on}
use Rattle.author_programs.specs.Reads.{read_call}
use Rattle.author_programs.proofs.Steps.{on, at_done, at_read, at_write, at_task}
use Rattle.author_formulas.specs.Looking.{all_noted}
use Rattle.author_formulas.specs.Formulas.{Formulas, FormulasLook, Load, wait, loaded}
use Rattle.author_formulas.specs.Memos.{MemoTask, fresh, memo, resource, memo_polled, polled_by, polled_in, context_for, computed_in, memo_set, loading_on, loading_anew, loading_for, after_step, set_to, written_unless, is_present}
use Rattle.author_formulas.specs.Polls.{reads_into, write_commands, computing_in, makes_context, computed, has_then, PollsMemo, MemosPoll, MemosFirstPoll, FirstPollsRefused}
use Rattle.author_formulas.specs.Loading.{stepped_to, step_commands, loaded_to, load_commands, keyed_to, key_commands, PollsResource, ResourcesPoll, ResourcesFirstPoll}
use Rattle.author_formulas.proofs.Looking.{looking_reads}

-- what a list that is turned around stands before begins with the next item of the list
turned_with : (x : Source) (xs ys : List Source) → reverse xs ++ (x ∷ ys) ≡ reverse (x ∷ xs) ++ ys
turned_with x xs ys = sym (ap (λ (zs : List Source). zs ++ ys) (reverse_onto xs x []) ∙ append_assoc (reverse xs) (x ∷ []) ys)

module _ {K : Types} where
  -- from c to d these sources were read into a context
  record ReadInOrder (c d : Call K) (n : ℕ) (xs : List Source) : Type 0 where
    into : d.into ≡ n ∷ []
    outside : d.in_body ≡ c.in_body
    aside : d.aside ≡ reverse xs ++ c.aside
    commands : d.commands ≡ c.commands ++ reads_into n xs
    allowed : d.fault ≡ c.fault

  -- reads that are noted in a context are read into it
  all_read_into : (n : ℕ) (xs : List Source) (c : Call K) → c.into ≡ n ∷ [] → ReadInOrder c (all_noted c xs) n xs
  all_read_into n [] c e = record { into = e; outside = refl; aside = refl; commands = sym (append-nil c.commands); allowed = refl }
  all_read_into n (x ∷ xs) c e =
      let d : Call K = record c { aside = x ∷ c.aside; commands = c.commands ++ ReadInto n x ∷ [] } in
      let is : noted c x ≡ d = ap (λ (into : List ℕ). noted_at c x into c.in_body) e in
      let r = all_read_into n xs d e in
      subst (λ (z : Call K). ReadInOrder c (all_noted z xs) n (x ∷ xs)) (sym is)
      (record {
        into = r.into;
        outside = r.outside;
        aside = r.aside ∙ turned_with x xs c.aside;
        commands = r.commands ∙ append_assoc c.commands (ReadInto n x ∷ []) (reads_into n xs);
        allowed = r.allowed;
      })

  -- outside of contexts a read of a call that is no body asks for nothing
  read_quietly : (c : Call K) (cell : ℕ) → c.into ≡ [] → c.in_body ≡ false → (read_call c cell).commands ≡ c.commands
  read_quietly c cell e o = either (nat_lt cell c.next.cells)
    where
      noted_quietly : (into : List ℕ) (body : Bool) → into ≡ [] → body ≡ false → (noted_at c (Cell cell) into body).commands ≡ c.commands
      noted_quietly [] true p q = refl
      noted_quietly [] false p q = refl
      noted_quietly (n ∷ ns) body p q = let absurdity : n ∷ ns ≡ [] = p in cc

      either : (b : Bool) → (if b then noted c (Cell cell) else c).commands ≡ c.commands
      either true = noted_quietly c.into c.in_body e o
      either false = refl

  -- nor is it refused
  read_unrefused : (c : Call K) (cell : ℕ) → (read_call c cell).fault ≡ c.fault
  read_unrefused c cell = either (nat_lt cell c.next.cells)
    where
      noted_unrefused : (into : List ℕ) (body : Bool) → (noted_at c (Cell cell) into body).fault ≡ c.fault
      noted_unrefused [] true = refl
      noted_unrefused [] false = refl
      noted_unrefused (n ∷ ns) body = refl

      either : (b : Bool) → (if b then noted c (Cell cell) else c).fault ≡ c.fault
      either true = noted_unrefused c.into c.in_body
      either false = refl

module _
    {K : Types} {F : Type 0} (a : Formulas K F) (looks : FormulasLook a)
    (w : World K) (first : Firsts) (before : List (Command K)) (cell context : ℕ) (f : F) where
  -- a poll that stands in no context yet, with what was asked for before
  abbrev start : Call K
  start = record (begun false first) { commands = before }

  -- in the emptied context, what the formula comes to there, and the call once the context is left
  abbrev inside : Call K
  inside = computing_in start context

  abbrev value : Came K K.Value
  value = computed a w inside f

  abbrev outside : Call K
  outside = left value.call

  -- the call once its cell was read, and written unless it has a value
  abbrev finish : K.Value → Bool → Call K
  finish v true = read_call outside cell
  finish v false = says (read_call outside cell) (Write cell v)

  -- the formula is computed in its context, and what follows is told its value
  was_computed : (g : K.Value → Program K (MemoTask K.Value F))
      → came w (go_on (computed_in a context f) g) start ≡ came w (g value.answer) outside
  unfolding came
  was_computed g =
      on w (computed_in a context f) g start ∙ ap (λ (x : Came K K.Value). came w (g x.answer) x.call) (alone)
    where
      alone : came w (computed_in a context f) start ≡ reached value.answer outside
      alone = on w (a.computes f) (λ v. leave (done v)) inside

  -- the cell is written, or not
  was_written : (v : K.Value) (b : Bool) → came w (written_unless b cell v) (read_call outside cell) ≡ reached nothing (finish v b)
  was_written v true = at_done w nothing (read_call outside cell)
  was_written v false =
      at_write w cell v (done nothing) (read_call outside cell) ∙ at_done w nothing (says (read_call outside cell) (Write cell v))

  -- whether the cell has a value
  abbrev has_it : K.Value → Bool
  has_it v = has_then a w cell value v

  was_set : (v : K.Value) → came w (set_to a.same cell v) outside ≡ reached nothing (finish v (has_it v))
  was_set v = at_read w cell (λ present. written_unless (is_present a.same present v) cell v) outside ∙ was_written v (has_it v)

  -- the sources of the formula, which were read into the context
  found : (sources : List Source) × (value.call ≡ all_noted inside sources)
  found = looking_reads K K.Value w (a.computes f) inside (looks.looks f)

  were_read : ReadInOrder inside value.call context found.0
  were_read = subst (λ (d : Call K). ReadInOrder inside d context found.0) (sym found.1) (all_read_into context found.0 inside refl)

  -- what was asked for so far, and that nothing was refused
  record Asked (c : Call K) (more : List (Command K)) : Type 0 where
    commands : c.commands ≡ before ++ Reset context ∷ (reads_into context found.0 ++ more)
    allowed : c.fault ≡ None

  -- once the context is left
  asked_outside : Asked outside []
  asked_outside =
      record {
        commands =
            were_read.commands
            ∙ append_assoc before (Reset context ∷ []) (reads_into context found.0)
            ∙ ap (λ cs. before ++ Reset context ∷ cs) (sym (append-nil (reads_into context found.0)));
        allowed = were_read.allowed;
      }

  -- one more command
  asked_for : (c : Call K) (more : List (Command K)) (d : Command K) → Asked c more → Asked (says c d) (more ++ d ∷ [])
  asked_for c more d h =
      record {
        commands =
            ap (λ cs. cs ++ d ∷ []) h.commands
            ∙ append_assoc before (Reset context ∷ (reads_into context found.0 ++ more)) (d ∷ [])
            ∙ ap (λ cs. before ++ Reset context ∷ cs) (append_assoc (reads_into context found.0) more (d ∷ []));
        allowed = h.allowed;
      }

  -- reading its own cell, outside, the poll asks for nothing more
  asked_reading : Asked (read_call outside cell) []
  asked_reading =
      record {
        commands = read_quietly outside cell (ap left_behind were_read.into) were_read.outside ∙ asked_outside.commands;
        allowed = read_unrefused outside cell ∙ asked_outside.allowed;
      }

  asked_finish : (v : K.Value) (b : Bool) → Asked (finish v b) (write_commands b cell v)
  asked_finish v true = asked_reading
  asked_finish v false = asked_for (read_call outside cell) [] (Write cell v) asked_reading

  -- a poll that comes to an answer, after which this was asked for
  record Comes (poll : Came K (MemoTask K.Value F)) (place : MemoTask K.Value F) (more : List (Command K)) : Type 0 where
    answer : poll.answer ≡ place
    asked : Asked poll.call more

  comes : (poll : Came K (MemoTask K.Value F)) (place : MemoTask K.Value F) (c : Call K) (more : List (Command K))
      → poll ≡ reached place c → Asked c more → Comes poll place more
  comes poll place c more e h =
      subst (λ (x : Came K (MemoTask K.Value F)). Comes x place more) (sym e) (record { answer = refl; asked = h })

  -- where a memo stands then
  abbrev stands : MemoTask K.Value F
  stands = memo cell context f

  -- a memo is set to what was computed
  sets : Comes (came w (memo_set a cell context f value.answer) outside) (memo cell context f) (write_commands (has_it value.answer) cell value.answer)
  sets =
      comes (came w (memo_set a cell context f value.answer) outside) (memo cell context f) (finish value.answer (has_it value.answer))
      (write_commands (has_it value.answer) cell value.answer)
      (on w (set_to a.same cell value.answer) (λ _. done (memo cell context f)) outside
      ∙ ap (λ (x : Came K Nothing). came w (done stands) x.call) (was_set value.answer)
      ∙ at_done w (memo cell context f) (finish value.answer (has_it value.answer)))
      (asked_finish value.answer (has_it value.answer))

  -- a resource takes a step of loading
  steps : (c : Call K) (more : List (Command K)) (key : K.Value) (step : ℕ) (l : Load K.Value) → Asked c more
      → Comes (came w (after_step cell context f key step l) c) (stepped_to cell context f key step l) (more ++ step_commands cell l)
  steps c more key step wait h =
      comes (came w (after_step {K = K} cell context f key step wait) c) (stepped_to cell context f key step wait) c (more ++ [])
      (at_done w (stepped_to cell context f key step wait) c)
      (subst (λ (cs : List (Command K)). Asked c cs) (sym (append-nil more)) h)
  steps c more key step (loaded v) h =
      comes (came w (after_step {K = K} cell context f key step (loaded v)) c) (stepped_to cell context f key step (loaded v)) (says c (Write cell v))
      (more ++ Write cell v ∷ [])
      (at_write w cell v (done (resource cell context f key step true)) c ∙ at_done w (resource cell context f key step true) (says c (Write cell v)))
      (asked_for c more (Write cell v) h)

  -- or none, where it was loaded
  loads_on : (c : Call K) (more : List (Command K)) (key : K.Value) (step : ℕ) (is_done : Bool) → Asked c more
      → Comes (came w (loading_on a cell context f key step is_done) c) (loaded_to a cell context f key step is_done)
      (more ++ load_commands a cell f key step is_done)
  loads_on c more key step true h =
      comes (came w (loading_on a cell context f key step true) c) (resource cell context f key step true) c (more ++ [])
      (at_done w (resource cell context f key step true) c)
      (subst (λ (cs : List (Command K)). Asked c cs) (sym (append-nil more)) h)
  loads_on c more key step false h = steps c more key step (a.loads f key step) h

  -- a new key empties the cell, and loads from the first step on
  loads_anew : (key : K.Value)
      → Comes (came w (loading_anew a cell context f key) outside) (loaded_to a cell context f key 0 false)
      (write_commands (has_it a.empty) cell a.empty ++ load_commands a cell f key 0 false)
  loads_anew key =
      subst
      (λ (x : Came K (MemoTask K.Value F)).
      Comes x (loaded_to a cell context f key 0 false) (write_commands (has_it a.empty) cell a.empty ++ load_commands a cell f key 0 false))
      (sym
      (on w (set_to a.same cell a.empty) (λ _. loading_on a cell context f key 0 false) outside
      ∙ ap (λ (x : Came K Nothing). came w (loading_on a cell context f key 0 false) x.call) (was_set a.empty)))
      (loads_on (finish a.empty (has_it a.empty)) (write_commands (has_it a.empty) cell a.empty) key 0 false (asked_finish a.empty (has_it a.empty)))

  -- a key is the one that it had, or a new one
  loads_for : (is_same : Bool) (step : ℕ) (is_done : Bool)
      → Comes (came w (loading_for a cell context f value.answer step is_done is_same) outside)
      (keyed_to a is_same cell context f value.answer step is_done)
      (key_commands a is_same (has_it a.empty) cell f value.answer step is_done)
  loads_for true step is_done = loads_on outside [] value.answer step is_done asked_outside
  loads_for false step is_done = loads_anew value.answer

  -- a poll that sets a memo
  pub sets_memo : (poll : Came K (MemoTask K.Value F))
      → poll ≡ came w (go_on (computed_in a context f) (λ v. memo_set a cell context f v)) start
      → PollsMemo a w before cell context f value poll
  sets_memo poll e =
      subst (λ (x : Came K (MemoTask K.Value F)). PollsMemo a w before cell context f value x)
      (sym (e ∙ was_computed (λ v. memo_set a cell context f v)))
      (record {
        answer = sets.answer;
        sources = found.0;
        looked = were_read.aside ∙ append-nil (reverse found.0);
        commands = sets.asked.commands;
        allowed = sets.asked.allowed;
      })

  -- and one that loads for what was computed
  loads_resource : (poll : Came K (MemoTask K.Value F)) (is_same : Bool) (step : ℕ) (is_done : Bool)
      → poll ≡ came w (loading_for a cell context f value.answer step is_done is_same) outside
      → PollsResource a w before cell context f value is_same step is_done poll
  loads_resource poll is_same step is_done e =
      let r = loads_for is_same step is_done in
      subst (λ (x : Came K (MemoTask K.Value F)). PollsResource a w before cell context f value is_same step is_done x) (sym e)
      (record {
        answer = r.answer;
        sources = found.0;
        looked = were_read.aside ∙ append-nil (reverse found.0);
        commands = r.asked.commands;
        allowed = r.asked.allowed;
      })

  pub loads_known : (poll : Came K (MemoTask K.Value F)) (key : K.Value) (step : ℕ) (is_done : Bool)
      → poll ≡ came w (go_on (computed_in a context f) (λ v. loading_for a cell context f v step is_done (a.same key v))) start
      → PollsResource a w before cell context f value (a.same key value.answer) step is_done poll
  loads_known poll key step is_done e =
      loads_resource poll (a.same key value.answer) step is_done
      (e ∙ was_computed (λ v. loading_for a cell context f v step is_done (a.same key v)))

  pub loads_new : (poll : Came K (MemoTask K.Value F))
      → poll ≡ came w (go_on (computed_in a context f) (λ v. loading_anew a cell context f v)) start
      → PollsResource a w before cell context f value false 0 false poll
  loads_new poll e = loads_resource poll false 0 false (e ∙ was_computed (λ v. loading_anew a cell context f v))

module _ {K : Types} {F : Type 0} (a : Formulas K F) (w : World K) (t : ℕ) (task : w.given.task ≡ Some t) where
  -- a poll of a task, from its context on
  was_polled : (m : MemoTask K.Value F)
      → came w (memo_polled a m) (begun false w.given.next)
      ≡ came w (polled_in a m (came w (context_for {K = K} m t) (begun false w.given.next)).answer)
      (came w (context_for {K = K} m t) (begun false w.given.next)).call
  was_polled m =
      at_task w (λ o. polled_by a m o) (begun false w.given.next)
      ∙ ap (λ o. came w (polled_by a m o) (begun false w.given.next)) task
      ∙ on w (context_for {K = K} m t) (λ o. polled_in a m o) (begun false w.given.next)

  -- one that has its context
  pub polled_with : (m : MemoTask K.Value F) (context : ℕ) → context_for {K = K} m t ≡ done (Some context)
      → came w (memo_polled a m) (begun false w.given.next) ≡ came w (polled_in a m (Some context)) (begun false w.given.next)
  polled_with m context e =
      was_polled m
      ∙ ap (λ (p : Program K (Option ℕ)). came w (polled_in a m (came w p (begun false w.given.next)).answer) (came w p (begun false w.given.next)).call) e
      ∙ ap (λ (x : Came K (Option ℕ)). came w (polled_in a m x.answer) x.call) (at_done w (Some context) (begun false w.given.next))

  -- the call of a first poll with its context, and that of one which can't make any
  abbrev with_context : Call K
  with_context = drew_context (begun false w.given.next) (TaskTarget t)

  abbrev without_context : Call K
  without_context = faults (begun false w.given.next) (CounterAtEnd Contexts)

  -- its context is the next one, unless none is left
  has_drawn : (b : Bool) → at_end w.given.next.contexts ≡ b
      → came w (new_context (TaskTarget t) (λ context. done context)) (begun false w.given.next)
      ≡ (if b then reached None without_context else reached (Some w.given.next.contexts) with_context)
  unfolding came
  has_drawn b e = ap (λ (c : Bool). if c then reached {K = K} None without_context else reached (Some w.given.next.contexts) with_context) e

  pub polled_first : (cell : ℕ) (f : F) (loads : Bool) → at_end w.given.next.contexts ≡ false
      → came w (memo_polled a (fresh cell f loads)) (begun false w.given.next)
      ≡ came w (polled_in a (fresh cell f loads) (Some w.given.next.contexts)) with_context
  polled_first cell f loads e =
      was_polled (fresh cell f loads)
      ∙ ap (λ (x : Came K (Option ℕ)). came w (polled_in a (fresh cell f loads) x.answer) x.call) (has_drawn false e)

  pub polled_never : (cell : ℕ) (f : F) (loads : Bool) → at_end w.given.next.contexts ≡ true
      → came w (memo_polled a (fresh cell f loads)) (begun false w.given.next) ≡ reached (fresh cell f loads) without_context
  polled_never cell f loads e =
      was_polled (fresh cell f loads)
      ∙ ap (λ (x : Came K (Option ℕ)). came w (polled_in a (fresh cell f loads) x.answer) x.call) (has_drawn true e)
      ∙ at_done w (fresh cell f loads) without_context

-- each poll of a memo, whose formulas only look
pub memos_poll : {K : Types} {F : Type 0} (a : Formulas K F) → MemosPoll a
memos_poll {K = K} a looks w t cell context f task =
    sets_memo a looks w w.given.next [] cell context f (came w (memo_polled a (memo cell context f)) (begun false w.given.next))
    (polled_with a w t task (memo cell context f) context refl)

-- and each first one
pub memos_first_poll : {K : Types} {F : Type 0} (a : Formulas K F) → MemosFirstPoll a
memos_first_poll {K = K} a looks w t cell f task low =
    sets_memo a looks w (with_context a w t task).next (makes_context w t) cell w.given.next.contexts f
    (came w (memo_polled a (fresh cell f false)) (begun false w.given.next))
    (polled_first a w t task cell f false low)

pub first_polls_refused : {K : Types} {F : Type 0} (a : Formulas K F) → FirstPollsRefused a
first_polls_refused {K = K} {F = F} a w t cell f loads task high =
    let e = polled_never a w t task cell f loads high in (
      ap (λ (x : Came K (MemoTask K.Value F)). x.answer) e,
      ap (λ (x : Came K (MemoTask K.Value F)). x.call.commands) e,
      ap (λ (x : Came K (MemoTask K.Value F)). x.call.fault) e,
    )

-- each poll of a resource
pub resources_poll : {K : Types} {F : Type 0} (a : Formulas K F) → ResourcesPoll a
resources_poll {K = K} a looks w t cell context f key step is_done task =
    loads_known a looks w w.given.next [] cell context f
    (came w (memo_polled a (resource cell context f key step is_done)) (begun false w.given.next))
    key
    step
    is_done
    (polled_with a w t task (resource cell context f key step is_done) context refl)

pub resources_first_poll : {K : Types} {F : Type 0} (a : Formulas K F) → ResourcesFirstPoll a
resources_first_poll {K = K} a looks w t cell f task low =
    loads_new a looks w (with_context a w t task).next (makes_context w t) cell w.given.next.contexts f
    (came w (memo_polled a (fresh cell f true)) (begun false w.given.next))
    (polled_first a w t task cell f true low)
