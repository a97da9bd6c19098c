-- A poll of a memo leaves it standing.
use Rattle.std.proofs.Common.{ℕ, ◌+◌, Bool, true, false, List, [], ◌∷◌, ◌++◌, ◌≡◌, inl, inr, refl, sym, ap, ◌∙◌, subst, nat_lt}
use Rattle.std.specs.Prelude.{Option, Some, None, ◌⊎◌, is_some, if◌then◌else◌, length}
use Rattle.std.specs.List.{AllByRecursion}
use Rattle.rt_model.specs.Lists.{at, put}
use Rattle.rt_model.specs.Laws.{SameAt, Tests}
use Rattle.rt_model.specs.Program.{Call, begun, value_in}
use Rattle.rt_model.specs.Tree.{Types, CapturedError}
use Rattle.rt_model.specs.World.{Source, Cell, Error, Context, same_source, Command, Reset, ReadInto, Target, World, Application}
use Rattle.rt_model.specs.State.{Woken, Scope, CellRow, TaskRow, ContextRow, State, values_of, parents_of}
use Rattle.rt_model.specs.Commands.{names_source, one_more_source, change_context, written_at, tell, command, commands}
use Rattle.rt_model.proofs.Maps.{by_test, eq_same, at_put_here, at_put_other}
use Rattle.rt_model.proofs.Members.{clash, turned_round}
use Rattle.rt_model.proofs.SameTrees.{source_tests}
use Rattle.law_behavior.specs.Marking.{Targets}
use Rattle.law_behavior.specs.Owed.{OwesPoll}
use Rattle.law_behavior.proofs.Readers.{tell_posts, tell_readers}
use Rattle.author_programs.specs.Came.{Came, came}
use Rattle.author_formulas.specs.Looking.{MadeNothing, StandAlike, way_up}
use Rattle.author_formulas.specs.Formulas.{Formulas, FormulasLook}
use Rattle.author_formulas.specs.Memos.{MemoTask, memo, memo_polled, is_present}
use Rattle.author_formulas.specs.Polls.{reads_into, write_commands, computed, computing_call, has_computed, PollsMemo}
use Rattle.author_formulas.proofs.Looking.{looking_reads}
use Rattle.author_formulas.proofs.Deciding.{noted_make_nothing}
use Rattle.author_formulas.proofs.Polls.{memos_poll}
use Rattle.law_minding.specs.Minding.{polled_world, HasContext, MemoStands, PollsStand}
use Rattle.law_minding.proofs.Named.{gathered, all_named, all_turned}

module _ {K : Types} where
  -- the value of a cell by its row, the error of a scope, and what it provides of a kind
  abbrev pub cell_value : Option (CellRow K) → Option K.Value
  cell_value o = elim o [ None ↦ None | Some c ↦ Some c.value ]

  abbrev pub error_value : Option (Scope K) → Option CapturedError
  error_value o = elim o [ None ↦ None | Some c ↦ c.error ]

  abbrev pub context_value : ℕ → Option (Scope K) → Option K.Value
  context_value k o = elim o [ None ↦ None | Some c ↦ at c.contexts k ]

module _ {K : Types} (app : Application K) (s : ℕ) (polled : Option ℕ) (n : ℕ) where
  -- only a context changes, which has this row then
  pub record Gathers (w v : State K) (r : ContextRow K) : Type 0 where
    pub alike : v ≡ record w { contexts = v.contexts }
    pub row : at v.contexts n ≡ Some r

  changed_row : (w : State K) (r : ContextRow K) (g : ContextRow K → ContextRow K)
      → at w.contexts n ≡ Some r
      → change_context w n g ≡ record w { contexts = put w.contexts n (g r) }
  changed_row w r g e =
      ap (λ (o : Option (ContextRow K)). elim o as (λ z. State K) [ None ↦ w | Some x ↦ record w { contexts = put w.contexts n (g x) } ]) e

  one_gathers : (w : State K) (r : ContextRow K) (g : ContextRow K → ContextRow K)
      → at w.contexts n ≡ Some r
      → Gathers w (change_context w n g) (g r)
  one_gathers w r g e =
      subst (λ (v : State K). Gathers w v (g r)) (sym (changed_row w r g e))
      (record { alike = refl; row = at_put_here w.contexts n (g r) n (eq_same n) })

  then_gathers : (u v w : State K) (r q : ContextRow K) → Gathers u v r → Gathers v w q → Gathers u w q
  then_gathers u v w r q f g =
      record { alike = g.alike ∙ ap (λ (x : State K). record x { contexts = w.contexts }) f.alike; row = g.row }

  -- sources are read into the context
  all_gather : (xs : List Source) (w : State K) (r : ContextRow K) → at w.contexts n ≡ Some r
      → Gathers w (commands app w s polled (reads_into n xs)) (record r { sources = gathered r.sources xs })
  all_gather [] w r e = record { alike = refl; row = e }
  all_gather (x ∷ xs) w r e =
      let one : ContextRow K = record r { sources = one_more_source r.sources x } in
      let v : State K = command app w s polled (ReadInto n x) in
      let g = one_gathers w r (λ y. record y { sources = one_more_source y.sources x }) e in
      then_gathers w v (commands app v s polled (reads_into n xs)) one (record r { sources = gathered r.sources (x ∷ xs) }) g
      (all_gather xs v one g.row)

  -- commands, and then others
  pub one_by_one : (cs ds : List (Command K)) (w : State K)
      → commands app w s polled (cs ++ ds) ≡ commands app (commands app w s polled cs) s polled ds
  one_by_one [] ds w = refl
  one_by_one (c ∷ cs) ds w = one_by_one cs ds (command app w s polled c)

  -- an emptied context that reads these sources
  pub emptied_gathers : (xs : List Source) (w : State K) (r : ContextRow K) → at w.contexts n ≡ Some r
      → Gathers w (commands app w s polled (Reset n ∷ reads_into n xs)) (record r { sources = gathered [] xs })
  emptied_gathers xs w r e =
      let none : ContextRow K = record r { sources = [] } in
      let v : State K = command app w s polled (Reset n) in
      let g = one_gathers w r (λ y. record y { sources = [] }) e in
      then_gathers w v (commands app v s polled (reads_into n xs)) none (record r { sources = gathered [] xs }) g (all_gather xs v none g.row)

module _ {K : Types} where
  -- where scopes and cells are as they were each source has the value that it had
  same_values : (w v : State K) (t : ℕ) (x y : TaskRow K) → v.scopes ≡ w.scopes → v.cells ≡ w.cells → (i : Source)
      → SameAt (polled_world w t x) (polled_world v t y) i
  same_values w v t x y sc ce (Cell m) = λ low. ap (λ (es : List (ℕ × CellRow K)). cell_value (at es m)) (sym ce)
  same_values w v t x y sc ce (Error s) = ap (λ (es : List (ℕ × Scope K)). error_value (at es s)) (sym sc)
  same_values w v t x y sc ce (Context k s) = ap (λ (es : List (ℕ × Scope K)). context_value k (at es s)) (sym sc)

  -- where a cell was put as well, each other source
  other_values : (w v : State K) (t cell : ℕ) (x y : TaskRow K) (old : CellRow K) → v.scopes ≡ w.scopes → v.cells ≡ put w.cells cell old
      → (i : Source)
      → same_source i (Cell cell) ≡ false
      → SameAt (polled_world w t x) (polled_world v t y) i
  other_values w v t cell x y old sc ce (Cell m) q = λ low.
      sym
      (ap (λ (es : List (ℕ × CellRow K)). cell_value (at es m)) ce
      ∙ ap (λ (o : Option (CellRow K)). cell_value o) (at_put_other w.cells cell old m (turned_round m cell q)))
  other_values w v t cell x y old sc ce (Error s) q = ap (λ (es : List (ℕ × Scope K)). error_value (at es s)) (sym sc)
  other_values w v t cell x y old sc ce (Context k s) q = ap (λ (es : List (ℕ × Scope K)). context_value k (at es s)) (sym sc)

  -- where scopes are as they were, a task of the same scope stands alike
  pub alike_on : (w v : State K) (t : ℕ) (x y : TaskRow K) → v.scopes ≡ w.scopes → y.scope ≡ x.scope
      → StandAlike (polled_world w t x) (polled_world v t y)
  alike_on w v t x y sc e =
      record {
        scope = sym e;
        way =
            ap (λ (es : List (ℕ × Scope K)). way_up (parents_of es) (length (parents_of es) + 1) x.scope) (sym sc)
            ∙ ap (λ (n : ℕ). way_up (parents_of v.scopes) (length (parents_of v.scopes) + 1) n) (sym e);
      }

-- the value that a poll didn't write is there
pub present_holds : {V : Type 0} (same : V → V → Bool) → Tests V same → (b : Bool) (o : Option V) (y v : V)
    → is_present same (if b then o else None) v ≡ true
    → o ≡ Some y
    → y ≡ v
present_holds {V = V} same tests true o y v h e = tests.0 y v (subst (λ (p : Option V). is_present same p v ≡ true) e h)
present_holds same tests false o y v h e = clash h refl

module _
    {K : Types} {F : Type 0} (a : Formulas K F) (looks : FormulasLook a) (app : Application K)
    (state : MemoTask K.Value F → K.TaskState) (w u : State K) (t cell context : ℕ) (f : F) (x : TaskRow K) (reads : ContextRow K)
    (rows : HasContext w t context x reads)
    (sc : u.scopes ≡ w.scopes) (ce : u.cells ≡ w.cells) (co : u.contexts ≡ w.contexts) (ta : u.tasks ≡ w.tasks) where
  -- the world of the poll, the call in which the formula is computed, and what came of it
  abbrev last : World K
  last = polled_world w t x

  abbrev call : Call K
  call = computing_call last context

  abbrev value : Came K K.Value
  value = computed a last call f

  -- the task as it stands then, the state that the poll's commands find, and the poll
  abbrev later : TaskRow K
  later = record x { state = state (memo cell context f) }

  abbrev found : State K
  found = record u { tasks = put u.tasks t later }

  abbrev poll : Came K (MemoTask K.Value F)
  poll = came last (memo_polled a (memo cell context f)) (begun false last.given.next)

  pub polls : PollsMemo a last [] cell context f value poll
  polls = memos_poll a looks last t cell context f refl

  -- the context's row once the sources were read, and the state then
  abbrev row : ContextRow K
  row = record reads { sources = gathered [] polls.sources }

  abbrev mid : State K
  mid = commands app found x.scope (Some t) (Reset context ∷ reads_into context polls.sources)

  gathers : Gathers app x.scope (Some t) context found mid row
  gathers =
      emptied_gathers app x.scope (Some t) context polls.sources found reads
      (ap (λ (es : List (ℕ × ContextRow K)). at es context) co ∙ rows.context_is)

  mid_scopes : mid.scopes ≡ w.scopes
  mid_scopes = ap (λ (v : State K). v.scopes) gathers.alike ∙ sc

  mid_cells : mid.cells ≡ w.cells
  mid_cells = ap (λ (v : State K). v.cells) gathers.alike ∙ ce

  mid_task : at mid.tasks t ≡ Some later
  mid_task = ap (λ (v : State K). at v.tasks t) gathers.alike ∙ at_put_here u.tasks t later t (eq_same t)

  outset : MadeNothing last call
  outset = record { outside = refl; cells = refl; provided = refl; next = refl }

  made_nothing : MadeNothing last value.call
  made_nothing = noted_make_nothing last last call value.call outset (looking_reads K K.Value last (a.computes f) call (looks.looks f))

  -- the context names what the formula looked at
  named : AllByRecursion (λ i. names_source row.sources i ≡ true) value.call.aside
  named =
      subst (λ (xs : List Source). AllByRecursion (λ i. names_source row.sources i ≡ true) xs) (sym polls.looked)
      (all_turned (λ i. names_source row.sources i ≡ true) polls.sources (all_named polls.sources []))

  build : (v : State K)
      → v.scopes ≡ w.scopes
      → HasContext v t context later row
      → ((y : K.Value) → (values_of v).cell cell ≡ Some y → y ≡ value.answer)
      → (OwesPoll v t ⊎ ((i : Source) → names_source row.sources i ≡ true → SameAt last (polled_world v t later) i))
      → MemoStands a v t cell context f last call later row
  build v scopes there holds minds =
      record {
        outset = outset;
        rows = there;
        read = named;
        alike = alike_on w v t x later scopes refl;
        holds = holds;
        minds = minds;
      }

  -- the memo stands where nothing was written
  unwritten : ((y : K.Value) → (values_of mid).cell cell ≡ Some y → y ≡ value.answer) → MemoStands a mid t cell context f last call later row
  unwritten holds =
      build mid mid_scopes (record { task_is = mid_task; context_is = gathers.row; target = rows.target }) holds
      (inr (λ i e. same_values w mid t x later mid_scopes mid_cells i))

  present : has_computed a last cell value ≡ true → (y : K.Value) → (values_of mid).cell cell ≡ Some y → y ≡ value.answer
  present h y e =
      present_holds a.same looks.values (nat_lt cell value.call.next.cells) (last.values.cell cell) y value.answer
      (subst
      (λ (made : List (ℕ × K.Value)).
      is_present a.same (if nat_lt cell value.call.next.cells then value_in last (at made cell) cell else None) value.answer ≡ true)
      made_nothing.cells
      h)
      (ap (λ (es : List (ℕ × CellRow K)). cell_value (at es cell)) (sym mid_cells) ∙ e)

  -- and where the cell was written
  written : (o : Option (CellRow K)) → at mid.cells cell ≡ o
      → MemoStands a (written_at mid cell value.answer o) t cell context f last call later row
  written None gone =
      unwritten (λ y e. let none : None ≡ Some y = sym (ap (λ (o : Option (CellRow K)). cell_value o) gone) ∙ e in cc)
  written (Some old) there =
      let new : CellRow K = record old { value = value.answer } in
      let m : State K = record mid { cells = put mid.cells cell new } in
      let v : State K = tell m (Cell cell) in
      let posts = tell_posts m (Cell cell) in
      let scopes : v.scopes ≡ w.scopes = ap (λ (z : State K). z.scopes) posts.alike ∙ mid_scopes in
      let cells : v.cells ≡ put w.cells cell new =
      ap (λ (z : State K). z.cells) posts.alike ∙ ap (λ (es : List (ℕ × CellRow K)). put es cell new) mid_cells in
      build v scopes
      (record {
        task_is = ap (λ (z : State K). at z.tasks t) posts.alike ∙ mid_task;
        context_is = ap (λ (z : State K). at z.contexts context) posts.alike ∙ gathers.row;
        target = rows.target;
      })
      (
      λ y e.
      let held : (values_of v).cell cell ≡ Some value.answer =
      ap (λ (es : List (ℕ × CellRow K)). cell_value (at es cell)) cells
      ∙ ap (λ (o : Option (CellRow K)). cell_value o) (at_put_here w.cells cell new cell (eq_same cell)) in
      some_is value.answer y (sym held ∙ e)
      )
      (
      by_test (names_source row.sources (Cell cell))
      (λ q. inl (λ active. inl ((tell_readers m (Cell cell)).contexts context row (Woken t) gathers.row q (wakes m mid_task))))
      (λ q. inr (λ i e. other_values w v t cell x later new scopes cells i (apart i e q)))
      )
    where
      some_is : (y z : K.Value) → Some y ≡ Some z → z ≡ y
      some_is y z h = cc

      wakes : (m : State K) → at m.tasks t ≡ Some later → Targets m row.target (Woken t)
      wakes m e =
          subst (λ (r : Target). Targets m r (Woken t)) (sym rows.target) (ap (λ (o : Option (TaskRow K)). is_some o) e, refl)

      apart : (i : Source) → names_source row.sources i ≡ true → names_source row.sources (Cell cell) ≡ false
          → same_source i (Cell cell) ≡ false
      apart i e q =
          by_test (same_source i (Cell cell))
          (λ is. clash (sym (ap (λ (j : Source). names_source row.sources j) (source_tests.0 i (Cell cell) is)) ∙ e) q)
          (λ other. other)

  set : (b : Bool) → b ≡ has_computed a last cell value
      → MemoStands a (commands app mid x.scope (Some t) (write_commands b cell value.answer)) t cell context f last call later row
  set true h = unwritten (present (sym h))
  set false h = written (at mid.cells cell) refl

  pub stands : MemoStands a (commands app found x.scope (Some t) poll.call.commands) t cell context f last call later row
  stands =
      subst (λ (v : State K). MemoStands a v t cell context f last call later row)
      (sym
      (ap (λ (cs : List (Command K)). commands app found x.scope (Some t) cs) polls.commands
      ∙ one_by_one app x.scope (Some t) context (Reset context ∷ reads_into context polls.sources)
      (write_commands (has_computed a last cell value) cell value.answer) found))
      (set (has_computed a last cell value) refl)

-- a poll of a memo leaves it standing
pub polls_stand : {K : Types} {F : Type 0} (a : Formulas K F) → PollsStand a
polls_stand a looks app state w u t cell context f x reads rows sc ce co ta =
    (_, stands a looks app state w u t cell context f x reads rows sc ce co ta)
