-- What polls write, and that the cell holds what it should then.
use Rattle.std.proofs.Common.{ℕ, ◌+◌, Bool, true, false, List, [], ◌∷◌, ◌++◌, ◌≡◌, refl, sym, ap, ◌∙◌, subst, nat_lt}
use Rattle.std.specs.Prelude.{Some, None, if◌then◌else◌, reverse}
use Rattle.std.specs.List.{AllByRecursion}
use Rattle.rt_model.specs.Lists.{at}
use Rattle.rt_model.specs.Program.{Call, value_in}
use Rattle.rt_model.specs.Tree.{Types}
use Rattle.rt_model.specs.World.{Source, Command, World}
use Rattle.rt_model.specs.Commands.{names_source}
use Rattle.author_programs.specs.Came.{Came}
use Rattle.author_formulas.specs.Looking.{MadeNothing}
use Rattle.author_formulas.specs.Formulas.{Formulas, FormulasLook, Load, wait, loaded}
use Rattle.author_formulas.specs.Memos.{MemoTask, memo, resource, cell_of, context_of, formula_of, is_present}
use Rattle.author_formulas.specs.Polls.{write_commands, computed, has_then}
use Rattle.author_formulas.specs.Loading.{stepped_to, step_commands, loaded_to, load_commands, keyed_to, key_commands}
use Rattle.author_formulas.proofs.Looking.{looking_reads}
use Rattle.author_formulas.proofs.Deciding.{noted_make_nothing}
use Rattle.law_minding.specs.Held.{Holds}
use Rattle.law_minding.proofs.Named.{gathered, all_named, all_turned}
use Rattle.law_minding.proofs.Polled.{present_holds}
use Rattle.law_minding.proofs.Polling.{last_value, writes, writes_both}

-- a value is written, and none where it is there
abbrev pub value_written : {V : Type 0} → Bool → V → List V
value_written true v = []
value_written false v = v ∷ []

-- what a step of loading gave is written
abbrev pub step_written : {V : Type 0} → Load V → List V
step_written wait = []
step_written (loaded v) = v ∷ []

last_of_both : {V : Type 0} (d : V) (vs us : List V) → last_value d (vs ++ us) ≡ last_value (last_value d vs) us
last_of_both d [] us = refl
last_of_both d (v ∷ vs) us = last_of_both v vs us

module _ {K : Types} where
  pub value_commands : (b : Bool) (cell : ℕ) (v : K.Value) → write_commands {K = K} b cell v ≡ writes cell (value_written b v)
  value_commands true cell v = refl
  value_commands false cell v = refl

  step_are : (cell : ℕ) (l : Load K.Value) → step_commands {K = K} cell l ≡ writes cell (step_written l)
  step_are cell wait = refl
  step_are cell (loaded v) = refl

module _ {K : Types} {F : Type 0} (a : Formulas K F) where
  abbrev pub load_written : F → K.Value → ℕ → Bool → List K.Value
  load_written f key step true = []
  load_written f key step false = step_written (a.loads f key step)

  abbrev pub key_written : Bool → Bool → F → K.Value → ℕ → Bool → List K.Value
  key_written true is_empty f key step is_done = load_written f key step is_done
  key_written false is_empty f key step is_done = value_written is_empty a.empty ++ load_written f key 0 false

  load_are : (cell : ℕ) (f : F) (key : K.Value) (step : ℕ) (is_done : Bool)
      → load_commands a cell f key step is_done ≡ writes cell (load_written f key step is_done)
  load_are cell f key step true = refl
  load_are cell f key step false = step_are {K = K} cell (a.loads f key step)

  pub keyed_commands : (is_same is_empty : Bool) (cell : ℕ) (f : F) (key : K.Value) (step : ℕ) (is_done : Bool)
      → key_commands a is_same is_empty cell f key step is_done ≡ writes cell (key_written is_same is_empty f key step is_done)
  keyed_commands true is_empty cell f key step is_done = load_are cell f key step is_done
  keyed_commands false is_empty cell f key step is_done =
      ap (λ (cs : List (Command K)). cs ++ load_commands a cell f key 0 false) (value_commands is_empty cell a.empty)
      ∙ ap (λ (cs : List (Command K)). writes cell (value_written is_empty a.empty) ++ cs) (load_are cell f key 0 false)
      ∙ sym (writes_both cell (value_written is_empty a.empty) (load_written f key 0 false))

  -- a place keeps this cell and context with this formula, and the cell holds what it should of what was computed
  pub record Fits (x : MemoTask K.Value F) (context cell : ℕ) (f : F) (value v : K.Value) : Type 0 where
    pub its : context_of x ≡ Some context
    pub keeps : cell_of x ≡ cell
    pub formula : formula_of x ≡ f
    pub holds : Holds a x value v

  pub memo_fits : (context cell : ℕ) (f : F) (value v : K.Value) → v ≡ value → Fits (memo cell context f) context cell f value v
  memo_fits context cell f value v e = record { its = refl; keeps = refl; formula = refl; holds = e }

  done_fits : (context cell : ℕ) (f : F) (key v : K.Value) (step : ℕ) → a.loads f key step ≡ loaded v
      → Fits (resource cell context f key step true) context cell f key v
  done_fits context cell f key v step e = record { its = refl; keeps = refl; formula = refl; holds = (refl, e) }

  -- after a step of loading a cell that was empty is empty, or holds what was loaded
  step_fits : (context cell : ℕ) (f : F) (key v : K.Value) (step : ℕ) (l : Load K.Value) → a.loads f key step ≡ l → v ≡ a.empty
      → Fits (stepped_to cell context f key step l) context cell f key (last_value v (step_written l))
  step_fits context cell f key v step wait e empty = record { its = refl; keeps = refl; formula = refl; holds = (refl, empty) }
  step_fits context cell f key v step (loaded u) e empty = done_fits context cell f key u step e

  -- what a resource held for its key before the poll
  abbrev pub HeldFor : F → K.Value → ℕ → Bool → K.Value → Type 0
  HeldFor f key step true v = a.loads f key step ≡ loaded v
  HeldFor f key step false v = v ≡ a.empty

  loaded_fits : (context cell : ℕ) (f : F) (key v : K.Value) (step : ℕ) (is_done : Bool) → HeldFor f key step is_done v
      → Fits (loaded_to a cell context f key step is_done) context cell f key (last_value v (load_written f key step is_done))
  loaded_fits context cell f key v step true h = done_fits context cell f key v step h
  loaded_fits context cell f key v step false h = step_fits context cell f key v step (a.loads f key step) refl h

  was_emptied : (is_empty : Bool) (v : K.Value) → (is_empty ≡ true → v ≡ a.empty) → last_value v (value_written is_empty a.empty) ≡ a.empty
  was_emptied true v h = h refl
  was_emptied false v h = refl

  -- for a key that it had, or that is new
  pub keyed_fits : (is_same is_empty : Bool) (context cell : ℕ) (f : F) (key v : K.Value) (step : ℕ) (is_done : Bool)
      → (is_same ≡ true → HeldFor f key step is_done v)
      → (is_empty ≡ true → v ≡ a.empty)
      → Fits (keyed_to a is_same cell context f key step is_done) context cell f key (last_value v (key_written is_same is_empty f key step is_done))
  keyed_fits true is_empty context cell f key v step is_done held empty = loaded_fits context cell f key v step is_done (held refl)
  keyed_fits false is_empty context cell f key v step is_done held empty =
      let first : K.Value = last_value v (value_written is_empty a.empty) in
      subst (λ (u : K.Value). Fits (loaded_to a cell context f key 0 false) context cell f key u)
      (sym (last_of_both v (value_written is_empty a.empty) (load_written f key 0 false)))
      (loaded_fits context cell f key first 0 false (was_emptied is_empty v empty))

module _ {K : Types} {F : Type 0} (a : Formulas K F) (looks : FormulasLook a) (last : World K) (call : Call K) (f : F) (outset : MadeNothing last call) where
  -- a value that is there, once the formula was computed, is the one that the cell has
  pub has_is : (cell : ℕ) (v y : K.Value) → last.values.cell cell ≡ Some y → has_then a last cell (computed a last call f) v ≡ true → y ≡ v
  has_is cell v y there h =
      let x : Came K K.Value = computed a last call f in
      let made : MadeNothing last x.call = noted_make_nothing last last call x.call outset (looking_reads K K.Value last (a.computes f) call (looks.looks f)) in
      present_holds a.same looks.values (nat_lt cell x.call.next.cells) (last.values.cell cell) y v
      (subst
      (λ (cells : List (ℕ × K.Value)). is_present a.same (if nat_lt cell x.call.next.cells then value_in last (at cells cell) cell else None) v ≡ true)
      made.cells
      h)
      there

  -- what was looked at is named
  pub all_read : (sources : List Source) → (computed a last call f).call.aside ≡ reverse sources
      → AllByRecursion (λ i. names_source (gathered [] sources) i ≡ true) (computed a last call f).call.aside
  all_read sources e =
      subst (λ (xs : List Source). AllByRecursion (λ i. names_source (gathered [] sources) i ≡ true) xs) (sym e)
      (all_turned (λ i. names_source (gathered [] sources) i ≡ true) sources (all_named sources []))
