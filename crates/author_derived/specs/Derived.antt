-- Pages with derived cells: beside its own cells a component has cells that are kept equal to functions of the values of others.
use Rattle.std.specs.Prelude.{ℕ, ◌++◌, false, List, [], ◌∷◌, Option, Some, None}
use Rattle.rt_model.specs.OneLog.{types}
use Rattle.rt_model.specs.Program.{Program, Programs, done, application_of}
use Rattle.rt_model.specs.Tree.{Types, Element}
use Rattle.rt_model.specs.World.{Application, TaskStep, pending}
use Rattle.author_programs.specs.Cells.{Keeping, all_read}
use Rattle.author_programs.specs.Pages.{Pages, own_cells, shown, programs_of_pages}
use Rattle.author_programs.specs.Sequence.{go_on}
use Rattle.author_formulas.specs.Formulas.{Formulas, wait}
use Rattle.author_formulas.specs.Memos as memos
use Rattle.author_formulas.specs.Memos.{own_memo, memo_polled}
use Rattle.author_bodies.specs.declared.no_data.NoData.{NoData}
use Rattle.author_deriving.specs.Task.{as_task, task_of}
use Rattle.author_deriving.specs.declared.task.MemoTask.{MemoTask}

-- an application of pages with derived cells
pub record Derivations (K : Types) (F : Type 0) : Type 0 where
  -- its pages and replies; a page reads and shows of the numbers of its own cells and, behind these, of its derived ones
  pub pages : Pages K
  -- the formulas of a component's derived cells, of the numbers of its own ones
  pub derived : K.Component → K.Props → List ℕ → List F
  -- the cells that a formula reads
  pub sources : F → List ℕ
  -- the value of a derived cell, of those that its formula read
  pub value : F → List (Option K.Value) → K.Value
  -- what a derived cell holds before its formula was computed for the first time
  pub empty : K.Value

module _ {K : Types} where
  -- one more cell behind those so far, and what follows
  abbrev pub one_behind : (List ℕ → Program K (Option (List ℕ))) → List ℕ → Option ℕ → Program K (Option (List ℕ))
  one_behind next all None = done None
  one_behind next all (Some n) = next (all ++ n ∷ [])

module _ {K : Types} {F : Type 0} where
  -- a formula as a program: it reads its cells, in order, and nothing else
  abbrev pub computed : Derivations K F → F → Program K K.Value
  computed a f = go_on (all_read (a.sources f)) (λ values. done (a.value f values))

  -- the formulas of the derived cells; none loads
  abbrev pub formulas_of : Derivations K F → Formulas K F
  formulas_of a =
      record { computes = λ f. computed a f; loads = λ f key step. wait; empty = a.empty; same = (a.pages).same_value }

  -- the derived cells of these formulas behind the cells so far, in order: each is a memo of the scope
  abbrev pub derived_behind :
      Keeping K.Value → (memos.MemoTask K.Value F → K.TaskState) → K.Value → List F → List ℕ → Program K (Option (List ℕ))
  derived_behind k state empty [] all = done (Some all)
  derived_behind k state empty (f ∷ fs) all =
      go_on (own_memo k state empty f false) (λ o. one_behind (λ more. derived_behind k state empty fs more) all o)

  module _ (k : Keeping K.Value) (state : memos.MemoTask K.Value F → K.TaskState) (a : Derivations K F)
      (c : K.Component) (p : K.Props) where
    -- the derived cells of a component, where its own ones are had
    abbrev pub with_derived : Option (List ℕ) → Program K (Option (List ℕ))
    with_derived None = done None
    with_derived (Some own) = derived_behind k state a.empty (a.derived c p own) own

    -- its own cells, and behind them the derived ones
    abbrev pub all_cells : Program K (Option (List ℕ))
    all_cells = go_on (own_cells k ((a.pages).page c p).cells) (λ own. with_derived own)

    -- its body: what its page shows of all of them
    abbrev pub derived_body : Program K (Element K)
    derived_body = go_on all_cells (λ all. shown ((a.pages).page c p) all)

-- the types of such an application: each of its tasks keeps a derived cell, and it has no effects
abbrev pub derived_types : (C Q V H F L : Type 0) → Types
derived_types C Q V H F L = types C Q V H (MemoTask V F) NoData L

module _ {C Q V H F L : Type 0} where
  -- a poll of the task of a derived cell, which goes on from where that leaves it
  abbrev pub polled :
      Derivations (derived_types C Q V H F L) F
      → memos.MemoTask V F
      → Program (derived_types C Q V H F L) (TaskStep (derived_types C Q V H F L))
  polled a m = go_on (memo_polled (formulas_of a) m) (λ next. done (pending (as_task next)))

  -- its calls as programs: those of its pages, but for the bodies and the polls
  abbrev pub programs_of_derived : Keeping V → Derivations (derived_types C Q V H F L) F → Programs (derived_types C Q V H F L)
  programs_of_derived k a =
      record (programs_of_pages k a.pages) {
        body = λ c p. derived_body k (λ task. as_task task) a c p;
        poll = λ task. polled a (task_of task);
      }

  -- what its calls mean
  abbrev pub meaning_of_derived : Keeping V → Derivations (derived_types C Q V H F L) F → Application (derived_types C Q V H F L)
  meaning_of_derived k a = application_of (programs_of_derived k a)
