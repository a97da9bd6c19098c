-- What a removal takes: children first, and of each scope all that it owns.
use Rattle.std.specs.Prelude.{ℕ, zero, suc, Bool, true, false, not, nat_eq, List, [], ◌∷◌, ◌++◌, length, Option, Some, None, if◌then◌else◌}
use Rattle.rt_model.specs.Lists.{at, without, kept_by, drop_number, insert_number}
use Rattle.rt_model.specs.Tree.{Types}
use Rattle.rt_model.specs.World.{Source, Cell, Error, Context, clean_up_kind, Hook, HookValue, HookEffect, Command, Meaning, Nothing, Application}
use Rattle.rt_model.specs.State.{Scope, CellRow, ContextRow, TaskRow, State, Outcome, Done, Cut, onward, change, hooks_of, world_of}
use Rattle.rt_model.specs.Commands.{tell, end, commands}
use Rattle.rt_model.specs.Next.{least, is_before}
use Rattle.rt_model.specs.Run.{fault_of, with_next, unmarked, called_once}
use Rattle.rt_model.specs.Boundary.{side_scopes}

-- the kinds of a scope's contexts that these sources name, ascending
abbrev pub kinds_in : ℕ → List Source → List ℕ → List ℕ
kinds_in s [] kinds = kinds
kinds_in s (Context k t ∷ xs) kinds = kinds_in s xs (if nat_eq t s then insert_number kinds k else kinds)
kinds_in s (Cell n ∷ xs) kinds = kinds_in s xs kinds
kinds_in s (Error t ∷ xs) kinds = kinds_in s xs kinds

-- these cells as sources
abbrev pub cell_sources : List ℕ → List Source
cell_sources [] = []
cell_sources (n ∷ ns) = Cell n ∷ cell_sources ns

-- what a scope provides of these kinds, as sources
abbrev pub context_sources : ℕ → List ℕ → List Source
context_sources s [] = []
context_sources s (k ∷ ks) = Context k s ∷ context_sources s ks

module _ {K : Types} where
  -- the numbers of live scopes
  abbrev pub numbers_of : List (ℕ × Scope K) → List ℕ
  numbers_of [] = []
  numbers_of (e ∷ es) = e.0 ∷ numbers_of es

  -- the fallback's children before the others
  abbrev pub children_below : State K → Option (Scope K) → List ℕ
  children_below w None = []
  children_below w (Some x) = side_scopes w x.fallback_side ++ side_scopes w x.children_side ++ side_scopes w x.main_side

  -- the scope that a removal takes first, at most n steps down
  abbrev pub first_leaf : State K → ℕ → ℕ → ℕ
  first_leaf w zero s = s
  first_leaf w (suc n) s = elim (children_below w (at w.scopes s)) [ [] ↦ s | t ∷ ts ↦ first_leaf w n t ]

  -- the scope that a removal takes first
  abbrev pub next_removed : State K → ℕ → ℕ
  next_removed w s = first_leaf w (length w.scopes) s

  -- the tasks of a scope
  abbrev pub tasks_in : ℕ → List (ℕ × TaskRow K) → List ℕ
  tasks_in s [] = []
  tasks_in s (e ∷ es) = if nat_eq (e.1).scope s then e.0 ∷ tasks_in s es else tasks_in s es

  -- the cells of a scope
  abbrev pub cells_in : ℕ → List (ℕ × CellRow K) → List ℕ
  cells_in s [] = []
  cells_in s (e ∷ es) = if nat_eq (e.1).owner s then e.0 ∷ cells_in s es else cells_in s es

  -- these tasks end, one after another
  abbrev pub end_all : State K → List ℕ → State K
  end_all w [] = w
  end_all w (t ∷ ts) = end_all (end w t) ts

  -- the clean-ups, last made first
  abbrev pub clean_ups : List (Hook K) → List K.Effect → List K.Effect
  clean_ups [] es = es
  clean_ups (HookValue k v ∷ hs) es = clean_ups hs es
  clean_ups (HookEffect k e ∷ hs) es = clean_ups hs (if nat_eq k clean_up_kind then e ∷ es else es)

  -- the readers of these sources are marked, source by source
  abbrev pub tell_all : State K → List Source → State K
  tell_all w [] = w
  tell_all w (x ∷ xs) = tell_all (tell w x) xs

  -- of what a scope provides, the kinds that bodies have read, ascending
  abbrev pub kinds_of_scopes : ℕ → List (ℕ × Scope K) → List ℕ → List ℕ
  kinds_of_scopes s [] kinds = kinds
  kinds_of_scopes s (e ∷ es) kinds = kinds_of_scopes s es (kinds_in s (e.1).reads kinds)

  -- of what a scope provides, the kinds that were read in reactive contexts too
  abbrev pub kinds_of_contexts : ℕ → List (ℕ × ContextRow K) → List ℕ → List ℕ
  kinds_of_contexts s [] kinds = kinds
  kinds_of_contexts s (e ∷ es) kinds = kinds_of_contexts s es (kinds_in s (e.1).sources kinds)

  -- the sources of a scope that some reader has, by kind
  abbrev pub read_contexts : State K → ℕ → List Source
  read_contexts w s = context_sources s (kinds_of_contexts s w.contexts (kinds_of_scopes s w.scopes []))

  -- the record goes, with its last call, its cells and reactive contexts
  abbrev pub without_scope : State K → ℕ → State K
  without_scope w s =
      record w {
        scopes = without w.scopes s;
        last_calls = without w.last_calls s;
        cells = kept_by (λ e. not (nat_eq (e.1).owner s)) w.cells;
        contexts = kept_by (λ e. not (nat_eq (e.1).scope s)) w.contexts;
        resolved = drop_number w.resolved s;
        skipped = drop_number w.skipped s;
      }

  -- then its cells are told by number, its error slot, and what it provided by kind
  abbrev pub told_of_sources : State K → ℕ → State K
  told_of_sources w s = tell_all w (Error s ∷ read_contexts w s)

  -- a scope and what it owns are gone, and the readers of that are marked
  abbrev pub gone : State K → ℕ → State K
  gone w s = told_of_sources (tell_all (without_scope w s) (cell_sources (cells_in s w.cells))) s

  -- its tasks end, its marks and effects go
  abbrev pub stopped : State K → ℕ → State K
  stopped w s = change (unmarked (end_all w (tasks_in s w.tasks)) s) s (λ x. record x { effects = [] })

module _ {K : Types} (app : Application K) where
  -- all clean-ups are called, then the scope goes, then their commands are done
  abbrev pub cleaned_by : (State K → List (Command K) → Outcome K) → State K → List (Command K) → Meaning K Nothing → Outcome K
  cleaned_by go w waiting m =
      elim m.fault [ None ↦ go (with_next w m.next) (waiting ++ m.commands) | Some f ↦ Cut (with_next w m.next) (fault_of f) ]

  -- the clean-ups that are left are called in turn, in a patch or outside of one
  abbrev pub cleaned_in : Bool → ℕ → List K.Effect → State K → List (Command K) → Outcome K
  cleaned_in rendering s [] w waiting = Done (commands app (gone w s) s None waiting) []
  cleaned_in rendering s (e ∷ es) w waiting =
      cleaned_by (λ v cs. cleaned_in rendering s es v cs) (called_once w) waiting (app.effect e (world_of w s None rendering))

  -- the clean-ups of a patch
  abbrev pub cleaned : ℕ → List K.Effect → State K → List (Command K) → Outcome K
  cleaned s es w waiting = cleaned_in true s es w waiting

  -- the removal of a scope whose children are gone
  abbrev pub removed : State K → ℕ → Outcome K
  removed w s = let v = stopped w s in cleaned s (clean_ups (hooks_of v s) []) v []

  -- the same outside of a patch
  abbrev pub removed_apart : State K → ℕ → Outcome K
  removed_apart w s = let v = stopped w s in cleaned_in false s (clean_ups (hooks_of v s) []) v []

  -- each scope goes, from the greatest order down, at most n of them
  abbrev pub closes : ℕ → State K → Outcome K
  closes zero w = Done w []
  closes (suc n) w =
      elim (least (λ s t. is_before w.scopes t s) (numbers_of w.scopes)) [
        | None ↦ Done w []
        | Some s ↦ onward (removed_apart w s) (λ v. closes n v)
      ]

  -- all scopes go
  abbrev pub close : State K → Outcome K
  close w = closes (length w.scopes) w
