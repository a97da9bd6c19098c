-- Hooks of a scope that keep cells: each later call of its body is given them.
use Rattle.std.specs.Prelude.{ℕ, List, [], Some, None, ◌≡◌, ◌⊎◌}
use Rattle.rt_model.specs.Lists.{at}
use Rattle.rt_model.specs.Tree.{Types}
use Rattle.rt_model.specs.World.{Source, Application}
use Rattle.rt_model.specs.State.{Scope, LastCall, State, hooks_of}
use Rattle.rt_model.specs.Replay.{Machine}
use Rattle.rt_model.specs.Causes.{Limits}
use Rattle.law_moves.specs.Moves.{Move, entries, Leads}
use Rattle.law_behavior.specs.Along.{NoneRemoves}
use Rattle.author_programs.specs.Cells.{Keeping}
use Rattle.author_programs.specs.Shows.{KeepAll}

-- what a scope's last run read
abbrev pub reads_of : {K : Types} → State K → ℕ → List Source
reads_of w s = elim (at w.scopes s) [ None ↦ [] | Some x ↦ x.reads ]

-- along moves that don't remove a scope whose hooks keep these cells they go on to; and its last call is the one that it was, and it
-- reads what it did, or that call was given hooks that do
abbrev pub CellsAreKept : {K : Types} → Application K → Type 0
CellsAreKept {K = K} app =
    (k : Keeping K.Value) (limits : Limits) (m v : Machine K) (moves : List Move) (s : ℕ) (x : Scope K) (own : List ℕ)
    → Leads app limits m moves v
    → NoneRemoves s (entries moves)
    → at m.state.scopes s ≡ Some x
    → KeepAll k x.hooks 0 own
    → KeepAll k (hooks_of v.state s) 0 own
    × ((last : LastCall K)
    → at v.state.last_calls s ≡ Some last
    → ((at m.state.last_calls s ≡ Some last) × (reads_of v.state s ≡ x.reads)) ⊎ KeepAll k last.given.given.hooks 0 own)
