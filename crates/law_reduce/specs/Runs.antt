-- A scope of a page that a log runs: its last call was given hooks that keep its cells.
use Rattle.std.specs.Prelude.{ℕ, Bool, true, false, ◌||◌, List, [], ◌∷◌, length, Some, None, ◌≡◌}
use Rattle.rt_model.specs.Lists.{at}
use Rattle.rt_model.specs.Tree.{Types, Own}
use Rattle.rt_model.specs.State.{Scope, LastCall}
use Rattle.rt_model.specs.Laws.{IsLawful}
use Rattle.rt_model.specs.Replay.{Entry, Input, Machine}
use Rattle.rt_model.specs.Causes.{Limits}
use Rattle.rt_model.specs.Told.{count_entries}
use Rattle.rt_model.specs.Reports.{is_opening}
use Rattle.law_moves.specs.Moves.{Move, entries, Leads}
use Rattle.law_moves.specs.Reached.{Reached}
use Rattle.law_behavior.specs.Along.{NoneRemoves}
use Rattle.law_behavior.specs.Owed.{runs_in}
use Rattle.author_programs.specs.Cells.{Keeping}
use Rattle.author_programs.specs.Pages.{Pages, meaning_of_pages}
use Rattle.author_programs.specs.Shows.{KeepAll}

-- one of these entries runs the scope
abbrev pub some_runs : ℕ → List Entry → Bool
some_runs s [] = false
some_runs s (e ∷ log) = runs_in s e || some_runs s log

-- of a lawful application of pages, wherever moves lead from a session's start and on by moves that take in no input and don't remove
-- such a scope: where one of these runs it, its last call was given hooks that keep its cells; it may be handed other props, but how
-- many cells its page has doesn't depend on them
abbrev pub RunsAreGiven : Types → Type 0
RunsAreGiven K =
    (k : Keeping K.Value) (a : Pages K)
    → IsLawful K (meaning_of_pages k a)
    → (limits : Limits) (props : K.Props) (inputs : List (Input K)) (m v : Machine K) (moves : List Move)
    → (s : ℕ) (x : Scope K) (c : K.Component) (p : K.Props) (own : List ℕ)
    → Reached (meaning_of_pages k a) limits props inputs m
    → Leads (meaning_of_pages k a) limits m moves v
    → v.dead ≡ None
    → count_entries is_opening (entries moves) ≡ 0
    → NoneRemoves s (entries moves)
    → at m.state.scopes s ≡ Some x
    → x.component ≡ Own c p
    → KeepAll k x.hooks 0 own
    → ((q : K.Props) → length (a.page c q).cells ≡ length own)
    → some_runs s (entries moves) ≡ true
    → (last : LastCall K)
    → at v.state.last_calls s ≡ Some last
    → KeepAll k last.given.given.hooks 0 own
