-- The theorem of two states: what a unit writes makes of the document that showed the one that shows.
use Rattle.std.specs.Prelude.{ℕ, ◌+◌, ◌≤◌, [], length, Ok, ◌≡◌}
use Rattle.rt_model.specs.Tree.{Types}
use Rattle.rt_model.specs.World.{Application}
use Rattle.rt_model.specs.State.{State}
use Rattle.rt_model.specs.Document.{count_of, document_after}
use Rattle.rt_model.specs.View.{nodes_of, view}
use Rattle.rt_model.specs.Caused.{written_within, written}
use Rattle.rt_model.specs.Once.{NumbersOnce}
use Rattle.law_moves.specs.Settings.{Setting, placed}
use Rattle.law_moves.specs.Trees.{IsUnfolded}
use Rattle.law_moves.specs.Meets.{Performs}
use Rattle.law_moves.specs.Sweeps.{MeetsDown, scope_claims}

-- what is written from a scope down makes its new nodes of its old ones, and claims none but these
abbrev pub ScopesBring : {K : Types} → Application K → Type 0
ScopesBring {K = K} app =
    (w v : State K) (m s : ℕ)
    → IsUnfolded w
    → IsUnfolded v
    → MeetsDown app w v m s
    → Performs (written_within app [] w v m s) (nodes_of w s) (nodes_of v s) (λ n. scope_claims app w v m s n)
    × ((n : ℕ) → scope_claims app w v m s n ≤ count_of n (nodes_of w s) + count_of n (nodes_of v s))

-- the theorem of two states: where all is as above and a unit changed nothing but what stands in one place,
-- the edits that it writes never fault, and make of the document that showed the one that shows
abbrev pub WrittenBrings : {K : Types} → Application K → Type 0
WrittenBrings {K = K} app =
    (w v : State K) (s : ℕ) (place : Setting)
    → IsUnfolded w
    → IsUnfolded v
    → MeetsDown app w v (length w.scopes) s
    → ((n : ℕ) → scope_claims app w v (length w.scopes) s n ≤ 1)
    → view w ≡ placed place (nodes_of w s)
    → view v ≡ placed place (nodes_of v s)
    → NumbersOnce (view w)
    → NumbersOnce (view v)
    → document_after (written app w v s) (view w) ≡ Ok (view v)
