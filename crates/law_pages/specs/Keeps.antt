-- What an application of pages leaves alone: the values of cells, but for its listeners and for inputs that write.
use Rattle.std.specs.Prelude.{ℕ, List, [], ◌∷◌, length, Some, None, ◌≡◌}
use Rattle.rt_model.specs.Lists.{at}
use Rattle.rt_model.specs.Program.{body_means}
use Rattle.rt_model.specs.Tree.{Types}
use Rattle.rt_model.specs.World.{World, Application}
use Rattle.rt_model.specs.State.{CellRow}
use Rattle.rt_model.specs.Replay.{Heard, Machine}
use Rattle.rt_model.specs.Causes.{Limits}
use Rattle.law_moves.specs.Moves.{Move, Logged, entries, Leads}
use Rattle.law_behavior.specs.Along.{NoneRemoves}
use Rattle.law_lasting.specs.CellsLast.{TakenLeaves}
use Rattle.author_programs.specs.Cells.{Keeping}
use Rattle.author_programs.specs.Pages.{Page, Pages, page_body, meaning_of_pages}
use Rattle.author_programs.specs.Shows.{KeepAll}

-- a move is no listener's call
abbrev pub IsNoCall : Move → Type 0
IsNoCall (Logged (Heard s)) = ⊥
IsNoCall _ = Unit {0}

-- what asks for nothing
pub record AsksNothing {K : Types} (page : Page K) (k : Keeping K.Value) (w : World K) : Type 0 where
  pub commands : (body_means (page_body k page) w).commands ≡ []
  pub next : (body_means (page_body k page) w).next ≡ w.given.next
  pub fault : (body_means (page_body k page) w).fault ≡ None

-- a page whose scope has its cells, so each page without cells, too
abbrev pub KeptPagesAskNothing : Types → Type 0
KeptPagesAskNothing K =
    (k : Keeping K.Value) (page : Page K) (w : World K) (own : List ℕ)
    → KeepAll k w.given.hooks 0 own
    → length page.cells ≡ length own
    → AsksNothing page k w

-- no entry of these moves is a listener's call, and no input that they take in writes the cell
abbrev pub QuietFor :
    {K : Types} (app : Application K) (limits : Limits) (n : ℕ) (m v : Machine K) (moves : List Move) → Leads app limits m moves v → Type 0
QuietFor app limits n m v [] leads = Unit {0}
QuietFor app limits n m v (move ∷ moves) leads =
    IsNoCall move × TakenLeaves n m.inputs move × QuietFor app limits n leads.0 v moves leads.2

-- in an application of pages runs, removals and all that no event brings leave every cell whose owner stays
abbrev pub PagesKeepCells : Types → Type 0
PagesKeepCells K =
    (k : Keeping K.Value) (a : Pages K) (limits : Limits) (m v : Machine K) (moves : List Move) (n : ℕ) (row : CellRow K)
    → (leads : Leads (meaning_of_pages k a) limits m moves v)
    → NoneRemoves row.owner (entries moves)
    → QuietFor (meaning_of_pages k a) limits n m v moves leads
    → at m.state.cells n ≡ Some row
    → at v.state.cells n ≡ Some row
