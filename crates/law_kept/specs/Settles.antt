-- What a kept runtime's calls leave that take unit after unit, of the values that a call before them made.
use Rattle.std.specs.Prelude.{ℕ, true, List, Some, ◌≡◌}
use Rattle.rt_model.specs.Document.{Edit}
use Rattle.rt_model.specs.Causes.{Limits}
use Rattle.rt_model.specs.Laws.{IsLawful}
use Rattle.rt_model.specs.Lists.{at}
use Rattle.rt_model.specs.Replay.{Entry, Machine}
use Rattle.rt_model.specs.State.{CellRow, State}
use Rattle.rt_model.specs.Tree.{Types}
use Rattle.law_behavior.specs.Along.{NoneRemoves}
use Rattle.law_behavior.specs.Doms.{Until, Renders, Settles, CallRan, LedTo, RenderRan, left_by}
use Rattle.author_programs.specs.Cells.{Keeping}
use Rattle.author_programs.specs.Pages.{Pages, meaning_of_pages}
use Rattle.law_pages.specs.Updates.{Model, model_of}
use Rattle.law_reduce.specs.Shows.{Stays, ShowsOf}
use Rattle.law_kept.specs.Calls.{Makes}

-- each cell of one state whose owner the log doesn't remove has in the other one what the model says
abbrev pub Leaves : {K : Types} → State K → List Entry → Model K → State K → Type 0
Leaves {K = K} w log m v = (n : ℕ) (row : CellRow K) → at w.cells n ≡ Some row → NoneRemoves row.owner log → at (model_of v) n ≡ at m n

-- what a call made of the values stands after one that takes unit after unit, of each cell whose owner that one doesn't remove
abbrev pub CallsReduce : Types → Type 0
CallsReduce K =
    (k : Keeping K.Value) (a : Pages K) (limits : Limits) (w u : State K) (m : Model K)
    → (log : List Entry) (edits : List Edit) (v : Machine K)
    → Makes w m u
    → ((until : Until) → CallRan (meaning_of_pages k a) limits until u log edits v → Leaves w log m (left_by until v.state))
    × (RenderRan (meaning_of_pages k a) limits u log edits v → Leaves w log m (left_by Renders v.state))

-- after a call that settles a scope of a page whose hooks kept its cells at its last call shows the page's function of these values,
-- where the cells that it reads stay
abbrev pub SettledShow : Types → Type 0
SettledShow K =
    (k : Keeping K.Value) (a : Pages K) → IsLawful K (meaning_of_pages k a)
    → (limits : Limits) (props : K.Props) (w u : State K) (m : Model K)
    → (log : List Entry) (edits : List Edit) (v : Machine K)
    → LedTo (meaning_of_pages k a) limits props true u
    → Makes w m u
    → CallRan (meaning_of_pages k a) limits Settles u log edits v
    → ShowsOf k a (left_by Settles v.state) (λ n. Stays w log n) m
