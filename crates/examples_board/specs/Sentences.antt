-- What shows of the board: news once someone has tried again.
use Rattle.std.specs.Prelude.{ℕ, suc, true, false, nat_lt, List, [], ◌∷◌, None, Some, codes, ◌≡◌}
use Rattle.rt_author.specs.Words.{Event, clean_up_kind, tree_of}
use Rattle.rt_author.specs.Along.{NoneRemoves}
use Rattle.rt_author.specs.BodiesShow.{NoneAside}
use Rattle.rt_author.specs.Causes.{Limits}
use Rattle.rt_author.specs.CellsLast.{NoneWritesOn}
use Rattle.rt_author.specs.Current.{AllCurrent}
use Rattle.rt_author.specs.Given.TheViews.{out-Given}
use Rattle.rt_author.specs.Heard.{Listener}
use Rattle.rt_author.specs.Lists.{at, nth}
use Rattle.rt_author.specs.Moves.{Leads, Move, entries}
use Rattle.rt_author.specs.Program.{application_of, hook_stands}
use Rattle.rt_author.specs.Replay.{Heard, Machine, step, waiting}
use Rattle.rt_author.specs.State.{CellRow, LastCall, Scope, State, values_of}
use Rattle.rt_author.specs.Tree.{Own}
use Rattle.rt_author.specs.World.{Application}
use Rattle.examples_board.specs.Meaning.{BoardTypes, Props, line, programs}
use Rattle.examples_board.specs.declared.parts.Cells.{Cells}
use Rattle.examples_board.specs.declared.parts.Component.{Component}
use Rattle.examples_board.specs.declared.parts.Component.TheVariants as components

-- what the application means
abbrev pub app : Application BoardTypes
app = application_of programs

-- a scope of the news, which records all that its last call read, and whose cell of tries was drawn then
pub record AreNews (w : State BoardTypes) (s tries : ℕ) : Type 0 where
  pub scope : Scope BoardTypes
  pub last : LastCall BoardTypes
  pub props : Props
  pub there : at w.scopes s ≡ Some scope
  pub called : at w.last_calls s ≡ Some last
  pub is_news : scope.component ≡ Own components.News props
  pub given : (out-Given Component Cells props).own.tries ≡ tries
  pub none_aside : NoneAside scope last
  -- its first hook was its clean-up, or was new
  pub keeps : hook_stands clean_up_kind (nth last.given.given.hooks 0) ≡ true
  pub drawn : nat_lt tries last.given.given.next.cells ≡ true

-- where every output is current, the news show once someone has tried again
abbrev pub NewsShow : Type 0
NewsShow =
    (w : State BoardTypes) (s tries n : ℕ) (news : AreNews w s tries)
    → AllCurrent app w
    → (values_of w).cell tries ≡ Some (suc n)
    → news.scope.main_side.output ≡ Some (tree_of (line (codes "news")))

-- the refusal's button waits for an event, and nothing else is at work; the cell of tries is there
pub record RetryIsHeard (m : Machine BoardTypes) (l : Listener BoardTypes) (e : Event BoardTypes) (tries : ℕ) : Type 0 where
  pub others : List (Listener BoardTypes)
  pub alive : m.dead ≡ None
  pub idle : m.work ≡ []
  pub between : m.unit ≡ false
  pub event : m.event ≡ Some e
  pub waits : waiting m ≡ l ∷ others
  pub tried : (l.handler).tries ≡ tries
  pub drawn : nat_lt tries m.state.next.cells ≡ true
  pub row : CellRow BoardTypes
  pub there : at m.state.cells tries ≡ Some row

-- after the button has tried again the news show: wherever every output is current, unless another call or an input writes the cell
-- of tries first, or its owner goes
abbrev pub RetryShowsNews : Type 0
RetryShowsNews =
    (limits : Limits) (m v : Machine BoardTypes) (l : Listener BoardTypes) (e : Event BoardTypes) (tries : ℕ) (moves : List Move) (s : ℕ)
    → (heard : RetryIsHeard m l e tries)
    → (leads : Leads app limits (step app m (Heard l.origin)) moves v)
    → NoneRemoves heard.row.owner (entries moves)
    → NoneWritesOn app limits tries (step app m (Heard l.origin)) v moves leads
    → AllCurrent app v.state
    → (news : AreNews v.state s tries)
    → news.scope.main_side.output ≡ Some (tree_of (line (codes "news")))
