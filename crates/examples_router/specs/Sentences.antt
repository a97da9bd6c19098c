-- What lasts of the router, and that its finished sessions agree.
use Rattle.std.specs.Prelude.{ℕ, List, Some, ◌≡◌}
use Rattle.rt_author.specs.Along.{NoneRemoves}
use Rattle.rt_author.specs.Causes.{Limits}
use Rattle.rt_author.specs.CellsLast.{CellsLast}
use Rattle.rt_author.specs.ComponentsLast.{NoneFeeds, component_of}
use Rattle.rt_author.specs.Moves.{Move, Leads, entries}
use Rattle.rt_author.specs.NumbersLast.{NumbersLast}
use Rattle.rt_author.specs.OneFinish.{OneFinish, RowsAreSessions}
use Rattle.rt_author.specs.Program.{application_of}
use Rattle.rt_author.specs.Replay.{Machine}
use Rattle.rt_author.specs.Tree.{Own}
use Rattle.rt_author.specs.World.{Application}
use Rattle.examples_router.specs.Meaning.{RouterTypes, programs}
use Rattle.examples_router.specs.declared.router.Component.TheVariants.{Link}

-- what the application means
abbrev pub app : Application RouterTypes
app = application_of programs

-- the cell of the route keeps it
abbrev pub RouteLasts : Type 0
RouteLasts = CellsLast app

-- a link leads where it leads
abbrev pub LinksLast : Type 0
LinksLast =
    (limits : Limits) (m v : Machine RouterTypes) (moves : List Move) (s to : ℕ)
    → Leads app limits m moves v
    → NoneRemoves s (entries moves)
    → NoneFeeds s (entries moves)
    → component_of m.state s ≡ Some (Own Link to)
    → component_of v.state s ≡ Some (Own Link to)

-- a node keeps its number
abbrev pub NumbersStay : Type 0
NumbersStay = NumbersLast app

-- two finished sessions tell the same
abbrev pub SessionsAgree : Type 0
SessionsAgree = OneFinish app

-- and what logs tell that the definitions accept
abbrev pub RowsAreAll : Type 0
RowsAreAll = RowsAreSessions app
