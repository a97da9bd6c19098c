-- What shows of a scope whose component's body is a program: what the program answers in the present world.
use Rattle.std.specs.Prelude.{ℕ, false, List, Option, Some, ◌≡◌}
use Rattle.std.specs.List.{AllByRecursion}
use Rattle.rt_model.specs.Lists.{at}
use Rattle.rt_model.specs.Tree.{Types, Own}
use Rattle.rt_model.specs.World.{Source, World}
use Rattle.rt_model.specs.State.{Scope, LastCall, State, values_of}
use Rattle.rt_model.specs.Program.{Programs, application_of, body_means}
use Rattle.rt_model.specs.Current.{is_aside, world_again, KeepsAnswer, AllCurrent}
use Rattle.rt_model.specs.Replay.{Input}
use Rattle.rt_model.specs.Document.{Edit}
use Rattle.rt_model.specs.Causes.{Limits}
use Rattle.rt_model.specs.Told.{Told}
use Rattle.rt_model.specs.Reports.{Report}
use Rattle.rt_model.specs.Headline.{Headline}

module _ {K : Types} where
  -- what was given to a scope's last call, with the present values
  abbrev pub present_world : State K → LastCall K → World K
  present_world w last = record { given = last.given.given; values = values_of w }

  -- the scope records all that its last call read
  abbrev pub NoneAside : Scope K → LastCall K → Type 0
  NoneAside x last = (y : Source) → is_aside last.aside x.reads y ≡ false

  -- a scope of a component shows what its program answers: what was read aside alone has the value that it had then, and all else its
  -- present value; so where nothing was, it is the answer in the present world
  abbrev pub BodyShows : Programs K → State K → Type 0
  BodyShows a w =
      (s : ℕ) (x : Scope K) (last : LastCall K) (c : K.Component) (p : K.Props)
      → at w.scopes s ≡ Some x
      → at w.last_calls s ≡ Some last
      → x.component ≡ Own c p
      → KeepsAnswer last (body_means (a.body c p) (world_again w x last)).answer x.main_side.output
      × (NoneAside x last → KeepsAnswer last (body_means (a.body c p) (present_world w last)).answer x.main_side.output)

-- so it is wherever every output is current
abbrev pub BodiesShow : Types → Type 0
BodiesShow K = (a : Programs K) (w : State K) → AllCurrent (application_of a) w → BodyShows a w

-- and after each report of a session whose headline holds
abbrev pub ReportsShowBodies : Types → Type 0
ReportsShowBodies K =
    (a : Programs K) (props : K.Props) (inputs : List (Input K)) (limits : Limits) (taken : Option (List Edit)) (reports : List Report)
    → (h : Headline (application_of a) props inputs limits taken reports)
    → AllByRecursion (λ (r : Told K). BodyShows a r.machine.state) h.told
