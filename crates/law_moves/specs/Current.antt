-- What is so of the states after the reports of a session.
use Rattle.std.specs.Prelude.{List}
use Rattle.std.specs.List.{AllByRecursion}
use Rattle.rt_model.specs.Tree.{Types}
use Rattle.rt_model.specs.World.{Application}
use Rattle.rt_model.specs.Told.{Told}
use Rattle.rt_model.specs.Current.{AllCurrent}
use Rattle.rt_model.specs.Headline.{AllHeldShown}

module _ {K : Types} (app : Application K) where
  -- after each report every kept output is current, and a boundary shows its fallback just while live tasks hold it
  pub record EachIsCurrent (told : List (Told K)) : Type 0 where
    pub current : AllByRecursion (λ (r : Told K). AllCurrent app r.machine.state) told
    pub held : AllByRecursion (λ (r : Told K). AllHeldShown r.machine.state) told
