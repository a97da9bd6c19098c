-- What is current and what is owed, wherever moves lead.
use Rattle.std.specs.Prelude.{true, List, [], None, ◌≡◌}
use Rattle.rt_model.specs.Tree.{Types}
use Rattle.rt_model.specs.World.{Application}
use Rattle.rt_model.specs.Laws.{IsLawful}
use Rattle.rt_model.specs.Replay.{Input, Machine}
use Rattle.rt_model.specs.Causes.{Limits}
use Rattle.rt_model.specs.Told.{is_settled}
use Rattle.rt_model.specs.Current.{AllCurrent}
use Rattle.rt_model.specs.Headline.{AllHeldShown}
use Rattle.rt_model.specs.Sentences.{AllCurrentOrOwed, OthersCurrentOrOwed}
use Rattle.law_moves.specs.Reached.{NonePassed, Reached}

module _ {K : Types} (app : Application K) where
  -- of a lawful application it holds of each machine that moves reach, once the build has begun
  abbrev pub OnceBuilt : (Machine K → Type 0) → Type 0
  OnceBuilt holds =
      IsLawful K app
      → (limits : Limits) (props : K.Props) (inputs : List (Input K)) (m : Machine K)
      → Reached app limits props inputs m
      → m.built ≡ true
      → holds m

  -- each scope that is on no open work is current or owed a run, until a fault ends the run
  abbrev pub OthersAreCurrentOrOwed : Type 0
  OthersAreCurrentOrOwed = OnceBuilt (λ m. m.dead ≡ None → OthersCurrentOrOwed app m)

  -- so where no work is open all scopes are
  abbrev pub AllAreCurrentOrOwed : Type 0
  AllAreCurrentOrOwed = OnceBuilt (λ m. m.dead ≡ None → m.work ≡ [] → AllCurrentOrOwed app m.state)

  -- the same where no scope was passed over on the way
  abbrev pub OnceBuiltWhole : (Machine K → Type 0) → Type 0
  OnceBuiltWhole holds =
      IsLawful K app
      → (limits : Limits) (props : K.Props) (inputs : List (Input K)) (m : Machine K)
      → (reached : Reached app limits props inputs m)
      → NonePassed reached.parts
      → m.built ≡ true
      → holds m

  -- and where nothing is at work or owed every kept output is current
  abbrev pub SettledAreCurrent : Type 0
  SettledAreCurrent = OnceBuiltWhole (λ m. is_settled m ≡ true → AllCurrent app m.state)

  -- there a boundary shows its fallback just while live tasks hold it
  abbrev pub SettledShowHeld : Type 0
  SettledShowHeld = OnceBuiltWhole (λ m. is_settled m ≡ true → AllHeldShown m.state)
