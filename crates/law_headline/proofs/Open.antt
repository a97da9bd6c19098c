-- While a unit is open: how it began, and the work that was served since.
use Rattle.std.proofs.Common.{ℕ, true, false, List, [], ◌∷◌, ◌≡◌}
use Rattle.std.specs.Prelude.{None}
use Rattle.rt_model.specs.Tree.{Types}
use Rattle.rt_model.specs.World.{Application}
use Rattle.rt_model.specs.Laws.{IsLawful}
use Rattle.rt_model.specs.State.{State}
use Rattle.rt_model.specs.Replay.{Entry, Build, Input, Machine}
use Rattle.rt_model.specs.Causes.{Limits}
use Rattle.rt_model.specs.Told.{opens}
use Rattle.law_moves.specs.Moves.{Move, Logged, Inside, AtWork, IsLogged, Leads}
use Rattle.law_moves.specs.Reached.{Reached}
use Rattle.law_moves.proofs.Insides.{inside_lasts}
pub use Rattle.law_moves.proofs.Tellings.{served_opens_none as serves_opens_none}
use Rattle.law_headline.proofs.Begins.{reached_on}
use Rattle.law_headline.proofs.Drawn.{Below}

module _ {K : Types} (app : Application K) (lawful : IsLawful K app) (props : K.Props) (inputs : List (Input K)) (limits : Limits) where
  abbrev pub From : Machine K → Type 0
  From m = Reached app limits props inputs m

  -- a unit is open: how it began, and that edits before it carried only what was drawn
  pub record OpenUnit (xs : List ℕ) (w : State K) (first : Entry) (m : Machine K) : Type 0 where
    pub from : Machine K
    pub begun : Machine K
    pub opening : opens first ≡ true
    pub reached : From from
    -- the build comes before all edits
    pub none_before : first ≡ Build → xs ≡ []
    pub alive : from.dead ≡ None
    pub unit : from.unit ≡ false
    pub logged : IsLogged app limits from first begun
    pub at_work : AtWork begun
    pub done : List Move
    pub leads : Leads app limits begun done m
    pub inside : Inside done
    pub before_is : w ≡ from.state
    pub low : Below from.state.next.elements xs

  -- while the unit is open
  pub in_work : (xs : List ℕ) (w : State K) (first : Entry) (m : Machine K) → OpenUnit xs w first m → m.dead ≡ None → AtWork m
  in_work xs w first m o alive =
      (inside_lasts app (λ w work. Unit {0})
      (record {
        serves = λ w v item rest work ready here e. tt;
        drops = λ w v scope parent side rest work first live here e. tt;
        thins = λ w v scope top parent side rest work first other live here e. tt;
      })
      limits o.begun m o.done o.at_work o.leads o.inside alive tt).0

  pub unit_reached : (xs : List ℕ) (w : State K) (first : Entry) (m : Machine K) → OpenUnit xs w first m → From m
  unit_reached xs w first m o = reached_on app lawful limits props inputs o.from m (Logged first ∷ o.done) o.reached (o.begun, o.logged, o.leads)
