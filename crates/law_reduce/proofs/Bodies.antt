-- A scope that is current shows what its program answers in the present world.
use Rattle.std.proofs.Common.{ℕ, List, [], ◌∷◌, ◌≡◌, ap, subst}
use Rattle.std.specs.Prelude.{Option, Some, if◌then◌else◌}
use Rattle.std.specs.List.{AllByRecursion}
use Rattle.rt_model.specs.Lists.{at}
use Rattle.rt_model.specs.Tree.{Types, VComponent, Element}
use Rattle.rt_model.specs.World.{Cell, Error, Context, World, Meaning, Application}
use Rattle.rt_model.specs.State.{Scope, LastCall, State, values_of}
use Rattle.rt_model.specs.Program.{Programs, application_of, body_means}
use Rattle.rt_model.specs.Run.{body_of}
use Rattle.rt_model.specs.Current.{world_again, KeepsAnswer, BodyIsCurrent, CurrentAs, IsCurrent, AllCurrent}
use Rattle.rt_model.specs.Told.{Told}
use Rattle.author_programs.proofs.Present.{found}
use Rattle.law_reduce.specs.Bodies.{present_world, NoneAside, BodyShows, BodiesShow, ReportsShowBodies}

module _ {K : Types} where
  -- where nothing was read aside alone
  present_again : (w : State K) (x : Scope K) (last : LastCall K) → NoneAside x last → world_again w x last ≡ present_world w last
  present_again w x last none =
      λ i.
      record {
        given = last.given.given;
        values = record {
          cell = λ n. if none (Cell n) i then last.given.values.cell n else (values_of w).cell n;
          error = λ s. if none (Error s) i then last.given.values.error s else (values_of w).error s;
          context = λ k s. if none (Context k s) i then last.given.values.context k s else (values_of w).context k s;
        };
      }

pub bodies_show : (K : Types) → BodiesShow K
bodies_show K a w current s x last c p there called component =
    let app : Application K = application_of a in
    let scope : CurrentAs app w x (at w.last_calls s) x.component = found (λ (e : ℕ × Scope K). IsCurrent app w e.0 e.1) w.scopes s x current there in
    let body : BodyIsCurrent app w x (Some last) =
    subst (λ (o : Option (LastCall K)). BodyIsCurrent app w x o) called
    (subst (λ (v : VComponent K). CurrentAs app w x (at w.last_calls s) v) component scope) in
    let means : body_of app x.component (world_again w x last) ≡ body_means (a.body c p) (world_again w x last) =
    ap (λ (v : VComponent K). body_of app v (world_again w x last)) component in
    let shows : KeepsAnswer last (body_means (a.body c p) (world_again w x last)).answer x.main_side.output =
    subst (λ (m : Meaning K (Element K)). KeepsAnswer last m.answer x.main_side.output) means body.1 in
    (shows, λ none. subst (λ (v : World K). KeepsAnswer last (body_means (a.body c p) v).answer x.main_side.output) (present_again w x last none) shows)

each_shows : {K : Types} (a : Programs K) (told : List (Told K)) → AllByRecursion (λ (r : Told K). AllCurrent (application_of a) (r.machine).state) told
    → AllByRecursion (λ (r : Told K). BodyShows a (r.machine).state) told
each_shows a [] h = tt
each_shows {K = K} a (t ∷ ts) h = (bodies_show K a (t.machine).state h.0, each_shows a ts h.1)

pub reports_show_bodies : (K : Types) → ReportsShowBodies K
reports_show_bodies K a props inputs limits taken reports h = each_shows a h.told (h.holds).current
