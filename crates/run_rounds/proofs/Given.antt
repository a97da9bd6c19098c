-- The build of a program's runtime, wherever its numbers begin and whatever its root provides.
use Rattle.std.proofs.Common.{ℕ, ◌<◌, Bool, true, List, [], ◌∷◌, ◌++◌, ◌≡◌, refl, sym, ap, ◌∙◌, subst, map, reverse, arith}
use Rattle.std.proofs.lemmas.List.{append-nil}
use Rattle.std.specs.Prelude.{Option, Some, None, is_some}
use Rattle.rt_model.specs.OneLog.{types}
use Rattle.rt_model.specs.Tree.{Types}
use Rattle.rt_model.specs.World.{Application, Firsts}
use Rattle.rt_model.specs.State as model
use Rattle.rt_model.specs.State.{Outcome, Done}
use Rattle.rt_model.specs.Next as next
use Rattle.rt_model.specs.Run.{run}
use Rattle.rt_model.specs.Replay as replay
use Rattle.rt_model.specs.Replay.{ended_by, start_with}
use Rattle.rt_model.specs.Causes as causes
use Rattle.rt_model.specs.Told.{telling}
use Rattle.law_moves.specs.Moves.{Logged, AtRest, IsLogged}
use Rattle.law_moves.specs.Reached.{Reached}
use Rattle.law_moves.proofs.Beginnings.{build_logged}
use Rattle.law_moves.proofs.Joins.{stays}
use Rattle.law_moves.proofs.Reports.{reports_go_on}
use Rattle.run_reports.specs.Seen.{entry_of}
use Rattle.rt_scopes.specs.Counts.{Counts}
use Rattle.run_state.specs.Mirror.{Unkept, at_first, state_of}
use Rattle.law_moves.specs.Turn.{unit_of}
use Rattle.law_moves.specs.Underway.{Works}
use Rattle.law_moves.proofs.Underway.{reached_by}
use Rattle.run_work.specs.Items.{work_of}
use Rattle.law_behavior.proofs.Given.{provided_by, starts_provide}
use Rattle.run_turns.specs.Counting.{CountsAlong, calls_after}
use Rattle.run_machine.specs.Machines.{machine_of, open_work, noted, first_in, IsFresh, Did}
use Rattle.run_machine.specs.Stands.{Going, StandsFor, StandsAt}
use Rattle.run_machine.specs.declared.machine.Machine.{Machine}

-- no call is counted, and there was none
pub uncounted : (calls : ℕ) → calls ≡ 0 → Counts calls 0
uncounted calls none = omega (arith, none)

module _ {K : Types} (app : Application K) (limits : causes.Limits) (props : K.Props) (firsts : Firsts) (provided : List (ℕ × K.Value)) where
  -- a replay's start
  abbrev pub given_machine : replay.Machine K
  given_machine = start_with app props firsts provided []

  -- the build on its way
  abbrev pub given : Option ℕ → Going K
  given along = record { props = props; inputs = []; from = given_machine; opened = replay.Build ∷ []; left = []; taken = 0; count = along }

  abbrev given_at : model.State K → List (model.Item K) → replay.Machine K
  given_at v work = record given_machine { state = v; work = work; built = true; unit = true }

  pub given_rests : AtRest given_machine
  given_rests = record { alive = refl; idle = refl; unit = refl }

  given_reached : 0 < firsts.elements → Reached app limits props [] given_machine
  given_reached above =
      record {
        firsts = firsts;
        above = above;
        contexts = provided_by [] provided;
        parts = [];
        comes = starts_provide app props firsts provided [];
      }

  -- the build begins
  given_opens : 0 < firsts.elements → (v : model.State K) (items : List (model.Item K))
      → run app given_machine.state 0 ≡ Done v items
      → Works app limits props [] given_machine (replay.Build ∷ []) [] given_machine.state replay.Build (given_at v items)
  given_opens above v items did =
      let m : replay.Machine K = given_machine in
      let u : replay.Machine K = given_at v items in
      let logged : IsLogged app limits m replay.Build u =
      subst (λ (x : replay.Machine K). IsLogged app limits m replay.Build x)
      (ap (λ (x : Outcome K). ended_by (record m { built = true; unit = true }) None [] x) did
      ∙ ap (λ (xs : List (model.Item K)). given_at v xs) (append-nil items))
      (build_logged app limits m given_rests refl) in
      record {
        told = telling m;
        earlier = [];
        so = (reports_go_on app).0 limits m;
        edits_are = refl;
        before = refl;
        begun = u;
        opening = refl;
        logged = logged;
        at_work = record { alive = refl; built = refl; unit = refl };
        more = [];
        goes = stays app limits u [];
        log_is = refl;
        same = refl;
        reached = reached_by app limits props [] m u (Logged replay.Build ∷ []) (given_reached above) (u, logged, refl);
      }

module _ {P C Q V H T E L : Type 0} (app : Application (types C Q V H T E L)) (limits : causes.Limits) (props : Q) (firsts : Firsts)
    (provided : List (ℕ × V)) where
  abbrev built_at : Unkept (types C Q V H T E L) → model.State (types C Q V H T E L) → Machine P C Q V H T E L
      → List (model.Item (types C Q V H T E L)) → Option replay.Entry → replay.Machine (types C Q V H T E L)
  built_at h v x items o = record (machine_of h [] 0 x) { state = v; work = items; unit = is_some o }

  -- a machine that was just made begins to build
  pub stands_given : (along : Option ℕ) → 0 < firsts.elements → (old new : Machine P C Q V H T E L)
      → IsFresh old
      → state_of at_first (old.scopes).state ≡ (start_with app props firsts provided []).state
      → ((g : Unkept (types C Q V H T E L)) → Did app (unit_of app (state_of g (old.scopes).state) (next.RerunScope 0)) [] old new)
      → first_in new ≡ Some replay.Build
      → new ≡ record old { scopes = new.scopes; work = new.work; first = new.first }
      → CountsAlong along (calls_after (unit_of app (state_of at_first (old.scopes).state) (next.RerunScope 0)))
      → StandsAt app limits (given app limits props firsts provided along) [] new
  stands_given along above old new fresh is builds first frame counted =
      let m = start_with app props firsts provided [] in
      let did = builds at_first in
      let h = did.kept in
      let v = state_of h (new.scopes).state in
      let done : run app m.state 0 ≡ Done v did.work = ap (λ (x : model.State (types C Q V H T E L)). run app x 0) (sym is) ∙ did.done in
      let on = given_opens app limits props firsts provided above v did.work done in
      let items : open_work new ≡ did.work = did.open_is ∙ ap (λ xs. did.work ++ work_of (reverse xs)) fresh.work ∙ append-nil did.work in
      let same : machine_of h [] 0 new ≡ record m { state = v; work = did.work; built = true; unit = true } =
      ap (λ (x : Machine P C Q V H T E L). machine_of h [] 0 x) frame
      ∙ ap (λ xs. built_at h v old xs (first_in new)) items
      ∙ ap (λ (o : Option replay.Entry). built_at h v old did.work o) first
      ∙ ap (λ hearing. built_at h v (record old { hearing = hearing }) did.work (Some replay.Build)) fresh.hearing
      ∙ ap (λ (n : ℕ). built_at h v (record old { hearing = None; units = n }) did.work (Some replay.Build)) fresh.units
      ∙ ap (λ (b : Bool). built_at h v (record old { hearing = None; units = 0; default_enabled = b }) did.work (Some replay.Build))
      fresh.default_enabled in
      let log : noted new ≡ [] = did.logged ∙ append-nil (noted old) ∙ ap (λ xs. map entry_of xs) fresh.course in
      let here : Works app limits props [] m (replay.Build ∷ noted new) [] m.state replay.Build (machine_of h [] 0 new) =
      subst (λ (l : List replay.Entry). Works app limits props [] m (replay.Build ∷ l) [] m.state replay.Build (machine_of h [] 0 new)) (sym log)
      (subst (λ (x : replay.Machine (types C Q V H T E L)). Works app limits props [] m (replay.Build ∷ []) [] m.state replay.Build x) (sym same) on) in
      subst (λ (o : Option replay.Entry). StandsFor app limits (given app limits props firsts provided along) o [] new) (sym first)
      (h, m.state, here, tt, subst (λ (o : Outcome (types C Q V H T E L)). CountsAlong along (calls_after o)) did.done counted)
