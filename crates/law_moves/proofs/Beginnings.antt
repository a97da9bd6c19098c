-- An entry of a machine at which nothing is at work: the build, a unit, an input, a listener.
use Rattle.std.proofs.Common.{ℕ, ◌+◌, Bool, true, false, ◌&&◌, not, List, [], ◌∷◌, ◌≡◌, refl, sym, ap, ◌∙◌, nat_eq}
use Rattle.std.specs.Prelude.{Option, Some, None, is_some, if◌then◌else◌}
use Rattle.rt_model.specs.Lists.{at, kept_by, first_of}
use Rattle.rt_model.specs.Tree.{Types}
use Rattle.rt_model.specs.World.{Application}
use Rattle.rt_model.specs.State.{Fault, OutOfTurns, Item, is_live}
use Rattle.rt_model.specs.Next.{Work, RerunScope, PollTask, RunEffects, next, owes}
use Rattle.rt_model.specs.Run.{run}
use Rattle.rt_model.specs.Heard.{Listener}
use Rattle.rt_model.specs.Replay.{Entry, Build, Taken, Heard, Rerun, Poll, Effects, Input, Machine, ended_by, names_live, if_live, waiting, no_listener, no_work, is_quiet, due_item, due_heard, due_work, polled, effects_run, heard_first, heard_event, rested, rerun, one_more_unit, take_next, change_by}
use Rattle.rt_model.specs.Causes.{Limits, depth_refused, height_at, next_height, turns_refused, refusal}
use Rattle.rt_model.proofs.Maps.{by_test, pick_true, pick_false}
use Rattle.law_moves.specs.Moves.{moves_alone, IsSettled, AtRest, IsLogged}

and_false : (b c : Bool) → b && c && false ≡ false
and_false true true = refl
and_false true false = refl
and_false false c = refl

-- the first one that a test lets through passes it
first_kept : {A : Type 0} (test : A → Bool) (xs : List A) (y : A) (ys : List A) → kept_by test xs ≡ y ∷ ys → test y ≡ true
first_kept test [] y ys h = cc
first_kept test (x ∷ xs) y ys h =
    by_test (test x)
    (
    λ q.
    let here : x ∷ kept_by test xs ≡ y ∷ ys = sym (pick_true (x ∷ kept_by test xs) (kept_by test xs) q) ∙ h in
    let same : x ≡ y = cc in
    sym (ap (λ z. test z) same) ∙ q
    )
    (λ q. first_kept test xs y ys (sym (pick_false (x ∷ kept_by test xs) (kept_by test xs) q) ∙ h))

-- the test for one unit too many, by its parts
abbrev pub one_too_many : Limits → Bool → Bool → Bool → Bool → Option Fault
one_too_many limits built quiet spent owed = if built && quiet && spent && owed then Some (OutOfTurns limits.units) else None

unbuilt_goes_on : (limits : Limits) (quiet spent owed : Bool) → one_too_many limits false quiet spent owed ≡ None
unbuilt_goes_on limits quiet spent owed = refl

unspent_goes_on : (limits : Limits) (built quiet owed : Bool) → one_too_many limits built quiet false owed ≡ None
unspent_goes_on limits true true owed = refl
unspent_goes_on limits true false owed = refl
unspent_goes_on limits false quiet owed = refl

unowed_goes_on : (limits : Limits) (built quiet spent : Bool) → one_too_many limits built quiet spent false ≡ None
unowed_goes_on limits true true true = refl
unowed_goes_on limits true true false = refl
unowed_goes_on limits true false spent = refl
unowed_goes_on limits false quiet spent = refl

pub loud_goes_on : (limits : Limits) (built spent owed : Bool) → one_too_many limits built false spent owed ≡ None
loud_goes_on limits true spent owed = refl
loud_goes_on limits false spent owed = refl

module _ {K : Types} where
  settled_at_rest : (m : Machine K) → AtRest m → IsSettled m
  settled_at_rest m h =
      ap (λ (o : Option Fault). moves_alone o m.work m.unit) h.alive ∙ ap (λ (items : List (Item K)). moves_alone None items m.unit) h.idle ∙ h.unit

  -- at rest only one unit too many is refused
  refusal_at_rest : (limits : Limits) (m : Machine K) → AtRest m → refusal limits m ≡ turns_refused limits m
  refusal_at_rest limits m h =
      ap (λ (o : Option Fault). first_of o (first_of (depth_refused limits (next_height m)) (turns_refused limits m))) h.alive
      ∙ ap (λ (items : List (Item K)). first_of (depth_refused limits (height_at m.state items)) (turns_refused limits m)) h.idle

module _ {K : Types} (app : Application K) (limits : Limits) where
  -- an entry at rest, where no refusal comes before it
  rest_logged : (m : Machine K) (e : Entry) → AtRest m
      → turns_refused limits m ≡ None
      → (if m.built then due_heard app m (waiting m) else Some Build) ≡ Some e
      → names_live m.state e ≡ true
      → IsLogged app limits m e (change_by app m [] e)
  rest_logged m e h turns due_is live =
      record {
        settled = settled_at_rest m h;
        within = refusal_at_rest limits m h ∙ turns;
        due_is = ap (λ (o : Option Fault). if_live m.state (elim o as (λ z. Option Entry) [ None ↦ (if m.built then due_item app m m.work else Some Build) | Some fault ↦ None ])) h.alive
            ∙ ap (λ (items : List (Item K)). if_live m.state (if m.built then due_item app m items else Some Build)) h.idle
            ∙ ap (λ (o : Option Entry). if_live m.state o) due_is
            ∙ pick_true (Some e) None live;
        gives = sym (ap (λ (items : List (Item K)). change_by app m items e) h.idle);
      }

  -- what is due once the build has begun
  due_built : (m : Machine K) (listeners : List (Listener K)) → m.built ≡ true → waiting m ≡ listeners
      → (if m.built then due_heard app m (waiting m) else Some Build) ≡ due_heard app m listeners
  due_built m listeners built heard =
      ap (λ (b : Bool). if b then due_heard app m (waiting m) else Some Build) built
      ∙ ap (λ (ls : List (Listener K)). due_heard app m ls) heard

  -- the build begins
  pub build_logged : (m : Machine K) → AtRest m → m.built ≡ false → IsLogged app limits m Build (ended_by (record m { built = true; unit = true }) None [] (run app m.state 0))
  build_logged m h unbuilt =
      rest_logged m Build h
      (ap (λ (b : Bool). one_too_many limits b (is_quiet m) (nat_eq m.units limits.units) (owes m.state)) unbuilt)
      (ap (λ (b : Bool). if b then due_heard app m (waiting m) else Some Build) unbuilt)
      refl

  -- work that is owed begins a unit, where units are left
  owed_logged : (m : Machine K) (work : Option Work) (e : Entry) → AtRest m → m.built ≡ true → waiting m ≡ []
      → next m.state ≡ work
      → turns_refused limits m ≡ None
      → due_work app m work m.inputs ≡ Some e
      → names_live m.state e ≡ true
      → IsLogged app limits m e (change_by app m [] e)
  owed_logged m work e h built quiet is turns due_is live =
      rest_logged m e h turns (due_built m [] built quiet ∙ ap (λ (o : Option Work). due_work app m o m.inputs) is ∙ due_is) live

  units_left : (m : Machine K) → nat_eq m.units limits.units ≡ false → turns_refused limits m ≡ None
  units_left m left =
      ap (λ (b : Bool). one_too_many limits m.built (is_quiet m) b (owes m.state)) left ∙ unspent_goes_on limits m.built (is_quiet m) (owes m.state)

  -- a scope is rerun
  pub rerun_logged : (m : Machine K) (s : ℕ) → AtRest m → m.built ≡ true → waiting m ≡ []
      → next m.state ≡ Some (RerunScope s)
      → is_live m.state s ≡ true
      → nat_eq m.units limits.units ≡ false
      → IsLogged app limits m (Rerun s) (rerun app (rested app m) s)
  rerun_logged m s h built quiet is live left = owed_logged m (Some (RerunScope s)) (Rerun s) h built quiet is (units_left m left) refl live

  -- a task is polled
  pub poll_logged : (m : Machine K) (t : ℕ) → AtRest m → m.built ≡ true → waiting m ≡ []
      → next m.state ≡ Some (PollTask t)
      → is_some (at m.state.tasks t) ≡ true
      → nat_eq m.units limits.units ≡ false
      → IsLogged app limits m (Poll t) (ended_by (one_more_unit (rested app m)) None [] (polled app (rested app m).state t))
  poll_logged m t h built quiet is live left = owed_logged m (Some (PollTask t)) (Poll t) h built quiet is (units_left m left) refl live

  -- a scope's effects are done
  pub effects_logged : (m : Machine K) (s : ℕ) → AtRest m → m.built ≡ true → waiting m ≡ []
      → next m.state ≡ Some (RunEffects s)
      → is_live m.state s ≡ true
      → nat_eq m.units limits.units ≡ false
      → IsLogged app limits m (Effects s) (ended_by (one_more_unit (rested app m)) None [] (effects_run app (rested app m).state s))
  effects_logged m s h built quiet is live left = owed_logged m (Some (RunEffects s)) (Effects s) h built quiet is (units_left m left) refl live

  -- the next input is taken in
  pub taken_logged : (m : Machine K) (input : Input K) (more : List (Input K)) → AtRest m → m.built ≡ true → waiting m ≡ []
      → next m.state ≡ None
      → m.inputs ≡ input ∷ more
      → IsLogged app limits m (Taken (m.taken + 1)) (take_next (rested app m) (input ∷ more))
  taken_logged m input more h built quiet is inputs =
      let owed : owes m.state ≡ false = ap (λ (o : Option Work). is_some o) is in
      let turns : turns_refused limits m ≡ None =
      ap (λ (b : Bool). one_too_many limits m.built (is_quiet m) (nat_eq m.units limits.units) b) owed
      ∙ unowed_goes_on limits m.built (is_quiet m) (nat_eq m.units limits.units) in
      let logged = owed_logged m None (Taken (m.taken + 1)) h built quiet is turns (ap (λ (items : List (Input K)). due_work app m None items) inputs) refl in
      record {
        settled = logged.settled;
        within = logged.within;
        due_is = logged.due_is;
        gives = ap (λ (items : List (Input K)). take_next (rested app m) items) (sym inputs) ∙ logged.gives;
      }

  -- the first listener that waits is called
  pub heard_logged : (m : Machine K) (first : Listener K) (others : List (Listener K)) → AtRest m → m.built ≡ true
      → waiting m ≡ first ∷ others
      → IsLogged app limits m (Heard first.origin) (heard_event app m first others m.event)
  heard_logged m first others h built heard =
      let loud : is_quiet m ≡ false =
      ap (λ (ls : List (Listener K)). not (is_some m.dead) && no_work m.work && no_listener ls) heard
      ∙ and_false (not (is_some m.dead)) (no_work m.work) in
      let turns : turns_refused limits m ≡ None =
      ap (λ (b : Bool). one_too_many limits m.built b (nat_eq m.units limits.units) (owes m.state)) loud
      ∙ loud_goes_on limits m.built (nat_eq m.units limits.units) (owes m.state) in
      let logged = rest_logged m (Heard first.origin) h turns (due_built m (first ∷ others) built heard)
      (first_kept (λ (l : Listener K). is_live m.state l.origin) m.listeners first others heard) in
      record {
        settled = logged.settled;
        within = logged.within;
        due_is = logged.due_is;
        gives = ap (λ (ls : List (Listener K)). heard_first app m ls) (sym heard) ∙ logged.gives;
      }
