-- Machines that moves reach: when work is open, when the build has begun, and the first entry of a unit.
use Rattle.std.proofs.Common.{Bool, true, false, List, [], ◌∷◌, ◌++◌, ◌≡◌, ◌⊎◌, inl, inr, refl, sym, ap, ◌∙◌, subst, ℕ, ◌<◌}
use Rattle.std.specs.Prelude.{Option, Some, None, if◌then◌else◌}
use Rattle.rt_lemmas.proofs.Bools.{and_none as and_false}
use Rattle.rt_model.specs.Tree.{Types}
use Rattle.rt_model.specs.World.{Application, Firsts}
use Rattle.rt_model.specs.Laws.{IsLawful}
use Rattle.rt_model.specs.State.{Fault, State, Item, Feed, Make, Drop, Outcome, Done, Cut}
use Rattle.rt_model.specs.Next.{Work, RerunScope, PollTask, RunEffects, at_rest, next_at_rest}
use Rattle.rt_model.specs.Run.{run}
use Rattle.rt_model.specs.Heard.{Listener}
use Rattle.rt_model.specs.Replay.{Entry, Build, Taken, Heard, Rerun, Poll, Effects, Made, Fed, Kept, Removed, Input, Machine, ended_by, if_live, waiting, one_more_unit, rested, is_due, due_item, due_heard, due_work, due, polled, effects_run, outcome_of, change_by}
use Rattle.rt_model.specs.Told.{opens}
use Rattle.rt_model.specs.Causes.{Limits}
use Rattle.rt_model.proofs.LastsAlways.{live_of}
use Rattle.rt_model.proofs.Begun.{Good}
use Rattle.rt_model.proofs.NumbersStand.{Matches, due_match, change_good, Sound}
use Rattle.law_moves.specs.Moves.{Move, Silent, Closed, Logged, serves_item, moves_alone, IsSettled, AtWork, IsLogged, Leads}
use Rattle.law_moves.specs.Reached.{ByMoves, start_at, Reached}
use Rattle.law_moves.proofs.Begun.{begun_sound}
use Rattle.rt_model.specs.Asides.{Aside}
use Rattle.law_moves.specs.Asides.{IsAside}
use Rattle.law_moves.proofs.Asides.{beside}
use Rattle.law_moves.proofs.Ways.{comes-append, comes_keep, begin_of, reached_keep}
use Rattle.law_moves.proofs.Acceptance.{same_as_itself}
use Rattle.law_moves.proofs.Always.{Steady, Outlasts, moves_last}
use Rattle.law_moves.proofs.Insides.{alive_before}
use Rattle.law_moves.proofs.Woods.{move_sound, moves_sound, aside_sound, reached_sound}
use Rattle.law_moves.proofs.Commanded.{Level, level_trans, level_refl}
use Rattle.law_moves.proofs.Called.{rest_level}
use Rattle.law_headline.specs.Calm.{is_calm}
use Rattle.law_headline.proofs.Calm.{take_level}
use Rattle.law_headline.proofs.Levels.{take_unit, ended_level, ended_idle, polled_rests, effects_rest, heard_level, heard_unit}

module _ {K : Types} where
  ended_unit_same : (m : Machine K) (r : Option (Item K)) (rest : List (Item K)) (o : Outcome K) → (ended_by m r rest o).unit ≡ m.unit
  ended_unit_same m r rest (Done v work) = refl
  ended_unit_same m r rest (Cut v fault) = refl

  ended_built : (m : Machine K) (r : Option (Item K)) (rest : List (Item K)) (o : Outcome K) → (ended_by m r rest o).built ≡ m.built
  ended_built m r rest (Done v work) = refl
  ended_built m r rest (Cut v fault) = refl

  -- where no work is open and no unit, the machine needs an entry
  pub idle_settled : (m : Machine K) → m.work ≡ [] → m.unit ≡ false → IsSettled m
  idle_settled m idle unit =
      ap (λ (xs : List (Item K)). moves_alone m.dead xs m.unit) idle ∙ ap (λ (b : Bool). moves_alone {K = K} m.dead [] b) unit ∙ by_fault m.dead
    where
      by_fault : (o : Option Fault) → moves_alone {K = K} o [] false ≡ false
      by_fault None = refl
      by_fault (Some fault) = refl

  -- a machine that is at work and needs an entry has open work
  pub work_open : (m : Machine K) → m.dead ≡ None → m.unit ≡ true → IsSettled m → m.work ≡ [] → ⊥
  work_open m alive unit settled none =
      let absurdity : true ≡ false =
      sym
      (ap (λ (o : Option Fault). moves_alone o m.work m.unit) alive
      ∙ ap (λ (xs : List (Item K)). moves_alone None xs m.unit) none
      ∙ ap (λ (b : Bool). moves_alone {K = K} None [] b) unit)
      ∙ settled in
      cc

  -- the entry that comes next serves the open work
  pub matches_serves : (work : List (Item K)) (e : Entry) → Matches work e → (work ≡ [] → ⊥) → serves_item e ≡ true
  matches_serves [] e h open_work = absurd (open_work refl)
  matches_serves (Make s side p c ∷ rest) (Made t) h open_work = refl
  matches_serves (Feed s side p c ∷ rest) (Kept t) h open_work = refl
  matches_serves (Feed s side p c ∷ rest) (Fed t) h open_work = refl
  matches_serves (Drop t s side ∷ rest) (Removed u) h open_work = refl
  matches_serves _ _ h open_work = absurd h

module _ {K : Types} (app : Application K) where
  -- what a poll or effects leave of the machine that they begin at
  abbrev pub Stays : Entry → Machine K → Machine K → Type 0
  Stays (Poll t) m u = (u.work ≡ []) × Level m.state u.state
  Stays (Effects s) m u = (u.work ≡ []) × Level m.state u.state
  Stays _ m u = Unit {0}

  -- where work is open, no poll and no effects are
  pub stays_on : (e : Entry) (m u v : Machine K) → (u.work ≡ [] → ⊥) → Stays e m u → Stays e m v
  stays_on (Poll t) m u v open_work h = absurd (open_work h.0)
  stays_on (Effects s) m u v open_work h = absurd (open_work h.0)
  stays_on Build m u v open_work h = tt
  stays_on (Taken k) m u v open_work h = tt
  stays_on (Heard s) m u v open_work h = tt
  stays_on (Rerun s) m u v open_work h = tt
  stays_on (Made s) m u v open_work h = tt
  stays_on (Fed s) m u v open_work h = tt
  stays_on (Kept s) m u v open_work h = tt
  stays_on (Removed s) m u v open_work h = tt

  from_rest : (m : Machine K) (x : Machine K) (o : Outcome K) → Level (at_rest m.state) (ended_by x None [] o).state → Level m.state (ended_by x None [] o).state
  from_rest m x o h = level_trans m.state (at_rest m.state) (ended_by x None [] o).state (rest_level m.state) h

  -- inputs, listeners, polls and effects change nothing that shows
  pub calm_level : (m : Machine K) (e : Entry) → is_calm e ≡ true → Level m.state (change_by app m [] e).state
  calm_level m (Taken k) h = level_trans m.state (at_rest m.state) (change_by app m [] (Taken k)).state (rest_level m.state) (take_level (rested app m) m.inputs)
  calm_level m (Heard s) h = heard_level app m (waiting m)
  calm_level m (Poll t) h = from_rest m (one_more_unit (rested app m)) (polled app (at_rest m.state) t) (ended_level (one_more_unit (rested app m)) (at_rest m.state) (polled app (at_rest m.state) t) (polled_rests app (at_rest m.state) t))
  calm_level m (Effects s) h = from_rest m (one_more_unit (rested app m)) (effects_run app (at_rest m.state) s) (ended_level (one_more_unit (rested app m)) (at_rest m.state) (effects_run app (at_rest m.state) s) (effects_rest app (at_rest m.state) s))
  calm_level m Build h = cc
  calm_level m (Rerun s) h = cc
  calm_level m (Made s) h = cc
  calm_level m (Fed s) h = cc
  calm_level m (Kept s) h = cc
  calm_level m (Removed s) h = cc

  -- an entry that begins no unit, where no work is open
  pub aside_level : (m : Machine K) (e : Entry) → opens e ≡ false → Level m.state (change_by app m [] e).state
  aside_level m (Taken k) h = calm_level m (Taken k) refl
  aside_level m (Heard s) h = calm_level m (Heard s) refl
  aside_level m (Made s) h = level_refl m.state
  aside_level m (Fed s) h = level_refl m.state
  aside_level m (Kept s) h = level_refl m.state
  aside_level m (Removed s) h = level_refl m.state
  aside_level m Build h = cc
  aside_level m (Rerun s) h = cc
  aside_level m (Poll t) h = cc
  aside_level m (Effects s) h = cc

  pub aside_unit : (m : Machine K) (e : Entry) → opens e ≡ false → (change_by app m [] e).unit ≡ m.unit
  aside_unit m (Taken k) h = take_unit (rested app m) m.inputs
  aside_unit m (Heard s) h = heard_unit app m (waiting m)
  aside_unit m (Made s) h = refl
  aside_unit m (Fed s) h = refl
  aside_unit m (Kept s) h = refl
  aside_unit m (Removed s) h = refl
  aside_unit m Build h = cc
  aside_unit m (Rerun s) h = cc
  aside_unit m (Poll t) h = cc
  aside_unit m (Effects s) h = cc

  -- an entry that begins the build or a unit
  pub opens_unit : (m : Machine K) (e : Entry) → opens e ≡ true → (change_by app m [] e).unit ≡ true
  opens_unit m Build h = ended_unit_same (record m { built = true; unit = true }) None [] (run app m.state 0)
  opens_unit m (Rerun s) h = ended_unit_same (one_more_unit (rested app m)) None [] (run app (at_rest m.state) s)
  opens_unit m (Poll t) h = ended_unit_same (one_more_unit (rested app m)) None [] (polled app (at_rest m.state) t)
  opens_unit m (Effects s) h = ended_unit_same (one_more_unit (rested app m)) None [] (effects_run app (at_rest m.state) s)
  opens_unit m (Taken k) h = cc
  opens_unit m (Heard s) h = cc
  opens_unit m (Made s) h = cc
  opens_unit m (Fed s) h = cc
  opens_unit m (Kept s) h = cc
  opens_unit m (Removed s) h = cc

  pub opens_stays : (m : Machine K) (e : Entry) → (change_by app m [] e).dead ≡ None → Stays e m (change_by app m [] e)
  opens_stays m (Poll t) alive = (ended_idle (one_more_unit (rested app m)) (at_rest m.state) (polled app (at_rest m.state) t) (polled_rests app (at_rest m.state) t) alive, calm_level m (Poll t) refl)
  opens_stays m (Effects s) alive = (ended_idle (one_more_unit (rested app m)) (at_rest m.state) (effects_run app (at_rest m.state) s) (effects_rest app (at_rest m.state) s) alive, calm_level m (Effects s) refl)
  opens_stays m Build alive = tt
  opens_stays m (Taken k) alive = tt
  opens_stays m (Heard s) alive = tt
  opens_stays m (Rerun s) alive = tt
  opens_stays m (Made s) alive = tt
  opens_stays m (Fed s) alive = tt
  opens_stays m (Kept s) alive = tt
  opens_stays m (Removed s) alive = tt

  -- once the build has begun it isn't due again
  heard_no_build : (m : Machine K) (ls : List (Listener K)) → due_heard app m ls ≡ Some Build → ⊥
  heard_no_build m (l ∷ ls) h = cc
  heard_no_build m [] h = by_work (next_at_rest (at_rest m.state)) m.inputs h
    where
      by_work : (o : Option Work) (inputs : List (Input K)) → due_work app m o inputs ≡ Some Build → ⊥
      by_work (Some (RerunScope s)) inputs h = cc
      by_work (Some (PollTask t)) inputs h = cc
      by_work (Some (RunEffects s)) inputs h = cc
      by_work None [] h = cc
      by_work None (input ∷ rest) h = cc

  pub build_first : (m : Machine K) → m.dead ≡ None → m.work ≡ [] → due app m ≡ Some Build → m.built ≡ false
  build_first m alive idle h = by_built m.built refl
    where
      by_built : (b : Bool) → m.built ≡ b → m.built ≡ false
      by_built false is = is
      by_built true is =
          absurd
          (heard_no_build m (waiting m)
          ((live_of m.state (due_heard app m (waiting m)) Build
          (sym
          (ap (λ (o : Option Fault). if_live m.state (elim o as (λ z. Option Entry) [ None ↦ (if m.built then due_item app m m.work else Some Build) | Some fault ↦ None ])) alive
          ∙ ap (λ (b : Bool). if_live m.state (if b then due_item app m m.work else Some Build)) is
          ∙ ap (λ (xs : List (Item K)). if_live m.state (due_item app m xs)) idle)
          ∙ h)).0))

module _ {K : Types} (app : Application K) (lawful : IsLawful K app) (limits : Limits) (props : K.Props) (inputs : List (Input K)) where
  abbrev pub IsReached : Machine K → Type 0
  IsReached m = Reached app limits props inputs m

  -- moves go on from there
  pub reached_on : (m u : Machine K) (moves : List Move) → IsReached m → Leads app limits m moves u → IsReached u
  reached_on m u moves r leads =
      record {
        firsts = r.firsts;
        above = r.above;
        contexts = r.contexts;
        parts = r.parts ++ ByMoves moves ∷ [];
        comes = comes-append app limits r.parts (ByMoves moves ∷ []) (begin_of app limits props inputs m r) m u r.comes (u, leads, refl);
      }

  -- a fact that says nothing
  abbrev Nothing : State K → List (Item K) → Type 0
  Nothing w work = Unit {0}

  nothing_lasts : Outlasts app Nothing
  nothing_lasts =
      record {
        inside =
            record {
              serves = λ w v item rest work ready here e. tt;
              drops = λ w v scope parent side rest work first live here e. tt;
              thins = λ w v scope top parent side rest work first other live here e. tt;
            };
        mounts = λ w here. tt;
        builds = λ w v work here e. tt;
        reruns = λ w v s work is live here e. tt;
        polls = λ w v t work is live here e. tt;
        effects = λ w v s work is live here e. tt;
        takes = λ m input more none here. tt;
        hears = λ m first others live here alive. tt;
      }

  -- where no unit is at work no work is open
  pub idle : (m : Machine K) → IsReached m → m.dead ≡ None → m.unit ≡ false → m.work ≡ []
  idle m r alive unit =
      let steady : Steady Nothing m =
      reached_keep app limits props inputs (λ (x : Machine K). x.dead ≡ None → Steady Nothing x)
      (λ u v moves leads s lives. moves_last app Nothing nothing_lasts limits u v moves leads lives (s (alive_before app limits u v moves u.dead refl leads lives)))
      (λ u v a is s lives. record { holds = tt; idle = λ q. (beside app lawful u v a is).work ∙ (is.rest).idle })
      (λ firsts contexts above lives. record { holds = tt; idle = λ q. refl }) m r alive in
      steady.idle (and_false m.built m.unit unit)

  pub sound : (m : Machine K) → IsReached m → Sound app lawful m
  sound m r = reached_sound app lawful limits props inputs m r

  -- what is known of an entry that is accepted
  record Fits (m u : Machine K) (e : Entry) : Type 0 where
    matches : Matches m.work e
    before : (m.built ≡ true) ⊎ (e ≡ Build)
    built : u.dead ≡ None → u.built ≡ true

  fits_entry : (m u : Machine K) (e : Entry) → Sound app lawful m → IsLogged app limits m e u → Fits m u e
  fits_entry m u e s h =
      let now : is_due app (due app m) e ≡ true = ap (λ (o : Option Entry). is_due app o e) h.due_is ∙ same_as_itself e in
      let fits = due_match app m e s.awaits now in
      let v : Machine K = change_by app m m.work e in
      let good : Good v = change_good app lawful m m.work e fits.1 fits.2 s.rooted (s.stands fits.0) refl in
      record {
        matches = fits.1;
        before = fits.2;
        built = λ alive. ap (λ (x : Machine K). x.built) h.gives ∙ (good (ap (λ (x : Machine K). x.dead) (sym h.gives) ∙ alive)).built;
      }

  pub matches_entry : (m u : Machine K) (e : Entry) → IsReached m → IsLogged app limits m e u → Matches m.work e
  matches_entry m u e r h = (fits_entry m u e (sound m r) h).matches

  pub built_on : (m v : Machine K) (moves : List Move) → Sound app lawful m → m.built ≡ true → Leads app limits m moves v → v.dead ≡ None → v.built ≡ true
  built_on m v [] s built leads alive = ap (λ (x : Machine K). x.built) leads ∙ built
  built_on m v (Silent ∷ moves) s built leads alive =
      let h = leads.1 in
      built_on leads.0 v moves (move_sound app lawful limits m leads.0 Silent h s)
      (ap (λ (x : Machine K). x.built) h.gives ∙ ended_built m (Some h.item) h.later (outcome_of app m.state h.item) ∙ built)
      leads.2 alive
  built_on m v (Closed ∷ moves) s built leads alive =
      let h = leads.1 in
      built_on leads.0 v moves (move_sound app lawful limits m leads.0 Closed h s) (ap (λ (x : Machine K). x.built) h.gives ∙ built) leads.2 alive
  built_on m v (Logged e ∷ moves) s built leads alive =
      let h = leads.1 in
      let here : (leads.0).dead ≡ None = alive_before app limits leads.0 v moves (leads.0).dead refl leads.2 alive in
      built_on leads.0 v moves (move_sound app lawful limits m leads.0 (Logged e) h s) ((fits_entry m leads.0 e s h).built here) leads.2 alive

  -- after an entry that was accepted the build has begun
  pub built_after : (m u v : Machine K) (e : Entry) (moves : List Move) → IsReached m → IsLogged app limits m e u → Leads app limits u moves v
      → v.dead ≡ None → v.built ≡ true
  built_after m u v e moves r h leads alive =
      let here : u.dead ≡ None = alive_before app limits u v moves u.dead refl leads alive in
      built_on u v moves (move_sound app lawful limits m u (Logged e) h (sound m r)) ((fits_entry m u e (sound m r) h).built here) leads alive

  -- from where the way began
  record OnWay (firsts : Firsts) (contexts : List (ℕ × K.Value)) (m : Machine K) : Type 0 where
    above : 0 < firsts.elements
    stands : Sound app lawful m
    is : (m ≡ start_at app props firsts contexts inputs) ⊎ (m.dead ≡ None → m.built ≡ true)

  by_moves : (firsts : Firsts) (contexts : List (ℕ × K.Value)) → 0 < firsts.elements → (m : Machine K) (moves : List Move)
      → Leads app limits (start_at app props firsts contexts inputs) moves m
      → (m ≡ start_at app props firsts contexts inputs) ⊎ (m.dead ≡ None → m.built ≡ true)
  by_moves firsts contexts above m [] leads = inl leads
  by_moves firsts contexts above m (Silent ∷ moves) leads = let h = leads.1 in let absurdity : [] ≡ h.item ∷ h.later = h.next in cc
  by_moves firsts contexts above m (Closed ∷ moves) leads = let h = leads.1 in let absurdity : false ≡ true = h.at_work in cc
  by_moves firsts contexts above m (Logged e ∷ moves) leads =
      let h = leads.1 in
      let from : Machine K = start_at app props firsts contexts inputs in
      let s : Sound app lawful from = begun_sound app props contexts firsts inputs lawful above in
      inr
      (
      λ alive.
      let here : (leads.0).dead ≡ None = alive_before app limits leads.0 m moves (leads.0).dead refl leads.2 alive in
      built_on leads.0 m moves (move_sound app lawful limits from leads.0 (Logged e) h s) ((fits_entry from leads.0 e s h).built here) leads.2 alive
      )

  moved_way : (firsts : Firsts) (contexts : List (ℕ × K.Value)) (m v : Machine K) (moves : List Move) → Leads app limits m moves v
      → OnWay firsts contexts m → OnWay firsts contexts v
  moved_way firsts contexts m v moves leads h =
      record {
        above = h.above;
        stands = moves_sound app lawful limits m v moves leads h.stands;
        is =
            elim h.is [
              | inl same ↦ by_moves firsts contexts h.above v moves (subst (λ (x : Machine K). Leads app limits x moves v) same leads)
              | inr built ↦ inr (λ alive. built_on m v moves h.stands (built (alive_before app limits m v moves m.dead refl leads alive)) leads alive)
            ];
      }

  aside_way : (firsts : Firsts) (contexts : List (ℕ × K.Value)) (m v : Machine K) (a : Aside K) → IsAside app m a v
      → OnWay firsts contexts m → OnWay firsts contexts v
  aside_way firsts contexts m v a is h =
      record { above = h.above; stands = aside_sound app lawful m v a is h.stands; is = inr (λ alive. (beside app lawful m v a is).built ∙ is.built) }

  -- before the build nothing has happened
  pub start_or_built : (m : Machine K) → (r : IsReached m) → m.dead ≡ None
      → (m ≡ start_at app props r.firsts r.contexts inputs) ⊎ (m.built ≡ true)
  start_or_built m r alive =
      let h : OnWay r.firsts r.contexts m =
      comes_keep app limits (λ (x : Machine K). OnWay r.firsts r.contexts x) (λ u v moves leads s. moved_way r.firsts r.contexts u v moves leads s)
      (λ u v a is s. aside_way r.firsts r.contexts u v a is s) r.parts (start_at app props r.firsts r.contexts inputs) m r.comes
      (record { above = r.above; stands = begun_sound app props r.contexts r.firsts inputs lawful r.above; is = inl refl }) in
      elim h.is [ inl same ↦ inl same | inr built ↦ inr (built alive) ]

  -- the first entry of the build or of a unit
  pub unit_begins : (m u : Machine K) (e : Entry) → IsReached m → m.work ≡ [] → opens e ≡ true → IsLogged app limits m e u → u.dead ≡ None → AtWork u × Stays app e m u
  unit_begins m u e r none opening h alive =
      let same : u ≡ change_by app m [] e = h.gives ∙ ap (λ (xs : List (Item K)). change_by app m xs e) none in (
        record {
          alive = alive;
          built = (fits_entry m u e (sound m r) h).built alive;
          unit = ap (λ (x : Machine K). x.unit) same ∙ opens_unit app m e opening;
        },
        subst (λ (x : Machine K). Stays app e m x) (sym same) (opens_stays app m e (ap (λ (x : Machine K). x.dead) (sym same) ∙ alive)),
      )

  -- an entry that begins none
  pub entry_aside : (m u : Machine K) (e : Entry) → m.work ≡ [] → m.unit ≡ false → opens e ≡ false → IsLogged app limits m e u → (u.unit ≡ false) × Level m.state u.state
  entry_aside m u e none unit aside h =
      let same : u ≡ change_by app m [] e = h.gives ∙ ap (λ (xs : List (Item K)). change_by app m xs e) none in (
        ap (λ (x : Machine K). x.unit) same ∙ aside_unit app m e aside ∙ unit,
        subst (λ (x : Machine K). Level m.state x.state) (sym same) (aside_level app m e aside),
      )
