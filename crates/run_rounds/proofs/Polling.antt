-- A poll of suspended work, poll by poll.
use Rattle.std.proofs.Common.{inl, ℕ, ◌+◌, ◌≤◌, Bool, true, false, ◌&&◌, nat_eq, List, [], ◌∷◌, ◌++◌, ◌≡◌, refl, sym, ap, ◌∙◌, subst, arith}
use Rattle.std.specs.Prelude.{Option, Some, None, is_some, option_map, if◌then◌else◌}
use Rattle.rt_lemmas.proofs.Options.{none_of, some_of}
use Rattle.rt_edits.specs.declared.edit.Edit.{Edit}
use Rattle.rt_model.specs.Lists.{first_of}
use Rattle.rt_model.specs.OneLog.{types}
use Rattle.rt_model.specs.Tree.{Types}
use Rattle.rt_model.specs.World.{Application}
use Rattle.rt_model.specs.Laws.{IsLawful}
use Rattle.rt_model.specs.State as model
use Rattle.rt_model.specs.Next.{Work, first_seen, found, owes}
use Rattle.rt_model.specs.Replay as replay
use Rattle.rt_model.specs.Causes as causes
use Rattle.rt_model.specs.Causes.{refusal, depth_refused, next_height, replay_within}
use Rattle.rt_model.specs.Asides.{resting}
use Rattle.rt_model.specs.Rendering.{polling_rest, polling_next, spent_where}
use Rattle.rt_model.specs.Rendering as rendering
use Rattle.run_state.specs.Mirror.{Unkept, state_of}
use Rattle.run_state.specs.Names.{work_of as next_of}
use Rattle.run_state.specs.declared.names.Work as names
use Rattle.law_moves.specs.Reports.{ToldSo}
use Rattle.law_behavior.specs.Doms.{LedTo}
use Rattle.law_behavior.proofs.Polls.{polling_leads, polls_lead, polls_follow, polls_idle}
use Rattle.run_machine.specs.declared.machine.Machine.{Machine}
use Rattle.run_rounds.specs.Rounds.{OpensFirst, RestsAt}
use Rattle.run_rounds.specs.Suspended.{UnitOn, UnitCutOn, PollingOn, PolledOn, PollCutOn, polled_next}
use Rattle.run_rounds.proofs.Units.{picked}
use Rattle.run_rounds.proofs.Suspending.{below_next, no_room}

mapped_some : {A B : Type 0} (f : A → B) (o : Option A) → is_some o ≡ is_some (option_map f o)
mapped_some f None = refl
mapped_some f (Some a) = refl

-- the fault with which a poll by itself stops is the one with which polls do
poll_refusal : (u : ℕ) (d o : Option model.Fault) (b : Bool) (q : Option model.Fault) (fault : model.Fault)
    → first_of d (first_of o (if b then Some (model.OutOfTurns u) else None)) ≡ Some fault
    → (d ≡ None → o ≡ None)
    → (fault ≡ model.OutOfTurns u → ⊥)
    → first_of d q ≡ Some fault
poll_refusal u (Some f) o b q fault h idle never = h
poll_refusal u None (Some f) b q fault h idle never = let absurdity : Some f ≡ None = idle refl in cc
poll_refusal u None None true q fault h idle never = absurd (never (sym (one h)))
  where
    one : {a c : model.Fault} → Some a ≡ Some c → a ≡ c
    one k = cc
poll_refusal u None None false q fault h idle never = cc

module _ {K : Types} where
  -- what a poll takes next is there, or isn't
  pub none_polled : (w : model.State K) (s : ℕ) → first_seen w ≡ Some s → false ≡ is_some (polled_next w)
  none_polled w s h =
      sym (ap (λ (o : Option ℕ). is_some (elim o as (λ z. Option Work) [ None ↦ found w | Some t ↦ None ])) h)

  pub one_polled : (w : model.State K) → first_seen w ≡ None → (o : Option names.Work) → option_map next_of o ≡ found w
      → is_some o ≡ is_some (polled_next w)
  one_polled w none o is =
      mapped_some next_of o
      ∙ ap (λ (p : Option Work). is_some p) is
      ∙ sym (ap (λ (p : Option ℕ). is_some (elim p as (λ z. Option Work) [ None ↦ found w | Some t ↦ None ])) none)

module _ {P C Q V H T E L : Type 0} where
  -- the rest was passed over
  pub polling_rests : {calls : ℕ} (x : model.State (types C Q V H T E L)) (old new : Machine P C Q V H T E L) → (h : RestsAt x old calls)
      → state_of h.kept (new.scopes).state ≡ polling_rest (state_of h.kept (old.scopes).state)
      → new.work ≡ old.work → new.hearing ≡ old.hearing → new.first ≡ old.first → new.course ≡ old.course
      → RestsAt (polling_rest x) new calls
  polling_rests x old new h is work hearing first course =
      record {
        idle =
            record {
              work = work ∙ (h.idle).work;
              hearing = hearing ∙ (h.idle).hearing;
              first = first ∙ (h.idle).first;
              course = ap (λ k. k.entries) course ∙ (h.idle).course;
            };
        kept = h.kept;
        is = is ∙ ap (λ (y : model.State (types C Q V H T E L)). polling_rest y) h.is;
        counted = h.counted;
      }

  pub polled_some : (x : model.State (types C Q V H T E L)) (g : Unkept (types C Q V H T E L)) (d : Machine P C Q V H T E L)
      → state_of g (d.scopes).state ≡ polling_rest x
      → (b : Bool) → b ≡ is_some (polled_next (state_of g (d.scopes).state)) → b ≡ true
      → (work : Work) × (polling_next x ≡ Some work)
  polled_some x g d is b says there =
      some_of (polling_next x)
      (ap (λ (v : model.State (types C Q V H T E L)). is_some (polled_next v)) (sym is) ∙ sym says ∙ there)

  pub polled_over : (x : model.State (types C Q V H T E L)) (g : Unkept (types C Q V H T E L)) (d : Machine P C Q V H T E L)
      → state_of g (d.scopes).state ≡ polling_rest x
      → (b : Bool) → b ≡ is_some (polled_next (state_of g (d.scopes).state)) → b ≡ false
      → polling_next x ≡ None
  polled_over x g d is b says gone =
      none_of (polling_next x)
      (ap (λ (v : model.State (types C Q V H T E L)). is_some (polled_next v)) (sym is) ∙ sym says ∙ gone)

module _ {P C Q V H T E L : Type 0} (app : Application (types C Q V H T E L)) (lawful : IsLawful (types C Q V H T E L) app)
    (limits : causes.Limits) (props : Q) (w : model.State (types C Q V H T E L)) where
  -- no unit yet
  pub polls_begin : {calls : ℕ} (m : Machine P C Q V H T E L) → RestsAt w m calls → LedTo app limits props false w
      → PollingOn app limits props w 0 m calls
  polls_begin m rests led =
      record {
        log = [];
        left = w;
        goes = refl;
        below = omega arith;
        led = led;
        shows = refl;
        rests = rests;
      }

  -- one more unit
  pub polls_more : {was calls : ℕ} (now after : Option (List Edit)) (n k : ℕ) (work : Work) (old new : Machine P C Q V H T E L)
      → (h : PollingOn app limits props w n old was)
      → k ≡ n + 1 → nat_eq n limits.units ≡ false
      → polling_next h.left ≡ Some work
      → UnitOn app limits (polling_rest h.left) now after new calls
      → PollingOn app limits props w k new calls
  polls_more now after n k work old new h more few next u =
      let v : replay.Machine (types C Q V H T E L) = record (resting u.left) { units = u.units } in
      let accepted : replay_within app limits (Some (resting (polling_rest h.left))) (u.entry ∷ u.more) ≡ Some v =
      (u.ran).so.accepted ∙ ap (λ (m : replay.Machine (types C Q V H T E L)). Some m) (u.ran).machine in
      let on = polls_lead app lawful limits props h.left work u.entry u.more v h.led next u.shut accepted (u.ran).quiet in
      record {
        log = h.log ++ u.entry ∷ u.more;
        left = u.left;
        goes =
            polls_follow app limits w h.left n h.log u.more u.entry work v h.goes few next u.shut accepted
            ∙ ap (λ (j : ℕ). Some (record (resting u.left) { units = j })) (sym more);
        below = subst (λ (j : ℕ). j ≤ limits.units) (sym more) (below_next n limits.units h.below few);
        led = on.0;
        shows = on.1 ∙ h.shows;
        rests = u.rests;
      }

  -- nothing may be polled any more
  pub polls_end : {calls : ℕ} (n : ℕ) (old new : Machine P C Q V H T E L)
      → (h : PollingOn app limits props w n old calls)
      → polling_next h.left ≡ None
      → RestsAt (polling_rest h.left) new calls
      → PolledOn app limits w props new calls
  polls_end n old new h none rests =
      let passed = polling_leads app lawful limits props h.left h.led in
      record {
        log = h.log;
        left = polling_rest h.left;
        went =
            record {
              last = record (resting h.left) { units = n };
              goes = h.goes;
              done = ap (λ (o : Option Work). rendering.entry_of o) none;
              quiet = refl;
              rest = refl;
            };
        shows = passed.1 ∙ h.shows;
        led = passed.0;
        rests = rests;
      }

  -- units were spent
  pub polls_spent : {calls : ℕ} (n : ℕ) (work : Work) (fault : model.Fault) (old new : Machine P C Q V H T E L)
      → (h : PollingOn app limits props w n old calls)
      → nat_eq n limits.units ≡ true
      → fault ≡ model.OutOfTurns limits.units
      → polling_next h.left ≡ Some work
      → RestsAt (polling_rest h.left) new calls
      → PollCutOn app limits w props fault new calls
  polls_spent n work fault old new h all out next rests =
      record {
        log = h.log;
        last = record (resting h.left) { units = n };
        goes = h.goes;
        cause =
            ap (λ (b : Bool). if b && is_some (polling_next h.left) then Some (model.OutOfTurns limits.units) else None) all
            ∙ ap (λ (o : Option Work). if is_some o then Some (model.OutOfTurns limits.units) else None) next
            ∙ ap (λ (f : model.Fault). Some f) (sym out);
        spent =
            λ units is.
            let passed = polling_leads app lawful limits props h.left h.led in
            (passed.1 ∙ h.shows, passed.0, rests);
      }

  -- a unit came to a fault
  pub polls_cut : {was : ℕ} (calls : ℕ) (now after : Option (List Edit)) (n : ℕ) (work : Work) (fault : model.Fault) (old new : Machine P C Q V H T E L)
      → (h : PollingOn app limits props w n old was)
      → nat_eq n limits.units ≡ false
      → polling_next h.left ≡ Some work
      → UnitCutOn app limits (polling_rest h.left) now after fault
      → PollCutOn app limits w props fault new calls
  polls_cut calls now after n work fault old new h few next u = by u.log u.opened u.so
    where
      turns : {A : Type 0} → (units : ℕ) → fault ≡ model.OutOfTurns units → A
      turns units out = absurd (no_room n limits.units h.below few (u.never units out))

      by : (log : List replay.Entry) → OpensFirst log
          → ToldSo app limits (resting (polling_rest h.left)) log u.last
          → PollCutOn app limits w props fault new calls
      by [] opened so =
          let m : replay.Machine (types C Q V H T E L) = resting (polling_rest h.left) in
          let all : nat_eq 0 limits.units ≡ true =
          picked (nat_eq 0 limits.units) (owes (polling_rest h.left)) (model.OutOfTurns limits.units) fault
          (ap (λ (d : replay.Machine (types C Q V H T E L)). refusal limits d) (one m (u.last).machine so.accepted) ∙ u.cause) in
          absurd (no_room n limits.units h.below few all)
        where
          one : (a b : replay.Machine (types C Q V H T E L)) → Some a ≡ Some b → a ≡ b
          one a b k = cc
      by (e ∷ more) opened so =
          record {
            log = h.log ++ e ∷ more;
            last = record ((u.last).machine) { units = n + 1 };
            goes = polls_follow app limits w h.left n h.log more e work (u.last).machine h.goes few next opened so.accepted;
            cause =
                poll_refusal limits.units ((u.last).machine).dead (depth_refused limits (next_height (u.last).machine))
                (((u.last).machine).built && replay.is_quiet (u.last).machine && nat_eq ((u.last).machine).units limits.units && owes ((u.last).machine).state)
                (spent_where app limits (record ((u.last).machine) { units = n + 1 }) (polling_next ((u.last).machine).state)) fault u.cause
                (
                λ alive.
                ap (λ (items : List (model.Item (types C Q V H T E L))). depth_refused limits (next_height (record ((u.last).machine) { work = items })))
                (polls_idle app limits h.left work e more (u.last).machine next opened so.accepted alive)
                )
                (λ out. turns limits.units out);
            spent = λ units out. turns units out;
          }
