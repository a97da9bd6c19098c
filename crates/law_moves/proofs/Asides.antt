-- What a call that logs no entry leaves as it was.
use Rattle.std.proofs.Common.{ℕ, zero, suc, ◌+◌, length, Bool, true, false, List, [], ◌∷◌, ◌≡◌, refl, sym, subst}
use Rattle.std.specs.Prelude.{Option, Some, None, if◌then◌else◌}
use Rattle.rt_model.specs.Lists.{drop_number, join}
use Rattle.rt_model.specs.Tree.{Types}
use Rattle.rt_model.specs.World.{Nothing, nothing, Meaning, Application}
use Rattle.rt_model.specs.Laws.{IsNumbered, IsLawful}
use Rattle.rt_model.specs.State.{Scope, State, is_live}
use Rattle.rt_model.specs.Rendering.{may_poll, may_rerun, pass_over, passes, rendering_rest, tasks_passed, polling_rest, nothing_resolved}
use Rattle.rt_model.specs.Next.{Work, RerunScope, PollTask, RunEffects, first_seen, look, drop_then, drops, paused, found}
use Rattle.rt_model.specs.Sentences.{marked_now, all_marked_now}
use Rattle.rt_model.specs.Replay.{Machine}
use Rattle.rt_model.proofs.Frames.{shape, shape_steady, same_rest}
use Rattle.rt_model.proofs.RunFrames.{Later, later_refl, later_trans, later_same, tasks_from, later_goes, later_calls, called}
use Rattle.rt_model.proofs.StepFrames.{look_same}
use Rattle.rt_model.proofs.MachineFrames.{rest_later}
use Rattle.rt_model.specs.Framed.{framed}
use Rattle.rt_model.proofs.SideFrames.{Stay, framed_steady, stay_refl, stay_trans, stay_rest, stay_either}
use Rattle.rt_model.proofs.SideRuns.{look_stay, rest_stay, called_stay, stay_goes, stay_calls}
use Rattle.law_moves.specs.Moves.{AtRest}
use Rattle.rt_model.specs.Asides.{Aside, Asked, Marked, AllMarked, Looked, Thinned, Rested, Raised, Passed, Polling, Answered, Advanced, Allowed, aside_state, set_aside}
use Rattle.law_moves.specs.Asides.{IsAside}
use Rattle.law_moves.proofs.Advanced.{advanced_goes}

module _ {K : Types} where
  later_either : (w x y : State K) (c : Bool) → Later w x → Later w y → Later w (if c then x else y)
  later_either w x y true f g = f
  later_either w x y false f g = g

  -- another list of what is seen or queued changes nothing else
  seen_later : (w : State K) (seen : List ℕ) → Later w (record w { seen = seen })
  seen_later w seen = later_same w (record w { seen = seen }) (same_rest w.next.tasks w (record w { seen = seen }) refl refl refl refl)

  queued_later : (w : State K) (queued : List ℕ) → Later w (record w { queued = queued })
  queued_later w queued = later_same w (record w { queued = queued }) (same_rest w.next.tasks w (record w { queued = queued }) refl refl refl refl)

  marked_stay : (w : State K) (s : ℕ) → Stay w (marked_now w s)
  marked_stay w s = let v : State K = record w { seen = join w.seen s } in stay_either w v w (is_live w s) (stay_rest w v refl refl refl) (stay_refl w)

  marked_later : (w : State K) (s : ℕ) → Later w (marked_now w s)
  marked_later w s = later_either w (record w { seen = join w.seen s }) w (is_live w s) (seen_later w (join w.seen s)) (later_refl w)

  all_marked_stay : (es : List (ℕ × Scope K)) (w : State K) → Stay w (all_marked_now es w)
  all_marked_stay [] w = stay_refl w
  all_marked_stay (e ∷ es) w = let v : State K = marked_now w e.0 in stay_trans w v (all_marked_now es v) (marked_stay w e.0) (all_marked_stay es v)

  all_marked_later : (es : List (ℕ × Scope K)) (w : State K) → Later w (all_marked_now es w)
  all_marked_later [] w = later_refl w
  all_marked_later (e ∷ es) w = let v : State K = marked_now w e.0 in later_trans w v (all_marked_now es v) (marked_later w e.0) (all_marked_later es v)

  drop_then_stay : (go : State K → State K) (w : State K) (o : Option ℕ) → ((v : State K) → Stay v (go v)) → Stay w (drop_then go w o)
  drop_then_stay go w None h = stay_refl w
  drop_then_stay go w (Some t) h = let v : State K = record w { queued = drop_number w.queued t } in stay_trans w v (go v) (stay_rest w v refl refl refl) (h v)

  drops_stay : (qs : List ℕ) (w : State K) → Stay w (drops qs w)
  drops_stay [] w = stay_refl w
  drops_stay (q ∷ qs) w = drop_then_stay (λ v. drops qs v) w (paused w (found w)) (λ v. drops_stay qs v)

  drop_then_later : (go : State K → State K) (w : State K) (o : Option ℕ) → ((v : State K) → Later v (go v)) → Later w (drop_then go w o)
  drop_then_later go w None h = later_refl w
  drop_then_later go w (Some t) h = let v : State K = record w { queued = drop_number w.queued t } in later_trans w v (go v) (queued_later w (drop_number w.queued t)) (h v)

  drops_later : (qs : List ℕ) (w : State K) → Later w (drops qs w)
  drops_later [] w = later_refl w
  drops_later (q ∷ qs) w = drop_then_later (λ v. drops qs v) w (paused w (found w)) (λ v. drops_later qs v)

  over_stay : (go : State K → State K) (w : State K) (o : Option Work) → ((v : State K) → Stay v (go v)) → Stay w (pass_over go w o)
  over_stay go w None h = stay_refl w
  over_stay go w (Some (RunEffects s)) h = stay_refl w
  over_stay go w (Some (RerunScope s)) h =
      let v : State K = record w { seen = drop_number w.seen s; skipped = join w.skipped s } in
      stay_either w w (go v) (may_rerun w s) (stay_refl w) (stay_trans w v (go v) (stay_rest w v refl refl refl) (h v))
  over_stay go w (Some (PollTask t)) h =
      let v : State K = record w { queued = drop_number w.queued t } in
      stay_either w w (go v) (may_poll w t) (stay_refl w) (stay_trans w v (go v) (stay_rest w v refl refl refl) (h v))

  passes_stay : (n : ℕ) (w : State K) → Stay w (passes n w)
  passes_stay zero w = stay_refl w
  passes_stay (suc n) w = over_stay (λ v. passes n v) w (found w) (λ v. passes_stay n v)

  tasks_stay : (n : ℕ) (w : State K) → Stay w (tasks_passed n w)
  tasks_stay zero w = stay_refl w
  tasks_stay (suc n) w = seen_or (λ v. tasks_passed n v) w (first_seen w) (λ v. tasks_stay n v)
    where
      seen_or : (go : State K → State K) (w : State K) (o : Option ℕ) → ((v : State K) → Stay v (go v)) → Stay w (elim o as (λ z. State K) [ None ↦ pass_over go w (found w) | Some s ↦ w ])
      seen_or go w None h = over_stay go w (found w) h
      seen_or go w (Some s) h = stay_refl w

  over_later : (go : State K → State K) (w : State K) (o : Option Work) → ((v : State K) → Later v (go v)) → Later w (pass_over go w o)
  over_later go w None h = later_refl w
  over_later go w (Some (RunEffects s)) h = later_refl w
  over_later go w (Some (RerunScope s)) h =
      let v : State K = record w { seen = drop_number w.seen s; skipped = join w.skipped s } in
      later_either w w (go v) (may_rerun w s) (later_refl w) (later_trans w v (go v) (later_same w v (same_rest w.next.tasks w v refl refl refl refl)) (h v))
  over_later go w (Some (PollTask t)) h =
      let v : State K = record w { queued = drop_number w.queued t } in
      later_either w w (go v) (may_poll w t) (later_refl w) (later_trans w v (go v) (queued_later w (drop_number w.queued t)) (h v))

  passes_later : (n : ℕ) (w : State K) → Later w (passes n w)
  passes_later zero w = later_refl w
  passes_later (suc n) w = over_later (λ v. passes n v) w (found w) (λ v. passes_later n v)

  tasks_later : (n : ℕ) (w : State K) → Later w (tasks_passed n w)
  tasks_later zero w = later_refl w
  tasks_later (suc n) w = seen_or (λ v. tasks_passed n v) w (first_seen w) (λ v. tasks_later n v)
    where
      seen_or : (go : State K → State K) (w : State K) (o : Option ℕ) → ((v : State K) → Later v (go v)) → Later w (elim o as (λ z. State K) [ None ↦ pass_over go w (found w) | Some s ↦ w ])
      seen_or go w None h = over_later go w (found w) h
      seen_or go w (Some s) h = later_refl w

  look_later : (w : State K) → Later w (look w)
  look_later w = later_same w (look w) (look_same w.next.tasks w)

module _ {K : Types} (app : Application K) where
  -- the commands as the meaning of a call
  abbrev pub asks : (scope : ℕ) → Aside K → Meaning K Nothing
  asks scope (Asked s next cs) = record { answer = nothing; reads = []; aside = []; commands = cs; next = next; fault = None }
  asks scope _ = record { answer = nothing; reads = []; aside = []; commands = []; next = record { tasks = 0; cells = 0; contexts = 0; elements = 0; errors = 0 }; fault = None }

module _ {K : Types} (app : Application K) (lawful : IsLawful K app) where
  pub aside_stay : (w : State K) (a : Aside K) → Allowed w a → Stay w (aside_state app w a)
  aside_stay w (Asked s next cs) h = called_stay app lawful w s None (asks app s (Asked s next cs)) h
  aside_stay w (Marked s) h = marked_stay w s
  aside_stay w AllMarked h = all_marked_stay w.scopes w
  aside_stay w Looked h = look_stay w
  aside_stay w Thinned h = drops_stay w.queued w
  aside_stay w Rested h = rest_stay w
  aside_stay w (Raised name payload element bubbles prevented) h = stay_refl w
  aside_stay w Passed h = let v : State K = look w in stay_trans w v (rendering_rest w) (look_stay w) (passes_stay (length v.seen + length v.queued) v)
  aside_stay w Polling h = let v : State K = look w in stay_trans w v (polling_rest w) (look_stay w) (tasks_stay (length v.queued) v)
  aside_stay w Answered h = stay_rest w (nothing_resolved w) refl refl refl
  aside_stay w (Advanced t) h = advanced_goes framed Stay (λ v. 0) framed_steady stay_goes app (λ f cs g. IsNumbered f cs g) (stay_calls app lawful) w t

  pub aside_later : (w : State K) (a : Aside K) → Allowed w a → Later w (aside_state app w a)
  aside_later w (Asked s next cs) h = called app lawful w s None (asks app s (Asked s next cs)) h
  aside_later w (Marked s) h = marked_later w s
  aside_later w AllMarked h = all_marked_later w.scopes w
  aside_later w Looked h = later_same w (look w) (look_same w.next.tasks w)
  aside_later w Thinned h = drops_later w.queued w
  aside_later w Rested h = rest_later w
  aside_later w (Raised name payload element bubbles prevented) h = later_refl w
  aside_later w Passed h = let v : State K = look w in later_trans w v (rendering_rest w) (look_later w) (passes_later (length v.seen + length v.queued) v)
  aside_later w Polling h = let v : State K = look w in later_trans w v (polling_rest w) (look_later w) (tasks_later (length v.queued) v)
  aside_later w Answered h = later_same w (nothing_resolved w) (same_rest w.next.tasks w (nothing_resolved w) refl refl refl refl)
  aside_later w (Advanced t) h = advanced_goes shape Later tasks_from shape_steady later_goes app (λ f cs g. IsNumbered f cs g) (later_calls app lawful) w t

  -- it changes the state alone, and forgets units and listeners
  pub record Beside (m u : Machine K) (w : State K) : Type 0 where
    pub state : u.state ≡ w
    pub work : u.work ≡ m.work
    pub built : u.built ≡ m.built
    pub unit : u.unit ≡ m.unit
    pub dead : u.dead ≡ m.dead

  beside_of : (m : Machine K) (a : Aside K) → AtRest m → m.built ≡ true → Beside m (set_aside app m a) (aside_state app m.state a)
  beside_of m (Asked s next cs) r b = record { state = refl; work = sym r.idle; built = sym b; unit = sym r.unit; dead = sym r.alive }
  beside_of m (Marked s) r b = record { state = refl; work = sym r.idle; built = sym b; unit = sym r.unit; dead = sym r.alive }
  beside_of m AllMarked r b = record { state = refl; work = sym r.idle; built = sym b; unit = sym r.unit; dead = sym r.alive }
  beside_of m Looked r b = record { state = refl; work = sym r.idle; built = sym b; unit = sym r.unit; dead = sym r.alive }
  beside_of m Thinned r b = record { state = refl; work = sym r.idle; built = sym b; unit = sym r.unit; dead = sym r.alive }
  beside_of m Rested r b = record { state = refl; work = sym r.idle; built = sym b; unit = sym r.unit; dead = sym r.alive }
  beside_of m Passed r b = record { state = refl; work = sym r.idle; built = sym b; unit = sym r.unit; dead = sym r.alive }
  beside_of m Polling r b = record { state = refl; work = sym r.idle; built = sym b; unit = sym r.unit; dead = sym r.alive }
  beside_of m Answered r b = record { state = refl; work = sym r.idle; built = sym b; unit = sym r.unit; dead = sym r.alive }
  beside_of m (Advanced t) r b = record { state = refl; work = sym r.idle; built = sym b; unit = sym r.unit; dead = sym r.alive }
  beside_of m (Raised name payload element bubbles prevented) r b = record { state = refl; work = sym r.idle; built = sym b; unit = sym r.unit; dead = sym r.alive }

  pub beside : (m u : Machine K) (a : Aside K) → IsAside app m a u → Beside m u (aside_state app m.state a)
  beside m u a h = subst (λ (x : Machine K). Beside m x (aside_state app m.state a)) (sym h.gives) (beside_of m a h.rest h.built)
