-- What a render while suspended passes over leaves all else, and what holds of a state and its open work.
use Rattle.std.proofs.Common.{ℕ, zero, suc, ◌+◌, Bool, true, false, List, ◌≡◌, ◌⊎◌, inl, inr, refl, sym, ap, ◌∙◌, subst, nat_eq, length}
use Rattle.std.specs.Prelude.{Option, Some, None, if◌then◌else◌}
use Rattle.std.proofs.lemmas.Bool.{eqb-true}
use Rattle.rt_model.specs.Lists.{at, has, drop_number, join}
use Rattle.rt_model.specs.Tree.{Types, is_suspense_boundary}
use Rattle.rt_model.specs.World.{Firsts, Source, Cell, Error, Context, Application}
use Rattle.rt_model.specs.Laws.{IsLawful}
use Rattle.rt_model.specs.State.{RowStep, Scope, LastCall, TaskRow, State, Item}
use Rattle.rt_model.specs.Next.{Work, RerunScope, PollTask, RunEffects, look, first_seen, found}
use Rattle.rt_model.specs.Rendering.{may_poll, may_rerun, pass_over, passes, rendering_rest, tasks_passed, polling_rest}
use Rattle.rt_model.specs.Lasting.{Rises}
use Rattle.rt_model.proofs.Maps.{by_test}
use Rattle.rt_model.proofs.Frames.{shape}
use Rattle.rt_model.proofs.RunFrames.{rises_refl, Later, later_trans, later_same}
use Rattle.rt_model.proofs.SideFrames.{Stay, stay_trans, stay_rest}
use Rattle.rt_model.proofs.SideRuns.{look_stay}
use Rattle.rt_model.proofs.StepFrames.{look_same}
use Rattle.rt_model.proofs.Members.{number_stays, join_keeps, join_has, number_left}
use Rattle.law_moves.proofs.Twigs.{SameTwigs}
use Rattle.law_moves.proofs.Opens.{calm_twigs}
use Rattle.law_moves.specs.Heeds.{SameOf}
use Rattle.law_moves.proofs.Calm.{Pending, quiet_calm}
use Rattle.law_moves.proofs.Looks.{look_quiet, unqueue}
use Rattle.law_moves.proofs.Owed.{rows_of, Called, BodyCurrent, OwesAs}
use Rattle.law_moves.proofs.Runs.{called_put}
use Rattle.law_moves.proofs.ChildKinds.{kind_of, kinds_same}
use Rattle.law_moves.proofs.Moving.{Holding, calm_holding}

module _ {K : Types} where
  -- a scope is passed over
  abbrev pub skip : State K → ℕ → State K
  skip w s = record w { seen = drop_number w.seen s; skipped = join w.skipped s }

  -- a task is
  abbrev pub unqueued_task : State K → ℕ → State K
  unqueued_task w t = record w { queued = drop_number w.queued t }

  -- scopes, tasks and numbers stand
  record Passing (w v : State K) : Type 0 where
    scopes : v.scopes ≡ w.scopes
    tasks : v.tasks ≡ w.tasks
    next : v.next ≡ w.next
    next_scope : v.next_scope ≡ w.next_scope

  passing_then : (u v w : State K) → Passing u v → Passing v w → Passing u w
  passing_then u v w f g = record { scopes = g.scopes ∙ f.scopes; tasks = g.tasks ∙ f.tasks; next = g.next ∙ f.next; next_scope = g.next_scope ∙ f.next_scope }

  passing_refl : (w : State K) → Passing w w
  passing_refl w = record { scopes = refl; tasks = refl; next = refl; next_scope = refl }

  passing_if : (b : Bool) (w x y : State K) → Passing w x → Passing w y → Passing w (if b then x else y)
  passing_if true w x y f g = f
  passing_if false w x y f g = g

  over_passing : (go : State K → State K) (w : State K) (o : Option Work) → ((v : State K) → Passing v (go v)) → Passing w (pass_over go w o)
  over_passing go w None h = passing_refl w
  over_passing go w (Some (RunEffects s)) h = passing_refl w
  over_passing go w (Some (RerunScope s)) h =
      passing_if (may_rerun w s) w w (go (skip w s)) (passing_refl w)
      (passing_then w (skip w s) (go (skip w s)) (record { scopes = refl; tasks = refl; next = refl; next_scope = refl }) (h (skip w s)))
  over_passing go w (Some (PollTask t)) h =
      passing_if (may_poll w t) w w (go (unqueued_task w t)) (passing_refl w)
      (passing_then w (unqueued_task w t) (go (unqueued_task w t)) (record { scopes = refl; tasks = refl; next = refl; next_scope = refl }) (h (unqueued_task w t)))

  passes_passing : (n : ℕ) (w : State K) → Passing w (passes n w)
  passes_passing zero w = passing_refl w
  passes_passing (suc n) w = over_passing (λ v. passes n v) w (found w) (λ v. passes_passing n v)

  passing_stay : (w v : State K) → Passing w v → Stay w v
  passing_stay w v f = stay_rest w v f.scopes (ap (λ (g : Firsts). g.elements) f.next) f.next_scope

  passing_later : (w v : State K) → Passing w v → Later w v
  passing_later w v f =
      record {
        shapes = λ s. ap (λ (es : List (ℕ × Scope K)). shape (at es s)) f.scopes;
        ended = λ t l e. ap (λ (ts : List (ℕ × TaskRow K)). at ts t) f.tasks ∙ e;
        rises = subst (λ (g : Firsts). Rises w.next g) (sym f.next) (rises_refl w.next);
        next_scope = f.next_scope;
      }

  pub rendering_stay : (w : State K) → Stay w (rendering_rest w)
  rendering_stay w =
      let v : State K = look w in
      let n : ℕ = length v.seen + length v.queued in
      stay_trans w v (passes n v) (look_stay w) (passing_stay v (passes n v) (passes_passing n v))

  pub rendering_later : (w : State K) → Later w (rendering_rest w)
  rendering_later w =
      let v : State K = look w in
      let n : ℕ = length v.seen + length v.queued in
      later_trans w v (passes n v) (later_same w v (look_same w.next.tasks w)) (passing_later v (passes n v) (passes_passing n v))

  -- who is pending is so still
  skip_pending : (w : State K) (s t : ℕ) → Pending w t → Pending (skip w s) t
  skip_pending w s t (inl (inl m)) = inl (inl m)
  skip_pending w s t (inl (inr m)) =
      by_test (nat_eq s t)
      (λ q. inr (subst (λ (k : ℕ). has (join w.skipped s) k ≡ true) (eqb-true s t q) (join_has w.skipped s)))
      (λ q. inl (inr (number_stays w.seen s t q m)))
  skip_pending w s t (inr m) = inr (join_keeps w.skipped s t m)

  skip_alike : (w : State K) (s : ℕ) (i : Source) → SameOf w (skip w s) i
  skip_alike w s (Cell m) = refl
  skip_alike w s (Error t) = refl
  skip_alike w s (Context k t) = refl

-- Q is known, since a scope may be passed over
module _ {K : Types} (app : Application K) (lawful : IsLawful K app) (Q : Type 0) (known : Q) where
  abbrev Holds : State K → List (Item K) → Type 0
  Holds w work = Holding app lawful Q w work

  skip_called : (w : State K) (s : ℕ) (x : Scope K) (last : LastCall K) → Called app w x last → Called app (skip w s) x last
  skip_called w s x last c = called_put app w (skip w s) x x last c refl refl refl (λ i. skip_alike w s i)

  skip_body : (w : State K) (s t : ℕ) (x : Scope K) → BodyCurrent app w t x ⊎ Pending w t → BodyCurrent app (skip w s) t x ⊎ Pending (skip w s) t
  skip_body w s t x (inl h) = inl (h.0, h.1, skip_called w s x h.0 h.2, h.3)
  skip_body w s t x (inr m) = inr (skip_pending w s t m)

  skip_owes : (w : State K) (s t : ℕ) (x : Scope K) (rows : List RowStep) (b : Bool) → OwesAs app b w rows t x → OwesAs app b (skip w s) rows t x
  skip_owes w s t x rows false h = record { steps = h.steps; owed = skip_body w s t x h.owed }
  skip_owes w s t x rows true h =
      record {
        stage = h.stage;
        shows = h.shows;
        steps = h.steps;
        unread = h.unread;
        owed =
            elim h.owed [
              | inl d ↦
                  inl
                  (record {
                    patched = d.patched;
                    held = d.held;
                    called = λ q. let f = d.called q in (f.0, f.1, skip_called w s x f.0 f.2, f.3);
                  })
              | inr m ↦ inr (skip_pending w s t m)
            ];
      }

  skip_holds : (w : State K) (s : ℕ) (work : List (Item K)) → Holds w work → Holds (skip w s) work
  skip_holds w s work h =
      record {
        owes = λ t x e. skip_owes w s t x (rows_of t work) (is_suspense_boundary x.component) (h.owes t x e);
        kinds = kinds_same w (skip w s) same (λ t. kind_of (at w.scopes t)) work h.kinds;
        orderly = record { holders = h.orderly.holders; unique = h.orderly.unique };
        scheduled = record { seen = λ t q. h.scheduled.seen t (number_left w.seen s t q).0; queued = h.scheduled.queued; passed = λ t q. known };
      }
    where
      passing : Passing w (skip w s)
      passing = record { scopes = refl; tasks = refl; next = refl; next_scope = refl }

      same : SameTwigs w (skip w s)
      same = calm_twigs w (skip w s) (passing_stay w (skip w s) passing) (passing_later w (skip w s) passing)

  unqueue_holds : (w : State K) (t : ℕ) (work : List (Item K)) → Holds w work → Holds (unqueued_task w t) work
  unqueue_holds w t work h =
      calm_holding app lawful Q w (unqueued_task w t) work (quiet_calm None w.next.cells w (unqueued_task w t) (unqueue w t))
      (calm_twigs w (unqueued_task w t) (passing_stay w (unqueued_task w t) passing) (passing_later w (unqueued_task w t) passing)) h
    where
      passing : Passing w (unqueued_task w t)
      passing = record { scopes = refl; tasks = refl; next = refl; next_scope = refl }

  holds_if : (b : Bool) (x y : State K) (work : List (Item K)) → Holds x work → Holds y work → Holds (if b then x else y) work
  holds_if true x y work f g = f
  holds_if false x y work f g = g

  over_holds : (go : State K → State K) (w : State K) (o : Option Work) (work : List (Item K)) → ((v : State K) → Holds v work → Holds (go v) work) → Holds w work → Holds (pass_over go w o) work
  over_holds go w None work f h = h
  over_holds go w (Some (RunEffects s)) work f h = h
  over_holds go w (Some (RerunScope s)) work f h = holds_if (may_rerun w s) w (go (skip w s)) work h (f (skip w s) (skip_holds w s work h))
  over_holds go w (Some (PollTask t)) work f h = holds_if (may_poll w t) w (go (unqueued_task w t)) work h (f (unqueued_task w t) (unqueue_holds w t work h))

  passes_holds : (n : ℕ) (w : State K) (work : List (Item K)) → Holds w work → Holds (passes n w) work
  passes_holds zero w work h = h
  passes_holds (suc n) w work h = over_holds (λ v. passes n v) w (found w) work (λ v g. passes_holds n v work g) h

  -- after a look, and what is passed over
  pub rendering_holds : (w : State K) (work : List (Item K)) → Holds w work → Holds (rendering_rest w) work
  rendering_holds w work h =
      let v : State K = look w in
      passes_holds (length v.seen + length v.queued) v work
      (calm_holding app lawful Q w v work (quiet_calm None w.next.cells w v (look_quiet w)) (calm_twigs w v (look_stay w) (later_same w v (look_same w.next.tasks w))) h)

  seen_or_holds : (go : State K → State K) (w : State K) (o : Option ℕ) (work : List (Item K)) → ((v : State K) → Holds v work → Holds (go v) work) → Holds w work
      → Holds (elim o as (λ z. State K) [ None ↦ pass_over go w (found w) | Some s ↦ w ]) work
  seen_or_holds go w None work f h = over_holds go w (found w) work f h
  seen_or_holds go w (Some s) work f h = h

  tasks_holds : (n : ℕ) (w : State K) (work : List (Item K)) → Holds w work → Holds (tasks_passed n w) work
  tasks_holds zero w work h = h
  tasks_holds (suc n) w work h = seen_or_holds (λ v. tasks_passed n v) w (first_seen w) work (λ v g. tasks_holds n v work g) h

  -- after a look, and the tasks that are passed over
  pub polling_holds : (w : State K) (work : List (Item K)) → Holds w work → Holds (polling_rest w) work
  polling_holds w work h =
      let v : State K = look w in
      tasks_holds (length v.queued) v work
      (calm_holding app lawful Q w v work (quiet_calm None w.next.cells w v (look_quiet w)) (calm_twigs w v (look_stay w) (later_same w v (look_same w.next.tasks w))) h)
