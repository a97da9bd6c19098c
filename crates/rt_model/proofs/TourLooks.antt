-- The tour goes on: looks, ends of tasks, what a removal tells, suspensions, mounts.
use Rattle.std.proofs.Common.{ℕ, Bool, true, false, List, [], ◌∷◌, ◌++◌, ◌≡◌, ◌+◌, ◌||◌, refl, sym, ap, ◌∙◌, nat_eq}
use Rattle.std.specs.Prelude.{Option, Some, None, if◌then◌else◌, is_some}
use Rattle.rt_model.specs.Lists.{at, put, drop_number, join}
use Rattle.rt_model.specs.Tree.{Types}
use Rattle.rt_model.specs.World.{Source, Error}
use Rattle.rt_model.specs.State.{SideName, MainSide, ChildrenSide, FallbackSide, Posted, Mark, Woken, SuspendedTask, Scope, TaskRow, State, is_live, change, is_shown, location, holds}
use Rattle.rt_model.specs.Commands.{post, tell, end}
use Rattle.rt_model.specs.Next.{Work, look_on, look, found, paused, drop_then, drops, looked, at_rest}
use Rattle.rt_model.specs.Run.{joins, unmarked, called_once}
use Rattle.rt_model.specs.Removal.{tasks_in, end_all, tell_all, cells_in, cell_sources, read_contexts, without_scope, gone, stopped}
use Rattle.rt_model.specs.Replay.{mounted, mounted_state}
use Rattle.rt_model.proofs.Maps.{by_test, at_here, at_there}
use Rattle.rt_model.proofs.Tour.{Steady, Kept, kept_refl, kept_trans, kept_rest, kept_either, change_kept, post_kept, tell_kept, end_kept, task_kept}

module _ {K : Types} {A : Type 0} (sees : Option (Scope K) → A) where
  -- marks go
  pub unmarked_kept : (b : ℕ) (w : State K) (s : ℕ) → Kept sees b w (unmarked w s)
  unmarked_kept b w s = kept_rest sees b w (unmarked w s) refl refl refl refl

  -- a call is counted
  pub once_kept : (b : ℕ) (w : State K) → Kept sees b w (called_once w)
  once_kept b w = kept_rest sees b w (called_once w) refl refl refl refl

  look_on_kept : (b : ℕ) (ps : List Posted) (w : State K) → Kept sees b w (look_on ps w)
  look_on_kept b [] w = kept_refl sees b w
  look_on_kept b (Mark s ∷ ps) w =
      let u : State K = record w { seen = join w.seen s } in
      let v : State K = if is_live w s then u else w in
      kept_trans sees b w v (look_on ps v) (kept_either sees b w u w (is_live w s) (kept_rest sees b w u refl refl refl refl) (kept_refl sees b w)) (look_on_kept b ps v)
  look_on_kept b (Woken t ∷ ps) w =
      let u : State K = record w { queued = join w.queued t } in
      let v : State K = if is_some (at w.tasks t) then u else w in
      kept_trans sees b w v (look_on ps v) (kept_either sees b w u w (is_some (at w.tasks t)) (kept_rest sees b w u refl refl refl refl) (kept_refl sees b w)) (look_on_kept b ps v)

  -- a look
  pub look_kept : (b : ℕ) (w : State K) → Kept sees b w (look w)
  look_kept b w =
      let v : State K = record w { posted = [] } in
      kept_trans sees b w v (look_on w.posted v) (kept_rest sees b w v refl refl refl refl) (look_on_kept b w.posted v)

  drop_then_kept : (b : ℕ) (go : State K → State K) (w : State K) (o : Option ℕ) → ((v : State K) → Kept sees b v (go v)) → Kept sees b w (drop_then go w o)
  drop_then_kept b go w None g = kept_refl sees b w
  drop_then_kept b go w (Some t) g =
      let v : State K = record w { queued = drop_number w.queued t } in
      kept_trans sees b w v (go v) (kept_rest sees b w v refl refl refl refl) (g v)

  -- paused tasks are dropped
  pub drops_kept : (b : ℕ) (qs : List ℕ) (w : State K) → Kept sees b w (drops qs w)
  drops_kept b [] w = kept_refl sees b w
  drops_kept b (q ∷ qs) w = drop_then_kept b (λ v. drops qs v) w (paused w (found w)) (λ v. drops_kept b qs v)

  looked_kept : (b : ℕ) (w : State K) (o : Option Work) → Kept sees b w (looked w o)
  looked_kept b w (Some x) = kept_refl sees b w
  looked_kept b w None =
      kept_trans sees b w (look w) (drops (look w).queued (look w)) (look_kept b w) (drops_kept b (look w).queued (look w))

  -- so comes a state to rest
  pub rest_kept : (b : ℕ) (w : State K) → Kept sees b w (at_rest w)
  rest_kept b w =
      let v : State K = drops w.queued w in
      kept_trans sees b w v (looked v (found v)) (drops_kept b w.queued w) (looked_kept b v (found v))

  tell_all_kept : (b : ℕ) (w : State K) (xs : List Source) → Kept sees b w (tell_all w xs)
  tell_all_kept b w [] = kept_refl sees b w
  tell_all_kept b w (x ∷ xs) = kept_trans sees b w (tell w x) (tell_all (tell w x) xs) (tell_kept sees b w x) (tell_all_kept b (tell w x) xs)

  -- what a scope owned is told after its record went
  pub gone_kept : (b : ℕ) (w : State K) (s : ℕ) → Kept sees b (without_scope w s) (gone w s)
  gone_kept b w s =
      let u : State K = without_scope w s in
      let v : State K = tell_all u (cell_sources (cells_in s w.cells)) in
      kept_trans sees b u v (gone w s) (tell_all_kept b u (cell_sources (cells_in s w.cells))) (tell_all_kept b v (Error s ∷ read_contexts v s))

  module _ (steady : Steady sees) where
    end_all_kept : (b : ℕ) (w : State K) (ts : List ℕ) → Kept sees b w (end_all w ts)
    end_all_kept b w [] = kept_refl sees b w
    end_all_kept b w (t ∷ ts) = kept_trans sees b w (end w t) (end_all (end w t) ts) (end_kept sees steady b w t) (end_all_kept b (end w t) ts)

    -- a scope stops
    pub stopped_kept : (b : ℕ) (w : State K) (s : ℕ) → Kept sees b w (stopped w s)
    stopped_kept b w s =
        let v : State K = end_all w (tasks_in s w.tasks) in
        kept_trans sees b w v (stopped w s) (end_all_kept b w (tasks_in s w.tasks))
        (kept_trans sees b v (unmarked v s) (stopped w s) (unmarked_kept b v s)
        (change_kept sees b (unmarked v s) s (λ x. record x { effects = [] }) (λ x. steady.effects x [])))

    held_kept : (b : ℕ) (w : State K) (origin t holder : ℕ) (c : Bool)
        → Kept sees b w (if c then w else post (change w holder (λ y. record y { holders = y.holders ++ (t, origin) ∷ [] })) (Mark holder))
    held_kept b w origin t holder true = kept_refl sees b w
    held_kept b w origin t holder false =
        let h : State K = change w holder (λ y. record y { holders = y.holders ++ (t, origin) ∷ [] }) in
        kept_trans sees b w h (post h (Mark holder))
        (change_kept sees b w holder (λ y. record y { holders = y.holders ++ (t, origin) ∷ [] }) (λ y. steady.holders y (y.holders ++ (t, origin) ∷ [])))
        (post_kept sees b h (Mark holder))

    joined_kept : (b : ℕ) (w : State K) (origin t holder : ℕ) (o : Option (Scope K)) → Kept sees b w (elim o [
      | None ↦ w
      | Some x ↦ if holds x t then w else post (change w holder (λ y. record y { holders = y.holders ++ (t, origin) ∷ [] })) (Mark holder)
    ])
    joined_kept b w origin t holder None = kept_refl sees b w
    joined_kept b w origin t holder (Some x) = held_kept b w origin t holder (holds x t)

    joins_kept : (b : ℕ) (w : State K) (origin t : ℕ) (o : Option (ℕ × SideName)) → Kept sees b w (joins w origin t o)
    joins_kept b w origin t None = kept_refl sees b w
    joins_kept b w origin t (Some (holder, MainSide)) = kept_refl sees b w
    joins_kept b w origin t (Some (holder, FallbackSide)) = kept_refl sees b w
    joins_kept b w origin t (Some (holder, ChildrenSide)) = joined_kept b w origin t holder (at w.scopes holder)

    -- a task suspends the scope s
    pub suspended_kept : (b : ℕ) (w : State K) (s origin t : ℕ) (x : TaskRow K) → at w.tasks t ≡ Some x
        → Kept sees b w (joins (record w { tasks = put w.tasks t (record x { kind = SuspendedTask }) }) origin t (location w s))
    suspended_kept b w s origin t x live =
        let v : State K = record w { tasks = put w.tasks t (record x { kind = SuspendedTask }) } in
        kept_trans sees b w v (joins v origin t (location w s)) (task_kept sees steady b w t x (record x { kind = SuspendedTask }) live) (joins_kept b v origin t (location w s))

    mounted_sees : (w : State K) (es : List (ℕ × Scope K)) (s : ℕ) → sees (at (mounted w es) s) ≡ sees (at es s)
    mounted_sees w [] s = refl
    mounted_sees w (e ∷ es) s =
        by_test (nat_eq e.0 s)
        (
        λ q.
        ap (λ (o : Option (Scope K)). sees o) (at_here e.0 (record (e.1) { mounted = (e.1).mounted || is_shown w e.0 }) (mounted w es) s q)
        ∙ steady.mounted (e.1) ((e.1).mounted || is_shown w e.0)
        ∙ sym (ap (λ (o : Option (Scope K)). sees o) (at_here e.0 e.1 es s q))
        )
        (
        λ q.
        ap (λ (o : Option (Scope K)). sees o) (at_there e.0 (record (e.1) { mounted = (e.1).mounted || is_shown w e.0 }) (mounted w es) s q)
        ∙ mounted_sees w es s
        ∙ sym (ap (λ (o : Option (Scope K)). sees o) (at_there e.0 e.1 es s q))
        )

    -- shown scopes become mounted
    pub mounted_kept : (b : ℕ) (w : State K) → Kept sees b w (mounted_state w)
    mounted_kept b w = record { seen = mounted_sees w w.scopes; ended = λ t l e. e; next = refl; next_scope = refl }
