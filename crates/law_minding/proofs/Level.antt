-- The scopes above a task are those of its last poll, all along.
use Rattle.std.proofs.Common.{ℕ, ◌+◌, ◌<◌, true, false, List, [], ◌∷◌, length, ◌≡◌, inl, inr, refl, sym, ap, ◌∙◌, subst, arith}
use Rattle.std.specs.Prelude.{Option, Some, None, ◌⊎◌, is_some}
use Rattle.rt_model.specs.Lists.{at}
use Rattle.rt_model.specs.Laws.{IsLawful}
use Rattle.rt_model.specs.Tree.{Types}
use Rattle.rt_model.specs.World.{Application}
use Rattle.rt_model.specs.State.{Scope, TaskRow, State, parents_of, world_of}
use Rattle.rt_model.specs.Replay.{Poll, Input, Machine}
use Rattle.rt_model.specs.Causes.{Limits}
use Rattle.rt_model.proofs.Maps.{by_test, pick_true, pick_false}
use Rattle.rt_model.proofs.Members.{clash}
use Rattle.rt_model.proofs.MachineFrames.{by_order}
use Rattle.law_moves.specs.Moves.{Move, Logged, Moves, Leads}
use Rattle.law_moves.specs.Reached.{Reached}
use Rattle.law_moves.proofs.Ways.{reached_moved}
use Rattle.law_moves.proofs.Woods.{reached_sound}
use Rattle.law_behavior.specs.Owed.{WakesArePolled}
use Rattle.author_formulas.specs.Looking.{StandAlike, way_up}
use Rattle.author_formulas.specs.Formulas.{Formulas}
use Rattle.author_formulas.specs.Memos.{MemoTask, fresh}
use Rattle.law_minding.specs.Held.{Since, move_polls, next_poll_world, after_poll, after_move, held_to, IsKept, HeldAreKept}
use Rattle.law_minding.proofs.Minding.{alike_then}
use Rattle.law_minding.proofs.Since.{Here}
use Rattle.law_minding.proofs.Numbers.{move_follows}
use Rattle.law_minding.proofs.Rested.{rest_leaves, alive_before}
use Rattle.law_minding.proofs.Holding.{Stage}
use Rattle.law_minding.proofs.Along.{stands_on, stage_keeps, first_stands}
use Rattle.law_minding.proofs.Ways.{move_alike}

module _ {K : Types} {F : Type 0} (a : Formulas K F) (app : Application K) (lawful : IsLawful K app) (limits : Limits) (t scope : ℕ) where
  -- the scope's number was drawn, and as long as it is live the scopes above it are those of the last poll
  pub record Level (h : Since K F) (m : Machine K) : Type 0 where
    pub drawn : scope < m.state.next_scope
    pub alike : is_some (at m.state.scopes scope) ≡ true → StandAlike h.last (world_of m.state scope (Some t) false)

  -- from a machine to the next one
  module _ (props : K.Props) (inputs : List (Input K)) (m u : Machine K) (move : Move) (step : Moves app limits m move u)
      (reached : Reached app limits props inputs m) (living : m.dead ≡ None) (alive : u.dead ≡ None) (low : scope < m.state.next_scope) where
    after : Reached app limits props inputs u
    after = reached_moved app limits props inputs m u (move ∷ []) reached (u, step, refl)

    -- who is live after it was live before
    was_live : is_some (at u.state.scopes scope) ≡ true → (x : Scope K) × (at m.state.scopes scope ≡ Some x)
    was_live live = by (at m.state.scopes scope) refl
      where
        by : (o : Option (Scope K)) → at m.state.scopes scope ≡ o → (x : Scope K) × (at m.state.scopes scope ≡ Some x)
        by None e =
            clash live (ap (λ (o : Option (Scope K)). is_some o) ((move_follows app lawful limits m u move step).gone scope low e))
        by (Some x) e = (x, e)

    row_of : (o : Option (Scope K)) → is_some o ≡ true → (y : Scope K) × (o ≡ Some y)
    row_of None live = cc
    row_of (Some y) live = (y, refl)

    still_drawn : scope < u.state.next_scope
    still_drawn = omega (arith, low, (move_follows app lawful limits m u move step).next_scope)

    -- the two worlds are alike
    both_alike : is_some (at u.state.scopes scope) ≡ true → StandAlike (world_of m.state scope (Some t) false) (world_of u.state scope (Some t) false)
    both_alike live =
        let before = was_live live in
        let now = row_of (at u.state.scopes scope) live in
        move_alike app lawful limits m u move step alive props inputs reached living after t scope before.0 now.0 before.1 now.1

    -- after another move
    goes_on : (h : Since K F) → (is_some (at m.state.scopes scope) ≡ true → StandAlike h.last (world_of m.state scope (Some t) false)) → Level h u
    goes_on h alike =
        record {
          drawn = still_drawn;
          alike =
              λ live.
              alike_then h.last (world_of m.state scope (Some t) false) (world_of u.state scope (Some t) false)
              (alike (ap (λ (o : Option (Scope K)). is_some o) (was_live live).1)) (both_alike live);
        }

    -- the world of a poll is alike with the state before it
    rested_alike : StandAlike (next_poll_world m t scope) (world_of m.state scope (Some t) false)
    rested_alike =
        record {
          scope = refl;
          way =
              ap (λ (es : List (ℕ × Scope K)). way_up (parents_of es) (length (parents_of es) + 1) scope)
              (ap (λ (z : State K). z.scopes) (rest_leaves m.state));
        }

    -- after a poll
    pub begins : (x : MemoTask K.Value F) → Level (after_poll a (next_poll_world m t scope) t x) u
    begins x = goes_on (after_poll a (next_poll_world m t scope) t x) (λ live. rested_alike)

    pub level_next : (h : Since K F) → Level h m → Level (after_move a m t scope move h) u
    level_next h level =
        by_test (move_polls t move)
        (
        λ q.
        subst (λ (z : Since K F). Level z u) (sym (pick_true (after_poll a (next_poll_world m t scope) t h.place) h q)) (begins h.place)
        )
        (
        λ q. subst (λ (z : Since K F). Level z u) (sym (pick_false (after_poll a (next_poll_world m t scope) t h.place) h q)) (goes_on h level.alike)
        )

  pub level_on : (props : K.Props) (inputs : List (Input K)) (h : Since K F) (m v : Machine K) (moves : List Move) (leads : Leads app limits m moves v)
      → Reached app limits props inputs m
      → v.dead ≡ None
      → Level h m
      → Level (held_to a app limits t scope h m v moves leads) v
  level_on props inputs h m v [] leads reached alive level = subst (λ (z : Machine K). Level h z) (sym leads) level
  level_on props inputs h m v (move ∷ moves) leads reached alive level =
      let u : Machine K = leads.0 in
      let living : m.dead ≡ None = alive_before app limits m v (move ∷ moves) leads alive in
      let lives : u.dead ≡ None = alive_before app limits u v moves leads.2 alive in
      level_on props inputs (after_move a m t scope move h) u v moves leads.2
      (after props inputs m u move leads.1 reached living lives level.drawn)
      alive
      (level_next props inputs m u move leads.1 reached living lives level.drawn h level)

-- after the first poll and the moves behind it
pub first_level : {K : Types} {F : Type 0} (a : Formulas K F) (app : Application K) (lawful : IsLawful K app) (limits : Limits) (t scope : ℕ)
    → (props : K.Props) (inputs : List (Input K)) (m v : Machine K) (moves : List Move) (leads : Leads app limits m (Logged (Poll t) ∷ moves) v)
    → Reached app limits props inputs m
    → v.dead ≡ None
    → is_some (at m.state.scopes scope) ≡ true
    → (x : MemoTask K.Value F)
    → Level a app lawful limits t scope (held_to a app limits t scope (after_poll a (next_poll_world m t scope) t x) leads.0 v moves leads.2) v
first_level {K = K} a app lawful limits t scope props inputs m v moves leads reached alive home x =
    level_on a app lawful limits t scope props inputs (after_poll a (next_poll_world m t scope) t x) leads.0 v moves leads.2
    (after a app lawful limits t scope props inputs m leads.0 (Logged (Poll t)) leads.1 reached living lives low)
    alive
    (begins a app lawful limits t scope props inputs m leads.0 (Logged (Poll t)) leads.1 reached living lives low x)
  where
    living : m.dead ≡ None
    living = alive_before app limits m v (Logged (Poll t) ∷ moves) leads alive

    lives : (leads.0).dead ≡ None
    lives = alive_before app limits leads.0 v moves leads.2 alive

    low : scope < m.state.next_scope
    low =
        by_order scope m.state.next_scope (λ q. q)
        (
        λ q.
        let none : at m.state.scopes scope ≡ None = (reached_sound app lawful limits props inputs m reached).rooted.drawn scope q in
        clash home (ap (λ (o : Option (Scope K)). is_some o) none)
        )

pub held_are_kept : {K : Types} {F : Type 0} (a : Formulas K F) (app : Application K) (state : MemoTask K.Value F → K.TaskState)
    → WakesArePolled app
    → HeldAreKept a app state
held_are_kept {K = K} {F = F} a app state woken lawful looks polls limits props inputs m v moves t cell scope owner f loads leads reached start home free held alive none active task there =
    by (stage.minded).stands
  where
    first : Since K F
    first = after_poll a (next_poll_world m t scope) t (fresh cell f loads)

    h : Since K F
    h = held_to a app limits t scope first leads.0 v moves leads.2

    stage : Stage a state t cell scope owner h v
    stage =
        stands_on a app state lawful looks polls limits t cell scope owner first leads.0 v moves leads.2 held alive
        (first_stands a app state lawful looks polls limits t cell scope owner m v moves leads f loads start home free alive)

    level : Level a app lawful limits t scope h v
    level = first_level a app lawful limits t scope props inputs m v moves leads reached alive home (fresh cell f loads)

    by : (at v.state.tasks t ≡ None)
        ⊎ Here h.last t stage.context cell scope stage.held (state h.place) true stage.reads stage.target stage.home v.state
        → IsKept a v.state t task h
    by (inl gone) = let absurdity : None ≡ Some task = sym gone ∙ there in cc
    by (inr here) =
        let found : Some here.row ≡ Some task = sym here.is ∙ there in
        let same : here.row ≡ task = cc in
        let scope_is : task.scope ≡ scope = ap (λ (x : TaskRow K). x.scope) (sym same) ∙ here.scope_is in
        stage_keeps a app state lawful looks polls limits t cell scope owner h v stage woken alive none active task there
        (subst (λ (s : ℕ). StandAlike h.last (world_of v.state s (Some t) false)) (sym scope_is) (level.alike here.lives))
