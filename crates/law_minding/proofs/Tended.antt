-- Calls of a program that log no entry leave a memo that they spare as it stands.
use Rattle.std.proofs.Common.{ℕ, ◌+◌, ◌<◌, true, false, List, [], ◌∷◌, ◌≡◌, ◌⊎◌, inl, inr, refl, sym, ap, ◌∙◌, subst}
use Rattle.std.specs.Prelude.{Option, Some, None, is_some}
use Rattle.rt_model.specs.Lists.{at}
use Rattle.rt_model.specs.Laws.{IsLawful}
use Rattle.rt_model.specs.Tree.{Types}
use Rattle.rt_model.specs.World.{Application}
use Rattle.rt_model.specs.State.{Scope, TaskRow, State, world_of}
use Rattle.rt_model.specs.Commands.{unqueued}
use Rattle.rt_model.specs.Replay.{Poll, Input, Machine}
use Rattle.rt_model.specs.Asides.{Aside, Asked, Marked, AllMarked, Looked, Thinned, Rested, Raised, Passed, Polling, Answered, Advanced, aside_state}
use Rattle.rt_model.specs.Asides as asides
use Rattle.rt_model.specs.Causes.{Limits}
use Rattle.rt_model.proofs.Frames.{shape}
use Rattle.rt_model.proofs.RunFrames.{Later}
use Rattle.law_moves.specs.Asides.{IsAside}
use Rattle.law_moves.specs.Moves.{Logged}
use Rattle.law_moves.specs.Reached.{Part, ByMoves, ByAside, Comes, Reached}
use Rattle.law_moves.proofs.Asides.{aside_later, beside}
use Rattle.law_moves.proofs.Ways.{reached_moved, reached_aside}
use Rattle.law_headline.proofs.Trees.{reached_are_trees}
use Rattle.law_behavior.specs.Deeds.{poll_deeds}
use Rattle.law_behavior.specs.Owed.{WakesArePolled}
use Rattle.author_formulas.specs.Looking.{StandAlike}
use Rattle.author_formulas.specs.Formulas.{Formulas, FormulasLook}
use Rattle.author_formulas.specs.Memos.{MemoTask, fresh, PollsMemos}
use Rattle.law_minding.specs.Held.{Since, next_poll_world, after_poll, held_to, IsKept}
use Rattle.law_minding.specs.Tended.{AsideSpares, HeldThrough, held_through, TendedAreKept}
use Rattle.law_minding.proofs.Minding.{alike_then}
use Rattle.law_minding.proofs.Since.{Here, Minded}
use Rattle.law_minding.proofs.Moved.{AsideLeaves, aside_minds}
use Rattle.law_minding.proofs.Numbers.{numbered_new, poll_new}
use Rattle.law_minding.proofs.Rested.{alive_before}
use Rattle.law_minding.proofs.Holding.{Stage}
use Rattle.law_minding.proofs.Along.{onward, all_leave, deeds_leave, stands_on, stage_keeps, first_stands}
use Rattle.law_minding.proofs.Ways.{lasting_alike}
use Rattle.law_minding.proofs.Level.{Level, level_on, first_level}

module _ {K : Types} (app : Application K) (lawful : IsLawful K app) (limits : Limits) where
  -- where a runtime is alive at the end it was so all along
  alive_through : (m v : Machine K) (parts : List (Part K)) → Comes app limits m parts v → v.dead ≡ None → m.dead ≡ None
  alive_through m v [] comes alive = sym (ap (λ (z : Machine K). z.dead) comes) ∙ alive
  alive_through m v (ByMoves moves ∷ parts) comes alive = alive_before app limits m comes.0 moves comes.1 (alive_through comes.0 v parts comes.2 alive)
  alive_through m v (ByAside x ∷ parts) comes alive = sym (beside app lawful m comes.0 x comes.1).dead ∙ alive_through comes.0 v parts comes.2 alive

module _
    {K : Types} {F : Type 0} (a : Formulas K F) (app : Application K) (state : MemoTask K.Value F → K.TaskState)
    (lawful : IsLawful K app) (looks : FormulasLook a) (polls : PollsMemos a app state) (limits : Limits) (t cell scope owner : ℕ) where
  -- one such call
  module _ (h : Since K F) (m u : Machine K) (x : Aside K) (call : IsAside app m x u) where
    is_state : u.state ≡ aside_state app m.state x
    is_state = (beside app lawful m u x call).state

    later : Later m.state u.state
    later = subst (λ (z : State K). Later m.state z) (sym is_state) (aside_later app lawful m.state x call.allowed)

    stage_aside : AsideSpares app m.state t h.place x → Stage a state t cell scope owner h m → Stage a state t cell scope owner h u
    stage_aside spares stage =
        onward a app state lawful looks polls limits t cell scope owner h m u stage later.rises
        (subst
        (λ (z : State K). Minded h.last t stage.context cell scope stage.held (state h.place) true stage.reads stage.target stage.home z)
        (sym is_state)
        (aside_minds h.last t stage.context cell scope stage.held (state h.place) true stage.reads stage.target stage.home app lawful.tests_values lawful
        m.state x call.allowed (leaves x call.allowed spares) stage.minded))
      where
        leaves : (y : Aside K) → asides.Allowed m.state y → AsideSpares app m.state t h.place y
            → AsideLeaves h.last t stage.context cell scope stage.held (state h.place) true stage.reads stage.target stage.home app lawful.tests_values lawful m.state y
        leaves (Asked s firsts cs) numbers spared =
            all_leave a app state lawful looks polls limits t cell scope owner h m u stage cs spared
            (numbered_new h.last.given.next.cells (stage.context + 1) m.state.next cs firsts numbers (stage.drawn, stage.numbered))
        leaves (Advanced n) numbers spared = (
          spared.0,
          deeds_leave a app state lawful looks polls limits t cell scope owner h m u stage (poll_deeds app (unqueued m.state n) n (at m.state.tasks n)) spared.1
              (poll_new h.last.given.next.cells (stage.context + 1) app lawful (unqueued m.state n) n (at m.state.tasks n) (stage.drawn, stage.numbered)),
        )
        leaves Passed numbers spared = spared
        leaves Polling numbers spared = spared
        leaves (Marked s) numbers spared = tt
        leaves AllMarked numbers spared = tt
        leaves Looked numbers spared = tt
        leaves Thinned numbers spared = tt
        leaves Rested numbers spared = tt
        leaves (Raised name payload element bubbles prevented) numbers spared = tt
        leaves Answered numbers spared = tt

    -- the scopes above are those of before
    level_aside : (props : K.Props) (inputs : List (Input K)) → Reached app limits props inputs m → m.dead ≡ None → Level a app lawful limits t scope h m
        → Level a app lawful limits t scope h u
    level_aside props inputs reached living level =
        record {
          drawn = subst (λ (n : ℕ). scope < n) (sym later.next_scope) level.drawn;
          alike =
              λ live.
              let now = row_of (at u.state.scopes scope) live in
              let then_row = same_row scope now.0 now.1 in
              alike_then h.last (world_of m.state scope (Some t) false) (world_of u.state scope (Some t) false)
              (level.alike (ap (λ (o : Option (Scope K)). is_some o) then_row.1))
              (lasting_alike m.state u.state (reached_are_trees app lawful limits props inputs m reached living)
              (reached_are_trees app lawful limits props inputs u (reached_aside app limits props inputs m u x reached call) alive)
              lasts t scope then_row.0 now.0 then_row.1 now.1);
        }
      where
        alive : u.dead ≡ None
        alive = (beside app lawful m u x call).dead ∙ living

        row_of : (o : Option (Scope K)) → is_some o ≡ true → (y : Scope K) × (o ≡ Some y)
        row_of None live = cc
        row_of (Some y) live = (y, refl)

        shaped : (o p : Option (Scope K)) (y : Scope K) → p ≡ Some y → shape p ≡ shape o → (z : Scope K) × (o ≡ Some z)
        shaped None p y e same = let absurdity : Some (y.parent, y.height) ≡ None = sym (ap (λ (q : Option (Scope K)). shape q) e) ∙ same in cc
        shaped (Some z) p y e same = (z, refl)

        same_row : (r : ℕ) (y : Scope K) → at u.state.scopes r ≡ Some y → (z : Scope K) × (at m.state.scopes r ≡ Some z)
        same_row r y there = shaped (at m.state.scopes r) (at u.state.scopes r) y there (later.shapes r)

        lasts : (r : ℕ) (y z : Scope K) → at m.state.scopes r ≡ Some y → at u.state.scopes r ≡ Some z → (z.parent ≡ y.parent) × (z.height ≡ y.height)
        lasts r y z here there =
            let same : Some (z.parent, z.height) ≡ Some (y.parent, y.height) =
            sym (ap (λ (q : Option (Scope K)). shape q) there) ∙ later.shapes r ∙ ap (λ (q : Option (Scope K)). shape q) here in
            let pairs : (z.parent, z.height) ≡ (y.parent, y.height) = cc in
            (ap (λ (q : Option ℕ × ℕ). q.0) pairs, ap (λ (q : Option ℕ × ℕ). q.1) pairs)

  -- where the task stands, and the scopes above it, at a machine that was reached
  record Tended (props : K.Props) (inputs : List (Input K)) (h : Since K F) (m : Machine K) : Type 0 where
    reached : Reached app limits props inputs m
    stage : Stage a state t cell scope owner h m
    level : Level a app lawful limits t scope h m

  all_tended : (props : K.Props) (inputs : List (Input K)) (h : Since K F) (m v : Machine K) (parts : List (Part K)) (comes : Comes app limits m parts v)
      → HeldThrough a app limits t scope owner h m v parts comes
      → v.dead ≡ None
      → Tended props inputs h m
      → Tended props inputs (held_through a app limits t scope h m v parts comes) v
  all_tended props inputs h m v [] comes held alive tended = subst (λ (z : Machine K). Tended props inputs h z) (sym comes) tended
  all_tended props inputs h m v (ByMoves moves ∷ parts) comes held alive tended =
      let u : Machine K = comes.0 in
      let living : u.dead ≡ None = alive_through app lawful limits u v parts comes.2 alive in
      all_tended props inputs (held_to a app limits t scope h m u moves comes.1) u v parts comes.2 held.1 alive
      (record {
        reached = reached_moved app limits props inputs m u moves tended.reached comes.1;
        stage = stands_on a app state lawful looks polls limits t cell scope owner h m u moves comes.1 held.0 living tended.stage;
        level = level_on a app lawful limits t scope props inputs h m u moves comes.1 tended.reached living tended.level;
      })
  all_tended props inputs h m v (ByAside x ∷ parts) comes held alive tended =
      let u : Machine K = comes.0 in
      let living : m.dead ≡ None = alive_through app lawful limits m v (ByAside x ∷ parts) comes alive in
      all_tended props inputs h u v parts comes.2 held.1 alive
      (record {
        reached = reached_aside app limits props inputs m u x tended.reached comes.1;
        stage = stage_aside h m u x comes.1 held.0 tended.stage;
        level = level_aside h m u x comes.1 props inputs tended.reached living tended.level;
      })

pub tended_are_kept : {K : Types} {F : Type 0} (a : Formulas K F) (app : Application K) (state : MemoTask K.Value F → K.TaskState)
    → WakesArePolled app
    → TendedAreKept a app state
tended_are_kept {K = K} {F = F} a app state woken lawful looks polls limits props inputs m u v moves parts t cell scope owner f loads leads comes reached start home free held through alive none active task there =
    by (end.stage.minded).stands
  where
    first : Since K F
    first = after_poll a (next_poll_world m t scope) t (fresh cell f loads)

    then_on : Since K F
    then_on = held_to a app limits t scope first leads.0 u moves leads.2

    h : Since K F
    h = held_through a app limits t scope then_on u v parts comes

    living : u.dead ≡ None
    living = alive_through app lawful limits u v parts comes alive

    end : Tended a app state lawful looks polls limits t cell scope owner props inputs h v
    end =
        all_tended a app state lawful looks polls limits t cell scope owner props inputs then_on u v parts comes through alive
        (record {
          reached = reached_moved app limits props inputs m u (Logged (Poll t) ∷ moves) reached leads;
          stage =
              stands_on a app state lawful looks polls limits t cell scope owner first leads.0 u moves leads.2 held living
              (first_stands a app state lawful looks polls limits t cell scope owner m u moves leads f loads start home free living);
          level = first_level a app lawful limits t scope props inputs m u moves leads reached living home (fresh cell f loads);
        })

    by : (at v.state.tasks t ≡ None)
        ⊎ Here h.last t end.stage.context cell scope end.stage.held (state h.place) true end.stage.reads end.stage.target end.stage.home v.state
        → IsKept a v.state t task h
    by (inl gone) = let absurdity : None ≡ Some task = sym gone ∙ there in cc
    by (inr here) =
        let found : Some here.row ≡ Some task = sym here.is ∙ there in
        let same : here.row ≡ task = cc in
        let scope_is : task.scope ≡ scope = ap (λ (y : TaskRow K). y.scope) (sym same) ∙ here.scope_is in
        stage_keeps a app state lawful looks polls limits t cell scope owner h v end.stage woken alive none active task there
        (subst (λ (s : ℕ). StandAlike h.last (world_of v.state s (Some t) false)) (sym scope_is) (end.level.alike here.lives))
