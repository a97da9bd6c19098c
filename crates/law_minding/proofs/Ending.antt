-- A task ends at the removal of its scope.
use Rattle.std.proofs.Common.{ℕ, ◌+◌, ◌≤◌, ◌<◌, Bool, true, false, List, [], ◌∷◌, ◌++◌, ◌≡◌, inl, inr, refl, sym, ap, ◌∙◌, subst, nat_eq, arith}
use Rattle.std.specs.Prelude.{Option, Some, None, ◌⊎◌, is_some, if◌then◌else◌}
use Rattle.std.proofs.lemmas.Bool.{eqb-true}
use Rattle.rt_model.specs.Lists.{at, without, has, drop_number}
use Rattle.rt_model.specs.Laws.{IsNumbered, IsLawful}
use Rattle.rt_model.specs.Tree.{Types}
use Rattle.rt_model.specs.World.{CallFault, Command, Meaning, Nothing, Application}
use Rattle.rt_model.specs.State.{SideName, Woken, Fault, Scope, TaskRow, State, Item, Draw, Row, Feed, Make, Drop, Outcome, Done, Cut, is_live, changed_scope, change, hooks_of, world_of}
use Rattle.rt_model.specs.Commands.{drop_posted, holding, released, end, commands}
use Rattle.rt_model.specs.Next.{Work, RerunScope, PollTask, RunEffects, next}
use Rattle.rt_model.specs.Run.{fault_of, with_next, called_once, unmarked}
use Rattle.rt_model.specs.Removal.{tasks_in, end_all, clean_ups, gone, stopped, cleaned, removed}
use Rattle.rt_model.specs.Heard.{Listener}
use Rattle.rt_model.specs.Replay.{Entry, Build, Taken, Heard, Rerun, Poll, Effects, Made, Fed, Kept, Removed, Input, Machine, ended_by, if_live, waiting, fed_child, keeps, due_work, due_heard, due_item, change_by}
use Rattle.rt_model.specs.Causes.{Limits}
use Rattle.rt_model.proofs.Maps.{by_test, at_here, at_there, at_without_here, at_without_none}
use Rattle.rt_model.proofs.Members.{clash, or_left, or_right, by_either}
use Rattle.rt_model.proofs.Tour.{AllFresh}
use Rattle.rt_model.proofs.TourCalls.{state_of}
use Rattle.rt_model.proofs.Frames.{commands_same}
use Rattle.rt_model.proofs.RunFrames.{numbered_rises, fresh}
use Rattle.rt_model.proofs.StepFrames.{IsGone, gone_same, stopped_later, removed_gone}
use Rattle.law_moves.specs.Moves.{Logged, Moves}
use Rattle.law_moves.proofs.Insides.{live_due, made_due, fed_due}
use Rattle.law_behavior.proofs.Calling.{fresh_both}

module _ {K : Types} (t : ℕ) where
  -- the task isn't there
  abbrev Gone : State K → Type 0
  Gone w = at w.tasks t ≡ None

  end_none : (w : State K) (u : ℕ) → (nat_eq u t ≡ true) ⊎ Gone w → Gone (end w u)
  end_none w u h = by (is_some (at w.tasks u)) refl h
    where
      v : State K
      v = record w { tasks = without w.tasks u; posted = drop_posted w.posted (Woken u) ++ holding w.scopes u; queued = drop_number w.queued u; scopes = released w.scopes u }

      none_of : (o : Option (TaskRow K)) → is_some o ≡ false → o ≡ None
      none_of None e = refl
      none_of (Some x) e = cc

      by : (b : Bool) → is_some (at w.tasks u) ≡ b → (nat_eq u t ≡ true) ⊎ Gone w → Gone (if b then v else w)
      by true e (inl q) = at_without_here w.tasks u t q
      by true e (inr g) = at_without_none w.tasks u t g
      by false e (inl q) = subst (λ (n : ℕ). at w.tasks n ≡ None) (eqb-true u t q) (none_of (at w.tasks u) e)
      by false e (inr g) = g

  ended_all : (ts : List ℕ) (w : State K) → (has ts t ≡ true) ⊎ Gone w → Gone (end_all w ts)
  ended_all [] w (inl h) = clash h refl
  ended_all [] w (inr g) = g
  ended_all (u ∷ ts) w (inr g) = ended_all ts (end w u) (inr (end_none w u (inr g)))
  ended_all (u ∷ ts) w (inl h) =
      by_either (nat_eq u t) (has ts t) h
      (λ q. ended_all ts (end w u) (inr (end_none w u (inl q))))
      (λ q. ended_all ts (end w u) (inl q))

  among : (s : ℕ) (es : List (ℕ × TaskRow K)) (x : TaskRow K) → at es t ≡ Some x → nat_eq x.scope s ≡ true → has (tasks_in s es) t ≡ true
  among s [] x e h = cc
  among s (d ∷ es) x e h =
      by_test (nat_eq d.0 t)
      (
      λ q.
      let found : Some d.1 ≡ Some x = sym (at_here d.0 d.1 es t q) ∙ e in
      let same : d.1 ≡ x = cc in
      here (nat_eq (d.1).scope s) (ap (λ (y : TaskRow K). nat_eq y.scope s) same ∙ h) q
      )
      (λ q. there (nat_eq (d.1).scope s) (among s es x (sym (at_there d.0 d.1 es t q) ∙ e) h))
    where
      here : (b : Bool) → b ≡ true → nat_eq d.0 t ≡ true → has (if b then d.0 ∷ tasks_in s es else tasks_in s es) t ≡ true
      here true e q = or_left (nat_eq d.0 t) (has (tasks_in s es) t) q
      here false e q = clash e refl

      there : (b : Bool) → has (tasks_in s es) t ≡ true → has (if b then d.0 ∷ tasks_in s es else tasks_in s es) t ≡ true
      there true go = or_right (nat_eq d.0 t) (has (tasks_in s es) t) go
      there false go = go

  change_none : (w : State K) (s : ℕ) (f : Scope K → Scope K) → Gone w → Gone (change w s f)
  change_none w s f g = by (at w.scopes s)
    where
      by : (o : Option (Scope K)) → Gone (changed_scope w s f o)
      by None = g
      by (Some x) = g

  -- the tasks of a scope end before anything else at its removal
  pub stopped_none : (w : State K) (s : ℕ) (x : TaskRow K) → at w.tasks t ≡ Some x → nat_eq x.scope s ≡ true → Gone (stopped w s)
  stopped_none w s x e h =
      change_none (unmarked (end_all w (tasks_in s w.tasks)) s) s (λ y. record y { effects = [] })
      (ended_all (tasks_in s w.tasks) w (inl (among s w.tasks x e h)))

  module _ (app : Application K) (lawful : IsLawful K app) where
    -- and none of that number comes back
    cleaned_none : (s : ℕ) (es : List K.Effect) (w : State K) (waiting_for : List (Command K)) → AllFresh app (t + 1) waiting_for → t + 1 ≤ w.next.tasks → Gone w
        → Gone (state_of (cleaned app s es w waiting_for))
    cleaned_none s [] w waiting_for f l g =
        let below : t < t + 1 = omega arith in
        (commands_same app (t + 1) (gone w s) s None waiting_for f).ended t below ((gone_same (t + 1) w s).ended t below g)
    cleaned_none s (e ∷ es) w waiting_for f l g = by m.fault (λ v cs h k none. cleaned_none s es v cs h k none)
      where
        m : Meaning K Nothing
        m = app.effect e (world_of w s None true)

        n : IsNumbered w.next m.commands m.next
        n = lawful.effects_number e (world_of w s None true)

        above : t + 1 ≤ m.next.tasks
        above = omega (arith, l, (numbered_rises w.next m.commands m.next n).tasks)

        by : (o : Option CallFault)
            → ((v : State K) (cs : List (Command K)) → AllFresh app (t + 1) cs → t + 1 ≤ v.next.tasks → Gone v → Gone (state_of (cleaned app s es v cs)))
            → Gone (state_of (elim o as (λ z. Outcome K) [
              | None ↦ cleaned app s es (with_next (called_once w) m.next) (waiting_for ++ m.commands)
              | Some f ↦ Cut (with_next (called_once w) m.next) (fault_of f)
            ]))
        by None go =
            go (with_next (called_once w) m.next) (waiting_for ++ m.commands)
            (fresh_both app (t + 1) waiting_for m.commands f (fresh app lawful w.next.tasks m.next.tasks (t + 1) m.commands l n.tasks)) above g
        by (Some f) go = g

    removed_none : (w : State K) (s : ℕ) (x : TaskRow K) → at w.tasks t ≡ Some x → nat_eq x.scope s ≡ true → t + 1 ≤ w.next.tasks → Gone (state_of (removed app w s))
    removed_none w s x e h l =
        let v : State K = stopped w s in
        let low : t + 1 ≤ v.next.tasks = omega (arith, l, (stopped_later w s).rises.tasks) in
        cleaned_none s (clean_ups (hooks_of v s) []) v [] tt low (stopped_none w s x e h)

    ended_none : (m : Machine K) (item : Option (Item K)) (rest : List (Item K)) (o : Outcome K) → Gone (state_of o) → Gone (ended_by m item rest o).state
    ended_none m item rest (Done v work) g = g
    ended_none m item rest (Cut v fault) g = g

    -- what is so after a removal is so after the entry of it
    module _ (Q : Machine K → Type 0) (s : ℕ) (m : Machine K)
        (drops : (item : Option (Item K)) (rest : List (Item K)) → Q (ended_by m item rest (removed app m.state s))) where
      abbrev Ends : List (Item K) → Type 0
      Ends work = Q (change_by app m work (Removed s))

      -- an entry that isn't due
      other : (e : Entry) → if_live m.state (Some e) ≡ Some (Removed s) → Removed s ≡ e
      other e h = (live_due app m.state e (Removed s) h).0

      by_work : (work : Option Work) (inputs : List (Input K)) → if_live m.state (due_work app m work inputs) ≡ Some (Removed s) → ⊥
      by_work (Some (RerunScope r)) inputs h = let absurdity : Removed s ≡ Rerun r = other (Rerun r) h in cc
      by_work (Some (PollTask r)) inputs h = let absurdity : Removed s ≡ Poll r = other (Poll r) h in cc
      by_work (Some (RunEffects r)) inputs h = let absurdity : Removed s ≡ Effects r = other (Effects r) h in cc
      by_work None [] h = cc
      by_work None (input ∷ inputs) h = let absurdity : Removed s ≡ Taken (m.taken + 1) = other (Taken (m.taken + 1)) h in cc

      by_heard : (ls : List (Listener K)) → if_live m.state (due_heard app m ls) ≡ Some (Removed s) → ⊥
      by_heard [] h = by_work (next m.state) m.inputs h
      by_heard (l ∷ ls) h = let absurdity : Removed s ≡ Heard l.origin = other (Heard l.origin) h in cc

      by_feed : (u : ℕ) (b : Bool) → Removed s ≡ (if b then Kept u else Fed u) → ⊥
      by_feed u true h = cc
      by_feed u false h = cc

      dropped_to : (child parent : ℕ) (side : SideName) (rest : List (Item K)) (b : Bool)
          → Q (if b then ended_by m (Some (Drop child parent side)) rest (removed app m.state s) else ended_by m (Some (Drop child parent side)) (Drop child parent side ∷ rest) (removed app m.state s))
      dropped_to child parent side rest true = drops (Some (Drop child parent side)) rest
      dropped_to child parent side rest false = drops (Some (Drop child parent side)) (Drop child parent side ∷ rest)

      by_item : (work : List (Item K)) → if_live m.state (due_item app m work) ≡ Some (Removed s) → Ends work
      by_item [] h = absurd (by_heard (waiting m) h)
      by_item (Draw r side p k ∷ rest) h = cc
      by_item (Row b step ∷ rest) h = cc
      by_item (Make r side p c ∷ rest) h =
          let made : Removed s ≡ Made m.state.next_scope = (made_due app m.state (is_live m.state r) m.state.next_scope (Removed s) h).1 in cc
      by_item (Feed r side p c ∷ rest) h =
          let fed = fed_due app m.state c (fed_child m.state r side p) (Removed s) h in
          absurd (by_feed fed.0 (keeps app m.state fed.0 c) fed.2)
      by_item (Drop child parent side ∷ rest) h = dropped_to child parent side rest (nat_eq s child)

      by_built : (b : Bool) → if_live m.state (if b then due_item app m m.work else Some Build) ≡ Some (Removed s) → Ends m.work
      by_built true h = by_item m.work h
      by_built false h = let absurdity : Removed s ≡ Build = other Build h in cc

      by_fault : (o : Option Fault)
          → if_live m.state (elim o as (λ z. Option Entry) [ None ↦ (if m.built then due_item app m m.work else Some Build) | Some fault ↦ None ]) ≡ Some (Removed s)
          → Ends m.work
      by_fault None h = by_built m.built h
      by_fault (Some fault) h = cc

      pub removal_leads : (limits : Limits) (u : Machine K) → Moves app limits m (Logged (Removed s)) u → Q u
      removal_leads limits u step = subst (λ (z : Machine K). Q z) (sym step.gives) (by_fault m.dead step.due_is)

    -- after the removal of its scope a task isn't there
    pub goes_with_scope : (s : ℕ) (m : Machine K) (x : TaskRow K) → at m.state.tasks t ≡ Some x → nat_eq x.scope s ≡ true → t + 1 ≤ m.state.next.tasks
        → (limits : Limits) (u : Machine K)
        → Moves app limits m (Logged (Removed s)) u
        → at u.state.tasks t ≡ None
    goes_with_scope s m x there home low limits u step =
        removal_leads (λ (z : Machine K). at z.state.tasks t ≡ None) s m
        (λ item rest. ended_none m item rest (removed app m.state s) (removed_none m.state s x there home low)) limits u step

    -- nor is the scope, where no fault came
    pub scope_goes : (s : ℕ) (m : Machine K) (limits : Limits) (u : Machine K) → Moves app limits m (Logged (Removed s)) u → u.dead ≡ None → at u.state.scopes s ≡ None
    scope_goes s m limits u step =
        removal_leads (λ (z : Machine K). z.dead ≡ None → at z.state.scopes s ≡ None) s m
        (λ item rest. ended_gone item rest (removed app m.state s) (removed_gone app lawful m.state s)) limits u step
      where
        ended_gone : (item : Option (Item K)) (rest : List (Item K)) (o : Outcome K) → IsGone s o → (ended_by m item rest o).dead ≡ None
            → at (ended_by m item rest o).state.scopes s ≡ None
        ended_gone item rest (Done v work) g alive = g
        ended_gone item rest (Cut v fault) g alive = cc
