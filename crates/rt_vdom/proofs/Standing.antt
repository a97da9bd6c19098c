-- What a dom stands for after a call that logs no entry.
use Rattle.std.proofs.Common.{◌≡◌, ℕ, ◌+◌, Bool, true, false, inl, ap, sym, refl, ◌∙◌, subst, List, [], ◌∷◌, ◌++◌, arith}
use Rattle.std.specs.Prelude.{Option, Some, None, is_some, option_map, if◌then◌else◌}
use Rattle.rt_model.specs.Lists.{at}
use Rattle.rt_model.specs.Tree.{Types}
use Rattle.rt_model.specs.Run.{with_next}
use Rattle.rt_model.specs.Replay as replay
use Rattle.rt_model.specs.Commands.{command, commands, post, post_target, provide_context, spawned}
use Rattle.rt_model.specs.World.{Command, Update, Wake, Firsts, Target, ScopeTarget, TaskTarget}
use Rattle.rt_model.proofs.Maps.{pick_true, pick_false}
use Rattle.rt_model.specs.OneLog.{types}
use Rattle.rt_model.specs.World.{Application}
use Rattle.rt_model.specs.Laws.{IsLawful, IsNumbered}
use Rattle.rt_model.specs.View.{view}
use Rattle.rt_model.specs.State as model
use Rattle.rt_model.specs.State.{is_live}
use Rattle.rt_model.specs.Asides.{Aside, PassesNone, Allowed, aside_state}
use Rattle.law_behavior.specs.Doms.{AsidesLead, LedTo}
use Rattle.law_behavior.proofs.Muted.{asides_show_nothing}
use Rattle.run_reports.specs.Seen.{limits_of}
use Rattle.run_state.specs.Mirror.{Unkept, at_first, state_of}
use Rattle.run_state.proofs.Each.{some-mapped}
use Rattle.run_state.specs.declared.state.State.{State}
use Rattle.rt_vdom.specs.Calls.{context_posted, spawned_by, task_spawned}
use Rattle.rt_vdom.specs.Doms.{IsStarted, Stands, StateIn}
use Rattle.rt_vdom.specs.declared.dom.VirtualDom.{VirtualDom}

module _ {P C Q V H T E L : Type 0} where
  -- a dom with another state
  abbrev pub with_state : VirtualDom P C Q V H T E L → State P C Q V H T E L → VirtualDom P C Q V H T E L
  with_state d s = record d { machine = record (d.machine) { scopes = record ((d.machine).scopes) { state = s } } }

module _ {P C Q V H T E L : Type 0} (meaning : P → Application (types C Q V H T E L)) where
  -- the state that it stands for goes on by what a program asked, and nothing new shows
  pub stands_on :
      (a : Aside (types C Q V H T E L)) (change : model.State (types C Q V H T E L) → model.State (types C Q V H T E L))
      (d : VirtualDom P C Q V H T E L) (s : State P C Q V H T E L) (props : Q) (whole : Bool) (w : model.State (types C Q V H T E L))
      → AsidesLead (meaning d.app) (limits_of d.limits) props whole
      → PassesNone a
      → IsLawful (types C Q V H T E L) (meaning d.app)
      → Allowed w a
      → change w ≡ aside_state (meaning d.app) w a
      → ((g : Unkept (types C Q V H T E L)) → state_of g s ≡ change (StateIn g d))
      → Stands meaning props whole w d
      → Stands meaning props whole (change w) (with_state d s) × (view (change w) ≡ view w)
  stands_on a change d s props whole w leads passes lawful allowed same is st = (
    record {
      built = st.built;
      idle = record { work = st.idle.work; hearing = st.idle.hearing; first = st.idle.first; course = st.idle.course };
      kept = st.kept;
      is = is st.kept ∙ ap change st.is;
      counted = st.counted;
      led =
          subst (λ (x : model.State (types C Q V H T E L)). LedTo (meaning d.app) (limits_of d.limits) props whole x) (sym same)
          (leads lawful w a st.led allowed (inl passes));
    },
    ap (λ (x : model.State (types C Q V H T E L)). view x) same
        ∙ asides_show_nothing (meaning d.app) lawful (limits_of d.limits) props whole w a st.led allowed (inl passes),
  )

  -- where nothing was done, too
  pub stands_still :
      (d : VirtualDom P C Q V H T E L) (props : Q) (whole : Bool) (w v : model.State (types C Q V H T E L))
      → v ≡ w
      → Stands meaning props whole w d
      → Stands meaning props whole v d × (view v ≡ view w)
  stands_still d props whole w v same st = (
    subst (λ (x : model.State (types C Q V H T E L)). Stands meaning props whole x d) (sym same) st,
    ap (λ (x : model.State (types C Q V H T E L)). view x) same,
  )

module _ {K : Types} where
  -- a task that is spawned in a live scope, and in one that isn't
  pub spawned_is : (w : model.State K) (s : ℕ) (a : K.TaskState) (isomorphic : Bool) → is_live w s ≡ true
      → spawned_by w s a isomorphic
      ≡ spawned (with_next w (record (w.next) { tasks = w.next.tasks + 1 })) None s w.next.tasks a isomorphic
  spawned_is w s a isomorphic live =
      pick_true (spawned (with_next w (record (w.next) { tasks = w.next.tasks + 1 })) None s w.next.tasks a isomorphic) w live

  pub spawned_not : (w : model.State K) (s : ℕ) (a : K.TaskState) (isomorphic : Bool) → is_live w s ≡ false
      → spawned_by w s a isomorphic ≡ w
  spawned_not w s a isomorphic gone =
      pick_false (spawned (with_next w (record (w.next) { tasks = w.next.tasks + 1 })) None s w.next.tasks a isomorphic) w gone

  pub task_is : (w : model.State K) (s : ℕ) → is_live w s ≡ true → task_spawned w s ≡ Some w.next.tasks
  task_is w s live = pick_true (Some w.next.tasks) None live

  pub task_not : (w : model.State K) (s : ℕ) → is_live w s ≡ false → task_spawned w s ≡ None
  task_not w s gone = pick_false (Some w.next.tasks) None gone

  -- what messages ask for, as commands
  abbrev pub updates : List (ℕ × model.Scope K) → List (Command K)
  updates [] = []
  updates (e ∷ es) = Update e.0 ∷ updates es

  abbrev pub asked_by : List (ℕ × model.Scope K) → replay.Post → List (Command K)
  asked_by scopes (replay.MarkScope s) = Update s ∷ []
  asked_by scopes (replay.WakeTask t) = Wake t ∷ []
  asked_by scopes replay.AllDirty = updates scopes

  abbrev pub all_asked : List (ℕ × model.Scope K) → List replay.Message → List (Command K)
  all_asked scopes [] = []
  all_asked scopes (m ∷ ms) = asked_by scopes m.what ++ all_asked scopes ms

module _ {K : Types} (app : Application K) where
  many : (cs ds : List (Command K)) (w : model.State K) → commands app w 0 None (cs ++ ds) ≡ commands app (commands app w 0 None cs) 0 None ds
  many [] ds w = refl
  many (c ∷ cs) ds w = many cs ds (command app w 0 None c)

  if_scopes : (w v : model.State K) (b : Bool) → v.scopes ≡ w.scopes → (if b then v else w).scopes ≡ w.scopes
  if_scopes w v true h = h
  if_scopes w v false h = refl

  post_scopes : (w : model.State K) (p : model.Posted) → (post w p).scopes ≡ w.scopes
  post_scopes w (model.Mark s) = if_scopes w (record w { posted = w.posted ++ model.Mark s ∷ [] }) (is_live w s) refl
  post_scopes w (model.Woken t) = if_scopes w (record w { posted = w.posted ++ model.Woken t ∷ [] }) (is_some (at w.tasks t)) refl

  all_posted : (es : List (ℕ × model.Scope K)) (w : model.State K) → replay.post_all es w ≡ commands app w 0 None (updates es)
  all_posted [] w = refl
  all_posted (e ∷ es) w = all_posted es (post w (model.Mark e.0))

  all_scopes : (es : List (ℕ × model.Scope K)) (w : model.State K) → (replay.post_all es w).scopes ≡ w.scopes
  all_scopes [] w = refl
  all_scopes (e ∷ es) w = all_scopes es (post w (model.Mark e.0)) ∙ post_scopes w (model.Mark e.0)

  one_posted : (w : model.State K) (p : replay.Post) → replay.post_message w p ≡ commands app w 0 None (asked_by w.scopes p)
  one_posted w (replay.MarkScope s) = refl
  one_posted w (replay.WakeTask t) = refl
  one_posted w replay.AllDirty = all_posted w.scopes w

  one_scopes : (w : model.State K) (p : replay.Post) → (replay.post_message w p).scopes ≡ w.scopes
  one_scopes w (replay.MarkScope s) = post_scopes w (model.Mark s)
  one_scopes w (replay.WakeTask t) = post_scopes w (model.Woken t)
  one_scopes w replay.AllDirty = all_scopes w.scopes w

  -- messages are taken in as a call's commands are done that post the same
  pub messages_asked : (ms : List replay.Message) (w : model.State K)
      → replay.post_messages w ms ≡ commands app w 0 None (all_asked w.scopes ms)
  messages_asked [] w = refl
  messages_asked (m ∷ ms) w =
      let v : model.State K = replay.post_message w m.what in
      messages_asked ms v
      ∙ ap (λ (es : List (ℕ × model.Scope K)). commands app v 0 None (all_asked es ms)) (one_scopes w m.what)
      ∙ ap (λ (x : model.State K). commands app x 0 None (all_asked w.scopes ms)) (one_posted w m.what)
      ∙ sym (many (asked_by w.scopes m.what) (all_asked w.scopes ms) w)

  -- such commands draw no number
  more_updates : (es : List (ℕ × model.Scope K)) (cs : List (Command K)) (next : Firsts) → IsNumbered next cs next
      → IsNumbered next (updates es ++ cs) next
  more_updates [] cs next h = h
  more_updates (e ∷ es) cs next h =
      let k = more_updates es cs next h in
      record { cells = k.cells; contexts = k.contexts; tasks = k.tasks; elements = k.elements; errors = k.errors }

  one_more : (scopes : List (ℕ × model.Scope K)) (p : replay.Post) (cs : List (Command K)) (next : Firsts) → IsNumbered next cs next
      → IsNumbered next (asked_by scopes p ++ cs) next
  one_more scopes (replay.MarkScope s) cs next h =
      record { cells = h.cells; contexts = h.contexts; tasks = h.tasks; elements = h.elements; errors = h.errors }
  one_more scopes (replay.WakeTask t) cs next h =
      record { cells = h.cells; contexts = h.contexts; tasks = h.tasks; elements = h.elements; errors = h.errors }
  one_more scopes replay.AllDirty cs next h = more_updates scopes cs next h

  pub draws_none : (scopes : List (ℕ × model.Scope K)) (ms : List replay.Message) (next : Firsts) → IsNumbered next (all_asked scopes ms) next
  draws_none scopes [] next = record { cells = refl; contexts = refl; tasks = refl; elements = refl; errors = omega arith }
  draws_none scopes (m ∷ ms) next = one_more scopes m.what (all_asked scopes ms) next (draws_none scopes ms next)

module _ {K : Types} (w : model.State K) (c : ℕ) where
  -- what a reactive context targets, where it is there, and where it isn't
  pub context_there : (t : Target) → Some t ≡ option_map (λ (x : model.ContextRow K). x.target) (at w.contexts c)
      → context_posted w c ≡ post_target w t
  context_there t h = by (at w.contexts c) h
    where
      one : (a b : Target) → Some a ≡ Some b → a ≡ b
      one a b k = cc

      by : (o : Option (model.ContextRow K)) → Some t ≡ option_map (λ (x : model.ContextRow K). x.target) o
          → (elim o as (λ z. model.State K) [ None ↦ w | Some x ↦ post_target w x.target ]) ≡ post_target w t
      by None k = cc
      by (Some x) k = ap (λ (y : Target). post_target w y) (sym (one t x.target k))

  pub context_live : (t : Target) → Some t ≡ option_map (λ (x : model.ContextRow K). x.target) (at w.contexts c)
      → true ≡ is_some (at w.contexts c)
  context_live t h = ap is_some h ∙ some-mapped (λ (x : model.ContextRow K). x.target) (at w.contexts c)

  pub context_dead : None ≡ option_map (λ (x : model.ContextRow K). x.target) (at w.contexts c) → false ≡ is_some (at w.contexts c)
  context_dead h = ap is_some h ∙ some-mapped (λ (x : model.ContextRow K). x.target) (at w.contexts c)

  pub context_gone : None ≡ option_map (λ (x : model.ContextRow K). x.target) (at w.contexts c) → context_posted w c ≡ w
  context_gone h = by (at w.contexts c) h
    where
      by : (o : Option (model.ContextRow K)) → None ≡ option_map (λ (x : model.ContextRow K). x.target) o
          → (elim o as (λ z. model.State K) [ None ↦ w | Some x ↦ post_target w x.target ]) ≡ w
      by None k = refl
      by (Some x) k = cc

module _ {K : Types} (app : Application K) where
  -- a mark or a wake, as a call asks for it
  abbrev pub asked_target : Target → Command K
  asked_target (ScopeTarget s) = Update s
  asked_target (TaskTarget t) = Wake t

  pub target_asked : (w : model.State K) (t : Target) → post_target w t ≡ commands app (with_next w w.next) 0 None (asked_target t ∷ [])
  target_asked w (ScopeTarget s) = refl
  target_asked w (TaskTarget t) = refl

  -- it draws no number
  pub target_draws : (next : Firsts) (t : Target) → IsNumbered next (asked_target t ∷ []) next
  target_draws next (ScopeTarget s) = record { cells = refl; contexts = refl; tasks = refl; elements = refl; errors = omega arith }
  target_draws next (TaskTarget t) = record { cells = refl; contexts = refl; tasks = refl; elements = refl; errors = omega arith }

  -- one more value that the root provides
  pub provided_more : (es : List (ℕ × K.Value)) (w : model.State K) (k : ℕ) (v : K.Value)
      → replay.provided_all app w (es ++ (k, v) ∷ []) ≡ provide_context app (replay.provided_all app w es) 0 k v
  provided_more [] w k v = refl
  provided_more (e ∷ es) w k v = provided_more es (provide_context app w 0 e.0 e.1) k v

module _ {P C Q V H T E L : Type 0} (meaning : P → Application (types C Q V H T E L)) where
  -- before the build the root provides one more value
  pub started_more : (d : VirtualDom P C Q V H T E L) (s : State P C Q V H T E L) (kind : ℕ) (value : V) (props : Q) (firsts : Firsts)
      (provided : List (ℕ × V))
      → ((g : Unkept (types C Q V H T E L)) → state_of g s ≡ provide_context (meaning d.app) (StateIn g d) 0 kind value)
      → IsStarted meaning d.app props firsts provided d.limits d
      → IsStarted meaning d.app props firsts (provided ++ (kind, value) ∷ []) d.limits (with_state d s)
  started_more d s kind value props firsts provided is st =
      record {
        fresh = st.fresh;
        owned = st.owned;
        limited = st.limited;
        uncalled = st.uncalled;
        unused =
            record {
              work = (st.unused).work;
              hearing = (st.unused).hearing;
              first = (st.unused).first;
              course = (st.unused).course;
              units = (st.unused).units;
              default_enabled = (st.unused).default_enabled;
            };
        first =
            is at_first
            ∙ ap (λ (x : model.State (types C Q V H T E L)). provide_context (meaning d.app) x 0 kind value) st.first
            ∙ sym (provided_more (meaning d.app) provided (replay.first_state (meaning d.app).root props firsts) kind value);
      }
