-- What each move leaves of a fact that is passed on by what leaves a task and its context alone.
use Rattle.std.proofs.Common.{ℕ, ◌+◌, ◌≤◌, Bool, true, false, List, [], ◌∷◌, ◌++◌, ◌≡◌, refl, sym, ap, ◌∙◌, subst, nat_eq, arith}
use Rattle.std.specs.Prelude.{Option, Some, None, if◌then◌else◌}
use Rattle.std.specs.List.{AllByRecursion}
use Rattle.rt_model.specs.Lists.{at, put, without, join}
use Rattle.rt_model.specs.Laws.{IsNumbered, Tests, IsLawful}
use Rattle.rt_model.specs.Tree.{Types, Place, VComponent, Element}
use Rattle.rt_model.specs.World.{Source, Cell, Error, Context, TaskTarget, Firsts, Command, Write, DropCell, NewCell, NewContext, Reset, ReadInto, Spawn, RemoveFuture, ClearErrors, CallFault, World, Meaning, TaskStep, Application}
use Rattle.rt_model.specs.State.{SideName, ChildrenSide, Mark, Woken, SuspendedTask, Side, Scope, CellRow, ContextRow, TaskRow, LastCall, State, Outcome, Done, Cut, empty_side, side_of, with_side, new_scope, changed_scope, change, error_context, is_live, world_of}
use Rattle.rt_model.specs.Commands.{post, tell, unqueued, provided_at, command, commands}
use Rattle.rt_model.specs.Next.{look, is_active}
use Rattle.rt_model.specs.Run.{fault_of, with_next, called_once, called_where, is_own, kept_call, body_of, unmarked}
use Rattle.rt_model.specs.Removal.{gone}
use Rattle.rt_model.specs.Replay.{Entry, Build, Taken, Heard, Rerun, Poll, Effects, Made, Fed, Kept, Removed, Input, EventAt, WakeOf, WriteOf, MarkOf, Drain, Machine, with_child, numbered, with_new_scope, mounted_state, poll_meant, left_by_poll, polled_apart_at, polled_apart, polled_now}
use Rattle.rt_model.specs.Causes.{Limits}
use Rattle.rt_model.specs.Asides as asides
use Rattle.rt_model.specs.Asides.{Aside, Asked, Marked, AllMarked, Looked, Thinned, Rested, Raised, Passed, Polling, Answered, Advanced, left_of, aside_state}
use Rattle.rt_model.specs.Sentences.{marked_now, all_marked_now}
use Rattle.rt_model.proofs.Maps.{by_test, pick_true, pick_false, at_put_other}
use Rattle.rt_model.proofs.Members.{clash}
use Rattle.rt_model.proofs.RunFrames.{fresh, numbered_rises}
use Rattle.rt_model.proofs.Tour.{AllFresh}
use Rattle.law_moves.specs.Moves.{Move, Silent, Closed, Logged, Moves}
use Rattle.law_behavior.specs.Deeds.{Deed, poll_finds, poll_deeds, move_deeds}
use Rattle.law_behavior.proofs.Readers.{post_posts, tell_posts}
use Rattle.law_behavior.proofs.Stays.{unmarked_stays, unqueued_stays}
use Rattle.law_behavior.proofs.Looking.{look_stays}
use Rattle.law_behavior.proofs.Frames.{Free, Permits, with_tree, Frame, Called}
use Rattle.law_behavior.proofs.Commanded.{MayClear, Allowed, caused_anyway, AllAllowed, commands_on}
use Rattle.law_behavior.proofs.Onwards.{MayTake, Sparing, waking_anyway, AllSparing, moves_on}
use Rattle.law_behavior.proofs.Polled.{drops_on, rest_on, poll_left}
use Rattle.law_behavior.proofs.Steadfast.{lawful_draw}
use Rattle.law_lasting.specs.CellsLast.{FirstLeaves}
use Rattle.law_minding.proofs.Leaving.{Leaves, AllLeave, EntryLeaves, MoveLeaves}
use Rattle.law_minding.proofs.Removing.{gone_passes}
use Rattle.law_minding.proofs.Values.{at_longer, side_error, side_contexts, look_alike}
use Rattle.law_minding.proofs.Since.{Low, Passes, alone, posts_pass, put_passes, changed_passes, error_passes, provided_told, provided_again, made_passes, mounts_pass, write_passes, drop_passes, new_cell_passes, contexts_pass, owed_passes, pauses_pass}
use Rattle.law_minding.proofs.Tasked.{task_passes, activated_passes, ended_passes}

module _
    {K : Types} (last : World K) (t n cell scope : ℕ) (held : CellRow K) (place : K.TaskState) (polled : Bool) (reads : ContextRow K)
    (target : reads.target ≡ TaskTarget t) (home : reads.scope ≡ scope) (bound : ℕ)
    (spawnable : State K → ℕ → ℕ → K.TaskState → Type 0)
    (Is : State K → Type 0)
    (low_of : (w : State K) → Is w → bound ≤ w.next.tasks)
    (keep_on : (w v : State K) → Passes last t n cell scope held place polled reads target home w v → Is w → Is v)
    (next_on : (w : State K) (next : Firsts) → bound ≤ next.tasks → Is w → Is (with_next w next))
    (spawn_on : (w : State K) (u : ℕ) (x : TaskRow K) → is_live w x.scope ≡ true → bound ≤ u → spawnable w u x.scope x.state → Is w → Is (post (record w { tasks = w.tasks ++ (u, x) ∷ [] }) (Woken u))) where
  -- what may be done
  abbrev pub minding : Permits K
  minding =
      record {
        clearable = Free;
        makeable = λ c. last.given.next.cells ≤ c;
        writable = λ c. nat_eq c cell ≡ false;
        droppable = λ c. nat_eq c cell ≡ false;
        openable = λ c. polled ≡ true → nat_eq c n ≡ false;
        readable = λ c. polled ≡ true → nat_eq c n ≡ false;
        pollable = λ u. nat_eq u t ≡ false;
        endable = Free;
        spawnable = spawnable;
        feedable = Free;
        removable = λ s. (nat_eq s scope ≡ false) × (nat_eq s held.owner ≡ false);
        causable = λ w c. Unit {0};
      }

  module _ (app : Application K) (tests : Tests K.Value app.same_value) where
    provided_on : (w : State K) (s k : ℕ) (v : K.Value) (x : Scope K) → at w.scopes s ≡ Some x → (o : Option K.Value) → at x.contexts k ≡ o → Is w → Is (provided_at app w s k v o)
    provided_on w s k v x e o there h = on o there
      where
        u : State K
        u = record w { scopes = put w.scopes s (record x { contexts = put x.contexts k v }) }

        is : change w s (λ y. record y { contexts = put y.contexts k v }) ≡ u
        is = ap (λ (z : Option (Scope K)). changed_scope w s (λ y. record y { contexts = put y.contexts k v }) z) e

        now_told : Is (tell (change w s (λ y. record y { contexts = put y.contexts k v })) (Context k s))
        now_told = subst (λ (z : State K). Is (tell z (Context k s))) (sym is) (keep_on w (tell u (Context k s)) (provided_told last t n cell scope held place polled reads target home w s k v x e) h)

        on : (o : Option K.Value) → at x.contexts k ≡ o → Is (provided_at app w s k v o)
        on None none = now_told
        on (Some old) some =
            by_test (app.same_value old v)
            (
            λ q.
            subst (λ (z : State K). Is z)
            (sym (pick_true (change w s (λ y. record y { contexts = put y.contexts k v })) (tell (change w s (λ y. record y { contexts = put y.contexts k v })) (Context k s)) q ∙ is))
            (keep_on w u (provided_again last t n cell scope held place polled reads target home w s k v x e (some ∙ ap (λ (a : K.Value). Some a) (tests.0 old v q))) h)
            )
            (
            λ q.
            subst (λ (z : State K). Is z)
            (sym (pick_false (change w s (λ y. record y { contexts = put y.contexts k v })) (tell (change w s (λ y. record y { contexts = put y.contexts k v })) (Context k s)) q))
            now_told
            )

    aside : (w v : State K) → v ≡ record w { resolved = v.resolved; skipped = v.skipped; calls = v.calls } → Is w → Is v
    aside w v e h =
        subst (λ (z : State K). Is z) (sym e)
        (keep_on w (record w { resolved = v.resolved; skipped = v.skipped; calls = v.calls })
        (alone last t n cell scope held place polled reads target home w (record w { resolved = v.resolved; skipped = v.skipped; calls = v.calls }) refl refl refl refl refl (λ e. e) (λ e. e) (λ i. same w v i)) h)
      where
        same : (w v : State K) (i : Source) → Low last t n cell scope held place polled reads target home w (record w { resolved = v.resolved; skipped = v.skipped; calls = v.calls }) i
        same w v (Cell m) = λ low. refl
        same w v (Error r) = refl
        same w v (Context k r) = refl

    -- a side with something else on it
    side_on : (w : State K) (s : ℕ) (side : SideName) (a : Scope K → Side K) (x : Scope K) → at w.scopes s ≡ Some x → Is w → Is (record w { scopes = put w.scopes s (with_side x side (a x)) })
    side_on w s side a x e h =
        keep_on w (record w { scopes = put w.scopes s (with_side x side (a x)) })
        (put_passes last t n cell scope held place polled reads target home w s x (with_side x side (a x)) e (side_error x side (a x)) (side_contexts x side (a x))) h

    make_on : (w : State K) (s : ℕ) (side : SideName) (p : Place) (c : VComponent K) (x : Scope K) → at w.scopes s ≡ Some x → Is w → Is (with_new_scope w s side p c x)
    make_on w s side p c x e h =
        let y : Scope K = with_child side p w.next_scope x in
        let u : State K = record w { scopes = put w.scopes s y } in
        let child : Side K = record (side_of x side) { children = (side_of x side).children ++ (p, w.next_scope) ∷ [] } in
        let parent : Is u = keep_on w u (put_passes last t n cell scope held place polled reads target home w s x y e (side_error x side child) (side_contexts x side child)) h in
        keep_on u (with_new_scope w s side p c x)
        (made_passes last t n cell scope held place polled reads target home u (with_new_scope w s side p c x) w.next_scope (put w.scopes s y) (new_scope c (Some s) (x.height + 1) side) refl refl refl refl refl refl refl refl refl refl)
        parent

    -- the frame
    pub frame : Frame app (λ w. Is w) (λ w. Is w) bound minding
    frame =
        record {
          low = λ w h. low_of w h;
          leaves = λ w h. h;
          marks = λ w s h. keep_on w (post w (Mark s)) (posts_pass last t n cell scope held place polled reads target home w (post w (Mark s)) (post_posts w (Mark s))) h;
          wakes = λ w u a h. keep_on w (post w (Woken u)) (posts_pass last t n cell scope held place polled reads target home w (post w (Woken u)) (post_posts w (Woken u))) h;
          tells = λ w i a h. keep_on w (tell w i) (posts_pass last t n cell scope held place polled reads target home w (tell w i) (tell_posts w i)) h;
          looks =
              λ w h.
              keep_on w (look w)
              (owed_passes last t n cell scope held place polled reads target home w (look w) (looked w) (λ owes. (look_stays w).polls t refl owes)) h;
          pauses = λ w u e h. keep_on w _ (pauses_pass last t n cell scope held place polled reads target home w u e) h;
          unqueues = λ w u a h. keep_on w (unqueued w u) (owed_passes last t n cell scope held place polled reads target home w (unqueued w u) refl (λ owes. (unqueued_stays w u).polls t a owes)) h;
          unmarks = λ w s h. keep_on w (unmarked w s) (owed_passes last t n cell scope held place polled reads target home w (unmarked w s) refl (λ owes. (unmarked_stays w s).polls t refl owes)) h;
          asides = λ w v e h. aside w v e h;
          nexts = λ w next drawn h. next_on w next drawn.low h;
          writes = λ w c v old e a told h. keep_on w _ (write_passes last t n cell scope held place polled reads target home w c (record old { value = v }) a) h;
          drops = λ w c a told h. keep_on w _ (drop_passes last t n cell scope held place polled reads target home w c a) h;
          new_cells = λ w s c v a h. keep_on w _ (new_cell_passes last t n cell scope held place polled reads target home w c (record { owner = s; value = v }) a) h;
          new_contexts = λ w c x a h. keep_on w _ (contexts_pass last t n cell scope held place polled reads target home w (w.contexts ++ (c, x) ∷ []) (λ once e. at_longer w.contexts n c x reads e)) h;
          sources = λ w c x y e a h. keep_on w _ (contexts_pass last t n cell scope held place polled reads target home w (put w.contexts c y) (λ once there. at_put_other w.contexts c y n (a once) ∙ there)) h;
          rows =
              λ w s x y e same h.
              keep_on w _
              (put_passes last t n cell scope held place polled reads target home w s x y e (ap (λ (z : Scope K). z.error) same) (ap (λ (z : Scope K). z.contexts) same)) h;
          hooks = λ w s x k e h. keep_on w _ (put_passes last t n cell scope held place polled reads target home w s x (record x { hooks = x.hooks ++ k ∷ [] }) e refl refl) h;
          joins = λ w b u origin x e h. keep_on w _ (put_passes last t n cell scope held place polled reads target home w b x (record x { holders = x.holders ++ (u, origin) ∷ [] }) e refl refl) h;
          throws = λ w b x e live none told h. keep_on w _ (error_passes last t n cell scope held place polled reads target home w b x (record x { error = Some e }) live refl) h;
          clears = λ w b x live a told h. keep_on w _ (error_passes last t n cell scope held place polled reads target home w b x (record x { error = None }) live refl) h;
          provides = λ w s k v x e told h. provided_on w s k v x e (at x.contexts k) refl h;
          feeds = λ w u c x e a h. keep_on w _ (put_passes last t n cell scope held place polled reads target home w u x (record x { component = c }) e refl refl) h;
          patches = λ w s side tree x e h. side_on w s side (λ y. with_tree app tree (side_of y side)) x e h;
          draws =
              λ w s side p k h.
              let next : Firsts = record (w.next) { elements = w.next.elements + 1 } in
              let u : State K = with_next w next in
              let f : Scope K → Scope K = λ x. with_side x side (record (side_of x side) { numbers = (side_of x side).numbers ++ (p, k, w.next.elements) ∷ [] }) in
              keep_on u (numbered w s side p k)
              (changed_passes last t n cell scope held place polled reads target home u s f
              (λ x. (side_error x side (record (side_of x side) { numbers = (side_of x side).numbers ++ (p, k, w.next.elements) ∷ [] }), side_contexts x side (record (side_of x side) { numbers = (side_of x side).numbers ++ (p, k, w.next.elements) ∷ [] })))
              (at w.scopes s) refl)
              (next_on w next (low_of w h) h);
          empties = λ w b x e h. keep_on w _ (put_passes last t n cell scope held place polled reads target home w b x (record x { fallback_side = empty_side }) e refl refl) h;
          makes = λ w s side p c x e h. make_on w s side p c x e h;
          goes = λ w s free told h. keep_on w (gone w s) (gone_passes last t n cell scope held place polled reads target home w s free.0 free.1) h;
          mounts = λ w h. keep_on w (mounted_state w) (mounts_pass last t n cell scope held place polled reads target home w) h;
          ends = λ w u a h. keep_on w _ (ended_passes last t n cell scope held place polled reads target home w u) h;
          spawns = λ w u x live low free h. spawn_on w u x live low free h;
          goes_on = λ w u x a e may h. keep_on w _ (task_passes last t n cell scope held place polled reads target home w u x (record x { state = a }) e refl (λ q. clash q may) (λ g. g)) h;
          suspends = λ w u x e h. keep_on w _ (task_passes last t n cell scope held place polled reads target home w u x (record x { kind = SuspendedTask }) e refl (λ q. refl) (λ g. g)) h;
          activates = λ w u active x e told h. keep_on w _ (activated_passes last t n cell scope held place polled reads target home w u active x e) h;
        }
      where
        looked : (w : State K) → look w ≡ record w { posted = (look w).posted; seen = (look w).seen; queued = (look w).queued; skipped = (look w).skipped }
        looked w = from (look_alike w.posted (record w { posted = [] }))
          where
            from : look w ≡ record w { posted = []; seen = (look w).seen; queued = (look w).queued }
                → look w ≡ record w { posted = (look w).posted; seen = (look w).seen; queued = (look w).queued; skipped = (look w).skipped }
            from e = e ∙ sym (ap (λ (z : State K). record w { posted = z.posted; seen = (look w).seen; queued = (look w).queued; skipped = z.skipped }) e)

    -- a body's call
    body_on : (w : State K) (s : ℕ) (own : Bool) (world : World K) (m : Meaning K (Element K)) → bound ≤ m.next.tasks → Is w → Is (kept_call (called_where own w) s world m)
    body_on w s own world m low h =
        let u : State K = called_where own w in
        let v : State K = with_next u m.next in
        let z : State K = changed_scope v s (λ x. record x { reads = m.reads }) (at v.scopes s) in
        let called : Is v = next_on u m.next low (once own h) in
        let read : Is z = keep_on v z (changed_passes last t n cell scope held place polled reads target home v s (λ x. record x { reads = m.reads }) (λ x. (refl, refl)) (at v.scopes s) refl) called in
        keep_on z (kept_call u s world m)
        (alone last t n cell scope held place polled reads target home z (kept_call u s world m) refl refl refl refl refl (λ e. e) (λ e. e) (λ i. same z (kept_call u s world m).last_calls i)) read
      where
        once : (b : Bool) → Is w → Is (called_where b w)
        once true g = aside w (record w { calls = w.calls + 1 }) refl g
        once false g = g

        same : (z : State K) (calls : List (ℕ × LastCall K)) (i : Source) → Low last t n cell scope held place polled reads target home z (record z { last_calls = calls }) i
        same z calls (Cell m) = λ low. refl
        same z calls (Error r) = refl
        same z calls (Context k r) = refl

    uncalled : (w : State K) (b : ℕ) → Is w → Is (record w { last_calls = without w.last_calls b })
    uncalled w b h =
        keep_on w (record w { last_calls = without w.last_calls b })
        (alone last t n cell scope held place polled reads target home w (record w { last_calls = without w.last_calls b }) refl refl refl refl refl (λ e. e) (λ e. e) same) h
      where
        same : (i : Source) → Low last t n cell scope held place polled reads target home w (record w { last_calls = without w.last_calls b }) i
        same (Cell m) = λ low. refl
        same (Error r) = refl
        same (Context k r) = refl

    pub called : Called app (λ w. Is w) bound
    called =
        record {
          bodies = λ w s c drawn h. body_on w s (is_own c (world_of w s None true)) (world_of w s None true) (body_of app c (world_of w s None true)) drawn.low h;
          turns =
              λ w b x e h.
              let y : Scope K = record x { shows = Some ChildrenSide; reads = [] } in
              let v : State K = record w { scopes = put w.scopes b y } in
              uncalled v b (keep_on w v (put_passes last t n cell scope held place polled reads target home w b x y e refl refl) h);
          turns_nowhere = λ w b e h. uncalled w b h;
        }

    may_clear : (o : Option ℕ) → MayClear app (λ w. Is w) (λ w. Is w) bound minding frame o
    may_clear None = tt
    may_clear (Some b) = tt

    -- a command may spawn whom it spawns
    abbrev pub MaySpawn : State K → ℕ → Command K → Type 0
    MaySpawn w s (Spawn u a forever isomorphic) = spawnable w u (if forever then 0 else s) a
    MaySpawn w s _ = Unit {0}

    -- so may all of a call, each in the state that it finds
    abbrev pub AllSpawn : State K → ℕ → Option ℕ → List (Command K) → Type 0
    AllSpawn w s asked [] = Unit {0}
    AllSpawn w s asked (c ∷ cs) = MaySpawn w s c × AllSpawn (command app w s asked c) s asked cs

    allowed : (w : State K) (s : ℕ) (c : Command K) (cs : List (Command K)) → AllFresh app bound (c ∷ cs) → Leaves last t n cell scope held polled c → MaySpawn w s c → Allowed app (λ w. Is w) (λ w. Is w) bound minding frame w s c
    allowed w s ClearErrors cs f h m = may_clear (error_context w s)
    allowed w s (Spawn u a forever isomorphic) cs f h m = (f.0, m)
    allowed w s (RemoveFuture u) cs f h m = tt
    allowed w s (Write c v) cs f h m = h
    allowed w s (DropCell c) cs f h m = h
    allowed w s (NewCell c v) cs f h m = h
    allowed w s (NewContext c x) cs f h m = h
    allowed w s (Reset c) cs f h m = h
    allowed w s (ReadInto c x) cs f h m = h
    allowed w s c cs f h m = tt

    -- all that is asked of the commands of a call
    abbrev pub GoodCall : State K → ℕ → Option ℕ → List (Command K) → Type 0
    GoodCall w s asked cs = AllLeave last t n cell scope held polled cs × AllSpawn w s asked cs

    all_allowed : (w : State K) (s : ℕ) (asked : Option ℕ) (cs : List (Command K)) → AllFresh app bound cs → GoodCall w s asked cs
        → AllAllowed app (λ w. Is w) (λ w. Is w) bound minding frame w s asked cs
    all_allowed w s asked [] f h = tt
    all_allowed w s asked (c ∷ cs) f h = (
      (allowed w s c cs f h.0.0 h.1.0, caused_anyway app (λ w. Is w) (λ w. Is w) bound minding frame (λ v d. tt) w s c),
      all_allowed (command app w s asked c) s asked cs f.1 (h.0.1, h.1.1),
    )

    module _ (lawful : IsLawful K app) where
      may_take : (inputs : List (Input K)) → FirstLeaves cell inputs
          → MayTake app (λ w. Is w) (λ w. Is w) bound minding frame (λ u. tt) called (λ w s polled cs. GoodCall w s polled cs) (λ w s polled cs f g. all_allowed w s polled cs f g) (lawful_draw app bound lawful) inputs
      may_take [] h = tt
      may_take (WriteOf c v ∷ more) h = h
      may_take (EventAt name payload element bubbles ∷ more) h = tt
      may_take (WakeOf u ∷ more) h = tt
      may_take (MarkOf s ∷ more) h = tt
      may_take (Drain messages ∷ more) h = tt

      entry_spares : (inputs : List (Input K)) (e : Entry) → EntryLeaves last t n cell scope held polled inputs e
          → Sparing app (λ w. Is w) (λ w. Is w) bound minding frame (λ u. tt) called (λ w s polled cs. GoodCall w s polled cs) (λ w s polled cs f g. all_allowed w s polled cs f g) (lawful_draw app bound lawful) inputs e
      entry_spares inputs Build h = tt
      entry_spares inputs (Taken k) h = may_take inputs h.3
      entry_spares inputs (Heard s) h = tt
      entry_spares inputs (Rerun s) h = tt
      entry_spares inputs (Poll u) h = h.0
      entry_spares inputs (Effects s) h = tt
      entry_spares inputs (Made s) h = tt
      entry_spares inputs (Fed s) h = tt
      entry_spares inputs (Kept s) h = tt
      entry_spares inputs (Removed s) h = (h.1, h.2)

      move_spares : (limits : Limits) (m u : Machine K) (move : Move) (step : Moves app limits m move u) → MoveLeaves last t n cell scope held polled m.inputs move
          → AllSparing app (λ w. Is w) (λ w. Is w) bound minding frame (λ u. tt) called (λ w s polled cs. GoodCall w s polled cs) (λ w s polled cs f g. all_allowed w s polled cs f g) (lawful_draw app bound lawful) limits m u (move ∷ []) (u, step, refl)
      move_spares limits m u Silent step h = (λ g. g, tt)
      move_spares limits m u Closed step h = tt
      move_spares limits m u (Logged e) step h = (
        (
          entry_spares m.inputs e h,
          waking_anyway app (λ w. Is w) (λ w. Is w) bound minding frame (λ u. tt) called (λ w s polled cs. GoodCall w s polled cs) (λ w s polled cs f g. all_allowed w s polled cs f g) (lawful_draw app bound lawful) (λ w c. tt) m e,
        ),
        λ g. g,
        tt,
      )

      -- a move keeps the fact, where its calls and its entry leave the task alone and spawn whom they may
      pub move_keeps : (limits : Limits) (m u : Machine K) (move : Move) → Moves app limits m move u
          → AllByRecursion (λ (d : Deed K). GoodCall d.state d.scope d.polled d.wants) (move_deeds app m move)
          → MoveLeaves last t n cell scope held polled m.inputs move
          → Is m.state
          → Is u.state
      move_keeps limits m u move step deeds leaves h =
          moves_on app (λ w. Is w) (λ w. Is w) bound minding frame (λ u. tt) called (λ w s polled cs. GoodCall w s polled cs) (λ w s polled cs f g. all_allowed w s polled cs f g) (lawful_draw app bound lawful)
          limits m u (move ∷ []) (u, step, refl) (deeds, tt) (move_spares limits m u move step leaves) h

      -- what a call that logs no entry keeps, where it leaves the task alone, polls another one and passes over none
      abbrev pub AsideGood : State K → Aside K → Type 0
      AsideGood w (Asked s next cs) = GoodCall (with_next w next) s None cs
      AsideGood w (Advanced u) =
          (nat_eq u t ≡ false)
          × AllByRecursion (λ (d : Deed K). GoodCall d.state d.scope d.polled d.wants) (poll_deeds app (unqueued w u) u (at w.tasks u))
      AsideGood w Passed = ⊥
      AsideGood w Polling = ⊥
      AsideGood w _ = Unit {0}

      marked_on : (w : State K) (s : ℕ) → Is w → Is (marked_now w s)
      marked_on w s h = by (is_live w s)
        where
          v : State K
          v = record w { seen = join w.seen s }

          by : (b : Bool) → Is (if b then v else w)
          by true = keep_on w v (owed_passes last t n cell scope held place polled reads target home w v refl (λ o. o)) h
          by false = h

      all_marked_on : (es : List (ℕ × Scope K)) (w : State K) → Is w → Is (all_marked_now es w)
      all_marked_on [] w h = h
      all_marked_on (e ∷ es) w h = all_marked_on es (marked_now w e.0) (marked_on w e.0 h)

      asked_on : (w : State K) (s : ℕ) (next : Firsts) (cs : List (Command K)) → IsNumbered w.next cs next → GoodCall (with_next w next) s None cs → Is w → Is (commands app (with_next w next) s None cs)
      asked_on w s next cs numbers good h =
          let low : bound ≤ w.next.tasks = low_of w h in
          let rises : w.next.tasks ≤ next.tasks = (numbered_rises w.next cs next numbers).tasks in
          let above : bound ≤ next.tasks = omega (arith, low, rises) in
          commands_on app (λ w. Is w) (λ w. Is w) bound minding frame (with_next w next) s None cs
          (all_allowed (with_next w next) s None cs (fresh app lawful w.next.tasks next.tasks bound cs low numbers.tasks) good)
          (next_on w next above h)

      -- a poll at once of another task; where a fault ends it all is left
      apart_by : (keep w : State K) (u : ℕ) (x : TaskRow K) (m : Meaning K (TaskStep K)) (o : Option CallFault) → at w.tasks u ≡ Some x → nat_eq u t ≡ false
          → AllFresh app bound m.commands
          → bound ≤ m.next.tasks
          → AllByRecursion (λ (d : Deed K). GoodCall d.state d.scope d.polled d.wants)
          (elim o as (λ z. List (Deed K)) [ None ↦ record { state = poll_finds (with_next w m.next) u x m.answer; scope = x.scope; polled = Some u; wants = m.commands } ∷ [] | Some f ↦ [] ])
          → Is keep
          → Is w
          → Is (left_of keep (elim o as (λ z. Outcome K) [ None ↦ Done (left_by_poll app (with_next w m.next) u x m m.answer) [] | Some f ↦ Cut (with_next w m.next) (fault_of f) ]))
      apart_by keep w u x m None e other drawn low good k h =
          poll_left app (λ w. Is w) (λ w. Is w) bound minding frame (λ u. tt) called (λ w s asked cs. GoodCall w s asked cs) (λ w s asked cs f g. all_allowed w s asked cs f g) (lawful_draw app bound lawful)
          (with_next w m.next) u x m m.answer e drawn other good.0 (next_on w m.next low h)
      apart_by keep w u x m (Some fault) e other drawn low good k h = k

      apart_on : (keep w : State K) (u : ℕ) (o : Option (TaskRow K)) → at w.tasks u ≡ o → nat_eq u t ≡ false
          → AllByRecursion (λ (d : Deed K). GoodCall d.state d.scope d.polled d.wants) (poll_deeds app w u o)
          → Is keep
          → Is w
          → Is (left_of keep (polled_apart_at app w u o))
      apart_on keep w u None e other good k h = h
      apart_on keep w u (Some x) e other good k h =
          let m : Meaning K (TaskStep K) = poll_meant app w u x in
          let drawn = (lawful_draw app bound lawful).polls x.state (world_of w x.scope (Some u) false) (low_of w h) in
          apart_by keep (called_once w) u x m m.fault e other drawn.0 (drawn.1).low good k (aside w (called_once w) refl h)

      advanced_on : (w : State K) (u : ℕ) → nat_eq u t ≡ false
          → AllByRecursion (λ (d : Deed K). GoodCall d.state d.scope d.polled d.wants) (poll_deeds app (unqueued w u) u (at w.tasks u))
          → Is w
          → Is (left_of w (polled_now app w u))
      advanced_on w u other good h = by (is_active w u)
        where
          by : (b : Bool) → Is (left_of w (if b then polled_apart app w u else Done w []))
          by true = apart_on w (unqueued w u) u (at w.tasks u) refl other good h (frame.unqueues w u other h)
          by false = h

      pub aside_keeps : (w : State K) (a : Aside K) → asides.Allowed w a → AsideGood w a → Is w → Is (aside_state app w a)
      aside_keeps w (Asked s next cs) numbers good h = asked_on w s next cs numbers good h
      aside_keeps w (Marked s) numbers good h = marked_on w s h
      aside_keeps w AllMarked numbers good h = all_marked_on w.scopes w h
      aside_keeps w Looked numbers good h = frame.looks w h
      aside_keeps w Thinned numbers good h =
          drops_on app (λ w. Is w) (λ w. Is w) bound minding frame (λ u. tt) called (λ w s asked cs. GoodCall w s asked cs) (λ w s asked cs f g. all_allowed w s asked cs f g) (lawful_draw app bound lawful) w.queued w h
      aside_keeps w Rested numbers good h =
          rest_on app (λ w. Is w) (λ w. Is w) bound minding frame (λ u. tt) called (λ w s asked cs. GoodCall w s asked cs) (λ w s asked cs f g. all_allowed w s asked cs f g) (lawful_draw app bound lawful) w h
      aside_keeps w (Raised name payload element bubbles prevented) numbers good h = h
      aside_keeps w Passed numbers good h = absurd good
      aside_keeps w Polling numbers good h = absurd good
      aside_keeps w Answered numbers good h = frame.asides w (record w { resolved = [] }) refl h
      aside_keeps w (Advanced u) numbers good h = advanced_on w u good.0 good.1 h
