-- Numbers that rise, marks that go, holders, looks, mounted scopes and inputs: calm changes.
use Rattle.std.proofs.Common.{ℕ, ◌+◌, Bool, true, false, List, [], ◌∷◌, ◌++◌, ◌≡◌, ◌≤◌, ◌⊎◌, ◌||◌, refl, sym, ap, ◌∙◌, subst, nat_eq, arith, inl, inr}
use Rattle.std.proofs.lemmas.Bool.{eqb-true}
use Rattle.std.specs.Prelude.{Option, Some, None, if◌then◌else◌, is_some, flat_map}
use Rattle.std.specs.List.{AllByRecursion}
use Rattle.rt_model.specs.Lists.{at, put, drop_number, has, join}
use Rattle.rt_model.specs.Tree.{Types}
use Rattle.rt_model.specs.World.{Source, Cell, Error, Context, Renders, Firsts, at_end, Command, NewCell}
use Rattle.rt_model.specs.Laws as laws
use Rattle.rt_model.specs.Laws.{CountUp, IsNumbered}
use Rattle.rt_model.specs.State.{SideName, MainSide, ChildrenSide, FallbackSide, Posted, Mark, Woken, SuspendedTask, IdsExhausted, Scope, LastCall, TaskRow, State, Done, Cut, is_live, change, changed_scope, location, holds, is_held, renders_of, is_shown}
use Rattle.rt_model.specs.Commands.{post}
use Rattle.rt_model.specs.Next.{Work, look_on, look, found, paused, drop_then, drops, looked, at_rest}
use Rattle.rt_model.specs.Run.{with_next, called_once, raised, joins, suspends_on, unmarked}
use Rattle.rt_model.specs.Replay.{Post, MarkScope, WakeTask, AllDirty, Message, Input, EventAt, WakeOf, WriteOf, MarkOf, Drain, Machine, mounted, mounted_state, waiting, post_all, post_message, post_messages, looked_where_quiet, then_looked, taken_in, take_next}
use Rattle.rt_model.specs.Heard.{Listener}
use Rattle.rt_model.proofs.Maps.{by_test, pick_true, eq_same, at_here, at_there, at_put_here, at_put_other, none_some}
use Rattle.rt_model.proofs.RunFrames.{numbered_rises}
use Rattle.rt_model.proofs.Members.{turned_round, number_stays, join_keeps, join_has, number_left, join_left}
use Rattle.law_moves.specs.Heeds.{HasMark, leavings, Marked, SameOf}
use Rattle.law_moves.specs.Heeding.{AllFrom}
use Rattle.law_moves.proofs.Marks.{mark_last, mark_stays}
use Rattle.law_moves.proofs.Told.{post_quiet, change_quiet, put_by, CalmO, calm_o_if}
use Rattle.law_moves.proofs.Calm.{standing, error_of, context_of, holders_of, leavings_by, holders_by, there_of, held_by, same_then, same_quiet, HoldersLive, Unique, unique_put, listed_same, listed_then, live_by, Calm, calm_then, calm_if, calm_refl, Quiet, quiet_then, quiet_rest, quiet_refl, quiet_calm, no_fall, held_stays, holders_stay}
use Rattle.law_moves.proofs.CalmCommands.{written_calm}
use Rattle.law_moves.proofs.Tasks.{task_quiet}

all_join : (P : ℕ × ℕ → Type 0) (xs : List (ℕ × ℕ)) (y : ℕ × ℕ) → AllByRecursion (λ (h : ℕ × ℕ). P h) xs → P y → AllByRecursion (λ (h : ℕ × ℕ). P h) (xs ++ y ∷ [])
all_join P [] y h p = (p, tt)
all_join P (x ∷ xs) y h p = (h.0, all_join P xs y h.1 p)

module _ {K : Types} where
  -- the new cells of a call are at least the world's next one
  from_first : (first k n : ℕ) (cs : List (Command K)) → n ≤ first → CountUp first (flat_map laws.new_cell cs) k → AllFrom n cs
  from_first first k n [] low h = tt
  from_first first k n (NewCell m v ∷ cs) low h =
      let here : n ≤ m = omega (arith, low, h.0) in
      let more : n ≤ first + 1 = omega (arith, low) in
      (here, from_first (first + 1) k n cs more h.1)
  from_first first k n (c ∷ cs) low h = (tt, from_first first k n cs low h)

  pub all_from : (n : ℕ) (f g : Firsts) (cs : List (Command K)) → n ≤ f.cells → IsNumbered f cs g → AllFrom n cs
  all_from n f g cs low h = from_first f.cells g.cells n cs low h.cells

  pub cells_rise : (f g : Firsts) (cs : List (Command K)) → IsNumbered f cs g → f.cells ≤ g.cells
  cells_rise f g cs h = (numbered_rises f cs g h).cells

  pub next_quiet : (w : State K) (next : Firsts) → w.next.cells ≤ next.cells → Quiet w (with_next w next)
  next_quiet w next up = quiet_rest w (with_next w next) refl refl refl refl refl refl refl refl up

  pub once_quiet : (w : State K) → Quiet w (called_once w)
  once_quiet w = quiet_rest w (called_once w) refl refl refl refl refl refl refl refl (no_fall w)

  -- the marks of one scope go
  pub unmarked_calm : (n : ℕ) (w : State K) (s : ℕ) → Calm (Some s) n w (unmarked w s)
  unmarked_calm n w s =
      record {
        heeds =
            record {
              stays = λ t p. refl;
              calls = λ t p. refl;
              marks = λ t x p e h. elim h [ inl m ↦ inl (mark_stays w.posted (Mark s) t (turned_round s t p) m) | inr m ↦ inr (number_stays w.seen s t p m) ];
              told = λ t x i p e reads low. inl (alike i);
              held = λ t x y p e d. inl (held_by x y (ap (λ (o : Option (Scope K)). holders_of o) (sym d ∙ e)));
            };
        lists = record { seen = λ t p h. inl (number_left w.seen s t h).0; queued = λ t h. inl (h, λ i. i); passes = λ t p h. number_stays w.skipped s t p h; passed = λ t h. (number_left w.skipped s t h).0 };
        orderly = λ h. record { holders = h.holders; unique = h.unique };
        rises = no_fall w;
      }
    where
      alike : (i : Source) → SameOf w (unmarked w s) i
      alike (Cell m) = refl
      alike (Error t) = refl
      alike (Context k t) = refl

  -- a task holds a boundary, which is marked

  joined_marks : (w : State K) (b : ℕ) → is_live w b ≡ true → HasMark (post w (Mark b)).posted b
  joined_marks w b live = subst (λ (v : State K). HasMark v.posted b) (sym (pick_true (record w { posted = w.posted ++ Mark b ∷ [] }) w live)) (mark_last w.posted (Mark b ∷ []) b (inl refl))

  module _ (n : ℕ) (w : State K) (origin t b : ℕ) (x : Scope K) (live : at w.scopes b ≡ Some x) (task : is_some (at w.tasks t) ≡ true) where
    abbrev joined : Scope K
    joined = record x { holders = x.holders ++ (t, origin) ∷ [] }

    abbrev with_joined : State K
    with_joined = record w { scopes = put w.scopes b joined }

    joined_alike : (i : Source) → SameOf w with_joined i
    joined_alike (Cell m) = refl
    joined_alike (Error s) = sym (put_by (λ o. error_of o) w.scopes b x joined live refl s)
    joined_alike (Context k s) = sym (put_by (λ o. context_of k o) w.scopes b x joined live refl s)

    here_live : is_live with_joined b ≡ true
    here_live = ap (λ (o : Option (Scope K)). is_some o) (at_put_here w.scopes b joined b (eq_same b))

    abbrev posted_joined : State K
    posted_joined = post with_joined (Mark b)

    posted : Quiet with_joined posted_joined
    posted = post_quiet with_joined (Mark b)

    holders_joined : HoldersLive w → HoldersLive with_joined
    holders_joined h s =
        by_test (nat_eq b s)
        (
        λ q.
        subst (λ (o : Option (Scope K)). AllByRecursion (λ (d : ℕ × ℕ). is_some (at w.tasks d.0) ≡ true) (holders_of o)) (sym (at_put_here w.scopes b joined s q))
        (all_join (λ d. is_some (at w.tasks d.0) ≡ true) x.holders (t, origin)
        (subst (λ (o : Option (Scope K)). AllByRecursion (λ (d : ℕ × ℕ). is_some (at w.tasks d.0) ≡ true) (holders_of o)) live (h b)) task)
        )
        (
        λ q.
        subst (λ (o : Option (Scope K)). AllByRecursion (λ (d : ℕ × ℕ). is_some (at w.tasks d.0) ≡ true) (holders_of o)) (sym (at_put_other w.scopes b joined s q)) (h s)
        )

    there_joined : (s : ℕ) (y : Scope K) → at w.scopes s ≡ Some y → (z : Scope K) × (at with_joined.scopes s ≡ Some z) × (leavings (Some z) ≡ leavings (Some y))
    there_joined s y e = there_of (at with_joined.scopes s) (at w.scopes s) y (put_by (λ o. leavings o) w.scopes b x joined live refl s) e

    joined_calm : Calm None n w posted_joined
    joined_calm =
        record {
          heeds =
              record {
                stays = λ s p. leavings_by (at posted_joined.scopes s) (at with_joined.scopes s) (posted.stand s) ∙ put_by (λ o. leavings o) w.scopes b x joined live refl s;
                calls = λ s p. ap (λ (ls : List (ℕ × LastCall K)). at ls s) posted.calls;
                marks = λ s y p e h. let z = there_joined s y e in posted.marks s z.0 z.1 h;
                told = λ s y i p e reads low. inl (same_then w with_joined posted_joined i (joined_alike i) (same_quiet with_joined posted_joined i posted));
                held = λ s y z p e d. held s y z e d;
              };
          lists =
              listed_then None w with_joined posted_joined
              (λ s p live. live_by (at posted_joined.scopes s) (at with_joined.scopes s) (leavings_by (at posted_joined.scopes s) (at with_joined.scopes s) (posted.stand s)) live)
              (listed_same None w with_joined refl refl refl (λ t h. h)) posted.lists;
          orderly =
              λ h.
              record {
                holders = holders_stay with_joined posted_joined (λ s. holders_by (at posted_joined.scopes s) (at with_joined.scopes s) (posted.stand s)) posted.tasks (holders_joined h.holders);
                unique = posted.unique (unique_put w.scopes b x joined live h.unique);
              };
          rises = posted.rises;
        }
      where
        held : (s : ℕ) (y z : Scope K) → at w.scopes s ≡ Some y → at posted_joined.scopes s ≡ Some z → (is_held z ≡ is_held y) ⊎ Marked posted_joined s
        held s y z e d =
            by_test (nat_eq b s)
            (λ q. inr (inl (subst (λ (k : ℕ). HasMark posted_joined.posted k) (eqb-true b s q) (joined_marks with_joined b here_live))))
            (
            λ q.
            inl (held_stays w posted_joined s y z (holders_by (at posted_joined.scopes s) (at with_joined.scopes s) (posted.stand s) ∙ ap (λ (o : Option (Scope K)). holders_of o) (at_put_other w.scopes b joined s q)) e d)
            )

  joins_found : (n : ℕ) (w : State K) (origin t b : ℕ) (o : Option (Scope K)) → at w.scopes b ≡ o → is_some (at w.tasks t) ≡ true
      → Calm None n w (elim o as (λ z. State K) [
        | None ↦ w
        | Some x ↦ if holds x t then w else post (changed_scope w b (λ y. record y { holders = y.holders ++ (t, origin) ∷ [] }) o) (Mark b)
      ])
  joins_found n w origin t b None live task = calm_refl None n w
  joins_found n w origin t b (Some x) live task = calm_if None n w w (posted_joined n w origin t b x live task) (holds x t) (calm_refl None n w) (joined_calm n w origin t b x live task)

  joins_calm : (n : ℕ) (w : State K) (origin t : ℕ) (o : Option (ℕ × SideName)) → is_some (at w.tasks t) ≡ true → Calm None n w (joins w origin t o)
  joins_calm n w origin t None task = calm_refl None n w
  joins_calm n w origin t (Some (b, MainSide)) task = calm_refl None n w
  joins_calm n w origin t (Some (b, FallbackSide)) task = calm_refl None n w
  joins_calm n w origin t (Some (b, ChildrenSide)) task = joins_found n w origin t b (at w.scopes b) refl task

  pub suspends_calm : (n : ℕ) (w : State K) (s origin t : ℕ) (o : Option (TaskRow K)) → at w.tasks t ≡ o → CalmO None n w (suspends_on w s origin t o)
  suspends_calm n w s origin t None e = tt
  suspends_calm n w s origin t (Some x) e =
      let row : TaskRow K = record x { kind = SuspendedTask } in
      let v : State K = record w { tasks = put w.tasks t row } in
      let there : is_some (at v.tasks t) ≡ true = ap (λ (o : Option (TaskRow K)). is_some o) (at_put_here w.tasks t row t (eq_same t)) in
      calm_then None n w v (joins v origin t (location w s)) (quiet_calm None n w v (task_quiet w t row)) (joins_calm n v origin t (location w s) there)

  pub raised_calm : (n : ℕ) (w : State K) (s : ℕ) → CalmO None n w (raised w s)
  raised_calm n w s =
      let v : State K = change w s (λ x. record x { renders = x.renders + 1 }) in
      calm_o_if None n w (at_end (renders_of w s)) (Cut w (IdsExhausted Renders)) (Done v []) tt (quiet_calm None n w v (change_quiet w s (λ x. record x { renders = x.renders + 1 }) (λ x. refl)))

  -- looks

  look_one : (w : State K) (s : ℕ) → is_live w s ≡ true → Quiet w (record w { seen = join w.seen s })
  look_one w s live =
      record {
        stand = λ t. refl;
        cells = refl;
        calls = refl;
        tasks = λ t h. h;
        unique = λ h. h;
        lists =
            record {
              seen = λ t p h. elim (join_left w.seen s t h) [ inl g ↦ inl g | inr same ↦ inr (subst (λ (k : ℕ). is_live w k ≡ true) same live) ];
              queued = λ t h. inl (h, λ i. i);
              passes = λ t p h. h;
              passed = λ t h. h;
            };
        marks = λ t x e h. elim h [ inl m ↦ inl m | inr m ↦ inr (join_keeps w.seen s t m) ];
        rises = no_fall w;
      }

  look_other : (w : State K) (t : ℕ) → is_some (at w.tasks t) ≡ true → Quiet w (record w { queued = join w.queued t })
  look_other w t there =
      record {
        stand = λ s. refl;
        cells = refl;
        calls = refl;
        tasks = λ u h. h;
        unique = λ h. h;
        lists =
            record {
              seen = λ s p h. inl h;
              queued = λ u h. elim (join_left w.queued t u h) [ inl g ↦ inl (g, λ i. i) | inr same ↦ inr (subst (λ (k : ℕ). is_some (at w.tasks k) ≡ true) same there) ];
              passes = λ s p h. h;
              passed = λ s h. h;
            };
        marks = λ s x e h. h;
        rises = no_fall w;
      }

  quiet_where : (w x : State K) (b : Bool) → (b ≡ true → Quiet w x) → Quiet w (if b then x else w)
  quiet_where w x true f = f refl
  quiet_where w x false f = quiet_refl w

  pub look_on_quiet : (ps : List Posted) (w : State K) → Quiet w (look_on ps w)
  look_on_quiet [] w = quiet_refl w
  look_on_quiet (Mark s ∷ ps) w =
      let v : State K = if is_live w s then record w { seen = join w.seen s } else w in
      quiet_then w v (look_on ps v) (quiet_where w (record w { seen = join w.seen s }) (is_live w s) (λ q. look_one w s q)) (look_on_quiet ps v)
  look_on_quiet (Woken t ∷ ps) w =
      let v : State K = if is_some (at w.tasks t) then record w { queued = join w.queued t } else w in
      quiet_then w v (look_on ps v) (quiet_where w (record w { queued = join w.queued t }) (is_some (at w.tasks t)) (λ q. look_other w t q)) (look_on_quiet ps v)

  -- what was posted of a live scope is seen
  pub look_sees : (ps : List Posted) (w : State K) (t : ℕ) (x : Scope K) → at w.scopes t ≡ Some x → HasMark ps t → Marked (look_on ps w) t
  look_sees [] w t x e h = absurd h
  look_sees (Mark s ∷ ps) w t x e (inl h) =
      let same : s ≡ t = mark_of s t h in
      let here : is_live w s ≡ true = ap (λ (k : ℕ). is_live w k) same ∙ ap (λ (o : Option (Scope K)). is_some o) e in
      let v : State K = record w { seen = join w.seen s } in
      let seen : Marked v t = inr (subst (λ (k : ℕ). has (join w.seen s) k ≡ true) same (join_has w.seen s)) in
      subst (λ (u : State K). Marked (look_on ps u) t) (sym (pick_true v w here)) ((look_on_quiet ps v).marks t x e seen)
    where
      mark_of : (a b : ℕ) → Mark a ≡ Mark b → a ≡ b
      mark_of a b h = cc
  look_sees (Mark s ∷ ps) w t x e (inr h) =
      let v : State K = if is_live w s then record w { seen = join w.seen s } else w in
      let f : Quiet w v = quiet_where w (record w { seen = join w.seen s }) (is_live w s) (λ q. look_one w s q) in
      let y = there_of (at v.scopes t) (at w.scopes t) x (leavings_by (at v.scopes t) (at w.scopes t) (f.stand t)) e in
      look_sees ps v t y.0 y.1 h
  look_sees (Woken u ∷ ps) w t x e (inl h) = cc
  look_sees (Woken u ∷ ps) w t x e (inr h) =
      let v : State K = if is_some (at w.tasks u) then record w { queued = join w.queued u } else w in
      let f : Quiet w v = quiet_where w (record w { queued = join w.queued u }) (is_some (at w.tasks u)) (λ q. look_other w u q) in
      let y = there_of (at v.scopes t) (at w.scopes t) x (leavings_by (at v.scopes t) (at w.scopes t) (f.stand t)) e in
      look_sees ps v t y.0 y.1 h

  pub look_quiet : (w : State K) → Quiet w (look w)
  look_quiet w =
      let u : State K = record w { posted = [] } in
      let f : Quiet u (look w) = look_on_quiet w.posted u in
      record {
        stand = f.stand;
        cells = f.cells;
        calls = f.calls;
        tasks = f.tasks;
        unique = f.unique;
        lists = record { seen = f.lists.seen; queued = f.lists.queued; passes = f.lists.passes; passed = f.lists.passed };
        marks = λ t x e h. elim h [ inl m ↦ look_sees w.posted u t x e m | inr m ↦ f.marks t x e (inr m) ];
        rises = f.rises;
      }

  pub unqueue : (w : State K) (t : ℕ) → Quiet w (record w { queued = drop_number w.queued t })
  unqueue w t =
      record {
        stand = λ s. refl;
        cells = refl;
        calls = refl;
        tasks = λ u h. h;
        unique = λ h. h;
        lists = record { seen = λ s p h. inl h; queued = λ u h. inl ((number_left w.queued t u h).0, λ i. i); passes = λ s p h. h; passed = λ s h. h };
        marks = λ s x e h. h;
        rises = no_fall w;
      }

  drop_quiet : (go : State K → State K) (w : State K) (o : Option ℕ) → ((v : State K) → Quiet v (go v)) → Quiet w (drop_then go w o)
  drop_quiet go w None h = quiet_refl w
  drop_quiet go w (Some t) h =
      let v : State K = record w { queued = drop_number w.queued t } in
      quiet_then w v (go v) (unqueue w t) (h v)

  pub drops_quiet : (qs : List ℕ) (w : State K) → Quiet w (drops qs w)
  drops_quiet [] w = quiet_refl w
  drops_quiet (q ∷ qs) w = drop_quiet (λ v. drops qs v) w (paused w (found w)) (λ v. drops_quiet qs v)

  looked_quiet : (w : State K) (o : Option Work) → Quiet w (looked w o)
  looked_quiet w (Some x) = quiet_refl w
  looked_quiet w None = let v : State K = look w in quiet_then w v (drops v.queued v) (look_quiet w) (drops_quiet v.queued v)

  pub rest_quiet : (w : State K) → Quiet w (at_rest w)
  rest_quiet w = let v : State K = drops w.queued w in quiet_then w v (looked v (found v)) (drops_quiet w.queued w) (looked_quiet v (found v))

  mounted_by : (w : State K) (es : List (ℕ × Scope K)) (t : ℕ) → standing (at (mounted w es) t) ≡ standing (at es t)
  mounted_by w [] t = refl
  mounted_by w (e ∷ es) t =
      let y : Scope K = record (e.1) { mounted = (e.1).mounted || is_shown w e.0 } in
      by_test (nat_eq e.0 t)
      (λ q. ap (λ (o : Option (Scope K)). standing o) (at_here e.0 y (mounted w es) t q) ∙ sym (ap (λ (o : Option (Scope K)). standing o) (at_here e.0 e.1 es t q)))
      (
      λ q.
      ap (λ (o : Option (Scope K)). standing o) (at_there e.0 y (mounted w es) t q)
      ∙ mounted_by w es t
      ∙ sym (ap (λ (o : Option (Scope K)). standing o) (at_there e.0 e.1 es t q))
      )

  mounted_none : (w : State K) (es : List (ℕ × Scope K)) (t : ℕ) → at es t ≡ None → at (mounted w es) t ≡ None
  mounted_none w [] t h = refl
  mounted_none w (e ∷ es) t h =
      let y : Scope K = record (e.1) { mounted = (e.1).mounted || is_shown w e.0 } in
      by_test (nat_eq e.0 t)
      (λ q. none_some h (at_here e.0 e.1 es t q))
      (λ q. at_there e.0 y (mounted w es) t q ∙ mounted_none w es t (sym (at_there e.0 e.1 es t q) ∙ h))

  mounted_unique : (w : State K) (es : List (ℕ × Scope K)) → Unique es → Unique (mounted w es)
  mounted_unique w [] h = tt
  mounted_unique w (e ∷ es) h = (mounted_none w es e.0 h.0, mounted_unique w es h.1)

  pub mounted_quiet : (w : State K) → Quiet w (mounted_state w)
  mounted_quiet w = record { stand = mounted_by w w.scopes; cells = refl; calls = refl; tasks = λ t h. h; unique = λ h. mounted_unique w w.scopes h; lists = listed_same None w (mounted_state w) refl refl refl (λ t h. h); marks = λ t x e h. h; rises = no_fall w }

  -- inputs

  all_posted : (es : List (ℕ × Scope K)) (w : State K) → Quiet w (post_all es w)
  all_posted [] w = quiet_refl w
  all_posted (e ∷ es) w = quiet_then w (post w (Mark e.0)) (post_all es (post w (Mark e.0))) (post_quiet w (Mark e.0)) (all_posted es (post w (Mark e.0)))

  message_quiet : (w : State K) (p : Post) → Quiet w (post_message w p)
  message_quiet w (MarkScope s) = post_quiet w (Mark s)
  message_quiet w (WakeTask t) = post_quiet w (Woken t)
  message_quiet w AllDirty = all_posted w.scopes w

  messages_quiet : (w : State K) (ms : List Message) → Quiet w (post_messages w ms)
  messages_quiet w [] = quiet_refl w
  messages_quiet w (m ∷ ms) =
      let v : State K = post_message w m.what in
      quiet_then w v (post_messages v ms) (message_quiet w m.what) (messages_quiet v ms)

  taken_calm : (n : ℕ) (m : Machine K) (input : Input K) → Calm None n m.state (taken_in m input).state
  taken_calm n m (EventAt name payload element bubbles) = calm_refl None n m.state
  taken_calm n m (WakeOf t) = quiet_calm None n m.state (post m.state (Woken t)) (post_quiet m.state (Woken t))
  taken_calm n m (WriteOf c v) = written_calm n m.state c v (at m.state.cells c)
  taken_calm n m (MarkOf s) = quiet_calm None n m.state (post m.state (Mark s)) (post_quiet m.state (Mark s))
  taken_calm n m (Drain messages) = quiet_calm None n m.state (post_messages m.state messages) (messages_quiet m.state messages)

  looked_where : (m : Machine K) (ls : List (Listener K)) → Quiet m.state (looked_where_quiet m ls).state
  looked_where m [] = look_quiet m.state
  looked_where m (l ∷ ls) = quiet_refl m.state

  pub then_looked_quiet : (m : Machine K) → Quiet m.state (then_looked m).state
  then_looked_quiet m = looked_where m (waiting m)

  pub take_calm : (n : ℕ) (m : Machine K) (inputs : List (Input K)) → Calm None n m.state (take_next m inputs).state
  take_calm n m [] = calm_refl None n m.state
  take_calm n m (input ∷ rest) =
      let u : Machine K = record m { inputs = rest; taken = m.taken + 1; units = 0; default_enabled = true; listeners = [] } in
      let v : Machine K = taken_in u input in
      calm_then None n m.state v.state (then_looked v).state (taken_calm n u input) (quiet_calm None n v.state (then_looked v).state (then_looked_quiet v))
