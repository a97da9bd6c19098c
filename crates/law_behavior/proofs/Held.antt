-- A task holds a boundary from a suspension until it ends; a run keeps what its body read.
use Rattle.std.proofs.Common.{ℕ, ◌+◌, ◌≤◌, Bool, true, false, List, [], ◌∷◌, ◌++◌, ◌≡◌, ◌⊎◌, inl, inr, ◌||◌, not, refl, sym, ap, ◌∙◌, subst, nat_eq, arith}
use Rattle.std.proofs.lemmas.Bool.{eqb-true}
use Rattle.std.specs.Prelude.{Option, Some, None, if◌then◌else◌, is_some}
use Rattle.std.specs.List.{list_any}
use Rattle.rt_lemmas.proofs.Numbers.{eq_past as above_bound}
use Rattle.rt_model.specs.Lists.{at, put, without, kept_by, drop_number}
use Rattle.rt_model.specs.Tree.{Types}
use Rattle.rt_model.specs.World.{NewCell, Write, DropCell, NewContext, Reset, ReadInto, Firsts, Command, Spawn, RemoveFuture, ClearErrors, Application}
use Rattle.rt_model.specs.Laws.{IsLawful}
use Rattle.rt_model.specs.State.{SideName, ChildrenSide, Posted, Mark, Woken, SuspendedTask, Scope, TaskRow, State, changed_scope, change, location, holds, error_context}
use Rattle.rt_model.specs.Commands.{drop_posted, holding, released, post, end, command, commands}
use Rattle.rt_model.specs.Run.{with_next, joins, suspends_on}
use Rattle.rt_model.specs.Replay.{Entry, Machine, mounted_state}
use Rattle.rt_model.specs.Causes.{Limits}
use Rattle.rt_model.proofs.Maps.{by_test, pick_true, pick_false, eq_same, at_here, at_there, at_put_here, at_put_none, at_without_here, at_without_none, at_append_none}
use Rattle.rt_model.proofs.Tour.{AllFresh}
use Rattle.law_moves.specs.Moves.{Move, entries, Leads}
use Rattle.law_moves.proofs.Logs.{logs_are_moves}
use Rattle.law_behavior.specs.Marking.{IsPosted}
use Rattle.law_behavior.specs.Holding.{holds_at, EndsOther, NoneEnds, SuspensionsHold, HoldersStay, EndsRelease}
use Rattle.law_behavior.specs.Along.{NoneRemoves, HoldersLast, LoggedHoldersLast}
use Rattle.law_behavior.proofs.Readers.{posted_last, posted_where, post_posts}
use Rattle.law_behavior.proofs.Frames.{Free, permits, Frame, Called}
use Rattle.law_behavior.proofs.Enduring.{Again, Enduring, finely, kept_so}
use Rattle.law_behavior.proofs.Commanded.{MayClear, Allowed, caused_anyway, AllAllowed, commands_on}
use Rattle.law_behavior.proofs.Onwards.{moves_on, good_anyway, spares_all}
use Rattle.law_behavior.proofs.Steadfast.{from_zero, lawful_draw, all_allowed, Of, Other, Bears, of_again, of_endures}

-- holders

held_last : (hs : List (ℕ × ℕ)) (t origin : ℕ) → list_any (λ h. nat_eq h.0 t) (hs ++ (t, origin) ∷ []) ≡ true
held_last [] t origin = ap (λ (b : Bool). b || false) (eq_same t)
held_last (h ∷ hs) t origin = either (nat_eq h.0 t) (held_last hs t origin)
  where
    either : (b : Bool) → list_any (λ d. nat_eq d.0 t) (hs ++ (t, origin) ∷ []) ≡ true → b || list_any (λ d. nat_eq d.0 t) (hs ++ (t, origin) ∷ []) ≡ true
    either true g = refl
    either false g = g

-- who isn't the one that ended goes on to hold
held_on : (hs : List (ℕ × ℕ)) (t u : ℕ) → nat_eq u t ≡ false → list_any (λ h. nat_eq h.0 t) hs ≡ true → list_any (λ h. nat_eq h.0 t) (kept_by (λ h. not (nat_eq h.0 u)) hs) ≡ true
held_on [] t u other h = h
held_on (d ∷ hs) t u other h =
    by_test (nat_eq d.0 u)
    (
    λ q.
    let same : d.0 ≡ u = eqb-true d.0 u q in
    let no : nat_eq d.0 t ≡ false = ap (λ (n : ℕ). nat_eq n t) same ∙ other in
    ap (λ (xs : List (ℕ × ℕ)). list_any (λ e. nat_eq e.0 t) xs) (pick_false (d ∷ kept_by (λ e. not (nat_eq e.0 u)) hs) (kept_by (λ e. not (nat_eq e.0 u)) hs) (ap (λ (b : Bool). not b) q))
    ∙ held_on hs t u other (sym (ap (λ (b : Bool). b || list_any (λ e. nat_eq e.0 t) hs) no) ∙ h)
    )
    (
    λ q.
    ap (λ (xs : List (ℕ × ℕ)). list_any (λ e. nat_eq e.0 t) xs) (pick_true (d ∷ kept_by (λ e. not (nat_eq e.0 u)) hs) (kept_by (λ e. not (nat_eq e.0 u)) hs) (ap (λ (b : Bool). not b) q))
    ∙ either (nat_eq d.0 t) (λ g. held_on hs t u other g) h
    )
  where
    either : (b : Bool) → (list_any (λ e. nat_eq e.0 t) hs ≡ true → list_any (λ e. nat_eq e.0 t) (kept_by (λ e. not (nat_eq e.0 u)) hs) ≡ true)
        → b || list_any (λ e. nat_eq e.0 t) hs ≡ true → b || list_any (λ e. nat_eq e.0 t) (kept_by (λ e. not (nat_eq e.0 u)) hs) ≡ true
    either true go g = refl
    either false go g = go g

held_longer : (hs : List (ℕ × ℕ)) (t u origin : ℕ) → list_any (λ h. nat_eq h.0 t) hs ≡ true → list_any (λ h. nat_eq h.0 t) (hs ++ (u, origin) ∷ []) ≡ true
held_longer [] t u origin h = cc
held_longer (d ∷ hs) t u origin h = either (nat_eq d.0 t) (λ g. held_longer hs t u origin g) h
  where
    either : (b : Bool) → (list_any (λ h. nat_eq h.0 t) hs ≡ true → list_any (λ h. nat_eq h.0 t) (hs ++ (u, origin) ∷ []) ≡ true)
        → b || list_any (λ h. nat_eq h.0 t) hs ≡ true → b || list_any (λ h. nat_eq h.0 t) (hs ++ (u, origin) ∷ []) ≡ true
    either true go g = refl
    either false go g = go g

none_held : (hs : List (ℕ × ℕ)) (t : ℕ) → list_any (λ h. nat_eq h.0 t) (kept_by (λ h. not (nat_eq h.0 t)) hs) ≡ false
none_held [] t = refl
none_held (d ∷ hs) t =
    by_test (nat_eq d.0 t)
    (
    λ q.
    ap (λ (xs : List (ℕ × ℕ)). list_any (λ e. nat_eq e.0 t) xs) (pick_false (d ∷ kept_by (λ e. not (nat_eq e.0 t)) hs) (kept_by (λ e. not (nat_eq e.0 t)) hs) (ap (λ (b : Bool). not b) q))
    ∙ none_held hs t
    )
    (
    λ q.
    ap (λ (xs : List (ℕ × ℕ)). list_any (λ e. nat_eq e.0 t) xs) (pick_true (d ∷ kept_by (λ e. not (nat_eq e.0 t)) hs) (kept_by (λ e. not (nat_eq e.0 t)) hs) (ap (λ (b : Bool). not b) q))
    ∙ ap (λ (b : Bool). b || list_any (λ e. nat_eq e.0 t) (kept_by (λ e. not (nat_eq e.0 t)) hs)) q
    ∙ none_held hs t
    )

module _ {K : Types} where
  abbrev held_in : ℕ → Option (Scope K) → Bool
  held_in t o = elim o as (λ z. Bool) [ None ↦ false | Some x ↦ holds x t ]

  held_row : (w : State K) (b t : ℕ) (o : Option (Scope K)) → at w.scopes b ≡ o → held_in t o ≡ true → Of b (λ x. holds x t ≡ true) w
  held_row w b t None e h = cc
  held_row w b t (Some x) e h = record { row = x; there = e; holds = h }

  held_at : (w : State K) (b t : ℕ) → Of b (λ x. holds x t ≡ true) w → holds_at w b t ≡ true
  held_at w b t h = ap (λ (o : Option (Scope K)). held_in t o) h.there ∙ h.holds

  holders_bear : (b t : ℕ) → Bears {K = K} b (λ x. holds x t ≡ true) Free (λ u. Other t u) Free
  holders_bear b t =
      record {
        same = λ x y same q. ap (λ (hs : List (ℕ × ℕ)). list_any (λ h. nat_eq h.0 t) hs) (same.but).holders ∙ q;
        hooks = λ x h q. q;
        joins = λ x u origin q. held_longer x.holders t u origin q;
        throws = λ x e none q. q;
        clears = λ x may q. q;
        feeds = λ x c may q. q;
        ends = λ x u may q. held_on x.holders t u may q;
      }

  holders_endure : (b t : ℕ) → Enduring {K = K} (λ w. Of b (λ x. holds x t ≡ true) w) 0 Free (λ u. Other t u) Free (λ s. Other b s)
  holders_endure b t = of_endures b (λ x. holds x t ≡ true) Free (λ u. Other t u) Free (holders_bear b t)

  holders_frame : (app : Application K) (b t : ℕ) → Frame app (λ w. Of b (λ x. holds x t ≡ true) w) (λ w. Of b (λ x. holds x t ≡ true) w) 0 (permits Free (λ u. Other t u) Free (λ s. Other b s))
  holders_frame app b t = finely (λ w. Of b (λ x. holds x t ≡ true) w) 0 Free (λ u. Other t u) Free (λ s. Other b s) (holders_endure b t) app

  any_clear : (app : Application K) (b t : ℕ) (o : Option ℕ) → MayClear app (λ w. Of b (λ x. holds x t ≡ true) w) (λ w. Of b (λ x. holds x t ≡ true) w) 0 (permits Free (λ u. Other t u) Free (λ s. Other b s)) (holders_frame app b t) o
  any_clear app b t None = tt
  any_clear app b t (Some c) = tt

  ends_other : (app : Application K) (b t : ℕ) (w : State K) (s : ℕ) (c : Command K) → EndsOther t c
      → Allowed app (λ w. Of b (λ x. holds x t ≡ true) w) (λ w. Of b (λ x. holds x t ≡ true) w) 0 (permits Free (λ u. Other t u) Free (λ s. Other b s)) (holders_frame app b t) w s c
  ends_other app b t w s ClearErrors h = any_clear app b t (error_context w s)
  ends_other app b t w s (Spawn u a forever isomorphic) h = (from_zero u, tt)
  ends_other app b t w s (RemoveFuture u) h = h
  ends_other app b t w s (Write n v) h = tt
  ends_other app b t w s (DropCell n) h = tt
  ends_other app b t w s (NewCell n v) h = tt
  ends_other app b t w s (NewContext n target) h = tt
  ends_other app b t w s (Reset n) h = tt
  ends_other app b t w s (ReadInto n source) h = tt
  ends_other app b t w s c h = tt

  none_ends : (app : Application K) (b t : ℕ) (w : State K) (s : ℕ) (polled : Option ℕ) (cs : List (Command K)) → NoneEnds t cs
      → AllAllowed app (λ w. Of b (λ x. holds x t ≡ true) w) (λ w. Of b (λ x. holds x t ≡ true) w) 0 (permits Free (λ u. Other t u) Free (λ s. Other b s)) (holders_frame app b t) w s polled cs
  none_ends app b t w s polled [] h = tt
  none_ends app b t w s polled (c ∷ cs) h = (
    (
      ends_other app b t w s c h.0,
      caused_anyway app (λ w. Of b (λ x. holds x t ≡ true) w) (λ w. Of b (λ x. holds x t ≡ true) w) 0 (permits Free (λ u. Other t u) Free (λ s. Other b s)) (holders_frame app b t) (λ v d. tt) w s c,
    ),
    none_ends app b t (command app w s polled c) s polled cs h.1,
  )

  -- the number of a task was drawn, and the task has ended or it holds a boundary
  abbrev HeldOrEnded : ℕ → ℕ → State K → Type 0
  HeldOrEnded b t w = (t + 1 ≤ w.next.tasks) × ((at w.tasks t ≡ None) ⊎ Of b (λ x. holds x t ≡ true) w)

  carried : (b t : ℕ) (w v : State K) → t + 1 ≤ v.next.tasks → (at w.tasks t ≡ None → at v.tasks t ≡ None) → (Of b (λ x. holds x t ≡ true) w → Of b (λ x. holds x t ≡ true) v) → HeldOrEnded b t w → HeldOrEnded b t v
  carried b t w v low f g h = (low, elim h.1 [ inl none ↦ inl (f none) | inr held ↦ inr (g held) ])

  ended_or : (b t : ℕ) (w : State K) (u : ℕ) → HeldOrEnded b t w → HeldOrEnded b t (record w { tasks = without w.tasks u; scopes = released w.scopes u })
  ended_or b t w u h =
      let v : State K = record w { tasks = without w.tasks u; scopes = released w.scopes u } in
      by_test (nat_eq u t)
      (λ q. (h.0, inl (at_without_here w.tasks u t q)))
      (λ q. carried b t w v h.0 (λ none. at_without_none w.tasks u t none) (λ held. (holders_endure b t).ends w u q held) h)

  held_endures : (b t : ℕ) → Enduring {K = K} (λ w. HeldOrEnded b t w) (t + 1) Free Free Free (λ s. Other b s)
  held_endures b t =
      let base : Enduring {K = K} (λ w. Of b (λ x. holds x t ≡ true) w) 0 Free (λ u. Other t u) Free (λ s. Other b s) = holders_endure b t in
      record {
        low = λ w h. h.0;
        others =
            λ w v scopes tasks next h.
            carried b t w v (subst (λ (n : ℕ). t + 1 ≤ n) (sym (ap (λ (f : Firsts). f.tasks) next)) h.0)
            (λ none. ap (λ (es : List (ℕ × TaskRow K)). at es t) tasks ∙ none) (λ held. base.others w v scopes tasks next held) h;
        nexts = λ w next low h. carried b t w (with_next w next) low (λ none. none) (λ held. base.nexts w next (from_zero next.tasks) held) h;
        rows = λ w s x y e same h. carried b t w (record w { scopes = put w.scopes s y }) h.0 (λ none. none) (λ held. base.rows w s x y e same held) h;
        hooks = λ w s x k e h. carried b t w (record w { scopes = put w.scopes s (record x { hooks = x.hooks ++ k ∷ [] }) }) h.0 (λ none. none) (λ held. base.hooks w s x k e held) h;
        joins =
            λ w s u origin x e h.
            carried b t w (record w { scopes = put w.scopes s (record x { holders = x.holders ++ (u, origin) ∷ [] }) }) h.0 (λ none. none) (λ held. base.joins w s u origin x e held) h;
        throws =
            λ w s x f e empty h. carried b t w (record w { scopes = put w.scopes s (record x { error = Some f }) }) h.0 (λ none. none) (λ held. base.throws w s x f e empty held) h;
        clears = λ w s x e may h. carried b t w (record w { scopes = put w.scopes s (record x { error = None }) }) h.0 (λ none. none) (λ held. base.clears w s x e may held) h;
        feeds = λ w s c x e may h. carried b t w (record w { scopes = put w.scopes s (record x { component = c }) }) h.0 (λ none. none) (λ held. base.feeds w s c x e may held) h;
        ends = λ w u may h. ended_or b t w u h;
        spawns =
            λ w n x live low h.
            carried b t w (record w { tasks = w.tasks ++ (n, x) ∷ [] }) h.0 (λ none. at_append_none w.tasks n x t (above_bound t n low) ∙ none)
            (λ held. base.spawns w n x live (from_zero n) held) h;
        tasks = λ w u x y e same h. carried b t w (record w { tasks = put w.tasks u y }) h.0 (λ none. at_put_none w.tasks u y x t e none) (λ held. base.tasks w u x y e same held) h;
        makes = λ w n x h. carried b t w (record w { scopes = w.scopes ++ (n, x) ∷ [] }) h.0 (λ none. none) (λ held. base.makes w n x held) h;
        removes = λ w s other h. carried b t w (record w { scopes = without w.scopes s }) h.0 (λ none. none) (λ held. base.removes w s other held) h;
        mounts = λ w h. carried b t w (mounted_state w) h.0 (λ none. none) (λ held. base.mounts w held) h;
      }

  held_frame : (app : Application K) (b t : ℕ) → Frame app (λ w. HeldOrEnded b t w) (λ w. HeldOrEnded b t w) (t + 1) (permits Free Free Free (λ s. Other b s))
  held_frame app b t = finely (λ w. HeldOrEnded b t w) (t + 1) Free Free Free (λ s. Other b s) (held_endures b t) app

  held_again : (b t : ℕ) → Again {K = K} (λ w. HeldOrEnded b t w)
  held_again b t = λ w s x y e same h.
      carried b t w (record w { scopes = put w.scopes s y }) h.0 (λ none. none)
      (λ held. (of_again b (λ z. holds z t ≡ true) (λ z i keeps q. ap (λ (hs : List (ℕ × ℕ)). list_any (λ d. nat_eq d.0 t) hs) keeps.holders ∙ q)) w s x y e same held) h

  held_called : (app : Application K) (b t : ℕ) → Called app (λ w. HeldOrEnded b t w) (t + 1)
  held_called app b t = kept_so (λ w. HeldOrEnded b t w) (t + 1) Free Free Free (λ s. Other b s) (held_endures b t) app (held_again b t)

  held_freely : (app : Application K) (b t : ℕ) (w : State K) (s : ℕ) (polled : Option ℕ) (cs : List (Command K)) → AllFresh app (t + 1) cs → Unit {0}
      → AllAllowed app (λ w. HeldOrEnded b t w) (λ w. HeldOrEnded b t w) (t + 1) (permits Free Free Free (λ s. Other b s)) (held_frame app b t) w s polled cs
  held_freely app b t w s polled cs f g = all_allowed app (λ w. HeldOrEnded b t w) (λ w. HeldOrEnded b t w) (t + 1) Free (λ s. Other b s) (held_frame app b t) w s polled cs f

  held_lasts : (app : Application K) → IsLawful K app → (limits : Limits) (m v : Machine K) (moves : List Move) (b t : ℕ) (leads : Leads app limits m moves v) → NoneRemoves b (entries moves) → HeldOrEnded b t m.state → HeldOrEnded b t v.state
  held_lasts app lawful limits m v moves b t leads stays h =
      moves_on app (λ w. HeldOrEnded b t w) (λ w. HeldOrEnded b t w) (t + 1) (permits Free Free Free (λ s. Other b s)) (held_frame app b t) (λ u. tt) (held_called app b t) (λ w s polled cs. Unit {0}) (λ w s polled cs f g. held_freely app b t w s polled cs f g) (lawful_draw app (t + 1) lawful)
      limits m v moves leads
      (good_anyway app (λ w. HeldOrEnded b t w) (λ w. HeldOrEnded b t w) (t + 1) (permits Free Free Free (λ s. Other b s)) (held_frame app b t) (λ u. tt) (held_called app b t) (λ w s polled cs. Unit {0}) (λ w s polled cs f g. held_freely app b t w s polled cs f g) (lawful_draw app (t + 1) lawful) (λ w s polled cs. tt) limits m v moves leads)
      (spares_all app (λ w. HeldOrEnded b t w) (λ w. HeldOrEnded b t w) (t + 1) (permits Free Free Free (λ s. Other b s)) (held_frame app b t) (λ u. tt) (held_called app b t) (λ w s polled cs. Unit {0}) (λ w s polled cs f g. held_freely app b t w s polled cs f g) (lawful_draw app (t + 1) lawful) b (λ s q. q) (λ n. tt) (λ n. tt) (λ n. tt) (λ w c. tt) (λ w h. h) limits m v moves leads stays)
      h

  still_held : (w : State K) (b t : ℕ) → is_some (at w.tasks t) ≡ true → (at w.tasks t ≡ None) ⊎ Of b (λ x. holds x t ≡ true) w → holds_at w b t ≡ true
  still_held w b t live (inl none) = let absurdity : true ≡ false = sym live ∙ ap (λ (o : Option (TaskRow K)). is_some o) none in cc
  still_held w b t live (inr held) = held_at w b t held

  released_none : (es : List (ℕ × Scope K)) (t b : ℕ) → held_in t (at (released es t) b) ≡ false
  released_none [] t b = refl
  released_none (d ∷ es) t b =
      let row : Scope K = record (d.1) { holders = kept_by (λ h. not (nat_eq h.0 t)) (d.1).holders } in
      by_test (nat_eq d.0 b)
      (λ q. ap (λ (o : Option (Scope K)). held_in t o) (at_here d.0 row (released es t) b q) ∙ none_held (d.1).holders t)
      (λ q. ap (λ (o : Option (Scope K)). held_in t o) (at_there d.0 row (released es t) b q) ∙ released_none es t b)

  holding_marks : (es : List (ℕ × Scope K)) (t b : ℕ) → held_in t (at es b) ≡ true → IsPosted (holding es t) (Mark b)
  holding_marks [] t b h = cc
  holding_marks (d ∷ es) t b h =
      by_test (nat_eq d.0 b)
      (
      λ q.
      let held : holds d.1 t ≡ true = sym (ap (λ (o : Option (Scope K)). held_in t o) (at_here d.0 d.1 es b q)) ∙ h in
      subst (λ (ps : List Posted). IsPosted ps (Mark b)) (sym (pick_true (Mark d.0 ∷ holding es t) (holding es t) held)) (inl (ap (λ (n : ℕ). Mark n) (eqb-true d.0 b q)))
      )
      (
      λ q.
      posted_where (holds d.1 t) (Mark d.0) (Mark b) (holding es t)
      (holding_marks es t b (sym (ap (λ (o : Option (Scope K)). held_in t o) (at_there d.0 d.1 es b q)) ∙ h))
      )

  live_row : (w : State K) (b : ℕ) (o : Option (Scope K)) → at w.scopes b ≡ o → is_some o ≡ true → (x : Scope K) × (at w.scopes b ≡ Some x)
  live_row w b None e h = cc
  live_row w b (Some x) e h = (x, e)

  joined_holds : (w : State K) (origin t b : ℕ) (x : Scope K) → at w.scopes b ≡ Some x → holds_at (joins w origin t (Some (b, ChildrenSide))) b t ≡ true
  joined_holds w origin t b x e =
      let u : State K = change w b (λ y. record y { holders = y.holders ++ (t, origin) ∷ [] }) in
      let v : State K = post u (Mark b) in
      let joined : Scope K = record x { holders = x.holders ++ (t, origin) ∷ [] } in
      let is : joins w origin t (Some (b, ChildrenSide)) ≡ (if holds x t then w else v) =
      ap (λ (o : Option (Scope K)). elim o as (λ z. State K) [ None ↦ w | Some y ↦ if holds y t then w else v ]) e in
      let changed : u ≡ record w { scopes = put w.scopes b joined } =
      ap (λ (o : Option (Scope K)). changed_scope w b (λ y. record y { holders = y.holders ++ (t, origin) ∷ [] }) o) e in
      let now : holds_at v b t ≡ true =
      ap (λ (z : State K). holds_at z b t) (post_posts u (Mark b)).alike
      ∙ ap (λ (z : State K). holds_at z b t) changed
      ∙ ap (λ (o : Option (Scope K)). held_in t o) (at_put_here w.scopes b joined b (eq_same b))
      ∙ held_last x.holders t origin in
      ap (λ (z : State K). holds_at z b t) is
      ∙ by_test (holds x t)
      (λ q. ap (λ (z : State K). holds_at z b t) (pick_true w v q) ∙ ap (λ (o : Option (Scope K)). held_in t o) e ∙ q)
      (λ q. ap (λ (z : State K). holds_at z b t) (pick_false w v q) ∙ now)

pub suspensions_hold : (K : Types) → SuspensionsHold K
suspensions_hold K w s origin t b row task place live =
    let u : State K = record w { tasks = put w.tasks t (record row { kind = SuspendedTask }) } in
    let x = live_row w b (at w.scopes b) refl live in
    let v : State K = joins u origin t (location w s) in (
      v,
      ap (λ (o : Option (TaskRow K)). suspends_on w s origin t o) task,
      ap (λ (o : Option (ℕ × SideName)). holds_at (joins u origin t o) b t) place ∙ joined_holds u origin t b x.0 x.1,
    )

pub holders_stay : {K : Types} (app : Application K) → HoldersStay app
holders_stay {K = K} app w s polled cs b t none h =
    held_at (commands app w s polled cs) b t
    (commands_on app (λ w. Of b (λ x. holds x t ≡ true) w) (λ w. Of b (λ x. holds x t ≡ true) w) 0 (permits Free (λ u. Other t u) Free (λ s. Other b s)) (holders_frame app b t) w s polled cs (none_ends app b t w s polled cs none) (held_row w b t (at w.scopes b) refl h))

pub holders_last : {K : Types} (app : Application K) → HoldersLast app
holders_last app lawful limits m v moves b t leads stays drawn live h =
    let low : t + 1 ≤ m.state.next.tasks = omega (arith, drawn) in
    still_held v.state b t live (held_lasts app lawful limits m v moves b t leads stays (low, inr (held_row m.state b t (at m.state.scopes b) refl h))).1

pub logged_holders_last : {K : Types} (app : Application K) → LoggedHoldersLast app
logged_holders_last app lawful limits m v log b t settled accepted stays drawn live h =
    let found = logs_are_moves app limits m v log settled accepted in
    holders_last app lawful limits m v found.0 b t found.1 (subst (λ (es : List Entry). NoneRemoves b es) (sym found.2) stays) drawn live h

pub ends_release : (K : Types) → EndsRelease K
ends_release K w t row task =
    let v : State K = record w {
      tasks = without w.tasks t;
      posted = drop_posted w.posted (Woken t) ++ holding w.scopes t;
      queued = drop_number w.queued t;
      scopes = released w.scopes t;
    } in
    let is : end w t ≡ v = pick_true v w (ap (λ (o : Option (TaskRow K)). is_some o) task) in
    record {
      released = λ b. ap (λ (z : State K). holds_at z b t) is ∙ released_none w.scopes t b;
      marked =
          λ b h.
          subst (λ (z : State K). IsPosted z.posted (Mark b)) (sym is)
          (posted_last (drop_posted w.posted (Woken t)) (holding w.scopes t) (Mark b) (holding_marks w.scopes t b h));
    }
