-- What lasts of one scope: its first error until it is cleared, and its hooks.
use Rattle.std.proofs.Common.{ℕ, zero, suc, Bool, true, false, List, [], ◌∷◌, ◌++◌, ◌≡◌, ◌≤◌, ◌+◌, ◌||◌, not, refl, sym, ap, ◌∙◌, subst, nat_eq, arith}
use Rattle.std.proofs.lemmas.Bool.{eqb-true}
use Rattle.std.specs.Prelude.{Option, Some, None}
use Rattle.rt_model.specs.Lists.{at, put, without, nth, kept_by}
use Rattle.rt_model.specs.Tree.{Types, CapturedError, VComponent}
use Rattle.rt_model.specs.World.{Firsts, Hook, Command, NewCell, Write, DropCell, NewContext, Reset, ReadInto, Spawn, RemoveFuture, ClearErrors, Application}
use Rattle.rt_model.specs.Laws.{IsNumbered, IsLawful}
use Rattle.rt_model.specs.State.{Scope, State, changed_scope, change, is_shown, error_context}
use Rattle.rt_model.specs.Commands.{released, command, commands}
use Rattle.rt_model.specs.Run.{with_next}
use Rattle.rt_model.specs.Replay.{Entry, Machine, mounted}
use Rattle.rt_model.specs.Causes.{Limits}
use Rattle.rt_model.proofs.Maps.{by_test, eq_same, at_here, at_there, at_put_here, at_put_other, at_without_other}
use Rattle.rt_model.proofs.Tour.{AllFresh}
use Rattle.rt_model.proofs.RunFrames.{fresh, numbered_rises}
use Rattle.law_moves.specs.Moves.{Move, entries, Leads}
use Rattle.law_moves.proofs.Logs.{logs_are_moves}
use Rattle.law_behavior.specs.Keeping.{IsOther, ClearsOther, NoneClears, FirstErrorStays, HooksStay}
use Rattle.law_behavior.specs.Along.{NoneRemoves, NoneClearsOn, FirstErrorLasts, HooksLast, LoggedFirstErrorLasts, LoggedHooksLast}
use Rattle.law_behavior.proofs.Frames.{Free, permits, Frame, Called}
use Rattle.law_behavior.proofs.Enduring.{LastsBut, LastsIn, lasts_all, Again, Enduring, finely, kept_so}
use Rattle.law_behavior.proofs.Commanded.{MayClear, Allowed, caused_anyway, AllAllowed, commands_on}
use Rattle.law_behavior.proofs.Calling.{Follows, AllDraw}
use Rattle.law_behavior.proofs.Onwards.{GoodOn, moves_on, good_anyway, spares_all}

-- another scope, another task
abbrev pub Other : ℕ → ℕ → Type 0
Other b s = nat_eq s b ≡ false

-- every number is from 0 on
pub from_zero : (n : ℕ) → 0 ≤ n
from_zero n = omega arith

module _ {K : Types} (app : Application K) where
  pub fresh_anyway : (cs : List (Command K)) → AllFresh app 0 cs
  fresh_anyway [] = tt
  fresh_anyway (Spawn t a forever isomorphic ∷ cs) = (from_zero t, fresh_anyway cs)
  fresh_anyway (c ∷ cs) = (tt, fresh_anyway cs)

  anyway : (first : Firsts) (cs : List (Command K)) (next : Firsts) → (IsLawful K app → IsNumbered first cs next) → AllFresh app 0 cs × Follows app 0 first next
  anyway first cs next numbers = (fresh_anyway cs, record { low = from_zero next.tasks; rises = λ lawful. (numbered_rises first cs next (numbers lawful)).cells })

  -- every call spawns from 0 on
  pub draw_anyway : AllDraw app 0
  draw_anyway =
      record {
        bodies =
            λ c p w low.
            anyway w.given.next (app.body c p w).commands (app.body c p w).next (λ lawful. lawful.bodies_number c p w);
        polls = λ a w low. anyway w.given.next (app.poll a w).commands (app.poll a w).next (λ lawful. lawful.polls_number a w);
        effects = λ e w low. anyway w.given.next (app.effect e w).commands (app.effect e w).next (λ lawful. lawful.effects_number e w);
        handlers =
            λ h e w low.
            anyway w.given.next (app.handle h e w).commands (app.handle h e w).next (λ lawful. lawful.handlers_number h e w);
      }

  drawn_by : (bound : ℕ) → IsLawful K app → (first : Firsts) (cs : List (Command K)) (next : Firsts) → IsNumbered first cs next → bound ≤ first.tasks → AllFresh app bound cs × Follows app bound first next
  drawn_by bound lawful first cs next n low =
      let rises : first.tasks ≤ next.tasks = (numbered_rises first cs next n).tasks in
      let above : bound ≤ next.tasks = omega (arith, low, rises) in
      (fresh app lawful first.tasks next.tasks bound cs low n.tasks, record { low = above; rises = λ l. (numbered_rises first cs next n).cells })

  -- the calls of a lawful application spawn from the next number on
  pub lawful_draw : (bound : ℕ) → IsLawful K app → AllDraw app bound
  lawful_draw bound lawful =
      record {
        bodies = λ c p w low. drawn_by bound lawful w.given.next (app.body c p w).commands (app.body c p w).next (lawful.bodies_number c p w) low;
        polls = λ a w low. drawn_by bound lawful w.given.next (app.poll a w).commands (app.poll a w).next (lawful.polls_number a w) low;
        effects = λ e w low. drawn_by bound lawful w.given.next (app.effect e w).commands (app.effect e w).next (lawful.effects_number e w) low;
        handlers = λ h e w low. drawn_by bound lawful w.given.next (app.handle h e w).commands (app.handle h e w).next (lawful.handlers_number h e w) low;
      }

module _ {K : Types} (app : Application K) (P Q : State K → Type 0) (bound : ℕ) (feedable removable : ℕ → Type 0) (law : Frame app P Q bound (permits Free Free feedable removable)) where
  pub clears_freely : (o : Option ℕ) → MayClear app P Q bound (permits Free Free feedable removable) law o
  clears_freely None = tt
  clears_freely (Some b) = tt

  allowed_freely : (w : State K) (s : ℕ) (c : Command K) (cs : List (Command K)) → AllFresh app bound (c ∷ cs) → Allowed app P Q bound (permits Free Free feedable removable) law w s c
  allowed_freely w s ClearErrors cs f = clears_freely (error_context w s)
  allowed_freely w s (Spawn t a forever isomorphic) cs f = (f.0, tt)
  allowed_freely w s (RemoveFuture t) cs f = tt
  allowed_freely w s (Write n v) cs f = tt
  allowed_freely w s (NewCell n v) cs f = tt
  allowed_freely w s (DropCell n) cs f = tt
  allowed_freely w s (NewContext n target) cs f = tt
  allowed_freely w s (Reset n) cs f = tt
  allowed_freely w s (ReadInto n source) cs f = tt
  allowed_freely w s c cs f = tt

  -- where nothing but fresh numbers is asked of commands
  pub all_allowed : (w : State K) (s : ℕ) (polled : Option ℕ) (cs : List (Command K)) → AllFresh app bound cs → AllAllowed app P Q bound (permits Free Free feedable removable) law w s polled cs
  all_allowed w s polled [] f = tt
  all_allowed w s polled (c ∷ cs) f = (
    (allowed_freely w s c cs f, caused_anyway app P Q bound (permits Free Free feedable removable) law (λ v d. tt) w s c),
    all_allowed (command app w s polled c) s polled cs f.1,
  )

module _ {K : Types} where
  -- what is so of the record of one scope

  pub record Of (b : ℕ) (Q : Scope K → Type 0) (w : State K) : Type 0 where
    pub row : Scope K
    pub there : at w.scopes b ≡ Some row
    pub holds : Q row

  pub of_others : (b : ℕ) (Q : Scope K → Type 0) (w v : State K) → v.scopes ≡ w.scopes → Of b Q w → Of b Q v
  of_others b Q w v e h = record { row = h.row; there = ap (λ (es : List (ℕ × Scope K)). at es b) e ∙ h.there; holds = h.holds }

  pub of_put : (b : ℕ) (Q : Scope K → Type 0) (w : State K) (s : ℕ) (x y : Scope K) → at w.scopes s ≡ Some x → (s ≡ b → Q x → Q y) → Of b Q w → Of b Q (record w { scopes = put w.scopes s y })
  of_put b Q w s x y e keeps h =
      by_test (nat_eq s b)
      (
      λ q.
      let found : Some x ≡ Some h.row = sym e ∙ ap (λ (n : ℕ). at w.scopes n) (eqb-true s b q) ∙ h.there in
      let same : x ≡ h.row = cc in
      record { row = y; there = at_put_here w.scopes s y b q; holds = keeps (eqb-true s b q) (subst (λ (z : Scope K). Q z) (sym same) h.holds) }
      )
      (λ q. record { row = h.row; there = at_put_other w.scopes s y b q ∙ h.there; holds = h.holds })

  pub of_change : (b : ℕ) (Q : Scope K → Type 0) (w : State K) (s : ℕ) (f : Scope K → Scope K) → ((x : Scope K) → at w.scopes s ≡ Some x → Q x → Q (f x)) → Of b Q w → Of b Q (change w s f)
  of_change b Q w s f keeps h = on (at w.scopes s) refl
    where
      on : (o : Option (Scope K)) → at w.scopes s ≡ o → Of b Q (changed_scope w s f o)
      on None e = h
      on (Some x) e = of_put b Q w s x (f x) e (λ q k. keeps x e k) h

  pub of_released : (b : ℕ) (Q : Scope K → Type 0) (w : State K) (t : ℕ) → ((x : Scope K) → Q x → Q (record x { holders = kept_by (λ h. not (nat_eq h.0 t)) x.holders })) → Of b Q w → Of b Q (record w { scopes = released w.scopes t })
  of_released b Q w t keeps h =
      record { row = record (h.row) { holders = kept_by (λ d. not (nat_eq d.0 t)) (h.row).holders }; there = at_released w.scopes h.row h.there; holds = keeps h.row h.holds }
    where
      at_released : (es : List (ℕ × Scope K)) (x : Scope K) → at es b ≡ Some x → at (released es t) b ≡ Some (record x { holders = kept_by (λ d. not (nat_eq d.0 t)) x.holders })
      at_released [] x e = cc
      at_released (d ∷ es) x e =
          let row : Scope K = record (d.1) { holders = kept_by (λ h. not (nat_eq h.0 t)) (d.1).holders } in
          by_test (nat_eq d.0 b)
          (
          λ q.
          let found : Some d.1 ≡ Some x = sym (at_here d.0 d.1 es b q) ∙ e in
          let same : d.1 ≡ x = cc in
          at_here d.0 row (released es t) b q ∙ ap (λ (y : Scope K). Some (record y { holders = kept_by (λ h. not (nat_eq h.0 t)) y.holders })) same
          )
          (λ q. at_there d.0 row (released es t) b q ∙ at_released es x (sym (at_there d.0 d.1 es b q) ∙ e))

  -- a fact of a scope's component, hooks, error and holders that small changes keep
  pub record Bears (b : ℕ) (Q : Scope K → Type 0) (clearable endable feedable : ℕ → Type 0) : Type 0 where
    pub same : (x y : Scope K) → LastsIn x y → Q x → Q y
    pub hooks : (x : Scope K) (h : Hook K) → Q x → Q (record x { hooks = x.hooks ++ h ∷ [] })
    pub joins : (x : Scope K) (t origin : ℕ) → Q x → Q (record x { holders = x.holders ++ (t, origin) ∷ [] })
    pub throws : (x : Scope K) (e : CapturedError) → x.error ≡ None → Q x → Q (record x { error = Some e })
    pub clears : (x : Scope K) → clearable b → Q x → Q (record x { error = None })
    pub feeds : (x : Scope K) (c : VComponent K) → feedable b → Q x → Q (record x { component = c })
    pub ends : (x : Scope K) (t : ℕ) → endable t → Q x → Q (record x { holders = kept_by (λ h. not (nat_eq h.0 t)) x.holders })

  pub at_more : (es : List (ℕ × Scope K)) (n b : ℕ) (x y : Scope K) → at es b ≡ Some y → at (es ++ (n, x) ∷ []) b ≡ Some y
  at_more [] n b x y h = cc
  at_more (e ∷ es) n b x y h =
      by_test (nat_eq e.0 b)
      (λ q. at_here e.0 e.1 (es ++ (n, x) ∷ []) b q ∙ sym (at_here e.0 e.1 es b q) ∙ h)
      (λ q. at_there e.0 e.1 (es ++ (n, x) ∷ []) b q ∙ at_more es n b x y (sym (at_there e.0 e.1 es b q) ∙ h))

  pub mounted_row : (w : State K) (es : List (ℕ × Scope K)) (b : ℕ) (x : Scope K) → at es b ≡ Some x → (now : Bool) × (at (mounted w es) b ≡ Some (record x { mounted = now }))
  mounted_row w [] b x h = cc
  mounted_row w (e ∷ es) b x h =
      let y : Scope K = record (e.1) { mounted = (e.1).mounted || is_shown w e.0 } in
      by_test (nat_eq e.0 b)
      (
      λ q.
      let found : Some e.1 ≡ Some x = sym (at_here e.0 e.1 es b q) ∙ h in
      let same : e.1 ≡ x = cc in
      (y.mounted, at_here e.0 y (mounted w es) b q ∙ ap (λ (z : Scope K). Some (record z { mounted = y.mounted })) same)
      )
      (
      λ q.
      let later = mounted_row w es b x (sym (at_there e.0 e.1 es b q) ∙ h) in
      (later.0, at_there e.0 y (mounted w es) b q ∙ later.1)
      )

  pub of_again : (b : ℕ) (Q : Scope K → Type 0) → ((x y : Scope K) → LastsBut x y → Q x → Q y) → Again (λ w. Of b Q w)
  of_again b Q keeps = λ w s x y e same h. of_put b Q w s x y e (λ q k. keeps x y same k) h

  -- then it lasts of that scope
  pub of_endures : (b : ℕ) (Q : Scope K → Type 0) (clearable endable feedable : ℕ → Type 0) → Bears b Q clearable endable feedable → Enduring (λ w. Of b Q w) 0 clearable endable feedable (λ s. Other b s)
  of_endures b Q clearable endable feedable law =
      record {
        low = λ w h. from_zero w.next.tasks;
        others = λ w v scopes tasks next h. of_others b Q w v scopes h;
        nexts = λ w next low h. of_others b Q w (with_next w next) refl h;
        rows = λ w s x y e same h. of_put b Q w s x y e (λ q k. law.same x y same k) h;
        hooks = λ w s x k e h. of_put b Q w s x (record x { hooks = x.hooks ++ k ∷ [] }) e (λ q g. law.hooks x k g) h;
        joins = λ w s t origin x e h. of_put b Q w s x (record x { holders = x.holders ++ (t, origin) ∷ [] }) e (λ q g. law.joins x t origin g) h;
        throws = λ w s x f e none h. of_put b Q w s x (record x { error = Some f }) e (λ q g. law.throws x f none g) h;
        clears = λ w s x e may h. of_put b Q w s x (record x { error = None }) e (λ q g. law.clears x (subst (λ (n : ℕ). clearable n) q may) g) h;
        feeds = λ w s c x e may h. of_put b Q w s x (record x { component = c }) e (λ q g. law.feeds x c (subst (λ (n : ℕ). feedable n) q may) g) h;
        ends =
            λ w t may h.
            of_others b Q (record w { scopes = released w.scopes t }) (record w { tasks = without w.tasks t; scopes = released w.scopes t }) refl
            (of_released b Q w t (λ x g. law.ends x t may g) h);
        spawns = λ w t x live low h. of_others b Q w (record w { tasks = w.tasks ++ (t, x) ∷ [] }) refl h;
        tasks = λ w t x y e same h. of_others b Q w (record w { tasks = put w.tasks t y }) refl h;
        makes = λ w n x h. record { row = h.row; there = at_more w.scopes n b x h.row h.there; holds = h.holds };
        removes = λ w s other h. record { row = h.row; there = at_without_other w.scopes s b other ∙ h.there; holds = h.holds };
        mounts =
            λ w h.
            let found = mounted_row w w.scopes b h.row h.there in
            let y : Scope K = record (h.row) { mounted = found.0 } in
            record { row = y; there = found.1; holds = law.same h.row y (lasts_all h.row y refl refl refl refl refl) h.holds };
      }

-- the first error

module _ {K : Types} (b : ℕ) (first : CapturedError) where
  abbrev KeepsError : Scope K → Type 0
  KeepsError x = x.error ≡ Some first

  abbrev ErrorKept : State K → Type 0
  ErrorKept w = Of b KeepsError w

  errors_bear : Bears {K = K} b KeepsError (λ c. Other b c) Free Free
  errors_bear =
      record {
        same = λ x y same q. (same.but).error ∙ q;
        hooks = λ x h q. q;
        joins = λ x t origin q. q;
        throws = λ x e none q. let absurdity : None ≡ Some first = sym none ∙ q in cc;
        clears = λ x may q. let absurdity : true ≡ false = sym (eq_same b) ∙ may in cc;
        feeds = λ x c may q. q;
        ends = λ x t may q. q;
      }

  errors_endure : Enduring {K = K} (λ w. ErrorKept w) 0 (λ c. Other b c) Free Free (λ s. Other b s)
  errors_endure = of_endures b KeepsError (λ c. Other b c) Free Free errors_bear

  errors_last : (app : Application K) → Frame app (λ w. ErrorKept w) (λ w. ErrorKept w) 0 (permits (λ c. Other b c) Free Free (λ s. Other b s))
  errors_last app = finely (λ w. ErrorKept w) 0 (λ c. Other b c) Free Free (λ s. Other b s) errors_endure app

  errors_called : (app : Application K) → Called app (λ w. ErrorKept w) 0
  errors_called app =
      kept_so (λ w. ErrorKept w) 0 (λ c. Other b c) Free Free (λ s. Other b s) errors_endure app (of_again b KeepsError (λ x y same q. same.error ∙ q))

  error_at : (w : State K) (o : Option (Scope K)) → at w.scopes b ≡ o → elim o as (λ z. Option CapturedError) [ None ↦ None | Some x ↦ x.error ] ≡ Some first → ErrorKept w
  error_at w None live h = cc
  error_at w (Some x) live h = record { row = x; there = live; holds = h }

  error_of : (w : State K) → ErrorKept w → elim (at w.scopes b) as (λ z. Option CapturedError) [ None ↦ None | Some x ↦ x.error ] ≡ Some first
  error_of w h = ap (λ (o : Option (Scope K)). elim o as (λ z. Option CapturedError) [ None ↦ None | Some x ↦ x.error ]) h.there ∙ h.holds

  module _ (app : Application K) where
    clears_other : (o : Option ℕ) → IsOther b o → MayClear app (λ w. ErrorKept w) (λ w. ErrorKept w) 0 (permits (λ c. Other b c) Free Free (λ s. Other b s)) (errors_last app) o
    clears_other None h = tt
    clears_other (Some c) h = h

    spared_command : (w : State K) (s : ℕ) (c : Command K) → ClearsOther w s b c → Allowed app (λ w. ErrorKept w) (λ w. ErrorKept w) 0 (permits (λ c. Other b c) Free Free (λ s. Other b s)) (errors_last app) w s c
    spared_command w s ClearErrors h = clears_other (error_context w s) h
    spared_command w s (Spawn t a forever isomorphic) h = (from_zero t, tt)
    spared_command w s (RemoveFuture t) h = tt
    spared_command w s (Write n v) h = tt
    spared_command w s (DropCell n) h = tt
    spared_command w s (NewCell n v) h = tt
    spared_command w s (NewContext n target) h = tt
    spared_command w s (Reset n) h = tt
    spared_command w s (ReadInto n source) h = tt
    spared_command w s c h = tt

    spared_commands : (w : State K) (s : ℕ) (polled : Option ℕ) (cs : List (Command K)) → NoneClears app b w s polled cs
        → AllAllowed app (λ w. ErrorKept w) (λ w. ErrorKept w) 0 (permits (λ c. Other b c) Free Free (λ s. Other b s)) (errors_last app) w s polled cs
    spared_commands w s polled [] h = tt
    spared_commands w s polled (c ∷ cs) h = (
      (spared_command w s c h.0, caused_anyway app (λ w. ErrorKept w) (λ w. ErrorKept w) 0 (permits (λ c. Other b c) Free Free (λ s. Other b s)) (errors_last app) (λ v d. tt) w s c),
      spared_commands (command app w s polled c) s polled cs h.1,
    )

    error_stays : (w : State K) (s : ℕ) (polled : Option ℕ) (cs : List (Command K)) → NoneClears app b w s polled cs → ErrorKept w → ErrorKept (commands app w s polled cs)
    error_stays w s polled cs none h =
        commands_on app (λ w. ErrorKept w) (λ w. ErrorKept w) 0 (permits (λ c. Other b c) Free Free (λ s. Other b s)) (errors_last app) w s polled cs (spared_commands w s polled cs none) h

    spared_on : (limits : Limits) (m v : Machine K) (moves : List Move) (leads : Leads app limits m moves v) → NoneClearsOn app limits b m v moves leads
        → GoodOn app (λ w. ErrorKept w) (λ w. ErrorKept w) 0 (permits (λ c. Other b c) Free Free (λ s. Other b s)) (errors_last app) (λ t. tt) (errors_called app) (λ w s polled cs. NoneClears app b w s polled cs) (λ w s polled cs f g. spared_commands w s polled cs g) (draw_anyway app) limits m v moves leads
    spared_on limits m v [] leads h = tt
    spared_on limits m v (move ∷ moves) leads h = (h.0, spared_on limits leads.0 v moves leads.2 h.1)

    error_lasts : (limits : Limits) (m v : Machine K) (moves : List Move) (leads : Leads app limits m moves v) → NoneRemoves b (entries moves) → NoneClearsOn app limits b m v moves leads → ErrorKept m.state → ErrorKept v.state
    error_lasts limits m v moves leads stays none h =
        moves_on app (λ w. ErrorKept w) (λ w. ErrorKept w) 0 (permits (λ c. Other b c) Free Free (λ s. Other b s)) (errors_last app) (λ t. tt) (errors_called app) (λ w s polled cs. NoneClears app b w s polled cs) (λ w s polled cs f g. spared_commands w s polled cs g) (draw_anyway app)
        limits m v moves leads (spared_on limits m v moves leads none)
        (spares_all app (λ w. ErrorKept w) (λ w. ErrorKept w) 0 (permits (λ c. Other b c) Free Free (λ s. Other b s)) (errors_last app) (λ t. tt) (errors_called app) (λ w s polled cs. NoneClears app b w s polled cs) (λ w s polled cs f g. spared_commands w s polled cs g) (draw_anyway app) b (λ s q. q) (λ n. tt) (λ n. tt) (λ n. tt) (λ w c. tt) (λ w h. h) limits m v moves leads stays)
        h

pub first_error_stays : {K : Types} (app : Application K) → FirstErrorStays app
first_error_stays {K = K} app w s polled cs b first none h =
    error_of b first (commands app w s polled cs) (error_stays b first app w s polled cs none (error_at b first w (at w.scopes b) refl h))

pub first_error_lasts : {K : Types} (app : Application K) → FirstErrorLasts app
first_error_lasts {K = K} app limits m v moves b first leads stays none h =
    error_of b first v.state (error_lasts b first app limits m v moves leads stays none (error_at b first m.state (at m.state.scopes b) refl h))

pub logged_first_error_lasts : {K : Types} (app : Application K) → LoggedFirstErrorLasts app
logged_first_error_lasts app limits m v log b first settled accepted stays h =
    let found = logs_are_moves app limits m v log settled accepted in
    let here : NoneRemoves b (entries found.0) = subst (λ (es : List Entry). NoneRemoves b es) (sym found.2) stays in
    (found.0, found.1, found.2, λ none. first_error_lasts app limits m v found.0 b first found.1 here none h)

-- hooks

pub nth_stays : {A : Type 0} (xs : List A) (i : ℕ) (x y : A) → nth xs i ≡ Some x → nth (xs ++ y ∷ []) i ≡ Some x
nth_stays [] i x y h = cc
nth_stays (z ∷ xs) zero x y h = h
nth_stays (z ∷ xs) (suc i) x y h = nth_stays xs i x y h

module _ {K : Types} (owner index : ℕ) (hook : Hook K) where
  abbrev KeepsHook : Scope K → Type 0
  KeepsHook x = nth x.hooks index ≡ Some hook

  abbrev HookKept : State K → Type 0
  HookKept w = Of owner KeepsHook w

  hooks_bear : Bears {K = K} owner KeepsHook Free Free Free
  hooks_bear =
      record {
        same = λ x y same q. ap (λ (hs : List (Hook K)). nth hs index) (same.but).hooks ∙ q;
        hooks = λ x h q. nth_stays x.hooks index hook h q;
        joins = λ x t origin q. q;
        throws = λ x e none q. q;
        clears = λ x may q. q;
        feeds = λ x c may q. q;
        ends = λ x t may q. q;
      }

  hooks_endure : Enduring {K = K} (λ w. HookKept w) 0 Free Free Free (λ s. Other owner s)
  hooks_endure = of_endures owner KeepsHook Free Free Free hooks_bear

  hooks_frame : (app : Application K) → Frame app (λ w. HookKept w) (λ w. HookKept w) 0 (permits Free Free Free (λ s. Other owner s))
  hooks_frame app = finely (λ w. HookKept w) 0 Free Free Free (λ s. Other owner s) hooks_endure app

  hooks_called : (app : Application K) → Called app (λ w. HookKept w) 0
  hooks_called app =
      kept_so (λ w. HookKept w) 0 Free Free Free (λ s. Other owner s) hooks_endure app
      (of_again owner KeepsHook (λ x y same q. ap (λ (hs : List (Hook K)). nth hs index) same.hooks ∙ q))

  hook_at : (w : State K) (o : Option (Scope K)) → at w.scopes owner ≡ o → nth (elim o as (λ z. List (Hook K)) [ None ↦ [] | Some x ↦ x.hooks ]) index ≡ Some hook → HookKept w
  hook_at w None e h = cc
  hook_at w (Some x) e h = record { row = x; there = e; holds = h }

  hook_of : (w : State K) → HookKept w → nth (elim (at w.scopes owner) as (λ z. List (Hook K)) [ None ↦ [] | Some x ↦ x.hooks ]) index ≡ Some hook
  hook_of w h = ap (λ (o : Option (Scope K)). nth (elim o as (λ z. List (Hook K)) [ None ↦ [] | Some x ↦ x.hooks ]) index) h.there ∙ h.holds

  module _ (app : Application K) where
    freely : (w : State K) (s : ℕ) (polled : Option ℕ) (cs : List (Command K)) → AllFresh app 0 cs → Unit {0} → AllAllowed app (λ w. HookKept w) (λ w. HookKept w) 0 (permits Free Free Free (λ s. Other owner s)) (hooks_frame app) w s polled cs
    freely w s polled cs f g = all_allowed app (λ w. HookKept w) (λ w. HookKept w) 0 Free (λ s. Other owner s) (hooks_frame app) w s polled cs f

    hook_stays : (w : State K) (s : ℕ) (polled : Option ℕ) (cs : List (Command K)) → HookKept w → HookKept (commands app w s polled cs)
    hook_stays w s polled cs h =
        commands_on app (λ w. HookKept w) (λ w. HookKept w) 0 (permits Free Free Free (λ s. Other owner s)) (hooks_frame app) w s polled cs (freely w s polled cs (fresh_anyway app cs) tt) h

    hook_lasts : (limits : Limits) (m v : Machine K) (moves : List Move) (leads : Leads app limits m moves v) → NoneRemoves owner (entries moves) → HookKept m.state → HookKept v.state
    hook_lasts limits m v moves leads stays h =
        moves_on app (λ w. HookKept w) (λ w. HookKept w) 0 (permits Free Free Free (λ s. Other owner s)) (hooks_frame app) (λ t. tt) (hooks_called app) (λ w s polled cs. Unit {0}) (λ w s polled cs f g. freely w s polled cs f g) (draw_anyway app)
        limits m v moves leads
        (good_anyway app (λ w. HookKept w) (λ w. HookKept w) 0 (permits Free Free Free (λ s. Other owner s)) (hooks_frame app) (λ t. tt) (hooks_called app) (λ w s polled cs. Unit {0}) (λ w s polled cs f g. freely w s polled cs f g) (draw_anyway app) (λ w s polled cs. tt) limits m v moves leads)
        (spares_all app (λ w. HookKept w) (λ w. HookKept w) 0 (permits Free Free Free (λ s. Other owner s)) (hooks_frame app) (λ t. tt) (hooks_called app) (λ w s polled cs. Unit {0}) (λ w s polled cs f g. freely w s polled cs f g) (draw_anyway app) owner (λ s q. q) (λ n. tt) (λ n. tt) (λ n. tt) (λ w c. tt) (λ w h. h) limits m v moves leads stays)
        h

pub hooks_stay : {K : Types} (app : Application K) → HooksStay app
hooks_stay {K = K} app w s polled cs owner index hook h =
    hook_of owner index hook (commands app w s polled cs) (hook_stays owner index hook app w s polled cs (hook_at owner index hook w (at w.scopes owner) refl h))

pub hooks_last : {K : Types} (app : Application K) → HooksLast app
hooks_last {K = K} app limits m v moves owner index hook leads stays h =
    hook_of owner index hook v.state (hook_lasts owner index hook app limits m v moves leads stays (hook_at owner index hook m.state (at m.state.scopes owner) refl h))

pub logged_hooks_last : {K : Types} (app : Application K) → LoggedHooksLast app
logged_hooks_last app limits m v log owner index hook settled accepted stays h =
    let found = logs_are_moves app limits m v log settled accepted in
    hooks_last app limits m v found.0 owner index hook found.1 (subst (λ (es : List Entry). NoneRemoves owner es) (sym found.2) stays) h
