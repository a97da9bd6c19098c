-- What the calls of pages leave of a fact of each scope, and of each cell with its owner.
use Rattle.std.proofs.Common.{ℕ, ◌+◌, Bool, true, false, not, List, [], ◌∷◌, ◌++◌, ◌≡◌, refl, sym, ap, subst, nat_eq}
use Rattle.std.specs.Prelude.{Option, Some, None, if◌then◌else◌, is_some}
use Rattle.rt_model.specs.Lists.{at, put, without, kept_by, drop_number}
use Rattle.rt_model.specs.Tree.{Types, CapturedError, VComponent, Own, Root, Fragment, ErrorBoundary, SuspenseBoundary, Element, rendered, failed, suspended, component_slot, one_slot}
use Rattle.rt_model.specs.World.{Renders, at_end, after_render_kind, CallFault, Hook, HookValue, HookEffect, Command, NewCell, KeepHook, World, Meaning, Application}
use Rattle.rt_model.specs.State.{SideName, MainSide, ChildrenSide, FallbackSide, Posted, Mark, Woken, SuspendedTask, Fault, IdsExhausted, BadNode, CellRow, Scope, TaskRow, State, Outcome, Done, Cut, onward, is_live, change, location, holds, hooks_of, renders_of, values_of, world_of}
use Rattle.rt_model.specs.Commands.{post, drop_posted, holding, released, end, command, commands}
use Rattle.rt_model.specs.Run.{children_tree, fault_of, with_next, called_once, called_where, is_own, answer_fits, kept_call, is_kind, raised, joins, suspends_on, caught, body_of, acted, hook_called, hooks_called, after_hooks, call_body, settled_answer}
use Rattle.law_behavior.proofs.Readers.{post_posts}
use Rattle.law_lasting.proofs.Told.{posts_same}
use Rattle.law_reduce.proofs.Owners.{owners_in}
use Rattle.law_reduce.specs.RootStays.{error_boundary}
use Rattle.author_programs.specs.Cells.{Keeping}
use Rattle.author_programs.specs.Pages.{Pages, meaning_of_pages}
use Rattle.law_elm.proofs.Tiers.{Tier, WrapperTier, SuspenseTier, CatcherTier, RootTier, PlainTier, IsTier, Answers, plain_answers}
use Rattle.law_elm.proofs.Looking.{AllQuiet, page_means}
use Rattle.law_elm.proofs.Rules.{AllMay, Alike, Rules, Facts}
use Rattle.law_elm.proofs.Well.{Well, live_changed, well_same, well_change, well_cell, well_released}

module _ {K : Types} where
  -- an error boundary answers with its children
  abbrev pub AnswersKids : VComponent K → Element K → Type 0
  AnswersKids (ErrorBoundary children handler) answer = answer ≡ rendered (children_tree children)
  AnswersKids (Own component props) answer = Unit {0}
  AnswersKids (Root component props) answer = Unit {0}
  AnswersKids (Fragment children) answer = Unit {0}
  AnswersKids (SuspenseBoundary children fallback) answer = Unit {0}

  -- what the call of a component asks for and answers
  pub record Says (may : K.Component → Type 0) (c : K.Component) (p : K.Props) (t : Tier) (d : VComponent K) (m : Meaning K (Element K)) : Type 0 where
    pub quiet : AllQuiet m.commands
    pub safe : Answers may c p t m.answer
    pub kids : AnswersKids d m.answer

module _ {K : Types} (k : Keeping K.Value) (a : Pages K) (given : K.Props) (law : Rules k a given) (facts : Facts law.hooks) (tiers : ℕ → Tier) (bound : ℕ) where
  abbrev app : Application K
  app = meaning_of_pages k a

  abbrev Fine : State K → Type 0
  Fine w = Well (λ n x. facts.of n x) (λ n o. law.cells (tiers o) n o) bound w

  -- where a change isn't cut
  abbrev pub FineO : Outcome K → Type 0
  FineO (Done v work) = Fine v
  FineO (Cut v fault) = Unit {0}

  either_o : (b : Bool) (x y : Outcome K) → FineO x → FineO y → FineO (if b then x else y)
  either_o true x y f g = f
  either_o false x y f g = g

  pub then_o : (o : Outcome K) (f : State K → Outcome K) → FineO o → ((v : State K) → Fine v → FineO (f v)) → FineO (onward o f)
  then_o (Done v work) f h g = g v h
  then_o (Cut v fault) f h g = tt

  either_w : (b : Bool) (x y : State K) → Fine x → Fine y → Fine (if b then x else y)
  either_w true x y f g = f
  either_w false x y f g = g

  pub same_fine : (w v : State K) → v.scopes ≡ w.scopes → v.cells ≡ w.cells → v.next_scope ≡ w.next_scope → Fine w → Fine v
  same_fine w v scopes cells next h =
      well_same (λ n x. facts.of n x) (λ n o. law.cells (tiers o) n o) bound w v scopes (ap (λ (es : List (ℕ × CellRow K)). owners_in es) cells) next h

  -- another record of a scope
  pub changed : (w : State K) (s : ℕ) (f : Scope K → Scope K) → ((x : Scope K) → Alike x (f x)) → Fine w → Fine (change w s f)
  changed w s f same h = well_change (λ n x. facts.of n x) (λ n o. law.cells (tiers o) n o) bound w s f (λ x g. facts.keeps s x (f x) (same x) g) h

  pub post_fine : (w : State K) (p : Posted) → Fine w → Fine (post w p)
  post_fine w p h =
      let same = posts_same w (post w p) (post_posts w p) in
      same_fine w (post w p) same.scopes same.cells (ap (λ (x : State K). x.next_scope) (post_posts w p).alike) h

  pub end_fine : (w : State K) (t : ℕ) → Fine w → Fine (end w t)
  end_fine w t h =
      let v : State K = record w {
        tasks = without w.tasks t;
        posted = drop_posted w.posted (Woken t) ++ holding w.scopes t;
        queued = drop_number w.queued t;
        scopes = released w.scopes t;
      } in
      either_w (is_some (at w.tasks t)) v w
      (
      well_released (λ n x. facts.of n x) (λ n o. law.cells (tiers o) n o) bound w v t refl refl refl
      (
      λ n x g.
      facts.keeps n x (record x { holders = kept_by (λ d. not (nat_eq d.0 t)) x.holders }) (record { component = refl; error = refl; hooks = refl; output = refl; main = refl; held = refl; fallback = refl }) g
      )
      h
      )
      h

  new_cell : (u w : State K) (s : ℕ) (polled : Option ℕ) (cs : List (Command K)) (b : Bool) → (b ≡ true → Fine (commands app u s polled cs)) → Fine (commands app w s polled cs)
      → Fine (commands app (if b then u else w) s polled cs)
  new_cell u w s polled cs true f g = f refl
  new_cell u w s polled cs false f g = g

  pub commands_fine : (w : State K) (s : ℕ) (polled : Option ℕ) (cs : List (Command K)) → AllQuiet cs → (is_live w s ≡ true → AllMay (λ n. law.cells (tiers s) n s) cs) → Fine w → Fine (commands app w s polled cs)
  commands_fine w s polled [] q may h = h
  commands_fine w s polled (KeepHook hook ∷ cs) q may h =
      let f : Scope K → Scope K = λ x. record x { hooks = x.hooks ++ hook ∷ [] } in
      commands_fine (command app w s polled (KeepHook hook)) s polled cs q.1 (λ live. (may (live_changed w s f s live)).1)
      (well_change (λ n x. facts.of n x) (λ n o. law.cells (tiers o) n o) bound w s f (λ x g. facts.longer s x hook g) h)
  commands_fine w s polled (NewCell n v ∷ cs) q may h =
      let u : State K = record w { cells = w.cells ++ (n, record { owner = s; value = v }) ∷ [] } in
      new_cell u w s polled cs (is_live w s)
      (
      λ live.
      commands_fine u s polled cs q.1 (λ lives. (may lives).1)
      (well_cell (λ m x. facts.of m x) (λ m o. law.cells (tiers o) m o) bound w s n v (may live).0 live h)
      )
      (commands_fine w s polled cs q.1 (λ lives. (may lives).1) h)
  commands_fine w s polled (c ∷ cs) q may h = absurd q.0

  -- effects, hooks and callbacks ask for nothing

  pub acted_fine : (w : State K) (s : ℕ) (e : K.Effect) (rendering : Bool) → Fine w → FineO (acted app w s e rendering)
  acted_fine w s e rendering h = same_fine w (called_once w) refl refl refl h

  hook_fine : (w : State K) (s : ℕ) (hook : Hook K) → Fine w → FineO (hook_called app w s hook)
  hook_fine w s (HookValue kind v) h = h
  hook_fine w s (HookEffect kind e) h = acted_fine w s e true h

  pub hooks_fine : (kind s : ℕ) (hs : List (Hook K)) (w : State K) → Fine w → FineO (hooks_called app kind w s hs)
  hooks_fine kind s [] w h = h
  hooks_fine kind s (hook ∷ hs) w h =
      either_o (is_kind kind hook) (onward (hook_called app w s hook) (λ v. hooks_called app kind v s hs)) (hooks_called app kind w s hs)
      (then_o (hook_called app w s hook) (λ v. hooks_called app kind v s hs) (hook_fine w s hook h) (λ v g. hooks_fine kind s hs v g))
      (hooks_fine kind s hs w h)

  pub after_fine : (w : State K) (s : ℕ) → Fine w → FineO (after_hooks app w s)
  after_fine w s h = hooks_fine after_render_kind s (hooks_of w s) w h

  -- what an answer counts or holds

  pub raised_fine : (w : State K) (s : ℕ) → Fine w → FineO (raised w s)
  raised_fine w s h =
      either_o (at_end (renders_of w s)) (Cut w (IdsExhausted Renders)) (Done (change w s (λ x. record x { renders = x.renders + 1 })) []) tt
      (changed w s (λ x. record x { renders = x.renders + 1 }) (λ x. record { component = refl; error = refl; hooks = refl; output = refl; main = refl; held = refl; fallback = refl }) h)

  joined_at : (w : State K) (origin t b : ℕ) (o : Option (Scope K)) → Fine w
      → Fine (elim o as (λ z. State K) [
        | None ↦ w
        | Some x ↦ if holds x t then w else post (change w b (λ y. record y { holders = y.holders ++ (t, origin) ∷ [] })) (Mark b)
      ])
  joined_at w origin t b None h = h
  joined_at w origin t b (Some x) h =
      let v : State K = change w b (λ y. record y { holders = y.holders ++ (t, origin) ∷ [] }) in
      either_w (holds x t) w (post v (Mark b)) h
      (
      post_fine v (Mark b)
      (changed w b (λ y. record y { holders = y.holders ++ (t, origin) ∷ [] }) (λ y. record { component = refl; error = refl; hooks = refl; output = refl; main = refl; held = refl; fallback = refl }) h)
      )

  joins_fine : (w : State K) (origin t : ℕ) (o : Option (ℕ × SideName)) → Fine w → Fine (joins w origin t o)
  joins_fine w origin t None h = h
  joins_fine w origin t (Some (b, MainSide)) h = h
  joins_fine w origin t (Some (b, FallbackSide)) h = h
  joins_fine w origin t (Some (b, ChildrenSide)) h = joined_at w origin t b (at w.scopes b) h

  suspends_fine : (w : State K) (s origin t : ℕ) (o : Option (TaskRow K)) → Fine w → FineO (suspends_on w s origin t o)
  suspends_fine w s origin t None h = tt
  suspends_fine w s origin t (Some x) h =
      let v : State K = record w { tasks = put w.tasks t (record x { kind = SuspendedTask }) } in
      joins_fine v origin t (location w s) (same_fine w v refl refl refl h)

  pub settled_fine : (w : State K) (s : ℕ) (t : Tier) (answer : Element K) → Answers law.may a.root given t answer → Fine w → FineO (settled_answer app w s answer)
  settled_fine w s t (rendered tree) safe h = raised_fine w s h
  settled_fine w s t (failed e) safe h = absurd safe
  settled_fine w s t (suspended origin task) safe h = suspends_fine w s origin task (at w.tasks task) h

  -- bodies

  no_error : (w : State K) (s : ℕ) → Fine w → (values_of w).error s ≡ None
  no_error w s h = on (at w.scopes s) refl
    where
      on : (o : Option (Scope K)) → at w.scopes s ≡ o → elim o as (λ z. Option CapturedError) [ None ↦ None | Some x ↦ x.error ] ≡ None
      on None e = refl
      on (Some x) e = facts.bare s x (h.rows s x e)

  abbrev SaysSo : Tier → VComponent K → World K → Type 0
  SaysSo t d w = Says law.may a.root given t d (body_of app d w)

  page_says : (t : Tier) → ((answer : Element K) → Answers law.may a.root given PlainTier answer → Answers law.may a.root given t answer)
      → (c : K.Component) (p : K.Props) (w : World K) (d : VComponent K) → ((answer : Element K) → AnswersKids d answer)
      → Says law.may a.root given t d (app.body c p w)
  page_says t goes c p w d any =
      let m = page_means law.may k a law.safe c p w in
      record { quiet = m.0; safe = goes (app.body c p w).answer (plain_answers law.may a.root given (app.body c p w).answer m.1); kids = any (app.body c p w).answer }

  caught_says : (w : World K) (o : Option CapturedError) → o ≡ None
      → Says law.may a.root given CatcherTier (error_boundary a.root given) (caught app (rendered (one_slot (component_slot (Own a.root given)))) None w o)
  caught_says w None none = record { quiet = tt; safe = ((given, refl), tt); kids = refl }
  caught_says w (Some e) none = cc

  plain_says : (d : VComponent K) (w : World K) → IsTier law.may a.root given PlainTier d → SaysSo PlainTier d w
  plain_says (Own c p) w is = page_says PlainTier (λ answer h. h) c p w (Own c p) (λ answer. tt)
  plain_says (Root c p) w is = absurd is
  plain_says (Fragment children) w is = record { quiet = tt; safe = plain_answers law.may a.root given children is; kids = tt }
  plain_says (ErrorBoundary children handler) w is = absurd is
  plain_says (SuspenseBoundary children None) w is = record { quiet = tt; safe = tt; kids = tt }
  plain_says (SuspenseBoundary children (Some f)) w is = page_says PlainTier (λ answer h. h) f.0 f.1 w (SuspenseBoundary children (Some f)) (λ answer. tt)

  as_root : (answer : Element K) → Answers law.may a.root given PlainTier answer → Answers law.may a.root given RootTier answer
  as_root (rendered tree) h = h
  as_root (failed e) h = absurd h
  as_root (suspended origin task) h = tt

  body_says : (t : Tier) (d : VComponent K) (w : World K) → IsTier law.may a.root given t d → w.values.error w.given.scope ≡ None → SaysSo t d w
  body_says WrapperTier d w is none = subst (λ (e : VComponent K). SaysSo WrapperTier e w) (sym is) (record { quiet = tt; safe = (refl, tt); kids = tt })
  body_says SuspenseTier d w is none = subst (λ (e : VComponent K). SaysSo SuspenseTier e w) (sym is) (record { quiet = tt; safe = tt; kids = tt })
  body_says CatcherTier d w is none = subst (λ (e : VComponent K). SaysSo CatcherTier e w) (sym is) (caught_says w (w.values.error w.given.scope) none)
  body_says RootTier d w is none =
      subst (λ (e : VComponent K). SaysSo RootTier e w) (sym is.1) (page_says RootTier (λ answer h. as_root answer h) a.root is.0 w (Own a.root is.0) (λ answer. tt))
  body_says PlainTier d w is none = plain_says d w is

  where_fine : (b : Bool) (w : State K) → Fine w → Fine (called_where b w)
  where_fine true w h = same_fine w (called_once w) refl refl refl h
  where_fine false w h = h

  where_live : (b : Bool) (w : State K) (s : ℕ) → is_live (called_where b w) s ≡ true → is_live w s ≡ true
  where_live true w s h = h
  where_live false w s h = h

  kept_fine : (w : State K) (s : ℕ) (world : World K) (m : Meaning K (Element K)) → Fine w → Fine (kept_call w s world m)
  kept_fine w s world m h =
      let v : State K = with_next w m.next in
      let u : State K = change v s (λ x. record x { reads = m.reads }) in
      same_fine u (kept_call w s world m) refl refl refl
      (
      changed v s (λ x. record x { reads = m.reads }) (λ x. record { component = refl; error = refl; hooks = refl; output = refl; main = refl; held = refl; fallback = refl })
      (same_fine w v refl refl refl h)
      )

  -- what a body is given of a scope that is there
  asked : (w : State K) (s : ℕ) (d : VComponent K) → IsTier law.may a.root given (tiers s) d → Fine w → is_live w s ≡ true
      → AllMay (λ n. law.cells (tiers s) n s) (body_of app d (world_of w s None true)).commands
  asked w s d is h live = law.asks (tiers s) s d (world_of w s None true) is (on (at w.scopes s) refl live)
    where
      on : (o : Option (Scope K)) → at w.scopes s ≡ o → is_some o ≡ true → law.hooks s (hooks_of w s)
      on None e q = cc
      on (Some x) e q =
          subst (λ (o : Option (Scope K)). law.hooks s (elim o as (λ z. List (Hook K)) [ None ↦ [] | Some y ↦ y.hooks ])) (sym e) (facts.hooked s x (h.rows s x e))

  -- a call, told of what comes after it
  module _ (T : Outcome K → Type 0) (cuts : (v : State K) (f : Fault) → T (Cut v f)) where
    either_t : (b : Bool) (x y : Outcome K) → T x → T y → T (if b then x else y)
    either_t true x y f g = f
    either_t false x y f g = g

    answered_by : (w : State K) (s : ℕ) (world : World K) (go : State K → Element K → Outcome K) (m : Meaning K (Element K)) (o : Option CallFault) → AllQuiet m.commands
        → (is_live w s ≡ true → AllMay (λ n. law.cells (tiers s) n s) m.commands)
        → Fine w
        → ((v : State K) → Fine v → T (go v m.answer))
        → T (elim o as (λ z. Outcome K) [
          | Some f ↦ Cut (with_next w m.next) (fault_of f)
          | None ↦ if answer_fits m.answer then go (commands app (kept_call w s world m) s None m.commands) m.answer else Cut (kept_call w s world m) (BadNode s)
        ])
    answered_by w s world go m (Some f) quiet may h next = cuts (with_next w m.next) (fault_of f)
    answered_by w s world go m None quiet may h next =
        let u : State K = kept_call w s world m in
        let v : State K = commands app u s None m.commands in
        either_t (answer_fits m.answer) (go v m.answer) (Cut u (BadNode s))
        (
        next v
        (
        commands_fine u s None m.commands quiet (λ live. may (live_changed (with_next w m.next) s (λ x. record x { reads = m.reads }) s live))
        (kept_fine w s world m h)
        )
        )
        (cuts u (BadNode s))

    pub called_by : (w : State K) (s : ℕ) (d : VComponent K) (go : State K → Element K → Outcome K) → IsTier law.may a.root given (tiers s) d → Fine w
        → ((v : State K) (answer : Element K) → Answers law.may a.root given (tiers s) answer → AnswersKids d answer → Fine v → T (go v answer))
        → T (call_body app w s d go)
    called_by w s d go is h next =
        let world : World K = world_of w s None true in
        let m : Meaning K (Element K) = body_of app d world in
        let says : SaysSo (tiers s) d world = body_says (tiers s) d world is (no_error w s h) in
        answered_by (called_where (is_own d world) w) s world go m m.fault says.quiet (λ live. asked w s d is h (where_live (is_own d world) w s live))
        (where_fine (is_own d world) w h)
        (λ v g. next v m.answer says.safe says.kids g)
