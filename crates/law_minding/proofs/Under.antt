-- What the calls of a run make has numbers below the next one behind it.
use Rattle.std.proofs.Common.{ℕ, ◌+◌, ◌≤◌, Bool, true, false, List, [], ◌∷◌, ◌++◌, ◌≡◌, refl, ap, arith}
use Rattle.std.specs.Prelude.{Option, Some, None, if◌then◌else◌}
use Rattle.std.specs.List.{AllByRecursion}
use Rattle.rt_model.specs.Lists.{at}
use Rattle.rt_model.specs.Laws.{IsNumbered, IsLawful}
use Rattle.rt_model.specs.Tree.{Types, placeholder_tree, VComponent, Own, Root, Fragment, ErrorBoundary, SuspenseBoundary, Element, rendered, failed, suspended}
use Rattle.rt_model.specs.World.{before_render_kind, after_render_kind, CallFault, Firsts, Hook, HookValue, HookEffect, Command, Throw, World, Meaning, Nothing, Application}
use Rattle.rt_model.specs.State.{MainSide, BadNode, RowStep, Scope, State, Outcome, Done, Cut, onward, is_held, hooks_of, world_of}
use Rattle.rt_model.specs.Commands.{commands}
use Rattle.rt_model.specs.Run.{fault_of, with_next, called_once, called_where, is_own, answer_fits, kept_call, is_kind, unmarked, has_output, row_of, row_items, runs_fallback, body_of, acted, hook_called, hooks_called, after_hooks, answered_with, call_body, start_agenda, settled_answer, new_output, after_answer, run_as, run}
use Rattle.rt_model.proofs.Tour.{all_fresh}
use Rattle.rt_model.proofs.TourCalls.{state_of}
use Rattle.rt_model.proofs.Frames.{commands_same}
use Rattle.rt_model.proofs.RunFrames.{Later, later_refl, LaterO, onward_later, later_either, body_numbered, kept_same, call_later, hooks_later, after_hooks_later, agenda_later, settled_later}
use Rattle.law_behavior.specs.Deeds.{Deed, deeds_on, effect_deeds, hook_deeds, hooks_deeds, after_deeds, answered_deeds, body_deeds, failed_deeds, answer_deeds, run_as_deeds, run_deeds}
use Rattle.law_minding.proofs.Counting.{Counting}

module _ {K : Types} (tally : Counting K) (bound : ℕ) where
  -- what a command makes of what is counted has a number below the bound
  abbrev pub AllLow : List (Command K) → Type 0
  AllLow cs = AllByRecursion (λ (c : Command K). tally.Low bound c) cs

  abbrev pub AllUnder : List (Deed K) → Type 0
  AllUnder ds = AllByRecursion (λ (d : Deed K). AllLow d.wants) ds

  -- the next number is no greater than the bound
  abbrev pub Ends : State K → Type 0
  Ends w = tally.count w.next ≤ bound

  abbrev pub EndsO : Outcome K → Type 0
  EndsO o = Ends (state_of o)

  pub low_both : (cs ds : List (Command K)) → AllLow cs → AllLow ds → AllLow (cs ++ ds)
  low_both [] ds f g = g
  low_both (c ∷ cs) ds f g = (f.0, low_both cs ds f.1 g)

  pub under_both : (xs ys : List (Deed K)) → AllUnder xs → AllUnder ys → AllUnder (xs ++ ys)
  under_both [] ys f g = g
  under_both (x ∷ xs) ys f g = (f.0, under_both xs ys f.1 g)

  pub numbered_low : (f : Firsts) (cs : List (Command K)) (g : Firsts) → IsNumbered f cs g → tally.count g ≤ bound → AllLow cs
  numbered_low f cs g n l = tally.numbered bound f cs g n l

  -- who comes before ends no later
  pub ends_before : (w v : State K) → Later w v → Ends v → Ends w
  ends_before w v later l =
      let high : tally.count v.next ≤ bound = l in
      let rises : tally.count w.next ≤ tally.count v.next = tally.rises w.next v.next later.rises in
      let low : tally.count w.next ≤ bound = omega (arith, high, rises) in
      low

  pub first_ends : (o : Outcome K) (f : State K → Outcome K) → ((v : State K) → LaterO v (f v)) → EndsO (onward o f) → EndsO o
  first_ends (Done v work) f later l = ends_before v (state_of (f v)) (later v) l
  first_ends (Cut v fault) f later l = l

  pub then_under : (o : Outcome K) (f : State K → Outcome K) (g : State K → List (Deed K)) → ((v : State K) → EndsO (f v) → AllUnder (g v)) → EndsO (onward o f)
      → AllUnder (deeds_on o g)
  then_under (Done v work) f g go l = go v l
  then_under (Cut v fault) f g go l = tt

  module _ (app : Application K) (lawful : IsLawful K app) where
    -- a call without an answer that counts
    pub acted_under : (w : State K) (s : ℕ) (e : K.Effect) (rendering : Bool) → EndsO (acted app w s e rendering) → AllUnder (effect_deeds app w s e rendering)
    acted_under w s e rendering l = by m.fault l
      where
        m : Meaning K Nothing
        m = app.effect e (world_of w s None rendering)

        left : State K
        left = commands app (with_next (called_once w) m.next) s None m.commands

        by : (o : Option CallFault)
            → EndsO (elim o as (λ z. Outcome K) [ None ↦ Done left [] | Some f ↦ Cut (with_next (called_once w) m.next) (fault_of f) ])
            → AllUnder (elim o as (λ z. List (Deed K)) [
              | None ↦ record { state = with_next (called_once w) m.next; scope = s; polled = None; wants = m.commands } ∷ []
              | Some f ↦ []
            ])
        by None g =
            let same : tally.count left.next ≡ tally.count m.next =
            ap (λ (f : Firsts). tally.count f) (commands_same app 0 (with_next (called_once w) m.next) s None m.commands (all_fresh app m.commands)).next in
            let end : tally.count left.next ≤ bound = g in
            let low : tally.count m.next ≤ bound = omega (arith, same, end) in
            (numbered_low w.next m.commands m.next (lawful.effects_number e (world_of w s None rendering)) low, tt)
        by (Some f) g = tt

    hook_under : (w : State K) (s : ℕ) (h : Hook K) → EndsO (hook_called app w s h) → AllUnder (hook_deeds app w s h)
    hook_under w s (HookValue k v) l = tt
    hook_under w s (HookEffect k e) l = acted_under w s e true l

    hooks_under : (kind : ℕ) (w : State K) (s : ℕ) (hs : List (Hook K)) → EndsO (hooks_called app kind w s hs) → AllUnder (hooks_deeds app kind w s hs)
    hooks_under kind w s [] l = tt
    hooks_under kind w s (h ∷ hs) l = by (is_kind kind h) (λ v k. hooks_under kind v s hs k) l
      where
        by : (b : Bool)
            → ((v : State K) → EndsO (hooks_called app kind v s hs) → AllUnder (hooks_deeds app kind v s hs))
            → EndsO (if b then onward (hook_called app w s h) (λ v. hooks_called app kind v s hs) else hooks_called app kind w s hs)
            → AllUnder (if b then hook_deeds app w s h ++ deeds_on (hook_called app w s h) (λ v. hooks_deeds app kind v s hs) else hooks_deeds app kind w s hs)
        by true go g =
            under_both (hook_deeds app w s h) (deeds_on (hook_called app w s h) (λ v. hooks_deeds app kind v s hs))
            (hook_under w s h (first_ends (hook_called app w s h) (λ v. hooks_called app kind v s hs) (λ v. hooks_later app lawful kind v s hs) g))
            (then_under (hook_called app w s h) (λ v. hooks_called app kind v s hs) (λ v. hooks_deeds app kind v s hs) go g)
        by false go g = go w g

    pub after_under : (w : State K) (s : ℕ) → EndsO (after_hooks app w s) → AllUnder (after_deeds app w s)
    after_under w s l = hooks_under after_render_kind w s (hooks_of w s) l

    answered_under : (w : State K) (s : ℕ) (world : World K) (f : State K → Element K → Outcome K) (g : State K → Element K → List (Deed K))
        → (m : Meaning K (Element K))
        → IsNumbered w.next m.commands m.next
        → ((v : State K) (answer : Element K) → LaterO v (f v answer))
        → ((v : State K) (answer : Element K) → EndsO (f v answer) → AllUnder (g v answer))
        → EndsO (answered_with app w s world f m)
        → AllUnder (answered_deeds app w s world g m)
    answered_under w s world f g m n later go l = by m.fault l
      where
        called : State K
        called = kept_call w s world m

        left : State K
        left = commands app called s None m.commands

        kept_next : tally.count called.next ≡ tally.count m.next
        kept_next = ap (λ (x : Firsts). tally.count x) (kept_same app lawful w s world m).next

        left_next : tally.count left.next ≡ tally.count called.next
        left_next = ap (λ (x : Firsts). tally.count x) (commands_same app 0 called s None m.commands (all_fresh app m.commands)).next

        fits : (b : Bool) → EndsO (if b then f left m.answer else Cut called (BadNode s))
            → AllUnder (if b then record { state = called; scope = s; polled = None; wants = m.commands } ∷ g left m.answer else [])
        fits true k =
            let then_on : tally.count left.next ≤ bound = ends_before left (state_of (f left m.answer)) (later left m.answer) k in
            let low : tally.count m.next ≤ bound = omega (arith, left_next, kept_next, then_on) in
            (numbered_low w.next m.commands m.next n low, go left m.answer k)
        fits false k = tt

        by : (o : Option CallFault)
            → EndsO (elim o as (λ z. Outcome K) [
              | Some x ↦ Cut (with_next w m.next) (fault_of x)
              | None ↦ if answer_fits m.answer then f left m.answer else Cut called (BadNode s)
            ])
            → AllUnder (elim o as (λ z. List (Deed K)) [
              | Some x ↦ []
              | None ↦ if answer_fits m.answer then record { state = called; scope = s; polled = None; wants = m.commands } ∷ g left m.answer else []
            ])
        by (Some x) k = tt
        by None k = fits (answer_fits m.answer) k

    pub body_under : (w : State K) (s : ℕ) (c : VComponent K) (f : State K → Element K → Outcome K) (g : State K → Element K → List (Deed K))
        → ((v : State K) (answer : Element K) → LaterO v (f v answer))
        → ((v : State K) (answer : Element K) → EndsO (f v answer) → AllUnder (g v answer))
        → EndsO (call_body app w s c f)
        → AllUnder (body_deeds app w s c g)
    body_under w s c f g later go l = own (is_own c (world_of w s None true)) l
      where
        world : World K
        world = world_of w s None true

        own : (b : Bool) → EndsO (answered_with app (called_where b w) s world f (body_of app c world)) → AllUnder (answered_deeds app (called_where b w) s world g (body_of app c world))
        own true k = answered_under (called_once w) s world f g (body_of app c world) (body_numbered app lawful c world) later go k
        own false k = answered_under w s world f g (body_of app c world) (body_numbered app lawful c world) later go k

    output_later : (w : State K) (s : ℕ) (answer : Element K) → LaterO w (new_output app w s answer)
    output_later w s (rendered tree) = agenda_later app lawful w s MainSide tree
    output_later w s (failed e) =
        later_either w (has_output w s) (Done w []) (start_agenda app w s MainSide placeholder_tree) (later_refl w) (agenda_later app lawful w s MainSide placeholder_tree)
    output_later w s (suspended origin t) =
        later_either w (has_output w s) (Done w []) (start_agenda app w s MainSide placeholder_tree) (later_refl w) (agenda_later app lawful w s MainSide placeholder_tree)

    answer_later : (w : State K) (s : ℕ) (answer : Element K) → LaterO w (after_answer app w s answer)
    answer_later w s answer =
        onward_later w (onward (settled_answer app w s answer) (λ v. after_hooks app v s)) (λ v. new_output app v s answer)
        (onward_later w (settled_answer app w s answer) (λ v. after_hooks app v s) (settled_later app lawful w s answer) (λ v. after_hooks_later app lawful v s))
        (λ v. output_later v s answer)

    failed_under : (w : State K) (s : ℕ) (answer : Element K) → Ends w → AllUnder (failed_deeds app w s answer)
    failed_under w s (rendered tree) l = tt
    failed_under w s (failed e) l =
        let none : IsNumbered w.next (Throw e ∷ []) w.next = record { cells = refl; contexts = refl; tasks = refl; elements = refl; errors = omega arith } in
        (numbered_low w.next (Throw e ∷ []) w.next none l, tt)
    failed_under w s (suspended origin t) l = tt

    answer_under : (w : State K) (s : ℕ) (answer : Element K) → EndsO (after_answer app w s answer) → AllUnder (answer_deeds app w s answer)
    answer_under w s answer l =
        under_both (failed_deeds app w s answer) (deeds_on (settled_answer app w s answer) (λ v. after_deeds app v s))
        (failed_under w s answer (ends_before w (state_of (after_answer app w s answer)) (answer_later w s answer) l))
        (
        then_under (settled_answer app w s answer) (λ v. after_hooks app v s) (λ v. after_deeds app v s) (λ v k. after_under v s k)
        (first_ends (onward (settled_answer app w s answer) (λ v. after_hooks app v s)) (λ v. new_output app v s answer) (λ v. output_later v s answer) l)
        )

    own_under : (w : State K) (s : ℕ) (c : VComponent K) → EndsO (call_body app w s c (λ v answer. after_answer app v s answer))
        → AllUnder (body_deeds app w s c (λ v answer. answer_deeds app v s answer))
    own_under w s c l =
        body_under w s c (λ v answer. after_answer app v s answer) (λ v answer. answer_deeds app v s answer) (λ v answer. answer_later v s answer)
        (λ v answer k. answer_under v s answer k) l

    run_as_later : (w : State K) (s : ℕ) (x : Scope K) (c : VComponent K) → LaterO w (run_as app w s x c)
    run_as_later w s x (SuspenseBoundary children fallback) =
        let steps : List RowStep = row_of x.shows (is_held x) in
        later_either w (runs_fallback steps) (Done w (row_items s steps)) (onward (after_hooks app w s) (λ v. Done v (row_items s steps))) (later_refl w)
        (onward_later w (after_hooks app w s) (λ v. Done v (row_items s steps)) (after_hooks_later app lawful w s) (λ v. later_refl v))
    run_as_later w s x (Own component props) = call_later app lawful w s (Own component props) (λ v answer. after_answer app v s answer) (λ v answer. answer_later v s answer)
    run_as_later w s x (Root component props) = call_later app lawful w s (Root component props) (λ v answer. after_answer app v s answer) (λ v answer. answer_later v s answer)
    run_as_later w s x (Fragment children) = call_later app lawful w s (Fragment children) (λ v answer. after_answer app v s answer) (λ v answer. answer_later v s answer)
    run_as_later w s x (ErrorBoundary children handler) =
        call_later app lawful w s (ErrorBoundary children handler) (λ v answer. after_answer app v s answer) (λ v answer. answer_later v s answer)

    run_as_under : (w : State K) (s : ℕ) (x : Scope K) (c : VComponent K) → EndsO (run_as app w s x c) → AllUnder (run_as_deeds app w s x c)
    run_as_under w s x (SuspenseBoundary children fallback) l = by (runs_fallback steps) l
      where
        steps : List RowStep
        steps = row_of x.shows (is_held x)

        by : (b : Bool) → EndsO (if b then Done w (row_items s steps) else onward (after_hooks app w s) (λ v. Done v (row_items s steps)))
            → AllUnder (if b then [] else after_deeds app w s)
        by true k = tt
        by false k = after_under w s (first_ends (after_hooks app w s) (λ v. Done v (row_items s steps)) (λ v. later_refl v) k)
    run_as_under w s x (Own component props) l = own_under w s (Own component props) l
    run_as_under w s x (Root component props) l = own_under w s (Root component props) l
    run_as_under w s x (Fragment children) l = own_under w s (Fragment children) l
    run_as_under w s x (ErrorBoundary children handler) l = own_under w s (ErrorBoundary children handler) l

    pub run_under : (w : State K) (s : ℕ) → EndsO (run app w s) → AllUnder (run_deeds app w s)
    run_under w s l = by (at w.scopes s) l
      where
        by : (o : Option (Scope K))
            → EndsO (elim o as (λ z. Outcome K) [
              | None ↦ Done w []
              | Some x ↦ onward (hooks_called app before_render_kind (unmarked w s) s x.hooks) (λ v. run_as app v s x x.component)
            ])
            → AllUnder (elim o as (λ z. List (Deed K)) [
              | None ↦ []
              | Some x ↦
                  hooks_deeds app before_render_kind (unmarked w s) s x.hooks
                  ++ deeds_on (hooks_called app before_render_kind (unmarked w s) s x.hooks) (λ v. run_as_deeds app v s x x.component)
            ])
        by None k = tt
        by (Some x) k =
            let o : Outcome K = hooks_called app before_render_kind (unmarked w s) s x.hooks in
            under_both (hooks_deeds app before_render_kind (unmarked w s) s x.hooks) (deeds_on o (λ v. run_as_deeds app v s x x.component))
            (hooks_under before_render_kind (unmarked w s) s x.hooks (first_ends o (λ v. run_as app v s x x.component) (λ v. run_as_later v s x x.component) k))
            (then_under o (λ v. run_as app v s x x.component) (λ v. run_as_deeds app v s x x.component) (λ v j. run_as_under v s x x.component j) k)
