-- In a whole render that polls no task after its first rerun no body runs twice, and the seen scopes are rerun in their order.
use Rattle.std.proofs.Common.{inl, inr, ℕ, ◌+◌, ◌≤◌, Bool, true, false, List, [], ◌∷◌, ◌++◌, ◌≡◌, refl, sym, ap, ◌∙◌, subst}
use Rattle.std.specs.Prelude.{Option, Some, None}
use Rattle.std.specs.List.{AllByRecursion}
use Rattle.rt_model.specs.Tree.{Types}
use Rattle.rt_model.specs.World.{Application}
use Rattle.rt_model.specs.State.{State}
use Rattle.rt_model.specs.Next.{Work, RerunScope, PollTask, RunEffects, look, next}
use Rattle.rt_model.specs.Replay.{Entry, Build, Taken, Heard, Rerun, Poll, Effects, Made, Fed, Kept, Removed, Machine, accepts, replay_on}
use Rattle.rt_model.specs.Document.{Edit}
use Rattle.rt_model.specs.Causes.{Limits, replay_within}
use Rattle.rt_model.specs.Told.{opens, count_entries}
use Rattle.rt_model.specs.Sentences.{runs, NoBodyTwice, EndsAt, events_end, render_ends}
use Rattle.rt_model.specs.Bodies.{is_poll, NoneAfterRerun, RerunsTheSeen}
use Rattle.rt_model.specs.Asides.{Looked, resting}
use Rattle.rt_model.proofs.ToldReplayed.{within-replays}
use Rattle.law_moves.specs.Moves.{IsSettled, AtRest}
use Rattle.law_moves.specs.Reached.{ByMoves, ByAside, Reached}
use Rattle.law_moves.specs.Asides.{IsAside}
use Rattle.law_moves.proofs.Logs.{logs_are_moves}
use Rattle.law_moves.proofs.Ways.{comes-append}
use Rattle.law_headline.proofs.Reports.{settled_after, unit_over, one_machine}
use Rattle.law_behavior.specs.Once.{renders, PollsFirst}
use Rattle.law_behavior.proofs.InTurn.{reruns_in_turn}
use Rattle.law_behavior.proofs.Renders.{no_body_twice_from}
use Rattle.law_behavior.specs.Doms.{LedTo, Unended, RenderRan, RendersRunOnce, RendersRerunInTurn, RendersMakeOrFeed}
use Rattle.law_behavior.proofs.Leading.{quiet_alive, quiet_idle, rest_at, ends_on, within_on, within_split}
use Rattle.law_behavior.proofs.Loops.{look_posted}
use Rattle.law_behavior.proofs.CallEntries.{unit_of, Calls, alive_where, Comes as UnitComes, due_of, due_is, calls_on, one_within, others_on}
use Rattle.law_behavior.proofs.Quick.{quick, served_renders, quick_count, quick_none, no_poll, Calm, no_rerun, no_effects, quick_calm, one_calm}

module _ {K : Types} (app : Application K) where
  module _ (limits : Limits) where
    -- between two units of a call
    record Pause (m : Machine K) : Type 0 where
      calls : Calls m
      settled : IsSettled m
      calm : Calm m

    -- one entry on
    record OneOn (m : Machine K) (e : Entry) (log : List Entry) (v : Machine K) : Type 0 where
      alive : m.dead ≡ None
      idle : m.work ≡ []
      none : m.state.posted ≡ []
      comes : UnitComes app m e
      u : Machine K
      accepted : accepts app m e ≡ Some u
      on : replay_within app limits (Some u) log ≡ Some v
      calls : Calls u
      settled : IsSettled u
      calm : quick e ≡ true → Calm u

    one_on : (m v : Machine K) (e : Entry) (log : List Entry) → Pause m → replay_within app limits (Some m) (e ∷ log) ≡ Some v → OneOn m e log v
    one_on m v e log p go =
        let on = within_on app limits m v e log go in
        let u : Machine K = on.1.0 in
        let alive : m.dead ≡ None = alive_where limits m on.0 in
        let here = p.calm alive in
        let one : replay_within app limits (Some m) (e ∷ []) ≡ Some u = one_within app limits m u e on.0 on.1.1 in
        let moves = logs_are_moves app limits m u (e ∷ []) p.settled one in
        record {
          alive = alive;
          idle = here.0;
          none = here.1;
          comes =
              elim (due_is app m e p.calls alive (due_of app m u e on.1.1)) [
                | inl c ↦ c
                | inr s ↦ (let absurdity : s.item ∷ s.later ≡ [] = sym s.first ∙ here.0 in cc)
              ];
          u = u;
          accepted = on.1.1;
          on = on.1.2;
          calls = calls_on app limits (e ∷ []) m u p.settled one p.calls;
          settled = settled_after app limits (e ∷ []) m u p.settled one;
          calm = λ plain. one_calm app limits moves.0 m u e alive p.settled moves.1 moves.2 (quick_calm app m e plain here.0 here.1);
        }

    -- while events are processed tasks are polled and effects done, and nothing else
    events_quick : (log : List Entry) (m v : Machine K) → Pause m → replay_within app limits (Some m) log ≡ Some v
        → Unended app (λ (w : State K). events_end w) m log
        → AllByRecursion (λ (e : Entry). quick e ≡ true) log × Pause v
    events_quick [] m v p go unended = (tt, subst (λ (x : Machine K). Pause x) (one_machine m v go) p)
    events_quick (e ∷ log) m v p go unended =
        let o : OneOn m e log v = one_on m v e log p go in
        let plain : quick e ≡ true = by (o.comes).work (o.comes).next_is (o.comes).named o.none unended.0 in
        let rest = events_quick log o.u v (record { calls = o.calls; settled = o.settled; calm = o.calm plain }) o.on (unended.1 o.u o.accepted) in
        ((plain, rest.0), rest.1)
      where
        by : (work : Work) → next m.state ≡ Some work → e ≡ unit_of work → m.state.posted ≡ [] → (opens e ≡ true → events_end m.state ≡ false)
            → quick e ≡ true
        by (RerunScope s) is named none goes = no_rerun m.state s (goes (ap (λ (x : Entry). opens x) named)) none is
        by (PollTask t) is named none goes = ap (λ (x : Entry). quick x) named
        by (RunEffects s) is named none goes = ap (λ (x : Entry). quick x) named

    -- a render that polls no task
    reruns_alone : (log : List Entry) (m v : Machine K) → Calls m → IsSettled m → replay_within app limits (Some m) log ≡ Some v
        → Unended app (λ (w : State K). render_ends w) m log → count_entries is_poll log ≡ 0
        → AllByRecursion (λ (e : Entry). renders e ≡ true) log
    reruns_alone [] m v calls settled go unended none = tt
    reruns_alone (e ∷ log) m v calls settled go unended none =
        let on = within_on app limits m v e log go in
        let u : Machine K = on.1.0 in
        let one : replay_within app limits (Some m) (e ∷ []) ≡ Some u = one_within app limits m u e on.0 on.1.1 in
        let polls = no_poll e log none in (
          elim (due_is app m e calls (alive_where limits m on.0) (due_of app m u e on.1.1)) [
            | inl c ↦ by c.work c.next_is c.named polls.0 unended.0
            | inr s ↦ served_renders e s.serves
          ],
          reruns_alone log u v (calls_on app limits (e ∷ []) m u settled one calls) (settled_after app limits (e ∷ []) m u settled one) on.1.2
              (unended.1 u on.1.1) polls.1,
        )
      where
        by : (work : Work) → next m.state ≡ Some work → e ≡ unit_of work → is_poll e ≡ false → (opens e ≡ true → render_ends m.state ≡ false)
            → renders e ≡ true
        by (RerunScope s) is named other goes = ap (λ (x : Entry). renders x) named
        by (PollTask t) is named other goes = let absurdity : true ≡ false = sym (ap (λ (x : Entry). is_poll x) named) ∙ other in cc
        by (RunEffects s) is named other goes = no_effects m.state s (goes (ap (λ (x : Entry). opens x) named)) is

    -- from where events were processed tasks are polled first, and then scopes are rerun alone
    polls_first : (log : List Entry) (m v : Machine K) → Pause m → replay_within app limits (Some m) log ≡ Some v
        → Unended app (λ (w : State K). render_ends w) m log → NoneAfterRerun log → PollsFirst log
    polls_first [] m v p go unended none = tt
    polls_first (e ∷ log) m v p go unended none =
        by (λ p h. polls_first log o.u v p o.on (unended.1 o.u o.accepted) h) (o.comes).work (o.comes).next_is (o.comes).named none
      where
        o : OneOn m e log v
        o = one_on m v e log p go

        by : (Pause o.u → NoneAfterRerun log → PollsFirst log) → (work : Work) → next m.state ≡ Some work → e ≡ unit_of work
            → NoneAfterRerun (e ∷ log) → PollsFirst (e ∷ log)
        by further (RerunScope s) is named h =
            let there : NoneAfterRerun (Rerun s ∷ log) = subst (λ (x : Entry). NoneAfterRerun (x ∷ log)) named h in
            subst (λ (x : Entry). PollsFirst (x ∷ log)) (sym named)
            (refl, reruns_alone log o.u v o.calls o.settled o.on (unended.1 o.u o.accepted) there)
        by further (PollTask t) is named h =
            let there : NoneAfterRerun (Poll t ∷ log) = subst (λ (x : Entry). NoneAfterRerun (x ∷ log)) named h in
            subst (λ (x : Entry). PollsFirst (x ∷ log)) (sym named)
            (further (record { calls = o.calls; settled = o.settled; calm = o.calm (ap (λ (x : Entry). quick x) named) }) there)
        by further (RunEffects s) is named h = no_effects m.state s (unended.0 (ap (λ (x : Entry). opens x) named)) is

  -- where a call begins
  begins : (limits : Limits) (w : State K) → Pause limits (resting (look w))
  begins limits w =
      record {
        calls = record { built = refl; inputs = refl; listeners = refl };
        settled = refl;
        calm = λ alive. (refl, look_posted w);
      }

  -- the log of a call that processes events has polls and batches of effects alone
  pub events_log : (limits : Limits) (w : State K) (log : List Entry) (v : Machine K)
      → replay_within app limits (Some (resting (look w))) log ≡ Some v
      → Unended app (λ (x : State K). events_end x) (resting (look w)) log
      → AllByRecursion (λ (e : Entry). quick e ≡ true) log
  events_log limits w log v go unended = (events_quick limits log (resting (look w)) v (begins limits w) go unended).0

  pub renders_make_or_feed : RendersMakeOrFeed app
  renders_make_or_feed limits w log edits v r =
      let b : Pause limits (resting (look w)) = begins limits w in
      others_on app limits log (resting (look w)) (r.last).machine b.settled b.calls r.so.accepted

  -- the second part of a whole render that polls no task after its first rerun
  pub record Second (limits : Limits) (props : K.Props) (between v : Machine K) (first more : List Entry) : Type 0 where
    pub quick_first : AllByRecursion (λ (e : Entry). quick e ≡ true) first
    pub reached : Reached app limits props [] between
    pub rest : AtRest between
    pub ends : EndsAt app (λ (y : State K). render_ends y) between more v
    pub polls : PollsFirst more

  pub second : (limits : Limits) (props : K.Props) (whole : Bool) (w : State K) (log : List Entry) (edits : List Edit) (v : Machine K)
      → LedTo app limits props whole w → (r : RenderRan app limits w log edits v) → NoneAfterRerun log
      → Second limits props r.between v r.first r.more
  second limits props whole w log edits v led r none =
      let m : Machine K = resting (look w) in
      let b : Pause limits m = begins limits w in
      let go : replay_within app limits (Some m) (r.first ++ r.more) ≡ Some v =
      ap (λ (es : List Entry). replay_within app limits (Some m) es) r.whole ∙ r.so.accepted ∙ ap (λ (x : Machine K). Some x) r.machine in
      let parts = within_split app limits r.first r.more m v go in
      let same : parts.0 ≡ r.between = one_machine parts.0 r.between (sym (within-replays app limits r.first m parts.0 parts.1) ∙ r.goes) in
      let there : replay_within app limits (Some m) r.first ≡ Some r.between = parts.1 ∙ ap (λ (x : Machine K). Some x) same in
      let on : replay_within app limits (Some r.between) r.more ≡ Some v =
      ap (λ (x : Machine K). replay_within app limits (Some x) r.more) (sym same) ∙ parts.2 in
      let events = events_quick limits r.first m r.between b there r.events in
      let later : NoneAfterRerun r.more =
      quick_none r.first r.more events.0 (subst (λ (es : List Entry). NoneAfterRerun es) (sym r.whole) none) in
      let alive = quiet_alive r.between r.calm in
      let idle = quiet_idle r.between r.calm in
      let begun : IsAside app (resting w) Looked m = record { rest = rest_at w; built = refl; allowed = tt; gives = refl } in
      let moves = logs_are_moves app limits m r.between r.first b.settled there in
      record {
        quick_first = events.0;
        reached =
            record {
              firsts = led.reached.firsts;
              above = led.reached.above;
              contexts = led.reached.contexts;
              parts = led.reached.parts ++ (ByAside Looked ∷ ByMoves moves.0 ∷ []);
              comes =
                  comes-append app limits led.reached.parts (ByAside Looked ∷ ByMoves moves.0 ∷ []) _ (resting w) r.between led.reached.comes
                  (m, begun, (r.between, moves.1, refl));
            };
        rest = record { alive = alive; idle = idle; unit = unit_over r.between alive idle (events.1).settled };
        ends =
            ends_on app (λ (y : State K). render_ends y) r.more r.between v (within-replays app limits r.more r.between v on) r.renders r.quiet
            r.ended;
        polls = polls_first limits r.more r.between v events.1 on r.renders later;
      }

  pub renders_run_once : RendersRunOnce app
  renders_run_once lawful limits props whole w log edits v led r none s =
      let z : Second limits props r.between v r.first r.more = second limits props whole w log edits v led r none in
      let once : NoBodyTwice r.more = no_body_twice_from app lawful limits props [] r.between v r.more z.reached z.rest z.ends z.polls in
      let few = once s in
      subst (λ (es : List Entry). count_entries (λ e. runs s e) es ≤ 1) r.whole
      (subst (λ (n : ℕ). n ≤ 1) (sym (quick_count s r.first r.more z.quick_first)) few)

  -- nothing is asked of polls and effects before the first rerun
  through_quick : (first more : List Entry) (m between : Machine K) → AllByRecursion (λ (e : Entry). quick e ≡ true) first
      → replay_on app (Some m) first ≡ Some between → RerunsTheSeen app between more → RerunsTheSeen app m (first ++ more)
  through_quick [] more m between h go there = subst (λ (x : Machine K). RerunsTheSeen app x more) (sym (one_machine m between go)) there
  through_quick (e ∷ first) more m between h go there =
      by (λ u on. through_quick first more u between h.1 on there) e refl h.0
    where
      further : ((u : Machine K) → replay_on app (Some u) first ≡ Some between → RerunsTheSeen app u (first ++ more)) → (u : Machine K)
          → accepts app m e ≡ Some u → RerunsTheSeen app u (first ++ more)
      further k u acc = k u (ap (λ (o : Option (Machine K)). replay_on app o first) (sym acc) ∙ go)

      by : ((u : Machine K) → replay_on app (Some u) first ≡ Some between → RerunsTheSeen app u (first ++ more)) → (d : Entry) → e ≡ d
          → quick d ≡ true → RerunsTheSeen app m (d ∷ (first ++ more))
      by k (Poll t) is q = λ u acc. further k u (ap (λ (x : Entry). accepts app m x) is ∙ acc)
      by k (Effects s) is q = λ u acc. further k u (ap (λ (x : Entry). accepts app m x) is ∙ acc)
      by k (Build) is q = cc
      by k (Taken n) is q = cc
      by k (Heard s) is q = cc
      by k (Rerun s) is q = cc
      by k (Made s) is q = cc
      by k (Fed s) is q = cc
      by k (Kept s) is q = cc
      by k (Removed s) is q = cc

  pub renders_rerun_in_turn : RendersRerunInTurn app
  renders_rerun_in_turn lawful limits props whole w log edits v led r none =
      let z : Second limits props r.between v r.first r.more = second limits props whole w log edits v led r none in
      subst (λ (es : List Entry). RerunsTheSeen app (resting (look w)) es) r.whole
      (through_quick r.first r.more (resting (look w)) r.between z.quick_first r.goes
      (reruns_in_turn app lawful limits props [] r.between v r.more z.reached z.rest z.ends z.polls))
