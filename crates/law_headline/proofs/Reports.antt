-- Report by report the edits give what shows, and so the headline holds.
use Rattle.std.proofs.Common.{true, false, ◌&&◌, not, List, [], ◌∷◌, ◌++◌, ◌≡◌, refl, sym, ap, ◌∙◌, subst, append_assoc, arith}
use Rattle.std.proofs.lemmas.List.{append-nil}
use Rattle.std.specs.Prelude.{Option, Some, None, Result, Ok, is_some, ◌≢◌}
use Rattle.std.specs.List.{AllByRecursion}
use Rattle.rt_lemmas.proofs.Options.{not_some as alive_of}
use Rattle.rt_model.specs.Lists.{joined}
use Rattle.rt_model.specs.Tree.{Types}
use Rattle.rt_model.specs.World.{Application}
use Rattle.rt_model.specs.Laws.{IsLawful}
use Rattle.rt_model.specs.State.{Fault, Item}
use Rattle.rt_model.specs.Next.{owes}
use Rattle.rt_model.specs.Replay.{Entry, Input, Machine, no_listener, no_work, is_quiet, waiting, is_due, due, change_by, step, rows_left, start}
use Rattle.rt_model.specs.Document.{Forest, Empty, DocFault, document_after}
use Rattle.rt_model.specs.View.{view}
use Rattle.rt_model.specs.Causes.{Limits, accepts_within, refusal, replay_within}
use Rattle.rt_model.specs.Told.{Told, Telling, telling, told_by, tell_log, tell_reports, is_settled}
use Rattle.rt_model.specs.Reports.{logs_of}
use Rattle.rt_model.specs.Headline.{DocumentIs, last_machine}
use Rattle.rt_model.proofs.Conjunctions.{and-left, and-right}
use Rattle.rt_model.proofs.FaultsOnce.{open_gate}
use Rattle.rt_model.proofs.ToldReplayed.{First, first-of, log-replays, within-replays}
use Rattle.law_moves.specs.Moves.{entries, moves_alone, IsSettled}
use Rattle.law_moves.specs.Reached.{Reached}
use Rattle.law_moves.proofs.Ways.{start_reached}
use Rattle.law_moves.proofs.Fuel.{fuel_suffices}
use Rattle.law_moves.proofs.Logs.{logs_are_moves}
use Rattle.law_moves.specs.Trees.{IsUnfolded}
use Rattle.law_moves.specs.Current.{EachIsCurrent}
use Rattle.law_moves.proofs.Reported.{IsFilled, told_hold, each_is, ran_is_current, ran_to_is_current}
use Rattle.law_headline.proofs.Settled.{reached_unfold}
use Rattle.law_headline.proofs.Reruns.{reruns_bring}
use Rattle.law_headline.specs.Sessions.{RanShows, RanToShows, RanIsHeadline, RanToIsCameTo, FinishedHold}
use Rattle.law_headline.proofs.Begins.{reached_on}
use Rattle.law_headline.proofs.UnitsShow.{Brings, Rest, Ends, rest_ends}

module _ {K : Types} where
  pub one_machine : (u v : Machine K) → Some u ≡ Some v → u ≡ v
  one_machine u v h = cc

  pub one_telling : (t u : Telling K) → Some t ≡ Some u → t ≡ u
  one_telling t u h = cc

  none_told : (told : List (Told K)) → Some [] ≡ Some told → [] ≡ told
  none_told told h = ap (λ (o : Option (List (Told K))). elim o as (λ z. List (Told K)) [ None ↦ [] | Some rs ↦ rs ]) h

  idle_of : (work : List (Item K)) → no_work work ≡ true → work ≡ []
  idle_of [] h = refl
  idle_of (i ∷ rest) h = cc

  settled_alive : (m : Machine K) → is_settled m ≡ true → m.dead ≡ None
  settled_alive m h =
      let quiet : is_quiet m ≡ true = and-left (is_quiet m) (not (owes m.state)) h in
      alive_of m.dead (and-left (not (is_some m.dead)) (no_work m.work) (and-left (not (is_some m.dead) && no_work m.work) (no_listener (waiting m)) quiet))

  settled_idle : (m : Machine K) → is_settled m ≡ true → m.work ≡ []
  settled_idle m h =
      let quiet : is_quiet m ≡ true = and-left (is_quiet m) (not (owes m.state)) h in
      idle_of m.work (and-right (not (is_some m.dead)) (no_work m.work) (and-left (not (is_some m.dead) && no_work m.work) (no_listener (waiting m)) quiet))

  -- a machine that needs an entry, and has no work, is in no unit
  pub unit_over : (m : Machine K) → m.dead ≡ None → m.work ≡ [] → IsSettled m → m.unit ≡ false
  unit_over m alive idle settled =
      sym (ap (λ (o : Option Fault). moves_alone o m.work m.unit) alive ∙ ap (λ (xs : List (Item K)). moves_alone None xs m.unit) idle) ∙ settled

module _ {K : Types} (app : Application K) where
  -- after each accepted entry the machine needs another one
  pub settled_after : (limits : Limits) (log : List Entry) (m v : Machine K) → IsSettled m → replay_within app limits (Some m) log ≡ Some v → IsSettled v
  settled_after limits [] m v s h = subst (λ (x : Machine K). IsSettled x) (one_machine m v h) s
  settled_after limits (e ∷ log) m v s h =
      let u : Machine K = change_by app m m.work e in
      let o = open_gate app limits (refusal limits m) (is_due app (due app m) e) (step app m e) log v h in
      settled_after limits log (step app m e) v ((fuel_suffices app (rows_left u.work) (rows_left u.work) u (omega arith) (omega arith)).1) o.2

  -- the first of two logs in a row is accepted too
  split_within : (limits : Limits) (o : Option (Machine K)) (xs ys : List Entry) (last : Machine K) → replay_within app limits o (xs ++ ys) ≡ Some last
      → (u : Machine K) × (replay_within app limits o xs ≡ Some u) × (replay_within app limits (Some u) ys ≡ Some last)
  split_within limits None xs ys last h = cc
  split_within limits (Some m) [] ys last h = (m, refl, h)
  split_within limits (Some m) (e ∷ xs) ys last h = split_within limits (accepts_within app limits m e) xs ys last h

module _ {K : Types} (app : Application K) (lawful : IsLawful K app) (limits : Limits) (props : K.Props) (inputs : List (Input K))
    (unfolded : (m : Machine K) → Reached app limits props inputs m → m.dead ≡ None → IsUnfolded m.state)
    (brings : Brings app limits props inputs) where
  -- between two reports: nothing is at work
  record Between (m : Machine K) : Type 0 where
    reached : Reached app limits props inputs m
    alive : m.dead ≡ None
    unit : m.unit ≡ false
    settled : IsSettled m

  -- the reports from there on
  reports_show : (logs : List (List Entry)) (more : List Entry) (m last : Machine K) (told : List (Told K))
      → Between m
      → tell_reports app m logs ≡ Some told
      → replay_within app limits (Some m) (joined logs ++ more) ≡ Some last
      → AllByRecursion (λ (r : Told K). is_settled r.machine ≡ true) told
      → DocumentIs (Ok (view m.state)) told
  reports_show [] more m last told b tells within settled = subst (λ (rs : List (Told K)). DocumentIs (Ok (view m.state)) rs) (none_told told tells) tt
  reports_show (log ∷ logs) more m last told b tells within settled =
      let f : First app m log logs told = first-of app m log logs told tells in
      let t : Telling K = f.0 in
      let v : Machine K = t.machine in
      let rest_settled : AllByRecursion (λ (r : Told K). is_settled r.machine ≡ true) (told_by t ∷ f.1) = subst (λ (rs : List (Told K)). AllByRecursion (λ (r : Told K). is_settled r.machine ≡ true) rs) (sym f.4) settled in
      let alive : v.dead ≡ None = settled_alive v rest_settled.0 in
      let idle : v.work ≡ [] = settled_idle v rest_settled.0 in
      let on : replay_within app limits (Some m) (log ++ (joined logs ++ more)) ≡ Some last = ap (λ (es : List Entry). replay_within app limits (Some m) es) (sym (append_assoc log (joined logs) more)) ∙ within in
      let parts = split_within app limits (Some m) log (joined logs ++ more) last on in
      let same : parts.0 ≡ v = one_machine parts.0 v (sym (within-replays app limits log m parts.0 parts.1) ∙ log-replays app log (telling m) t f.2) in
      let here : replay_within app limits (Some m) log ≡ Some v = parts.1 ∙ ap (λ (u : Machine K). Some u) same in
      let settled_now : IsSettled v = settled_after app limits log m v b.settled here in
      let unit : v.unit ≡ false = unit_over v alive idle settled_now in
      let found = logs_are_moves app limits m v log b.settled here in
      let begin : Rest app lawful limits props inputs unfolded brings (view m.state) (telling m) m = record { reached = b.reached; alive = b.alive; unit = b.unit; tells = refl; shows = refl } in
      let ends : Ends app lawful limits props inputs unfolded brings (view m.state) (telling m) (entries found.0) v = rest_ends app lawful limits props inputs unfolded brings (view m.state) found.0 (telling m) m v begin found.1 alive unit in
      let told_same : ends.last ≡ t = one_telling ends.last t (sym ends.told ∙ ap (λ (es : List Entry). tell_log app (Some (telling m)) es) found.2 ∙ f.2) in
      let shows : document_after t.edits (view m.state) ≡ Ok (view v.state) = ap (λ (x : Telling K). document_after x.edits (view m.state)) (sym told_same) ∙ ends.shows in
      let next : Between v = record { reached = reached_on app lawful limits props inputs m v found.0 b.reached found.1; alive = alive; unit = unit; settled = settled_now } in
      let rest : replay_within app limits (Some v) (joined logs ++ more) ≡ Some last = ap (λ (u : Machine K). replay_within app limits (Some u) (joined logs ++ more)) (sym same) ∙ parts.2 in
      subst (λ (rs : List (Told K)). DocumentIs (Ok (view m.state)) rs) f.4 (
        shows,
        subst (λ (x : Result Forest DocFault). DocumentIs x f.1) (sym shows) (reports_show logs more v last f.1 next f.3 rest rest_settled.1),
      )

  from_start : Between (start app props inputs)
  from_start = record { reached = start_reached app limits props inputs; alive = refl; unit = refl; settled = refl }

  all_show : (logs : List (List Entry)) (more : List Entry) (last : Machine K) (told : List (Told K))
      → tell_reports app (start app props inputs) logs ≡ Some told
      → replay_within app limits (Some (start app props inputs)) (joined logs ++ more) ≡ Some last
      → AllByRecursion (λ (r : Told K). is_settled r.machine ≡ true) told
      → DocumentIs (Ok Empty) told
  all_show logs more last told tells within settled = reports_show logs more (start app props inputs) last told from_start tells within settled

module _ {K : Types} (app : Application K) where
  pub ran_shows : RanShows app
  ran_shows lawful props inputs limits taken reports ran =
      all_show app lawful limits props inputs (reached_unfold app lawful limits props inputs) (reruns_bring app lawful limits props inputs)
      (logs_of reports) [] (last_machine (start app props inputs) ran.told) ran.told (ran.recorded).accepted
      (ap (λ (es : List Entry). replay_within app limits (Some (start app props inputs)) es) (append-nil (joined (logs_of reports))) ∙ (ran.done).within)
      (ran.recorded).settled

  pub ran_to_shows : RanToShows app
  ran_to_shows lawful props inputs limits taken reports fault ran =
      all_show app lawful limits props inputs (reached_unfold app lawful limits props inputs) (reruns_bring app lawful limits props inputs)
      (logs_of reports) (ran.stopped).log ((ran.stopped).last).machine ran.told (ran.recorded).accepted (ran.stopped).within (ran.recorded).settled

pub ran_is_headline : {K : Types} (app : Application K) → RanIsHeadline app
ran_is_headline app lawful props inputs limits taken reports ran =
    let each : EachIsCurrent app ran.told = ran_is_current app lawful props inputs limits taken reports ran in
    record {
      told = ran.told;
      holds =
          record {
            recorded = ran.recorded;
            shown = ran_shows app lawful props inputs limits taken reports ran;
            current = each.current;
            held = each.held;
          };
      done = ran.done;
    }

pub ran_to_is_came_to : {K : Types} (app : Application K) → RanToIsCameTo app
ran_to_is_came_to app lawful props inputs limits taken reports fault ran =
    let each : EachIsCurrent app ran.told = ran_to_is_current app lawful props inputs limits taken reports fault ran in
    record {
      told = ran.told;
      holds =
          record {
            recorded = ran.recorded;
            shown = ran_to_shows app lawful props inputs limits taken reports fault ran;
            current = each.current;
            held = each.held;
          };
      stopped = ran.stopped;
    }

filled : (log : List Entry) → log ≢ [] → IsFilled log
filled [] h = absurd (h refl)
filled (e ∷ log) h = tt

all_filled : (logs : List (List Entry)) → AllByRecursion (λ (log : List Entry). log ≢ []) logs → AllByRecursion (λ (log : List Entry). IsFilled log) logs
all_filled [] h = tt
all_filled (log ∷ logs) h = (filled log h.0, all_filled logs h.1)

pub finished_hold : {K : Types} (app : Application K) → FinishedHold app
finished_hold app lawful props inputs limits reports told more last opened recorded within =
    let logs : List (List Entry) = logs_of reports in
    let holding = told_hold app lawful limits props inputs logs [] more (start app props inputs) last told refl recorded.accepted within (all_filled logs opened) in
    let each : EachIsCurrent app told = each_is app lawful told holding recorded.settled in
    record {
      recorded = recorded;
      shown =
          all_show app lawful limits props inputs (reached_unfold app lawful limits props inputs) (reruns_bring app lawful limits props inputs)
          logs more last told recorded.accepted within recorded.settled;
      current = each.current;
      held = each.held;
    }
