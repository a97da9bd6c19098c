-- A call that stopped came to its fault.
use Rattle.std.proofs.Common.{inl, nat_eq, Bool, true, false, ◌&&◌, not, List, [], ◌∷◌, ◌++◌, ◌≡◌, refl, sym, ap, ◌∙◌, subst}
use Rattle.std.specs.Prelude.{Option, Some, None, if◌then◌else◌}
use Rattle.rt_model.specs.Lists.{first_of}
use Rattle.rt_model.specs.Tree.{Types}
use Rattle.rt_model.specs.World.{Application}
use Rattle.rt_model.specs.Laws.{IsLawful}
use Rattle.rt_model.specs.State.{Fault, OutOfTurns, State}
use Rattle.rt_model.specs.Next.{look, owes}
use Rattle.rt_model.specs.Replay.{Entry, Machine, accepts, is_quiet}
use Rattle.rt_model.specs.Causes.{Limits, refusal, replay_within, depth_refused, next_height, turns_refused}
use Rattle.rt_model.specs.Sentences.{CallComesTo, call_refusal, call_spent, events_end}
use Rattle.rt_model.proofs.ToldReplayed.{within-replays}
use Rattle.law_moves.specs.Moves.{IsSettled}
use Rattle.rt_model.specs.Asides.{Looked, resting}
use Rattle.law_moves.proofs.Logs.{logs_are_moves}
use Rattle.rt_model.proofs.NumbersStand.{Sound}
use Rattle.law_moves.proofs.Woods.{moves_sound, reached_sound}
use Rattle.law_headline.proofs.Begins.{built_on}
use Rattle.law_headline.proofs.Reports.{settled_after, one_machine}
use Rattle.law_behavior.specs.Doms.{Until, Renders, ends_by, LedTo, Unended, RendersComeTo, CallsComeTo}
use Rattle.law_behavior.proofs.Leading.{owing, asides_lead, ends_on, within_on, within_split}

module _ {K : Types} (app : Application K) where
  -- a log of a call that comes to its refusal
  spent_none : (limits : Limits) (test : State K → Bool) (m : Machine K) → m.built ≡ true → ((test m.state ≡ false) → owes m.state ≡ true)
      → refusal limits m ≡ None → call_refusal limits test m ≡ None
  spent_none limits test m built owing none = by m.dead refl (depth_refused limits (next_height m)) refl none
    where
      by_spent : (quiet spent ends owed b : Bool) → b ≡ true → (ends ≡ false → owed ≡ true)
          → (if b && quiet && spent && owed then Some (OutOfTurns limits.units) else None) ≡ None
          → (if quiet && spent && not ends then Some (OutOfTurns limits.units) else None) ≡ None
      by_spent false spent ends owed b is owing h = refl
      by_spent true false ends owed b is owing h = refl
      by_spent true true true owed b is owing h = refl
      by_spent true true false owed b is owing h =
          let both : b && true && true && owed ≡ true = ap (λ (c : Bool). c && true && true && owed) is ∙ owing refl in
          let absurdity : Some (OutOfTurns limits.units) ≡ None = ap (λ (c : Bool). if c then Some (OutOfTurns limits.units) else None)
          (sym both) ∙ h in
          cc

      by : (d : Option Fault) → m.dead ≡ d → (o : Option Fault) → depth_refused limits (next_height m) ≡ o
          → first_of d (first_of o (turns_refused limits m)) ≡ None
          → first_of m.dead (first_of (depth_refused limits (next_height m)) (call_spent limits test m)) ≡ None
      by (Some fault) dead o deep h = cc
      by None dead (Some fault) deep h = cc
      by None dead None deep h =
          ap (λ (d : Option Fault). first_of d (first_of (depth_refused limits (next_height m)) (call_spent limits test m))) dead
          ∙ ap (λ (o : Option Fault). first_of o (call_spent limits test m)) deep
          ∙ by_spent (is_quiet m) (nat_eq m.units limits.units) (test m.state) (owes m.state) m.built built owing h

  module _ (lawful : IsLawful K app) (limits : Limits) (props : K.Props) (until : Until) where
    abbrev test : State K → Bool
    test x = ends_by until x

    -- where a call is on its way
    record OnWay (m : Machine K) : Type 0 where
      sound : Sound app lawful m
      settled : IsSettled m
      built : m.dead ≡ None → m.built ≡ true

    way_on : (m u : Machine K) (e : Entry) → OnWay m → refusal limits m ≡ None → accepts app m e ≡ Some u → OnWay u
    way_on m u e h none accepted =
        let one : replay_within app limits (Some m) (e ∷ []) ≡ Some u =
        ap (λ (o : Option Fault). replay_within app limits (elim o as (λ z. Option (Machine K))
        [ None ↦ accepts app m e | Some fault ↦ None ]) []) none
        ∙ ap (λ (o : Option (Machine K)). replay_within app limits o []) accepted in
        let on = logs_are_moves app limits m u (e ∷ []) h.settled one in
        let alive : m.dead ≡ None = first_none m.dead (first_of (depth_refused limits (next_height m)) (turns_refused limits m)) none in
        record {
          sound = moves_sound app lawful limits m u on.0 on.1 h.sound;
          settled = settled_after app limits (e ∷ []) m u h.settled one;
          built = λ lives. built_on app lawful limits props [] m u on.0 h.sound (h.built alive) on.1 lives;
        }
      where
        first_none : (d later : Option Fault) → first_of d later ≡ None → d ≡ None
        first_none None later h = refl
        first_none (Some fault) later h = cc

    stops_on : (log : List Entry) (m v : Machine K) (fault : Fault) → OnWay m → replay_within app limits (Some m) log ≡ Some v
        → Unended app test m log → call_refusal limits test v ≡ Some fault
        → CallComesTo app limits test m log fault
    stops_on [] m v fault h go unended cause = ap (λ (x : Machine K). call_refusal limits test x) (one_machine m v go) ∙ cause
    stops_on (e ∷ log) m v fault h go unended cause =
        let on = within_on app limits m v e log go in
        let none : refusal limits m ≡ None = on.0 in
        let u : Machine K = on.1.0 in
        let alive : m.dead ≡ None = first_none m.dead (first_of (depth_refused limits (next_height m)) (turns_refused limits m)) none in (
          spent_none limits test m (h.built alive) (λ fails. owing until m.state fails) none,
          unended.0,
          (u, on.1.1, stops_on log u v fault (way_on m u e h none on.1.1) on.1.2 (unended.1 u on.1.1) cause),
        )
      where
        first_none : (d later : Option Fault) → first_of d later ≡ None → d ≡ None
        first_none None later h = refl
        first_none (Some fault) later h = cc

    -- entry by entry to a machine within the limits, and from there
    way_over : (log : List Entry) (m v : Machine K) → OnWay m → replay_within app limits (Some m) log ≡ Some v → OnWay v
    way_over [] m v h go = subst (λ (x : Machine K). OnWay x) (one_machine m v go) h
    way_over (e ∷ log) m v h go =
        let on = within_on app limits m v e log go in
        way_over log on.1.0 v (way_on m on.1.0 e h on.0 on.1.1) on.1.2

  pub calls_come_to : CallsComeTo app
  calls_come_to lawful limits props whole until w log edits fault led r =
      let start_w : State K = look w in
      let m : Machine K = resting start_w in
      let looked_led : LedTo app limits props whole start_w = asides_lead app limits props whole lawful w Looked led tt (inl tt) in
      stops_on lawful limits props until log m r.last.machine fault
      (record { sound = reached_sound app lawful limits props [] m looked_led.reached; settled = refl; built = λ alive. refl })
      r.so.accepted r.unended r.cause

  pub renders_come_to : RendersComeTo app
  renders_come_to lawful limits props whole w log edits fault led r =
      let start_w : State K = look w in
      let m : Machine K = resting start_w in
      let looked_led : LedTo app limits props whole start_w = asides_lead app limits props whole lawful w Looked led tt (inl tt) in
      let begun : OnWay lawful limits props Renders m =
      record { sound = reached_sound app lawful limits props [] m looked_led.reached; settled = refl; built = λ alive. refl } in
      let go : replay_within app limits (Some m) (r.first ++ r.more) ≡ Some r.last.machine =
      ap (λ (es : List Entry). replay_within app limits (Some m) es) r.whole ∙ r.so.accepted in
      let parts = within_split app limits r.first r.more m r.last.machine go in
      let same : parts.0 ≡ r.between = one_machine parts.0 r.between (sym (within-replays app limits r.first m parts.0 parts.1) ∙ r.goes) in
      let there : OnWay lawful limits props Renders r.between =
      subst (λ (x : Machine K). OnWay lawful limits props Renders x) same (way_over lawful limits props Renders r.first m parts.0 begun parts.1) in
      let on : replay_within app limits (Some r.between) r.more ≡ Some r.last.machine =
      ap (λ (x : Machine K). replay_within app limits (Some x) r.more) (sym same) ∙ parts.2 in
      record {
        first = r.first;
        between = r.between;
        more = r.more;
        whole = r.whole;
        events = ends_on app (λ (y : State K). events_end y) r.first m r.between r.goes r.events r.calm r.processed;
        comes_to = stops_on lawful limits props Renders r.more r.between r.last.machine fault there on r.renders r.cause;
      }
