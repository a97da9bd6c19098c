-- While events are processed nothing is written, and what logs no entry shows nothing new.
use Rattle.std.proofs.Common.{ℕ, Bool, true, false, ◌&&◌, ◌||◌, not, List, [], ◌∷◌, ◌++◌, ◌≡◌, refl, sym, ap, ◌∙◌, subst}
use Rattle.std.proofs.lemmas.List.{append-nil}
use Rattle.std.specs.Prelude.{Option, Some, None, if◌then◌else◌}
use Rattle.std.specs.List.{AllByRecursion}
use Rattle.rt_model.specs.Tree.{Types}
use Rattle.rt_model.specs.World.{Application}
use Rattle.rt_model.specs.State.{Fault, State, Item}
use Rattle.rt_model.specs.Next.{look}
use Rattle.rt_model.specs.Replay.{Entry, Build, Taken, Heard, Rerun, Poll, Effects, Made, Fed, Kept, Removed, Machine, accepts}
use Rattle.rt_model.specs.Document.{Edit}
use Rattle.rt_model.specs.Caused.{caused, caused_until}
use Rattle.rt_model.specs.Causes.{Limits, depth_refused, next_height, first_item, edits_at_depth, edits_at_refusal}
use Rattle.rt_model.specs.Told.{Telling, opens, opened, telling, closed_unit, tell_log}
use Rattle.rt_model.specs.Asides.{aside_state, resting}
use Rattle.law_headline.proofs.Calm.{aside_level}
use Rattle.law_behavior.specs.Muted.{EventsWriteNothing, StoppedWriteNothing, AsidesShowNothing}
use Rattle.law_behavior.proofs.Leading.{asides_lead, same_view}
use Rattle.law_behavior.proofs.Quick.{quick}
use Rattle.law_behavior.proofs.RunsOnce.{events_log}

module _ {K : Types} (app : Application K) where
  -- a fault in what began with this entry leaves no edit of it
  abbrev CutNone : Entry → Type 0
  CutNone e = (w v : State K) (refused : Option (Item K)) → caused_until app w v refused e ≡ []

  cut_build : (w v : State K) (refused : Option (Item K)) → caused_until app w v refused Build ≡ []
  cut_build w v None = refl
  cut_build w v (Some item) = refl

  cut_poll : (t : ℕ) (w v : State K) (refused : Option (Item K)) → caused_until app w v refused (Poll t) ≡ []
  cut_poll t w v None = refl
  cut_poll t w v (Some item) = refl

  cut_effects : (s : ℕ) (w v : State K) (refused : Option (Item K)) → caused_until app w v refused (Effects s) ≡ []
  cut_effects s w v None = refl
  cut_effects s w v (Some item) = refl

  -- what holds of a unit that ended, of one that goes on and of one that a fault ended holds of it
  by_cases : (holds : Telling K → Type 0) (b : Telling K) (at_work : Bool) (m : Machine K)
      → holds (record b { machine = m; edits = b.edits ++ caused app b.before m.state b.first })
      → holds (record b { machine = m })
      → holds (record b { machine = m; edits = b.edits ++ caused_until app b.before m.state m.refused b.first })
      → holds (closed_unit app b at_work m)
  by_cases holds b at_work m ended goes cut = by m.dead (at_work && not m.unit)
    where
      by : (o : Option Fault) (ends : Bool)
          → holds (elim o as (λ z. Telling K) [
            | None ↦
                if ends
                then record b { machine = m; edits = b.edits ++ caused app b.before m.state b.first }
                else record b { machine = m }
            | Some fault ↦ record b { machine = m; edits = b.edits ++ caused_until app b.before m.state m.refused b.first }
          ])
      by None true = ended
      by None false = goes
      by (Some fault) ends = cut

  -- a unit that writes nothing
  unit_silent : (t : Telling K) (e : Entry) (at_work : Bool) (m : Machine K)
      → ((w v : State K) → caused app w v e ≡ [])
      → CutNone e
      → ((closed_unit app (record t { before = t.machine.state; first = e }) at_work m).edits ≡ t.edits)
      × CutNone (closed_unit app (record t { before = t.machine.state; first = e }) at_work m).first
  unit_silent t e at_work m none cut =
      by_cases (λ (u : Telling K). (u.edits ≡ t.edits) × CutNone u.first) (record t { before = t.machine.state; first = e }) at_work m
      (ap (λ (es : List Edit). t.edits ++ es) (none t.machine.state m.state) ∙ append-nil t.edits, cut)
      (refl, cut)
      (ap (λ (es : List Edit). t.edits ++ es) (cut t.machine.state m.state m.refused) ∙ append-nil t.edits, cut)

  -- a poll and a batch of effects are such units
  entry_silent : (t : Telling K) (e : Entry) (m : Machine K) → quick e ≡ true
      → ((closed_unit app (opened t e) (opens e || t.machine.unit) m).edits ≡ t.edits)
      × CutNone (closed_unit app (opened t e) (opens e || t.machine.unit) m).first
  entry_silent t (Poll k) m h = unit_silent t (Poll k) true m (λ w v. refl) (λ w v refused. cut_poll k w v refused)
  entry_silent t (Effects s) m h = unit_silent t (Effects s) true m (λ w v. refl) (λ w v refused. cut_effects s w v refused)
  entry_silent t Build m h = cc
  entry_silent t (Taken k) m h = cc
  entry_silent t (Heard s) m h = cc
  entry_silent t (Rerun s) m h = cc
  entry_silent t (Made s) m h = cc
  entry_silent t (Fed s) m h = cc
  entry_silent t (Kept s) m h = cc
  entry_silent t (Removed s) m h = cc

  -- so a log of them writes nothing
  log_silent : (log : List Entry) (t u : Telling K) → AllByRecursion (λ (e : Entry). quick e ≡ true) log → CutNone t.first
      → tell_log app (Some t) log ≡ Some u
      → (u.edits ≡ t.edits) × CutNone u.first
  log_silent [] t u plain cut told = subst (λ (x : Telling K). (x.edits ≡ t.edits) × CutNone x.first) (one t u told) (refl, cut)
    where
      one : (a b : Telling K) → Some a ≡ Some b → a ≡ b
      one a b g = cc
  log_silent (e ∷ log) t u plain cut told = by (λ x shut go. log_silent log x u plain.1 shut go) (accepts app t.machine e) told
    where
      by : ((x : Telling K) → CutNone x.first → tell_log app (Some x) log ≡ Some u → (u.edits ≡ x.edits) × CutNone u.first)
          → (o : Option (Machine K))
          → tell_log app
          (elim o as (λ z. Option (Telling K)) [
            | None ↦ None
            | Some m ↦ Some (closed_unit app (opened t e) (opens e || t.machine.unit) m)
          ]) log
          ≡ Some u
          → (u.edits ≡ t.edits) × CutNone u.first
      by on None go = cc
      by on (Some m) go =
          let here = entry_silent t e m plain.0 in
          let later = on (closed_unit app (opened t e) (opens e || t.machine.unit) m) here.1 go in
          (later.0 ∙ here.0, later.1)

  -- nor does one at whose end a fault comes
  at_refusal : (limits : Limits) (t : Telling K) → t.edits ≡ [] → CutNone t.first → edits_at_refusal app limits t ≡ []
  at_refusal limits t none cut = by t.machine.dead (depth_refused limits (next_height t.machine))
    where
      by : (o p : Option Fault) → elim o as (λ z. List Edit) [ None ↦ edits_at_depth app t p | Some fault ↦ t.edits ] ≡ []
      by None None = none
      by None (Some fault) =
          ap (λ (es : List Edit). t.edits ++ es) (cut t.before t.machine.state (first_item t.machine.work)) ∙ append-nil t.edits ∙ none
      by (Some fault) p = none

  pub events_write_nothing : EventsWriteNothing app
  events_write_nothing limits w log edits v r =
      let plain = events_log app limits w log (r.last).machine r.so.accepted r.unended in
      sym r.edits_are ∙ (log_silent log (telling (resting (look w))) r.last plain (λ x y refused. cut_build x y refused) r.so.told).0

  pub stopped_write_nothing : StoppedWriteNothing app
  stopped_write_nothing limits w log edits fault r =
      let plain = events_log app limits w log (r.last).machine r.so.accepted r.unended in
      let silent = log_silent log (telling (resting (look w))) r.last plain (λ x y refused. cut_build x y refused) r.so.told in
      sym r.edits_are ∙ at_refusal limits r.last silent.0 silent.1

  pub asides_show_nothing : AsidesShowNothing app
  asides_show_nothing lawful limits props whole w a led allowed passes =
      same_view app lawful limits props whole w (aside_state app w a) led (asides_lead app limits props whole lawful w a led allowed passes)
      (aside_level app w a)
