-- What is found of a list after a turn, and what is answered of it.
use Rattle.std.proofs.Common.{ℕ, ◌+◌, true, false, inl, inr, List, [], ◌∷◌, ◌++◌, ◌≡◌, refl, sym, ap, ◌∙◌, subst, length, map, take}
use Rattle.std.specs.Prelude.{Option, Some, None, Result, Ok, Err, IfOk, nat_eq, if◌then◌else◌}
use Rattle.rt_edits.specs.declared.edit.Edit.{Edit}
use Rattle.tree_edits.specs.Documents.{edit_of}
use Rattle.rt_model.specs.Document as doc
use Rattle.rt_model.specs.OneLog.{types}
use Rattle.rt_model.specs.World.{Application}
use Rattle.rt_model.specs.State as model
use Rattle.rt_model.specs.Replay as replay
use Rattle.rt_model.specs.Replay.{Entry, replay_on}
use Rattle.rt_model.specs.Causes as causes
use Rattle.rt_model.specs.Reports.{is_opening}
use Rattle.rt_model.specs.Told.{count_entries, is_settled}
use Rattle.law_moves.proofs.Sessions.{rest_owes_none}
use Rattle.run_reports.specs.Seen.{entry_of}
use Rattle.run_reports.specs.declared.entry.Entry.{Entry as Noted}
use Rattle.run_state.specs.Names.{fault_of}
use Rattle.run_state.specs.declared.names.Cause.{Cause}
use Rattle.run_state.specs.declared.names.Stop.TheVariants as stops
use Rattle.run_machine.specs.Machines.{machine_of, noted}
use Rattle.run_outside.specs.Ends.{fault_in}
use Rattle.run_machine.specs.Stands.{Going, StandsAt, CameTo, TurnsAs}
use Rattle.run_outside.specs.declared.ended.Ended.{Ended}
use Rattle.run_outside.specs.declared.ended.Ended.TheVariants as ends
use Rattle.run_machine.specs.declared.machine.Machine.{Machine}
use Rattle.lang_rows.specs.Verdicts.{Verdict, Refused, opening, verdict_on}
use Rattle.rt_audit.specs.Fronts.{IsFront, PartsAt, GoesOn}
use Rattle.rt_audit.specs.Finding.{ComesTo, IsBehind, Says, Fell, Rests, TurnsTo, Keeps, at_rest}
use Rattle.rt_audit.specs.Judging.{StopsIn, PassesTo, FindsIn}
use Rattle.rt_audit.specs.declared.following.Turn.{Turn}
use Rattle.rt_audit.specs.declared.following.Turn.TheVariants as turns
use Rattle.rt_audit.specs.declared.following.Found.{Found}
use Rattle.rt_audit.specs.declared.following.Found.TheVariants as found
use Rattle.rt_audit.proofs.Accepted.{Takes, still_front, stands_taken, rest_taken, refused_taken, own_dead, owns}
use Rattle.std.proofs.lemmas.Bool.{eqb-true, eq-eqb}
use Rattle.rt_model.proofs.Maps.{by_test}
use Rattle.rt_audit.proofs.Fronts.{none_front, front_is_all, front_goes_on}
use Rattle.rt_audit.proofs.Stopping.{parts_stops, fault_stops, rest_stops, good_ends, pick_true, pick_false}

-- what is said at rest
pub rested_says : (turn : Turn) (noted list : List Entry) (good all number : ℕ) → turn ≡ turns.Rested → good ≡ length noted → all ≡ length list → number ≡ good + 1
    → IsFront noted list
    → Says turn noted list (at_rest good all number)
rested_says turn noted list good all number rested count whole next front =
    by_test (nat_eq good all)
    (
    λ q.
    let same : length noted ≡ length list = sym count ∙ eqb-true good all q ∙ whole in
    subst (λ (f : Found). Says turn noted list f) (sym (pick_true (nat_eq good all) found.Good (found.Bad number) q)) (rested, front_is_all noted list same front)
    )
    (
    λ q.
    subst (λ (f : Found). Says turn noted list f) (sym (pick_false (nat_eq good all) found.Good (found.Bad number) q))
    (record { good = good; number = next; why = inr (inl (rested, count, front_goes_on noted list (λ same. differ (count ∙ same ∙ sym whole) q) front)) })
    )
  where
    differ : good ≡ all → nat_eq good all ≡ false → ⊥
    differ same q = let wrong : true ≡ false = sym (eq-eqb good all same) ∙ q in cc

-- where the list parts from what was noted
pub behind_says : {X : Type 0} (turn : Turn) (noted list : List Entry) (at : ℕ) (answer : Result Found X) → PartsAt noted list at → IfOk answer (IsBehind at)
    → IfOk answer (Says turn noted list)
behind_says turn noted list at (Ok f) p is =
    subst (λ (g : Found). Says turn noted list g) (sym is) (record { good = at; number = refl; why = inl p })
behind_says turn noted list at (Err x) p is = tt

-- and after a fault
pub faulted_says : (turn : Turn) (noted list : List Entry) (good number : ℕ) → turn ≡ turns.Faulted → good ≡ length noted → number ≡ good + 1 → IsFront noted list
    → Says turn noted list (found.Bad number)
faulted_says turn noted list good number faulted count next front =
    record { good = good; number = next; why = inr (inr (faulted, count, front)) }

module _ {C Q V H T E L : Type 0} (app : Application (types C Q V H T E L)) (r : Going (types C Q V H T E L)) where
  -- the verdict on a list that opens as the report does, and the replay of what was noted
  opened_as : (n : ℕ) (list : List Entry) (later : replay.Machine (types C Q V H T E L) → Verdict) → opening n ∷ [] ≡ r.opened
      → verdict_on app n 0 r.from (r.opened ++ list) later ≡ verdict_on app n 0 r.from (opening n ∷ list) later
  opened_as n list later starts = ap (λ (o : List Entry). verdict_on app n 0 r.from (o ++ list) later) (sym starts)

  taken_as : (n : ℕ) (log : List Entry) (last : replay.Machine (types C Q V H T E L)) → opening n ∷ [] ≡ r.opened
      → replay_on app (Some r.from) (r.opened ++ log) ≡ Some last → replay_on app (Some r.from) (opening n ∷ log) ≡ Some last
  taken_as n log last starts accepted = ap (λ (o : List Entry). replay_on app (Some r.from) (o ++ log)) starts ∙ accepted

module _ {P C Q V H T E L : Type 0} (app : Application (types C Q V H T E L)) (limits : causes.Limits) (r : Going (types C Q V H T E L)) where
  -- where a turn came to a fault of the run
  pub fell : (edits : List doc.Edit) (before after : Option (List Edit)) (what : Cause) (d : Machine P C Q V H T E L)
      → ((fault : model.Fault) → fault_in (ends.Run (stops.Fault what)) ≡ Some fault → CameTo app limits r edits before after fault d)
      → Fell app limits r d
  fell edits before after what d came =
      let c = came (fault_of what) refl in
      record {
        last = (c.refused.last).machine;
        fault = fault_of what;
        accepted = refused_taken app limits r.props r.inputs r.from (r.opened ++ noted d) _ (fault_of what) c.refused;
        dead = own_dead limits (c.refused.last).machine (fault_of what) (owns what) c.refused.cause;
      }

  -- what a turn comes to, by the machine's answer
  pub turns_to : (edits : List doc.Edit) (before after : Option (List Edit)) (old d : Machine P C Q V H T E L) (turned : Result (Option ℕ) Ended) (turn : Turn)
      → TurnsAs app limits r edits before after old d turned
      → ComesTo turned turn
      → TurnsTo app limits r turn d
  turns_to edits before after old d (Ok (Some count)) turn h is =
      subst (λ (t : Turn). TurnsTo app limits r t d) (sym is) (record { edits = edits ++ map edit_of h.wrote; stands = h.stands })
  turns_to edits before after old d (Ok None) turn h is =
      subst (λ (t : Turn). TurnsTo app limits r t d) (sym is) (record { edits = edits; settled = h.1 })
  turns_to edits before after old d (Err ends.Sink) turn h is = absurd is
  turns_to edits before after old d (Err (ends.OutOfTurns units)) turn h is = absurd is
  turns_to edits before after old d (Err (ends.TooDeep height)) turn h is = absurd is
  turns_to edits before after old d (Err (ends.Run stops.OutOfMemory)) turn h is = absurd is
  turns_to edits before after old d (Err (ends.Run (stops.Fault what))) turn h is =
      subst (λ (t : Turn). TurnsTo app limits r t d) (sym is) (fell edits before after what d h.0)

  pub turns_on : {X : Type 0} (edits : List doc.Edit) (before after : Option (List Edit)) (old d : Machine P C Q V H T E L) (turned : Result (Option ℕ) Ended) (answer : Result Turn X)
      → TurnsAs app limits r edits before after old d turned
      → IfOk answer (ComesTo turned)
      → IfOk answer (λ turn. TurnsTo app limits r turn d)
  turns_on edits before after old d turned (Ok turn) h is = turns_to edits before after old d turned turn h is
  turns_on edits before after old d turned (Err x) h is = tt

  -- nothing is left to do, so nothing is owed
  pub rest_settled : (d : Machine P C Q V H T E L) → (h : Rests app limits r d) → is_settled (h.settled).last ≡ true
  rest_settled d h =
      let s = h.settled in
      rest_owes_none s.last s.rests.rest s.rests.built s.quiet s.none

  -- whatever a turn came to, what was noted is accepted
  pub turn_taken : (turn : Turn) (d : Machine P C Q V H T E L) → TurnsTo app limits r turn d → Takes app r.from (r.opened ++ noted d)
  turn_taken turns.Moved d h = stands_taken app limits r h.edits d h.stands
  turn_taken turns.Rested d h = record { last = (h.settled).last; accepted = rest_taken app limits r h.edits d h.settled }
  turn_taken turns.Faulted d h = record { last = h.last; accepted = h.accepted }

  -- so what was compared before it is still a front
  pub front_kept : (turn : Turn) (list : List Entry) (seen : ℕ) (old new : Machine P C Q V H T E L) → Keeps app limits r list seen old
      → TurnsTo app limits r turn new
      → IsFront (take seen (noted new)) list
  front_kept turn list seen old new h after =
      subst (λ k. IsFront (take k (noted new)) list) (sym h.counted)
      (still_front app r.from r.opened (noted old) (noted new) list (stands_taken app limits r h.stands.edits old h.stands.stands) (turn_taken turn new after) h.front)

  parted_bad : (list : List Entry) (good entry : ℕ) (d : Machine P C Q V H T E L) → count_entries is_opening (noted d) ≡ 0
      → Takes app r.from (r.opened ++ noted d)
      → entry ≡ good + 1
      → PartsAt (noted d) list good
      → StopsIn app limits r list entry
  parted_bad list good entry d none taken is p = λ n later starts.
      let counts : count_entries is_opening (p.front ++ p.first ∷ p.more) ≡ 0 = ap (λ (l : List Entry). count_entries is_opening l) (sym p.noted_is) ∙ none in
      let accepted : replay_on app (Some r.from) (opening n ∷ (p.front ++ p.first ∷ p.more)) ≡ Some taken.last =
      ap (λ (l : List Entry). replay_on app (Some r.from) (opening n ∷ l)) (sym p.noted_is) ∙ taken_as app r n (noted d) taken.last starts taken.accepted in
      opened_as app r n list later starts
      ∙ ap (λ (l : List Entry). verdict_on app n 0 r.from (opening n ∷ l) later) p.list_is
      ∙ parts_stops app n r.from taken.last (opening n) p.first p.front p.more p.rest later refl counts accepted p.other
      ∙ ap (λ k. Refused n k) (ap (λ k. k + 1) p.place_is ∙ sym is)

  rest_bad : (list : List Entry) (good entry : ℕ) (d : Machine P C Q V H T E L) → count_entries is_opening (noted d) ≡ 0
      → Rests app limits r d
      → entry ≡ good + 1
      → good ≡ length (noted d)
      → GoesOn (noted d) list
      → StopsIn app limits r list entry
  rest_bad list good entry d none h is count on = λ n later starts.
      let s = h.settled in
      opened_as app r n list later starts
      ∙ ap (λ (l : List Entry). verdict_on app n 0 r.from (opening n ∷ l) later) on.is
      ∙ rest_stops app n r.from s.last (opening n) on.first (noted d) on.more later refl none (taken_as app r n (noted d) s.last starts (rest_taken app limits r h.edits d s)) (rest_settled d h)
      ∙ ap (λ k. Refused n k) (ap (λ k. k + 1) (sym count) ∙ sym is)

  fault_bad : (list : List Entry) (good entry : ℕ) (d : Machine P C Q V H T E L) → count_entries is_opening (noted d) ≡ 0
      → Fell app limits r d
      → entry ≡ good + 1
      → good ≡ length (noted d)
      → IsFront (noted d) list
      → StopsIn app limits r list entry
  fault_bad list good entry d none h is count front = λ n later starts.
      opened_as app r n list later starts
      ∙ ap (λ (l : List Entry). verdict_on app n 0 r.from (opening n ∷ l) later) front.is
      ∙ fault_stops app n r.from h.last (opening n) (noted d) front.rest h.fault later refl none (taken_as app r n (noted d) h.last starts h.accepted) h.dead
      ∙ ap (λ k. Refused n k) (ap (λ k. k + 1) (sym count) ∙ sym is)

  -- what is found of a list
  pub found_in : (turn : Turn) (list : List Entry) (d : Machine P C Q V H T E L) (answer : Found) → count_entries is_opening (noted d) ≡ 0
      → TurnsTo app limits r turn d
      → Says turn (noted d) list answer
      → FindsIn app limits r list d answer
  found_in turn list d (found.SoFar count) none after says =
      record { stands = subst (λ (t : Turn). TurnsTo app limits r t d) says.0 after; counted = says.1; front = says.2 }
  found_in turn list d found.Good none after says = (subst (λ (t : Turn). TurnsTo app limits r t d) says.0 after, says.1)
  found_in turn list d (found.Bad entry) none after says =
      elim says.why [
        | inl p ↦ parted_bad list says.good entry d none (turn_taken turn d after) says.number p
        | inr q ↦ elim q [
          | inl x ↦ rest_bad list says.good entry d none (subst (λ (t : Turn). TurnsTo app limits r t d) x.0 after) says.number x.1 x.2
          | inr x ↦ fault_bad list says.good entry d none (subst (λ (t : Turn). TurnsTo app limits r t d) x.0 after) says.number x.1 x.2
        ]
      ]

  -- the same of a turn beside a list that was followed so far
  pub found_once : {X : Type 0} (turn : Turn) (list : List Entry) (seen : ℕ) (old new : Machine P C Q V H T E L) (given : List Noted) (answer : Result Found X)
      → given ≡ (new.course).entries
      → Keeps app limits r list seen old
      → TurnsTo app limits r turn new
      → (IsFront (take seen (map entry_of given)) list → IfOk answer (Says turn (map entry_of given) list))
      → IfOk answer (FindsIn app limits r list new)
  found_once turn list seen old new given (Err x) same keeps after says = tt
  found_once turn list seen old new given (Ok answer) same keeps after says =
      let log : map entry_of given ≡ noted new = ap (λ es. map entry_of es) same in
      let front : IsFront (take seen (map entry_of given)) list =
      subst (λ (l : List Entry). IsFront (take seen l) list) (sym log) (front_kept turn list seen old new keeps after) in
      found_in turn list new answer (new.course).later after (subst (λ (l : List Entry). Says turn l list answer) log (says front))

  -- a list is good, and the next report may follow
  pub list_good : (list : List Entry) (old new : Machine P C Q V H T E L) → count_entries is_opening (noted old) ≡ 0
      → Rests app limits r old × (list ≡ noted old)
      → new ≡ record old { course = new.course }
      → (new.course).entries ≡ []
      → PassesTo app limits r list new
  list_good list old new none h frame course =
      let s = (h.0).settled in
      let g = s.kept in
      record {
        last = s.last;
        follows = record {
          rest = s.rests.rest;
          built = s.rests.built;
          reached = s.rests.reached;
          between = record {
            kept = g;
            quiet = s.quiet;
            none = s.none;
            idle = ap (λ (d : Machine P C Q V H T E L). d.work) frame ∙ s.idle;
            over = ap (λ (d : Machine P C Q V H T E L). d.first) frame ∙ s.over;
            course = course;
            same = ap (λ (d : Machine P C Q V H T E L). machine_of g r.left r.taken d) frame ∙ s.same;
          };
        };
        passes =
            λ n later starts.
            opened_as app r n list later starts
            ∙ ap (λ (l : List Entry). verdict_on app n 0 r.from (opening n ∷ l) later) h.1
            ∙ good_ends app n r.from s.last (opening n) (noted old) later refl none (taken_as app r n (noted old) s.last starts (rest_taken app limits r (h.0).edits old s)) (rest_settled old h.0);
      }

  -- a report that stands without an entry behind the opening one
  pub keeps_none : (list : List Entry) (edits : List doc.Edit) (d : Machine P C Q V H T E L) → StandsAt app limits r edits d → (d.course).entries ≡ [] → Keeps app limits r list 0 d
  keeps_none list edits d stands empty =
      let log : noted d ≡ [] = ap (λ es. map entry_of es) empty in
      record {
        stands = record { edits = edits; stands = stands };
        counted = sym (ap (λ (l : List Entry). length l) log);
        front = subst (λ (l : List Entry). IsFront l list) (sym log) (none_front list);
      }
