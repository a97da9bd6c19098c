-- The logs of a session are accepted.
use Rattle.std.proofs.Common.{ℕ, suc, ◌+◌, true, List, [], ◌∷◌, ◌≡◌, refl, sym, ◌∙◌, subst, arith}
use Rattle.std.specs.Prelude.{Some}
use Rattle.std.specs.List.{AllByRecursion}
use Rattle.rt_model.specs.Tree.{Types}
use Rattle.rt_model.specs.World.{Application}
use Rattle.rt_model.specs.Replay.{Entry, Input, Machine, replay_on, start}
use Rattle.rt_model.specs.Reports.{OpensWith, InputsFrom, OneEach, logs_of}
use Rattle.rt_model.specs.Told.{Told, telling, told_by, is_settled, tell_reports}
use Rattle.rt_model.proofs.ToldReplayed.{log-replays, first-of}
use Rattle.lang_rows.specs.Verdicts.{Verdict, Accepted, opening, verdict_on, verdict_from}
use Rattle.rt_audit.specs.Runs.{RunsAreAccepted}
use Rattle.rt_audit.proofs.Stopping.{good_ends}

-- each list opens with its own entry
abbrev AllOpen : ℕ → List (List Entry) → Type 0
AllOpen n [] = Unit {0}
AllOpen n (log ∷ logs) = OpensWith (opening n) log × AllOpen (suc n) logs

inputs_open : {K : Types} (k : ℕ) (inputs : List (Input K)) (logs : List (List Entry)) → InputsFrom (suc k) inputs logs → AllOpen (suc k) logs
inputs_open k [] [] h = tt
inputs_open k [] (log ∷ logs) h = absurd h
inputs_open k (input ∷ inputs) [] h = absurd h
inputs_open k (input ∷ inputs) (log ∷ logs) h =
    let next : suc k + 1 ≡ suc (suc k) = omega arith in
    (h.0, inputs_open (suc k) inputs logs (subst (λ n. InputsFrom n inputs logs) next h.1))

all_open : {K : Types} (inputs : List (Input K)) (logs : List (List Entry)) → OneEach inputs logs → AllOpen 0 logs
all_open inputs [] h = absurd h
all_open inputs (log ∷ logs) h = (h.0, inputs_open 0 inputs logs h.1)

module _ {K : Types} (app : Application K) where
  -- one list
  passes : (n : ℕ) (m v : Machine K) (log : List Entry) (later : Machine K → Verdict) → OpensWith (opening n) log
      → replay_on app (Some m) log ≡ Some v
      → is_settled v ≡ true
      → verdict_on app n 0 m log later ≡ later v
  passes n m v [] later opens h s = absurd opens
  passes n m v (e ∷ log) later opens h s = good_ends app n m v e log later (sym opens.0) opens.1 h s

  -- the lists from one on
  accepted : (n : ℕ) (m : Machine K) (logs : List (List Entry)) (told : List (Told K)) → AllOpen n logs
      → tell_reports app m logs ≡ Some told
      → AllByRecursion (λ (r : Told K). is_settled r.machine ≡ true) told
      → verdict_from app n m logs ≡ Accepted
  accepted n m [] told opens h settled = refl
  accepted n m (log ∷ logs) told opens h settled =
      let f = first-of app m log logs told h in
      let t = f.0 in
      let all : AllByRecursion (λ (r : Told K). is_settled r.machine ≡ true) (told_by t ∷ f.1) =
      subst (λ (rs : List (Told K)). AllByRecursion (λ (r : Told K). is_settled r.machine ≡ true) rs) (sym f.4) settled in
      passes n m t.machine log (λ u. verdict_from app (suc n) u logs) opens.0 (log-replays app log (telling m) t f.2) all.0
      ∙ accepted (suc n) t.machine logs f.1 opens.1 f.3 all.1

  pub runs_are_accepted : RunsAreAccepted app
  runs_are_accepted props inputs limits taken reports h =
      let r = h.holds.recorded in
      accepted 0 (start app props inputs) (logs_of reports) h.told (all_open inputs (logs_of reports) h.done.one_each) r.accepted r.settled
