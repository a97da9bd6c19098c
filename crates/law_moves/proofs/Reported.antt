-- The states after the reports of a session are reached, so they are current.
use Rattle.std.proofs.Common.{ℕ, ◌+◌, true, List, [], ◌∷◌, ◌++◌, ◌≡◌, refl, sym, ap, ◌∙◌, subst, append_assoc}
use Rattle.std.proofs.lemmas.List.{append-nil}
use Rattle.std.specs.Prelude.{Option, Some, None}
use Rattle.std.specs.List.{AllByRecursion}
use Rattle.rt_model.specs.Lists.{joined}
use Rattle.rt_model.specs.Tree.{Types}
use Rattle.rt_model.specs.World.{Application}
use Rattle.rt_model.specs.Laws.{IsLawful}
use Rattle.rt_model.specs.Replay.{Entry, Build, Taken, Input, Machine, ones, start}
use Rattle.rt_model.specs.Causes.{Limits, accepts_within, replay_within}
use Rattle.rt_model.specs.Told.{Told, telling, tell_reports, is_settled}
use Rattle.rt_model.specs.Current.{AllCurrent}
use Rattle.rt_model.specs.Reports.{OpensWith, InputsFrom, OneEach, CutFrom, OneEachThen, logs_of}
use Rattle.rt_model.specs.Headline.{last_machine, AllHeldShown}
use Rattle.rt_model.proofs.ToldReplayed.{First, first-of, log-replays, within-replays}
use Rattle.law_moves.specs.Moves.{Move, entries, Leads}
use Rattle.law_moves.proofs.Begun.{ones_above}
use Rattle.law_moves.proofs.Joins.{logs_join}
use Rattle.law_moves.proofs.Logs.{logs_are_moves}
use Rattle.law_moves.specs.Current.{EachIsCurrent}
use Rattle.law_moves.specs.Reported.{RanIsCurrent, RanToIsCurrent}
use Rattle.law_moves.proofs.Moving.{HoldingOn}
use Rattle.law_moves.proofs.Moved.{begun_holds}
use Rattle.law_moves.proofs.Settled.{settled_dead, holding_current, holding_shown}

-- a log has an entry
abbrev pub IsFilled : List Entry → Type 0
IsFilled [] = ⊥
IsFilled (e ∷ log) = Unit {0}

filled_after : (xs ys : List Entry) → IsFilled ys → IsFilled (xs ++ ys)
filled_after [] ys h = h
filled_after (x ∷ xs) ys h = tt

opened_filled : (first : Entry) (log : List Entry) → OpensWith first log → IsFilled log
opened_filled first [] h = absurd h
opened_filled first (e ∷ log) h = tt

not_filled : {P : Type 0} (log : List Entry) → [] ≡ log → IsFilled log → P
not_filled [] h f = absurd f
not_filled (e ∷ log) h f = cc

module _ {K : Types} where
  inputs_filled : (k : ℕ) (inputs : List (Input K)) (logs : List (List Entry)) → InputsFrom k inputs logs → AllByRecursion (λ (log : List Entry). IsFilled log) logs
  inputs_filled k inputs [] h = tt
  inputs_filled k [] (log ∷ logs) h = absurd h
  inputs_filled k (input ∷ inputs) (log ∷ logs) h = (opened_filled (Taken k) log h.0, inputs_filled (k + 1) inputs logs h.1)

  each_filled : (inputs : List (Input K)) (logs : List (List Entry)) → OneEach inputs logs → AllByRecursion (λ (log : List Entry). IsFilled log) logs
  each_filled inputs [] h = tt
  each_filled inputs (log ∷ logs) h = (opened_filled Build log h.0, inputs_filled 1 inputs logs h.1)

  cut_filled : (k : ℕ) (inputs : List (Input K)) (logs : List (List Entry)) (last : List Entry) → CutFrom k inputs logs last → AllByRecursion (λ (log : List Entry). IsFilled log) logs
  cut_filled k inputs [] last h = tt
  cut_filled k [] (log ∷ logs) last h = absurd h
  cut_filled k (input ∷ inputs) (log ∷ logs) last h = (opened_filled (Taken k) log h.0, cut_filled (k + 1) inputs logs last h.1)

  then_filled : (inputs : List (Input K)) (logs : List (List Entry)) (last : List Entry) → OneEachThen inputs logs last → AllByRecursion (λ (log : List Entry). IsFilled log) logs
  then_filled inputs [] last h = tt
  then_filled inputs (log ∷ logs) last h = (opened_filled Build log h.0, cut_filled 1 inputs logs last h.1)

  none_told : (told : List (Told K)) → Some [] ≡ Some told → [] ≡ told
  none_told told h = ap (λ (o : Option (List (Told K))). elim o as (λ z. List (Told K)) [ None ↦ [] | Some rs ↦ rs ]) h

  one_machine : (u v : Machine K) → Some u ≡ Some v → u ≡ v
  one_machine u v h = cc

module _ {K : Types} (app : Application K) where
  -- the first of two logs in a row is accepted too
  split_within : (limits : Limits) (o : Option (Machine K)) (xs ys : List Entry) (last : Machine K) → replay_within app limits o (xs ++ ys) ≡ Some last
      → (u : Machine K) × (replay_within app limits o xs ≡ Some u) × (replay_within app limits (Some u) ys ≡ Some last)
  split_within limits None xs ys last h = cc
  split_within limits (Some m) [] ys last h = (m, refl, h)
  split_within limits (Some m) (e ∷ xs) ys last h = split_within limits (accepts_within app limits m e) xs ys last h

module _ {K : Types} (app : Application K) (lawful : IsLawful K app) where
  -- after the entries of a log it holds
  moved_holds : (limits : Limits) (props : K.Props) (inputs : List (Input K)) (v : Machine K) (log : List Entry) (moves : List Move) → Leads app limits (start app props inputs) moves v → entries moves ≡ log → IsFilled log → HoldingOn app lawful ⊥ v
  moved_holds limits props inputs v log [] leads e filled = not_filled log e filled
  moved_holds limits props inputs v log (move ∷ moves) leads e filled = begun_holds app lawful ⊥ props ones [] ones_above limits inputs v move moves leads

  accepted_holds : (limits : Limits) (props : K.Props) (inputs : List (Input K)) (v : Machine K) (log : List Entry) → replay_within app limits (Some (start app props inputs)) log ≡ Some v → IsFilled log → HoldingOn app lawful ⊥ v
  accepted_holds limits props inputs v log accepted filled =
      let found = logs_are_moves app limits (start app props inputs) v log refl accepted in
      moved_holds limits props inputs v log found.0 found.1 found.2 filled

  -- after each report
  pub told_hold : (limits : Limits) (props : K.Props) (inputs : List (Input K)) (logs : List (List Entry)) (before more : List Entry) (m last : Machine K) (told : List (Told K))
      → replay_within app limits (Some (start app props inputs)) before ≡ Some m
      → tell_reports app m logs ≡ Some told
      → replay_within app limits (Some m) (joined logs ++ more) ≡ Some last
      → AllByRecursion (λ (log : List Entry). IsFilled log) logs
      → AllByRecursion (λ (r : Told K). HoldingOn app lawful ⊥ r.machine) told
  told_hold limits props inputs [] before more m last told first tells within filled =
      subst (λ (rs : List (Told K)). AllByRecursion (λ (r : Told K). HoldingOn app lawful ⊥ r.machine) rs) (none_told told tells) tt
  told_hold limits props inputs (log ∷ logs) before more m last told first tells within filled =
      let f : First app m log logs told = first-of app m log logs told tells in
      let v : Machine K = (f.0).machine in
      let on : replay_within app limits (Some m) (log ++ (joined logs ++ more)) ≡ Some last = ap (λ (es : List Entry). replay_within app limits (Some m) es) (sym (append_assoc log (joined logs) more)) ∙ within in
      let parts = split_within app limits (Some m) log (joined logs ++ more) last on in
      let same : parts.0 ≡ v = one_machine parts.0 v (sym (within-replays app limits log m parts.0 parts.1) ∙ log-replays app log (telling m) f.0 f.2) in
      let so_far : replay_within app limits (Some (start app props inputs)) (before ++ log) ≡ Some v =
      (logs_join app limits before log).0 (start app props inputs) m first ∙ parts.1 ∙ ap (λ (u : Machine K). Some u) same in
      let here : HoldingOn app lawful ⊥ v = accepted_holds limits props inputs v (before ++ log) so_far (filled_after before log filled.0) in
      let rest : replay_within app limits (Some v) (joined logs ++ more) ≡ Some last = ap (λ (u : Machine K). replay_within app limits (Some u) (joined logs ++ more)) (sym same) ∙ parts.2 in
      subst (λ (rs : List (Told K)). AllByRecursion (λ (r : Told K). HoldingOn app lawful ⊥ r.machine) rs) f.4
      (here, told_hold limits props inputs logs (before ++ log) more v last f.1 so_far f.3 rest filled.1)

  each_current : (told : List (Told K)) → AllByRecursion (λ (r : Told K). HoldingOn app lawful ⊥ r.machine) told → AllByRecursion (λ (r : Told K). is_settled r.machine ≡ true) told
      → AllByRecursion (λ (r : Told K). AllCurrent app r.machine.state) told
  each_current [] h settled = tt
  each_current (r ∷ rs) h settled = (holding_current app lawful r.machine settled.0 (h.0 (settled_dead app lawful r.machine settled.0)), each_current rs h.1 settled.1)

  each_shown : (told : List (Told K)) → AllByRecursion (λ (r : Told K). HoldingOn app lawful ⊥ r.machine) told → AllByRecursion (λ (r : Told K). is_settled r.machine ≡ true) told
      → AllByRecursion (λ (r : Told K). AllHeldShown r.machine.state) told
  each_shown [] h settled = tt
  each_shown (r ∷ rs) h settled = (holding_shown app lawful r.machine settled.0 (h.0 (settled_dead app lawful r.machine settled.0)), each_shown rs h.1 settled.1)

  pub each_is : (told : List (Told K)) → AllByRecursion (λ (r : Told K). HoldingOn app lawful ⊥ r.machine) told → AllByRecursion (λ (r : Told K). is_settled r.machine ≡ true) told → EachIsCurrent app told
  each_is told h settled = record { current = each_current told h settled; held = each_shown told h settled }

pub ran_is_current : {K : Types} (app : Application K) → RanIsCurrent app
ran_is_current {K = K} app lawful props inputs limits taken reports ran =
    let logs : List (List Entry) = logs_of reports in
    let m : Machine K = start app props inputs in
    let within : replay_within app limits (Some m) (joined logs ++ []) ≡ Some (last_machine m ran.told) = ap (λ (es : List Entry). replay_within app limits (Some m) es) (append-nil (joined logs)) ∙ (ran.done).within in
    each_is app lawful ran.told (told_hold app lawful limits props inputs logs [] [] m (last_machine m ran.told) ran.told refl (ran.recorded).accepted within (each_filled inputs logs (ran.done).one_each)) (ran.recorded).settled

pub ran_to_is_current : {K : Types} (app : Application K) → RanToIsCurrent app
ran_to_is_current {K = K} app lawful props inputs limits taken reports fault ran =
    let logs : List (List Entry) = logs_of reports in
    let m : Machine K = start app props inputs in
    each_is app lawful ran.told (told_hold app lawful limits props inputs logs [] (ran.stopped).log m ((ran.stopped).last).machine ran.told refl (ran.recorded).accepted (ran.stopped).within (then_filled inputs logs (ran.stopped).log (ran.stopped).one_each)) (ran.recorded).settled
