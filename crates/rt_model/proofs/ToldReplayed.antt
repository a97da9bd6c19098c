-- Reports are told of just the logs that replay accepts.
use Rattle.std.proofs.Common.{Bool, true, false, ◌&&◌, ◌||◌, not, List, [], ◌∷◌, ◌++◌, ◌≡◌, refl, sym, ap, ◌∙◌}
use Rattle.std.specs.Prelude.{Option, Some, None, if◌then◌else◌}
use Rattle.rt_lemmas.proofs.Options.{some_same as some-is}
use Rattle.rt_model.specs.Lists.{joined}
use Rattle.rt_model.specs.Tree.{Types}
use Rattle.rt_model.specs.World.{Application}
use Rattle.rt_model.specs.State.{Fault}
use Rattle.rt_model.specs.Replay.{Entry, Machine, accepts, is_due, due, step, replay_on}
use Rattle.rt_model.specs.Caused.{caused, caused_until}
use Rattle.rt_model.specs.Told.{Told, Telling, opens, opened, telling, told_by, closed_unit, tell_log, one_more, tell_on, tell_reports}
use Rattle.rt_model.specs.Causes.{Limits, refusal, replay_within}
use Rattle.rt_model.specs.Headline.{last_machine}
use Rattle.rt_model.specs.Finished.{ToldIsReplayed}
use Rattle.rt_model.proofs.FaultsOnce.{open_gate}

module _ {K : Types} (app : Application K) where
  -- a unit's close leaves the replay
  closed-at : (t : Telling K) (m : Machine K) (d : Option Fault) (c : Bool)
      → (elim d as (λ x. Telling K) [
        | None ↦
            if c
            then record t { machine = m; edits = t.edits ++ caused app t.before m.state t.first }
            else record t { machine = m }
        | Some fault ↦ record t { machine = m; edits = t.edits ++ caused_until app t.before m.state m.refused t.first }
      ]).machine
      ≡ m
  closed-at t m None true = refl
  closed-at t m None false = refl
  closed-at t m (Some fault) c = refl

  closed-machine : (t : Telling K) (b : Bool) (m : Machine K) → (closed_unit app t b m).machine ≡ m
  closed-machine t b m = closed-at t m m.dead (b && not m.unit)

  -- one entry, by what accepts it
  abbrev told_as : Telling K → Entry → Option (Machine K) → Option (Telling K)
  told_as t e o = elim o [ None ↦ None | Some m ↦ Some (closed_unit app (opened t e) (opens e || t.machine.unit) m) ]

  entry-replays : (log : List Entry) → ((t u : Telling K) → tell_log app (Some t) log ≡ Some u → replay_on app (Some t.machine) log ≡ Some u.machine)
      → (t u : Telling K) (e : Entry) (o : Option (Machine K)) → tell_log app (told_as t e o) log ≡ Some u → replay_on app o log ≡ Some u.machine
  entry-replays log later t u e None h = cc
  entry-replays log later t u e (Some m) h =
      let v : Telling K = closed_unit app (opened t e) (opens e || t.machine.unit) m in
      ap (λ (x : Machine K). replay_on app (Some x) log) (sym (closed-machine (opened t e) (opens e || t.machine.unit) m)) ∙ later v u h

  -- a log that is told is replayed
  pub log-replays : (log : List Entry) (t u : Telling K) → tell_log app (Some t) log ≡ Some u → replay_on app (Some t.machine) log ≡ Some u.machine
  log-replays [] t u h = ap (λ (x : Telling K). Some x.machine) (some-is t u h)
  log-replays (e ∷ log) t u h = entry-replays log (λ s v q. log-replays log s v q) t u e (accepts app t.machine e) h

  entry-tells : (log : List Entry) → ((t : Telling K) (v : Machine K) → replay_on app (Some t.machine) log ≡ Some v → (u : Telling K) × (tell_log app (Some t) log ≡ Some u))
      → (t : Telling K) (v : Machine K) (e : Entry) (o : Option (Machine K)) → replay_on app o log ≡ Some v → (u : Telling K) × (tell_log app (told_as t e o) log ≡ Some u)
  entry-tells log later t v e None h = cc
  entry-tells log later t v e (Some m) h =
      later (closed_unit app (opened t e) (opens e || t.machine.unit) m) v
      (ap (λ (x : Machine K). replay_on app (Some x) log) (closed-machine (opened t e) (opens e || t.machine.unit) m) ∙ h)

  -- and a log that is replayed is told
  log-tells : (log : List Entry) (t : Telling K) (v : Machine K) → replay_on app (Some t.machine) log ≡ Some v → (u : Telling K) × (tell_log app (Some t) log ≡ Some u)
  log-tells [] t v h = (t, refl)
  log-tells (e ∷ log) t v h = entry-tells log (λ s u q. log-tells log s u q) t v e (accepts app t.machine e) h

  -- of two logs in a row
  pub replay-append : (xs ys : List Entry) (o : Option (Machine K)) → replay_on app o (xs ++ ys) ≡ replay_on app (replay_on app o xs) ys
  replay-append xs ys None = none xs
    where
      none : (zs : List Entry) → replay_on app None (zs ++ ys) ≡ replay_on app (replay_on app None zs) ys
      none zs = refl
  replay-append [] ys (Some m) = refl
  replay-append (e ∷ xs) ys (Some m) = replay-append xs ys (accepts app m e)

  more-at : (r : Told K) (o : Option (List (Told K))) (told : List (Told K)) → one_more app r o ≡ Some told → (rs : List (Told K)) × (o ≡ Some rs) × (r ∷ rs ≡ told)
  more-at r None told h = cc
  more-at r (Some rs) told h = (rs, refl, some-is (r ∷ rs) told h)

  -- the first of told reports, and the others
  abbrev pub First : Machine K → List Entry → List (List Entry) → List (Told K) → Type 0
  First m log logs told =
      (t : Telling K)
      ×
      (rs : List (Told K))
      ×
      (tell_log app (Some (telling m)) log ≡ Some t)
      ×
      (tell_reports app t.machine logs ≡ Some rs)
      ×
      (told_by t ∷ rs ≡ told)

  first-at : (m : Machine K) (log : List Entry) (logs : List (List Entry)) (told : List (Told K)) (o : Option (Telling K))
      → tell_log app (Some (telling m)) log ≡ o
      → tell_on app (λ v. tell_reports app v logs) (elim o as (λ x. Option (Told K)) [ None ↦ None | Some t ↦ Some (told_by t) ]) ≡ Some told
      → First m log logs told
  first-at m log logs told None q h = cc
  first-at m log logs told (Some t) q h = let r = more-at (told_by t) (tell_reports app t.machine logs) told h in (t, r.0, q, r.1, r.2)

  pub first-of : (m : Machine K) (log : List Entry) (logs : List (List Entry)) (told : List (Told K)) → tell_reports app m (log ∷ logs) ≡ Some told → First m log logs told
  first-of m log logs told h = first-at m log logs told (tell_log app (Some (telling m)) log) refl h

  -- reports that are told are replayed
  pub reports-replay : (m : Machine K) (logs : List (List Entry)) (told : List (Told K)) → tell_reports app m logs ≡ Some told → replay_on app (Some m) (joined logs) ≡ Some (last_machine m told)
  reports-replay m [] told h = ap (λ (x : List (Told K)). Some (last_machine m x)) (some-is [] told h)
  reports-replay m (log ∷ logs) told h =
      let f = first-of m log logs told h in
      replay-append log (joined logs) (Some m)
      ∙ ap (λ (o : Option (Machine K)). replay_on app o (joined logs)) (log-replays log (telling m) f.0 f.2)
      ∙ reports-replay (f.0).machine logs f.1 f.3
      ∙ ap (λ (x : List (Told K)). Some (last_machine m x)) f.4

  told-then : (m : Machine K) (log : List Entry) (logs : List (List Entry)) (t : Telling K) (rs : List (Told K)) → tell_log app (Some (telling m)) log ≡ Some t → tell_reports app t.machine logs ≡ Some rs
      → tell_reports app m (log ∷ logs) ≡ Some (told_by t ∷ rs)
  told-then m log logs t rs h g =
      ap (λ (o : Option (Telling K)). tell_on app (λ v. tell_reports app v logs) (elim o as (λ x. Option (Told K)) [ None ↦ None | Some x ↦ Some (told_by x) ])) h
      ∙ ap (λ (o : Option (List (Told K))). one_more app (told_by t) o) g

  some-there : (o : Option (Machine K)) (log : List Entry) (v : Machine K) → replay_on app o log ≡ Some v → (u : Machine K) × (o ≡ Some u)
  some-there None log v h = cc
  some-there (Some u) log v h = (u, refl)

  -- and reports that are replayed are told
  reports-tell : (m : Machine K) (logs : List (List Entry)) (v : Machine K) → replay_on app (Some m) (joined logs) ≡ Some v → (told : List (Told K)) × (tell_reports app m logs ≡ Some told)
  reports-tell m [] v h = ([], refl)
  reports-tell m (log ∷ logs) v h =
      let split : replay_on app (replay_on app (Some m) log) (joined logs) ≡ Some v = sym (replay-append log (joined logs) (Some m)) ∙ h in
      let there = some-there (replay_on app (Some m) log) (joined logs) v split in
      let t = log-tells log (telling m) there.0 there.1 in
      let on : replay_on app (Some (t.0).machine) (joined logs) ≡ Some v =
      ap (λ (o : Option (Machine K)). replay_on app o (joined logs)) (sym (log-replays log (telling m) t.0 t.1)) ∙ split in
      let rest = reports-tell (t.0).machine logs v on in
      (told_by t.0 ∷ rest.0, told-then m log logs t.0 rest.0 t.1 rest.1)

  pub told_is_replayed : ToldIsReplayed app
  told_is_replayed m logs = (λ told h. reports-replay m logs told h, λ v h. reports-tell m logs v h)

  -- what is accepted within limits is accepted
  pub within-replays : (limits : Limits) (log : List Entry) (m v : Machine K) → replay_within app limits (Some m) log ≡ Some v → replay_on app (Some m) log ≡ Some v
  within-replays limits [] m v h = h
  within-replays limits (e ∷ log) m v h =
      let o = open_gate app limits (refusal limits m) (is_due app (due app m) e) (step app m e) log v h in
      ap (λ (b : Bool). replay_on app (if b then Some (step app m e) else None) log) o.1 ∙ within-replays limits log (step app m e) v o.2
