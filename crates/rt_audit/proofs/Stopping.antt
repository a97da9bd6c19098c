-- How a list is judged beside what is accepted: it goes on, it stops, or it is good.
use Rattle.std.proofs.Common.{ℕ, zero, suc, ◌+◌, Bool, true, false, not, ◌&&◌, List, [], ◌∷◌, ◌++◌, ◌≡◌, refl, sym, ap, ◌∙◌, length, append-nil, arith}
use Rattle.std.specs.Prelude.{Option, Some, None, if◌then◌else◌, is_some}
use Rattle.rt_lemmas.proofs.Options.{some_same as same_some}
use Rattle.rt_lemmas.proofs.Bools.{none_counted as none_first}
pub use Rattle.rt_lemmas.proofs.Bools.{pick_true, pick_false}
use Rattle.rt_model.specs.Tree.{Types}
use Rattle.rt_model.specs.World.{Application}
use Rattle.rt_model.specs.State.{Fault, State, Item}
use Rattle.rt_model.specs.Next.{Work, next, owes}
use Rattle.rt_model.specs.Heard.{Listener}
use Rattle.rt_model.specs.Replay.{Entry, Build, Taken, Input, Machine, same_entry, names_live, if_live, waiting, no_listener, no_work, is_quiet, due_work, due_heard, due_item, due_any, due, is_due, step, accepts, replay_on}
use Rattle.rt_model.specs.Reports.{is_opening}
use Rattle.rt_model.specs.Told.{count_entries, is_settled}
use Rattle.rt_model.proofs.Maps.{by_test}
use Rattle.rt_model.proofs.OneLogOnly.{same_entry-true, fork}
use Rattle.law_moves.proofs.Acceptance.{same_as_itself}
use Rattle.lang_rows.specs.Verdicts.{Verdict, Refused, opening, is_placed, is_some_entry, allowed, may_end, verdict_on}
use Rattle.rt_audit.specs.Fronts.{begins_with}

-- where an index stands after a list
abbrev pub further : {A : Type 0} → ℕ → List A → ℕ
further n [] = n
further n (x ∷ xs) = further (suc n) xs

pub further-is : {A : Type 0} (n : ℕ) (xs : List A) → further n xs ≡ n + length xs
further-is n [] = omega arith
further-is n (x ∷ xs) = let more = further-is (suc n) xs in omega (arith, more)

further_some : {A : Type 0} (n : ℕ) (xs : List A) → is_some_entry (further (suc n) xs) ≡ true
further_some n [] = refl
further_some n (x ∷ xs) = further_some (suc n) xs

none_more : (front more : List Entry) → count_entries is_opening (front ++ more) ≡ 0 → (count_entries is_opening front ≡ 0) × (count_entries is_opening more ≡ 0)
none_more [] more h = (refl, h)
none_more (e ∷ front) more h =
    let one = none_first (is_opening e) (count_entries is_opening (front ++ more)) h in
    let rest = none_more front more one.1 in
    let r = rest.0 in
    let zero_more : (if false then 1 else 0) + count_entries is_opening front ≡ 0 = omega (arith, r) in
    (ap (λ (b : Bool). (if b then 1 else 0) + count_entries is_opening front) one.0 ∙ zero_more, rest.1)

module _ {K : Types} (app : Application K) where
  abbrev by : ℕ → ℕ → Option (Machine K) → List Entry → (Machine K → Verdict) → Verdict
  by r n o log later = elim o [ None ↦ Refused r n | Some u ↦ verdict_on app r (suc n) u log later ]

  -- what is accepted is due
  due_is : (o : Option Entry) (e : Entry) → is_due app o e ≡ true → o ≡ Some e
  due_is None e h = cc
  due_is (Some d) e h = ap Some (same_entry-true d e h)

  -- the first entry of a log that is accepted
  first_due : (m v : Machine K) (e : Entry) (log : List Entry) → replay_on app (Some m) (e ∷ log) ≡ Some v → due app m ≡ Some e
  first_due m v e log h = due_is (due app m) e (fork app (is_due app (due app m) e) (step app m e) log v h).0

  -- where another one is due it isn't accepted
  other_due : (m : Machine K) (d e : Entry) → due app m ≡ Some d → same_entry d e ≡ false → accepts app m e ≡ None
  other_due m d e h other =
      ap (λ (o : Option Entry). if is_due app o e then Some (step app m e) else None) h
      ∙ pick_false (same_entry d e) (Some (step app m e)) None other

  -- behind the opening entry an entry that isn't accepted isn't allowed
  none_allowed : (r n : ℕ) (m : Machine K) (e : Entry) → accepts app m e ≡ None → allowed app r (suc n) m e ≡ None
  none_allowed r n m e h = both (not (is_opening e))
    where
      both : (b : Bool) → (if b then accepts app m e else None) ≡ None
      both true = h
      both false = refl

  allowed_later : (r n : ℕ) (m : Machine K) (e : Entry) → is_opening e ≡ false → allowed app r (suc n) m e ≡ accepts app m e
  allowed_later r n m e h = ap (λ (b : Bool). if not b then accepts app m e else None) h

  -- entries that are accepted are gone through
  pub goes_on : (r n : ℕ) (m v : Machine K) (front rest : List Entry) (later : Machine K → Verdict) → count_entries is_opening front ≡ 0
      → replay_on app (Some m) front ≡ Some v
      → verdict_on app r (suc n) m (front ++ rest) later ≡ verdict_on app r (further (suc n) front) v rest later
  goes_on r n m v [] rest later none h = ap (λ (u : Machine K). verdict_on app r (suc n) u rest later) (same_some m v h)
  goes_on r n m v (e ∷ front) rest later none h =
      let one = none_first (is_opening e) (count_entries is_opening front) none in
      let f = fork app (is_due app (due app m) e) (step app m e) front v h in
      let took : accepts app m e ≡ Some (step app m e) = pick_true (is_due app (due app m) e) (Some (step app m e)) None f.0 in
      ap (λ (o : Option (Machine K)). by r (suc n) o (front ++ rest) later) (allowed_later r n m e one.0 ∙ took)
      ∙ goes_on r (suc n) (step app m e) v front rest later one.1 f.1

  -- and so is the opening one, with those behind it
  pub opens : (n : ℕ) (from v : Machine K) (first : Entry) (front rest : List Entry) (later : Machine K → Verdict) → opening n ≡ first
      → count_entries is_opening front ≡ 0
      → replay_on app (Some from) (first ∷ front) ≡ Some v
      → verdict_on app n 0 from (first ∷ (front ++ rest)) later ≡ verdict_on app n (further (suc zero) front) v rest later
  opens n from v first front rest later is none h =
      let f = fork app (is_due app (due app from) first) (step app from first) front v h in
      let took : accepts app from first ≡ Some (step app from first) = pick_true (is_due app (due app from) first) (Some (step app from first)) None f.0 in
      let placed : is_placed n zero first ≡ true = ap (λ (e : Entry). same_entry first e) is ∙ same_as_itself first in
      ap (λ (o : Option (Machine K)). by n zero o (front ++ rest) later)
      (pick_true (is_placed n zero first) (accepts app from first) None placed ∙ took)
      ∙ goes_on n zero (step app from first) v front rest later none f.1

  -- where nothing is left, only a build or an input can be due

  if_named : (b : Bool) (e d : Entry) → (if b then Some e else None) ≡ Some d → e ≡ d
  if_named true e d h = same_some e d h
  if_named false e d h = cc

  live_due : (w : State K) (o : Option Entry) (d : Entry) → if_live w o ≡ Some d → o ≡ Some d
  live_due w None d h = cc
  live_due w (Some e) d h = ap Some (if_named (names_live w e) e d h)

  work_due : (m : Machine K) (o : Option Work) (inputs : List (Input K)) (d : Entry) → is_some o ≡ false → due_work app m o inputs ≡ Some d → is_opening d ≡ true
  work_due m (Some x) inputs d none h = cc
  work_due m None [] d none h = cc
  work_due m None (input ∷ rest) d none h = ap (λ (e : Entry). is_opening e) (sym (same_some (Taken (m.taken + 1)) d h))

  heard_due : (m : Machine K) (ls : List (Listener K)) (d : Entry) → no_listener ls ≡ true → is_some (next m.state) ≡ false → due_heard app m ls ≡ Some d → is_opening d ≡ true
  heard_due m [] d quiet none h = work_due m (next m.state) m.inputs d none h
  heard_due m (l ∷ ls) d quiet none h = cc

  item_due : (m : Machine K) (work : List (Item K)) (d : Entry) → no_work work ≡ true → no_listener (waiting m) ≡ true → is_some (next m.state) ≡ false → due_item app m work ≡ Some d → is_opening d ≡ true
  item_due m [] d idle quiet none h = heard_due m (waiting m) d quiet none h
  item_due m (i ∷ rest) d idle quiet none h = cc

  built_due : (m : Machine K) (b : Bool) (d : Entry) → no_work m.work ≡ true → no_listener (waiting m) ≡ true → is_some (next m.state) ≡ false
      → (if b then due_item app m m.work else Some Build) ≡ Some d
      → is_opening d ≡ true
  built_due m true d idle quiet none h = item_due m m.work d idle quiet none h
  built_due m false d idle quiet none h = ap (λ (e : Entry). is_opening e) (sym (same_some Build d h))

  dead_due : (m : Machine K) (o : Option Fault) (d : Entry) → no_work m.work ≡ true → no_listener (waiting m) ≡ true → is_some (next m.state) ≡ false
      → elim o as (λ z. Option Entry) [ None ↦ (if m.built then due_item app m m.work else Some Build) | Some fault ↦ None ] ≡ Some d
      → is_opening d ≡ true
  dead_due m None d idle quiet none h = built_due m m.built d idle quiet none h
  dead_due m (Some fault) d idle quiet none h = cc

  and_true : (a b : Bool) → (a && b) ≡ true → (a ≡ true) × (b ≡ true)
  and_true true true h = (refl, refl)
  and_true true false h = cc
  and_true false b h = cc

  not_true : (b : Bool) → not b ≡ true → b ≡ false
  not_true true h = cc
  not_true false h = refl

  settled_due : (m : Machine K) (d : Entry) → is_settled m ≡ true → due app m ≡ Some d → is_opening d ≡ true
  settled_due m d s h =
      let p = and_true (is_quiet m) (not (owes m.state)) s in
      let q = and_true (not (is_some m.dead) && no_work m.work) (no_listener (waiting m)) p.0 in
      let l = and_true (not (is_some m.dead)) (no_work m.work) q.0 in
      dead_due m m.dead d l.1 q.1 (not_true (owes m.state) p.1) (live_due m.state (due_any app m) d h)

  -- so a list can't end where another entry is due
  unsettled : (m : Machine K) (d : Entry) → due app m ≡ Some d → is_opening d ≡ false → is_settled m ≡ false
  unsettled m d h other =
      by_test (is_settled m) (λ s. let wrong : false ≡ true = sym other ∙ settled_due m d s h in cc) (λ s. s)

  -- and where it can end, none is allowed behind its first
  none_at_rest : (r n : ℕ) (m : Machine K) (e : Entry) → is_settled m ≡ true → allowed app r (suc n) m e ≡ None
  none_at_rest r n m e s =
      by_test (is_opening e)
      (λ q. ap (λ (b : Bool). if not b then accepts app m e else None) q)
      (
      λ q.
      none_allowed r n m e
      (
      by_test (is_due app (due app m) e)
      (λ d. let wrong : false ≡ true = sym q ∙ settled_due m e s (due_is (due app m) e d) in cc)
      (λ d. pick_false (is_due app (due app m) e) (Some (step app m e)) None d)
      )
      )

  -- after a fault nothing is due, and a list can't end
  dead_none : (m : Machine K) (fault : Fault) → m.dead ≡ Some fault → due app m ≡ None
  dead_none m fault dead =
      ap (λ (o : Option Fault). if_live m.state (elim o as (λ z. Option Entry) [ None ↦ (if m.built then due_item app m m.work else Some Build) | Some f ↦ None ])) dead

  dead_unsettled : (m : Machine K) (fault : Fault) → m.dead ≡ Some fault → is_settled m ≡ false
  dead_unsettled m fault dead =
      ap (λ (o : Option Fault). (not (is_some o) && no_work m.work && no_listener (waiting m)) && not (owes m.state)) dead

  end_early : (r n : ℕ) (m : Machine K) (later : Machine K → Verdict) → is_settled m ≡ false → verdict_on app r n m [] later ≡ Refused r n
  end_early r n m later h = pick_false (may_end app n m) (later m) (Refused r n) (ap (λ (b : Bool). is_some_entry n && b) h ∙ and_false (is_some_entry n))
    where
      and_false : (b : Bool) → (b && false) ≡ false
      and_false true = refl
      and_false false = refl

  -- an entry that isn't allowed stops the list
  pub stop_at : (r n : ℕ) (m : Machine K) (e : Entry) (rest : List Entry) (later : Machine K → Verdict) → allowed app r n m e ≡ None → verdict_on app r n m (e ∷ rest) later ≡ Refused r n
  stop_at r n m e rest later h = ap (λ (o : Option (Machine K)). by r n o rest later) h

  -- a list that goes on otherwise than what is due, or ends there, stops
  other_stops : (r n : ℕ) (m : Machine K) (d : Entry) (rest : List Entry) (later : Machine K → Verdict) → due app m ≡ Some d → is_opening d ≡ false
      → begins_with d rest ≡ false
      → verdict_on app r (suc n) m rest later ≡ Refused r (suc n)
  other_stops r n m d [] later h none other = end_early r (suc n) m later (unsettled m d h none)
  other_stops r n m d (e ∷ rest) later h none other = stop_at r (suc n) m e rest later (none_allowed r n m e (other_due m d e h other))

  -- after a fault it stops
  dead_stops : (r n : ℕ) (m : Machine K) (fault : Fault) (rest : List Entry) (later : Machine K → Verdict) → m.dead ≡ Some fault
      → verdict_on app r (suc n) m rest later ≡ Refused r (suc n)
  dead_stops r n m fault [] later dead = end_early r (suc n) m later (dead_unsettled m fault dead)
  dead_stops r n m fault (e ∷ rest) later dead =
      stop_at r (suc n) m e rest later
      (none_allowed r n m e (ap (λ (o : Option Entry). if is_due app o e then Some (step app m e) else None) (dead_none m fault dead)))

  -- the machine between two parts of a log
  pub record Between (from : Machine K) (front more : List Entry) (v : Machine K) : Type 0 where
    pub at : Machine K
    pub first : replay_on app (Some from) front ≡ Some at
    pub rest : replay_on app (Some at) more ≡ Some v

  halfway : (from v : Machine K) (front more : List Entry) → replay_on app (Some from) (front ++ more) ≡ Some v → Between from front more v
  halfway from v [] more h = record { at = from; first = refl; rest = h }
  halfway from v (e ∷ front) more h =
      let f = fork app (is_due app (due app from) e) (step app from e) (front ++ more) v h in
      let b = halfway (step app from e) v front more f.1 in
      let took : accepts app from e ≡ Some (step app from e) = pick_true (is_due app (due app from) e) (Some (step app from e)) None f.0 in
      record { at = b.at; first = ap (λ (o : Option (Machine K)). replay_on app o front) took ∙ b.first; rest = b.rest }

  number : (front : List Entry) → further (suc zero) front ≡ length front + 1
  number front = let is = further-is (suc zero) front in omega (arith, is)

  stopped : (n : ℕ) (front : List Entry) (v : Machine K) (rest : List Entry) (later : Machine K → Verdict)
      → ((k : ℕ) → verdict_on app n (suc k) v rest later ≡ Refused n (suc k))
      → verdict_on app n (further (suc zero) front) v rest later ≡ Refused n (length front + 1)
  stopped n front v rest later stops =
      let is : further (suc zero) front ≡ suc (length front) = (let k = number front in omega (arith, k)) in
      ap (λ k. verdict_on app n k v rest later) is ∙ stops (length front) ∙ ap (λ k. Refused n k) (let one : suc (length front) ≡ length front + 1 = omega arith in one)

  -- where the list parts from what was noted
  pub parts_stops : (n : ℕ) (from v : Machine K) (first d : Entry) (front more rest : List Entry) (later : Machine K → Verdict) → opening n ≡ first
      → count_entries is_opening (front ++ d ∷ more) ≡ 0
      → replay_on app (Some from) (first ∷ (front ++ d ∷ more)) ≡ Some v
      → begins_with d rest ≡ false
      → verdict_on app n 0 from (first ∷ (front ++ rest)) later ≡ Refused n (length front + 1)
  parts_stops n from v first d front more rest later is none h other =
      let b = halfway from v (first ∷ front) (d ∷ more) h in
      let counts = none_more front (d ∷ more) none in
      let one = none_first (is_opening d) (count_entries is_opening more) counts.1 in
      opens n from b.at first front rest later is counts.0 b.first
      ∙ stopped n front b.at rest later (λ k. other_stops n k b.at d rest later (first_due b.at v d more b.rest) one.0 other)

  -- where a fault came
  pub fault_stops : (n : ℕ) (from v : Machine K) (first : Entry) (front rest : List Entry) (fault : Fault) (later : Machine K → Verdict) → opening n ≡ first
      → count_entries is_opening front ≡ 0
      → replay_on app (Some from) (first ∷ front) ≡ Some v
      → v.dead ≡ Some fault
      → verdict_on app n 0 from (first ∷ (front ++ rest)) later ≡ Refused n (length front + 1)
  fault_stops n from v first front rest fault later is none h dead =
      opens n from v first front rest later is none h ∙ stopped n front v rest later (λ k. dead_stops n k v fault rest later dead)

  -- where nothing is left to do and the list goes on
  pub rest_stops : (n : ℕ) (from v : Machine K) (first e : Entry) (front more : List Entry) (later : Machine K → Verdict) → opening n ≡ first
      → count_entries is_opening front ≡ 0
      → replay_on app (Some from) (first ∷ front) ≡ Some v
      → is_settled v ≡ true
      → verdict_on app n 0 from (first ∷ (front ++ e ∷ more)) later ≡ Refused n (length front + 1)
  rest_stops n from v first e front more later is none h s =
      opens n from v first front (e ∷ more) later is none h
      ∙ stopped n front v (e ∷ more) later (λ k. stop_at n (suc k) v e more later (none_at_rest n k v e s))

  -- where nothing is left to do and the list ends
  pub good_ends : (n : ℕ) (from v : Machine K) (first : Entry) (front : List Entry) (later : Machine K → Verdict) → opening n ≡ first
      → count_entries is_opening front ≡ 0
      → replay_on app (Some from) (first ∷ front) ≡ Some v
      → is_settled v ≡ true
      → verdict_on app n 0 from (first ∷ front) later ≡ later v
  good_ends n from v first front later is none h s =
      let k = further (suc zero) front in
      ap (λ (l : List Entry). verdict_on app n 0 from (first ∷ l) later) (sym (append-nil front))
      ∙ opens n from v first front [] later is none h
      ∙ pick_true (may_end app k v) (later v) (Refused n k) (ap (λ (b : Bool). is_some_entry k && b) s ∙ ap (λ (b : Bool). b && true) (further_some zero front))

  -- a list that is empty, or opens otherwise, stops at its first entry
  pub unopened_stops : (n : ℕ) (from : Machine K) (list : List Entry) (later : Machine K → Verdict)
      → begins_with (opening n) list ≡ false
      → ((d e : Entry) → same_entry d e ≡ false → same_entry e d ≡ false)
      → verdict_on app n 0 from list later ≡ Refused n 0
  unopened_stops n from [] later h turn = refl
  unopened_stops n from (e ∷ rest) later h turn =
      stop_at n zero from e rest later (pick_false (is_placed n zero e) (accepts app from e) None (turn (opening n) e h))
