-- Each accepted log is accepted within some limits, and a fault accepts nothing.
use Rattle.std.proofs.Common.{ℕ, ◌+◌, ◌≤◌, ◌<◌, Bool, true, false, ◌&&◌, List, [], ◌∷◌, ◌≡◌, refl, sym, ap, ◌∙◌, arith, nat_eq}
use Rattle.std.specs.Prelude.{Option, Some, None, if◌then◌else◌, nat_lt}
use Rattle.std.proofs.lemmas.Bool.{eqb-true}
use Rattle.rt_model.specs.Lists.{first_of}
use Rattle.rt_model.specs.Tree.{Types}
use Rattle.rt_model.specs.World.{Application}
use Rattle.rt_model.specs.State.{Fault, OutOfTurns}
use Rattle.rt_model.specs.Next.{owes}
use Rattle.rt_model.specs.Replay.{Entry, Build, Machine, if_live, due_item, due, is_due, is_quiet, step, accepts, replay_on}
use Rattle.rt_model.specs.Causes.{Limits, depth_refused, next_height, turns_refused, refusal, accepts_within, replay_within}
use Rattle.rt_model.proofs.Maps.{by_test}

module _ {K : Types} (app : Application K) where
  same_machine : (m v : Machine K) → Some m ≡ Some v → m ≡ v
  same_machine m v h = cc

  -- after a fault nothing is accepted
  fault_ends : (m : Machine K) (e : Entry) (fault : Fault) → m.dead ≡ Some fault → accepts app m e ≡ None
  fault_ends m e fault dead =
      let none : due app m ≡ None =
      ap (λ (o : Option Fault). if_live m.state (elim o as (λ z. Option Entry) [ None ↦ (if m.built then due_item app m m.work else Some Build) | Some f ↦ None ])) dead in
      ap (λ (o : Option Entry). if is_due app o e then Some (step app m e) else None) none

  -- so where a log is accepted none came before
  pub alive_at : (log : List Entry) (m v : Machine K) → replay_on app (Some m) log ≡ Some v → v.dead ≡ None → m.dead ≡ None
  alive_at [] m v h alive = ap (λ (x : Machine K). x.dead) (same_machine m v h) ∙ alive
  alive_at (e ∷ log) m v h alive = by_dead m.dead refl
    where
      by_dead : (o : Option Fault) → m.dead ≡ o → m.dead ≡ None
      by_dead None is = is
      by_dead (Some fault) is =
          let absurdity : None ≡ Some v = sym (ap (λ (o : Option (Machine K)). replay_on app o log) (fault_ends m e fault is)) ∙ h in
          cc

  accepted_alive : (log : List Entry) (m v : Machine K) (e : Entry) → replay_on app (accepts app m e) log ≡ Some v → m.dead ≡ None
  accepted_alive log m v e h = by_dead m.dead refl
    where
      by_dead : (o : Option Fault) → m.dead ≡ o → m.dead ≡ None
      by_dead None is = is
      by_dead (Some fault) is =
          let absurdity : None ≡ Some v = sym (ap (λ (o : Option (Machine K)). replay_on app o log) (fault_ends m e fault is)) ∙ h in
          cc

  -- limits from these on
  abbrev AtLeast : Limits → ℕ → ℕ → Type 0
  AtLeast limits units height = (units ≤ limits.units) × (height ≤ limits.height)

  abbrev pub height_needed : Option ℕ → ℕ
  height_needed None = 0
  height_needed (Some height) = height

  no_depth : (limits : Limits) (o : Option ℕ) → height_needed o ≤ limits.height → depth_refused limits o ≡ None
  no_depth limits None h = refl
  no_depth limits (Some height) h =
      by_test (nat_lt limits.height height)
      (λ e. let over : limits.height < height = grind (arith, e) in absurd (omega (arith, h, over)))
      (λ e. rw e refl)

  no_turns : (limits : Limits) (m : Machine K) → m.units < limits.units → turns_refused limits m ≡ None
  no_turns limits m h =
      by_test (nat_eq m.units limits.units)
      (λ e. let same : m.units ≡ limits.units = eqb-true m.units limits.units e in absurd (omega (arith, h, same)))
      (λ e. by_all (m.built && is_quiet m) (nat_eq m.units limits.units) (owes m.state) e)
    where
      by_all : (a b c : Bool) → b ≡ false → (if a && b && c then Some (OutOfTurns limits.units) else None) ≡ None
      by_all true false c e = refl
      by_all false false c e = refl
      by_all a true c e = cc

  pub no_refusal : (limits : Limits) (m : Machine K) → m.dead ≡ None → height_needed (next_height m) ≤ limits.height → m.units < limits.units → refusal limits m ≡ None
  no_refusal limits m alive high many =
      ap (λ (o : Option Fault). first_of o (first_of (depth_refused limits (next_height m)) (turns_refused limits m))) alive
      ∙ ap (λ (o : Option Fault). first_of None (first_of o (turns_refused limits m))) (no_depth limits (next_height m) high)
      ∙ ap (λ (o : Option Fault). first_of None (first_of None o)) (no_turns limits m many)

  -- some limits refuse nothing here
  pub limits_here : (m : Machine K) → m.dead ≡ None → (limits : Limits) × (refusal limits m ≡ None)
  limits_here m alive =
      let limits : Limits = record { units = m.units + 1; height = height_needed (next_height m); drain = 0 } in
      (limits, no_refusal limits m alive (omega arith) (omega arith))

  -- some limits, and all above them, accept a log
  pub record Limited (m : Machine K) (log : List Entry) (v : Machine K) : Type 0 where
    units : ℕ
    height : ℕ
    within : (limits : Limits) → AtLeast limits units height → replay_within app limits (Some m) log ≡ Some v

  one_more : (log : List Entry) (m v : Machine K) (e : Entry) (o : Option (Machine K)) → accepts app m e ≡ o → m.dead ≡ None → replay_on app o log ≡ Some v
      → ((x : Machine K) → replay_on app (Some x) log ≡ Some v → Limited x log v) → Limited m (e ∷ log) v
  one_more log m v e None is alive h later = cc
  one_more log m v e (Some x) is alive h later =
      let r : Limited x log v = later x h in
      record {
        units = r.units + (m.units + 1);
        height = r.height + height_needed (next_height m);
        within =
            λ limits most.
            let many = most.0 in
            let high = most.1 in
            let none : refusal limits m ≡ None = no_refusal limits m alive (omega (arith, high)) (omega (arith, many)) in
            let gate : accepts_within app limits m e ≡ Some x =
            ap (λ (o : Option Fault). elim o as (λ z. Option (Machine K)) [ None ↦ accepts app m e | Some fault ↦ None ]) none ∙ is in
            ap (λ (o : Option (Machine K)). replay_within app limits o log) gate ∙ r.within limits (omega (arith, many), omega (arith, high));
      }

  limited : (log : List Entry) (m v : Machine K) → replay_on app (Some m) log ≡ Some v → Limited m log v
  limited [] m v h = record { units = 0; height = 0; within = λ limits most. h }
  limited (e ∷ log) m v h = one_more log m v e (accepts app m e) refl (accepted_alive log m v e h) h (λ x g. limited log x v g)

  -- an accepted log is accepted within some limits
  pub some_limits : (log : List Entry) (m v : Machine K) → replay_on app (Some m) log ≡ Some v → (limits : Limits) × (replay_within app limits (Some m) log ≡ Some v)
  some_limits log m v h =
      let r : Limited m log v = limited log m v h in
      let limits : Limits = record { units = r.units; height = r.height; drain = 0 } in
      (limits, r.within limits (omega arith, omega arith))
