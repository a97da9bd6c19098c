-- What a render or a poll of suspended work passes over, one after another, whatever counts it.
use Rattle.std.proofs.Common.{◌≡◌, ℕ, zero, suc, ◌+◌, ◌<◌, ◌≤◌, Bool, true, false, List, [], ◌∷◌, ◌++◌, length, nat_eq, refl, ap, sym, ◌∙◌, subst, arith}
use Rattle.std.specs.Prelude.{Option, Some, None, is_some, if◌then◌else◌}
use Rattle.law_moves.proofs.Settled.{no_least as none_seen}
use Rattle.rt_model.specs.Lists.{drop_number, has, join}
use Rattle.rt_model.specs.Tree.{Types}
use Rattle.rt_model.specs.State.{State}
use Rattle.rt_model.specs.Next.{Work, RerunScope, PollTask, RunEffects, first_seen, found, is_before}
use Rattle.rt_model.specs.Rendering.{may_poll, may_rerun, pass_over, passes, tasks_passed}
use Rattle.rt_model.proofs.Maps.{by_test, eq_same, pick_false, pick_true}
use Rattle.rt_model.proofs.Members.{clash, or_left, or_right}
use Rattle.law_behavior.proofs.Coming.{found_turn}
use Rattle.run_state.proofs.Dropped.{fewer}
use Rattle.run_answers.specs.Barred.{all_passed, barred, barred_task, every_task_passed, left_out, may_take}

in_middle : (front back : List ℕ) (n : ℕ) → has (front ++ n ∷ back) n ≡ true
in_middle [] back n = or_left (nat_eq n n) (has back n) (eq_same n)
in_middle (x ∷ front) back n = or_right (nat_eq x n) (has (front ++ n ∷ back) n) (in_middle front back n)

module _ {K : Types} where
  -- this work goes, and then the rest
  abbrev then_out : (State K → State K) → State K → Option Work → State K
  then_out go w None = w
  then_out go w (Some x) = go (left_out w x)

  module _ (next : State K → Option Work) where
    -- at most n times what comes next
    abbrev times : ℕ → State K → State K
    times zero w = w
    times (suc n) w = then_out (λ v. times n v) w (next w)

    still : (n : ℕ) (w : State K) → next w ≡ None → times n w ≡ w
    still zero w none = refl
    still (suc n) w none = ap (λ (o : Option Work). then_out (λ v. times n v) w o) none

  module _ (next : State K → Option Work) (size : State K → ℕ) (less : (w : State K) (x : Work) → next w ≡ Some x → size (left_out w x) < size w) where
    -- however often, if only often enough
    same_times : (k n m : ℕ) (w : State K) → size w ≤ k → size w ≤ n → size w ≤ m → times next n w ≡ times next m w
    same_times zero n m w a b c =
        (elim (next w) as (λ o. next w ≡ o → times next n w ≡ times next m w) [
          | None ↦ λ e. still next n w e ∙ sym (still next m w e)
          | Some x ↦ λ e. let low = less w x e in absurd (omega (arith, low, a))
        ]) refl
    same_times (suc k) zero m w a b c =
        (elim (next w) as (λ o. next w ≡ o → w ≡ times next m w) [
          | None ↦ λ e. sym (still next m w e)
          | Some x ↦ λ e. let low = less w x e in absurd (omega (arith, low, b))
        ]) refl
    same_times (suc k) (suc n) zero w a b c =
        (elim (next w) as (λ o. next w ≡ o → times next (suc n) w ≡ w) [
          | None ↦ λ e. still next (suc n) w e
          | Some x ↦ λ e. let low = less w x e in absurd (omega (arith, low, c))
        ]) refl
    same_times (suc k) (suc n) (suc m) w a b c =
        (elim (next w) as (λ o. next w ≡ o → times next (suc n) w ≡ times next (suc m) w) [
          | None ↦ λ e. still next (suc n) w e ∙ sym (still next (suc m) w e)
          | Some x ↦ λ e.
              let low : size (left_out w x) < size w = less w x e in
              ap (λ (o : Option Work). then_out (λ v. times next n v) w o) e
              ∙ same_times k n m (left_out w x) (omega (arith, low, a)) (omega (arith, low, b)) (omega (arith, low, c))
              ∙ sym (ap (λ (o : Option Work). then_out (λ v. times next m v) w o) e)
        ]) refl

    -- one more goes
    one_more : (w : State K) (x : Work) → next w ≡ Some x → times next (size (left_out w x)) (left_out w x) ≡ times next (size w) w
    one_more w x up =
        let low : size (left_out w x) < size w = less w x up in
        let own : size (left_out w x) ≤ size (left_out w x) = omega arith in
        let below : size (left_out w x) ≤ size w = omega (arith, low) in
        let all : size w ≤ size w = omega arith in
        let more : size w ≤ suc (size w) = omega arith in
        same_times (size w) (size (left_out w x)) (size w) (left_out w x) below own below
        ∙ sym (ap (λ (o : Option Work). then_out (λ v. times next (size w) v) w o) up)
        ∙ same_times (size w) (suc (size w)) (size w) w all more all

  -- the definitions pass over what is barred
  by_barred : (go : State K → State K) (w : State K) (o : Option Work) → pass_over go w o ≡ then_out go w (barred w o)
  by_barred go w None = refl
  by_barred go w (Some (RunEffects s)) = refl
  by_barred go w (Some (RerunScope s)) = by (may_rerun w s)
    where
      by : (b : Bool) → (if b then w else go (record w { seen = drop_number w.seen s; skipped = join w.skipped s })) ≡ then_out go w (if b then None else Some (RerunScope s))
      by true = refl
      by false = refl
  by_barred go w (Some (PollTask t)) = by (may_poll w t)
    where
      by : (b : Bool) → (if b then w else go (record w { queued = drop_number w.queued t })) ≡ then_out go w (if b then None else Some (PollTask t))
      by true = refl
      by false = refl

  abbrev next_barred : State K → Option Work
  next_barred w = barred w (found w)

  passes_are : (n : ℕ) (w : State K) → passes n w ≡ times next_barred n w
  passes_are zero w = refl
  passes_are (suc n) w = by_barred (λ v. passes n v) w (found w) ∙ by (next_barred w) (passes_are n)
    where
      by : (o : Option Work) → ((v : State K) → passes n v ≡ times next_barred n v) → then_out (λ v. passes n v) w o ≡ then_out (λ v. times next_barred n v) w o
      by None are = refl
      by (Some x) are = are (left_out w x)

  tasks_are : (n : ℕ) (w : State K) → tasks_passed n w ≡ times barred_task n w
  tasks_are zero w = refl
  tasks_are (suc n) w = by (first_seen w) (tasks_are n)
    where
      on : (o : Option Work) → ((v : State K) → tasks_passed n v ≡ times barred_task n v) → then_out (λ v. tasks_passed n v) w o ≡ then_out (λ v. times barred_task n v) w o
      on None are = refl
      on (Some x) are = are (left_out w x)

      by : (f : Option ℕ) → ((v : State K) → tasks_passed n v ≡ times barred_task n v)
          → (elim f as (λ z. State K) [ None ↦ pass_over (λ v. tasks_passed n v) w (found w) | Some s ↦ w ])
          ≡ then_out (λ v. times barred_task n v) w (elim f as (λ z. Option Work) [ None ↦ barred w (found w) | Some s ↦ None ])
      by None are = by_barred (λ v. tasks_passed n v) w (found w) ∙ on (next_barred w) are
      by (Some s) are = refl

  -- each time less is left
  barred_is : (w : State K) (o : Option Work) (x : Work) → barred w o ≡ Some x → o ≡ Some x
  barred_is w None x is = absurd (cc is)
  barred_is w (Some y) x is =
      by_test (may_take w y)
      (λ q. absurd (cc (sym (pick_true None (Some y) q) ∙ is)))
      (λ q. sym (pick_false None (Some y) q) ∙ is)

  fewer_seen : (w : State K) (s : ℕ) → found w ≡ Some (RerunScope s) → length (drop_number w.seen s) < length w.seen
  fewer_seen w s up =
      let f = (found_turn w (RerunScope s) up).first in
      fewer w.seen s (ap (λ (ns : List ℕ). has ns s) f.stands ∙ in_middle f.front f.back s)

  fewer_queued : (w : State K) (t : ℕ) → found w ≡ Some (PollTask t) → length (drop_number w.queued t) < length w.queued
  fewer_queued w t up =
      let f = (found_turn w (PollTask t) up).0 in
      fewer w.queued t (ap (λ (ns : List ℕ). has ns t) f.stands ∙ in_middle f.front f.back t)

  found_less : (w : State K) (x : Work) → found w ≡ Some x → length (left_out w x).seen + length (left_out w x).queued < length w.seen + length w.queued
  found_less w (RerunScope s) up = let low = fewer_seen w s up in omega (arith, low)
  found_less w (PollTask t) up = let low = fewer_queued w t up in omega (arith, low)
  found_less w (RunEffects s) up = absurd (found_turn w (RunEffects s) up)

  fewer_waits : (w : State K) (x : Work) → next_barred w ≡ Some x → length (left_out w x).seen + length (left_out w x).queued < length w.seen + length w.queued
  fewer_waits w x is = found_less w x (barred_is w (found w) x is)

  task_less : (w : State K) (x : Work) → w.seen ≡ [] → found w ≡ Some x → length (left_out w x).queued < length w.queued
  task_less w (RerunScope s) none up =
      let f = (found_turn w (RerunScope s) up).first in
      clash (ap (λ (ns : List ℕ). has ns s) f.stands ∙ in_middle f.front f.back s) (ap (λ (ns : List ℕ). has ns s) none)
  task_less w (PollTask t) none up = fewer_queued w t up
  task_less w (RunEffects s) none up = absurd (found_turn w (RunEffects s) up)

  fewer_tasks : (w : State K) (x : Work) → barred_task w ≡ Some x → length (left_out w x).queued < length w.queued
  fewer_tasks w x is = by (first_seen w) refl is
    where
      by : (f : Option ℕ) → first_seen w ≡ f → (elim f as (λ z. Option Work) [ None ↦ barred w (found w) | Some s ↦ None ]) ≡ Some x → length (left_out w x).queued < length w.queued
      by None e is = task_less w x (none_seen (λ s t. is_before w.scopes s t) w.seen e) (barred_is w (found w) x is)
      by (Some s) e is = absurd (cc is)

  -- one more is passed over
  pub waits_less : (w v : State K) (x : Work) → Some x ≡ barred w (found w) → v ≡ left_out w x → length v.seen + length v.queued < length w.seen + length w.queued
  waits_less w v x up is = subst (λ (u : State K). length u.seen + length u.queued < length w.seen + length w.queued) (sym is) (fewer_waits w x (sym up))

  pub passed_on : (w v : State K) (x : Work) → Some x ≡ barred w (found w) → v ≡ left_out w x → all_passed v ≡ all_passed w
  passed_on w v x up is =
      ap (λ (u : State K). all_passed u) is
      ∙ passes_are (length (left_out w x).seen + length (left_out w x).queued) (left_out w x)
      ∙ one_more next_barred (λ u. length u.seen + length u.queued) fewer_waits w x (sym up)
      ∙ sym (passes_are (length w.seen + length w.queued) w)

  pub passed_over : (w : State K) → None ≡ barred w (found w) → w ≡ all_passed w
  passed_over w none = sym (passes_are (length w.seen + length w.queued) w ∙ still next_barred (length w.seen + length w.queued) w (sym none))

  -- the same of tasks
  pub tasks_less : (w v : State K) (x : Work) → Some x ≡ barred_task w → v ≡ left_out w x → length v.queued < length w.queued
  tasks_less w v x up is = subst (λ (u : State K). length u.queued < length w.queued) (sym is) (fewer_tasks w x (sym up))

  pub tasks_on : (w v : State K) (x : Work) → Some x ≡ barred_task w → v ≡ left_out w x → every_task_passed v ≡ every_task_passed w
  tasks_on w v x up is =
      ap (λ (u : State K). every_task_passed u) is
      ∙ tasks_are (length (left_out w x).queued) (left_out w x)
      ∙ one_more barred_task (λ u. length u.queued) fewer_tasks w x (sym up)
      ∙ sym (tasks_are (length w.queued) w)

  pub tasks_over : (w : State K) → None ≡ barred_task w → w ≡ every_task_passed w
  tasks_over w none = sym (tasks_are (length w.queued) w ∙ still barred_task (length w.queued) w (sym none))

  -- what is barred, by what is found
  pub barred_taken : (w : State K) (x : Work) → Some x ≡ found w → may_take w x ≡ true → None ≡ barred w (found w)
  barred_taken w x up may = sym (ap (λ (o : Option Work). barred w o) (sym up) ∙ pick_true None (Some x) may)

  pub barred_left : (w : State K) (x : Work) → Some x ≡ found w → may_take w x ≡ false → Some x ≡ barred w (found w)
  barred_left w x up may = sym (ap (λ (o : Option Work). barred w o) (sym up) ∙ pick_false None (Some x) may)

  pub barred_none : (w : State K) → None ≡ found w → None ≡ barred w (found w)
  barred_none w none = ap (λ (o : Option Work). barred w o) none

  pub seen_bars : (w : State K) (s : ℕ) → Some s ≡ first_seen w → None ≡ barred_task w
  seen_bars w s seen = ap (λ (f : Option ℕ). elim f as (λ z. Option Work) [ None ↦ barred w (found w) | Some r ↦ None ]) seen

  pub unseen_bars : (w : State K) (o : Option Work) → None ≡ first_seen w → o ≡ barred w (found w) → o ≡ barred_task w
  unseen_bars w o none is = is ∙ ap (λ (f : Option ℕ). elim f as (λ z. Option Work) [ None ↦ barred w (found w) | Some r ↦ None ]) none

-- by a test for some number
pub some_is : (o : Option ℕ) → is_some o ≡ true → (n : ℕ) × (o ≡ Some n)
some_is None h = cc
some_is (Some n) h = (n, refl)

pub none_is : (o : Option ℕ) → is_some o ≡ false → o ≡ None
none_is None h = refl
none_is (Some n) h = cc
