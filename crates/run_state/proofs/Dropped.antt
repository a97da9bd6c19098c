-- Paused tasks are dropped one after another, whatever counts them.
use Rattle.std.proofs.Common.{◌≡◌, ℕ, zero, suc, ◌<◌, ◌≤◌, Bool, true, false, List, [], ◌∷◌, length, nat_eq, refl, ap, sym, ◌∙◌, arith}
use Rattle.std.specs.Prelude.{Option, Some, None, if◌then◌else◌}
use Rattle.rt_model.specs.Lists.{drop_number, has}
use Rattle.rt_model.specs.Tree.{Types}
use Rattle.rt_model.specs.State as model
use Rattle.rt_model.specs.Next.{RerunScope, PollTask, chosen, drop_then, drops, first_seen, first_task, found, is_active, is_before, least, least_from, paused, scope_of_task}
use Rattle.rt_model.proofs.Maps.{by_test, eq_same, pick_false, pick_true}
use Rattle.rt_model.proofs.Members.{by_either, clash, or_left, or_right}

-- the least of some numbers is one of them
least_in : (earlier : ℕ → ℕ → Bool) (s : ℕ) (ns : List ℕ) → has (s ∷ ns) (least_from earlier s ns) ≡ true
least_in earlier s [] = or_left (nat_eq s s) false (eq_same s)
least_in earlier s (n ∷ ns) = by (earlier n s) (least_in earlier n ns) (least_in earlier s ns)
  where
    by : (b : Bool) → has (n ∷ ns) (least_from earlier n ns) ≡ true → has (s ∷ ns) (least_from earlier s ns) ≡ true
        → has (s ∷ n ∷ ns) (least_from earlier (if b then n else s) ns) ≡ true
    by true new old = or_right (nat_eq s (least_from earlier n ns)) (has (n ∷ ns) (least_from earlier n ns)) new
    by false new old =
        by_either (nat_eq s (least_from earlier s ns)) (has ns (least_from earlier s ns)) old
        (λ q. or_left (nat_eq s (least_from earlier s ns)) (has (n ∷ ns) (least_from earlier s ns)) q)
        (λ q. or_right (nat_eq s (least_from earlier s ns)) (has (n ∷ ns) (least_from earlier s ns)) (or_right (nat_eq n (least_from earlier s ns)) (has ns (least_from earlier s ns)) q))

least_has : (earlier : ℕ → ℕ → Bool) (ns : List ℕ) (n : ℕ) → least earlier ns ≡ Some n → has ns n ≡ true
least_has earlier [] n is = absurd (cc is)
least_has earlier (m ∷ ns) n is = let own : least_from earlier m ns ≡ n = cc in ap (λ (k : ℕ). has (m ∷ ns) k) (sym own) ∙ least_in earlier m ns

-- without one that is there fewer are left
no_more : (ns : List ℕ) (n : ℕ) → length (drop_number ns n) ≤ length ns
no_more [] n = omega arith
no_more (m ∷ ns) n =
    by_test (nat_eq m n)
    (λ q. let is : length (drop_number (m ∷ ns) n) ≡ length (drop_number ns n) = ap (λ (ks : List ℕ). length ks) (pick_true (drop_number ns n) (m ∷ drop_number ns n) q) in omega (arith, is, no_more ns n))
    (λ q. let is : length (drop_number (m ∷ ns) n) ≡ suc (length (drop_number ns n)) = ap (λ (ks : List ℕ). length ks) (pick_false (drop_number ns n) (m ∷ drop_number ns n) q) in omega (arith, is, no_more ns n))

pub fewer : (ns : List ℕ) (n : ℕ) → has ns n ≡ true → length (drop_number ns n) < length ns
fewer [] n there = absurd (cc there)
fewer (m ∷ ns) n there =
    by_test (nat_eq m n)
    (λ q. let is : length (drop_number (m ∷ ns) n) ≡ length (drop_number ns n) = ap (λ (ks : List ℕ). length ks) (pick_true (drop_number ns n) (m ∷ drop_number ns n) q) in omega (arith, is, no_more ns n))
    (λ q.
    let is : length (drop_number (m ∷ ns) n) ≡ suc (length (drop_number ns n)) = ap (λ (ks : List ℕ). length ks) (pick_false (drop_number ns n) (m ∷ drop_number ns n) q) in
    let rest = fewer ns n (by_either (nat_eq m n) (has ns n) there (λ r. clash r q) (λ r. r)) in
    omega (arith, is, rest))

module _ {K : Types} where
  -- what a paused task is that comes up
  up_is : (w : model.State K) (t u : ℕ) (b : Bool) → Some t ≡ (if b then None else Some u) → u ≡ t
  up_is w t u true up = absurd (cc up)
  up_is w t u false up = cc

  -- a paused task that comes up is queued
  up_queued : (w : model.State K) (t : ℕ) (task seen : Option ℕ) → task ≡ first_task w → Some t ≡ paused w (chosen w task seen) → has w.queued t ≡ true
  up_queued w t None None is up = absurd (cc up)
  up_queued w t None (Some s) is up = absurd (cc up)
  up_queued w t (Some u) None is up =
      ap (λ (n : ℕ). has w.queued n) (sym (up_is w t u (is_active w u) up)) ∙ least_has (λ n m. is_before w.scopes (scope_of_task w n) (scope_of_task w m)) w.queued u (sym is)
  up_queued w t (Some u) (Some s) is up = by (is_before w.scopes s (scope_of_task w u)) up
    where
      by : (b : Bool) → Some t ≡ paused w (if b then Some (RerunScope s) else Some (PollTask u)) → has w.queued t ≡ true
      by true q = absurd (cc q)
      by false q =
          ap (λ (n : ℕ). has w.queued n) (sym (up_is w t u (is_active w u) q)) ∙ least_has (λ n m. is_before w.scopes (scope_of_task w n) (scope_of_task w m)) w.queued u (sym is)

  paused_queued : (w : model.State K) (t : ℕ) → Some t ≡ paused w (found w) → has w.queued t ≡ true
  paused_queued w t up = up_queued w t (first_task w) (first_seen w) refl up

  abbrev dropped : model.State K → ℕ → model.State K
  dropped w t = record w { queued = drop_number w.queued t }

  none_dropped : (xs : List ℕ) (w : model.State K) → None ≡ paused w (found w) → w ≡ drops xs w
  none_dropped [] w none = refl
  none_dropped (x ∷ xs) w none = ap (λ (o : Option ℕ). drop_then (λ v. drops xs v) w o) none

  -- however many may be dropped, if only there are enough
  same_drops : (n : ℕ) (xs ys : List ℕ) (w : model.State K) → length w.queued ≤ n → length w.queued ≤ length xs → length w.queued ≤ length ys → drops xs w ≡ drops ys w
  same_drops zero xs ys w a b c =
      (elim (paused w (found w)) as (λ p. paused w (found w) ≡ p → drops xs w ≡ drops ys w) [
        | None ↦ λ e. sym (none_dropped xs w (sym e)) ∙ none_dropped ys w (sym e)
        | Some t ↦ λ e. let low = fewer w.queued t (paused_queued w t (sym e)) in absurd (omega (arith, low, a))
      ]) refl
  same_drops (suc n) [] ys w a b c =
      (elim (paused w (found w)) as (λ p. paused w (found w) ≡ p → w ≡ drops ys w) [
        | None ↦ λ e. none_dropped ys w (sym e)
        | Some t ↦ λ e. let low = fewer w.queued t (paused_queued w t (sym e)) in absurd (omega (arith, low, b))
      ]) refl
  same_drops (suc n) (x ∷ xs) [] w a b c =
      (elim (paused w (found w)) as (λ p. paused w (found w) ≡ p → drops (x ∷ xs) w ≡ w) [
        | None ↦ λ e. sym (none_dropped (x ∷ xs) w (sym e))
        | Some t ↦ λ e. let low = fewer w.queued t (paused_queued w t (sym e)) in absurd (omega (arith, low, c))
      ]) refl
  same_drops (suc n) (x ∷ xs) (y ∷ ys) w a b c =
      (elim (paused w (found w)) as (λ p. paused w (found w) ≡ p → drops (x ∷ xs) w ≡ drops (y ∷ ys) w) [
        | None ↦ λ e. sym (none_dropped (x ∷ xs) w (sym e)) ∙ none_dropped (y ∷ ys) w (sym e)
        | Some t ↦ λ e.
            let low : length (drop_number w.queued t) < length w.queued = fewer w.queued t (paused_queued w t (sym e)) in
            ap (λ (o : Option ℕ). drop_then (λ v. drops xs v) w o) e
            ∙ same_drops n xs ys (dropped w t) (omega (arith, low, a)) (omega (arith, low, b)) (omega (arith, low, c))
            ∙ sym (ap (λ (o : Option ℕ). drop_then (λ v. drops ys v) w o) e)
      ]) refl

  -- one more is dropped
  pub drops_on : (w v : model.State K) (t : ℕ) → Some t ≡ paused w (found w) → v ≡ dropped w t → drops v.queued v ≡ drops w.queued w
  drops_on w v t up is =
      let low : length (drop_number w.queued t) < length w.queued = fewer w.queued t (paused_queued w t up) in
      let all : length w.queued ≤ length w.queued = omega arith in
      let more : length w.queued ≤ length (t ∷ w.queued) = omega arith in
      let less : length (drop_number w.queued t) ≤ length w.queued = omega (arith, low) in
      let own : length (drop_number w.queued t) ≤ length (drop_number w.queued t) = omega arith in
      ap (λ (x : model.State K). drops x.queued x) is
      ∙ same_drops (length w.queued) (drop_number w.queued t) w.queued (dropped w t) less own less
      ∙ ap (λ (o : Option ℕ). drop_then (λ x. drops w.queued x) w o) up
      ∙ same_drops (length w.queued) (t ∷ w.queued) w.queued w all more all

  -- and at the end none is
  pub drops_over : (w : model.State K) → None ≡ paused w (found w) → w ≡ drops w.queued w
  drops_over w none = none_dropped w.queued w none

  pub fewer_queued : (w : model.State K) (t : ℕ) (old new : List ℕ) → old ≡ w.queued → Some t ≡ paused w (found w) → new ≡ drop_number old t → length new < length old
  fewer_queued w t old new same up is =
      let low : length (drop_number old t) < length old = fewer old t (ap (λ (ns : List ℕ). has ns t) same ∙ paused_queued w t up) in
      let long : length new ≡ length (drop_number old t) = ap (λ (ns : List ℕ). length ns) is in
      omega (arith, low, long)
