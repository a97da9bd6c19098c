-- Numbers that are all entered, or all below one, as lists change.
use Rattle.std.proofs.Common.{◌≡◌, ℕ, ◌+◌, ◌<◌, ◌≤◌, Bool, true, false, List, [], ◌∷◌, ◌++◌, nat_eq, refl, ap, ◌∙◌, sym, subst, arith}
use Rattle.std.specs.Prelude.{if◌then◌else◌}
use Rattle.std.proofs.lemmas.Bool.{eqb-true}
use Rattle.std.proofs.lemmas.Bool.Decides.{nat_tests}
use Rattle.rt_model.specs.Lists.{drop_number, has, join, without}
use Rattle.rt_model.proofs.Maps.{by_test, pick_true, pick_false}
use Rattle.rt_model.proofs.Members.{by_either, clash, number_left, number_stays, or_left, or_right}
pub use Rattle.rt_model.proofs.Members.{number_gone as gone_from}
use Rattle.run_owed.specs.Lists.{joins, numbers_of}
use Rattle.run_owed.specs.Owing.{living}
use Rattle.run_owed.specs.Stands.{AllBelow, AllIn}
use Rattle.run_owed.proofs.Members.{by_part, has_first, has_only}
use Rattle.run_owed.proofs.Tables.{numbers_more, numbers_without}

-- ---- all are some of these
pub in_by : (all ns : List ℕ) → AllIn all ns → (n : ℕ) → has ns n ≡ true → has all n ≡ true
in_by all [] h n there = clash there refl
in_by all (m ∷ ns) h n there =
    by_either (nat_eq m n) (has ns n) there (λ q. ap (λ (k : ℕ). has all k) (sym (eqb-true m n q)) ∙ h.0) (λ r. in_by all ns h.1 n r)

pub in_wider : (all new ns : List ℕ) → ((n : ℕ) → has all n ≡ true → has new n ≡ true) → AllIn all ns → AllIn new ns
in_wider all new [] wider h = tt
in_wider all new (n ∷ ns) wider h = (wider n h.0, in_wider all new ns wider h.1)

pub in_more : (all : List ℕ) (m : ℕ) (ns : List ℕ) → AllIn all ns → AllIn (all ++ m ∷ []) ns
in_more all m ns h = in_wider all (all ++ m ∷ []) ns (λ n there. has_first all (m ∷ []) n there) h

-- one that isn't one of them may go
pub in_less : (all : List ℕ) (m : ℕ) (ns : List ℕ) → has ns m ≡ false → AllIn all ns → AllIn (drop_number all m) ns
in_less all m [] none h = tt
in_less all m (n ∷ ns) none h = (
  number_stays all m n (by_test (nat_eq m n) (λ q. clash (or_left (nat_eq n m) (has ns m) (turned m n q)) none) (λ q. q)) h.0,
  in_less all m ns (by_test (has ns m) (λ q. clash (or_right (nat_eq n m) (has ns m) q) none) (λ q. q)) h.1,
)
  where
    turned : (a b : ℕ) → nat_eq a b ≡ true → nat_eq b a ≡ true
    turned a b h = grind (arith, nat_tests)

pub in_dropped : (all : List ℕ) (m : ℕ) (ns : List ℕ) → AllIn all ns → AllIn all (drop_number ns m)
in_dropped all m [] h = tt
in_dropped all m (n ∷ ns) h = by (nat_eq n m) (in_dropped all m ns h.1)
  where
    by : (b : Bool) → AllIn all (drop_number ns m) → AllIn all (if b then drop_number ns m else n ∷ drop_number ns m)
    by true rest = rest
    by false rest = (h.0, rest)

pub in_both_dropped : (all : List ℕ) (m : ℕ) (ns : List ℕ) → AllIn all ns → AllIn (drop_number all m) (drop_number ns m)
in_both_dropped all m ns h = in_less all m (drop_number ns m) (gone_from ns m) (in_dropped all m ns h)

in_added : (all : List ℕ) (m : ℕ) (ns : List ℕ) → has all m ≡ true → AllIn all ns → AllIn all (ns ++ m ∷ [])
in_added all m [] there h = (there, tt)
in_added all m (n ∷ ns) there h = (h.0, in_added all m ns there h.1)

pub in_pushed : (all : List ℕ) (m : ℕ) (ns : List ℕ) → has all m ≡ true → AllIn all ns → AllIn all (ns ++ m ∷ [])
in_pushed all m ns there h = in_added all m ns there h

pub in_joined : (all : List ℕ) (m : ℕ) (ns : List ℕ) → has all m ≡ true → AllIn all ns → AllIn all (join ns m)
in_joined all m ns there h = by (has ns m)
  where
    by : (b : Bool) → AllIn all (if b then ns else ns ++ m ∷ [])
    by true = h
    by false = in_added all m ns there h

pub in_joins : (all ns ws : List ℕ) → AllIn all ns → AllIn all ws → AllIn all (joins ns ws)
in_joins all ns [] h ws = h
in_joins all ns (w ∷ ws) h g = in_joins all (join ns w) ws (in_joined all w ns g.0 h) g.1

-- ---- those that are entered
pub in_living : (es : List (ℕ × ℕ)) (ns : List ℕ) → AllIn (numbers_of es) (living es ns)
in_living es [] = tt
in_living es (n ∷ ns) = by (has (numbers_of es) n) refl (in_living es ns)
  where
    by : (b : Bool) → has (numbers_of es) n ≡ b → AllIn (numbers_of es) (living es ns) → AllIn (numbers_of es) (if b then n ∷ living es ns else living es ns)
    by true q rest = (q, rest)
    by false q rest = rest

pub living_push : (es : List (ℕ × ℕ)) (ns : List ℕ) (n : ℕ) → has (numbers_of es) n ≡ true → living es (ns ++ n ∷ []) ≡ living es ns ++ n ∷ []
living_push es [] n there = pick_true (n ∷ []) [] there
living_push es (m ∷ ns) n there = by (has (numbers_of es) m) (living_push es ns n there)
  where
    by : (b : Bool) → living es (ns ++ n ∷ []) ≡ living es ns ++ n ∷ []
        → (if b then m ∷ living es (ns ++ n ∷ []) else living es (ns ++ n ∷ [])) ≡ (if b then m ∷ living es ns else living es ns) ++ n ∷ []
    by true rest = ap (λ (ms : List ℕ). m ∷ ms) rest
    by false rest = rest

-- the first one goes, or stays
drop_own : (c : Bool) (m n : ℕ) (ks : List ℕ) → nat_eq m n ≡ true → drop_number (if c then m ∷ ks else ks) n ≡ drop_number ks n
drop_own true m n ks q = pick_true (drop_number ks n) (m ∷ drop_number ks n) q
drop_own false m n ks q = refl

drop_other : (c : Bool) (m n : ℕ) (ks : List ℕ) → nat_eq m n ≡ false → drop_number (if c then m ∷ ks else ks) n ≡ (if c then m ∷ drop_number ks n else drop_number ks n)
drop_other true m n ks q = pick_false (drop_number ks n) (m ∷ drop_number ks n) q
drop_other false m n ks q = refl

pub living_drop : (es : List (ℕ × ℕ)) (ns : List ℕ) (n : ℕ) → living es (drop_number ns n) ≡ drop_number (living es ns) n
living_drop es [] n = refl
living_drop es (m ∷ ns) n =
    by_test (nat_eq m n)
    (λ q. ap (λ (ks : List ℕ). living es ks) (pick_true (drop_number ns n) (m ∷ drop_number ns n) q) ∙ living_drop es ns n ∙ sym (drop_own (has (numbers_of es) m) m n (living es ns) q))
    (λ q. ap (λ (ks : List ℕ). living es ks) (pick_false (drop_number ns n) (m ∷ drop_number ns n) q)
    ∙ ap (λ (ks : List ℕ). if has (numbers_of es) m then m ∷ ks else ks) (living_drop es ns n)
    ∙ sym (drop_other (has (numbers_of es) m) m n (living es ns) q))

-- one more is entered, which isn't one of them
pub living_entered : (es : List (ℕ × ℕ)) (n v : ℕ) (ns : List ℕ) → has ns n ≡ false → living (es ++ (n, v) ∷ []) ns ≡ living es ns
living_entered es n v [] none = refl
living_entered es n v (m ∷ ns) none =
    ap (λ (b : Bool). if b then m ∷ living (es ++ (n, v) ∷ []) ns else living (es ++ (n, v) ∷ []) ns) same
    ∙ ap (λ (ms : List ℕ). if has (numbers_of es) m then m ∷ ms else ms) (living_entered es n v ns rest)
  where
    rest : has ns n ≡ false
    rest = by_test (has ns n) (λ q. clash (or_right (nat_eq m n) (has ns n) q) none) (λ q. q)

    apart : nat_eq m n ≡ false
    apart = by_test (nat_eq m n) (λ q. clash (or_left (nat_eq m n) (has ns n) q) none) (λ q. q)

    turned : (a b : ℕ) → nat_eq a b ≡ true → nat_eq b a ≡ true
    turned a b h = grind (arith, nat_tests)

    same : has (numbers_of (es ++ (n, v) ∷ [])) m ≡ has (numbers_of es) m
    same =
        ap (λ (ks : List ℕ). has ks m) (numbers_more es n v)
        ∙ by_test (has (numbers_of es) m)
        (λ q. has_first (numbers_of es) (n ∷ []) m q ∙ sym q)
        (λ q. by_test (has (numbers_of es ++ n ∷ []) m)
        (λ r. by_part (numbers_of es) (n ∷ []) m r (λ s. clash s q) (λ s. has_only n m s (λ t. clash (turned n m t) apart)))
        (λ r. r ∙ sym q))

-- one that leaves is none of them any more
pub living_left : (es : List (ℕ × ℕ)) (n : ℕ) (ns : List ℕ) → living (without es n) ns ≡ drop_number (living es ns) n
living_left es n [] = refl
living_left es n (m ∷ ns) =
    ap (λ (ks : List ℕ). if has ks m then m ∷ living (without es n) ns else living (without es n) ns) (numbers_without es n)
    ∙ by_test (nat_eq m n)
    (λ q. pick_false (m ∷ living (without es n) ns) (living (without es n) ns) (ap (λ (k : ℕ). has (drop_number (numbers_of es) n) k) (eqb-true m n q) ∙ gone_from (numbers_of es) n)
    ∙ living_left es n ns
    ∙ sym (drop_own (has (numbers_of es) m) m n (living es ns) q))
    (λ q. ap (λ (b : Bool). if b then m ∷ living (without es n) ns else living (without es n) ns) (stays q)
    ∙ ap (λ (ms : List ℕ). if has (numbers_of es) m then m ∷ ms else ms) (living_left es n ns)
    ∙ sym (drop_other (has (numbers_of es) m) m n (living es ns) q))
  where
    turned : (a b : ℕ) → nat_eq a b ≡ false → nat_eq b a ≡ false
    turned a b h = grind (arith, nat_tests)

    stays : nat_eq m n ≡ false → has (drop_number (numbers_of es) n) m ≡ has (numbers_of es) m
    stays q =
        by_test (has (numbers_of es) m)
        (λ there. number_stays (numbers_of es) n m (turned m n q) there ∙ sym there)
        (λ none. by_test (has (drop_number (numbers_of es) n) m) (λ r. clash (number_left (numbers_of es) n m r).0 none) (λ r. r ∙ sym none))

-- ---- all are below a number
pub below_by : (end : ℕ) (ns : List ℕ) → AllBelow end ns → (n : ℕ) → has ns n ≡ true → n < end
below_by end [] h n there = clash there refl
below_by end (m ∷ ns) h n there =
    by_either (nat_eq m n) (has ns n) there (λ q. subst (λ (k : ℕ). k < end) (eqb-true m n q) h.0) (λ r. below_by end ns h.1 n r)

pub not_below : (end n : ℕ) (ns : List ℕ) → AllBelow end ns → end ≤ n → has ns n ≡ false
not_below end n ns h high = by_test (has ns n) (λ q. let low : n < end = below_by end ns h n q in absurd (omega (arith, low, high))) (λ q. q)

pub below_wider : (end new : ℕ) (ns : List ℕ) → end ≤ new → AllBelow end ns → AllBelow new ns
below_wider end new [] wide h = tt
below_wider end new (n ∷ ns) wide h = let low : n < end = h.0 in (omega (arith, low, wide), below_wider end new ns wide h.1)

pub below_pushed : (end m : ℕ) (ns : List ℕ) → m < end → AllBelow end ns → AllBelow end (ns ++ m ∷ [])
below_pushed end m [] low h = (low, tt)
below_pushed end m (n ∷ ns) low h = (h.0, below_pushed end m ns low h.1)

pub below_dropped : (end m : ℕ) (ns : List ℕ) → AllBelow end ns → AllBelow end (drop_number ns m)
below_dropped end m [] h = tt
below_dropped end m (n ∷ ns) h = by (nat_eq n m) (below_dropped end m ns h.1)
  where
    by : (b : Bool) → AllBelow end (drop_number ns m) → AllBelow end (if b then drop_number ns m else n ∷ drop_number ns m)
    by true rest = rest
    by false rest = (h.0, rest)
