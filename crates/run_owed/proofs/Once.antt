-- Lists in which each number stands once, and the scopes and tasks of what is posted, after one more or less.
use Rattle.std.proofs.Common.{ℕ, Bool, true, false, List, [], ◌∷◌, ◌++◌, ◌≡◌, refl, ap, ◌∙◌, nat_eq}
use Rattle.std.specs.Prelude.{if◌then◌else◌, not}
use Rattle.std.proofs.lemmas.Bool.{eqb-true}
use Rattle.rt_model.specs.Lists.{drop_number, has, join}
use Rattle.rt_model.specs.State.{Posted, Mark, Woken}
use Rattle.rt_model.specs.Commands.{drop_posted}
use Rattle.rt_model.proofs.Maps.{by_test, eq_same}
use Rattle.rt_model.proofs.Members.{clash, or_left, or_right, number_left}
use Rattle.run_owed.specs.Lists.{EachOnce, marks_in, wakes_in}
use Rattle.run_owed.proofs.Members.{by_part, has_only}

-- one more number
pub once_more : (ns : List ℕ) (n : ℕ) → EachOnce ns → has ns n ≡ false → EachOnce (ns ++ n ∷ [])
once_more [] n once none = (refl, tt)
once_more (m ∷ ms) n once none = (
  by_test (has (ms ++ n ∷ []) m)
      (
      λ q.
      by_part ms (n ∷ []) m q
      (λ r. clash r once.0)
      (λ r. has_only n m r (λ s. clash (or_left (nat_eq m n) (has ms n) (turned n m s)) none))
      )
      (λ q. q),
  once_more ms n once.1 (by_test (has ms n) (λ q. clash (or_right (nat_eq m n) (has ms n) q) none) (λ q. q)),
)
  where
    turned : (a b : ℕ) → nat_eq a b ≡ true → nat_eq b a ≡ true
    turned a b h = ap (λ c. nat_eq b c) (eqb-true a b h) ∙ eq_same b

pub once_joined : (ns : List ℕ) (n : ℕ) → EachOnce ns → EachOnce (join ns n)
once_joined ns n once = by (has ns n) refl
  where
    by : (b : Bool) → has ns n ≡ b → EachOnce (if b then ns else ns ++ n ∷ [])
    by true q = once
    by false q = once_more ns n once q

-- one number less
pub once_less : (ns : List ℕ) (s : ℕ) → EachOnce ns → EachOnce (drop_number ns s)
once_less [] s once = tt
once_less (n ∷ ns) s once = by (nat_eq n s) (once_less ns s once.1)
  where
    by : (b : Bool) → EachOnce (drop_number ns s) → EachOnce (if b then drop_number ns s else n ∷ drop_number ns s)
    by true h = h
    by false h = (by_test (has (drop_number ns s) n) (λ q. clash (number_left ns s n q).0 once.0) (λ q. q), h)

-- ---- what is posted

pub marks_mark : (ps : List Posted) (s : ℕ) → marks_in (ps ++ Mark s ∷ []) ≡ marks_in ps ++ s ∷ []
marks_mark [] s = refl
marks_mark (Mark n ∷ ps) s = ap (λ xs. n ∷ xs) (marks_mark ps s)
marks_mark (Woken n ∷ ps) s = marks_mark ps s

pub wakes_mark : (ps : List Posted) (s : ℕ) → wakes_in (ps ++ Mark s ∷ []) ≡ wakes_in ps
wakes_mark [] s = refl
wakes_mark (Mark n ∷ ps) s = wakes_mark ps s
wakes_mark (Woken n ∷ ps) s = ap (λ xs. n ∷ xs) (wakes_mark ps s)

pub marks_wake : (ps : List Posted) (t : ℕ) → marks_in (ps ++ Woken t ∷ []) ≡ marks_in ps
marks_wake [] t = refl
marks_wake (Mark n ∷ ps) t = ap (λ xs. n ∷ xs) (marks_wake ps t)
marks_wake (Woken n ∷ ps) t = marks_wake ps t

pub wakes_wake : (ps : List Posted) (t : ℕ) → wakes_in (ps ++ Woken t ∷ []) ≡ wakes_in ps ++ t ∷ []
wakes_wake [] t = refl
wakes_wake (Mark n ∷ ps) t = wakes_wake ps t
wakes_wake (Woken n ∷ ps) t = ap (λ xs. n ∷ xs) (wakes_wake ps t)

pub marks_unmark : (ps : List Posted) (s : ℕ) → marks_in (drop_posted ps (Mark s)) ≡ drop_number (marks_in ps) s
marks_unmark [] s = refl
marks_unmark (Mark n ∷ ps) s = by (nat_eq n s) (marks_unmark ps s)
  where
    by : (b : Bool) → marks_in (drop_posted ps (Mark s)) ≡ drop_number (marks_in ps) s
        → marks_in (if not b then Mark n ∷ drop_posted ps (Mark s) else drop_posted ps (Mark s)) ≡ (if b then drop_number (marks_in ps) s else n ∷ drop_number (marks_in ps) s)
    by true h = h
    by false h = ap (λ xs. n ∷ xs) h
marks_unmark (Woken n ∷ ps) s = marks_unmark ps s

pub wakes_unmark : (ps : List Posted) (s : ℕ) → wakes_in (drop_posted ps (Mark s)) ≡ wakes_in ps
wakes_unmark [] s = refl
wakes_unmark (Mark n ∷ ps) s = by (nat_eq n s) (wakes_unmark ps s)
  where
    by : (b : Bool) → wakes_in (drop_posted ps (Mark s)) ≡ wakes_in ps → wakes_in (if not b then Mark n ∷ drop_posted ps (Mark s) else drop_posted ps (Mark s)) ≡ wakes_in ps
    by true h = h
    by false h = h
wakes_unmark (Woken n ∷ ps) s = ap (λ xs. n ∷ xs) (wakes_unmark ps s)

pub marks_unwake : (ps : List Posted) (t : ℕ) → marks_in (drop_posted ps (Woken t)) ≡ marks_in ps
marks_unwake [] t = refl
marks_unwake (Mark n ∷ ps) t = ap (λ xs. n ∷ xs) (marks_unwake ps t)
marks_unwake (Woken n ∷ ps) t = by (nat_eq n t) (marks_unwake ps t)
  where
    by : (b : Bool) → marks_in (drop_posted ps (Woken t)) ≡ marks_in ps → marks_in (if not b then Woken n ∷ drop_posted ps (Woken t) else drop_posted ps (Woken t)) ≡ marks_in ps
    by true h = h
    by false h = h

pub wakes_unwake : (ps : List Posted) (t : ℕ) → wakes_in (drop_posted ps (Woken t)) ≡ drop_number (wakes_in ps) t
wakes_unwake [] t = refl
wakes_unwake (Mark n ∷ ps) t = wakes_unwake ps t
wakes_unwake (Woken n ∷ ps) t = by (nat_eq n t) (wakes_unwake ps t)
  where
    by : (b : Bool) → wakes_in (drop_posted ps (Woken t)) ≡ drop_number (wakes_in ps) t
        → wakes_in (if not b then Woken n ∷ drop_posted ps (Woken t) else drop_posted ps (Woken t)) ≡ (if b then drop_number (wakes_in ps) t else n ∷ drop_number (wakes_in ps) t)
    by true h = h
    by false h = ap (λ xs. n ∷ xs) h
