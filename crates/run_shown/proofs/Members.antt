-- Which numbers are in a set, and which are once one more came.
use Rattle.std.proofs.Common.{◌≡◌, ℕ, Bool, true, false, cond, ◌||◌, List, [], ◌∷◌, ◌++◌, nat_eq, refl, sym, ap, ◌∙◌}
use Rattle.std.proofs.lemmas.Bool.{eqb-true}
use Rattle.std.proofs.lemmas.List.Folds.{list_any-append}
use Rattle.std.specs.BTreeMap.{is_at}
use Rattle.std.specs.Cmp.{unsigned_ties}
use Rattle.std.specs.List.{list_any}
use Rattle.std.specs.Ordering.{nat_cmp}
use Rattle.rt_lemmas.proofs.Bools.{or_swapped}
use Rattle.rt_lemmas.proofs.Numbers.{eq_turned}
use Rattle.rt_model.specs.Lists.{has}
use Rattle.rt_model.proofs.Maps.{by_test}

-- the set's own test is equality
tests : (n k : ℕ) → is_at (nat_cmp n) k ≡ nat_eq n k
tests n k = sym (unsigned_ties n k)

either : (b c : Bool) → cond b true c ≡ (b || c)
either true c = refl
either false c = refl

-- what is in the set is among its numbers
pub is_in : (ks : List ℕ) (n : ℕ) → list_any (is_at (nat_cmp n)) ks ≡ has ks n
is_in ks n = λ i. list_any (λ k. (tests n k ∙ eq_turned n k) i) ks

-- one that came is in it beside the others
pub is_in_then : (ks more : List ℕ) (n m : ℕ) → list_any (is_at (nat_cmp m)) more ≡ cond (is_at (nat_cmp n) m) true (list_any (is_at (nat_cmp m)) ks)
    → has more m ≡ (nat_eq n m || has ks m)
is_in_then ks more n m came = sym (is_in more m) ∙ came ∙ (λ i. cond (tests n m i) true (is_in ks m i)) ∙ either (nat_eq n m) (has ks m)

-- a few stand in front of the others

pub in_both : (few ks : List ℕ) (n : ℕ) → has (few ++ ks) n ≡ (has few n || has ks n)
in_both few ks n = list_any-append (λ y. nat_eq y n) few ks

-- what is among the few is in the set
pub in_few : (few ks : List ℕ) (n : ℕ) → has few n ≡ true → has (few ++ ks) n ≡ true
in_few few ks n there = in_both few ks n ∙ ap (λ (b : Bool). b || has ks n) there

-- what isn't is in it where it is among the others
pub in_rest : (few ks : List ℕ) (n : ℕ) → has few n ≡ false → has (few ++ ks) n ≡ has ks n
in_rest few ks n gone = in_both few ks n ∙ ap (λ (b : Bool). b || has ks n) gone

-- one that is there changes nothing
pub in_already : (xs : List ℕ) (n m : ℕ) → has xs n ≡ true → has xs m ≡ (nat_eq n m || has xs m)
in_already xs n m there =
    by_test (nat_eq n m)
    (λ same. ap (λ (k : ℕ). has xs k) (sym (eqb-true n m same)) ∙ there ∙ sym (ap (λ (b : Bool). b || has xs m) same))
    (λ other. sym (ap (λ (b : Bool). b || has xs m) other))

-- one that comes among the few, where there are no others
pub in_few_then : (few ks more : List ℕ) (n m : ℕ) → ks ≡ [] → more ≡ few ++ n ∷ [] → has (more ++ ks) m ≡ (nat_eq n m || has (few ++ ks) m)
in_few_then few ks more n m none is =
    in_both more ks m
    ∙ ap (λ (xs : List ℕ). has xs m || has ks m) is
    ∙ ap (λ (b : Bool). b || has ks m) (in_both few (n ∷ []) m)
    ∙ one_more (has few m) (nat_eq n m) (has ks m)
    ∙ ap (λ (b : Bool). nat_eq n m || b) (sym (in_both few ks m))
  where
    one_more : (a b c : Bool) → ((a || (b || false)) || c) ≡ (b || (a || c))
    one_more true true c = refl
    one_more true false c = refl
    one_more false true c = refl
    one_more false false c = refl

-- one that comes among the others
pub in_rest_then : (few ks more : List ℕ) (n m : ℕ) → has more m ≡ (nat_eq n m || has ks m) → has (few ++ more) m ≡ (nat_eq n m || has (few ++ ks) m)
in_rest_then few ks more n m came =
    in_both few more m
    ∙ ap (λ (b : Bool). has few m || b) came
    ∙ or_swapped (has few m) (nat_eq n m) (has ks m)
    ∙ ap (λ (b : Bool). nat_eq n m || b) (sym (in_both few ks m))
