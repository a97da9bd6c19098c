-- What is fresh or hidden, among more and fewer.
use Rattle.std.proofs.Common.{◌≡◌, ◌&&◌, ℕ, zero, suc, Bool, true, false, cond, List, [], ◌∷◌, ◌++◌, get_or, nat_eq, refl, sym, ap, ◌∙◌}
use Rattle.std.proofs.lemmas.Bool.{eqb-true}
use Rattle.std.specs.BTreeMap.{is_at}
use Rattle.std.specs.Cmp.{Equal-is}
use Rattle.std.specs.List.{list_any}
use Rattle.std.specs.Prelude.{Option, Some, None, remove}
use Rattle.rt_model.specs.Lists.{has}
use Rattle.rt_model.proofs.Maps.{by_test, eq_same}
use Rattle.rt_model.proofs.Members.{by_either, clash, or_left, or_right}
pub use Rattle.rt_model.proofs.Members.{has_first as has_more, has_last as has_end}
use Rattle.run_state.specs.Effects.{has_rank, rank_cmp}
use Rattle.run_state.specs.Mounts.{Way, covers, hides}
use Rattle.run_state.proofs.Ranked.{rank_apart, rank_exact, rank_own}
use Rattle.run_state.proofs.Ways.{any_kept, any_never, both_first, both_from, both_second}

-- fresh and hidden ones that are among others
module _ (ways new : List (ℕ × Way)) (fresh more : List ℕ) (hidden : List (ℕ × ℕ)) (height s : ℕ) where
  -- and what hides them still does, but for the one with a number that hides none of them
  pub covers_kept : (b : ℕ) → list_any (λ e. nat_eq e.0 b) hidden ≡ false → (has fresh s ≡ true → has more s ≡ true)
      → ((a : ℕ) → nat_eq a b ≡ false → hides ways a height s ≡ true → hides new a height s ≡ true)
      → covers ways fresh hidden height s ≡ true → covers new more hidden height s ≡ true
  covers_kept b none joins step h =
      by_either (has fresh s) (list_any (λ e. nat_eq e.1 s && hides ways e.0 height s) hidden) h
      (λ q. or_left (has more s) (list_any (λ e. nat_eq e.1 s && hides new e.0 height s) hidden) (joins q))
      (
      λ q.
      or_right (has more s) (list_any (λ e. nat_eq e.1 s && hides new e.0 height s) hidden)
      (
      any_kept (λ e. nat_eq e.1 s && hides ways e.0 height s) (λ e. nat_eq e.1 s && hides new e.0 height s) (λ e. nat_eq e.0 b) hidden none
      (
      λ e other r.
      both_from (nat_eq e.1 s) (hides new e.0 height s) (both_first (nat_eq e.1 s) (hides ways e.0 height s) r)
      (step e.0 other (both_second (nat_eq e.1 s) (hides ways e.0 height s) r))
      )
      q
      )
      )

  -- and whatever hides them still does
  pub covers_still : (has fresh s ≡ true → has more s ≡ true) → ((a : ℕ) → hides ways a height s ≡ true → hides new a height s ≡ true)
      → covers ways fresh hidden height s ≡ true → covers new more hidden height s ≡ true
  covers_still joins step h =
      by_either (has fresh s) (list_any (λ e. nat_eq e.1 s && hides ways e.0 height s) hidden) h
      (λ q. or_left (has more s) (list_any (λ e. nat_eq e.1 s && hides new e.0 height s) hidden) (joins q))
      (
      λ q.
      or_right (has more s) (list_any (λ e. nat_eq e.1 s && hides new e.0 height s) hidden)
      (
      any_kept (λ e. nat_eq e.1 s && hides ways e.0 height s) (λ e. nat_eq e.1 s && hides new e.0 height s) (λ e. false) hidden (any_never hidden)
      (
      λ e other r.
      both_from (nat_eq e.1 s) (hides new e.0 height s) (both_first (nat_eq e.1 s) (hides ways e.0 height s) r)
      (step e.0 (both_second (nat_eq e.1 s) (hides ways e.0 height s) r))
      )
      q
      )
      )

pub has_left : (ns : List ℕ) (i n s : ℕ) → get_or ns i 0 ≡ n → nat_eq n s ≡ false → has ns s ≡ true → has (remove ns i) s ≡ true
has_left [] i n s own other h = clash h refl
has_left (m ∷ ms) zero n s own other h = by_either (nat_eq m s) (has ms s) h (λ q. clash q (ap (λ k. nat_eq k s) own ∙ other)) (λ q. q)
has_left (m ∷ ms) (suc i) n s own other h =
    by_either (nat_eq m s) (has ms s) h
    (λ q. or_left (nat_eq m s) (has (remove ms i) s) q)
    (λ q. or_right (nat_eq m s) (has (remove ms i) s) (has_left ms i n s own other q))

-- among more of them
pub any_more : {A : Type 0} (p : A → Bool) (xs ys : List A) → list_any p xs ≡ true → list_any p (xs ++ ys) ≡ true
any_more p [] ys h = clash h refl
any_more p (x ∷ xs) ys h =
    by_either (p x) (list_any p xs) h (λ q. or_left (p x) (list_any p (xs ++ ys)) q) (λ q. or_right (p x) (list_any p (xs ++ ys)) (any_more p xs ys q))

-- what passes among pairs is one of them
pair_found : (p : ℕ × ℕ → Bool) (es : List (ℕ × ℕ)) → list_any p es ≡ true → (e : ℕ × ℕ) × (p e ≡ true) × (has_rank es e.0 e.1 ≡ true)
pair_found p [] h = clash h refl
pair_found p (e ∷ es) h =
    by_either (p e) (list_any p es) h
    (λ q. (e, q, or_left (is_at (rank_cmp (e.0, e.1)) e) (has_rank es e.0 e.1) (rank_own e.0 e.1)))
    (λ q. let one = pair_found p es q in (one.0, one.1, or_right (is_at (rank_cmp ((one.0).0, (one.0).1)) e) (has_rank es (one.0).0 (one.0).1) one.2))

-- and one of them that passes is found
pair_passes : (p : ℕ × ℕ → Bool) (es : List (ℕ × ℕ)) (a s : ℕ) → has_rank es a s ≡ true → p (a, s) ≡ true → list_any p es ≡ true
pair_passes p [] a s there own = absurd (cc there)
pair_passes p (e ∷ es) a s there own =
    by_either (is_at (rank_cmp (a, s)) e) (has_rank es a s) there
    (λ q. or_left (p e) (list_any p es) (ap p (sym (rank_exact (a, s) e ((Equal-is (rank_cmp (a, s) e)).0 q))) ∙ own))
    (λ q. or_right (p e) (list_any p es) (pair_passes p es a s q own))

-- a scope that is paired with what hides it is covered
pub pair_covers : (ways : List (ℕ × Way)) (fresh : List ℕ) (hidden : List (ℕ × ℕ)) (height s a : ℕ) → has_rank hidden a s ≡ true → hides ways a height s ≡ true
    → covers ways fresh hidden height s ≡ true
pair_covers ways fresh hidden height s a there own =
    let test : ℕ × ℕ → Bool = λ e. nat_eq e.1 s && hides ways e.0 height s in
    or_right (has fresh s) (list_any test hidden) (pair_passes test hidden a s there (both_from (nat_eq s s) (hides ways a height s) (eq_same s) own))

-- a covered scope is fresh or paired with what hides it
pub covers_by : (ways : List (ℕ × Way)) (fresh more : List ℕ) (hidden fewer : List (ℕ × ℕ)) (height s : ℕ) → (has fresh s ≡ true → has more s ≡ true)
    → ((a : ℕ) → has_rank hidden a s ≡ true → has_rank fewer a s ≡ true) → covers ways fresh hidden height s ≡ true → covers ways more fewer height s ≡ true
covers_by ways fresh more hidden fewer height s joins stays h =
    let test : ℕ × ℕ → Bool = λ e. nat_eq e.1 s && hides ways e.0 height s in
    by_either (has fresh s) (list_any test hidden) h
    (λ q. or_left (has more s) (list_any test fewer) (joins q))
    (
    λ q.
    let one = pair_found test hidden q in
    let own : (one.0).1 ≡ s = eqb-true (one.0).1 s (both_first (nat_eq (one.0).1 s) (hides ways (one.0).0 height s) one.1) in
    pair_covers ways more fewer height s (one.0).0
    (stays (one.0).0 (ap (λ k. has_rank hidden (one.0).0 k) (sym own) ∙ one.2))
    (both_second (nat_eq (one.0).1 s) (hides ways (one.0).0 height s) one.1)
    )

-- one that is fresh is hidden no more
pub uncovered_one : (fresh more : List ℕ) (hidden fewer : List (ℕ × ℕ)) (a n : ℕ) → more ≡ fresh ++ n ∷ []
    → ((h t : ℕ) → has_rank fewer h t ≡ cond (is_at (rank_cmp (a, n)) (h, t)) false (has_rank hidden h t))
    → (ways : List (ℕ × Way)) (height s : ℕ) → covers ways fresh hidden height s ≡ true → covers ways more fewer height s ≡ true
uncovered_one fresh more hidden fewer a n joined left ways height s h =
    by_test (nat_eq n s)
    (
    λ own.
    or_left (has more s) (list_any (λ e. nat_eq e.1 s && hides ways e.0 height s) fewer)
    (ap (λ (ks : List ℕ). has ks s) joined ∙ ap (λ k. has (fresh ++ k ∷ []) s) (eqb-true n s own) ∙ has_end fresh s)
    )
    (
    λ other.
    covers_by ways fresh more hidden fewer height s (λ q. ap (λ (ks : List ℕ). has ks s) joined ∙ has_more fresh (n ∷ []) s q)
    (λ b q. left b s ∙ ap (λ c. cond c false (has_rank hidden b s)) (rank_apart a n b s other) ∙ q) h
    )

-- where a number is paired with none, none is hidden by it
pub none_hidden : (hidden : List (ℕ × ℕ)) (a : ℕ) → ((s : ℕ) → has_rank hidden a s ≡ false) → list_any (λ e. nat_eq e.0 a) hidden ≡ false
none_hidden hidden a none =
    by_test (list_any (λ e. nat_eq e.0 a) hidden)
    (
    λ q.
    let one = pair_found (λ e. nat_eq e.0 a) hidden q in
    clash (ap (λ k. has_rank hidden k (one.0).1) (sym (eqb-true (one.0).0 a one.1)) ∙ one.2) (none (one.0).1)
    )
    (λ q. q)

-- what stands under a number is one thing
pub one_found : {A : Type 0} (o : Option A) (x y : A) → o ≡ Some x → o ≡ Some y → x ≡ y
one_found {A = A} o x y p q = ap (λ (r : Option A). elim r as (λ _. A) [ None ↦ x | Some z ↦ z ]) (sym p ∙ q)
