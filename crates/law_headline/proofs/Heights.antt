-- In a tree of scopes there are more scopes than the height of any.
use Rattle.std.proofs.Common.{ℕ, zero, suc, ◌+◌, ◌≤◌, ◌<◌, List, [], ◌∷◌, ◌≡◌, refl, sym, ap, ◌∙◌, subst, nat_eq, arith, length}
use Rattle.std.specs.Prelude.{Option, Some, None}
use Rattle.rt_model.specs.Lists.{at}
use Rattle.rt_model.specs.Tree.{Types}
use Rattle.rt_model.specs.State.{Scope, State}
use Rattle.rt_model.proofs.Maps.{by_test, pick_true, pick_false, none_some}
use Rattle.law_moves.specs.Trees.{IsTree}

-- a number is below another one, as a count
abbrev low : ℕ → ℕ → ℕ
low m zero = 0
low zero (suc n) = 1
low (suc m) (suc n) = low m n

low_one : (m n : ℕ) → low m n ≤ 1
low_one m zero = omega arith
low_one zero (suc n) = omega arith
low_one (suc m) (suc n) = low_one m n

low_rises : (m n : ℕ) → low m n ≤ low m (suc n)
low_rises m zero = omega arith
low_rises zero (suc n) = omega arith
low_rises (suc m) (suc n) = low_rises m n

low_at : (n : ℕ) → low n n + 1 ≤ low n (suc n)
low_at zero = omega arith
low_at (suc n) = low_at n

module _ {K : Types} where
  -- how many of the scopes are below a height
  abbrev below : ℕ → List (ℕ × Scope K) → ℕ
  below h [] = 0
  below h (e ∷ es) = low e.1.height h + below h es

  below_all : (h : ℕ) (es : List (ℕ × Scope K)) → below h es ≤ length es
  below_all h [] = omega arith
  below_all h (e ∷ es) = omega (arith, low_one e.1.height h, below_all h es)

  below_rises : (h : ℕ) (es : List (ℕ × Scope K)) → below h es ≤ below (suc h) es
  below_rises h [] = omega arith
  below_rises h (e ∷ es) = omega (arith, low_rises e.1.height h, below_rises h es)

  is_it : (x y : Scope K) → Some x ≡ Some y → x ≡ y
  is_it x y h = cc

  -- by one at least where a scope has that height
  below_more : (es : List (ℕ × Scope K)) (s : ℕ) (x : Scope K) → at es s ≡ Some x → below x.height es + 1 ≤ below (suc x.height) es
  below_more [] s x h = none_some refl h
  below_more (e ∷ es) s x h =
      by_test (nat_eq e.0 s)
      (
      λ q.
      let same : e.1 ≡ x = is_it e.1 x (sym (pick_true (Some e.1) (at es s) q) ∙ h) in
      let height : e.1.height ≡ x.height = ap (λ (y : Scope K). y.height) same in
      let here : low e.1.height x.height + 1 ≤ low e.1.height (suc x.height) = subst (λ (n : ℕ). low n x.height + 1 ≤ low n (suc x.height)) (sym height) (low_at x.height) in
      omega (arith, here, below_rises x.height es)
      )
      (λ q. omega (arith, low_rises e.1.height x.height, below_more es s x (sym (pick_false (Some e.1) (at es s) q) ∙ h)))

  module _ (w : State K) (tree : IsTree w) where
    filled : (h s : ℕ) (x : Scope K) → at w.scopes s ≡ Some x → x.height ≡ h → h + 1 ≤ below (suc h) w.scopes
    filled zero s x live e = omega (arith, subst (λ (n : ℕ). below n w.scopes + 1 ≤ below (suc n) w.scopes) e (below_more w.scopes s x live))
    filled (suc h) s x live e = by_parent x.parent refl (λ p y l q. filled h p y l q)
      where
        by_parent : (o : Option ℕ) → x.parent ≡ o
            → ((p : ℕ) (y : Scope K) → at w.scopes p ≡ Some y → y.height ≡ h → h + 1 ≤ below (suc h) w.scopes)
            → suc h + 1 ≤ below (suc (suc h)) w.scopes
        by_parent None q go = absurd (omega (arith, tree.top s x live q))
        by_parent (Some p) q go =
            let up = tree.parent s p x live q in
            omega (
              arith,
              go p up.0 up.1 (omega (arith, up.2)),
              subst (λ (n : ℕ). below n w.scopes + 1 ≤ below (suc n) w.scopes) e (below_more w.scopes s x live),
            )

    -- so the number of scopes is greater than a scope's height
    pub height_low : (s : ℕ) (x : Scope K) → at w.scopes s ≡ Some x → x.height < length w.scopes
    height_low s x live = omega (arith, filled x.height s x live refl, below_all (suc x.height) w.scopes)
