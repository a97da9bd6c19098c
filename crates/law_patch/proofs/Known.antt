-- What is in one of two lists is in both together.
use Rattle.std.proofs.Common.{List, [], ◌++◌, ◌⊎◌, inl, inr, ◌≡◌, sym, subst}
use Rattle.std.specs.Prelude.{Contains}
use Rattle.rt_model.specs.Tree.{Types, Spot}
use Rattle.rt_model.proofs.Among.{among_left, among_right, among_contained}
use Rattle.law_headline.proofs.Settled.{contained}
use Rattle.run_work.proofs.Branches.{among_either}
use Rattle.law_patch.specs.Behind.{AllKnown}

module _ {A : Type 0} (xs ys : List A) (x : A) where
  pub contains_left : Contains xs x → Contains (xs ++ ys) x
  contains_left h = contained (xs ++ ys) x (among_left xs ys x (among_contained xs x h))

  pub contains_right : Contains ys x → Contains (xs ++ ys) x
  contains_right h = contained (xs ++ ys) x (among_right xs ys x (among_contained ys x h))

  pub contains_either : Contains (xs ++ ys) x → Contains xs x ⊎ Contains ys x
  contains_either h =
      elim (among_either xs ys x (among_contained (xs ++ ys) x h)) [ inl g ↦ inl (contained xs x g) | inr g ↦ inr (contained ys x g) ]

module _ {K : Types} (known : List (Spot K)) where
  -- of no spot each is known
  pub none_asked : AllKnown known []
  none_asked s h = absurd (among_contained [] s h)

  -- what was just brought is known
  pub just_brought : (more ss : List (Spot K)) → more ≡ ss → AllKnown (known ++ more) ss
  just_brought more ss e s h = contains_right known more s (subst (λ (zs : List (Spot K)). Contains zs s) (sym e) h)
