-- What is had of parts that may lack memory, where it is known what they are.
use Rattle.std.proofs.Common.{◌≡◌, ◌∙◌, ap}
use Rattle.std.specs.Prelude.{Result, Ok, Err, IfOk}
use Rattle.rt_author.specs.Had.{Had, HadBoth}

module _ {A E : Type 0} where
  -- what was had is what it is known to be
  known : (r : Result A E) (x a : A) → r ≡ Ok x → IfOk r (λ y. y ≡ a) → x ≡ a
  known (Ok y) x a had is = let same : y ≡ a = is in cc (had, same)
  known (Err e) x a had is = cc

module _ {A T E : Type 0} where
  -- and so is what was made of it
  pub had_is : (r : Result A E) (a : A) (f : A → T) (t : T) → IfOk r (λ x. x ≡ a) → Had r (λ x. t ≡ f x) → t ≡ f a
  had_is r a f t is had = had.1.1 ∙ ap f (known r had.0 a had.1.0 is)

module _ {A B T E : Type 0} where
  -- of two parts
  pub had_both : (r : Result A E) (s : Result B E) (a : A) (b : B) (f : A → B → T) (t : T)
      → IfOk r (λ x. x ≡ a)
      → IfOk s (λ y. y ≡ b)
      → HadBoth r s (λ x y. t ≡ f x y)
      → t ≡ f a b
  had_both r s a b f t one other had =
      had.1.1.1.1
      ∙ ap (λ (x : A). f x had.1.0) (known r had.0 a had.1.1.0 one)
      ∙ ap (λ (y : B). f a y) (known s had.1.0 b had.1.1.1.0 other)

  -- the same, where what was made may lack memory, too
  pub both_are : (r : Result A E) (s : Result B E) (m : Result T E) (a : A) (b : B) (f : A → B → T)
      → IfOk r (λ x. x ≡ a)
      → IfOk s (λ y. y ≡ b)
      → IfOk m (λ t. HadBoth r s (λ x y. t ≡ f x y))
      → IfOk m (λ t. t ≡ f a b)
  both_are r s (Ok t) a b f one other had = had_both r s a b f t one other had
  both_are r s (Err e) a b f one other had = tt
