-- What hides a scope, as others come, change and go.
use Rattle.std.proofs.Common.{◌≡◌, ℕ, zero, suc, ◌-◌, ◌&&◌, ◌||◌, Bool, true, false, List, [], ◌∷◌, nat_eq, refl, ap, sym, ◌∙◌}
use Rattle.std.specs.Prelude.{not, IfNone, IfSome, Option, Some, None, option_map}
use Rattle.std.specs.List.{list_any}
use Rattle.rt_lemmas.proofs.Bools.{and_none}
pub use Rattle.rt_lemmas.proofs.Bools.{and_both as both_from, and_left as both_first, and_right as both_second}
use Rattle.rt_model.specs.Lists.{at, has}
use Rattle.rt_model.specs.Tree.{Types}
use Rattle.rt_model.specs.State as model
use Rattle.rt_model.specs.State.{SideName, is_side, shown_at, shown_from}
use Rattle.rt_model.proofs.Maps.{by_test, eq_same}
use Rattle.rt_model.proofs.Members.{by_either, clash, or_left, or_right}
use Rattle.run_state.specs.Mounts.{Way, covers, hides, hides_at, hides_over, way_in, ways_in}
use Rattle.run_state.proofs.Climbed.{one-less}
use Rattle.run_state.proofs.Each.{at-each}

-- one of a list passes another test, where that follows for all but those that aren't in it
pub any_kept : {A : Type 0} (p q r : A → Bool) (xs : List A) → list_any r xs ≡ false → ((x : A) → r x ≡ false → p x ≡ true → q x ≡ true) → list_any p xs ≡ true → list_any q xs ≡ true
any_kept p q r [] none step h = clash h refl
any_kept p q r (x ∷ xs) none step h =
    let own : r x ≡ false = first_none (r x) (list_any r xs) none in
    let rest : list_any r xs ≡ false = second_none (r x) (list_any r xs) none in
    by_either (p x) (list_any p xs) h
    (λ here. or_left (q x) (list_any q xs) (step x own here))
    (λ later. or_right (q x) (list_any q xs) (any_kept p q r xs rest step later))
  where
    first_none : (a b : Bool) → (a || b) ≡ false → a ≡ false
    first_none true b is = clash refl is
    first_none false b is = refl

    second_none : (a b : Bool) → (a || b) ≡ false → b ≡ false
    second_none true b is = clash refl is
    second_none false b is = is

pub any_never : {A : Type 0} (xs : List A) → list_any (λ (x : A). false) xs ≡ false
any_never [] = refl
any_never (x ∷ xs) = any_never xs

-- one that passes a test
pub any_one : {A : Type 0} (p : A → Bool) (xs : List A) → list_any p xs ≡ true → (x : A) × (p x ≡ true)
any_one p [] h = clash h refl
any_one p (x ∷ xs) h = by_either (p x) (list_any p xs) h (λ here. (x, here)) (λ later. any_one p xs later)

-- what is said of an answer, put through an inference
pub some_through : {A : Type 0} {F G : A → Type 0} (o : Option A) → IfSome o F → ((a : A) → F a → G a) → IfSome o G
some_through None h step = tt
some_through (Some a) h step = step a h

pub none_through : {A F G : Type 0} (o : Option A) → IfNone o F → (F → G) → IfNone o G
none_through None h step = step h
none_through (Some a) h step = tt

-- what stood under a number went, or goes the same way up, and shows the same where it is the one that hides
abbrev pub Keeps : Bool → Option Way → Option Way → Type 0
Keeps own old None = Unit {0}
Keeps own None (Some y) = ⊥
Keeps own (Some x) (Some y) = (y.parent ≡ x.parent) × (y.below ≡ x.below) × (own ≡ true → y.shows ≡ x.shows)

pub keeps_same : (own : Bool) (old now : Option Way) → now ≡ old → Keeps own old now
keeps_same own None None is = tt
keeps_same own None (Some y) is = absurd (cc is)
keeps_same own (Some x) None is = tt
keeps_same own (Some x) (Some y) is =
    let same : y ≡ x = ap (λ (o : Option Way). elim o as (λ _. Way) [ None ↦ x | Some z ↦ z ]) is in
    (ap (λ (z : Way). z.parent) same, ap (λ (z : Way). z.below) same, λ here. ap (λ (z : Way). z.shows) same)

pub keeps_none : (own : Bool) (old now : Option Way) → now ≡ None → Keeps own old now
keeps_none own old None is = tt
keeps_none own old (Some y) is = absurd (cc is)

pub keeps_some : (own : Bool) (old now : Option Way) (x y : Way) → old ≡ Some x → now ≡ Some y → y.parent ≡ x.parent → y.below ≡ x.below → (own ≡ true → y.shows ≡ x.shows) → Keeps own old now
keeps_some own None now x y was is up below shows = absurd (cc was)
keeps_some own (Some u) None x y was is up below shows = tt
keeps_some own (Some u) (Some v) x y was is up below shows =
    let old_one : u ≡ x = ap (λ (o : Option Way). elim o as (λ _. Way) [ None ↦ x | Some z ↦ z ]) was in
    let new_one : v ≡ y = ap (λ (o : Option Way). elim o as (λ _. Way) [ None ↦ y | Some z ↦ z ]) is in (
      ap (λ (z : Way). z.parent) new_one ∙ up ∙ sym (ap (λ (z : Way). z.parent) old_one),
      ap (λ (z : Way). z.below) new_one ∙ below ∙ sym (ap (λ (z : Way). z.below) old_one),
      λ here. ap (λ (z : Way). z.shows) new_one ∙ shows here ∙ sym (ap (λ (z : Way). z.shows) old_one),
    )

-- a step of the way up
abbrev one_up : Option Way → ℕ → ℕ → SideName → Bool → Bool
one_up found b p below more = elim found as (λ _. Bool) [ None ↦ true | Some y ↦ (nat_eq p b && not (is_side y.shows below)) || more ]

abbrev from_one : List (ℕ × Way) → ℕ → ℕ → Option Way → Bool
from_one ways b n found = elim found as (λ _. Bool) [ None ↦ true | Some x ↦ hides_at ways b (λ p. hides ways b n p) x.below x.parent ]

module _ (ways new : List (ℕ × Way)) (b : ℕ) (In : ℕ → Type 0) (keeps : (p : ℕ) → In p → Keeps (nat_eq p b) (at ways p) (at new p))
    (up : (s p : ℕ) (x : Way) → at ways s ≡ Some x → x.parent ≡ Some p → In p) where
  step_kept : (p : ℕ) (below : SideName) (more now : Bool) (old fresh : Option Way) → Keeps (nat_eq p b) old fresh → (more ≡ true → now ≡ true)
      → one_up old b p below more ≡ true → one_up fresh b p below now ≡ true
  step_kept p below more now old None k rest h = refl
  step_kept p below more now None (Some y) k rest h = absurd k
  step_kept p below more now (Some x) (Some y) k rest h =
      by_either (nat_eq p b && not (is_side x.shows below)) more h
      (
      λ here.
      let own : nat_eq p b ≡ true = both_first (nat_eq p b) (not (is_side x.shows below)) here in
      or_left (nat_eq p b && not (is_side y.shows below)) now (ap (λ (o : Option SideName). nat_eq p b && not (is_side o below)) (k.2 own) ∙ here)
      )
      (λ later. or_right (nat_eq p b && not (is_side y.shows below)) now (rest later))

  parent_kept : (n s : ℕ) (x : Way) → at ways s ≡ Some x → ((p : ℕ) → In p → hides ways b n p ≡ true → hides new b n p ≡ true) → (o : Option ℕ) → x.parent ≡ o
      → hides_at ways b (λ p. hides ways b n p) x.below o ≡ true → hides_at new b (λ p. hides new b n p) x.below o ≡ true
  parent_kept n s x is rest None top h = clash h refl
  parent_kept n s x is rest (Some p) above h =
      step_kept p x.below (hides ways b n p) (hides new b n p) (at ways p) (at new p) (keeps p (up s p x is above)) (rest p (up s p x is above)) h

  scope_kept : (n s : ℕ) → ((p : ℕ) → In p → hides ways b n p ≡ true → hides new b n p ≡ true) → (old fresh : Option Way) → at ways s ≡ old → Keeps (nat_eq s b) old fresh
      → from_one ways b n old ≡ true → from_one new b n fresh ≡ true
  scope_kept n s rest old None is k h = refl
  scope_kept n s rest None (Some y) is k h = absurd k
  scope_kept n s rest (Some x) (Some y) is k h =
      (λ i. hides_at new b (λ p. hides new b n p) (k.1 i) (k.0 i)) ∙ parent_kept n s x is rest x.parent refl h

  -- what hid a scope hides it still
  pub hides_kept : (n s : ℕ) → In s → hides ways b n s ≡ true → hides new b n s ≡ true
  hides_kept zero s inside h = clash h refl
  hides_kept (suc n) s inside h = scope_kept n s (λ p i q. hides_kept n p i q) (at ways s) (at new s) refl (keeps s inside) h

-- a side that isn't shown, and a way that isn't
not_side : (a c t : Bool) → (a && not c) ≡ true → (c && t) ≡ false
not_side true true t h = clash h refl
not_side true false t h = refl
not_side false c t h = clash h refl

-- what is hidden doesn't show
module _ {K : Types} (scopes : List (ℕ × model.Scope K)) (b : ℕ) where
  step_unshown : (p : ℕ) (below : SideName) (more shown : Bool) (o : Option (model.Scope K)) → (more ≡ true → shown ≡ false)
      → one_up (option_map way_in o) b p below more ≡ true → elim o as (λ _. Bool) [ None ↦ false | Some y ↦ is_side y.shows below && shown ] ≡ false
  step_unshown p below more shown None rest h = refl
  step_unshown p below more shown (Some y) rest h =
      by_either (nat_eq p b && not (is_side y.shows below)) more h
      (λ here. not_side (nat_eq p b) (is_side y.shows below) shown here)
      (λ later. and_none (is_side y.shows below) shown (rest later))

  -- by the parent
  pub over_unshown : (n : ℕ) → ((p : ℕ) → hides (ways_in scopes) b n p ≡ true → shown_from scopes n p ≡ false) → (below : SideName) (o : Option ℕ)
      → hides_at (ways_in scopes) b (λ p. hides (ways_in scopes) b n p) below o ≡ true → shown_at scopes (λ p. shown_from scopes n p) below o ≡ false
  over_unshown n rest below None h = clash h refl
  over_unshown n rest below (Some p) h =
      step_unshown p below (hides (ways_in scopes) b n p) (shown_from scopes n p) (at scopes p) (rest p)
      (ap (λ (o : Option Way). one_up o b p below (hides (ways_in scopes) b n p)) (sym (at-each way_in scopes p)) ∙ h)

  scope_unshown : (n : ℕ) → ((p : ℕ) → hides (ways_in scopes) b n p ≡ true → shown_from scopes n p ≡ false) → (o : Option (model.Scope K))
      → from_one (ways_in scopes) b n (option_map way_in o) ≡ true
      → elim o as (λ _. Bool) [ None ↦ false | Some x ↦ shown_at scopes (λ p. shown_from scopes n p) x.below x.parent ] ≡ false
  scope_unshown n rest None h = refl
  scope_unshown n rest (Some x) h = over_unshown n rest x.below x.parent h

  pub hides_unshown : (n s : ℕ) → hides (ways_in scopes) b n s ≡ true → shown_from scopes n s ≡ false
  hides_unshown zero s h = clash h refl
  hides_unshown (suc n) s h =
      scope_unshown n (λ p q. hides_unshown n p q) (at scopes s) (ap (λ (o : Option Way). from_one (ways_in scopes) b n o) (sym (at-each way_in scopes s)) ∙ h)

-- where a climb ends
module _ {K : Types} (scopes : List (ℕ × model.Scope K)) (n : ℕ) (x : model.Scope K) (p : ℕ) (above : x.parent ≡ Some p) where
  hider_at : (b : ℕ) (o : Option (model.Scope K)) → at scopes p ≡ o → one_up (option_map way_in o) b p x.below (hides (ways_in scopes) b n p) ≡ hides_over (ways_in scopes) b n (way_in x)
  hider_at b o stood =
      ap (λ (q : Option Way). one_up q b p x.below (hides (ways_in scopes) b n p)) (ap (λ (q : Option (model.Scope K)). option_map way_in q) (sym stood) ∙ sym (at-each way_in scopes p))
      ∙ ap (λ (q : Option ℕ). hides_at (ways_in scopes) b (λ m. hides (ways_in scopes) b n m) x.below q) (sym above)

  -- the parent is gone
  pub hider_gone : (b : ℕ) → at scopes p ≡ None → hides_over (ways_in scopes) b n (way_in x) ≡ true
  hider_gone b gone = sym (hider_at b None gone)

  module _ (y : model.Scope K) (stood : at scopes p ≡ Some y) where
    -- the parent shows another side
    pub hider_here : is_side y.shows x.below ≡ false → hides_over (ways_in scopes) p n (way_in x) ≡ true
    hider_here other =
        sym (hider_at p (Some y) stood)
        ∙ or_left (nat_eq p p && not (is_side y.shows x.below)) (hides (ways_in scopes) p n p) (both_from (nat_eq p p) (not (is_side y.shows x.below)) (eq_same p) (ap not other))

    -- one further up hides it
    pub hider_on : (b : ℕ) → nat_eq n 0 ≡ false → hides_over (ways_in scopes) b (n - 1) (way_in y) ≡ true → hides_over (ways_in scopes) b n (way_in x) ≡ true
    hider_on b some h =
        let up : hides (ways_in scopes) b n p ≡ true =
        ap (λ m. hides (ways_in scopes) b m p) (sym (one-less n some))
        ∙ ap (λ (o : Option Way). from_one (ways_in scopes) b (n - 1) o) (at-each way_in scopes p ∙ ap (λ (q : Option (model.Scope K)). option_map way_in q) stood)
        ∙ h in
        sym (hider_at b (Some y) stood) ∙ or_right (nat_eq p b && not (is_side y.shows x.below)) (hides (ways_in scopes) b n p) up

-- a scope of some height is hidden where something above its parent hides it
module _ {K : Types} (scopes : List (ℕ × model.Scope K)) (b s : ℕ) (x : model.Scope K) (stood : at scopes s ≡ Some x) (some : nat_eq x.height 0 ≡ false)
    (h : hides_over (ways_in scopes) b (x.height - 1) (way_in x) ≡ true) where
  stands_way : at (ways_in scopes) s ≡ Some (way_in x)
  stands_way = at-each way_in scopes s ∙ ap (λ (q : Option (model.Scope K)). option_map way_in q) stood

  hidden_own : hides (ways_in scopes) b x.height s ≡ true
  hidden_own = ap (λ m. hides (ways_in scopes) b m s) (sym (one-less x.height some)) ∙ ap (λ (o : Option Way). from_one (ways_in scopes) b (x.height - 1) o) stands_way ∙ h

  pub hidden_way : (w : Way) → at (ways_in scopes) s ≡ Some w → hides (ways_in scopes) b w.height s ≡ true
  hidden_way w is =
      let same : way_in x ≡ w = ap (λ (o : Option Way). elim o as (λ _. Way) [ None ↦ w | Some z ↦ z ]) (sym stands_way ∙ is) in
      ap (λ (z : Way). hides (ways_in scopes) b z.height s) (sym same) ∙ hidden_own

  pub hidden_from : shown_from scopes x.height s ≡ false
  hidden_from = hides_unshown scopes b x.height s hidden_own

-- of a scope that is gone nothing says where it shows
pub gone_way : {K : Types} {A : Type 0} (scopes : List (ℕ × model.Scope K)) (s : ℕ) (w : Way) → at scopes s ≡ None → at (ways_in scopes) s ≡ Some w → A
gone_way scopes s w gone is = absurd (cc (sym (at-each way_in scopes s ∙ ap (λ o. option_map way_in o) gone) ∙ is))
