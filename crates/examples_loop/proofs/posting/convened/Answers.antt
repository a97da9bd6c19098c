-- Both lists are short, so the posters are ready.
use Rattle.std.proofs.Common.{◌≡◌, ◌≤◌, ◌<◌, ℕ, zero, suc, List, [], ◌∷◌, length, get_or, ap, sym, ◌∙◌, subst, arith}
use Rattle.std.specs.List.{All}
use Rattle.rt_app.specs.Posters.{AllReady}
use Rattle.examples_loop.proofs.posting.convened.Goals as goal

-- all of them are short
abbrev Short : {A : Type 0} → List (List A) → Type 0
Short {A} lists = All (λ (list : List A). length list ≤ 1000000) lists

-- two is few
few : (n : ℕ) → n ≡ 2 → n ≤ 1000000
few n two = omega (arith, two)

-- so a list of two is short
short : {A : Type 0} (list : List A) (x y : A) → list ≡ x ∷ y ∷ [] → length list ≤ 1000000
short {A} list x y is = few (length list) (ap (λ (l : List A). length l) is)

-- both of two lists are
both_short : {A : Type 0} (a b : List A) → length a ≤ 1000000 → length b ≤ 1000000
    → (k : ℕ) (d : List A) → k < length (a ∷ b ∷ []) → length (get_or (a ∷ b ∷ []) k d) ≤ 1000000
both_short a b one other zero d lt = one
both_short a b one other (suc zero) d lt = other
both_short a b one other (suc (suc k)) d lt = absurd (omega (arith, lt))

both : {A : Type 0} (first second : List A) (lists : List (List A)) (a b x y : A)
    → first ≡ a ∷ b ∷ [] → second ≡ x ∷ y ∷ [] → lists ≡ first ∷ second ∷ [] → Short lists
both {A} first second lists a b x y one other all =
    subst (λ (ls : List (List A)). Short ls) (sym all) (both_short first second (short first a b one) (short second x y other))

pub returns-clause-ready : goal.returns-clause-ready
returns-clause-ready c =
    let inbox = c.in_ok-inbox.inbox in
    subst (λ ps. AllReady inbox ps) (sym c.into_vec.ensures.items)
    (c.in_ok-posters.ensures.ready inbox c.in_ok-inbox.ensures.notifiers c.in_ok-inbox.ensures.nothing_posted
    (both _ _ _ _ _ _ _ c.in_ok-first.ensures.items c.in_ok-second.ensures.items (c.as_slice.ensures.items ∙ c.in_ok-posts.ensures.items)))
