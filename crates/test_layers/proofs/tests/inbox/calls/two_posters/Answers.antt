use Rattle.std.proofs.Common.{◌≡◌, ℕ, ◌<◌, List, [], ◌∷◌, ◌++◌, length, get_or, sym, ap, ◌∙◌, subst, append_assoc, length-append, arith}
use Rattle.std.proofs.Math.Seq.{get_or-append_seam}
use Rattle.std.specs.List.{All}
use Rattle.rt_inbox.specs.declared.inbox.Inbox.{Inbox}
use Rattle.rt_inbox.specs.declared.notifier.Notifier.{Notifier}
use Rattle.rt_inbox.specs.Ends.{AreNumbered, IsNotifierOf, number_of}
use Rattle.test_layers.proofs.tests.inbox.calls.two_posters.Goals as goal

-- a notifier among those of a new inbox is its own, and has its place as its number
one_of : (i : Inbox) (ns before after : List Notifier) (n : Notifier) (k : ℕ) → ns ≡ before ++ n ∷ after → length before ≡ k → All (IsNotifierOf i) ns → AreNumbered ns → IsNotifierOf i n × (number_of n ≡ k)
one_of i ns before after n k is long own numbered =
    let within : length before < length ns = omega (arith, ap length is, length-append before (n ∷ after)) in
    let here : get_or ns (length before) n ≡ n = ap (λ ms. get_or ms (length before) n) is ∙ get_or-append_seam before n after n in
    (subst (IsNotifierOf i) here (own (length before) n within), ap number_of (sym here) ∙ numbered (length before) n within ∙ long)

pub returns-clause-first : goal.returns-clause-first
returns-clause-first g c =
    let i = c.expect-inbox.result.0 in
    let ns = c.expect-inbox.result.2 in
    let first = c.expect-first.result in
    let second = c.expect-second.result in
    let own : All (IsNotifierOf i) ns = rw c.expect-inbox.ensures at c.new.ensures.notifiers in
    let numbered : AreNumbered ns = rw c.expect-inbox.ensures at c.new.ensures.numbers in
    let two : length ns ≡ 2 = (rw c.expect-inbox.ensures at c.new.ensures.posters).1 in
    let last = rw c.expect-second.ensures at c.pop.ensures.items in
    let next = rw c.expect-first.ensures at c.pop-2.ensures.items in
    let rest = c.pop-2.new.self.items in
    let is : ns ≡ rest ++ first ∷ second ∷ [] =
    sym c.into_vec-notifiers.ensures.items ∙ last ∙ ap (λ ms. ms ++ second ∷ []) next ∙ append_assoc rest (first ∷ []) (second ∷ []) in
    let none : length rest ≡ 0 = omega (arith, ap length is, length-append rest (first ∷ second ∷ [])) in
    one_of i ns rest (second ∷ []) first 0 is none own numbered

pub returns-clause-second : goal.returns-clause-second
returns-clause-second g c =
    let i = c.expect-inbox.result.0 in
    let ns = c.expect-inbox.result.2 in
    let second = c.expect-second.result in
    let own : All (IsNotifierOf i) ns = rw c.expect-inbox.ensures at c.new.ensures.notifiers in
    let numbered : AreNumbered ns = rw c.expect-inbox.ensures at c.new.ensures.numbers in
    let two : length ns ≡ 2 = (rw c.expect-inbox.ensures at c.new.ensures.posters).1 in
    let last = rw c.expect-second.ensures at c.pop.ensures.items in
    let rest = c.pop.new.self.items in
    let is : ns ≡ rest ++ second ∷ [] = sym c.into_vec-notifiers.ensures.items ∙ last in
    let one : length rest ≡ 1 = omega (arith, ap length is, length-append rest (second ∷ [])) in
    one_of i ns rest [] second 1 is one own numbered
