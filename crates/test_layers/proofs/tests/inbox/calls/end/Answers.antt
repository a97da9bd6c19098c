use Rattle.std.proofs.Common.{◌≡◌, ◌≢◌, ℕ, ◌+◌, ◌<◌, Bool, true, false, nat_eq, [], ◌∷◌, ◌++◌, map, refl, sym, ap, ◌∙◌, subst, arith}
use Rattle.std.proofs.lemmas.Bool.Decides.{nat_tests}
use Rattle.std.specs.List.{Contains}
use Rattle.rt_inbox.specs.declared.notifier.Notifier.{Notifier}
use Rattle.rt_inbox.specs.Ends.{number_of}
use Rattle.test_layers.proofs.tests.inbox.calls.end.Goals as goal

-- two notifiers with the numbers 0 and 1 are those of two posters
both : (a b : Notifier) (p : ℕ) → number_of a + number_of b ≡ 1 → p < 2 → Contains (map number_of (a ∷ b ∷ [])) p
both a b p sum lt = by_number (nat_eq (number_of a) p) refl
  where
    by_number : (t : Bool) → nat_eq (number_of a) p ≡ t → Contains (map number_of (a ∷ b ∷ [])) p
    by_number true is = let same : number_of a ≡ p = grind (arith, nat_tests) in (0, omega arith, same)
    by_number false is = let apart : number_of a ≢ p = λ k. grind (arith, nat_tests) in let same : number_of b ≡ p = omega arith in (1, omega arith, same)

pub finish-ended-requires-clause-all : goal.finish-ended-requires-clause-all
finish-ended-requires-clause-all g c =
    let one = c.args.one in
    let other = c.args.other in
    let first = rw c.expect.ensures at c.push.ensures.ok in
    let second = rw c.expect-2.ensures at c.push-2.ensures.ok in
    let is : c.push-2.new.self ≡ one ∷ other ∷ [] =
    second ∙ ap (λ ns. ns ++ other ∷ []) first ∙ ap (λ ns. (ns ++ one ∷ []) ++ other ∷ []) c.new-notifiers.ensures.empty in
    let sum : number_of one + number_of other ≡ 1 = c.requires.apart in
    λ p lt. subst (λ ns. Contains (map number_of ns) p) (sym is) (both one other p sum (omega (arith, c.requires.posters)))
