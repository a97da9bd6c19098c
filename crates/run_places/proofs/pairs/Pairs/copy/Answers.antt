-- What is copied agrees as before.
use Rattle.std.proofs.Common.{◌∙◌, subst, sym}
use Rattle.run_places.specs.Drawn.{Agrees}
use Rattle.run_places.proofs.pairs.Pairs.copy.Goals as goal

pub invariant_of-result : goal.invariant_of-result
invariant_of-result c =
    let pairs = c.in_ok-from_slice.ensures.items ∙ c.as_slice.ensures.value in
    let firsts = c.in_ok-from_slice-2.ensures.items ∙ c.as_slice-2.ensures.value in
    subst (λ fs. Agrees fs c.in_ok-from_slice.field-0.items) (sym firsts) (subst (λ ps. Agrees c.self.inside.firsts.items ps) (sym pairs) c.self.invariant)
