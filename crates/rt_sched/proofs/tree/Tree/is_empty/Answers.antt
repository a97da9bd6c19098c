use Rattle.std.proofs.Common.{◌≡◌, ◌∷◌, ◌++◌, ap, sym, ◌∙◌, refl}
use Rattle.std.proofs.lemmas.Bool.{both_ways}
use Rattle.rt_sched.specs.Tree.{places_of}
use Rattle.rt_sched.proofs.InOrder.{not_empty}
use Rattle.rt_sched.proofs.tree.Tree.is_empty.Goals as goal

pub returns-in-Fork : goal.returns-in-Fork
returns-in-Fork c =
    let node = c.in-Fork.field-0.value in
    let is : c.args.self.now ≡ node.left ++ node.place ∷ node.right = sym c.self.view_is ∙ ap places_of c.in-Fork.is in
    record { empty = (λ h. absurd (both_ways _ refl h), λ e. absurd (not_empty node.left node.place node.right (sym is ∙ e))) }
