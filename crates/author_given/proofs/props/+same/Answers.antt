-- Props are equal where their fields are.
use Rattle.std.proofs.Common.{rules, sym, ap, ◌∙◌}
use Rattle.author_given.proofs.Alike.{alike}
use Rattle.author_given.specs.declared.props.Given.TheViews.{out-Given}
use Rattle.author_given.proofs.props.+same.Goals as goal

pub Given::alike-returns-then-same : goal.Given::alike-returns-then-same
Given::alike-returns-then-same g t c = (
  λ told. alike c.args.self.now c.args.other.now (search rules) (sym c.as_slice.ensures.items ∙ c.all_alike.ensures.0 told ∙ c.as_slice-then-same.ensures.items),
  λ same. c.all_alike.ensures.1 (c.as_slice.ensures.items ∙ ap (λ p. (out-Given _ _ p).inside) same ∙ sym c.as_slice-then-same.ensures.items),
)
