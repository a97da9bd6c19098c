-- Props are equal where their parts are.
use Rattle.std.proofs.Common.{◌≡◌, ◌∙◌, sym, ap}
use Rattle.author_given.specs.declared.props.Given.{Given}
use Rattle.author_given.specs.declared.props.Given.TheViews.{out-Given, roll-Given, roll-out-Given}

module _ {C Q : Type 0} where
  pub alike : (p q : Given C Q) → (out-Given C Q p).own ≡ (out-Given C Q q).own → (out-Given C Q p).inside ≡ (out-Given C Q q).inside → p ≡ q
  alike p q own inside =
      sym (roll-out-Given C Q p) ∙
      ap (λ x. roll-Given C Q (record (out-Given C Q p) { own = x })) own ∙
      ap (λ x. roll-Given C Q (record (out-Given C Q q) { inside = x })) inside ∙
      roll-out-Given C Q q
