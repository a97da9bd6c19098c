-- A child scope shows what was given for it.
use Rattle.std.proofs.Common.{ℕ, ◌∙◌, ◌++◌, ◌∷◌, [], ap, sym}
use Rattle.std.proofs.lemmas.Result.{on_ok_weaker}
use Rattle.run_shown.specs.Given.{given_to}
use Rattle.run_shown.specs.Pieces.{tops_by}
use Rattle.run_shown.proofs.OneByOne.{nil-right}
use Rattle.run_shown.proofs.given.add_piece.Goals as goal

pub returns-in-Child : goal.returns-in-Child
returns-in-Child c =
    let inner = λ (t : ℕ). given_to c.args.given.now t in
    on_ok_weaker c.add_given.result
    (λ h. h ∙ ap (λ ns. c.args.tops.now ++ ns) (sym (ap (λ p. tops_by inner (p ∷ [])) c.in-Child.is ∙ nil-right _)))
    c.add_given.ensures
