-- A look is asked, or what was given.
use Rattle.std.proofs.Common.{◌∙◌, ap, sym}
use Rattle.std.proofs.lemmas.Result.{IfOk-weaker}
use Rattle.run_shown.specs.Pieces.{tops_by}
use Rattle.run_shown.specs.Seen.{seen_by}
use Rattle.run_shown.proofs.TopsSeen.{by_look}
use Rattle.run_shown.proofs.tops.numbers_of.Goals as goal

pub returns-in_ok-add_all-in-Look : goal.returns-in_ok-add_all-in-Look
returns-in_ok-add_all-in-Look g c =
    c.in_ok-add_all-in-Look.ensures
    ∙ by_look c.in-Look.look c.in-Look.depth c.args.pieces.now c.new-tops.result c.new-tops.ensures.empty
    ∙ ap (λ a. tops_by (λ t. seen_by a t) c.args.pieces.now) (sym c.in-Look.is)

pub returns-in-Given : goal.returns-in-Given
returns-in-Given g c =
    IfOk-weaker c.numbers_given.result _ _ (λ tops h. h ∙ ap (λ a. tops_by (λ t. seen_by a t) c.args.pieces.now) (sym c.in-Given.is)) c.numbers_given.ensures
