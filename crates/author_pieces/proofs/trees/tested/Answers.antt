-- A tree that doesn't pass is the one that was meant.
use Rattle.std.proofs.Common.{sym, ◌∙◌}
use Rattle.author_pieces.proofs.Refusals.{refuses}
use Rattle.author_pieces.proofs.trees.tested.Goals as goal

pub returns-else-fits : goal.returns-else-fits
returns-else-fits g c =
    record { tested = refuses c.refusal.result c.in-Ok.tree _ c.in-Ok.ensures.tree (sym c.fits.ensures.test ∙ c.if-fits.false) c.refusal.ensures.told }
