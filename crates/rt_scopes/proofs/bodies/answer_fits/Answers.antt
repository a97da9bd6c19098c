-- The two node tests agree.
use Rattle.std.proofs.Common.{◌∙◌}
use Rattle.rt_scopes.proofs.TreeTests.{fits_same}
use Rattle.rt_scopes.proofs.bodies.answer_fits.Goals as goal

pub returns-in-Ok : goal.returns-in-Ok
returns-in-Ok g c = rw c.in-Ok.is (c.fits.ensures.test ∙ fits_same c.in-Ok.tree)
