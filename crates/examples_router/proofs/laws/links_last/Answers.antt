-- A component lasts.
use Rattle.rt_author.specs.Tree.{Own}
use Rattle.examples_router.specs.Sentences.{app}
use Rattle.examples_router.specs.declared.router.Component.TheVariants.{Link}
use Rattle.examples_router.proofs.laws.links_last.Goals as goal

pub returns : goal.returns
returns k = λ limits m v moves s to leads stays unfed link. k.components_last.ensures app limits m v moves s (Own Link to) leads stays unfed link
