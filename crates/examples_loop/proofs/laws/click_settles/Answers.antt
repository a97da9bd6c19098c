-- The event makes one more of the number, and the call that settles leaves and shows it.
use Rattle.std.proofs.Common.{true, false, ◌∙◌}
use Rattle.std.specs.Prelude.{codes}
use Rattle.rt_app.specs.CallsOnDoms.{Settles}
use Rattle.rt_app.specs.Reduces.{reduced}
use Rattle.rt_app.specs.Updates.{Model}
use Rattle.rt_app.specs.ValuesMade.{Makes}
use Rattle.examples_template.specs.Meaning.{OwnTypes, answers, decides, keeping, nothing}
use Rattle.examples_template.specs.Sentences.{click}
use Rattle.examples_loop.proofs.laws.click_settles.Goals as goal

pub returns : goal.returns
returns k =
    λ limits w u v heard log edits more element cell row one there closed handled led settles.
    let m : Model OwnTypes = reduced answers w (click element) in
    let made : Makes w m u.state =
    k.handled_update.ensures keeping answers limits w (codes "click") nothing element true false heard edits u closed handled in (
      λ stays.
          (k.calls_reduce.ensures keeping answers limits w u.state m log more v made).0 Settles settles cell row there stays
          ∙ k.click_raises.ensures w element cell row one there,
      k.settled_show.ensures keeping answers (k.pages_are_lawful.ensures keeping answers decides) limits nothing w u.state m log more v led made settles,
    )
