-- A body means its program.
use Rattle.std.proofs.Common.{true, ap, ◌∙◌}
use Rattle.author_calls.specs.Calls.{call_of}
use Rattle.tree_mirror.specs.Mirror.{element_of}
use Rattle.lang_script.specs.Applications.{programs_of_script}
use Rattle.author_programs.specs.Came.{reached}
use Rattle.author_bodies.proofs.Meant.{turn-means}
use Rattle.lang_script.proofs.Meant.{elements-are}
use Rattle.lang_script.proofs.script.ScriptApp.render.Goals as goal

pub returns-clause-means : goal.returns-clause-means
returns-clause-means c =
    turn-means element_of true c.args.cx c.answer.new.cx ((programs_of_script c.args.self.now).body c.args.component.now c.args.props.now) c.in_ok-answer.answer c.finish.result c.requires.fresh
    (λ had. c.in_ok-answer.ensures.came had ∙ ap (λ e. reached e (call_of c.answer.new.cx)) (elements-are c.in_ok-answer.answer))
    c.finish.ensures
