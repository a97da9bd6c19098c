-- A listener means its program.
use Rattle.std.proofs.Common.{false, map, sym, ap, ◌∙◌}
use Rattle.author_calls.specs.Answers.{event_of}
use Rattle.author_calls.specs.Calls.{call_of}
use Rattle.rt_language.specs.Expressions.{AListener}
use Rattle.rt_language.specs.Meaning.{action_run}
use Rattle.lang_syntax.specs.Mirror.{statements_of}
use Rattle.lang_script.specs.Applications.{programs_of_script}
use Rattle.author_programs.specs.Came.{reached}
use Rattle.author_bodies.proofs.Meant.{turn-means}
use Rattle.lang_script.proofs.Meant.{hears}
use Rattle.lang_script.proofs.script.ScriptApp.handle.Goals as goal

pub returns-clause-means : goal.returns-clause-means
returns-clause-means c =
    let event = event_of c.args.event.now in
    turn-means (λ _. event_of c.leave.new.event) false c.args.cx c.listen.new.cx ((programs_of_script c.args.self.now).handle c.args.handler.now event) tt c.finish.result c.requires.fresh
    (λ had. hears c.args.cx c.listen.new.cx (action_run (AListener event.payload) (map statements_of c.args.self.now.actions) c.args.handler.now) event c.in_ok-asked.asked c.in_ok-asked.ensures.came had
    ∙ ap (λ e. reached e (call_of c.listen.new.cx)) (sym c.leave.ensures.left))
    c.finish.ensures
