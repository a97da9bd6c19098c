-- It comes, or it goes.
use Rattle.std.proofs.Common.{sym}
use Rattle.std.proofs.lemmas.Result.{on_ok_weaker}
use Rattle.tree_mirror.specs.Sealed.{component_of}
use Rattle.run_places.specs.Trails.{place_on}
use Rattle.run_work.specs.declared.turning.Turn.TheVariants as turns
use Rattle.run_work.specs.Grounds.{component_turns}
use Rattle.run_work.proofs.Following.{met, met_of}
use Rattle.run_work.proofs.turning.turn_component.Goals as goal

pub returns-in-Comes : goal.returns-in-Comes
returns-in-Comes g c =
    let place = place_on c.args.trail.now in
    on_ok_weaker c.make.result
    (λ h. met g.T.Takes.one _ c.args.out.now c.make.new.self (met_of g.T.Takes.one (λ t. component_turns t place (component_of c.args.component.now)) turns.Comes c.args.turn c.args.out.now c.make.new.self h (sym c.in-Comes.is)))
    c.make.ensures.taken

pub returns-in-Goes : goal.returns-in-Goes
returns-in-Goes g c =
    let place = place_on c.args.trail.now in
    on_ok_weaker c.leave.result
    (λ h. met g.T.Takes.one _ c.args.out.now c.leave.new.self (met_of g.T.Takes.one (λ t. component_turns t place (component_of c.args.component.now)) turns.Goes c.args.turn c.args.out.now c.leave.new.self h (sym c.in-Goes.is)))
    c.leave.ensures.taken
