-- It comes, or it goes.
use Rattle.std.proofs.Common.{sym}
use Rattle.std.proofs.lemmas.Result.{on_ok_weaker}
use Rattle.run_places.specs.Places.{kind_of}
use Rattle.run_places.specs.Trails.{place_on}
use Rattle.run_work.specs.declared.turning.Turn.TheVariants as turns
use Rattle.run_work.specs.Grounds.{node_turns}
use Rattle.run_work.proofs.Following.{met, met_of}
use Rattle.run_work.proofs.turning.turn_node.Goals as goal

pub returns-in-Comes : goal.returns-in-Comes
returns-in-Comes g c =
    let place = place_on c.args.trail.now in
    on_ok_weaker c.come.result
    (λ h. met g.T.Takes.one _ c.args.out.now c.come.new.self (met_of g.T.Takes.one (λ t. node_turns t place (kind_of c.args.kind)) turns.Comes c.args.turn c.args.out.now c.come.new.self h (sym c.in-Comes.is)))
    c.come.ensures.taken

pub returns-in-Goes : goal.returns-in-Goes
returns-in-Goes g c =
    let place = place_on c.args.trail.now in
    on_ok_weaker c.go.result
    (λ h. met g.T.Takes.one _ c.args.out.now c.go.new.self (met_of g.T.Takes.one (λ t. node_turns t place (kind_of c.args.kind)) turns.Goes c.args.turn c.args.out.now c.go.new.self h (sym c.in-Goes.is)))
    c.go.ensures.taken
