-- The scope that has the number leads to it, with those above it.
use Rattle.std.proofs.lemmas.Result.{IfOk-weaker}
use Rattle.run_shown.proofs.Leadings.{leads_none, leads_up}
use Rattle.run_shown.proofs.sought.way_to_number.Goals as goal

pub returns-in-Some : goal.returns-in-Some
returns-in-Some g c =
    IfOk-weaker c.up_from.result _ _
    (λ found is. leads_up c.args.look.now c.args.number c.args.holder c.in-Some.scope found c.requires.holds c.requires.seated c.if-number-eq0.false c.in-Some.is is)
    c.up_from.ensures

pub returns-in-None : goal.returns-in-None
returns-in-None g c = leads_none c.args.look.now c.args.number c.args.holder c.new.result c.requires.holds c.requires.seated c.if-number-eq0.false c.in-None.is c.new.ensures.empty
