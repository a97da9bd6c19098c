use Rattle.std.proofs.Common.{Some, None, ap, sym, ◌∙◌}
use Rattle.run_state.proofs.Agreed.{up_found}
use Rattle.run_state.proofs.state.State.found.Goals as goal

pub returns-in-Some : goal.returns-in-Some
returns-in-Some g c = λ kept. ap (λ x. Some x) c.numbered.ensures ∙ up_found kept c.args.self.now (Some c.in-Some.work) (sym c.in-Some.is ∙ c.next_work.ensures.least)

pub returns-in-None : goal.returns-in-None
returns-in-None g c = λ kept. up_found kept c.args.self.now None (sym c.in-None.is ∙ c.next_work.ensures.least)
