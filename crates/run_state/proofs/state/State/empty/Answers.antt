use Rattle.std.proofs.Common.{ap}
use Rattle.run_state.proofs.Placed.{placed_empty}
use Rattle.run_state.proofs.Listing.{listed_empty}
use Rattle.run_state.proofs.Known.{known_empty}
use Rattle.run_state.proofs.Waiting.{none_waits}
use Rattle.run_state.proofs.Heard.{heard_empty}
use Rattle.run_state.proofs.state.State.empty.Goals as goal

pub invariant_of-result-clause-placed : goal.invariant_of-result-clause-placed
invariant_of-result-clause-placed g c = placed_empty c.new.result.table c.new-8.result c.new.ensures.empty c.new-8.ensures.empty

pub invariant_of-result-clause-readers : goal.invariant_of-result-clause-readers
invariant_of-result-clause-readers g c = known_empty c.new.result.table (c.new-2.result).reads c.new.ensures.empty (ap (λ t. t.reads) c.new-2.ensures.started)

pub invariant_of-result-clause-listed : goal.invariant_of-result-clause-listed
invariant_of-result-clause-listed g c = listed_empty c.new.result.table c.new-12.result c.new-13.result c.new.ensures.empty

pub invariant_of-result-clause-waiting : goal.invariant_of-result-clause-waiting
invariant_of-result-clause-waiting g c = none_waits c.new.result.table c.new-9.result c.new-10.result c.new.ensures.empty c.new-9.ensures.empty c.new-10.ensures.empty

pub invariant_of-result-clause-heard : goal.invariant_of-result-clause-heard
invariant_of-result-clause-heard g c = heard_empty c.new-2.result c.new-3.result (ap (λ t. t.contexts) c.new-2.ensures.started) (ap (λ t. t.reads) c.new-2.ensures.started)
