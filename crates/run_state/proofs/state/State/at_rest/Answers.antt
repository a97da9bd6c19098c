use Rattle.std.proofs.Common.{◌∙◌, ap, sym}
use Rattle.std.specs.Prelude.{option_map}
use Rattle.run_state.specs.Mirror.{state_of}
use Rattle.run_state.specs.Names.{work_of}
use Rattle.run_state.proofs.Looked.{looks_again, rests, rests_looked}
use Rattle.run_state.proofs.state.State.at_rest.Goals as goal

pub returns-in-Some-clause-rest : goal.returns-in-Some-clause-rest
returns-in-Some-clause-rest g c = λ kept.
    rests (state_of kept c.args.self.now) (state_of kept c.drop_paused.new.self) (work_of c.in-Some.work) (c.drop_paused.ensures.dropped kept) (ap (option_map work_of) (sym c.in-Some.is) ∙ c.drop_paused.ensures.next kept)

pub returns-in-Some-clause-next : goal.returns-in-Some-clause-next
returns-in-Some-clause-next g c = λ kept. ap (option_map work_of) (sym c.in-Some.is) ∙ c.drop_paused.ensures.next kept

pub returns-in_ok-look-in-None-clause-rest : goal.returns-in_ok-look-in-None-clause-rest
returns-in_ok-look-in-None-clause-rest g c = λ kept.
    rests_looked (state_of kept c.args.self.now) (state_of kept c.drop_paused.new.self) (state_of kept c.drop_paused-in-None.new.self) (c.drop_paused.ensures.dropped kept)
    (ap (option_map work_of) (sym c.in-None.is) ∙ c.drop_paused.ensures.next kept)
    (looks_again (state_of kept c.drop_paused.new.self) (state_of kept c.look.new.self) (state_of kept c.drop_paused-in-None.new.self) (c.in_ok-look-in-None.ensures.looked kept) (c.drop_paused-in-None.ensures.dropped kept))
