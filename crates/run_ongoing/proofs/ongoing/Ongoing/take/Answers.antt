-- Why it ends early, as a fault.
use Rattle.std.proofs.Common.{◌∷◌, ◌++◌, [], subst}
use Rattle.law_headline.specs.Sessions.{RanToIsCameTo}
use Rattle.rt_model.specs.Laws.{IsLawful}
use Rattle.run_ongoing.proofs.Ended.{ends_at}
use Rattle.run_reports.specs.Seen.{input_of}
use Rattle.run_ongoing.proofs.ongoing.Ongoing.take.Goals as goal

pub returns-in-Ok-clause-takes : goal.returns-in-Ok-clause-takes
returns-in-Ok-clause-takes g c = c.in-Ok.ensures.takes

pub returns-in-Err-clause-takes : goal.returns-in-Err-clause-takes
returns-in-Err-clause-takes g c = λ app limits props inputs before now after reports awaits carries.
    ends_at app limits props (inputs ++ input_of c.args.input ∷ []) before after reports c.in-Err.ended c.fault.result
    (subst (λ a. IsLawful _ a) awaits.owned (g.met.A.App.lawful c.args.self.now.app))
    (subst (λ a. RanToIsCameTo a) awaits.owned (c.laws_of.ensures).came_to) c.fault.ensures.of c.fault.ensures.parts
    (c.in-Err.ensures.takes app limits props inputs before now after reports awaits carries)

pub returns-in-Err-clause-refused : goal.returns-in-Err-clause-refused
returns-in-Err-clause-refused g c =
    c.fault.ensures.causes c.args.self.now.limits (g.M.WriteMutations.faults c.args.sink.now) (g.M.WriteMutations.faults c.take_in.new.sink) (c.in-Err.ensures.err).cause

pub returns-in-Err-clause-counted : goal.returns-in-Err-clause-counted
returns-in-Err-clause-counted g c = (c.in-Err.ensures.err).later

pub returns-in-Ok-clause-counted : goal.returns-in-Ok-clause-counted
returns-in-Ok-clause-counted g c = (c.in-Ok.ensures.took).later
