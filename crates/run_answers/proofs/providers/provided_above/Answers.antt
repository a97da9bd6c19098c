-- What the provider that was found provides.
use Rattle.std.proofs.Common.{◌∙◌}
use Rattle.run_state.specs.Mirror.{state_of}
use Rattle.run_answers.proofs.Asked.{above_there, above_none}
use Rattle.run_answers.proofs.providers.provided_above.Goals as goal

pub returns-in-Some : goal.returns-in-Some
returns-in-Some g c =
    record {
      provided =
          λ kept.
          c.provided_here.ensures.provided kept
          ∙ above_there (state_of kept c.args.scopes.now) c.args.scope c.args.kind c.in-Some.nearest (c.in-Some.ensures kept);
    }

pub returns-in-None : goal.returns-in-None
returns-in-None g c = record { provided = λ kept. above_none (state_of kept c.args.scopes.now) c.args.scope c.args.kind (c.in-None.ensures kept) }
