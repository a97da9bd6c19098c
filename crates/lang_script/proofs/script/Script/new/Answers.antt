-- A script made of a source means it.
use Rattle.lang_script.proofs.SameSource.{means-source}
use Rattle.lang_script.proofs.script.Script.new.Goals as goal

pub returns : goal.returns
returns c = record { means = means-source c.args.source c.in_ok-components.components c.in_ok-components.ensures.plans }
