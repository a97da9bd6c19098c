-- What stands behind these characters, or nothing.
use Rattle.rt_html.proofs.Cuts.{strip_behind}
use Rattle.rt_html.proofs.tokens.behind.Goals as goal

pub returns : goal.returns
returns c = strip_behind c.args.first.now c.args.text.now c.strip_prefix.result c.strip_prefix.ensures.cases
