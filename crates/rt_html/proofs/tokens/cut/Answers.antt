-- The two sides of the first such character, or all.
use Rattle.std.proofs.Common.{Some, None}
use Rattle.rt_html.proofs.Cuts.{split_before, split_past}
use Rattle.rt_html.proofs.tokens.cut.Goals as goal

pub returns-in-Some : goal.returns-in-Some
returns-in-Some c = record {
  before = split_before c.args.end c.args.text.now (Some (c.in-Some.before, c.in-Some.after)) c.in-Some.ensures.cases c.requires;
  after = split_past c.args.end c.args.text.now (Some (c.in-Some.before, c.in-Some.after)) c.in-Some.ensures.cases c.requires;
}

pub returns-in-None : goal.returns-in-None
returns-in-None c = record {
  before = split_before c.args.end c.args.text.now None c.in-None.ensures.cases c.requires;
  after = split_past c.args.end c.args.text.now None c.in-None.ensures.cases c.requires;
}
