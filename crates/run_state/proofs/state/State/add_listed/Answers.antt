use Rattle.std.proofs.Common.{◌∙◌, map}
use Rattle.rt_model.specs.Removal.{kinds_in}
use Rattle.run_records.specs.Records.{source_of}
use Rattle.run_state.proofs.Changed.{on_ok}
use Rattle.run_state.proofs.KindsRead.{listed_kinds, listed_more}
use Rattle.run_state.proofs.state.State.add_listed.Goals as goal

pub returns-clause-rising : goal.returns-clause-rising
returns-clause-rising g c =
    on_ok c.add_kinds.result c.add_kinds.ensures (λ is kept up none.
    is
    ∙ (λ i. kinds_in c.args.scope (map source_of (c.as_slice.ensures.items i)) (none i))
    ∙ listed_kinds c.args.scope (c.args.self.now.rows).table (c.args.self.now.cells).contexts c.args.self.now.read_order (c.args.self.now.cells).reads c.in_ok-sources.sources
    c.args.self.now.readers c.args.self.now.heard c.in_ok-sources.ensures.read c.in_ok-sources.ensures.only up)

pub returns-clause-each : goal.returns-clause-each
returns-clause-each g c =
    on_ok c.add_kinds.result c.add_kinds.ensures (λ is kept those.
    is
    ∙ (λ i. kinds_in c.args.scope (map source_of (c.as_slice.ensures.items i)) (those i))
    ∙ listed_more c.args.scope (c.args.self.now.rows).table (c.args.self.now.cells).contexts c.args.self.now.read_order (c.args.self.now.cells).reads c.in_ok-sources.sources
    c.args.self.now.readers c.args.self.now.heard c.in_ok-sources.ensures.read c.in_ok-sources.ensures.only)
