use Rattle.std.proofs.Common.{ap, sym, ◌∙◌}
use Rattle.std.specs.Prelude.{Some}
use Rattle.run_state.specs.Mirror.{state_of}
use Rattle.run_work.specs.Items.{item_of}
use Rattle.rt_scopes.specs.Knowing.{leaf_of}
use Rattle.rt_scopes.proofs.KnownLeft.{goes_nowhere}
use Rattle.run_machine.proofs.serving.leaf_for.Goals as goal

pub returns-in_ok-leaf-in-Drop-clause-leaf : goal.returns-in_ok-leaf-in-Drop-clause-leaf
returns-in_ok-leaf-in-Drop-clause-leaf g c =
    λ kept.
    ap (λ n. Some n) (c.in_ok-leaf-in-Drop.ensures.leaf kept) ∙ sym (ap (λ i. leaf_of (state_of kept c.args.state.now) (item_of i)) c.in-Drop.is)

pub returns-in-Draw-clause-leaf : goal.returns-in-Draw-clause-leaf
returns-in-Draw-clause-leaf g c = λ kept. c.nothing_known.ensures.none ∙ sym (ap (λ i. leaf_of (state_of kept c.args.state.now) (item_of i)) c.in-Draw.is)

pub returns-in-Draw-clause-goes : goal.returns-in-Draw-clause-goes
returns-in-Draw-clause-goes g c = λ kept. goes_nowhere (state_of kept c.args.state.now) c.nothing_known.new.known.rows.items c.nothing_known.result c.nothing_known.ensures.none c.nothing_known.ensures.empty

pub returns-in-Row-clause-leaf : goal.returns-in-Row-clause-leaf
returns-in-Row-clause-leaf g c = λ kept. c.nothing_known-in-Row.ensures.none ∙ sym (ap (λ i. leaf_of (state_of kept c.args.state.now) (item_of i)) c.in-Row.is)

pub returns-in-Row-clause-goes : goal.returns-in-Row-clause-goes
returns-in-Row-clause-goes g c = λ kept. goes_nowhere (state_of kept c.args.state.now) c.nothing_known-in-Row.new.known.rows.items c.nothing_known-in-Row.result c.nothing_known-in-Row.ensures.none c.nothing_known-in-Row.ensures.empty

pub returns-in-Feed-clause-leaf : goal.returns-in-Feed-clause-leaf
returns-in-Feed-clause-leaf g c = λ kept. c.nothing_known-in-Feed.ensures.none ∙ sym (ap (λ i. leaf_of (state_of kept c.args.state.now) (item_of i)) c.in-Feed.is)

pub returns-in-Feed-clause-goes : goal.returns-in-Feed-clause-goes
returns-in-Feed-clause-goes g c = λ kept. goes_nowhere (state_of kept c.args.state.now) c.nothing_known-in-Feed.new.known.rows.items c.nothing_known-in-Feed.result c.nothing_known-in-Feed.ensures.none c.nothing_known-in-Feed.ensures.empty

pub returns-in-Make-clause-leaf : goal.returns-in-Make-clause-leaf
returns-in-Make-clause-leaf g c = λ kept. c.nothing_known-in-Make.ensures.none ∙ sym (ap (λ i. leaf_of (state_of kept c.args.state.now) (item_of i)) c.in-Make.is)

pub returns-in-Make-clause-goes : goal.returns-in-Make-clause-goes
returns-in-Make-clause-goes g c = λ kept. goes_nowhere (state_of kept c.args.state.now) c.nothing_known-in-Make.new.known.rows.items c.nothing_known-in-Make.result c.nothing_known-in-Make.ensures.none c.nothing_known-in-Make.ensures.empty

pub returns-in_ok-leaf-in-Drop-clause-goes : goal.returns-in_ok-leaf-in-Drop-clause-goes
returns-in_ok-leaf-in-Drop-clause-goes g c = λ kept. c.in_ok-leaf-in-Drop.ensures.goes kept
