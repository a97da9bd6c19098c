-- A source that the reader has changes nothing.
use Rattle.std.proofs.Common.{◌≡◌, ◌++◌, ◌∷◌, [], List, cond, sym, ◌∙◌, ap, subst, rules, arith}
use Rattle.std.specs.Result.{OnOk}
use Rattle.std.specs.BTreeMap.{is_at}
use Rattle.std.proofs.lemmas.Grind.{common_steps}
use Rattle.rt_cells.specs.declared.sources.Source.{Source}
use Rattle.rt_cells.specs.declared.sources.Reader.{Reader}
use Rattle.rt_cells.specs.Orders.{source_cmp, reader_cmp}
use Rattle.rt_cells.specs.Reads.{has, in_order, reads_of}
use Rattle.rt_cells.proofs.Again.{added_again, each_again, ok_again}
use Rattle.rt_cells.proofs.reads.Reads.add.Goals as goal

pub is_among-requires : goal.is_among-requires
is_among-requires c = record { ascending = c.of.ensures.ascending }

pub returns-then-is_among-clause-ok : goal.returns-then-is_among-clause-ok
returns-then-is_among-clause-ok c =
    ok_again c.args.reader c.args.source c.args.self.now c.of.ensures.readers (rw (← c.of.ensures.sources) c.of.ensures.ascending)
    (ap (has c.args.source) (sym c.of.ensures.sources) ∙ sym c.is_among.ensures.among ∙ c.if-is_among.true)

pub returns-then-is_among-clause-added : goal.returns-then-is_among-clause-added
returns-then-is_among-clause-added c =
    added_again c.args.reader c.args.source c.args.self.now c.of.ensures.readers (rw (← c.of.ensures.sources) c.of.ensures.ascending)
    (ap (has c.args.source) (sym c.of.ensures.sources) ∙ sym c.is_among.ensures.among ∙ c.if-is_among.true)

pub returns-then-is_among-clause-each : goal.returns-then-is_among-clause-each
returns-then-is_among-clause-each c =
    each_again c.args.reader c.args.source c.args.self.now c.of.ensures.readers (rw (← c.of.ensures.sources) c.of.ensures.ascending)
    (ap (has c.args.source) (sym c.of.ensures.sources) ∙ sym c.is_among.ensures.among ∙ c.if-is_among.true)

pub returns-clause-each : goal.returns-clause-each
returns-clause-each c =
    let is : c.as_slice.result.now ≡ reads_of c.args.reader c.args.self.now ++ c.args.source ∷ [] = first_of (search rules, grind (arith, common_steps)) in
    subst (λ (sources : List Source). OnOk c.set.result ((other : Reader) → reads_of other c.set.new.self ≡ cond (is_at (reader_cmp c.args.reader) other) (in_order source_cmp sources) (reads_of other c.args.self.now)))
    is c.set.ensures.each
