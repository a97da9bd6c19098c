-- All of the reader's sources go.
use Rattle.std.proofs.Common.{◌∙◌, sym, ap, ◌&&◌, not, []}
use Rattle.std.specs.Option.{unwrap_or}
use Rattle.std.specs.BTreeMap.{is_at}
use Rattle.rt_cells.specs.Orders.{reader_cmp}
use Rattle.rt_cells.specs.Reads.{sources_at}
use Rattle.rt_cells.specs.Links.{is_let_go}
use Rattle.rt_cells.proofs.Linked.{taken_each, dropped_linked, none_sorted, in_table}
use Rattle.rt_cells.proofs.reads.Reads.drop_reader.Goals as goal

pub leave-requires : goal.leave-requires
leave-requires c = record { ascending = none_sorted }

pub invariant_of-self : goal.invariant_of-self
invariant_of-self c =
    dropped_linked c.self.invariant c.args.reader c.remove.new.self.entries c.leave.new.links.keys c.remove.ensures.updates.0 c.remove.ensures.ordered
    (λ link. c.leave.ensures.left link
    ∙ ap (λ former. in_table c.self.inside.links.keys link && not (is_let_go c.args.reader [] former link))
    (c.as_slice.ensures.items ∙ ap (λ found. unwrap_or found []) (sym c.in-Some.is ∙ c.remove.ensures.value)))

pub returns-in-Some-clause-each : goal.returns-in-Some-clause-each
returns-in-Some-clause-each c =
    rw (← c.self.view_is)
    (λ other. ap (λ found. unwrap_or found []) (c.remove.ensures.updates.0 other) ∙ taken_each (is_at (reader_cmp c.args.reader) other) (sources_at other c.self.inside.sources.entries))

pub returns-in_default-clause-each : goal.returns-in_default-clause-each
returns-in_default-clause-each c =
    rw (← c.self.view_is)
    (λ other. ap (λ found. unwrap_or found []) (c.remove.ensures.updates.0 other) ∙ taken_each (is_at (reader_cmp c.args.reader) other) (sources_at other c.self.inside.sources.entries))
