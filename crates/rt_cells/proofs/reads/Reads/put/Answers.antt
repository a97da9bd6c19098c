-- The links are tied to the sources again on each way out.
use Rattle.std.proofs.Common.{◌∙◌, sym, ap, ◌&&◌, not, [], inr}
use Rattle.std.specs.Option.{unwrap_or}
use Rattle.std.specs.BTreeMap.{is_at}
use Rattle.rt_lemmas.proofs.Bools.{true_and as and-true}
use Rattle.rt_cells.specs.Orders.{reader_cmp}
use Rattle.rt_cells.specs.Reads.{sources_at}
use Rattle.rt_cells.specs.Links.{is_let_go}
use Rattle.rt_cells.proofs.Linked.{put_each, put_linked, undone_linked, kept_sorted, none_sorted, in_table}
use Rattle.rt_cells.proofs.reads.Reads.put.Goals as goal

pub leave-requires : goal.leave-requires
leave-requires c = record { ascending = rw c.kept_of.ensures.kept (kept_sorted c.self.invariant c.args.reader) }

pub leave-requires-in-Err-insert : goal.leave-requires-in-Err-insert
leave-requires-in-Err-insert c = record { ascending = none_sorted }

pub invariant_of-self : goal.invariant_of-self
invariant_of-self c =
    undone_linked c.self.invariant c.args.reader c.args.sources c.enter.new.links.keys c.leave.new.links.keys
    (λ link. rw c.as_slice.ensures.items at (c.in-Err.ensures.err link))
    (λ link. c.leave.ensures.left link
    ∙ (λ i. in_table c.enter.new.links.keys link && not (is_let_go c.args.reader (c.kept_of.ensures.kept i) (c.as_slice-in-Err.ensures.items i) link)))

pub invariant_of-self-in-Some : goal.invariant_of-self-in-Some
invariant_of-self-in-Some c =
    put_linked c.self.invariant c.args.reader c.args.sources c.insert.new.self.entries c.enter.new.links.keys c.leave-in-Some.new.links.keys c.requires.ascending
    c.in-Ok.ensures.updates.0 c.insert.ensures.ordered
    (λ link. rw c.as_slice.ensures.items at (c.in_default.ensures.ok link))
    (λ link. c.leave-in-Some.ensures.left link
    ∙ (λ i. in_table c.enter.new.links.keys link && not (is_let_go c.args.reader
    ((c.kept_of-in-Some.ensures.kept ∙ ap (λ found. unwrap_or found []) c.in-Ok.ensures.updates.1) i)
    ((c.as_slice-in-Some.ensures.items ∙ ap (λ found. unwrap_or found []) (sym c.in-Some.is ∙ c.in-Ok.ensures.old)) i) link)))

pub invariant_of-self-in-Ok : goal.invariant_of-self-in-Ok
invariant_of-self-in-Ok c =
    put_linked c.self.invariant c.args.reader c.args.sources c.insert.new.self.entries c.enter.new.links.keys c.enter.new.links.keys c.requires.ascending
    c.in-Ok.ensures.updates.0 c.insert.ensures.ordered
    (λ link. rw c.as_slice.ensures.items at (c.in_default.ensures.ok link))
    (λ link. and-true (in_table c.enter.new.links.keys link)
    ∙ ap (λ former. in_table c.enter.new.links.keys link && not (is_let_go c.args.reader c.args.sources former link))
    (ap (λ found. unwrap_or found []) (sym c.in-None.is ∙ c.in-Ok.ensures.old)))

pub invariant_of-self-in-Err-insert : goal.invariant_of-self-in-Err-insert
invariant_of-self-in-Err-insert c =
    rw c.in-Err-insert.ensures.err
    (undone_linked c.self.invariant c.args.reader c.args.sources c.enter.new.links.keys c.leave-in-Err-insert.new.links.keys
    (λ link. inr (rw c.as_slice.ensures.items at (c.in_default.ensures.ok link)))
    (λ link. c.leave-in-Err-insert.ensures.left link
    ∙ (λ i. in_table c.enter.new.links.keys link && not (is_let_go c.args.reader
    (ap (λ found. unwrap_or found []) (sym c.in-Err-insert.ensures.absent) i)
    ((c.as_slice-in-Err-insert.ensures.items ∙ ap (λ pair. pair.1) c.in-Err-insert.ensures.value_returned) i) link))))

pub returns-in-Some-clause-each : goal.returns-in-Some-clause-each
returns-in-Some-clause-each c =
    rw (← c.self.view_is)
    (λ other. ap (λ found. unwrap_or found []) (c.in-Ok.ensures.updates.0 other) ∙ put_each (is_at (reader_cmp c.args.reader) other) c.args.sources (sources_at other c.self.inside.sources.entries))

pub returns-in-None-clause-each : goal.returns-in-None-clause-each
returns-in-None-clause-each c =
    rw (← c.self.view_is)
    (λ other. ap (λ found. unwrap_or found []) (c.in-Ok.ensures.updates.0 other) ∙ put_each (is_at (reader_cmp c.args.reader) other) c.args.sources (sources_at other c.self.inside.sources.entries))
