-- A reader without sources is dropped, and one with other sources is put.
use Rattle.std.proofs.Common.{◌≡◌, ◌∙◌, sym, ap, refl, subst, cond, List, [], ◌∷◌}
use mathlib.Core.Bool.{true≢false}
use Rattle.std.specs.Result.{OnOk}
use Rattle.std.specs.BTreeMap.{insert_entry, is_at}
use Rattle.rt_cells.specs.declared.sources.Source.{Source}
use Rattle.rt_cells.specs.declared.sources.Reader.{Reader}
use Rattle.rt_cells.specs.Orders.{reader_cmp, source_cmp}
use Rattle.rt_cells.specs.Reads.{in_order, reads_of, with_reads}
use Rattle.rt_cells.proofs.Again.{each_kept, set_again}
use Rattle.rt_cells.proofs.reads.Reads.set.Goals as goal

some_put : (reader : Reader) (sources : List Source) (reads : List (Reader × List Source)) → (sources ≡ [] → ⊥) → insert_entry reader_cmp reads reader sources ≡ with_reads reader sources reads
some_put reader [] reads some = absurd (some refl)
some_put reader (source ∷ sources) reads some = refl

-- nothing changes
pub returns-then-has_just-clause-ok : goal.returns-then-has_just-clause-ok
returns-then-has_just-clause-ok c = c.has_just.ensures.same c.if-has_just.true

pub returns-then-has_just-clause-set : goal.returns-then-has_just-clause-set
returns-then-has_just-clause-set c = c.has_just.ensures.kept c.if-has_just.true

pub returns-then-has_just-clause-each : goal.returns-then-has_just-clause-each
returns-then-has_just-clause-each c = each_kept c.args.reader (in_order source_cmp c.args.sources.now) c.args.self.now (c.has_just.ensures.kept c.if-has_just.true)

pub returns-then-is_empty-clause-ok : goal.returns-then-is_empty-clause-ok
returns-then-is_empty-clause-ok c =
    c.drop_reader.ensures.dropped
    ∙ ap (λ sources. with_reads c.args.reader sources c.args.self.now) (sym (c.if-is_empty.ensures.empty.0 refl) ∙ c.in_ok-sources.ensures.sources)

pub returns-then-is_empty-clause-set : goal.returns-then-is_empty-clause-set
returns-then-is_empty-clause-set c =
    c.drop_reader.ensures.none ∙ sym (c.if-is_empty.ensures.empty.0 refl) ∙ c.in_ok-sources.ensures.sources

pub returns-clause-ok : goal.returns-clause-ok
returns-clause-ok c =
    subst (λ (reads : List (Reader × List Source)). OnOk c.put.result (c.put.new.self ≡ reads))
    (some_put c.args.reader c.in_ok-sources.sources c.args.self.now (λ none. true≢false (sym (c.if-is_empty.ensures.empty.1 none)))
    ∙ ap (λ sources. with_reads c.args.reader sources c.args.self.now) c.in_ok-sources.ensures.sources)
    c.put.ensures.ok

pub returns-clause-set : goal.returns-clause-set
returns-clause-set c =
    subst (λ (sources : List Source). OnOk c.put.result (reads_of c.args.reader c.put.new.self ≡ sources)) c.in_ok-sources.ensures.sources c.put.ensures.put

pub returns-then-is_empty-clause-each : goal.returns-then-is_empty-clause-each
returns-then-is_empty-clause-each c =
    λ other.
    c.drop_reader.ensures.each other
    ∙ ap (λ sources. cond (is_at (reader_cmp c.args.reader) other) sources (reads_of other c.args.self.now))
    (sym (c.if-is_empty.ensures.empty.0 refl) ∙ c.in_ok-sources.ensures.sources)

pub returns-clause-each : goal.returns-clause-each
returns-clause-each c =
    subst (λ (sources : List Source). OnOk c.put.result ((other : Reader) → reads_of other c.put.new.self ≡ cond (is_at (reader_cmp c.args.reader) other) sources (reads_of other c.args.self.now)))
    c.in_ok-sources.ensures.sources c.put.ensures.each

pub returns-then-same_slice-clause-set : goal.returns-then-same_slice-clause-set
returns-then-same_slice-clause-set c =
    sym c.of.ensures.sources ∙ c.same_slice.ensures.same.0 c.if-same_slice.true ∙ c.as_slice.ensures.items ∙ c.in_ok-sources.ensures.sources

pub returns-then-same_slice-clause-ok : goal.returns-then-same_slice-clause-ok
returns-then-same_slice-clause-ok c =
    let kept : reads_of c.args.reader c.args.self.now ≡ in_order source_cmp c.args.sources.now =
    sym c.of.ensures.sources ∙ c.same_slice.ensures.same.0 c.if-same_slice.true ∙ c.as_slice.ensures.items ∙ c.in_ok-sources.ensures.sources in
    set_again c.args.reader (in_order source_cmp c.args.sources.now) c.args.self.now c.of.ensures.readers kept
    (λ none. true≢false (sym (c.if-is_empty.ensures.empty.1 (c.in_ok-sources.ensures.sources ∙ none))))

pub returns-then-same_slice-clause-each : goal.returns-then-same_slice-clause-each
returns-then-same_slice-clause-each c =
    let kept : reads_of c.args.reader c.args.self.now ≡ in_order source_cmp c.args.sources.now =
    sym c.of.ensures.sources ∙ c.same_slice.ensures.same.0 c.if-same_slice.true ∙ c.as_slice.ensures.items ∙ c.in_ok-sources.ensures.sources in
    each_kept c.args.reader (in_order source_cmp c.args.sources.now) c.args.self.now kept
