-- A context of a scope is among those that some reader has just where a reader has it.
use Rattle.std.proofs.Common.{◌≡◌, ℕ, List, [], ◌∷◌, Bool, true, false, ◌&&◌, ◌||◌, Result, Ok, Err, IfOk, refl, sym, ap, ◌∙◌}
use mathlib.Core.Bool.{true≢false}
use Rattle.std.specs.Ordering.{is_eq, eq_by_cmp}
use Rattle.std.specs.Cmp.{tied_itself}
use Rattle.std.specs.List.{list_any, filter, flat_map}
use Rattle.std.specs.List.Sorted.{IsStrictlySortedBy}
use Rattle.std.specs.Map.{keys_of}
use Rattle.std.specs.BTreeMap.{is_at}
use Rattle.rt_values.specs.declared.names.ScopeId.{ScopeId}
use Rattle.rt_cells.specs.declared.sources.Source.{Source}
use Rattle.rt_cells.specs.declared.sources.Source.TheVariants as source
use Rattle.rt_cells.specs.declared.sources.Reader.{Reader}
use Rattle.rt_cells.specs.Orders.{scope_cmp, source_cmp, reader_cmp}
use Rattle.rt_cells.specs.Reads.{has, is_context_of, context_sources, reads_of, sources_at}
use Rattle.rt_cells.proofs.Exact.{scope_total, source_total, source_exact, reader_total}
use Rattle.rt_cells.proofs.InOrder.{any_in_order}
use Rattle.rt_cells.proofs.Linked.{any_and}
use Rattle.rt_cells.proofs.Pairs.{any-filter, any_same, entry_passes}
use Rattle.rt_cells.proofs.ReadersOf.{found_has}
use Rattle.rt_cells.proofs.ContextsOf.{of_alike, any-flat_map}

-- a fact of an answer, put through an inference
pub if_ok : {U X : Type 0} {A B : U → Type 0} (r : Result U X) → IfOk r A → ((u : U) → A u → B u) → IfOk r B
if_ok (Ok u) a f = f u a
if_ok (Err e) a f = tt

-- what passes two tests passes the first
any_both : {X : Type 0} (t u : X → Bool) (xs : List X) → list_any (λ x. t x && u x) xs ≡ true → list_any t xs ≡ true
any_both t u [] h = h
any_both t u (x ∷ xs) h =
    elim (t x) as (λ b. ((b && u x) || list_any (λ x. t x && u x) xs) ≡ true → (b || list_any t xs) ≡ true) [
      | true ↦ λ _. refl
      | false ↦ λ rest. any_both t u xs rest
    ] h

module _ (scope : ScopeId) (kind : ℕ) where
  abbrev one : Source
  one = source.Context kind scope

  own : is_eq (scope_cmp scope scope) ≡ true
  own = ap is_eq (tied_itself scope_total scope)

  among : (reads : List (Reader × List Source)) → has one (context_sources scope reads) ≡ list_any (λ read. has one read.1) reads
  among reads =
      any_in_order source_total source_exact one (filter (is_context_of scope) (flat_map (λ read. read.1) reads))
      ∙ any-filter (is_at (source_cmp one)) (is_context_of scope) (flat_map (λ read. read.1) reads)
      ∙ any_same _ _ (λ other. of_alike scope one other) (flat_map (λ read. read.1) reads)
      ∙ any_and (is_at (source_cmp one)) (is_context_of scope one) (flat_map (λ read. read.1) reads)
      ∙ ap (λ b. b && list_any (is_at (source_cmp one)) (flat_map (λ read. read.1) reads)) own
      ∙ any-flat_map scope (is_at (source_cmp one)) reads

  -- one of them reads it
  some_reader : (es : List (Reader × List Source)) → list_any (λ e. has one e.1) es ≡ true
      → (reader : Reader) × (list_any (λ e. has one e.1 && eq_by_cmp reader_cmp reader e.0) es ≡ true)
  some_reader [] h = absurd (true≢false (sym h))
  some_reader (e ∷ es) h =
      elim (has one e.1) as (λ b. (b || list_any (λ d. has one d.1) es) ≡ true
      → (reader : Reader) × (((b && eq_by_cmp reader_cmp reader e.0) || list_any (λ d. has one d.1 && eq_by_cmp reader_cmp reader d.0) es) ≡ true)) [
        | true ↦ λ _. (e.0, ap (λ r. is_eq r || list_any (λ d. has one d.1 && eq_by_cmp reader_cmp e.0 d.0) es) (tied_itself reader_total e.0))
        | false ↦ λ rest. some_reader es rest
      ] h

  module _ (reads : List (Reader × List Source)) (ascending : IsStrictlySortedBy reader_cmp (keys_of reads)) where
    entry_has : (reader : Reader) → list_any (λ e. has one e.1 && eq_by_cmp reader_cmp reader e.0) reads ≡ has one (reads_of reader reads)
    entry_has reader = entry_passes reader_cmp reader_total (has one) reader reads ascending ∙ found_has one (sources_at reader reads)

    -- what a reader has is among them
    pub read_of : (reader : Reader) → has one (reads_of reader reads) ≡ true → has one (context_sources scope reads) ≡ true
    read_of reader h = among reads ∙ any_both (λ e. has one e.1) (λ e. eq_by_cmp reader_cmp reader e.0) reads (entry_has reader ∙ h)

    -- and of what is among them a reader is
    pub read_by_one : has one (context_sources scope reads) ≡ true → (reader : Reader) × (has one (reads_of reader reads) ≡ true)
    read_by_one h =
        let found = some_reader reads (sym (among reads) ∙ h) in
        (found.0, sym (entry_has found.0) ∙ found.1)
