-- A source that a reader has already changes nothing where it is read again.
use Rattle.std.proofs.Common.{◌≡◌, List, [], ◌∷◌, ◌++◌, Bool, true, false, ◌||◌, cond, Option, None, Some, refl, sym, ap, ◌∙◌}
use mathlib.Core.Bool.{true≢false}
use Rattle.std.specs.declared.cmp.Ordering.TheVariants.{Less, Equal, Greater}
use Rattle.std.specs.Ordering.{is_eq, match_ordering}
use Rattle.std.specs.Cmp.{Equal-is}
use Rattle.std.specs.Option.{unwrap_or}
use Rattle.std.specs.List.{AllByRecursion}
use Rattle.std.specs.List.Sorted.{IsStrictlySortedBy}
use Rattle.std.specs.Map.{keys_of}
use Rattle.std.specs.BTreeMap.{insert_entry, is_at}
use Rattle.std.proofs.lemmas.List.Folds.{list_any-append}
use Rattle.std.proofs.lemmas.Map.Keys.{sorted_head, sorted_tail}
use Rattle.rt_cells.specs.declared.sources.Source.{Source}
use Rattle.rt_cells.specs.declared.sources.Reader.{Reader}
use Rattle.rt_cells.specs.Orders.{source_cmp, reader_cmp}
use Rattle.rt_cells.specs.Reads.{has, in_order, reads_of, sources_at, with_reads}
use Rattle.rt_cells.proofs.Exact.{reader_exact, reader_total, source_exact, source_total}
use Rattle.rt_cells.proofs.InOrder.{in_order_is}
use Rattle.rt_cells.proofs.Sorted.{below_all}

-- one that is among the sources is no new item of theirs
no_new : (source : Source) (sources : List Source) → has source sources ≡ true → (q : Source) → has q sources ≡ has q (sources ++ source ∷ [])
no_new source sources there q =
    by (is_at (source_cmp q) source) refl (has q sources) refl ∙ sym (list_any-append (is_at (source_cmp q)) sources (source ∷ []))
  where
    by : (t : Bool) → is_at (source_cmp q) source ≡ t → (a : Bool) → has q sources ≡ a → has q sources ≡ (has q sources || (is_at (source_cmp q) source || false))
    by true tie true own = own ∙ sym (ap (λ b. b || (is_at (source_cmp q) source || false)) own)
    by true tie false own =
        absurd (true≢false (sym there ∙ ap (λ (s : Source). has s sources) (sym (source_exact q source ((Equal-is (source_cmp q source)).0 tie))) ∙ own))
    by false tie true own = own ∙ sym (ap (λ b. b || (is_at (source_cmp q) source || false)) own)
    by false tie false own = own ∙ sym (λ i. own i || (tie i || false))

pub ordered_again : (source : Source) (sources : List Source) → IsStrictlySortedBy source_cmp sources → has source sources ≡ true → sources ≡ in_order source_cmp (sources ++ source ∷ [])
ordered_again source sources sorted there = in_order_is source_total source_exact (sources ++ source ∷ []) sources sorted (no_new source sources there)

-- sources in order are those in order
pub ordered : (sources : List Source) → IsStrictlySortedBy source_cmp sources → sources ≡ in_order source_cmp sources
ordered sources sorted = in_order_is source_total source_exact sources sources sorted (λ q. refl)

-- nothing is kept for a reader that is before all others
none_kept : (reader : Reader) (reads : List (Reader × List Source)) → AllByRecursion (λ other. reader_cmp reader other ≡ Less) (keys_of reads) → sources_at reader reads ≡ None
none_kept reader [] all = refl
none_kept reader (read ∷ reads) all = ap (λ r. cond (is_eq r) (Some read.1) (sources_at reader reads)) all.0 ∙ none_kept reader reads all.1

-- the sources that are kept are kept again
same_entry : (reader : Reader) (sources : List Source) (reads : List (Reader × List Source)) → IsStrictlySortedBy reader_cmp (keys_of reads)
    → sources_at reader reads ≡ Some sources → insert_entry reader_cmp reads reader sources ≡ reads
same_entry reader sources [] sorted found = absurd (cc found)
same_entry reader sources (read ∷ reads) sorted found =
    elim (reader_cmp reader read.0) as (λ r. reader_cmp reader read.0 ≡ r → cond (is_eq r) (Some read.1) (sources_at reader reads) ≡ Some sources
    → match_ordering r ((reader, sources) ∷ read ∷ reads) ((read.0, sources) ∷ reads) (read ∷ insert_entry reader_cmp reads reader sources) ≡ read ∷ reads) [
      | Less ↦ λ e own. absurd (cc (sym (none_kept reader reads (below_all reader_total reader read.0 (keys_of reads) e (sorted_head reader_cmp read.0 (keys_of reads) sorted))) ∙ own))
      | Equal ↦ λ e own. ap (λ (kept : Option (List Source)). (read.0, unwrap_or kept sources) ∷ reads) (sym own)
      | Greater ↦ λ e own. ap (λ (es : List (Reader × List Source)). read ∷ es) (same_entry reader sources reads (sorted_tail reader_cmp read.0 (keys_of reads) sorted) own)
    ] refl found

was_kept : (found : Option (List Source)) (source : Source) (sources : List Source) → unwrap_or found [] ≡ source ∷ sources → found ≡ Some (source ∷ sources)
was_kept None source sources is = absurd (cc is)
was_kept (Some kept) source sources is = ap Some is

-- so nothing changes
kept_again : (reader : Reader) (source : Source) (sources : List Source) (reads : List (Reader × List Source)) → IsStrictlySortedBy reader_cmp (keys_of reads)
    → reads_of reader reads ≡ sources → has source sources ≡ true → with_reads reader sources reads ≡ reads
kept_again reader source [] reads sorted is there = absurd (cc there)
kept_again reader source (first ∷ rest) reads sorted is there = same_entry reader (first ∷ rest) reads sorted (was_kept (sources_at reader reads) first rest is)

-- nor where they are set again
pub set_again : (reader : Reader) (sources : List Source) (reads : List (Reader × List Source)) → IsStrictlySortedBy reader_cmp (keys_of reads)
    → reads_of reader reads ≡ sources → (sources ≡ [] → ⊥) → reads ≡ with_reads reader sources reads
set_again reader [] reads sorted is some = absurd (some refl)
set_again reader (first ∷ rest) reads sorted is some = sym (same_entry reader (first ∷ rest) reads sorted (was_kept (sources_at reader reads) first rest is))

pub each_kept : (reader : Reader) (sources : List Source) (reads : List (Reader × List Source)) → reads_of reader reads ≡ sources
    → (other : Reader) → reads_of other reads ≡ cond (is_at (reader_cmp reader) other) sources (reads_of other reads)
each_kept reader sources reads is other =
    elim (is_at (reader_cmp reader) other) as (λ b. is_at (reader_cmp reader) other ≡ b → reads_of other reads ≡ cond b sources (reads_of other reads)) [
      | true ↦ λ tie. ap (λ (r : Reader). reads_of r reads) (sym (reader_exact reader other ((Equal-is (reader_cmp reader other)).0 tie))) ∙ is
      | false ↦ λ _. refl
    ] refl

module _ (reader : Reader) (source : Source) (reads : List (Reader × List Source)) (keys : IsStrictlySortedBy reader_cmp (keys_of reads))
    (sorted : IsStrictlySortedBy source_cmp (reads_of reader reads)) (there : has source (reads_of reader reads) ≡ true) where
  pub added_again : reads_of reader reads ≡ in_order source_cmp (reads_of reader reads ++ source ∷ [])
  added_again = ordered_again source (reads_of reader reads) sorted there

  pub ok_again : reads ≡ with_reads reader (in_order source_cmp (reads_of reader reads ++ source ∷ [])) reads
  ok_again = sym (ap (λ (ss : List Source). with_reads reader ss reads) (sym added_again) ∙ kept_again reader source (reads_of reader reads) reads keys refl there)

  pub each_again : (other : Reader) → reads_of other reads ≡ cond (is_at (reader_cmp reader) other) (in_order source_cmp (reads_of reader reads ++ source ∷ [])) (reads_of other reads)
  each_again other = each_kept reader (in_order source_cmp (reads_of reader reads ++ source ∷ [])) reads added_again other

-- sources that a reader has are set again, in their order
module _ (reader : Reader) (sources : List Source) (reads : List (Reader × List Source)) (sorted : IsStrictlySortedBy source_cmp sources) (is : reads_of reader reads ≡ sources) where
  pub kept_in_order : reads_of reader reads ≡ in_order source_cmp sources
  kept_in_order = is ∙ ordered sources sorted

  pub set_in_order : IsStrictlySortedBy reader_cmp (keys_of reads) → (sources ≡ [] → ⊥) → reads ≡ with_reads reader (in_order source_cmp sources) reads
  set_in_order keys some = set_again reader sources reads keys is some ∙ ap (λ (ss : List Source). with_reads reader ss reads) (ordered sources sorted)
