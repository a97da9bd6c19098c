-- The places of a scope's contexts in the table of readers are those that some reader has.
use Rattle.std.proofs.Common.{◌≡◌, ℕ, List, [], ◌∷◌, map, Bool, true, false, ◌&&◌, ◌||◌, refl, sym, ap, ◌∙◌}
use mathlib.Core.Bool.{true≢false}
use Rattle.std.specs.declared.cmp.Ordering.{Ordering}
use Rattle.std.specs.declared.cmp.Ordering.TheVariants.{Less, Equal, Greater}
use Rattle.std.specs.declared.ops.Bound.TheVariants.{Included, Unbounded}
use Rattle.std.specs.Ordering.{is_eq, is_le, nat_cmp, eq_by_cmp, ordering_then, ordering_reverse}
use Rattle.std.specs.Cmp.{Equal-is}
use Rattle.std.specs.List.{list_any, filter, flat_map, take_while}
use Rattle.std.specs.List.Sorted.{IsStrictlySortedBy}
use Rattle.std.specs.BTreeMap.Range.{range_contains}
use Rattle.std.proofs.lemmas.List.Folds.{list_any-append}
use Rattle.rt_values.specs.declared.names.ScopeId.{ScopeId}
use Rattle.rt_cells.specs.declared.sources.Source.{Source}
use Rattle.rt_cells.specs.declared.sources.Reader.{Reader}
use Rattle.rt_cells.specs.declared.places.Place.{Place}
use Rattle.rt_cells.specs.declared.places.Place.TheVariants.{Cell, Error, Context}
use Rattle.rt_cells.specs.Orders.{scope_cmp, source_cmp, reader_cmp, place_cmp}
use Rattle.rt_cells.specs.Places.{place_of, source_at}
use Rattle.rt_cells.specs.Reads.{has, in_order, is_context_of, context_sources}
use Rattle.rt_cells.specs.Links.{link_cmp, IsLinked}
use Rattle.rt_cells.proofs.Exact.{scope_total, source_total, source_exact}
use Rattle.rt_cells.proofs.InOrder.{same_in_order}
use Rattle.rt_cells.proofs.Linked.{any_and, place_ties, and_turned}
use Rattle.rt_cells.proofs.NumbersOf.{zero_least}
use Rattle.rt_cells.proofs.Pairs.{any-map, any-filter, any_same}
use Rattle.rt_cells.proofs.ReadersOf.{first_reader, first_is_least, readers_at_place}
use Rattle.rt_cells.proofs.Scan.{scan}
use Rattle.rt_cells.proofs.Searched.{tie_turned}

-- the place of a place's source is the place
place_again : (place : Place) → place_of (source_at place) ≡ place
place_again (Cell number) = refl
place_again (Error scope) = refl
place_again (Context scope kind) = refl

at_place : (source : Source) (place : Place) → is_eq (place_cmp (place_of source) place) ≡ is_eq (source_cmp source (source_at place))
at_place source place = ap (λ p. is_eq (place_cmp (place_of source) p)) (sym (place_again place)) ∙ place_ties (source_at place) source ∙ tie_turned source_total (source_at place) source

-- no order is passed by two in turn where it isn't by the first, nor on a tie by the second
then_le : (r s : Ordering) → is_le r ≡ true → is_le s ≡ true → is_le (ordering_then r s) ≡ true
then_le Less s first second = refl
then_le Equal s first second = second
then_le Greater s first second = first

module _ (scope : ScopeId) where
  abbrev lo : Place × Reader
  lo = (Context scope 0, first_reader)

  abbrev provided : Place × Reader → Bool
  provided link = is_context_of scope (source_at link.0)

  starts_at : (place : Place) (reader : Reader) → is_context_of scope (source_at place) ≡ true → is_le (link_cmp lo (place, reader)) ≡ true
  starts_at (Cell number) reader by = absurd (true≢false (sym by))
  starts_at (Error other) reader by = absurd (true≢false (sym by))
  starts_at (Context other kind) reader by =
      ap (λ r. is_le (ordering_then (ordering_then r (nat_cmp 0 kind)) (reader_cmp first_reader reader))) ((Equal-is (scope_cmp scope other)).0 by)
      ∙ then_le (nat_cmp 0 kind) (reader_cmp first_reader reader) (zero_least kind) (first_is_least reader)

  starts : (link : Place × Reader) → provided link ≡ true → is_le (link_cmp lo link) ≡ true
  starts link by = starts_at link.0 link.1 by

  between : (x y : ScopeId) (j k : ℕ) (r s : Reader) → is_le (link_cmp lo (Context x j, r)) ≡ true → link_cmp (Context x j, r) (Context y k, s) ≡ Less → is_eq (scope_cmp scope y) ≡ true → is_eq (scope_cmp scope x) ≡ true
  between x y j k r s from less by =
      elim (scope_cmp scope x) as (λ o. scope_cmp scope x ≡ o → is_eq o ≡ true) [
        | Less ↦ λ e.
            let above : scope_cmp x y ≡ Greater = scope_total.antisymm x y
            ∙ ap ordering_reverse (sym (scope_total.congr scope y x ((Equal-is (scope_cmp scope y)).0 by)) ∙ e) in
            absurd (cc (above, sym less, ap (λ o. ordering_then (ordering_then o (nat_cmp j k)) (reader_cmp r s)) above))
        | Equal ↦ λ _. refl
        | Greater ↦ λ e. absurd (true≢false (sym from ∙ ap (λ o. is_le (ordering_then (ordering_then o (nat_cmp 0 j)) (reader_cmp first_reader r))) e))
      ] refl

  convex_at : (p q : Place) (r s : Reader) → is_le (link_cmp lo (p, r)) ≡ true → link_cmp (p, r) (q, s) ≡ Less → is_context_of scope (source_at q) ≡ true → is_context_of scope (source_at p) ≡ true
  convex_at (Cell x) q r s from less by = absurd (true≢false (sym from))
  convex_at (Error x) q r s from less by = absurd (true≢false (sym from))
  convex_at (Context x j) (Cell y) r s from less by = absurd (true≢false (sym by))
  convex_at (Context x j) (Error y) r s from less by = absurd (true≢false (sym by))
  convex_at (Context x j) (Context y k) r s from less by = between x y j k r s from less by

  convex : (x y : Place × Reader) → is_le (link_cmp lo x) ≡ true → link_cmp x y ≡ Less → provided y ≡ true → provided x ≡ true
  convex x y from less by = convex_at x.0 y.0 x.1 y.1 from less by

  -- what ties with a source is of the scope where the source is
  pub of_alike : (source other : Source) → (is_context_of scope other && is_eq (source_cmp source other)) ≡ (is_eq (source_cmp source other) && is_context_of scope source)
  of_alike source other =
      elim (is_eq (source_cmp source other)) as (λ b. is_eq (source_cmp source other) ≡ b → (is_context_of scope other && b) ≡ (b && is_context_of scope source)) [
        | true ↦ λ tie. and_turned (is_context_of scope other) true ∙ ap (is_context_of scope) (sym (source_exact source other ((Equal-is (source_cmp source other)).0 tie)))
        | false ↦ λ _. and_turned (is_context_of scope other) false
      ] refl

  pub any-flat_map : (t : Source → Bool) (reads : List (Reader × List Source)) → list_any t (flat_map (λ read. read.1) reads) ≡ list_any (λ read. list_any t read.1) reads
  any-flat_map t [] = refl
  any-flat_map t (read ∷ reads) = list_any-append t read.1 (flat_map (λ read. read.1) reads) ∙ ap (λ b. list_any t read.1 || b) (any-flat_map t reads)

  and-true : (b : Bool) → b ≡ (b && true)
  and-true true = refl
  and-true false = refl

  module _ (reads : List (Reader × List Source)) (links : List (Place × Reader)) (linked : IsLinked reads links) (sorted : IsStrictlySortedBy link_cmp links) where
    -- a source stands in the table where some reader has it
    stands_somewhere : (source : Source) → list_any (λ link. is_eq (source_cmp source (source_at link.0))) links ≡ list_any (λ read. has source read.1) reads
    stands_somewhere source =
        any_same _ _ (λ link. sym (at_place source link.0) ∙ and-true _) links
        ∙ sym (any-map (λ _. true) (λ link. link.1) (filter (λ link. is_eq (place_cmp (place_of source) link.0)) links) ∙ any-filter (λ _. true) (λ link. is_eq (place_cmp (place_of source) link.0)) links)
        ∙ ap (list_any (λ _. true)) (readers_at_place reads links source linked sorted)
        ∙ any-map (λ _. true) (λ read. read.0) (filter (λ read. has source read.1) reads) ∙ any-filter (λ _. true) (λ read. has source read.1) reads
        ∙ any_same _ _ (λ read. sym (and-true (has source read.1))) reads

    same_members : (source : Source) → list_any (eq_by_cmp source_cmp source) (map (λ link. source_at link.0) (filter provided links))
        ≡ list_any (eq_by_cmp source_cmp source) (filter (is_context_of scope) (flat_map (λ read. read.1) reads))
    same_members source =
        any-map (eq_by_cmp source_cmp source) (λ link. source_at link.0) (filter provided links)
        ∙ any-filter (λ link. is_eq (source_cmp source (source_at link.0))) provided links
        ∙ any_same _ _ (λ link. of_alike source (source_at link.0)) links
        ∙ any_and (λ link. is_eq (source_cmp source (source_at link.0))) (is_context_of scope source) links
        ∙ ap (λ b. is_context_of scope source && b) (stands_somewhere source)
        ∙ sym (any-filter (eq_by_cmp source_cmp source) (is_context_of scope) (flat_map (λ read. read.1) reads)
        ∙ any_same _ _ (λ other. of_alike source other) (flat_map (λ read. read.1) reads)
        ∙ any_and (eq_by_cmp source_cmp source) (is_context_of scope source) (flat_map (λ read. read.1) reads)
        ∙ ap (λ b. is_context_of scope source && b) (any-flat_map (eq_by_cmp source_cmp source) reads))

    -- what a scan from the scope's least context on finds, in order
    pub contexts_found : in_order source_cmp (map (λ link. source_at link.0) (take_while provided (filter (range_contains link_cmp (Included lo) Unbounded) links))) ≡ context_sources scope reads
    contexts_found =
        ap (λ found. in_order source_cmp (map (λ link. source_at link.0) found)) (scan link_cmp lo provided starts convex links sorted)
        ∙ same_in_order source_total source_exact _ _ same_members
