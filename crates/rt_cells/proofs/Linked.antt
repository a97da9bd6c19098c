-- What the loops over the table of readers leave is tied to the readers' sources again.
use Rattle.std.proofs.Common.{◌≡◌, ◌⊎◌, inl, inr, List, [], ◌∷◌, Bool, true, false, cond, not, ◌&&◌, ◌||◌, Option, None, Some, refl, sym, ap, ◌∙◌, subst}
use mathlib.Core.Bool.{true≢false}
use Rattle.std.specs.Ordering.{is_eq, nat_cmp}
use Rattle.std.specs.Option.{IfSome, unwrap_or}
use Rattle.std.specs.Cmp.{Equal-is, nat_cmp_total}
use Rattle.std.specs.List.{list_any}
use Rattle.std.specs.List.Sorted.{IsStrictlySortedBy}
use Rattle.std.specs.Map.{keys_of}
use Rattle.std.specs.BTreeMap.{is_at}
use Rattle.rt_cells.specs.declared.sources.Source.{Source}
use Rattle.rt_cells.specs.declared.sources.Source.TheVariants.{Cell, Error, Context}
use Rattle.rt_cells.specs.declared.sources.Reader.{Reader}
use Rattle.rt_cells.specs.declared.places.Place.{Place}
use Rattle.rt_cells.specs.Orders.{scope_cmp, source_cmp, reader_cmp, place_cmp}
use Rattle.rt_cells.specs.Places.{place_of}
use Rattle.rt_cells.specs.Index.{passes}
use Rattle.rt_cells.specs.Reads.{has, sources_at, reads_of}
use Rattle.rt_cells.specs.Links.{link_cmp, stands_at, is_linked, is_let_go, IsLinked}
use Rattle.rt_cells.proofs.Exact.{scope_total, reader_exact, place_exact}
use Rattle.rt_cells.proofs.Pairs.{then_ties, any_same}
use Rattle.rt_cells.proofs.Searched.{tie_turned}

pub and_turned : (a b : Bool) → (a && b) ≡ (b && a)
and_turned true true = refl
and_turned true false = refl
and_turned false true = refl
and_turned false false = refl

-- a test that holds of all alike
pub any_and : {X : Type 0} (t : X → Bool) (c : Bool) (xs : List X) → list_any (λ x. t x && c) xs ≡ (c && list_any t xs)
any_and t true [] = refl
any_and t false [] = refl
any_and t true (x ∷ xs) = elim (t x) as (λ b. ((b && true) || list_any (λ x. t x && true) xs) ≡ (b || list_any t xs)) [ true ↦ refl | false ↦ any_and t true xs ]
any_and t false (x ∷ xs) = elim (t x) as (λ b. ((b && false) || list_any (λ x. t x && false) xs) ≡ false) [ true ↦ any_and t false xs | false ↦ any_and t false xs ]

-- places tie where their sources do
pub place_ties : (s t : Source) → is_eq (place_cmp (place_of t) (place_of s)) ≡ is_eq (source_cmp s t)
place_ties (Cell x) (Cell y) = tie_turned nat_cmp_total y x
place_ties (Cell x) (Error y) = refl
place_ties (Cell x) (Context k y) = refl
place_ties (Error x) (Cell y) = refl
place_ties (Error x) (Error y) = tie_turned scope_total y x
place_ties (Error x) (Context k y) = refl
place_ties (Context j x) (Cell y) = refl
place_ties (Context j x) (Error y) = refl
place_ties (Context j x) (Context k y) =
    then_ties (scope_cmp y x) (nat_cmp k j)
    ∙ and_turned (is_eq (scope_cmp y x)) (is_eq (nat_cmp k j))
    ∙ (λ i. tie_turned nat_cmp_total k j i && tie_turned scope_total y x i)
    ∙ sym (then_ties (nat_cmp j k) (scope_cmp x y))

-- a source is among sources where one of them stands at its place
pub stands-has : (source : Source) (sources : List Source) → stands_at (place_of source) sources ≡ has source sources
stands-has source sources = any_same _ _ (λ other. place_ties source other) sources

-- the links of a reader to sources
pub linked-is : (reader : Reader) (sources : List Source) (link : Place × Reader) → is_linked reader sources link ≡ (is_at (reader_cmp reader) link.1 && stands_at link.0 sources)
linked-is reader sources link =
    any_same _ _ (λ source. then_ties (place_cmp (place_of source) link.0) (reader_cmp reader link.1)) sources
    ∙ any_and (λ source. is_eq (place_cmp (place_of source) link.0)) (is_eq (reader_cmp reader link.1)) sources

-- of one source: it is let go where none of those kept stands at its place
one_let_go : (kept : List Source) (place : Place) (tie : Bool) (source : Source)
    → (not (has source kept) && (is_eq (place_cmp (place_of source) place) && tie)) ≡ (is_eq (place_cmp (place_of source) place) && (tie && not (stands_at place kept)))
one_let_go kept place tie source =
    elim (is_eq (place_cmp (place_of source) place)) as (λ b. is_eq (place_cmp (place_of source) place) ≡ b → (not (has source kept) && (b && tie)) ≡ (b && (tie && not (stands_at place kept)))) [
      | true ↦ λ here.
          let same : place_of source ≡ place = place_exact (place_of source) place ((Equal-is (place_cmp (place_of source) place)).0 here) in
          and_turned (not (has source kept)) tie ∙ ap (λ h. tie && not h) (sym (stands-has source kept) ∙ ap (λ p. stands_at p kept) same)
      | false ↦ λ _. and_turned (not (has source kept)) false
    ] refl

pub let_go-is : (reader : Reader) (kept sources : List Source) (link : Place × Reader)
    → is_let_go reader kept sources link ≡ ((is_at (reader_cmp reader) link.1 && not (stands_at link.0 kept)) && stands_at link.0 sources)
let_go-is reader kept sources link =
    any_same _ _ (λ source. ap (λ b. not (has source kept) && b) (then_ties (place_cmp (place_of source) link.0) (reader_cmp reader link.1))
    ∙ one_let_go kept link.0 (is_eq (reader_cmp reader link.1)) source) sources
    ∙ any_and (λ source. is_eq (place_cmp (place_of source) link.0)) (is_eq (reader_cmp reader link.1) && not (stands_at link.0 kept)) sources

-- in, and the former out
exchanged : (tie a f n : Bool) → (tie ≡ true → a ≡ f) → ((a || (tie && n)) && not ((tie && not n) && f)) ≡ cond tie n a
exchanged true a f true was = elim a as (λ a. ((a || true) && true) ≡ true) [ true ↦ refl | false ↦ refl ]
exchanged true a true false was = elim a as (λ a. ((a || false) && false) ≡ false) [ true ↦ refl | false ↦ refl ]
exchanged true a false false was = elim a as (λ a. a ≡ false → ((a || false) && true) ≡ false) [ true ↦ λ e. e | false ↦ λ _. refl ] (was refl)
exchanged false a f n was = elim a as (λ a. ((a || false) && true) ≡ a) [ true ↦ refl | false ↦ refl ]

-- in, and out again
undone : (tie a f n : Bool) → (tie ≡ true → a ≡ f) → ((a || (tie && n)) && not ((tie && not f) && n)) ≡ a
undone true a true n was = elim a as (λ a. a ≡ true → ((a || n) && true) ≡ a) [ true ↦ λ _. refl | false ↦ λ e. absurd (true≢false (sym e)) ] (was refl)
undone true a false true was = elim a as (λ a. a ≡ false → ((a || true) && false) ≡ a) [ true ↦ λ e. sym e | false ↦ λ _. refl ] (was refl)
undone true a false false was = elim a as (λ a. ((a || false) && true) ≡ a) [ true ↦ refl | false ↦ refl ]
undone false a f n was = elim a as (λ a. ((a || false) && true) ≡ a) [ true ↦ refl | false ↦ refl ]

-- not in, and out
unmoved : (tie a f n : Bool) → (tie ≡ true → a ≡ f) → (a && not ((tie && not f) && n)) ≡ a
unmoved true a true n was = elim a as (λ a. (a && true) ≡ a) [ true ↦ refl | false ↦ refl ]
unmoved true a false n was = elim a as (λ a. a ≡ false → (a && not n) ≡ a) [ true ↦ λ e. absurd (true≢false e) | false ↦ λ _. refl ] (was refl)
unmoved false a f n was = elim a as (λ a. (a && true) ≡ a) [ true ↦ refl | false ↦ refl ]

-- out
gone : (tie a f : Bool) → (tie ≡ true → a ≡ f) → (a && not ((tie && true) && f)) ≡ cond tie false a
gone true a true was = elim a as (λ a. (a && false) ≡ false) [ true ↦ refl | false ↦ refl ]
gone true a false was = elim a as (λ a. a ≡ false → (a && true) ≡ false) [ true ↦ λ e. e | false ↦ λ _. refl ] (was refl)
gone false a f was = elim a as (λ a. (a && true) ≡ a) [ true ↦ refl | false ↦ refl ]

-- whether what is found passes, where nothing found has nothing
pub found_passes : (place : Place) (found : Option (List Source)) → passes (stands_at place) found ≡ stands_at place (unwrap_or found [])
found_passes place None = refl
found_passes place (Some sources) = refl

put_passes : (tie : Bool) (place : Place) (sources : List Source) (found : Option (List Source))
    → passes (stands_at place) (cond tie (Some sources) found) ≡ cond tie (stands_at place sources) (passes (stands_at place) found)
put_passes true place sources found = refl
put_passes false place sources found = refl

taken_passes : (tie : Bool) (place : Place) (found : Option (List Source)) → passes (stands_at place) (cond tie None found) ≡ cond tie false (passes (stands_at place) found)
taken_passes true place found = refl
taken_passes false place found = refl

-- what each reader has once one has these sources
pub put_each : (tie : Bool) (sources : List Source) (found : Option (List Source)) → unwrap_or (cond tie (Some sources) found) [] ≡ cond tie sources (unwrap_or found [])
put_each true sources found = refl
put_each false sources found = refl

-- and once one has none
pub taken_each : (tie : Bool) (found : Option (List Source)) → unwrap_or (cond tie None found) [] ≡ cond tie [] (unwrap_or found [])
taken_each true found = refl
taken_each false found = refl

put_sorted : (tie : Bool) (sources : List Source) (found : Option (List Source)) → IsStrictlySortedBy source_cmp sources → IfSome found (IsStrictlySortedBy source_cmp)
    → IfSome (cond tie (Some sources) found) (IsStrictlySortedBy source_cmp)
put_sorted true sources found new old = new
put_sorted false sources found new old = old

taken_sorted : (tie : Bool) (found : Option (List Source)) → IfSome found (IsStrictlySortedBy source_cmp) → IfSome (cond tie None found) (IsStrictlySortedBy source_cmp)
taken_sorted true found old = tt
taken_sorted false found old = old

pub none_sorted : IsStrictlySortedBy source_cmp []
unfolding IsStrictlySortedBy
none_sorted = tt

unwrap_sorted : (found : Option (List Source)) → IfSome found (IsStrictlySortedBy source_cmp) → IsStrictlySortedBy source_cmp (unwrap_or found [])
unwrap_sorted None sorted = none_sorted
unwrap_sorted (Some sources) sorted = sorted

abbrev pub in_table : List (Place × Reader) → Place × Reader → Bool
in_table links link = list_any (is_at (link_cmp link)) links

module _ {reads : List (Reader × List Source)} {links : List (Place × Reader)} (ok : IsLinked reads links) (reader : Reader) where
  -- what is kept of a reader is in order
  pub kept_sorted : IsStrictlySortedBy source_cmp (reads_of reader reads)
  kept_sorted = unwrap_sorted (sources_at reader reads) (ok.sorted reader)

  -- the reader's own links are those to its sources
  own : (link : Place × Reader) → is_at (reader_cmp reader) link.1 ≡ true → in_table links link ≡ stands_at link.0 (reads_of reader reads)
  own link tie =
      let same : reader ≡ link.1 = reader_exact reader link.1 ((Equal-is (reader_cmp reader link.1)).0 tie) in
      ok.tied link ∙ ap (λ r. passes (stands_at link.0) (sources_at r reads)) (sym same) ∙ found_passes link.0 (sources_at reader reads)

  -- the new sources in, and those of the former that aren't kept out
  pub put_linked : (sources : List Source) (reads2 : List (Reader × List Source)) (links1 links2 : List (Place × Reader)) → IsStrictlySortedBy source_cmp sources
      → ((q : Reader) → sources_at q reads2 ≡ cond (is_at (reader_cmp reader) q) (Some sources) (sources_at q reads)) → IsStrictlySortedBy reader_cmp (keys_of reads2)
      → ((link : Place × Reader) → in_table links1 link ≡ (in_table links link || is_linked reader sources link))
      → ((link : Place × Reader) → in_table links2 link ≡ (in_table links1 link && not (is_let_go reader sources (reads_of reader reads) link)))
      → IsLinked reads2 links2
  put_linked sources reads2 links1 links2 sorted updated ascending entered left = record {
    tied = λ link. left link
        ∙ ap (λ b. b && not (is_let_go reader sources (reads_of reader reads) link)) (entered link ∙ ap (λ b. in_table links link || b) (linked-is reader sources link))
        ∙ ap (λ b. (in_table links link || (is_at (reader_cmp reader) link.1 && stands_at link.0 sources)) && not b) (let_go-is reader sources (reads_of reader reads) link)
        ∙ exchanged (is_at (reader_cmp reader) link.1) (in_table links link) (stands_at link.0 (reads_of reader reads)) (stands_at link.0 sources) (own link)
        ∙ ap (cond (is_at (reader_cmp reader) link.1) (stands_at link.0 sources)) (ok.tied link)
        ∙ sym (put_passes (is_at (reader_cmp reader) link.1) link.0 sources (sources_at link.1 reads))
        ∙ ap (passes (stands_at link.0)) (sym (updated link.1));
    ascending = ascending;
    sorted = λ q. subst (λ found. IfSome found (IsStrictlySortedBy source_cmp)) (sym (updated q)) (put_sorted (is_at (reader_cmp reader) q) sources (sources_at q reads) sorted (ok.sorted q));
  }

  -- without memory some of the new sources were in, and are out again
  pub undone_linked : (sources : List Source) (links1 links2 : List (Place × Reader))
      → ((link : Place × Reader) → (in_table links1 link ≡ in_table links link) ⊎ (in_table links1 link ≡ (in_table links link || is_linked reader sources link)))
      → ((link : Place × Reader) → in_table links2 link ≡ (in_table links1 link && not (is_let_go reader (reads_of reader reads) sources link)))
      → IsLinked reads links2
  undone_linked sources links1 links2 entered left = record {
    tied = λ link. left link
        ∙ ap (λ b. in_table links1 link && not b) (let_go-is reader (reads_of reader reads) sources link)
        ∙ back link (entered link)
        ∙ ok.tied link;
    ascending = ok.ascending;
    sorted = ok.sorted;
  } where
    back : (link : Place × Reader) → (in_table links1 link ≡ in_table links link) ⊎ (in_table links1 link ≡ (in_table links link || is_linked reader sources link))
        → (in_table links1 link && not ((is_at (reader_cmp reader) link.1 && not (stands_at link.0 (reads_of reader reads))) && stands_at link.0 sources)) ≡ in_table links link
    back link (inl same) = ap (λ b. b && not ((is_at (reader_cmp reader) link.1 && not (stands_at link.0 (reads_of reader reads))) && stands_at link.0 sources)) same
        ∙ unmoved (is_at (reader_cmp reader) link.1) (in_table links link) (stands_at link.0 (reads_of reader reads)) (stands_at link.0 sources) (own link)
    back link (inr more) = ap (λ b. b && not ((is_at (reader_cmp reader) link.1 && not (stands_at link.0 (reads_of reader reads))) && stands_at link.0 sources))
        (more ∙ ap (λ b. in_table links link || b) (linked-is reader sources link))
        ∙ undone (is_at (reader_cmp reader) link.1) (in_table links link) (stands_at link.0 (reads_of reader reads)) (stands_at link.0 sources) (own link)

  -- all of the reader's sources out
  pub dropped_linked : (reads2 : List (Reader × List Source)) (links2 : List (Place × Reader))
      → ((q : Reader) → sources_at q reads2 ≡ cond (is_at (reader_cmp reader) q) None (sources_at q reads)) → IsStrictlySortedBy reader_cmp (keys_of reads2)
      → ((link : Place × Reader) → in_table links2 link ≡ (in_table links link && not (is_let_go reader [] (reads_of reader reads) link)))
      → IsLinked reads2 links2
  dropped_linked reads2 links2 updated ascending left = record {
    tied = λ link. left link
        ∙ ap (λ b. in_table links link && not b) (let_go-is reader [] (reads_of reader reads) link)
        ∙ gone (is_at (reader_cmp reader) link.1) (in_table links link) (stands_at link.0 (reads_of reader reads)) (own link)
        ∙ ap (cond (is_at (reader_cmp reader) link.1) false) (ok.tied link)
        ∙ sym (taken_passes (is_at (reader_cmp reader) link.1) link.0 (sources_at link.1 reads))
        ∙ ap (passes (stands_at link.0)) (sym (updated link.1));
    ascending = ascending;
    sorted = λ q. subst (λ found. IfSome found (IsStrictlySortedBy source_cmp)) (sym (updated q)) (taken_sorted (is_at (reader_cmp reader) q) (sources_at q reads) (ok.sorted q));
  }
