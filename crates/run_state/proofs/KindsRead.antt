-- The kinds that some reader has of a scope, as the cells know them, are those of the scopes and of the reactive contexts.
use Rattle.std.proofs.Common.{◌≡◌, ℕ, Bool, true, false, cond, List, [], ◌∷◌, ◌&&◌, ◌||◌, map, nat_eq, nat_lt, ◌==◌, refl, sym, ap, ◌∙◌}
use mathlib.Core.Bool.{true≢false}
use Rattle.std.specs.Prelude.{Option, Some, None, if◌then◌else◌}
use Rattle.std.specs.declared.cmp.Ordering.TheVariants.{Less, Equal, Greater}
use Rattle.std.specs.BTreeSet.{insert_key}
use Rattle.std.specs.Ordering.{is_eq, is_lt, eq_by_cmp, match_ordering, nat_cmp}
use Rattle.std.specs.Cmp.{both_ways, nat_cmp_total}
use Rattle.std.specs.FinMap.{nat_cmp-IsAntisymmetric}
use Rattle.std.specs.List.{list_any}
use Rattle.std.specs.List.Sorted.{IsStrictlySortedBy}
use Rattle.std.proofs.lemmas.Bool.{eqb-true}
use Rattle.rt_lemmas.proofs.Bools.{and_false as both_false, or_none, and_true as both_true, or_assoc}
use Rattle.rt_cells.specs.declared.numbered.Held.{Held}
use Rattle.rt_cells.specs.declared.sources.Source.{Source}
use Rattle.rt_cells.specs.declared.sources.Source.TheVariants as sources
use Rattle.rt_cells.specs.declared.sources.Target.{Target}
use Rattle.rt_cells.specs.declared.sources.Reader.{Reader}
use Rattle.rt_cells.specs.declared.sources.Reader.TheVariants as reader
use Rattle.rt_cells.specs.Held.{held_at}
use Rattle.rt_cells.specs.Index.{passes}
use Rattle.rt_cells.specs.Reads.{has, reads_of}
use Rattle.rt_cells.proofs.HeldOnce.{ties_back}
use Rattle.rt_cells.proofs.InOrder.{any_inserted, sorted_inserted}
use Rattle.rt_cells.proofs.Pairs.{entry_passes}
use Rattle.rt_cells.proofs.Sorted.{none_in_order, same_list}
use Rattle.rt_model.specs.Lists.{at, insert_number}
use Rattle.rt_model.specs.OneLog.{types}
use Rattle.rt_model.specs.Tree.{Types}
use Rattle.rt_model.specs.World as world
use Rattle.rt_model.specs.State as model
use Rattle.rt_model.specs.Commands.{names_source}
use Rattle.rt_model.specs.Removal.{kinds_in, kinds_of_scopes, kinds_of_contexts}
use Rattle.rt_model.proofs.Maps.{by_test, eq_same, pick_false, pick_true}
use Rattle.rt_model.proofs.Members.{or_left, or_right}
use Rattle.run_records.specs.Records.{source_of}
use Rattle.run_records.specs.declared.rest.Scope.{Scope}
use Rattle.run_table.specs.Found.{Ascends}
use Rattle.run_records.specs.Kept.{scope_of}
use Rattle.run_state.specs.declared.read_order.Reading.{Reading}
use Rattle.run_state.specs.Mirror.{contexts_of, scopes_of}
use Rattle.run_state.specs.Readers.{AreHeard, AreKnown, read_by, read_in}
use Rattle.run_state.specs.Sources.{read_into}
use Rattle.run_state.proofs.Contexts.{Rising}
use Rattle.run_state.proofs.Known.{has_is}
use Rattle.run_state.proofs.Risen.{rises, rises_each}
use Rattle.run_state.proofs.Told.{lookup_at, rising}

-- a number is among numbers
abbrev among : ℕ → List ℕ → Bool
among q ks = list_any (eq_by_cmp nat_cmp q) ks

less_is : (a b : Bool) → is_lt (cond a Less (cond b Equal Greater)) ≡ a
less_is true b = refl
less_is false true = refl
less_is false false = refl

lower : (a b : ℕ) → is_lt (nat_cmp a b) ≡ nat_lt a b
lower a b = less_is (nat_lt a b) (a == b)

-- a number takes its place as a key does
placed : (ks : List ℕ) (n : ℕ) → insert_number ks n ≡ insert_key nat_cmp ks n
placed [] n = refl
placed (k ∷ ks) n =
    elim (nat_cmp n k) as (λ r. nat_cmp n k ≡ r → insert_number (k ∷ ks) n ≡ match_ordering r (n ∷ k ∷ ks) (k ∷ ks) (k ∷ insert_key nat_cmp ks n)) [
      | Less ↦ λ e. pick_false (k ∷ ks) (if nat_lt n k then n ∷ k ∷ ks else k ∷ insert_number ks n) (sym (ties_back n k) ∙ ap is_eq e)
          ∙ pick_true (n ∷ k ∷ ks) (k ∷ insert_number ks n) (sym (lower n k) ∙ ap is_lt e)
      | Equal ↦ λ e. pick_true (k ∷ ks) (if nat_lt n k then n ∷ k ∷ ks else k ∷ insert_number ks n) (sym (ties_back n k) ∙ ap is_eq e)
      | Greater ↦ λ e. pick_false (k ∷ ks) (if nat_lt n k then n ∷ k ∷ ks else k ∷ insert_number ks n) (sym (ties_back n k) ∙ ap is_eq e)
          ∙ pick_false (n ∷ k ∷ ks) (k ∷ insert_number ks n) (sym (lower n k) ∙ ap is_lt e)
          ∙ ap (λ xs. k ∷ xs) (placed ks n)
    ] refl

-- they ascend then, with the number among them
ascends_put : (ks : List ℕ) (n : ℕ) → IsStrictlySortedBy nat_cmp ks → IsStrictlySortedBy nat_cmp (insert_number ks n)
ascends_put ks n sorted = rw (placed ks n) (sorted_inserted nat_cmp_total ks n sorted)

among_put : (q n : ℕ) (ks : List ℕ) → among q (insert_number ks n) ≡ (nat_eq n q || among q ks)
among_put q n ks =
    ap (among q) (placed ks n)
    ∙ any_inserted nat_cmp_total nat_cmp-IsAntisymmetric q ks n
    ∙ ap (λ b. b || among q ks) (ties_back q n)

turned : (a b c : Bool) → ((b || a) || c) ≡ (a || (b || c))
turned true true c = refl
turned true false c = refl
turned false true c = refl
turned false false c = refl

-- of what some entry passes an entry of a key passes
entry_of : {X : Type 0} (p : X → Bool) (es : List (ℕ × X)) → list_any (λ e. p e.1) es ≡ true → (t : ℕ) × (list_any (λ e. p e.1 && eq_by_cmp nat_cmp t e.0) es ≡ true)
entry_of p [] h = absurd (true≢false (sym h))
entry_of p (e ∷ es) h =
    elim (p e.1) as (λ b. (b || list_any (λ d. p d.1) es) ≡ true → (t : ℕ) × (((b && eq_by_cmp nat_cmp t e.0) || list_any (λ d. p d.1 && eq_by_cmp nat_cmp t d.0) es) ≡ true)) [
      | true ↦ λ _. (e.0, ap (λ b. b || list_any (λ d. p d.1 && eq_by_cmp nat_cmp e.0 d.0) es) (ties_back e.0 e.0 ∙ eq_same e.0))
      | false ↦ λ rest. entry_of p es rest
    ] h

module _ (s : ℕ) where
  ascends_in : (xs : List world.Source) (ks : List ℕ) → IsStrictlySortedBy nat_cmp ks → IsStrictlySortedBy nat_cmp (kinds_in s xs ks)
  ascends_in [] ks sorted = sorted
  ascends_in (world.Cell n ∷ xs) ks sorted = ascends_in xs ks sorted
  ascends_in (world.Error t ∷ xs) ks sorted = ascends_in xs ks sorted
  ascends_in (world.Context k t ∷ xs) ks sorted =
      elim (nat_eq t s) as (λ b. IsStrictlySortedBy nat_cmp (kinds_in s xs (if b then insert_number ks k else ks))) [
        | true ↦ ascends_in xs (insert_number ks k) (ascends_put ks k sorted)
        | false ↦ ascends_in xs ks sorted
      ]

  -- the kinds of sources, with others
  among_in : (q : ℕ) (xs : List world.Source) (ks : List ℕ) → among q (kinds_in s xs ks) ≡ (among q ks || names_source xs (world.Context q s))
  among_in q [] ks = sym (or_none (among q ks))
  among_in q (world.Cell n ∷ xs) ks = among_in q xs ks
  among_in q (world.Error t ∷ xs) ks = among_in q xs ks
  among_in q (world.Context k t ∷ xs) ks =
      elim (nat_eq t s) as (λ b. among q (kinds_in s xs (if b then insert_number ks k else ks)) ≡ (among q ks || ((nat_eq k q && b) || names_source xs (world.Context q s)))) [
        | true ↦ among_in q xs (insert_number ks k)
            ∙ ap (λ b. b || names_source xs (world.Context q s)) (among_put q k ks)
            ∙ turned (among q ks) (nat_eq k q) (names_source xs (world.Context q s))
            ∙ ap (λ b. among q ks || (b || names_source xs (world.Context q s))) (sym (both_true (nat_eq k q)))
        | false ↦ among_in q xs ks ∙ ap (λ b. among q ks || (b || names_source xs (world.Context q s))) (sym (both_false (nat_eq k q)))
      ]

  module _ {K : Types} where
    -- some scope has read the source, and into some context it was read
    abbrev scopes_name : List (ℕ × model.Scope K) → world.Source → Bool
    scopes_name es x = list_any (λ e. names_source (e.1).reads x) es

    abbrev contexts_name : List (ℕ × model.ContextRow K) → world.Source → Bool
    contexts_name es x = list_any (λ e. names_source (e.1).sources x) es

    ascends_scopes : (es : List (ℕ × model.Scope K)) (ks : List ℕ) → IsStrictlySortedBy nat_cmp ks → IsStrictlySortedBy nat_cmp (kinds_of_scopes s es ks)
    ascends_scopes [] ks sorted = sorted
    ascends_scopes (e ∷ es) ks sorted = ascends_scopes es (kinds_in s (e.1).reads ks) (ascends_in (e.1).reads ks sorted)

    ascends_contexts : (es : List (ℕ × model.ContextRow K)) (ks : List ℕ) → IsStrictlySortedBy nat_cmp ks → IsStrictlySortedBy nat_cmp (kinds_of_contexts s es ks)
    ascends_contexts [] ks sorted = sorted
    ascends_contexts (e ∷ es) ks sorted = ascends_contexts es (kinds_in s (e.1).sources ks) (ascends_in (e.1).sources ks sorted)

    among_scopes : (q : ℕ) (es : List (ℕ × model.Scope K)) (ks : List ℕ) → among q (kinds_of_scopes s es ks) ≡ (among q ks || scopes_name es (world.Context q s))
    among_scopes q [] ks = sym (or_none (among q ks))
    among_scopes q (e ∷ es) ks =
        among_scopes q es (kinds_in s (e.1).reads ks)
        ∙ ap (λ b. b || scopes_name es (world.Context q s)) (among_in q (e.1).reads ks)
        ∙ or_assoc (among q ks) (names_source (e.1).reads (world.Context q s)) (scopes_name es (world.Context q s))

    among_contexts : (q : ℕ) (es : List (ℕ × model.ContextRow K)) (ks : List ℕ) → among q (kinds_of_contexts s es ks) ≡ (among q ks || contexts_name es (world.Context q s))
    among_contexts q [] ks = sym (or_none (among q ks))
    among_contexts q (e ∷ es) ks =
        among_contexts q es (kinds_in s (e.1).sources ks)
        ∙ ap (λ b. b || contexts_name es (world.Context q s)) (among_in q (e.1).sources ks)
        ∙ or_assoc (among q ks) (names_source (e.1).sources (world.Context q s)) (contexts_name es (world.Context q s))

    -- what a live scope has read some scope has
    scope_names : (es : List (ℕ × model.Scope K)) (t : ℕ) (x : world.Source) → names_source (read_by es t) x ≡ true → scopes_name es x ≡ true
    scope_names [] t x h = h
    scope_names (e ∷ es) t x h = by (nat_eq e.0 t) h (λ rest. scope_names es t x rest)
      where
        by : (b : Bool) → names_source (elim (if b then Some e.1 else at es t) as (λ _. List world.Source) [ None ↦ [] | Some y ↦ y.reads ]) x ≡ true
            → (names_source (read_by es t) x ≡ true → scopes_name es x ≡ true) → (names_source (e.1).reads x || scopes_name es x) ≡ true
        by true own rest = or_left (names_source (e.1).reads x) (scopes_name es x) own
        by false own rest = or_right (names_source (e.1).reads x) (scopes_name es x) (rest own)

    -- of what some scope has read a live one has
    reader_of : (es : List (ℕ × model.Scope K)) (x : world.Source) → Rising es → scopes_name es x ≡ true → (t : ℕ) × (names_source (read_by es t) x ≡ true)
    reader_of es x up h =
        let found = entry_of (λ (y : model.Scope K). names_source y.reads x) es h in (
          found.0,
          read_passes (at es found.0)
              ∙ ap (λ o. passes (λ (y : model.Scope K). names_source y.reads x) o) (sym (lookup_at es found.0))
              ∙ sym (entry_passes nat_cmp nat_cmp_total (λ (y : model.Scope K). names_source y.reads x) found.0 es up)
              ∙ found.1,
        )
      where
        read_passes : (o : Option (model.Scope K)) → names_source (elim o as (λ _. List world.Source) [ None ↦ [] | Some y ↦ y.reads ]) x ≡ passes (λ (y : model.Scope K). names_source y.reads x) o
        read_passes None = refl
        read_passes (Some y) = refl

module _ (C Q V H T E L : Type 0) (s : ℕ) (order : List Reading) where
  abbrev rows_of : List (ℕ × Held Target) → List (ℕ × model.ContextRow (types C Q V H T E L))
  rows_of es = contexts_of order es

  -- what was read into a kept context was read into some
  context_names : (es : List (ℕ × Held Target)) (n : ℕ) (x : world.Source) → names_source (read_in es order n) x ≡ true → contexts_name s (rows_of es) x ≡ true
  context_names [] n x h = h
  context_names (e ∷ es) n x h = by_test (nat_eq e.0 n)
      (λ q. or_left (names_source (map source_of (read_into order e.0)) x) (contexts_name s (rows_of es) x)
      (ap (λ (m : ℕ). names_source (map source_of (read_into order m)) x) (eqb-true e.0 n q) ∙ sym (found q) ∙ h))
      (λ q. or_right (names_source (map source_of (read_into order e.0)) x) (contexts_name s (rows_of es) x) (context_names es n x (sym (found q) ∙ h)))
    where
      found : {b : Bool} → nat_eq e.0 n ≡ b
          → names_source (read_in (e ∷ es) order n) x ≡ names_source (elim (cond b (Some e.1) (held_at n es)) as (λ _. List world.Source) [ None ↦ [] | Some y ↦ map source_of (read_into order n) ]) x
      found q = ap (λ b. names_source (elim (cond b (Some e.1) (held_at n es)) as (λ _. List world.Source) [ None ↦ [] | Some y ↦ map source_of (read_into order n) ]) x) (ties_back n e.0 ∙ q)

  -- and what was read into some was read into a kept one
  context_of_some : (es : List (ℕ × Held Target)) (x : world.Source) → contexts_name s (rows_of es) x ≡ true → (n : ℕ) × (names_source (read_in es order n) x ≡ true)
  context_of_some [] x h = absurd (true≢false (sym h))
  context_of_some (e ∷ es) x h =
      elim (names_source (map source_of (read_into order e.0)) x) as (λ b. names_source (map source_of (read_into order e.0)) x ≡ b → (b || contexts_name s (rows_of es) x) ≡ true → (n : ℕ) × (names_source (read_in (e ∷ es) order n) x ≡ true)) [
        | true ↦ λ own _. (e.0, here e.0 (ties_back e.0 e.0 ∙ eq_same e.0) ∙ own)
        | false ↦ λ _ rest. further (context_of_some es x rest)
      ] refl h
    where
      here : (n : ℕ) → is_eq (nat_cmp n e.0) ≡ true → names_source (read_in (e ∷ es) order n) x ≡ names_source (map source_of (read_into order n)) x
      here n q = ap (λ b. names_source (elim (cond b (Some e.1) (held_at n es)) as (λ _. List world.Source) [ None ↦ [] | Some y ↦ map source_of (read_into order n) ]) x) q

      kept_on : (n : ℕ) (o : Option (Held Target)) (b : Bool) → names_source (elim o as (λ _. List world.Source) [ None ↦ [] | Some y ↦ map source_of (read_into order n) ]) x ≡ true
          → names_source (elim (cond b (Some e.1) o) as (λ _. List world.Source) [ None ↦ [] | Some y ↦ map source_of (read_into order n) ]) x ≡ true
      kept_on n None b read = absurd (true≢false (sym read))
      kept_on n (Some y) true read = read
      kept_on n (Some y) false read = read

      further : (n : ℕ) × (names_source (read_in es order n) x ≡ true) → (n : ℕ) × (names_source (read_in (e ∷ es) order n) x ≡ true)
      further found = (found.0, kept_on found.0 (held_at found.0 es) (is_eq (nat_cmp found.0 e.0)) found.1)

module _ {P C Q V H T E L : Type 0} (s : ℕ) (rows : List (ℕ × Scope P C Q V H T E L)) (kept : List (ℕ × Held Target)) (order : List Reading) (reads : List (Reader × List Source)) (xs : List Source)
    (known : AreKnown (scopes_of rows) reads) (heard : AreHeard kept order reads)
    (read : (q : Reader) (kind : ℕ) → has (sources.Context kind (record { 0 = s })) (reads_of q reads) ≡ true → has (sources.Context kind (record { 0 = s })) xs ≡ true)
    (only : (kind : ℕ) → has (sources.Context kind (record { 0 = s })) xs ≡ true → (q : Reader) × (has (sources.Context kind (record { 0 = s })) (reads_of q reads) ≡ true)) where
  abbrev scopes : List (ℕ × model.Scope (types C Q V H T E L))
  scopes = scopes_of rows

  abbrev contexts : List (ℕ × model.ContextRow (types C Q V H T E L))
  contexts = contexts_of order kept

  abbrev one : ℕ → Source
  one q = sources.Context q (record { 0 = s })

  -- a kind that is listed some scope or context has
  listed : (q : ℕ) → names_source (map source_of xs) (world.Context q s) ≡ true → (scopes_name s scopes (world.Context q s) || contexts_name s contexts (world.Context q s)) ≡ true
  listed q h =
      let found = only q (has_is (one q) xs ∙ h) in
      by found.0 found.1
    where
      by : (r : Reader) → has (one q) (reads_of r reads) ≡ true → (scopes_name s scopes (world.Context q s) || contexts_name s contexts (world.Context q s)) ≡ true
      by (reader.Scope t) read_it =
          or_left (scopes_name s scopes (world.Context q s)) (contexts_name s contexts (world.Context q s))
          (scope_names s scopes t.0 (world.Context q s) (sym (known.each t.0 (one q)) ∙ read_it))
      by (reader.Context n) read_it =
          or_right (scopes_name s scopes (world.Context q s)) (contexts_name s contexts (world.Context q s))
          (context_names C Q V H T E L s order kept n (world.Context q s) (sym (heard.each n (one q)) ∙ read_it))

  -- and one that a context has is listed
  context_listed : (q : ℕ) → contexts_name s contexts (world.Context q s) ≡ true → names_source (map source_of xs) (world.Context q s) ≡ true
  context_listed q h =
      let found = context_of_some C Q V H T E L s order kept (world.Context q s) h in
      sym (has_is (one q) xs) ∙ read (reader.Context found.0) q (heard.each found.0 (one q) ∙ found.1)

  -- so is one that a scope has, where numbers rise
  scope_listed : Ascends rows → (q : ℕ) → scopes_name s scopes (world.Context q s) ≡ true → names_source (map source_of xs) (world.Context q s) ≡ true
  scope_listed up q h =
      let found = reader_of s scopes (world.Context q s) (rising scopes (rises_each scope_of rows (rises rows up))) h in
      sym (has_is (one q) xs) ∙ read (reader.Scope (record { 0 = found.0 })) q (known.each found.0 (one q) ∙ found.1)

  abbrev all_kinds : List ℕ
  all_kinds = kinds_of_contexts s contexts (kinds_of_scopes s scopes [])

  among_all : (q : ℕ) → among q all_kinds ≡ (scopes_name s scopes (world.Context q s) || contexts_name s contexts (world.Context q s))
  among_all q = among_contexts s q contexts (kinds_of_scopes s scopes []) ∙ ap (λ b. b || contexts_name s contexts (world.Context q s)) (among_scopes s q scopes [])

  ascends_all : IsStrictlySortedBy nat_cmp all_kinds
  ascends_all = ascends_contexts s contexts (kinds_of_scopes s scopes []) (ascends_scopes s scopes [] (none_in_order nat_cmp))

  -- of rows that rise the listed kinds are all
  pub listed_kinds : Ascends rows → kinds_in s (map source_of xs) [] ≡ kinds_of_contexts s contexts (kinds_of_scopes s scopes [])
  listed_kinds up =
      same_list nat_cmp_total nat_cmp-IsAntisymmetric (kinds_in s (map source_of xs) []) all_kinds (ascends_in s (map source_of xs) [] (none_in_order nat_cmp)) ascends_all
      (λ q. among_in s q (map source_of xs) [] ∙ both_ways _ _ (listed q) (λ h. either q h) ∙ sym (among_all q))
    where
      split : (q : ℕ) (a b : Bool) → scopes_name s scopes (world.Context q s) ≡ a → contexts_name s contexts (world.Context q s) ≡ b → (a || b) ≡ true → names_source (map source_of xs) (world.Context q s) ≡ true
      split q true b first second h = scope_listed up q first
      split q false b first second h = context_listed q (second ∙ h)

      either : (q : ℕ) → (scopes_name s scopes (world.Context q s) || contexts_name s contexts (world.Context q s)) ≡ true → names_source (map source_of xs) (world.Context q s) ≡ true
      either q h = split q (scopes_name s scopes (world.Context q s)) (contexts_name s contexts (world.Context q s)) refl refl h

  -- and else with those of each scope
  pub listed_more : kinds_in s (map source_of xs) (kinds_of_scopes s scopes []) ≡ kinds_of_contexts s contexts (kinds_of_scopes s scopes [])
  listed_more =
      same_list nat_cmp_total nat_cmp-IsAntisymmetric (kinds_in s (map source_of xs) (kinds_of_scopes s scopes [])) all_kinds
      (ascends_in s (map source_of xs) (kinds_of_scopes s scopes []) (ascends_scopes s scopes [] (none_in_order nat_cmp))) ascends_all
      (λ q. among_in s q (map source_of xs) (kinds_of_scopes s scopes [])
      ∙ ap (λ b. b || names_source (map source_of xs) (world.Context q s)) (among_scopes s q scopes [])
      ∙ both_ways _ _ (λ h. onward q h) (λ h. backward q h)
      ∙ sym (among_all q))
    where
      by_first : (a b c : Bool) → (b ≡ true → (a || c) ≡ true) → (a || b) ≡ true → (a || c) ≡ true
      by_first true b c f h = refl
      by_first false b c f h = f h

      onward : (q : ℕ) → (scopes_name s scopes (world.Context q s) || names_source (map source_of xs) (world.Context q s)) ≡ true → (scopes_name s scopes (world.Context q s) || contexts_name s contexts (world.Context q s)) ≡ true
      onward q h = by_first (scopes_name s scopes (world.Context q s)) (names_source (map source_of xs) (world.Context q s)) (contexts_name s contexts (world.Context q s)) (listed q) h

      backward : (q : ℕ) → (scopes_name s scopes (world.Context q s) || contexts_name s contexts (world.Context q s)) ≡ true → (scopes_name s scopes (world.Context q s) || names_source (map source_of xs) (world.Context q s)) ≡ true
      backward q h = by_first (scopes_name s scopes (world.Context q s)) (contexts_name s contexts (world.Context q s)) (names_source (map source_of xs) (world.Context q s))
          (λ g. or_right (scopes_name s scopes (world.Context q s)) (names_source (map source_of xs) (world.Context q s)) (context_listed q g)) h
