-- What the cells know of what scopes have read, as scopes change, come and go.
use Rattle.std.proofs.Common.{◌≡◌, ℕ, Bool, true, false, cond, List, [], ◌∷◌, ◌++◌, ◌&&◌, ◌||◌, map, nat_eq, refl, sym, ap, subst, ◌∙◌}
use Rattle.std.specs.Prelude.{Option, Some, None, is_some, if◌then◌else◌}
use Rattle.std.specs.BTreeMap.{is_at}
use Rattle.std.specs.Ordering.{is_eq, nat_cmp}
use Rattle.rt_lemmas.proofs.Numbers.{ties_back, ties}
use Rattle.rt_cells.specs.declared.sources.Source.{Source}
use Rattle.rt_cells.specs.declared.sources.Source.TheVariants as sources
use Rattle.rt_cells.specs.declared.sources.Reader.{Reader}
use Rattle.rt_cells.specs.declared.sources.Reader.TheVariants as reader
use Rattle.rt_cells.specs.Orders.{reader_cmp, scope_cmp, source_cmp}
use Rattle.rt_cells.specs.Reads.{has, in_order, is_read_by, reads_of}
use Rattle.rt_cells.proofs.Exact.{source_exact, source_total}
use Rattle.rt_cells.proofs.InOrder.{any_in_order}
use Rattle.rt_cells.proofs.Pairs.{then_ties}
use Rattle.rt_model.specs.Lists.{at, put, without}
use Rattle.rt_model.specs.OneLog.{types}
use Rattle.rt_model.specs.Tree as tree
use Rattle.rt_model.specs.World as world
use Rattle.rt_model.specs.World.{same_source}
use Rattle.rt_model.specs.State as model
use Rattle.rt_model.specs.Commands.{names_source}
use Rattle.run_records.specs.Records.{source_of}
use Rattle.run_records.specs.Kept.{each, scope_of}
use Rattle.run_records.specs.declared.rest.Scope.{Scope}
use Rattle.run_places.specs.declared.side.Side.{Side}
use Rattle.run_places.specs.declared.side.SideName.{SideName}
use Rattle.run_places.specs.declared.side.SideName.TheVariants as sides
use Rattle.run_state.specs.Readers.{AreKnown, read_by}
use Rattle.run_state.specs.Sides.{more_number, side_put}
use Rattle.run_state.proofs.Stays.{same_changed, same_come, same_numbered, seen_changed, seen_gone}

-- sources tie where they are the same
pub same_is : (x y : Source) → is_eq (source_cmp x y) ≡ same_source (source_of y) (source_of x)
same_is (sources.Cell a) (sources.Cell b) = ties_back a b
same_is (sources.Cell a) (sources.Error t) = refl
same_is (sources.Cell a) (sources.Context k t) = refl
same_is (sources.Error s) (sources.Cell b) = refl
same_is (sources.Error s) (sources.Error t) = ties_back s.0 t.0
same_is (sources.Error s) (sources.Context k t) = refl
same_is (sources.Context j s) (sources.Cell b) = refl
same_is (sources.Context j s) (sources.Error t) = refl
same_is (sources.Context j s) (sources.Context k t) = then_ties (nat_cmp j k) (scope_cmp s t) ∙ (λ i. ties_back j k i && ties_back s.0 t.0 i)

-- a source is among others
pub has_is : (x : Source) (xs : List Source) → has x xs ≡ names_source (map source_of xs) (source_of x)
has_is x [] = refl
has_is x (y ∷ ys) = λ i. same_is x y i || has_is x ys i

-- and among the same in order
pub ordered_is : (x : Source) (xs : List Source) → has x (in_order source_cmp xs) ≡ names_source (map source_of xs) (source_of x)
ordered_is x xs = any_in_order source_total source_exact x xs ∙ has_is x xs

module _ {K : tree.Types} where
  -- what is read last by what was found under a number
  abbrev pub reads_found : Option (model.Scope K) → List world.Source
  reads_found found = elim found [ None ↦ [] | Some x ↦ x.reads ]

  -- scopes that have read the same
  pub known_same : (old new : List (ℕ × model.Scope K)) (reads : List (Reader × List Source)) → ((t : ℕ) → read_by new t ≡ read_by old t) → AreKnown old reads → AreKnown new reads
  known_same old new reads same h = record { each = λ t x. h.each t x ∙ ap (λ (ys : List world.Source). names_source ys (source_of x)) (sym (same t)) }

  -- cells that know the same of each scope
  pub known_reads : (scopes : List (ℕ × model.Scope K)) (before after : List (Reader × List Source))
      → ((s : ℕ) → reads_of (reader.Scope (record { 0 = s })) after ≡ reads_of (reader.Scope (record { 0 = s })) before) → AreKnown scopes before → AreKnown scopes after
  known_reads scopes before after same h = record { each = λ s x. ap (λ (ys : List Source). has x ys) (same s) ∙ h.each s x }

  -- one of them has read these
  pub known_written : (old new : List (ℕ × model.Scope K)) (before after : List (Reader × List Source)) (s : ℕ) (xs : List Source)
      → ((t : ℕ) → read_by new t ≡ (if nat_eq s t then map source_of xs else read_by old t))
      → ((q : Reader) → reads_of q after ≡ cond (is_at (reader_cmp (reader.Scope (record { 0 = s }))) q) (in_order source_cmp xs) (reads_of q before))
      → AreKnown old before → AreKnown new after
  known_written old new before after s xs written told h = record { each = λ t x. one t x }
    where
      by : (b : Bool) (t : ℕ) (x : Source) → has x (cond b (in_order source_cmp xs) (reads_of (reader.Scope (record { 0 = t })) before))
          ≡ names_source (if b then map source_of xs else read_by old t) (source_of x)
      by true t x = ordered_is x xs
      by false t x = h.each t x

      one : (t : ℕ) (x : Source) → is_read_by t x after ≡ names_source (read_by new t) (source_of x)
      one t x =
          ap (λ (ys : List Source). has x ys) (told (reader.Scope (record { 0 = t })))
          ∙ ap (λ b. has x (cond b (in_order source_cmp xs) (reads_of (reader.Scope (record { 0 = t })) before))) (ties s t)
          ∙ by (nat_eq s t) t x
          ∙ ap (λ (ys : List world.Source). names_source ys (source_of x)) (sym (written t))

  -- one more number leaves what was read
  reads_more : (side : model.SideName) (e : tree.Place × tree.Kind × ℕ) (x : model.Scope K) → (more_number side e x).reads ≡ x.reads
  reads_more model.MainSide e x = refl
  reads_more model.ChildrenSide e x = refl
  reads_more model.FallbackSide e x = refl

module _ {P C Q V H T E L : Type 0} where
  -- where there is no scope nothing is read
  pub known_empty : (es : List (ℕ × Scope P C Q V H T E L)) (reads : List (Reader × List Source)) → es ≡ [] → reads ≡ [] → AreKnown (each scope_of es) reads
  known_empty es reads none empty =
      subst (λ (fs : List (ℕ × Scope P C Q V H T E L)). AreKnown (each scope_of fs) reads) (sym none)
      (subst (λ (rs : List (Reader × List Source)). AreKnown {K = types C Q V H T E L} [] rs) (sym empty) nothing)
    where
      nothing : AreKnown {K = types C Q V H T E L} [] []
      nothing = record { each = λ t x. refl }

  -- other cells, of which the same is known
  pub known_kept : (es : List (ℕ × Scope P C Q V H T E L)) (before after : List (Reader × List Source)) → after ≡ before → AreKnown (each scope_of es) before → AreKnown (each scope_of es) after
  known_kept es before after same h = subst (λ (rs : List (Reader × List Source)). AreKnown (each scope_of es) rs) (sym same) h

  -- a change of a scope that leaves what it has read
  pub known_changed : (R : Scope P C Q V H T E L → Scope P C Q V H T E L → Type 0) (old new : List (ℕ × Scope P C Q V H T E L)) (s : ℕ) (reads : List (Reader × List Source))
      → (at old s ≡ None → new ≡ old)
      → ((x : Scope P C Q V H T E L) → at old s ≡ Some x → (y : Scope P C Q V H T E L) × R x y × (new ≡ put old s y))
      → ((x y : Scope P C Q V H T E L) → R x y → (y.rest).reads ≡ (x.rest).reads)
      → AreKnown (each scope_of old) reads → AreKnown (each scope_of new) reads
  known_changed R old new s reads absent changed stay h =
      known_same (each scope_of old) (each scope_of new) reads
      (same_changed (λ o. reads_found o) R old new s absent changed (λ x y ret. ap (λ (xs : List Source). map source_of xs) (stay x y ret))) h

  -- another side leaves what was read
  pub reads_put : (name : SideName) (side : Side P C Q V H T E L) (x : Scope P C Q V H T E L) → ((side_put name side x).rest).reads ≡ (x.rest).reads
  reads_put sides.Main side x = refl
  reads_put sides.Children side x = refl
  reads_put sides.Fallback side x = refl

  -- a scope that has read nothing comes
  pub known_pushed : (old new : List (ℕ × Scope P C Q V H T E L)) (s : ℕ) (x : Scope P C Q V H T E L) (reads : List (Reader × List Source)) → new ≡ old ++ (s, x) ∷ [] → (scope_of x).reads ≡ []
      → AreKnown (each scope_of old) reads → AreKnown (each scope_of new) reads
  known_pushed old new s x reads is none h = known_same (each scope_of old) (each scope_of new) reads (same_come (λ o. reads_found o) old new s x is none) h

  -- a number joins a side of a scope
  pub known_numbered : (old new : List (ℕ × Scope P C Q V H T E L)) (s : ℕ) (side : model.SideName) (e : tree.Place × tree.Kind × ℕ) (reads : List (Reader × List Source)) → is_some (at old s) ≡ true
      → ((x : Scope P C Q V H T E L) → at old s ≡ Some x → each scope_of new ≡ put (each scope_of old) s (more_number side e (scope_of x)))
      → AreKnown (each scope_of old) reads → AreKnown (each scope_of new) reads
  known_numbered old new s side e reads live made h =
      known_same (each scope_of old) (each scope_of new) reads (same_numbered (λ o. reads_found o) old new s side e live made (λ x. reads_more side e x)) h

  -- a live scope has read these, and the cells are told
  pub known_read : (R : Scope P C Q V H T E L → Scope P C Q V H T E L → Type 0) (old new : List (ℕ × Scope P C Q V H T E L)) (s : ℕ) (found : Scope P C Q V H T E L) (xs : List Source) (before after : List (Reader × List Source))
      → Some found ≡ at old s
      → ((x : Scope P C Q V H T E L) → at old s ≡ Some x → (y : Scope P C Q V H T E L) × R x y × (new ≡ put old s y))
      → ((x y : Scope P C Q V H T E L) → R x y → (y.rest).reads ≡ xs)
      → ((q : Reader) → reads_of q after ≡ cond (is_at (reader_cmp (reader.Scope (record { 0 = s }))) q) (in_order source_cmp xs) (reads_of q before))
      → AreKnown (each scope_of old) before → AreKnown (each scope_of new) after
  known_read R old new s found xs before after there changed step told h =
      known_written (each scope_of old) (each scope_of new) before after s xs
      (seen_changed (λ o. reads_found o) R old new s found there changed (map source_of xs) (λ x y ret. ap (λ (ys : List Source). map source_of ys) (step x y ret))) told h

  -- a scope goes, and the cells are told
  pub known_less : (old new : List (ℕ × Scope P C Q V H T E L)) (s : ℕ) (before after : List (Reader × List Source)) → new ≡ without old s
      → ((q : Reader) → reads_of q after ≡ cond (is_at (reader_cmp (reader.Scope (record { 0 = s }))) q) [] (reads_of q before))
      → AreKnown (each scope_of old) before → AreKnown (each scope_of new) after
  known_less old new s before after is told h =
      known_written (each scope_of old) (each scope_of new) before after s [] (seen_gone (λ o. reads_found o) old new s is) told h
