-- What the cells know of what was read into reactive contexts, as these are made, read into and gone.
use Rattle.std.proofs.Common.{◌≡◌, ℕ, Bool, true, false, cond, List, [], ◌∷◌, ◌++◌, ◌||◌, map, nat_eq, refl, sym, ap, subst, ◌∙◌}
use Rattle.std.specs.Prelude.{Option, Some, None, if◌then◌else◌}
use Rattle.std.specs.BTreeMap.{is_at}
use Rattle.std.specs.Ordering.{is_eq, nat_cmp}
use Rattle.std.specs.Cmp.{Equal-is}
use Rattle.std.specs.List.{list_any}
use Rattle.std.proofs.lemmas.Bool.{eqb-true}
use Rattle.std.proofs.lemmas.List.{map-append}
use Rattle.std.proofs.lemmas.List.Folds.{list_any-append}
use Rattle.rt_lemmas.proofs.Bools.{or_none, or_all, or_assoc}
use Rattle.rt_values.specs.declared.names.ScopeId.{ScopeId}
use Rattle.rt_cells.specs.declared.numbered.Held.{Held}
use Rattle.rt_cells.specs.declared.sources.Source.{Source}
use Rattle.rt_cells.specs.declared.sources.Target.{Target}
use Rattle.rt_cells.specs.declared.sources.Reader.{Reader}
use Rattle.rt_cells.specs.declared.sources.Reader.TheVariants as reader
use Rattle.rt_cells.specs.Cells as tracked
use Rattle.rt_cells.specs.Held.{held_at}
use Rattle.rt_cells.specs.Orders.{reader_cmp, source_cmp}
use Rattle.rt_cells.specs.Reads.{has, in_order, reads_of}
use Rattle.rt_cells.proofs.Exact.{source_exact}
use Rattle.rt_cells.proofs.HeldOnce.{ties, ties_back}
use Rattle.rt_model.specs.World as world
use Rattle.rt_model.specs.World.{same_source}
use Rattle.rt_model.specs.Commands.{names_source, one_more_source}
use Rattle.rt_model.proofs.Maps.{eq_same, pick_false, pick_true}
use Rattle.run_records.specs.Records.{source_of}
use Rattle.run_state.specs.declared.read_order.Reading.{Reading}
use Rattle.run_state.specs.Readers.{AreHeard, read_in}
use Rattle.run_state.specs.Sources.{joined, joined_all, read_into}
use Rattle.run_state.proofs.Contexts.{joined-is}
use Rattle.run_state.proofs.Known.{has_is, ordered_is, same_is}

-- what was read into the context of a number, by whether it is kept
abbrev read_found : List Source → Option (Held Target) → List world.Source
read_found xs found = elim found as (λ _. List world.Source) [ None ↦ [] | Some x ↦ map source_of xs ]

none_found : (found : Option (Held Target)) → read_found [] found ≡ []
none_found None = refl
none_found (Some x) = refl

module _ (kept : List (ℕ × Held Target)) (order : List Reading) (before after : List (Reader × List Source)) where
  -- where the reads of contexts are the same
  heard_same : ((n : ℕ) → reads_of (reader.Context n) after ≡ reads_of (reader.Context n) before) → AreHeard kept order before → AreHeard kept order after
  heard_same same h = record { each = λ n x. ap (λ (ys : List Source). has x ys) (same n) ∙ h.each n x }

  -- a scope has read others
  pub heard_reader : (s : ScopeId) (xs : List Source)
      → ((q : Reader) → reads_of q after ≡ cond (is_at (reader_cmp (reader.Scope s)) q) xs (reads_of q before)) → AreHeard kept order before → AreHeard kept order after
  heard_reader s xs told h = heard_same (λ n. told (reader.Context n)) h

-- cells with the same contexts and reads
pub heard_kept : {V : Type 0} (old new : tracked.State V) (order : List Reading) → new.contexts ≡ old.contexts → new.reads ≡ old.reads
    → AreHeard old.contexts order old.reads → AreHeard new.contexts order new.reads
heard_kept old new order same_contexts same_reads h =
    subst (λ (es : List (ℕ × Held Target)). AreHeard es order new.reads) (sym same_contexts)
    (subst (λ (rs : List (Reader × List Source)). AreHeard old.contexts order rs) (sym same_reads) h)

-- cells with the same contexts, in which a scope has read others
pub heard_told : {V : Type 0} (old new : tracked.State V) (order : List Reading) (s : ScopeId) (xs : List Source) → new.contexts ≡ old.contexts
    → ((q : Reader) → reads_of q new.reads ≡ cond (is_at (reader_cmp (reader.Scope s)) q) xs (reads_of q old.reads))
    → AreHeard old.contexts order old.reads → AreHeard new.contexts order new.reads
heard_told old new order s xs same told h =
    subst (λ (es : List (ℕ × Held Target)). AreHeard es order new.reads) (sym same) (heard_reader old.contexts order old.reads new.reads s xs told h)

-- nothing is heard where nothing is kept
pub heard_empty : {V : Type 0} (cells : tracked.State V) (order : List Reading) → cells.contexts ≡ [] → cells.reads ≡ [] → AreHeard cells.contexts order cells.reads
heard_empty cells order none silent =
    subst (λ (es : List (ℕ × Held Target)). AreHeard es order cells.reads) (sym none)
    (subst (λ (rs : List (Reader × List Source)). AreHeard [] order rs) (sym silent) nothing)
  where
    nothing : AreHeard [] order []
    nothing = record { each = λ n x. refl }

module _ (kept new : List (ℕ × Held Target)) (old later : List Reading) (before after : List (Reader × List Source)) (n : ℕ) where
  -- nothing was read into one context since it began
  pub heard_begun : ((m : ℕ) → nat_eq n m ≡ false → held_at m new ≡ held_at m kept)
      → ((q : Reader) → reads_of q after ≡ cond (is_at (reader_cmp (reader.Context n)) q) [] (reads_of q before))
      → ((m : ℕ) → read_into later m ≡ (if nat_eq n m then [] else read_into old m)) → AreHeard kept old before → AreHeard new later after
  heard_begun stay told begun h = record { each = λ m x. one m x }
    where
      by : (m : ℕ) (x : Source) (b : Bool) → nat_eq n m ≡ b → has x (cond b [] (reads_of (reader.Context m) before)) ≡ names_source (read_in new later m) (source_of x)
      by m x true q =
          sym (ap (λ (xs : List Source). names_source (read_found xs (held_at m new)) (source_of x)) (begun m ∙ pick_true [] (read_into old m) q)
          ∙ ap (λ (ys : List world.Source). names_source ys (source_of x)) (none_found (held_at m new)))
      by m x false q =
          h.each m x
          ∙ sym (ap (λ (xs : List Source). names_source (read_found xs (held_at m new)) (source_of x)) (begun m ∙ pick_false [] (read_into old m) q)
          ∙ ap (λ (o : Option (Held Target)). names_source (read_found (read_into old m) o) (source_of x)) (stay m q))

      one : (m : ℕ) (x : Source) → has x (reads_of (reader.Context m) after) ≡ names_source (read_in new later m) (source_of x)
      one m x =
          ap (λ (ys : List Source). has x ys) (told (reader.Context m))
          ∙ ap (λ b. has x (cond b [] (reads_of (reader.Context m) before))) (ties n m)
          ∙ by m x (nat_eq n m) refl

-- one more context leaves what stands under other numbers
pub held_appended : (kept : List (ℕ × Held Target)) (n m : ℕ) (x : Held Target) → nat_eq n m ≡ false → held_at m (kept ++ (n, x) ∷ []) ≡ held_at m kept
held_appended [] n m x other = ap (λ b. cond b (Some x) (held_at m [])) (ties_back m n ∙ other)
held_appended (e ∷ kept) n m x other = ap (λ o. cond (is_eq (nat_cmp m e.0)) (Some e.1) o) (held_appended kept n m x other)

-- a source is among others and one more
joined_names : (ys : List world.Source) (x y : Source) → names_source (one_more_source ys (source_of x)) (source_of y) ≡ (names_source ys (source_of y) || same_source (source_of x) (source_of y))
joined_names ys x y = by (names_source ys (source_of x)) refl
  where
    alike : same_source (source_of x) (source_of y) ≡ true → y ≡ x
    alike q = source_exact y x ((Equal-is (source_cmp y x)).0 (same_is y x ∙ q))

    by : (b : Bool) → names_source ys (source_of x) ≡ b → names_source (if b then ys else ys ++ source_of x ∷ []) (source_of y) ≡ (names_source ys (source_of y) || same_source (source_of x) (source_of y))
    by true named =
        elim (same_source (source_of x) (source_of y)) as (λ t. same_source (source_of x) (source_of y) ≡ t → names_source ys (source_of y) ≡ (names_source ys (source_of y) || t)) [
          | true ↦ λ q. ap (λ (z : Source). names_source ys (source_of z)) (alike q) ∙ named ∙ sym (or_all (names_source ys (source_of y)))
          | false ↦ λ _. sym (or_none (names_source ys (source_of y)))
        ] refl
    by false named =
        list_any-append (λ z. same_source z (source_of y)) ys (source_of x ∷ [])
        ∙ ap (λ b. names_source ys (source_of y) || b) (or_none (same_source (source_of x) (source_of y)))

-- the same of sources of code
appended_names : (xs : List Source) (x y : Source) → names_source (map source_of (xs ++ x ∷ [])) (source_of y) ≡ (names_source (map source_of xs) (source_of y) || same_source (source_of x) (source_of y))
appended_names xs x y =
    ap (λ (zs : List world.Source). names_source zs (source_of y)) (map-append source_of xs (x ∷ []))
    ∙ list_any-append (λ z. same_source z (source_of y)) (map source_of xs) (source_of x ∷ [])
    ∙ ap (λ b. names_source (map source_of xs) (source_of y) || b) (or_none (same_source (source_of x) (source_of y)))

module _ (kept : List (ℕ × Held Target)) (old later : List Reading) (before after : List (Reader × List Source)) (n : ℕ) (x : Source) (own : Held Target) where
  -- one more source was read into a context that is kept
  pub heard_read : held_at n kept ≡ Some own
      → ((q : Reader) → reads_of q after ≡ cond (is_at (reader_cmp (reader.Context n)) q) (in_order source_cmp (reads_of (reader.Context n) before ++ x ∷ [])) (reads_of q before))
      → ((m : ℕ) → read_into later m ≡ (if nat_eq n m then joined (read_into old m) x else read_into old m)) → AreHeard kept old before → AreHeard kept later after
  heard_read there told more h = record { each = λ m y. one m y }
    where
      now : List Source
      now = in_order source_cmp (reads_of (reader.Context n) before ++ x ∷ [])

      -- of the context itself
      own_reads : (y : Source) → has y now ≡ names_source (read_in kept later n) (source_of y)
      own_reads y =
          ordered_is y (reads_of (reader.Context n) before ++ x ∷ [])
          ∙ appended_names (reads_of (reader.Context n) before) x y
          ∙ ap (λ b. b || same_source (source_of x) (source_of y))
          (sym (has_is y (reads_of (reader.Context n) before)) ∙ h.each n y ∙ ap (λ (o : Option (Held Target)). names_source (read_found (read_into old n) o) (source_of y)) there)
          ∙ sym (joined_names (map source_of (read_into old n)) x y)
          ∙ ap (λ (zs : List world.Source). names_source zs (source_of y)) (sym (joined-is (read_into old n) x))
          ∙ ap (λ (xs : List Source). names_source (map source_of xs) (source_of y)) (sym (more n ∙ pick_true (joined (read_into old n) x) (read_into old n) (eq_same n)))
          ∙ ap (λ (o : Option (Held Target)). names_source (read_found (read_into later n) o) (source_of y)) (sym there)

      same_number : (m : ℕ) → nat_eq n m ≡ true → n ≡ m
      same_number m q = eqb-true n m q

      by : (m : ℕ) (y : Source) (b : Bool) → nat_eq n m ≡ b → has y (cond b now (reads_of (reader.Context m) before)) ≡ names_source (read_in kept later m) (source_of y)
      by m y true q = own_reads y ∙ ap (λ (k : ℕ). names_source (read_in kept later k) (source_of y)) (same_number m q)
      by m y false q =
          h.each m y
          ∙ ap (λ (xs : List Source). names_source (read_found xs (held_at m kept)) (source_of y)) (sym (more m ∙ pick_false (joined (read_into old m) x) (read_into old m) q))

      one : (m : ℕ) (y : Source) → has y (reads_of (reader.Context m) after) ≡ names_source (read_in kept later m) (source_of y)
      one m y =
          ap (λ (ys : List Source). has y ys) (told (reader.Context m))
          ∙ ap (λ b. has y (cond b now (reads_of (reader.Context m) before))) (ties n m)
          ∙ by m y (nat_eq n m) refl

-- a scope's contexts are gone, with what they had
pub heard_dropped : (kept left : List (ℕ × Held Target)) (order : List Reading) (before after : List (Reader × List Source)) (ns : List ℕ)
    → ((m : ℕ) → reads_of (reader.Context m) after ≡ cond (list_any (nat_eq m) ns) [] (reads_of (reader.Context m) before))
    → ((m : ℕ) → held_at m left ≡ cond (list_any (nat_eq m) ns) None (held_at m kept)) → AreHeard kept order before → AreHeard left order after
heard_dropped kept left order before after ns told gone h = record { each = λ m x. one m x }
  where
    by : (m : ℕ) (x : Source) (b : Bool) → has x (cond b [] (reads_of (reader.Context m) before)) ≡ names_source (read_found (read_into order m) (cond b None (held_at m kept))) (source_of x)
    by m x true = refl
    by m x false = h.each m x

    one : (m : ℕ) (x : Source) → has x (reads_of (reader.Context m) after) ≡ names_source (read_in left order m) (source_of x)
    one m x =
        ap (λ (ys : List Source). has x ys) (told m)
        ∙ by m x (list_any (nat_eq m) ns)
        ∙ ap (λ (o : Option (Held Target)). names_source (read_found (read_into order m) o) (source_of x)) (sym (gone m))

-- the same of cells: a context that was reset
pub heard_reset : {V : Type 0} (old new : tracked.State V) (order later : List Reading) (n : ℕ) → new.contexts ≡ old.contexts
    → ((q : Reader) → reads_of q new.reads ≡ cond (is_at (reader_cmp (reader.Context n)) q) [] (reads_of q old.reads))
    → ((m : ℕ) → read_into later m ≡ (if nat_eq n m then [] else read_into order m)) → AreHeard old.contexts order old.reads → AreHeard new.contexts later new.reads
heard_reset old new order later n same told begun h =
    heard_begun old.contexts new.contexts order later old.reads new.reads n (λ m q. ap (λ (es : List (ℕ × Held Target)). held_at m es) same) told begun h

-- one that is made
pub heard_made : {V : Type 0} (old new : tracked.State V) (order later : List Reading) (n : ℕ) (x : Held Target) → new.contexts ≡ old.contexts ++ (n, x) ∷ []
    → ((q : Reader) → reads_of q new.reads ≡ cond (is_at (reader_cmp (reader.Context n)) q) [] (reads_of q old.reads))
    → ((m : ℕ) → read_into later m ≡ (if nat_eq n m then [] else read_into order m)) → AreHeard old.contexts order old.reads → AreHeard new.contexts later new.reads
heard_made old new order later n x more told begun h =
    heard_begun old.contexts new.contexts order later old.reads new.reads n
    (λ m q. ap (λ (es : List (ℕ × Held Target)). held_at m es) more ∙ held_appended old.contexts n m x q) told begun h

-- and one into which one more source was read
pub heard_more : {V : Type 0} (old new : tracked.State V) (order later : List Reading) (n : ℕ) (x : Source) (own : Held Target) → new.contexts ≡ old.contexts → held_at n old.contexts ≡ Some own
    → ((q : Reader) → reads_of q new.reads ≡ cond (is_at (reader_cmp (reader.Context n)) q) (in_order source_cmp (reads_of (reader.Context n) old.reads ++ x ∷ [])) (reads_of q old.reads))
    → ((m : ℕ) → read_into later m ≡ (if nat_eq n m then joined (read_into order m) x else read_into order m)) → AreHeard old.contexts order old.reads → AreHeard new.contexts later new.reads
heard_more old new order later n x own same there told more h =
    subst (λ (es : List (ℕ × Held Target)). AreHeard es later new.reads) (sym same)
    (heard_read old.contexts order later old.reads new.reads n x own there told more h)

-- a source is among others and several more
all_names : (ys xs : List Source) (y : Source)
    → names_source (map source_of (joined_all ys xs)) (source_of y) ≡ (names_source (map source_of ys) (source_of y) || names_source (map source_of xs) (source_of y))
all_names ys [] y = sym (or_none (names_source (map source_of ys) (source_of y)))
all_names ys (x ∷ xs) y =
    all_names (joined ys x) xs y
    ∙ ap (λ b. b || names_source (map source_of xs) (source_of y))
    (ap (λ (zs : List world.Source). names_source zs (source_of y)) (joined-is ys x) ∙ joined_names (map source_of ys) x y)
    ∙ or_assoc (names_source (map source_of ys) (source_of y)) (same_source (source_of x) (source_of y)) (names_source (map source_of xs) (source_of y))

module _ (kept : List (ℕ × Held Target)) (old later : List Reading) (before after : List (Reader × List Source)) (n : ℕ) (xs : List Source) (own : Held Target) where
  -- just these sources were read into a context that is kept
  pub heard_these : held_at n kept ≡ Some own
      → ((q : Reader) → reads_of q after ≡ cond (is_at (reader_cmp (reader.Context n)) q) (in_order source_cmp xs) (reads_of q before))
      → ((m : ℕ) → read_into later m ≡ (if nat_eq n m then joined_all [] xs else read_into old m)) → AreHeard kept old before → AreHeard kept later after
  heard_these there told anew h = record { each = λ m y. one m y }
    where
      now : List Source
      now = in_order source_cmp xs

      -- of the context itself
      own_reads : (y : Source) → has y now ≡ names_source (read_in kept later n) (source_of y)
      own_reads y =
          ordered_is y xs
          ∙ sym (all_names [] xs y)
          ∙ ap (λ (zs : List Source). names_source (map source_of zs) (source_of y)) (sym (anew n ∙ pick_true (joined_all [] xs) (read_into old n) (eq_same n)))
          ∙ ap (λ (o : Option (Held Target)). names_source (read_found (read_into later n) o) (source_of y)) (sym there)

      same_number : (m : ℕ) → nat_eq n m ≡ true → n ≡ m
      same_number m q = eqb-true n m q

      by : (m : ℕ) (y : Source) (b : Bool) → nat_eq n m ≡ b → has y (cond b now (reads_of (reader.Context m) before)) ≡ names_source (read_in kept later m) (source_of y)
      by m y true q = own_reads y ∙ ap (λ (k : ℕ). names_source (read_in kept later k) (source_of y)) (same_number m q)
      by m y false q =
          h.each m y
          ∙ ap (λ (zs : List Source). names_source (read_found zs (held_at m kept)) (source_of y)) (sym (anew m ∙ pick_false (joined_all [] xs) (read_into old m) q))

      one : (m : ℕ) (y : Source) → has y (reads_of (reader.Context m) after) ≡ names_source (read_in kept later m) (source_of y)
      one m y =
          ap (λ (ys : List Source). has y ys) (told (reader.Context m))
          ∙ ap (λ b. has y (cond b now (reads_of (reader.Context m) before))) (ties n m)
          ∙ by m y (nat_eq n m) refl

-- and of cells: a context that was read into anew
pub heard_anew : {V : Type 0} (old new : tracked.State V) (order later : List Reading) (n : ℕ) (xs : List Source) (own : Held Target) → new.contexts ≡ old.contexts → held_at n old.contexts ≡ Some own
    → ((q : Reader) → reads_of q new.reads ≡ cond (is_at (reader_cmp (reader.Context n)) q) (in_order source_cmp xs) (reads_of q old.reads))
    → ((m : ℕ) → read_into later m ≡ (if nat_eq n m then joined_all [] xs else read_into order m)) → AreHeard old.contexts order old.reads → AreHeard new.contexts later new.reads
heard_anew old new order later n xs own same there told anew h =
    subst (λ (es : List (ℕ × Held Target)). AreHeard es later new.reads) (sym same)
    (heard_these old.contexts order later old.reads new.reads n xs own there told anew h)
