-- Those who read a source, met as the cells know them: scopes by number first, and then reactive contexts by theirs.
use Rattle.std.proofs.Common.{◌≡◌, ℕ, ◌<◌, Bool, true, false, cond, List, [], ◌∷◌, ◌++◌, ◌||◌, length, map, nat_eq, refl, sym, ap, ◌∙◌, append_assoc, arith}
use Rattle.std.specs.Prelude.{⊤, Option, Some, None, is_some, option_map, if◌then◌else◌}
use Rattle.std.specs.declared.cmp.Ordering.TheVariants.{Less, Equal, Greater}
use Rattle.std.specs.BTreeMap.{is_at}
use Rattle.std.specs.Ordering.{is_eq, eq_by_cmp, nat_cmp, on}
use Rattle.std.specs.Cmp.{nat_cmp_total, ranked, tied_itself}
use Rattle.std.specs.FinMap.{nat_cmp-IsAntisymmetric}
use Rattle.std.specs.List.{list_any, filter, AllByRecursion}
use Rattle.std.specs.List.Sorted.{IsStrictlySortedBy}
use Rattle.std.specs.Map.{keys_of, lookup}
use Rattle.std.proofs.lemmas.Bool.{eqb-true}
use Rattle.std.proofs.lemmas.Map.Keys.{sorted_head, sorted_tail}
use Rattle.rt_values.specs.declared.names.ScopeId.{ScopeId}
use Rattle.rt_cells.specs.declared.numbered.Held.{Held}
use Rattle.rt_cells.specs.declared.sources.Source.{Source}
use Rattle.rt_cells.specs.declared.sources.Target.{Target}
use Rattle.rt_cells.specs.declared.sources.Target.TheVariants as targets
use Rattle.rt_cells.specs.declared.sources.Reader.{Reader}
use Rattle.rt_cells.specs.declared.sources.Reader.TheVariants as reader
use Rattle.rt_cells.specs.Held.{held_at}
use Rattle.rt_cells.specs.Index.{passes}
use Rattle.rt_cells.specs.Orders.{reader_cmp}
use Rattle.rt_cells.specs.Reads.{has, reads_of}
use Rattle.rt_cells.proofs.HeldOnce.{ties_back}
use Rattle.rt_cells.proofs.Pairs.{any-map, any-filter, entry_passes, sorted_entries, sorted_kept}
use Rattle.rt_cells.proofs.Sorted.{same_list}
use Rattle.rt_model.specs.Lists.{at}
use Rattle.rt_model.specs.OneLog.{types}
use Rattle.rt_model.specs.Tree.{Types}
use Rattle.rt_model.specs.World as world
use Rattle.rt_model.specs.State as model
use Rattle.rt_model.specs.Commands.{names_source, post_target, readers, tell, tell_contexts}
use Rattle.rt_model.proofs.Maps.{eq_same, pick_false, pick_true}
use Rattle.run_records.specs.Records.{source_of, target_of}
use Rattle.run_records.specs.Kept.{each, scope_of}
use Rattle.run_records.specs.declared.rest.Scope.{Scope}
use Rattle.run_table.specs.Found.{Ascends}
use Rattle.run_state.specs.declared.read_order.Reading.{Reading}
use Rattle.run_state.specs.declared.state.TaskRow.{TaskRow}
use Rattle.run_state.specs.Mirror.{contexts_of, scopes_of}
use Rattle.run_state.specs.Posts.{mark_of, posts_of_all, posts_of_found, posts_of_target, stands_in, targets_in, told_targets}
use Rattle.run_state.specs.Readers.{AreHeard, AreKnown, read_by, read_in}
use Rattle.run_state.specs.Sources.{read_into}
use Rattle.run_state.proofs.Contexts.{Rising, less_apart}
use Rattle.run_state.proofs.Risen.{Above, Rises, rises, rises_each}
use Rattle.run_state.proofs.Posts.{append_none, with_posts}

-- the numbers of the scopes among readers, and of the reactive contexts
abbrev scopes_met : List Reader → List ℕ
scopes_met [] = []
scopes_met (reader.Scope s ∷ rs) = s.0 ∷ scopes_met rs
scopes_met (reader.Context n ∷ rs) = scopes_met rs

abbrev contexts_met : List Reader → List ℕ
contexts_met [] = []
contexts_met (reader.Scope s ∷ rs) = contexts_met rs
contexts_met (reader.Context n ∷ rs) = n ∷ contexts_met rs

-- after a reactive context no scope comes
no_scopes : (n : ℕ) (rs : List Reader) → AllByRecursion (λ r. reader_cmp (reader.Context n) r ≡ Less) rs → scopes_met rs ≡ []
no_scopes n [] all = refl
no_scopes n (reader.Scope s ∷ rs) all = absurd (cc all.0)
no_scopes n (reader.Context m ∷ rs) all = no_scopes n rs all.1

all_scopes : (s : ScopeId) (rs : List Reader) → AllByRecursion (λ r. reader_cmp (reader.Scope s) r ≡ Less) rs → AllByRecursion (λ k. nat_cmp s.0 k ≡ Less) (scopes_met rs)
all_scopes s [] all = tt
all_scopes s (reader.Scope t ∷ rs) all = (all.0, all_scopes s rs all.1)
all_scopes s (reader.Context m ∷ rs) all = all_scopes s rs all.1

all_contexts : (n : ℕ) (rs : List Reader) → AllByRecursion (λ r. reader_cmp (reader.Context n) r ≡ Less) rs → AllByRecursion (λ k. nat_cmp n k ≡ Less) (contexts_met rs)
all_contexts n [] all = tt
all_contexts n (reader.Scope t ∷ rs) all = all_contexts n rs all.1
all_contexts n (reader.Context m ∷ rs) all = (all.0, all_contexts n rs all.1)

-- both ascend where the readers do
sorted_scopes : (rs : List Reader) → IsStrictlySortedBy reader_cmp rs → IsStrictlySortedBy nat_cmp (scopes_met rs)
unfolding IsStrictlySortedBy
sorted_scopes [] sorted = tt
sorted_scopes (reader.Scope s ∷ rs) sorted = (all_scopes s rs (sorted_head reader_cmp (reader.Scope s) rs sorted), sorted_scopes rs (sorted_tail reader_cmp (reader.Scope s) rs sorted))
sorted_scopes (reader.Context n ∷ rs) sorted = sorted_scopes rs (sorted_tail reader_cmp (reader.Context n) rs sorted)

sorted_contexts : (rs : List Reader) → IsStrictlySortedBy reader_cmp rs → IsStrictlySortedBy nat_cmp (contexts_met rs)
unfolding IsStrictlySortedBy
sorted_contexts [] sorted = tt
sorted_contexts (reader.Scope s ∷ rs) sorted = sorted_contexts rs (sorted_tail reader_cmp (reader.Scope s) rs sorted)
sorted_contexts (reader.Context n ∷ rs) sorted = (all_contexts n rs (sorted_head reader_cmp (reader.Context n) rs sorted), sorted_contexts rs (sorted_tail reader_cmp (reader.Context n) rs sorted))

-- who is among them
scopes_among : (s : ℕ) (rs : List Reader) → list_any (eq_by_cmp nat_cmp s) (scopes_met rs) ≡ list_any (is_at (reader_cmp (reader.Scope (record { 0 = s })))) rs
scopes_among s [] = refl
scopes_among s (reader.Scope t ∷ rs) = ap (λ b. is_eq (nat_cmp s t.0) || b) (scopes_among s rs)
scopes_among s (reader.Context m ∷ rs) = scopes_among s rs

contexts_among : (n : ℕ) (rs : List Reader) → list_any (eq_by_cmp nat_cmp n) (contexts_met rs) ≡ list_any (is_at (reader_cmp (reader.Context n))) rs
contexts_among n [] = refl
contexts_among n (reader.Scope t ∷ rs) = contexts_among n rs
contexts_among n (reader.Context m ∷ rs) = ap (λ b. is_eq (nat_cmp n m) || b) (contexts_among n rs)

module _ (live waits : ℕ → Bool) (found : ℕ → Option Target) where
  -- the marks of scopes, and the posts of contexts, one after another
  abbrev marks_of_all : List ℕ → List model.Posted
  marks_of_all [] = []
  marks_of_all (s ∷ ss) = mark_of live s ++ marks_of_all ss

  abbrev founds_of_all : List ℕ → List model.Posted
  founds_of_all [] = []
  founds_of_all (n ∷ ns) = posts_of_found live waits (found n) ++ founds_of_all ns

  -- readers in order: the scopes first
  parted : (b : Bool) (rs : List Reader) → IsStrictlySortedBy reader_cmp rs
      → posts_of_all b live waits found rs ≡ (if b then marks_of_all (scopes_met rs) else []) ++ founds_of_all (contexts_met rs)
  parted true [] sorted = refl
  parted false [] sorted = refl
  parted true (reader.Scope s ∷ rs) sorted =
      ap (λ ps. mark_of live s.0 ++ ps) (parted true rs (sorted_tail reader_cmp (reader.Scope s) rs sorted))
      ∙ sym (append_assoc (mark_of live s.0) (marks_of_all (scopes_met rs)) (founds_of_all (contexts_met rs)))
  parted false (reader.Scope s ∷ rs) sorted = parted false rs (sorted_tail reader_cmp (reader.Scope s) rs sorted)
  parted true (reader.Context n ∷ rs) sorted =
      let none : scopes_met rs ≡ [] = no_scopes n rs (sorted_head reader_cmp (reader.Context n) rs sorted) in
      ap (λ ps. posts_of_found live waits (found n) ++ ps) (parted true rs (sorted_tail reader_cmp (reader.Context n) rs sorted))
      ∙ ap (λ ss. posts_of_found live waits (found n) ++ (marks_of_all ss ++ founds_of_all (contexts_met rs))) none
      ∙ sym (ap (λ ss. marks_of_all ss ++ (posts_of_found live waits (found n) ++ founds_of_all (contexts_met rs))) none)
  parted false (reader.Context n ∷ rs) sorted =
      ap (λ ps. posts_of_found live waits (found n) ++ ps) (parted false rs (sorted_tail reader_cmp (reader.Context n) rs sorted))

-- a lower number compares as less
less_by : (m n : ℕ) → m < n → nat_cmp m n ≡ Less
less_by m n low = elim (nat_cmp m n) as (λ r. nat_cmp m n ≡ r → r ≡ Less) [
  | Less ↦ λ _. refl
  | Equal ↦ λ e. absurd (omega (arith, low, ranked m n Equal (sym e)))
  | Greater ↦ λ e. absurd (omega (arith, low, ranked m n Greater (sym e)))
] refl

module _ {X : Type 0} where
  -- what is looked for by comparing is what stands under the number
  pub lookup_at : (es : List (ℕ × X)) (n : ℕ) → lookup (is_at (nat_cmp n)) es ≡ at es n
  lookup_at [] n = refl
  lookup_at (e ∷ es) n =
      ap (λ b. cond b (Some e.1) (lookup (is_at (nat_cmp n)) es)) (ties_back n e.0) ∙ ap (λ r. cond (nat_eq e.0 n) (Some e.1) r) (lookup_at es n)

  -- the numbers of those that pass
  abbrev pub named : (X → Bool) → List (ℕ × X) → List ℕ
  named p es = map (λ e. e.0) (filter (λ e. p e.1) es)

  -- numbers in order that are just these
  pub same_named : (p : X → Bool) (es : List (ℕ × X)) (ns : List ℕ) → Rising es → IsStrictlySortedBy nat_cmp ns
      → ((q : ℕ) → list_any (eq_by_cmp nat_cmp q) ns ≡ passes p (at es q)) → ns ≡ named p es
  same_named p es ns up sorted same =
      same_list nat_cmp_total nat_cmp-IsAntisymmetric ns (named p es) sorted
      (sorted_kept (on (λ e. e.0) nat_cmp) nat_cmp (λ e. p e.1) (λ e. e.0) (λ x y _ _ less. less) es (sorted_entries nat_cmp es up))
      (λ q. same q ∙ sym (any-map (eq_by_cmp nat_cmp q) (λ e. e.0) (filter (λ e. p e.1) es)
      ∙ any-filter (λ e. eq_by_cmp nat_cmp q e.0) (λ e. p e.1) es
      ∙ entry_passes nat_cmp nat_cmp_total p q es up
      ∙ ap (λ o. passes p o) (lookup_at es q)))

  -- rows that rise have numbers that ascend
  less_of : (m : ℕ) (es : List (ℕ × X)) → Above m es → AllByRecursion (λ k. nat_cmp m k ≡ Less) (keys_of es)
  less_of m [] up = tt
  less_of m (e ∷ es) up = (less_by m e.0 up.0, less_of m es up.1)

  pub rising : (es : List (ℕ × X)) → Rises es → Rising es
  unfolding IsStrictlySortedBy
  rising [] up = tt
  rising (e ∷ es) up = (less_of e.0 es up.0, rising es up.1)

-- each number is that of something live
abbrev AllLive : {X : Type 0} → (ℕ → Bool) → List (ℕ × X) → Type 0
AllLive live [] = ⊤
AllLive live (e ∷ es) = (live e.0 ≡ true) × AllLive live es

module _ {A B : Type 0} (f : A → B) where
  all_more : (e : ℕ × A) (es : List (ℕ × A)) (fs : List (ℕ × A)) → AllLive (stands_in es) (each f fs) → AllLive (stands_in (e ∷ es)) (each f fs)
  all_more e es [] all = tt
  all_more e es (d ∷ fs) all = (by (nat_eq e.0 d.0), all_more e es fs all.1)
    where
      by : (b : Bool) → is_some (if b then Some e.1 else at es d.0) ≡ true
      by true = refl
      by false = all.0

  -- all that stand in a table are live
  all_live : (es : List (ℕ × A)) → AllLive (stands_in es) (each f es)
  all_live [] = tt
  all_live (e ∷ es) = (ap is_some (pick_true (Some e.1) (at es e.0) (eq_same e.0)), all_more e es es (all_live es))

module _ {K : Types} (live waits : ℕ → Bool) (found : ℕ → Option Target) (x : world.Source) where
  -- a scope that has read the source
  abbrev reads_it : model.Scope K → Bool
  reads_it y = names_source y.reads x

  -- the marks of those that have
  marks_are : (es : List (ℕ × model.Scope K)) → AllLive live es → marks_of_all live waits found (named reads_it es) ≡ readers x es
  marks_are [] all = refl
  marks_are (e ∷ es) all =
      elim (reads_it e.1) as (λ b. marks_of_all live waits found (map (λ d. d.0) (cond b (e ∷ filter (λ d. reads_it d.1) es) (filter (λ d. reads_it d.1) es)))
      ≡ (if b then model.Mark e.0 ∷ readers x es else readers x es)) [
        | true ↦ ap (λ l. (if l then model.Mark e.0 ∷ [] else []) ++ marks_of_all live waits found (named reads_it es)) all.0
            ∙ ap (λ ms. model.Mark e.0 ∷ ms) (marks_are es all.1)
        | false ↦ marks_are es all.1
      ]

  read_passes : (es : List (ℕ × model.Scope K)) (s : ℕ) → names_source (read_by es s) x ≡ passes reads_it (at es s)
  read_passes es s = by (at es s)
    where
      by : (o : Option (model.Scope K)) → names_source (elim o as (λ _. List world.Source) [ None ↦ [] | Some y ↦ y.reads ]) x ≡ passes reads_it o
      by None = refl
      by (Some y) = refl

-- each context is found with its target
abbrev AllFound : (ℕ → Option Target) → List (ℕ × Held Target) → Type 0
AllFound found [] = ⊤
AllFound found (e ∷ es) = (found e.0 ≡ Some (e.1).value) × AllFound found es

found_more : (e : ℕ × Held Target) (es fs : List (ℕ × Held Target)) → AllByRecursion (λ k. nat_cmp e.0 k ≡ Less) (keys_of fs) → AllFound (targets_in es) fs → AllFound (targets_in (e ∷ es)) fs
found_more e es [] above all = tt
found_more e es (d ∷ fs) above all = (
  ap (λ b. option_map (λ (y : Held Target). y.value) (cond b (Some e.1) (held_at d.0 es))) (ties_back d.0 e.0 ∙ less_apart e.0 d.0 above.0) ∙ all.0,
  found_more e es fs above.1 all.1,
)

all_found : (es : List (ℕ × Held Target)) → Rising es → AllFound (targets_in es) es
all_found [] up = tt
all_found (e ∷ es) up = (
  ap (λ b. option_map (λ (y : Held Target). y.value) (cond b (Some e.1) (held_at e.0 es))) (ap is_eq (tied_itself nat_cmp_total e.0)),
  found_more e es es (sorted_head nat_cmp e.0 (keys_of es) up) (all_found es (sorted_tail nat_cmp e.0 (keys_of es) up)),
)

-- what was read into each context
abbrev sources_of : List Reading → List (ℕ × Held Target) → List (ℕ × List world.Source)
sources_of order [] = []
sources_of order (e ∷ es) = (e.0, map source_of (read_into order e.0)) ∷ sources_of order es

sources_keys : (order : List Reading) (es : List (ℕ × Held Target)) → keys_of (sources_of order es) ≡ keys_of es
sources_keys order [] = refl
sources_keys order (e ∷ es) = ap (λ (ks : List ℕ). e.0 ∷ ks) (sources_keys order es)

module _ (live waits : ℕ → Bool) (found : ℕ → Option Target) (x : world.Source) (order : List Reading) where
  abbrev names_it : List world.Source → Bool
  names_it xs = names_source xs x

  -- the posts of those into which the source was read
  founds_are : (es : List (ℕ × Held Target)) → AllFound found es → founds_of_all live waits found (named names_it (sources_of order es)) ≡ told_targets live waits x order es
  founds_are [] all = refl
  founds_are (e ∷ es) all =
      let own : ℕ × List world.Source = (e.0, map source_of (read_into order e.0)) in
      elim (names_it (map source_of (read_into order e.0))) as (λ b.
      founds_of_all live waits found (map (λ d. d.0) (cond b (own ∷ filter (λ d. names_it d.1) (sources_of order es)) (filter (λ d. names_it d.1) (sources_of order es))))
      ≡ (if b then posts_of_target live waits (e.1).value else []) ++ told_targets live waits x order es) [
        | true ↦ ap (λ o. posts_of_found live waits o ++ founds_of_all live waits found (named names_it (sources_of order es))) all.0
            ∙ ap (λ ms. posts_of_target live waits (e.1).value ++ ms) (founds_are es all.1)
        | false ↦ founds_are es all.1
      ]

  -- which these are
  heard_passes : (es : List (ℕ × Held Target)) (n : ℕ) → names_source (read_in es order n) x ≡ passes names_it (at (sources_of order es) n)
  heard_passes [] n = refl
  heard_passes (e ∷ es) n = by (nat_eq e.0 n) refl (heard_passes es n)
    where
      by : (b : Bool) → nat_eq e.0 n ≡ b → names_source (read_in es order n) x ≡ passes names_it (at (sources_of order es) n)
          → names_source (read_in (e ∷ es) order n) x ≡ passes names_it (at (sources_of order (e ∷ es)) n)
      by true q rest =
          ap (λ b. names_source (elim (cond b (Some e.1) (held_at n es)) as (λ _. List world.Source) [ None ↦ [] | Some y ↦ map source_of (read_into order n) ]) x) (ties_back n e.0 ∙ q)
          ∙ ap (λ (m : ℕ). names_source (map source_of (read_into order m)) x) (sym (eqb-true e.0 n q))
          ∙ sym (ap (λ o. passes names_it o) (pick_true (Some (map source_of (read_into order e.0))) (at (sources_of order es) n) q))
      by false q rest =
          ap (λ b. names_source (elim (cond b (Some e.1) (held_at n es)) as (λ _. List world.Source) [ None ↦ [] | Some y ↦ map source_of (read_into order n) ]) x) (ties_back n e.0 ∙ q)
          ∙ rest
          ∙ sym (ap (λ o. passes names_it o) (pick_false (Some (map source_of (read_into order e.0))) (at (sources_of order es) n) q))

module _ {P C Q V H T E L : Type 0} (rows : List (ℕ × Scope P C Q V H T E L)) (tasks : List (ℕ × TaskRow P C Q V H T E L)) (kept : List (ℕ × Held Target)) (order : List Reading)
    (reads : List (Reader × List Source)) (source : Source) (rs : List Reader) (known : AreKnown (scopes_of rows) reads) (heard : AreHeard kept order reads)
    (sorted : IsStrictlySortedBy reader_cmp rs) (members : (q : Reader) → list_any (is_at (reader_cmp q)) rs ≡ has source (reads_of q reads)) (up : Rising kept) where
  abbrev live : ℕ → Bool
  live = stands_in rows

  abbrev waits : ℕ → Bool
  waits = stands_in tasks

  contexts_told : founds_of_all live waits (targets_in kept) (contexts_met rs) ≡ told_targets live waits (source_of source) order kept
  contexts_told =
      ap (founds_of_all live waits (targets_in kept))
      (same_named (λ xs. names_source xs (source_of source)) (sources_of order kept) (contexts_met rs) (rw (sources_keys order kept) up) (sorted_contexts rs sorted)
      (λ n. contexts_among n rs ∙ members (reader.Context n) ∙ heard.each n source ∙ heard_passes live waits (targets_in kept) (source_of source) order kept n))
      ∙ founds_are live waits (targets_in kept) (source_of source) order kept (all_found kept up)

  scopes_told : Ascends rows → marks_of_all live waits (targets_in kept) (scopes_met rs) ≡ readers (source_of source) (scopes_of rows)
  scopes_told ascends =
      ap (marks_of_all live waits (targets_in kept))
      (same_named (λ (y : model.Scope (types C Q V H T E L)). names_source y.reads (source_of source)) (scopes_of rows) (scopes_met rs) (rising (scopes_of rows) (rises_each scope_of rows (rises rows ascends))) (sorted_scopes rs sorted)
      (λ s. scopes_among s rs ∙ members (reader.Scope (record { 0 = s })) ∙ known.each s source ∙ read_passes live waits (targets_in kept) (source_of source) (scopes_of rows) s))
      ∙ marks_are live waits (targets_in kept) (source_of source) (scopes_of rows) (all_live scope_of rows)

  -- all readers of the source are posted, the scopes and then the contexts
  pub all_posted : Ascends rows → posts_of_all true live waits (targets_in kept) rs ≡ readers (source_of source) (scopes_of rows) ++ told_targets live waits (source_of source) order kept
  all_posted ascends = parted live waits (targets_in kept) true rs sorted ∙ (λ i. scopes_told ascends i ++ contexts_told i)

  -- or the contexts alone
  pub contexts_posted : posts_of_all false live waits (targets_in kept) rs ≡ told_targets live waits (source_of source) order kept
  contexts_posted = parted live waits (targets_in kept) false rs sorted ∙ contexts_told

-- what telling does in the model
module _ {K : Types} where
  none_posted : (w : model.State K) → w ≡ with_posts w (w.posted ++ [])
  none_posted w = ap (λ ps. with_posts w ps) (sym (append_none w.posted))

  -- a target's post
  target_posted : (w : model.State K) (target : Target) → post_target w (target_of target) ≡ with_posts w (w.posted ++ posts_of_target (λ s. model.is_live w s) (λ t. is_some (at w.tasks t)) target)
  target_posted w (targets.Scope s) = by (model.is_live w s.0)
    where
      by : (b : Bool) → (if b then record w { posted = w.posted ++ model.Mark s.0 ∷ [] } else w) ≡ with_posts w (w.posted ++ (if b then model.Mark s.0 ∷ [] else []))
      by true = refl
      by false = none_posted w
  target_posted w (targets.Task t) = by (is_some (at w.tasks t.0))
    where
      by : (b : Bool) → (if b then record w { posted = w.posted ++ model.Woken t.0 ∷ [] } else w) ≡ with_posts w (w.posted ++ (if b then model.Woken t.0 ∷ [] else []))
      by true = refl
      by false = none_posted w

module _ {C Q V H T E L : Type 0} where
  -- the posts of contexts
  targets_posted : (x : world.Source) (order : List Reading) (es : List (ℕ × Held Target)) (w : model.State (types C Q V H T E L))
      → tell_contexts x (contexts_of order es) w ≡ with_posts w (w.posted ++ told_targets (λ s. model.is_live w s) (λ t. is_some (at w.tasks t)) x order es)
  targets_posted x order [] w = none_posted w
  targets_posted x order (e ∷ es) w = by (names_source (map source_of (read_into order e.0)) x) (λ v. targets_posted x order es v)
    where
      own : List model.Posted
      own = posts_of_target (λ s. model.is_live w s) (λ t. is_some (at w.tasks t)) (e.1).value

      rest : List model.Posted
      rest = told_targets (λ s. model.is_live w s) (λ t. is_some (at w.tasks t)) x order es

      by : (b : Bool)
          → ((v : model.State (types C Q V H T E L)) → tell_contexts x (contexts_of order es) v ≡ with_posts v (v.posted ++ told_targets (λ s. model.is_live v s) (λ t. is_some (at v.tasks t)) x order es))
          → tell_contexts x (contexts_of order es) (if b then post_target w (target_of (e.1).value) else w) ≡ with_posts w (w.posted ++ ((if b then own else []) ++ rest))
      by true behind =
          ap (λ v. tell_contexts x (contexts_of order es) v) (target_posted w (e.1).value)
          ∙ behind (with_posts w (w.posted ++ own))
          ∙ ap (λ ps. with_posts w ps) (append_assoc w.posted own rest)
      by false behind = behind w

  -- the posts of all who read a source
  pub told : (w : model.State (types C Q V H T E L)) (x : world.Source) (order : List Reading) (kept : List (ℕ × Held Target)) (live waits : ℕ → Bool)
      → w.contexts ≡ contexts_of order kept → ((s : ℕ) → model.is_live w s ≡ live s) → ((t : ℕ) → is_some (at w.tasks t) ≡ waits t)
      → with_posts w (w.posted ++ (readers x w.scopes ++ told_targets live waits x order kept)) ≡ tell w x
  told w x order kept live waits are is_live has_task =
      let marks : List model.Posted = readers x w.scopes in
      sym
      (
      ap (λ es. tell_contexts x es (with_posts w (w.posted ++ marks))) are
      ∙ targets_posted x order kept (with_posts w (w.posted ++ marks))
      ∙ ap (λ ps. with_posts w ps) (append_assoc w.posted marks (told_targets (λ s. model.is_live w s) (λ t. is_some (at w.tasks t)) x order kept))
      ∙ (λ i. with_posts w (w.posted ++ (marks ++ told_targets (λ s. is_live s i) (λ t. has_task t i) x order kept)))
      )

-- with each reader that is met fewer are left
pub fewer_readers : (old new : List Reader) (r : Reader) → old ≡ r ∷ new → length new < length old
fewer_readers old new r is = omega (arith, ap length is)
