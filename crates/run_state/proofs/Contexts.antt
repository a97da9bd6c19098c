-- Reactive contexts as the cells keep them, and the model's list: made, changed, gone with their scope.
use Rattle.std.proofs.Common.{◌≡◌, ℕ, Bool, true, false, cond, List, [], ◌∷◌, ◌++◌, map, nat_eq, refl, ap, sym, subst, ◌∙◌}
use Rattle.std.specs.Prelude.{Option, Some, None, option_map, if◌then◌else◌}
use Rattle.std.specs.declared.cmp.Ordering.TheVariants.{Less}
use Rattle.std.specs.Ordering.{is_eq, nat_cmp}
use Rattle.std.specs.List.{AllByRecursion}
use Rattle.std.specs.List.Sorted.{IsStrictlySortedBy}
use Rattle.std.specs.Map.{keys_of}
use Rattle.std.proofs.lemmas.List.{map-append}
use Rattle.std.proofs.lemmas.Map.Keys.{sorted_head, sorted_tail}
use Rattle.rt_lemmas.proofs.Options.{some_is as some_same}
use Rattle.rt_lemmas.proofs.Numbers.{eq_turned}
use Rattle.rt_cells.specs.declared.numbered.Held.{Held}
use Rattle.rt_cells.specs.declared.sources.Source.{Source}
use Rattle.rt_cells.specs.declared.sources.Target.{Target}
use Rattle.rt_cells.specs.Cells as tracked
use Rattle.rt_cells.specs.Held.{held_at, value_at}
use Rattle.rt_cells.proofs.HeldOnce.{ties, ties_back}
use Rattle.rt_model.specs.Lists.{at, put}
use Rattle.rt_model.specs.OneLog.{types}
use Rattle.rt_model.specs.Tree.{Types}
use Rattle.rt_model.specs.World as world
use Rattle.rt_model.specs.State as model
use Rattle.rt_model.specs.Commands.{names_source, one_more_source, change_context, command}
use Rattle.rt_model.proofs.Maps.{by_test, eq_same, pick_false, pick_true}
use Rattle.run_records.specs.Records.{source_of, target_of}
use Rattle.run_records.specs.Kept.{each}
use Rattle.run_state.specs.declared.read_order.Reading.{Reading}
use Rattle.run_state.specs.Mirror.{Unkept, cell_of, context_of, contexts_of, state_of}
use Rattle.run_state.specs.Sources.{joined, read_into}
use Rattle.run_state.specs.declared.state.State.{State}
use Rattle.run_state.proofs.CellsKept.{same-number}

pub joined-is : (xs : List Source) (x : Source) → map source_of (joined xs x) ≡ one_more_source (map source_of xs) (source_of x)
joined-is xs x = either (names_source (map source_of xs) (source_of x))
  where
    either : (b : Bool) → map source_of (if b then xs else xs ++ x ∷ []) ≡ (if b then map source_of xs else map source_of xs ++ source_of x ∷ [])
    either true = refl
    either false = map-append source_of xs (x ∷ [])

-- numbers ascend
abbrev pub Rising : {X : Type 0} → List (ℕ × X) → Type 0
Rising es = IsStrictlySortedBy nat_cmp (keys_of es)

-- a number's own sources may be others, and no other number's
abbrev pub OthersStay : ℕ → List Reading → List Reading → Type 0
OthersStay n old new = (m : ℕ) → nat_eq n m ≡ false → read_into new m ≡ read_into old m

-- what comes last is above all others
last_above : {X : Type 0} (n m : ℕ) (x : X) (es : List (ℕ × X)) → AllByRecursion (λ k. nat_cmp m k ≡ Less) (keys_of (es ++ (n, x) ∷ [])) → nat_cmp m n ≡ Less
last_above n m x [] all = all.0
last_above n m x (e ∷ es) all = last_above n m x es all.1

-- what compares as less is another number, either way
pub less_apart : (a b : ℕ) → nat_cmp a b ≡ Less → nat_eq a b ≡ false
less_apart a b less = sym (ties a b) ∙ ap is_eq less

pub apart_less : (a b : ℕ) → nat_cmp a b ≡ Less → nat_eq b a ≡ false
apart_less a b less = sym (ties_back a b) ∙ ap is_eq less

module _ {C Q V H T E L : Type 0} where
  -- a reactive context with these sources
  abbrev row_with : List Source → Held Target → model.ContextRow (types C Q V H T E L)
  row_with xs x = record { scope = (x.owner).0; target = target_of x.value; sources = map source_of xs }

  pub contexts-append : (order : List Reading) (es fs : List (ℕ × Held Target)) → contexts_of {C = C} {Q = Q} {V = V} {H = H} {T = T} {E = E} {L = L} order (es ++ fs) ≡ contexts_of order es ++ contexts_of order fs
  contexts-append order [] fs = refl
  contexts-append order (e ∷ es) fs = ap (λ rest. (e.0, context_of order e.0 e.1) ∷ rest) (contexts-append order es fs)

  -- contexts above the number stay
  later_same : (n : ℕ) (old new : List Reading) (es : List (ℕ × Held Target)) → OthersStay n old new → AllByRecursion (λ k. nat_cmp n k ≡ Less) (keys_of es)
      → contexts_of {C = C} {Q = Q} {V = V} {H = H} {T = T} {E = E} {L = L} new es ≡ contexts_of old es
  later_same n old new [] others all = refl
  later_same n old new (e ∷ es) others all =
      λ i. (e.0, row_with (others e.0 (less_apart n e.0 all.0) i) e.1) ∷ later_same n old new es others all.1 i

  -- and so do all before one that comes last
  begun_last : (n : ℕ) (x : Held Target) (old new : List Reading) (es : List (ℕ × Held Target)) → OthersStay n old new → Rising (es ++ (n, x) ∷ [])
      → contexts_of {C = C} {Q = Q} {V = V} {H = H} {T = T} {E = E} {L = L} new es ≡ contexts_of old es
  begun_last n x old new [] others up = refl
  begun_last n x old new (e ∷ es) others up =
      let below : nat_cmp e.0 n ≡ Less = last_above n e.0 x es (sorted_head nat_cmp e.0 (keys_of (es ++ (n, x) ∷ [])) up) in
      λ i. (e.0, row_with (others e.0 (apart_less e.0 n below) i) e.1) ∷ begun_last n x old new es others (sorted_tail nat_cmp e.0 (keys_of (es ++ (n, x) ∷ [])) up) i

  -- what stands under a number
  pub at-contexts : (order : List Reading) (n : ℕ) (es : List (ℕ × Held Target))
      → at (contexts_of {C = C} {Q = Q} {V = V} {H = H} {T = T} {E = E} {L = L} order es) n ≡ option_map (λ x. context_of order n x) (held_at n es)
  at-contexts order n [] = refl
  at-contexts order n (e ∷ es) =
      by_test (nat_eq e.0 n)
      (λ q. pick_true (Some (row_with (read_into order e.0) e.1)) (at (contexts_of order es) n) q
      ∙ ap (λ (m : ℕ). Some (row_with (read_into order m) e.1)) (same-number e.0 n q)
      ∙ sym (ap (λ b. option_map (λ x. row_with (read_into order n) x) (cond b (Some e.1) (held_at n es))) (ties_back n e.0 ∙ q)))
      (λ q. pick_false (Some (row_with (read_into order e.0) e.1)) (at (contexts_of order es) n) q
      ∙ at-contexts order n es
      ∙ sym (ap (λ b. option_map (λ x. row_with (read_into order n) x) (cond b (Some e.1) (held_at n es))) (ties_back n e.0 ∙ q)))

  -- the number's context has other sources
  pub read_changed : (n : ℕ) (old new : List Reading) (es : List (ℕ × Held Target)) (x : model.ContextRow (types C Q V H T E L)) → OthersStay n old new → Rising es → at (contexts_of old es) n ≡ Some x
      → contexts_of new es ≡ put (contexts_of old es) n (record x { sources = map source_of (read_into new n) })
  read_changed n old new [] x others up there = absurd (cc there)
  read_changed n old new (e ∷ es) x others up there = by_test (nat_eq e.0 n)
      (λ q. here q (same-number e.0 n q))
      (λ q. further q (λ left. read_changed n old new es x others (sorted_tail nat_cmp e.0 (keys_of es) up) left))
    where
      own : model.ContextRow (types C Q V H T E L)
      own = row_with (read_into old e.0) e.1

      other : model.ContextRow (types C Q V H T E L)
      other = record x { sources = map source_of (read_into new n) }

      here : nat_eq e.0 n ≡ true → e.0 ≡ n → contexts_of new (e ∷ es) ≡ put (contexts_of old (e ∷ es)) n other
      here q same =
          let found : own ≡ x = some_same (sym (pick_true (Some own) (at (contexts_of old es) n) q) ∙ there) in
          let above : AllByRecursion (λ k. nat_cmp n k ≡ Less) (keys_of es) = subst (λ (m : ℕ). AllByRecursion (λ k. nat_cmp m k ≡ Less) (keys_of es)) same (sorted_head nat_cmp e.0 (keys_of es) up) in
          (λ i. (same i, row_with (read_into new (same i)) e.1) ∷ later_same n old new es others above i)
          ∙ ap (λ (y : model.ContextRow (types C Q V H T E L)). (n, record y { sources = map source_of (read_into new n) }) ∷ contexts_of old es) found
          ∙ sym (pick_true ((n, other) ∷ contexts_of old es) ((e.0, own) ∷ put (contexts_of old es) n other) q)

      further : nat_eq e.0 n ≡ false → (at (contexts_of old es) n ≡ Some x → contexts_of new es ≡ put (contexts_of old es) n other) → contexts_of new (e ∷ es) ≡ put (contexts_of old (e ∷ es)) n other
      further q behind =
          let left : at (contexts_of old es) n ≡ Some x = sym (pick_false (Some own) (at (contexts_of old es) n) q) ∙ there in
          let rest : contexts_of new es ≡ put (contexts_of old es) n other = behind left in
          (λ i. (e.0, row_with (others e.0 (eq_turned n e.0 ∙ q) i) e.1) ∷ rest i)
          ∙ sym (pick_false ((n, other) ∷ contexts_of old es) ((e.0, own) ∷ put (contexts_of old es) n other) q)

module _ {K : Types} where
  abbrev with_contexts : model.State K → List (ℕ × model.ContextRow K) → model.State K
  with_contexts w cs = record w { contexts = cs }

  -- a change of what stands under a number, and where nothing does
  changed_there : (w : model.State K) (n : ℕ) (f : model.ContextRow K → model.ContextRow K) (x : model.ContextRow K) → at w.contexts n ≡ Some x → with_contexts w (put w.contexts n (f x)) ≡ change_context w n f
  changed_there w n f x there =
      sym (ap (λ (o : Option (model.ContextRow K)). elim o as (λ _. model.State K) [ None ↦ w | Some y ↦ with_contexts w (put w.contexts n (f y)) ]) there)

  changed_nowhere : (w : model.State K) (n : ℕ) (f : model.ContextRow K → model.ContextRow K) → at w.contexts n ≡ None → w ≡ change_context w n f
  changed_nowhere w n f none =
      sym (ap (λ (o : Option (model.ContextRow K)). elim o as (λ _. model.State K) [ None ↦ w | Some y ↦ with_contexts w (put w.contexts n (f y)) ]) none)

-- what has a value is there
pub found_held : (o : Option (Held Target)) (target : Target) → Some target ≡ option_map (λ x. x.value) o → (x : Held Target) × (o ≡ Some x)
found_held None target is = absurd (cc is)
found_held (Some x) target is = (x, refl)

pub none_held : (o : Option (Held Target)) → None ≡ option_map (λ x. x.value) o → o ≡ None
none_held None is = refl
none_held (Some x) is = absurd (cc is)

module _ {P C Q V H T E L : Type 0} where
  -- one is made
  pub context_made : (d : State P C Q V H T E L) (s n : ℕ) (target : Target) (cells : tracked.State V) (order : List Reading) → ((g : Unkept (types C Q V H T E L)) → model.is_live (state_of g d) s ≡ true)
      → cells ≡ tracked.context_entered (record { 0 = s }) n target d.cells → Rising cells.contexts
      → ((m : ℕ) → read_into order m ≡ (if nat_eq n m then [] else read_into d.read_order m))
      → (g : Unkept (types C Q V H T E L)) (app : world.Application (types C Q V H T E L)) (polled : Option ℕ)
      → record (state_of g d) { cells = each cell_of cells.cells; contexts = contexts_of order cells.contexts } ≡ command app (state_of g d) s polled (world.NewContext n (target_of target))
  context_made d s n target cells order live is up begun g app polled =
      let w : model.State (types C Q V H T E L) = state_of g d in
      let own : Held Target = record { owner = record { 0 = s }; value = target } in
      let kept : List (ℕ × Held Target) = (d.cells).contexts in
      let others : OthersStay n d.read_order order = λ m q. begun m ∙ pick_false [] (read_into d.read_order m) q in
      let fresh : read_into order n ≡ [] = begun n ∙ pick_true [] (read_into d.read_order n) (eq_same n) in
      let rises : Rising (kept ++ (n, own) ∷ []) = subst (λ (t : tracked.State V). Rising t.contexts) is up in
      (λ i. record w { cells = each cell_of (is i).cells; contexts = contexts_of order (is i).contexts })
      ∙ ap (λ cs. with_contexts w cs) (contexts-append order kept ((n, own) ∷ []))
      ∙ (λ i. with_contexts w (begun_last n own d.read_order order kept others rises i ++ (n, row_with (fresh i) own) ∷ []))
      ∙ ap (λ b. if b then with_contexts w (w.contexts ++ (n, record { scope = s; target = target_of target; sources = [] }) ∷ []) else w) (sym (live g))

  pub no_context_made : (d : State P C Q V H T E L) (s n : ℕ) (target : Target) → ((g : Unkept (types C Q V H T E L)) → model.is_live (state_of g d) s ≡ false)
      → (g : Unkept (types C Q V H T E L)) (app : world.Application (types C Q V H T E L)) (polled : Option ℕ) → state_of g d ≡ command app (state_of g d) s polled (world.NewContext n (target_of target))
  no_context_made d s n target gone g app polled =
      let w : model.State (types C Q V H T E L) = state_of g d in
      ap (λ b. if b then with_contexts w (w.contexts ++ (n, record { scope = s; target = target_of target; sources = [] }) ∷ []) else w) (sym (gone g))

  -- one has other sources
  pub context_read : (g : Unkept (types C Q V H T E L)) (d : State P C Q V H T E L) (n : ℕ) (target : Target) (cells : tracked.State V) (order : List Reading)
      (f : model.ContextRow (types C Q V H T E L) → model.ContextRow (types C Q V H T E L))
      → cells.cells ≡ (d.cells).cells → cells.contexts ≡ (d.cells).contexts → Rising (d.cells).contexts → Some target ≡ value_at n (d.cells).contexts → OthersStay n d.read_order order
      → ((x : Held Target) → record (context_of d.read_order n x) { sources = map source_of (read_into order n) } ≡ f (context_of d.read_order n x))
      → record (state_of g d) { cells = each cell_of cells.cells; contexts = contexts_of order cells.contexts } ≡ change_context (state_of g d) n f
  context_read g d n target cells order f same_cells same_contexts up there others law =
      let w : model.State (types C Q V H T E L) = state_of g d in
      let kept : List (ℕ × Held Target) = (d.cells).contexts in
      let found = found_held (held_at n kept) target there in
      let x : model.ContextRow (types C Q V H T E L) = context_of d.read_order n found.0 in
      let stood : at w.contexts n ≡ Some x = at-contexts d.read_order n kept ∙ ap (option_map (λ y. context_of d.read_order n y)) found.1 in
      (λ i. record w { cells = each cell_of (same_cells i); contexts = contexts_of order (same_contexts i) })
      ∙ ap (λ cs. with_contexts w cs) (read_changed n d.read_order order kept x others up stood)
      ∙ ap (λ (y : model.ContextRow (types C Q V H T E L)). with_contexts w (put w.contexts n y)) (law found.0)
      ∙ changed_there w n f x stood

  -- where none stands nothing changes
  pub none_read : (g : Unkept (types C Q V H T E L)) (d : State P C Q V H T E L) (n : ℕ) (f : model.ContextRow (types C Q V H T E L) → model.ContextRow (types C Q V H T E L))
      → None ≡ value_at n (d.cells).contexts → state_of g d ≡ change_context (state_of g d) n f
  none_read g d n f none =
      let w : model.State (types C Q V H T E L) = state_of g d in
      changed_nowhere w n f (at-contexts d.read_order n (d.cells).contexts ∙ ap (option_map (λ y. context_of d.read_order n y)) (none_held (held_at n (d.cells).contexts) none))

  -- whom one tells
  pub target_found : (g : Unkept (types C Q V H T E L)) (d : State P C Q V H T E L) (n : ℕ)
      → option_map target_of (value_at n (d.cells).contexts) ≡ option_map (λ x. x.target) (at (state_of g d).contexts n)
  target_found g d n = by (held_at n (d.cells).contexts) ∙ sym (ap (option_map (λ (x : model.ContextRow (types C Q V H T E L)). x.target)) (at-contexts d.read_order n (d.cells).contexts))
    where
      by : (o : Option (Held Target)) → option_map target_of (option_map (λ x. x.value) o) ≡ option_map (λ (x : model.ContextRow (types C Q V H T E L)). x.target) (option_map (λ x. context_of d.read_order n x) o)
      by None = refl
      by (Some x) = refl
