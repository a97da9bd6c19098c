-- The cells that code keeps, as the model's list.
use Rattle.std.proofs.Common.{◌≡◌, ℕ, Bool, true, false, List, [], ◌∷◌, ◌++◌, refl, ap, sym, ◌∙◌, cond, arith, nat_eq}
use Rattle.std.specs.Prelude.{not, Option, Some, None, option_map, is_some, if◌then◌else◌}
use Rattle.std.specs.List.{filter}
use Rattle.std.specs.Map.{lookup, set_value}
use Rattle.std.specs.BTreeMap.{is_at}
use Rattle.std.specs.Ordering.{nat_cmp}
use Rattle.std.proofs.lemmas.Grind.{common_steps}
use Rattle.rt_lemmas.proofs.Numbers.{ties_back as tie}
pub use Rattle.rt_lemmas.proofs.Numbers.{eq_is as same-number}
pub use Rattle.rt_lemmas.proofs.Options.{none_of as none_is, some_of as some_is}
use Rattle.rt_values.specs.declared.names.ScopeId.{ScopeId}
use Rattle.rt_cells.specs.declared.numbered.Held.{Held}
use Rattle.rt_cells.specs.declared.sources.Target.{Target}
use Rattle.rt_cells.specs.Held.{held_at, value_at, written}
use Rattle.rt_cells.specs.Cells as tracked
use Rattle.rt_model.specs.Lists.{at, put, without}
use Rattle.rt_model.specs.OneLog.{types}
use Rattle.rt_model.specs.Tree.{Types}
use Rattle.rt_model.specs.World as world
use Rattle.rt_model.specs.State as model
use Rattle.rt_model.specs.Commands.{tell, written_at, write_cell, drop_cell_row, command}
use Rattle.run_records.specs.Kept.{each}
use Rattle.run_state.specs.Mirror.{Unkept, cell_of, contexts_of, state_of}
use Rattle.run_state.specs.declared.state.State.{State}
use Rattle.run_state.proofs.Each.{at-each, put-each, without-each, append-each, found-each, some-mapped}

module _ {V : Type 0} where
  pub held-found : (cs : List (ℕ × Held V)) (n : ℕ) → held_at n cs ≡ at cs n
  held-found [] n = refl
  held-found (e ∷ cs) n =
      ap (λ b. cond b (Some e.1) (lookup (is_at (nat_cmp n)) cs)) (tie n e.0) ∙ ap (λ r. cond (nat_eq e.0 n) (Some e.1) r) (held-found cs n)

  set-step : (b : Bool) (e : ℕ × Held V) (cs rest other : List (ℕ × Held V)) (n : ℕ) (h : Held V) → nat_eq e.0 n ≡ b → (b ≡ false → rest ≡ other)
      → cond b ((e.0, h) ∷ cs) (e ∷ rest) ≡ cond b ((n, h) ∷ cs) (e ∷ other)
  set-step true e cs rest other n h is same = ap (λ (m : ℕ). (m, h) ∷ cs) (same-number e.0 n is)
  set-step false e cs rest other n h is same = ap (λ es. e ∷ es) (same refl)

  -- another value where one stands is a put
  pub set-put : (cs : List (ℕ × Held V)) (n : ℕ) (old h : Held V) → at cs n ≡ Some old → set_value (is_at (nat_cmp n)) cs h ≡ put cs n h
  set-put [] n old h stood = absurd (cc stood)
  set-put (e ∷ cs) n old h stood =
      ap (λ b. cond b ((e.0, h) ∷ cs) (e ∷ set_value (is_at (nat_cmp n)) cs h)) (tie n e.0)
      ∙ set-step (nat_eq e.0 n) e cs (set_value (is_at (nat_cmp n)) cs h) (put cs n h) n h refl
      (λ other. set-put cs n old h (ap (λ b. cond b (Some e.1) (at cs n)) (sym other) ∙ stood))

  pub filter-without : (cs : List (ℕ × Held V)) (n : ℕ) → filter (λ e. not (nat_eq e.0 n)) cs ≡ without cs n
  filter-without [] n = refl
  filter-without (e ∷ cs) n = grind (arith, common_steps, filter-without cs n)

  pub without-absent : (cs : List (ℕ × Held V)) (n : ℕ) → at cs n ≡ None → without cs n ≡ cs
  without-absent [] n none = refl
  without-absent (e ∷ cs) n none = grind (arith, common_steps, without-absent cs n)

  written-there : (cs : List (ℕ × Held V)) (n : ℕ) (v : V) (found : Option (Held V)) (old : Held V) → found ≡ Some old → at cs n ≡ Some old
      → elim found [ None ↦ cs | Some h ↦ set_value (is_at (nat_cmp n)) cs (record { owner = h.owner; value = v }) ] ≡ put cs n (record { owner = old.owner; value = v })
  written-there cs n v found old is stood =
      ap (λ (o : Option (Held V)). elim o as (λ _. List (ℕ × Held V)) [ None ↦ cs | Some h ↦ set_value (is_at (nat_cmp n)) cs (record { owner = h.owner; value = v }) ]) is
      ∙ set-put cs n old (record { owner = old.owner; value = v }) stood

  -- a write where the cell stands
  pub written-put : (cs : List (ℕ × Held V)) (n : ℕ) (v : V) (old : Held V) → at cs n ≡ Some old → written n v cs ≡ put cs n (record { owner = old.owner; value = v })
  written-put cs n v old stood = written-there cs n v (held_at n cs) old (held-found cs n ∙ stood) stood

  -- and where it doesn't
  pub written-absent : (cs : List (ℕ × Held V)) (n : ℕ) (v : V) → at cs n ≡ None → written n v cs ≡ cs
  written-absent cs n v none =
      ap (λ (o : Option (Held V)). elim o as (λ _. List (ℕ × Held V)) [ None ↦ cs | Some h ↦ set_value (is_at (nat_cmp n)) cs (record { owner = h.owner; value = v }) ]) (held-found cs n ∙ none)

  gone-value : (o : Option (Held V)) → option_map (λ h. h.value) o ≡ None → o ≡ None
  gone-value None is = refl
  gone-value (Some h) is = absurd (cc is)

  -- no value is found where no cell stands
  pub no-value : (cs : List (ℕ × Held V)) (n : ℕ) → value_at n cs ≡ None → at cs n ≡ None
  no-value cs n is = sym (held-found cs n) ∙ gone-value (held_at n cs) is

  there-value : (o : Option (Held V)) (v : V) → option_map (λ h. h.value) o ≡ Some v → is_some o ≡ true
  there-value None v is = absurd (cc is)
  there-value (Some h) v is = refl

  -- a value is found where a cell stands
  pub some-value : (cs : List (ℕ × Held V)) (n : ℕ) (v : V) → value_at n cs ≡ Some v → is_some (at cs n) ≡ true
  some-value cs n v is = ap is_some (sym (held-found cs n)) ∙ there-value (held_at n cs) v is

module _ {K : Types} where
  abbrev pub with_cells : model.State K → List (ℕ × model.CellRow K) → model.State K
  with_cells w cs = record w { cells = cs }

module _ {P C Q V H T E L : Type 0} where
  -- cells with the same contexts are other cells alone
  pub cells_alone : (g : Unkept (types C Q V H T E L)) (d : State P C Q V H T E L) (new : tracked.State V) → new.contexts ≡ (d.cells).contexts
      → record (state_of g d) { cells = each cell_of new.cells; contexts = contexts_of d.read_order new.contexts } ≡ with_cells (state_of g d) (each cell_of new.cells)
  cells_alone g d new same =
      ap (λ (es : List (ℕ × Held Target)). let w : model.State (types C Q V H T E L) = record (state_of g d) { cells = each cell_of new.cells; contexts = contexts_of d.read_order es } in w) same

  -- and where the cells are the same, too, nothing is other
  pub reads_alone : (g : Unkept (types C Q V H T E L)) (d : State P C Q V H T E L) (es : List (ℕ × model.Scope (types C Q V H T E L))) (new : tracked.State V)
      → new.cells ≡ (d.cells).cells → new.contexts ≡ (d.cells).contexts
      → record (state_of g d) { scopes = es; cells = each cell_of new.cells; contexts = contexts_of d.read_order new.contexts } ≡ record (state_of g d) { scopes = es }
  reads_alone g d es new same_cells same_contexts =
      λ i. record (state_of g d) { scopes = es; cells = each cell_of (same_cells i); contexts = contexts_of d.read_order (same_contexts i) }

  -- a cell is made, where its scope is live
  pub cell_made : (d : State P C Q V H T E L) (s n : ℕ) (v : V) (new : tracked.State V) → ((g : Unkept (types C Q V H T E L)) → model.is_live (state_of g d) s ≡ true)
      → new ≡ tracked.cell_entered (record { 0 = s }) n v d.cells
      → (g : Unkept (types C Q V H T E L)) (app : world.Application (types C Q V H T E L)) (polled : Option ℕ) → with_cells (state_of g d) (each cell_of new.cells) ≡ command app (state_of g d) s polled (world.NewCell n v)
  cell_made d s n v new live is g app polled =
      let owner : ScopeId = record { 0 = s } in
      let w : model.State (types C Q V H T E L) = state_of g d in
      let h : Held V = record { owner = owner; value = v } in
      ap (λ cs. with_cells w (each cell_of cs)) (ap (λ (t : tracked.State V). t.cells) is)
      ∙ ap (λ cs. with_cells w cs) (append-each cell_of (d.cells).cells ((n, h) ∷ []))
      ∙ ap (λ b. if b then with_cells w (w.cells ++ (n, record { owner = s; value = v }) ∷ []) else w) (sym (live g))

  pub no_cell_made : (d : State P C Q V H T E L) (s n : ℕ) (v : V) → ((g : Unkept (types C Q V H T E L)) → model.is_live (state_of g d) s ≡ false)
      → (g : Unkept (types C Q V H T E L)) (app : world.Application (types C Q V H T E L)) (polled : Option ℕ) → state_of g d ≡ command app (state_of g d) s polled (world.NewCell n v)
  no_cell_made d s n v gone g app polled =
      let w : model.State (types C Q V H T E L) = state_of g d in
      ap (λ b. if b then with_cells w (w.cells ++ (n, record { owner = s; value = v }) ∷ []) else w) (sym (gone g))

  -- a cell is written, and its readers are told
  pub cell_written : (d : State P C Q V H T E L) (n : ℕ) (v : V) (new : tracked.State V) → is_some (held_at n (d.cells).cells) ≡ true → new ≡ tracked.cell_written n v d.cells
      → (g : Unkept (types C Q V H T E L)) → tell (with_cells (state_of g d) (each cell_of new.cells)) (world.Cell n) ≡ write_cell (state_of g d) n v
  cell_written d n v new live is g =
      let w : model.State (types C Q V H T E L) = state_of g d in
      let found = some_is (held_at n (d.cells).cells) live in
      let old : Held V = found.0 in
      let stood : at (d.cells).cells n ≡ Some old = sym (held-found (d.cells).cells n) ∙ found.1 in
      let cells : each cell_of new.cells ≡ put w.cells n (record { owner = (old.owner).0; value = v }) =
      ap (λ (t : tracked.State V). each cell_of t.cells) is ∙ ap (each cell_of) (written-put (d.cells).cells n v old stood) ∙ put-each cell_of (d.cells).cells n (record { owner = old.owner; value = v }) in
      ap (λ cs. tell (with_cells w cs) (world.Cell n)) cells
      ∙ ap (λ o. written_at w n v o) (sym (found-each cell_of (d.cells).cells n (Some old) (sym stood)))

  pub no_cell_written : (d : State P C Q V H T E L) (n : ℕ) (v : V) (new : tracked.State V) → is_some (held_at n (d.cells).cells) ≡ false → new ≡ tracked.cell_written n v d.cells
      → (g : Unkept (types C Q V H T E L)) → with_cells (state_of g d) (each cell_of new.cells) ≡ write_cell (state_of g d) n v
  no_cell_written d n v new gone is g =
      let w : model.State (types C Q V H T E L) = state_of g d in
      let stood : at (d.cells).cells n ≡ None = sym (held-found (d.cells).cells n) ∙ none_is (held_at n (d.cells).cells) gone in
      ap (λ (t : tracked.State V). with_cells w (each cell_of t.cells)) is
      ∙ ap (λ cs. with_cells w (each cell_of cs)) (written-absent (d.cells).cells n v stood)
      ∙ ap (λ o. written_at w n v o) (sym (found-each cell_of (d.cells).cells n None (sym stood)))

  -- a cell is dropped, and its readers are told
  pub cell_dropped : (d : State P C Q V H T E L) (n : ℕ) (v : V) (new : tracked.State V) → Some v ≡ value_at n (d.cells).cells → new.cells ≡ filter (λ e. not (nat_eq e.0 n)) (d.cells).cells
      → (g : Unkept (types C Q V H T E L)) → tell (with_cells (state_of g d) (each cell_of new.cells)) (world.Cell n) ≡ drop_cell_row (state_of g d) n
  cell_dropped d n v new there is g =
      let w : model.State (types C Q V H T E L) = state_of g d in
      let live : is_some (at w.cells n) ≡ true = ap is_some (at-each cell_of (d.cells).cells n) ∙ some-mapped cell_of (at (d.cells).cells n) ∙ some-value (d.cells).cells n v (sym there) in
      ap (λ cs. tell (with_cells w (each cell_of cs)) (world.Cell n)) (is ∙ filter-without (d.cells).cells n)
      ∙ ap (λ cs. tell (with_cells w cs) (world.Cell n)) (without-each cell_of (d.cells).cells n)
      ∙ ap (λ b. if b then tell (with_cells w (without w.cells n)) (world.Cell n) else w) (sym live)

  pub no_cell_dropped : (d : State P C Q V H T E L) (n : ℕ) (new : tracked.State V) → None ≡ value_at n (d.cells).cells → new.cells ≡ filter (λ e. not (nat_eq e.0 n)) (d.cells).cells
      → (g : Unkept (types C Q V H T E L)) → with_cells (state_of g d) (each cell_of new.cells) ≡ drop_cell_row (state_of g d) n
  no_cell_dropped d n new there is g =
      let w : model.State (types C Q V H T E L) = state_of g d in
      let stood : at (d.cells).cells n ≡ None = no-value (d.cells).cells n (sym there) in
      ap (λ cs. with_cells w (each cell_of cs)) (is ∙ filter-without (d.cells).cells n ∙ without-absent (d.cells).cells n stood)
      ∙ ap (λ b. if b then tell (with_cells w (without w.cells n)) (world.Cell n) else w)
      (sym (ap is_some (found-each cell_of (d.cells).cells n None (sym stood))))
