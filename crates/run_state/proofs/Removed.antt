-- What goes with a scope, and who is told of it.
use Rattle.std.proofs.Common.{◌≡◌, ℕ, ◌+◌, ◌<◌, ◌≤◌, Bool, true, false, List, [], ◌∷◌, ◌++◌, length, get_or, drop, map, refl, ap, sym, ◌∙◌, arith}
use Rattle.std.specs.Prelude.{not, nat_eq, reverse, if◌then◌else◌}
use Rattle.std.specs.List.{filter}
use Rattle.std.specs.Ordering.{is_eq, nat_cmp}
use Rattle.std.proofs.lemmas.List.{drop_more, reverse-append}
use Rattle.std.proofs.lemmas.Bool.Decides.{nat_tests}
use Rattle.rt_values.specs.declared.names.ScopeId.{ScopeId}
use Rattle.rt_cells.specs.declared.numbered.Held.{Held}
use Rattle.rt_cells.specs.declared.sources.Target.{Target}
use Rattle.rt_cells.specs.Held.{is_of, numbers_of, without_scope as others_held}
use Rattle.rt_cells.specs.Cells as tracked
use Rattle.rt_model.specs.Lists.{without, kept_by, drop_number}
use Rattle.rt_model.specs.OneLog.{types}
use Rattle.rt_model.specs.Tree as tree
use Rattle.rt_model.specs.World as world
use Rattle.rt_model.specs.State as model
use Rattle.rt_model.specs.Commands.{tell}
use Rattle.rt_model.specs.Removal.{tell_all, cell_sources, context_sources, cells_in, kinds_of_scopes, kinds_of_contexts, without_scope, told_of_sources, gone, clean_ups}
use Rattle.run_records.specs.Kept.{each}
use Rattle.run_state.specs.CleanUps.{own_clean_up}
use Rattle.run_state.specs.Mirror.{Unkept, forgets, cell_of, context_of, contexts_of, scopes_of, state_of}
use Rattle.run_state.specs.Names.{scope_numbers}
use Rattle.run_state.specs.declared.read_order.Reading.{Reading}
use Rattle.run_state.specs.declared.state.State.{State}
use Rattle.run_state.proofs.Each.{drop-all}

module _ {K : tree.Types} where
  pub cells_step : (ns : List ℕ) (i d : ℕ) (w v : model.State K) → i < length ns → v ≡ tell w (world.Cell (get_or ns i d))
      → tell_all v (cell_sources (drop (i + 1) ns)) ≡ tell_all w (cell_sources (drop i ns))
  cells_step ns i d w v within is =
      ap (λ u. tell_all u (cell_sources (drop (i + 1) ns))) is ∙ ap (λ ms. tell_all w (cell_sources ms)) (sym (drop_more ns i d within))

  pub cells_end : (ns : List ℕ) (i : ℕ) (w v : model.State K) → length ns ≤ i → tell_all w (cell_sources (drop i ns)) ≡ v → w ≡ v
  cells_end ns i w v end is = ap (λ ms. tell_all w (cell_sources ms)) (sym (drop-all ns i end)) ∙ is

  pub kinds_told : (s : ℕ) (ks : List ℕ) (i d : ℕ) (w v : model.State K) → i < length ks → v ≡ tell w (world.Context (get_or ks i d) s)
      → tell_all v (context_sources s (drop (i + 1) ks)) ≡ tell_all w (context_sources s (drop i ks))
  kinds_told s ks i d w v within is =
      ap (λ u. tell_all u (context_sources s (drop (i + 1) ks))) is ∙ ap (λ ms. tell_all w (context_sources s ms)) (sym (drop_more ks i d within))

  pub kinds_end : (s : ℕ) (ks : List ℕ) (i : ℕ) (w v : model.State K) → length ks ≤ i → tell_all w (context_sources s (drop i ks)) ≡ v → w ≡ v
  kinds_end s ks i w v end is = ap (λ ms. tell_all w (context_sources s ms)) (sym (drop-all ks i end)) ∙ is

  -- the error slot is told first, and then what was provided
  pub told_all : (w v u : model.State K) (s : ℕ) (ks : List ℕ) → ks ≡ kinds_of_contexts s w.contexts (kinds_of_scopes s w.scopes [])
      → v ≡ tell w (world.Error s) → u ≡ tell_all v (context_sources s ks) → u ≡ told_of_sources w s
  told_all w v u s ks is first then_told =
      then_told ∙ ap (λ x. tell_all x (context_sources s ks)) first ∙ ap (λ ms. tell_all (tell w (world.Error s)) (context_sources s ms)) is

  -- the record goes, and then its readers are told
  pub all_gone : (w v u x : model.State K) (s : ℕ) (ns : List ℕ) → ns ≡ cells_in s w.cells → v ≡ without_scope w s → u ≡ tell_all v (cell_sources ns) → x ≡ told_of_sources u s → x ≡ gone w s
  all_gone w v u x s ns own less told last =
      last ∙ ap (λ y. told_of_sources y s) (told ∙ (λ i. tell_all (less i) (cell_sources (own i))))

  -- clean-ups: the last one that was made comes first
  one_clean_up : (h : world.Hook K) (hs : List (world.Hook K)) (es : List K.Effect) → clean_ups hs (own_clean_up h ++ es) ≡ clean_ups (h ∷ hs) es
  one_clean_up (world.HookValue kind value) hs es = refl
  one_clean_up (world.HookEffect kind effect) hs es = either (nat_eq kind world.clean_up_kind)
    where
      either : (b : Bool) → clean_ups hs ((if b then effect ∷ [] else []) ++ es) ≡ clean_ups hs (if b then effect ∷ es else es)
      either true = refl
      either false = refl

  turned_own : (h : world.Hook K) (es : List K.Effect) → reverse (es ++ own_clean_up h) ≡ own_clean_up h ++ reverse es
  turned_own (world.HookValue kind value) es = reverse-append es []
  turned_own (world.HookEffect kind effect) es = either (nat_eq kind world.clean_up_kind)
    where
      either : (b : Bool) → reverse (es ++ (if b then effect ∷ [] else [])) ≡ (if b then effect ∷ [] else []) ++ reverse es
      either true = reverse-append es (effect ∷ [])
      either false = reverse-append es []

module _ {A : Type 0} {K : tree.Types} (f : A → world.Hook K) where
  pub clean_step : (hs : List A) (i : ℕ) (h : A) (old new : List K.Effect) → i < length hs → h ≡ get_or hs i h → new ≡ old ++ own_clean_up (f h)
      → clean_ups (map f (drop (i + 1) hs)) (reverse new) ≡ clean_ups (map f (drop i hs)) (reverse old)
  clean_step hs i h old new within is made =
      ap (λ es. clean_ups (map f (drop (i + 1) hs)) (reverse es)) made
      ∙ ap (clean_ups (map f (drop (i + 1) hs))) (turned_own (f h) old)
      ∙ one_clean_up (f h) (map f (drop (i + 1) hs)) (reverse old)
      ∙ ap (λ (x : A). clean_ups (map f (x ∷ drop (i + 1) hs)) (reverse old)) is
      ∙ ap (λ ys. clean_ups (map f ys) (reverse old)) (sym (drop_more hs i h within))

  pub clean_end : (hs : List A) (i : ℕ) (now all : List K.Effect) → length hs ≤ i → clean_ups (map f (drop i hs)) (reverse now) ≡ all → reverse now ≡ all
  clean_end hs i now all end is = ap (λ ys. clean_ups (map f ys) (reverse now)) (sym (drop-all hs i end)) ∙ is

-- a scope's own things, by its number
owner_is : (s : ℕ) (owner : ScopeId) → is_eq (nat_cmp s owner.0) ≡ nat_eq owner.0 s
owner_is s owner = grind (arith, nat_tests)

module _ {V : Type 0} where
  own_is : (s : ℕ) (e : ℕ × Held V) → is_of (record { 0 = s }) e ≡ nat_eq ((e.1).owner).0 s
  own_is s e = owner_is s (e.1).owner

module _ (C Q V H T E L : Type 0) where
  cells_left : (s : ℕ) (cs : List (ℕ × Held V)) → each (cell_of {C = C} {Q = Q} {V = V} {H = H} {T = T} {E = E} {L = L}) (others_held (record { 0 = s }) cs) ≡ kept_by (λ e. not (nat_eq (e.1).owner s)) (each cell_of cs)
  cells_left s [] = refl
  cells_left s (e ∷ cs) =
      step (cells_left s cs) (is_of (record { 0 = s }) e) (nat_eq ((e.1).owner).0 s) (own_is s e)
    where
      step : each (cell_of {C = C} {Q = Q} {V = V} {H = H} {T = T} {E = E} {L = L}) (others_held (record { 0 = s }) cs) ≡ kept_by (λ e. not (nat_eq (e.1).owner s)) (each cell_of cs)
          → (a b : Bool) → a ≡ b
          → each (cell_of {C = C} {Q = Q} {V = V} {H = H} {T = T} {E = E} {L = L}) (if not a then e ∷ others_held (record { 0 = s }) cs else others_held (record { 0 = s }) cs)
          ≡ (if not b then (e.0, cell_of e.1) ∷ kept_by (λ e. not (nat_eq (e.1).owner s)) (each cell_of cs) else kept_by (λ e. not (nat_eq (e.1).owner s)) (each cell_of cs))
      step rest true true is = rest
      step rest false false is = ap (λ es. (e.0, cell_of e.1) ∷ es) rest
      step rest true false is = absurd (cc is)
      step rest false true is = absurd (cc is)

  cells_own : (s : ℕ) (cs : List (ℕ × Held V)) → numbers_of (record { 0 = s }) cs ≡ cells_in s (each (cell_of {C = C} {Q = Q} {V = V} {H = H} {T = T} {E = E} {L = L}) cs)
  cells_own s [] = refl
  cells_own s (e ∷ cs) =
      step (cells_own s cs) (is_of (record { 0 = s }) e) (nat_eq ((e.1).owner).0 s) (own_is s e)
    where
      step : numbers_of (record { 0 = s }) cs ≡ cells_in s (each (cell_of {C = C} {Q = Q} {V = V} {H = H} {T = T} {E = E} {L = L}) cs)
          → (a b : Bool) → a ≡ b
          → map (λ thing. thing.0) (if a then e ∷ filter (is_of (record { 0 = s })) cs else filter (is_of (record { 0 = s })) cs)
          ≡ (if b then e.0 ∷ cells_in s (each (cell_of {C = C} {Q = Q} {V = V} {H = H} {T = T} {E = E} {L = L}) cs) else cells_in s (each (cell_of {C = C} {Q = Q} {V = V} {H = H} {T = T} {E = E} {L = L}) cs))
      step rest true true is = ap (λ ns. e.0 ∷ ns) rest
      step rest false false is = rest
      step rest true false is = absurd (cc is)
      step rest false true is = absurd (cc is)

  contexts_left : (s : ℕ) (order : List Reading) (es : List (ℕ × Held Target))
      → contexts_of {C = C} {Q = Q} {V = V} {H = H} {T = T} {E = E} {L = L} order (others_held (record { 0 = s }) es) ≡ kept_by (λ e. not (nat_eq (e.1).scope s)) (contexts_of order es)
  contexts_left s order [] = refl
  contexts_left s order (e ∷ es) =
      step (contexts_left s order es) (is_of (record { 0 = s }) e) (nat_eq ((e.1).owner).0 s) (own_is s e)
    where
      step : contexts_of {C = C} {Q = Q} {V = V} {H = H} {T = T} {E = E} {L = L} order (others_held (record { 0 = s }) es) ≡ kept_by (λ e. not (nat_eq (e.1).scope s)) (contexts_of order es)
          → (a b : Bool) → a ≡ b
          → contexts_of {C = C} {Q = Q} {V = V} {H = H} {T = T} {E = E} {L = L} order (if not a then e ∷ others_held (record { 0 = s }) es else others_held (record { 0 = s }) es)
          ≡ (if not b then (e.0, context_of order e.0 e.1) ∷ kept_by (λ e. not (nat_eq (e.1).scope s)) (contexts_of order es) else kept_by (λ e. not (nat_eq (e.1).scope s)) (contexts_of order es))
      step rest true true is = rest
      step rest false false is = ap (λ xs. (e.0, context_of order e.0 e.1) ∷ xs) rest
      step rest true false is = absurd (cc is)
      step rest false true is = absurd (cc is)

module _ {P C Q V H T E L : Type 0} where
  -- the cells of a scope
  pub cells_found : (g : Unkept (types C Q V H T E L)) (d : State P C Q V H T E L) (s : ℕ) (ns : List ℕ) → ns ≡ numbers_of (record { 0 = s }) (d.cells).cells → ns ≡ cells_in s (state_of g d).cells
  cells_found g d s ns is = is ∙ cells_own C Q V H T E L s (d.cells).cells

  -- all that goes with the record
  pub scope_dropped : (g : Unkept (types C Q V H T E L)) (d : State P C Q V H T E L) (s : ℕ) (first cells : tracked.State V) (resolved : List ℕ) (skipped : List ScopeId)
      → first ≡ tracked.cells_of_dropped (record { 0 = s }) d.cells
      → cells ≡ tracked.contexts_dropped (record { 0 = s }) first
      → resolved ≡ drop_number d.resolved s
      → scope_numbers skipped ≡ drop_number (scope_numbers d.skipped) s
      → record (state_of (forgets g s) d) { scopes = without (scopes_of (d.rows).table) s; cells = each cell_of cells.cells; contexts = contexts_of d.read_order cells.contexts; resolved = resolved; skipped = scope_numbers skipped } ≡ without_scope (state_of g d) s
  scope_dropped g d s first cells resolved skipped first_is cells_is resolved_is skipped_is =
      λ i. record (state_of (forgets g s) d) {
        scopes = without (scopes_of (d.rows).table) s;
        cells = (ap (λ (t : tracked.State V). each cell_of t.cells) cells_is ∙ ap (λ (t : tracked.State V). each cell_of t.cells) first_is ∙ cells_left C Q V H T E L s (d.cells).cells) i;
        contexts = (ap (λ (t : tracked.State V). contexts_of d.read_order t.contexts) cells_is
            ∙ ap (λ (t : tracked.State V). contexts_of d.read_order (others_held (record { 0 = s }) t.contexts)) first_is
            ∙ contexts_left C Q V H T E L s d.read_order (d.cells).contexts) i;
        resolved = resolved_is i;
        skipped = skipped_is i;
      }
