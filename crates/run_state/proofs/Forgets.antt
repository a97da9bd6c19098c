-- The places of what goes leave the table, one after another.
use Rattle.std.proofs.Common.{◌≡◌, ℕ, ◌+◌, ◌<◌, ◌≤◌, Bool, true, false, List, ◌∷◌, drop, get_or, length, nat_eq, refl, sym, ap, ◌∙◌}
use Rattle.std.specs.Prelude.{Option, Some, None, if◌then◌else◌, is_some, slice_get}
use Rattle.std.proofs.lemmas.List.{drop_more}
use Rattle.rt_model.specs.Lists.{without}
use Rattle.run_named.specs.Standings.{after_first, starts, went, without_all}
use Rattle.run_places.specs.declared.nodes.NodeAt.{NodeAt}
use Rattle.run_state.specs.Drawn.{numbers_at, numbers_in}
use Rattle.run_state.proofs.Each.{drop-all}

-- the next one that stays
pub starts_here : (stay : List (ℕ × ℕ)) (i n : ℕ) (d : ℕ × ℕ) → i < length stay → starts (numbers_in (drop i stay)) n ≡ nat_eq n (get_or stay i d).1
starts_here stay i n d within = ap (λ (xs : List (ℕ × ℕ)). starts (numbers_in xs) n) (drop_more stay i d within)

-- none is left
pub starts_none : (stay : List (ℕ × ℕ)) (i n : ℕ) → length stay ≤ i → starts (numbers_in (drop i stay)) n ≡ false
starts_none stay i n end = ap (λ (xs : List (ℕ × ℕ)). starts (numbers_in xs) n) (drop-all stay i end)

-- the rest of what stays
rest_here : (stay : List (ℕ × ℕ)) (i : ℕ) (d : ℕ × ℕ) → i < length stay → after_first (numbers_in (drop i stay)) ≡ numbers_in (drop (i + 1) stay)
rest_here stay i d within = ap (λ (xs : List (ℕ × ℕ)). after_first (numbers_in xs)) (drop_more stay i d within)

module _ (nodes : List NodeAt) where
  -- a number at a node that a side knows
  pub known_more : (e : ℕ × ℕ) (es : List (ℕ × ℕ)) → is_some (slice_get nodes e.0) ≡ true → numbers_at nodes (e ∷ es) ≡ e.1 ∷ numbers_at nodes es
  known_more e es h = by (slice_get nodes e.0) h
    where
      by : (o : Option NodeAt) → is_some o ≡ true → (elim o as (λ _. List ℕ) [ None ↦ numbers_at nodes es | Some q ↦ e.1 ∷ numbers_at nodes es ]) ≡ e.1 ∷ numbers_at nodes es
      by None q = absurd (cc q)
      by (Some a) q = refl

  -- one past their end
  pub not_known : (e : ℕ × ℕ) (es : List (ℕ × ℕ)) → is_some (slice_get nodes e.0) ≡ false → numbers_at nodes (e ∷ es) ≡ numbers_at nodes es
  not_known e es h = by (slice_get nodes e.0) h
    where
      by : (o : Option NodeAt) → is_some o ≡ false → (elim o as (λ _. List ℕ) [ None ↦ numbers_at nodes es | Some q ↦ e.1 ∷ numbers_at nodes es ]) ≡ numbers_at nodes es
      by None q = refl
      by (Some a) q = absurd (cc q)

module _ {A : Type 0} (nodes : List NodeAt) where
  -- what the rest of a walk takes out of a table
  abbrev pub left_of : List (ℕ × A) → List (ℕ × ℕ) → List (ℕ × ℕ) → List (ℕ × A)
  left_of es drawn stay = without_all es (went (numbers_at nodes drawn) (numbers_in stay))

  pub pair_stays : (es : List (ℕ × A)) (e : ℕ × ℕ) (rest stay : List (ℕ × ℕ)) (j : ℕ) → is_some (slice_get nodes e.0) ≡ true → j < length stay → starts (numbers_in (drop j stay)) e.1 ≡ true
      → left_of es rest (drop (j + 1) stay) ≡ left_of es (e ∷ rest) (drop j stay)
  pair_stays es e rest stay j known low here =
      ap (λ (ns : List ℕ). without_all es (went (numbers_at nodes rest) ns)) (sym (rest_here stay j e low))
      ∙ ap (λ (b : Bool). without_all es (if b then went (numbers_at nodes rest) (after_first (numbers_in (drop j stay))) else e.1 ∷ went (numbers_at nodes rest) (numbers_in (drop j stay)))) (sym here)
      ∙ ap (λ (ns : List ℕ). without_all es (went ns (numbers_in (drop j stay)))) (sym (known_more nodes e rest known))

  pub pair_goes : (old new : List (ℕ × A)) (e : ℕ × ℕ) (rest stay : List (ℕ × ℕ)) (j : ℕ) → is_some (slice_get nodes e.0) ≡ true → starts (numbers_in (drop j stay)) e.1 ≡ false → new ≡ without old e.1
      → left_of new rest (drop j stay) ≡ left_of old (e ∷ rest) (drop j stay)
  pair_goes old new e rest stay j known here gone =
      ap (λ (es : List (ℕ × A)). without_all es (went (numbers_at nodes rest) (numbers_in (drop j stay)))) gone
      ∙ ap (λ (b : Bool). without_all old (if b then went (numbers_at nodes rest) (after_first (numbers_in (drop j stay))) else e.1 ∷ went (numbers_at nodes rest) (numbers_in (drop j stay)))) (sym here)
      ∙ ap (λ (ns : List ℕ). without_all old (went ns (numbers_in (drop j stay)))) (sym (known_more nodes e rest known))

  -- a number that stands nowhere
  pub pair_nowhere : (es : List (ℕ × A)) (e : ℕ × ℕ) (rest stay : List (ℕ × ℕ)) → is_some (slice_get nodes e.0) ≡ false → left_of es rest stay ≡ left_of es (e ∷ rest) stay
  pair_nowhere es e rest stay none = ap (λ (ns : List ℕ). without_all es (went ns (numbers_in stay))) (sym (not_known nodes e rest none))

  -- one more of a walk, and its end
  pub walk_more : (old new : List (ℕ × A)) (drawn now before : List (ℕ × ℕ)) (i : ℕ) (d : ℕ × ℕ) → i < length drawn
      → left_of new (drop (i + 1) drawn) now ≡ left_of old (get_or drawn i d ∷ drop (i + 1) drawn) before
      → left_of new (drop (i + 1) drawn) now ≡ left_of old (drop i drawn) before
  walk_more old new drawn now before i d within one = one ∙ ap (λ (xs : List (ℕ × ℕ)). left_of old xs before) (sym (drop_more drawn i d within))

  pub all_gone : (es : List (ℕ × A)) (drawn stay : List (ℕ × ℕ)) (i : ℕ) → length drawn ≤ i → left_of es (drop i drawn) stay ≡ es
  all_gone es drawn stay i end = ap (λ (xs : List (ℕ × ℕ)). without_all es (went (numbers_at nodes xs) (numbers_in stay))) (drop-all drawn i end)
