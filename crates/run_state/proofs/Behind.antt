-- Places that leave a table from behind leave what they do in order.
use Rattle.std.proofs.Common.{◌≡◌, ℕ, ◌+◌, ◌<◌, Bool, true, false, List, [], ◌∷◌, ◌++◌, drop, get_or, length, nat_eq, refl, sym, ap, ◌∙◌}
use Rattle.std.specs.Prelude.{◌==◌, Option, Some, None, slice_get}
use Rattle.std.proofs.lemmas.Bool.{eqb-true}
use Rattle.std.proofs.lemmas.List.{drop_more, nil_from_length}
use Rattle.rt_model.specs.Lists.{without}
use Rattle.rt_model.proofs.Maps.{by_test, pick_false, pick_true}
use Rattle.run_named.specs.Standings.{went, without_all}
use Rattle.run_places.specs.declared.nodes.NodeAt.{NodeAt}
use Rattle.run_state.specs.Drawn.{numbers_at, numbers_in}

-- where none stays, all go
went_all : (ms : List ℕ) → went ms [] ≡ ms
went_all [] = refl
went_all (m ∷ ms) = ap (λ ns. m ∷ ns) (went_all ms)

no_stay : (stay : List (ℕ × ℕ)) (b : Bool) → b ≡ (length stay == 0) → b ≡ true → numbers_in stay ≡ []
no_stay stay b is none = ap (λ (es : List (ℕ × ℕ)). numbers_in es) (nil_from_length stay (eqb-true (length stay) 0 (sym is ∙ none)))

pub none_stays : {A : Type 0} (nodes : List NodeAt) (es : List (ℕ × A)) (drawn stay : List (ℕ × ℕ)) (b : Bool) → b ≡ (length stay == 0) → b ≡ true
    → without_all es (numbers_at nodes drawn) ≡ without_all es (went (numbers_at nodes drawn) (numbers_in stay))
none_stays nodes es drawn stay b is none =
    ap (λ (ns : List ℕ). without_all es ns) (sym (went_all (numbers_at nodes drawn)))
    ∙ ap (λ (ns : List ℕ). without_all es (went (numbers_at nodes drawn) ns)) (sym (no_stay stay b is none))

module _ {A : Type 0} where
  -- the rows of a number go, and those of another one stay
  goes : (e : ℕ × A) (es : List (ℕ × A)) (n : ℕ) → nat_eq e.0 n ≡ true → without (e ∷ es) n ≡ without es n
  goes e es n q = pick_true (without es n) (e ∷ without es n) q

  keeps : (e : ℕ × A) (es : List (ℕ × A)) (n : ℕ) → nat_eq e.0 n ≡ false → without (e ∷ es) n ≡ e ∷ without es n
  keeps e es n q = pick_false (without es n) (e ∷ without es n) q

  -- two numbers leave in either order
  swapped : (es : List (ℕ × A)) (m n : ℕ) → without (without es m) n ≡ without (without es n) m
  swapped [] m n = refl
  swapped (e ∷ es) m n =
      by_test (nat_eq e.0 m)
      (
      λ q. ap (λ (xs : List (ℕ × A)). without xs n) (goes e es m q)
      ∙ swapped es m n
      ∙ by_test (nat_eq e.0 n)
      (λ r. sym (ap (λ (xs : List (ℕ × A)). without xs m) (goes e es n r)))
      (λ r. sym (goes e (without es n) m q) ∙ sym (ap (λ (xs : List (ℕ × A)). without xs m) (keeps e es n r)))
      )
      (
      λ q. ap (λ (xs : List (ℕ × A)). without xs n) (keeps e es m q)
      ∙ by_test (nat_eq e.0 n)
      (λ r. goes e (without es m) n r ∙ swapped es m n ∙ sym (ap (λ (xs : List (ℕ × A)). without xs m) (goes e es n r)))
      (
      λ r. keeps e (without es m) n r
      ∙ ap (λ (xs : List (ℕ × A)). e ∷ xs) (swapped es m n)
      ∙ sym (keeps e (without es n) m q) ∙ sym (ap (λ (xs : List (ℕ × A)). without xs m) (keeps e es n r))
      )
      )

  -- one that leaves first may as well leave last
  past : (es : List (ℕ × A)) (m : ℕ) (ns : List ℕ) → without_all (without es m) ns ≡ without (without_all es ns) m
  past es m [] = refl
  past es m (n ∷ ns) = ap (λ (xs : List (ℕ × A)). without_all xs ns) (swapped es m n) ∙ past (without es n) m ns

  -- what leaves after others
  after_rest : (es : List (ℕ × A)) (ms ns : List ℕ) → without_all es (ms ++ ns) ≡ without_all (without_all es ns) ms
  after_rest es [] ns = refl
  after_rest es (m ∷ ms) ns = after_rest (without es m) ms ns ∙ ap (λ (xs : List (ℕ × A)). without_all xs ms) (past es m ns)

-- the number of one that is drawn, and then those of the rest
first_at : (nodes : List NodeAt) (e : ℕ × ℕ) (es : List (ℕ × ℕ)) → numbers_at nodes (e ∷ es) ≡ numbers_at nodes (e ∷ []) ++ numbers_at nodes es
first_at nodes e es = by (slice_get nodes e.0)
  where
    by : (o : Option NodeAt)
        → (elim o as (λ _. List ℕ) [ None ↦ numbers_at nodes es | Some q ↦ e.1 ∷ numbers_at nodes es ])
        ≡ (elim o as (λ _. List ℕ) [ None ↦ [] | Some q ↦ e.1 ∷ [] ]) ++ numbers_at nodes es
    by None = refl
    by (Some q) = refl

-- one more goes, before which all behind it went
pub back_more : {A : Type 0} (nodes : List NodeAt) (old now new : List (ℕ × A)) (drawn : List (ℕ × ℕ)) (i k : ℕ) → i < length drawn → k ≡ i + 1
    → now ≡ without_all old (numbers_at nodes (drop k drawn)) → new ≡ without_all now (numbers_at nodes (get_or drawn i (0, 0) ∷ []))
    → new ≡ without_all old (numbers_at nodes (drop i drawn))
back_more {A = A} nodes old now new drawn i k within next so_far one =
    let e : ℕ × ℕ = get_or drawn i (0, 0) in
    one
    ∙ ap (λ (es : List (ℕ × A)). without_all es (numbers_at nodes (e ∷ []))) (so_far ∙ ap (λ n. without_all old (numbers_at nodes (drop n drawn))) next)
    ∙ sym (after_rest old (numbers_at nodes (e ∷ [])) (numbers_at nodes (drop (i + 1) drawn)))
    ∙ ap (λ (ns : List ℕ). without_all old ns) (sym (first_at nodes e (drop (i + 1) drawn)))
    ∙ ap (λ (xs : List (ℕ × ℕ)). without_all old (numbers_at nodes xs)) (sym (drop_more drawn i (0, 0) within))
