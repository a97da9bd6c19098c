-- Batches of those that wait, when the effects of one scope change.
use Rattle.std.proofs.Common.{◌≡◌, ℕ, Bool, true, false, cond, ◌||◌, List, [], ◌∷◌, ◌++◌, map, eqb, refl, ap, ◌∙◌, sym, ⊎_elim, Option, Some}
use Rattle.std.proofs.lemmas.Bool.{or_parts, eqb-true, eq-eqb, ne_eqb, eqb-false, cases_Bool}
use Rattle.std.specs.List.{filter}
use Rattle.rt_sched.specs.Order.{order_before}
use Rattle.rt_sched.specs.Lines.{waits, with_last, without_waiting}
use Rattle.rt_sched.specs.Batches.{has_batch, with_later, with_batch, without_batch}
use Rattle.rt_sched.specs.Pending.{AllTagged, effects_of}
use Rattle.rt_sched.specs.declared.order.ScopeOrder.{ScopeOrder}

module _ {E : Type 0} where
  -- the batches by a function from numbers
  abbrev pub by : (ℕ → Option (List E)) → List (ScopeOrder × ℕ) → List (ScopeOrder × List E)
  by f ws = map (λ w. (w.0, effects_of (f w.1))) ws

  pub by_same : (f g : ℕ → Option (List E)) (ws : List (ScopeOrder × ℕ)) → ((q : ℕ) → g q ≡ f q) → by g ws ≡ by f ws
  by_same f g [] e = refl
  by_same f g (w ∷ ws) e = rw (e w.1) (ap (λ v. (w.0, effects_of (f w.1)) ∷ v) (by_same f g ws e))

  pub has_batch_by : (n : ℕ) (f : ℕ → Option (List E)) (ws : List (ScopeOrder × ℕ)) → AllTagged ws → has_batch n (by f ws) ≡ waits n ws
  has_batch_by n f [] t = refl
  has_batch_by n f (w ∷ ws) t = rw (t.0) (ap (λ b. eqb n w.0.id.0 || b) (has_batch_by n f ws t.1))

  -- what becomes of a number that doesn't wait changes nothing
  pub by_absent : (n : ℕ) (f g : ℕ → Option (List E)) (s : Option (List E)) (ws : List (ScopeOrder × ℕ)) → waits n ws ≡ false
      → ((q : ℕ) → g q ≡ cond (eqb q n) s (f q)) → by g ws ≡ by f ws
  by_absent n f g s [] h e = refl
  by_absent n f g s (w ∷ ws) h e =
      let parts = or_parts (eqb n w.1) (waits n ws) h in
      let apart : eqb w.1 n ≡ false = ne_eqb w.1 n (λ i. eqb-false n w.1 parts.0 (sym i)) in
      let same : g w.1 ≡ f w.1 = e w.1 ∙ rw apart refl in
      rw same (ap (λ v. (w.0, effects_of (f w.1)) ∷ v) (by_absent n f g s ws parts.1 e))

  pub by_later : (n : ℕ) (x : E) (f g : ℕ → Option (List E)) (ws : List (ScopeOrder × ℕ)) → AllTagged ws
      → ((q : ℕ) → g q ≡ cond (eqb q n) (Some (effects_of (f n) ++ x ∷ [])) (f q)) → by g ws ≡ with_later n x (by f ws)
  by_later n x f g [] t e = refl
  by_later n x f g (w ∷ ws) t e =
      ⊎_elim (λ (i : eqb n w.0.id.0 ≡ true).
      let number : w.1 ≡ n = t.0 ∙ sym (eqb-true n w.0.id.0 i) in
      let now : g w.1 ≡ Some (effects_of (f w.1) ++ x ∷ []) = e w.1 ∙ rw (eq-eqb w.1 n number) (ap (λ m. Some (effects_of (f m) ++ x ∷ [])) (sym number)) in
      rw (now, i) (ap (λ v. (w.0, effects_of (f w.1) ++ x ∷ []) ∷ v) (by_later n x f g ws t.1 e)))
      (λ (i : eqb n w.0.id.0 ≡ false).
      let apart : eqb w.1 n ≡ false = ne_eqb w.1 n (λ s. eqb-false n w.0.id.0 i (sym s ∙ t.0)) in
      let same : g w.1 ≡ f w.1 = e w.1 ∙ rw apart refl in
      rw (same, i) (ap (λ v. (w.0, effects_of (f w.1)) ∷ v) (by_later n x f g ws t.1 e))) (cases_Bool (eqb n w.0.id.0))

  by_cases : (b : Bool) (o : ScopeOrder) (es : List E) (d : ScopeOrder × List E) (bs cs : List (ScopeOrder × List E)) (n : ℕ) (w : ScopeOrder × ℕ) (ws vs : List (ScopeOrder × ℕ)) (g : ℕ → Option (List E))
      → effects_of (g n) ≡ es → (w.0, effects_of (g w.1)) ≡ d → by g ws ≡ bs → by g vs ≡ cs
      → by g (cond b ((o, n) ∷ w ∷ ws) (w ∷ vs)) ≡ cond b ((o, es) ∷ d ∷ bs) (d ∷ cs)
  by_cases true o es d bs cs n w ws vs g p q r s = rw (p, q, r) refl
  by_cases false o es d bs cs n w ws vs g p q r s = rw (q, s) refl

  pub by_begun : (n : ℕ) (o : ScopeOrder) (es : List E) (f g : ℕ → Option (List E)) (ws : List (ScopeOrder × ℕ)) → waits n ws ≡ false
      → ((q : ℕ) → g q ≡ cond (eqb q n) (Some es) (f q)) → by g (with_last o n ws) ≡ with_batch o es (by f ws)
  by_begun n o es f g [] h e =
      let now : g n ≡ Some es = e n ∙ rw (eq-eqb n n refl) refl in
      rw now refl
  by_begun n o es f g (w ∷ ws) h e =
      let parts = or_parts (eqb n w.1) (waits n ws) h in
      let apart : eqb w.1 n ≡ false = ne_eqb w.1 n (λ i. eqb-false n w.1 parts.0 (sym i)) in
      let now : g n ≡ Some es = e n ∙ rw (eq-eqb n n refl) refl in
      let same : g w.1 ≡ f w.1 = e w.1 ∙ rw apart refl in
      by_cases (order_before o w.0) o es (w.0, effects_of (f w.1)) (by f ws) (with_batch o es (by f ws)) n w ws (with_last o n ws) g
      (ap effects_of now) (ap (λ s. (w.0, effects_of s)) same) (by_absent n f g (Some es) ws parts.1 e) (by_begun n o es f g ws parts.1 e)

  pub by_gone : (n : ℕ) (s : Option (List E)) (f g : ℕ → Option (List E)) (ws : List (ScopeOrder × ℕ)) → AllTagged ws
      → ((q : ℕ) → g q ≡ cond (eqb q n) s (f q)) → by g (without_waiting n ws) ≡ without_batch n (by f ws)
  by_gone n s f g [] t e = refl
  by_gone n s f g (w ∷ ws) t e =
      ⊎_elim (λ (i : eqb n w.1 ≡ true). let j : eqb n w.0.id.0 ≡ true = ap (eqb n) (sym t.0) ∙ i in rw (i, j) (by_gone n s f g ws t.1 e))
      (λ (i : eqb n w.1 ≡ false).
      let j : eqb n w.0.id.0 ≡ false = ap (eqb n) (sym t.0) ∙ i in
      let apart : eqb w.1 n ≡ false = ne_eqb w.1 n (λ k. eqb-false n w.1 i (sym k)) in
      let same : g w.1 ≡ f w.1 = e w.1 ∙ rw apart refl in
      rw (i, j) (rw same (ap (λ v. (w.0, effects_of (f w.1)) ∷ v) (by_gone n s f g ws t.1 e)))) (cases_Bool (eqb n w.1))

-- ---- tags
pub tagged_with_last : (o : ScopeOrder) (n : ℕ) (ws : List (ScopeOrder × ℕ)) → n ≡ o.id.0 → AllTagged ws → AllTagged (with_last o n ws)
tagged_with_last o n [] h t = (h, tt)
tagged_with_last o n (w ∷ ws) h t =
    elim (order_before o w.0) as (λ b. AllTagged (cond b ((o, n) ∷ w ∷ ws) (w ∷ with_last o n ws))) [ true ↦ (h, t) | false ↦ (t.0, tagged_with_last o n ws h t.1) ]

pub tagged_filter : (p : ScopeOrder × ℕ → Bool) (ws : List (ScopeOrder × ℕ)) → AllTagged ws → AllTagged (filter p ws)
tagged_filter p [] t = tt
tagged_filter p (w ∷ ws) t = elim (p w) as (λ b. AllTagged (cond b (w ∷ filter p ws) (filter p ws))) [ true ↦ (t.0, tagged_filter p ws t.1) | false ↦ tagged_filter p ws t.1 ]

pub none_waits : {E : Type 0} (f : ℕ → Option (List E)) (ws : List (ScopeOrder × ℕ)) → by f ws ≡ [] → ws ≡ []
none_waits f [] e = refl
none_waits f (w ∷ ws) e = absurd cc
