-- What a line is after a change of one seat and of the places.
use Rattle.std.proofs.Common.{◌≡◌, ℕ, true, false, cond, List, [], ◌∷◌, ◌+◌, eqb, refl, ap, ◌∙◌, sym, subst, ⊎_elim, arith, Option, Some, None}
use Rattle.std.proofs.lemmas.Bool.{or_cases, or_right, or_left, eqb-true, eq-eqb, ne_eqb, eqb-false, both_ways, cases_Bool}
use Rattle.std.specs.Option.{option_map}
use Rattle.rt_sched.specs.Places.{same_place, with_place, has_place, without_place}
use Rattle.rt_sched.specs.Lines.{waits, who_waits, order_in, IsLine}
use Rattle.rt_sched.specs.declared.place.Place.{Place}
use Rattle.rt_sched.proofs.PlaceLemmas.{same_place_is, same_place_itself}
use Rattle.rt_sched.proofs.InOrder.{in_order_with_place, in_order_without_place}
use Rattle.rt_sched.proofs.Waits.{placed_waits, waiting_place, order_in_placed, order_in_absent, has_place_with_place, below_with_place, below_more, once_with_place, has_place_kept, has_place_had, once_without_place, below_without_place, gone_without_place}

-- who is at home doesn't wait
pub not_waiting : (f : ℕ → Option Place) (ps : List Place) (a n : ℕ) → IsLine f ps a → f n ≡ None → waits n (who_waits ps) ≡ false
not_waiting f ps a n l none =
    ⊎_elim (λ (t : waits n (who_waits ps) ≡ true).
    let w = waiting_place n ps t in
    let at : f n ≡ Some w.0 = ap f w.2 ∙ l.seated w.0 w.1 in
    absurd cc) (λ (t : waits n (who_waits ps) ≡ false). t) (cases_Bool (waits n (who_waits ps)))

-- who stands at a place waits
pub is_waiting : (f : ℕ → Option Place) (ps : List Place) (a n : ℕ) (x : Place) → IsLine f ps a → f n ≡ Some x → waits n (who_waits ps) ≡ true
is_waiting f ps a n x l some =
    let s = l.stands n x some in subst (λ (m : ℕ). waits m (who_waits ps) ≡ true) s.1 (placed_waits x ps s.0)

pub order_at_place : (f : ℕ → Option Place) (ps : List Place) (a n : ℕ) (x : Place) → IsLine f ps a → f n ≡ Some x → order_in n (who_waits ps) ≡ Some x.order
order_at_place f ps a n x l some =
    let s = l.stands n x some in subst (λ (m : ℕ). order_in m (who_waits ps) ≡ Some x.order) s.1 (order_in_placed x ps l.once s.0)

pub order_at_home : (f : ℕ → Option Place) (ps : List Place) (a n : ℕ) → IsLine f ps a → f n ≡ None → order_in n (who_waits ps) ≡ None
order_at_home f ps a n l none = order_in_absent n (who_waits ps) (not_waiting f ps a n l none)

pub line_same : (f g : ℕ → Option Place) (ps : List Place) (a : ℕ) → IsLine f ps a → ((q : ℕ) → g q ≡ f q) → IsLine g ps a
line_same f g ps a l e = record {
  in_order = l.in_order;
  below = l.below;
  once = l.once;
  stands = λ n p h. l.stands n p (sym (e n) ∙ h);
  seated = λ p h. e p.number ∙ l.seated p h;
}

pub line_push : (f g : ℕ → Option Place) (ps : List Place) (a : ℕ) (x : Place) → IsLine f ps a → x.arrival ≡ a → waits x.number (who_waits ps) ≡ false
    → ((q : ℕ) → g q ≡ cond (eqb q x.number) (Some x) (f q)) → IsLine g (with_place x ps) (a + 1)
line_push f g ps a x l at absent e = record {
  in_order = in_order_with_place x ps l.in_order;
  below = below_with_place (a + 1) x ps (omega arith) (below_more a (a + 1) ps (omega arith) l.below);
  once = once_with_place x ps absent l.once;
  stands = λ n p h.
      ⊎_elim (λ (i : eqb n x.number ≡ true).
      let same : Some x ≡ Some p = sym (e n ∙ rw i refl) ∙ h in
      let is : x ≡ p = cc in
      (has_place_with_place p x ps ∙ or_left _ _ (subst (λ (r : Place). same_place p r ≡ true) (sym is) (same_place_itself p)), subst (λ (r : Place). r.number ≡ n) is (sym (eqb-true n x.number i))))
      (λ (i : eqb n x.number ≡ false).
      let s = l.stands n p (sym (e n ∙ rw i refl) ∙ h) in (has_place_with_place p x ps ∙ or_right _ _ s.0, s.1)) (cases_Bool (eqb n x.number));
  seated = λ p h.
      ⊎_elim (λ (i : same_place p x ≡ true).
      let is = same_place_is p x i in
      e p.number ∙ rw (eq-eqb p.number x.number (ap (λ (r : Place). r.number) is)) (ap Some (sym is)))
      (λ (i : has_place p ps ≡ true).
      let other : eqb p.number x.number ≡ false = ne_eqb p.number x.number (λ s. both_ways _ absent (subst (λ (m : ℕ). waits m (who_waits ps) ≡ true) s (placed_waits p ps i))) in
      e p.number ∙ rw other (l.seated p i)) (or_cases (same_place p x) (has_place p ps) (sym (has_place_with_place p x ps) ∙ h));
}

pub line_remove : (f g : ℕ → Option Place) (ps : List Place) (a : ℕ) (x : Place) → IsLine f ps a → has_place x ps ≡ true
    → ((q : ℕ) → g q ≡ cond (eqb q x.number) None (f q)) → IsLine g (without_place x ps) a
line_remove f g ps a x l here e = record {
  in_order = in_order_without_place x ps l.in_order;
  below = below_without_place a x ps l.below;
  once = once_without_place x ps l.once;
  stands = λ n p h.
      ⊎_elim (λ (i : eqb n x.number ≡ true). let none : None ≡ Some p = sym (e n ∙ rw i refl) ∙ h in absurd cc)
      (λ (i : eqb n x.number ≡ false).
      let s = l.stands n p (sym (e n ∙ rw i refl) ∙ h) in
      let apart : same_place p x ≡ false = ⊎_elim (λ (t : same_place p x ≡ true). absurd (eqb-false n x.number i (sym s.1 ∙ ap (λ (r : Place). r.number) (same_place_is p x t)))) (λ (t : same_place p x ≡ false). t) (cases_Bool (same_place p x)) in
      (has_place_kept p x ps apart s.0, s.1)) (cases_Bool (eqb n x.number));
  seated = λ p h.
      let other : eqb p.number x.number ≡ false = ne_eqb p.number x.number (λ s. both_ways _ (gone_without_place x ps l.once here) (subst (λ (m : ℕ). waits m (who_waits (without_place x ps)) ≡ true) s (placed_waits p (without_place x ps) h))) in
      e p.number ∙ rw other (l.seated p (has_place_had p x ps h));
}

pub line_forget : (f g : ℕ → Option Place) (ps : List Place) (a n : ℕ) → IsLine f ps a → waits n (who_waits ps) ≡ false
    → ((q : ℕ) → g q ≡ cond (eqb q n) None (f q)) → IsLine g ps a
line_forget f g ps a n l absent e = record {
  in_order = l.in_order;
  below = l.below;
  once = l.once;
  stands = λ m p h.
      ⊎_elim (λ (i : eqb m n ≡ true). let none : None ≡ Some p = sym (e m ∙ rw i refl) ∙ h in absurd cc)
      (λ (i : eqb m n ≡ false). l.stands m p (sym (e m ∙ rw i refl) ∙ h)) (cases_Bool (eqb m n));
  seated = λ p h.
      let other : eqb p.number n ≡ false = ne_eqb p.number n (λ s. both_ways _ absent (subst (λ (m : ℕ). waits m (who_waits ps) ≡ true) s (placed_waits p ps h))) in
      e p.number ∙ rw other (l.seated p h);
}

pub line_start : (f : ℕ → Option Place) (a : ℕ) → ((q : ℕ) → f q ≡ None) → IsLine f [] a
line_start f a e = record {
  in_order = tt;
  below = tt;
  once = tt;
  stands = λ n p h. let none : None ≡ Some p = sym (e n) ∙ h in absurd cc;
  seated = λ p h. absurd (both_ways false refl h);
}

pub line_pop : (f g : ℕ → Option Place) (ps rest : List Place) (a : ℕ) (x : Place) → IsLine f ps a → ps ≡ x ∷ rest
    → ((q : ℕ) → g q ≡ cond (eqb q x.number) None (f q)) → IsLine g rest a
line_pop f g ps rest a x l is e =
    let here : has_place x ps ≡ true = rw is (or_left _ _ (same_place_itself x)) in
    let left : without_place x ps ≡ rest = rw is (rw (same_place_itself x) refl) in
    subst (λ qs. IsLine g qs a) left (line_remove f g ps a x l here e)

pub order_by_place : (f : ℕ → Option Place) (ps : List Place) (a n : ℕ) → IsLine f ps a → order_in n (who_waits ps) ≡ option_map (λ (p : Place). p.order) (f n)
order_by_place f ps a n l =
    (elim (f n) as (λ o. f n ≡ o → order_in n (who_waits ps) ≡ option_map (λ (p : Place). p.order) o) [
      | None ↦ λ e. order_at_home f ps a n l e
      | Some x ↦ λ e. order_at_place f ps a n x l e
    ]) refl
