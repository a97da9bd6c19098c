-- The line of scopes with effects and their batches, when one batch changes.
use Rattle.std.proofs.Common.{◌≡◌, ℕ, Bool, true, false, cond, ◌||◌, List, eqb, refl, ap, ◌∙◌, sym, ⊎_elim, Option, Some, None, Result, Ok, Err}
use Rattle.std.proofs.lemmas.Bool.{eqb-true, cases_Bool}
use Rattle.std.specs.Option.{is_some}
use Rattle.std.specs.Result.{OnOk}
use Rattle.std.specs.Ordering.{nat_cmp, is_eq}
use Rattle.std.specs.BTreeMap.{BTreeMap, get}
use Rattle.rt_lemmas.proofs.Bools.{cond_or}
use Rattle.rt_lemmas.proofs.Numbers.{ties_back}
use Rattle.rt_sched.specs.Lines.{Row, waits, with_last, without_waiting}
use Rattle.rt_sched.specs.Pending.{ArePending}
use Rattle.rt_sched.specs.declared.order.ScopeOrder.{ScopeOrder}
use Rattle.rt_sched.proofs.BatchLemmas.{tagged_with_last, tagged_filter}
use Rattle.rt_sched.proofs.RollLemmas.{waits_with_last, waits_without}

-- what holds where a call went through gives what follows from it
pub on_ok : {T F : Type 0} (r : Result T F) (P Q : Type 0) → OnOk r P → (P → Q) → OnOk r Q
on_ok (Ok x) P Q h f = f h
on_ok (Err e) P Q h f = h

module _ {E : Type 0} where
  -- what a map has at each number when that at n becomes s
  pub now_at : (m m' : BTreeMap ℕ (List E)) (n : ℕ) (s : Option (List E)) → ((q : ℕ) → get nat_cmp m' q ≡ cond (is_eq (nat_cmp n q)) s (get nat_cmp m q))
      → (q : ℕ) → get nat_cmp m' q ≡ cond (eqb q n) s (get nat_cmp m q)
  now_at m m' n s e q = e q ∙ ap (λ b. cond b s (get nat_cmp m q)) (ties_back n q)

  some_cond : (b : Bool) (s t : Option (List E)) → is_some (cond b s t) ≡ cond b (is_some s) (is_some t)
  some_cond true s t = refl
  some_cond false s t = refl

  pub pending_same : (l l' : Row) (m m' : BTreeMap ℕ (List E)) → ArePending l m → l'.waiting ≡ l.waiting → ((q : ℕ) → is_some (get nat_cmp m' q) ≡ is_some (get nat_cmp m q)) → ArePending l' m'
  pending_same l l' m m' p w e = record {
    kept = λ q. ap (waits q) w ∙ p.kept q ∙ sym (e q);
    tagged = rw w p.tagged;
  }

  pub pending_begun : (l l' : Row) (m m' : BTreeMap ℕ (List E)) (n : ℕ) (o : ScopeOrder) (es : List E) → ArePending l m → n ≡ o.id.0 → l'.waiting ≡ with_last o n l.waiting
      → ((q : ℕ) → get nat_cmp m' q ≡ cond (eqb q n) (Some es) (get nat_cmp m q)) → ArePending l' m'
  pending_begun l l' m m' n o es p t w e = record {
    kept = λ q. ap (waits q) w ∙ waits_with_last q n o l.waiting ∙ ap (λ b. eqb q n || b) (p.kept q) ∙ sym (cond_or (eqb q n) (is_some (get nat_cmp m q))) ∙ sym (some_cond (eqb q n) (Some es) (get nat_cmp m q)) ∙ sym (ap is_some (e q));
    tagged = rw w (tagged_with_last o n l.waiting t p.tagged);
  }

  pub pending_gone : (l l' : Row) (m m' : BTreeMap ℕ (List E)) (n : ℕ) → ArePending l m → l'.waiting ≡ without_waiting n l.waiting
      → ((q : ℕ) → get nat_cmp m' q ≡ cond (eqb q n) None (get nat_cmp m q)) → ArePending l' m'
  pending_gone l l' m m' n p w e = record {
    kept = λ q. ap (waits q) w ∙ waits_without q n l.waiting ∙ ap (λ b. cond (eqb q n) false b) (p.kept q) ∙ sym (some_cond (eqb q n) None (get nat_cmp m q)) ∙ sym (ap is_some (e q));
    tagged = rw w (tagged_filter _ l.waiting p.tagged);
  }

  -- a batch that was begun and dropped again leaves all as it was
  pub undone : (m m' m'' : BTreeMap ℕ (List E)) (n : ℕ) (es : List E) → get nat_cmp m n ≡ None → ((q : ℕ) → get nat_cmp m' q ≡ cond (eqb q n) (Some es) (get nat_cmp m q))
      → ((q : ℕ) → get nat_cmp m'' q ≡ cond (eqb q n) None (get nat_cmp m' q)) → (q : ℕ) → get nat_cmp m'' q ≡ get nat_cmp m q
  undone m m' m'' n es none e f q =
      f q ∙ ⊎_elim (λ (i : eqb q n ≡ true). rw i (sym (ap (get nat_cmp m) (eqb-true q n i) ∙ none))) (λ (i : eqb q n ≡ false). rw i (e q ∙ rw i refl)) (cases_Bool (eqb q n))

  pub none_from_some : (o : Option (List E)) → is_some o ≡ false → o ≡ None
  none_from_some None e = refl
  none_from_some (Some s) e = absurd cc

  pub some_later : (m m' : BTreeMap ℕ (List E)) (n : ℕ) (es : List E) → is_some (get nat_cmp m n) ≡ true → ((q : ℕ) → get nat_cmp m' q ≡ cond (eqb q n) (Some es) (get nat_cmp m q))
      → (q : ℕ) → is_some (get nat_cmp m' q) ≡ is_some (get nat_cmp m q)
  some_later m m' n es some e q =
      ap is_some (e q) ∙ ⊎_elim (λ (i : eqb q n ≡ true). rw i (sym (ap (λ k. is_some (get nat_cmp m k)) (eqb-true q n i) ∙ some))) (λ (i : eqb q n ≡ false). rw i refl) (cases_Bool (eqb q n))
