-- A scope's holders, one more or fewer: it stays listed.
use Rattle.std.proofs.Common.{◌≡◌, ℕ, Bool, true, false, List, [], ◌∷◌, ◌++◌, nat_eq, sym, ap, subst, ◌∙◌}
use Rattle.std.specs.Prelude.{OnErr, OnOk, Result, Ok, Err, not, if◌then◌else◌}
use Rattle.std.specs.List.{list_any}
use Rattle.std.proofs.lemmas.Bool.{eqb-true}
use Rattle.rt_model.proofs.Maps.{by_test}
use Rattle.rt_model.proofs.Members.{by_either, or_left, or_right}
use Rattle.run_records.specs.Kept.{scope_of}
use Rattle.run_records.specs.declared.rest.Scope.{Scope}
use Rattle.run_state.specs.Effects.{IsListed, has_rank}
use Rattle.run_state.specs.Holders.{others}

-- a scope's holders are those before, or one more that is paired with it
holds_more : (hs : List (ℕ × ℕ)) (h : ℕ × ℕ) (t : ℕ) → list_any (λ e. nat_eq e.0 t) (hs ++ h ∷ []) ≡ true → (nat_eq h.0 t ≡ false) → list_any (λ e. nat_eq e.0 t) hs ≡ true
holds_more [] h t q apart = absurd (cc (sym (by_either (nat_eq h.0 t) false q (λ r. r) (λ r. absurd (cc r))) ∙ apart))
holds_more (e ∷ es) h t q apart =
    by_either (nat_eq e.0 t) (list_any (λ d. nat_eq d.0 t) (es ++ h ∷ [])) q
    (λ r. or_left (nat_eq e.0 t) (list_any (λ d. nat_eq d.0 t) es) r)
    (λ r. or_right (nat_eq e.0 t) (list_any (λ d. nat_eq d.0 t) es) (holds_more es h t r apart))

-- who holds among fewer holders held among all
fewer_by : (h : ℕ × ℕ) (hs kept : List (ℕ × ℕ)) (t : ℕ) (b : Bool) → (list_any (λ e. nat_eq e.0 t) kept ≡ true → list_any (λ e. nat_eq e.0 t) hs ≡ true)
    → list_any (λ e. nat_eq e.0 t) (if not b then h ∷ kept else kept) ≡ true → list_any (λ e. nat_eq e.0 t) (h ∷ hs) ≡ true
fewer_by h hs kept t true fewer r = or_right (nat_eq h.0 t) (list_any (λ e. nat_eq e.0 t) hs) (fewer r)
fewer_by h hs kept t false fewer r =
    by_either (nat_eq h.0 t) (list_any (λ e. nat_eq e.0 t) kept) r
    (λ p. or_left (nat_eq h.0 t) (list_any (λ e. nat_eq e.0 t) hs) p)
    (λ p. or_right (nat_eq h.0 t) (list_any (λ e. nat_eq e.0 t) hs) (fewer p))

holds_fewer : (hs : List (ℕ × ℕ)) (task t : ℕ) → list_any (λ e. nat_eq e.0 t) (others hs task) ≡ true → list_any (λ e. nat_eq e.0 t) hs ≡ true
holds_fewer [] task t q = q
holds_fewer (h ∷ hs) task t q = fewer_by h hs (others hs task) t (nat_eq h.0 task) (λ r. holds_fewer hs task t r) q

module _ {P C Q V H T E L : Type 0} where
  pub fewer_holders : (effects held : List (ℕ × ℕ)) (s task : ℕ) (x y : Scope P C Q V H T E L) → y ≡ record x { rest = record (x.rest) { holders = others (x.rest).holders task } }
      → IsListed effects held s (scope_of x) → IsListed effects held s (scope_of y)
  fewer_holders effects held s task x y is h =
      subst (λ (z : Scope P C Q V H T E L). IsListed effects held s (scope_of z)) (sym is)
      (record { queues = h.queues; holders = λ t q. h.holders t (holds_fewer (x.rest).holders task t q) })

module _ {P C Q V H T E L U X : Type 0} where
  pub one_more_holder : (done : Result U X) (effects held : List (ℕ × ℕ)) (s task origin : ℕ) (x y : Scope P C Q V H T E L)
      → OnOk done (y ≡ record x { rest = record (x.rest) { holders = (x.rest).holders ++ (task, origin) ∷ [] } }) → OnErr done (y ≡ x) → has_rank held task s ≡ true
      → IsListed effects held s (scope_of x) → IsListed effects held s (scope_of y)
  one_more_holder (Err e) effects held s task origin x y ok same paired h = subst (λ (z : Scope P C Q V H T E L). IsListed effects held s (scope_of z)) (sym same) h
  one_more_holder (Ok u) effects held s task origin x y ok same paired h =
      subst (λ (z : Scope P C Q V H T E L). IsListed effects held s (scope_of z)) (sym ok)
      (record {
        queues = h.queues;
        holders = λ t q.
            by_test (nat_eq task t)
            (λ p. ap (λ (n : ℕ). has_rank held n s) (sym (eqb-true task t p)) ∙ paired)
            (λ p. h.holders t (holds_more (x.rest).holders (task, origin) t q p));
      })
