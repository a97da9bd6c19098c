-- A test that is true exactly of equal values is the language's.
use Rattle.std.proofs.Common.{Bool, true, ◌≡◌, ◌↔◌, subst, IsTrue}
use Rattle.rt_lemmas.proofs.Bools.{agree as alike}
use Rattle.rt_language.specs.Values.{Value, same_value}
use Rattle.rt_language.proofs.Lawful.{value}

pub same-decides : (is_same : Bool) (v u : Value) → (IsTrue is_same ↔ (v ≡ u)) → is_same ≡ same_value v u
same-decides is_same v u h =
    alike
    is_same
    (same_value v u)
    (λ p. subst (λ (x : Value). same_value v x ≡ true) (h.0 p) (value.1 v))
    (λ q. h.1 (value.0 v u q))
