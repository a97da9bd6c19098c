-- Expressions and keys by the levels that are left; one more name, one more item.
use Rattle.std.proofs.Common.{◌≡◌, ◌<◌, ◌-◌, ◌+◌, ℕ, zero, suc, List, length, drop, drop-cons, add-one, slice_index_or, Some, None, if◌then◌else◌, bytes_eq, refl, ap, arith}
use Rattle.serde_json.specs.Data.{Data}
use Rattle.serde_json.specs.View.{view, items_view}
use Rattle.serde_json.specs.declared.value.Value.{Value}
use Rattle.lang_expressions.specs.declared.signatures.Names.{Names}
use Rattle.lang_expressions.specs.declared.signatures.Signature.{Signature}
use Rattle.lang_expressions.specs.Signatures.{signature_from}
use Rattle.lang_expressions.specs.Expressions.{expression_of, expression_step}
use Rattle.lang_expressions.specs.Kinds.{put_found, found_in_items, found_below, found_in}

-- no level is left
pub expression_none : (levels : ℕ) (names : Names) (variables : List (List ℕ)) (d : Data) → levels ≡ 0 → expression_of levels names variables d ≡ None
unfolding expression_of
expression_none zero names variables d none = refl
expression_none (suc levels) names variables d none = absurd (omega arith)

-- one level goes to this expression
pub expression_some : (levels : ℕ) (names : Names) (variables : List (List ℕ)) (d : Data) → 0 < levels →
    expression_of levels names variables d ≡ expression_step (expression_of (levels - 1) names variables) names variables d
unfolding expression_of
expression_some zero names variables d some = absurd (omega arith)
expression_some (suc levels) names variables d some =
    let e : levels ≡ suc levels - 1 = omega arith in ap (λ n. expression_step (expression_of n names variables) names variables d) e

pub ruleset expression_levels = (expression_none, expression_some)

-- the name at a place decides, or those behind it do
pub signature_next : (name : List ℕ) (signatures : List Signature) (at : ℕ) (next : Signature) → at < length signatures → next ≡ slice_index_or signatures at next →
    signature_from at name (drop at signatures) ≡ (if bytes_eq next.name name then Some (at, next.params) else signature_from (at + 1) name (drop (at + 1) signatures))
signature_next name signatures at next below is =
    let one : at + 1 ≡ suc at = omega arith in
    let rest : drop (at + 1) signatures ≡ drop (suc at) signatures = ap (λ n. drop n signatures) one in
    rw (rest, drop-cons signatures at next, ← is) refl

-- no level is left for keys
pub found_none : (levels : ℕ) (d : Data) (keys : List (List ℕ)) → levels ≡ 0 → found_in levels d keys ≡ keys
unfolding found_in
found_none zero d keys none = refl
found_none (suc levels) d keys none = absurd (omega arith)

-- one level goes to this value
pub found_some : (levels : ℕ) (d : Data) (keys : List (List ℕ)) → 0 < levels → found_in levels d keys ≡ found_below (found_in (levels - 1)) d (put_found d keys)
unfolding found_in
found_some zero d keys some = absurd (omega arith)
found_some (suc levels) d keys some = let e : levels ≡ suc levels - 1 = omega arith in ap (λ n. found_below (found_in n) d (put_found d keys)) e

pub ruleset found_levels = (found_none, found_some)

-- the item at a place was looked through
pub found_in_items_next : (walk : Data → List (List ℕ) → List (List ℕ)) (values : List Value) (at : ℕ) (value : Value) (keys : List (List ℕ)) →
    at < length values → value ≡ slice_index_or values at value →
    found_in_items walk (items_view (drop at values)) keys ≡ found_in_items walk (items_view (drop (at + 1) values)) (walk (view value) keys)
unfolding found_in_items
found_in_items_next walk values at value keys below is = rw (add-one, drop-cons values at value, ← is) refl
