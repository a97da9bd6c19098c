-- The rest of a list of nodes, from one of them on.
use Rattle.std.proofs.Common.{◌≡◌, ℕ, ◌+◌, ◌<◌, Bool, ◌||◌, cond, nat_eq, List, [], ◌∷◌, ◌++◌, Some, length, drop, slice_index_or, refl, ap, ◌∙◌, add-one, drop-cons, arith}
use Rattle.std.specs.List.{list_any}
use Rattle.std.proofs.lemmas.List.Folds.{list_any-append}
use Rattle.rt_edits.specs.Nodes.{numbers, numbers_below, has, times, found, found_below, either}
use Rattle.rt_edits.specs.declared.doc_node.DocNode.{DocNode}

pub times-append : (number : ℕ) (xs ys : List ℕ) → times number (xs ++ ys) ≡ times number xs + times number ys
times-append number [] ys = omega arith
times-append number (x ∷ xs) ys = omega (arith, times-append number xs ys)

pub numbers_next : (nodes : List DocNode) (i : ℕ) (node : DocNode) → i < length nodes → node ≡ slice_index_or nodes i node →
    numbers (drop i nodes) ≡ node.id.0 ∷ (numbers_below node.kind ++ numbers (drop (i + 1) nodes))
numbers_next nodes i node h e = rw (add-one, drop-cons nodes i node, ← e) refl

pub any_next : (test : ℕ → Bool) (nodes : List DocNode) (i : ℕ) (node : DocNode) → i < length nodes → node ≡ slice_index_or nodes i node →
    list_any test (numbers (drop i nodes)) ≡ test node.id.0 || (list_any test (numbers_below node.kind) || list_any test (numbers (drop (i + 1) nodes)))
any_next test nodes i node h e =
    ap (list_any test) (numbers_next nodes i node h e) ∙ ap (λ b. test node.id.0 || b) (list_any-append test (numbers_below node.kind) (numbers (drop (i + 1) nodes)))

pub has_next : (number : ℕ) (nodes : List DocNode) (i : ℕ) (node : DocNode) → i < length nodes → node ≡ slice_index_or nodes i node →
    has number (numbers (drop i nodes)) ≡ nat_eq node.id.0 number || (has number (numbers_below node.kind) || has number (numbers (drop (i + 1) nodes)))
has_next number nodes i node h e = any_next (λ other. nat_eq other number) nodes i node h e

pub times_next : (number : ℕ) (nodes : List DocNode) (i : ℕ) (node : DocNode) → i < length nodes → node ≡ slice_index_or nodes i node →
    times number (numbers (drop i nodes)) ≡ cond (nat_eq node.id.0 number) 1 0 + (times number (numbers_below node.kind) + times number (numbers (drop (i + 1) nodes)))
times_next number nodes i node h e =
    ap (times number) (numbers_next nodes i node h e) ∙ ap (λ k. cond (nat_eq node.id.0 number) 1 0 + k) (times-append number (numbers_below node.kind) (numbers (drop (i + 1) nodes)))

pub found_next : (number : ℕ) (nodes : List DocNode) (i : ℕ) (node : DocNode) → i < length nodes → node ≡ slice_index_or nodes i node →
    found number (drop i nodes) ≡ cond (nat_eq node.id.0 number) (Some node.kind) (either (found_below number node.kind) (found number (drop (i + 1) nodes)))
found_next number nodes i node h e = rw (add-one, drop-cons nodes i node, ← e) refl

pub ruleset nexts = (any_next, has_next, times_next, found_next)
