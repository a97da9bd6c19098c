-- Where a change is made, by the parts of a list of nodes.
use Rattle.std.proofs.Common.{◌≡◌, ◌≢◌, ℕ, zero, ◌+◌, ◌<◌, true, false, ◌||◌, nat_eq, List, [], ◌∷◌, ◌++◌, length, refl, sym, ap, ◌∙◌, take, drop, slice_index_or, slice_set, remove, suc, add-one, drop-cons, arith, append_assoc}
use Rattle.std.specs.List.{splice}
use Rattle.std.proofs.lemmas.List.Folds.{list_any-append}
use Rattle.std.proofs.lemmas.List.{take-append-drop, set_split}
pub use Rattle.rt_lemmas.proofs.Bools.{neither}
use Rattle.rt_lemmas.proofs.Numbers.{eq_true as is_there, eq_other as is_other}
use Rattle.rt_edits.specs.Nodes.{numbers, numbers_below, has, changed, changed_below}
use Rattle.rt_edits.specs.Changing.{with_first}
use Rattle.rt_values.specs.declared.element.ElementId.{ElementId}
use Rattle.rt_edits.specs.declared.doc_node.DocKind.{DocKind}
use Rattle.rt_edits.specs.declared.doc_node.DocNode.{DocNode}

pub numbers-append : (xs ys : List DocNode) → numbers (xs ++ ys) ≡ numbers xs ++ numbers ys
numbers-append [] ys = refl
numbers-append (x ∷ xs) ys = ap (λ (ns : List ℕ). x.id.0 ∷ (numbers_below x.kind ++ ns)) (numbers-append xs ys) ∙ ap (λ (ns : List ℕ). x.id.0 ∷ ns) (sym (append_assoc (numbers_below x.kind) (numbers xs) (numbers ys)))

-- what an element and the nodes beside it have
pub has-cons : (number : ℕ) (x : DocNode) (xs : List DocNode) → has number (numbers (x ∷ xs)) ≡ nat_eq x.id.0 number || (has number (numbers_below x.kind) || has number (numbers xs))
has-cons number x xs = ap (λ b. nat_eq x.id.0 number || b) (list_any-append (λ other. nat_eq other number) (numbers_below x.kind) (numbers xs))

-- what stands before the node is left alone
pub changed-append : (number : ℕ) (change : DocNode → List DocNode) (xs ys : List DocNode) → has number (numbers xs) ≡ false → changed number change (xs ++ ys) ≡ xs ++ changed number change ys
changed-append number change [] ys none = refl
changed-append number change (x ∷ xs) ys none =
    let a = neither (nat_eq x.id.0 number) (has number (numbers_below x.kind) || has number (numbers xs)) (sym (has-cons number x xs) ∙ none) in
    let b = neither (has number (numbers_below x.kind)) (has number (numbers xs)) a.1 in
    rw (a.0, b.0) (ap (λ (zs : List DocNode). x ∷ zs) (changed-append number change xs ys b.1))

-- a list by its parts at a node
pub parts_at : (xs : List DocNode) (i : ℕ) (x : DocNode) → i < length xs → x ≡ slice_index_or xs i x → xs ≡ take i xs ++ x ∷ drop (i + 1) xs
parts_at xs i x h e = sym (take-append-drop i xs) ∙ ap (λ (zs : List DocNode). take i xs ++ zs) (rw (add-one, drop-cons xs i x, ← e) refl)

has_at : (number : ℕ) (front : List DocNode) (x : DocNode) (back : List DocNode) → has number (numbers (front ++ x ∷ back)) ≡ has number (numbers front) || (nat_eq x.id.0 number || (has number (numbers_below x.kind) || has number (numbers back)))
has_at number front x back =
    ap (has number) (numbers-append front (x ∷ back)) ∙ list_any-append (λ other. nat_eq other number) (numbers front) (numbers (x ∷ back)) ∙ ap (λ b. has number (numbers front) || b) (has-cons number x back)

-- the number stands at the first of the nodes that aren't passed
pub hit : (number : ℕ) (change : DocNode → List DocNode) (front back all : List DocNode) (x : DocNode) → all ≡ front ++ x ∷ back → has number (numbers front) ≡ false → x.id.0 ≡ number →
    (has number (numbers all) ≡ true) × (changed number change all ≡ front ++ (change x ++ back))
hit number change front back all x is none e =
    let t = is_there x.id.0 number e in (
      ap (λ (zs : List DocNode). has number (numbers zs)) is ∙ has_at number front x back ∙ rw (none, t) refl,
      ap (changed number change) is ∙ changed-append number change front (x ∷ back) none ∙ rw t refl,
    )

-- or below it
pub hit_below : (number : ℕ) (change : DocNode → List DocNode) (front back all : List DocNode) (x y : DocNode) → all ≡ front ++ x ∷ back → has number (numbers front) ≡ false → x.id.0 ≢ number → has number (numbers_below x.kind) ≡ true →
    y.id ≡ x.id → y.kind ≡ changed_below number change x.kind →
    (has number (numbers all) ≡ true) × (changed number change all ≡ front ++ y ∷ back)
hit_below number change front back all x y is none ne below id kind =
    let t = is_other x.id.0 number ne in
    let made : DocNode = record { id = x.id; kind = changed_below number change x.kind } in
    let alike : made ≡ y =
    ap (λ (i : ElementId). let node : DocNode = record { id = i; kind = changed_below number change x.kind } in node) (sym id)
    ∙ ap (λ (k : DocKind). let node : DocNode = record { id = y.id; kind = k } in node) (sym kind) in (
      ap (λ (zs : List DocNode). has number (numbers zs)) is ∙ has_at number front x back ∙ rw (none, t, below) refl,
      ap (changed number change) is ∙ changed-append number change front (x ∷ back) none ∙ rw (t, below) refl ∙ ap (λ (z : DocNode). front ++ z ∷ back) alike,
    )

-- one more node is passed
pub missed : (number : ℕ) (front : List DocNode) (x : DocNode) → has number (numbers front) ≡ false → x.id.0 ≢ number → has number (numbers_below x.kind) ≡ false → has number (numbers (front ++ x ∷ [])) ≡ false
missed number front x none ne below =
    has_at number front x [] ∙ rw (none, is_other x.id.0 number ne, below) refl

-- where no node has the number nothing changes
pub changed_absent : (number : ℕ) (change : DocNode → List DocNode) (xs : List DocNode) → has number (numbers xs) ≡ false → changed number change xs ≡ xs
changed_absent number change [] none = refl
changed_absent number change (x ∷ xs) none =
    let a = neither (nat_eq x.id.0 number) (has number (numbers_below x.kind) || has number (numbers xs)) (sym (has-cons number x xs) ∙ none) in
    let b = neither (has number (numbers_below x.kind)) (has number (numbers xs)) a.1 in
    rw (a.0, b.0) (ap (λ (zs : List DocNode). x ∷ zs) (changed_absent number change xs b.1))

-- a list with another node in the place of one
pub set_at : (xs : List DocNode) (i : ℕ) (x : DocNode) → i < length xs → slice_set xs i x ≡ take i xs ++ x ∷ drop (i + 1) xs
set_at xs i x h = rw (set_split xs i x h, add-one) refl

-- and with the same node
pub set_same : (xs : List DocNode) (i : ℕ) (x : DocNode) → i < length xs → x ≡ slice_index_or xs i x → slice_set xs i x ≡ xs
set_same xs i x h e = set_at xs i x h ∙ sym (parts_at xs i x h e)

-- and with others in the place of one
pub first_at : (change : DocNode → List DocNode) (xs : List DocNode) (i : ℕ) (x : DocNode) → i < length xs → x ≡ slice_index_or xs i x →
    with_first change (drop i xs) ≡ change x ++ drop (i + 1) xs
first_at change xs i x h e =
    let here : drop i xs ≡ x ∷ drop (i + 1) xs = rw (add-one, drop-cons xs i x, ← e) refl in
    ap (with_first change) here

-- the same where the node itself doesn't matter
pub first_replaced : (ys xs : List DocNode) (i : ℕ) → i < length xs → with_first (λ _. ys) (drop i xs) ≡ ys ++ drop (i + 1) xs
first_replaced ys [] i h = absurd (omega arith)
first_replaced ys (x ∷ xs) i h = rw (drop-cons (x ∷ xs) i x h, add-one) refl

-- a list without one of its nodes
pub remove_at : (xs : List DocNode) (i : ℕ) → i < length xs → remove xs i ≡ take i xs ++ with_first (λ _. []) (drop i xs)
remove_at xs i h = ap (λ (ys : List DocNode). take i xs ++ ys) (ap (λ (k : ℕ). drop k xs) (sym (add-one i)) ∙ sym (first_replaced [] xs i h))

-- a list with others in the place of one of its nodes
pub replace_at : (ys xs : List DocNode) (i : ℕ) → i < length xs → splice xs i (i + 1) ys ≡ take i xs ++ with_first (λ _. ys) (drop i xs)
replace_at ys xs i h = ap (λ (zs : List DocNode). take i xs ++ zs) (sym (first_replaced ys xs i h))

-- a list with others after one of its nodes
pub insert_at : (ys xs : List DocNode) (i : ℕ) → i < length xs → splice xs (i + 1) (i + 1) ys ≡ take i xs ++ with_first (λ x. x ∷ ys) (drop i xs)
insert_at ys [] i h = absurd (omega arith)
insert_at ys (x ∷ xs) zero h = refl
insert_at ys (x ∷ xs) (suc i) h =
    let more : suc i + 1 ≡ suc (i + 1) = omega arith in
    ap (λ (k : ℕ). splice (x ∷ xs) k k ys) more ∙ ap (λ (zs : List DocNode). x ∷ zs) (insert_at ys xs i (omega arith))

-- a list with one of its nodes put through a change
pub edited_at : (change : DocNode → DocNode) (xs : List DocNode) (i : ℕ) (x y : DocNode) → i < length xs → x ≡ slice_index_or xs i x → y ≡ change x →
    slice_set xs i y ≡ take i xs ++ with_first (λ z. change z ∷ []) (drop i xs)
edited_at change xs i x y h e made =
    set_at xs i y h ∙ ap (λ (z : DocNode). take i xs ++ z ∷ drop (i + 1) xs) made ∙ ap (λ (zs : List DocNode). take i xs ++ zs) (sym (first_at (λ z. change z ∷ []) xs i x h e))

pub ruleset at_place = (set_at, set_same, first_at)

length-numbers-append : (xs ys : List ℕ) → length (xs ++ ys) ≡ length xs + length ys
length-numbers-append [] ys = omega arith
length-numbers-append (x ∷ xs) ys = omega (arith, length-numbers-append xs ys)

-- fewer nodes stand below one of the nodes than in the list
pub fewer_below : (xs : List DocNode) (i : ℕ) (x : DocNode) → i < length xs → x ≡ slice_index_or xs i x → length (numbers_below x.kind) < length (numbers xs)
fewer_below xs i x h e =
    let here : numbers xs ≡ numbers (take i xs) ++ (x.id.0 ∷ (numbers_below x.kind ++ numbers (drop (i + 1) xs))) = ap numbers (parts_at xs i x h e) ∙ numbers-append (take i xs) (x ∷ drop (i + 1) xs) in
    omega (arith, ap (λ (ns : List ℕ). length ns) here, length-numbers-append (numbers (take i xs)) (x.id.0 ∷ (numbers_below x.kind ++ numbers (drop (i + 1) xs))), length-numbers-append (numbers_below x.kind) (numbers (drop (i + 1) xs)))
