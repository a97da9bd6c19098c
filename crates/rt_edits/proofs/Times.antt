-- How often each number stands in a document after a change.
use Rattle.std.proofs.Common.{◌≡◌, ℕ, ◌+◌, Bool, true, false, cond, ◌||◌, nat_eq, List, [], ◌∷◌, ◌++◌, Option, Some, None, is_some, refl, sym, ap, ◌∙◌, subst, arith}
use Rattle.std.proofs.lemmas.List.Folds.{list_any-append}
pub use Rattle.rt_lemmas.proofs.Numbers.{eq_is as equal_numbers}
use Rattle.rt_edits.specs.Nodes.{numbers, numbers_below, numbers_in, has, times, found, found_below, found_in, either, changed, changed_below, changed_in}
use Rattle.rt_edits.specs.declared.doc_node.DocNode.{DocNode}
use Rattle.rt_edits.specs.declared.doc_node.DocKind.{DocKind, Element', Text, Placeholder, Row_of-DocNode, end_of-DocNode, more_of-DocNode, items-the_row-DocNode}
use Rattle.rt_edits.specs.declared.doc_node.DocKind.TheVariants as kinds
use Rattle.rt_edits.proofs.Rows.{numbers_below-row, numbers_below-Element, found_below-Element, changed_below-Element}
use Rattle.rt_edits.proofs.Next.{times-append}
use Rattle.rt_edits.proofs.Found.{numbers-append}

-- how often a number stands in nodes
abbrev pub stands : ℕ → List DocNode → ℕ
stands number nodes = times number (numbers nodes)

pub stands-append : (number : ℕ) (xs ys : List DocNode) → stands number (xs ++ ys) ≡ stands number xs + stands number ys
stands-append number xs ys = ap (times number) (numbers-append xs ys) ∙ times-append number (numbers xs) (numbers ys)

pub stands-cons : (number : ℕ) (x : DocNode) (xs : List DocNode) → stands number (x ∷ xs) ≡ cond (nat_eq x.id.0 number) 1 0 + (times number (numbers_below x.kind) + stands number xs)
stands-cons number x xs = ap (λ (n : ℕ). cond (nat_eq x.id.0 number) 1 0 + n) (times-append number (numbers_below x.kind) (numbers xs))

-- a node by its number and its kind
abbrev pub node_of : ℕ → DocKind → DocNode
node_of number kind = record { id = record { 0 = number }; kind = kind }

pub some_or : (first later : Option DocKind) → is_some (either first later) ≡ is_some first || is_some later
some_or None later = refl
some_or (Some kind) later = refl

pub some_cond : (here : Bool) (kind : DocKind) (first later : Option DocKind) → is_some (cond here (Some kind) (either first later)) ≡ here || (is_some first || is_some later)
some_cond true kind first later = refl
some_cond false kind first later = some_or first later

-- a number is found exactly where it stands
mutual
  unfolding found_below found_in numbers_below numbers_in

  pub found_has_below : (number : ℕ) (kind : DocKind) → is_some (found_below number kind) ≡ has number (numbers_below kind)
  found_has_below number (Element' tag namespace attrs listeners shape row) = found_has_in number row
  found_has_below number (Text text) = refl
  found_has_below number Placeholder = refl

  found_has_in : {m : _} (number : ℕ) (row : Row_of-DocNode m) → is_some (found_in number row) ≡ has number (numbers_in row)
  found_has_in number end_of-DocNode = refl
  found_has_in number (more_of-DocNode id kind rest) =
      some_cond (nat_eq id.0 number) kind (found_below number kind) (found_in number rest)
      ∙ ap (λ b. nat_eq id.0 number || b) (ap (λ b. b || is_some (found_in number rest)) (found_has_below number kind) ∙ ap (λ b. has number (numbers_below kind) || b) (found_has_in number rest) ∙ sym (list_any-append (λ other. nat_eq other number) (numbers_below kind) (numbers_in rest)))

-- what a change adds and takes away: the numbers of what it puts there, and those of the node
abbrev pub Exchanges : ℕ → (DocNode → List DocNode) → DocKind → List ℕ → List ℕ → Type 0
Exchanges number change kind old new = (j : ℕ) → times j new + stands j (node_of number kind ∷ []) ≡ times j old + stands j (change (node_of number kind))

here_exchanges : (number : ℕ) (change : DocNode → List DocNode) (kind : DocKind) (x : DocNode) (xs : List DocNode) → x.id.0 ≡ number → x.kind ≡ kind →
    Exchanges number change kind (numbers (x ∷ xs)) (numbers (change x ++ xs))
here_exchanges number change kind x xs id same j =
    let alike : x ≡ node_of number kind = ap (λ (n : ℕ). node_of n x.kind) id ∙ ap (λ (k : DocKind). node_of number k) same in
    let put = ap (λ (y : DocNode). stands j (change y)) alike in
    let taken = ap (λ (y : DocNode). stands j (y ∷ [])) alike in
    omega (arith, stands-append j (change x) xs, stands-cons j x xs, stands-cons j x [], put, taken)

below_exchanges : (number : ℕ) (change : DocNode → List DocNode) (kind : DocKind) (x : DocNode) (below : DocKind) (xs : List DocNode) →
    Exchanges number change kind (numbers_below x.kind) (numbers_below below) →
    Exchanges number change kind (numbers (x ∷ xs)) (numbers (record { id = x.id; kind = below } ∷ xs))
below_exchanges number change kind x below xs h j =
    omega (arith, stands-cons j x xs, stands-cons j (record { id = x.id; kind = below }) xs, h j)

later_exchanges : (number : ℕ) (change : DocNode → List DocNode) (kind : DocKind) (x : DocNode) (xs later : List DocNode) →
    Exchanges number change kind (numbers xs) (numbers later) →
    Exchanges number change kind (numbers (x ∷ xs)) (numbers (x ∷ later))
later_exchanges number change kind x xs later h j = omega (arith, stands-cons j x xs, stands-cons j x later, h j)

after_exchanges : (number : ℕ) (change : DocNode → List DocNode) (kind : DocKind) (x : DocNode) (below : DocKind) (xs later : List DocNode) (first rest : Option DocKind) →
    (first ≡ Some kind → Exchanges number change kind (numbers_below x.kind) (numbers_below below)) →
    (rest ≡ Some kind → Exchanges number change kind (numbers xs) (numbers later)) →
    either first rest ≡ Some kind →
    Exchanges number change kind (numbers (x ∷ xs)) (numbers (cond (is_some first) (record { id = x.id; kind = below } ∷ xs) (x ∷ later)))
after_exchanges number change kind x below xs later None rest f g h = later_exchanges number change kind x xs later (g h)
after_exchanges number change kind x below xs later (Some k) rest f g h = below_exchanges number change kind x below xs (f h)

step_exchanges : (number : ℕ) (change : DocNode → List DocNode) (kind : DocKind) (x : DocNode) (below : DocKind) (xs later : List DocNode) (first rest : Option DocKind) (here : Bool) →
    nat_eq x.id.0 number ≡ here →
    (first ≡ Some kind → Exchanges number change kind (numbers_below x.kind) (numbers_below below)) →
    (rest ≡ Some kind → Exchanges number change kind (numbers xs) (numbers later)) →
    cond here (Some x.kind) (either first rest) ≡ Some kind →
    Exchanges number change kind (numbers (x ∷ xs)) (numbers (cond here (change x ++ xs) (cond (is_some first) (record { id = x.id; kind = below } ∷ xs) (x ∷ later))))
step_exchanges number change kind x below xs later first rest true e f g h = here_exchanges number change kind x xs (equal_numbers x.id.0 number e) (cc)
step_exchanges number change kind x below xs later first rest false e f g h = after_exchanges number change kind x below xs later first rest f g h

mutual
  unfolding found_below found_in changed_below changed_in

  exchanges_below : (number : ℕ) (change : DocNode → List DocNode) (kind whole : DocKind) → found_below number whole ≡ Some kind →
      Exchanges number change kind (numbers_below whole) (numbers_below (changed_below number change whole))
  exchanges_below number change kind (Element' tag namespace attrs listeners shape row) h = λ j.
      (let new = ap (times j) (numbers_below-Element tag namespace attrs listeners (changed_in number change row)) in
      let old = ap (times j) (numbers_below-row tag namespace attrs listeners shape row) in
      let moved = exchanges_in number change kind _ row h j in
      omega arith)
  exchanges_below number change kind (Text text) h = cc
  exchanges_below number change kind Placeholder h = cc

  exchanges_in : (number : ℕ) (change : DocNode → List DocNode) (kind : DocKind) (m : _) (row : Row_of-DocNode m) → found_in number row ≡ Some kind →
      Exchanges number change kind (numbers (items-the_row-DocNode m row)) (numbers (changed_in number change row))
  exchanges_in number change kind m end_of-DocNode h = cc
  exchanges_in number change kind m (more_of-DocNode id k rest) h =
      let x : DocNode = record { id = id; kind = k } in
      let below : DocNode = record { id = id; kind = changed_below number change k } in
      let xs : List DocNode = items-the_row-DocNode _ rest in
      let P : Bool → Type 0 = λ b. Exchanges number change kind (numbers (x ∷ xs)) (numbers (cond (nat_eq id.0 number) (change x ++ xs) (cond b (below ∷ xs) (x ∷ changed_in number change rest)))) in
      subst P (found_has_below number k) (step_exchanges number change kind x (changed_below number change k) xs (changed_in number change rest) (found_below number k) (found_in number rest) (nat_eq id.0 number) refl (exchanges_below number change kind k) (exchanges_in number change kind _ rest) h)

-- a change of the first node of a number takes that node's numbers away and adds those of what it puts there
pub exchanges : (number : ℕ) (change : DocNode → List DocNode) (kind : DocKind) (nodes : List DocNode) → found number nodes ≡ Some kind →
    Exchanges number change kind (numbers nodes) (numbers (changed number change nodes))
exchanges number change kind nodes h = λ j.
    (let whole : DocKind = kinds.Element [] None [] [] nodes in
    let old = ap (times j) (numbers_below-Element [] None [] [] nodes) in
    let new = ap (λ (k : DocKind). times j (numbers_below k)) (changed_below-Element number change [] None [] [] nodes) in
    let inner = ap (times j) (numbers_below-Element [] None [] [] (changed number change nodes)) in
    let moved = exchanges_below number change kind whole (found_below-Element number [] None [] [] nodes ∙ h) j in
    omega arith)
