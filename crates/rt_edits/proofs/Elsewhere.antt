-- An edit changes nothing outside the node that it names.
use Rattle.std.proofs.Common.{◌≡◌, ◌≢◌, ℕ, Bool, true, false, not, cond, ◌&&◌, ◌||◌, nat_eq, List, [], ◌∷◌, ◌++◌, Some, None, Ok, is_some, refl, sym, ap, ◌∙◌, subst}
use Rattle.std.proofs.lemmas.Bool.{false≢true}
use Rattle.rt_lemmas.proofs.Numbers.{not_zero as tests_false, is_zero as tests_true}
use Rattle.rt_edits.specs.Nodes.{Parts, parts_of, numbers, numbers_below, has, found, changed, changed_below, changed_in}
use Rattle.rt_edits.specs.Document.{named, carried, instead, apply}
use Rattle.rt_edits.specs.Laws.{DiffersAt, Here, Below, ChangesOnly}
use Rattle.rt_edits.specs.declared.doc_node.DocNode.{DocNode}
use Rattle.rt_edits.specs.declared.doc_node.DocKind.{DocKind, Element', Text, Placeholder, Row_of-DocNode, end_of-DocNode, more_of-DocNode, items-the_row-DocNode}
use Rattle.rt_edits.specs.declared.doc_node.DocKind.TheVariants as kinds
use Rattle.rt_edits.specs.declared.edit.Edit.{Edit}
use Rattle.rt_edits.proofs.Rows.{parts_of-Element, numbers_below-row, numbers_below-Element, numbers_below-Text, numbers_below-Placeholder, found_below-Element, changed_below-Element}
use Rattle.rt_edits.proofs.Found.{has-cons}
use Rattle.rt_edits.proofs.Times.{found_has_below, equal_numbers}
use Rattle.rt_edits.proofs.Numbered.{accepted}

differs-cons : (number : ℕ) (x : DocNode) (xs ys : List DocNode) → DiffersAt number xs ys → DiffersAt number (x ∷ xs) (x ∷ ys)
differs-cons number x xs ys (Here before behind others old new node id o n) =
    Here (x ∷ before) behind others (x ∷ xs) (x ∷ ys) node id (ap (λ (zs : List DocNode). x ∷ zs) o) (ap (λ (zs : List DocNode). x ∷ zs) n)
differs-cons number x xs ys (Below before behind children old new node made parts id was is d o n) =
    Below (x ∷ before) behind children (x ∷ xs) (x ∷ ys) node made parts id was is d (ap (λ (zs : List DocNode). x ∷ zs) o) (ap (λ (zs : List DocNode). x ∷ zs) n)

-- two kinds of an element that differ in what stands below them in the place of one node
abbrev pub Deeper : ℕ → DocKind → DocKind → Type 0
Deeper number old new =
    (parts : Parts) × (children : List DocNode) × (parts_of old ≡ Some parts) × (parts_of new ≡ Some (record parts { children = children })) × DiffersAt number parts.children children

inside_differs : (number : ℕ) (x : DocNode) (below : DocKind) (xs later : List DocNode) (inside : Bool) →
    (inside ≡ true → Deeper number x.kind below) → (has number (numbers xs) ≡ true → DiffersAt number xs later) → inside || has number (numbers xs) ≡ true →
    DiffersAt number (x ∷ xs) (cond inside (record { id = x.id; kind = below } ∷ xs) (x ∷ later))
inside_differs number x below xs later true f g h =
    let made : DocNode = record { id = x.id; kind = below } in
    let d = f refl in
    Below [] xs d.1 (x ∷ xs) (made ∷ xs) x made d.0 refl d.2 d.3 d.4 refl refl
inside_differs number x below xs later false f g h = differs-cons number x xs later (g h)

step_differs : (number : ℕ) (change : DocNode → List DocNode) (x : DocNode) (below : DocKind) (xs later : List DocNode) (here inside : Bool) → nat_eq x.id.0 number ≡ here →
    (inside ≡ true → Deeper number x.kind below) → (has number (numbers xs) ≡ true → DiffersAt number xs later) → here || (inside || has number (numbers xs)) ≡ true →
    DiffersAt number (x ∷ xs) (cond here (change x ++ xs) (cond inside (record { id = x.id; kind = below } ∷ xs) (x ∷ later)))
step_differs number change x below xs later true inside e f g h = Here [] xs (change x) (x ∷ xs) (change x ++ xs) x (equal_numbers x.id.0 number e) refl refl
step_differs number change x below xs later false inside e f g h = inside_differs number x below xs later inside f g h

mutual
  unfolding parts_of changed_below changed_in

  differs_below : (number : ℕ) (change : DocNode → List DocNode) (kind : DocKind) → has number (numbers_below kind) ≡ true → Deeper number kind (changed_below number change kind)
  differs_below number change (Element' tag namespace attrs listeners shape row) h =
      let own : Parts = record { tag = tag; namespace = namespace; attrs = attrs; listeners = listeners; children = items-the_row-DocNode _ row } in
      let children : List DocNode = changed_in number change row in
      (own, children, refl, parts_of-Element tag namespace attrs listeners children, differs_in number change _ row (ap (has number) (sym (numbers_below-row tag namespace attrs listeners shape row)) ∙ h))
  differs_below number change (Text text) h = absurd (false≢true (ap (has number) (sym (numbers_below-Text text)) ∙ h))
  differs_below number change Placeholder h = absurd (false≢true (ap (has number) (sym numbers_below-Placeholder) ∙ h))

  differs_in : (number : ℕ) (change : DocNode → List DocNode) (m : _) (row : Row_of-DocNode m) → has number (numbers (items-the_row-DocNode m row)) ≡ true →
      DiffersAt number (items-the_row-DocNode m row) (changed_in number change row)
  differs_in number change m end_of-DocNode h = cc
  differs_in number change m (more_of-DocNode id k rest) h =
      let x : DocNode = record { id = id; kind = k } in
      let xs : List DocNode = items-the_row-DocNode _ rest in
      step_differs number change x (changed_below number change k) xs (changed_in number change rest) (nat_eq id.0 number) (has number (numbers_below k)) refl
      (differs_below number change k) (differs_in number change _ rest) (sym (has-cons number x xs) ∙ h)

children_alike : (p q : Parts) → Some p ≡ Some q → p.children ≡ q.children
children_alike p q h = let same : p ≡ q = cc in ap (λ (r : Parts). r.children) same

-- a change of a number that is there differs in that one place
pub differs : (number : ℕ) (change : DocNode → List DocNode) (nodes : List DocNode) → has number (numbers nodes) ≡ true → DiffersAt number nodes (changed number change nodes)
differs number change nodes h =
    let whole : DocKind = kinds.Element [] None [] [] nodes in
    let d = differs_below number change whole (ap (has number) (numbers_below-Element [] None [] [] nodes) ∙ h) in
    let own : Parts = record { tag = []; namespace = None; attrs = []; listeners = []; children = nodes } in
    let other : Parts = record { tag = []; namespace = None; attrs = []; listeners = []; children = changed number change nodes } in
    let after : Parts = record (d.0) { children = d.1 } in
    let old : d.0.children ≡ nodes = children_alike d.0 own (sym d.2 ∙ parts_of-Element [] None [] [] nodes) in
    let new : d.1 ≡ changed number change nodes =
    children_alike after other (sym d.3 ∙ ap parts_of (changed_below-Element number change [] None [] [] nodes) ∙ parts_of-Element [] None [] [] (changed number change nodes)) in
    subst (λ (xs : List DocNode). DiffersAt number nodes xs) new (subst (λ (xs : List DocNode). DiffersAt number xs d.1) old d.4)

pub found_has : (number : ℕ) (nodes : List DocNode) → is_some (found number nodes) ≡ has number (numbers nodes)
found_has number nodes =
    ap is_some (sym (found_below-Element number [] None [] [] nodes)) ∙ found_has_below number (kinds.Element [] None [] [] nodes) ∙ ap (has number) (numbers_below-Element [] None [] [] nodes)

there : (root some : Bool) → root ≡ false → not root && not some ≡ false → some ≡ true
there true some e h = cc
there false true e h = refl
there false false e h = cc

-- an edit that is made changes nothing outside the node that it names
pub elsewhere : (edit : Edit) (old new : List DocNode) → apply edit old ≡ Ok new → ChangesOnly edit old new
elsewhere edit old new h =
    let a = accepted edit old new h in
    let made : Bool → List DocNode = λ b. cond b (old ++ carried edit) (changed (named edit) (instead edit) old) in (
      (λ (e : named edit ≡ 0). sym a.3 ∙ ap made (tests_true (named edit) e)),
      (λ (e : named edit ≢ 0).
          let other = tests_false (named edit) e in
          let is : changed (named edit) (instead edit) old ≡ new = sym (ap made other) ∙ a.3 in
          let stands = sym (found_has (named edit) old) ∙ there (nat_eq (named edit) 0) (is_some (found (named edit) old)) other a.0 in
          subst (λ (xs : List DocNode). DiffersAt (named edit) old xs) is (differs (named edit) (instead edit) old stands)),
    )
