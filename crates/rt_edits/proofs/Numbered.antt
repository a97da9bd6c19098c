-- An edit that is made keeps the numbers of a document apart.
use Rattle.std.proofs.Common.{◌≡◌, ◌≢◌, ℕ, zero, suc, ◌+◌, ◌≤◌, ◌<◌, Bool, true, false, not, cond, ◌&&◌, ◌||◌, nat_eq, nat_lt, List, [], ◌∷◌, ◌++◌, Option, Some, None, Ok, is_some, refl, sym, ap, ◌∙◌, subst, arith}
use Rattle.std.specs.List.{list_any}
use Rattle.std.proofs.lemmas.Bool.Decides.{nat_tests}
use Rattle.rt_edits.specs.Nodes.{Parts, parts_of, numbers, numbers_below, has, times, found, changed}
use Rattle.rt_edits.specs.Document.{named, carried, parts_after, remade, kind_after, node_after, instead, is_unknown, is_wrong, is_barred, repeats, fault_of, after, unless, apply}
use Rattle.rt_edits.specs.Laws.{IsNumbered}
use Rattle.rt_edits.specs.declared.doc_node.DocNode.{DocNode}
use Rattle.rt_edits.specs.declared.doc_node.DocKind.{DocKind, Element', Text, Placeholder, items-the_row-DocNode}
use Rattle.rt_edits.specs.declared.edit.Edit.{Edit}
use Rattle.rt_edits.specs.declared.edit.Edit.TheVariants as edits
use Rattle.rt_edits.specs.declared.document.DocFault.{DocFault}
use Rattle.rt_edits.specs.declared.document.DocFault.TheVariants as faults
use Rattle.rt_edits.proofs.Rows.{numbers_below-row, numbers_below-Element, numbers_below-Text}
use Rattle.rt_edits.proofs.Found.{neither}
use Rattle.rt_edits.proofs.Times.{stands, stands-append, stands-cons, node_of, exchanges, equal_numbers}

-- the numbers below an element are those of its children
numbers_parts : (kind : DocKind) (parts : Parts) → parts_of kind ≡ Some parts → numbers_below kind ≡ numbers parts.children
unfolding parts_of
numbers_parts (Element' tag namespace attrs listeners shape row) parts h =
    let own : Parts = record { tag = tag; namespace = namespace; attrs = attrs; listeners = listeners; children = items-the_row-DocNode _ row } in
    let same : own ≡ parts = cc in
    numbers_below-row tag namespace attrs listeners shape row ∙ ap (λ (p : Parts). numbers p.children) same
numbers_parts (Text text) parts h = cc
numbers_parts Placeholder parts h = cc

remade_numbers : (j more : ℕ) (change : Parts → Parts) (kind : DocKind) (parts : Option Parts) → parts_of kind ≡ parts →
    ((p : Parts) → stands j (change p).children ≤ stands j p.children + more) →
    times j (numbers_below (remade change kind parts)) ≤ times j (numbers_below kind) + more
remade_numbers j more change kind None e h = omega arith
remade_numbers j more change kind (Some p) e h =
    let made : Parts = change p in
    let new = ap (times j) (numbers_below-Element made.tag made.namespace made.attrs made.listeners made.children) in
    let old = ap (times j) (numbers_parts kind p e) in
    omega (arith, h p)

-- an edit of the node itself adds no number but those that it carries
kind_numbers : (j : ℕ) (edit : Edit) (kind : DocKind) → times j (numbers_below (kind_after edit kind)) ≤ times j (numbers_below kind) + stands j (carried edit)
kind_numbers j (edits.AppendChildren id nodes) kind =
    remade_numbers j (stands j nodes) (parts_after (edits.AppendChildren id nodes)) kind (parts_of kind) refl (λ p. omega (arith, stands-append j p.children nodes))
kind_numbers j (edits.ReplaceNodeWith id nodes) kind = omega arith
kind_numbers j (edits.InsertNodesAfter id nodes) kind = omega arith
kind_numbers j (edits.RemoveNode id) kind = omega arith
kind_numbers j (edits.SetNodeText id text) kind = omega (arith, ap (times j) (numbers_below-Text text))
kind_numbers j (edits.SetAttribute id name namespace value) kind =
    remade_numbers j 0 (parts_after (edits.SetAttribute id name namespace value)) kind (parts_of kind) refl (λ p. omega arith)
kind_numbers j (edits.CreateEventListener id name) kind =
    remade_numbers j 0 (parts_after (edits.CreateEventListener id name)) kind (parts_of kind) refl (λ p. omega arith)
kind_numbers j (edits.RemoveEventListener id name) kind =
    remade_numbers j 0 (parts_after (edits.RemoveEventListener id name)) kind (parts_of kind) refl (λ p. omega arith)

node_numbers : (j : ℕ) (edit : Edit) (node : DocNode) → stands j (node_after edit node ∷ []) ≤ stands j (node ∷ []) + stands j (carried edit)
node_numbers j edit node = omega (arith, stands-cons j (node_after edit node) [], stands-cons j node [], kind_numbers j edit node.kind)

-- what stands in the node's place has no number but the node's and those carried
instead_numbers : (j : ℕ) (edit : Edit) (node : DocNode) → stands j (instead edit node) ≤ stands j (node ∷ []) + stands j (carried edit)
instead_numbers j (edits.AppendChildren id nodes) node = node_numbers j (edits.AppendChildren id nodes) node
instead_numbers j (edits.ReplaceNodeWith id nodes) node = omega arith
instead_numbers j (edits.InsertNodesAfter id nodes) node = omega (arith, stands-cons j node nodes, stands-cons j node [])
instead_numbers j (edits.RemoveNode id) node = omega arith
instead_numbers j (edits.SetNodeText id text) node = node_numbers j (edits.SetNodeText id text) node
instead_numbers j (edits.SetAttribute id name namespace value) node = node_numbers j (edits.SetAttribute id name namespace value) node
instead_numbers j (edits.CreateEventListener id name) node = node_numbers j (edits.CreateEventListener id name) node
instead_numbers j (edits.RemoveEventListener id name) node = node_numbers j (edits.RemoveEventListener id name) node

changed_numbers : (j : ℕ) (edit : Edit) (document : List DocNode) (kind : Option DocKind) → found (named edit) document ≡ kind → is_some kind ≡ true →
    stands j (changed (named edit) (instead edit) document) ≤ stands j document + stands j (carried edit)
changed_numbers j edit document None e h = cc
changed_numbers j edit document (Some kind) e h =
    omega (arith, exchanges (named edit) (instead edit) kind document e j, instead_numbers j edit (node_of (named edit) kind))

after_numbers : (j : ℕ) (edit : Edit) (document : List DocNode) (root : Bool) → not root && not (is_some (found (named edit) document)) ≡ false →
    stands j (cond root (document ++ carried edit) (changed (named edit) (instead edit) document)) ≤ stands j document + stands j (carried edit)
after_numbers j edit document true h = omega (arith, stands-append j document (carried edit))
after_numbers j edit document false h = changed_numbers j edit document (found (named edit) document) refl (known (is_some (found (named edit) document)) h)
  where
    known : (b : Bool) → not b ≡ false → b ≡ true
    known true h = refl
    known false h = cc

-- a test that none of the numbers passes
none_passes : (test : ℕ → Bool) (all : List ℕ) (j : ℕ) → list_any test all ≡ false → 0 < times j all → test j ≡ false
none_passes test [] j none h = absurd (omega arith)
none_passes test (other ∷ all) j none h =
    let both = neither (test other) (list_any test all) none in
    first (nat_eq other j) refl both.0 (λ (m : 0 < times j all). none_passes test all j both.1 m) h
  where
    first : (b : Bool) → nat_eq other j ≡ b → test other ≡ false → (0 < times j all → test j ≡ false) → 0 < cond b 1 0 + times j all → test j ≡ false
    first true e here later h = ap test (sym (equal_numbers other j e)) ∙ here
    first false e here later h = later (omega arith)

not_there : (j : ℕ) (all : List ℕ) → has j all ≡ false → times j all ≡ 0
not_there j [] h = refl
not_there j (other ∷ all) h =
    let both = neither (nat_eq other j) (has j all) h in
    let rest = not_there j all both.1 in
    ap (λ (b : Bool). cond b 1 0 + times j all) both.0 ∙ omega arith

-- a number that may come with others: it isn't 0, isn't in the document and comes once
may_come : (j : ℕ) (document brought : List ℕ) → is_barred document brought j ≡ false → (j ≢ 0) × (times j document ≡ 0) × (times j brought ≤ 1)
may_come j document brought h =
    let first = neither (nat_eq j 0) (has j document || nat_lt 1 (times j brought)) h in
    let then_ = neither (has j document) (nat_lt 1 (times j brought)) first.1 in
    (unlike first.0, not_there j document then_.0, once (times j brought) then_.1)
  where
    unlike : nat_eq j 0 ≡ false → j ≢ 0
    unlike e = grind (arith, nat_tests)

    once : (n : ℕ) → nat_lt 1 n ≡ false → n ≤ 1
    once n e = grind (arith, nat_tests)

-- what comes with an edit that repeats no number
brought : (j : ℕ) (edit : Edit) (document : List DocNode) → repeats edit document ≡ false → 0 < stands j (carried edit) →
    (j ≢ 0) × (stands j document ≡ 0) × (stands j (carried edit) ≤ 1)
brought j edit document none h =
    may_come j (numbers document) (numbers (carried edit)) (none_passes (is_barred (numbers document) (numbers (carried edit))) (numbers (carried edit)) j none h)

-- the document after an edit without a fault has each number once, if it had so before
numbered_after : (edit : Edit) (document : List DocNode) → is_unknown edit document ≡ false → repeats edit document ≡ false → IsNumbered document → IsNumbered (after edit document)
numbered_after edit document known none h =
    let more : (j : ℕ) → stands j (after edit document) ≤ stands j document + stands j (carried edit) = λ j. after_numbers j edit document (nat_eq (named edit) 0) known in
    (nothing (stands 0 (carried edit)) refl (more 0), λ j. apart j (stands j (carried edit)) refl (more j))
  where
    nothing : (n : ℕ) → stands 0 (carried edit) ≡ n → stands 0 (after edit document) ≤ stands 0 document + stands 0 (carried edit) → stands 0 (after edit document) ≡ 0
    nothing zero e m = omega (arith, h.0)
    nothing (suc n) e m = let b = brought 0 edit document none (omega arith) in absurd (b.0 refl)

    apart : (j n : ℕ) → stands j (carried edit) ≡ n → stands j (after edit document) ≤ stands j document + stands j (carried edit) → stands j (after edit document) ≤ 1
    apart j zero e m = omega (arith, h.1 j)
    apart j (suc n) e m = let b = brought j edit document none (omega arith) in omega (arith, b.1, b.2)

-- the tests that an edit without a fault has passed
no_fault : (unknown wrong repeated : Bool) → cond unknown (Some faults.UnknownId) (cond wrong (Some faults.WrongKind) (cond repeated (Some faults.RepeatedId) None)) ≡ None →
    (unknown ≡ false) × (wrong ≡ false) × (repeated ≡ false)
no_fault true wrong repeated h = cc
no_fault false true repeated h = cc
no_fault false false true h = cc
no_fault false false false h = (refl, refl, refl)

made : (fault : Option DocFault) (one other : List DocNode) → unless fault one ≡ Ok other → (fault ≡ None) × (one ≡ other)
made None one other h = (refl, cc)
made (Some fault) one other h = cc

-- an edit that is made was without a fault
pub accepted : (edit : Edit) (old new : List DocNode) → apply edit old ≡ Ok new →
    (is_unknown edit old ≡ false) × (is_wrong edit old ≡ false) × (repeats edit old ≡ false) × (after edit old ≡ new)
accepted edit old new h =
    let m = made (fault_of edit old) (after edit old) new h in
    let f = no_fault (is_unknown edit old) (is_wrong edit old) (repeats edit old) m.0 in
    (f.0, f.1, f.2, m.1)

-- an edit that is made keeps the numbers of a document apart
pub numbered : (edit : Edit) (old new : List DocNode) → apply edit old ≡ Ok new → IsNumbered old → IsNumbered new
numbered edit old new h apart =
    let a = accepted edit old new h in
    subst (λ (d : List DocNode). IsNumbered d) a.3 (numbered_after edit old a.0 a.2 apart)
