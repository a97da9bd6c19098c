-- Edits and documents that the tests find equal are equal.
use Rattle.std.proofs.Common.{ℕ, true, ◌&&◌, List, ◌≡◌, refl, ap, nat_eq}
use Rattle.std.specs.Prelude.{Option}
use Rattle.std.proofs.lemmas.Bool.{eqb-true}
use Rattle.rt_model.specs.Lists.{Text, same_numbers, same_option, same_list}
use Rattle.rt_model.specs.Document.{DocAttribute, Content, DocElement, DocText, DocPlaceholder, Forest, Empty, Node, Edit, AppendChildren, ReplaceNodeWith, InsertNodesAfter, RemoveNode, SetNodeText, SetAttribute, CreateEventListener, RemoveEventListener, same_key, same_doc_attribute, same_content, same_forest, same_edit}
use Rattle.rt_model.specs.Told.{same_edits}
use Rattle.rt_model.proofs.Conjunctions.{and-left, and-right}
use Rattle.rt_model.proofs.SameTrees.{numbers, option-true, list-true}

space-true : (a b : Option Text) → same_option same_numbers a b ≡ true → a ≡ b
space-true a b h = option-true same_numbers numbers.0 a b h

attribute-true : (a b : DocAttribute) → same_doc_attribute a b ≡ true → a ≡ b
attribute-true a b h =
    let key : same_numbers a.name b.name && same_option same_numbers a.namespace b.namespace ≡ true = and-left _ (same_numbers a.value b.value) h in
    let name : a.name ≡ b.name = numbers.0 a.name b.name (and-left _ (same_option same_numbers a.namespace b.namespace) key) in
    let space : a.namespace ≡ b.namespace = space-true a.namespace b.namespace (and-right (same_numbers a.name b.name) _ key) in
    let value : a.value ≡ b.value = numbers.0 a.value b.value (and-right (same_key a b.name b.namespace) _ h) in
    λ t. record { name = name t; namespace = space t; value = value t }

content-true : (c d : Content) → same_content c d ≡ true → c ≡ d
content-true (DocElement t n a l) (DocElement u m b k) h =
    let h3 : same_numbers t u && same_option same_numbers n m && same_list same_doc_attribute a b ≡ true = and-left _ (same_list same_numbers l k) h in
    let h2 : same_numbers t u && same_option same_numbers n m ≡ true = and-left _ (same_list same_doc_attribute a b) h3 in
    let tag : t ≡ u = numbers.0 t u (and-left _ (same_option same_numbers n m) h2) in
    let space : n ≡ m = space-true n m (and-right (same_numbers t u) _ h2) in
    let attributes : a ≡ b = list-true same_doc_attribute attribute-true a b (and-right (same_numbers t u && same_option same_numbers n m) _ h3) in
    let listeners : l ≡ k = list-true same_numbers numbers.0 l k (and-right (same_numbers t u && same_option same_numbers n m && same_list same_doc_attribute a b) _ h) in
    λ i. DocElement (tag i) (space i) (attributes i) (listeners i)
content-true (DocText t) (DocText u) h = ap DocText (numbers.0 t u h)
content-true DocPlaceholder DocPlaceholder h = refl
content-true _ _ h = cc

-- forests are equal where the test says so
pub forest-true : (f g : Forest) → same_forest f g ≡ true → f ≡ g
forest-true Empty Empty h = refl
forest-true (Node i c k r) (Node j d l q) h =
    let h3 : nat_eq i j && same_content c d && same_forest k l ≡ true = and-left _ (same_forest r q) h in
    let h2 : nat_eq i j && same_content c d ≡ true = and-left _ (same_forest k l) h3 in
    let number : i ≡ j = eqb-true i j (and-left _ (same_content c d) h2) in
    let content : c ≡ d = content-true c d (and-right (nat_eq i j) _ h2) in
    let children : k ≡ l = forest-true k l (and-right (nat_eq i j && same_content c d) _ h3) in
    let rest : r ≡ q = forest-true r q (and-right (nat_eq i j && same_content c d && same_forest k l) _ h) in
    λ t. Node (number t) (content t) (children t) (rest t)
forest-true _ _ h = cc

carried-true : (edit : ℕ → Forest → Edit) (i j : ℕ) (f g : Forest) → nat_eq i j && same_forest f g ≡ true → edit i f ≡ edit j g
carried-true edit i j f g h =
    let number : i ≡ j = eqb-true i j (and-left _ (same_forest f g) h) in
    let nodes : f ≡ g = forest-true f g (and-right (nat_eq i j) _ h) in
    λ t. edit (number t) (nodes t)

named-true : (edit : ℕ → Text → Edit) (i j : ℕ) (n m : Text) → nat_eq i j && same_numbers n m ≡ true → edit i n ≡ edit j m
named-true edit i j n m h =
    let number : i ≡ j = eqb-true i j (and-left _ (same_numbers n m) h) in
    let name : n ≡ m = numbers.0 n m (and-right (nat_eq i j) _ h) in
    λ t. edit (number t) (name t)

-- edits are equal where the test says so
pub edit-true : (a b : Edit) → same_edit a b ≡ true → a ≡ b
edit-true (AppendChildren i f) (AppendChildren j g) h = carried-true (λ n nodes. AppendChildren n nodes) i j f g h
edit-true (ReplaceNodeWith i f) (ReplaceNodeWith j g) h = carried-true (λ n nodes. ReplaceNodeWith n nodes) i j f g h
edit-true (InsertNodesAfter i f) (InsertNodesAfter j g) h = carried-true (λ n nodes. InsertNodesAfter n nodes) i j f g h
edit-true (RemoveNode i) (RemoveNode j) h = ap RemoveNode (eqb-true i j h)
edit-true (SetNodeText i t) (SetNodeText j u) h = named-true (λ n text. SetNodeText n text) i j t u h
edit-true (SetAttribute i n a v) (SetAttribute j m b u) h =
    let h3 : nat_eq i j && same_numbers n m && same_option same_numbers a b ≡ true = and-left _ (same_option same_numbers v u) h in
    let h2 : nat_eq i j && same_numbers n m ≡ true = and-left _ (same_option same_numbers a b) h3 in
    let number : i ≡ j = eqb-true i j (and-left _ (same_numbers n m) h2) in
    let name : n ≡ m = numbers.0 n m (and-right (nat_eq i j) _ h2) in
    let space : a ≡ b = space-true a b (and-right (nat_eq i j && same_numbers n m) _ h3) in
    let value : v ≡ u = space-true v u (and-right (nat_eq i j && same_numbers n m && same_option same_numbers a b) _ h) in
    λ t. SetAttribute (number t) (name t) (space t) (value t)
edit-true (CreateEventListener i n) (CreateEventListener j m) h = named-true (λ k name. CreateEventListener k name) i j n m h
edit-true (RemoveEventListener i n) (RemoveEventListener j m) h = named-true (λ k name. RemoveEventListener k name) i j n m h
edit-true _ _ h = cc

-- the edits of reports are equal where the test says so
pub edits-true : (a b : List (List Edit)) → same_edits a b ≡ true → a ≡ b
edits-true a b h = list-true (λ x y. same_list same_edit x y) (list-true same_edit edit-true) a b h
