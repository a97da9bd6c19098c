-- An edit is made of a document of code as the definitions make it of its mirror.
use Rattle.std.proofs.Common.{◌≡◌, ℕ, zero, suc, ◌+◌, Bool, true, false, not, cond, if◌then◌else◌, ◌&&◌, ◌||◌, nat_eq, List, [], ◌∷◌, ◌++◌, map, Option, Some, None, Result, Ok, Err, is_some, refl, sym, ap, ◌∙◌, subst, arith}
use Rattle.std.specs.List.{list_any}
use Rattle.rt_edits.specs.Nodes as code
use Rattle.rt_edits.specs.Nodes.{parts_of, is_text, numbers, has, times, found}
use Rattle.rt_edits.specs.Ordered.{text_order, place_of, put_in, taken_out}
use Rattle.rt_edits.specs.Document.{named, carried, is_append, suits, valued, kind_after, instead, unsuited, is_barred, repeats, after, unless, apply}
use Rattle.rt_edits.specs.Laws.{IsNumbered}
use Rattle.rt_edits.specs.declared.doc_node.DocAttr.{DocAttr}
use Rattle.rt_edits.specs.declared.doc_node.DocNode.{DocNode}
use Rattle.rt_edits.specs.declared.doc_node.DocKind.{DocKind, Element', Text, Placeholder, Row_of-DocNode, items-the_row-DocNode}
use Rattle.rt_edits.specs.declared.doc_node.DocKind.TheVariants as kinds
use Rattle.rt_edits.specs.declared.edit.Edit.{Edit}
use Rattle.rt_edits.specs.declared.edit.Edit.TheVariants as edits
use Rattle.rt_edits.specs.declared.document.DocFault.{DocFault}
use Rattle.rt_edits.specs.declared.document.DocFault.TheVariants as faults
use Rattle.rt_values.specs.declared.element.ElementId.{ElementId}
use Rattle.rt_edits.proofs.Times.{equal_numbers}
use Rattle.rt_edits.proofs.Numbered.{numbered}
use Rattle.rt_model.specs.Document as doc
use Rattle.rt_model.specs.Document.{Forest, Empty, Node, Content, DocElement, DocText, join_rows, changed, on_found, on_element, on_text, if_fresh, with_content, set_attribute, with_listener, without_listener, has_text, and_then, document_after}
use Rattle.tree_edits.specs.Documents.{doc_attribute_of, content_of, forest_below, forest_in, forest_of, edit_of}
use Rattle.tree_documents.specs.Agrees.{AreAlike, Makes}
use Rattle.tree_documents.proofs.Forests.{forest_row, below_Element, forest-append}
use Rattle.tree_documents.proofs.Numbers.{content_in, content_nodes, clash_nodes}
use Rattle.tree_documents.proofs.Changed.{change_nodes, found_has}
use Rattle.tree_documents.proofs.Contents.{attribute_put, attribute_taken, listener_put, listener_taken, listens_is}

-- the definitions' answer, once what the edit names was found
abbrev on_kind : doc.Edit → Forest → Content → Result Forest doc.DocFault
on_kind (doc.AppendChildren id nodes) d c =
    on_element c (λ tag ns attributes ls. if_fresh d nodes (changed id (λ i content children rest. Node i content (join_rows children nodes)
    rest) d))
on_kind (doc.ReplaceNodeWith id nodes) d c = if_fresh d nodes (changed id (λ i content children rest. join_rows nodes rest) d)
on_kind (doc.InsertNodesAfter id nodes) d c =
    if_fresh d nodes (changed id (λ i content children rest. Node i content children (join_rows nodes rest)) d)
on_kind (doc.RemoveNode id) d c = Ok (changed id (λ i content children rest. rest) d)
on_kind (doc.SetNodeText id text) d c = on_text c (Ok (changed id (with_content (DocText text)) d))
on_kind (doc.SetAttribute id name namespace value) d c =
    on_element c (λ tag ns attributes ls. Ok (changed id (with_content (DocElement tag ns (set_attribute attributes name namespace value)
    ls)) d))
on_kind (doc.CreateEventListener id name) d c =
    on_element c (λ tag ns attributes ls. if has_text ls name then Err doc.WrongKind
    else Ok (changed id (with_content (DocElement tag ns attributes (with_listener ls name))) d))
on_kind (doc.RemoveEventListener id name) d c =
    on_element c (λ tag ns attributes ls. if has_text ls name
    then Ok (changed id (with_content (DocElement tag ns attributes (without_listener ls name))) d) else Err doc.WrongKind)

-- the answer of code's definition, by its three tests
abbrev answer : Bool → Bool → Bool → List DocNode → Result (List DocNode) DocFault
answer unknown wrong repeated made =
    unless (cond unknown (Some faults.UnknownId) (cond wrong (Some faults.WrongKind) (cond repeated (Some faults.RepeatedId) None))) made

suited : (s r : Bool) (made : List DocNode) (m : Result Forest doc.DocFault) → (s ≡ false → m ≡ Err doc.WrongKind)
    → (s ≡ true → r ≡ true → m ≡ Err doc.RepeatedId) → (s ≡ true → r ≡ false → m ≡ Ok (forest_of made))
    → AreAlike (answer false (not s) r made) m
suited false r made m wrong repeated fine = wrong refl
suited true true made m wrong repeated fine = repeated refl refl
suited true false made m wrong repeated fine = fine refl refl

named_alike : (edit : Edit) (made : List DocNode) (i : ℕ) (f : Content → Result Forest doc.DocFault) (z r : Bool) (o : Option DocKind)
    → nat_eq i 0 ≡ z → (z ≡ true → is_append edit ≡ false) → (z ≡ true → o ≡ None)
    → ((kind : DocKind) → o ≡ Some kind → z ≡ false → AreAlike (answer false (not (suits edit kind)) r made) (f (content_of kind)))
    → AreAlike (answer (not z && not (is_some o)) (cond z (not (is_append edit)) (unsuited edit o)) r made) (on_found i (content_in o) f)
named_alike edit made i f true r None e app none h =
    subst (λ b. AreAlike (answer false (not b) r made) (on_found i None f)) (sym (app refl))
    (ap (λ b. cond b (Err doc.WrongKind) (Err doc.UnknownId)) e)
named_alike edit made i f true r (Some kind) e app none h = let wrong : Some kind ≡ None = none refl in cc
named_alike edit made i f false r None e app none h = ap (λ b. cond b (Err doc.WrongKind) (Err doc.UnknownId)) e
named_alike edit made i f false r (Some kind) e app none h = h kind refl refl

later_after : (edit : Edit) (d : List DocNode) → nat_eq (named edit) 0 ≡ false → after edit d ≡ code.changed (named edit) (instead edit) d
later_after edit d e = ap (λ b. cond b (d ++ carried edit) (code.changed (named edit) (instead edit) d)) e

-- the number 0 isn't found

none_by : (b rest : Bool) (n : ℕ) → cond b 1 0 + n ≡ 0 → (n ≡ 0 → rest ≡ false) → (b || rest) ≡ false
none_by true rest n h more = absurd (omega (arith, h))
none_by false rest n h more = more (let e : n ≡ 0 = omega (arith, h) in e)

has_none : (i : ℕ) (ns : List ℕ) → times i ns ≡ 0 → has i ns ≡ false
has_none i [] h = refl
has_none i (n ∷ ns) h = none_by (nat_eq n i) (has i ns) (times i ns) h (has_none i ns)

is_none : (o : Option DocKind) → is_some o ≡ false → o ≡ None
is_none None h = refl
is_none (Some kind) h = cc

zero_none : (d : List DocNode) (i : ℕ) → times 0 (numbers d) ≡ 0 → nat_eq i 0 ≡ true → found i d ≡ None
zero_none d i none e =
    is_none (found i d) (found_has i d ∙ has_none i (numbers d) (ap (λ n. times n (numbers d)) (equal_numbers i 0 e) ∙ none))

-- carried nodes

module _ (d nodes : List DocNode) where
  abbrev repeated : Bool
  repeated = list_any (λ n. is_barred (numbers d) (numbers nodes) n) (numbers nodes)

  fresh_or : (f : Forest) (b : Bool) → repeated ≡ b → if_fresh (forest_of d) (forest_of nodes) f ≡ cond b (Err doc.RepeatedId) (Ok f)
  fresh_or f b h = ap (λ c. cond c (Err doc.RepeatedId) (Ok f)) (clash_nodes d nodes nodes ∙ h)

-- each edit of a node that was found

module _ (d : List DocNode) (id : ElementId) where
  abbrev Alike : Edit → DocKind → Type 0
  Alike edit kind =
      AreAlike (answer false (not (suits edit kind)) (repeats edit d) (after edit d))
      (on_kind (edit_of edit) (forest_of d) (content_of kind))

  -- of nodes that come in
  carries : (edit : Edit) (nodes : List DocNode) (kind : DocKind) (f : ℕ → Content → Forest → Forest → Forest) → named edit ≡ id.0
      → nat_eq (named edit) 0 ≡ false → found (named edit) d ≡ Some kind → repeats edit d ≡ repeated d nodes
      → ((rest : List DocNode) → f (named edit) (content_of kind) (forest_below kind) (forest_of rest)
      ≡ forest_of (instead edit (record { id = record { 0 = named edit }; kind = kind }) ++ rest))
      → AreAlike (answer false false (repeats edit d) (after edit d)) (if_fresh (forest_of d) (forest_of nodes)
      (changed (named edit) f (forest_of d)))
  carries edit nodes kind f e z h r same =
      let made : changed (named edit) f (forest_of d) ≡ forest_of (after edit d) =
      change_nodes (named edit) f (instead edit) kind same d h ∙ ap forest_of (sym (later_after edit d z)) in
      suited true (repeats edit d) (after edit d) (if_fresh (forest_of d) (forest_of nodes) (changed (named edit) f (forest_of d)))
      (λ w. cc)
      (λ w q. fresh_or d nodes (changed (named edit) f (forest_of d)) true (sym r ∙ q))
      (λ w q. fresh_or d nodes (changed (named edit) f (forest_of d)) false (sym r ∙ q) ∙ ap Ok made)

  replaces : (nodes : List DocNode) (kind : DocKind) → found id.0 d ≡ Some kind → nat_eq id.0 0 ≡ false
      → Alike (edits.ReplaceNodeWith id nodes) kind
  replaces nodes kind h z =
      carries (edits.ReplaceNodeWith id nodes) nodes kind (λ i content children rest. join_rows (forest_of nodes) rest) refl z h refl
      (λ rest. sym (forest-append nodes rest))

  inserts : (nodes : List DocNode) (kind : DocKind) → found id.0 d ≡ Some kind → nat_eq id.0 0 ≡ false
      → Alike (edits.InsertNodesAfter id nodes) kind
  inserts nodes kind h z =
      carries (edits.InsertNodesAfter id nodes) nodes kind (λ i content children rest. Node i content children
      (join_rows (forest_of nodes) rest)) refl z h refl
      (λ rest. ap (λ (f : Forest). Node id.0 (content_of kind) (forest_below kind) f) (sym (forest-append nodes rest)))

  removes : (kind : DocKind) → found id.0 d ≡ Some kind → nat_eq id.0 0 ≡ false → Alike (edits.RemoveNode id) kind
  removes kind h z =
      ap Ok (change_nodes id.0 (λ i content children rest. rest) (instead (edits.RemoveNode id)) kind (λ rest. refl) d h ∙
      ap forest_of (sym (later_after (edits.RemoveNode id) d z)))

  texts : (text : List ℕ) (kind : DocKind) → found id.0 d ≡ Some kind → nat_eq id.0 0 ≡ false → Alike (edits.SetNodeText id text) kind
  unfolding is_text content_of forest_below forest_in
  texts text (Element' tag own attrs ls shape row) h z = refl
  texts text (Text old) h z =
      ap Ok (change_nodes id.0 (with_content (DocText text)) (instead (edits.SetNodeText id text)) (Text old) (λ rest. refl) d h ∙
      ap forest_of (sym (later_after (edits.SetNodeText id text) d z)))
  texts text Placeholder h z = refl

-- an element with other attributes and listeners keeps what is below it

module _ (i : ℕ) (tag : List ℕ) (own : Option (List ℕ)) (attrs : List DocAttr) (ls : List (List ℕ)) where
  kept_below : {m : _} (row : Row_of-DocNode m) (more : List DocAttr) (other : List (List ℕ)) (c : Content)
      → c ≡ DocElement tag own (map doc_attribute_of more) other → (rest : Forest)
      → Node i c (forest_in row) rest ≡ Node i (content_of (kinds.Element tag own more other (items-the_row-DocNode _ row)))
      (forest_below (kinds.Element tag own more other (items-the_row-DocNode _ row))) rest
  unfolding content_of
  kept_below row more other c e rest =
      ap (λ (x : Content). Node i x (forest_in row) rest) e ∙
      ap (λ (f : Forest). Node i (DocElement tag own (map doc_attribute_of more) other) f rest)
      (forest_row _ row ∙ sym (below_Element tag own more other (items-the_row-DocNode _ row)))

  joined_below : {m : _} (row : Row_of-DocNode m) (nodes : List DocNode) (rest : Forest)
      → Node i (DocElement tag own (map doc_attribute_of attrs) ls) (join_rows (forest_in row) (forest_of nodes)) rest
      ≡ Node i (content_of (kinds.Element tag own attrs ls (items-the_row-DocNode _ row ++ nodes)))
      (forest_below (kinds.Element tag own attrs ls (items-the_row-DocNode _ row ++ nodes))) rest
  unfolding content_of
  joined_below row nodes rest =
      ap (λ (f : Forest). Node i (DocElement tag own (map doc_attribute_of attrs) ls) f rest)
      (ap (λ (f : Forest). join_rows f (forest_of nodes)) (forest_row _ row) ∙ sym (forest-append (items-the_row-DocNode _ row) nodes) ∙
      sym (below_Element tag own attrs ls (items-the_row-DocNode _ row ++ nodes)))

valued_is : (name : List ℕ) (namespace value : Option (List ℕ)) (attrs : List DocAttr)
    → set_attribute (map doc_attribute_of attrs) name namespace value ≡ map doc_attribute_of (valued name namespace value attrs)
valued_is name namespace None attrs = sym (attribute_taken name namespace attrs)
valued_is name namespace (Some value) attrs = sym (attribute_put name namespace value attrs)

listen_choice : (p q : Bool) (made : List DocNode) (f : Forest) → p ≡ q → (q ≡ false → f ≡ forest_of made)
    → AreAlike (answer false (not (true && not p)) false made) (cond q (Err doc.WrongKind) (Ok f))
listen_choice true true made f e h = refl
listen_choice true false made f e h = cc
listen_choice false true made f e h = cc
listen_choice false false made f e h = ap Ok (h refl)

unlisten_choice : (p q : Bool) (made : List DocNode) (f : Forest) → p ≡ q → (q ≡ true → f ≡ forest_of made)
    → AreAlike (answer false (not p) false made) (cond q (Ok f) (Err doc.WrongKind))
unlisten_choice true true made f e h = ap Ok (h refl)
unlisten_choice true false made f e h = cc
unlisten_choice false true made f e h = cc
unlisten_choice false false made f e h = refl

module _ (d : List DocNode) (id : ElementId) where
  sets : (name : List ℕ) (namespace value : Option (List ℕ)) (kind : DocKind) → found id.0 d ≡ Some kind → nat_eq id.0 0 ≡ false
      → Alike d id (edits.SetAttribute id name namespace value) kind
  unfolding parts_of content_of forest_below forest_in
  sets name namespace value (Element' tag own attrs ls shape row) h z =
      let edit : Edit = edits.SetAttribute id name namespace value in
      let made : List DocAttr = valued name namespace value attrs in
      ap Ok (change_nodes id.0 (with_content (DocElement tag own (set_attribute (map doc_attribute_of attrs) name namespace value) ls))
      (instead edit)
      (Element' tag own attrs ls shape row)
      (λ rest. kept_below id.0 tag own attrs ls row made ls (DocElement tag own (set_attribute (map doc_attribute_of attrs) name namespace
      value) ls)
      (ap (λ (more : List doc.DocAttribute). DocElement tag own more ls) (valued_is name namespace value attrs)) (forest_of rest)) d h ∙
      ap forest_of (sym (later_after edit d z)))
  sets name namespace value (Text text) h z = refl
  sets name namespace value Placeholder h z = refl

  listens_to : (name : List ℕ) (kind : DocKind) → found id.0 d ≡ Some kind → nat_eq id.0 0 ≡ false
      → Alike d id (edits.CreateEventListener id name) kind
  unfolding parts_of content_of forest_below forest_in
  listens_to name (Element' tag own attrs ls shape row) h z =
      let edit : Edit = edits.CreateEventListener id name in
      let c : Content = DocElement tag own (map doc_attribute_of attrs) (with_listener ls name) in
      listen_choice (is_some (place_of (text_order name) ls)) (has_text ls name) (after edit d)
      (changed id.0 (with_content c) (forest_of d)) (listens_is name ls)
      (λ q. change_nodes id.0 (with_content c) (instead edit) (Element' tag own attrs ls shape row)
      (λ rest. kept_below id.0 tag own attrs ls row attrs (put_in (text_order name) name ls) c
      (ap (λ (ms : List (List ℕ)). DocElement tag own (map doc_attribute_of attrs) ms) (sym (listener_put name ls q))) (forest_of rest)) d h
      ∙
      ap forest_of (sym (later_after edit d z)))
  listens_to name (Text text) h z = refl
  listens_to name Placeholder h z = refl

  listens_no_more : (name : List ℕ) (kind : DocKind) → found id.0 d ≡ Some kind → nat_eq id.0 0 ≡ false
      → Alike d id (edits.RemoveEventListener id name) kind
  unfolding parts_of content_of forest_below forest_in
  listens_no_more name (Element' tag own attrs ls shape row) h z =
      let edit : Edit = edits.RemoveEventListener id name in
      let c : Content = DocElement tag own (map doc_attribute_of attrs) (without_listener ls name) in
      unlisten_choice (is_some (place_of (text_order name) ls)) (has_text ls name) (after edit d)
      (changed id.0 (with_content c) (forest_of d)) (listens_is name ls)
      (λ q. change_nodes id.0 (with_content c) (instead edit) (Element' tag own attrs ls shape row)
      (λ rest. kept_below id.0 tag own attrs ls row attrs (taken_out (text_order name) ls) c
      (ap (λ (ms : List (List ℕ)). DocElement tag own (map doc_attribute_of attrs) ms) (sym (listener_taken name ls))) (forest_of rest)) d h
      ∙
      ap forest_of (sym (later_after edit d z)))
  listens_no_more name (Text text) h z = refl
  listens_no_more name Placeholder h z = refl

  appends : (nodes : List DocNode) (kind : DocKind) → found id.0 d ≡ Some kind → nat_eq id.0 0 ≡ false
      → Alike d id (edits.AppendChildren id nodes) kind
  unfolding parts_of content_of forest_below forest_in
  appends nodes (Element' tag own attrs ls shape row) h z =
      carries d id (edits.AppendChildren id nodes) nodes (Element' tag own attrs ls shape row)
      (λ i content children rest. Node i content (join_rows children (forest_of nodes)) rest) refl z h refl
      (λ rest. joined_below id.0 tag own attrs ls row nodes (forest_of rest))
  appends nodes (Text text) h z = refl
  appends nodes Placeholder h z = refl

-- an edit of what it names, whatever that is

module _ (d : List DocNode) (none : times 0 (numbers d) ≡ 0) where
  of_found : (edit : Edit) → (nat_eq (named edit) 0 ≡ true → is_append edit ≡ false)
      → ((kind : DocKind) → found (named edit) d ≡ Some kind → nat_eq (named edit) 0 ≡ false
      → AreAlike (answer false (not (suits edit kind)) (repeats edit d) (after edit d))
      (on_kind (edit_of edit) (forest_of d) (content_of kind)))
      → AreAlike (apply edit d) (on_found (named edit) (doc.content_of (named edit) (forest_of d)) (on_kind (edit_of edit) (forest_of d)))
  of_found edit app h =
      subst (λ o. AreAlike (apply edit d) (on_found (named edit) o (on_kind (edit_of edit) (forest_of d))))
      (sym (content_nodes (named edit) d))
      (named_alike edit (after edit d) (named edit) (on_kind (edit_of edit) (forest_of d)) (nat_eq (named edit) 0) (repeats edit d)
      (found (named edit) d)
      refl app (zero_none d (named edit) none) h)

  append_alike : (id : ElementId) (nodes : List DocNode) (z : Bool) → nat_eq id.0 0 ≡ z
      → AreAlike (apply (edits.AppendChildren id nodes) d) (doc.apply (edit_of (edits.AppendChildren id nodes)) (forest_of d))
  append_alike id nodes true e =
      let edit : Edit = edits.AppendChildren id nodes in
      subst (λ b. AreAlike
      (answer (not b && not (is_some (found id.0 d))) (cond b (not (is_append edit)) (unsuited edit (found id.0 d))) (repeats edit d)
      (cond b (d ++ nodes) (code.changed id.0 (instead edit) d)))
      (cond b (if_fresh (forest_of d) (forest_of nodes) (join_rows (forest_of d) (forest_of nodes)))
      (on_found id.0 (doc.content_of id.0 (forest_of d)) (on_kind (edit_of edit) (forest_of d))))) (sym e)
      (suited true (repeats edit d) (d ++ nodes) (if_fresh (forest_of d) (forest_of nodes) (join_rows (forest_of d) (forest_of nodes)))
      (λ w. cc)
      (λ w q. fresh_or d nodes (join_rows (forest_of d) (forest_of nodes)) true q)
      (λ w q. fresh_or d nodes (join_rows (forest_of d) (forest_of nodes)) false q ∙ ap Ok (sym (forest-append d nodes))))
  append_alike id nodes false e =
      let edit : Edit = edits.AppendChildren id nodes in
      subst (λ b. AreAlike (apply edit d)
      (cond b (if_fresh (forest_of d) (forest_of nodes) (join_rows (forest_of d) (forest_of nodes)))
      (on_found id.0 (doc.content_of id.0 (forest_of d)) (on_kind (edit_of edit) (forest_of d))))) (sym e)
      (of_found edit (λ q. let wrong : true ≡ false = sym q ∙ e in cc) (λ kind h z. appends d id nodes kind h z))

  pub edits_agree : (edit : Edit) → AreAlike (apply edit d) (doc.apply (edit_of edit) (forest_of d))
  edits_agree (edits.AppendChildren id nodes) = append_alike id nodes (nat_eq id.0 0) refl
  edits_agree (edits.ReplaceNodeWith id nodes) =
      of_found (edits.ReplaceNodeWith id nodes) (λ q. refl) (λ kind h z. replaces d id nodes kind h z)
  edits_agree (edits.InsertNodesAfter id nodes) =
      of_found (edits.InsertNodesAfter id nodes) (λ q. refl) (λ kind h z. inserts d id nodes kind h z)
  edits_agree (edits.RemoveNode id) = of_found (edits.RemoveNode id) (λ q. refl) (λ kind h z. removes d id kind h z)
  edits_agree (edits.SetNodeText id text) = of_found (edits.SetNodeText id text) (λ q. refl) (λ kind h z. texts d id text kind h z)
  edits_agree (edits.SetAttribute id name namespace value) =
      of_found (edits.SetAttribute id name namespace value) (λ q. refl) (λ kind h z. sets d id name namespace value kind h z)
  edits_agree (edits.CreateEventListener id name) =
      of_found (edits.CreateEventListener id name) (λ q. refl) (λ kind h z. listens_to d id name kind h z)
  edits_agree (edits.RemoveEventListener id name) =
      of_found (edits.RemoveEventListener id name) (λ q. refl) (λ kind h z. listens_no_more d id name kind h z)

-- edits one after another

unwrapped : (f g : Forest) (r : Result Forest doc.DocFault) → r ≡ Ok f → r ≡ Ok g → f ≡ g
unwrapped f g r h k = let e : Ok f ≡ Ok g = sym h ∙ k in cc

abbrev after_more : List Edit → Forest → Result Forest doc.DocFault
after_more more f = document_after (map edit_of more) f

agree_next : (edit : Edit) (more : List Edit) (nodes : List DocNode) (made : Forest) (r : Result (List DocNode) DocFault)
    → apply edit nodes ≡ r
    → AreAlike r (doc.apply (edit_of edit) (forest_of nodes)) → IsNumbered nodes
    → and_then (doc.apply (edit_of edit) (forest_of nodes)) (λ f. after_more more f) ≡ Ok made
    → ((next : List DocNode) → IsNumbered next → after_more more (forest_of next) ≡ Ok made → Makes more next made)
    → Makes (edit ∷ more) nodes made
agree_next edit more nodes made (Ok next) e m n h goes =
    (next, e, goes next (numbered edit nodes next e n) (sym (ap (λ r. and_then r (λ f. after_more more f)) m) ∙ h))
agree_next edit more nodes made (Err faults.UnknownId) e m n h goes =
    let wrong : Err doc.UnknownId ≡ Ok made = sym (ap (λ r. and_then r (λ f. after_more more f)) m) ∙ h in cc
agree_next edit more nodes made (Err faults.WrongKind) e m n h goes =
    let wrong : Err doc.WrongKind ≡ Ok made = sym (ap (λ r. and_then r (λ f. after_more more f)) m) ∙ h in cc
agree_next edit more nodes made (Err faults.RepeatedId) e m n h goes =
    let wrong : Err doc.RepeatedId ≡ Ok made = sym (ap (λ r. and_then r (λ f. after_more more f)) m) ∙ h in cc
agree_next edit more nodes made (Err faults.OutOfMemory) e m n h goes = absurd m

pub edits_make : (edits : List Edit) (nodes : List DocNode) (made : Forest) → IsNumbered nodes
    → after_more edits (forest_of nodes) ≡ Ok made → Makes edits nodes made
edits_make [] nodes made n h = unwrapped (forest_of nodes) made (Ok (forest_of nodes)) refl h
edits_make (edit ∷ more) nodes made n h =
    agree_next edit more nodes made (apply edit nodes) refl (edits_agree nodes n.0 edit) n h
    (λ next numbered_next goes. edits_make more next made numbered_next goes)
