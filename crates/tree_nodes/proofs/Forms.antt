-- What is written of a template tells it from all others.
use Rattle.std.proofs.Common.{ℕ, suc, ◌+◌, ◌<◌, Bool, true, false, List, [], ◌∷◌, ◌++◌, ◌≡◌, refl, sym, ap, ◌∙◌, map, length, take, drop, arith}
use Rattle.std.specs.Prelude.{Option, Some, None, IsTrue, ◌↔◌, if◌then◌else◌, nat_lt}
use Rattle.rt_lemmas.proofs.Lists.{append_nil as nil-right, append_append as append-append}
pub use Rattle.rt_lemmas.proofs.Lists.{next_drop as next_node, drop_all as none_left}
use Rattle.tree_nodes.specs.Forms.{all_in_form, all_paths_in_form, attribute_in_form, attributes_in_form, empty_form, form_of, form_step, form_then, marked, node_in_form, nodes_in_form, paths_in_form, roots_in_form, small_marked, space_in_form, text_in_form, texted, wide_marked}
use Rattle.tree_nodes.specs.declared.written.Form.{Form}
use Rattle.tree_nodes.specs.declared.template.TemplateAttribute.{TemplateAttribute}
use Rattle.tree_nodes.specs.declared.template.TemplateAttribute.TheVariants as attributes
use Rattle.tree_nodes.specs.declared.template.TemplateNode.{TemplateNode}
use Rattle.tree_nodes.specs.declared.template.TemplateNode.TheVariants as nodes
use Rattle.tree_nodes.specs.declared.template.TemplateNode.TheOpen.{TemplateNode-F}
use Rattle.tree_nodes.specs.declared.template.TemplateNode.TheViews.{out-TemplateNode, roll-TemplateNode, roll-out-TemplateNode}
use Rattle.tree_nodes.specs.declared.template.TemplateNode.TheFolds.{fold-roll-TemplateNode, ind-TemplateNode, map-TemplateNode}
use Rattle.tree_nodes.specs.declared.template.TemplateParts.{TemplateParts}

-- nothing more is written
pub then_nothing : (f : Form) → form_then f empty_form ≡ f
then_nothing f = λ i. record f { marks = nil-right f.marks i; wides = nil-right f.wides i }

-- one mark more
pub small_then : (f rest : Form) (m : ℕ) → nat_lt m 255 ≡ true → form_then (record f { marks = f.marks ++ m ∷ [] }) rest ≡ form_then f (marked m rest)
small_then f rest m is =
    (λ i. record { marks = append-append f.marks (m ∷ []) rest.marks i; wides = f.wides ++ rest.wides }) ∙
    ap (λ (b : Bool). form_then f (if b then small_marked m rest else wide_marked m rest)) (sym is)

-- one that is wide
pub wide_then : (f rest : Form) (m : ℕ) → nat_lt m 255 ≡ false
    → form_then (record f { marks = f.marks ++ 255 ∷ []; wides = f.wides ++ m ∷ [] }) rest ≡ form_then f (marked m rest)
wide_then f rest m is =
    (λ i. record {
      marks = append-append f.marks (255 ∷ []) rest.marks i;
      wides = append-append f.wides (m ∷ []) rest.wides i;
    }) ∙
    ap (λ (b : Bool). form_then f (if b then small_marked m rest else wide_marked m rest)) (sym is)

-- a text more
pub text_then : (f rest : Form) (t : List ℕ) → form_then (record f { marks = f.marks ++ t }) rest ≡ form_then f (texted t rest)
text_then f rest t = λ i. record { marks = append-append f.marks t rest.marks i; wides = f.wides ++ rest.wides }

-- what is below a node
abbrev pub below : TemplateNode-F TemplateNode → TemplateNode-F (Form → Form)
below x = map-TemplateNode TemplateNode (Form → Form) node_in_form x

node_rolled : (x : TemplateNode-F TemplateNode) (rest : Form) → node_in_form (roll-TemplateNode x) rest ≡ form_step (below x) rest
unfolding node_in_form
node_rolled x rest = ap (λ (g : Form → Form). g rest) (fold-roll-TemplateNode (Form → Form) form_step x)

node_out : (node : TemplateNode) (rest : Form) → node_in_form node rest ≡ form_step (below (out-TemplateNode node)) rest
node_out node rest = ap (λ n. node_in_form n rest) (sym (roll-out-TemplateNode node)) ∙ node_rolled (out-TemplateNode node) rest

-- nodes one by one are nodes in a row
pub all_nodes : (ns : List TemplateNode) (rest : Form) → all_in_form (map node_in_form ns) rest ≡ nodes_in_form ns rest
all_nodes [] rest = refl
all_nodes (n ∷ ns) rest = ap (λ r. node_in_form n r) (all_nodes ns rest)

pub node_Element : (tag : List ℕ) (namespace : Option (List ℕ)) (attrs : List TemplateAttribute) (children : List TemplateNode) (rest : Form)
    → node_in_form (nodes.Element tag namespace attrs children) rest
    ≡ marked 0 (text_in_form tag (space_in_form namespace (marked (length attrs) (attributes_in_form attrs (marked (length children) (nodes_in_form children rest))))))
node_Element tag namespace attrs children rest =
    ap (λ n. node_in_form n rest) (sym (nodes.rolls-Element tag namespace attrs children)) ∙
    node_rolled (TemplateNode-F.Element tag namespace attrs children) rest ∙
    (λ i. marked 0 (text_in_form tag (space_in_form namespace (marked (length attrs) (attributes_in_form attrs
    (marked (length-map children i) (all_nodes children rest i)))))))
  where
    length-map : (ns : List TemplateNode) → length (map node_in_form ns) ≡ length ns
    length-map [] = refl
    length-map (n ∷ ns) = ap suc (length-map ns)

pub node_Text : (text : List ℕ) (rest : Form) → node_in_form (nodes.Text text) rest ≡ marked 1 (text_in_form text rest)
node_Text text rest = ap (λ n. node_in_form n rest) (sym (nodes.rolls-Text text)) ∙ node_rolled (TemplateNode-F.Text text) rest

pub node_Dynamic : (id : ℕ) (rest : Form) → node_in_form (nodes.Dynamic id) rest ≡ marked 2 (marked id rest)
node_Dynamic id rest = ap (λ n. node_in_form n rest) (sym (nodes.rolls-Dynamic id)) ∙ node_rolled (TemplateNode-F.Dynamic id) rest

-- what was written comes back

abbrev first : List ℕ → ℕ
first [] = 0
first (m ∷ ms) = m

abbrev others : List ℕ → List ℕ
others [] = []
others (m ∷ ms) = ms

-- the number that comes first, and what comes after it
abbrev first_mark : Form → ℕ
first_mark f = if nat_lt (first f.marks) 255 then first f.marks else first f.wides

abbrev past_mark : Form → Form
past_mark f = if nat_lt (first f.marks) 255 then record f { marks = others f.marks } else record f { marks = others f.marks; wides = others f.wides }

mark_read : (m : ℕ) (r : Form) → first_mark (marked m r) ≡ m
mark_read m r = by (nat_lt m 255) refl
  where
    by : (b : Bool) → nat_lt m 255 ≡ b → first_mark (if b then small_marked m r else wide_marked m r) ≡ m
    by true is = ap (λ (b : Bool). if b then m else first r.wides) is
    by false is = refl

mark_past : (m : ℕ) (r : Form) → past_mark (marked m r) ≡ r
mark_past m r = by (nat_lt m 255) refl
  where
    by : (b : Bool) → nat_lt m 255 ≡ b → past_mark (if b then small_marked m r else wide_marked m r) ≡ r
    by true is = ap (λ (b : Bool). if b then r else record r { wides = others r.wides }) is
    by false is = refl

mark_same : (m n : ℕ) (r s : Form) → marked m r ≡ marked n s → m ≡ n
mark_same m n r s h = sym (mark_read m r) ∙ ap (λ (f : Form). first_mark f) h ∙ mark_read n s

mark_rest : (m n : ℕ) (r s : Form) → marked m r ≡ marked n s → r ≡ s
mark_rest m n r s h = sym (mark_past m r) ∙ ap (λ (f : Form). past_mark f) h ∙ mark_past n s

taken : (t b : List ℕ) → take (length t) (t ++ b) ≡ t
taken [] b = refl
taken (x ∷ t) b = ap (λ ys. x ∷ ys) (taken t b)

dropped : (t b : List ℕ) → drop (length t) (t ++ b) ≡ b
dropped [] b = refl
dropped (x ∷ t) b = dropped t b

text_same : (t u : List ℕ) (r s : Form) → text_in_form t r ≡ text_in_form u s → t ≡ u
text_same t u r s h =
    let long : length t ≡ length u = mark_same (length t) (length u) (texted t r) (texted u s) h in
    let both : texted t r ≡ texted u s = mark_rest (length t) (length u) (texted t r) (texted u s) h in
    sym (taken t r.marks) ∙ (λ i. take (long i) (both i).marks) ∙ taken u s.marks

text_rest : (t u : List ℕ) (r s : Form) → text_in_form t r ≡ text_in_form u s → r ≡ s
text_rest t u r s h =
    let long : length t ≡ length u = mark_same (length t) (length u) (texted t r) (texted u s) h in
    let both : texted t r ≡ texted u s = mark_rest (length t) (length u) (texted t r) (texted u s) h in
    (λ i. record r { marks = sym (dropped t r.marks) i }) ∙
    (λ i. record (both i) { marks = drop (long i) (both i).marks }) ∙
    (λ i. record s { marks = dropped u s.marks i })

-- two marks that differ
apart : {A : Type 0} (m n : ℕ) → m < n → m ≡ n → A
apart m n less same = absurd (omega (arith, less, same))

-- what is the same, and the same rest
abbrev Peeled : {A : Type 0} → A → A → Form → Form → Type 0
Peeled a b r s = (a ≡ b) × (r ≡ s)

space_peeled : (a b : Option (List ℕ)) (r s : Form) → space_in_form a r ≡ space_in_form b s → Peeled a b r s
space_peeled None None r s h = (refl, mark_rest 0 0 r s h)
space_peeled None (Some u) r s h = apart 0 1 (omega arith) (mark_same 0 1 r (text_in_form u s) h)
space_peeled (Some t) None r s h = apart 0 1 (omega arith) (sym (mark_same 1 0 (text_in_form t r) s h))
space_peeled (Some t) (Some u) r s h =
    let e : text_in_form t r ≡ text_in_form u s = mark_rest 1 1 (text_in_form t r) (text_in_form u s) h in
    (ap Some (text_same t u r s e), text_rest t u r s e)

-- a name, a namespace and a value before the rest
abbrev fixed_in_form : List ℕ → Option (List ℕ) → List ℕ → Form → Form
fixed_in_form name namespace value rest = text_in_form name (space_in_form namespace (text_in_form value rest))

attribute_peeled : (a b : TemplateAttribute) (r s : Form) → attribute_in_form a r ≡ attribute_in_form b s → Peeled a b r s
attribute_peeled (attributes.Static n x v) (attributes.Static m y w) r s h =
    let e1 : fixed_in_form n x v r ≡ fixed_in_form m y w s = mark_rest 0 0 (fixed_in_form n x v r) (fixed_in_form m y w s) h in
    let a2 : Form = space_in_form x (text_in_form v r) in
    let b2 : Form = space_in_form y (text_in_form w s) in
    let name : n ≡ m = text_same n m a2 b2 e1 in
    let e2 : a2 ≡ b2 = text_rest n m a2 b2 e1 in
    let e3 : Peeled x y (text_in_form v r) (text_in_form w s) = space_peeled x y (text_in_form v r) (text_in_form w s) e2 in
    ((λ i. attributes.Static (name i) (e3.0 i) (text_same v w r s e3.1 i)), text_rest v w r s e3.1)
attribute_peeled (attributes.Static n x v) (attributes.Dynamic k) r s h =
    apart 0 1 (omega arith) (mark_same 0 1 (fixed_in_form n x v r) (marked k s) h)
attribute_peeled (attributes.Dynamic j) (attributes.Static m y w) r s h =
    apart 0 1 (omega arith) (sym (mark_same 1 0 (marked j r) (fixed_in_form m y w s) h))
attribute_peeled (attributes.Dynamic j) (attributes.Dynamic k) r s h =
    let e : marked j r ≡ marked k s = mark_rest 1 1 (marked j r) (marked k s) h in
    (ap attributes.Dynamic (mark_same j k r s e), mark_rest j k r s e)

attributes_peeled : (xs ys : List TemplateAttribute) (r s : Form) → length xs ≡ length ys → attributes_in_form xs r ≡ attributes_in_form ys s → Peeled xs ys r s
attributes_peeled [] [] r s long h = (refl, h)
attributes_peeled [] (b ∷ ys) r s long h = absurd (omega (arith, long))
attributes_peeled (a ∷ xs) [] r s long h = absurd (omega (arith, long))
attributes_peeled (a ∷ xs) (b ∷ ys) r s long h =
    let one : Peeled a b (attributes_in_form xs r) (attributes_in_form ys s) = attribute_peeled a b (attributes_in_form xs r) (attributes_in_form ys s) h in
    let all : Peeled xs ys r s = attributes_peeled xs ys r s (omega (arith, long)) one.1 in
    ((λ i. one.0 i ∷ all.0 i), all.1)

-- a node comes back with what was written after it
abbrev Peels : TemplateNode → Type 0
Peels node = (other : TemplateNode) (r s : Form) → node_in_form node r ≡ node_in_form other s → Peeled node other r s

-- nodes, each of which comes back
abbrev Peeling : Type 0
Peeling = (node : TemplateNode) × Peels node

abbrev nodes_under : List Peeling → List TemplateNode
nodes_under es = map (λ e. e.0) es

kids_peeled : (es : List Peeling) (ns : List TemplateNode) (r s : Form) → length (nodes_under es) ≡ length ns
    → nodes_in_form (nodes_under es) r ≡ nodes_in_form ns s → Peeled (nodes_under es) ns r s
kids_peeled [] [] r s long h = (refl, h)
kids_peeled [] (n ∷ ns) r s long h = absurd (omega (arith, long))
kids_peeled (e ∷ es) [] r s long h = absurd (omega (arith, long))
kids_peeled (e ∷ es) (n ∷ ns) r s long h =
    let one : Peeled e.0 n (nodes_in_form (nodes_under es) r) (nodes_in_form ns s) = e.1 n (nodes_in_form (nodes_under es) r) (nodes_in_form ns s) h in
    let all : Peeled (nodes_under es) ns r s = kids_peeled es ns r s (omega (arith, long)) one.1 in
    ((λ i. one.0 i ∷ all.0 i), all.1)

abbrev bare : TemplateNode-F Peeling → TemplateNode-F TemplateNode
bare y = map-TemplateNode Peeling TemplateNode (λ e. e.0) y

abbrev rolled : TemplateNode-F TemplateNode → TemplateNode
rolled (TemplateNode-F.Element tag namespace attrs children) = nodes.Element tag namespace attrs children
rolled (TemplateNode-F.Text text) = nodes.Text text
rolled (TemplateNode-F.Dynamic id) = nodes.Dynamic id

rolled-is : (x : TemplateNode-F TemplateNode) → rolled x ≡ roll-TemplateNode x
rolled-is (TemplateNode-F.Element tag namespace attrs children) = sym (nodes.rolls-Element tag namespace attrs children)
rolled-is (TemplateNode-F.Text text) = sym (nodes.rolls-Text text)
rolled-is (TemplateNode-F.Dynamic id) = sym (nodes.rolls-Dynamic id)

node_rolls : (x : TemplateNode-F TemplateNode) (rest : Form) → node_in_form (rolled x) rest ≡ form_step (below x) rest
node_rolls x rest = ap (λ n. node_in_form n rest) (rolled-is x) ∙ node_rolled x rest

-- what is written of an element's children
abbrev kids_in_form : List TemplateNode → Form → Form
kids_in_form children rest = marked (length children) (nodes_in_form children rest)

-- what is written of its attributes and children
abbrev rest_in_form : List TemplateAttribute → List TemplateNode → Form → Form
rest_in_form attrs children rest = marked (length attrs) (attributes_in_form attrs (kids_in_form children rest))

element_peeled : (tag : List ℕ) (space : Option (List ℕ)) (attrs : List TemplateAttribute) (es : List Peeling)
    (tag2 : List ℕ) (space2 : Option (List ℕ)) (attrs2 : List TemplateAttribute) (ns : List TemplateNode) (r s : Form)
    → marked 0 (text_in_form tag (space_in_form space (rest_in_form attrs (nodes_under es) r)))
    ≡ marked 0 (text_in_form tag2 (space_in_form space2 (rest_in_form attrs2 ns s)))
    → Peeled (nodes.Element tag space attrs (nodes_under es)) (nodes.Element tag2 space2 attrs2 ns) r s
element_peeled tag space attrs es tag2 space2 attrs2 ns r s h =
    let kids1 : Form = kids_in_form (nodes_under es) r in
    let kids2 : Form = kids_in_form ns s in
    let all1 : Form = attributes_in_form attrs kids1 in
    let all2 : Form = attributes_in_form attrs2 kids2 in
    let rest1 : Form = marked (length attrs) all1 in
    let rest2 : Form = marked (length attrs2) all2 in
    let named1 : Form = space_in_form space rest1 in
    let named2 : Form = space_in_form space2 rest2 in
    let e1 : text_in_form tag named1 ≡ text_in_form tag2 named2 = mark_rest 0 0 (text_in_form tag named1) (text_in_form tag2 named2) h in
    let e2 : Peeled space space2 rest1 rest2 = space_peeled space space2 rest1 rest2 (text_rest tag tag2 named1 named2 e1) in
    let many : length attrs ≡ length attrs2 = mark_same (length attrs) (length attrs2) all1 all2 e2.1 in
    let e3 : Peeled attrs attrs2 kids1 kids2 =
    attributes_peeled attrs attrs2 kids1 kids2 many (mark_rest (length attrs) (length attrs2) all1 all2 e2.1) in
    let below1 : Form = nodes_in_form (nodes_under es) r in
    let below2 : Form = nodes_in_form ns s in
    let count : length (nodes_under es) ≡ length ns = mark_same (length (nodes_under es)) (length ns) below1 below2 e3.1 in
    let e4 : Peeled (nodes_under es) ns r s = kids_peeled es ns r s count (mark_rest (length (nodes_under es)) (length ns) below1 below2 e3.1) in
    ((λ i. nodes.Element (text_same tag tag2 named1 named2 e1 i) (e2.0 i) (e3.0 i) (e4.0 i)), e4.1)

-- an element's form begins with another mark than a text's or a slot's
abbrev inside_in_form : List ℕ → Option (List ℕ) → List TemplateAttribute → List TemplateNode → Form → Form
inside_in_form tag space attrs children rest = text_in_form tag (space_in_form space (rest_in_form attrs children rest))

level_peeled : (y : TemplateNode-F Peeling) (z : TemplateNode-F TemplateNode) (r s : Form)
    → node_in_form (rolled (bare y)) r ≡ node_in_form (rolled z) s → Peeled (rolled (bare y)) (rolled z) r s
level_peeled (TemplateNode-F.Element tag space attrs es) (TemplateNode-F.Element tag2 space2 attrs2 ns) r s h =
    element_peeled tag space attrs es tag2 space2 attrs2 ns r s
    (sym (node_Element tag space attrs (nodes_under es) r) ∙ h ∙ node_Element tag2 space2 attrs2 ns s)
level_peeled (TemplateNode-F.Element tag space attrs es) (TemplateNode-F.Text u) r s h =
    apart 0 1 (omega arith)
    (mark_same 0 1 (inside_in_form tag space attrs (nodes_under es) r) (text_in_form u s)
    (sym (node_Element tag space attrs (nodes_under es) r) ∙ h ∙ node_Text u s))
level_peeled (TemplateNode-F.Element tag space attrs es) (TemplateNode-F.Dynamic k) r s h =
    apart 0 2 (omega arith)
    (mark_same 0 2 (inside_in_form tag space attrs (nodes_under es) r) (marked k s)
    (sym (node_Element tag space attrs (nodes_under es) r) ∙ h ∙ node_Dynamic k s))
level_peeled (TemplateNode-F.Text t) (TemplateNode-F.Element tag2 space2 attrs2 ns) r s h =
    apart 0 1 (omega arith)
    (sym (mark_same 1 0 (text_in_form t r) (inside_in_form tag2 space2 attrs2 ns s)
    (sym (node_Text t r) ∙ h ∙ node_Element tag2 space2 attrs2 ns s)))
level_peeled (TemplateNode-F.Text t) (TemplateNode-F.Text u) r s h =
    let e : text_in_form t r ≡ text_in_form u s =
    mark_rest 1 1 (text_in_form t r) (text_in_form u s) (sym (node_Text t r) ∙ h ∙ node_Text u s) in
    (ap nodes.Text (text_same t u r s e), text_rest t u r s e)
level_peeled (TemplateNode-F.Text t) (TemplateNode-F.Dynamic k) r s h =
    apart 1 2 (omega arith) (mark_same 1 2 (text_in_form t r) (marked k s) (sym (node_Text t r) ∙ h ∙ node_Dynamic k s))
level_peeled (TemplateNode-F.Dynamic j) (TemplateNode-F.Element tag2 space2 attrs2 ns) r s h =
    apart 0 2 (omega arith)
    (sym (mark_same 2 0 (marked j r) (inside_in_form tag2 space2 attrs2 ns s)
    (sym (node_Dynamic j r) ∙ h ∙ node_Element tag2 space2 attrs2 ns s)))
level_peeled (TemplateNode-F.Dynamic j) (TemplateNode-F.Text u) r s h =
    apart 1 2 (omega arith) (sym (mark_same 2 1 (marked j r) (text_in_form u s) (sym (node_Dynamic j r) ∙ h ∙ node_Text u s)))
level_peeled (TemplateNode-F.Dynamic j) (TemplateNode-F.Dynamic k) r s h =
    let e : marked j r ≡ marked k s = mark_rest 2 2 (marked j r) (marked k s) (sym (node_Dynamic j r) ∙ h ∙ node_Dynamic k s) in
    (ap nodes.Dynamic (mark_same j k r s e), mark_rest j k r s e)

node_peeled : (node : TemplateNode) → Peels node
node_peeled =
    ind-TemplateNode Peels (λ x y is other r s h.
    let own : rolled (bare y) ≡ roll-TemplateNode x = ap rolled is ∙ rolled-is x in
    let its : rolled (out-TemplateNode other) ≡ other = rolled-is (out-TemplateNode other) ∙ roll-out-TemplateNode other in
    let both : Peeled (rolled (bare y)) (rolled (out-TemplateNode other)) r s =
    level_peeled y (out-TemplateNode other) r s
    (ap (λ n. node_in_form n r) own ∙ h ∙ ap (λ n. node_in_form n s) (sym its)) in
    (sym own ∙ both.0 ∙ its, both.1))

nodes_peeled : (xs ys : List TemplateNode) (r s : Form) → length xs ≡ length ys → nodes_in_form xs r ≡ nodes_in_form ys s → Peeled xs ys r s
nodes_peeled [] [] r s long h = (refl, h)
nodes_peeled [] (y ∷ ys) r s long h = absurd (omega (arith, long))
nodes_peeled (x ∷ xs) [] r s long h = absurd (omega (arith, long))
nodes_peeled (x ∷ xs) (y ∷ ys) r s long h =
    let one : Peeled x y (nodes_in_form xs r) (nodes_in_form ys s) = node_peeled x y (nodes_in_form xs r) (nodes_in_form ys s) h in
    let all : Peeled xs ys r s = nodes_peeled xs ys r s (omega (arith, long)) one.1 in
    ((λ i. one.0 i ∷ all.0 i), all.1)

roots_peeled : (xs ys : List TemplateNode) (r s : Form) → roots_in_form xs r ≡ roots_in_form ys s → Peeled xs ys r s
roots_peeled xs ys r s h =
    let below1 : Form = nodes_in_form xs r in
    let below2 : Form = nodes_in_form ys s in
    let long : length xs ≡ length ys = mark_same (length xs) (length ys) below1 below2 h in
    nodes_peeled xs ys r s long (mark_rest (length xs) (length ys) below1 below2 h)

paths_peeled : (ps qs : List (List ℕ)) (r s : Form) → length ps ≡ length qs → paths_in_form ps r ≡ paths_in_form qs s → Peeled ps qs r s
paths_peeled [] [] r s long h = (refl, h)
paths_peeled [] (q ∷ qs) r s long h = absurd (omega (arith, long))
paths_peeled (p ∷ ps) [] r s long h = absurd (omega (arith, long))
paths_peeled (p ∷ ps) (q ∷ qs) r s long h =
    let one : p ≡ q = text_same p q (paths_in_form ps r) (paths_in_form qs s) h in
    let all : Peeled ps qs r s = paths_peeled ps qs r s (omega (arith, long)) (text_rest p q (paths_in_form ps r) (paths_in_form qs s) h) in
    ((λ i. one i ∷ all.0 i), all.1)

all_paths_peeled : (ps qs : List (List ℕ)) (r s : Form) → all_paths_in_form ps r ≡ all_paths_in_form qs s → Peeled ps qs r s
all_paths_peeled ps qs r s h =
    let below1 : Form = paths_in_form ps r in
    let below2 : Form = paths_in_form qs s in
    let long : length ps ≡ length qs = mark_same (length ps) (length qs) below1 below2 h in
    paths_peeled ps qs r s long (mark_rest (length ps) (length qs) below1 below2 h)

-- templates that have one form are one
pub parts-apart : (x y : TemplateParts) → form_of x ≡ form_of y → x ≡ y
parts-apart x y h =
    let attrs1 : Form = all_paths_in_form x.attr_paths empty_form in
    let attrs2 : Form = all_paths_in_form y.attr_paths empty_form in
    let nodes1 : Form = all_paths_in_form x.node_paths attrs1 in
    let nodes2 : Form = all_paths_in_form y.node_paths attrs2 in
    let roots : Peeled x.roots y.roots nodes1 nodes2 = roots_peeled x.roots y.roots nodes1 nodes2 h in
    let slots : Peeled x.node_paths y.node_paths attrs1 attrs2 = all_paths_peeled x.node_paths y.node_paths attrs1 attrs2 roots.1 in
    let given : Peeled x.attr_paths y.attr_paths empty_form empty_form = all_paths_peeled x.attr_paths y.attr_paths empty_form empty_form slots.1 in
    λ i. record { roots = roots.0 i; node_paths = slots.0 i; attr_paths = given.0 i }

-- a look at forms is one at templates
pub same_by_form : (b : Bool) (f g : Form) (x y : TemplateParts) → f ≡ form_of x → g ≡ form_of y → (IsTrue b ↔ (f ≡ g)) → (IsTrue b ↔ (x ≡ y))
same_by_form b f g x y own its same = (
  λ yes. parts-apart x y (sym own ∙ same.0 yes ∙ its),
  λ one. same.1 (own ∙ ap form_of one ∙ sym its),
)
