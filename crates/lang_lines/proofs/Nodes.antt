-- Nodes in a row are told apart, with all that is below them.
use Rattle.std.proofs.Common.{arith, ◌≡◌, ◌∙◌, ℕ, ◌^◌, ◌<◌, false, ◌||◌, ◌==◌, List, [], ◌∷◌, ◌++◌, Option, map, drop, refl, ap, sym, append_assoc}
use Rattle.std.specs.Prelude.{decimal, codes}
use Rattle.json.specs.Print.{quoted}
use Rattle.rt_model.specs.Lists.{Text}
use Rattle.rt_model.specs.Document.{DocAttribute, Content, DocElement, DocText, DocPlaceholder, Forest, Empty, Node}
use Rattle.rt_language.specs.Lines.{numbered, spaced, qualified, attribute_text, listener_text, node_text, node_texts}
use Rattle.rt_values.specs.Naming.{is_name_byte}
use Rattle.lang_lines.specs.Plain.{IsPlainContent, HasKids, IsPlainForest}
use Rattle.lang_lines.proofs.Names.{Ends, numbers_told, quoted_parted}
use Rattle.lang_lines.proofs.Rows.{mark, kind, is_attribute, is_listener, opened, opened_parted}

six : (q d a l k z r : List ℕ) → (((((q ++ d) ++ a) ++ l) ++ k) ++ z) ++ r ≡ q ++ (d ++ (a ++ (l ++ (k ++ (z ++ r)))))
six q d a l k z r =
    append_assoc ((((q ++ d) ++ a) ++ l) ++ k) z r
    ∙ append_assoc (((q ++ d) ++ a) ++ l) k (z ++ r)
    ∙ append_assoc ((q ++ d) ++ a) l (k ++ (z ++ r))
    ∙ append_assoc (q ++ d) a (l ++ (k ++ (z ++ r)))
    ∙ append_assoc q d (a ++ (l ++ (k ++ (z ++ r))))

-- the text of a node, and of those behind it
unfoldable text_at : ℕ → Content → Forest → List ℕ
text_at i c kids = node_text i c (node_texts kids)

unfoldable pub texts_of : Forest → List ℕ
texts_of nodes = spaced (node_texts nodes)

element_is : (i : ℕ) (t : Text) (n : Option Text) (attributes : List DocAttribute) (listeners : List Text) (kids : Forest) (r : List ℕ)
    → text_at i (DocElement t n attributes listeners) kids ++ r ≡ 40 ∷ opened n t i attributes listeners (texts_of kids ++ (41 ∷ r))
unfolding text_at texts_of opened
element_is i t n attributes listeners kids r =
    ap (λ x. 40 ∷ x)
    (six (qualified n t) (numbered i) (spaced (map attribute_text attributes)) (spaced (map listener_text listeners))
    (spaced (node_texts kids)) (codes ")") r)

text_is : (i : ℕ) (t : Text) (kids : Forest) (r : List ℕ) → text_at i (DocText t) kids ++ r ≡ quoted t ++ (35 ∷ (decimal i ++ r))
unfolding text_at
text_is i t kids r = append_assoc (quoted t) (numbered i) r

one_first : (i : ℕ) (c : Content) (kids rest : Forest) (r : List ℕ)
    → texts_of (Node i c kids rest) ++ r ≡ 32 ∷ (text_at i c kids ++ (texts_of rest ++ r))
unfolding text_at texts_of
one_first i c kids rest r = ap (λ x. 32 ∷ x) (append_assoc (node_text i c (node_texts kids)) (spaced (node_texts rest)) r)

-- the byte that tells a node's content
mark_of : Content → ℕ
mark_of (DocElement t n attributes listeners) = 40
mark_of (DocText t) = 34
mark_of DocPlaceholder = 35

mark_is : (i : ℕ) (c : Content) (kids : Forest) (r : List ℕ) → mark (text_at i c kids ++ r) ≡ mark_of c
unfolding mark_of mark text_at
mark_is i (DocElement t n attributes listeners) kids r = refl
mark_is i (DocText t) kids r = refl
mark_is i DocPlaceholder kids r = refl

-- what stands after nodes is neither an attribute nor a listener, as where the nodes end

not_node : (m : ℕ) (c : Content) → m ≡ mark_of c → ((m == 61 || m == 58) ≡ false) × ((m == 64) ≡ false)
unfolding mark_of
not_node m (DocElement t n attributes listeners) is = rw is (refl, refl)
not_node m (DocText t) is = rw is (refl, refl)
not_node m DocPlaceholder is = rw is (refl, refl)

none_lack : (r : List ℕ)
    → (is_attribute (texts_of Empty ++ (41 ∷ r)) ≡ false) × (is_listener (texts_of Empty ++ (41 ∷ r)) ≡ false)
unfolding is_attribute is_listener kind texts_of
none_lack r = (refl, refl)

kids_lack : (kids : Forest) (r : List ℕ)
    → (is_attribute (texts_of kids ++ (41 ∷ r)) ≡ false) × (is_listener (texts_of kids ++ (41 ∷ r)) ≡ false)
unfolding is_attribute is_listener kind
kids_lack Empty r = none_lack r
kids_lack (Node i c kids rest) r =
    not_node (kind (texts_of (Node i c kids rest) ++ (41 ∷ r))) c
    (ap kind (one_first i c kids rest (41 ∷ r)) ∙ mark_is i c kids (texts_of rest ++ (41 ∷ r)))

kids_end : (kids : Forest) (r : List ℕ) → Ends r → Ends (texts_of kids ++ r)
unfolding texts_of
kids_end Empty r stop = stop
kids_end (Node i c kids rest) r stop = refl

holes_drop : (i : ℕ) (kids : Forest) (r : List ℕ) → drop 2 (text_at i DocPlaceholder kids ++ r) ≡ decimal i ++ r
unfolding text_at
holes_drop i kids r = refl

-- two nodes are equal, and what follows them
record SameNode (i j : ℕ) (c d : Content) (kids others : Forest) (r s : List ℕ) : Type 0 where
  number : i ≡ j
  content_is : c ≡ d
  kids_are : kids ≡ others
  rest_is : r ≡ s

nodes_parted : (i j : ℕ) (c d : Content) (kids others : Forest) (r s : List ℕ)
    → i < 2 ^ 64 → j < 2 ^ 64 → IsPlainContent c → IsPlainContent d → HasKids c kids → HasKids d others → Ends r → Ends s
    → ((p q : List ℕ) → texts_of kids ++ (41 ∷ p) ≡ texts_of others ++ (41 ∷ q) → (kids ≡ others) × (41 ∷ p ≡ 41 ∷ q))
    → text_at i c kids ++ r ≡ text_at j d others ++ s
    → SameNode i j c d kids others r s
unfolding mark_of
nodes_parted i j (DocElement t n attributes listeners) (DocElement u m all names) kids others r s small little plain plains has have stop
    stops below same =
    let inner : opened n t i attributes listeners (texts_of kids ++ (41 ∷ r)) ≡ opened m u j all names (texts_of others ++ (41 ∷ s)) =
    ap (λ x. drop 1 x) (sym (element_is i t n attributes listeners kids r) ∙ same ∙ element_is j u m all names others s) in
    let lacks = kids_lack kids r in
    let lack = kids_lack others s in
    let both = opened_parted n m t u i j attributes all listeners names (texts_of kids ++ (41 ∷ r)) (texts_of others ++ (41 ∷ s)) plain.0
    plains.0 plain.1 plains.1 small little plain.2 plains.2 plain.3 plains.3 (kids_end kids (41 ∷ r) refl) (kids_end others (41 ∷ s) refl)
    lacks.0 lack.0 lacks.1 lack.1 inner in
    let kept = below r s both.rest in
    record {
      number = both.number;
      content_is = λ k. DocElement (both.tag k) (both.namespace k) (both.attributes_are k) (both.listeners_are k);
      kids_are = kept.0;
      rest_is = ap (λ x. drop 1 x) kept.1;
    }
nodes_parted i j (DocText t) (DocText u) kids others r s small little plain plains has have stop stops below same =
    let texts = quoted_parted t u (35 ∷ (decimal i ++ r)) (35 ∷ (decimal j ++ s))
    (sym (text_is i t kids r) ∙ same ∙ text_is j u others s) in
    let numbers = numbers_told i j r s small little stop stops (ap (λ x. drop 1 x) texts.1) in
    record { number = numbers.0; content_is = ap DocText texts.0; kids_are = has ∙ sym have; rest_is = numbers.1 }
nodes_parted i j DocPlaceholder DocPlaceholder kids others r s small little plain plains has have stop stops below same =
    let numbers = numbers_told i j r s small little stop stops (sym (holes_drop i kids r) ∙ ap (λ x. drop 2 x) same ∙ holes_drop j others s) in
    record { number = numbers.0; content_is = refl; kids_are = has ∙ sym have; rest_is = numbers.1 }
nodes_parted i j c d kids others r s small little plain plains has have stop stops below same =
    let marks : mark_of c ≡ mark_of d = sym (mark_is i c kids r) ∙ ap mark same ∙ mark_is j d others s in
    absurd (omega (arith, marks))

-- it ends, or goes on with a byte that is none of a name and no space
abbrev pub EndsRow : List ℕ → Type 0
EndsRow [] = Unit {0}
EndsRow (c ∷ cs) = (is_name_byte c ≡ false) × (c ≡ 32 → ⊥)

row_stops : (r : List ℕ) → EndsRow r → Ends r
row_stops [] stop = tt
row_stops (c ∷ cs) stop = stop.0

no_space : (r rest : List ℕ) → EndsRow r → r ≡ 32 ∷ rest → ⊥
no_space [] rest stop same = absurd (cc same)
no_space (c ∷ cs) rest stop same =
    let head : c ≡ 32 = cc same in
    absurd (stop.1 head)

none_first : (r : List ℕ) → texts_of Empty ++ r ≡ r
unfolding texts_of
none_first r = refl

-- rows of nodes and what follows them are told apart
pub forests_parted : (f g : Forest) (r s : List ℕ) → IsPlainForest f → IsPlainForest g → EndsRow r → EndsRow s
    → texts_of f ++ r ≡ texts_of g ++ s → (f ≡ g) × (r ≡ s)
forests_parted Empty Empty r s plain plains stop stops same = (refl, sym (none_first r) ∙ same ∙ none_first s)
forests_parted Empty (Node j d others more) r s plain plains stop stops same =
    absurd (no_space r (text_at j d others ++ (texts_of more ++ s)) stop (sym (none_first r) ∙ same ∙ one_first j d others more s))
forests_parted (Node i c kids rest) Empty r s plain plains stop stops same =
    absurd (no_space s (text_at i c kids ++ (texts_of rest ++ r)) stops (sym (none_first s) ∙ sym same ∙ one_first i c kids rest r))
forests_parted (Node i c kids rest) (Node j d others more) r s plain plains stop stops same =
    let inner : text_at i c kids ++ (texts_of rest ++ r) ≡ text_at j d others ++ (texts_of more ++ s) =
    ap (λ x. drop 1 x) (sym (one_first i c kids rest r) ∙ same ∙ one_first j d others more s) in
    let both = nodes_parted i j c d kids others (texts_of rest ++ r) (texts_of more ++ s) plain.0 plains.0 plain.1 plains.1 plain.2
    plains.2 (kids_end rest r (row_stops r stop)) (kids_end more s (row_stops s stops))
    (λ p q e. forests_parted kids others (41 ∷ p) (41 ∷ q) plain.3 plains.3 (refl, λ h. absurd (omega (arith, h))) (
      refl,
      λ h. absurd
          (omega (arith, h)),
    ) e)
    inner in
    let behind = forests_parted rest more r s plain.4 plains.4 stop stops both.rest_is in
    (λ k. Node (both.number k) (both.content_is k) (both.kids_are k) (behind.0 k), behind.1)
