-- Texts of edits are told apart.
use Rattle.std.proofs.Common.{arith, ◌≡◌, ◌∙◌, ℕ, ◌^◌, ◌*◌, ◌+◌, ◌<◌, List, [], ◌∷◌, ◌++◌, Option, Some, None, drop, refl, ap, sym, append_assoc}
use Rattle.std.specs.Prelude.{decimal, codes}
use Rattle.json.specs.Print.{quoted}
use Rattle.rt_model.specs.Lists.{Text}
use Rattle.rt_model.specs.Document.{Forest, Empty, Node, Edit, AppendChildren, ReplaceNodeWith, InsertNodesAfter, RemoveNode, SetNodeText, SetAttribute, CreateEventListener, RemoveEventListener}
use Rattle.rt_language.specs.Lines.{qualified, value_text, edit_text}
use Rattle.lang_lines.specs.Plain.{IsPlainForest, IsPlainEdit}
use Rattle.lang_lines.proofs.Names.{Ends, EndsWhole, names_parted, numbers_told, qualified_parted, quoted_parted}
use Rattle.lang_lines.proofs.Nodes.{texts_of, forests_parted}

-- a text by its third and fourth byte
unfoldable pub sort_in : List ℕ → ℕ
sort_in [] = 0
sort_in (a ∷ []) = 0
sort_in (a ∷ b ∷ []) = 0
sort_in (a ∷ b ∷ c ∷ []) = 0
sort_in (a ∷ b ∷ c ∷ d ∷ rest) = c * 256 + d

unfoldable pub sort_of_edit : Edit → ℕ
sort_of_edit (AppendChildren id nodes) = 112 * 256 + 101
sort_of_edit (ReplaceNodeWith id nodes) = 112 * 256 + 108
sort_of_edit (InsertNodesAfter id nodes) = 116 * 256 + 101
sort_of_edit (RemoveNode id) = 109 * 256 + 111
sort_of_edit (SetNodeText id text) = 120 * 256 + 116
sort_of_edit (SetAttribute id name namespace value) = 116 * 256 + 114
sort_of_edit (CreateEventListener id name) = 115 * 256 + 116
sort_of_edit (RemoveEventListener id name) = 108 * 256 + 105

pub edit_sort_is : (e : Edit) (r : List ℕ) → sort_in (edit_text e ++ r) ≡ sort_of_edit e
unfolding sort_in sort_of_edit
edit_sort_is (AppendChildren id nodes) r = refl
edit_sort_is (ReplaceNodeWith id nodes) r = refl
edit_sort_is (InsertNodesAfter id nodes) r = refl
edit_sort_is (RemoveNode id) r = refl
edit_sort_is (SetNodeText id text) r = refl
edit_sort_is (SetAttribute id name namespace value) r = refl
edit_sort_is (CreateEventListener id name) r = refl
edit_sort_is (RemoveEventListener id name) r = refl

-- a text, a text between, a text, and what follows
pub between : (t b u r : List ℕ) → ((t ++ b) ++ u) ++ r ≡ t ++ (b ++ (u ++ r))
between t b u r = append_assoc (t ++ b) u r ∙ append_assoc t b (u ++ r)

nodes_end : (f : Forest) (r : List ℕ) → Ends (texts_of f ++ (10 ∷ r))
unfolding texts_of
nodes_end Empty r = refl
nodes_end (Node i c kids rest) r = refl

-- a number and nodes, to the end of a line
rows_told : (i j : ℕ) (f g : Forest) (r s : List ℕ) → i < 2 ^ 64 → j < 2 ^ 64 → IsPlainForest f → IsPlainForest g
    → (decimal i ++ texts_of f) ++ (10 ∷ r) ≡ (decimal j ++ texts_of g) ++ (10 ∷ s)
    → (i ≡ j) × (f ≡ g) × (r ≡ s)
rows_told i j f g r s small little plain plains same =
    let numbers = numbers_told i j (texts_of f ++ (10 ∷ r)) (texts_of g ++ (10 ∷ s)) small little (nodes_end f r) (nodes_end g s)
    (sym (append_assoc (decimal i) (texts_of f) (10 ∷ r)) ∙ same ∙ append_assoc (decimal j) (texts_of g) (10 ∷ s)) in
    let nodes = forests_parted f g (10 ∷ r) (10 ∷ s) plain plains (refl, λ h. absurd (omega (arith, h))) (
      refl,
      λ h. absurd (omega (
        arith,
        h,
      )),
    ) numbers.1 in
    (numbers.0, nodes.0, ap (λ x. drop 1 x) nodes.1)

-- a number, a space, and what follows
spaced_told : (i j : ℕ) (t u r s : List ℕ) → i < 2 ^ 64 → j < 2 ^ 64
    → ((decimal i ++ codes " ") ++ t) ++ r ≡ ((decimal j ++ codes " ") ++ u) ++ s
    → (i ≡ j) × (t ++ r ≡ u ++ s)
spaced_told i j t u r s small little same =
    let numbers = numbers_told i j (codes " " ++ (t ++ r)) (codes " " ++ (u ++ s)) small little refl refl
    (sym (between (decimal i) (codes " ") t r) ∙ same ∙ between (decimal j) (codes " ") u s) in
    (numbers.0, ap (λ x. drop 1 x) numbers.1)

first_byte : List ℕ → ℕ
first_byte [] = 0
first_byte (c ∷ cs) = c

-- what an attribute becomes, to the end of a line
values_told : (v w : Option Text) (r s : List ℕ) → value_text v ++ (10 ∷ r) ≡ value_text w ++ (10 ∷ s) → (v ≡ w) × (r ≡ s)
unfolding first_byte
values_told None None r s same = (refl, ap (λ x. drop 6 x) same)
values_told None (Some w) r s same =
    let first : 32 ≡ 61 = ap first_byte same in
    absurd (omega (arith, first))
values_told (Some v) None r s same =
    let first : 61 ≡ 32 = ap first_byte same in
    absurd (omega (arith, first))
values_told (Some v) (Some w) r s same =
    let both = quoted_parted v w (10 ∷ r) (10 ∷ s) (ap (λ x. drop 1 x) same) in
    (ap Some both.0, ap (λ x. drop 1 x) both.1)

value_ends : (v : Option Text) (r : List ℕ) → EndsWhole (value_text v ++ r)
value_ends None r = (refl, λ e. absurd (omega (arith, e)))
value_ends (Some v) r = (refl, λ e. absurd (omega (arith, e)))

-- edits, to the end of a line, are told apart, and what follows
pub edits_parted : (e f : Edit) (r s : List ℕ) → IsPlainEdit e → IsPlainEdit f → edit_text e ++ (10 ∷ r) ≡ edit_text f ++ (10 ∷ s)
    → (e ≡ f) × (r ≡ s)
unfolding sort_of_edit texts_of
edits_parted (AppendChildren i nodes) (AppendChildren j others) r s plain plains same =
    let both = rows_told i j nodes others r s plain.0 plains.0 plain.1 plains.1 (ap (λ x. drop 8 x) same) in
    (λ k. AppendChildren (both.0 k) (both.1 k), both.2)
edits_parted (ReplaceNodeWith i nodes) (ReplaceNodeWith j others) r s plain plains same =
    let both = rows_told i j nodes others r s plain.0 plains.0 plain.1 plains.1 (ap (λ x. drop 9 x) same) in
    (λ k. ReplaceNodeWith (both.0 k) (both.1 k), both.2)
edits_parted (InsertNodesAfter i nodes) (InsertNodesAfter j others) r s plain plains same =
    let both = rows_told i j nodes others r s plain.0 plains.0 plain.1 plains.1 (ap (λ x. drop 7 x) same) in
    (λ k. InsertNodesAfter (both.0 k) (both.1 k), both.2)
edits_parted (RemoveNode i) (RemoveNode j) r s plain plains same =
    let both = numbers_told i j (10 ∷ r) (10 ∷ s) plain plains refl refl (ap (λ x. drop 8 x) same) in
    (ap RemoveNode both.0, ap (λ x. drop 1 x) both.1)
edits_parted (SetNodeText i t) (SetNodeText j u) r s plain plains same =
    let both = spaced_told i j (quoted t) (quoted u) (10 ∷ r) (10 ∷ s) plain plains (ap (λ x. drop 6 x) same) in
    let texts = quoted_parted t u (10 ∷ r) (10 ∷ s) both.1 in
    (λ k. SetNodeText (both.0 k) (texts.0 k), ap (λ x. drop 1 x) texts.1)
edits_parted (SetAttribute i t n v) (SetAttribute j u m w) r s plain plains same =
    let behind : ((decimal i ++ codes " ") ++ qualified n t) ++ (value_text v ++ (10 ∷ r)) ≡ ((decimal j ++ codes " ") ++ qualified m u) ++
    (value_text w ++ (10 ∷ s)) =
    sym (append_assoc ((decimal i ++ codes " ") ++ qualified n t) (value_text v) (10 ∷ r))
    ∙ ap (λ x. drop 6 x) same
    ∙ append_assoc ((decimal j ++ codes " ") ++ qualified m u) (value_text w) (10 ∷ s) in
    let both = spaced_told i j (qualified n t) (qualified m u) (value_text v ++ (10 ∷ r)) (value_text w ++ (10 ∷ s)) plain.0 plains.0
    behind in
    let names = qualified_parted n m t u (value_text v ++ (10 ∷ r)) (value_text w ++ (10 ∷ s)) plain.1 plains.1 plain.2 plains.2
    (value_ends v (10 ∷ r)) (value_ends w (10 ∷ s)) both.1 in
    let values = values_told v w r s names.2 in
    (λ k. SetAttribute (both.0 k) (names.1 k) (names.0 k) (values.0 k), values.1)
edits_parted (CreateEventListener i t) (CreateEventListener j u) r s plain plains same =
    let both = spaced_told i j t u (10 ∷ r) (10 ∷ s) plain.0 plains.0 (ap (λ x. drop 8 x) same) in
    let names = names_parted t u (10 ∷ r) (10 ∷ s) plain.1 plains.1 refl refl both.1 in
    (λ k. CreateEventListener (both.0 k) (names.0 k), ap (λ x. drop 1 x) names.1)
edits_parted (RemoveEventListener i t) (RemoveEventListener j u) r s plain plains same =
    let both = spaced_told i j t u (10 ∷ r) (10 ∷ s) plain.0 plains.0 (ap (λ x. drop 10 x) same) in
    let names = names_parted t u (10 ∷ r) (10 ∷ s) plain.1 plains.1 refl refl both.1 in
    (λ k. RemoveEventListener (both.0 k) (names.0 k), ap (λ x. drop 1 x) names.1)
edits_parted e f r s plain plains same =
    let sorts : sort_of_edit e ≡ sort_of_edit f = sym (edit_sort_is e (10 ∷ r)) ∙ ap sort_in same ∙ edit_sort_is f (10 ∷ s) in
    absurd (omega (arith, sorts))
