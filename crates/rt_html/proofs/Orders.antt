-- How the order of bytes in code and that of the definitions go together.
use Rattle.std.proofs.Common.{◌≡◌, Bool, ◌&&◌, ℕ, ◌+◌, ◌<◌, List, ◌∷◌, length, get_or, drop, map, refl, sym, ap, ◌∙◌, arith}
use Rattle.std.specs.Ordering.{nat_cmp, is_eq, is_lt}
use Rattle.std.specs.Cmp.Lexicographic.{slice_cmp}
use Rattle.std.proofs.lemmas.Cmp.{same_from_slice_cmp}
use Rattle.std.proofs.lemmas.Bool.Decides.{nat_tests}
use Rattle.std.proofs.lemmas.List.{drop_more}
use Rattle.rt_edits.specs.declared.doc_node.DocAttr.{DocAttr}
use Rattle.rt_model.specs.Lists.{same_numbers, earlier_text}
use Rattle.tree_edits.specs.Documents.{doc_attribute_of}
use Rattle.rt_html.specs.Reading.{ascend, before_first}

pub earlier : (a b : List ℕ) → is_lt (slice_cmp nat_cmp a b) ≡ earlier_text a b
earlier a b =
    same_from_slice_cmp nat_cmp is_lt earlier_text refl (λ _ _. refl) (λ _ _. refl) (λ x y xs ys o h. grind (arith, nat_tests)) a b
    (slice_cmp nat_cmp a b) refl

pub same : (a b : List ℕ) → is_eq (slice_cmp nat_cmp a b) ≡ same_numbers a b
same a b =
    same_from_slice_cmp nat_cmp is_eq same_numbers refl (λ _ _. refl) (λ _ _. refl) (λ x y xs ys o h. grind (arith, nat_tests)) a b
    (slice_cmp nat_cmp a b) refl

pub ruleset orders = (earlier, same)

-- the attributes from one on ascend where it comes before the next one, and those from the next one on ascend
pub ascend_step : (attrs : List DocAttr) (i : ℕ) (attr : DocAttr) (later : List DocAttr) (r : Bool) → i < length attrs → attr ≡ get_or attrs i attr
    → r ≡ before_first (doc_attribute_of attr) (map doc_attribute_of later) → later ≡ drop (i + 1) attrs
    → ascend (map doc_attribute_of (drop i attrs)) ≡ (r && ascend (map doc_attribute_of (drop (i + 1) attrs)))
ascend_step attrs i attr later r low is tells same =
    let here : drop i attrs ≡ attr ∷ drop (i + 1) attrs =
    drop_more attrs i attr low ∙ ap (λ (first : DocAttr). first ∷ drop (i + 1) attrs) (sym is) in
    ap (λ (all : List DocAttr). ascend (map doc_attribute_of all)) here
    ∙ ap (λ (all : List DocAttr). before_first (doc_attribute_of attr) (map doc_attribute_of all) && ascend (map doc_attribute_of (drop (i + 1) attrs)))
    (sym same)
    ∙ ap (λ (b : Bool). b && ascend (map doc_attribute_of (drop (i + 1) attrs))) (sym tells)
