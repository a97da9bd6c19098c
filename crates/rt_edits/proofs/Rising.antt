-- Numbers that rise from above a document's come once, and none is in the document.
use Rattle.std.proofs.Common.{◌≡◌, ℕ, ◌+◌, ◌<◌, ◌≤◌, Bool, true, false, cond, ◌||◌, nat_eq, nat_lt, max, List, [], ◌∷◌, ◌++◌, Option, Some, None, length, drop, slice_index_or, refl, ap, ◌∙◌, arith}
use Rattle.std.specs.List.{list_any}
use Rattle.std.proofs.lemmas.Bool.Decides.{nat_tests}
use Rattle.rt_lemmas.proofs.Numbers.{lt_true as below, eq_below as unlike}
use Rattle.rt_lemmas.proofs.Bools.{not_either as or_none}
use Rattle.rt_edits.specs.Nodes.{numbers, numbers_below, has, times, rising, rising_on, greatest}
use Rattle.rt_edits.specs.Document.{is_barred}
use Rattle.rt_edits.specs.declared.doc_node.DocNode.{DocNode}
use Rattle.rt_edits.proofs.Next.{numbers_next}

rising_step : (rises : Bool) (whole first : Option ℕ) (ys : List ℕ) → whole ≡ rising_on first ys → cond rises whole None ≡ rising_on (cond rises first None) ys
rising_step true whole first ys e = e
rising_step false whole first ys e = refl

rising-append : (last : ℕ) (xs ys : List ℕ) → rising last (xs ++ ys) ≡ rising_on (rising last xs) ys
rising-append last [] ys = refl
rising-append last (x ∷ xs) ys = rising_step (nat_lt last x) (rising x (xs ++ ys)) (rising x xs) ys (rising-append x xs ys)

pub rising_next : (last : ℕ) (nodes : List DocNode) (i : ℕ) (node : DocNode) → i < length nodes → node ≡ slice_index_or nodes i node →
    rising last (numbers (drop i nodes)) ≡ rising_on (rising last (node.id.0 ∷ numbers_below node.kind)) (numbers (drop (i + 1) nodes))
rising_next last nodes i node h e =
    ap (rising last) (numbers_next nodes i node h e) ∙ rising-append last (node.id.0 ∷ numbers_below node.kind) (numbers (drop (i + 1) nodes))

greatest-append : (xs ys : List ℕ) → greatest (xs ++ ys) ≡ max (greatest xs) (greatest ys)
greatest-append [] ys = omega arith
greatest-append (x ∷ xs) ys = omega (arith, greatest-append xs ys)

pub greatest_next : (nodes : List DocNode) (i : ℕ) (node : DocNode) → i < length nodes → node ≡ slice_index_or nodes i node →
    greatest (numbers (drop i nodes)) ≡ max node.id.0 (max (greatest (numbers_below node.kind)) (greatest (numbers (drop (i + 1) nodes))))
greatest_next nodes i node h e =
    ap greatest (numbers_next nodes i node h e) ∙ ap (λ (n : ℕ). max node.id.0 n) (greatest-append (numbers_below node.kind) (numbers (drop (i + 1) nodes)))

-- a number above all others isn't among them
above_all : (number : ℕ) (all : List ℕ) → greatest all < number → has number all ≡ false
above_all number [] h = refl
above_all number (other ∷ all) h = or_none (nat_eq other number) (has number all) (unlike other number (omega arith)) (above_all number all (omega arith))

one_more : (k other rest : ℕ) → rest ≤ 1 → (k ≤ other → rest ≡ 0) → cond (nat_eq other k) 1 0 + rest ≤ 1
one_more k other rest h f = grind (arith, nat_tests)

none_yet : (k other rest last : ℕ) → last < other → (k ≤ other → rest ≡ 0) → k ≤ last → cond (nat_eq other k) 1 0 + rest ≡ 0
none_yet k other rest last h f le = grind (arith, nat_tests)

-- numbers that rise come once, and are above the one from which they rise

rise_at : (last other : ℕ) (all : List ℕ) (end : ℕ) (rises : Bool) → nat_lt last other ≡ rises → cond rises (rising other all) None ≡ Some end →
    (rising other all ≡ Some end → (k : ℕ) → (times k all ≤ 1) × (k ≤ other → times k all ≡ 0)) → (k : ℕ) → (times k (other ∷ all) ≤ 1) × (k ≤ last → times k (other ∷ all) ≡ 0)
rise_at last other all end true e h f k =
    let g = f h k in
    (one_more k other (times k all) g.0 g.1, none_yet k other (times k all) last (below last other e) g.1)
rise_at last other all end false e h f k = cc

rise_once : (last : ℕ) (all : List ℕ) (end : ℕ) → rising last all ≡ Some end → (k : ℕ) → (times k all ≤ 1) × (k ≤ last → times k all ≡ 0)
rise_once last [] end h k = (omega arith, λ _. refl)
rise_once last (other ∷ all) end h k = rise_at last other all end (nat_lt last other) refl h (rise_once other all end) k

all_free : (test : ℕ → Bool) (all : List ℕ) → ((k : ℕ) → 0 < times k all → test k ≡ false) → list_any test all ≡ false
all_free test [] f = refl
all_free test (other ∷ all) f =
    or_none (test other) (list_any test all) (f other (here other (times other all))) (all_free test all (λ (k : ℕ) (h : 0 < times k all). f k (omega arith)))
  where
    here : (a n : ℕ) → 0 < cond (nat_eq a a) 1 0 + n
    here a n = grind (arith, nat_tests)

free : (k : ℕ) (document all : List ℕ) → greatest document < k → times k all ≤ 1 → is_barred document all k ≡ false
free k document all above once =
    or_none (nat_eq k 0) (has k document || nat_lt 1 (times k all)) (positive k (greatest document) above)
    (or_none (has k document) (nat_lt 1 (times k all)) (above_all k document above) (single (times k all) once))
  where
    positive : (a b : ℕ) → b < a → nat_eq a 0 ≡ false
    positive a b h = grind (arith, nat_tests)

    single : (n : ℕ) → n ≤ 1 → nat_lt 1 n ≡ false
    single n h = grind (arith, nat_tests)

must_be_above : (k most n : ℕ) → (k ≤ most → n ≡ 0) → 0 < n → most < k
must_be_above k most n f h = grind arith

-- none of the numbers that rise from above the document's is barred
pub none_barred : (document all : List ℕ) (end : ℕ) → rising (greatest document) all ≡ Some end → list_any (is_barred document all) all ≡ false
none_barred document all end h =
    all_free (is_barred document all) all (λ (k : ℕ) (stands : 0 < times k all).
    (let once = rise_once (greatest document) all end h k in
    free k document all (must_be_above k (greatest document) (times k all) once.1 stands) once.0))
