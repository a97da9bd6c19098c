-- A number that stands in a row and not beside it is found there, and what changes its node changes that row alone.
use Rattle.std.proofs.Common.{ℕ, ◌+◌, ◌≤◌, ◌<◌, Bool, true, false, ◌||◌, List, [], ◌∷◌, ◌++◌, ◌≡◌, refl, ap, ◌∙◌, nat_eq, arith}
use Rattle.std.specs.Prelude.{Option, Some, None, Result, Ok, Err, nat_lt}
use Rattle.std.proofs.lemmas.Bool.{eqb-true}
use Rattle.rt_model.specs.Lists.{first_of}
use Rattle.rt_model.specs.Document.{Content, Forest, Empty, Node, Edit, DocFault, join_rows, is_in, changed, content_of, count_of, clashes, if_fresh, apply, and_then, document_after}
use Rattle.rt_model.proofs.Maps.{by_test, eq_same}
use Rattle.rt_model.proofs.ViewCounts.{count_join}
use Rattle.law_moves.specs.Settings.{Setting, Alone, After, Ahead, Within, placed, counted, beside}

pub join_empty : (f : Forest) → join_rows f Empty ≡ f
join_empty Empty = refl
join_empty (Node id content children rest) = ap (λ (x : Forest). Node id content children x) (join_empty rest)

pub join_thrice : (f g h : Forest) → join_rows (join_rows f g) h ≡ join_rows f (join_rows g h)
join_thrice Empty g h = refl
join_thrice (Node id content children rest) g h = ap (λ (x : Forest). Node id content children x) (join_thrice rest g h)

-- a number stands in a placed row as often as in the row and beside it
pub count_placed : (i : ℕ) (s : Setting) (f : Forest) → count_of i (placed s f) ≡ beside i s + count_of i f
count_placed i Alone f = omega arith
count_placed i (After nodes outer) f = omega (arith, count_placed i outer (join_rows nodes f), count_join i nodes f)
count_placed i (Ahead nodes outer) f = omega (arith, count_placed i outer (join_rows f nodes), count_join i f nodes)
count_placed i (Within id content outer) f = omega (arith, count_placed i outer (Node id content f Empty))

pub holds_1 : (b : Bool) → b ≡ true → counted b ≡ 1
holds_1 b h = rw h refl

pub fails_0 : (b : Bool) → b ≡ false → counted b ≡ 0
fails_0 b h = rw h refl

pub uncounted : (b : Bool) → counted b ≡ 0 → b ≡ false
uncounted true h = absurd (omega arith)
uncounted false h = refl

-- a number counts itself
pub own_1 : (n : ℕ) → counted (nat_eq n n) ≡ 1
own_1 n = holds_1 (nat_eq n n) (eq_same n)

-- the three tests of a node are all false
pub record NoneOf (a b c : Bool) : Type 0 where
  pub here : a ≡ false
  pub below : b ≡ false
  pub later : c ≡ false

none_of : (a b c : Bool) → (a || (b || c)) ≡ false → NoneOf a b c
none_of true b c h = cc
none_of false true c h = cc
none_of false false c h = record { here = refl; below = refl; later = h }

-- a number that isn't counted isn't in the forest
pub absent : (i : ℕ) (f : Forest) → count_of i f ≡ 0 → is_in i f ≡ false
absent i Empty h = refl
absent i (Node id content children rest) h =
    rw (uncounted (nat_eq id i) (omega arith), absent i children (omega arith), absent i rest (omega arith)) refl

uncounted_in : (i : ℕ) (f : Forest) → is_in i f ≡ false → count_of i f ≡ 0
uncounted_in i Empty h = refl
uncounted_in i (Node id content children rest) h =
    let parts : NoneOf (nat_eq id i) (is_in i children) (is_in i rest) = none_of (nat_eq id i) (is_in i children) (is_in i rest) h in
    omega (arith, fails_0 (nat_eq id i) parts.here, uncounted_in i children parts.below, uncounted_in i rest parts.later)

-- one that is counted is
pub present : (i : ℕ) (f : Forest) → 0 < count_of i f → is_in i f ≡ true
present i f h = by_test (is_in i f) (λ q. q) (λ q. let none : count_of i f ≡ 0 = uncounted_in i f q in absurd (omega arith))

-- a change of a node, by what it is, its children and the rest of its row
abbrev pub Change : Type 0
Change = ℕ → Content → Forest → Forest → Forest

-- it leaves the end of the row as it is
abbrev pub LeavesEnd : Change → Type 0
LeavesEnd h = (i : ℕ) (c : Content) (k r end : Forest) → h i c k (join_rows r end) ≡ join_rows (h i c k r) end

module _ (i : ℕ) (h : Change) where
  passes_over : (nodes f : Forest) → is_in i nodes ≡ false → changed i h (join_rows nodes f) ≡ join_rows nodes (changed i h f)
  passes_over Empty f q = refl
  passes_over (Node id content children rest) f q =
      let parts : NoneOf (nat_eq id i) (is_in i children) (is_in i rest) = none_of (nat_eq id i) (is_in i children) (is_in i rest) q in
      rw (parts.here, parts.below) (ap (λ (x : Forest). Node id content children x) (passes_over rest f parts.later))

  stops_before : LeavesEnd h → (f nodes : Forest) → is_in i f ≡ true → changed i h (join_rows f nodes) ≡ join_rows (changed i h f) nodes
  stops_before l Empty nodes q = cc
  stops_before l (Node id content children rest) nodes q =
      by_test (nat_eq id i)
      (λ e. rw e (l id content children rest nodes))
      (λ e.
      by_test (is_in i children)
      (λ d. rw (e, d) refl)
      (λ d. rw (e, d) (ap (λ (x : Forest). Node id content children x) (stops_before l rest nodes (rw (e, d) at q)))))

  -- a node of the row is changed in the row
  pub changed_there : LeavesEnd h → (s : Setting) (f : Forest) → 0 < count_of i f → beside i s ≡ 0 → changed i h (placed s f) ≡ placed s (changed i h f)
  changed_there l Alone f more none = refl
  changed_there l (After nodes outer) f more none =
      changed_there l outer (join_rows nodes f) (omega (arith, count_join i nodes f)) (omega arith)
      ∙ ap (placed outer) (passes_over nodes f (absent i nodes (omega arith)))
  changed_there l (Ahead nodes outer) f more none =
      changed_there l outer (join_rows f nodes) (omega (arith, count_join i f nodes)) (omega arith)
      ∙ ap (placed outer) (stops_before l f nodes (present i f more))
  changed_there l (Within id content outer) f more none =
      changed_there l outer (Node id content f Empty) (omega arith) (omega arith)
      ∙ ap (placed outer) (rw (uncounted (nat_eq id i) (omega arith), present i f more) refl)

-- a number with what its node is
abbrev Is : ℕ → Forest → Content → Type 0
Is i f c = content_of i f ≡ Some c

either_first : (o p : Option Content) (c : Content) → o ≡ Some c → first_of o p ≡ Some c
either_first o p c h = rw h refl

either_second : (o p : Option Content) → o ≡ None → first_of o p ≡ p
either_second o p h = rw h refl

either_thrice : (o p q : Option Content) → first_of o (first_of p q) ≡ first_of (first_of o p) q
either_thrice None p q = refl
either_thrice (Some c) p q = refl

content_join : (i : ℕ) (f g : Forest) → content_of i (join_rows f g) ≡ first_of (content_of i f) (content_of i g)
content_join i Empty g = refl
content_join i (Node id content children rest) g =
    by_test (nat_eq id i)
    (λ e. rw e refl)
    (λ e. rw e (ap (first_of (content_of i children)) (content_join i rest g) ∙ either_thrice (content_of i children) (content_of i rest) (content_of i g)))

no_content : (i : ℕ) (f : Forest) → count_of i f ≡ 0 → content_of i f ≡ None
no_content i Empty h = refl
no_content i (Node id content children rest) h =
    rw (uncounted (nat_eq id i) (omega arith)) (either_second (content_of i children) (content_of i rest) (no_content i children (omega arith)) ∙ no_content i rest (omega arith))

-- a node of the row is what it is in the document
pub content_there : (i : ℕ) (c : Content) (s : Setting) (f : Forest) → Is i f c → beside i s ≡ 0 → Is i (placed s f) c
content_there i c Alone f h none = h
content_there i c (After nodes outer) f h none =
    content_there i c outer (join_rows nodes f)
    (content_join i nodes f ∙ either_second (content_of i nodes) (content_of i f) (no_content i nodes (omega arith)) ∙ h)
    (omega arith)
content_there i c (Ahead nodes outer) f h none =
    content_there i c outer (join_rows f nodes) (content_join i f nodes ∙ either_first (content_of i f) (content_of i nodes) c h) (omega arith)
content_there i c (Within id content outer) f h none =
    content_there i c outer (Node id content f Empty) (rw (uncounted (nat_eq id i) (omega arith)) (either_first (content_of i f) None c h)) (omega arith)

-- carried nodes clash with nothing where their numbers and the document's stand once together
pub nothing_clashes : (d all : Forest) → ((i : ℕ) → count_of i d + count_of i all ≤ 1) → count_of 0 all ≡ 0
    → (part : Forest) → ((i : ℕ) → count_of i part ≤ count_of i all) → clashes d all part ≡ false
nothing_clashes d all apart positive Empty among = refl
nothing_clashes d all apart positive (Node id content children rest) among =
    let here : 0 < count_of id all = omega (arith, among id, own_1 id) in
    let more : nat_eq id 0 ≡ false = by_test (nat_eq id 0) (λ e. absurd (omega (arith, ap (λ (n : ℕ). count_of n all) (eqb-true id 0 e)))) (λ e. e) in
    let new : is_in id d ≡ false = absent id d (omega (arith, apart id)) in
    let single : nat_lt 1 (count_of id all) ≡ false = grind (arith, apart id) in
    rw (more, new, single, nothing_clashes d all apart positive children (λ i. omega (arith, among i)))
    (nothing_clashes d all apart positive rest (λ i. omega (arith, among i)))

-- so they come in
pub comes_in : (d g after : Forest) → ((i : ℕ) → count_of i d + count_of i g ≤ 1) → count_of 0 g ≡ 0 → if_fresh d g after ≡ Ok after
comes_in d g after apart positive = rw (nothing_clashes d g apart positive g (λ i. omega arith)) refl

-- the edits of two lists, one list after the other
pub one_list_on : (es fs : List Edit) (d e : Forest) → document_after es d ≡ Ok e → document_after (es ++ fs) d ≡ document_after fs e
one_list_on [] fs d e h = ap (λ (r : Result Forest DocFault). and_then r (document_after fs)) h
one_list_on (x ∷ es) fs d e h = step (apply x d) (λ k q. one_list_on es fs k e q) h
  where
    step : (r : Result Forest DocFault)
        → ((k : Forest) → document_after es k ≡ Ok e → document_after (es ++ fs) k ≡ document_after fs e)
        → and_then r (λ after. document_after es after) ≡ Ok e
        → and_then r (λ after. document_after (es ++ fs) after) ≡ document_after fs e
    step (Ok k) go q = go k q
    step (Err k) go q = cc
