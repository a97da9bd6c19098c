-- What each kind of change writes makes the new row of the old one; and how such changes come together.
use Rattle.std.specs.Prelude.{ℕ, ◌+◌, ◌≤◌, nat_eq, List, [], ◌∷◌, ◌++◌, Some, Ok, ◌≡◌}
use Rattle.rt_model.specs.Lists.{Text}
use Rattle.rt_model.specs.Document.{Content, DocText, Forest, Empty, Node, Edit, InsertNodesAfter, SetNodeText, join_rows, leaf, count_of, document_after}
use Rattle.rt_model.specs.Caused.{removals, replaced_by, last_of}
use Rattle.rt_model.specs.Once.{NumbersOnce}
use Rattle.law_moves.specs.Settings.{Setting, placed, counted, Brings, altered}

-- no edit leaves a row as it is
abbrev pub NothingBrings : Type 0
NothingBrings = (row : Forest) → Brings [] row row (λ i. count_of i row)

-- a text that is set
abbrev pub TextBrings : Type 0
TextBrings = (n : ℕ) (new old : Text)
    → Brings (SetNodeText n new ∷ []) (leaf n (DocText old)) (leaf n (DocText new)) (λ i. counted (nat_eq n i))

-- edits of one element's attributes and listeners, whatever its children are
abbrev pub ElementBrings : Type 0
ElementBrings =
    (n : ℕ) (edits : List Edit) (old new : Content) (children : Forest)
    → altered n edits old ≡ Some new
    → Brings edits (Node n old children Empty) (Node n new children Empty) (λ i. counted (nat_eq n i) + count_of i children)

-- the nodes of a row that go
abbrev pub RemovedBrings : Type 0
RemovedBrings = (row : Forest) → Brings (removals row) row Empty (λ i. count_of i row)

-- a row that isn't empty gives way to another one
abbrev pub ReplacedBrings : Type 0
ReplacedBrings =
    (n : ℕ) (content : Content) (children rest new : Forest)
    → Brings
    (replaced_by (Node n content children rest) new)
    (Node n content children rest)
    new
    (λ i. count_of i (Node n content children rest) + count_of i new)

-- nodes come in after the last one of a row that isn't empty
abbrev pub InsertedBrings : Type 0
InsertedBrings =
    (m n : ℕ) (content : Content) (children rest new : Forest)
    → Brings
    (InsertNodesAfter (last_of m (Node n content children rest)) new ∷ [])
    (Node n content children rest)
    (join_rows (Node n content children rest) new)
    (λ i. count_of i (Node n content children rest) + count_of i new)

-- one change and then another one of the row that it made
abbrev pub BothBring : Type 0
BothBring =
    (es fs : List Edit) (f g h : Forest) (claims : ℕ → ℕ)
    → Brings es f g claims
    → Brings fs g h claims
    → Brings (es ++ fs) f h claims

-- a row beside another one, the left one first; they claim no number twice, since both claims add up
abbrev pub JoinedBring : Type 0
JoinedBring =
    (es fs : List Edit) (f g p q : Forest) (m n : ℕ → ℕ)
    → Brings es f g m
    → Brings fs p q n
    → Brings (es ++ fs) (join_rows f p) (join_rows g q) (λ i. m i + n i)

-- the children of a node
abbrev pub ChildrenBring : Type 0
ChildrenBring =
    (edits : List Edit) (f g : Forest) (claims : ℕ → ℕ) (n : ℕ) (content : Content)
    → Brings edits f g claims
    → Brings edits (Node n content f Empty) (Node n content g Empty) (λ i. counted (nat_eq n i) + claims i)

-- where a row stands in a document, and in another one in the same setting, its edits make the second document of the first
abbrev pub DocumentBrought : Type 0
DocumentBrought =
    (edits : List Edit) (f g : Forest) (claims : ℕ → ℕ) (s : Setting)
    → Brings edits f g claims
    → ((i : ℕ) → claims i ≤ count_of i f + count_of i g)
    → ((i : ℕ) → claims i ≤ 1)
    → NumbersOnce (placed s f)
    → NumbersOnce (placed s g)
    → document_after edits (placed s f) ≡ Ok (placed s g)
