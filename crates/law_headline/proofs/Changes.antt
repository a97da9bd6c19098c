-- What each kind of change writes makes the new row of the old one, and how such changes come together.
use Rattle.std.proofs.Common.{ℕ, ◌+◌, ◌≤◌, List, [], ◌∷◌, ◌++◌, ◌≡◌, refl, sym, ap, ◌∙◌, nat_eq, arith}
use Rattle.std.specs.Prelude.{Option, Some, Result, Ok}
use Rattle.rt_model.specs.Lists.{Text}
use Rattle.rt_model.specs.Document.{Content, DocText, Forest, Empty, Node, Edit, ReplaceNodeWith, InsertNodesAfter, RemoveNode, SetNodeText, DocFault, join_rows, leaf, changed, content_of, count_of, if_fresh, on_found, on_text, with_content, apply, and_then, document_after}
use Rattle.rt_model.specs.Caused.{removals, replaced_by, last_of}
use Rattle.rt_model.specs.Once.{NumbersOnce}
use Rattle.rt_model.proofs.Maps.{pick_true, eq_same}
use Rattle.rt_model.proofs.ViewCounts.{count_join}
use Rattle.law_moves.specs.Settings.{Setting, After, Ahead, Within, placed, counted, beside, Brings}
use Rattle.law_headline.proofs.InRows.{join_empty, join_thrice, count_placed, own_1, Change, LeavesEnd, changed_there, content_there, comes_in, one_list_on}

-- an edit on a node that is there
pub on_there : (n : ℕ) (o : Option Content) (c : Content) (f : Content → Result Forest DocFault) → o ≡ Some c → on_found n o f ≡ f c
on_there n o c f h = rw h refl

-- the first node of a row, whose number stands nowhere beside it
module _ (n : ℕ) (c : Content) (k r : Forest) (s : Setting) (alone : beside n s ≡ 0) where
  pub first_is : content_of n (placed s (Node n c k r)) ≡ Some c
  first_is = content_there n c s (Node n c k r) (pick_true _ _ (eq_same n)) alone

  pub first_changed : (h : Change) → LeavesEnd h → changed n h (placed s (Node n c k r)) ≡ placed s (h n c k r)
  first_changed h l = changed_there n h l s (Node n c k r) (omega (arith, own_1 n)) alone ∙ ap (placed s) (pick_true _ _ (eq_same n))

removed_first : (n : ℕ) (c : Content) (k r : Forest) (s : Setting) → beside n s ≡ 0 → apply (RemoveNode n) (placed s (Node n c k r)) ≡ Ok (placed s r)
removed_first n c k r s alone =
    let d : Forest = placed s (Node n c k r) in
    on_there n (content_of n d) c (λ x. Ok (changed n (λ i content children rest. rest) d)) (first_is n c k r s alone)
    ∙ ap Ok (first_changed n c k r s alone (λ i content children rest. rest) (λ i x y z end. refl))

text_first : (n : ℕ) (new old : Text) (k r : Forest) (s : Setting) → beside n s ≡ 0
    → apply (SetNodeText n new) (placed s (Node n (DocText old) k r)) ≡ Ok (placed s (Node n (DocText new) k r))
text_first n new old k r s alone =
    let d : Forest = placed s (Node n (DocText old) k r) in
    on_there n (content_of n d) (DocText old) (λ x. on_text x (Ok (changed n (with_content (DocText new)) d))) (first_is n (DocText old) k r s alone)
    ∙ ap Ok (first_changed n (DocText old) k r s alone (with_content (DocText new)) (λ i x y z end. refl))

replaced_first : (n : ℕ) (c : Content) (k r g : Forest) (s : Setting) → beside n s ≡ 0
    → ((i : ℕ) → count_of i (placed s (Node n c k r)) + count_of i g ≤ 1)
    → count_of 0 g ≡ 0
    → apply (ReplaceNodeWith n g) (placed s (Node n c k r)) ≡ Ok (placed s (join_rows g r))
replaced_first n c k r g s alone apart positive =
    let d : Forest = placed s (Node n c k r) in
    let change : Change = λ i content children rest. join_rows g rest in
    on_there n (content_of n d) c (λ x. if_fresh d g (changed n change d)) (first_is n c k r s alone)
    ∙ comes_in d g (changed n change d) apart positive
    ∙ ap Ok (first_changed n c k r s alone change (λ i x y z end. sym (join_thrice g z end)))

-- nodes come in after a node that ends its row
inserted_last : (n : ℕ) (c : Content) (k g : Forest) (s : Setting) → beside n s ≡ 0
    → ((i : ℕ) → count_of i (placed s (Node n c k Empty)) + count_of i g ≤ 1)
    → count_of 0 g ≡ 0
    → apply (InsertNodesAfter n g) (placed s (Node n c k Empty)) ≡ Ok (placed s (Node n c k g))
inserted_last n c k g s alone apart positive =
    let d : Forest = placed s (Node n c k Empty) in
    let change : Change = λ i content children rest. Node i content children (join_rows g rest) in
    on_there n (content_of n d) c (λ x. if_fresh d g (changed n change d)) (first_is n c k Empty s alone)
    ∙ comes_in d g (changed n change d) apart positive
    ∙ ap Ok (first_changed n c k Empty s alone change (λ i x y z end. ap (λ (e : Forest). Node i x y e) (sym (join_thrice g z end))) ∙ ap (λ (e : Forest). placed s (Node n c k e)) (join_empty g))

-- a row is what comes before its last node, and that node
record Ends (m : ℕ) (row : Forest) : Type 0 where
  front : Forest
  content : Content
  children : Forest
  is : row ≡ join_rows front (Node (last_of m row) content children Empty)

ends : (m n : ℕ) (c : Content) (k r : Forest) → Ends m (Node n c k r)
ends m n c k Empty = record { front = Empty; content = c; children = k; is = refl }
ends m n c k (Node id content children rest) =
    let later : Ends n (Node id content children rest) = ends n id content children rest in
    record { front = Node n c k later.front; content = later.content; children = later.children; is = ap (λ (x : Forest). Node n c k x) later.is }

pub nothing_brings : (row : Forest) → Brings [] row row (λ i. count_of i row)
nothing_brings row = record { old = λ i. omega arith; new = λ i. omega arith; brings = λ s once positive. refl }

pub text_brings : (n : ℕ) (new old : Text) → Brings (SetNodeText n new ∷ []) (leaf n (DocText old)) (leaf n (DocText new)) (λ i. counted (nat_eq n i))
text_brings n new old =
    record {
      old = λ i. omega arith;
      new = λ i. omega arith;
      brings = λ s once positive.
          ap (λ (r : Result Forest DocFault). and_then r (λ after. Ok after)) (text_first n new old Empty Empty s (omega (arith, once n, own_1 n)));
    }

all_removed : (row : Forest) (s : Setting) → ((i : ℕ) → beside i s + count_of i row ≤ 1) → document_after (removals row) (placed s row) ≡ Ok (placed s Empty)
all_removed Empty s once = refl
all_removed (Node id content children rest) s once =
    ap (λ (r : Result Forest DocFault). and_then r (λ after. document_after (removals rest) after)) (removed_first id content children rest s (omega (arith, once id, own_1 id)))
    ∙ all_removed rest s (λ i. omega (arith, once i))

pub removed_brings : (row : Forest) → Brings (removals row) row Empty (λ i. count_of i row)
removed_brings row = record { old = λ i. omega arith; new = λ i. omega arith; brings = λ s once positive. all_removed row s once }

pub replaced_brings : (n : ℕ) (c : Content) (k r g : Forest) → Brings (replaced_by (Node n c k r) g) (Node n c k r) g (λ i. count_of i (Node n c k r) + count_of i g)
replaced_brings n c k r g =
    record {
      old = λ i. omega arith;
      new = λ i. omega arith;
      brings = λ s once positive.
          ap (λ (x : Result Forest DocFault). and_then x (λ after. document_after (removals r) after))
          (replaced_first n c k r g s (omega (arith, once n, own_1 n)) (λ i. omega (arith, once i, count_placed i s (Node n c k r))) (omega arith))
          ∙ all_removed r (After g s) (λ i. omega (arith, once i))
          ∙ ap (λ (x : Forest). Ok (placed s x)) (join_empty g);
    }

pub inserted_brings : (m n : ℕ) (c : Content) (k r g : Forest)
    → Brings (InsertNodesAfter (last_of m (Node n c k r)) g ∷ []) (Node n c k r) (join_rows (Node n c k r) g) (λ i. count_of i (Node n c k r) + count_of i g)
inserted_brings m n c k r g =
    record {
      old = λ i. omega arith;
      new = λ i. omega (arith, count_join i (Node n c k r) g);
      brings = λ s once positive. ap (λ (x : Result Forest DocFault). and_then x (λ after. Ok after)) (acts s once positive);
    }
  where
    row : Forest
    row = Node n c k r

    j : ℕ
    j = last_of m row

    end : Ends m row
    end = ends m n c k r

    last : Forest
    last = Node j end.content end.children Empty

    parts : (i : ℕ) → count_of i row ≡ count_of i end.front + count_of i last
    parts i = ap (count_of i) end.is ∙ count_join i end.front last

    acts : (s : Setting) → ((i : ℕ) → beside i s + (count_of i row + count_of i g) ≤ 1) → beside 0 s + (count_of 0 row + count_of 0 g) ≡ 0
        → apply (InsertNodesAfter j g) (placed s row) ≡ Ok (placed s (join_rows row g))
    acts s once positive =
        ap (λ (x : Forest). apply (InsertNodesAfter j g) (placed s x)) end.is
        ∙ inserted_last j end.content end.children g (After end.front s)
        (omega (arith, once j, parts j, own_1 j))
        (λ i. omega (arith, once i, parts i, count_placed i (After end.front s) last))
        (omega arith)
        ∙ ap (λ (x : Forest). Ok (placed s x)) (sym (join_thrice end.front last g) ∙ ap (λ (x : Forest). join_rows x g) (sym end.is))

-- a change and then another one
pub both_bring : {es fs : List Edit} {f g h : Forest} {m : ℕ → ℕ} → Brings es f g m → Brings fs g h m → Brings (es ++ fs) f h m
both_bring {es = es} {fs = fs} {f = f} {g = g} a b =
    record {
      old = a.old;
      new = b.new;
      brings = λ s once positive. one_list_on es fs (placed s f) (placed s g) (a.brings s once positive) ∙ b.brings s once positive;
    }

-- more may be claimed
pub more_claimed : {es : List Edit} {f g : Forest} {m n : ℕ → ℕ} → ((i : ℕ) → m i ≤ n i) → Brings es f g m → Brings es f g n
more_claimed more a =
    record {
      old = λ i. omega (arith, more i, a.old i);
      new = λ i. omega (arith, more i, a.new i);
      brings = λ s once positive. a.brings s (λ i. omega (arith, more i, once i)) (omega (arith, more 0));
    }

-- a row after other nodes
pub after_brings : {es : List Edit} {f g : Forest} {m : ℕ → ℕ} (nodes : Forest) → Brings es f g m → Brings es (join_rows nodes f) (join_rows nodes g) (λ i. count_of i nodes + m i)
after_brings {f = f} {g = g} nodes a =
    record {
      old = λ i. omega (arith, count_join i nodes f, a.old i);
      new = λ i. omega (arith, count_join i nodes g, a.new i);
      brings = λ s once positive. a.brings (After nodes s) (λ i. omega (arith, once i)) (omega arith);
    }

-- a row ahead of other nodes
pub ahead_brings : {es : List Edit} {f g : Forest} {m : ℕ → ℕ} (nodes : Forest) → Brings es f g m → Brings es (join_rows f nodes) (join_rows g nodes) (λ i. m i + count_of i nodes)
ahead_brings {f = f} {g = g} nodes a =
    record {
      old = λ i. omega (arith, count_join i f nodes, a.old i);
      new = λ i. omega (arith, count_join i g nodes, a.new i);
      brings = λ s once positive. a.brings (Ahead nodes s) (λ i. omega (arith, once i)) (omega arith);
    }

-- the children of a node
pub children_bring : {es : List Edit} {f g : Forest} {m : ℕ → ℕ} (n : ℕ) (c : Content) → Brings es f g m → Brings es (Node n c f Empty) (Node n c g Empty) (λ i. counted (nat_eq n i) + m i)
children_bring n c a =
    record {
      old = λ i. omega (arith, a.old i);
      new = λ i. omega (arith, a.new i);
      brings = λ s once positive. a.brings (Within n c s) (λ i. omega (arith, once i)) (omega arith);
    }

-- two rows beside each other
pub joined_bring : {es fs : List Edit} {f g p q : Forest} {m n : ℕ → ℕ} → Brings es f g m → Brings fs p q n → Brings (es ++ fs) (join_rows f p) (join_rows g q) (λ i. m i + n i)
joined_bring {g = g} {p = p} a b =
    both_bring (more_claimed (λ i. omega (arith, b.old i)) (ahead_brings p a)) (more_claimed (λ i. omega (arith, a.new i)) (after_brings g b))

-- an item, and then the others, whose edits may name the item's last new node
pub paired_bring : {es fs : List Edit} {f g : Forest} {m n : ℕ → ℕ} (p q : Forest) → Brings es f g m → ((i : ℕ) → count_of i p ≤ n i)
    → Brings fs (join_rows g p) (join_rows g q) (λ i. count_of i g + n i)
    → Brings (es ++ fs) (join_rows f p) (join_rows g q) (λ i. m i + n i)
paired_bring p q a more b = both_bring (more_claimed (λ i. omega (arith, more i)) (ahead_brings p a)) (more_claimed (λ i. omega (arith, a.new i)) b)

-- what is claimed is old or new, so a whole document without a number twice has it once
pub document_brought : {es : List Edit} {f g : Forest} {m : ℕ → ℕ} (s : Setting) → Brings es f g m
    → ((i : ℕ) → m i ≤ count_of i f + count_of i g)
    → ((i : ℕ) → m i ≤ 1)
    → NumbersOnce (placed s f)
    → NumbersOnce (placed s g)
    → document_after es (placed s f) ≡ Ok (placed s g)
document_brought {f = f} {g = g} s a bound single x y =
    a.brings s
    (λ i. omega (arith, bound i, single i, x.once i, y.once i, count_placed i s f, count_placed i s g))
    (omega (arith, bound 0, x.none_is_0, y.none_is_0, count_placed 0 s f, count_placed 0 s g))
