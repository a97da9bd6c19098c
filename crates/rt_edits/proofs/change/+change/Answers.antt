-- Where the node is found in a row, below one of its nodes, or not among those passed.
use Rattle.std.proofs.Common.{◌≡◌, ◌≢◌, ℕ, ◌+◌, ◌<◌, List, get_or, slice_set, length, take, drop, sym, ap, ◌∙◌, arith, rules}
use Rattle.std.proofs.lemmas.List.{take_more_set, get_or_default}
use Rattle.rt_edits.specs.Nodes.{has, numbers, numbers_below}
use Rattle.rt_edits.specs.Document.{instead}
use Rattle.rt_values.specs.declared.element.ElementId.{ElementId}
use Rattle.rt_edits.specs.declared.doc_node.DocKind.{DocKind}
use Rattle.rt_edits.specs.declared.doc_node.DocNode.{DocNode}
use Rattle.rt_edits.proofs.Found.{hit, hit_below, missed, parts_at, set_at, set_same, first_at, fewer_below}
use Rattle.rt_edits.proofs.change.+change.Goals as goal

pub change_row-returns-then-index-number : goal.change_row-returns-then-index-number
change_row-returns-then-index-number t c =
    let xs = c.loop-at.row.items in
    let at = c.loop-at.at in
    let node = c.index.result.now in
    let inside : at < length xs = omega (arith, c.loop-at.row.ok) in
    let parts = parts_at xs at node inside c.index.ensures in
    let found = hit c.args.number (instead c.loop-at.edit) (take at xs) (drop (at + 1) xs) xs node parts c.loop-at.invariant.passed c.if-index-number.true in
    let first = first_at (instead c.loop-at.edit) xs at node inside c.index.ensures in
    let made = c.in_ok-change_at.ensures.ok in
    let same = c.loop-at.invariant.same in
    let edit = c.loop-at.invariant.edit in
    record { changes = (cc, cc) }

-- the two reads of one place are alike
alike : (xs : List DocNode) (i : ℕ) (x y : DocNode) → i < length xs → x ≡ get_or xs i x → y ≡ get_or xs i y → y ≡ x
alike xs i x y h e f = f ∙ get_or_default xs i y x h ∙ sym e

-- a node is its number and its kind
same_node : (x y : DocNode) → y.id ≡ x.id → y.kind ≡ x.kind → y ≡ x
same_node x y id kind =
    ap (λ (i : ElementId). let node : DocNode = record { id = i; kind = y.kind } in node) id
    ∙ ap (λ (k : DocKind). let node : DocNode = record { id = x.id; kind = k } in node) kind

pub change_row-change_below-requires : goal.change_row-change_below-requires
change_row-change_below-requires t c =
    let xs = c.loop-at.row.items in
    let inside : c.loop-at.at < length xs = omega (arith, c.loop-at.row.ok) in
    let fewer = fewer_below xs c.loop-at.at c.index_mut.result.now inside c.index_mut.ensures.value in
    let whole = ap (λ (ys : List DocNode). length (numbers ys)) c.loop-at.invariant.same in
    (omega (arith, fewer, whole), tt)

pub change_row-returns-in-None : goal.change_row-returns-in-None
change_row-returns-in-None t c =
    let xs = c.loop-at.row.items in
    let at = c.loop-at.at in
    let node = c.index_mut.result.now in
    let made = c.change_below.new.node in
    let inside : at < length xs = omega (arith, c.loop-at.row.ok) in
    let other : node.id.0 ≢ c.args.number = λ (e : node.id.0 ≡ c.args.number). c.if-index-number.false (ap (λ (d : DocNode). d.id.0) (sym (alike xs at c.index.result.now node inside c.index.ensures c.index_mut.ensures.value)) ∙ e) in
    let parts = parts_at xs at node inside c.index_mut.ensures.value in
    let done = rw c.in-None.is at c.in_ok-change_below.ensures.changes in
    let found = hit_below c.args.number (instead c.loop-at.edit) (take at xs) (drop (at + 1) xs) xs node made parts c.loop-at.invariant.passed other done.0 c.in_ok-change_below.ensures.id done.1 in
    let written = set_at xs at made inside in
    let same = c.loop-at.invariant.same in
    let edit = c.loop-at.invariant.edit in
    record { changes = (cc, cc) }

pub change_row-loop-at-preserved : goal.change_row-loop-at-preserved
change_row-loop-at-preserved t c =
    let xs = c.loop-at.row.items in
    let at = c.loop-at.at in
    let node = c.index_mut.result.now in
    let made = c.change_below.new.node in
    let inside : at < length xs = omega (arith, c.loop-at.row.ok) in
    let other : node.id.0 ≢ c.args.number = λ (e : node.id.0 ≡ c.args.number). c.if-index-number.false (ap (λ (d : DocNode). d.id.0) (sym (alike xs at c.index.result.now node inside c.index.ensures c.index_mut.ensures.value)) ∙ e) in
    let done = rw c.in-Some.is at c.in_ok-change_below.ensures.changes in
    let id = c.in_ok-change_below.ensures.id in
    let kept = same_node node made id done.1 in
    let unlike : made.id.0 ≢ c.args.number = λ (e : made.id.0 ≡ c.args.number). other (ap (λ (i : ElementId). i.0) (sym id) ∙ e) in
    let none = ap (λ (kind : DocKind). has c.args.number (numbers_below kind)) done.1 ∙ done.0 in
    record {
      passed = ap (λ (ys : List DocNode). has c.args.number (numbers ys)) (take_more_set xs at made inside) ∙ missed c.args.number (take at xs) made c.loop-at.invariant.passed unlike none;
      same = ap (λ (n : DocNode). slice_set xs at n) kept ∙ set_same xs at node inside c.index_mut.ensures.value ∙ c.loop-at.invariant.same;
      edit = done.2 ∙ c.loop-at.invariant.edit;
      end = search rules;
    }
