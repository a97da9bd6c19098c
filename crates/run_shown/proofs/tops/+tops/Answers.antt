-- One thing more at the top, and at the end all.
use Rattle.std.proofs.Common.{ℕ, ◌∙◌, ◌++◌, ◌∷◌, ◌-◌, [], ap, sym}
use Rattle.std.proofs.lemmas.Result.{on_ok_weaker}
use Rattle.run_shown.specs.declared.pieces.Top.TheVariants as top
use Rattle.run_shown.specs.Pieces.{tops_by}
use Rattle.run_shown.specs.Seen.{scope_seen}
use Rattle.run_shown.proofs.OneByOne.{nil-right}
use Rattle.run_shown.proofs.TopsSeen.{scope_numbers, tops_done, tops_more}
use Rattle.run_shown.proofs.tops.+tops.Goals as goal

pub add_scope-returns-in_ok-pieces-in-Some : goal.add_scope-returns-in_ok-pieces-in-Some
add_scope-returns-in_ok-pieces-in-Some g t c =
    let look = c.args.look in
    let depth = c.args.depth in
    on_ok_weaker c.add_all.result
    (
    λ h.
    h
    ∙ ap (λ ts. c.args.tops.now ++ tops_by (λ t. scope_seen look.now (depth - 1) t) ts) (c.as_slice.ensures.items ∙ c.in_ok-pieces-in-Some.ensures)
    ∙ ap (λ ns. c.args.tops.now ++ ns) (sym (scope_numbers look depth c.args.scope c.in-Some.side.now c.if-depth-eq0.false (sym c.in-Some.ensures)))
    )
    c.add_all.ensures

pub add_all-loop-piece-preserved : goal.add_all-loop-piece-preserved
add_all-loop-piece-preserved g t c =
    let inner = λ (t : ℕ). scope_seen c.args.look.now c.args.depth t in
    tops_more inner c.args.pieces.now c.loop-piece.piece-index (top.Own 0) c.loop-piece.tops (c.args.tops.now ++ tops_by inner c.args.pieces.now) c.add_one.new.tops
    c.loop-piece-test.true c.loop-piece.invariant c.in_ok-add_one.ensures

pub add_all-returns : goal.add_all-returns
add_all-returns g t c =
    let inner = λ (t : ℕ). scope_seen c.args.look.now c.args.depth t in
    tops_done inner c.args.pieces.now c.loop-piece.piece-index (top.Own 0) c.loop-piece.tops (c.args.tops.now ++ tops_by inner c.args.pieces.now)
    c.loop-piece-test.false c.loop-piece.invariant

pub add_one-returns-in-Child : goal.add_one-returns-in-Child
add_one-returns-in-Child g t c =
    let inner = λ (t : ℕ). scope_seen c.args.look.now c.args.depth t in
    on_ok_weaker c.add_scope.result
    (λ h. h ∙ ap (λ ns. c.args.tops.now ++ ns) (sym (ap (λ p. tops_by inner (p ∷ [])) c.in-Child.is ∙ nil-right _)))
    c.add_scope.ensures
