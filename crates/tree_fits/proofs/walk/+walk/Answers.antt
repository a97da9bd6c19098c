-- One node more, or one that does not fit.
use Rattle.std.proofs.Common.{arith, ◌≡◌, ◌∙◌, ◌≤◌, sym, ap, length, map, true}
use Rattle.std.specs.Prelude.{Some, None, option_and_then}
use Rattle.tree_nodes.specs.Met.{met, met_among, met_attrs}
use Rattle.tree_nodes.specs.Names.{distinct, names_in, slot_names}
use Rattle.tree_fits.specs.Place.{path_of}
use Rattle.tree_fits.specs.Walk.{sought_by, walked}
use Rattle.tree_fits.proofs.WalkLemmas.{among-next, among-stop, walked-element}
use Rattle.tree_fits.proofs.walk.+walk.Goals as goal

pub walk_among-returns-in_err-seen : goal.walk_among-returns-in_err-seen
walk_among-returns-in_err-seen g t c =
    c.from_residual.ensures ∙
    sym (among-stop (sought_by c.args.block.now) c.args.nodes.now c.args.parent c.loop-index.index _ c.loop-index.seen c.loop-index-test.true c.index-nodes-index.is
    (sym c.walk.ensures ∙ c.in_err-seen.was)) ∙
    c.loop-index.invariant

pub walk_among-loop-index-preserved : goal.walk_among-loop-index-preserved
walk_among-loop-index-preserved g t c =
    sym (among-next (sought_by c.args.block.now) c.args.nodes.now c.args.parent c.loop-index.index _ c.loop-index.seen c.in_ok-seen.seen c.loop-index-test.true c.index-nodes-index.is
    (sym c.walk.ensures ∙ c.in_ok-seen.was)) ∙
    c.loop-index.invariant

pub walk-returns-in_err-seen-in-Element : goal.walk-returns-in_err-seen-in-Element
walk-returns-in_err-seen-in-Element g t c =
    let level : length (path_of c.args.place.now) ≤ c.args.block.now.levels = omega arith in
    let few : length c.in-Element.children ≤ 256 = omega (arith, c.len.ensures.items) in
    let apart : distinct (names_in (slot_names c.args.block.now.attrs.now) c.in-Element.attrs) ≡ true = cc in
    let counted : walked (sought_by c.args.block.now) (met_attrs (path_of c.args.place.now) c.in-Element.attrs) c.args.seen ≡ None =
    cc (c.walk_attrs.ensures, c.in_err-seen-in-Element.was, c.as_slice-in-Element.ensures.items) in
    c.from_residual.ensures ∙
    sym (ap (λ n. walked (sought_by c.args.block.now) (met n (path_of c.args.place.now)) c.args.seen) c.in-Element.is ∙
    walked-element (sought_by c.args.block.now) c.in-Element.tag c.in-Element.namespace c.in-Element.attrs c.in-Element.children (path_of c.args.place.now) c.args.seen level few apart ∙
    ap (option_and_then (walked (sought_by c.args.block.now) (met_among (map met c.in-Element.children) (path_of c.args.place.now) 0))) counted)

pub walk-returns-in_ok-seen-in-Element : goal.walk-returns-in_ok-seen-in-Element
walk-returns-in_ok-seen-in-Element g t c =
    let level : length (path_of c.args.place.now) ≤ c.args.block.now.levels = omega arith in
    let few : length c.in-Element.children ≤ 256 = omega (arith, c.len.ensures.items) in
    let apart : distinct (names_in (slot_names c.args.block.now.attrs.now) c.in-Element.attrs) ≡ true = cc in
    let counted : walked (sought_by c.args.block.now) (met_attrs (path_of c.args.place.now) c.in-Element.attrs) c.args.seen ≡ Some c.in_ok-seen-in-Element.seen =
    cc (c.walk_attrs.ensures, c.in_ok-seen-in-Element.was, c.as_slice-in-Element.ensures.items) in
    c.walk_among.ensures ∙
    ap (λ ns. walked (sought_by c.args.block.now) (met_among (map met ns) (path_of c.args.place.now) 0) c.in_ok-seen-in-Element.seen) c.as_slice-in-Element-2.ensures.items ∙
    sym (ap (λ n. walked (sought_by c.args.block.now) (met n (path_of c.args.place.now)) c.args.seen) c.in-Element.is ∙
    walked-element (sought_by c.args.block.now) c.in-Element.tag c.in-Element.namespace c.in-Element.attrs c.in-Element.children (path_of c.args.place.now) c.args.seen level few apart ∙
    ap (option_and_then (walked (sought_by c.args.block.now) (met_among (map met c.in-Element.children) (path_of c.args.place.now) 0))) counted)
