-- The error is read, and its words are shown of the scope.
use Rattle.std.proofs.Common.{rules, List, ℕ, ◌≡◌, ◌∙◌, refl, ap, sym}
use Rattle.std.specs.Prelude.{Option, Some, None, option_map}
use Rattle.rt_author.proofs.Rules.{at_done, at_error, at_scope}
use Rattle.rt_author.specs.CapturedError.{CapturedError}
use Rattle.rt_author.specs.Mirror.{error_of}
use Rattle.rt_author.specs.Program.{Call, error_in, nearest_boundary, noted_error}
use Rattle.rt_author.specs.Tree as model
use Rattle.rt_author.specs.Words.{call_of, came, reached, rendered, tree_of, world_of}
use Rattle.examples_board.specs.Meaning.{BoardTree, BoardTypes, refusal_face, refusal_of, tree, words_in, words_of}
use Rattle.examples_board.proofs.bodies.refusal.Goals as goal

same_words : (e : Option CapturedError) → words_in (option_map error_of e) ≡ words_of e
same_words None = refl
same_words (Some e) = refl

pub returns-clause-came : goal.returns-clause-came
returns-clause-came c = λ had.
    let cx = c.args.cx.now in
    let end = c.error.new.self in
    let w = world_of cx.world in
    let call = call_of cx in
    let cells = c.args.cells in
    let e = c.in_ok-error.error in
    let seen = option_map error_of e in
    let at = nearest_boundary w.given in
    let found : seen ≡ error_in w at = search rules in
    let noted : call_of end ≡ noted_error call at = search rules in
    let stays : end.world ≡ cx.world = search rules in
    at_error w (λ e. refusal_of cells e) call
    ∙ ap (λ (o : Option model.CapturedError). came w (refusal_of cells o) (noted_error call at)) (sym found)
    ∙ ap (λ (d : Call BoardTypes). came w (refusal_of cells seen) d) (sym noted)
    ∙ at_scope w (λ scope. tree (refusal_face scope cells (words_in seen))) (call_of end)
    ∙ at_done w (rendered (tree_of (refusal_face w.given.scope cells (words_in seen)))) (call_of end)
    ∙ ap (λ (t : BoardTree). reached (rendered (tree_of t)) (call_of end))
    (ap (λ (words : Option (List ℕ)). refusal_face w.given.scope cells words) (same_words e)
    ∙ ap (λ v. refusal_face (world_of v).given.scope cells (words_of e)) (sym stays)
    ∙ ap (λ s. refusal_face s.0 cells (words_of e)) (sym c.current_scope_id-scope.ensures)
    ∙ sym c.in_ok-refusal_face.ensures.tree)
