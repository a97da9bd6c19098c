-- One more went from behind, and at the end all did.
use Rattle.std.proofs.Common.{ℕ, ◌≡◌, ◌+◌, ◌-◌, ◌<◌, ◌≤◌, List, ap, sym, drop, length, ◌∙◌, arith}
use Rattle.run_named.specs.Standings.{without_all}
use Rattle.run_state.specs.Drawn.{numbers_at}
use Rattle.run_state.proofs.Each.{drop-all}
use Rattle.run_state.proofs.Behind.{back_more}
use Rattle.run_state.proofs.places.forget_all.Goals as goal

pub loop-back-init : goal.loop-back-init
loop-back-init c =
    let end : length c.args.drawn.now ≤ length c.args.drawn.now - 0 = omega arith in
    sym (ap (λ (es : List (ℕ × ℕ)). without_all c.args.places.now (numbers_at c.args.nodes.now es)) (drop-all c.args.drawn.now (length c.args.drawn.now - 0) end))

pub loop-back-preserved : goal.loop-back-preserved
loop-back-preserved c =
    let drawn : List (ℕ × ℕ) = c.args.drawn.now in
    let i : ℕ = length drawn - 1 - c.loop-back.back in
    let low : i < length drawn = omega (arith, c.loop-back-test.true) in
    let here : length drawn - c.loop-back.back ≡ i + 1 = omega (arith, c.loop-back-test.true) in
    let next : i ≡ length drawn - (c.loop-back.back + 1) = omega (arith, c.loop-back-test.true) in
    back_more c.args.nodes.now c.args.places.now c.loop-back.places c.forget_one.new.places drawn i (length drawn - c.loop-back.back) low here c.loop-back.invariant c.forget_one.ensures
    ∙ ap (λ n. without_all c.args.places.now (numbers_at c.args.nodes.now (drop n drawn))) next

pub returns : goal.returns
returns c =
    let drawn : List (ℕ × ℕ) = c.args.drawn.now in
    let none : length drawn - c.loop-back.back ≡ 0 = omega (arith, c.loop-back.auto.back-end, c.loop-back-test.false) in
    c.loop-back.invariant ∙ ap (λ n. without_all c.args.places.now (numbers_at c.args.nodes.now (drop n drawn))) none
