use Rattle.std.proofs.Common.{◌≡◌, ◌++◌, ◌∷◌, [], ap, ◌∙◌, length-append, arith}
use Rattle.rt_inbox.specs.declared.view.View.TheVariants.{Owning}
use Rattle.rt_inbox.specs.Rule.{entries, made_in, taken_in, with_taken}
use Rattle.rt_inbox.proofs.Gathered.{bounded}
use Rattle.rt_inbox.proofs.taken.take_left.Goals as goal

-- What was taken before and what is left are no more than what was accepted, so the room is enough.
pub push_reserved-requires : goal.push_reserved-requires
push_reserved-requires g c =
    let first = c.args.owner.now.me.view.client in
    let m = c.in-Some-pop.message in
    let before = taken_in first ++ c.loop.left.items in
    let some = c.in-Some-pop.ensures.some in
    let is : c.pop.new.owner.me.view.client ≡ Owning (before ++ m ∷ []) (made_in first) (entries first) =
    some.0 ∙ ap (with_taken m) c.loop.invariant.owner in
    let most = bounded some.1.0 c.pop.new.owner.me.view.client (before ++ m ∷ []) (made_in first) (entries first) is some.1.1 c.requires.all in
    let one = length-append before (m ∷ []) in
    let all = length-append (taken_in first) c.loop.left.items in
    omega (arith, c.requires.room, c.loop.invariant.room)
