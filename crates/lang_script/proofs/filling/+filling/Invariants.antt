-- The whole comes to what the slots, or the items, that are left come to after those so far.
use Rattle.std.proofs.Common.{◌≡◌, ◌++◌, ◌∷◌, [], ◌-◌, drop, map}
use Rattle.std.specs.Prelude.{pos}
use Rattle.run_records.specs.Records.{world_of}
use Rattle.author_calls.specs.Calls.{call_of}
use Rattle.tree_mirror.specs.Sealed as mirror
use Rattle.rt_language.specs.Sequence.{go_on}
use Rattle.rt_language.specs.Values.{NumberValue}
use Rattle.rt_language.specs.Views.{items_from}
use Rattle.author_programs.specs.Came.{came}
use Rattle.lang_script.specs.Fills.{filling_of}
use Rattle.lang_views.specs.Plans.{planned, fill_of, filled}
use Rattle.lang_script.specs.Seen.{caller_of}
use Rattle.lang_script.proofs.Fills.{then_tree, then_trees}
use Rattle.lang_script.proofs.filling.+filling.Given as goal

abbrev pub invariant-tree_of-loop-fill : goal.invariant-tree_of-loop-fill
invariant-tree_of-loop-fill l =
    (came (world_of l.fn.cx.world) ((planned l.plan).tree (caller_of l.fn.frame.by) l.fn.frame.held) (call_of l.fn.cx)
    ≡ came (world_of l.fn.cx.world) (go_on (filled (map fill_of (drop l.fill-index (l.plan).fills)) (caller_of l.fn.frame.by) l.fn.frame.held) (then_tree (l.plan).template (filling_of l.filling))) (call_of l.cx))
    × (l.cx.world ≡ l.fn.cx.world)
    × (l.frame ≡ l.fn.frame)

abbrev pub invariant-items-loop-number : goal.invariant-items-loop-number
invariant-items-loop-number l =
    (came (world_of l.fn.cx.world) (items_from (λ i. (planned l.item).tree (caller_of l.fn.frame.by) (l.fn.frame.held ++ NumberValue (pos i) ∷ [])) 0 l.count) (call_of l.fn.cx)
    ≡ came (world_of l.fn.cx.world) (go_on (items_from (λ i. (planned l.item).tree (caller_of l.fn.frame.by) (l.fn.frame.held ++ NumberValue (pos i) ∷ [])) l.number (l.count - l.number)) (then_trees (map mirror.tree_of l.trees))) (call_of l.cx))
    × (l.cx.world ≡ l.fn.cx.world)
    × (l.frame ≡ l.fn.frame)
