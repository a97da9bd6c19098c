-- The child keeps its clean-up, spawns its task and queues its effect.
use Rattle.std.proofs.Common.{◌≡◌, ◌∙◌, ap, sym}
use Rattle.run_records.specs.Records.{world_of}
use Rattle.author_calls.specs.Calls.{call_of}
use Rattle.tree_mirror.specs.Mirror.{element_of}
use Rattle.rt_model.specs.Program.{Program, done}
use Rattle.rt_model.specs.Tree.{Element, placeholder_tree, rendered}
use Rattle.rt_model.specs.World.{Nothing, nothing}
use Rattle.author_programs.specs.Came.{Came, came, reached}
use Rattle.author_programs.specs.Sequence.{go_on}
use Rattle.author_programs.proofs.Steps.{on, at_done}
use Rattle.test_waiting.specs.Meaning.{WaitingTypes, keeps, spawns, queues}
use Rattle.test_waiting.proofs.Placeholders.{shows_nothing}
use Rattle.test_waiting.proofs.waiting.begun_child.Goals as goal

pub returns-clause-came : goal.returns-clause-came
returns-clause-came c = λ had.
    let w = world_of c.args.cx.now.world in
    let before = call_of c.args.cx.now in
    let one = call_of c.keep.new.cx in
    let two = call_of c.spawn.new.cx in
    let after = call_of c.queue.new.cx in
    let shown : Program WaitingTypes (Element WaitingTypes) = done (rendered placeholder_tree) in
    let kept : came w keeps before ≡ reached nothing one = c.in_ok-keep.ensures.came in
    let spawned : came w spawns one ≡ reached nothing two =
    ap (λ x. came (world_of x) spawns one) (sym c.keep.ensures.world) ∙ c.in_ok-spawn.ensures.came in
    let queued : came w (queues c.args.cell) two ≡ reached nothing after =
    ap (λ x. came (world_of x) (queues c.args.cell) two) (sym (c.spawn.ensures.world ∙ c.keep.ensures.world)) ∙ c.in_ok-queue.ensures.came in
    let empty : rendered placeholder_tree ≡ element_of c.in_ok-empty.field-0 =
    shows_nothing c.in_ok-empty.field-0 c.in_ok-empty.ensures in
    on w keeps (λ _. go_on spawns (λ _. go_on (queues c.args.cell) (λ _. shown))) before
    ∙ ap (λ (x : Came WaitingTypes Nothing). came w (go_on spawns (λ _. go_on (queues c.args.cell) (λ _. shown))) x.call) kept
    ∙ on w spawns (λ _. go_on (queues c.args.cell) (λ _. shown)) one
    ∙ ap (λ (x : Came WaitingTypes Nothing). came w (go_on (queues c.args.cell) (λ _. shown)) x.call) spawned
    ∙ on w (queues c.args.cell) (λ _. shown) two
    ∙ ap (λ (x : Came WaitingTypes Nothing). came w shown x.call) queued
    ∙ at_done w (rendered placeholder_tree) after
    ∙ ap (λ (e : Element WaitingTypes). reached e after) empty
