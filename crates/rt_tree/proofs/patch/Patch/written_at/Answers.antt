-- Each mark by what is written at it.
use Rattle.std.proofs.Common.{◌∙◌, ap, map}
use Rattle.std.proofs.lemmas.Result.{IfOk-weaker}
use Rattle.tree_edits.specs.Documents.{edit_of}
use Rattle.run_places.specs.Places.{place_of}
use Rattle.run_places.proofs.Trails.{on_At}
use Rattle.rt_tree.proofs.MarkWrites.{given_writes, matched}
use Rattle.rt_tree.proofs.patch.Patch.written_at.Goals as goal

pub returns-in_ok-steps-in-Given : goal.returns-in_ok-steps-in-Given
returns-in_ok-steps-in-Given g c =
    let n = c.in-Given in
    IfOk-weaker c.attributes_written.result _ _
    (λ edits h app. given_writes app c.args.self.now c.args.met.now n.above n.next n.was _ edits n.is (on_At _ ∙ ap place_of c.in_ok-steps-in-Given.ensures.steps) h)
    c.attributes_written.ensures

pub returns-in-Worded : goal.returns-in-Worded
returns-in-Worded g c = IfOk-weaker c.text_changes.result _ _ (λ edits h app. h app ∙ matched app c.args.self.now c.args.met.now _ c.in-Worded.is) c.text_changes.ensures

pub returns-in-SlotWay : goal.returns-in-SlotWay
returns-in-SlotWay g c = IfOk-weaker c.slot_gives.result _ _ (λ edits h app. h app ∙ matched app c.args.self.now c.args.met.now _ c.in-SlotWay.is) c.slot_gives.ensures

pub returns-in-TreeWay : goal.returns-in-TreeWay
returns-in-TreeWay g c = IfOk-weaker c.tree_gives.result _ _ (λ edits h app. h app ∙ matched app c.args.self.now c.args.met.now _ c.in-TreeWay.is) c.tree_gives.ensures

pub returns-in-ComeIn : goal.returns-in-ComeIn
returns-in-ComeIn g c = IfOk-weaker c.items_come.result _ _ (λ edits h app. h app ∙ matched app c.args.self.now c.args.met.now _ c.in-ComeIn.is) c.items_come.ensures

pub returns-in-GoOut : goal.returns-in-GoOut
returns-in-GoOut g c = IfOk-weaker c.items_go.result _ _ (λ edits h app. h app ∙ matched app c.args.self.now c.args.met.now _ c.in-GoOut.is) c.items_go.ensures

pub returns-in-Lone : goal.returns-in-Lone
returns-in-Lone g c = IfOk-weaker c.comes_alone.result _ _ (λ edits h app. h app ∙ matched app c.args.self.now c.args.met.now _ c.in-Lone.is) c.comes_alone.ensures

pub returns-in-Stays : goal.returns-in-Stays
returns-in-Stays g c = λ app. ap (λ es. map edit_of es) c.new.ensures.empty ∙ matched app c.args.self.now c.args.met.now _ c.in-Stays.is

pub returns-in-Goes : goal.returns-in-Goes
returns-in-Goes g c = λ app. ap (λ es. map edit_of es) c.new-in-Goes.ensures.empty ∙ matched app c.args.self.now c.args.met.now _ c.in-Goes.is

pub returns-in-Comes : goal.returns-in-Comes
returns-in-Comes g c = λ app. ap (λ es. map edit_of es) c.new-in-Comes.ensures.empty ∙ matched app c.args.self.now c.args.met.now _ c.in-Comes.is

pub returns-in-Fed : goal.returns-in-Fed
returns-in-Fed g c = λ app. ap (λ es. map edit_of es) c.new-in-Fed.ensures.empty ∙ matched app c.args.self.now c.args.met.now _ c.in-Fed.is

pub returns-in-Left : goal.returns-in-Left
returns-in-Left g c = λ app. ap (λ es. map edit_of es) c.new-in-Left.ensures.empty ∙ matched app c.args.self.now c.args.met.now _ c.in-Left.is

pub returns-in-Made : goal.returns-in-Made
returns-in-Made g c = λ app. ap (λ es. map edit_of es) c.new-in-Made.ensures.empty ∙ matched app c.args.self.now c.args.met.now _ c.in-Made.is

pub returns-in-SlotGoes : goal.returns-in-SlotGoes
returns-in-SlotGoes g c = λ app. ap (λ es. map edit_of es) c.new-in-SlotGoes.ensures.empty ∙ matched app c.args.self.now c.args.met.now _ c.in-SlotGoes.is

pub returns-in-TreeGoes : goal.returns-in-TreeGoes
returns-in-TreeGoes g c = λ app. ap (λ es. map edit_of es) c.new-in-TreeGoes.ensures.empty ∙ matched app c.args.self.now c.args.met.now _ c.in-TreeGoes.is
