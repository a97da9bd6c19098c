-- Beside no slot of the old tree what comes is written as beside a placeholder.
use Rattle.std.proofs.Common.{◌∙◌, ap, map, sym}
use Rattle.std.proofs.lemmas.Result.{IfOk-weaker}
use Rattle.tree_edits.specs.Documents.{edit_of}
use Rattle.run_places.specs.Places.{place_of}
use Rattle.rt_tree.proofs.Alone.{alone_writes, placeholder_alone}
use Rattle.rt_tree.proofs.patch.Patch.comes_alone.Goals as goal

pub returns-in-Placeholder : goal.returns-in-Placeholder
returns-in-Placeholder g c = λ app. ap (λ es. map edit_of es) c.new.ensures.empty ∙ sym (placeholder_alone app c.args.self.now (place_of c.args.place.now) c.args.next.now c.in-Placeholder.is)

pub returns : goal.returns
returns g c =
    IfOk-weaker c.slot_gives.result _ _ (λ edits h app. h app ∙ sym (alone_writes app c.args.self.now (place_of c.args.place.now) c.args.next.now c.in_default.not-Placeholder)) c.slot_gives.ensures
