-- A part of the edits was taken: where the sink failed, or memory was wanting.
use Rattle.std.proofs.Common.{List, [], ◌∷◌, ◌++◌, ◌≡◌, ◌<◌, ℕ, refl, sym, ap, ◌∙◌, map, arith}
use Rattle.std.proofs.lemmas.List.{map-append}
use Rattle.std.specs.Prelude.{Option}
use Rattle.rt_edits.specs.Sinks.{grown}
use Rattle.rt_edits.specs.declared.edit.Edit.{Edit}
use Rattle.tree_edits.specs.Documents.{edit_of}
use Rattle.rt_model.specs.Document as doc
use Rattle.run_reports.specs.declared.limits.Limits.{Limits}
use Rattle.run_outside.specs.Ends.{Explains, WrotePart}
use Rattle.run_outside.specs.Short.{PartBy}
use Rattle.run_outside.specs.declared.ended.Ended.{Ended}
use Rattle.run_outside.specs.declared.ended.Ended.TheVariants as ends

-- the edits before one that was refused, whatever the cause was
pub part_refused : (ended : Ended) (taken rest whole : List doc.Edit) (refused : doc.Edit) → taken ++ refused ∷ rest ≡ whole → PartBy ended taken whole
part_refused ends.Sink taken rest whole refused is = (refused, rest, is)
part_refused (ends.OutOfTurns units) taken rest whole refused is = (refused ∷ rest, is)
part_refused (ends.TooDeep height) taken rest whole refused is = (refused ∷ rest, is)
part_refused (ends.Run stop) taken rest whole refused is = (refused ∷ rest, is)

-- none was taken, where it isn't the sink that failed
pub part_none : (limits : Limits) (ended : Ended) (whole : List doc.Edit) → ((before after : ℕ) → Explains limits before after ended) → PartBy ended [] whole
part_none limits ends.Sink whole why = let never : 0 < 0 = why 0 0 in absurd (omega (arith, never))
part_none limits (ends.OutOfTurns units) whole why = (whole, refl)
part_none limits (ends.TooDeep height) whole why = (whole, refl)
part_none limits (ends.Run stop) whole why = (whole, refl)

-- an edit was refused after those that were taken
pub wrote_before : (edits front rest : List Edit) (edit : Edit) (before now after : Option (List Edit)) (ended : Ended)
    → front ++ edit ∷ rest ≡ edits
    → now ≡ grown before front
    → after ≡ now
    → WrotePart edits before after ended
wrote_before edits front rest edit before now after ended is told left =
    record {
      wrote = front;
      told = left ∙ told;
      part = part_refused ended (map edit_of front) (map edit_of rest) (map edit_of edits) (edit_of edit) (sym (map-append edit_of front (edit ∷ rest)) ∙ ap (λ es. map edit_of es) is);
    }
