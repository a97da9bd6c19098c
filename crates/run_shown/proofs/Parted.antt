-- Edits one part after another.
use Rattle.std.proofs.Common.{Bool, true, false, List, [], ◌∷◌, ◌++◌, ◌≡◌, refl, sym, ap, ◌∙◌, map}
use Rattle.std.specs.Prelude.{if◌then◌else◌}
use Rattle.std.proofs.lemmas.List.{append_assoc}
use Rattle.rt_edits.specs.declared.edit.Edit.{Edit}
use Rattle.rt_model.specs.Document as doc
use Rattle.rt_model.specs.Caused.{Written, writes, then_on}
use Rattle.tree_edits.specs.Documents.{edit_of}
use Rattle.run_shown.specs.declared.edited.Edited.{Edited}
use Rattle.run_shown.specs.Written.{edited_of}
use Rattle.run_shown.proofs.OneByOne.{nil-right}

pub edits-append : (a b : List Edit) → map edit_of (a ++ b) ≡ map edit_of a ++ map edit_of b
edits-append [] b = refl
edits-append (x ∷ a) b = ap (λ xs. edit_of x ∷ xs) (edits-append a b)

pub then_nothing : (a : Written) → then_on a (writes []) ≡ a
then_nothing a = by a.stopped a.edits
  where
    by : (stopped : Bool) (edits : List doc.Edit) → then_on (record { edits = edits; stopped = stopped }) (writes []) ≡ record { edits = edits; stopped = stopped }
    by true edits = refl
    by false edits = ap (λ (es : List doc.Edit). record { edits = es; stopped = false }) (nil-right edits)

pub then_then : (a b c : Written) → then_on (then_on a b) c ≡ then_on a (then_on b c)
then_then a b c = by a.stopped b.stopped a.edits b.edits
  where
    by : (s t : Bool) (xs ys : List doc.Edit)
        → then_on (then_on (record { edits = xs; stopped = s }) (record { edits = ys; stopped = t })) c ≡ then_on (record { edits = xs; stopped = s }) (then_on (record { edits = ys; stopped = t }) c)
    by true t xs ys = refl
    by false true xs ys = refl
    by false false xs ys = ap (λ (es : List doc.Edit). record { edits = es; stopped = c.stopped }) (append_assoc xs ys c.edits)

-- the second part's edits join those of the first one, where that wasn't stopped
pub then_is : (a b : Edited) (edits : List Edit) → a.stopped ≡ false → edits ≡ a.edits ++ b.edits
    → edited_of (record { edits = edits; stopped = b.stopped }) ≡ then_on (edited_of a) (edited_of b)
then_is a b edits goes joined =
    ap (λ (es : List doc.Edit). record { edits = es; stopped = b.stopped }) (ap (λ xs. map edit_of xs) joined ∙ edits-append a.edits b.edits) ∙
    sym (ap (λ (c : Bool). if c then edited_of a else record { edits = map edit_of a.edits ++ map edit_of b.edits; stopped = b.stopped }) goes)

-- where the first part holds no edit it is the second one
pub then_second : (a b : Edited) → a.stopped ≡ false → a.edits ≡ [] → edited_of b ≡ then_on (edited_of a) (edited_of b)
then_second a b goes none =
    ap (λ (es : List Edit). record { edits = map edit_of es ++ map edit_of b.edits; stopped = b.stopped }) (sym none) ∙
    sym (ap (λ (c : Bool). if c then edited_of a else record { edits = map edit_of a.edits ++ map edit_of b.edits; stopped = b.stopped }) goes)
