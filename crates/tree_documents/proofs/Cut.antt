-- The edits of one report after another, made of one document after another.
use Rattle.std.proofs.Common.{◌≡◌, ◌≤◌, ℕ, ◌+◌, List, [], ◌∷◌, ◌++◌, length, map, take, drop, Ok, refl, sym, ap, ◌∙◌, subst, arith}
use Rattle.rt_edits.specs.Laws.{IsNumbered}
use Rattle.rt_edits.specs.declared.doc_node.DocNode.{DocNode}
use Rattle.rt_edits.specs.declared.edit.Edit.{Edit}
use Rattle.rt_edits.proofs.Numbered.{numbered}
use Rattle.rt_model.specs.Lists.{joined}
use Rattle.rt_model.specs.Tree.{Types}
use Rattle.rt_model.specs.Document as doc
use Rattle.rt_model.specs.Document.{Forest, document_after}
use Rattle.rt_model.specs.View.{view}
use Rattle.rt_model.specs.Told.{Told, edits_of}
use Rattle.rt_model.specs.Reports.{Report, AllCount}
use Rattle.rt_model.specs.Headline.{DocumentIs}
use Rattle.tree_edits.specs.Documents.{edit_of, forest_of}
use Rattle.tree_documents.specs.Agrees.{Makes}
use Rattle.tree_documents.specs.Cuts.{LeadsTo, ShowsEach, ReportsShow}
use Rattle.tree_documents.proofs.Applied.{edits_make}

-- a list whose image is one and then another, cut behind the first
cut : {X Y : Type 0} (f : X → Y) (xs : List X) (front back : List Y) → map f xs ≡ front ++ back
    → (map f (take (length front) xs) ≡ front) × (map f (drop (length front) xs) ≡ back)
cut f xs [] back h = (refl, h)
cut f [] (y ∷ front) back h = cc
cut f (x ∷ xs) (y ∷ front) back h =
    let head : f x ≡ y = cc in
    let tail : map f xs ≡ front ++ back = cc in
    let rest = cut f xs front back tail in
    (ap (λ z. z ∷ map f (take (length front) xs)) head ∙ ap (λ zs. y ∷ zs) rest.0, rest.1)

-- edits that make something lead to a document with that mirror
leads : (edits : List Edit) (nodes : List DocNode) (made : Forest) → IsNumbered nodes → Makes edits nodes made
    → (next : List DocNode) × LeadsTo edits nodes next × (forest_of next ≡ made) × IsNumbered next
leads [] nodes made n m = (nodes, refl, m, n)
leads (edit ∷ edits) nodes made n m =
    let rest = leads edits m.0 made (numbered edit nodes m.0 m.1 n) m.2 in
    (rest.0, (m.0, m.1, rest.1), rest.2, rest.3)

module _ {K : Types} where
  each : (reports : List Report) (told : List (Told K)) (edits : List Edit) (nodes : List DocNode) → IsNumbered nodes → AllCount reports told
      → DocumentIs (Ok (forest_of nodes)) told → map edit_of edits ≡ joined (edits_of told) → ShowsEach reports edits told nodes
  each [] told edits nodes n counted shown same = tt
  each (report ∷ reports) [] edits nodes n counted shown same = absurd counted
  each (report ∷ reports) (t ∷ ts) edits nodes n counted shown same =
      let count : report.edits ≡ length t.edits = (counted.0).edits in
      let parts = cut edit_of edits t.edits (joined (edits_of ts)) same in
      let own : map edit_of (take report.edits edits) ≡ t.edits =
      ap (λ (k : ℕ). map edit_of (take k edits)) count ∙ parts.0 in
      let later : map edit_of (drop report.edits edits) ≡ joined (edits_of ts) =
      ap (λ (k : ℕ). map edit_of (drop k edits)) count ∙ parts.1 in
      let comes : document_after (map edit_of (take report.edits edits)) (forest_of nodes) ≡ Ok (view t.machine.state) =
      ap (λ (es : List doc.Edit). document_after es (forest_of nodes)) own ∙ shown.0 in
      let made : Makes (take report.edits edits) nodes (view t.machine.state) = edits_make (take report.edits edits) nodes (view t.machine.state) n comes in
      let led = leads (take report.edits edits) nodes (view t.machine.state) n made in
      let there : document_after t.edits (forest_of nodes) ≡ Ok (forest_of led.0) = shown.0 ∙ ap Ok (sym led.2) in
      (led.0, led.1, led.2, each reports ts (drop report.edits edits) led.0 led.3 counted.1 (subst (λ d. DocumentIs d ts) there shown.1) later)

pub reports_show : {K : Types} → ReportsShow K
reports_show {K} = λ reports told edits counted shown same. each {K = K} reports told edits [] (refl, λ number. omega arith) counted shown same
