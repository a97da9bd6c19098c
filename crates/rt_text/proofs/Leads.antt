-- Edits that lead from one document to another, one edit on.
use Rattle.std.proofs.Common.{◌≡◌, ℕ, ◌+◌, ◌<◌, ◌≤◌, List, ◌∷◌, length, drop, get_or, Some, Ok, Err, refl, sym, ap, ◌∙◌, subst}
use Rattle.std.proofs.Math.ListN.{drop_of_length-le}
use Rattle.std.proofs.lemmas.List.{drop_more}
use Rattle.rt_edits.specs.Document.{after, apply, fault_of, unless, MayFail}
use Rattle.rt_edits.specs.declared.doc_node.DocNode.{DocNode}
use Rattle.rt_edits.specs.declared.document.DocFault.{DocFault}
use Rattle.rt_edits.specs.declared.document.DocFault.TheVariants as faults
use Rattle.rt_edits.specs.declared.edit.Edit.{Edit}
use Rattle.tree_documents.specs.Cuts.{LeadsTo}

-- an edit stands before those behind it
next_edit : (edits : List Edit) (at : ℕ) (edit : Edit) → at < length edits → edit ≡ get_or edits at edit → drop at edits ≡ edit ∷ drop (at + 1) edits
next_edit edits at edit low is = drop_more edits at edit low ∙ ap (λ (e : Edit). e ∷ drop (at + 1) edits) (sym is)

-- what edits lead to from the next one on, they lead to from this one on
pub leads_back : (edits : List Edit) (at : ℕ) (edit : Edit) (nodes mid next : List DocNode) → at < length edits → edit ≡ get_or edits at edit
    → apply edit nodes ≡ Ok mid → LeadsTo (drop (at + 1) edits) mid next → LeadsTo (drop at edits) nodes next
leads_back edits at edit nodes mid next low is made rest =
    subst (λ (es : List Edit). LeadsTo es nodes next) (sym (next_edit edits at edit low is)) (mid, made, rest)

-- and what they lead to from this one on, from the next one on
pub leads_on : (edits : List Edit) (at : ℕ) (edit : Edit) (nodes mid next : List DocNode) → at < length edits → edit ≡ get_or edits at edit
    → apply edit nodes ≡ Ok mid → LeadsTo (drop at edits) nodes next → LeadsTo (drop (at + 1) edits) mid next
leads_on edits at edit nodes mid next low is made led =
    let there : LeadsTo (edit ∷ drop (at + 1) edits) nodes next =
    subst (λ (es : List Edit). LeadsTo es nodes next) (next_edit edits at edit low is) led in
    let same : there.0 ≡ mid = cc (sym there.1 ∙ made) in
    subst (λ (n : List DocNode). LeadsTo (drop (at + 1) edits) n next) same there.2

-- at the end they lead to where they are
pub leads_end : (edits : List Edit) (at : ℕ) (nodes : List DocNode) → length edits ≤ at → LeadsTo (drop at edits) nodes nodes
leads_end edits at nodes end = subst (λ (es : List Edit). LeadsTo es nodes nodes) (sym (drop_of_length-le edits end)) refl

-- an edit that is made has no fault
no_fault : (edit : Edit) (nodes mid : List DocNode) (fault : DocFault) → apply edit nodes ≡ Ok mid → fault_of edit nodes ≡ Some fault → ⊥
no_fault edit nodes mid fault made is =
    let refused : apply edit nodes ≡ Err fault = ap (λ f. unless f (after edit nodes)) is in
    absurd (cc (sym made ∙ refused))

wanted : (edit : Edit) (nodes mid : List DocNode) (fault : DocFault) → apply edit nodes ≡ Ok mid → MayFail edit nodes fault → fault ≡ faults.OutOfMemory
wanted edit nodes mid faults.OutOfMemory made may = refl
wanted edit nodes mid faults.UnknownId made may = absurd (no_fault edit nodes mid faults.UnknownId made may)
wanted edit nodes mid faults.WrongKind made may = absurd (no_fault edit nodes mid faults.WrongKind made may)
wanted edit nodes mid faults.RepeatedId made may = absurd (no_fault edit nodes mid faults.RepeatedId made may)

-- where edits lead on, the next one is refused for want of memory alone
pub refused_wants : (edits : List Edit) (at : ℕ) (edit : Edit) (nodes next : List DocNode) (fault : DocFault) → at < length edits
    → edit ≡ get_or edits at edit → LeadsTo (drop at edits) nodes next → MayFail edit nodes fault → fault ≡ faults.OutOfMemory
refused_wants edits at edit nodes next fault low is led may =
    let there : LeadsTo (edit ∷ drop (at + 1) edits) nodes next =
    subst (λ (es : List Edit). LeadsTo es nodes next) (next_edit edits at edit low is) led in
    wanted edit nodes there.0 fault there.1 may
