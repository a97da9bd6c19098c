-- Edits of one element's attributes and listeners change what it is, in every document.
use Rattle.std.proofs.Common.{ℕ, ◌+◌, List, [], ◌∷◌, ◌≡◌, refl, ap, ◌∙◌, nat_eq, arith}
use Rattle.std.specs.Prelude.{Option, Some, None, Result, Ok, Err, if◌then◌else◌}
use Rattle.std.proofs.lemmas.Bool.{eqb-true}
use Rattle.rt_model.specs.Document.{Content, DocElement, Forest, Empty, Node, Edit, SetAttribute, CreateEventListener, RemoveEventListener, DocFault, WrongKind, set_attribute, with_listener, without_listener, has_text, changed, content_of, count_of, on_element, with_content, apply, and_then, document_after}
use Rattle.rt_model.proofs.Maps.{by_test, none_some}
use Rattle.law_moves.specs.Settings.{Setting, placed, counted, beside, Brings, altered_once, and_altered, altered}
use Rattle.law_headline.proofs.InRows.{own_1}
use Rattle.law_headline.proofs.Changes.{on_there, first_is, first_changed}

same_content : {c d : Content} → Some c ≡ Some d → c ≡ d
same_content h = cc

module _ (n : ℕ) (k r : Forest) (s : Setting) (alone : beside n s ≡ 0) where
  -- the document with this element at the row's head
  abbrev with : Content → Forest
  with c = placed s (Node n c k r)

  becomes : (c new is : Content) → Some new ≡ Some is → changed n (with_content new) (with c) ≡ with is
  becomes c new is h = first_changed n c k r s alone (with_content new) (λ i x y z end. refl) ∙ ap with (same_content h)

  step : (e : Edit) (c d : Content) → altered_once n e c ≡ Some d → apply e (with c) ≡ Ok (with d)
  step (SetAttribute id name namespace value) (DocElement tag space attributes ls) d h =
      by_test (nat_eq id n)
      (λ e.
      let c : Content = DocElement tag space attributes ls in
      ap (λ (m : ℕ). apply (SetAttribute m name namespace value) (with c)) (eqb-true id n e)
      ∙ on_there n (content_of n (with c)) c (λ x. on_element x (λ t z as' bs. Ok (changed n (with_content (DocElement t z (set_attribute as' name namespace value) bs)) (with c)))) (first_is n c k r s alone)
      ∙ ap Ok (becomes c (DocElement tag space (set_attribute attributes name namespace value) ls) d (rw e at h)))
      (λ e. none_some refl (rw e at h))
  step (CreateEventListener id name) (DocElement tag space attributes ls) d h =
      by_test (nat_eq id n)
      (λ e.
      by_test (has_text ls name)
      (λ t. none_some refl (rw t at (rw e at h)))
      (λ t.
      let c : Content = DocElement tag space attributes ls in
      ap (λ (m : ℕ). apply (CreateEventListener m name) (with c)) (eqb-true id n e)
      ∙ on_there n (content_of n (with c)) c
      (λ x. on_element x (λ u z as' bs. if has_text bs name then Err WrongKind else Ok (changed n (with_content (DocElement u z as' (with_listener bs name))) (with c))))
      (first_is n c k r s alone)
      ∙ rw t (ap Ok (becomes c (DocElement tag space attributes (with_listener ls name)) d (rw t at (rw e at h))))))
      (λ e. none_some refl (rw e at h))
  step (RemoveEventListener id name) (DocElement tag space attributes ls) d h =
      by_test (nat_eq id n)
      (λ e.
      by_test (has_text ls name)
      (λ t.
      let c : Content = DocElement tag space attributes ls in
      ap (λ (m : ℕ). apply (RemoveEventListener m name) (with c)) (eqb-true id n e)
      ∙ on_there n (content_of n (with c)) c
      (λ x. on_element x (λ u z as' bs. if has_text bs name then Ok (changed n (with_content (DocElement u z as' (without_listener bs name))) (with c)) else Err WrongKind))
      (first_is n c k r s alone)
      ∙ rw t (ap Ok (becomes c (DocElement tag space attributes (without_listener ls name)) d (rw t at (rw e at h)))))
      (λ t. none_some refl (rw t at (rw e at h))))
      (λ e. none_some refl (rw e at h))
  step e c d h = cc

  steps : (es : List Edit) (c d : Content) → altered n es c ≡ Some d → document_after es (with c) ≡ Ok (with d)
  steps [] c d h = ap (λ (x : Content). Ok (with x)) (same_content h)
  steps (e ∷ es) c d h = by_first (altered_once n e c) refl (λ x q. steps es x d q) h
    where
      by_first : (o : Option Content) → altered_once n e c ≡ o → ((x : Content) → altered n es x ≡ Some d → document_after es (with x) ≡ Ok (with d))
          → and_altered o (λ x. altered n es x) ≡ Some d → document_after (e ∷ es) (with c) ≡ Ok (with d)
      by_first None q go l = none_some refl l
      by_first (Some x) q go l = ap (λ (y : Result Forest DocFault). and_then y (λ after. document_after es after)) (step e c x q) ∙ go x l

-- edits of one element, whatever its children are
pub element_brings : (n : ℕ) (es : List Edit) (c d : Content) (k : Forest) → altered n es c ≡ Some d
    → Brings es (Node n c k Empty) (Node n d k Empty) (λ i. counted (nat_eq n i) + count_of i k)
element_brings n es c d k h =
    record {
      old = λ i. omega arith;
      new = λ i. omega arith;
      brings = λ s once positive. steps n k Empty s (omega (arith, once n, own_1 n)) es c d h;
    }
