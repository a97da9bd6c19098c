-- The first row under a number.
use Rattle.std.proofs.Common.{ℕ, ◌+◌, ◌<◌, ◌≤◌, List, [], ◌∷◌, ◌++◌, ◌≡◌, ◌≢◌, length, get_or, drop, sym, ap, ◌∙◌}
use Rattle.std.proofs.Math.ListN.{drop_of_length-le}
use Rattle.std.specs.Prelude.{nat_eq, if◌then◌else◌}
use Rattle.std.proofs.lemmas.List.{append_assoc}
use Rattle.rt_edits.specs.declared.doc_node.DocNode.{DocNode}
use Rattle.rt_model.specs.Document.{Forest, Empty}
use Rattle.tree_edits.specs.Documents.{forest_of}
use Rattle.run_shown.specs.Given.{rows_under}
use Rattle.run_shown.specs.Tops.{tops_of}
use Rattle.run_shown.proofs.Children.{number_other, number_same}
use Rattle.run_shown.proofs.OneByOne.{next_drop, nil-right}

module _ (rows : List (ℕ × List DocNode)) (i t : ℕ) where
  -- a row under another number is passed over
  pub passed : (r : ℕ × List DocNode) → i < length rows → r ≡ get_or rows i r → r.0 ≢ t → rows_under (drop i rows) t ≡ rows_under (drop (i + 1) rows) t
  passed r low is other =
      ap (λ rs. rows_under rs t) (next_drop rows i r low is)
      ∙ ap (λ b. if b then forest_of r.1 else rows_under (drop (i + 1) rows) t) (number_other r.0 t other)

  -- one under this number is the row
  pub found : (r : ℕ × List DocNode) → i < length rows → r ≡ get_or rows i r → r.0 ≡ t → rows_under (drop i rows) t ≡ forest_of r.1
  found r low is same =
      ap (λ rs. rows_under rs t) (next_drop rows i r low is)
      ∙ ap (λ b. if b then forest_of r.1 else rows_under (drop (i + 1) rows) t) (number_same r.0 t same)

  -- at the end there was none
  pub none_given : length rows ≤ i → rows_under (drop i rows) t ≡ Empty
  none_given end = ap (λ rs. rows_under rs t) (drop_of_length-le rows end)

module _ (nodes : List DocNode) (i : ℕ) where
  -- one more number
  pub numbers_more : (x : DocNode) (before after whole : List ℕ) → i < length nodes → x ≡ get_or nodes i x
      → before ++ tops_of (forest_of (drop i nodes)) ≡ whole → after ≡ before ++ (x.id).0 ∷ [] → after ++ tops_of (forest_of (drop (i + 1) nodes)) ≡ whole
  numbers_more x before after whole low is so_far more =
      ap (λ ns. ns ++ tops_of (forest_of (drop (i + 1) nodes))) more
      ∙ append_assoc before ((x.id).0 ∷ []) (tops_of (forest_of (drop (i + 1) nodes)))
      ∙ ap (λ xs. before ++ tops_of (forest_of xs)) (sym (next_drop nodes i x low is))
      ∙ so_far

  -- and at the end all
  pub numbers_done : (all whole : List ℕ) → length nodes ≤ i → all ++ tops_of (forest_of (drop i nodes)) ≡ whole → all ≡ whole
  numbers_done all whole end so_far = sym (nil-right all) ∙ ap (λ xs. all ++ tops_of (forest_of xs)) (sym (drop_of_length-le nodes end)) ∙ so_far
