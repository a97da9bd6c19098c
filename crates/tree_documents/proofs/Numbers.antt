-- The numbers of nodes are those of their mirror, and a number is found in both.
use Rattle.std.proofs.Common.{◌≡◌, ℕ, ◌+◌, Bool, true, false, cond, ◌||◌, nat_eq, nat_lt, List, [], ◌∷◌, ◌++◌, Option, Some, None, refl, sym, ap, ◌∙◌, arith}
use Rattle.std.specs.List.{list_any}
use Rattle.std.proofs.lemmas.List.Folds.{list_any-append}
use Rattle.rt_model.specs.Lists.{first_of}
use Rattle.rt_edits.specs.Nodes.{numbers, numbers_below, numbers_in, has, times, found, found_below, found_in, either}
use Rattle.rt_edits.specs.Document.{is_barred}
use Rattle.rt_edits.specs.declared.doc_node.DocNode.{DocNode}
use Rattle.rt_edits.specs.declared.doc_node.DocKind.{DocKind, Element', Text, Placeholder, Row_of-DocNode, end_of-DocNode, more_of-DocNode}
use Rattle.rt_edits.proofs.Next.{times-append}
use Rattle.rt_model.specs.Document as doc
use Rattle.rt_model.specs.Document.{Forest, Content, is_in, count_of, content_of, is_taken, clashes}
use Rattle.tree_edits.specs.Documents.{forest_below, forest_in, forest_of}
use Rattle.tree_edits.specs.Documents as mirror

-- whether a number stands

mutual
  unfolding forest_below forest_in numbers_below numbers_in

  pub in_below : (i : ℕ) (kind : DocKind) → is_in i (forest_below kind) ≡ has i (numbers_below kind)
  in_below i (Element' tag namespace attrs listeners shape row) = in_row i row
  in_below i (Text text) = refl
  in_below i Placeholder = refl

  in_row : {m : _} (i : ℕ) (row : Row_of-DocNode m) → is_in i (forest_in row) ≡ has i (numbers_in row)
  in_row i end_of-DocNode = refl
  in_row i (more_of-DocNode id kind rest) =
      ap (λ b. nat_eq id.0 i || (b || is_in i (forest_in rest))) (in_below i kind) ∙
      ap (λ b. nat_eq id.0 i || (has i (numbers_below kind) || b)) (in_row i rest) ∙
      ap (λ b. nat_eq id.0 i || b) (sym (list_any-append (λ other. nat_eq other i) (numbers_below kind) (numbers_in rest)))

pub in_nodes : (i : ℕ) (nodes : List DocNode) → is_in i (forest_of nodes) ≡ has i (numbers nodes)
in_nodes i [] = refl
in_nodes i (x ∷ xs) =
    ap (λ b. nat_eq x.id.0 i || (b || is_in i (forest_of xs))) (in_below i x.kind) ∙
    ap (λ b. nat_eq x.id.0 i || (has i (numbers_below x.kind) || b)) (in_nodes i xs) ∙
    ap (λ b. nat_eq x.id.0 i || b) (sym (list_any-append (λ other. nat_eq other i) (numbers_below x.kind) (numbers xs)))

-- how often

mutual
  unfolding forest_below forest_in numbers_below numbers_in

  pub count_below : (i : ℕ) (kind : DocKind) → count_of i (forest_below kind) ≡ times i (numbers_below kind)
  count_below i (Element' tag namespace attrs listeners shape row) = count_row i row
  count_below i (Text text) = refl
  count_below i Placeholder = refl

  count_row : {m : _} (i : ℕ) (row : Row_of-DocNode m) → count_of i (forest_in row) ≡ times i (numbers_in row)
  count_row i end_of-DocNode = refl
  count_row i (more_of-DocNode id kind rest) =
      ap (λ n. cond (nat_eq id.0 i) 1 0 + (n + count_of i (forest_in rest))) (count_below i kind) ∙
      ap (λ n. cond (nat_eq id.0 i) 1 0 + (times i (numbers_below kind) + n)) (count_row i rest) ∙
      ap (λ n. cond (nat_eq id.0 i) 1 0 + n) (sym (times-append i (numbers_below kind) (numbers_in rest)))

pub count_nodes : (i : ℕ) (nodes : List DocNode) → count_of i (forest_of nodes) ≡ times i (numbers nodes)
count_nodes i [] = refl
count_nodes i (x ∷ xs) =
    ap (λ n. cond (nat_eq x.id.0 i) 1 0 + (n + count_of i (forest_of xs))) (count_below i x.kind) ∙
    ap (λ n. cond (nat_eq x.id.0 i) 1 0 + (times i (numbers_below x.kind) + n)) (count_nodes i xs) ∙
    ap (λ n. cond (nat_eq x.id.0 i) 1 0 + n) (sym (times-append i (numbers_below x.kind) (numbers xs)))

-- what a number names

abbrev pub content_in : Option DocKind → Option Content
content_in None = None
content_in (Some kind) = Some (mirror.content_of kind)

either_in : (a b : Option DocKind) → first_of (content_in a) (content_in b) ≡ content_in (either a b)
either_in None b = refl
either_in (Some kind) b = refl

found_first : (here : Bool) (kind : DocKind) (a b : Option DocKind)
    → cond here (Some (mirror.content_of kind)) (first_of (content_in a) (content_in b)) ≡ content_in
    (cond here (Some kind) (either a b))
found_first true kind a b = refl
found_first false kind a b = either_in a b

mutual
  unfolding forest_below forest_in found_below found_in

  pub content_below : (i : ℕ) (kind : DocKind) → content_of i (forest_below kind) ≡ content_in (found_below i kind)
  content_below i (Element' tag namespace attrs listeners shape row) = content_row i row
  content_below i (Text text) = refl
  content_below i Placeholder = refl

  content_row : {m : _} (i : ℕ) (row : Row_of-DocNode m) → content_of i (forest_in row) ≡ content_in (found_in i row)
  content_row i end_of-DocNode = refl
  content_row i (more_of-DocNode id kind rest) =
      ap (λ o. cond (nat_eq id.0 i) (Some (mirror.content_of kind)) (first_of o (content_of i (forest_in rest))))
      (content_below i kind) ∙
      ap (λ o. cond (nat_eq id.0 i) (Some (mirror.content_of kind)) (first_of (content_in (found_below i kind)) o))
      (content_row i rest) ∙
      found_first (nat_eq id.0 i) kind (found_below i kind) (found_in i rest)

pub content_nodes : (i : ℕ) (nodes : List DocNode) → content_of i (forest_of nodes) ≡ content_in (found i nodes)
content_nodes i [] = refl
content_nodes i (x ∷ xs) =
    ap (λ o. cond (nat_eq x.id.0 i) (Some (mirror.content_of x.kind)) (first_of o (content_of i (forest_of xs))))
    (content_below i x.kind) ∙
    ap (λ o. cond (nat_eq x.id.0 i) (Some (mirror.content_of x.kind)) (first_of (content_in (found_below i x.kind)) o))
    (content_nodes i xs) ∙
    found_first (nat_eq x.id.0 i) x.kind (found_below i x.kind) (found i xs)

-- whether a carried number may come in

module _ (document carried : List DocNode) where
  taken_is : (n : ℕ) → is_taken (forest_of document) (forest_of carried) n ≡ is_barred (numbers document) (numbers carried) n
  taken_is n =
      ap (λ b. nat_eq n 0 || (b || nat_lt 1 (count_of n (forest_of carried)))) (in_nodes n document) ∙
      ap (λ k. nat_eq n 0 || (has n (numbers document) || nat_lt 1 k)) (count_nodes n carried)

  abbrev barred : ℕ → Bool
  barred n = is_barred (numbers document) (numbers carried) n

  mutual
    unfolding forest_below forest_in numbers_below numbers_in

    clash_below : (kind : DocKind)
        → clashes (forest_of document) (forest_of carried) (forest_below kind) ≡ list_any barred (numbers_below kind)
    clash_below (Element' tag namespace attrs listeners shape row) = clash_row row
    clash_below (Text text) = refl
    clash_below Placeholder = refl

    clash_row : {m : _} (row : Row_of-DocNode m)
        → clashes (forest_of document) (forest_of carried) (forest_in row) ≡ list_any barred (numbers_in row)
    clash_row end_of-DocNode = refl
    clash_row (more_of-DocNode id kind rest) =
        ap (λ b. b || (clashes (forest_of document) (forest_of carried) (forest_below kind) || clashes (forest_of document)
        (forest_of carried) (forest_in rest))) (taken_is id.0) ∙
        ap (λ b. barred id.0 || (b || clashes (forest_of document) (forest_of carried) (forest_in rest))) (clash_below kind) ∙
        ap (λ b. barred id.0 || (list_any barred (numbers_below kind) || b)) (clash_row rest) ∙
        ap (λ b. barred id.0 || b) (sym (list_any-append barred (numbers_below kind) (numbers_in rest)))

  pub clash_nodes : (nodes : List DocNode)
      → clashes (forest_of document) (forest_of carried) (forest_of nodes) ≡ list_any barred (numbers nodes)
  clash_nodes [] = refl
  clash_nodes (x ∷ xs) =
      ap (λ b. b || (clashes (forest_of document) (forest_of carried) (forest_below x.kind) || clashes (forest_of document)
      (forest_of carried) (forest_of xs))) (taken_is x.id.0) ∙
      ap (λ b. barred x.id.0 || (b || clashes (forest_of document) (forest_of carried) (forest_of xs))) (clash_below x.kind) ∙
      ap (λ b. barred x.id.0 || (list_any barred (numbers_below x.kind) || b)) (clash_nodes xs) ∙
      ap (λ b. barred x.id.0 || b) (sym (list_any-append barred (numbers_below x.kind) (numbers xs)))
