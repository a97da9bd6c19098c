-- Tokens give the nodes back that they were made of.
use Rattle.std.proofs.Common.{◌≡◌, Bool, true, ◌&&◌, ℕ, List, [], ◌∷◌, ◌++◌, Option, Some, None, if◌then◌else◌, refl, sym, ap, ◌∙◌, append_assoc, append-nil}
use Rattle.rt_model.specs.Document.{DocAttribute, DocElement, DocText, DocPlaceholder, Forest, Empty, Node, join_rows}
use Rattle.rt_model.specs.Lists.{Text, same_numbers}
use Rattle.rt_model.proofs.Among.{numbers_same}
use Rattle.rt_model.proofs.Quiet.{option_same as space-self}
use Rattle.rt_html.specs.Tokens.{plain, tokens, Token, Opens, Shuts, Says, Holds, Shut, Reading, read_on, read_all, same_name, whole, nodes_of_tokens}

-- a row before no row
pub join-none : (f : Forest) → join_rows f Empty ≡ f
join-none Empty = refl
join-none (Node number content children rest) = ap (λ r. Node number content children r) (join-none rest)

name-self : (namespace : Option Text) (tag : Text) (behind : Forest) → same_name namespace tag (record { namespace = namespace; tag = tag; behind = behind }) ≡ true
name-self namespace tag behind = ap (λ b. b && same_numbers tag tag) (space-self namespace) ∙ numbers_same tag

abbrev reading : Forest → List Shut → Option Reading
reading row shuts = Some (record { row = row; open_left = shuts })

-- the tokens of nodes before others that were read
back : (f : Forest) (later : List Token) (right : Forest) (shuts : List Shut) → read_all later ≡ reading right shuts
    → read_all (tokens f ++ later) ≡ reading (join_rows (plain f) right) shuts
back Empty later right shuts h = h
back (Node number (DocText text) children row) later right shuts h = ap (λ r. read_on (Says text) r) (back row later right shuts h)
back (Node number DocPlaceholder children row) later right shuts h = ap (λ r. read_on Holds r) (back row later right shuts h)
back (Node number (DocElement tag namespace attributes listeners) children row) later right shuts h =
    let behind : Forest = join_rows (plain row) right in
    let shut : Shut = record { namespace = namespace; tag = tag; behind = behind } in
    let ended : read_all (Shuts namespace tag ∷ (tokens row ++ later)) ≡ reading Empty (shut ∷ shuts) =
    ap (λ r. read_on (Shuts namespace tag) r) (back row later right shuts h) in
    let inside : read_all (tokens children ++ Shuts namespace tag ∷ (tokens row ++ later)) ≡ reading (join_rows (plain children) Empty) (shut ∷ shuts) =
    back children (Shuts namespace tag ∷ (tokens row ++ later)) Empty (shut ∷ shuts) ended in
    ap (λ ts. read_on (Opens namespace tag attributes) (read_all ts)) (append_assoc (tokens children) (Shuts namespace tag ∷ tokens row) later)
    ∙ ap (λ r. read_on (Opens namespace tag attributes) r) inside
    ∙ ap (λ b. if b then reading (Node 0 (DocElement tag namespace attributes []) (join_rows (plain children) Empty) behind) shuts else None) (name-self namespace tag behind)
    ∙ ap (λ below. reading (Node 0 (DocElement tag namespace attributes []) below behind) shuts) (join-none (plain children))

pub nodes-back : (f : Forest) → nodes_of_tokens (tokens f) ≡ Some (plain f)
nodes-back f =
    ap (λ ts. whole (read_all ts)) (sym (append-nil (tokens f))) ∙ ap whole (back f [] Empty [] refl) ∙ ap Some (join-none (plain f))
