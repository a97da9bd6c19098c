-- A row of nodes with what stands about it in a document, and edits that make another row of it wherever it stands.
use Rattle.std.specs.Prelude.{ℕ, ◌+◌, ◌≤◌, Bool, nat_eq, List, [], ◌∷◌, Option, Some, None, Ok, if◌then◌else◌, ◌≡◌}
use Rattle.rt_model.specs.Document.{Content, DocElement, Forest, Empty, Node, Edit, SetAttribute, CreateEventListener, RemoveEventListener, join_rows, count_of, set_attribute, with_listener, without_listener, has_text, document_after}

-- what stands about a row: nothing, nodes that it comes after, nodes that it comes ahead of, or the node whose children it is
pub data Setting : Type 0 where
  Alone : Setting
  After : (nodes : Forest) (outer : Setting) → Setting
  Ahead : (nodes : Forest) (outer : Setting) → Setting
  Within : (id : ℕ) (content : Content) (outer : Setting) → Setting

-- the document that has the row there
abbrev pub placed : Setting → Forest → Forest
placed Alone row = row
placed (After nodes outer) row = placed outer (join_rows nodes row)
placed (Ahead nodes outer) row = placed outer (join_rows row nodes)
placed (Within id content outer) row = placed outer (Node id content row Empty)

-- what holds counts 1, what doesn't 0
abbrev pub counted : Bool → ℕ
counted b = if b then 1 else 0

-- how often a number stands about the row
abbrev pub beside : ℕ → Setting → ℕ
beside i Alone = 0
beside i (After nodes outer) = count_of i nodes + beside i outer
beside i (Ahead nodes outer) = count_of i nodes + beside i outer
beside i (Within id content outer) = counted (nat_eq id i) + beside i outer

-- the edits make the row g of the row f in each setting, where no number that they claim is claimed twice or stands beside it
pub record Brings (edits : List Edit) (f g : Forest) (claims : ℕ → ℕ) : Type 0 where
  -- each number of the old row is claimed
  pub old : (i : ℕ) → count_of i f ≤ claims i
  -- and each of the new row
  pub new : (i : ℕ) → count_of i g ≤ claims i
  pub brings :
      (s : Setting)
      → ((i : ℕ) → beside i s + claims i ≤ 1)
      → beside 0 s + claims 0 ≡ 0
      → document_after edits (placed s f) ≡ Ok (placed s g)

-- what an element is after an edit of its attributes or listeners, unless the edit is another one or is refused
abbrev pub altered_once : ℕ → Edit → Content → Option Content
altered_once n (SetAttribute id name namespace value) (DocElement tag space attributes ls) =
    if nat_eq id n then Some (DocElement tag space (set_attribute attributes name namespace value) ls) else None
altered_once n (CreateEventListener id name) (DocElement tag space attributes ls) =
    if nat_eq id n
    then (if has_text ls name then None else Some (DocElement tag space attributes (with_listener ls name)))
    else None
altered_once n (RemoveEventListener id name) (DocElement tag space attributes ls) =
    if nat_eq id n
    then (if has_text ls name then Some (DocElement tag space attributes (without_listener ls name)) else None)
    else None
altered_once n _ _ = None

-- one step and then another one, where the first gave something
abbrev pub and_altered : Option Content → (Content → Option Content) → Option Content
and_altered None go = None
and_altered (Some content) go = go content

-- what the element with a number is after several such edits
abbrev pub altered : ℕ → List Edit → Content → Option Content
altered n [] content = Some content
altered n (e ∷ es) content = and_altered (altered_once n e content) (λ c. altered n es c)
