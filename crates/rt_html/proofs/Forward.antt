-- The spelling of nodes, read from its first token on, gives these nodes back.
use Rattle.std.proofs.Common.{◌≡◌, Bool, true, false, ◌&&◌, not, ℕ, ◌+◌, ◌-◌, List, [], ◌∷◌, ◌++◌, length, map, drop, Option, Some, None, if◌then◌else◌, nat_eq, nat_le, refl, sym, ap, ap₂, ◌∙◌, arith, append_assoc, append-nil}
use Rattle.std.specs.Prelude.{⊤, codes}
use Rattle.std.specs.List.{AllByRecursion, flat_map, fold}
use Rattle.std.proofs.lemmas.Bool.{and_parts, and_from, lt-leb, ne_eqb, not-true, eqb-false}
use Rattle.std.proofs.lemmas.List.Elements.{All-nil, All-cons, All-append}
use Rattle.std.proofs.lemmas.List.Splits.{slice_split_at, slice_split_none}
use Rattle.rt_language.specs.Lines.{qualified}
use Rattle.rt_model.specs.Document.{DocAttribute, Content, DocElement, DocText, DocPlaceholder, Forest, Empty, Node, join_rows}
use Rattle.rt_html.specs.Parts.{Opened, Standing, added, attributes_in, begin, begin_in, behind, end_by, end_or, finished, name_in, nodes_in, or_else, parts_at, past, placeholder_or, take_all, take_on, take_token, text_or, unescaped, up_to}
use Rattle.rt_html.specs.Reading.{are_fit, ascend, attributes_ascend}
use Rattle.rt_html.specs.Spelling.{attribute_html, attributes_namable, escaped, html, is_namable, is_namespace}
use Rattle.rt_html.specs.Tokens.{Token, Opens, Shuts, Says, Holds, body_html, plain, plain_node, tokens, tokens_html}
use Rattle.rt_values.specs.Naming.{is_name, is_name_byte}
use Rattle.rt_html.proofs.Back.{join-none}
use Rattle.rt_html.proofs.Cuts.{Free, Other, past-at, past-free, up_to-at, up_to-free}
use Rattle.rt_html.proofs.Reread.{alone, attributes-back, attributes_free, bare_html, behind_none, name-back, no_greater, no_less, qualified_free, text-back, word_free}
use Rattle.rt_html.proofs.Told.{told}

-- what a token does to what is read so far
abbrev step : Token → Standing → Option Standing
step (Opens namespace tag attributes) standing = begin namespace tag attributes standing
step (Shuts namespace tag) standing = end_by standing.opened standing.row
step (Says text) standing = Some (added (DocText text) Empty standing)
step Holds standing = Some (added DocPlaceholder Empty standing)

-- the names of a token can be spelt
abbrev IsNamable : Token → Type 0
IsNamable (Opens namespace tag attributes) = (is_name tag ≡ true) × (is_namespace namespace ≡ true) × (attributes_namable attributes ≡ true)
IsNamable (Shuts namespace tag) = (is_name tag ≡ true) × (is_namespace namespace ≡ true)
IsNamable (Says text) = ⊤
IsNamable Holds = ⊤

-- how an element begins is read as it was spelt
opens-back : (namespace : Option (List ℕ)) (tag : List ℕ) (attributes : List DocAttribute) → IsNamable (Opens namespace tag attributes)
    → (standing : Standing) → begin_in (qualified namespace tag ++ flat_map attribute_html attributes) standing ≡ begin namespace tag attributes standing
opens-back namespace tag [] good standing =
    let name : List ℕ = qualified namespace tag in
    let free : Free 32 name = qualified_free 32 refl refl namespace tag good.1 good.0 in
    ap (λ (t : List ℕ). begin_in t standing) (append-nil name)
    ∙ ap₂ (λ (t : List ℕ) (o : Option (List ℕ)). begin (name_in t).0 (name_in t).1 (attributes_in (or_else o [])) standing) (up_to-free 32 name free) (past-free 32 name free)
    ∙ ap (λ (n : Option (List ℕ) × List ℕ). begin n.0 n.1 [] standing) (name-back namespace tag good.1 good.0)
opens-back namespace tag (a ∷ attributes) good standing =
    let name : List ℕ = qualified namespace tag in
    let free : Free 32 name = qualified_free 32 refl refl namespace tag good.1 good.0 in
    let later : List ℕ = bare_html a ++ flat_map attribute_html attributes in
    ap₂ (λ (t : List ℕ) (o : Option (List ℕ)). begin (name_in t).0 (name_in t).1 (attributes_in (or_else o [])) standing)
    (up_to-at 32 name later free) (past-at 32 name later free)
    ∙ ap₂ (λ (n : Option (List ℕ) × List ℕ) (list : List DocAttribute). begin n.0 n.1 list standing)
    (name-back namespace tag good.1 good.0) (attributes-back a attributes good.2)

-- so is each token
token-back : (token : Token) → IsNamable token → (standing : Standing) → take_token (body_html token) standing ≡ step token standing
token-back (Opens namespace tag attributes) good standing =
    let name : List ℕ = qualified namespace tag in
    let inner : List ℕ = flat_map attribute_html attributes in
    let later : List ℕ = inner ++ codes ">" in
    let body : List ℕ = name ++ later in
    let whole : body ≡ (name ++ inner) ++ 62 ∷ [] = sym (append_assoc name inner (codes ">")) in
    let free : Free 62 (name ++ inner) = All-append (Other 62) name inner (qualified_free 62 refl refl namespace tag good.1 good.0)
    (attributes_free 62 refl refl refl refl refl no_greater attributes good.2) in
    let opening : begin_in (up_to 62 body) standing ≡ begin namespace tag attributes standing =
    ap (λ (t : List ℕ). begin_in (up_to 62 t) standing) whole
    ∙ ap (λ (t : List ℕ). begin_in t standing) (up_to-at 62 (name ++ inner) [] free)
    ∙ opens-back namespace tag attributes good standing in
    ap (λ (o : Option (List ℕ)). text_or o standing (placeholder_or (behind (codes "!--p-->") body) standing
    (end_or (behind (codes "/") body) standing (begin_in (up_to 62 body) standing))))
    (behind_none 33 (codes "--t-->") refl namespace tag later good.1 good.0)
    ∙ ap (λ (o : Option (List ℕ)). placeholder_or o standing (end_or (behind (codes "/") body) standing (begin_in (up_to 62 body) standing)))
    (behind_none 33 (codes "--p-->") refl namespace tag later good.1 good.0)
    ∙ ap (λ (o : Option (List ℕ)). end_or o standing (begin_in (up_to 62 body) standing)) (behind_none 47 [] refl namespace tag later good.1 good.0)
    ∙ opening
token-back (Shuts namespace tag) good standing = refl
token-back (Says text) good standing = ap (λ (t : List ℕ). Some (added (DocText t) Empty standing)) (text-back text)
token-back Holds good standing = refl

-- rows one after another
join-join : (f g h : Forest) → join_rows (join_rows f g) h ≡ join_rows f (join_rows g h)
join-join Empty g h = refl
join-join (Node number content children rest) g h = ap (λ (later : Forest). Node number content children later) (join-join rest g h)

-- what a node that is fit says of its parts
pub record Fit (levels : ℕ) (content : Content) (children rest : Forest) : Type 0 where
  pub some : (levels ≡ 0) → ⊥
  pub namable : is_namable content ≡ true
  pub rising : attributes_ascend content ≡ true
  pub below : are_fit (levels - 1) children ≡ true
  pub behind : are_fit levels rest ≡ true

fit_parts : (levels number : ℕ) (content : Content) (children rest : Forest) → are_fit levels (Node number content children rest) ≡ true
    → Fit levels content children rest
fit_parts levels number content children rest h =
    let two = and_parts _ _ h in
    let first = and_parts _ _ two.0 in
    let second = and_parts _ _ first.1 in
    let third = and_parts _ _ second.1 in
    record {
      some = λ e. eqb-false levels 0 (not-true (nat_eq levels 0) first.0) e;
      namable = second.0;
      rising = third.0;
      below = third.1;
      behind = two.1;
    }

element_parts : (namespace : Option (List ℕ)) (tag : List ℕ) (attributes : List DocAttribute) (listeners : List (List ℕ))
    → is_namable (DocElement tag namespace attributes listeners) ≡ true → IsNamable (Opens namespace tag attributes)
element_parts namespace tag attributes listeners h =
    let first = and_parts _ _ h in
    let second = and_parts _ _ first.1 in
    (first.0, second.0, second.1)

abbrev standing_at : Forest → List Opened → Option Standing
standing_at row opened = Some (record { row = row; opened = opened })

-- one token before others
one_on : (token : Token) → IsNamable token → (later : List (List ℕ)) (row : Forest) (opened : List Opened)
    → fold take_on (standing_at row opened) (body_html token ∷ later) ≡ fold take_on (step token (record { row = row; opened = opened })) later
one_on token good later row opened =
    ap (λ (o : Option Standing). fold take_on o later) (token-back token good (record { row = row; opened = opened }))

-- one more node in the row, and then others
added_on : (row : Forest) (content : Content) (below later : Forest)
    → join_rows (join_rows row (Node 0 content below Empty)) later ≡ join_rows row (Node 0 content below later)
added_on row content below later = join-join row (Node 0 content below Empty) later

-- the tokens of nodes before others
nodes_on : (f : Forest) (levels : ℕ) → are_fit levels f ≡ true → (row : Forest) (opened : List Opened) → levels + length opened ≡ 1024 → (later : List Token)
    → fold take_on (standing_at row opened) (map body_html (tokens f ++ later)) ≡ fold take_on (standing_at (join_rows row (plain f)) opened) (map body_html later)
nodes_on Empty levels fit row opened deep later = ap (λ (r : Forest). fold take_on (standing_at r opened) (map body_html later)) (sym (join-none row))
nodes_on (Node number (DocText text) children rest) levels fit row opened deep later =
    let good = fit_parts levels number (DocText text) children rest fit in
    one_on (Says text) tt (map body_html (tokens rest ++ later)) row opened
    ∙ nodes_on rest levels good.behind (join_rows row (Node 0 (DocText text) Empty Empty)) opened deep later
    ∙ ap (λ (r : Forest). fold take_on (standing_at r opened) (map body_html later)) (added_on row (DocText text) Empty (plain rest))
nodes_on (Node number DocPlaceholder children rest) levels fit row opened deep later =
    let good = fit_parts levels number DocPlaceholder children rest fit in
    one_on Holds tt (map body_html (tokens rest ++ later)) row opened
    ∙ nodes_on rest levels good.behind (join_rows row (Node 0 DocPlaceholder Empty Empty)) opened deep later
    ∙ ap (λ (r : Forest). fold take_on (standing_at r opened) (map body_html later)) (added_on row DocPlaceholder Empty (plain rest))
nodes_on (Node number (DocElement tag namespace attributes listeners) children rest) levels fit row opened deep later =
    let good = fit_parts levels number (DocElement tag namespace attributes listeners) children rest fit in
    let named : IsNamable (Opens namespace tag attributes) = element_parts namespace tag attributes listeners good.namable in
    let element : Opened = record { namespace = namespace; tag = tag; attributes = attributes; before = row } in
    let behind_it : List Token = Shuts namespace tag ∷ (tokens rest ++ later) in
    let whole : tokens (Node number (DocElement tag namespace attributes listeners) children rest) ++ later ≡ Opens namespace tag attributes ∷ (tokens children ++ behind_it) =
    ap (λ (ts : List Token). Opens namespace tag attributes ∷ ts) (append_assoc (tokens children) (Shuts namespace tag ∷ tokens rest) later) in
    let some : (levels ≡ 0) → ⊥ = good.some in
    let room : nat_le 1024 (length opened) ≡ false = lt-leb 1024 (length opened) (omega (arith, deep, some)) in
    let deeper : (levels - 1) + length (element ∷ opened) ≡ 1024 = omega (arith, deep, some) in
    let node : Forest = Node 0 (DocElement tag namespace attributes []) (plain children) Empty in
    ap (λ (ts : List Token). fold take_on (standing_at row opened) (map body_html ts)) whole
    ∙ one_on (Opens namespace tag attributes) named (map body_html (tokens children ++ behind_it)) row opened
    ∙ ap (λ (b : Bool). fold take_on (if b then None else standing_at Empty (element ∷ opened)) (map body_html (tokens children ++ behind_it))) room
    ∙ nodes_on children (levels - 1) good.below Empty (element ∷ opened) deeper behind_it
    ∙ one_on (Shuts namespace tag) (named.0, named.1) (map body_html (tokens rest ++ later)) (plain children) (element ∷ opened)
    ∙ nodes_on rest levels good.behind (join_rows row node) opened deep later
    ∙ ap (λ (r : Forest). fold take_on (standing_at r opened) (map body_html later)) (added_on row (DocElement tag namespace attributes []) (plain children) (plain rest))

-- no token but its own `<` holds one
body_free : (token : Token) → IsNamable token → Free 60 (body_html token)
body_free (Opens namespace tag attributes) good =
    All-append (Other 60) (qualified namespace tag) (flat_map attribute_html attributes ++ codes ">")
    (qualified_free 60 refl refl namespace tag good.1 good.0)
    (All-append (Other 60) (flat_map attribute_html attributes) (codes ">")
    (attributes_free 60 refl refl refl refl refl no_less attributes good.2) (alone 60 62 refl))
body_free (Shuts namespace tag) good =
    All-cons (Other 60) 47 (qualified namespace tag ++ codes ">") refl
    (All-append (Other 60) (qualified namespace tag) (codes ">") (qualified_free 60 refl refl namespace tag good.1 good.0) (alone 60 62 refl))
body_free (Says text) good = All-append (Other 60) (codes "!--t-->") (escaped text) (word_free 60 (codes "!--t-->") refl) (no_less text)
body_free Holds good = word_free 60 (codes "!--p-->") refl

both_named : (first later : List Token) → AllByRecursion IsNamable first → AllByRecursion IsNamable later → AllByRecursion IsNamable (first ++ later)
both_named [] later a b = b
both_named (token ∷ first) later a b = (a.0, both_named first later a.1 b)

all_named : (f : Forest) (levels : ℕ) → are_fit levels f ≡ true → AllByRecursion IsNamable (tokens f)
all_named Empty levels fit = tt
all_named (Node number (DocText text) children rest) levels fit = (tt, all_named rest levels (fit_parts levels number (DocText text) children rest fit).behind)
all_named (Node number DocPlaceholder children rest) levels fit = (tt, all_named rest levels (fit_parts levels number DocPlaceholder children rest fit).behind)
all_named (Node number (DocElement tag namespace attributes listeners) children rest) levels fit =
    let good = fit_parts levels number (DocElement tag namespace attributes listeners) children rest fit in
    let named : IsNamable (Opens namespace tag attributes) = element_parts namespace tag attributes listeners good.namable in (
      named,
      both_named (tokens children) (Shuts namespace tag ∷ tokens rest) (all_named children (levels - 1) good.below)
          ((named.0, named.1), all_named rest levels good.behind),
    )

-- so the parts of a spelling between its `<` are the bodies of its tokens
parts_from : (bytes : List ℕ) → Free 60 bytes → (all : List Token) → AllByRecursion IsNamable all
    → parts_at 60 (bytes ++ tokens_html all) ≡ bytes ∷ map body_html all
parts_from bytes free [] named = ap (parts_at 60) (append-nil bytes) ∙ slice_split_none (λ (b : ℕ). nat_eq b 60) bytes free
parts_from bytes free (token ∷ all) named =
    slice_split_at (λ (b : ℕ). nat_eq b 60) bytes 60 (body_html token ++ tokens_html all) free refl
    ∙ ap (λ (later : List (List ℕ)). bytes ∷ later) (parts_from (body_html token) (body_free token named.0) all named.1)

-- what is read of the spelling of tokens
read_tokens : (all : List Token) → AllByRecursion IsNamable all → nodes_in (tokens_html all) ≡ finished (take_all (map body_html all))
read_tokens [] named = refl
read_tokens (token ∷ all) named =
    ap (λ (parts : List (List ℕ)). finished (take_all parts)) (parts_from (body_html token) (body_free token named.0) all named.1)

-- nodes that are fit are read as they were spelt
pub spelling-back : (f : Forest) → are_fit 1024 f ≡ true → nodes_in (html f) ≡ Some (plain f)
spelling-back f fit =
    ap nodes_in (told f)
    ∙ read_tokens (tokens f) (all_named f 1024 fit)
    ∙ ap (λ (ts : List Token). finished (take_all (map body_html ts))) (sym (append-nil (tokens f)))
    ∙ ap finished (nodes_on f 1024 fit Empty [] refl [])

-- what comes back is fit too
pub plain_fit : (f : Forest) (levels : ℕ) → are_fit levels f ≡ true → are_fit levels (plain f) ≡ true
plain_fit Empty levels fit = refl
plain_fit (Node number (DocText text) children rest) levels fit =
    let two = and_parts _ _ fit in
    let first = and_parts _ _ two.0 in
    and_from _ _ (and_from _ _ first.0 refl) (plain_fit rest levels two.1)
plain_fit (Node number DocPlaceholder children rest) levels fit =
    let two = and_parts _ _ fit in
    let first = and_parts _ _ two.0 in
    and_from _ _ (and_from _ _ first.0 refl) (plain_fit rest levels two.1)
plain_fit (Node number (DocElement tag namespace attributes listeners) children rest) levels fit =
    let good = fit_parts levels number (DocElement tag namespace attributes listeners) children rest fit in
    let named : Bool = is_namable (DocElement tag namespace attributes listeners) in
    let rising : Bool = ascend attributes in
    let below : Bool = are_fit (levels - 1) (plain children) in
    let some : not (nat_eq levels 0) ≡ true = ap not (ne_eqb levels 0 good.some) in
    and_from (not (nat_eq levels 0) && (named && (rising && below))) (are_fit levels (plain rest))
    (and_from (not (nat_eq levels 0)) (named && (rising && below)) some
    (and_from named (rising && below) good.namable (and_from rising below good.rising (plain_fit children (levels - 1) good.below))))
    (plain_fit rest levels good.behind)
