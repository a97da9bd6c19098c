-- What each step of a reader does to what is read so far.
use Rattle.std.proofs.Common.{◌≡◌, Bool, true, false, ℕ, List, [], ◌∷◌, ◌++◌, length, map, reverse, Option, Some, None, option_map, if◌then◌else◌, nat_le, refl, sym, ap, ap₂, ◌∙◌}
use Rattle.std.specs.Prelude.{Result, Ok, Err, OnOk, codes}
use Rattle.std.specs.Borrow.{Bor}
use Rattle.std.specs.List.{fold}
use Rattle.std.specs.Option.{is_none, unwrap_or}
use Rattle.std.proofs.lemmas.Bool.{true≢false}
use Rattle.std.proofs.lemmas.List.{length-map, length-reverse, nil_from_length, reverse-append}
use Rattle.rt_model.specs.Document.{Content, DocAttribute, DocElement, DocText, Forest, Empty, Node, join_rows}
use Rattle.tree_edits.specs.Documents.{doc_attribute_of}
use Rattle.rt_html.specs.declared.plain.Plain.{Plain}
use Rattle.rt_html.specs.declared.plain.Plain.TheVariants.{Element, Text}
use Rattle.rt_html.specs.declared.reader.Open.{Open}
use Rattle.rt_html.specs.declared.reader.Reader.{Reader}
use Rattle.rt_html.specs.declared.tokens.Begin.{Begin}
use Rattle.rt_html.specs.Parts.{Opened, Standing, added, attributes_in, begin, begin_in, behind, end_by, end_or, finished, finished_by, name_in, nodes_by, nodes_in, opened_of, or_else, parts_at, past, placeholder_or, standing_of, take_on, take_token, text_or, unescaped, up_to}
use Rattle.rt_html.specs.Reading.{plain_below, plain_content, plain_row}
use Rattle.rt_html.proofs.Plains.{below_Element, below_Text, content_Element, content_Text}

-- where nothing was refused
abbrev pub stands : Reader → Standing
stands reader = record { row = plain_row reader.row; opened = reverse (map opened_of reader.around) }

pub stands-open : (reader : Reader) → reader.is_refused ≡ false → standing_of reader ≡ Some (stands reader)
unfolding standing_of
stands-open reader free = ap (λ (b : Bool). if b then None else Some (stands reader)) free

pub stands-refused : (reader : Reader) → reader.is_refused ≡ true → standing_of reader ≡ None
unfolding standing_of
stands-refused reader refused = ap (λ (b : Bool). if b then None else Some (stands reader)) refused

some_standing : (a b : Standing) → Some a ≡ Some b → a ≡ b
some_standing a b e = ap (λ (o : Option Standing). unwrap_or o a) e

-- what stands says that nothing was refused, and is this
record Is (reader : Reader) (standing : Standing) : Type 0 where
  open_still : reader.is_refused ≡ false
  same : stands reader ≡ standing

is_standing : (reader : Reader) (standing : Standing) → standing_of reader ≡ Some standing → Is reader standing
is_standing reader standing h = by reader.is_refused refl
  where
    by : (refused : Bool) → reader.is_refused ≡ refused → Is reader standing
    by true e = absurd (true≢false (ap (λ (o : Option Standing). is_none o) (sym (stands-refused reader e) ∙ h)))
    by false e = record { open_still = e; same = some_standing (stands reader) standing (sym (stands-open reader e) ∙ h) }

-- one more node in a row
row_more : (row : List Plain) (node : Plain) → plain_row (row ++ node ∷ []) ≡ join_rows (plain_row row) (Node 0 (plain_content node) (plain_below node) Empty)
row_more [] node = refl
row_more (first ∷ row) node = ap (λ (later : Forest). Node 0 (plain_content first) (plain_below first) later) (row_more row node)

pub adds : (old new : Reader) (node : Plain) → new.row ≡ old.row ++ node ∷ [] → new.around ≡ old.around → new.is_refused ≡ old.is_refused
    → (standing : Standing) → standing_of old ≡ Some standing → standing_of new ≡ Some (added (plain_content node) (plain_below node) standing)
adds old new node row around refused standing h =
    let is = is_standing old standing h in
    let grown : stands new ≡ added (plain_content node) (plain_below node) (stands old) =
    ap₂ (λ (r : Forest) (o : List Opened). record { row = r; opened = o }) (ap plain_row row ∙ row_more old.row node)
    (ap (λ (all : List Open). reverse (map opened_of all)) around) in
    stands-open new (refused ∙ is.open_still)
    ∙ ap Some (grown ∙ ap (λ (s : Standing). added (plain_content node) (plain_below node) s) is.same)

-- one more element is open
map_last : (around : List Open) (element : Open) → map opened_of (around ++ element ∷ []) ≡ map opened_of around ++ opened_of element ∷ []
map_last [] element = refl
map_last (first ∷ around) element = ap (λ (later : List Opened). opened_of first ∷ later) (map_last around element)

-- the element that is open last
last_open : (around : List Open) (element : Open) → reverse (map opened_of (around ++ element ∷ [])) ≡ opened_of element ∷ reverse (map opened_of around)
last_open around element =
    ap reverse (map_last around element) ∙ reverse-append (map opened_of around) (opened_of element ∷ [])

as_many : (around : List Open) → length (reverse (map opened_of around)) ≡ length around
as_many around = length-reverse (map opened_of around) ∙ length-map around opened_of

-- an element begins
pub begins : (old new : Reader) (element : Open) (spelt : List ℕ) → new.row ≡ [] → new.around ≡ old.around ++ element ∷ [] → new.is_refused ≡ old.is_refused
    → element.before ≡ old.row → (element.begin.namespace, element.begin.tag) ≡ name_in (up_to 32 spelt)
    → map doc_attribute_of element.begin.attrs ≡ attributes_in (or_else (past 32 spelt) []) → nat_le 1024 (length old.around) ≡ false
    → (standing : Standing) → standing_of old ≡ Some standing → standing_of new ≡ begin_in spelt standing
begins old new element spelt row around refused before name attributes room standing h =
    let is = is_standing old standing h in
    let opened : Opened = opened_of element in
    let grown : stands new ≡ record { row = Empty; opened = opened ∷ reverse (map opened_of old.around) } =
    ap₂ (λ (r : Forest) (o : List Opened). record { row = r; opened = o }) (ap plain_row row)
    (ap (λ (all : List Open). reverse (map opened_of all)) around ∙ last_open old.around element) in
    let begun : begin_in spelt (stands old) ≡ Some (record { row = Empty; opened = opened ∷ reverse (map opened_of old.around) }) =
    ap₂ (λ (n : Option (List ℕ) × List ℕ) (list : List DocAttribute). begin n.0 n.1 list (stands old)) (sym name) (sym attributes)
    ∙ ap (λ (b : Bool). if b then None else Some (record {
      row = Empty;
      opened = record { namespace = element.begin.namespace; tag = element.begin.tag; attributes = map doc_attribute_of element.begin.attrs; before = plain_row old.row }
          ∷ reverse (map opened_of old.around);
    })) (ap (λ (n : ℕ). nat_le 1024 n) (as_many old.around) ∙ room)
    ∙ ap (λ (r : List Plain). Some (record {
      row = Empty;
      opened = record { namespace = element.begin.namespace; tag = element.begin.tag; attributes = map doc_attribute_of element.begin.attrs; before = plain_row r }
          ∷ reverse (map opened_of old.around);
    })) (sym before) in
    stands-open new (refused ∙ is.open_still) ∙ ap Some grown ∙ sym begun ∙ ap (λ (s : Standing). begin_in spelt s) is.same

-- none begins where 1,024 are open
pub begins_none : (old new : Reader) (spelt : List ℕ) → new.is_refused ≡ true → nat_le 1024 (length old.around) ≡ true
    → (standing : Standing) → standing_of old ≡ Some standing → standing_of new ≡ begin_in spelt standing
begins_none old new spelt refused full standing h =
    let is = is_standing old standing h in
    let name : Option (List ℕ) × List ℕ = name_in (up_to 32 spelt) in
    let attributes : List DocAttribute = attributes_in (or_else (past 32 spelt) []) in
    stands-refused new refused
    ∙ sym (ap (λ (b : Bool). if b then None else Some (record {
      row = Empty;
      opened = record { namespace = name.0; tag = name.1; attributes = attributes; before = plain_row old.row } ∷ reverse (map opened_of old.around);
    })) (ap (λ (n : ℕ). nat_le 1024 n) (as_many old.around) ∙ full))
    ∙ ap (λ (s : Standing). begin_in spelt s) is.same

-- an element ends
pub ends : (old new : Reader) (element : Open) → old.around ≡ new.around ++ element ∷ []
    → new.row ≡ element.before ++ Element element.begin.tag element.begin.namespace element.begin.attrs old.row ∷ [] → new.is_refused ≡ old.is_refused
    → (standing : Standing) → standing_of old ≡ Some standing → standing_of new ≡ end_by standing.opened standing.row
ends old new element around row refused standing h =
    let is = is_standing old standing h in
    let node : Plain = Element element.begin.tag element.begin.namespace element.begin.attrs old.row in
    let open_now : List Opened = reverse (map opened_of new.around) in
    let whole : plain_row new.row ≡ join_rows (plain_row element.before)
    (Node 0 (DocElement element.begin.tag element.begin.namespace (map doc_attribute_of element.begin.attrs) []) (plain_row old.row) Empty) =
    ap plain_row row ∙ row_more element.before node
    ∙ (λ i. join_rows (plain_row element.before) (Node 0 (content_Element element.begin.tag element.begin.namespace element.begin.attrs old.row i)
    (below_Element element.begin.tag element.begin.namespace element.begin.attrs old.row i) Empty)) in
    let opened : reverse (map opened_of old.around) ≡ opened_of element ∷ open_now =
    ap (λ (all : List Open). reverse (map opened_of all)) around ∙ last_open new.around element in
    stands-open new (refused ∙ is.open_still)
    ∙ ap (λ (r : Forest). Some (record { row = r; opened = open_now })) whole
    ∙ sym (ap (λ (o : List Opened). end_by o (plain_row old.row)) opened)
    ∙ ap (λ (s : Standing). end_by s.opened s.row) is.same

-- none ends where none is open
pub ends_none : (old new : Reader) → old.around ≡ [] → new.is_refused ≡ true
    → (standing : Standing) → standing_of old ≡ Some standing → standing_of new ≡ end_by standing.opened standing.row
ends_none old new around refused standing h =
    let is = is_standing old standing h in
    stands-refused new refused
    ∙ sym (ap (λ (all : List Open). end_by (reverse (map opened_of all)) (plain_row old.row)) around)
    ∙ ap (λ (s : Standing). end_by s.opened s.row) is.same

-- what is answered at the end
pub finishes_refused : (reader : Reader) → reader.is_refused ≡ true → finished (standing_of reader) ≡ None
finishes_refused reader refused = ap finished (stands-refused reader refused)

pub finishes : (reader : Reader) → reader.is_refused ≡ false → reader.around ≡ [] → finished (standing_of reader) ≡ Some (plain_row reader.row)
finishes reader open_still around =
    ap finished (stands-open reader open_still) ∙ ap (λ (all : List Open). finished_by (reverse (map opened_of all)) (plain_row reader.row)) around

left_open : (opened : List Opened) (row : Forest) → (length opened ≡ 0 → ⊥) → finished_by opened row ≡ None
left_open [] row some = absurd (some refl)
left_open (element ∷ opened) row some = refl

pub finishes_none : (reader : Reader) → reader.is_refused ≡ false → (reader.around ≡ [] → ⊥) → finished (standing_of reader) ≡ None
finishes_none reader open_still around =
    ap finished (stands-open reader open_still)
    ∙ left_open (reverse (map opened_of reader.around)) (plain_row reader.row)
    (λ e. around (nil_from_length reader.around (sym (as_many reader.around) ∙ e)))

pub ruleset ends_of_reading = (finishes_refused, finishes, finishes_none)

-- how a reader begins
pub at_start : (reader : Reader) → reader.row ≡ [] → reader.around ≡ [] → reader.is_refused ≡ false
    → standing_of reader ≡ Some (record { row = Empty; opened = [] })
at_start reader row around free =
    stands-open reader free
    ∙ ap₂ (λ (all : List Plain) (open_now : List Open). Some (record { row = plain_row all; opened = reverse (map opened_of open_now) })) row around

-- what is read of all parts behind the first `<` is what is read of the text
pub to_end : (text rest : List ℕ) (slices : List (Bor (List ℕ))) (begun ended : Reader)
    → standing_of ended ≡ fold take_on (standing_of begun) (map (λ (part : Bor (List ℕ)). part.now) slices)
    → standing_of begun ≡ Some (record { row = Empty; opened = [] }) → map (λ (part : Bor (List ℕ)). part.now) slices ≡ parts_at 60 rest
    → Some rest ≡ past 60 text → finished (standing_of ended) ≡ nodes_in text
to_end text rest slices begun ended went start cut behind_it =
    ap finished went
    ∙ ap₂ (λ (s : Option Standing) (parts : List (List ℕ)). finished (fold take_on s parts)) start cut
    ∙ ap nodes_by behind_it

-- a text behind its mark
pub text_taken : (part spelt text : List ℕ) (standing : Standing) → Some spelt ≡ behind (codes "!--t-->") part → text ≡ unescaped spelt
    → Some (added (plain_content (Text text)) (plain_below (Text text)) standing) ≡ take_token part standing
text_taken part spelt text standing begins_so same =
    ap₂ (λ (content : Content) (below : Forest). Some (added content below standing)) (content_Text text) (below_Text text)
    ∙ ap (λ (t : List ℕ). Some (added (DocText t) Empty standing)) same
    ∙ ap (λ (o : Option (List ℕ)). text_or o standing (placeholder_or (behind (codes "!--p-->") part) standing
    (end_or (behind (codes "/") part) standing (begin_in (up_to 62 part) standing)))) begins_so

-- what follows of what holds where a call succeeds
pub on_ok : {X E A B : Type 0} (r : Result X E) → OnOk r A → (A → B) → OnOk r B
on_ok (Ok x) h f = f h
on_ok (Err e) h f = tt
