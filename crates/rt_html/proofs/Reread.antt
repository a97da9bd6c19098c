-- Names, texts and attributes are read as they were spelt.
use Rattle.std.proofs.Common.{◌≡◌, Bool, true, false, ◌&&◌, not, subst, ℕ, List, [], ◌∷◌, ◌++◌, Option, Some, None, if◌then◌else◌, nat_eq, length, refl, sym, ap, ap₂, ◌∙◌, ⊎_elim, append_assoc, append-nil}
use Rattle.std.specs.Prelude.{codes}
use Rattle.std.specs.List.{flat_map, fold, list_all, onto_first, slice_split}
use Rattle.std.proofs.lemmas.Bool.{and_parts, both_ways, cases_Bool, eqb-true, ne_eqb, not-true}
use Rattle.std.proofs.lemmas.List.Elements.{All-nil, All-cons, All-head, All-tail, All-append}
use Rattle.std.proofs.lemmas.List.Splits.{slice_split_at, slice_split_none, slice_split-cons_no, slice_split-cons_yes}
use Rattle.rt_language.specs.Lines.{qualified}
use Rattle.rt_model.specs.Document.{DocAttribute}
use Rattle.rt_values.specs.Naming.{is_name, is_name_byte}
use Rattle.rt_html.specs.Parts.{Taking, attribute_by, attributes_in, behind, name_before, name_by, name_in, named_first, or_else, parts_at, parts_read, past, take_part, unescaped, unnamed, up_to}
use Rattle.rt_html.specs.Spelling.{attribute_html, attributes_namable, escape, escaped, is_namespace, named_or}
use Rattle.rt_html.proofs.Cuts.{Free, Other, behind-append, past-at, past-free, up_to-at, up_to-free}

-- names hold no byte that stands in no name

bytes_free : (code : ℕ) → is_name_byte code ≡ false → (bytes : List ℕ) → list_all is_name_byte bytes ≡ true → Free code bytes
bytes_free code isnt [] all = All-nil (Other code)
bytes_free code isnt (byte ∷ bytes) all =
    let both = and_parts (is_name_byte byte) (list_all is_name_byte bytes) all in
    All-cons (Other code) byte bytes (ne_eqb byte code (λ e. both_ways (is_name_byte code) isnt (ap is_name_byte (sym e) ∙ both.0)))
    (bytes_free code isnt bytes both.1)

name_bytes : (name : List ℕ) → is_name name ≡ true → list_all is_name_byte name ≡ true
name_bytes name h = (and_parts (not (nat_eq (length name) 0)) (list_all is_name_byte name) h).1

pub name_free : (code : ℕ) → is_name_byte code ≡ false → (name : List ℕ) → is_name name ≡ true → Free code name
name_free code isnt name h = bytes_free code isnt name (name_bytes name h)

-- with its namespace, where it isn't the colon
pub qualified_free : (code : ℕ) → is_name_byte code ≡ false → nat_eq 58 code ≡ false → (namespace : Option (List ℕ)) (name : List ℕ)
    → is_namespace namespace ≡ true → is_name name ≡ true → Free code (qualified namespace name)
qualified_free code isnt colon None name space h = name_free code isnt name h
qualified_free code isnt colon (Some namespace) name space h =
    All-append (Other code) (namespace ++ codes ":") name
    (All-append (Other code) namespace (codes ":") (name_free code isnt namespace space) (All-cons (Other code) 58 [] colon (All-nil (Other code))))
    (name_free code isnt name h)

-- a name in a namespace
abbrev in_space : List ℕ → List ℕ → Option (List ℕ) × List ℕ
in_space namespace name = (Some namespace, name)

-- a name is read as it was spelt
pub name-back : (namespace : Option (List ℕ)) (name : List ℕ) → is_namespace namespace ≡ true → is_name name ≡ true
    → name_in (qualified namespace name) ≡ (namespace, name)
name-back None name space h = ap (λ (o : Option (List ℕ)). name_by o name) (past-free 58 name (name_free 58 refl name h))
name-back (Some namespace) name space h =
    let free : Free 58 namespace = name_free 58 refl namespace space in
    let whole : (namespace ++ codes ":") ++ name ≡ namespace ++ 58 ∷ name = append_assoc namespace (codes ":") name in
    ap name_in whole
    ∙ ap (λ (o : Option (List ℕ)). name_by o (namespace ++ 58 ∷ name)) (past-at 58 namespace name free)
    ∙ ap (λ (t : List ℕ). in_space t name) (up_to-at 58 namespace name free)

-- a text that is spelt so holds no `"`, `<` and `>`

-- what of a byte and its spelling holds of the five names and of each other byte holds of all
by_name : (P : ℕ → List ℕ → Type 0) → P 38 (codes "&amp;") → P 60 (codes "&lt;") → P 62 (codes "&gt;") → P 34 (codes "&quot;") → P 10 (codes "&#10;")
    → ((byte : ℕ) → nat_eq byte 38 ≡ false → nat_eq byte 60 ≡ false → nat_eq byte 62 ≡ false → nat_eq byte 34 ≡ false → P byte (byte ∷ []))
    → (byte : ℕ) → P byte (escape byte)
by_name P ampersand less greater quote newline other byte =
    code_of 38 ampersand
    (λ not_ampersand. code_of 60 less
    (λ not_less. code_of 62 greater
    (λ not_greater. code_of 34 quote
    (λ not_quote. code_of 10 newline
    (λ not_newline.
    let plain : escape byte ≡ byte ∷ [] = rw (not_ampersand, not_less, not_greater, not_quote, not_newline) refl in
    subst (P byte) (sym plain) (other byte not_ampersand not_less not_greater not_quote))))))
  where
    code_of : (code : ℕ) → P code (escape code) → (nat_eq byte code ≡ false → P byte (escape byte)) → P byte (escape byte)
    code_of code is isnt = ⊎_elim (λ (t : nat_eq byte code ≡ true). subst (λ (b : ℕ). P b (escape b)) (sym (eqb-true byte code t)) is)
        (λ (f : nat_eq byte code ≡ false). isnt f) (cases_Bool (nat_eq byte code))

-- bytes of a word, by a test that computes
pub word_free : (code : ℕ) (word : List ℕ) → list_all (λ (b : ℕ). not (nat_eq b code)) word ≡ true → Free code word
word_free code [] all = All-nil (Other code)
word_free code (byte ∷ word) all =
    let both = and_parts (not (nat_eq byte code)) (list_all (λ (b : ℕ). not (nat_eq b code)) word) all in
    All-cons (Other code) byte word (not-true (nat_eq byte code) both.0) (word_free code word both.1)

-- a text that is spelt holds none of a code that none of its bytes' spellings holds
each_free : (code : ℕ) → ((byte : ℕ) → Free code (escape byte)) → (text : List ℕ) → Free code (escaped text)
each_free code each [] = All-nil (Other code)
each_free code each (byte ∷ text) = All-append (Other code) (escape byte) (escaped text) (each byte) (each_free code each text)

pub alone : (code byte : ℕ) → nat_eq byte code ≡ false → Free code (byte ∷ [])
alone code byte other = All-cons (Other code) byte [] other (All-nil (Other code))

pub no_quote : (text : List ℕ) → Free 34 (escaped text)
no_quote = each_free 34 (by_name (λ byte spelt. Free 34 spelt) (word_free 34 (codes "&amp;") refl) (word_free 34 (codes "&lt;") refl)
    (word_free 34 (codes "&gt;") refl) (word_free 34 (codes "&quot;") refl) (word_free 34 (codes "&#10;") refl)
    (λ byte not_ampersand not_less not_greater not_quote. alone 34 byte not_quote))

pub no_less : (text : List ℕ) → Free 60 (escaped text)
no_less = each_free 60 (by_name (λ byte spelt. Free 60 spelt) (word_free 60 (codes "&amp;") refl) (word_free 60 (codes "&lt;") refl)
    (word_free 60 (codes "&gt;") refl) (word_free 60 (codes "&quot;") refl) (word_free 60 (codes "&#10;") refl)
    (λ byte not_ampersand not_less not_greater not_quote. alone 60 byte not_less))

pub no_greater : (text : List ℕ) → Free 62 (escaped text)
no_greater = each_free 62 (by_name (λ byte spelt. Free 62 spelt) (word_free 62 (codes "&amp;") refl) (word_free 62 (codes "&lt;") refl)
    (word_free 62 (codes "&gt;") refl) (word_free 62 (codes "&quot;") refl) (word_free 62 (codes "&#10;") refl)
    (λ byte not_ampersand not_less not_greater not_quote. alone 62 byte not_greater))

-- the parts of a text, of which there is a first one
pub some_part : (code : ℕ) (text : List ℕ) → (first : List ℕ) × (later : List (List ℕ)) × (parts_at code text ≡ first ∷ later)
some_part code [] = ([], [], refl)
some_part code (byte ∷ text) =
    let before = some_part code text in
    ⊎_elim (λ (t : nat_eq byte code ≡ true). ([], parts_at code text, slice_split-cons_yes (λ (b : ℕ). nat_eq b code) byte text t))
    (λ (f : nat_eq byte code ≡ false). (
      byte ∷ before.0,
      before.1,
      slice_split-cons_no (λ (b : ℕ). nat_eq b code) byte text f
          ∙ ap (onto_first byte) before.2,
    ))
    (cases_Bool (nat_eq byte code))

-- bytes before a text belong to its first part
onto : (code : ℕ) (bytes text : List ℕ) → Free code bytes → (first : List ℕ) (later : List (List ℕ)) → parts_at code text ≡ first ∷ later
    → parts_at code (bytes ++ text) ≡ (bytes ++ first) ∷ later
onto code [] text free first later e = e
onto code (byte ∷ bytes) text free first later e =
    slice_split-cons_no (λ (b : ℕ). nat_eq b code) byte (bytes ++ text) (All-head (Other code) byte bytes free)
    ∙ ap (onto_first byte) (onto code bytes text (All-tail (Other code) byte bytes free) first later e)

-- one more byte before a text, by its name or as it is
abbrev Reads : ℕ → List ℕ → Type 0
Reads byte spelt = (text : List ℕ) → unescaped (spelt ++ text) ≡ byte ∷ unescaped text

by_its_name : (code : ℕ) (name : List ℕ) → Free 38 name → ((rest : List ℕ) → unnamed (name ++ rest) ≡ code ∷ rest) → Reads code (38 ∷ name)
by_its_name code name free named text =
    let parts = some_part 38 text in
    ap (parts_read true) (slice_split-cons_yes (λ (b : ℕ). nat_eq b 38) 38 (name ++ text) refl
    ∙ ap (λ (later : List (List ℕ)). [] ∷ later) (onto 38 name text free parts.0 parts.1 parts.2))
    ∙ ap (λ (t : List ℕ). t ++ parts_read false parts.1) (named parts.0)
    ∙ ap (λ (all : List (List ℕ)). code ∷ parts_read true all) (sym parts.2)

as_it_is : (byte : ℕ) → nat_eq byte 38 ≡ false → Reads byte (byte ∷ [])
as_it_is byte other text =
    let parts = some_part 38 text in
    ap (parts_read true) (onto 38 (byte ∷ []) text (alone 38 byte other) parts.0 parts.1 parts.2)
    ∙ ap (λ (all : List (List ℕ)). byte ∷ parts_read true all) (sym parts.2)

one_byte : (byte : ℕ) → Reads byte (escape byte)
one_byte = by_name Reads
    (by_its_name 38 (codes "amp;") (word_free 38 (codes "amp;") refl) (λ rest. refl))
    (by_its_name 60 (codes "lt;") (word_free 38 (codes "lt;") refl) (λ rest. refl))
    (by_its_name 62 (codes "gt;") (word_free 38 (codes "gt;") refl) (λ rest. refl))
    (by_its_name 34 (codes "quot;") (word_free 38 (codes "quot;") refl) (λ rest. refl))
    (by_its_name 10 (codes "#10;") (word_free 38 (codes "#10;") refl) (λ rest. refl))
    (λ byte not_ampersand not_less not_greater not_quote. as_it_is byte not_ampersand)

-- a text is read as it was spelt
pub text-back : (text : List ℕ) → unescaped (escaped text) ≡ text
text-back [] = refl
text-back (byte ∷ text) = one_byte byte (escaped text) ∙ ap (λ (later : List ℕ). byte ∷ later) (text-back text)

-- a name begins with a byte of names
pub first_byte : (namespace : Option (List ℕ)) (name : List ℕ) → is_namespace namespace ≡ true → is_name name ≡ true
    → (byte : ℕ) × (rest : List ℕ) × (is_name_byte byte ≡ true) × (qualified namespace name ≡ byte ∷ rest)
first_byte None [] space h = absurd (both_ways (is_name []) refl h)
first_byte None (byte ∷ name) space h =
    (byte, name, (and_parts (is_name_byte byte) (list_all is_name_byte name) (name_bytes (byte ∷ name) h)).0, refl)
first_byte (Some []) name space h = absurd (both_ways (is_name []) refl space)
first_byte (Some (byte ∷ namespace)) name space h =
    let first : is_name_byte byte ≡ true =
    (and_parts (is_name_byte byte) (list_all is_name_byte namespace) (name_bytes (byte ∷ namespace) space)).0 in
    (byte, (namespace ++ codes ":") ++ name, first, refl)

-- so it doesn't begin with bytes whose first one stands in no name
pub behind_none : (code : ℕ) (first : List ℕ) → is_name_byte code ≡ false → (namespace : Option (List ℕ)) (name later : List ℕ)
    → is_namespace namespace ≡ true → is_name name ≡ true → behind (code ∷ first) (qualified namespace name ++ later) ≡ None
behind_none code first isnt namespace name later space h =
    let begin = first_byte namespace name space h in
    let other : nat_eq begin.0 code ≡ false = ne_eqb begin.0 code (λ e. both_ways (is_name_byte code) isnt (ap is_name_byte (sym e) ∙ begin.2)) in
    ap (λ (t : List ℕ). behind (code ∷ first) (t ++ later)) begin.3
    ∙ ap (λ (t : Bool). if t then behind first (begin.1 ++ later) else None) other

-- attributes

-- how an attribute is spelt behind its space
abbrev pub bare_html : DocAttribute → List ℕ
bare_html a = qualified a.namespace a.name ++ (codes "=\"" ++ (escaped a.value ++ codes "\""))

abbrev IsGood : DocAttribute → Type 0
IsGood a = (is_name a.name ≡ true) × (is_namespace a.namespace ≡ true)

-- with or without a space, it is read as it was spelt
attribute-back : (a : DocAttribute) → IsGood a → (before : List ℕ) → or_else (behind (codes " ") before) before ≡ qualified a.namespace a.name ++ codes "="
    → attribute_by (name_before before) (escaped a.value) ≡ a
attribute-back a good before bare =
    let name : name_before before ≡ (a.namespace, a.name) =
    ap (λ (t : List ℕ). name_in (up_to 61 t)) bare
    ∙ ap name_in (up_to-at 61 (qualified a.namespace a.name) [] (qualified_free 61 refl refl a.namespace a.name good.1 good.0))
    ∙ name-back a.namespace a.name good.1 good.0 in
    λ i. record { name = (name i).1; namespace = (name i).0; value = text-back a.value i }

-- what stands before its value, and its value, are two parts
two_parts : (a : DocAttribute) → IsGood a → (lead more : List ℕ) → Free 34 lead
    → parts_at 34 (lead ++ (bare_html a ++ more)) ≡ (lead ++ (qualified a.namespace a.name ++ codes "=")) ∷ escaped a.value ∷ parts_at 34 more
two_parts a good lead more free =
    let name : List ℕ = qualified a.namespace a.name in
    let before : List ℕ = lead ++ (name ++ codes "=") in
    let p = λ (b : ℕ). nat_eq b 34 in
    let before_free : Free 34 before = All-append (Other 34) lead (name ++ codes "=") free
    (All-append (Other 34) name (codes "=") (qualified_free 34 refl refl a.namespace a.name good.1 good.0) (alone 34 61 refl)) in
    let inside : bare_html a ++ more ≡ (name ++ codes "=") ++ 34 ∷ (escaped a.value ++ 34 ∷ more) =
    append_assoc name (codes "=\"" ++ (escaped a.value ++ codes "\"")) more
    ∙ ap (λ (t : List ℕ). name ++ (61 ∷ 34 ∷ t)) (append_assoc (escaped a.value) (codes "\"") more)
    ∙ sym (append_assoc name (codes "=") (34 ∷ (escaped a.value ++ 34 ∷ more))) in
    ap (parts_at 34) (ap (λ (t : List ℕ). lead ++ t) inside ∙ sym (append_assoc lead (name ++ codes "=") (34 ∷ (escaped a.value ++ 34 ∷ more))))
    ∙ slice_split_at p before 34 (escaped a.value ++ 34 ∷ more) before_free refl
    ∙ ap (λ (later : List (List ℕ)). before ∷ later) (slice_split_at p (escaped a.value) 34 more (no_quote a.value) refl)

abbrev so_far : List DocAttribute → Taking
so_far done = record { done = done; held = None }

-- they are taken as this attribute
one_taken : (a : DocAttribute) → IsGood a → (lead more : List ℕ) → Free 34 lead
    → or_else (behind (codes " ") (lead ++ (qualified a.namespace a.name ++ codes "="))) (lead ++ (qualified a.namespace a.name ++ codes "="))
    ≡ qualified a.namespace a.name ++ codes "="
    → (done : List DocAttribute)
    → fold take_part (so_far done) (parts_at 34 (lead ++ (bare_html a ++ more))) ≡ fold take_part (so_far (done ++ a ∷ [])) (parts_at 34 more)
one_taken a good lead more free bare done =
    ap (fold take_part (so_far done)) (two_parts a good lead more free)
    ∙ ap (λ (b : DocAttribute). fold take_part (so_far (done ++ b ∷ [])) (parts_at 34 more))
    (attribute-back a good (lead ++ (qualified a.namespace a.name ++ codes "=")) bare)

good_ones : (a : DocAttribute) (attributes : List DocAttribute) → attributes_namable (a ∷ attributes) ≡ true
    → IsGood a × (attributes_namable attributes ≡ true)
good_ones a attributes h =
    let both = and_parts (is_name a.name && is_namespace a.namespace) (attributes_namable attributes) h in
    (and_parts (is_name a.name) (is_namespace a.namespace) both.0, both.1)

-- attributes behind others
all_taken : (attributes : List DocAttribute) → attributes_namable attributes ≡ true → (done : List DocAttribute)
    → (fold take_part (so_far done) (parts_at 34 (flat_map attribute_html attributes))).done ≡ done ++ attributes
all_taken [] h done = sym (append-nil done)
all_taken (a ∷ attributes) h done =
    let good = good_ones a attributes h in
    ap (λ (t : Taking). t.done) (one_taken a good.0 (codes " ") (flat_map attribute_html attributes) (alone 34 32 refl) refl done)
    ∙ all_taken attributes good.1 (done ++ a ∷ [])
    ∙ append_assoc done (a ∷ []) attributes

-- attributes without the first one's space
pub attributes-back : (a : DocAttribute) (attributes : List DocAttribute) → attributes_namable (a ∷ attributes) ≡ true
    → attributes_in (bare_html a ++ flat_map attribute_html attributes) ≡ a ∷ attributes
attributes-back a attributes h =
    let good = good_ones a attributes h in
    ap (λ (t : Taking). t.done)
    (one_taken a good.0 [] (flat_map attribute_html attributes) (All-nil (Other 34))
    (ap (λ (o : Option (List ℕ)). or_else o (qualified a.namespace a.name ++ codes "="))
    (behind_none 32 [] refl a.namespace a.name (codes "=") good.0.1 good.0.0)) [])
    ∙ all_taken attributes good.1 (a ∷ [])

-- attributes hold no `<` and no `>`
pub attributes_free : (code : ℕ) → is_name_byte code ≡ false → nat_eq 58 code ≡ false → nat_eq 61 code ≡ false → nat_eq 34 code ≡ false
    → nat_eq 32 code ≡ false → ((text : List ℕ) → Free code (escaped text)) → (attributes : List DocAttribute)
    → attributes_namable attributes ≡ true → Free code (flat_map attribute_html attributes)
attributes_free code isnt colon equal quote space value [] h = All-nil (Other code)
attributes_free code isnt colon equal quote space value (a ∷ attributes) h =
    let good = good_ones a attributes h in
    let name : List ℕ = qualified a.namespace a.name in
    let behind_it : List ℕ = escaped a.value ++ codes "\"" in
    All-append (Other code) (attribute_html a) (flat_map attribute_html attributes)
    (All-cons (Other code) 32 (bare_html a) space (All-append (Other code) name (61 ∷ 34 ∷ behind_it)
    (qualified_free code isnt colon a.namespace a.name good.0.1 good.0.0)
    (All-cons (Other code) 61 (34 ∷ behind_it) equal (All-cons (Other code) 34 behind_it quote
    (All-append (Other code) (escaped a.value) (codes "\"") (value a.value) (alone code 34 quote))))))
    (attributes_free code isnt colon equal quote space value attributes good.1)
