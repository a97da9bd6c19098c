-- One more item of a list, one more member of an object, one more name.
use Rattle.std.proofs.Common.{◌≡◌, ◌<◌, ◌≤◌, ◌+◌, ◌++◌, ◌||◌, map, Bor, append_assoc, append-nil, bytes_eq, ℕ, suc, List, [], ◌∷◌, length, drop, drop-cons, add-one, slice_index_or, Option, Some, None, option_and_then, if◌then◌else◌, String, string_bytes, refl, ap, sym, ◌∙◌, arith}
use Rattle.std.specs.declared.alloc.Global.{Global}
use Rattle.std.proofs.lemmas.List.{drop_all}
use Rattle.serde_json.specs.Data.{Data}
use Rattle.serde_json.specs.View.{view, items_view, members_view}
use Rattle.serde_json.specs.declared.value.Value.{Value}
use Rattle.lang_expressions.specs.Keys.{is_one_of}
use Rattle.lang_expressions.specs.Names.{place_from}
use Rattle.lang_expressions.specs.Lists.{in_front, read_each, read_members, steps}

-- what was read so far, and the rest behind it where there is any
abbrev pub after : {A : Type 0} → List A → Option (List A) → Option (List A)
after before None = None
after before (Some rest) = Some (before ++ rest)

-- the key at a place decides, or those behind it do
pub one_of_next : (names : List (Bor (List ℕ))) (key : List ℕ) (at : ℕ) (name : Bor (List ℕ)) → at < length names → name ≡ slice_index_or names at name →
    is_one_of (map (λ name. name.now) (drop at names)) key ≡ (bytes_eq name.now key || is_one_of (map (λ name. name.now) (drop (at + 1) names)) key)
one_of_next names key at name below is =
    let next : at + 1 ≡ suc at = omega arith in
    let rest : drop (at + 1) names ≡ drop (suc at) names = ap (λ n. drop n names) next in
    rw (rest, drop-cons names at name, ← is) refl

-- the name at a place is one more to look at
pub place_next : (name : List ℕ) (names : List (List ℕ)) (at : ℕ) (next : List ℕ) (before : Option ℕ) → at < length names → next ≡ slice_index_or names at next →
    place_from at name (drop at names) before ≡ place_from (at + 1) name (drop (at + 1) names) (if bytes_eq next name then Some at else before)
place_next name names at next before below is =
    let one : at + 1 ≡ suc at = omega arith in
    let rest : drop (at + 1) names ≡ drop (suc at) names = ap (λ n. drop n names) one in
    rw (rest, drop-cons names at next, ← is) refl

after-in_front : {A : Type 0} → (before : List A) (x : A) (rest : Option (List A)) → after before (in_front (Some x) rest) ≡ after (before ++ x ∷ []) rest
after-in_front before x None = refl
after-in_front before x (Some xs) = ap Some (sym (append_assoc before (x ∷ []) xs))

-- ---- each item of a list

read_each-drop : {A : Type 0} → (reading : Data → Option A) (values : List Value) (at : ℕ) (value : Value) → at < length values → value ≡ slice_index_or values at value →
    read_each reading (items_view (drop at values)) ≡ in_front (reading (view value)) (read_each reading (items_view (drop (at + 1) values)))
unfolding read_each
read_each-drop reading values at value below is = rw (add-one, drop-cons values at value, ← is) refl

-- the item at a place was read
pub one_read : {A : Type 0} → (reading : Data → Option A) (values : List Value) (at : ℕ) (value : Value) (before : List A) (x : A) (whole : Option (List A)) →
    at < length values → value ≡ slice_index_or values at value → whole ≡ after before (read_each reading (items_view (drop at values))) → Some x ≡ reading (view value) →
    whole ≡ after (before ++ x ∷ []) (read_each reading (items_view (drop (at + 1) values)))
one_read reading values at value before x whole below is so_far read =
    let rest = read_each reading (items_view (drop (at + 1) values)) in
    so_far ∙ ap (after before) (read_each-drop reading values at value below is ∙ ap (λ o. in_front o rest) (sym read)) ∙ after-in_front before x rest

-- the item at a place was refused
pub one_refused : {A : Type 0} → (reading : Data → Option A) (values : List Value) (at : ℕ) (value : Value) (before : List A) (whole : Option (List A)) →
    at < length values → value ≡ slice_index_or values at value → whole ≡ after before (read_each reading (items_view (drop at values))) → None ≡ reading (view value) →
    None ≡ whole
one_refused reading values at value before whole below is so_far refused =
    let rest = read_each reading (items_view (drop (at + 1) values)) in
    sym (so_far ∙ ap (after before) (read_each-drop reading values at value below is ∙ ap (λ o. in_front o rest) (sym refused)))

-- the end was reached
pub all_read : {A : Type 0} → (reading : Data → Option A) (values : List Value) (at : ℕ) (before : List A) (whole : Option (List A)) →
    length values ≤ at → whole ≡ after before (read_each reading (items_view (drop at values))) → Some before ≡ whole
unfolding read_each
all_read reading values at before whole past so_far =
    let none : drop at values ≡ [] = drop_all at values past in
    sym (so_far ∙ ap (λ vs. after before (read_each reading (items_view vs))) none ∙ ap Some (append-nil before))

-- ---- each member of an object

-- the next member was read
pub member_read : {A : Type 0} → (reading : List ℕ → Data → Option A) (entries rest : List (String Global × Value)) (key : String Global) (value : Value) (before : List A) (x : A) (whole : Option (List A)) →
    entries ≡ (key, value) ∷ rest → whole ≡ after before (read_members reading (members_view entries)) → Some x ≡ reading (string_bytes key) (view value) →
    whole ≡ after (before ++ x ∷ []) (read_members reading (members_view rest))
unfolding read_members
member_read reading entries rest key value before x whole is so_far read =
    let more = read_members reading (members_view rest) in
    so_far ∙ ap (λ es. after before (read_members reading (members_view es))) is ∙ ap (λ o. after before (in_front o more)) (sym read) ∙ after-in_front before x more

-- the next member was refused
pub member_refused : {A : Type 0} → (reading : List ℕ → Data → Option A) (entries rest : List (String Global × Value)) (key : String Global) (value : Value) (before : List A) (whole : Option (List A)) →
    entries ≡ (key, value) ∷ rest → whole ≡ after before (read_members reading (members_view entries)) → None ≡ reading (string_bytes key) (view value) →
    None ≡ whole
unfolding read_members
member_refused reading entries rest key value before whole is so_far refused =
    let more = read_members reading (members_view rest) in
    sym (so_far ∙ ap (λ es. after before (read_members reading (members_view es))) is ∙ ap (λ o. after before (in_front o more)) (sym refused))

-- no member is left
pub members_read : {A : Type 0} → (reading : List ℕ → Data → Option A) (entries : List (String Global × Value)) (before : List A) (whole : Option (List A)) →
    entries ≡ [] → whole ≡ after before (read_members reading (members_view entries)) → Some before ≡ whole
unfolding read_members
members_read reading entries before whole none so_far =
    sym (so_far ∙ ap (λ es. after before (read_members reading (members_view es))) none ∙ ap Some (append-nil before))

-- ---- a state that changes item by item

steps-drop : {S : Type 0} → (step : S → Data → Option S) (s : S) (values : List Value) (at : ℕ) (value : Value) → at < length values → value ≡ slice_index_or values at value →
    steps step s (items_view (drop at values)) ≡ option_and_then (λ t. steps step t (items_view (drop (at + 1) values))) (step s (view value))
unfolding steps
steps-drop step s values at value below is = rw (add-one, drop-cons values at value, ← is) refl

-- the item at a place gave the next state
pub step_on : {S : Type 0} → (step : S → Data → Option S) (s t : S) (values : List Value) (at : ℕ) (value : Value) (whole : Option S) →
    at < length values → value ≡ slice_index_or values at value → whole ≡ steps step s (items_view (drop at values)) → Some t ≡ step s (view value) →
    whole ≡ steps step t (items_view (drop (at + 1) values))
step_on step s t values at value whole below is so_far next =
    so_far ∙ steps-drop step s values at value below is ∙ ap (option_and_then (λ t. steps step t (items_view (drop (at + 1) values)))) (sym next)

-- the item at a place gave none
pub step_off : {S : Type 0} → (step : S → Data → Option S) (s : S) (values : List Value) (at : ℕ) (value : Value) (whole : Option S) →
    at < length values → value ≡ slice_index_or values at value → whole ≡ steps step s (items_view (drop at values)) → None ≡ step s (view value) →
    None ≡ whole
step_off step s values at value whole below is so_far refused =
    sym (so_far ∙ steps-drop step s values at value below is ∙ ap (option_and_then (λ t. steps step t (items_view (drop (at + 1) values)))) (sym refused))

-- the state at the end
pub step_end : {S : Type 0} → (step : S → Data → Option S) (s : S) (values : List Value) (at : ℕ) (whole : Option S) →
    length values ≤ at → whole ≡ steps step s (items_view (drop at values)) → Some s ≡ whole
unfolding steps
step_end step s values at whole past so_far =
    let none : drop at values ≡ [] = drop_all at values past in
    sym (so_far ∙ ap (λ vs. steps step s (items_view vs)) none)
