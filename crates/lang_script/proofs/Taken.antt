-- Lists that are gathered item by item.
use Rattle.std.proofs.Common.{ℕ, List, [], ◌∷◌, ◌++◌, ◌≡◌, sym, ap, ◌∙◌, map, ◌+◌, ◌<◌, ◌≤◌, length, get_or, drop}
use Rattle.std.proofs.Math.ListN.{drop_of_length-le}
use Rattle.std.proofs.lemmas.List.{append_assoc}
use Rattle.rt_lemmas.proofs.Lists.{next_drop}
use Rattle.rt_model.specs.Replay.{Message}
use Rattle.rt_language.specs.Meaning.{post_of, messages_from}
use Rattle.rt_language.specs.Syntax as language
use Rattle.lang_script.proofs.Fills.{map-append, append_nil}

-- one more item, of items that are given one for one
pub taken-more : {A B C : Type 0} (seen : B → C) (given : List A → List C) (xs : List A) (i : ℕ) (x : A) (there longer : List B) (y : B) (c : C) (whole : List C)
    → i < length xs → x ≡ get_or xs i x
    → given (x ∷ drop (i + 1) xs) ≡ c ∷ given (drop (i + 1) xs)
    → seen y ≡ c
    → longer ≡ there ++ y ∷ []
    → map seen there ++ given (drop i xs) ≡ whole
    → map seen longer ++ given (drop (i + 1) xs) ≡ whole
taken-more seen given xs i x there longer y c whole low is gives same long before =
    let rest = given (drop (i + 1) xs) in
    ap (λ ys. map seen ys ++ rest) long
    ∙ ap (λ ys. ys ++ rest) (map-append seen there (y ∷ []))
    ∙ append_assoc (map seen there) (seen y ∷ []) rest
    ∙ ap (λ z. map seen there ++ z ∷ rest) same
    ∙ ap (λ ys. map seen there ++ ys) (sym gives ∙ ap given (sym (next_drop xs i x low is)))
    ∙ before

-- all items are taken
pub taken-all : {A B C : Type 0} (seen : B → C) (given : List A → List C) (xs : List A) (i : ℕ) (all : List B) (whole : List C)
    → length xs ≤ i → given [] ≡ [] → map seen all ++ given (drop i xs) ≡ whole → map seen all ≡ whole
taken-all seen given xs i all whole end none before =
    sym (append_nil (map seen all)) ∙ ap (λ ys. map seen all ++ ys) (sym none ∙ ap given (sym (drop_of_length-le xs end))) ∙ before

-- one more value
pub put-more : {A B : Type 0} (given : List A → List B) (xs : List A) (i : ℕ) (x : A) (there longer : List B) (y : B) (whole : List B)
    → i < length xs → x ≡ get_or xs i x
    → given (x ∷ drop (i + 1) xs) ≡ y ∷ given (drop (i + 1) xs)
    → longer ≡ there ++ y ∷ []
    → there ++ given (drop i xs) ≡ whole
    → longer ++ given (drop (i + 1) xs) ≡ whole
put-more given xs i x there longer y whole low is gives long before =
    let rest = given (drop (i + 1) xs) in
    ap (λ ys. ys ++ rest) long
    ∙ append_assoc there (y ∷ []) rest
    ∙ ap (λ ys. there ++ ys) (sym gives ∙ ap given (sym (next_drop xs i x low is)))
    ∙ before

-- one more message, numbered by its place
pub message-more : {A B : Type 0} (seen : B → Message) (asks : A → language.PostSource) (xs : List A) (i : ℕ) (x : A) (there longer : List B) (y : B) (whole : List Message)
    → i < length xs → x ≡ get_or xs i x
    → seen y ≡ record { poster = 0; sequence = i; what = post_of (asks x) }
    → longer ≡ there ++ y ∷ []
    → map seen there ++ messages_from 0 i (map asks (drop i xs)) ≡ whole
    → map seen longer ++ messages_from 0 (i + 1) (map asks (drop (i + 1) xs)) ≡ whole
message-more seen asks xs i x there longer y whole low is same long before =
    let rest : List Message = messages_from 0 (i + 1) (map asks (drop (i + 1) xs)) in
    ap (λ ys. map seen ys ++ rest) long
    ∙ ap (λ ys. ys ++ rest) (map-append seen there (y ∷ []))
    ∙ append_assoc (map seen there) (seen y ∷ []) rest
    ∙ ap (λ z. map seen there ++ z ∷ rest) same
    ∙ ap (λ ys. map seen there ++ messages_from 0 i (map asks ys)) (sym (next_drop xs i x low is))
    ∙ before

-- all messages are there
pub message-all : {A B : Type 0} (seen : B → Message) (asks : A → language.PostSource) (xs : List A) (i : ℕ) (all : List B) (whole : List Message)
    → length xs ≤ i → map seen all ++ messages_from 0 i (map asks (drop i xs)) ≡ whole → map seen all ≡ whole
message-all seen asks xs i all whole end before =
    sym (append_nil (map seen all)) ∙ ap (λ ys. map seen all ++ messages_from 0 i (map asks ys)) (sym (drop_of_length-le xs end)) ∙ before
