-- The words of entries are told apart.
use Rattle.std.proofs.Common.{Bool, true, false, ◌==◌, ◌≡◌, ◌∙◌, ℕ, ◌*◌, ◌+◌, List, [], ◌∷◌, ◌++◌, Option, Some, None, drop, map, refl, ap, sym}
use Rattle.std.specs.Prelude.{decimal}
use Rattle.std.specs.List.{AllByRecursion}
use Rattle.std.specs.Str.Parse.{AllDigits, digits_value}
use Rattle.std.proofs.lemmas.Fmt.{decimal_is_IsNumeral}
use Rattle.rt_model.specs.Lists.{at}
use Rattle.rt_model.specs.Replay.{Entry, Build, Taken, Heard, Rerun, Poll, Effects, Made, Fed, Kept, Removed}
use Rattle.rt_language.specs.Lines.{entry_text, spaced}
use Rattle.rt_language.specs.Small.{IsSmallEntry}
use Rattle.lang_lines.proofs.Names.{Ends, names_parted, digits_named}
use Rattle.lang_lines.proofs.Rows.{rows_parted}

-- a text by its first and third byte
sort_in : List ℕ → ℕ
sort_in [] = 0
sort_in (a ∷ []) = 0
sort_in (a ∷ b ∷ []) = 0
sort_in (a ∷ b ∷ c ∷ rest) = a * 256 + c

sort_of : Entry → ℕ
sort_of Build = 98 * 256 + 105
sort_of (Taken k) = 105 * 256 + 112
sort_of (Heard s) = 104 * 256 + 97
sort_of (Rerun s) = 114 * 256 + 114
sort_of (Poll t) = 112 * 256 + 108
sort_of (Effects s) = 101 * 256 + 102
sort_of (Made s) = 109 * 256 + 100
sort_of (Fed s) = 102 * 256 + 100
sort_of (Kept s) = 107 * 256 + 112
sort_of (Removed s) = 114 * 256 + 109

-- how long the word before the number is
word_length : Entry → ℕ
word_length Build = 5
word_length (Taken k) = 6
word_length (Heard s) = 6
word_length (Rerun s) = 6
word_length (Poll t) = 5
word_length (Effects s) = 8
word_length (Made s) = 5
word_length (Fed s) = 4
word_length (Kept s) = 5
word_length (Removed s) = 8

-- the digits of the number
digits_in : Entry → List ℕ
digits_in Build = []
digits_in (Taken k) = decimal k
digits_in (Heard s) = decimal s
digits_in (Rerun s) = decimal s
digits_in (Poll t) = decimal t
digits_in (Effects s) = decimal s
digits_in (Made s) = decimal s
digits_in (Fed s) = decimal s
digits_in (Kept s) = decimal s
digits_in (Removed s) = decimal s

-- an entry with another number
numbered_as : ℕ → Entry → Entry
numbered_as n Build = Build
numbered_as n (Taken k) = Taken n
numbered_as n (Heard s) = Heard n
numbered_as n (Rerun s) = Rerun n
numbered_as n (Poll t) = Poll n
numbered_as n (Effects s) = Effects n
numbered_as n (Made s) = Made n
numbered_as n (Fed s) = Fed n
numbered_as n (Kept s) = Kept n
numbered_as n (Removed s) = Removed n

sort_is : (e : Entry) (r : List ℕ) → sort_in (entry_text e ++ r) ≡ sort_of e
unfolding sort_in sort_of
sort_is Build r = refl
sort_is (Taken k) r = refl
sort_is (Heard s) r = refl
sort_is (Rerun s) r = refl
sort_is (Poll t) r = refl
sort_is (Effects s) r = refl
sort_is (Made s) r = refl
sort_is (Fed s) r = refl
sort_is (Kept s) r = refl
sort_is (Removed s) r = refl

rest_is : (e : Entry) (r : List ℕ) → drop (word_length e) (entry_text e ++ r) ≡ digits_in e ++ r
unfolding word_length digits_in
rest_is Build r = refl
rest_is (Taken k) r = refl
rest_is (Heard s) r = refl
rest_is (Rerun s) r = refl
rest_is (Poll t) r = refl
rest_is (Effects s) r = refl
rest_is (Made s) r = refl
rest_is (Fed s) r = refl
rest_is (Kept s) r = refl
rest_is (Removed s) r = refl

digits_are : (e : Entry) → IsSmallEntry e → AllDigits 10 (digits_in e)
unfolding digits_in
digits_are Build small = tt
digits_are (Taken k) small = (decimal_is_IsNumeral k small).0.1
digits_are (Heard s) small = (decimal_is_IsNumeral s small).0.1
digits_are (Rerun s) small = (decimal_is_IsNumeral s small).0.1
digits_are (Poll t) small = (decimal_is_IsNumeral t small).0.1
digits_are (Effects s) small = (decimal_is_IsNumeral s small).0.1
digits_are (Made s) small = (decimal_is_IsNumeral s small).0.1
digits_are (Fed s) small = (decimal_is_IsNumeral s small).0.1
digits_are (Kept s) small = (decimal_is_IsNumeral s small).0.1
digits_are (Removed s) small = (decimal_is_IsNumeral s small).0.1

made_again : (e : Entry) → IsSmallEntry e → numbered_as (digits_value 10 (digits_in e)) e ≡ e
unfolding numbered_as digits_in
made_again Build small = refl
made_again (Taken k) small = ap Taken (decimal_is_IsNumeral k small).1
made_again (Heard s) small = ap Heard (decimal_is_IsNumeral s small).1
made_again (Rerun s) small = ap Rerun (decimal_is_IsNumeral s small).1
made_again (Poll t) small = ap Poll (decimal_is_IsNumeral t small).1
made_again (Effects s) small = ap Effects (decimal_is_IsNumeral s small).1
made_again (Made s) small = ap Made (decimal_is_IsNumeral s small).1
made_again (Fed s) small = ap Fed (decimal_is_IsNumeral s small).1
made_again (Kept s) small = ap Kept (decimal_is_IsNumeral s small).1
made_again (Removed s) small = ap Removed (decimal_is_IsNumeral s small).1

-- the length of the word, and the entry with a number, by the sort
by_sort : List (ℕ × (ℕ × (ℕ → Entry)))
by_sort =
    (98 * 256 + 105, (5, λ n. Build))
    ∷ (105 * 256 + 112, (6, Taken))
    ∷ (104 * 256 + 97, (6, Heard))
    ∷ (114 * 256 + 114, (6, Rerun))
    ∷ (112 * 256 + 108, (5, Poll))
    ∷ (101 * 256 + 102, (8, Effects))
    ∷ (109 * 256 + 100, (5, Made))
    ∷ (102 * 256 + 100, (4, Fed))
    ∷ (107 * 256 + 112, (5, Kept))
    ∷ (114 * 256 + 109, (8, Removed))
    ∷ []

length_at : Option (ℕ × (ℕ → Entry)) → ℕ
length_at None = 0
length_at (Some found) = found.0

entry_at : ℕ → Option (ℕ × (ℕ → Entry)) → Entry
entry_at n None = Build
entry_at n (Some found) = found.1 n

length_found : (e : Entry) → length_at (at by_sort (sort_of e)) ≡ word_length e
unfolding length_at by_sort sort_of word_length
length_found Build = refl
length_found (Taken k) = refl
length_found (Heard s) = refl
length_found (Rerun s) = refl
length_found (Poll t) = refl
length_found (Effects s) = refl
length_found (Made s) = refl
length_found (Fed s) = refl
length_found (Kept s) = refl
length_found (Removed s) = refl

entry_found : (n : ℕ) (e : Entry) → entry_at n (at by_sort (sort_of e)) ≡ numbered_as n e
unfolding entry_at by_sort sort_of numbered_as
entry_found n Build = refl
entry_found n (Taken k) = refl
entry_found n (Heard s) = refl
entry_found n (Rerun s) = refl
entry_found n (Poll t) = refl
entry_found n (Effects s) = refl
entry_found n (Made s) = refl
entry_found n (Fed s) = refl
entry_found n (Kept s) = refl
entry_found n (Removed s) = refl

-- entries and what follows them are told apart
pub entries_parted : (e f : Entry) (r s : List ℕ) → IsSmallEntry e → IsSmallEntry f → Ends r → Ends s → entry_text e ++ r ≡ entry_text
    f ++ s → (e ≡ f) × (r ≡ s)
entries_parted e f r s small little stop other same =
    let sorts : sort_of e ≡ sort_of f = sym (sort_is e r) ∙ ap sort_in same ∙ sort_is f s in
    let lengths : word_length e ≡ word_length f = sym (length_found e) ∙ ap (λ n. length_at (at by_sort n)) sorts ∙ length_found f in
    let rests : digits_in e ++ r ≡ digits_in f ++ s = sym (rest_is e r) ∙ ap (λ n. drop n (entry_text e ++ r)) lengths ∙ ap (λ t. drop
    (word_length f) t) same ∙ rest_is f s in
    let both = names_parted (digits_in e) (digits_in f) r s (digits_named (digits_in e) (digits_are e small)) (digits_named (digits_in
    f) (digits_are f little)) stop other rests in
    let one : e ≡ f =
    sym (made_again e small)
    ∙ sym (entry_found (digits_value 10 (digits_in e)) e)
    ∙ ap (λ n. entry_at (digits_value 10 (digits_in e)) (at by_sort n)) sorts
    ∙ entry_found (digits_value 10 (digits_in e)) f
    ∙ ap (λ ds. numbered_as (digits_value 10 ds) f) both.0
    ∙ made_again f little in
    (one, both.1)

-- an entry comes: there is a space
goes_on : List ℕ → Bool
goes_on [] = false
goes_on (c ∷ cs) = c == 32

entry_here : (e : Entry) (r : List ℕ) → IsSmallEntry e → Ends r → goes_on (32 ∷ (entry_text e ++ r)) ≡ true
unfolding goes_on
entry_here e r small stop = refl

-- the words of entries at the end of a line
unfoldable pub words_of : List Entry → List ℕ
words_of log = spaced (map entry_text log)

-- entries at the end of a line, and what follows it, are told apart
pub logs_parted : (log other : List Entry) (r s : List ℕ) → AllByRecursion IsSmallEntry log → AllByRecursion IsSmallEntry other
    → words_of log ++ (10 ∷ r) ≡ words_of other ++ (10 ∷ s) → (log ≡ other) × (r ≡ s)
unfolding words_of goes_on
logs_parted log other r s small little same =
    let both = rows_parted entry_text IsSmallEntry goes_on entries_parted entry_here log other (10 ∷ r) (10 ∷ s) small little refl refl
    refl refl same in
    (both.0, ap (λ x. drop 1 x) both.1)
