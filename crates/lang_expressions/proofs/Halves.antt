-- A text among texts that ascend stands at one place.
use Rattle.std.proofs.Common.{◌≡◌, ℕ, zero, suc, ◌+◌, ◌<◌, ◌≤◌, List, [], ◌∷◌, length, get_or, drop, drop-cons, add-one, true, false, ◌&&◌, Option, Some, None, if◌then◌else◌, bytes_eq, refl, sym, ap, ◌∙◌, arith}
use Rattle.std.specs.declared.cmp.Ordering.TheVariants.{Less, Equal}
use Rattle.std.specs.Ordering.{is_lt, is_eq, nat_cmp}
use Rattle.std.specs.Cmp.Lexicographic.{slice_cmp, nat_list_cmp_total, nat_list_eq_equiv}
use Rattle.std.proofs.lemmas.List.{drop_all}
use Rattle.std.proofs.lemmas.Map.Text.{is_eq-slice_cmp}
use Rattle.std.proofs.lemmas.Map.Lookups.{exact_bytes}
use Rattle.rt_lemmas.proofs.Bools.{and_left as left, and_right as right}
use Rattle.rt_lemmas.proofs.Orders.{less}
use Rattle.lang_expressions.specs.Ascending.{ascend, rises}
use Rattle.lang_expressions.specs.Names.{place_from, place_of}

-- a text that comes after a name isn't that name
other : (name text : List ℕ) → slice_cmp nat_cmp name text ≡ Less → bytes_eq text name ≡ false
other name text before = nat_list_eq_equiv.symm text name ∙ sym (is_eq-slice_cmp name text) ∙ ap is_eq before

-- nothing after the place of a name is that name
clear : (at : ℕ) (name last : List ℕ) (names : List (List ℕ)) (before : Option ℕ) → ((text : List ℕ) → slice_cmp nat_cmp last text ≡ Less → slice_cmp nat_cmp name text ≡ Less)
    → rises last names ≡ true → place_from at name names before ≡ before
clear at name last [] before above rising = refl
clear at name last (text ∷ rest) before above rising =
    let first : slice_cmp nat_cmp last text ≡ Less = less (slice_cmp nat_cmp last text) (left (is_lt (slice_cmp nat_cmp last text)) (rises text rest) rising) in
    ap (λ b. place_from (at + 1) name rest (if b then Some at else before)) (other name text (above text first))
    ∙ clear (at + 1) name text rest before (λ more further. nat_list_cmp_total.trans name text more (above text first) further)
    (right (is_lt (slice_cmp nat_cmp last text)) (rises text rest) rising)

found : (at : ℕ) (name first : List ℕ) (rest : List (List ℕ)) (before : Option ℕ) (k : ℕ) (d : List ℕ) → rises first rest ≡ true → k < length (first ∷ rest)
    → slice_cmp nat_cmp (get_or (first ∷ rest) k d) name ≡ Equal → place_from at name (first ∷ rest) before ≡ Some (at + k)
found at name first rest before zero d rising low tie =
    let is : first ≡ name = exact_bytes first name tie in
    let same : bytes_eq first name ≡ true = sym (is_eq-slice_cmp first name) ∙ ap is_eq tie in
    let here : at ≡ at + 0 = omega arith in
    ap (λ b. place_from (at + 1) name rest (if b then Some at else before)) same
    ∙ clear (at + 1) name first rest (Some at) (λ text above. sym (ap (λ n. slice_cmp nat_cmp n text) is) ∙ above) rising
    ∙ ap Some here
found at name first [] before (suc k) d rising low tie = absurd (omega (arith, low))
found at name first (next ∷ rest) before (suc k) d rising low tie =
    let there : at + 1 + k ≡ at + suc k = omega arith in
    found (at + 1) name next rest (if bytes_eq first name then Some at else before) k d
    (right (is_lt (slice_cmp nat_cmp first next)) (rises next rest) rising) (omega (arith, low)) tie
    ∙ ap Some there

-- what a search finds among texts that ascend is the place
pub place_found : (names : List (List ℕ)) (name : List ℕ) (k : ℕ) (d : List ℕ) → ascend names ≡ true → k < length names
    → slice_cmp nat_cmp (get_or names k d) name ≡ Equal → place_of names name ≡ Some k
unfolding place_of
place_found [] name k d rising low tie = absurd (omega (arith, low))
place_found (first ∷ rest) name k d rising low tie = let same : 0 + k ≡ k = omega arith in found 0 name first rest None k d rising low tie ∙ ap Some same

-- one more text was looked at
pub rises_next : (texts : List (List ℕ)) (last text : List ℕ) (at : ℕ) → at < length texts → text ≡ get_or texts at text
    → rises last (drop at texts) ≡ (is_lt (slice_cmp nat_cmp last text) && rises text (drop (at + 1) texts))
rises_next texts last text at low is = rw (add-one, drop-cons texts at text, ← is) refl

-- one that doesn't come after the last one
pub rises_not : (texts : List (List ℕ)) (last text : List ℕ) (at : ℕ) → at < length texts → text ≡ get_or texts at text
    → is_lt (slice_cmp nat_cmp last text) ≡ false → false ≡ rises last (drop at texts)
rises_not texts last text at low is stops = sym (rises_next texts last text at low is ∙ ap (λ b. b && rises text (drop (at + 1) texts)) stops)

-- one that does
pub rises_on : (texts : List (List ℕ)) (last text : List ℕ) (at : ℕ) → at < length texts → text ≡ get_or texts at text
    → is_lt (slice_cmp nat_cmp last text) ≡ true → rises text (drop (at + 1) texts) ≡ rises last (drop at texts)
rises_on texts last text at low is goes = sym (rises_next texts last text at low is ∙ ap (λ b. b && rises text (drop (at + 1) texts)) goes)

-- none is left
pub rises_end : (texts : List (List ℕ)) (last : List ℕ) (at : ℕ) → length texts ≤ at → true ≡ rises last (drop at texts)
rises_end texts last at end = sym (ap (rises last) (drop_all at texts end))
