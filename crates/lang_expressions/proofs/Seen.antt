-- Texts in a set and in a list, and one more of them in both.
use Rattle.std.proofs.Common.{◌≡◌, ℕ, suc, ◌+◌, List, [], ◌∷◌, ◌++◌, map, append_assoc, append-nil, arith, Bool, true, false, ◌||◌, Option, Some, None, if◌then◌else◌, bytes_eq, refl, sym, ap, ◌∙◌}
use mathlib.Core.Bool.{true≢false}
use Rattle.std.specs.Prelude.{not, insert, is_some, option_map}
use Rattle.std.specs.Borrow.{Bor}
use Rattle.std.specs.declared.cmp.Ordering.{Ordering}
use Rattle.std.specs.declared.cmp.Ordering.TheVariants.{Less, Equal, Greater}
use Rattle.std.specs.Ordering.{is_eq, nat_cmp, match_ordering}
use Rattle.std.specs.Cmp.Lexicographic.{slice_cmp, nat_list_eq_equiv}
use Rattle.std.specs.List.{list_any}
use Rattle.std.specs.BTreeSet.{BTreeSet, insert_key}
use Rattle.std.proofs.lemmas.Map.Text.{is_eq-slice_cmp}
use Rattle.std.proofs.lemmas.Map.Lookups.{exact_bytes}
use Rattle.rt_lemmas.proofs.Bools.{or_swapped as swapped, or_twice as twice}
pub use Rattle.rt_lemmas.proofs.Bools.{not_true as is_new}
use Rattle.lang_expressions.specs.Names.{is_seen, place_from, place_of}
use Rattle.lang_expressions.specs.Kinds as kinds
use Rattle.lang_expressions.specs.Kinds.{place_among, put_among, put_at}

-- the order of the set's texts
abbrev text_order : Bor (List ℕ) → Bor (List ℕ) → Ordering
text_order x y = slice_cmp nat_cmp x.now y.now

-- the set's own test is equality
pub seen_by_order : (text : List ℕ) (keys : List (Bor (List ℕ))) → list_any (λ t. is_eq (slice_cmp nat_cmp text t.now)) keys ≡ list_any (λ t. bytes_eq text t.now) keys
seen_by_order text [] = refl
seen_by_order text (x ∷ xs) = (λ i. is_eq-slice_cmp text x.now i || seen_by_order text xs i)

-- one more text in the set
pub seen_more : (keys : List (Bor (List ℕ))) (k : Bor (List ℕ)) (other : List ℕ)
    → list_any (λ t. bytes_eq other t.now) (insert_key text_order keys k) ≡ (bytes_eq other k.now || list_any (λ t. bytes_eq other t.now) keys)
seen_more [] k other = refl
seen_more (x ∷ xs) k other =
    elim (slice_cmp nat_cmp k.now x.now) as (λ r. slice_cmp nat_cmp k.now x.now ≡ r
    → list_any (λ t. bytes_eq other t.now) (match_ordering r (k ∷ x ∷ xs) (x ∷ xs) (x ∷ insert_key text_order xs k))
    ≡ (bytes_eq other k.now || (bytes_eq other x.now || list_any (λ t. bytes_eq other t.now) xs))) [
      | Less ↦ λ _. refl
      | Equal ↦ λ e. twice (bytes_eq other x.now) (list_any (λ t. bytes_eq other t.now) xs)
          ∙ ap (λ n. bytes_eq other n || (bytes_eq other x.now || list_any (λ t. bytes_eq other t.now) xs)) (sym (exact_bytes k.now x.now e))
      | Greater ↦ λ _. ap (λ b. bytes_eq other x.now || b) (seen_more xs k other) ∙ swapped (bytes_eq other x.now) (bytes_eq other k.now) _
    ] refl

-- what isn't new was seen
pub not_new : (b : Bool) → not b ≡ false → b ≡ true
not_new true h = refl
not_new false h = absurd (true≢false h)

chosen : (b : Bool) (at : ℕ) (before : Option ℕ) → is_some (if b then Some at else before) ≡ (b || is_some before)
chosen true at before = refl
chosen false at before = refl

placed_more : (at : ℕ) (text name : List ℕ) (names : List (List ℕ)) (before : Option ℕ)
    → is_some (place_from at name (names ++ text ∷ []) before) ≡ (bytes_eq text name || is_some (place_from at name names before))
placed_more at text name [] before = chosen (bytes_eq text name) at before
placed_more at text name (next ∷ names) before = placed_more (at + 1) text name names (if bytes_eq next name then Some at else before)

-- one more text in the list
pub place_more : (text name : List ℕ) (names : List (List ℕ)) → is_some (place_of (names ++ text ∷ []) name) ≡ (bytes_eq name text || is_some (place_of names name))
unfolding place_of
place_more text name names =
    placed_more 0 text name names None ∙ ap (λ b. b || is_some (place_of names name)) (nat_list_eq_equiv.symm text name)

-- the list and the set have the same texts
abbrev pub Same : List (List ℕ) → BTreeSet (Bor (List ℕ)) → Type 0
Same texts seen = (name : List ℕ) → is_some (place_of texts name) ≡ is_seen seen name

-- so they have where neither has one
pub same_none : (texts : List (List ℕ)) (seen : BTreeSet (Bor (List ℕ))) → texts ≡ [] → seen.keys ≡ [] → Same texts seen
unfolding place_of
same_none texts seen none empty name =
    ap (λ ts. is_some (place_of ts name)) none ∙ sym (ap (λ (ks : List (Bor (List ℕ))). list_any (λ t. bytes_eq name t.now) ks) empty)

-- and with one more text in both
pub same_more : (texts after : List (List ℕ)) (seen new : BTreeSet (Bor (List ℕ))) (text : List ℕ) → Same texts seen → after ≡ texts ++ text ∷ []
    → ((other : List ℕ) → is_seen new other ≡ (bytes_eq other text || is_seen seen other)) → Same after new
same_more texts after seen new text same is more name =
    ap (λ ts. is_some (place_of ts name)) is ∙ place_more text name texts ∙ ap (λ b. bytes_eq name text || b) (same name) ∙ sym (more name)

-- ---- keys of contexts

shifted : (at : ℕ) (key : List ℕ) (keys : List (List ℕ)) → kinds.place_from (at + 1) key keys ≡ option_map (λ n. n + 1) (kinds.place_from at key keys)
shifted at key [] = refl
shifted at key (x ∷ xs) =
    elim (slice_cmp nat_cmp key x) as (λ r. match_ordering r (Some (at + 1)) None (kinds.place_from (at + 1 + 1) key xs)
    ≡ option_map (λ n. n + 1) (match_ordering r (Some at) None (kinds.place_from (at + 1) key xs))) [
      | Less ↦ refl
      | Equal ↦ refl
      | Greater ↦ shifted (at + 1) key xs
    ]

below : (key x : List ℕ) (xs : List (List ℕ)) (o : Option ℕ) → put_at key (x ∷ xs) (option_map (λ n. n + 1) o) ≡ x ∷ put_at key xs o
below key x xs None = refl
below key x xs (Some n) = let next : n + 1 ≡ suc n = omega arith in ap (λ m. insert (x ∷ xs) m key) next

put_step : (key x : List ℕ) (xs : List (List ℕ))
    → put_among key (x ∷ xs) ≡ match_ordering (slice_cmp nat_cmp key x) (key ∷ x ∷ xs) (x ∷ xs) (x ∷ put_among key xs)
unfolding place_among
put_step key x xs =
    elim (slice_cmp nat_cmp key x) as (λ r. put_at key (x ∷ xs) (match_ordering r (Some 0) None (kinds.place_from (0 + 1) key xs))
    ≡ match_ordering r (key ∷ x ∷ xs) (x ∷ xs) (x ∷ put_at key xs (kinds.place_from 0 key xs))) [
      | Less ↦ refl
      | Equal ↦ refl
      | Greater ↦ ap (put_at key (x ∷ xs)) (shifted 0 key xs) ∙ below key x xs (kinds.place_from 0 key xs)
    ]

put_first : (key : List ℕ) → put_among key [] ≡ key ∷ []
unfolding place_among
put_first key = refl

-- a key goes into the set as it goes among keys in order
pub text_put : (keys : List (Bor (List ℕ))) (k : Bor (List ℕ)) → map (λ t. t.now) (insert_key text_order keys k) ≡ put_among k.now (map (λ t. t.now) keys)
text_put [] k = sym (put_first k.now)
text_put (x ∷ xs) k =
    elim (slice_cmp nat_cmp k.now x.now) as (λ r. map (λ t. t.now) (match_ordering r (k ∷ x ∷ xs) (x ∷ xs) (x ∷ insert_key text_order xs k))
    ≡ match_ordering r (k.now ∷ x.now ∷ map (λ t. t.now) xs) (x.now ∷ map (λ t. t.now) xs) (x.now ∷ put_among k.now (map (λ t. t.now) xs))) [
      | Less ↦ refl
      | Equal ↦ refl
      | Greater ↦ ap (λ ts. x.now ∷ ts) (text_put xs k)
    ]
    ∙ sym (put_step k.now x.now (map (λ t. t.now) xs))

-- one more copy
pub copied : (copies : List (List ℕ)) (iterator rest : List (Bor (List ℕ))) (k : Bor (List ℕ)) (all : List (List ℕ)) → iterator ≡ k ∷ rest
    → copies ++ map (λ t. t.now) iterator ≡ all → (copies ++ k.now ∷ []) ++ map (λ t. t.now) rest ≡ all
copied copies iterator rest k all is so_far =
    append_assoc copies (k.now ∷ []) (map (λ t. t.now) rest) ∙ ap (λ ks. copies ++ map (λ t. t.now) ks) (sym is) ∙ so_far

-- all are copied
pub all_copied : (copies : List (List ℕ)) (iterator : List (Bor (List ℕ))) (all : List (List ℕ)) → iterator ≡ [] → copies ++ map (λ t. t.now) iterator ≡ all → copies ≡ all
all_copied copies iterator all none so_far = sym (append-nil copies) ∙ ap (λ ks. copies ++ map (λ t. t.now) ks) (sym none) ∙ so_far
