-- Numbers under spots: at the index of each spot stands its first one.
use Rattle.std.proofs.Common.{append_assoc, append-nil, ℕ, zero, suc, ◌+◌, ◌<◌, ◌≤◌, Bool, true, false, List, [], ◌∷◌, ◌++◌, drop, ◌≡◌, nat_eq, length, get_or, refl, sym, ap, ◌∙◌, arith}
use Rattle.std.specs.Prelude.{Option, None, Some, slice_set, if◌then◌else◌}
use Rattle.std.proofs.lemmas.Bool.{eqb-true, eqb-false, ne_eqb}
use Rattle.std.proofs.lemmas.List.{drop_more}
use Rattle.std.proofs.lemmas.Grind.{common_steps}
use Rattle.rt_lemmas.proofs.Lists.{set_here}
use Rattle.rt_model.specs.Lists.{at}
use Rattle.rt_model.proofs.Maps.{by_test}
use Rattle.run_places.specs.Drawn.{Agrees, filled, moved}

pub agrees_none : Agrees [] []
agrees_none s = refl

-- what stands in a list that one more joined
at_joined : (pairs : List (ℕ × ℕ)) (i n s : ℕ) → at (pairs ++ (i, n) ∷ []) s ≡ elim (at pairs s) as (λ _. Option ℕ) [ None ↦ (if nat_eq i s then Some n else None) | Some m ↦ Some m ]
at_joined [] i n s = refl
at_joined (e ∷ es) i n s = by (nat_eq e.0 s) (at_joined es i n s)
  where
    by : (b : Bool) → at (es ++ (i, n) ∷ []) s ≡ elim (at es s) as (λ _. Option ℕ) [ None ↦ (if nat_eq i s then Some n else None) | Some m ↦ Some m ]
        → (if b then Some e.1 else at (es ++ (i, n) ∷ []) s) ≡ elim (if b then Some e.1 else at es s) as (λ _. Option ℕ) [ None ↦ (if nat_eq i s then Some n else None) | Some m ↦ Some m ]
    by true h = refl
    by false h = h

set_there : (xs : List (Option ℕ)) (i s : ℕ) (v : Option ℕ) → nat_eq i s ≡ false → get_or (slice_set xs i v) s None ≡ get_or xs s None
set_there [] i s v other = refl
set_there (x ∷ xs) zero zero v other = absurd (eqb-false 0 0 other refl)
set_there (x ∷ xs) zero (suc s) v other = refl
set_there (x ∷ xs) (suc i) zero v other = refl
set_there (x ∷ xs) (suc i) (suc s) v other = set_there xs i s v (ne_eqb i s (λ same. eqb-false (suc i) (suc s) other (ap suc same)))

-- one more number
pub agrees_more : (firsts : List (Option ℕ)) (pairs : List (ℕ × ℕ)) (i n : ℕ) → Agrees firsts pairs → i < length firsts → Agrees (filled firsts i n) (pairs ++ (i, n) ∷ [])
agrees_more firsts pairs i n agrees within s = by_test (nat_eq i s) (λ q. here (eqb-true i s q) q) (λ q. there q)
  where
    own : (o : Option ℕ) → get_or firsts i None ≡ o
        → get_or (elim o as (λ _. List (Option ℕ)) [ None ↦ slice_set firsts i (Some n) | Some m ↦ firsts ]) i None ≡ elim o as (λ _. Option ℕ) [ None ↦ Some n | Some m ↦ Some m ]
    own None is = set_here firsts i (Some n) within
    own (Some m) is = is

    kept : (o : Option ℕ) → nat_eq i s ≡ false → get_or (elim o as (λ _. List (Option ℕ)) [ None ↦ slice_set firsts i (Some n) | Some m ↦ firsts ]) s None ≡ get_or firsts s None
    kept None other = set_there firsts i s (Some n) other
    kept (Some m) other = refl

    stays : (o : Option ℕ) → o ≡ elim o as (λ _. Option ℕ) [ None ↦ None | Some m ↦ Some m ]
    stays None = refl
    stays (Some m) = refl

    here : i ≡ s → nat_eq i s ≡ true → get_or (filled firsts i n) s None ≡ at (pairs ++ (i, n) ∷ []) s
    here same q =
        ap (λ m. get_or (filled firsts i n) m None) (sym same)
        ∙ own (get_or firsts i None) refl
        ∙ ap (λ (o : Option ℕ). elim o as (λ _. Option ℕ) [ None ↦ Some n | Some m ↦ Some m ]) (agrees i ∙ ap (λ m. at pairs m) same)
        ∙ sym (at_joined pairs i n s ∙ ap (λ (b : Bool). elim (at pairs s) as (λ _. Option ℕ) [ None ↦ (if b then Some n else None) | Some m ↦ Some m ]) q)

    there : nat_eq i s ≡ false → get_or (filled firsts i n) s None ≡ at (pairs ++ (i, n) ∷ []) s
    there q =
        kept (get_or firsts i None) q ∙ agrees s ∙ stays (at pairs s)
        ∙ sym (at_joined pairs i n s ∙ ap (λ (b : Bool). elim (at pairs s) as (λ _. Option ℕ) [ None ↦ (if b then Some n else None) | Some m ↦ Some m ]) q)

-- other entries that read as the former do
pub agrees_as : (firsts new : List (Option ℕ)) (pairs : List (ℕ × ℕ)) → Agrees firsts pairs → ((s : ℕ) → get_or new s None ≡ get_or firsts s None) → Agrees new pairs
agrees_as firsts new pairs agrees same s = same s ∙ agrees s

-- one after another is moved
pub moved_step : (to : List (Option ℕ)) (pairs : List (ℕ × ℕ)) (i : ℕ) (d : ℕ × ℕ) (so_far new : List (ℕ × ℕ)) → i < length pairs
    → new ≡ so_far ++ moved to (get_or pairs i d ∷ []) → new ++ moved to (drop (i + 1) pairs) ≡ so_far ++ moved to (drop i pairs)
moved_step to pairs i d so_far new within joined =
    let rest : List (ℕ × ℕ) = moved to (drop (i + 1) pairs) in
    let e : ℕ × ℕ = get_or pairs i d in
    ap (λ xs. xs ++ rest) joined
    ∙ append_assoc so_far (moved to (e ∷ [])) rest
    ∙ ap (λ xs. so_far ++ xs) (first e.1 (get_or to e.0 None) rest)
    ∙ ap (λ xs. so_far ++ moved to xs) (sym (drop_more pairs i d within))
  where
    first : (n : ℕ) (o : Option ℕ) (rest : List (ℕ × ℕ)) → elim o as (λ _. List (ℕ × ℕ)) [ None ↦ [] | Some s ↦ (s, n) ∷ [] ] ++ rest ≡ elim o as (λ _. List (ℕ × ℕ)) [ None ↦ rest | Some s ↦ (s, n) ∷ rest ]
    first n None rest = refl
    first n (Some s) rest = refl

pub moved_end : (to : List (Option ℕ)) (pairs all : List (ℕ × ℕ)) (i : ℕ) (v : List (ℕ × ℕ)) → length pairs ≤ i → all ++ moved to (drop i pairs) ≡ v → all ≡ v
moved_end to pairs all i v end is =
    let none : drop i pairs ≡ [] = grind (arith, common_steps) in
    sym (append-nil all) ∙ ap (λ ys. all ++ moved to ys) (sym none) ∙ is
