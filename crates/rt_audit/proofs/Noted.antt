-- Entries of code at the places of lists.
use Rattle.std.proofs.Common.{ℕ, zero, suc, ◌+◌, ◌≤◌, ◌<◌, Bool, true, false, List, [], ◌∷◌, ◌≡◌, refl, sym, ap, ◌∙◌, subst, length, map, take, drop, drop-cons, get_or, arith}
use Rattle.std.proofs.lemmas.List.{drop-map, drop_all, length-map}
use Rattle.rt_model.specs.Replay as replay
use Rattle.rt_model.specs.Replay.{same_entry}
use Rattle.rt_model.proofs.OneLogOnly.{same_entry-true}
use Rattle.run_reports.specs.Seen.{entry_of}
use Rattle.run_reports.specs.declared.entry.Entry.{Entry}
use Rattle.rt_audit.specs.Fronts.{begins_with, IsFront, PartsAt}
use Rattle.rt_audit.proofs.Fronts.{Next, next_in, front_next, parts_here, front_all}

-- a list has an entry where the item at the place is the same
pub begins_here : (d : replay.Entry) (list : List Entry) (at : ℕ) (x : Entry) → at < length list
    → same_entry d (entry_of (get_or list at x)) ≡ begins_with d (drop at (map entry_of list))
begins_here d list at x low =
    let next : drop at (map entry_of list) ≡ entry_of (get_or list at x) ∷ map entry_of (drop (suc at) list) =
    drop-map entry_of at list ∙ ap (λ es. map entry_of es) (drop-cons list at x low) in
    ap (λ l. begins_with d l) (sym next)

-- and none where there is no item
pub none_begins : (d : replay.Entry) (list : List Entry) (at : ℕ) → length list ≤ at → false ≡ begins_with d (drop at (map entry_of list))
none_begins d list at past =
    let none : drop at (map entry_of list) ≡ [] = drop-map entry_of at list ∙ ap (λ es. map entry_of es) (drop_all at list past) in
    ap (λ l. begins_with d l) (sym none)

next_at : (n : ℕ) (noted : List Entry) (x : Entry) → n < length noted → Next n (map entry_of noted) (entry_of (get_or noted n x))
next_at n noted x low =
    let there : Next n (map entry_of noted) (entry_of (get_or noted n x)) = next_in entry_of n noted (get_or noted n x) low (same n noted low) in there
  where
    same : (k : ℕ) (es : List Entry) → k < length es → get_or es k x ≡ get_or es k (get_or es k x)
    same k [] h = absurd (omega (arith, h))
    same zero (e ∷ es) h = refl
    same (suc k) (e ∷ es) h = same k es (omega (arith, h))

low_map : (n : ℕ) (noted : List Entry) → n < length noted → n ≤ length (map entry_of noted)
low_map n noted low = let count = length-map noted entry_of in omega (arith, low, count)

-- the entry at a place isn't the one of the list
pub parts_at : (n : ℕ) (noted list : List Entry) (x : Entry) (answer : Bool) → n < length noted
    → answer ≡ begins_with (entry_of (get_or noted n x)) (drop n (map entry_of list))
    → answer ≡ false
    → IsFront (take n (map entry_of noted)) (map entry_of list)
    → PartsAt (map entry_of noted) (map entry_of list) n
parts_at n noted list x answer low has other front =
    parts_here n (map entry_of noted) (map entry_of list) (entry_of (get_or noted n x)) (low_map n noted low) (next_at n noted x low) (sym has ∙ other) front

-- it is
pub front_on : (n : ℕ) (noted list : List Entry) (x : Entry) (answer : Bool) → n < length noted
    → answer ≡ begins_with (entry_of (get_or noted n x)) (drop n (map entry_of list))
    → answer ≡ true
    → IsFront (take n (map entry_of noted)) (map entry_of list)
    → IsFront (take (n + 1) (map entry_of noted)) (map entry_of list)
front_on n noted list x answer low has same front =
    let one : suc n ≡ n + 1 = omega arith in
    subst (λ k. IsFront (take k (map entry_of noted)) (map entry_of list)) one
    (
    front_next n (map entry_of noted) (map entry_of list) (entry_of (get_or noted n x)) (low_map n noted low) (next_at n noted x low) (sym has ∙ same)
    (λ d e q. same_entry-true d e q) front
    )

-- all of them are
pub front_end : (n : ℕ) (noted list : List Entry) → length noted ≤ n → IsFront (take n (map entry_of noted)) (map entry_of list)
    → IsFront (map entry_of noted) (map entry_of list)
front_end n noted list past front =
    front_all n (map entry_of noted) (map entry_of list) (let count = length-map noted entry_of in omega (arith, past, count)) front

-- a list that has no entry, or begins with another one
pub opens_none : (d : replay.Entry) (list : List Entry) → length list ≡ 0 → begins_with d (map entry_of list) ≡ false
opens_none d [] h = refl
opens_none d (e ∷ list) h = absurd (omega (arith, h))

pub opens_other : (d : replay.Entry) (list rest : List Entry) (first : Entry) (answer : Bool) → list ≡ first ∷ rest → answer ≡ same_entry d (entry_of first) → answer ≡ false
    → begins_with d (map entry_of list) ≡ false
opens_other d list rest first answer is same other = ap (λ es. begins_with d (map entry_of es)) is ∙ sym same ∙ other

-- or with this one
pub opens_with : (d : replay.Entry) (list rest : List Entry) (first : Entry) (answer : Bool) → list ≡ first ∷ rest → answer ≡ same_entry d (entry_of first) → answer ≡ true
    → map entry_of list ≡ d ∷ map entry_of rest
opens_with d list rest first answer is same holds =
    let one : d ≡ entry_of first = same_entry-true d (entry_of first) (sym same ∙ holds) in
    ap (λ es. map entry_of es) is ∙ ap (λ e. e ∷ map entry_of rest) (sym one)
