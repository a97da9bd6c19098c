-- Once all notifiers are back, what was taken and what is left are a merge of their posts.
use Rattle.std.proofs.Common.{◌≡◌, ◌≢◌, ℕ, zero, suc, ◌+◌, ◌≤◌, ◌<◌, Bool, true, false, nat_eq, List, [], ◌∷◌, ◌++◌, map, length, get_or, set, take, add-one, refl, sym, ap, ◌∙◌, subst, ⊎_elim, inl, inr, arith, length-append}
use Rattle.std.specs.List.{All}
use Rattle.std.proofs.lemmas.Bool.{cases_lt}
use Rattle.std.proofs.lemmas.Bool.Decides.{nat_tests}
use Rattle.std.proofs.lemmas.List.{get_or-set_same, get_or-set_other}
use Rattle.rt_inbox.specs.declared.message.Post.{Post}
use Rattle.rt_inbox.specs.declared.message.Msg.{Msg}
use Rattle.rt_inbox.specs.declared.notifier.Notifier.{Notifier}
use Rattle.rt_inbox.specs.declared.view.View.{View}
use Rattle.rt_inbox.specs.declared.view.View.TheVariants.{Owning}
use Rattle.rt_inbox.specs.Merge.{of_poster, numbered, HasPosted, IsMerge}
use Rattle.rt_inbox.specs.Rule.{Entry, times, AllPosted, WasAt}
use Rattle.rt_inbox.specs.Ends.{number_of, posts_of}
use Rattle.rt_inbox.specs.Gathered.{HasEach, IsKept, entry, each_entry, accepted_in, count_in, IsAmong, IsFiled}
use Rattle.rt_inbox.proofs.Posted.{same_number, nil}

-- every number below is one of theirs
abbrev pub Covers : ℕ → List Entry → Type 0
Covers made es = (p : ℕ) → p < made → 0 < times p es

pub length-numbered : (p n : ℕ) (posts : List Post) → length (numbered p n posts) ≡ length posts
length-numbered p n [] = refl
length-numbered p n (what ∷ posts) = let h = length-numbered p (n + 1) posts in omega arith

pub numbered-injective : (p n : ℕ) (xs ys : List Post) → numbered p n xs ≡ numbered p n ys → xs ≡ ys
numbered-injective p n [] [] e = refl
numbered-injective p n [] (y ∷ ys) e = cc
numbered-injective p n (x ∷ xs) [] e = cc
numbered-injective p n (x ∷ xs) (y ∷ ys) e =
    let one : Msg = record { poster = p; seq = n; what = x } in
    let other : Msg = record { poster = p; seq = n; what = y } in
    let head : one ≡ other = cc in
    let tail : numbered p (n + 1) xs ≡ numbered p (n + 1) ys = cc in
    let first : x ≡ y = ap (λ (m : Msg). m.what) head in
    let rest = numbered-injective p (n + 1) xs ys tail in
    cc

pub among_posted : (whole : List Msg) (es : List Entry) (e : Entry) → AllPosted whole es → IsAmong es e → HasPosted whole e.0 e.1
among_posted whole [] e h never = absurd never
among_posted whole (f ∷ es) e h it = ⊎_elim (λ (is : f ≡ e). subst (λ (y : Entry). HasPosted whole y.0 y.1) is h.0) (λ (rest : IsAmong es e). among_posted whole es e h.1 rest) it

pub among_times : (es : List Entry) (e : Entry) → IsAmong es e → 0 < times e.0 es
among_times [] e never = absurd never
among_times (f ∷ es) e it = ⊎_elim (λ (is : f ≡ e). subst (λ (y : Entry). 0 < times y.0 (f ∷ es)) is (let one : times f.0 (f ∷ es) ≡ 1 + times f.0 es = rw (same_number f.0) refl in omega arith))
    (λ (rest : IsAmong es e). let h = among_times es e rest in omega arith) it

among_at : (ns : List Notifier) (k : ℕ) (d : Notifier) → k < length ns → IsAmong (each_entry ns) (entry (get_or ns k d))
among_at [] k d lt = absurd (omega arith)
among_at (n ∷ ns) zero d lt = inl refl
among_at (n ∷ ns) (suc k) d lt = inr (among_at ns k d (omega arith))

contains_times : (ns : List Notifier) (p k : ℕ) → k < length (map number_of ns) → get_or (map number_of ns) k p ≡ p → 0 < times p (each_entry ns)
contains_times [] p k lt e = absurd (omega arith)
contains_times (n ∷ ns) p zero lt e = let one : times p (each_entry (n ∷ ns)) ≡ 1 + times p (each_entry ns) = rw e (rw (same_number p) refl) in omega arith
contains_times (n ∷ ns) p (suc k) lt e = let h = contains_times ns p k (omega arith) e in omega arith

-- all of the inbox's notifiers cover its posters
pub all_cover : (posters : ℕ) (ns : List Notifier) → HasEach posters ns → Covers posters (each_entry ns)
all_cover posters ns h p lt = let c = h p lt in contains_times ns p c.0 c.1 c.2

-- one more entry is filed in its place
pub filed_more : (accepted : List (List Post)) (es : List Entry) (e : Entry) → e.0 < length accepted → IsFiled accepted es → IsFiled (set accepted e.0 e.1) (e ∷ es)
filed_more accepted es e lt h p some = by_number (nat_eq e.0 p) refl
  where
    by_number : (b : Bool) → nat_eq e.0 p ≡ b → IsAmong (e ∷ es) (p, get_or (set accepted e.0 e.1) p [])
    by_number true is = let same : p ≡ e.0 = grind (arith, nat_tests) in let here : get_or (set accepted e.0 e.1) p [] ≡ e.1 = rw same (get_or-set_same accepted e.0 e.1 [] lt) in inl (λ i. (sym same i, sym here i))
    by_number false is =
        let apart : p ≢ e.0 = λ k. grind (arith, nat_tests) in
        let there : get_or (set accepted e.0 e.1) p [] ≡ get_or accepted p [] = get_or-set_other accepted e.0 p e.1 [] apart in
        let counted : times p (e ∷ es) ≡ times p es = rw is (omega arith) in
        inr (rw there (h p (omega arith)))

-- the messages of each of these posters, counted
abbrev lengths : List Msg → List Entry → ℕ
lengths xs [] = 0
lengths xs (e ∷ es) = length (of_poster e.0 xs) + lengths xs es

lengths-cons : (m : Msg) (xs : List Msg) (es : List Entry) → lengths (m ∷ xs) es ≡ lengths xs es + times m.poster es
lengths-cons m xs [] = omega arith
lengths-cons m xs (e ∷ es) = by_number (nat_eq m.poster e.0) refl (lengths-cons m xs es)
  where
    by_number : (b : Bool) → nat_eq m.poster e.0 ≡ b → lengths (m ∷ xs) es ≡ lengths xs es + times m.poster es → lengths (m ∷ xs) (e ∷ es) ≡ lengths xs (e ∷ es) + times m.poster (e ∷ es)
    by_number true is rest = let back : nat_eq e.0 m.poster ≡ true = grind (arith, nat_tests) in rw (is, back) (omega arith)
    by_number false is rest = let back : nat_eq e.0 m.poster ≡ false = grind (arith, nat_tests) in rw (is, back) (omega arith)

lengths-posted : (xs : List Msg) (es : List Entry) → AllPosted xs es → lengths xs es ≡ accepted_in es
lengths-posted xs [] h = refl
lengths-posted xs (e ∷ es) h = let one : length (of_poster e.0 xs) ≡ length e.1 = ap length h.0 ∙ length-numbered e.0 0 e.1 in let rest = lengths-posted xs es h.1 in omega arith

-- each message is of a poster that is covered, so there are no more messages than their posts
covered : (xs : List Msg) (made : ℕ) (es : List Entry) → Covers made es → ((p : ℕ) → made ≤ p → of_poster p xs ≡ []) → length xs ≤ lengths xs es
covered [] made es all none = omega arith
covered (m ∷ xs) made es all none =
    ⊎_elim (λ (below : m.poster < made).
    let h = covered xs made es all (λ p le. fewer p (none p le)) in
    let one = all m.poster below in
    let c = lengths-cons m xs es in
    omega arith)
    (λ (above : made ≤ m.poster).
    let never : m ∷ of_poster m.poster xs ≡ [] = rw (same_number m.poster) at (none m.poster above) in cc)
    (cases_lt m.poster made)
  where
    fewer : (p : ℕ) → of_poster p (m ∷ xs) ≡ [] → of_poster p xs ≡ []
    fewer p e = by_number (nat_eq m.poster p) refl
      where
        by_number : (b : Bool) → nat_eq m.poster p ≡ b → of_poster p xs ≡ []
        by_number true is = let never : m ∷ of_poster p xs ≡ [] = rw is at e in cc
        by_number false is = rw is at e

-- what the owner took is no more than what was accepted
pub bounded : (items : List Msg) (v : View) (taken : List Msg) (made : ℕ) (es : List Entry) → v ≡ Owning taken made es → WasAt items v → Covers made es → length taken ≤ accepted_in es
bounded items v taken made es is was all =
    let at : WasAt items (Owning taken made es) = subst (λ u. WasAt items u) is was in
    let h = at.2 in
    let own = h.owned at.0 (Owning taken made es) at.3 in
    let posted : AllPosted (taken ++ items) es = subst (λ ms. AllPosted (ms ++ items) es) (sym own.0) (h.merged at.0 (Owning taken made es) at.3) in
    let none : (p : ℕ) → made ≤ p → of_poster p (taken ++ items) ≡ [] = λ p le. ap (λ ms. of_poster p (ms ++ items)) own.0 ∙ h.no_other p (omega (arith, own.1)) in
    let c = covered (taken ++ items) made es all none in
    let l = lengths-posted (taken ++ items) es posted in
    omega (arith, length-append taken items)

-- where the queue holds nothing, the taken list is a merge of the filed ones
pub merged : (v : View) (whole : List Msg) (made : ℕ) (es : List Entry) (accepted : List (List Post)) → v ≡ Owning whole made es → WasAt [] v → Covers made es → IsFiled accepted es → length accepted ≡ made → IsMerge whole accepted
merged v whole made es accepted is was all filed long =
    let at : WasAt [] (Owning whole made es) = subst (λ u. WasAt [] u) is was in
    let h = at.2 in
    let own = h.owned at.0 (Owning whole made es) at.3 in
    let same : h.taken ++ [] ≡ whole = nil h.taken ∙ sym own.0 in
    let posted : AllPosted whole es = subst (λ ms. AllPosted ms es) same (h.merged at.0 (Owning whole made es) at.3) in
    record {
      each = λ p lt. among_posted whole es (p, get_or accepted p []) posted (filed p (all p (omega arith)));
      no_other = λ p le. ap (of_poster p) (sym same) ∙ h.no_other p (omega (arith, own.1));
    }

-- and the list that is filed under a notifier's number is what it posted
pub kept : (v : View) (whole : List Msg) (made : ℕ) (ns : List Notifier) (accepted : List (List Post)) → v ≡ Owning whole made (each_entry ns) → WasAt [] v → IsFiled accepted (each_entry ns) → All (IsKept accepted) ns
kept v whole made ns accepted is was filed k d lt =
    let es = each_entry ns in
    let at : WasAt [] (Owning whole made es) = subst (λ u. WasAt [] u) is was in
    let h = at.2 in
    let n = get_or ns k d in
    let among = among_at ns k d lt in
    let posted = h.merged at.0 (Owning whole made es) at.3 in
    let mine = among_posted (h.taken ++ []) es (entry n) posted among in
    let stands = among_posted (h.taken ++ []) es (number_of n, get_or accepted (number_of n) []) posted (filed (number_of n) (among_times es (entry n) among)) in
    numbered-injective (number_of n) 0 (get_or accepted (number_of n) []) (posts_of n) (sym stands ∙ mine)

-- how many posts were accepted of the first notifiers, as one more of them is counted
pub count-more : (ns : List Notifier) (i : ℕ) (n : Notifier) → i < length ns → n ≡ get_or ns i n → count_in (take (i + 1) ns) ≡ count_in (take i ns) + length (posts_of n)
count-more ns i n lt is = rw add-one (count-suc ns i n lt is)
  where
    count-suc : (ms : List Notifier) (k : ℕ) (m : Notifier) → k < length ms → m ≡ get_or ms k m → count_in (take (suc k) ms) ≡ count_in (take k ms) + length (posts_of m)
    count-suc [] k m lt is = absurd (omega arith)
    count-suc (x ∷ xs) zero m lt is = let e : length (posts_of m) ≡ length (posts_of x) = ap (λ (y : Notifier). length (posts_of y)) is in omega arith
    count-suc (x ∷ xs) (suc k) m lt is = let h = count-suc xs k m (omega arith) is in omega arith
