-- What is known of scopes: how it comes to be known, and that it holds where the scope to which it leads went.
use Rattle.std.proofs.Common.{ℕ, suc, Bool, true, false, List, [], ◌∷◌, ◌++◌, ◌≡◌, refl, sym, ap, ◌∙◌, subst, nat_eq, reverse, length, ◌+◌, ◌-◌, ◌<◌, ◌≤◌, arith}
use Rattle.std.specs.Prelude.{Option, Some, None, IfSome, Result, Ok, Err, OnOk, is_some, slice_get, option_to_list, if◌then◌else◌}
use Rattle.std.proofs.lemmas.Bool.{eqb-true}
use Rattle.std.proofs.lemmas.List.{length-append, reverse-append, reverse-reverse}
pub use Rattle.rt_lemmas.proofs.Options.{some_same as one_number}
use Rattle.rt_model.specs.Lists.{at, kept_by}
use Rattle.rt_model.specs.Tree.{Types, Place, Spot, node_at, component_at}
use Rattle.rt_model.specs.State.{Side, Scope, State, is_live}
use Rattle.rt_model.specs.Run.{child_at, spots_of}
use Rattle.rt_model.specs.Boundary.{live_child, children_among, side_scopes}
use Rattle.rt_model.specs.Removal.{children_below, first_leaf}
use Rattle.rt_model.specs.Framed.{Frame, TookOne, framed}
use Rattle.rt_model.proofs.Maps.{by_test, none_some, pick_true, pick_false}
use Rattle.rt_scopes.specs.Knowing.{Follows, Goes, GoesWhere, IsKnown, Knows, Leads, below_at, first_below, front_of, last_live, live_of}
use Rattle.rt_scopes.proofs.Spots.{leaf_begin, leaf_on}

-- the first of these rows is that of the first scope
pub front_first : (rows : List (ℕ × List ℕ)) (row : ℕ × List ℕ) (t : ℕ) → Some row ≡ slice_get rows 0 → front_of rows t ≡ row.0
front_first [] row t h = absurd (cc h)
front_first (top ∷ rows) row t h = let same : row ≡ top = cc in ap (λ (r : ℕ × List ℕ). r.0) (sym same)

-- a row behind these is what comes behind them
front_behind : (rows : List (ℕ × List ℕ)) (row : ℕ × List ℕ) (t : ℕ) → front_of rows row.0 ≡ front_of (rows ++ row ∷ []) t
front_behind [] row t = refl
front_behind (top ∷ rows) row t = refl

-- of rows of which the last one was taken, if one was
module _ (old new : List (ℕ × List ℕ)) where
  pub taken_own : (o : Option (ℕ × List ℕ)) → old ≡ new ++ option_to_list o → IfSome o (λ row. old ≡ new ++ row ∷ [])
  taken_own None h = tt
  taken_own (Some row) h = h

  pub taken_front : (o : Option (ℕ × List ℕ)) (s : ℕ) → old ≡ new ++ option_to_list o → ((t : ℕ) → front_of old t ≡ s)
      → IfSome o (λ row. front_of new row.0 ≡ s)
  taken_front None s h front = tt
  taken_front (Some row) s h front = front_behind new row 0 ∙ ap (λ (rows : List (ℕ × List ℕ)). front_of rows 0) (sym h) ∙ front 0

  pub taken_within : (o : Option (ℕ × List ℕ)) (n : ℕ) → old ≡ new ++ option_to_list o → length old ≤ n → IfSome o (λ row. length new ≤ n)
  taken_within None n h within = tt
  taken_within (Some row) n h within =
      let more : length old ≡ length new + 1 = ap (λ (rows : List (ℕ × List ℕ)). length rows) h ∙ length-append new (row ∷ []) in
      let fits : length new ≤ n = omega (arith, within, more) in
      fits

-- a list of which a test lets some through
kept-append : (test : ℕ → Bool) (xs ys : List ℕ) → kept_by test (xs ++ ys) ≡ kept_by test xs ++ kept_by test ys
kept-append test [] ys = refl
kept-append test (x ∷ xs) ys =
    by_test (test x)
    (
    λ q.
    pick_true (x ∷ kept_by test (xs ++ ys)) (kept_by test (xs ++ ys)) q
    ∙ ap (λ (zs : List ℕ). x ∷ zs) (kept-append test xs ys)
    ∙ sym (ap (λ (zs : List ℕ). zs ++ kept_by test ys) (pick_true (x ∷ kept_by test xs) (kept_by test xs) q))
    )
    (
    λ q.
    pick_false (x ∷ kept_by test (xs ++ ys)) (kept_by test (xs ++ ys)) q
    ∙ kept-append test xs ys
    ∙ sym (ap (λ (zs : List ℕ). zs ++ kept_by test ys) (pick_false (x ∷ kept_by test xs) (kept_by test xs) q))
    )

-- where what a second test lets through the first one does, the second one alone counts
kept_twice : (first second : ℕ → Bool) → ((t : ℕ) → second t ≡ true → first t ≡ true) → (xs : List ℕ) → kept_by second (kept_by first xs) ≡ kept_by second xs
kept_twice first second more [] = refl
kept_twice first second more (x ∷ xs) =
    by_test (first x)
    (
    λ q.
    ap (λ (zs : List ℕ). kept_by second zs) (pick_true (x ∷ kept_by first xs) (kept_by first xs) q)
    ∙ ap (λ (zs : List ℕ). if second x then x ∷ zs else zs) (kept_twice first second more xs)
    )
    (
    λ q.
    ap (λ (zs : List ℕ). kept_by second zs) (pick_false (x ∷ kept_by first xs) (kept_by first xs) q)
    ∙ kept_twice first second more xs
    ∙ sym (pick_false (x ∷ kept_by second xs) (kept_by second xs) (not_second x q))
    )
  where
    not_second : (t : ℕ) → first t ≡ false → second t ≡ false
    not_second t fails = by_test (second t) (λ q. let absurdity : true ≡ false = sym (more t q) ∙ fails in cc) (λ q. q)

module _ {K : Types} where
  abbrev frame_children : State K → Option (Frame K) → List ℕ
  frame_children w None = []
  frame_children w (Some f) = side_scopes w f.6 ++ side_scopes w f.5 ++ side_scopes w f.4

  children_framed : (w : State K) (o : Option (Scope K)) → children_below w o ≡ frame_children w (framed o)
  children_framed w None = refl
  children_framed w (Some x) = refl

  live_framed : (o : Option (Scope K)) → is_some o ≡ is_some (framed o)
  live_framed None = refl
  live_framed (Some x) = refl

  -- the first of these that is live
  first_stays : (v : State K) (xs : List ℕ) (t : ℕ) → slice_get xs 0 ≡ Some t → is_live v t ≡ true → slice_get (live_of v xs) 0 ≡ Some t
  first_stays v [] t first live = absurd (cc first)
  first_stays v (x ∷ xs) t first live =
      let same : x ≡ t = one_number x t first in
      ap (λ (zs : List ℕ). slice_get zs 0) (pick_true (x ∷ live_of v xs) (live_of v xs) (ap (λ (n : ℕ). is_live v n) same ∙ live))
      ∙ ap (λ (n : ℕ). Some n) same

  picked_is_live : (w : State K) (xs : List ℕ) (t : ℕ) → slice_get (live_of w xs) 0 ≡ Some t → is_live w t ≡ true
  picked_is_live w [] t first = absurd (cc first)
  picked_is_live w (x ∷ xs) t first =
      by_test (is_live w x)
      (
      λ q.
      let top : Some x ≡ Some t = sym (ap (λ (zs : List ℕ). slice_get zs 0) (pick_true (x ∷ live_of w xs) (live_of w xs) q)) ∙ first in
      ap (λ (n : ℕ). is_live w n) (sym (one_number x t top)) ∙ q
      )
      (
      λ q.
      picked_is_live w xs t (sym (ap (λ (zs : List ℕ). slice_get zs 0) (pick_false (x ∷ live_of w xs) (live_of w xs) q)) ∙ first)
      )

  -- where no scope came, the children that are left are those that are still live
  module _ (w v : State K) (none_came : (s : ℕ) → is_live v s ≡ true → is_live w s ≡ true) where
    left_if : (t : ℕ) (b c : Bool) → is_live v t ≡ b → is_live w t ≡ c → (if b then t ∷ [] else []) ≡ live_of v (if c then t ∷ [] else [])
    left_if t true true now before = sym (pick_true (t ∷ []) [] now)
    left_if t true false now before = let absurdity : true ≡ false = sym (none_came t now) ∙ before in cc
    left_if t false true now before = sym (pick_false (t ∷ []) [] now)
    left_if t false false now before = refl

    child_left : (o : Option ℕ) → live_child v o ≡ live_of v (live_child w o)
    child_left None = refl
    child_left (Some t) = left_if t (is_live v t) (is_live w t) refl refl

    among_left : (children : List (Place × ℕ)) (ss : List (Spot K)) → children_among v children ss ≡ live_of v (children_among w children ss)
    among_left children [] = refl
    among_left children (node_at p k ∷ ss) = among_left children ss
    among_left children (component_at p c ∷ ss) =
        let here : List ℕ = live_child w (child_at children p) in
        ap (λ (zs : List ℕ). zs ++ children_among v children ss) (child_left (child_at children p))
        ∙ ap (λ (zs : List ℕ). live_of v here ++ zs) (among_left children ss)
        ∙ sym (kept-append (λ (s : ℕ). is_live v s) here (children_among w children ss))

    side_left : (side : Side K) → side_scopes v side ≡ live_of v (side_scopes w side)
    side_left side = among_left side.children (spots_of side.output)

    frame_left : (f : Option (Frame K)) → frame_children v f ≡ live_of v (frame_children w f)
    frame_left None = refl
    frame_left (Some f) =
        let a : List ℕ = side_scopes w f.6 in
        let b : List ℕ = side_scopes w f.5 in
        let c : List ℕ = side_scopes w f.4 in
        let test : ℕ → Bool = λ (s : ℕ). is_live v s in
        ap (λ (zs : List ℕ). zs ++ side_scopes v f.5 ++ side_scopes v f.4) (side_left f.6)
        ∙ ap (λ (zs : List ℕ). live_of v a ++ zs ++ side_scopes v f.4) (side_left f.5)
        ∙ ap (λ (zs : List ℕ). live_of v a ++ live_of v b ++ zs) (side_left f.4)
        ∙ sym (ap (λ (zs : List ℕ). zs ++ live_of v c) (kept-append test a b))
        ∙ sym (kept-append test (a ++ b) c)

    below_left : (s : ℕ) → framed (at v.scopes s) ≡ framed (at w.scopes s) → below_at v s ≡ live_of v (below_at w s)
    below_left s h =
        children_framed v (at v.scopes s)
        ∙ ap (λ (f : Option (Frame K)). frame_children v f) h
        ∙ frame_left (framed (at w.scopes s))
        ∙ sym (ap (λ (zs : List ℕ). live_of v zs) (children_framed w (at w.scopes s)))

    -- what was known of a scope that is as it was is known
    still_known : (row : ℕ × List ℕ) → framed (at v.scopes row.0) ≡ framed (at w.scopes row.0) → IsKnown w row → IsKnown v row
    still_known row same h =
        below_left row.0 same
        ∙ ap (λ (zs : List ℕ). live_of v zs) h
        ∙ kept_twice (λ (s : ℕ). is_live w s) (λ (s : ℕ). is_live v s) none_came (reverse row.1)

    -- and a first child that stays live is the first one still
    first_still : (s t : ℕ) → framed (at v.scopes s) ≡ framed (at w.scopes s) → is_live v t ≡ true → first_below w s ≡ Some t → first_below v s ≡ Some t
    first_still s t same live first = ap (λ (zs : List ℕ). slice_get zs 0) (below_left s same) ∙ first_stays v (below_at w s) t first live

  -- where one scope went none came
  none_came : (w v : State K) (l : ℕ) → TookOne w l v → (s : ℕ) → is_live v s ≡ true → is_live w s ≡ true
  none_came w v l took s live =
      by_test (nat_eq l s)
      (
      λ q.
      let gone : is_live v s ≡ false = ap (λ (n : ℕ). is_live v n) (sym (eqb-true l s q)) ∙ ap (λ (o : Option (Scope K)). is_some o) took.gone in
      let absurdity : true ≡ false = sym live ∙ gone in
      cc
      )
      (
      λ q.
      live_framed (at w.scopes s)
      ∙ ap (λ (f : Option (Frame K)). is_some f) (sym (took.others s q))
      ∙ sym (live_framed (at v.scopes s))
      ∙ live
      )

  -- the first child of a scope is live
  first_is_live : (w : State K) (s t : ℕ) → first_below w s ≡ Some t → is_live w t ≡ true
  first_is_live w s t first =
      picked_is_live w (below_at w s) t
      (sym (ap (λ (zs : List ℕ). slice_get zs 0) (below_left w w (λ (u : ℕ) live. live) s refl)) ∙ first)

  -- and it stays live where another one went
  stays_live : (w v : State K) (l t : ℕ) → TookOne w l v → nat_eq l t ≡ false → is_live w t ≡ true → is_live v t ≡ true
  stays_live w v l t took other live =
      live_framed (at v.scopes t)
      ∙ ap (λ (f : Option (Frame K)). is_some f) (took.others t other)
      ∙ sym (live_framed (at w.scopes t))
      ∙ live

  first_after : (w v : State K) (l s t : ℕ) → TookOne w l v → nat_eq l s ≡ false → nat_eq l t ≡ false → first_below w s ≡ Some t → first_below v s ≡ Some t
  first_after w v l s t took other apart first =
      first_still w v (none_came w v l took) s t (took.others s other) (stays_live w v l t took apart (first_is_live w s t first)) first

  follows_after : (w v : State K) (l s : ℕ) (rows : List (ℕ × List ℕ)) → TookOne w l v → nat_eq l s ≡ false
      → first_below w s ≡ Some (front_of rows l) → Goes w rows l → Follows v s rows
  follows_after w v l s [] took other first h = tt
  follows_after w v l s (next ∷ rows) took other first h = first_after w v l s next.0 took other h.2 first

  -- what leads down to a scope that went is known still
  pub known_after : (w v : State K) (l : ℕ) → TookOne w l v → (rows : List (ℕ × List ℕ)) → Goes w rows l → Knows v rows
  known_after w v l took [] h = tt
  known_after w v l took (row ∷ rows) h = (
    still_known w v (none_came w v l took) row (took.others row.0 h.2) h.0,
    follows_after w v l row.0 rows took h.2 h.1 h.3,
    known_after w v l took rows h.3,
  )

  -- nothing is known of no scope
  pub knows_none : (w : State K) (rows : List (ℕ × List ℕ)) → rows ≡ [] → Knows w rows
  knows_none w rows none = subst (λ (xs : List (ℕ × List ℕ)). Knows w xs) (sym none) tt

  -- where no scope goes
  pub goes_nowhere : (w : State K) (rows : List (ℕ × List ℕ)) (o : Option ℕ) → o ≡ None → rows ≡ [] → GoesWhere w rows o
  goes_nowhere w rows o none empty = subst (λ (p : Option ℕ). GoesWhere w rows p) (sym none) empty

  -- what is known is known of the scopes alone
  module _ (w v : State K) (same : w.scopes ≡ v.scopes) where
    stay_live : (s : ℕ) → is_live w s ≡ is_live v s
    stay_live s = ap (λ (es : List (ℕ × Scope K)). is_some (at es s)) same

    known_scopes : (row : ℕ × List ℕ) → IsKnown w row → IsKnown v row
    known_scopes row h =
        still_known w v (λ (s : ℕ) live. stay_live s ∙ live) row (ap (λ (es : List (ℕ × Scope K)). framed (at es row.0)) (sym same)) h

    follows_scopes : (s : ℕ) (rows : List (ℕ × List ℕ)) → Follows w s rows → Follows v s rows
    follows_scopes s [] h = tt
    follows_scopes s (next ∷ rows) h =
        first_still w v (λ (t : ℕ) live. stay_live t ∙ live) s next.0 (ap (λ (es : List (ℕ × Scope K)). framed (at es s)) (sym same))
        (sym (stay_live next.0) ∙ first_is_live w s next.0 h) h

    pub knows_scopes : (rows : List (ℕ × List ℕ)) → Knows w rows → Knows v rows
    knows_scopes [] h = tt
    knows_scopes (row ∷ rows) h = (known_scopes row h.0, follows_scopes row.0 rows h.1, knows_scopes rows h.2)

  -- the children of a scope, in the order from the last one, are known of it
  pub listed_known : (w : State K) (s : ℕ) (children left : List ℕ) → children ≡ below_at w s → left ≡ reverse children → IsKnown w (s, left)
  listed_known w s children left are back =
      below_left w w (λ (t : ℕ) h. h) s refl
      ∙ ap (λ (zs : List ℕ). live_of w zs) (sym are ∙ sym (reverse-reverse children) ∙ ap (λ (zs : List ℕ). reverse zs) (sym back))

  -- the last one, live or not
  pub last_is_live : (w : State K) (rest left : List ℕ) (t : ℕ) → left ≡ rest ++ t ∷ [] → is_live w t ≡ true → last_live w left ≡ Some t
  last_is_live w rest left t last live =
      ap (λ (zs : List ℕ). last_live w zs) last
      ∙ ap (λ (zs : List ℕ). slice_get (live_of w zs) 0) (reverse-append rest (t ∷ []))
      ∙ ap (λ (zs : List ℕ). slice_get zs 0) (pick_true (t ∷ live_of w (reverse rest)) (live_of w (reverse rest)) live)

  pub last_is_gone : (w : State K) (rest left : List ℕ) (t : ℕ) → left ≡ rest ++ t ∷ [] → is_live w t ≡ false → live_of w (reverse rest) ≡ live_of w (reverse left)
  last_is_gone w rest left t last gone =
      sym
      (ap (λ (zs : List ℕ). live_of w (reverse zs)) last
      ∙ ap (λ (zs : List ℕ). live_of w zs) (reverse-append rest (t ∷ []))
      ∙ pick_false (t ∷ live_of w (reverse rest)) (live_of w (reverse rest)) gone)

  -- the first child of a scope of which they are known
  pub first_known : (w : State K) (s : ℕ) (left : List ℕ) → IsKnown w (s, left) → first_below w s ≡ last_live w left
  first_known w s left h = ap (λ (zs : List ℕ). slice_get zs 0) h

  -- the last of rows that are known, and the others, which lead down to it
  follows_last : (w : State K) (s : ℕ) (rows : List (ℕ × List ℕ)) (row : ℕ × List ℕ) → Follows w s (rows ++ row ∷ []) → first_below w s ≡ Some (front_of rows row.0)
  follows_last w s [] row h = h
  follows_last w s (next ∷ rows) row h = h

  leads_last : (w : State K) (rows : List (ℕ × List ℕ)) (row : ℕ × List ℕ) → Knows w (rows ++ row ∷ []) → Leads w rows row.0
  leads_last w [] row h = tt
  leads_last w (top ∷ rows) row h = (h.0, follows_last w top.0 rows row h.1, leads_last w rows row h.2)

  known_last : (w : State K) (rows : List (ℕ × List ℕ)) (row : ℕ × List ℕ) → Knows w (rows ++ row ∷ []) → IsKnown w row
  known_last w [] row h = h.0
  known_last w (top ∷ rows) row h = known_last w rows row h.2

  module _ (w : State K) (old new : List (ℕ × List ℕ)) (row : ℕ × List ℕ) (is : old ≡ new ++ row ∷ []) (h : Knows w old) where
    pub leads_to_last : Leads w new row.0
    leads_to_last = leads_last w new row (subst (λ (rows : List (ℕ × List ℕ)). Knows w rows) is h)

    pub last_known : IsKnown w row
    last_known = known_last w new row (subst (λ (rows : List (ℕ × List ℕ)). Knows w rows) is h)

  -- no rows lead anywhere
  pub leads_none : (w : State K) (rows : List (ℕ × List ℕ)) (t : ℕ) → rows ≡ [] → Leads w rows t
  leads_none w rows t none = subst (λ (xs : List (ℕ × List ℕ)). Leads w xs t) (sym none) tt

  -- one row more, and one step down
  pub leads_on : (w : State K) (rows : List (ℕ × List ℕ)) (row : ℕ × List ℕ) (t : ℕ) → Leads w rows row.0 → IsKnown w row
      → first_below w row.0 ≡ Some t → Leads w (rows ++ row ∷ []) t
  leads_on w [] row t h known first = (known, first, tt)
  leads_on w (top ∷ rows) row t h known first = (h.0, h.1 ∙ ap (λ (n : ℕ). Some n) (front_behind rows row t), leads_on w rows row t h.2 known first)

  -- a scope without children is none of those that lead down to it
  other_than : (w : State K) (l s t : ℕ) → first_below w l ≡ None → first_below w s ≡ Some t → nat_eq l s ≡ false
  other_than w l s t none first =
      by_test (nat_eq l s)
      (λ q. none_some none (ap (λ (n : ℕ). first_below w n) (eqb-true l s q) ∙ first))
      (λ q. q)

  pub goes_to : (w : State K) (l : ℕ) → first_below w l ≡ None → (rows : List (ℕ × List ℕ)) → Leads w rows l → Goes w rows l
  goes_to w l none [] h = tt
  goes_to w l none (row ∷ rows) h = (h.0, h.1, other_than w l row.0 (front_of rows l) none h.1, goes_to w l none rows h.2)

  pub goes_none : (w : State K) (rows : List (ℕ × List ℕ)) (t : ℕ) → rows ≡ [] → Goes w rows t
  goes_none w rows t none = subst (λ (xs : List (ℕ × List ℕ)). Goes w xs t) (sym none) tt

  -- the way down from the first row goes on where the rows lead
  way_on : (w : State K) (n i t : ℕ) (rows : List (ℕ × List ℕ)) → Leads w rows t → i + length rows ≤ n
      → first_leaf w (n - (i + length rows)) t ≡ first_leaf w (n - i) (front_of rows t)
  way_on w n i t [] h low = let none : i + 0 ≡ i = omega arith in ap (λ (m : ℕ). first_leaf w (n - m) t) none
  way_on w n i t (row ∷ rows) h low =
      let all : i + suc (length rows) ≤ n = low in
      let before : i < n = omega (arith, all) in
      let counted : i + suc (length rows) ≡ (i + 1) + length rows = omega arith in
      let within : (i + 1) + length rows ≤ n = omega (arith, all) in
      ap (λ (m : ℕ). first_leaf w (n - m) t) counted
      ∙ way_on w n (i + 1) t rows h.2 within
      ∙ leaf_on w n i row.0 (front_of rows t) (below_at w row.0) before refl h.1

  pub way_begins : (w : State K) (n t s : ℕ) (rows : List (ℕ × List ℕ)) → Leads w rows t → length rows ≤ n → front_of rows t ≡ s
      → first_leaf w (n - length rows) t ≡ first_leaf w n s
  way_begins w n t s rows h low front =
      let none : length rows ≡ 0 + length rows = omega arith in
      let within : 0 + length rows ≤ n = omega (arith, low) in
      ap (λ (m : ℕ). first_leaf w (n - m) t) none
      ∙ way_on w n 0 t rows h within
      ∙ leaf_begin w n (front_of rows t)
      ∙ ap (λ (u : ℕ). first_leaf w n u) front

  -- from no row it begins at the scope itself
  pub way_none : (w : State K) (n s : ℕ) (rows : List (ℕ × List ℕ)) → rows ≡ [] → first_leaf w (n - length rows) s ≡ first_leaf w n s
  way_none w n s rows none = subst (λ (xs : List (ℕ × List ℕ)). first_leaf w (n - length xs) s ≡ first_leaf w n s) (sym none) (leaf_begin w n s)

  -- the same by other words for how many there are
  pub way_counted : (w : State K) (t s m n i j : ℕ) → m ≡ n → i ≡ j → first_leaf w (m - i) t ≡ first_leaf w m s → first_leaf w (n - j) t ≡ first_leaf w n s
  way_counted w t s m n i j counts steps h =
      subst (λ (k : ℕ). first_leaf w (n - k) t ≡ first_leaf w n s) steps
      (subst (λ (k : ℕ). first_leaf w (k - i) t ≡ first_leaf w k s) counts h)

-- what holds anyway holds where an answer is
pub ok_anyway : {X E P : Type 0} (result : Result X E) → P → OnOk result P
ok_anyway (Ok x) p = p
ok_anyway (Err e) p = tt
