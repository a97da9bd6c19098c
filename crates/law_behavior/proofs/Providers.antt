-- A look-up finds the nearest scope that provides a kind.
use Rattle.std.proofs.Common.{ℕ, zero, suc, ◌+◌, ◌≤◌, ◌<◌, Bool, true, false, List, [], ◌∷◌, length, ◌≡◌, refl, sym, ap, ◌∙◌, nat_eq, nat_lt, arith}
use Rattle.std.specs.Prelude.{Option, Some, None, if◌then◌else◌}
use Rattle.rt_model.specs.Lists.{at}
use Rattle.rt_model.specs.Tree.{Types}
use Rattle.rt_model.specs.World.{Context, World}
use Rattle.rt_model.specs.State.{Scope, State, parents_of, world_of}
use Rattle.rt_model.specs.Lasting.{IsRooted}
use Rattle.rt_model.specs.Program.{Call, noted_at, noted, parent_in, own_context, Found, found_at, further_up, looked_up, own_scope_or}
use Rattle.rt_model.proofs.Maps.{by_test, pick_true, pick_false}
use Rattle.law_behavior.specs.Nearest.{offered_at, offered, IsWayToProvider, NearestProvides, WaysAreShort}

module _ {K : Types} (w : World K) (k : ℕ) where
  -- notes don't change what a call provided
  noted_provides : (c : Call K) (s : ℕ) → (noted c (Context k s)).provided ≡ c.provided
  noted_provides c s = at_into c.into c.in_body
    where
      at_into : (into : List ℕ) (body : Bool) → (noted_at c (Context k s) into body).provided ≡ c.provided
      at_into [] true = refl
      at_into [] false = refl
      at_into (n ∷ ns) body = refl

  -- a way depends on the call only by what it provided
  same_offers : (c d : Call K) (s : ℕ) → d.provided ≡ c.provided → offered w d k s ≡ offered w c k s
  same_offers c d s e = ap (λ (own : List (ℕ × ℕ × K.Value)). offered_at (own_context own k s) (w.values.context k s)) e

  same_way : (c d : Call K) (path : List ℕ) (s : ℕ) (v : K.Value) → d.provided ≡ c.provided → IsWayToProvider w d k path s v → IsWayToProvider w c k path s v
  same_way c d [] s v e h = sym (same_offers c d s e) ∙ h
  same_way c d (p ∷ path) s v e h = (sym (same_offers c d s e) ∙ h.0, h.1, same_way c d path p v e h.2)

  abbrev Way : Call K → ℕ → K.Value → Type 0
  Way c s v = (path : List ℕ) × IsWayToProvider w c k path s v

  further_found : (go : ℕ → Call K → Found K) (c d : Call K) (s : ℕ) (v : K.Value) (o : Option ℕ) → d.provided ≡ c.provided
      → ((p : ℕ) → (go p d).value ≡ Some v → Way d p v)
      → offered w c k s ≡ None → parent_in w.given.parents s ≡ o → (further_up go o d).value ≡ Some v → Way c s v
  further_found go c d s v None e each none up h = cc
  further_found go c d s v (Some p) e each none up h =
      let more = each p h in
      (p ∷ more.0, (none, up, same_way c d more.0 p v e more.1))

  step_found : (go : ℕ → Call K → Found K) (c : Call K) (s : ℕ) (v : K.Value) (own there : Option K.Value)
      → ((d : Call K) (p : ℕ) → (go p d).value ≡ Some v → Way d p v)
      → own_context c.provided k s ≡ own → w.values.context k s ≡ there
      → (found_at w k s c (λ d. further_up go (parent_in w.given.parents s) d) own there).value ≡ Some v → Way c s v
  step_found go c s v (Some a) there each eo et h =
      ([], ap (λ (o : Option K.Value). offered_at o (w.values.context k s)) eo ∙ h)
  step_found go c s v None (Some a) each eo et h =
      ([], ap (λ (o : Option K.Value). offered_at o (w.values.context k s)) eo ∙ et ∙ h)
  step_found go c s v None None each eo et h =
      let d : Call K = noted c (Context k s) in
      further_found go c d s v (parent_in w.given.parents s) (noted_provides c s) (λ p g. each d p g)
      (ap (λ (o : Option K.Value). offered_at o (w.values.context k s)) eo ∙ et) refl h

  found_way : (n : ℕ) (c : Call K) (s : ℕ) (v : K.Value) → (looked_up w k n s c).value ≡ Some v → Way c s v
  found_way zero c s v h = cc
  found_way (suc n) c s v h =
      step_found (λ p e. looked_up w k n p e) c s v (own_context c.provided k s) (w.values.context k s)
      (λ d p g. found_way n d p v g) refl refl h

  -- conversely, where the way is short enough

  stays_here : (go : Call K → Found K) (c : Call K) (s : ℕ) (v : K.Value) (own there : Option K.Value) → offered_at own there ≡ Some v → (found_at w k s c go own there).value ≡ Some v
  stays_here go c s v (Some a) there h = h
  stays_here go c s v None (Some a) h = h
  stays_here go c s v None None h = cc

  steps_on : (go : Call K → Found K) (c : Call K) (s : ℕ) (own there : Option K.Value) → offered_at own there ≡ None → found_at w k s c go own there ≡ go (noted c (Context k s))
  steps_on go c s (Some a) there h = cc
  steps_on go c s None (Some a) h = cc
  steps_on go c s None None h = refl

  way_found : (n : ℕ) (path : List ℕ) (c : Call K) (s : ℕ) (v : K.Value) → IsWayToProvider w c k path s v → length path < n → (looked_up w k n s c).value ≡ Some v
  way_found zero path c s v h short = absurd (omega (arith, short))
  way_found (suc n) [] c s v h short =
      stays_here (λ d. further_up (λ p e. looked_up w k n p e) (parent_in w.given.parents s) d) c s v (own_context c.provided k s) (w.values.context k s) h
  way_found (suc n) (p ∷ path) c s v h short =
      let d : Call K = noted c (Context k s) in
      ap (λ (f : Found K). f.value)
      (
      steps_on (λ e. further_up (λ r f. looked_up w k n r f) (parent_in w.given.parents s) e) c s (own_context c.provided k s) (w.values.context k s) h.0
      ∙ ap (λ (o : Option ℕ). further_up (λ r f. looked_up w k n r f) o d) h.1
      )
      ∙ way_found n path d p v (same_way d c path p v (sym (noted_provides c s)) h.2) (omega (arith, short))

pub nearest_provides : (K : Types) → NearestProvides K
nearest_provides K w c from k v = (
  λ h. found_way w k (length w.given.parents + 1) c (own_scope_or w from) v h,
  λ path way short. way_found w k (length w.given.parents + 1) path c (own_scope_or w from) v way short,
)

-- no way is longer than there are scopes

one_at_most : (b : Bool) → (if b then 1 else 0) ≤ 1
one_at_most true = omega arith
one_at_most false = omega arith

one_rises : (a g h : ℕ) → g ≤ h → (if nat_lt a g then 1 else 0) ≤ (if nat_lt a h then 1 else 0)
one_rises a g h up =
    by_test (nat_lt a g)
    (
    λ q.
    let high : nat_lt a h ≡ true = grind (arith, q, up) in
    let same = pick_true {A = ℕ} 1 0 q in
    let other = pick_true {A = ℕ} 1 0 high in
    omega (arith, same, other)
    )
    (λ q. let same = pick_false {A = ℕ} 1 0 q in omega (arith, same))

module _ {K : Types} where
  -- how many scopes are lower
  abbrev lower : ℕ → List (ℕ × Scope K) → ℕ
  lower h [] = 0
  lower h (e ∷ es) = (if nat_lt (e.1).height h then 1 else 0) + lower h es

  lower_all : (h : ℕ) (es : List (ℕ × Scope K)) → lower h es ≤ length es
  lower_all h [] = omega arith
  lower_all h (e ∷ es) = let here = one_at_most (nat_lt (e.1).height h) in let tail = lower_all h es in omega (arith, here, tail)

  lower_rises : (g h : ℕ) (es : List (ℕ × Scope K)) → g ≤ h → lower g es ≤ lower h es
  lower_rises g h [] up = omega arith
  lower_rises g h (e ∷ es) up = let here = one_rises (e.1).height g h up in let tail = lower_rises g h es up in omega (arith, here, tail)

  -- a scope at a height is counted below any greater one
  lower_more : (h : ℕ) (s : ℕ) (x : Scope K) (es : List (ℕ × Scope K)) → at es s ≡ Some x → x.height + 1 ≤ h → lower x.height es + 1 ≤ lower h es
  lower_more h s x [] e up = cc
  lower_more h s x (d ∷ es) e up =
      by_test (nat_eq d.0 s)
      (
      λ q.
      let found : Some d.1 ≡ Some x = sym (pick_true (Some d.1) (at es s) q) ∙ e in
      let same : d.1 ≡ x = cc in
      let height : (d.1).height ≡ x.height = ap (λ (y : Scope K). y.height) same in
      let not_yet : nat_lt (d.1).height x.height ≡ false = grind (arith, height) in
      let now : nat_lt (d.1).height h ≡ true = grind (arith, height, up) in
      let a = pick_false {A = ℕ} 1 0 not_yet in
      let b = pick_true {A = ℕ} 1 0 now in
      let tail = lower_rises x.height h es (omega (arith, up)) in
      omega (arith, a, b, tail)
      )
      (
      λ q.
      let rest : at es s ≡ Some x = sym (pick_false (Some d.1) (at es s) q) ∙ e in
      let here = one_rises (d.1).height x.height h (omega (arith, up)) in
      let tail = lower_more h s x es rest up in
      omega (arith, here, tail)
      )

  parents_long : (es : List (ℕ × Scope K)) → length (parents_of es) ≡ length es
  parents_long [] = refl
  parents_long (e ∷ es) = let tail = parents_long es in omega (arith, tail)

  parent_at : (es : List (ℕ × Scope K)) (s p : ℕ) → parent_in (parents_of es) s ≡ Some p → (x : Scope K) × (at es s ≡ Some x) × (x.parent ≡ Some p)
  parent_at [] s p h = cc
  parent_at (e ∷ es) s p h =
      by_test (nat_eq e.0 s)
      (
      λ q. (
        e.1,
        pick_true (Some e.1) (at es s) q,
        sym (ap (λ (o : Option (Option ℕ)). elim o as (λ z. Option ℕ) [ None ↦ None | Some r ↦ r ]) (pick_true (Some (e.1).parent) (at (parents_of es) s) q)) ∙ h,
      )
      )
      (
      λ q.
      let more =
      parent_at es s p (sym (ap (λ (o : Option (Option ℕ)). elim o as (λ z. Option ℕ) [ None ↦ None | Some r ↦ r ]) (pick_false (Some (e.1).parent) (at (parents_of es) s) q)) ∙ h) in
      (more.0, pick_false (Some e.1) (at es s) q ∙ more.1, more.2)
      )

  module _ (w : State K) (scope : ℕ) (polled : Option ℕ) (rendering : Bool) (c : Call K) (k : ℕ) (rooted : IsRooted w) where
    abbrev here : World K
    here = world_of w scope polled rendering

    -- a way that begins at a live scope is no longer than there are lower ones
    way_low : (path : List ℕ) (s : ℕ) (x : Scope K) (v : K.Value) → at w.scopes s ≡ Some x → IsWayToProvider here c k path s v → length path ≤ lower x.height w.scopes + 1
    way_low [] s x v e h = omega arith
    way_low (p ∷ []) s x v e h = omega arith
    way_low (p ∷ q ∷ path) s x v e h =
        let below = parent_at w.scopes s p h.1 in
        let above = parent_at w.scopes p q h.2.1 in
        let y : Scope K = above.0 in
        let up : (below.0).height ≡ y.height + 1 = rooted.heights s p below.0 y below.1 below.2 above.1 in
        let found : Some below.0 ≡ Some x = sym below.1 ∙ e in
        let same : below.0 ≡ x = cc in
        let height : x.height ≡ y.height + 1 = ap (λ (z : Scope K). z.height) (sym same) ∙ up in
        let rest = way_low (q ∷ path) p y v above.1 h.2 in
        let fewer = lower_more x.height p y w.scopes above.1 (omega (arith, height)) in
        omega (arith, rest, fewer)

    way_short : (path : List ℕ) (s : ℕ) (v : K.Value) → IsWayToProvider here c k path s v → length path < length (parents_of w.scopes) + 1
    way_short [] s v h = omega arith
    way_short (p ∷ path) s v h =
        let below = parent_at w.scopes s p h.1 in
        let x : Scope K = below.0 in
        let low = way_low (p ∷ path) s x v below.1 h in
        let fewer = lower_more (x.height + 1) s x w.scopes below.1 (omega arith) in
        let all = lower_all (x.height + 1) w.scopes in
        let long = parents_long w.scopes in
        omega (arith, low, fewer, all, long)

pub ways_are_short : (K : Types) → WaysAreShort K
ways_are_short K w scope polled rendering c k s path v rooted way = way_short w scope polled rendering c k rooted path s v way
