-- One scope more: it is told what it is, and all others are what they were.
use Rattle.std.proofs.Common.{ℕ, ◌<◌, ◌≤◌, ◌+◌, true, false, List, [], ◌∷◌, ◌++◌, ◌≡◌, refl, sym, ap, ◌∙◌, subst, nat_eq, arith, inl, inr}
use Rattle.std.proofs.lemmas.Bool.{eqb-true}
use Rattle.std.specs.Prelude.{Option, Some, is_some, if◌then◌else◌}
use Rattle.law_minding.proofs.Values.{longer_live as at_longer}
use Rattle.rt_model.specs.Lists.{at, put}
use Rattle.rt_model.specs.Tree.{Types, VComponent, Place}
use Rattle.rt_model.specs.State.{SideName, MainSide, ChildrenSide, FallbackSide, Scope, State, Item, Draw, Row, Feed, Make, Drop, side_of, new_scope, is_live}
use Rattle.rt_model.specs.Replay.{with_child, with_new_scope}
use Rattle.rt_model.proofs.Maps.{by_test, eq_same, pick_true, pick_false, at_put_here, at_put_other}
use Rattle.rt_model.proofs.Members.{clash}
use Rattle.law_moves.proofs.Twigs.{found_live}
use Rattle.law_reduce.proofs.Owners.{owners_of}
use Rattle.author_programs.specs.Cells.{Keeping}
use Rattle.author_programs.specs.Pages.{Pages}
use Rattle.law_elm.proofs.Tiers.{Tier, next_tier, MayStep, IsTier, Works}
use Rattle.law_elm.proofs.Each.{Each, each_put, joined}
use Rattle.law_elm.proofs.Rules.{Rules}
use Rattle.law_elm.proofs.Well.{OwnAll}
use Rattle.law_elm.proofs.Standing.{ShowsKids, Kids, kids_on, Stands, stands_side, kids_of, Good, But}
use Rattle.law_elm.proofs.Running.{All}

-- a lower number is another one
lower : (n bound t : ℕ) → n < bound → bound ≤ t → nat_eq t n ≡ false
lower n bound t low most = by_test (nat_eq t n) (λ q. let same : t ≡ n = eqb-true t n q in absurd (omega (arith, low, most, same))) (λ q. q)

-- the scope t comes, of that tier
module _ (tiers : ℕ → Tier) (bound t : ℕ) (tier : Tier) (most : bound ≤ t) where
  abbrev pub more : ℕ → Tier
  more n = if nat_eq t n then tier else tiers n

  pub old_tier : (n : ℕ) → n < bound → more n ≡ tiers n
  old_tier n low = pick_false tier (tiers n) (lower n bound t low most)

  pub new_tier : more t ≡ tier
  new_tier = pick_true tier (tiers t) (eq_same t)

  later : (n : ℕ) → n < bound → n < t + 1
  later n low = omega (arith, low, most)

  kids_more : (u v : Tier) → v ≡ u → (xs : List (Place × ℕ)) → Kids tiers bound u xs → Kids more (t + 1) v xs
  kids_more u v same [] h = tt
  kids_more u v same (x ∷ xs) h = ((old_tier x.1 (h.0).1 ∙ (h.0).0 ∙ sym same, later x.1 (h.0).1), kids_more u v same xs h.1)

module _ {K : Types} (k : Keeping K.Value) (a : Pages K) (given : K.Props) (law : Rules k a given) (tiers : ℕ → Tier) (bound t : ℕ) (tier : Tier) (most : bound ≤ t) where
  abbrev now : ℕ → Tier
  now = more tiers bound t tier most

  same_next : (n : ℕ) (side : SideName) → n < bound → next_tier (now n) side ≡ next_tier (tiers n) side
  same_next n side low = ap (λ (u : Tier). next_tier u side) (old_tier tiers bound t tier most n low)

  pub stands_more : (n : ℕ) (x : Scope K) → Stands k a given law tiers bound n x → Stands k a given law now (t + 1) n x
  stands_more n x h =
      record {
        error = h.error;
        is = subst (λ (u : Tier). IsTier law.may a.root given u x.component) (sym (old_tier tiers bound t tier most n h.low)) h.is;
        low = later tiers bound t tier most n h.low;
        main = kids_more tiers bound t tier most (next_tier (tiers n) MainSide) (next_tier (now n) MainSide) (same_next n MainSide h.low) x.main_side.children h.main;
        held = kids_more tiers bound t tier most (next_tier (tiers n) ChildrenSide) (next_tier (now n) ChildrenSide) (same_next n ChildrenSide h.low) x.children_side.children h.held;
        fallback = kids_more tiers bound t tier most (next_tier (tiers n) FallbackSide) (next_tier (now n) FallbackSide) (same_next n FallbackSide h.low) x.fallback_side.children h.fallback;
        hooks = h.hooks;
      }

  -- the open work
  pub works_more : (work : List (Item K)) → Works law.may a.root given tiers bound work → Works law.may a.root given now (t + 1) work
  works_more [] h = tt
  works_more (Draw s side q kind ∷ rest) h = works_more rest h
  works_more (Row b step ∷ rest) h = (
    (subst (λ (u : Tier). MayStep u) (sym (old_tier tiers bound t tier most b (h.0).1)) (h.0).0, later tiers bound t tier most b (h.0).1),
    works_more rest h.1,
  )
  works_more (Feed s side q d ∷ rest) h = (
    (subst (λ (u : Tier). IsTier law.may a.root given u d) (sym (same_next s side (h.0).1)) (h.0).0, later tiers bound t tier most s (h.0).1),
    works_more rest h.1,
  )
  works_more (Make s side q d ∷ rest) h = (
    (subst (λ (u : Tier). IsTier law.may a.root given u d) (sym (same_next s side (h.0).1)) (h.0).0, later tiers bound t tier most s (h.0).1),
    works_more rest h.1,
  )
  works_more (Drop top s side ∷ rest) h = works_more rest h

  -- the cells
  pub cells_more : (w v : State K) → ((o : ℕ) → is_live w o ≡ true → o < bound) → ((o : ℕ) → is_live w o ≡ true → is_live v o ≡ true) → (os : List (ℕ × ℕ))
      → OwnAll (λ n x. Good k a given law tiers bound n x) (λ n o. law.cells (tiers o) n o) bound w os
      → OwnAll (λ n x. But k a given law now (t + 1) t n x) (λ n o. law.cells (now o) n o) (t + 1) v os
  cells_more w v low lives [] h = tt
  cells_more w v low lives (e ∷ os) h = (
    (subst (λ (u : Tier). law.cells u e.0 e.1) (sym (old_tier tiers bound t tier most e.1 (low e.1 (h.0).1))) (h.0).0, lives e.1 (h.0).1),
    cells_more w v low lives os h.1,
  )

-- a scope that is made
module _ {K : Types} (k : Keeping K.Value) (a : Pages K) (given : K.Props) (law : Rules k a given) (tiers : ℕ → Tier) (bound : ℕ) where
  with_kid : (n t : ℕ) (x : Scope K) (side : SideName) (p : Place) (tier : Tier) (most : bound ≤ t) → tier ≡ next_tier (tiers n) side → Stands k a given law tiers bound n x
      → Stands k a given law (more tiers bound t tier most) (t + 1) n (with_child side p t x)
  with_kid n t x side p tier most is h =
      let stands = stands_more k a given law tiers bound t tier most n x h in
      let here : more tiers bound t tier most t ≡ next_tier (more tiers bound t tier most n) side =
      new_tier tiers bound t tier most ∙ is ∙ sym (ap (λ (u : Tier). next_tier u side) (old_tier tiers bound t tier most n h.low)) in
      stands_side k a given law (more tiers bound t tier most) (t + 1) n x side (record (side_of x side) { children = (side_of x side).children ++ (p, t) ∷ [] })
      (
      kids_on (more tiers bound t tier most) (t + 1) (next_tier (more tiers bound t tier most n) side) (side_of x side).children ((p, t) ∷ [])
      (kids_of k a given law (more tiers bound t tier most) (t + 1) n x side stands)
      ((here, omega arith), tt)
      )
      stands

  child_shows : (x : Scope K) (side : SideName) (p : Place) (t : ℕ) → ShowsKids x.component x.main_side.output → ShowsKids (with_child side p t x).component (with_child side p t x).main_side.output
  child_shows x MainSide p t h = h
  child_shows x ChildrenSide p t h = h
  child_shows x FallbackSide p t h = h

  -- it is what has to stand there
  pub made_well : (w : State K) (s : ℕ) (side : SideName) (p : Place) (c : VComponent K) (x : Scope K) → at w.scopes s ≡ Some x → IsTier law.may a.root given (next_tier (tiers s) side) c
      → law.hooks w.next_scope []
      → (h : All k a given law tiers bound (λ n y. Good k a given law tiers bound n y) w)
      → All k a given law (more tiers bound w.next_scope (next_tier (tiers s) side) h.drawn) (w.next_scope + 1)
      (λ n y. But k a given law (more tiers bound w.next_scope (next_tier (tiers s) side) h.drawn) (w.next_scope + 1) w.next_scope n y)
      (with_new_scope w s side p c x)
  made_well w s side p c x e is fresh h =
      let t : ℕ = w.next_scope in
      let tier : Tier = next_tier (tiers s) side in
      let next : ℕ → Tier = more tiers bound t tier h.drawn in
      let v : State K = with_new_scope w s side p c x in
      let parent : Scope K = with_child side p t x in
      let y : Scope K = new_scope c (Some s) (x.height + 1) side in
      let g : Good k a given law tiers bound s x = h.rows s x e in
      let old : Each (λ n z. Good k a given law next (t + 1) n z) (record w { scopes = put w.scopes s parent }) =
      each_put (λ n z. Good k a given law next (t + 1) n z) w s parent (with_kid s t x side p tier h.drawn refl g.0, child_shows x side p t g.1)
      (λ n z there. let i = h.rows n z there in (stands_more k a given law tiers bound t tier h.drawn n z i.0, i.1)) in
      record {
        rows =
            λ n z there.
            elim (joined (put w.scopes s parent) t y n z there) [
              | inl i ↦ let j = old n z i in (j.0, λ q. j.1)
              | inr i ↦
                  subst (λ (r : Scope K). But k a given law next (t + 1) t n r) i.1 (
                    subst (λ (m : ℕ). Stands k a given law next (t + 1) m y) (eqb-true t n i.0)
                        (record {
                          error = refl;
                          is = subst (λ (u : Tier). IsTier law.may a.root given u c) (sym (new_tier tiers bound t tier h.drawn)) is;
                          low = omega arith;
                          main = tt;
                          held = tt;
                          fallback = tt;
                          hooks = fresh;
                        }),
                    λ q. clash i.0 q,
                  )
            ];
        cells =
            cells_more k a given law tiers bound t tier h.drawn w v
            (λ o live. let z = found_live (at w.scopes o) live in ((h.rows o z.0 z.1).0).low)
            (λ o live. at_longer (put w.scopes s parent) t y o (put_live o live)) (owners_of w) h.cells;
        drawn = omega arith;
      }
    where
      put_live : (o : ℕ) → is_live w o ≡ true → is_some (at (put w.scopes s (with_child side p w.next_scope x)) o) ≡ true
      put_live o live =
          by_test (nat_eq s o)
          (λ q. ap (λ (z : Option (Scope K)). is_some z) (at_put_here w.scopes s (with_child side p w.next_scope x) o q))
          (λ q. ap (λ (z : Option (Scope K)). is_some z) (at_put_other w.scopes s (with_child side p w.next_scope x) o q) ∙ live)
