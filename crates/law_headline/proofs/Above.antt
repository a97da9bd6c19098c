-- A unit changes nothing that shows but what its root shows: in both documents the root's nodes stand in one setting.
use Rattle.std.proofs.Common.{ℕ, zero, suc, ◌+◌, ◌≤◌, ◌<◌, true, false, List, [], ◌∷◌, ◌++◌, ◌≡◌, ◌&&◌, inl, inr, refl, sym, ap, ◌∙◌, subst, arith, nat_eq, length}
use Rattle.std.specs.Prelude.{Option, Some, None, is_some, nat_lt}
use Rattle.std.proofs.lemmas.Bool.{eqb-true}
use Rattle.rt_model.specs.Lists.{at}
use Rattle.rt_model.specs.Tree.{Types, Tree, Place, VComponent, Spot, component_at, spots}
use Rattle.rt_model.specs.World.{Application}
use Rattle.rt_model.specs.Laws.{IsLawful}
use Rattle.rt_model.specs.State.{SideName, Side, Scope, State, side_of, is_live, height_of, shown_from, is_shown}
use Rattle.rt_model.specs.Run.{child_at, spots_of}
use Rattle.rt_model.specs.Document.{Forest}
use Rattle.rt_model.specs.View.{child_view, tree_view, nodes_of, view}
use Rattle.rt_model.proofs.Maps.{by_test}
use Rattle.rt_model.proofs.Among.{Among}
use Rattle.rt_model.proofs.NumbersStand.{child_among}
use Rattle.law_moves.proofs.Twigs.{up, side_found, found_live, live_found, up_found, below_found, height_found}
use Rattle.law_moves.proofs.Woven.{Climb, InSlot}
use Rattle.law_moves.specs.Frames.{stand}
use Rattle.law_moves.specs.Settings.{Alone, placed}
use Rattle.law_headline.proofs.Heights.{height_low}
use Rattle.law_headline.proofs.Did.{same_scope}
use Rattle.law_headline.proofs.Trees.{Stood, stood}
use Rattle.law_moves.specs.Trees.{HasChild}
use Rattle.law_headline.proofs.Nodes.{Shown, Settled, shown_of, view_of, kid_of}
use Rattle.law_headline.proofs.Climbs.{up_by, climb_on, parent_lives, climb_height, off_itself}
use Rattle.law_headline.proofs.Since.{Out, Since}
use Rattle.law_headline.proofs.Settings.{set_in, placed_in, InSetting, tree_same, tree_setting}
use Rattle.law_headline.proofs.Ends.{shown_kid, shown_up}

-- one setting within another one
in_both : (a b c d p q : Forest) → InSetting a b c d → InSetting c d p q → InSetting a b p q
in_both a b c d p q h g =
    record {
      setting = set_in g.setting h.setting;
      one = h.one ∙ ap (λ (z : Forest). placed h.setting z) g.one ∙ sym (placed_in g.setting h.setting p);
      two = h.two ∙ ap (λ (z : Forest). placed h.setting z) g.two ∙ sym (placed_in g.setting h.setting q);
    }

module _ {K : Types} where
  pub climb_one : (w : State K) (p q : List ℕ) (s t u : ℕ) → Climb w p s t → Climb w q s u → length p ≡ length q → t ≡ u
  climb_one w [] [] s t u c d e = sym c ∙ d
  climb_one w [] (b ∷ q) s t u c d e = absurd (omega (arith, e))
  climb_one w (a ∷ p) [] s t u c d e = absurd (omega (arith, e))
  climb_one w (a ∷ p) (b ∷ q) s t u c d e =
      let same : Some a ≡ Some b = sym c.0 ∙ d.0 in
      let one : a ≡ b = cc in
      let less : length p ≡ length q = omega (arith, e) in
      climb_one w p q b t u (subst (λ (n : ℕ). Climb w p n t) one c.1) d.1 less

module _ {K : Types} (app : Application K) (lawful : IsLawful K app) (first v : State K) (root : ℕ) (f : Settled first) (g : Settled v) (h : Since app lawful first root v []) where
  live_low : (t : ℕ) → is_live first t ≡ true → t < first.next_scope
  live_low t live =
      by_test (nat_lt t first.next_scope) (λ q. grind (arith, q))
      (λ q. let high : first.next_scope ≤ t = grind (arith, q) in off_itself (is_live first t) live (ap (λ (o : Option (Scope K)). is_some o) ((f.ready.rooted).drawn t high)))

  -- a scope that isn't below the root stands where it stood
  out_stands : (path : List ℕ) (t : ℕ) → is_live first t ≡ true → Out first root path t → stand (at v.scopes t) ≡ stand (at first.scopes t)
  out_stands path t live out = h.old t (h.lives t path live out) (live_low t live)

  out_forth : (path : List ℕ) (t : ℕ) → is_live first t ≡ true → Out first root path t → Out v root path t
  out_forth [] t live out = (out.0, up_by first v t (out_stands [] t live out) ∙ out.1)
  out_forth (p ∷ path) t live out = (out.0, up_by first v t (out_stands (p ∷ path) t live out) ∙ out.1, out_forth path p (parent_lives first [] f.ready t p out.1) out.2)

  -- what such a scope shows is what it showed
  pub record Kept (t : ℕ) (z : Scope K) : Type 0 where
    pub now : Scope K
    pub there : at v.scopes t ≡ Some now
    pub shows : now.shows ≡ z.shows
    pub sides : (a : SideName) → side_of now a ≡ side_of z a

  kept : (path : List ℕ) (t : ℕ) (z : Scope K) → at first.scopes t ≡ Some z → Out first root path t → Kept t z
  kept path t z found out =
      let live = live_found first t z found in
      let x = found_live (at v.scopes t) (h.lives t path live out) in
      let was = h.outer t path x.0 x.1 (out_forth path t live out) in
      let same : was.0 ≡ z = same_scope was.0 z (sym was.1 ∙ found) in
      record { now = x.0; there = x.1; shows = was.2 ∙ ap (λ (i : Scope K). i.shows) same; sides = λ a. was.3 a ∙ ap (λ (i : Scope K). side_of i a) same }

  abbrev kept_shown : (t : ℕ) (z : Scope K) (k : Kept t z) (d : Shown z) → Shown k.now
  kept_shown t z k d = record { side = d.side; tree = d.tree; shows = k.shows ∙ d.shows; output = ap (λ (i : Side K). i.output) (k.sides d.side) ∙ d.output }

  -- its nodes after the unit
  kept_view : (t : ℕ) (z : Scope K) (k : Kept t z) (d : Shown z) → nodes_of v t ≡ tree_view (side_of z d.side) (λ u. nodes_of v u) [] d.tree
  kept_view t z k d = view_of v g t k.now k.there (kept_shown t z k d) ∙ ap (λ (i : Side K). tree_view i (λ u. nodes_of v u) [] d.tree) (k.sides d.side)

  -- of scopes of which a fact holds that the root hasn't and that children on the side that shows inherit
  module _ (fact : ℕ → Type 0) (not_root : fact root → ⊥)
      (inherits : (t u : ℕ) (z y : Scope K) → fact t → at first.scopes t ≡ Some z → at first.scopes u ≡ Some y → y.parent ≡ Some t → z.shows ≡ Some y.below → y.height ≡ z.height + 1 → fact u) where
    pub same_nodes : (n t : ℕ) (path : List ℕ) (z : Scope K) → at first.scopes t ≡ Some z → Out first root path t → fact t → length first.scopes ≤ z.height + n → nodes_of first t ≡ nodes_of v t
    same_nodes zero t path z found out holds bound = let low = height_low first f.tree t z found in absurd (omega (arith, low, bound))
    same_nodes (suc n) t path z found out holds bound =
        let d : Shown z = shown_of first f t z found in
        view_of first f t z found d
        ∙ tree_same (side_of z d.side) (λ u. nodes_of first u) (λ u. nodes_of v u) [] d.tree
        (
        λ q c e.
        let kid : HasChild first t z d.side q = kid_of first f t z d.side d.tree q c found d.output e in
        let inherited = inherits t kid.child z kid.record_of holds found kid.live kid.parent (d.shows ∙ ap (λ (i : SideName). Some i) (sym kid.below)) kid.height in
        let other : nat_eq kid.child root ≡ false = by_test (nat_eq kid.child root) (λ r. absurd (not_root (subst (λ (i : ℕ). fact i) (eqb-true kid.child root r) inherited))) (λ r. r) in
        let level : kid.record_of.height ≡ z.height + 1 = kid.height in
        let same = same_nodes n kid.child (t ∷ path) kid.record_of kid.live (other, up_found first kid.child kid.record_of kid.live ∙ kid.parent, out) inherited (omega (arith, bound, level)) in
        ap (λ (o : Option ℕ). child_view (λ u. nodes_of first u) o) kid.kid ∙ same ∙ sym (ap (λ (o : Option ℕ). child_view (λ u. nodes_of v u) o) kid.kid)
        )
        ∙ sym (kept_view t z (kept path t z found out) d)

  -- the root isn't at or below a scope
  abbrev Beside : ℕ → Type 0
  Beside t = (path : List ℕ) → Climb first path root t → ⊥

  beside_kid : (t u : ℕ) (z y : Scope K) → Beside t → at first.scopes t ≡ Some z → at first.scopes u ≡ Some y → y.parent ≡ Some t → z.shows ≡ Some y.below → y.height ≡ z.height + 1 → Beside u
  beside_kid t u z y b found there parent shows height path c = b (path ++ t ∷ []) (climb_on first path (t ∷ []) root u t c (up_found first u y there ∙ parent, refl))

  -- a scope that isn't at or below the root is out
  out_by : (t : ℕ) (z : Scope K) → at first.scopes t ≡ Some z → ((path : List ℕ) → Climb first path t root → ⊥)
      → ((p : ℕ) (y : Scope K) → at first.scopes p ≡ Some y → z.height ≡ y.height + 1 → ((path : List ℕ) → Climb first path p root → ⊥) → (path : List ℕ) × Out first root path p)
      → (o : Option ℕ) → z.parent ≡ o → (path : List ℕ) × Out first root path t
  out_by t z found free go None is = ([], (by_test (nat_eq t root) (λ q. absurd (free [] (eqb-true t root q))) (λ q. q), up_found first t z found ∙ is))
  out_by t z found free go (Some p) is =
      let y = f.tree.parent t p z found is in
      let here : up first t ≡ Some p = up_found first t z found ∙ is in
      let r = go p y.0 y.1 y.2 (λ path c. free (p ∷ path) (here, c)) in
      (p ∷ r.0, (by_test (nat_eq t root) (λ q. absurd (free [] (eqb-true t root q))) (λ q. q), here, r.1))

  out_of : (n t : ℕ) (z : Scope K) → at first.scopes t ≡ Some z → z.height ≡ n → ((path : List ℕ) → Climb first path t root → ⊥) → (path : List ℕ) × Out first root path t
  out_of zero t z found level free = out_by t z found free (λ p y e up_level none. absurd (omega (arith, level, up_level))) z.parent refl
  out_of (suc n) t z found level free = out_by t z found free (λ p y e up_level none. out_of n p y e (omega (arith, level, up_level)) none) z.parent refl

  -- a scope above the root is out
  above_out : (t q : ℕ) (path : List ℕ) (z y : Scope K) → at first.scopes t ≡ Some z → at first.scopes q ≡ Some y → z.height ≡ y.height + 1 → Climb first path root t → (outs : List ℕ) × Out first root outs q
  above_out t q path z y found there level way =
      out_of y.height q y there refl
      (
      λ more c.
      let a = climb_height first [] f.ready path root t way in
      let b = climb_height first [] f.ready more q root c in
      let here = height_found first t z found in
      let up_here = height_found first q y there in
      omega (arith, a, b, here, up_here, level)
      )

  -- the nodes of a scope above the root: those of its child on the way stand in one setting in both
  module _ (t q : ℕ) (path outs : List ℕ) (z y : Scope K) (found : at first.scopes t ≡ Some z) (there : at first.scopes q ≡ Some y) (parent : z.parent ≡ Some q) (level : z.height ≡ y.height + 1) (shows : y.shows ≡ Some z.below)
      (way : Climb first path root t) (out : Out first root outs q) where
    in_slot : InSlot first t q
    in_slot = elim ((f.ready.woven).attached t q (up_found first t z found ∙ parent)).1 [ inl i ↦ i | inr e ↦ absurd e.1 ]

    side_is_it : in_slot.side ≡ (shown_of first f q y there).side
    side_is_it =
        let one : Some in_slot.side ≡ Some z.below = sym in_slot.below_is ∙ below_found first t z found in
        let two : Some (shown_of first f q y there).side ≡ Some z.below = sym (shown_of first f q y there).shows ∙ shows in
        let both : Some in_slot.side ≡ Some (shown_of first f q y there).side = one ∙ sym two in
        cc

    kid_here : child_at (side_of y (shown_of first f q y there).side).children in_slot.place ≡ Some t
    kid_here =
        ap (λ (i : SideName). child_at (side_of y i).children in_slot.place) (sym side_is_it)
        ∙ sym (ap (λ (i : Side K). child_at i.children in_slot.place) (side_found first q in_slot.side y there))
        ∙ in_slot.kid

    spot_here : Among (spots [] (shown_of first f q y there).tree) (component_at in_slot.place in_slot.slot.0)
    spot_here =
        subst (λ (ss : List (Spot K)). Among ss (component_at in_slot.place in_slot.slot.0))
        (
        ap (λ (i : Side K). spots_of i.output) (side_found first q in_slot.side y there)
        ∙ ap (λ (i : SideName). spots_of (side_of y i).output) side_is_it
        ∙ ap (λ (o : Option (Tree K)). spots_of o) (shown_of first f q y there).output
        )
        in_slot.slot.1

    agree : (p : Place) (c : VComponent K) → Among (spots [] (shown_of first f q y there).tree) (component_at p c) → (p ≡ in_slot.place → ⊥)
        → child_view (λ u. nodes_of first u) (child_at (side_of y (shown_of first f q y there).side).children p) ≡ child_view (λ u. nodes_of v u) (child_at (side_of y (shown_of first f q y there).side).children p)
    agree p c e apart =
        let kid : HasChild first q y (shown_of first f q y there).side p = kid_of first f q y (shown_of first f q y there).side (shown_of first f q y there).tree p c there (shown_of first f q y there).output e in
        let beside : Beside kid.child =
        λ more climb.
        let a = climb_height first [] f.ready path root t way in
        let b = climb_height first [] f.ready more root kid.child climb in
        let here = height_found first t z found in
        let kid_height = height_found first kid.child kid.record_of kid.live in
        let kid_level : kid.record_of.height ≡ y.height + 1 = kid.height in
        let same_length : length more ≡ length path = omega (arith, a, b, here, kid_height, kid_level, level) in
        let same : kid.child ≡ t = climb_one first more path root kid.child t climb way same_length in
        apart
        ((f.ready.stands).slot q t y (shown_of first f q y there).side p in_slot.place there
        (child_among (side_of y (shown_of first f q y there).side).children p t (kid.kid ∙ ap (λ (i : ℕ). Some i) same))
        (child_among (side_of y (shown_of first f q y there).side).children in_slot.place t kid_here)) in
        let other : nat_eq kid.child root ≡ false = by_test (nat_eq kid.child root) (λ r. absurd (beside [] (sym (eqb-true kid.child root r)))) (λ r. r) in
        let same = same_nodes (λ i. Beside i) (λ b. b [] refl) beside_kid (length first.scopes) kid.child (q ∷ outs) kid.record_of kid.live (other, up_found first kid.child kid.record_of kid.live ∙ kid.parent, out) beside (omega arith) in
        ap (λ (o : Option ℕ). child_view (λ u. nodes_of first u) o) kid.kid ∙ same ∙ sym (ap (λ (o : Option ℕ). child_view (λ u. nodes_of v u) o) kid.kid)

    up_step : InSetting (nodes_of first q) (nodes_of v q) (nodes_of first t) (nodes_of v t)
    up_step =
        let shown_there : Shown y = shown_of first f q y there in
        let set : InSetting (tree_view (side_of y shown_there.side) (λ u. nodes_of first u) [] shown_there.tree) (tree_view (side_of y shown_there.side) (λ u. nodes_of v u) [] shown_there.tree) (nodes_of first t) (nodes_of v t) =
        tree_setting (side_of y shown_there.side) (λ u. nodes_of first u) (λ u. nodes_of v u) in_slot.place in_slot.slot.0 t kid_here shown_there.tree agree spot_here in
        record {
          setting = set.setting;
          one = view_of first f q y there shown_there ∙ set.one;
          two = kept_view q y (kept outs q y there out) shown_there ∙ set.two;
        }

  -- from the root up to the document
  set_by : (t : ℕ) (path : List ℕ) (z : Scope K) → at first.scopes t ≡ Some z → Climb first path root t → is_shown first t ≡ true → InSetting (nodes_of first t) (nodes_of v t) (nodes_of first root) (nodes_of v root)
      → ((q : ℕ) (y : Scope K) (more : List ℕ) → at first.scopes q ≡ Some y → z.height ≡ y.height + 1 → Climb first more root q → is_shown first q ≡ true → InSetting (nodes_of first q) (nodes_of v q) (nodes_of first root) (nodes_of v root)
      → InSetting (view first) (view v) (nodes_of first root) (nodes_of v root))
      → (o : Option ℕ) → z.parent ≡ o → InSetting (view first) (view v) (nodes_of first root) (nodes_of v root)
  set_by t path z found way seen set go None is = subst (λ (i : ℕ). InSetting (nodes_of first i) (nodes_of v i) (nodes_of first root) (nodes_of v root)) (f.topped t z found is).1 set
  set_by t path z found way seen set go (Some q) is =
      let y = f.tree.parent t q z found is in
      let shown_above = shown_up first q t y.0 z y.1 found is y.2 seen in
      let outs = above_out t q path z y.0 found y.1 y.2 way in
      let step = up_step t q path outs.0 z y.0 found y.1 is y.2 shown_above.0 way outs.1 in
      go q y.0 (path ++ q ∷ []) y.1 y.2 (climb_on first path (q ∷ []) root t q way (up_found first t z found ∙ is, refl)) shown_above.1
      (in_both (nodes_of first q) (nodes_of v q) (nodes_of first t) (nodes_of v t) (nodes_of first root) (nodes_of v root) step set)

  set_up : (n t : ℕ) (path : List ℕ) (z : Scope K) → at first.scopes t ≡ Some z → z.height ≡ n → Climb first path root t → is_shown first t ≡ true → InSetting (nodes_of first t) (nodes_of v t) (nodes_of first root) (nodes_of v root)
      → InSetting (view first) (view v) (nodes_of first root) (nodes_of v root)
  set_up zero t path z found level way seen set = set_by t path z found way seen set (λ q y more e up_level c s i. absurd (omega (arith, level, up_level))) z.parent refl
  set_up (suc n) t path z found level way seen set =
      set_by t path z found way seen set (λ q y more e up_level c s i. set_up n q more y e (omega (arith, level, up_level)) c s i) z.parent refl

  -- a shown root's nodes stand in one setting in both documents
  pub root_set : (z : Scope K) → at first.scopes root ≡ Some z → is_shown first root ≡ true → InSetting (view first) (view v) (nodes_of first root) (nodes_of v root)
  root_set z found seen = set_up z.height root [] z found refl refl seen (record { setting = Alone; one = refl; two = refl })

  -- a scope without a parent is shown
  top_shown : (w : State K) (s : ℕ) (x : Scope K) → at w.scopes s ≡ Some x → x.height ≡ 0 → is_shown w s ≡ true
  top_shown w s x found level =
      ap (λ (o : Option (Scope K)). is_some o && shown_from w.scopes (height_of w.scopes s) s) found ∙ ap (λ (n : ℕ). shown_from w.scopes n s) (height_found w s x found ∙ level)

  -- the root or a scope above it that was shown is shown
  seen_by : (t : ℕ) (path : List ℕ) (z x : Scope K) → at first.scopes t ≡ Some z → at v.scopes t ≡ Some x → Stood (Some z) x → Climb first path root t → is_shown first t ≡ true
      → ((q : ℕ) (y xq : Scope K) (more : List ℕ) → at first.scopes q ≡ Some y → at v.scopes q ≡ Some xq → Stood (Some y) xq → z.height ≡ y.height + 1 → Climb first more root q → is_shown first q ≡ true → is_shown v q ≡ true)
      → (o : Option ℕ) → z.parent ≡ o → is_shown v t ≡ true
  seen_by t path z x found now same way seen go None is =
      let old : same.old ≡ z = sym (same_scope z same.old same.found) in
      let level : x.height ≡ 0 = sym same.height ∙ ap (λ (i : Scope K). i.height) old ∙ f.tree.top t z found is in
      top_shown v t x now level
  seen_by t path z x found now same way seen go (Some q) is =
      let y = f.tree.parent t q z found is in
      let shown_above = shown_up first q t y.0 z y.1 found is y.2 seen in
      let outs = above_out t q path z y.0 found y.1 y.2 way in
      let k : Kept q y.0 = kept outs.0 q y.0 y.1 outs.1 in
      let up_same : Stood (Some y.0) k.now =
      stood (Some y.0) k.now (ap (λ (o : Option (Scope K)). stand o) (sym y.1) ∙ sym (out_stands outs.0 q (live_found first q y.0 y.1) outs.1) ∙ ap (λ (o : Option (Scope K)). stand o) k.there) in
      let seen_above : is_shown v q ≡ true = go q y.0 k.now (path ++ q ∷ []) y.1 k.there up_same y.2 (climb_on first path (q ∷ []) root t q way (up_found first t z found ∙ is, refl)) shown_above.1 in
      let old : same.old ≡ z = sym (same_scope z same.old same.found) in
      let old_above : up_same.old ≡ y.0 = sym (same_scope y.0 up_same.old up_same.found) in
      let parent : x.parent ≡ Some q = sym same.parent ∙ ap (λ (i : Scope K). i.parent) old ∙ is in
      let side : z.below ≡ x.below = sym (ap (λ (i : Scope K). i.below) old) ∙ same.below in
      let h1 : same.old.height ≡ x.height = same.height in
      let h2 : same.old.height ≡ z.height = ap (λ (i : Scope K). i.height) old in
      let h3 : up_same.old.height ≡ k.now.height = up_same.height in
      let h4 : up_same.old.height ≡ (y.0).height = ap (λ (i : Scope K). i.height) old_above in
      let h5 : z.height ≡ (y.0).height + 1 = y.2 in
      let level : x.height ≡ k.now.height + 1 = omega (arith, h1, h2, h3, h4, h5) in
      shown_kid v q t k.now x k.there now parent level seen_above (k.shows ∙ shown_above.0 ∙ ap (λ (i : SideName). Some i) side)

  seen_on : (n t : ℕ) (path : List ℕ) (z x : Scope K) → at first.scopes t ≡ Some z → at v.scopes t ≡ Some x → z.height ≡ n → Stood (Some z) x → Climb first path root t → is_shown first t ≡ true → is_shown v t ≡ true
  seen_on zero t path z x found now level same way seen = seen_by t path z x found now same way seen (λ q y xq more e d s up_level c i. absurd (omega (arith, level, up_level))) z.parent refl
  seen_on (suc n) t path z x found now level same way seen =
      seen_by t path z x found now same way seen (λ q y xq more e d s up_level c i. seen_on n q more y xq e d (omega (arith, level, up_level)) s c i) z.parent refl

  pub root_seen : (z x : Scope K) → at first.scopes root ≡ Some z → at v.scopes root ≡ Some x → is_shown first root ≡ true → is_shown v root ≡ true
  root_seen z x found now seen =
      let same : stand (at v.scopes root) ≡ stand (at first.scopes root) = h.old root h.top (live_low root (live_found first root z found)) in
      seen_on z.height root [] z x found now refl (stood (Some z) x (ap (λ (o : Option (Scope K)). stand o) (sym found) ∙ sym same ∙ ap (λ (o : Option (Scope K)). stand o) now)) refl seen

  -- the scope that has no parent is live
  top_by : (t : ℕ) (z : Scope K) → at first.scopes t ≡ Some z → ((q : ℕ) (y : Scope K) → at first.scopes q ≡ Some y → z.height ≡ y.height + 1 → (x : Scope K) × (at first.scopes 0 ≡ Some x) × (x.parent ≡ None))
      → (o : Option ℕ) → z.parent ≡ o → (x : Scope K) × (at first.scopes 0 ≡ Some x) × (x.parent ≡ None)
  top_by t z found go None is = (z, ap (λ (i : ℕ). at first.scopes i) (sym (f.topped t z found is).1) ∙ found, is)
  top_by t z found go (Some q) is = let y = f.tree.parent t q z found is in go q y.0 y.1 y.2

  top_is : (n t : ℕ) (z : Scope K) → at first.scopes t ≡ Some z → z.height ≡ n → (x : Scope K) × (at first.scopes 0 ≡ Some x) × (x.parent ≡ None)
  top_is zero t z found level = top_by t z found (λ q y e up_level. absurd (omega (arith, level, up_level))) z.parent refl
  top_is (suc n) t z found level = top_by t z found (λ q y e up_level. top_is n q y e (omega (arith, level, up_level))) z.parent refl

  -- where the root isn't shown the document stays
  pub hidden_stays : (z : Scope K) → at first.scopes root ≡ Some z → is_shown first root ≡ false → view first ≡ view v
  hidden_stays z found hidden =
      let top = top_is z.height root z found refl in
      let seen : is_shown first 0 ≡ true = top_shown first 0 top.0 top.1 (f.tree.top 0 top.0 top.1 top.2) in
      let other : nat_eq 0 root ≡ false = by_test (nat_eq 0 root) (λ q. off_itself (is_shown first 0) seen (ap (λ (i : ℕ). is_shown first i) (eqb-true 0 root q) ∙ hidden)) (λ q. q) in
      same_nodes (λ t. is_shown first t ≡ true) (λ e. off_itself (is_shown first root) e hidden)
      (λ t u i y e a b parent shows level. shown_kid first t u i y a b parent level e shows)
      (length first.scopes) 0 [] top.0 top.1 (other, up_found first 0 top.0 top.1 ∙ top.2) seen (omega arith)
