-- The edits of a unit claim no number twice.
use Rattle.std.proofs.Common.{ℕ, zero, suc, ◌+◌, ◌≤◌, ◌<◌, true, false, [], ◌≡◌, refl, sym, ap, ◌∙◌, subst, arith}
use Rattle.std.specs.Prelude.{Option, Some, None, is_some, nat_lt}
use Rattle.rt_model.specs.Lists.{at}
use Rattle.rt_model.specs.Tree.{Types, Tree, Place, Kind, VComponent, Spot, component_at, spots}
use Rattle.rt_model.specs.World.{Application}
use Rattle.rt_model.specs.Laws.{IsLawful}
use Rattle.rt_model.specs.Values.{is_same_component}
use Rattle.rt_model.specs.State.{SideName, same_side, Scope, State, side_of, is_live}
use Rattle.rt_model.specs.Run.{child_at, spots_of}
use Rattle.rt_model.specs.Document.{count_of}
use Rattle.rt_model.specs.View.{child_view, nodes_of}
use Rattle.rt_model.proofs.Maps.{by_test}
use Rattle.rt_model.proofs.Among.{Among}
use Rattle.rt_model.proofs.NumbersStand.{child_among}
use Rattle.law_moves.proofs.Twigs.{live_found, up_found, below_found}
use Rattle.law_moves.proofs.Lists.{some_number}
use Rattle.law_moves.specs.Frames.{stand}
use Rattle.law_moves.specs.Meets.{child_claims, tree_claims}
use Rattle.law_moves.specs.Sweeps.{between, under, scope_claims}
use Rattle.law_moves.specs.Trees.{HasChild}
use Rattle.law_headline.proofs.Nodes.{Shown, Settled, shown_of, kid_of}
use Rattle.law_headline.proofs.Sides.{Link}
use Rattle.law_headline.proofs.Climbs.{up_by, below_by, off_itself}
use Rattle.law_headline.proofs.Since.{Since}
use Rattle.law_headline.proofs.Ends.{side_is, side_itself}
use Rattle.law_headline.proofs.ClaimedOnce.{Here, here_none, here_more, here_sum, tree_here}
use Rattle.law_headline.proofs.Homes.{Entry, Under, KidAt, HomeAt, kid_once, home_once, home_side, home_under, under_lives, spot_known, scope_under, scope_home}

module _ {K : Types} (app : Application K) (lawful : IsLawful K app) (first v : State K) (root : ℕ) (f : Settled first) (g : Settled v) (h : Since app lawful first root v []) (i : ℕ) where
  -- the state in which the number has its home: the first one, if it was drawn before the unit, else the last one
  module _ (base : State K) (settled : Settled base)
      (old_entry : (t : ℕ) (x : Scope K) (a : SideName) (p : Place) (k : Kind) → at first.scopes t ≡ Some x → Among (side_of x a).numbers (p, k, i) → Entry base settled i t a p k)
      (new_entry : (t : ℕ) (x : Scope K) (a : SideName) (p : Place) (k : Kind) → at v.scopes t ≡ Some x → Among (side_of x a).numbers (p, k, i) → Entry base settled i t a p k)
      (old_kid : (t : ℕ) (x : Scope K) (a : SideName) (p : Place) (kid : HasChild first t x a p) → at first.scopes t ≡ Some x → 0 < count_of i (nodes_of first kid.child) → Under base settled i kid.child → KidAt base settled i t a p kid.child)
      (new_kid : (t : ℕ) (x : Scope K) (a : SideName) (p : Place) (kid : HasChild v t x a p) → at v.scopes t ≡ Some x → 0 < count_of i (nodes_of v kid.child) → Under base settled i kid.child → KidAt base settled i t a p kid.child)
      (both_kid : (t : ℕ) (z x : Scope K) (a : SideName) (p : Place) (kid : HasChild first t z a p) (now : HasChild v t x a p) → now.child ≡ kid.child → at first.scopes t ≡ Some z → at v.scopes t ≡ Some x → KidAt base settled i t a p kid.child) where
    -- of one side that shows in both states
    side_here : (m t : ℕ) (z x : Scope K) (a : SideName) (old new : Tree K) → at first.scopes t ≡ Some z → at v.scopes t ≡ Some x → (side_of z a).output ≡ Some old → (side_of x a).output ≡ Some new
        → ((u : ℕ) (y w : Scope K) → at first.scopes u ≡ Some y → at v.scopes u ≡ Some w → Here (scope_claims app first v m u i) (Under base settled i u))
        → Here (tree_claims app (between first v (λ u. under app first v m u) (side_of z a) (side_of x a)) (λ u n. scope_claims app first v m u n) i [] new old) (Under base settled i t)
    side_here m t z x a old new lived lives had has go =
        here_more (tree_claims app (between first v (λ u. under app first v m u) (side_of z a) (side_of x a)) (λ u n. scope_claims app first v m u n) i [] new old)
        (tree_claims app (between first v (λ u. under app first v m u) (side_of z a) (side_of x a)) (λ u n. scope_claims app first v m u n) i [] new old) refl
        (λ c. home_under base settled i t a c.0 c.1 c.2)
        (tree_here (λ p k. HomeAt base settled i t a p k) (λ p q k l c d. home_once base settled i t a p q k l c d) app
        (between first v (λ u. under app first v m u) (side_of z a) (side_of x a)) (λ u n. scope_claims app first v m u n) i [] new old
        (record {
          olds = spot_known base settled i first f old_entry old_kid t z a old lived had (λ u y there level. scope_under base settled i first f old_entry old_kid u y there);
          news = spot_known base settled i v g new_entry new_kid t x a new lives has (λ u y there level. scope_under base settled i v g new_entry new_kid u y there);
          fed = fed;
          clash = clash;
        }))
      where
        link : Link app lawful first.next_scope (side_of z a) (side_of x a)
        link = h.links t x z a lives lived

        old_spot : (e : Spot K) → Among (spots [] old) e → Among (spots_of (side_of z a).output) e
        old_spot e j = subst (λ (o : Option (Tree K)). Among (spots_of o) e) (sym had) j

        new_spot : (e : Spot K) → Among (spots [] new) e → Among (spots_of (side_of x a).output) e
        new_spot e j = subst (λ (o : Option (Tree K)). Among (spots_of o) e) (sym has) j

        fed : (q : Place) (c d : VComponent K) → Among (spots [] new) (component_at q c) → Among (spots [] old) (component_at q d) → is_same_component app d c ≡ true
            → Here (child_claims app (between first v (λ u. under app first v m u) (side_of z a) (side_of x a)) (λ u n. scope_claims app first v m u n) i (child_at (side_of z a).children q)) (HomeAt base settled i t a q None)
        fed q c d j l e =
            let kid : HasChild first t z a q = kid_of first f t z a old q d lived had l in
            let now : HasChild v t x a q = kid_of v g t x a new q c lives has j in
            let same : now.child ≡ kid.child = some_number now.child kid.child (sym now.kid ∙ link.kids q c d (new_spot (component_at q c) j) (old_spot (component_at q d) l) e ∙ kid.kid) in
            let there : at v.scopes kid.child ≡ Some now.record_of = ap (λ (n : ℕ). at v.scopes n) (sym same) ∙ now.live in
            let below_it = go kid.child kid.record_of now.record_of kid.live there in
            subst (λ (o : Option ℕ). Here (child_claims app (between first v (λ u. under app first v m u) (side_of z a) (side_of x a)) (λ u n. scope_claims app first v m u n) i o) (HomeAt base settled i t a q None)) (sym kid.kid)
            (below_it.0, λ more. (kid.child, both_kid t z x a q kid now same lived lives, below_it.1 more))

        clash : (q : Place) (c d : VComponent K) → Among (spots [] new) (component_at q c) → Among (spots [] old) (component_at q d) → is_same_component app d c ≡ false
            → 0 < count_of i (child_view (λ u. nodes_of first u) (child_at (side_of z a).children q)) → 0 < count_of i (child_view (λ u. nodes_of v u) (child_at (side_of x a).children q)) → ⊥
        clash q c d j l e more more_new =
            let kid : HasChild first t z a q = kid_of first f t z a old q d lived had l in
            let now : HasChild v t x a q = kid_of v g t x a new q c lives has j in
            let was : 0 < count_of i (nodes_of first kid.child) = subst (λ (o : Option ℕ). 0 < count_of i (child_view (λ u. nodes_of first u) o)) kid.kid more in
            let is : 0 < count_of i (nodes_of v now.child) = subst (λ (o : Option ℕ). 0 < count_of i (child_view (λ u. nodes_of v u) o)) now.kid more_new in
            let old_under : Under base settled i kid.child = (scope_under base settled i first f old_entry old_kid kid.child kid.record_of kid.live).1 was in
            let new_under : Under base settled i now.child = (scope_under base settled i v g new_entry new_kid now.child now.record_of now.live).1 is in
            let same : kid.child ≡ now.child = kid_once base settled i t kid.child now.child a a q q (old_kid t z a q kid lived was old_under) old_under (new_kid t x a q now lives is new_under) new_under in
            let low : kid.child < first.next_scope = live_low kid.child (live_found first kid.child kid.record_of kid.live) in
            let there : Among (side_of x a).children (q, kid.child) = child_among (side_of x a).children q kid.child (now.kid ∙ ap (λ (n : ℕ). Some n) (sym same)) in
            off_itself (is_same_component app d c) (link.feeds q kid.child c d there low (new_spot (component_at q c) j) (old_spot (component_at q d) l)) e
          where
            live_low : (t : ℕ) → is_live first t ≡ true → t < first.next_scope
            live_low t live =
                by_test (nat_lt t first.next_scope) (λ r. grind (arith, r))
                (λ r. let high : first.next_scope ≤ t = grind (arith, r) in off_itself (is_live first t) live (ap (λ (o : Option (Scope K)). is_some o) ((f.ready.rooted).drawn t high)))

    kept_claims : (m t : ℕ) (z x : Scope K) (a c : SideName) (old new : Tree K) → at first.scopes t ≡ Some z → at v.scopes t ≡ Some x → z.shows ≡ Some a → x.shows ≡ Some c → same_side a c ≡ true
        → (side_of z a).output ≡ Some old → (side_of x a).output ≡ Some new
        → scope_claims app first v (suc m) t i ≡ tree_claims app (between first v (λ u. under app first v m u) (side_of z a) (side_of x a)) (λ u n. scope_claims app first v m u n) i [] new old
    kept_claims m t z x a c old new lived lives showed shows e had has = rw (lived, lives, showed, shows, e, had, has) refl

    turned_claims : (m t : ℕ) (z x : Scope K) (a c : SideName) → at first.scopes t ≡ Some z → at v.scopes t ≡ Some x → z.shows ≡ Some a → x.shows ≡ Some c → same_side a c ≡ false
        → scope_claims app first v (suc m) t i ≡ count_of i (nodes_of first t) + count_of i (nodes_of v t)
    turned_claims m t z x a c lived lives showed shows e = rw (lived, lives, showed, shows, e) refl

    scope_here : (m t : ℕ) (z x : Scope K) → at first.scopes t ≡ Some z → at v.scopes t ≡ Some x → Here (scope_claims app first v m t i) (Under base settled i t)
    scope_here zero t z x lived lives = here_none 0 refl
    scope_here (suc m) t z x lived lives =
        let old : Shown z = shown_of first f t z lived in
        let new : Shown x = shown_of v g t x lives in
        by_test (same_side old.side new.side)
        (
        λ e.
        let same : old.side ≡ new.side = side_is old.side new.side e in
        let has : (side_of x old.side).output ≡ Some new.tree = ap (λ (s : SideName). (side_of x s).output) same ∙ new.output in
        here_more (scope_claims app first v (suc m) t i)
        (tree_claims app (between first v (λ u. under app first v m u) (side_of z old.side) (side_of x old.side)) (λ u n. scope_claims app first v m u n) i [] new.tree old.tree)
        (kept_claims m t z x old.side new.side old.tree new.tree lived lives old.shows new.shows e old.output has) (λ c. c)
        (side_here m t z x old.side old.tree new.tree lived lives old.output has (λ u y w a b. scope_here m u y w a b))
        )
        (
        λ e.
        here_more (scope_claims app first v (suc m) t i) (count_of i (nodes_of first t) + count_of i (nodes_of v t)) (turned_claims m t z x old.side new.side lived lives old.shows new.shows e) (λ c. c)
        (here_sum (count_of i (nodes_of first t)) (count_of i (nodes_of v t))
        (
        λ c d.
        let same : old.side ≡ new.side = home_side base settled i t old.side new.side c.0 d.0 c.1 d.1 c.2 d.2 in
        off_itself (same_side old.side new.side) (ap (λ (s : SideName). same_side old.side s) (sym same) ∙ side_itself old.side) e
        )
        (λ c. home_under base settled i t old.side c.0 c.1 c.2) (λ d. home_under base settled i t new.side d.0 d.1 d.2)
        (scope_home base settled i first f old_entry old_kid t z lived) (scope_home base settled i v g new_entry new_kid t x lives))
        )

  kid_entry : (w : State K) (s : Settled w) (t : ℕ) (x : Scope K) (a : SideName) (p : Place) (kid : HasChild w t x a p) → at w.scopes t ≡ Some x → KidAt w s i t a p kid.child
  kid_entry w s t x a p kid found =
      record {
        row = x;
        found = found;
        child = child_among (side_of x a).children p kid.child kid.kid;
        above = up_found w kid.child kid.record_of kid.live ∙ kid.parent;
        below_is = below_found w kid.child kid.record_of kid.live ∙ ap (λ (s : SideName). Some s) kid.below;
      }

  old_low : (t : ℕ) → is_live first t ≡ true → t < first.next_scope
  old_low t live =
      by_test (nat_lt t first.next_scope) (λ r. grind (arith, r))
      (λ r. let high : first.next_scope ≤ t = grind (arith, r) in off_itself (is_live first t) live (ap (λ (o : Option (Scope K)). is_some o) ((f.ready.rooted).drawn t high)))

  -- a number that was drawn before the unit
  old_single : i < first.next.elements → (m t : ℕ) (z x : Scope K) → at first.scopes t ≡ Some z → at v.scopes t ≡ Some x → scope_claims app first v m t i ≤ 1
  old_single low m t z x lived lives =
      (scope_here first f (λ s y a p k found e. record { row = y; found = found; number = e })
      (λ s y a p k found e. let w = h.numbers s y a p k i found e low in record { row = w.0; found = w.1; number = w.2 })
      (λ s y a p kid found more u. kid_entry first f s y a p kid found)
      (
      λ s y a p kid found more u.
      let live : is_live first kid.child ≡ true = under_lives first f i kid.child u in
      let under_limit : kid.child < first.next_scope = old_low kid.child live in
      let w = h.children s y a p kid.child found (child_among (side_of y a).children p kid.child kid.kid) under_limit in
      let same : stand (at v.scopes kid.child) ≡ stand (at first.scopes kid.child) = h.old kid.child (live_found v kid.child kid.record_of kid.live) under_limit in
      record {
        row = w.0;
        found = w.1;
        child = w.2;
        above = sym (up_by first v kid.child same) ∙ up_found v kid.child kid.record_of kid.live ∙ kid.parent;
        below_is = sym (below_by first v kid.child same) ∙ below_found v kid.child kid.record_of kid.live ∙ ap (λ (j : SideName). Some j) kid.below;
      }
      )
      (λ s y w a p kid now same found there. kid_entry first f s y a p kid found)
      m t z x lived lives).0

  -- a number that the unit drew
  new_single : first.next.elements ≤ i → (m t : ℕ) (z x : Scope K) → at first.scopes t ≡ Some z → at v.scopes t ≡ Some x → scope_claims app first v m t i ≤ 1
  new_single high m t z x lived lives =
      (scope_here v g (λ s y a p k found e. let r = (f.ready.stands).range s i y a p k found e in absurd (omega (arith, r.1, high)))
      (λ s y a p k found e. record { row = y; found = found; number = e })
      (λ s y a p kid found more u. no_old s y a p kid found more)
      (λ s y a p kid found more u. kid_entry v g s y a p kid found)
      (λ s y w a p kid now same found there. subst (λ (j : ℕ). KidAt v g i s a p j) same (kid_entry v g s w a p now there))
      m t z x lived lives).0
    where
      no_old : (s : ℕ) (y : Scope K) (a : SideName) (p : Place) (kid : HasChild first s y a p) → at first.scopes s ≡ Some y → 0 < count_of i (nodes_of first kid.child) → KidAt v g i s a p kid.child
      no_old s y a p kid found more =
          let u : Under first f i kid.child =
          (scope_under first f i first f (λ n w b q k there e. record { row = w; found = there; number = e }) (λ n w b q other there some_more under_it. kid_entry first f n w b q other there) kid.child kid.record_of kid.live).1 more in
          let e : Entry first f i u.scope u.side u.place u.kind = u.entry in
          let r = (f.ready.stands).range u.scope i e.row u.side u.place u.kind e.found e.number in
          absurd (omega (arith, r.1, high))

  pub single : (m t : ℕ) (z x : Scope K) → at first.scopes t ≡ Some z → at v.scopes t ≡ Some x → scope_claims app first v m t i ≤ 1
  single m t z x lived lives =
      by_test (nat_lt i first.next.elements) (λ r. let low : i < first.next.elements = grind (arith, r) in old_single low m t z x lived lives)
      (λ r. let high : first.next.elements ≤ i = grind (arith, r) in new_single high m t z x lived lives)
