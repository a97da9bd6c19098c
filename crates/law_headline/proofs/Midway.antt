-- What a state in the midst of a unit keeps of the one in which the unit began; and of a number that was drawn before,
-- that it shows, or that the edits up to there carry, where its home was.
use Rattle.std.proofs.Common.{ℕ, zero, suc, ◌+◌, ◌≤◌, ◌<◌, Bool, true, false, ◌&&◌, [], ◌≡◌, refl, sym, ap, ◌∙◌, subst, arith, nat_eq, length}
use Rattle.std.specs.Prelude.{Option, Some, None, if◌then◌else◌, is_some, nat_lt}
use Rattle.std.proofs.lemmas.Bool.{eqb-true}
use Rattle.rt_lemmas.proofs.Options.{some_same as one_side}
use Rattle.rt_model.specs.Lists.{at}
use Rattle.rt_model.specs.Tree.{Types, Tree, Place, Kind, VComponent, Spot, node_at, component_at, spots}
use Rattle.rt_model.specs.World.{Application}
use Rattle.rt_model.specs.Values.{is_same_component}
use Rattle.rt_model.specs.State.{SideName, same_side, Scope, State, side_of, is_live, is_shown}
use Rattle.rt_model.specs.Run.{child_at, spots_of}
use Rattle.rt_model.specs.Heard.{number_at}
use Rattle.rt_model.specs.Document.{Forest, Empty, count_of}
use Rattle.rt_model.specs.View.{child_view, tree_view, side_view, scope_view, view_within, nodes_of}
use Rattle.rt_model.specs.Caused.{Written, writes, halts, then_on, replaced_by, Both, Way, stop_on, tree_written, outputs_written, side_written, sides_written, scope_written, written_within}
use Rattle.rt_model.proofs.Maps.{by_test, pick_true, pick_false}
use Rattle.rt_model.proofs.Among.{Among, among_contained}
use Rattle.rt_model.proofs.NumbersStand.{child_among}
use Rattle.rt_model.proofs.SamePlaces.{number_stands}
use Rattle.rt_model.proofs.ViewCounts.{one_if, passes}
use Rattle.rt_model.proofs.WellNumbered.{FitsBelow}
use Rattle.law_moves.proofs.Twigs.{up, below, live_found}
use Rattle.law_moves.specs.Meets.{child_claims, tree_claims}
use Rattle.law_moves.specs.Trees.{HasChild}
use Rattle.law_headline.proofs.Nodes.{Shown, Settled, shown_of, view_of, kid_of, rows_of_side}
use Rattle.law_headline.proofs.Climbs.{off_itself}
use Rattle.law_headline.proofs.Ends.{side_itself}
use Rattle.law_headline.proofs.ClaimedOnce.{Tag, Here, here_none, here_more, here_sum, Known, tree_counted, tree_here}
use Rattle.law_headline.proofs.Homes.{Under, KidAt, HomeAt, kid_once, home_once, home_side, home_under, under_lives, spot_known, scope_home}
use Rattle.law_headline.proofs.Carries.{carries, carried_in_both, carried_if, replaced_carries, tree_within}
use Rattle.law_headline.proofs.StandIns.{stand_in, seated_side, shapes_meet}
use Rattle.law_headline.proofs.Unshown.{own_entry, own_kid, own_under}

module _ {K : Types} (app : Application K) (first : State K) where
  pub record Midway (v : State K) : Type 0 where
    -- outputs fit
    pub fits : (t : ℕ) (x : Scope K) (a : SideName) (tree : Tree K) → at v.scopes t ≡ Some x → (side_of x a).output ≡ Some tree → FitsBelow tree
    -- numbers that were drawn before stand where they stood
    pub numbers :
        (t : ℕ) (x : Scope K) (a : SideName) (p : Place) (k : Kind) (n : ℕ)
        → at v.scopes t ≡ Some x → Among (side_of x a).numbers (p, k, n) → n < first.next.elements
        → (z : Scope K) × (at first.scopes t ≡ Some z) × Among (side_of z a).numbers (p, k, n)
    -- so do child scopes
    pub children :
        (t : ℕ) (x : Scope K) (a : SideName) (p : Place) (u : ℕ)
        → at v.scopes t ≡ Some x → Among (side_of x a).children (p, u) → is_live v u ≡ true → u < first.next_scope
        → (z : Scope K) × (at first.scopes t ≡ Some z) × Among (side_of z a).children (p, u) × (up first u ≡ Some t) × (below first u ≡ Some a)
    -- a child scope that stands where it stood was fed
    pub feeds :
        (t : ℕ) (x z : Scope K) (a : SideName) (p : Place) (u : ℕ) (c d : VComponent K)
        → at v.scopes t ≡ Some x → at first.scopes t ≡ Some z → Among (side_of x a).children (p, u) → u < first.next_scope
        → Among (spots_of (side_of x a).output) (component_at p c) → Among (spots_of (side_of z a).output) (component_at p d)
        → is_same_component app d c ≡ true

here_less : {R : Type 0} (m n : ℕ) → m ≤ n → Here n R → Here m R
here_less m n e h = let a = h.0 in (omega (arith, e, a), λ g. h.1 (omega (arith, e, g)))

module _ {K : Types} (app : Application K) (first v : State K) (f : Settled first) (h : Midway app first v) (i : ℕ) (positive : 0 < i) (drawn : i < first.next.elements) where
  live_low : (t : ℕ) → is_live first t ≡ true → t < first.next_scope
  live_low t live =
      by_test (nat_lt t first.next_scope) (λ r. grind (arith, r))
      (λ r. let high : first.next_scope ≤ t = grind (arith, r) in off_itself (is_live first t) live (ap (λ (o : Option (Scope K)). is_some o) ((f.ready.rooted).drawn t high)))

  kid_at : (t : ℕ) (x : Scope K) (a : SideName) (p : Place) (u : ℕ) → at v.scopes t ≡ Some x → child_at (side_of x a).children p ≡ Some u → is_live v u ≡ true → Under first f i u → KidAt first f i t a p u
  kid_at t x a p u found kid live under =
      let z = h.children t x a p u found (child_among (side_of x a).children p u kid) live (live_low u (under_lives first f i u under)) in
      record { row = z.0; found = z.1; child = z.2; above = z.3; below_is = z.4 }

  -- a scope that shows the number is live, and has its home
  abbrev Home : ℕ → Type 0
  Home t = (is_live v t ≡ true) × Under first f i t

  -- what is known of any spot of a side
  known : (inner : ℕ → Forest) (t : ℕ) (x : Scope K) (a : SideName) → at v.scopes t ≡ Some x → ((u : ℕ) → Here (count_of i (inner u)) (Home u)) → (e : Spot K)
      → Known (λ p k. HomeAt first f i t a p k) (λ p q k l c d. home_once first f i t a p q k l c d) (side_of x a) inner i e
  known inner t x a found go (node_at p k) = (
    one_if (nat_eq (number_at (side_of x a).numbers p k) i),
    λ more.
        let is : number_at (side_of x a).numbers p k ≡ i = eqb-true (number_at (side_of x a).numbers p k) i (passes (nat_eq (number_at (side_of x a).numbers p k) i) more) in
        let z = h.numbers t x a p k i found (among_contained (side_of x a).numbers (p, k, i) (number_stands (side_of x a).numbers p k i positive is)) drawn in
        record { row = z.0; found = z.1; number = z.2 },
  )
  known inner t x a found go (component_at p c) = by_kid (child_at (side_of x a).children p) refl
    where
      by_kid : (o : Option ℕ) → child_at (side_of x a).children p ≡ o → Here (count_of i (child_view inner o)) (HomeAt first f i t a p None)
      by_kid None is = here_none 0 refl
      by_kid (Some u) is = let r = go u in (r.0, λ more. let m = r.1 more in (u, kid_at t x a p u found is m.0 m.1, m.1))

  -- how often a side shows the number, by what the scopes below it show
  side_home : (inner : ℕ → Forest) (t : ℕ) (x : Scope K) (a : SideName) → at v.scopes t ≡ Some x → ((u : ℕ) → Here (count_of i (inner u)) (Home u))
      → Here (count_of i (side_view inner (side_of x a))) ((p : Place) × (k : Tag) × HomeAt first f i t a p k)
  side_home inner t x a found go = by_output (side_of x a).output
    where
      by_output : (o : Option (Tree K)) → Here (count_of i (elim o as (λ z. Forest) [ None ↦ Empty | Some tree ↦ tree_view (side_of x a) inner [] tree ])) ((p : Place) × (k : Tag) × HomeAt first f i t a p k)
      by_output None = here_none 0 refl
      by_output (Some tree) =
          here_more (count_of i (tree_view (side_of x a) inner [] tree)) (count_of i (tree_view (side_of x a) inner [] tree)) refl (λ c. (c.0, c.1, c.2))
          (tree_counted (λ p k. HomeAt first f i t a p k) (λ p q k l c d. home_once first f i t a p q k l c d) (side_of x a) inner i [] tree (λ e g. known inner t x a found go e))

  -- how often a scope shows it, by the same
  scope_step : (inner : ℕ → Forest) (t : ℕ) → ((u : ℕ) → Here (count_of i (inner u)) (Home u)) → Here (count_of i (scope_view inner (at v.scopes t))) (Home t)
  scope_step inner t go = by_scope (at v.scopes t) refl
    where
      by_side : (x : Scope K) (o : Option SideName) → at v.scopes t ≡ Some x → Here (count_of i (elim o as (λ z. Forest) [ None ↦ Empty | Some a ↦ side_view inner (side_of x a) ])) (Home t)
      by_side x None found = here_none 0 refl
      by_side x (Some a) found =
          here_more (count_of i (side_view inner (side_of x a))) (count_of i (side_view inner (side_of x a))) refl (λ c. (live_found v t x found, home_under first f i t a c.0 c.1 c.2))
          (side_home inner t x a found go)

      by_scope : (o : Option (Scope K)) → at v.scopes t ≡ o → Here (count_of i (scope_view inner o)) (Home t)
      by_scope None found = here_none 0 refl
      by_scope (Some x) found = by_side x x.shows found

  within_home : (n t : ℕ) → Here (count_of i (view_within v n t)) (Home t)
  within_home zero t = here_none 0 refl
  within_home (suc n) t = scope_step (λ u. view_within v n u) t (λ u. within_home n u)

  -- how often a scope shows the number, where its home is then
  nodes_home : (t : ℕ) → Here (count_of i (nodes_of v t)) (Home t)
  nodes_home t = within_home (length v.scopes) t

  turned_home : (n t : ℕ) (x : Scope K) (a : SideName) → at v.scopes t ≡ Some x → x.shows ≡ Some a → Here (count_of i (view_within v n t)) ((p : Place) × (k : Tag) × HomeAt first f i t a p k)
  turned_home zero t x a found shows = here_none 0 refl
  turned_home (suc n) t x a found shows =
      let inner : ℕ → Forest = λ u. view_within v n u in
      let is : view_within v (suc n) t ≡ side_view inner (side_of x a) =
      ap (λ (o : Option (Scope K)). scope_view inner o) found
      ∙ ap (λ (o : Option SideName). elim o as (λ z. Forest) [ None ↦ Empty | Some name ↦ side_view inner (side_of x name) ]) shows in
      here_more (count_of i (view_within v (suc n) t)) (count_of i (side_view inner (side_of x a))) (ap (λ (z : Forest). count_of i z) is) (λ c. c)
      (side_home inner t x a found (λ u. within_home n u))

  -- what a unit has written on its way: of each scope, what showed before and what is carried
  module _ (way : Way) where
    abbrev under_way : ℕ → ℕ → Written
    under_way m t = written_within app way first v m t

    abbrev sum : ℕ → ℕ → ℕ → ℕ
    sum m t n = count_of n (nodes_of first t) + carries n (under_way m t).edits

    abbrev both : ℕ → ℕ → Scope K → Scope K → SideName → Both K
    both m t z x a =
        record {
          old = side_of z a;
          new = side_of x a;
          old_child = λ u. nodes_of first u;
          new_child = λ u. nodes_of v u;
          under = λ u. under_way m u;
          stop = stop_on a (at way t);
          on_way = λ u. is_some (at way u);
        }

    abbrev Goes : ℕ → Type 0
    Goes m = (u : ℕ) (y : Scope K) → at first.scopes u ≡ Some y → Here (sum m u i) (Under first f i u)

    module _ (m t : ℕ) (z x : Scope K) (lived : at first.scopes t ≡ Some z) (lives : at v.scopes t ≡ Some x) (go : Goes m) where
      abbrev Sum : Written → Type 0
      Sum w = Here (count_of i (nodes_of first t) + carries i w.edits) (Under first f i t)

      -- one side that shows in both states
      module _ (a : SideName) (old new : Tree K) (showed : z.shows ≡ Some a) (had : (side_of z a).output ≡ Some old) (has : (side_of x a).output ≡ Some new) where
        old_spot : (e : Spot K) → Among (spots [] old) e → Among (spots_of (side_of z a).output) e
        old_spot e j = subst (λ (o : Option (Tree K)). Among (spots_of o) e) (sym had) j

        new_spot : (e : Spot K) → Among (spots [] new) e → Among (spots_of (side_of x a).output) e
        new_spot e j = subst (λ (o : Option (Tree K)). Among (spots_of o) e) (sym has) j

        was_kid : (q : Place) (d : VComponent K) → Among (spots [] old) (component_at q d) → HasChild first t z a q
        was_kid q d l = kid_of first f t z a old q d lived had l

        fed : (q : Place) (c d : VComponent K) → Among (spots [] new) (component_at q c) → Among (spots [] old) (component_at q d) → is_same_component app d c ≡ true
            → Here (child_claims app (both m t z x a) (λ u n. sum m u n) i (child_at (side_of z a).children q)) (HomeAt first f i t a q None)
        fed q c d j l e =
            let kid : HasChild first t z a q = was_kid q d l in
            let inner = go kid.child kid.record_of kid.live in
            subst (λ (o : Option ℕ). Here (child_claims app (both m t z x a) (λ u n. sum m u n) i o) (HomeAt first f i t a q None)) (sym kid.kid)
            (inner.0, λ more. (kid.child, own_kid first f i t z a q kid lived, inner.1 more))

        clash : (q : Place) (c d : VComponent K) → Among (spots [] new) (component_at q c) → Among (spots [] old) (component_at q d) → is_same_component app d c ≡ false
            → 0 < count_of i (child_view (λ u. nodes_of first u) (child_at (side_of z a).children q)) → 0 < count_of i (child_view (λ u. nodes_of v u) (child_at (side_of x a).children q)) → ⊥
        clash q c d j l e more more_new = by_kid (child_at (side_of x a).children q) refl more_new
          where
            kid : HasChild first t z a q
            kid = was_kid q d l

            by_kid : (o : Option ℕ) → child_at (side_of x a).children q ≡ o → 0 < count_of i (child_view (λ u. nodes_of v u) o) → ⊥
            by_kid None is some = omega (arith, some)
            by_kid (Some u) is some =
                let was : 0 < count_of i (nodes_of first kid.child) = subst (λ (o : Option ℕ). 0 < count_of i (child_view (λ u. nodes_of first u) o)) kid.kid more in
                let old_under : Under first f i kid.child = (own_under first f i kid.child kid.record_of kid.live).1 was in
                let now : Home u = (nodes_home u).1 some in
                let same : kid.child ≡ u = kid_once first f i t kid.child u a a q q (own_kid first f i t z a q kid lived) old_under (kid_at t x a q u lives is now.0 now.1) now.1 in
                let there : Among (side_of x a).children (q, kid.child) = child_among (side_of x a).children q kid.child (is ∙ ap (λ (n : ℕ). Some n) (sym same)) in
                off_itself (is_same_component app d c)
                (h.feeds t x z a q kid.child c d lives lived there (live_low kid.child (live_found first kid.child kid.record_of kid.live)) (new_spot (component_at q c) j) (old_spot (component_at q d) l)) e

        claimed : Here (tree_claims app (both m t z x a) (λ u n. sum m u n) i [] new old) (Under first f i t)
        claimed =
            here_more (tree_claims app (both m t z x a) (λ u n. sum m u n) i [] new old) (tree_claims app (both m t z x a) (λ u n. sum m u n) i [] new old) refl
            (λ c. home_under first f i t a c.0 c.1 c.2)
            (tree_here (λ p k. HomeAt first f i t a p k) (λ p q k l c d. home_once first f i t a p q k l c d) app (both m t z x a) (λ u n. sum m u n) i [] new old
            (record {
              olds =
                  spot_known first f i first f (own_entry first f i) (λ s y b p kid there some u. own_kid first f i s y b p kid there) t z a old lived had
                  (λ u y there level. own_under first f i u y there);
              news = λ e g. known (λ u. nodes_of v u) t x a lives (λ u. nodes_home u) e;
              fed = fed;
              clash = clash;
            }))

        tree_sum : Sum (tree_written app (both m t z x a) [] new old)
        tree_sum =
            let d : Shown z = record { side = a; tree = old; shows = showed; output = had } in
            let is : count_of i (nodes_of first t) ≡ count_of i (tree_view (side_of z a) (λ u. nodes_of first u) [] old) = ap (λ (g : Forest). count_of i g) (view_of first f t z lived d) in
            let within =
            tree_within app (both m t z x a) (seated_side (side_of z a) new) stand_in (λ u. Unit {0}) (λ u n. sum m u n) i (λ u g. omega arith) [] new old
            (shapes_meet app (both m t z x a) new old (h.fits t x a new lives has) ((f.ready.stands).fit t z a old lived had) (rows_of_side first f t z a old lived had)
            (λ p c g. let kid : HasChild first t z a p = was_kid p c g in (kid.child, kid.kid))) in
            here_less (count_of i (nodes_of first t) + carries i (tree_written app (both m t z x a) [] new old).edits) (tree_claims app (both m t z x a) (λ u n. sum m u n) i [] new old)
            (omega (arith, is, within)) claimed

      -- nothing is carried
      bare_sum : Sum (writes [])
      bare_sum =
          here_more (count_of i (nodes_of first t) + carries i (writes []).edits) (count_of i (nodes_of first t)) (omega arith) (λ c. c) (own_under first f i t z lived)

      outputs_sum : (a : SideName) (o p : Option (Tree K)) → z.shows ≡ Some a → (side_of z a).output ≡ o → (side_of x a).output ≡ p → Sum (outputs_written app (both m t z x a) p o)
      outputs_sum a None None showed had has = bare_sum
      outputs_sum a None (Some new) showed had has = bare_sum
      outputs_sum a (Some old) None showed had has = bare_sum
      outputs_sum a (Some old) (Some new) showed had has = tree_sum a old new showed had has

      -- another side shows
      turned_sum : (a c : SideName) → z.shows ≡ Some a → x.shows ≡ Some c → same_side a c ≡ false → Sum (writes (replaced_by (nodes_of first t) (nodes_of v t)))
      turned_sum a c showed shows e =
          let d : Shown z = shown_of first f t z lived in
          let side : d.side ≡ a = one_side d.side a (sym d.shows ∙ showed) in
          let most : carries i (replaced_by (nodes_of first t) (nodes_of v t)) ≤ count_of i (nodes_of v t) = replaced_carries i (nodes_of first t) (nodes_of v t) in
          here_less (count_of i (nodes_of first t) + carries i (replaced_by (nodes_of first t) (nodes_of v t))) (count_of i (nodes_of first t) + count_of i (nodes_of v t)) (omega (arith, most))
          (here_sum (count_of i (nodes_of first t)) (count_of i (nodes_of v t))
          (
          λ g k.
          let same : d.side ≡ c = home_side first f i t d.side c g.0 k.0 g.1 k.1 g.2 k.2 in
          off_itself (same_side a c) (ap (λ (s : SideName). same_side a s) (sym (sym side ∙ same)) ∙ side_itself a) e
          )
          (λ g. home_under first f i t d.side g.0 g.1 g.2) (λ k. home_under first f i t c k.0 k.1 k.2)
          (scope_home first f i first f (own_entry first f i) (λ s y b p kid there more u. own_kid first f i s y b p kid there) t z lived)
          (turned_home (length v.scopes) t x c lives shows))

      sides_sum : (o p : Option SideName) → z.shows ≡ o → x.shows ≡ p → Sum (sides_written app first v way (λ u. under_way m u) t z x o p)
      sides_sum None p showed shows = bare_sum
      sides_sum (Some a) None showed shows = bare_sum
      sides_sum (Some a) (Some c) showed shows =
          let kept : Written = side_written app first v way (λ u. under_way m u) t z x a in
          let turned : Written = writes (replaced_by (nodes_of first t) (nodes_of v t)) in
          by_test (same_side a c)
          (λ e. subst (λ (w : Written). Sum w) (sym (pick_true kept turned e)) (outputs_sum a (side_of z a).output (side_of x a).output showed refl refl))
          (λ e. subst (λ (w : Written). Sum w) (sym (pick_false kept turned e)) (turned_sum a c showed shows e))

    nothing_sum : (t : ℕ) (z : Scope K) → at first.scopes t ≡ Some z → Here (count_of i (nodes_of first t) + carries i (writes []).edits) (Under first f i t)
    nothing_sum t z lived =
        here_more (count_of i (nodes_of first t) + carries i (writes []).edits) (count_of i (nodes_of first t)) (omega arith) (λ c. c) (own_under first f i t z lived)

    part_sum : (m t : ℕ) (z : Scope K) → at first.scopes t ≡ Some z → Goes m → (b : Bool) (o p : Option (Scope K)) → at first.scopes t ≡ o → at v.scopes t ≡ p
        → Here (count_of i (nodes_of first t) + carries i (if b then scope_written app first v way (λ u. under_way m u) t o p else writes []).edits) (Under first f i t)
    part_sum m t z lived go false o p was now = nothing_sum t z lived
    part_sum m t z lived go true None p was now = nothing_sum t z lived
    part_sum m t z lived go true (Some y) None was now = nothing_sum t z lived
    part_sum m t z lived go true (Some y) (Some x) was now = sides_sum m t y x was now go y.shows x.shows refl refl

    -- a scope, and all that is fed below it
    sweep_sum : (m t : ℕ) (z : Scope K) → at first.scopes t ≡ Some z → Here (sum m t i) (Under first f i t)
    sweep_sum zero t z lived = nothing_sum t z lived
    sweep_sum (suc m) t z lived =
        let seen : Bool = is_shown first t && is_shown v t in
        let part : Written = if seen then scope_written app first v way (λ u. under_way m u) t (at first.scopes t) (at v.scopes t) else writes [] in
        let tail : Written = if is_some (at way t) then halts else writes [] in
        let most : carries i (then_on part tail).edits ≤ carries i part.edits + carries i tail.edits = carried_in_both i part tail in
        let none : carries i tail.edits ≤ 0 = carried_if i 0 (is_some (at way t)) halts (writes []) (omega arith) (omega arith) in
        here_less (count_of i (nodes_of first t) + carries i (then_on part tail).edits) (count_of i (nodes_of first t) + carries i part.edits) (omega (arith, most, none))
        (part_sum m t z lived (λ u y there. sweep_sum m u y there) seen (at first.scopes t) (at v.scopes t) refl refl)

    -- a number that is carried didn't show in the scope, and had its home there or below
    pub carried_home : (m t : ℕ) (z : Scope K) → at first.scopes t ≡ Some z → 0 < carries i (written_within app way first v m t).edits → (count_of i (nodes_of first t) ≡ 0) × Under first f i t
    carried_home m t z lived more = let s = sweep_sum m t z lived in let once = s.0 in (omega (arith, once, more), s.1 (omega (arith, more)))
