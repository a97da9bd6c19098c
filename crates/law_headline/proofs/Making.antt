-- A scope that is made keeps what holds since the unit began, and so does each change while the unit is at work.
use Rattle.std.proofs.Common.{ℕ, ◌+◌, ◌<◌, true, false, List, [], ◌∷◌, ◌++◌, ◌≡◌, ◌⊎◌, inl, inr, refl, sym, ap, ◌∙◌, subst, arith, nat_eq}
use Rattle.std.specs.Prelude.{Option, Some, None, is_some}
use Rattle.std.proofs.lemmas.Bool.{eqb-true}
use Rattle.rt_model.specs.Lists.{at, put}
use Rattle.rt_model.specs.Tree.{Types, Tree, Place, Kind, VComponent, component_at}
use Rattle.rt_model.specs.World.{at_end, Application}
use Rattle.rt_model.specs.Laws.{IsLawful}
use Rattle.rt_model.specs.State.{SideName, MainSide, ChildrenSide, FallbackSide, RowStep, Side, Scope, State, Item, Draw, Row, Feed, Make, Drop, Outcome, Done, empty_side, side_of, new_scope, is_live}
use Rattle.rt_model.specs.Run.{child_at, spots_of, run}
use Rattle.rt_model.specs.Replay.{with_child, with_new_scope, made_in, outcome_of}
use Rattle.rt_model.proofs.Maps.{by_test, none_some, eq_same, at_put_other, at_append_none}
use Rattle.rt_model.proofs.Among.{Among, among_push}
use Rattle.law_moves.specs.Calls.{IsReady}
use Rattle.law_moves.proofs.Twigs.{up, below, kids, found_live, up_found, below_found}
use Rattle.law_moves.proofs.Woven.{owner, Climb}
use Rattle.law_moves.proofs.Lists.{some_number}
use Rattle.law_moves.proofs.Made.{kid_stays, at_parent, at_child, is_new, part, kids_here, side_else}
use Rattle.law_moves.proofs.Patched.{by_side}
use Rattle.law_moves.specs.Frames.{stand}
use Rattle.law_headline.proofs.Steps.{Ready, Lasts}
use Rattle.law_headline.proofs.Did.{same_scope, that_side, other_side}
use Rattle.law_headline.proofs.Lines.{Line, owner_lives}
use Rattle.law_headline.proofs.Dressed.{NoneOf}
use Rattle.law_headline.proofs.Clothed.{Clothed, clothed_lasts, made_is}
use Rattle.law_moves.specs.Trees.{HasChild}
use Rattle.law_headline.proofs.Nodes.{Settled, kid_of}
use Rattle.law_headline.proofs.Sides.{Link, link_child}
use Rattle.law_headline.proofs.Climbs.{up_by, below_by, live_by, parent_lives, feed_fits, off_itself}
use Rattle.law_headline.proofs.Since.{turns, Awaits, Out, out_not, Untouched, Since, since_rest}
use Rattle.law_headline.proofs.Patches.{one_side}
use Rattle.law_headline.proofs.Serving.{run_since, row_since, draw_since}
use Rattle.law_headline.proofs.Joining.{removed_since, feed_since}

module _ {K : Types} (app : Application K) (lawful : IsLawful K app) (first : State K) (root : ℕ) (settled : Settled first) where
  -- a scope is made

  module _ (w : State K) (s : ℕ) (a : SideName) (p : Place) (c : VComponent K) (x : Scope K) (found : at w.scopes s ≡ Some x) (fresh : at w.scopes w.next_scope ≡ None) (rest : List (Item K)) (now : Ready w (Make s a p c ∷ rest))
      (h : Since app lawful first root w (Make s a p c ∷ rest)) where
    child_stand : (d : SideName) → stand (Some (with_child d p w.next_scope x)) ≡ stand (Some x)
    child_stand MainSide = refl
    child_stand ChildrenSide = refl
    child_stand FallbackSide = refl

    child_shows : (d : SideName) → (with_child d p w.next_scope x).shows ≡ x.shows
    child_shows MainSide = refl
    child_shows ChildrenSide = refl
    child_shows FallbackSide = refl

    stands_at : (t : ℕ) → nat_eq w.next_scope t ≡ false → stand (at (with_new_scope w s a p c x).scopes t) ≡ stand (at w.scopes t)
    stands_at t q = part w s a p c x found fresh (λ (o : Option (Scope K)). stand o) t q (child_stand a)

    old_scope : (t : ℕ) → is_live w t ≡ true → nat_eq w.next_scope t ≡ false
    old_scope t live = is_new w s a p c x found fresh t live

    new_up : up (with_new_scope w s a p c x) w.next_scope ≡ Some s
    new_up = up_found (with_new_scope w s a p c x) w.next_scope (new_scope c (Some s) (x.height + 1) a) (at_child w s a p c x found fresh)

    new_below : below (with_new_scope w s a p c x) w.next_scope ≡ Some a
    new_below = below_found (with_new_scope w s a p c x) w.next_scope (new_scope c (Some s) (x.height + 1) a) (at_child w s a p c x found fresh)

    up_back : (t q : ℕ) → nat_eq w.next_scope t ≡ false → up (with_new_scope w s a p c x) t ≡ Some q → up w t ≡ Some q
    up_back t q old e = sym (up_by w (with_new_scope w s a p c x) t (stands_at t old)) ∙ e

    -- a way up from a scope that was there is one that was there
    climb_back : (path : List ℕ) (i j : ℕ) → nat_eq w.next_scope i ≡ false → Climb (with_new_scope w s a p c x) path i j → Climb w path i j
    climb_back [] i j old g = g
    climb_back (q ∷ path) i j old g =
        let here : up w i ≡ Some q = up_back i q old g.0 in
        (here, climb_back path q j (old_scope q (parent_lives w (Make s a p c ∷ rest) now i q here)) g.1)

    climb_forth : (path : List ℕ) (i j : ℕ) → nat_eq w.next_scope i ≡ false → Climb w path i j → Climb (with_new_scope w s a p c x) path i j
    climb_forth [] i j old g = g
    climb_forth (q ∷ path) i j old g =
        (up_by w (with_new_scope w s a p c x) i (stands_at i old) ∙ g.0, climb_forth path q j (old_scope q (parent_lives w (Make s a p c ∷ rest) now i q g.0)) g.1)

    no_child_new : {P : Type 0} (t : ℕ) → up (with_new_scope w s a p c x) t ≡ Some w.next_scope → P
    no_child_new t e =
        by_test (nat_eq w.next_scope t)
        (
        λ q.
        let same : Some w.next_scope ≡ Some s = sym e ∙ ap (λ (i : ℕ). up (with_new_scope w s a p c x) i) (sym (eqb-true w.next_scope t q)) ∙ new_up in
        let one : w.next_scope ≡ s = cc in
        none_some fresh (ap (λ (i : ℕ). at w.scopes i) one ∙ found)
        )
        (
        λ q.
        let alive : is_live w w.next_scope ≡ true = parent_lives w (Make s a p c ∷ rest) now t w.next_scope (up_back t w.next_scope q e) in
        off_itself (is_live w w.next_scope) alive (ap (λ (o : Option (Scope K)). is_some o) fresh)
        )

    -- what a scope that was there shows
    record Old (t : ℕ) (y : Scope K) : Type 0 where
      was : Scope K
      here : at w.scopes t ≡ Some was
      shows : y.shows ≡ was.shows
      sides : (b : SideName) → (side_of y b ≡ side_of was b) ⊎ ((s ≡ t) × (b ≡ a) × (side_of y b ≡ record (side_of was b) { children = (side_of was b).children ++ (p, w.next_scope) ∷ [] }))

    old_at : (t : ℕ) (y : Scope K) → nat_eq w.next_scope t ≡ false → at (with_new_scope w s a p c x).scopes t ≡ Some y → Old t y
    old_at t y old e =
        by_test (nat_eq s t)
        (
        λ q.
        let one : s ≡ t = eqb-true s t q in
        let same : with_child a p w.next_scope x ≡ y = same_scope (with_child a p w.next_scope x) y (sym (at_parent w s a p c x found fresh) ∙ ap (λ (i : ℕ). at (with_new_scope w s a p c x).scopes i) one ∙ e) in
        record {
          was = x;
          here = ap (λ (i : ℕ). at w.scopes i) (sym one) ∙ found;
          shows = ap (λ (i : Scope K). i.shows) (sym same) ∙ child_shows a;
          sides = λ b. by_which y one same b (one_side b a);
        }
        )
        (
        λ q.
        let there : at w.scopes t ≡ Some y =
        sym (at_put_other w.scopes s (with_child a p w.next_scope x) t q)
        ∙ sym (at_append_none (put w.scopes s (with_child a p w.next_scope x)) w.next_scope (new_scope c (Some s) (x.height + 1) a) t old)
        ∙ e in
        record { was = y; here = there; shows = refl; sides = λ b. inl refl }
        )
      where
        by_which : (y : Scope K) → s ≡ t → with_child a p w.next_scope x ≡ y → (b : SideName) → (b ≡ a) ⊎ (b ≡ a → ⊥)
            → (side_of y b ≡ side_of x b) ⊎ ((s ≡ t) × (b ≡ a) × (side_of y b ≡ record (side_of x b) { children = (side_of x b).children ++ (p, w.next_scope) ∷ [] }))
        by_which y one same b (inl d) =
            inr (
              one,
              d,
              ap (λ (i : Scope K). side_of i b) (sym same) ∙ ap (λ (i : SideName). side_of (with_child a p w.next_scope x) i) d
                  ∙ that_side x a (record (side_of x a) { children = (side_of x a).children ++ (p, w.next_scope) ∷ [] })
                  ∙ ap (λ (i : SideName). record (side_of x i) { children = (side_of x i).children ++ (p, w.next_scope) ∷ [] }) (sym d),
            )
        by_which y one same b (inr m) = inl (ap (λ (i : Scope K). side_of i b) (sym same) ∙ other_side x a b (record (side_of x a) { children = (side_of x a).children ++ (p, w.next_scope) ∷ [] }) m)

    empty_new : (y : Scope K) (b : SideName) → at (with_new_scope w s a p c x).scopes w.next_scope ≡ Some y → side_of y b ≡ empty_side
    empty_new y b e =
        ap (λ (i : Scope K). side_of i b) (sym (same_scope (new_scope c (Some s) (x.height + 1) a) y (sym (at_child w s a p c x found fresh) ∙ e))) ∙ all_empty b
      where
        all_empty : (b : SideName) → side_of (new_scope c (Some s) (x.height + 1) a) b ≡ empty_side
        all_empty MainSide = refl
        all_empty ChildrenSide = refl
        all_empty FallbackSide = refl

    -- what a scope had in a slot it has
    kid_kept : (t : ℕ) (b : SideName) (q : Place) (k : ℕ) → nat_eq w.next_scope t ≡ false → child_at (kids w t b) q ≡ Some k → child_at (kids (with_new_scope w s a p c x) t b) q ≡ Some k
    kid_kept t b q k old e =
        by_side t s b a
        (
        λ here.
        let there : child_at (kids w s a) q ≡ Some k = sym (ap (λ (i : SideName). child_at (kids w s i) q) here.1) ∙ sym (ap (λ (i : ℕ). child_at (kids w i b) q) here.0) ∙ e in
        ap (λ (i : ℕ). child_at (kids (with_new_scope w s a p c x) i b) q) here.0
        ∙ ap (λ (i : SideName). child_at (kids (with_new_scope w s a p c x) s i) q) here.1
        ∙ ap (λ (xs : List (Place × ℕ)). child_at xs q) (kids_here w s a p c x found fresh)
        ∙ kid_stays (kids w s a) (p, w.next_scope) q k there
        )
        (λ other. ap (λ (i : Side K). child_at i.children q) (side_else w s a p c x found fresh t b old other) ∙ e)

    -- the children that a feed names are those that were there
    fed_was : (i t : ℕ) (b : SideName) (q : Place) (d : VComponent K) → Among rest (Feed i b q d) → child_at (kids (with_new_scope w s a p c x) i b) q ≡ Some t → child_at (kids w i b) q ≡ Some t
    fed_was i t b q d g e =
        let fits = feed_fits w (Make s a p c ∷ rest) now (Make s a p c ∷ rest) i b q d now.woven.stack (inr g) in
        let old : nat_eq w.next_scope i ≡ false = old_scope i (owner_lives w (Make s a p c ∷ rest) (Feed i b q d) now.woven.stack (inr g)) in
        let stays : child_at (kids (with_new_scope w s a p c x) i b) q ≡ Some fits.0 = kid_kept i b q fits.0 old fits.1 in
        let same : fits.0 ≡ t = some_number fits.0 t (sym stays ∙ e) in
        fits.1 ∙ ap (λ (j : ℕ). Some j) same

    -- what awaits its run did so before, and was there
    awaits_back : (t : ℕ) → Awaits (with_new_scope w s a p c x) rest t → Awaits w (Make s a p c ∷ rest) t × (nat_eq w.next_scope t ≡ false)
    awaits_back t (inl e) =
        let kid = fed_was e.0 t e.1 e.2 e.3 e.4 e.5 in
        let fits = feed_fits w (Make s a p c ∷ rest) now (Make s a p c ∷ rest) e.0 e.1 e.2 e.3 now.woven.stack (inr e.4) in
        let same : fits.0 ≡ t = some_number fits.0 t (sym fits.1 ∙ kid) in
        (inl (e.0, e.1, e.2, e.3, inr e.4, kid), old_scope t (ap (λ (i : ℕ). is_live w i) (sym same) ∙ fits.2))
    awaits_back t (inr e) =
        by_test (nat_eq w.next_scope t)
        (
        λ q.
        let one : w.next_scope ≡ t = eqb-true w.next_scope t q in
        let scope : Some s ≡ Some e.0 = sym new_up ∙ ap (λ (i : ℕ). up (with_new_scope w s a p c x) i) one ∙ e.5 in
        let side : Some a ≡ Some e.2 = sym new_below ∙ ap (λ (i : ℕ). below (with_new_scope w s a p c x) i) one ∙ e.6 in
        let two : s ≡ e.0 = cc in
        absurd (h.clear (Make s a p c) e.0 e.1 a (inl refl) two refl (inr e.3) (e.4 ∙ sym side))
        )
        (λ q. (inr (e.0, e.1, e.2, inr e.3, e.4, up_back t e.0 q e.5, sym (below_by w (with_new_scope w s a p c x) t (stands_at t q)) ∙ e.6), q))

    -- the new scope isn't below what awaits its run
    new_apart : (t : ℕ) (path : List ℕ) → Awaits (with_new_scope w s a p c x) rest t → Climb (with_new_scope w s a p c x) path w.next_scope t → ⊥
    new_apart t [] e g = off_itself (nat_eq w.next_scope t) (ap (λ (i : ℕ). nat_eq w.next_scope i) (sym g) ∙ eq_same w.next_scope) (awaits_back t e).1
    new_apart t (q ∷ path) e g =
        let same : Some q ≡ Some s = sym g.0 ∙ new_up in
        let one : q ≡ s = cc in
        let old : nat_eq w.next_scope s ≡ false = old_scope s (ap (λ (o : Option (Scope K)). is_some o) found) in
        h.apart t (Make s a p c) path (awaits_back t e).0 (inl refl) (climb_back path s t old (subst (λ (i : ℕ). Climb (with_new_scope w s a p c x) path i t) one g.1))

    way : (path : List ℕ) × Climb (with_new_scope w s a p c x) path w.next_scope root
    way =
        let g = h.inside (Make s a p c) (inl refl) in
        let old : nat_eq w.next_scope s ≡ false = old_scope s (ap (λ (o : Option (Scope K)). is_some o) found) in
        (s ∷ g.0, (new_up, climb_forth g.0 s root old g.1))

    out_back : (path : List ℕ) (t : ℕ) → nat_eq w.next_scope t ≡ false → Out (with_new_scope w s a p c x) root path t → Out w root path t
    out_back [] t old e = (e.0, sym (up_by w (with_new_scope w s a p c x) t (stands_at t old)) ∙ e.1)
    out_back (q ∷ path) t old e =
        let here : up w t ≡ Some q = up_back t q old e.1 in
        (e.0, here, out_back path q (old_scope q (parent_lives w (Make s a p c ∷ rest) now t q here)) e.2)

    not_first : {P : Type 0} (z : Scope K) → at first.scopes w.next_scope ≡ Some z → P
    not_first z e = none_some ((settled.ready.rooted).drawn w.next_scope h.scopes) e

    number_old : (t : ℕ) (y : Scope K) (b : SideName) (q : Place) (k : Kind) (i : ℕ) (o : Old t y) → Among (side_of y b).numbers (q, k, i) → Among (side_of o.was b).numbers (q, k, i)
    number_old t y b q k i o g = elim (o.sides b) [ inl e ↦ subst (λ (z : Side K). Among z.numbers (q, k, i)) e g | inr e ↦ subst (λ (z : Side K). Among z.numbers (q, k, i)) e.2 g ]

    child_old : (t : ℕ) (y : Scope K) (b : SideName) (q : Place) (i : ℕ) (o : Old t y) → Among (side_of y b).children (q, i) → i < first.next_scope → Among (side_of o.was b).children (q, i)
    child_old t y b q i o g low =
        elim (o.sides b) [
          | inl e ↦ subst (λ (z : Side K). Among z.children (q, i)) e g
          | inr e ↦
              elim (among_push (side_of o.was b).children (p, w.next_scope) (q, i) (subst (λ (z : Side K). Among z.children (q, i)) e.2 g)) [
                | inl d ↦ d
                | inr d ↦ (let is_it : i ≡ w.next_scope = ap (λ (z : Place × ℕ). z.1) d in let high = h.scopes in absurd (omega (arith, is_it, low, high)))
              ]
        ]

    -- each component of an output had a child when the unit began
    had_kid : (t : ℕ) (z : Scope K) (b : SideName) → at first.scopes t ≡ Some z → (q : Place) (d : VComponent K) → Among (spots_of (side_of z b).output) (component_at q d) → (i : ℕ) × (child_at (side_of z b).children q ≡ Some i)
    had_kid t z b there q d g = by_output (side_of z b).output refl g
      where
        by_output : (o : Option (Tree K)) → (side_of z b).output ≡ o → Among (spots_of o) (component_at q d) → (i : ℕ) × (child_at (side_of z b).children q ≡ Some i)
        by_output None is g = absurd g
        by_output (Some tree) is g = let kid : HasChild first t z b q = kid_of first settled t z b tree q d there is g in (kid.child, kid.kid)

    links_at : (t : ℕ) (y z : Scope K) (b : SideName) → nat_eq w.next_scope t ≡ false → at (with_new_scope w s a p c x).scopes t ≡ Some y → at first.scopes t ≡ Some z → Link app lawful first.next_scope (side_of z b) (side_of y b)
    links_at t y z b old e there =
        let o = old_at t y old e in
        let link = h.links t o.was z b o.here there in
        elim (o.sides b) [
          | inl same ↦ subst (λ (i : Side K). Link app lawful first.next_scope (side_of z b) i) (sym same) link
          | inr d ↦
              subst (λ (i : Side K). Link app lawful first.next_scope (side_of z b) i) (sym d.2)
              (link_child app lawful first.next_scope (side_of z b) (side_of o.was b) p w.next_scope h.scopes (λ q k g. had_kid t z b there q k g) link)
        ]

    waits_at : (b : ℕ) (step : RowStep) (d : SideName) (y z : Scope K) → Among rest (Row b step) → turns step ≡ Some d → at (with_new_scope w s a p c x).scopes b ≡ Some y → at first.scopes b ≡ Some z → side_of y d ≡ side_of z d
    waits_at b step d y z g turn e there =
        let o = old_at b y (old_scope b (owner_lives w (Make s a p c ∷ rest) (Row b step) now.woven.stack (inr g))) e in
        let was = h.waits b step d o.was z (inr g) turn o.here there in
        elim (o.sides d) [
          | inl same ↦ same ∙ was
          | inr f ↦ absurd (h.clear (Make s a p c) b step d (inl refl) f.0 (ap (λ (i : SideName). Some i) (sym f.1)) (inr g) turn)
        ]

    untouched_after : (i : ℕ) → nat_eq w.next_scope i ≡ false → Untouched app lawful first root w i → (s ≡ i → ⊥) → Untouched app lawful first root (with_new_scope w s a p c x) i
    untouched_after i old f other y e =
        let o = old_at i y old e in
        let z = f o.was o.here in
        (z.0, z.1, λ b. elim (o.sides b) [ inl same ↦ same ∙ z.2 b | inr d ↦ absurd (other d.0) ])

    quiet_at : (t i : ℕ) (path : List ℕ) → Awaits (with_new_scope w s a p c x) rest t → Climb (with_new_scope w s a p c x) path i t → is_live (with_new_scope w s a p c x) i ≡ true → Untouched app lawful first root (with_new_scope w s a p c x) i
    quiet_at t i path e g alive =
        by_test (nat_eq w.next_scope i)
        (λ q. absurd (new_apart t path e (subst (λ (j : ℕ). Climb (with_new_scope w s a p c x) path j t) (sym (eqb-true w.next_scope i q)) g)))
        (
        λ q.
        untouched_after i q (h.quiet t i path (awaits_back t e).0 (climb_back path i t q g) (sym (live_by w (with_new_scope w s a p c x) i (stands_at i q)) ∙ alive))
        (λ same. h.apart t (Make s a p c) path (awaits_back t e).0 (inl refl) (subst (λ (j : ℕ). Climb w path j t) (sym same) (climb_back path i t q g)))
        )

    outer_at : (t : ℕ) (path : List ℕ) (y : Scope K) → at (with_new_scope w s a p c x).scopes t ≡ Some y → Out (with_new_scope w s a p c x) root path t
        → (z : Scope K) × (at first.scopes t ≡ Some z) × (y.shows ≡ z.shows) × ((b : SideName) → side_of y b ≡ side_of z b)
    outer_at t path y e out =
        by_test (nat_eq w.next_scope t)
        (λ q. absurd (out_not (with_new_scope w s a p c x) root path way.0 w.next_scope (subst (λ (j : ℕ). Out (with_new_scope w s a p c x) root path j) (sym (eqb-true w.next_scope t q)) out) way.1))
        (
        λ q.
        let o = old_at t y q e in
        let there = out_back path t q out in
        let z = h.outer t path o.was o.here there in (
          z.0,
          z.1,
          o.shows ∙ z.2,
          λ b.
              elim (o.sides b) [
                | inl same ↦ same ∙ z.3 b
                | inr d ↦ (let g = h.inside (Make s a p c) (inl refl) in absurd (out_not w root path g.0 s (subst (λ (j : ℕ). Out w root path j) (sym d.0) there) g.1))
              ],
        )
        )

    pub base_since : Since app lawful first root (with_new_scope w s a p c x) rest
    base_since =
        record {
          numbers =
              λ t y b q k i e g low.
              by_test (nat_eq w.next_scope t)
              (λ r. absurd (subst (λ (z : Side K). Among z.numbers (q, k, i)) (empty_new y b (ap (λ (j : ℕ). at (with_new_scope w s a p c x).scopes j) (eqb-true w.next_scope t r) ∙ e)) g))
              (λ r. let o = old_at t y r e in h.numbers t o.was b q k i o.here (number_old t y b q k i o g) low);
          children =
              λ t y b q i e g low.
              by_test (nat_eq w.next_scope t)
              (λ r. absurd (subst (λ (z : Side K). Among z.children (q, i)) (empty_new y b (ap (λ (j : ℕ). at (with_new_scope w s a p c x).scopes j) (eqb-true w.next_scope t r) ∙ e)) g))
              (λ r. let o = old_at t y r e in h.children t o.was b q i o.here (child_old t y b q i o g low) low);
          old =
              λ t live low.
              by_test (nat_eq w.next_scope t)
              (λ r. let same : w.next_scope ≡ t = eqb-true w.next_scope t r in let high = h.scopes in absurd (omega (arith, same, low, high)))
              (λ r. stands_at t r ∙ h.old t (sym (live_by w (with_new_scope w s a p c x) t (stands_at t r)) ∙ live) low);
          links =
              λ t y z b e there.
              by_test (nat_eq w.next_scope t)
              (λ r. not_first z (ap (λ (j : ℕ). at first.scopes j) (eqb-true w.next_scope t r) ∙ there))
              (λ r. links_at t y z b r e there);
          waits = waits_at;
          quiet = quiet_at;
          apart =
              λ t j path e g k.
              h.apart t j path (awaits_back t e).0 (inr g) (climb_back path (owner j) t (old_scope (owner j) (owner_lives w (Make s a p c ∷ rest) j now.woven.stack (inr g))) k);
          clear = λ j b step d e o i g. h.clear j b step d (inr e) o i (inr g);
          elements = h.elements;
          scopes = let high = h.scopes in omega (arith, high);
          inside = λ j g. let k = h.inside j (inr g) in (k.0, climb_forth k.0 (owner j) root (old_scope (owner j) (owner_lives w (Make s a p c ∷ rest) j now.woven.stack (inr g))) k.1);
          outer = outer_at;
          lives = λ t path live out. let alive = h.lives t path live out in live_by w (with_new_scope w s a p c x) t (stands_at t (old_scope t alive)) ∙ alive;
          top = live_by w (with_new_scope w s a p c x) root (stands_at root (old_scope root h.top)) ∙ h.top;
        }

  make_since : (w v : State K) (s : ℕ) (a : SideName) (p : Place) (c : VComponent K) (rest work : List (Item K)) → Ready w (Make s a p c ∷ rest) → Ready v (work ++ rest) → Since app lawful first root w (Make s a p c ∷ rest)
      → outcome_of app w (Make s a p c) ≡ Done v work → Since app lawful first root v (work ++ rest)
  make_since w v s a p c rest work now ready h e =
      let fresh : at w.scopes w.next_scope ≡ None = (now.rooted).drawn w.next_scope (omega arith) in
      let x = found_live (at w.scopes s) now.woven.stack.0 in
      let u : State K = with_new_scope w s a p c x.0 in
      let new : Scope K = new_scope c (Some s) ((x.0).height + 1) a in
      let ran : run app u w.next_scope ≡ Done v work =
      made_is app lawful w u v w.next_scope work (at_end w.next_scope)
      (sym (ap (λ (o : Option (Scope K)). elim o as (λ z. Outcome K) [ None ↦ Done w [] | Some y ↦ made_in app w s a p c y ]) x.1) ∙ e) in
      let none : NoneOf w.next_scope rest =
      λ j g same.
      off_itself (is_live w w.next_scope) (ap (λ (i : ℕ). is_live w i) (sym same) ∙ owner_lives w rest j now.woven.stack.3 g) (ap (λ (o : Option (Scope K)). is_some o) fresh) in
      run_since app lawful first root u v w.next_scope rest work new ready (base_since w s a p c x.0 x.1 fresh rest now h) (at_child w s a p c x.0 x.1 fresh) ran none (way w s a p c x.0 x.1 fresh rest now h)
      (λ z b begun. not_first w s a p c x.0 x.1 fresh rest now h z begun)
      (λ t i path over g alive. no_child_new w s a p c x.0 x.1 fresh rest now h t over)
      (λ t j path over g k. no_child_new w s a p c x.0 x.1 fresh rest now h t over)
      (λ t path g k. new_apart w s a p c x.0 x.1 fresh rest now h t path g k)

  -- what holds while a unit is at work

  abbrev pub InUnit : State K → List (Item K) → Type 0
  InUnit w work = Clothed w work × Since app lawful first root w work

  served_unit : (w v : State K) (item : Item K) (rest work : List (Item K)) → Ready w (item ∷ rest) → Ready v (work ++ rest) → IsReady w item → Line (item ∷ rest) → Since app lawful first root w (item ∷ rest) → outcome_of app w item ≡ Done v work
      → Since app lawful first root v (work ++ rest)
  served_unit w v (Draw s a p k) rest work now ready there line h e = draw_since app lawful first root settled w v s a p k rest work now ready h e
  served_unit w v (Row b step) rest work now ready there line h e = row_since app lawful first root w v b step rest work now ready line h e
  served_unit w v (Feed s a p c) rest work now ready there line h e = feed_since app lawful first root settled w v s a p c rest work now ready line h e
  served_unit w v (Make s a p c) rest work now ready there line h e = make_since w v s a p c rest work now ready h e
  served_unit w v (Drop t s a) rest work now ready there line h e = absurd there

  -- each change of an item keeps it
  pub unit_lasts : Lasts app lawful InUnit
  unit_lasts =
      let clothed = (clothed_lasts app lawful).inside in
      record {
        serves = λ w v item rest work now ready there p e. (clothed.serves w v item rest work now ready there p.0 e, served_unit w v item rest work now ready there p.0.line p.1 e);
        drops =
            λ w v scope parent side rest work now ready is live p e. (
              clothed.drops w v scope parent side rest work now ready is live p.0 e,
              removed_since app lawful first root settled w v scope scope parent side rest rest work now ready is e p.1 (since_rest app lawful first root w (Drop scope parent side) rest p.1),
            );
        thins =
            λ w v scope top parent side rest work now ready is other live p e. (
              clothed.thins w v scope top parent side rest work now ready is other live p.0 e,
              removed_since app lawful first root settled w v scope top parent side rest (Drop top parent side ∷ rest) work now ready is e p.1 p.1,
            );
      }
