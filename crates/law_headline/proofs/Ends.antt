-- At the end of a unit the scopes from its root down through all that is fed meet what they were.
use Rattle.std.proofs.Common.{ℕ, zero, suc, ◌+◌, ◌≤◌, Bool, true, false, ◌&&◌, [], ◌≡◌, refl, sym, ap, ◌∙◌, subst, arith, length}
use Rattle.std.specs.Prelude.{Option, Some, None, is_some}
use Rattle.rt_lemmas.proofs.Bools.{and_both as both_hold}
use Rattle.rt_model.specs.Lists.{at}
use Rattle.rt_model.specs.Tree.{Types, Tree, Place, VComponent, Spot, node_at, component_at, spots}
use Rattle.rt_model.specs.World.{Application}
use Rattle.rt_model.specs.Laws.{IsLawful}
use Rattle.rt_model.specs.Values.{is_same_component}
use Rattle.rt_model.specs.State.{SideName, MainSide, ChildrenSide, FallbackSide, same_side, Scope, State, side_of, is_side, is_live, height_of, shown_at, shown_from, is_shown}
use Rattle.rt_model.specs.Run.{child_at, spots_of}
use Rattle.rt_model.proofs.Among.{Among}
use Rattle.rt_model.proofs.Conjunctions.{and-left, and-right}
use Rattle.rt_model.proofs.WellNumbered.{FitsBelow}
pub use Rattle.rt_model.proofs.Quiet.{side_same as side_itself}
use Rattle.law_moves.proofs.Twigs.{height_found, live_found}
use Rattle.law_moves.proofs.Lists.{some_number}
use Rattle.law_moves.specs.Meets.{ChildMeets}
use Rattle.law_moves.specs.Sweeps.{between, SideMeets, under, MeetsDown}
use Rattle.law_headline.proofs.Heights.{height_low}
use Rattle.law_headline.specs.Fitting.{FittingBring}
use Rattle.law_moves.specs.Trees.{HasChild}
use Rattle.law_headline.proofs.Nodes.{Shown, Settled, shown_of, kid_of, has_node, rows_of_side}
use Rattle.law_headline.proofs.Meets.{tree_meets}
use Rattle.law_headline.proofs.Sides.{Link}
use Rattle.law_headline.proofs.Since.{Since}

pub side_is : (a b : SideName) → same_side a b ≡ true → a ≡ b
side_is MainSide MainSide h = refl
side_is MainSide ChildrenSide h = cc
side_is MainSide FallbackSide h = cc
side_is ChildrenSide MainSide h = cc
side_is ChildrenSide ChildrenSide h = refl
side_is ChildrenSide FallbackSide h = cc
side_is FallbackSide MainSide h = cc
side_is FallbackSide ChildrenSide h = cc
side_is FallbackSide FallbackSide h = refl

shows_it : (o : Option SideName) (a : SideName) → is_side o a ≡ true → o ≡ Some a
shows_it None a h = cc
shows_it (Some b) a h = ap (λ (i : SideName). Some i) (side_is b a h)

module _ {K : Types} (w : State K) (t u : ℕ) (y x : Scope K) (above : at w.scopes t ≡ Some y) (found : at w.scopes u ≡ Some x) (parent : x.parent ≡ Some t) (height : x.height ≡ y.height + 1) where
  -- whether a scope is shown, by its parent
  shown_is : is_shown w u ≡ is_side y.shows x.below && shown_from w.scopes (height_of w.scopes t) t
  shown_is =
      let level : height_of w.scopes u ≡ suc (height_of w.scopes t) =
      let a = height_found w u x found in let b = height_found w t y above in omega (arith, a, b, height) in
      ap (λ (o : Option (Scope K)). is_some o && shown_from w.scopes (height_of w.scopes u) u) found
      ∙ ap (λ (n : ℕ). shown_from w.scopes n u) level
      ∙ ap (λ (o : Option (Scope K)). elim o as (λ z. Bool) [ None ↦ false | Some z ↦ shown_at w.scopes (λ p. shown_from w.scopes (height_of w.scopes t) p) z.below z.parent ]) found
      ∙ ap (λ (o : Option ℕ). shown_at w.scopes (λ p. shown_from w.scopes (height_of w.scopes t) p) x.below o) parent
      ∙ ap (λ (o : Option (Scope K)). elim o as (λ z. Bool) [ None ↦ false | Some z ↦ is_side z.shows x.below && shown_from w.scopes (height_of w.scopes t) t ]) above

  -- a scope below the side that its shown parent shows is shown
  pub shown_kid : is_shown w t ≡ true → y.shows ≡ Some x.below → is_shown w u ≡ true
  shown_kid seen shows =
      let here : is_side y.shows x.below ≡ true = ap (λ (o : Option SideName). is_side o x.below) shows ∙ side_itself x.below in
      shown_is ∙ both_hold (is_side y.shows x.below) (shown_from w.scopes (height_of w.scopes t) t) here (and-right (is_live w t) (shown_from w.scopes (height_of w.scopes t) t) seen)

  -- and conversely
  pub shown_up : is_shown w u ≡ true → (y.shows ≡ Some x.below) × (is_shown w t ≡ true)
  shown_up seen =
      let all : is_side y.shows x.below && shown_from w.scopes (height_of w.scopes t) t ≡ true = sym shown_is ∙ seen in (
        shows_it y.shows x.below (and-left (is_side y.shows x.below) (shown_from w.scopes (height_of w.scopes t) t) all),
        both_hold (is_live w t) (shown_from w.scopes (height_of w.scopes t) t) (live_found w t y above) (and-right (is_side y.shows x.below) (shown_from w.scopes (height_of w.scopes t) t) all),
      )

module _ {K : Types} (app : Application K) (lawful : IsLawful K app) (bring : FittingBring K) (first v : State K) (root : ℕ) (f : Settled first) (g : Settled v) (h : Since app lawful first root v []) where
  -- a side that shows in both states meets, where each child that is fed meets
  side_meets : (n t : ℕ) (z x : Scope K) (a : SideName) (old new : Tree K) → at first.scopes t ≡ Some z → at v.scopes t ≡ Some x → is_shown first t ≡ true → is_shown v t ≡ true → z.shows ≡ Some a → x.shows ≡ Some a
      → (side_of z a).output ≡ Some old → (side_of x a).output ≡ Some new → length first.scopes ≤ z.height + suc n
      → ((u : ℕ) (i j : Scope K) → at first.scopes u ≡ Some i → at v.scopes u ≡ Some j → is_shown first u ≡ true → is_shown v u ≡ true → length first.scopes ≤ i.height + n → MeetsDown app first v n u)
      → SideMeets app first v (λ u. MeetsDown app first v n u) (λ u. under app first v n u) (side_of z a) (side_of x a)
  side_meets n t z x a old new lived lives seen sees showed shows had has bound go =
      let fit : FitsBelow new = (g.ready.stands).fit t x a new lives has in
      let was : FitsBelow old = (f.ready.stands).fit t z a old lived had in
      record {
        old = old;
        new = new;
        had = had;
        has = has;
        meets =
            tree_meets app bring (between first v (λ u. under app first v n u) (side_of z a) (side_of x a)) (λ u. MeetsDown app first v n u) [] new old fit.level was.level fit.fits was.fits
            (record {
              nodes = λ p k i j. link.nodes p k (old_spot (node_at p k) j) (new_spot (node_at p k) i);
              fed = λ p c d i j e. (link.kids p c d (new_spot (component_at p c) i) (old_spot (component_at p d) j) e, fed p c d i j e);
              old_rows = rows_of_side first f t z a old lived had;
              new_rows = rows_of_side v g t x a new lives has;
            });
      }
    where
      link : Link app lawful first.next_scope (side_of z a) (side_of x a)
      link = h.links t x z a lives lived

      old_spot : (e : Spot K) → Among (spots [] old) e → Among (spots_of (side_of z a).output) e
      old_spot e i = subst (λ (o : Option (Tree K)). Among (spots_of o) e) (sym had) i

      new_spot : (e : Spot K) → Among (spots [] new) e → Among (spots_of (side_of x a).output) e
      new_spot e i = subst (λ (o : Option (Tree K)). Among (spots_of o) e) (sym has) i

      fed : (p : Place) (c d : VComponent K) → Among (spots [] new) (component_at p c) → Among (spots [] old) (component_at p d) → is_same_component app d c ≡ true
          → ChildMeets app (between first v (λ u. under app first v n u) (side_of z a) (side_of x a)) (λ u. MeetsDown app first v n u) (child_at (side_of z a).children p)
      fed p c d i j e =
          let kid : HasChild first t z a p = kid_of first f t z a old p d lived had j in
          let now : HasChild v t x a p = kid_of v g t x a new p c lives has i in
          let same : now.child ≡ kid.child = some_number now.child kid.child (sym now.kid ∙ link.kids p c d (new_spot (component_at p c) i) (old_spot (component_at p d) j) e ∙ kid.kid) in
          let there : at v.scopes kid.child ≡ Some now.record_of = ap (λ (m : ℕ). at v.scopes m) (sym same) ∙ now.live in
          let was_shown : is_shown first kid.child ≡ true =
          shown_kid first t kid.child z kid.record_of lived kid.live kid.parent kid.height seen (showed ∙ ap (λ (m : SideName). Some m) (sym kid.below)) in
          let is_shown_now : is_shown v kid.child ≡ true =
          shown_kid v t kid.child x now.record_of lives there now.parent now.height sees (shows ∙ ap (λ (m : SideName). Some m) (sym now.below)) in
          let level : kid.record_of.height ≡ z.height + 1 = kid.height in
          subst (λ (o : Option ℕ). ChildMeets app (between first v (λ u. under app first v n u) (side_of z a) (side_of x a)) (λ u. MeetsDown app first v n u) o) (sym kid.kid)
          (go kid.child kid.record_of now.record_of kid.live there was_shown is_shown_now (omega (arith, bound, level)))

  -- so a scope that is shown in both states meets, with all that is fed below it
  pub meets_down : (n t : ℕ) (z x : Scope K) → at first.scopes t ≡ Some z → at v.scopes t ≡ Some x → is_shown first t ≡ true → is_shown v t ≡ true → length first.scopes ≤ z.height + n → MeetsDown app first v n t
  meets_down zero t z x lived lives seen sees bound = let low = height_low first f.tree t z lived in absurd (omega (arith, low, bound))
  meets_down (suc n) t z x lived lives seen sees bound =
      let old : Shown z = shown_of first f t z lived in
      let new : Shown x = shown_of v g t x lives in
      record {
        stays =
            record {
              old = z;
              new = x;
              old_side = old.side;
              new_side = new.side;
              lived = lived;
              lives = lives;
              seen = both_hold (is_shown first t) (is_shown v t) seen sees;
              showed = old.shows;
              shows = new.shows;
            };
        kept =
            λ e.
            let same : old.side ≡ new.side = side_is old.side new.side e in
            side_meets n t z x old.side old.tree new.tree lived lives seen sees old.shows (new.shows ∙ ap (λ (i : SideName). Some i) (sym same)) old.output
            (ap (λ (i : SideName). (side_of x i).output) same ∙ new.output) bound (λ u i j a b c d k. meets_down n u i j a b c d k);
        turned = λ e. has_node first f t z lived;
      }
