-- Once the build has begun and no work is open: what stands, what each scope shows, and that no number stands twice.
use Rattle.std.proofs.Common.{ℕ, List, [], ◌∷◌, ◌≡◌, ◌⊎◌, inl, inr, refl, sym, ap, ◌∙◌, subst, true}
use Rattle.std.specs.Prelude.{Option, None, Some, Contains}
use Rattle.rt_model.specs.Lists.{at}
use Rattle.rt_model.specs.Tree.{Types, Tree, Place, VComponent, Spot, spots, node_at, component_at}
use Rattle.rt_model.specs.World.{Application}
use Rattle.rt_model.specs.Laws.{IsLawful}
use Rattle.rt_model.specs.State.{SideName, Side, Scope, State, Item, side_of}
use Rattle.rt_model.specs.Run.{child_at, spots_of}
use Rattle.rt_model.specs.View.{view}
use Rattle.rt_model.specs.Once.{NumbersOnce}
use Rattle.rt_model.specs.Replay.{Input, Machine}
use Rattle.rt_model.specs.Causes.{Limits}
use Rattle.rt_model.proofs.Among.{Among, among_contained}
use Rattle.rt_model.proofs.SamePlaces.{contains_here, contains_later}
use Rattle.rt_model.proofs.WellNumbered.{WellNumbered}
use Rattle.rt_model.proofs.ViewOnce.{well_numbered_once, well_numbered_positive}
use Rattle.rt_model.proofs.NumbersStand.{child_among}
use Rattle.rt_model.proofs.Stands.{Stands}
use Rattle.law_moves.specs.Reached.{Reached}
use Rattle.law_moves.proofs.Twigs.{kids, side_at, bare, up_found, below_found, side_found, found_live, HasSlot}
use Rattle.law_moves.proofs.Woven.{InSlot, idle_whole}
use Rattle.law_moves.proofs.Everywhere.{reached_ready}
use Rattle.law_headline.proofs.Unfolding.{tree_unfolds}
use Rattle.law_moves.specs.Trees.{StandsOnce}
use Rattle.law_headline.specs.Standing.{ReachedHaveOneRoot, ReachedUnfold, SettledHaveChildren, SettledStandOnce, SettledShowSides, SettledShowNodes, SettledNumberOnce}
use Rattle.law_headline.proofs.Steps.{Ready, ready_of}
use Rattle.law_headline.proofs.Did.{same_scope}
use Rattle.law_headline.proofs.Trees.{Topped, ready_tree, reached_topped, reached_are_trees}
use Rattle.law_headline.proofs.Clothed.{Clothed, reached_clothed}
use Rattle.law_headline.proofs.Nodes.{Shown, Settled, shown_of, kid_of, has_node}

pub contained : {A : Type 0} (xs : List A) (x : A) → Among xs x → Contains xs x
contained [] x h = absurd h
contained (y ∷ xs) x (inl e) = subst (λ (z : _). Contains (y ∷ xs) z) e (contains_here y xs)
contained (y ∷ xs) x (inr h) = contains_later y xs x (contained xs x h)

module _ {K : Types} (w : State K) (h : Settled w) where
  -- a scope that has a parent stands once at a component of an output of the parent's
  stood_once : (t s : ℕ) (y : Scope K) → at w.scopes t ≡ Some y → y.parent ≡ Some s → (x : Scope K) × (at w.scopes s ≡ Some x) × StandsOnce w s x y.below t
  stood_once t s y found parent =
      let told = (idle_whole w h.ready.woven).attached t s (up_found w t y found ∙ parent) in
      let x = found_live (at w.scopes s) told.0 in
      (x.0, x.1, elim told.1 [ inl slot ↦ by_slot x.0 x.1 slot | inr drop ↦ absurd drop.1 ])
    where
      by_slot : (x : Scope K) → at w.scopes s ≡ Some x → InSlot w t s → StandsOnce w s x y.below t
      by_slot x there slot =
          let below : slot.side ≡ y.below = some_side slot.side y.below (sym slot.below_is ∙ below_found w t y found) in
          let side : side_at w s y.below ≡ bare (side_of x y.below) = side_found w s y.below x there in
          let kid : child_at (side_of x y.below).children slot.place ≡ Some t =
          ap (λ (i : Side K). child_at i.children slot.place) (sym side) ∙ subst (λ (a : SideName). child_at (kids w s a) slot.place ≡ Some t) below slot.kid in
          let has : HasSlot w s y.below slot.place = subst (λ (a : SideName). HasSlot w s a slot.place) below slot.slot in
          by_output x (side_of x y.below).output refl slot.place kid has.0
          (subst (λ (ss : List (Spot K)). Among ss (component_at slot.place has.0)) (ap (λ (i : Side K). spots_of i.output) side) has.1) there
        where
          some_side : (a b : SideName) → Some a ≡ Some b → a ≡ b
          some_side a b e = cc

          some_number : (r s : ℕ) → Some r ≡ Some s → r ≡ s
          some_number r s e = cc

          by_output : (x : Scope K) (o : Option (Tree K)) → (side_of x y.below).output ≡ o → (place : Place) → child_at (side_of x y.below).children place ≡ Some t
              → (c : VComponent K) → Among (spots_of (side_of x y.below).output) (component_at place c) → at w.scopes s ≡ Some x → StandsOnce w s x y.below t
          by_output x None is place kid c g there = absurd (subst (λ (o : Option (Tree K)). Among (spots_of o) (component_at place c)) is g)
          by_output x (Some tree) is place kid c g there =
              record {
                tree = tree;
                place = place;
                component = c;
                output = is;
                slot = contained (spots [] tree) (component_at place c) (subst (λ (o : Option (Tree K)). Among (spots_of o) (component_at place c)) is g);
                kid = kid;
                once =
                    λ r z b q e f.
                    let told = (h.ready.stands).child r t z y b q e (child_among (side_of z b).children q t f) found in
                    let up : r ≡ s = some_number r s (sym told.0 ∙ parent) in
                    let same : z ≡ x = same_scope z x (sym e ∙ ap (λ (i : ℕ). at w.scopes i) up ∙ there) in
                    let side : b ≡ y.below = sym told.1 in
                    let here : child_at (side_of x y.below).children q ≡ Some t = subst (λ (a : SideName). child_at (side_of x a).children q ≡ Some t) side (subst (λ (i : Scope K). child_at (side_of i b).children q ≡ Some t) same f) in
                    (up, side, (h.ready.stands).slot s t x y.below q place there (child_among (side_of x y.below).children q t here) (child_among (side_of x y.below).children place t kid));
              }

module _ {K : Types} (app : Application K) (lawful : IsLawful K app) where
  -- where no work is open once the build has begun
  pub settled_of : (limits : Limits) (props : K.Props) (inputs : List (Input K)) (m : Machine K) → Reached app limits props inputs m → m.dead ≡ None → m.built ≡ true → m.work ≡ [] → Settled m.state
  settled_of limits props inputs m reached alive built idle =
      let ready : Ready m.state m.work = ready_of app lawful m (reached_ready app lawful limits props inputs m reached) alive in
      let topped : Topped m.state m.work = reached_topped app lawful limits props inputs m reached alive in
      let clothed : Clothed m.state m.work = reached_clothed app lawful limits props inputs m reached alive built in
      record {
        ready = subst (λ (xs : List (Item K)). Ready m.state xs) idle ready;
        tree = ready_tree app lawful m.state m.work ready topped;
        clothed = subst (λ (xs : List (Item K)). Clothed m.state xs) idle clothed;
        topped = topped;
      }

  -- no number stands twice in the document of such a state
  pub settled_once : (w : State K) → Settled w → NumbersOnce (view w)
  settled_once w h = record { once = well_numbered_once w numbered; none_is_0 = well_numbered_positive w numbered }
    where
      first_of : {P Q : Type 0} → P ⊎ Q → (Q → ⊥) → P
      first_of (inl p) f = p
      first_of (inr q) f = absurd (f q)

      numbered : WellNumbered w
      numbered =
          let st : Stands w [] = h.ready.stands in
          record {
            positive = λ s n x a p k e g. (st.range s n x a p k e (among_contained (side_of x a).numbers (p, k, n) g)).0;
            once = λ s t n x y a b p q k l e f g i. st.once s t n x y a b p q k l e f (among_contained (side_of x a).numbers (p, k, n) g) (among_contained (side_of y b).numbers (q, l, n) i);
            whole = λ s x a tree p k e o g. first_of (st.whole s x a tree p k e o (among_contained (spots [] tree) (node_at p k) g)) (λ i. i);
            fit = st.fit;
            child =
                λ s t x y a p e g f.
                let c = st.child s t x y a p e (child_among (side_of x a).children p t g) f in
                (c.0, c.1, (h.ready.rooted).heights t s y x f c.0 e);
            slot = λ s t x a p q e g i. st.slot s t x a p q e (child_among (side_of x a).children p t g) (child_among (side_of x a).children q t i);
          }

module _ {K : Types} (app : Application K) where
  pub reached_unfold : ReachedUnfold app
  reached_unfold lawful limits props inputs m reached alive = tree_unfolds m.state (reached_are_trees app lawful limits props inputs m reached alive)

  pub settled_show_sides : SettledShowSides app
  settled_show_sides lawful limits props inputs m reached alive built idle s x found =
      let d : Shown x = shown_of m.state (settled_of app lawful limits props inputs m reached alive built idle) s x found in
      (d.side, d.tree, d.shows, d.output)

  pub settled_show_nodes : SettledShowNodes app
  settled_show_nodes lawful limits props inputs m reached alive built idle s x found = has_node m.state (settled_of app lawful limits props inputs m reached alive built idle) s x found

  pub settled_number_once : SettledNumberOnce app
  settled_number_once lawful limits props inputs m reached alive built idle = settled_once app lawful m.state (settled_of app lawful limits props inputs m reached alive built idle)

  pub reached_have_one_root : ReachedHaveOneRoot app
  reached_have_one_root lawful limits props inputs m reached alive s x found none = (reached_topped app lawful limits props inputs m reached alive s x found none).1

  pub settled_have_children : SettledHaveChildren app
  settled_have_children lawful limits props inputs m reached alive built idle s x a tree p c found output g =
      kid_of m.state (settled_of app lawful limits props inputs m reached alive built idle) s x a tree p c found output (among_contained (spots [] tree) (component_at p c) g)

  pub settled_stand_once : SettledStandOnce app
  settled_stand_once lawful limits props inputs m reached alive built idle t s y found parent =
      stood_once m.state (settled_of app lawful limits props inputs m reached alive built idle) t s y found parent
