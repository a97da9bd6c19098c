-- From one side to the same one after some patches, numbers and children: what nodes and children of both outputs keep.
use Rattle.std.proofs.Common.{ℕ, ◌≤◌, ◌<◌, true, ◌&&◌, List, [], ◌∷◌, ◌++◌, ◌≡◌, inl, inr, refl, sym, ap, ◌∙◌, subst, arith}
use Rattle.std.specs.Prelude.{Option, Some, None}
use Rattle.rt_model.specs.Tree.{Types, VComponent, Own, Root, Fragment, ErrorBoundary, SuspenseBoundary, Tree, Place, same_place, Kind, same_kind, Spot, node_at, component_at, spots}
use Rattle.rt_model.specs.World.{Application}
use Rattle.rt_model.specs.Laws.{IsLawful}
use Rattle.rt_model.specs.Values.{is_same_component}
use Rattle.rt_model.specs.State.{Side}
use Rattle.rt_model.specs.Run.{child_at, has_node, component_in, spots_of, kept_numbers, is_fed}
use Rattle.rt_model.specs.Heard.{number_at}
use Rattle.rt_model.proofs.Maps.{by_test, pick_true, pick_false}
use Rattle.rt_model.proofs.Among.{Among, among_push}
use Rattle.rt_model.proofs.SamePlaces.{same_place-true, same_kind-true}
use Rattle.rt_model.proofs.Conjunctions.{and-left, and-right}
use Rattle.rt_model.proofs.Places.{Distinct, spots_distinct}
use Rattle.rt_model.proofs.Agendas.{found_node}
use Rattle.law_moves.proofs.Lists.{component_is, kept_at, kept_fed}
use Rattle.law_moves.proofs.Made.{kid_stays}
use Rattle.law_headline.proofs.Did.{renewed}

module _ {K : Types} where
  -- a place that the new tree has keeps its number
  kept_same : (new : List (Spot K)) (es : List (Place × Kind × ℕ)) (p : Place) (k : Kind) → has_node new p k ≡ true → number_at (kept_numbers new es) p k ≡ number_at es p k
  kept_same new [] p k h = refl
  kept_same new (e ∷ es) p k h =
      let kept : List (Place × Kind × ℕ) = kept_numbers new es in
      let tail : number_at kept p k ≡ number_at es p k = kept_same new es p k h in
      by_test (same_kind e.1 k && same_place e.0 p)
      (
      λ q.
      let place : e.0 ≡ p = same_place-true e.0 p (and-right (same_kind e.1 k) (same_place e.0 p) q) in
      let kind : e.1 ≡ k = same_kind-true e.1 k (and-left (same_kind e.1 k) (same_place e.0 p) q) in
      let stays : has_node new e.0 e.1 ≡ true = ap (λ (z : Place). has_node new z e.1) place ∙ ap (λ (z : Kind). has_node new p z) kind ∙ h in
      ap (λ (xs : List (Place × Kind × ℕ)). number_at xs p k) (pick_true (e ∷ kept) kept stays)
      ∙ pick_true e.2 (number_at kept p k) q
      ∙ sym (pick_true e.2 (number_at es p k) q)
      )
      (
      λ q.
      by_test (has_node new e.0 e.1)
      (
      λ r.
      ap (λ (xs : List (Place × Kind × ℕ)). number_at xs p k) (pick_true (e ∷ kept) kept r)
      ∙ pick_false e.2 (number_at kept p k) q
      ∙ tail
      ∙ sym (pick_false e.2 (number_at es p k) q)
      )
      (λ r. ap (λ (xs : List (Place × Kind × ℕ)). number_at xs p k) (pick_false (e ∷ kept) kept r) ∙ tail ∙ sym (pick_false e.2 (number_at es p k) q))
      )

-- a place that has a number keeps it after a further entry
number_stays : (es : List (Place × Kind × ℕ)) (f : Place × Kind × ℕ) (p : Place) (k : Kind) → 0 < number_at es p k → number_at (es ++ f ∷ []) p k ≡ number_at es p k
number_stays [] f p k h = absurd (omega (arith, h))
number_stays (e ∷ es) f p k h =
    by_test (same_kind e.1 k && same_place e.0 p)
    (λ q. pick_true e.2 (number_at (es ++ f ∷ []) p k) q ∙ sym (pick_true e.2 (number_at es p k) q))
    (
    λ q.
    let tail : 0 < number_at es p k = subst (λ (n : ℕ). 0 < n) (pick_false e.2 (number_at es p k) q) h in
    pick_false e.2 (number_at (es ++ f ∷ []) p k) q ∙ number_stays es f p k tail ∙ sym (pick_false e.2 (number_at es p k) q)
    )

module _ {K : Types} (app : Application K) (lawful : IsLawful K app) where
  component_same : (c : VComponent K) → is_same_component app c c ≡ true
  component_same (Own a p) = lawful.tests_components.1 a
  component_same (Root a p) = refl
  component_same (Fragment t) = refl
  component_same (ErrorBoundary t h) = refl
  component_same (SuspenseBoundary t f) = refl

  spots_apart : (o : Option (Tree K)) → Distinct (spots_of o)
  spots_apart None = tt
  spots_apart (Some tree) = spots_distinct [] tree

  one_component : (o : Option (Tree K)) (p : Place) (c d : VComponent K) → Among (spots_of o) (component_at p c) → Among (spots_of o) (component_at p d) → c ≡ d
  one_component o p c d f g =
      let a : component_in (spots_of o) p ≡ Some c = component_is (spots_of o) p c (spots_apart o) f in
      let e : component_in (spots_of o) p ≡ Some d = component_is (spots_of o) p d (spots_apart o) g in
      let same : Some c ≡ Some d = sym a ∙ e in
      cc

  -- of two components at one place, whether the second is fed to the first one's scope
  fed_is : (o p : Option (Tree K)) (q : Place) (c d : VComponent K) → Among (spots_of p) (component_at q c) → Among (spots_of o) (component_at q d)
      → is_fed app (component_in (spots_of o) q) (component_in (spots_of p) q) ≡ is_same_component app d c
  fed_is o p q c d f g =
      ap (λ (z : Option (VComponent K)). is_fed app z (component_in (spots_of p) q)) (component_is (spots_of o) q d (spots_apart o) g)
      ∙ ap (λ (z : Option (VComponent K)). is_fed app (Some d) z) (component_is (spots_of p) q c (spots_apart p) f)

  -- from old to new: nodes of both keep their numbers, children that are fed stay; a child with a number below the limit was fed
  pub record Link (limit : ℕ) (old new : Side K) : Type 0 where
    pub nodes : (p : Place) (k : Kind) → Among (spots_of old.output) (node_at p k) → Among (spots_of new.output) (node_at p k) → number_at new.numbers p k ≡ number_at old.numbers p k
    pub kids :
        (p : Place) (c d : VComponent K) → Among (spots_of new.output) (component_at p c) → Among (spots_of old.output) (component_at p d) → is_same_component app d c ≡ true
        → child_at new.children p ≡ child_at old.children p
    pub feeds :
        (p : Place) (u : ℕ) (c d : VComponent K) → Among new.children (p, u) → u < limit → Among (spots_of new.output) (component_at p c) → Among (spots_of old.output) (component_at p d)
        → is_same_component app d c ≡ true

  pub link_same : (limit : ℕ) (old new : Side K) → new ≡ old → Link limit old new
  link_same limit old new same =
      subst (λ (z : Side K). Link limit old z) (sym same)
      (record {
        nodes = λ p k f g. refl;
        kids = λ p c d f g e. refl;
        feeds = λ p u c d i low f g. ap (λ (z : VComponent K). is_same_component app z c) (one_component old.output p d c g f) ∙ component_same c;
      })

  pub link_patch : (limit : ℕ) (was : Side K) (tree : Tree K) → Link limit was (renewed app was tree)
  link_patch limit was tree =
      record {
        nodes = λ p k f g. kept_same (spots [] tree) was.numbers p k (found_node (spots [] tree) p k g);
        kids = λ p c d f g e. kept_at app (spots_of was.output) (spots [] tree) was.children p (fed_is was.output (Some tree) p c d f g ∙ e);
        feeds = λ p u c d i low f g. sym (fed_is was.output (Some tree) p c d f g) ∙ kept_fed app (spots_of was.output) (spots [] tree) was.children (p, u) i;
      }

  -- a number is drawn, where each node of the old output had one
  pub link_number : (limit : ℕ) (old new : Side K) (e : Place × Kind × ℕ) → ((p : Place) (k : Kind) → Among (spots_of old.output) (node_at p k) → 0 < number_at old.numbers p k) → Link limit old new
      → Link limit old (record new { numbers = new.numbers ++ e ∷ [] })
  link_number limit old new e had h =
      record {
        nodes =
            λ p k f g.
            let same : number_at new.numbers p k ≡ number_at old.numbers p k = h.nodes p k f g in
            number_stays new.numbers e p k (subst (λ (n : ℕ). 0 < n) (sym same) (had p k f)) ∙ same;
        kids = h.kids;
        feeds = h.feeds;
      }

  -- a new child comes, where each component of the old output had one
  pub link_child : (limit : ℕ) (old new : Side K) (p : Place) (n : ℕ) → limit ≤ n → ((q : Place) (d : VComponent K) → Among (spots_of old.output) (component_at q d) → (t : ℕ) × (child_at old.children q ≡ Some t)) → Link limit old new
      → Link limit old (record new { children = new.children ++ (p, n) ∷ [] })
  link_child limit old new p n high had h =
      record {
        nodes = h.nodes;
        kids =
            λ q c d f g e.
            let same : child_at new.children q ≡ child_at old.children q = h.kids q c d f g e in
            let t = had q d g in
            kid_stays new.children (p, n) q t.0 (same ∙ t.1) ∙ sym t.1;
        feeds = λ q u c d i low f g. elim (among_push new.children (p, n) (q, u) i) [ inl j ↦ h.feeds q u c d j low f g | inr j ↦ (let same : u ≡ n = ap (λ (z : Place × ℕ). z.1) j in absurd (omega (arith, same, low, high))) ];
      }
