-- The state at which a unit ends: no attribute slot has a name twice, and live children know their parents.
use Rattle.std.proofs.Common.{ℕ, List, [], ◌≡◌, refl, sym, ap, ◌∙◌, subst}
use Rattle.std.specs.Prelude.{Option, Some, None, is_some}
use Rattle.rt_lemmas.proofs.Bools.{clash_back as not_live, first_of as either}
use Rattle.rt_model.specs.Lists.{at}
use Rattle.rt_model.specs.Tree.{Types, Place, node_at, spots}
use Rattle.rt_model.specs.World.{Application}
use Rattle.rt_model.specs.Laws.{IsLawful}
use Rattle.rt_model.specs.State.{SideName, Scope, State, Item, is_live, parent_of, side_of}
use Rattle.rt_model.specs.Run.{child_at}
use Rattle.rt_model.specs.Replay.{Input, Machine}
use Rattle.rt_model.specs.Causes.{Limits}
use Rattle.rt_model.specs.Lasting.{IsRooted}
use Rattle.rt_model.proofs.Among.{among_contained}
use Rattle.rt_model.proofs.FitsSingle.{well_numbered_single}
use Rattle.rt_model.proofs.NumbersStand.{child_among}
use Rattle.rt_model.proofs.Stands.{Stands}
use Rattle.rt_model.proofs.WellNumbered.{WellNumbered}
use Rattle.law_moves.specs.Reached.{Reached}
use Rattle.law_moves.proofs.Everywhere.{reached_ready}
use Rattle.run_shown.specs.Touched.{KnowParents}
use Rattle.run_standing.specs.Orderly.{IsOrderly}

module _ {K : Types} where
  -- what stands beside no work is well numbered
  well_numbered : (w : State K) → IsRooted w → Stands w [] → WellNumbered w
  well_numbered w r h =
      record {
        positive = λ s n x a p k e g. (h.range s n x a p k e (among_contained (side_of x a).numbers (p, k, n) g)).0;
        once = λ s t n x y a b p q k l e f g i. h.once s t n x y a b p q k l e f (among_contained (side_of x a).numbers (p, k, n) g) (among_contained (side_of y b).numbers (q, l, n) i);
        whole = λ s x a tree p k e o g. either (h.whole s x a tree p k e o (among_contained (spots [] tree) (node_at p k) g));
        fit = h.fit;
        child = λ s t x y a p e g f. let c = h.child s t x y a p e (child_among (side_of x a).children p t g) f in (c.0, c.1, r.heights t s y x f c.0 e);
        slot = λ s t x a p q e g i. h.slot s t x a p q e (child_among (side_of x a).children p t g) (child_among (side_of x a).children q t i);
      }

  know_parents : (w : State K) (work : List (Item K)) → Stands w work → KnowParents w
  know_parents w work h s t x a p found kid live = known (at w.scopes t) refl
    where
      known : (o : Option (Scope K)) → at w.scopes t ≡ o → parent_of w.scopes t ≡ Some s
      known None is = not_live (is_live w t) (ap (λ (o : Option (Scope K)). is_some o) is) live
      known (Some y) is =
          ap (λ (o : Option (Scope K)). elim o as (λ z. Option ℕ) [ None ↦ None | Some z ↦ z.parent ]) is ∙ (h.child s t x y a p found (child_among (side_of x a).children p t kid) is).0

-- so it is with each machine that is reached, while nothing is at work
pub orderly_reached : {K : Types} (app : Application K) → IsLawful K app → (limits : Limits) (props : K.Props) (inputs : List (Input K)) (m : Machine K)
    → Reached app limits props inputs m → m.dead ≡ None → m.work ≡ [] → IsOrderly m.state
orderly_reached {K = K} app lawful limits props inputs m reached alive idle =
    let ready = reached_ready app lawful limits props inputs m reached in
    let stands : Stands m.state [] = subst (λ (items : List (Item K)). Stands m.state items) idle ((ready.sound).stands alive) in
    record { single = well_numbered_single m.state (well_numbered m.state (ready.sound).rooted stands); know = know_parents m.state [] stands }
