-- What a walk has found after events, part by part, and after the events of two trees.
use Rattle.std.proofs.Common.{ℕ, ◌+◌, List, [], ◌∷◌, ◌++◌, ◌≡◌, length, map, refl, sym, ap, ◌∙◌, subst, append-nil}
use Rattle.std.specs.Prelude.{Some, slice_get}
use Rattle.rt_lemmas.proofs.Lists.{one_longer, append_append as joined}
use Rattle.rt_model.specs.Tree.{Types, VComponent, Tree, Place, Kind, Spot, spots}
use Rattle.rt_model.specs.World.{Application}
use Rattle.rt_model.specs.Values.{is_same_component}
use Rattle.rt_model.specs.Run.{child_at, drop_at, is_fed, serves, drops_of}
use Rattle.rt_model.proofs.Places.{Distinct, spots_distinct}
use Rattle.run_places.specs.Drawn.{NodesFollow, SeatsFollow, nodes_in, seats_in}
use Rattle.run_work.specs.After.{Ground, Out, after, goes_to, nothing_yet, one}
use Rattle.run_work.specs.Events.{Event, stays, goes, comes, fed, left, made, come, pairing}
use Rattle.run_work.proofs.Flats.{flat, old_in, new_in}
use Rattle.run_work.proofs.Branches.{AllIn}
use Rattle.run_work.proofs.EventSpots.{come-old, come-new, pairing-old, pairing-new}
use Rattle.run_work.proofs.Matched.{come-matched, pairing-matched}
use Rattle.run_work.proofs.Agreed.{IsAgreed, all-agreed, agreed-drops, agreed-work, drop_in, work_in}
use Rattle.run_work.proofs.Followed.{each_known, followed, nodes_follow, seat_goes, seats_follow}

module _ {K : Types} where
  pub after-append : (g : Ground K) (es fs : List (Event K)) (o : Out K) → after g (es ++ fs) o ≡ after g fs (after g es o)
  after-append g [] fs o = refl
  after-append g (e ∷ es) fs o = after-append g es fs (one g e o)

  after_work : (g : Ground K) (es : List (Event K)) (o : Out K) → (after g es o).work ≡ o.work ++ flat (work_in g.scope g.side) es
  after_work g [] o = sym (append-nil o.work)
  after_work g (stays p k ∷ es) o = after_work g es (one g (stays p k) o)
  after_work g (goes p k ∷ es) o = after_work g es o
  after_work g (comes p k ∷ es) o = after_work g es (one g (comes p k) o) ∙ joined o.work (work_in g.scope g.side (comes p k)) (flat (work_in g.scope g.side) es)
  after_work g (fed p c d ∷ es) o = after_work g es (one g (fed p c d) o) ∙ joined o.work (work_in g.scope g.side (fed p c d)) (flat (work_in g.scope g.side) es)
  after_work g (left p c ∷ es) o = after_work g es (one g (left p c) o)
  after_work g (made p d ∷ es) o = after_work g es (one g (made p d) o) ∙ joined o.work (work_in g.scope g.side (made p d)) (flat (work_in g.scope g.side) es)

  after_drops : (g : Ground K) (es : List (Event K)) (o : Out K) → (after g es o).drops ≡ o.drops ++ flat (drop_in g.scope g.side g.children) es
  after_drops g [] o = sym (append-nil o.drops)
  after_drops g (stays p k ∷ es) o = after_drops g es (one g (stays p k) o)
  after_drops g (goes p k ∷ es) o = after_drops g es o
  after_drops g (comes p k ∷ es) o = after_drops g es (one g (comes p k) o)
  after_drops g (fed p c d ∷ es) o = after_drops g es (one g (fed p c d) o)
  after_drops g (left p c ∷ es) o = after_drops g es (one g (left p c) o) ∙ joined o.drops (drop_at g.scope g.side (child_at g.children p)) (flat (drop_in g.scope g.side g.children) es)
  after_drops g (made p d ∷ es) o = after_drops g es (one g (made p d) o)

  after_nodes : (g : Ground K) (es : List (Event K)) (o : Out K) → (after g es o).nodes ≡ o.nodes ++ nodes_in (flat new_in es)
  after_nodes g [] o = sym (append-nil o.nodes)
  after_nodes g (stays p k ∷ es) o = after_nodes g es (one g (stays p k) o) ∙ joined o.nodes ((p, k) ∷ []) (nodes_in (flat new_in es))
  after_nodes g (goes p k ∷ es) o = after_nodes g es o
  after_nodes g (comes p k ∷ es) o = after_nodes g es (one g (comes p k) o) ∙ joined o.nodes ((p, k) ∷ []) (nodes_in (flat new_in es))
  after_nodes g (fed p c d ∷ es) o = after_nodes g es (one g (fed p c d) o)
  after_nodes g (left p c ∷ es) o = after_nodes g es (one g (left p c) o)
  after_nodes g (made p d ∷ es) o = after_nodes g es (one g (made p d) o)

  after_seats : (g : Ground K) (es : List (Event K)) (o : Out K) → (after g es o).seats ≡ o.seats ++ seats_in (flat new_in es)
  after_seats g [] o = sym (append-nil o.seats)
  after_seats g (stays p k ∷ es) o = after_seats g es (one g (stays p k) o)
  after_seats g (goes p k ∷ es) o = after_seats g es o
  after_seats g (comes p k ∷ es) o = after_seats g es (one g (comes p k) o)
  after_seats g (fed p c d ∷ es) o = after_seats g es (one g (fed p c d) o) ∙ joined o.seats (p ∷ []) (seats_in (flat new_in es))
  after_seats g (left p c ∷ es) o = after_seats g es (one g (left p c) o)
  after_seats g (made p d ∷ es) o = after_seats g es (one g (made p d) o) ∙ joined o.seats (p ∷ []) (seats_in (flat new_in es))

  after_nodes_to : (g : Ground K) (es : List (Event K)) (o : Out K)
      → (after g es o).nodes_to ≡ followed (each_known (λ (q : Place × Kind). g.node_known q.0 q.1) (nodes_in (flat new_in es))) (length o.nodes) o.nodes_to
  after_nodes_to g [] o = refl
  after_nodes_to g (stays p k ∷ es) o =
      after_nodes_to g es (one g (stays p k) o)
      ∙ ap (λ n. followed (each_known (λ (q : Place × Kind). g.node_known q.0 q.1) (nodes_in (flat new_in es))) n (goes_to o.nodes_to (g.node_known p k) (length o.nodes))) (one_longer o.nodes (p, k))
  after_nodes_to g (goes p k ∷ es) o = after_nodes_to g es o
  after_nodes_to g (comes p k ∷ es) o =
      after_nodes_to g es (one g (comes p k) o)
      ∙ ap (λ n. followed (each_known (λ (q : Place × Kind). g.node_known q.0 q.1) (nodes_in (flat new_in es))) n (goes_to o.nodes_to (g.node_known p k) (length o.nodes))) (one_longer o.nodes (p, k))
  after_nodes_to g (fed p c d ∷ es) o = after_nodes_to g es (one g (fed p c d) o)
  after_nodes_to g (left p c ∷ es) o = after_nodes_to g es (one g (left p c) o)
  after_nodes_to g (made p d ∷ es) o = after_nodes_to g es (one g (made p d) o)

  after_seats_to : (g : Ground K) (es : List (Event K)) (o : Out K) → (after g es o).seats_to ≡ followed (flat (seat_goes g.seat_known) es) (length o.seats) o.seats_to
  after_seats_to g [] o = refl
  after_seats_to g (stays p k ∷ es) o = after_seats_to g es (one g (stays p k) o)
  after_seats_to g (goes p k ∷ es) o = after_seats_to g es o
  after_seats_to g (comes p k ∷ es) o = after_seats_to g es (one g (comes p k) o)
  after_seats_to g (fed p c d ∷ es) o =
      after_seats_to g es (one g (fed p c d) o) ∙ ap (λ n. followed (flat (seat_goes g.seat_known) es) n (goes_to o.seats_to (g.seat_known p) (length o.seats))) (one_longer o.seats p)
  after_seats_to g (left p c ∷ es) o = after_seats_to g es (one g (left p c) o)
  after_seats_to g (made p d ∷ es) o =
      after_seats_to g es (one g (made p d) o) ∙ ap (λ n. followed (flat (seat_goes g.seat_known) es) n o.seats_to) (one_longer o.seats p)

  -- what a walk over these events finds is what the definitions say of their spots
  pub record Finds (app : Application K) (g : Ground K) (nodes : List (Place × Kind)) (seats : List Place) (olds news : List (Spot K)) (o : Out K) : Type 0 where
    pub work : o.work ≡ serves app g.scope g.side olds news
    pub drops : o.drops ≡ drops_of app g.scope g.side news g.children olds
    pub all_nodes : o.nodes ≡ nodes_in news
    pub all_seats : o.seats ≡ seats_in news
    pub nodes_to : NodesFollow nodes news o.nodes_to
    pub seats_to : SeatsFollow (λ c d. is_fed app c d) seats olds news o.seats_to

  module _ (app : Application K) (g : Ground K) (nodes : List (Place × Kind)) (seats : List Place)
      (node_sound : (p : Place) (k : Kind) (i : ℕ) → g.node_known p k ≡ Some i → slice_get nodes i ≡ Some (p, k))
      (node_whole : (p : Place) (k : Kind) (i : ℕ) → slice_get nodes i ≡ Some (p, k) → g.node_known p k ≡ Some i)
      (seat_sound : (p : Place) (i : ℕ) → g.seat_known p ≡ Some i → slice_get seats i ≡ Some p)
      (seat_whole : (p : Place) (i : ℕ) → slice_get seats i ≡ Some p → g.seat_known p ≡ Some i) where
    found_by : (es : List (Event K)) → AllIn (IsAgreed app (flat old_in es) (flat new_in es)) es
        → Finds app g nodes seats (flat old_in es) (flat new_in es) (after g es (nothing_yet (length nodes) (length seats)))
    found_by es agreed = record {
      work = after_work g es (nothing_yet (length nodes) (length seats)) ∙ agreed-work app g.scope g.side (flat old_in es) (flat new_in es) es agreed;
      drops = after_drops g es (nothing_yet (length nodes) (length seats)) ∙ agreed-drops app g.scope g.side (flat old_in es) (flat new_in es) g.children es agreed;
      all_nodes = after_nodes g es (nothing_yet (length nodes) (length seats));
      all_seats = after_seats g es (nothing_yet (length nodes) (length seats));
      nodes_to = subst (λ to. NodesFollow nodes (flat new_in es) to) (sym (after_nodes_to g es (nothing_yet (length nodes) (length seats)))) (nodes_follow nodes (flat new_in es) g.node_known node_sound node_whole);
      seats_to = subst (λ to. SeatsFollow (λ c d. is_fed app c d) seats (flat old_in es) (flat new_in es) to) (sym (after_seats_to g es (nothing_yet (length nodes) (length seats)))) (seats_follow app seats es g.seat_known seat_sound seat_whole agreed);
    }

    -- of an old tree and a new one
    pub pair_finds : (x y : Tree K) → Finds app g nodes seats (spots [] x) (spots [] y) (after g (pairing (λ c d. is_same_component app c d) x y []) (nothing_yet (length nodes) (length seats)))
    pair_finds x y =
        let alike : VComponent K → VComponent K → _ = λ c d. is_same_component app c d in
        let es : List (Event K) = pairing alike x y [] in
        let olds : flat old_in es ≡ spots [] x = pairing-old alike x y [] in
        let news : flat new_in es ≡ spots [] y = pairing-new alike x y [] in
        subst (λ ss. Finds app g nodes seats ss (spots [] y) (after g es (nothing_yet (length nodes) (length seats)))) olds
        (subst (λ ss. Finds app g nodes seats (flat old_in es) ss (after g es (nothing_yet (length nodes) (length seats)))) news
        (found_by es (all-agreed app es (pairing-matched alike x y []) (subst (λ ss. Distinct ss) (sym olds) (spots_distinct [] x)) (subst (λ ss. Distinct ss) (sym news) (spots_distinct [] y)))))

    -- of a first tree
    pub come_finds : (y : Tree K) → Finds app g nodes seats [] (spots [] y) (after g (map come (spots [] y)) (nothing_yet (length nodes) (length seats)))
    come_finds y =
        let es : List (Event K) = map come (spots [] y) in
        let olds : flat old_in es ≡ [] = come-old (spots [] y) in
        let news : flat new_in es ≡ spots [] y = come-new (spots [] y) in
        subst (λ ss. Finds app g nodes seats ss (spots [] y) (after g es (nothing_yet (length nodes) (length seats)))) olds
        (subst (λ ss. Finds app g nodes seats (flat old_in es) ss (after g es (nothing_yet (length nodes) (length seats)))) news
        (found_by es (all-agreed app es (come-matched (λ c d. is_same_component app c d) (spots [] y)) (subst (λ ss. Distinct ss) (sym olds) tt) (subst (λ ss. Distinct ss) (sym news) (spots_distinct [] y)))))
