-- What is kept of a full old block is what stays.
use Rattle.std.proofs.Common.{ℕ, Bool, true, false, ◌&&◌, ◌||◌, List, [], ◌∷◌, ◌≡◌, inl, inr, refl, sym, ap, subst, ◌∙◌}
use Rattle.std.specs.Prelude.{Option, None, Some}
use Rattle.std.proofs.lemmas.Bool.{true≢false}
use Rattle.tree_nodes.specs.declared.vnode.VNode.{VNode}
use Rattle.rt_model.specs.OneLog.{types}
use Rattle.rt_model.specs.Run.{child_at, component_in, has_node, is_fed, kept_children, kept_numbers, spots_of}
use Rattle.rt_model.specs.Tree.{Types, Place, same_place, Kind, same_kind, Tree, VComponent, Spot, component_at, spots}
use Rattle.rt_model.specs.Values.{is_same_component}
use Rattle.rt_model.specs.World.{Application}
use Rattle.rt_model.proofs.Among.{Among}
use Rattle.rt_model.proofs.Conjunctions.{and-left, and-right}
use Rattle.rt_model.proofs.Maps.{by_test, none_some, pick_false, pick_true}
use Rattle.rt_model.proofs.Places.{Distinct, spots_distinct}
use Rattle.rt_model.proofs.SamePlaces.{same_kind-true, same_place-true}
use Rattle.tree_marks.specs.Marks.{Mark, stays, goes, comes, fed, left, made, given, worded, slot_goes, tree_goes, slot_way, tree_way, come_in, go_out, lone, tree_marks}
use Rattle.tree_marks.specs.Spots.{brings}
use Rattle.tree_mirror.specs.Sealed.{tree_of}
use Rattle.run_places.specs.declared.side.Side.{Side}
use Rattle.run_places.specs.Places.{side_of}
use Rattle.run_work.specs.Events as event
use Rattle.run_work.specs.Events.{Event, pairing}
use Rattle.run_work.specs.Marked.{events_in}
use Rattle.run_work.proofs.Agreed.{IsAgreed, all-agreed, component-found}
use Rattle.run_work.proofs.Branches.{AllIn}
use Rattle.run_work.proofs.EventSpots.{pairing-new, pairing-old}
use Rattle.run_work.proofs.Eventful.{tree_events}
use Rattle.run_work.proofs.Flats.{flat, old_in, new_in}
use Rattle.run_work.proofs.Matched.{among-flat, pairing-matched}
use Rattle.law_patch.specs.Appended.{is_numbered}
use Rattle.law_patch.specs.Fresh.{all_fresh}
use Rattle.rt_tree.specs.declared.patch.Patch.{Patch}
use Rattle.rt_tree.specs.Plans.{KeepsBy}
use Rattle.law_served.specs.KnownSpots.{Each, KnownAt, StartsWith}
use Rattle.law_served.specs.RunWritten.{FreeAt}
use Rattle.law_served.specs.Starting.{IsFull}

module _ {K : Types} where
  -- a number whose place the new tree has is kept
  pub kept_numbered : (news : List (Spot K)) (numbers : List (Place × Kind × ℕ)) (p : Place) (k : Kind) → has_node news p k ≡ true → is_numbered numbers p k ≡ true
      → is_numbered (kept_numbers news numbers) p k ≡ true
  kept_numbered news [] p k here h = absurd (true≢false (sym h))
  kept_numbered news (e ∷ es) p k here h =
      by_test (has_node news e.0 e.1)
      (
      λ kept.
      ap (λ (xs : List (Place × Kind × ℕ)). is_numbered xs p k) (pick_true (e ∷ kept_numbers news es) (kept_numbers news es) kept)
      ∙ by_test (same_kind e.1 k && same_place e.0 p)
      (λ r. ap (λ (b : Bool). b || is_numbered (kept_numbers news es) p k) r)
      (λ r.
      ap (λ (b : Bool). b || is_numbered (kept_numbers news es) p k) r
      ∙ kept_numbered news es p k here (sym (ap (λ (b : Bool). b || is_numbered es p k) r) ∙ h))
      )
      (
      λ gone.
      ap (λ (xs : List (Place × Kind × ℕ)). is_numbered xs p k) (pick_false (e ∷ kept_numbers news es) (kept_numbers news es) gone)
      ∙ by_test (same_kind e.1 k && same_place e.0 p)
      (λ r.
      let kinds : e.1 ≡ k = same_kind-true e.1 k (and-left (same_kind e.1 k) (same_place e.0 p) r) in
      let places : e.0 ≡ p = same_place-true e.0 p (and-right (same_kind e.1 k) (same_place e.0 p) r) in
      absurd (true≢false (sym here ∙ (λ t. has_node news (sym places t) (sym kinds t)) ∙ gone)))
      (λ r. kept_numbered news es p k here (sym (ap (λ (b : Bool). b || is_numbered es p k) r) ∙ h))
      )

  module _ (app : Application K) (olds news : List (Spot K)) (p : Place) where
    -- a child scope that is fed is kept
    pub kept_child : (cs : List (Place × ℕ)) (t : ℕ) → is_fed app (component_in olds p) (component_in news p) ≡ true → child_at cs p ≡ Some t → child_at (kept_children app olds news cs) p ≡ Some t
    kept_child [] t kept_on h = none_some refl h
    kept_child (e ∷ es) t kept_on h =
        by_test (same_place e.0 p)
        (
        λ r.
        let places : e.0 ≡ p = same_place-true e.0 p r in
        let kept : is_fed app (component_in olds e.0) (component_in news e.0) ≡ true = (λ i. is_fed app (component_in olds (places i)) (component_in news (places i))) ∙ kept_on in
        ap (λ (xs : List (Place × ℕ)). child_at xs p) (pick_true (e ∷ kept_children app olds news es) (kept_children app olds news es) kept)
        ∙ pick_true (Some e.1) (child_at (kept_children app olds news es) p) r
        ∙ sym (pick_true (Some e.1) (child_at es p) r)
        ∙ h
        )
        (
        λ r.
        let later : child_at es p ≡ Some t = sym (pick_false (Some e.1) (child_at es p) r) ∙ h in
        by_test (is_fed app (component_in olds e.0) (component_in news e.0))
        (λ kept.
        ap (λ (xs : List (Place × ℕ)). child_at xs p) (pick_true (e ∷ kept_children app olds news es) (kept_children app olds news es) kept)
        ∙ pick_false (Some e.1) (child_at (kept_children app olds news es) p) r
        ∙ kept_child es t kept_on later)
        (λ gone.
        ap (λ (xs : List (Place × ℕ)). child_at xs p) (pick_false (e ∷ kept_children app olds news es) (kept_children app olds news es) gone)
        ∙ kept_child es t kept_on later)
        )

    -- where none is fed there is none
    kept_none : (cs : List (Place × ℕ)) → is_fed app (component_in olds p) (component_in news p) ≡ false → child_at (kept_children app olds news cs) p ≡ None
    kept_none [] not_fed = refl
    kept_none (e ∷ es) not_fed =
        by_test (is_fed app (component_in olds e.0) (component_in news e.0))
        (
        λ kept.
        ap (λ (xs : List (Place × ℕ)). child_at xs p) (pick_true (e ∷ kept_children app olds news es) (kept_children app olds news es) kept)
        ∙ by_test (same_place e.0 p)
        (λ r.
        let places : e.0 ≡ p = same_place-true e.0 p r in
        absurd (true≢false (sym kept ∙ (λ i. is_fed app (component_in olds (places i)) (component_in news (places i))) ∙ not_fed)))
        (λ r. pick_false (Some e.1) (child_at (kept_children app olds news es) p) r ∙ kept_none es not_fed)
        )
        (λ gone.
        ap (λ (xs : List (Place × ℕ)). child_at xs p) (pick_false (e ∷ kept_children app olds news es) (kept_children app olds news es) gone)
        ∙ kept_none es not_fed)

  -- what is fed has an old component
  pub fed_old : (app : Application K) (o n : Option (VComponent K)) → is_fed app o n ≡ true → (c : VComponent K) × (o ≡ Some c)
  fed_old app None n h = absurd (true≢false (sym h))
  fed_old app (Some c) n h = (c, refl)

module _ {P C Q V H T E L : Type 0} (app : Application (types C Q V H T E L)) (p : Patch P C Q V H T E L) (numbers : List (Place × Kind × ℕ)) (children : List (Place × ℕ))
    (olds news : List (Spot (types C Q V H T E L)))
    (kept : (side_of p.new.side).numbers ≡ kept_numbers news numbers) (kept_too : (side_of p.new.side).children ≡ kept_children app olds news children)
    (full : (q : Place) (k : Kind) → has_node olds q k ≡ true → is_numbered numbers q k ≡ true)
    (full_too : (q : Place) (c : VComponent (types C Q V H T E L)) → component_in olds q ≡ Some c → (t : ℕ) × (child_at children q ≡ Some t)) where
  number_there : (q : Place) (k : Kind) → has_node olds q k ≡ true → has_node news q k ≡ true → is_numbered (side_of p.new.side).numbers q k ≡ true
  number_there q k was is = ap (λ (xs : List (Place × Kind × ℕ)). is_numbered xs q k) kept ∙ kept_numbered news numbers q k is (full q k was)

  child_there : (q : Place) → is_fed app (component_in olds q) (component_in news q) ≡ true → (t : ℕ) × (child_at (side_of p.new.side).children q ≡ Some t)
  child_there q kept_on =
      let old = fed_old app (component_in olds q) (component_in news q) kept_on in
      let there = full_too q old.0 old.1 in
      (there.0, ap (λ (xs : List (Place × ℕ)). child_at xs q) kept_too ∙ kept_child app olds news q children there.0 kept_on there.1)

  child_not_there : (q : Place) → is_fed app (component_in olds q) (component_in news q) ≡ false → child_at (side_of p.new.side).children q ≡ None
  child_not_there q not_fed = ap (λ (xs : List (Place × ℕ)). child_at xs q) kept_too ∙ kept_none app olds news q children not_fed

  -- what stays is known
  starts : (ms : List (Mark (types C Q V H T E L))) → AllIn (IsAgreed app olds news) (events_in ms) → StartsWith (λ q s. KnownAt q s) (λ m. brings m) p ms
  starts [] agreed = tt
  starts (stays q k ∷ ms) agreed =
      let both = agreed (event.stays q k) (inl refl) in
      (λ still. (number_there q k both.0 both.1, tt), starts ms (λ x a. agreed x (inr a)))
  starts (goes q k ∷ ms) agreed = (λ still. tt, starts ms (λ x a. agreed x (inr a)))
  starts (comes q k ∷ ms) agreed = (λ still. absurd still, starts ms (λ x a. agreed x (inr a)))
  starts (fed q c d ∷ ms) agreed =
      let says = agreed (event.fed q c d) (inl refl) in
      (λ still. (child_there q says.2, tt), starts ms (λ x a. agreed x (inr a)))
  starts (left q c ∷ ms) agreed = (λ still. tt, starts ms (λ x a. agreed x (inr a)))
  starts (made q d ∷ ms) agreed = (λ still. absurd still, starts ms (λ x a. agreed x (inr a)))
  starts (given above whole new old ∷ ms) agreed = (λ still. tt, starts ms agreed)
  starts (worded q new old ∷ ms) agreed = (λ still. tt, starts ms agreed)
  starts (slot_goes q old ∷ ms) agreed = (λ still. tt, starts ms agreed)
  starts (tree_goes above old ∷ ms) agreed = (λ still. tt, starts ms agreed)
  starts (slot_way q new old ∷ ms) agreed = (λ still. tt, starts ms agreed)
  starts (tree_way above new old ∷ ms) agreed = (λ still. tt, starts ms agreed)
  starts (come_in q front i new ∷ ms) agreed = (λ still. tt, starts ms agreed)
  starts (go_out q i old ∷ ms) agreed = (λ still. tt, starts ms agreed)
  starts (lone q new ∷ ms) agreed = (λ still. tt, starts ms agreed)

  -- where a component comes new there is no child scope
  module _ (found : (q : Place) (d : VComponent (types C Q V H T E L)) → Among news (component_at q d) → component_in news q ≡ Some d) where
    aparts : (ms : List (Mark (types C Q V H T E L))) → AllIn (IsAgreed app olds news) (events_in ms)
        → ((q : Place) (d : VComponent (types C Q V H T E L)) → Among (events_in ms) (event.made q d) → Among news (component_at q d))
        → Each (λ q s. FreeAt q s) p (all_fresh ms)
    aparts [] agreed inside = tt
    aparts (stays q k ∷ ms) agreed inside = aparts ms (λ x a. agreed x (inr a)) (λ r d a. inside r d (inr a))
    aparts (goes q k ∷ ms) agreed inside = aparts ms (λ x a. agreed x (inr a)) (λ r d a. inside r d (inr a))
    aparts (comes q k ∷ ms) agreed inside = (tt, aparts ms (λ x a. agreed x (inr a)) (λ r d a. inside r d (inr a)))
    aparts (fed q c d ∷ ms) agreed inside = aparts ms (λ x a. agreed x (inr a)) (λ r e a. inside r e (inr a))
    aparts (left q c ∷ ms) agreed inside = aparts ms (λ x a. agreed x (inr a)) (λ r d a. inside r d (inr a))
    aparts (made q d ∷ ms) agreed inside =
        let there : component_in news q ≡ Some d = found q d (inside q d (inl refl)) in
        let not_fed : is_fed app (component_in olds q) (component_in news q) ≡ false =
        ap (λ (o : Option (VComponent (types C Q V H T E L))). is_fed app (component_in olds q) o) there ∙ agreed (event.made q d) (inl refl) in
        (child_not_there q not_fed, aparts ms (λ x a. agreed x (inr a)) (λ r e a. inside r e (inr a)))
    aparts (given above whole new old ∷ ms) agreed inside = aparts ms agreed inside
    aparts (worded q new old ∷ ms) agreed inside = aparts ms agreed inside
    aparts (slot_goes q old ∷ ms) agreed inside = aparts ms agreed inside
    aparts (tree_goes above old ∷ ms) agreed inside = aparts ms agreed inside
    aparts (slot_way q new old ∷ ms) agreed inside = aparts ms agreed inside
    aparts (tree_way above new old ∷ ms) agreed inside = aparts ms agreed inside
    aparts (come_in q front i new ∷ ms) agreed inside = aparts ms agreed inside
    aparts (go_out q i old ∷ ms) agreed inside = aparts ms agreed inside
    aparts (lone q new ∷ ms) agreed inside = aparts ms agreed inside

module _ {K : Types} (app : Application K) where
  -- of two trees the definitions say of each place what became of it
  abbrev pub two : Tree K → Tree K → List (Event K)
  two new old = pairing (λ c d. is_same_component app c d) old new []

  pub agreed_two : (new old : Tree K) → AllIn (IsAgreed app (spots [] old) (spots [] new)) (two new old)
  agreed_two new old =
      let olds : flat old_in (two new old) ≡ spots [] old = pairing-old (λ c d. is_same_component app c d) old new [] in
      let news : flat new_in (two new old) ≡ spots [] new = pairing-new (λ c d. is_same_component app c d) old new [] in
      subst (λ (ss : List (Spot K)). AllIn (IsAgreed app ss (spots [] new)) (two new old)) olds
      (subst (λ (us : List (Spot K)). AllIn (IsAgreed app (flat old_in (two new old)) us) (two new old)) news
      (all-agreed app (two new old) (pairing-matched (λ c d. is_same_component app c d) old new [])
      (subst (λ (ss : List (Spot K)). Distinct ss) (sym olds) (spots_distinct [] old))
      (subst (λ (us : List (Spot K)). Distinct us) (sym news) (spots_distinct [] new))))

module _ {P C Q V H T E L : Type 0} (app : Application (types C Q V H T E L)) where
  pub kept_starts : (p : Patch P C Q V H T E L) (was : Side P C Q V H T E L) (new : VNode P C Q V H T E L) (old : Tree (types C Q V H T E L))
      → spots_of (side_of was).output ≡ spots [] old → KeepsBy app was new p.new.side → IsFull (side_of was) old
      → StartsWith (λ q s. KnownAt q s) (λ m. brings m) p (tree_marks app [] (tree_of new) old) × Each (λ q s. FreeAt q s) p (all_fresh (tree_marks app [] (tree_of new) old))
  kept_starts p was new old out keeps full =
      let olds : List (Spot (types C Q V H T E L)) = spots [] old in
      let news : List (Spot (types C Q V H T E L)) = spots [] (tree_of new) in
      let ms : List (Mark (types C Q V H T E L)) = tree_marks app [] (tree_of new) old in
      let same : events_in ms ≡ two app (tree_of new) old = tree_events app [] (tree_of new) old in
      let agreed : AllIn (IsAgreed app olds news) (events_in ms) =
      subst (λ (es : List (Event (types C Q V H T E L))). AllIn (IsAgreed app olds news) es) (sym same) (agreed_two app (tree_of new) old) in
      let children : (side_of p.new.side).children ≡ kept_children app olds news (side_of was).children =
      keeps.children ∙ ap (λ (ss : List (Spot (types C Q V H T E L))). kept_children app ss news (side_of was).children) out in
      let inside : (q : Place) (d : VComponent (types C Q V H T E L)) → Among (events_in ms) (event.made q d) → Among news (component_at q d) =
      λ q d a.
      subst (λ (ss : List (Spot (types C Q V H T E L))). Among ss (component_at q d)) (pairing-new (λ c e. is_same_component app c e) old (tree_of new) [])
      (among-flat new_in (two app (tree_of new) old) (event.made q d) (component_at q d)
      (subst (λ (es : List (Event (types C Q V H T E L))). Among es (event.made q d)) same a) (inl refl)) in (
        starts app p (side_of was).numbers (side_of was).children olds news keeps.numbers children full.numbers full.children ms agreed,
        aparts app p (side_of was).numbers (side_of was).children olds news keeps.numbers children full.numbers full.children
            (λ q d a. component-found news (spots_distinct [] (tree_of new)) q d a) ms agreed inside,
      )
