-- A side has another output: the open work fits the tree with what the patch leads to.
use Rattle.std.proofs.Common.{ℕ, ◌+◌, ◌<◌, true, false, List, [], ◌∷◌, ◌++◌, ◌≡◌, ◌⊎◌, inl, inr, refl, sym, ap, ◌∙◌, subst, arith, nat_eq}
use Rattle.std.specs.Prelude.{Option, Some, None}
use Rattle.std.specs.List.{AllByRecursion}
use Rattle.std.proofs.lemmas.Bool.{eqb-true}
use Rattle.rt_lemmas.proofs.Numbers.{apart as not_same}
use Rattle.rt_model.specs.Tree.{Types, Place, VComponent, Spot, component_at}
use Rattle.rt_model.specs.World.{Application}
use Rattle.rt_model.specs.State.{SideName, MainSide, ChildrenSide, FallbackSide, Side, State, Item, Draw, Row, Feed, Make, Drop, is_live, height_of}
use Rattle.rt_model.specs.Run.{child_at, component_in, is_fed, kept_children, serves, drops_of, spots_of}
use Rattle.rt_model.proofs.Maps.{by_test}
use Rattle.rt_model.proofs.Among.{Among, among_left, among_right}
use Rattle.rt_model.proofs.Places.{Distinct}
use Rattle.rt_model.proofs.Agendas.{kept_children_among}
use Rattle.rt_model.proofs.NumbersStand.{child_among}
use Rattle.law_moves.proofs.Twigs.{up, below, side_at, kids, slots, HasSlot}
use Rattle.law_moves.proofs.Woven.{owner, Fits, Behind, After, Stack, InSlot, Attached, HasKid, ToMake, Full, Whole}
use Rattle.law_moves.proofs.Lists.{some_number, every_among, every_join, component_found, component_is, fed_at, kept_at, not_kept, kept_fed, serves_make, serves_every, Pairs, pairs_join, serves_pairs, serves_are, drops_every, drops_has, drops_pairs, drops_are}

by_names : {P : Type 0} (b a : SideName) → (b ≡ a → P) → ((b ≡ a → ⊥) → P) → P
by_names MainSide MainSide f g = f refl
by_names ChildrenSide ChildrenSide f g = f refl
by_names FallbackSide FallbackSide f g = f refl
by_names MainSide ChildrenSide f g = g (λ e. cc)
by_names MainSide FallbackSide f g = g (λ e. cc)
by_names ChildrenSide MainSide f g = g (λ e. cc)
by_names ChildrenSide FallbackSide f g = g (λ e. cc)
by_names FallbackSide MainSide f g = g (λ e. cc)
by_names FallbackSide ChildrenSide f g = g (λ e. cc)

-- whether a side of a scope is this one
pub by_side : {P : Type 0} (s u : ℕ) (b a : SideName) → ((s ≡ u) × (b ≡ a) → P) → ((s ≡ u → b ≡ a → ⊥) → P) → P
by_side s u b a f g =
    by_test (nat_eq s u)
    (λ q. by_names b a (λ e. f (eqb-true s u q, e)) (λ n. g (λ i e. n e)))
    (λ q. g (λ i e. not_same s u q i))

module _ {K : Types} where
  -- from w to v one side alone has other spots and other children
  pub record Turns (w v : State K) (u : ℕ) (a : SideName) (new : List (Spot K)) (left : List (Place × ℕ)) : Type 0 where
    pub lives : (s : ℕ) → is_live v s ≡ is_live w s
    pub ups : (s : ℕ) → up v s ≡ up w s
    pub belows : (s : ℕ) → below v s ≡ below w s
    pub heights : (s : ℕ) → height_of v.scopes s ≡ height_of w.scopes s
    pub others : (s : ℕ) (b : SideName) → (s ≡ u → b ≡ a → ⊥) → side_at v s b ≡ side_at w s b
    pub slots_here : slots v u a ≡ new
    pub kids_here : kids v u a ≡ left

  abbrev pub IsRow : Item K → Type 0
  IsRow (Row b step) = Unit {0}
  IsRow (Draw s a p k) = ⊥
  IsRow (Feed s a p c) = ⊥
  IsRow (Make s a p c) = ⊥
  IsRow (Drop t s a) = ⊥

  -- an item is of a less high scope, or a later step of this one's run
  abbrev pub Aside : State K → ℕ → Item K → Type 0
  Aside w u j = (height_of w.scopes (owner j) < height_of w.scopes u) ⊎ ((owner j ≡ u) × IsRow j)

  -- nothing of the rest of the work is of this scope but later steps of its run, and all of it is of less high scopes
  abbrev pub Idle : State K → ℕ → List (Item K) → Type 0
  Idle w u rest = AllByRecursion (λ (j : Item K). Aside w u j) rest

  pub aside_row : (w : State K) (u : ℕ) (j : Item K) → Aside w u j → owner j ≡ u → IsRow j
  aside_row w u j (inl low) same = let level : height_of w.scopes (owner j) ≡ height_of w.scopes u = ap (λ (n : ℕ). height_of w.scopes n) same in absurd (omega (arith, low, level))
  aside_row w u j (inr row) same = row.1

  pub behind_row : (i j : Item K) → IsRow j → Behind i j
  behind_row (Draw s a p k) j r = tt
  behind_row (Feed s a p c) j r = tt
  behind_row (Make s a p c) (Row b step) r = tt
  behind_row (Make s a p c) (Draw t b q k) r = absurd r
  behind_row (Make s a p c) (Feed t b q d) r = absurd r
  behind_row (Make s a p c) (Make t b q d) r = absurd r
  behind_row (Make s a p c) (Drop t v b) r = absurd r
  behind_row (Drop t s a) (Row b step) r = tt
  behind_row (Drop t s a) (Draw t2 b q k) r = absurd r
  behind_row (Drop t s a) (Feed t2 b q d) r = absurd r
  behind_row (Drop t s a) (Make t2 b q d) r = absurd r
  behind_row (Drop t s a) (Drop t2 v b) r = absurd r
  behind_row (Row b step) (Row c other) r = tt
  behind_row (Row b step) (Draw t2 b2 q k) r = absurd r
  behind_row (Row b step) (Feed t2 b2 q d) r = absurd r
  behind_row (Row b step) (Make t2 b2 q d) r = absurd r
  behind_row (Row b step) (Drop t2 v b2) r = absurd r

  -- these items are of one scope, and what they name is there
  abbrev pub Ours : State K → ℕ → List (Item K) → Type 0
  Ours v u work = AllByRecursion (λ (i : Item K). (owner i ≡ u) × Fits v i) work

  module _ (w v : State K) (u : ℕ) (a : SideName) (new : List (Spot K)) (left : List (Place × ℕ)) (f : Turns w v u a new left) where
    kid_other : (s : ℕ) (b : SideName) (p : Place) → (s ≡ u → b ≡ a → ⊥) → child_at (kids v s b) p ≡ child_at (kids w s b) p
    kid_other s b p n = ap (λ (z : Side K). child_at z.children p) (f.others s b n)

    slots_other : (s : ℕ) (b : SideName) → (s ≡ u → b ≡ a → ⊥) → slots v s b ≡ slots w s b
    slots_other s b n = ap (λ (z : Side K). spots_of z.output) (f.others s b n)

    pub has_kid_other : (s : ℕ) (b : SideName) (p : Place) → (s ≡ u → b ≡ a → ⊥) → HasKid w s b p → HasKid v s b p
    has_kid_other s b p n h = (h.0, kid_other s b p n ∙ h.1, f.lives h.0 ∙ h.2)

    -- an item of another scope still names what is there
    fits_other : (j : Item K) → (owner j ≡ u → IsRow j) → Fits w j → Fits v j
    fits_other (Draw s b p k) n h = tt
    fits_other (Row b step) n h = tt
    fits_other (Feed s b p c) n h = has_kid_other s b p (λ i e. n i) h
    fits_other (Make s b p c) n h =
        (kid_other s b p (λ i e. n i) ∙ h.0, (h.1.0, subst (λ xs. Among xs (component_at p h.1.0)) (sym (slots_other s b (λ i e. n i))) h.1.1))
    fits_other (Drop t s b) n h =
        (f.lives t ∙ h.0, f.ups t ∙ h.1, f.belows t ∙ h.2, λ q e. h.3 q (sym (kid_other s b q (λ i g. n i)) ∙ e))

    after_turned : (i j : Item K) → After w i j → After v i j
    after_turned i j (inl low) = let x = f.heights (owner j) in let y = f.heights (owner i) in inl (omega (arith, low, x, y))
    after_turned i j (inr same) = inr same

    afters_turned : (i : Item K) (rest : List (Item K)) → AllByRecursion (λ (j : Item K). After w i j) rest → AllByRecursion (λ (j : Item K). After v i j) rest
    afters_turned i [] h = tt
    afters_turned i (j ∷ rest) h = (after_turned i j h.0, afters_turned i rest h.1)

    rest_stacked : (rest : List (Item K)) → Idle w u rest → Stack w rest → Stack v rest
    rest_stacked [] idle h = tt
    rest_stacked (j ∷ rest) idle h =
        (f.lives (owner j) ∙ h.0, fits_other j (λ same. aside_row w u j idle.0 same) h.1, afters_turned j rest h.2, rest_stacked rest idle.1 h.3)

    after_one : (i j : Item K) → owner i ≡ u → Aside w u j → After v i j
    after_one i j own (inl low) =
        let x = f.heights (owner j) in
        let y = f.heights u in
        let z : height_of v.scopes (owner i) ≡ height_of v.scopes u = ap (λ (n : ℕ). height_of v.scopes n) own in
        inl (omega (arith, low, x, y, z))
    after_one i j own (inr row) = inr (row.0 ∙ sym own, behind_row i j row.1)

    after_ours : (i : Item K) (rest : List (Item K)) → owner i ≡ u → Idle w u rest → AllByRecursion (λ (j : Item K). After v i j) rest
    after_ours i [] own idle = tt
    after_ours i (j ∷ rest) own idle = (after_one i j own idle.0, after_ours i rest own idle.1)

    among_ours : (i : Item K) (work : List (Item K)) → owner i ≡ u → Ours v u work → AllByRecursion (λ (j : Item K). Behind i j) work → AllByRecursion (λ (j : Item K). After v i j) work
    among_ours i [] own ours behind = tt
    among_ours i (j ∷ work) own ours behind = (inr (ours.0.0 ∙ sym own, behind.0), among_ours i work own ours.1 behind.1)

    -- the items of a patch come before the rest of the work
    pub stacked : (work rest : List (Item K)) → is_live w u ≡ true → Ours v u work → Pairs work → Idle w u rest → Stack w rest → Stack v (work ++ rest)
    stacked [] rest live ours pairs idle h = rest_stacked rest idle h
    stacked (i ∷ work) rest live ours pairs idle h =
        let own : owner i ≡ u = ours.0.0 in
        let here : is_live v (owner i) ≡ true = ap (λ (n : ℕ). is_live v n) own ∙ f.lives u ∙ live in (
          here,
          ours.0.1,
          every_join (λ (j : Item K). After v i j) work rest (among_ours i work own ours.1 pairs.0) (after_ours i rest own idle),
          stacked work rest live ours.1 pairs.1 idle h,
        )

  -- among a rest of which nothing is of this scope but steps, no make and no drop is
  pub idle_make : (w : State K) (u : ℕ) (rest : List (Item K)) (a : SideName) (p : Place) → Idle w u rest → ToMake rest u a p → ⊥
  idle_make w u rest a p idle h = aside_row w u (Make u a p h.0) (every_among (λ (j : Item K). Aside w u j) rest (Make u a p h.0) idle h.1) refl

module _ {K : Types} (app : Application K) (w v : State K) (u : ℕ) (a : SideName) (new : List (Spot K)) where
  abbrev old : List (Spot K)
  old = slots w u a

  abbrev left : List (Place × ℕ)
  left = kept_children app old new (kids w u a)

  -- what a patch leads to
  abbrev pub agenda : List (Item K)
  agenda = serves app u a old new ++ drops_of app u a new (kids w u a) old

  module _ (rest : List (Item K)) (f : Turns w v u a new left) (live : is_live w u ≡ true) (idle : Idle w u rest) (h : Whole w rest) (apart_old : Distinct old) (apart_new : Distinct new)
      (kid_up : (t : ℕ) (p : Place) → child_at (kids w u a) p ≡ Some t → is_live w t ≡ true → (up w t ≡ Some u) × (below w t ≡ Some a))
      (kid_slot : (t : ℕ) (p q : Place) → Among (kids w u a) (p, t) → Among (kids w u a) (q, t) → p ≡ q) where
    -- each slot of the old output has its child
    old_kid : (p : Place) (c : VComponent K) → Among old (component_at p c) → HasKid w u a p
    old_kid p c e = elim (h.full u a p c e) [ inl k ↦ k | inr m ↦ absurd (idle_make w u rest a p idle m) ]

    -- the same test, by what stands there
    fed_new : (p : Place) (c : VComponent K) → Among new (component_at p c) → fed_at app old new p ≡ is_fed app (component_in old p) (Some c)
    fed_new p c e = ap (λ (o : Option (VComponent K)). is_fed app (component_in old p) o) (component_is new p c apart_new e)

    fed_old : (p : Place) (c : VComponent K) → Among old (component_at p c) → fed_at app old new p ≡ is_fed app (Some c) (component_in new p)
    fed_old p c e = ap (λ (o : Option (VComponent K)). is_fed app o (component_in new p)) (component_is old p c apart_old e)

    -- what is fed stood there
    was_there : (o : Option (VComponent K)) (c : VComponent K) → is_fed app o (Some c) ≡ true → (d : VComponent K) × (o ≡ Some d)
    was_there None c e = cc
    was_there (Some d) c e = (d, refl)

    will_be_there : (o : Option (VComponent K)) (c : VComponent K) → is_fed app (Some c) o ≡ true → (d : VComponent K) × (o ≡ Some d)
    will_be_there None c e = cc
    will_be_there (Some d) c e = (d, refl)

    kept_kid : (p : Place) (o : Option ℕ) → child_at left p ≡ o → child_at (kids v u a) p ≡ o
    kept_kid p o e = ap (λ (xs : List (Place × ℕ)). child_at xs p) f.kids_here ∙ e

    -- a slot that is fed keeps its child
    fed_kid : (p : Place) (c : VComponent K) → Among new (component_at p c) → is_fed app (component_in old p) (Some c) ≡ true → HasKid v u a p
    fed_kid p c e fed =
        let d = was_there (component_in old p) c fed in
        let kid = old_kid p d.0 (component_found old p d.0 d.1) in
        (kid.0, kept_kid p (Some kid.0) (kept_at app old new (kids w u a) p (fed_new p c e ∙ fed) ∙ kid.1), f.lives kid.0 ∙ kid.2)

    serve_fits : AllByRecursion (λ (i : Item K). (owner i ≡ u) × Fits v i) (serves app u a old new)
    serve_fits =
        serves_every app u a old (λ (i : Item K). (owner i ≡ u) × Fits v i) new
        (λ p k. (refl, tt))
        (λ p c e fed. (refl, fed_kid p c e fed))
        (
        λ p c e fresh.
        (refl, (kept_kid p None (not_kept app old new (kids w u a) p (fed_new p c e ∙ fresh)), (c, subst (λ xs. Among xs (component_at p c)) (sym f.slots_here) e)))
        )

    drop_fits : AllByRecursion (λ (i : Item K). (owner i ≡ u) × Fits v i) (drops_of app u a new (kids w u a) old)
    drop_fits =
        drops_every app u a new (kids w u a) (λ (i : Item K). (owner i ≡ u) × Fits v i) old
        (
        λ p c t e gone kid.
        let there = old_kid p c e in
        let same : there.0 ≡ t = some_number there.0 t (sym there.1 ∙ kid) in
        let lives : is_live w t ≡ true = ap (λ (n : ℕ). is_live w n) (sym same) ∙ there.2 in
        let knows = kid_up t p kid lives in
        let not_left : (q : Place) → child_at (kids v u a) q ≡ Some t → ⊥ =
        λ q g.
        let kept : Among left (q, t) = child_among left q t (sym (ap (λ (xs : List (Place × ℕ)). child_at xs q) f.kids_here) ∙ g) in
        let place : p ≡ q = kid_slot t p q (child_among (kids w u a) p t kid) (kept_children_among app old new (kids w u a) (q, t) kept) in
        let absurdity : true ≡ false = sym (kept_fed app old new (kids w u a) (q, t) kept) ∙ ap (λ (z : Place). fed_at app old new z) (sym place) ∙ fed_old p c e ∙ gone in
        cc in
        (refl, (f.lives t ∙ lives, f.ups t ∙ knows.0, f.belows t ∙ knows.1, not_left))
        )

    patch_pairs : Pairs agenda
    patch_pairs =
        pairs_join (serves app u a old new) (drops_of app u a new (kids w u a) old) (serves_are app u a old new) (drops_are app u a new (kids w u a) old)
        (serves_pairs app u a old new apart_new)
        (drops_pairs app u a new (kids w u a) (λ t p q e g. kid_slot t p q (child_among (kids w u a) p t e) (child_among (kids w u a) q t g)) old apart_old)

    -- a scope that stood in a slot stands there, or is to be dropped
    slot_left : (x p : ℕ) → InSlot w x p → InSlot v x p ⊎ ((b : SideName) × Among (agenda ++ rest) (Drop x p b))
    slot_left x p i =
        by_side p u i.side a
        (
        λ here.
        let at_u : HasSlot w u a i.place = subst (λ (n : ℕ). HasSlot w n a i.place) here.0 (subst (λ (b : SideName). HasSlot w p b i.place) here.1 i.slot) in
        let kid : child_at (kids w u a) i.place ≡ Some x =
        sym (ap (λ (n : ℕ). child_at (kids w n a) i.place) here.0) ∙ sym (ap (λ (b : SideName). child_at (kids w p b) i.place) here.1) ∙ i.kid in
        by_test (is_fed app (Some at_u.0) (component_in new i.place))
        (
        λ fed.
        let d = will_be_there (component_in new i.place) at_u.0 fed in
        let slot : HasSlot v u a i.place = (d.0, subst (λ xs. Among xs (component_at i.place d.0)) (sym f.slots_here) (component_found new i.place d.0 d.1)) in
        let kept : child_at (kids v u a) i.place ≡ Some x = kept_kid i.place (Some x) (kept_at app old new (kids w u a) i.place (fed_old i.place at_u.0 at_u.1 ∙ fed) ∙ kid) in
        inl
        (record {
          side = a;
          place = i.place;
          below_is = f.belows x ∙ i.below_is ∙ ap Some here.1;
          slot = subst (λ (n : ℕ). HasSlot v n a i.place) (sym here.0) slot;
          kid = ap (λ (n : ℕ). child_at (kids v n a) i.place) here.0 ∙ kept;
        })
        )
        (
        λ gone.
        let item : Among (drops_of app u a new (kids w u a) old) (Drop x u a) = drops_has app u a new (kids w u a) old i.place at_u.0 x at_u.1 gone kid in
        let mine : Among (agenda ++ rest) (Drop x u a) = among_left agenda rest (Drop x u a) (among_right (serves app u a old new) (drops_of app u a new (kids w u a) old) (Drop x u a) item) in
        inr (a, subst (λ (n : ℕ). Among (agenda ++ rest) (Drop x n a)) (sym here.0) mine)
        )
        )
        (
        λ other.
        let same = f.others p i.side other in
        inl
        (record {
          side = i.side;
          place = i.place;
          below_is = f.belows x ∙ i.below_is;
          slot = (i.slot.0, subst (λ (z : Side K). Among (spots_of z.output) (component_at i.place i.slot.0)) (sym same) i.slot.1);
          kid = ap (λ (z : Side K). child_at z.children i.place) same ∙ i.kid;
        })
        )

    patch_attached : Attached v (agenda ++ rest)
    patch_attached x p e =
        let was = h.attached x p (sym (f.ups x) ∙ e) in
        (f.lives p ∙ was.0, elim was.1 [ inl i ↦ slot_left x p i | inr d ↦ inr (d.0, among_right agenda rest (Drop x p d.0) d.1) ])

    patch_full : Full v (agenda ++ rest)
    patch_full s b p c e =
        by_side s u b a
        (
        λ here.
        let there : Among new (component_at p c) =
        subst (λ xs. Among xs (component_at p c)) f.slots_here
        (subst (λ (n : ℕ). Among (slots v n a) (component_at p c)) here.0 (subst (λ (z : SideName). Among (slots v s z) (component_at p c)) here.1 e)) in
        by_test (is_fed app (component_in old p) (Some c))
        (
        λ fed.
        inl (subst (λ (n : ℕ). HasKid v n b p) (sym here.0) (subst (λ (z : SideName). HasKid v u z p) (sym here.1) (fed_kid p c there fed)))
        )
        (
        λ fresh.
        let item : Among (agenda ++ rest) (Make u a p c) =
        among_left agenda rest (Make u a p c) (among_left (serves app u a old new) (drops_of app u a new (kids w u a) old) (Make u a p c) (serves_make app u a old new p c fresh there)) in
        inr (c, subst (λ (n : ℕ). Among (agenda ++ rest) (Make n b p c)) (sym here.0) (subst (λ (z : SideName). Among (agenda ++ rest) (Make u z p c)) (sym here.1) item))
        )
        )
        (
        λ other.
        let same = f.others s b other in
        elim (h.full s b p c (subst (λ (z : Side K). Among (spots_of z.output) (component_at p c)) same e)) [
          | inl k ↦ inl (has_kid_other w v u a new left f s b p other k)
          | inr m ↦ inr (m.0, among_right agenda rest (Make s b p m.0) m.1)
        ]
        )

    -- so the patch keeps all in order
    pub patched_whole : Whole v (agenda ++ rest)
    patched_whole =
        record {
          stack = stacked w v u a new left f agenda rest live
              (every_join (λ (i : Item K). (owner i ≡ u) × Fits v i) (serves app u a old new) (drops_of app u a new (kids w u a) old) serve_fits drop_fits)
              patch_pairs idle h.stack;
          attached = patch_attached;
          full = patch_full;
        }
