-- What a patch keeps of the children of a side, and the items that it leads to.
use Rattle.std.proofs.Common.{ℕ, Bool, true, false, List, [], ◌∷◌, ◌++◌, ◌≡◌, inl, inr, refl, sym, ap, ◌∙◌, subst, nat_eq}
use Rattle.std.specs.Prelude.{Option, Some, None, All, if◌then◌else◌}
use Rattle.std.specs.List.{AllByRecursion}
use Rattle.std.proofs.lemmas.Bool.{eqb-true}
use Rattle.std.proofs.lemmas.List.Elements.{All-head, All-tail}
pub use Rattle.rt_lemmas.proofs.Options.{some_same as some_number}
use Rattle.rt_model.specs.Tree.{Types, Place, same_place, Kind, VComponent, Spot, node_at, component_at}
use Rattle.rt_model.specs.World.{Application}
use Rattle.rt_model.specs.State.{SideName, Item, Draw, Row, Feed, Make, Drop}
use Rattle.rt_model.specs.Run.{child_at, has_node, component_in, is_fed, kept_children, serves, drop_at, drops_of}
use Rattle.rt_model.proofs.Maps.{by_test, pick_true, pick_false}
use Rattle.rt_model.proofs.Among.{Among, among_left, among_right, place_same}
use Rattle.rt_model.proofs.SamePlaces.{same_place-true}
use Rattle.rt_model.proofs.Places.{place_of, Apart, Distinct}
use Rattle.law_moves.proofs.Woven.{Behind}

pub all_among : {A : Type 0} (P : A → Type 0) (xs : List A) (x : A) → All P xs → Among xs x → P x
all_among P [] x h g = absurd g
all_among P (y ∷ xs) x h (inl e) = subst (λ z. P z) e (All-head P y xs h)
all_among P (y ∷ xs) x h (inr g) = all_among P xs x (All-tail P y xs h) g

pub every_among : {A : Type 0} (P : A → Type 0) (xs : List A) (x : A) → AllByRecursion P xs → Among xs x → P x
every_among P [] x h g = absurd g
every_among P (y ∷ xs) x h (inl e) = subst (λ z. P z) e h.0
every_among P (y ∷ xs) x h (inr g) = every_among P xs x h.1 g

pub every_join : {A : Type 0} (P : A → Type 0) (xs ys : List A) → AllByRecursion P xs → AllByRecursion P ys → AllByRecursion P (xs ++ ys)
every_join P [] ys h g = g
every_join P (x ∷ xs) ys h g = (h.0, every_join P xs ys h.1 g)

pub every_if : {A : Type 0} (P : A → Type 0) (b : Bool) (xs ys : List A) → (b ≡ true → AllByRecursion P xs) → (b ≡ false → AllByRecursion P ys) → AllByRecursion P (if b then xs else ys)
every_if P true xs ys f g = f refl
every_if P false xs ys f g = g refl

pub among_if_both : {A : Type 0} (b : Bool) (xs ys : List A) (y : A) → Among xs y → Among ys y → Among (if b then xs else ys) y
among_if_both true xs ys y h g = h
among_if_both false xs ys y h g = g

pub among_if_true : {A : Type 0} (b : Bool) (xs ys : List A) (y : A) → b ≡ true → Among xs y → Among (if b then xs else ys) y
among_if_true b xs ys y e h = subst (λ zs. Among zs y) (sym (pick_true xs ys e)) h

pub among_if_false : {A : Type 0} (b : Bool) (xs ys : List A) (y : A) → b ≡ false → Among ys y → Among (if b then xs else ys) y
among_if_false b xs ys y e h = subst (λ zs. Among zs y) (sym (pick_false xs ys e)) h

module _ {K : Types} where
  spot_place : (p q : Place) (c d : VComponent K) → component_at p c ≡ component_at q d → p ≡ q
  spot_place p q c d h = ap (λ (s : Spot K). place_of s) h

  spot_component : (p q : Place) (c d : VComponent K) → component_at p c ≡ component_at q d → c ≡ d
  spot_component p q c d h = cc

  -- the component that is found at a place stands there
  pub component_found : (ss : List (Spot K)) (p : Place) (c : VComponent K) → component_in ss p ≡ Some c → Among ss (component_at p c)
  component_found [] p c h = cc
  component_found (node_at q k ∷ ss) p c h = inr (component_found ss p c h)
  component_found (component_at q d ∷ ss) p c h =
      by_test (same_place q p)
      (
      λ t.
      let same : Some d ≡ Some c = sym (pick_true (Some d) (component_in ss p) t) ∙ h in
      let one : d ≡ c = cc in
      inl (ap (λ (z : Place). component_at z d) (same_place-true q p t) ∙ ap (λ (z : VComponent K). component_at p z) one)
      )
      (λ f. inr (component_found ss p c (sym (pick_false (Some d) (component_in ss p) f) ∙ h)))

  -- and where places stand once, the component that stands there is found
  pub component_is : (ss : List (Spot K)) (p : Place) (c : VComponent K) → Distinct ss → Among ss (component_at p c) → component_in ss p ≡ Some c
  component_is [] p c d h = absurd h
  component_is (node_at q k ∷ ss) p c d (inl h) = cc
  component_is (node_at q k ∷ ss) p c d (inr h) = component_is ss p c d.1 h
  component_is (component_at q e ∷ ss) p c d (inl h) =
      let place : q ≡ p = spot_place q p e c h in
      let here : same_place q p ≡ true = ap (λ (z : Place). same_place z p) place ∙ place_same p in
      pick_true (Some e) (component_in ss p) here ∙ ap (λ (z : VComponent K). Some z) (spot_component q p e c h)
  component_is (component_at q e ∷ ss) p c d (inr h) =
      by_test (same_place q p)
      (λ t. absurd (all_among (λ f. Apart (component_at q e) f) ss (component_at p c) d.0 h (same_place-true q p t)))
      (λ f. pick_false (Some e) (component_in ss p) f ∙ component_is ss p c d.1 h)

module _ {K : Types} (app : Application K) (old new : List (Spot K)) where
  -- a place is fed
  abbrev pub fed_at : Place → Bool
  fed_at p = is_fed app (component_in old p) (component_in new p)

  -- the child of a place that is fed is kept
  pub kept_at : (es : List (Place × ℕ)) (p : Place) → fed_at p ≡ true → child_at (kept_children app old new es) p ≡ child_at es p
  kept_at [] p fed = refl
  kept_at (e ∷ es) p fed =
      let kept : List (Place × ℕ) = kept_children app old new es in
      by_test (fed_at e.0)
      (
      λ t.
      ap (λ (xs : List (Place × ℕ)). child_at xs p) (pick_true (e ∷ kept) kept t)
      ∙ ap (λ (o : Option ℕ). if same_place e.0 p then Some e.1 else o) (kept_at es p fed)
      )
      (
      λ f.
      let other : same_place e.0 p ≡ false =
      by_test (same_place e.0 p)
      (λ s. let absurdity : true ≡ false = sym fed ∙ sym (ap (λ (q : Place). fed_at q) (same_place-true e.0 p s)) ∙ f in cc)
      (λ s. s) in
      ap (λ (xs : List (Place × ℕ)). child_at xs p) (pick_false (e ∷ kept) kept f) ∙ kept_at es p fed ∙ sym (pick_false (Some e.1) (child_at es p) other)
      )

  -- of a place that isn't fed no child is kept
  pub not_kept : (es : List (Place × ℕ)) (p : Place) → fed_at p ≡ false → child_at (kept_children app old new es) p ≡ None
  not_kept [] p none = refl
  not_kept (e ∷ es) p none =
      let kept : List (Place × ℕ) = kept_children app old new es in
      by_test (fed_at e.0)
      (
      λ t.
      let other : same_place e.0 p ≡ false =
      by_test (same_place e.0 p)
      (λ s. let absurdity : true ≡ false = sym t ∙ ap (λ (q : Place). fed_at q) (same_place-true e.0 p s) ∙ none in cc)
      (λ s. s) in
      ap (λ (xs : List (Place × ℕ)). child_at xs p) (pick_true (e ∷ kept) kept t) ∙ pick_false (Some e.1) (child_at kept p) other ∙ not_kept es p none
      )
      (λ f. ap (λ (xs : List (Place × ℕ)). child_at xs p) (pick_false (e ∷ kept) kept f) ∙ not_kept es p none)

  fed_first : (f e : Place × ℕ) (kept : List (Place × ℕ)) → fed_at f.0 ≡ true → (Among kept e → fed_at e.0 ≡ true) → Among (f ∷ kept) e → fed_at e.0 ≡ true
  fed_first f e kept t later (inl s) = ap (λ (z : Place × ℕ). fed_at z.0) (sym s) ∙ t
  fed_first f e kept t later (inr g) = later g

  -- a child that is kept stands at a place that is fed
  pub kept_fed : (es : List (Place × ℕ)) (e : Place × ℕ) → Among (kept_children app old new es) e → fed_at e.0 ≡ true
  kept_fed [] e h = absurd h
  kept_fed (f ∷ es) e h =
      let kept : List (Place × ℕ) = kept_children app old new es in
      by_test (fed_at f.0)
      (λ t. fed_first f e kept t (λ g. kept_fed es e g) (subst (λ xs. Among xs e) (pick_true (f ∷ kept) kept t) h))
      (λ n. kept_fed es e (subst (λ xs. Among xs e) (pick_false (f ∷ kept) kept n) h))

module _ {K : Types} (app : Application K) (u : ℕ) (a : SideName) (old : List (Spot K)) where
  -- a slot of a component that isn't fed is made
  pub serves_make : (new : List (Spot K)) (p : Place) (c : VComponent K) → is_fed app (component_in old p) (Some c) ≡ false → Among new (component_at p c) → Among (serves app u a old new) (Make u a p c)
  serves_make [] p c fresh h = absurd h
  serves_make (node_at q k ∷ new) p c fresh (inl h) = cc
  serves_make (node_at q k ∷ new) p c fresh (inr h) =
      let tail = serves_make new p c fresh h in
      among_if_both (has_node old q k) (serves app u a old new) (Draw u a q k ∷ serves app u a old new) (Make u a p c) tail (inr tail)
  serves_make (component_at q d ∷ new) p c fresh (inl h) =
      let place : q ≡ p = ap (λ (s : Spot K). place_of s) h in
      let one : d ≡ c = cc in
      let here : is_fed app (component_in old q) (Some d) ≡ false =
      ap (λ (z : Place). is_fed app (component_in old z) (Some d)) place ∙ ap (λ (z : VComponent K). is_fed app (component_in old p) (Some z)) one ∙ fresh in
      among_if_false (is_fed app (component_in old q) (Some d)) (Feed u a q d ∷ serves app u a old new) (Make u a q d ∷ serves app u a old new) (Make u a p c) here
      (inl (ap (λ (z : Place). Make u a z d) place ∙ ap (λ (z : VComponent K). Make u a p z) one))
  serves_make (component_at q d ∷ new) p c fresh (inr h) =
      let tail = serves_make new p c fresh h in
      among_if_both (is_fed app (component_in old q) (Some d)) (Feed u a q d ∷ serves app u a old new) (Make u a q d ∷ serves app u a old new) (Make u a p c) (inr tail) (inr tail)

  -- what is made and fed, item by item
  pub serves_every : (P : Item K → Type 0) (new : List (Spot K))
      → ((p : Place) (k : Kind) → P (Draw u a p k))
      → ((p : Place) (c : VComponent K) → Among new (component_at p c) → is_fed app (component_in old p) (Some c) ≡ true → P (Feed u a p c))
      → ((p : Place) (c : VComponent K) → Among new (component_at p c) → is_fed app (component_in old p) (Some c) ≡ false → P (Make u a p c))
      → AllByRecursion P (serves app u a old new)
  serves_every P [] draws feeds makes = tt
  serves_every P (node_at q k ∷ new) draws feeds makes =
      let tail = serves_every P new draws (λ p c h. feeds p c (inr h)) (λ p c h. makes p c (inr h)) in
      every_if P (has_node old q k) (serves app u a old new) (Draw u a q k ∷ serves app u a old new) (λ t. tail) (λ f. (draws q k, tail))
  serves_every P (component_at q d ∷ new) draws feeds makes =
      let tail = serves_every P new draws (λ p c h. feeds p c (inr h)) (λ p c h. makes p c (inr h)) in
      every_if P (is_fed app (component_in old q) (Some d)) (Feed u a q d ∷ serves app u a old new) (Make u a q d ∷ serves app u a old new)
      (λ t. (feeds q d (inl refl) t, tail))
      (λ f. (makes q d (inl refl) f, tail))

module _ {K : Types} where
  -- each item of a list may come behind those before it
  abbrev pub Pairs : List (Item K) → Type 0
  Pairs [] = Unit {0}
  Pairs (i ∷ rest) = AllByRecursion (λ (j : Item K). Behind i j) rest × Pairs rest

  pairs_if : (b : Bool) (xs ys : List (Item K)) → Pairs xs → Pairs ys → Pairs (if b then xs else ys)
  pairs_if true xs ys p q = p
  pairs_if false xs ys p q = q

  behind_draw : (s : ℕ) (a : SideName) (p : Place) (k : Kind) (xs : List (Item K)) → AllByRecursion (λ (j : Item K). Behind (Draw s a p k) j) xs
  behind_draw s a p k [] = tt
  behind_draw s a p k (x ∷ xs) = (tt, behind_draw s a p k xs)

  behind_feed : (s : ℕ) (a : SideName) (p : Place) (c : VComponent K) (xs : List (Item K)) → AllByRecursion (λ (j : Item K). Behind (Feed s a p c) j) xs
  behind_feed s a p c [] = tt
  behind_feed s a p c (x ∷ xs) = (tt, behind_feed s a p c xs)

  -- the items of a patch that aren't drops, and those that are
  abbrev pub IsServe : Item K → Type 0
  IsServe (Draw s a p k) = Unit {0}
  IsServe (Feed s a p c) = Unit {0}
  IsServe (Make s a p c) = Unit {0}
  IsServe (Row b step) = ⊥
  IsServe (Drop t s a) = ⊥

  abbrev pub IsDrop : Item K → Type 0
  IsDrop (Drop t s a) = Unit {0}
  IsDrop (Draw s a p k) = ⊥
  IsDrop (Feed s a p c) = ⊥
  IsDrop (Make s a p c) = ⊥
  IsDrop (Row b step) = ⊥

  behind_both : (i j : Item K) → IsServe i → IsDrop j → Behind i j
  behind_both (Draw s a p k) j f g = tt
  behind_both (Feed s a p c) j f g = tt
  behind_both (Make s a p c) (Drop t v b) f g = tt
  behind_both (Make s a p c) (Draw t b q k) f g = absurd g
  behind_both (Make s a p c) (Feed t b q d) f g = absurd g
  behind_both (Make s a p c) (Make t b q d) f g = absurd g
  behind_both (Make s a p c) (Row b step) f g = absurd g
  behind_both (Row b step) j f g = absurd f
  behind_both (Drop t s a) j f g = absurd f

  behind_drops : (i : Item K) (ys : List (Item K)) → IsServe i → AllByRecursion (λ (j : Item K). IsDrop j) ys → AllByRecursion (λ (j : Item K). Behind i j) ys
  behind_drops i [] f g = tt
  behind_drops i (j ∷ ys) f g = (behind_both i j f g.0, behind_drops i ys f g.1)

  -- drops may come behind the rest of a patch
  pub pairs_join : (xs ys : List (Item K)) → AllByRecursion (λ (i : Item K). IsServe i) xs → AllByRecursion (λ (j : Item K). IsDrop j) ys → Pairs xs → Pairs ys → Pairs (xs ++ ys)
  pairs_join [] ys f g p q = q
  pairs_join (i ∷ xs) ys f g p q = (every_join (λ (j : Item K). Behind i j) xs ys p.0 (behind_drops i ys f.0 g), pairs_join xs ys f.1 g p.1 q)

module _ {K : Types} (app : Application K) (u : ℕ) (a : SideName) (old : List (Spot K)) where
  -- a make is of another place than what comes behind it
  make_apart : (p : Place) (c : VComponent K) (new : List (Spot K)) → All (λ (f : Spot K). p ≡ place_of f → ⊥) new → AllByRecursion (λ (j : Item K). Behind (Make u a p c) j) (serves app u a old new)
  make_apart p c new apart =
      serves_every app u a old (λ (j : Item K). Behind (Make u a p c) j) new
      (λ q k. tt)
      (λ q d h fed. tt)
      (λ q d h fed. λ side place. all_among (λ (f : Spot K). p ≡ place_of f → ⊥) new (component_at q d) apart h place)

  pub serves_pairs : (new : List (Spot K)) → Distinct new → Pairs (serves app u a old new)
  serves_pairs [] d = tt
  serves_pairs (node_at q k ∷ new) d =
      let tail = serves_pairs new d.1 in
      pairs_if (has_node old q k) (serves app u a old new) (Draw u a q k ∷ serves app u a old new) tail (behind_draw u a q k (serves app u a old new), tail)
  serves_pairs (component_at q c ∷ new) d =
      let tail = serves_pairs new d.1 in
      pairs_if (is_fed app (component_in old q) (Some c)) (Feed u a q c ∷ serves app u a old new) (Make u a q c ∷ serves app u a old new)
      (behind_feed u a q c (serves app u a old new), tail)
      (make_apart q c new d.0, tail)

  pub serves_are : (new : List (Spot K)) → AllByRecursion (λ (i : Item K). IsServe i) (serves app u a old new)
  serves_are new = serves_every app u a old (λ (i : Item K). IsServe i) new (λ p k. tt) (λ p c h fed. tt) (λ p c h fed. tt)

module _ {K : Types} (app : Application K) (u : ℕ) (a : SideName) (new : List (Spot K)) (kids : List (Place × ℕ)) where
  -- what is dropped, item by item
  pub drops_every : (P : Item K → Type 0) (old : List (Spot K))
      → ((p : Place) (c : VComponent K) (t : ℕ) → Among old (component_at p c) → is_fed app (Some c) (component_in new p) ≡ false → child_at kids p ≡ Some t → P (Drop t u a))
      → AllByRecursion P (drops_of app u a new kids old)
  drops_every P [] drops = tt
  drops_every P (node_at q k ∷ old) drops = drops_every P old (λ p c t h. drops p c t (inr h))
  drops_every P (component_at q d ∷ old) drops =
      let tail = drops_every P old (λ p c t h. drops p c t (inr h)) in
      every_if P (is_fed app (Some d) (component_in new q)) (drops_of app u a new kids old) (drop_at u a (child_at kids q) ++ drops_of app u a new kids old)
      (λ fed. tail)
      (λ gone. every_join P (drop_at u a (child_at kids q)) (drops_of app u a new kids old) (one gone (child_at kids q) refl) tail)
    where
      one : is_fed app (Some d) (component_in new q) ≡ false → (o : Option ℕ) → child_at kids q ≡ o → AllByRecursion P (drop_at u a o)
      one gone None e = tt
      one gone (Some t) e = (drops q d t (inl refl) gone e, tt)

  -- a child whose place isn't fed is dropped
  pub drops_has : (old : List (Spot K)) (p : Place) (c : VComponent K) (t : ℕ) → Among old (component_at p c) → is_fed app (Some c) (component_in new p) ≡ false → child_at kids p ≡ Some t
      → Among (drops_of app u a new kids old) (Drop t u a)
  drops_has [] p c t h gone e = absurd h
  drops_has (node_at q k ∷ old) p c t (inl h) gone e = cc
  drops_has (node_at q k ∷ old) p c t (inr h) gone e = drops_has old p c t h gone e
  drops_has (component_at q d ∷ old) p c t (inl h) gone e =
      let place : q ≡ p = ap (λ (s : Spot K). place_of s) h in
      let one : d ≡ c = cc in
      let here : is_fed app (Some d) (component_in new q) ≡ false =
      ap (λ (z : Place). is_fed app (Some d) (component_in new z)) place ∙ ap (λ (z : VComponent K). is_fed app (Some z) (component_in new p)) one ∙ gone in
      let kid : child_at kids q ≡ Some t = ap (λ (z : Place). child_at kids z) place ∙ e in
      among_if_false (is_fed app (Some d) (component_in new q)) (drops_of app u a new kids old) (drop_at u a (child_at kids q) ++ drops_of app u a new kids old) (Drop t u a) here
      (among_left (drop_at u a (child_at kids q)) (drops_of app u a new kids old) (Drop t u a) (subst (λ (o : Option ℕ). Among (drop_at {K = K} u a o) (Drop t u a)) (sym kid) (inl refl)))
  drops_has (component_at q d ∷ old) p c t (inr h) gone e =
      let tail = drops_has old p c t h gone e in
      let here : List (Item K) = drop_at u a (child_at kids q) in
      among_if_both (is_fed app (Some d) (component_in new q)) (drops_of app u a new kids old) (here ++ drops_of app u a new kids old) (Drop t u a) tail
      (among_right here (drops_of app u a new kids old) (Drop t u a) tail)

  module _ (slot : (t : ℕ) (p q : Place) → child_at kids p ≡ Some t → child_at kids q ≡ Some t → p ≡ q) where
    -- a drop is of another scope than what comes behind it
    drop_apart : (t : ℕ) (p : Place) (old : List (Spot K)) → child_at kids p ≡ Some t → All (λ (f : Spot K). p ≡ place_of f → ⊥) old
        → AllByRecursion (λ (j : Item K). Behind (Drop t u a) j) (drops_of app u a new kids old)
    drop_apart t p old e apart =
        drops_every (λ (j : Item K). Behind (Drop t u a) j) old
        (
        λ q d n h gone f.
        by_test (nat_eq t n)
        (
        λ same.
        absurd (all_among (λ (g : Spot K). p ≡ place_of g → ⊥) old (component_at q d) apart h (slot t p q e (f ∙ sym (ap (λ (k : ℕ). Some k) (eqb-true t n same)))))
        )
        (λ other. other)
        )

    pub drops_pairs : (old : List (Spot K)) → Distinct old → Pairs (drops_of app u a new kids old)
    drops_pairs [] d = tt
    drops_pairs (node_at q k ∷ old) d = drops_pairs old d.1
    drops_pairs (component_at q c ∷ old) d =
        let tail = drops_pairs old d.1 in
        pairs_if (is_fed app (Some c) (component_in new q)) (drops_of app u a new kids old) (drop_at u a (child_at kids q) ++ drops_of app u a new kids old) tail
        (with_one (child_at kids q) refl tail)
      where
        with_one : (o : Option ℕ) → child_at kids q ≡ o → Pairs (drops_of app u a new kids old) → Pairs (drop_at u a o ++ drops_of app u a new kids old)
        with_one None e tail = tail
        with_one (Some t) e tail = (drop_apart t q old e d.0, tail)

  pub drops_are : (old : List (Spot K)) → AllByRecursion (λ (i : Item K). IsDrop i) (drops_of app u a new kids old)
  drops_are old = drops_every (λ (i : Item K). IsDrop i) old (λ p c t h gone e. tt)
