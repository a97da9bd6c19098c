-- The order of open work: no place is fed twice, no side is patched again after it was, and steps of a boundary's run come in order.
use Rattle.std.proofs.Common.{ℕ, Bool, true, false, List, [], ◌∷◌, ◌++◌, ◌≡◌, ◌<◌, ◌⊎◌, inl, inr, refl, sym, ap, ◌∙◌, subst, arith}
use Rattle.std.specs.Prelude.{Option, Some, None, if◌then◌else◌}
use Rattle.std.specs.List.{AllByRecursion}
use Rattle.rt_model.specs.Tree.{Types, Tree, Place, Kind, VComponent, Spot, node_at, component_at, spots}
use Rattle.rt_model.specs.World.{Application}
use Rattle.rt_model.specs.State.{SideName, MainSide, ChildrenSide, FallbackSide, RowStep, PatchChildren, MadeChildren, RunFallback, ShowFallback, ShowChildren, DropFallback, Resolve, Side, State, Item, Draw, Row, Feed, Make, Drop, is_live, height_of}
use Rattle.rt_model.specs.Run.{has_node, component_in, is_fed, serves, drops_of, spots_of, row_of, row_items}
use Rattle.rt_model.specs.Boundary.{drop_items}
use Rattle.rt_model.proofs.Among.{Among}
use Rattle.rt_model.proofs.Places.{place_of, Distinct, spots_distinct}
use Rattle.law_moves.proofs.Woven.{owner, After, Stack}
use Rattle.law_moves.proofs.Lists.{all_among, every_among, every_join, serves_every, drops_every}
use Rattle.law_headline.proofs.Did.{agenda}

-- a step may not come ahead of another one of the same run
abbrev pub clash : RowStep → RowStep → Bool
clash MadeChildren j = true
clash PatchChildren PatchChildren = true
clash RunFallback RunFallback = true
clash RunFallback MadeChildren = true
clash ShowFallback RunFallback = true
clash ShowFallback DropFallback = true
clash DropFallback ShowChildren = true
clash DropFallback ShowFallback = true
clash DropFallback RunFallback = true
clash DropFallback MadeChildren = true
clash _ _ = false

pub among_either : {A : Type 0} (xs ys : List A) (x : A) → Among (xs ++ ys) x → Among xs x ⊎ Among ys x
among_either [] ys x h = inr h
among_either (z ∷ xs) ys x (inl h) = inl (inl h)
among_either (z ∷ xs) ys x (inr h) = elim (among_either xs ys x h) [ inl g ↦ inl (inr g) | inr g ↦ inr g ]

pub every_of : {A : Type 0} (P : A → Type 0) (xs : List A) → ((x : A) → Among xs x → P x) → AllByRecursion P xs
every_of P [] h = tt
every_of P (x ∷ xs) h = (h x (inl refl), every_of P xs (λ y g. h y (inr g)))

module _ {K : Types} where
  -- what may come behind an item
  abbrev pub Ahead : Item K → Item K → Type 0
  Ahead (Feed s a p c) (Feed t b q d) = s ≡ t → a ≡ b → p ≡ q → ⊥
  Ahead (Row b step) (Row c other) = b ≡ c → clash step other ≡ false
  Ahead (Feed s a p c) _ = Unit {0}
  Ahead (Row b step) _ = Unit {0}
  Ahead (Draw s a p k) j = Unit {0}
  Ahead (Make s a p c) j = Unit {0}
  Ahead (Drop t s a) j = Unit {0}

  abbrev pub Line : List (Item K) → Type 0
  Line [] = Unit {0}
  Line (i ∷ rest) = AllByRecursion (λ (j : Item K). Ahead i j) rest × Line rest

  -- items of different scopes
  pub ahead_apart : (i j : Item K) → (owner i ≡ owner j → ⊥) → Ahead i j
  ahead_apart (Feed s a p c) (Feed t b q d) n = λ e f g. n e
  ahead_apart (Feed s a p c) (Draw t b q k) n = tt
  ahead_apart (Feed s a p c) (Make t b q d) n = tt
  ahead_apart (Feed s a p c) (Drop u t b) n = tt
  ahead_apart (Feed s a p c) (Row b step) n = tt
  ahead_apart (Row b step) (Row c other) n = λ e. absurd (n e)
  ahead_apart (Row b step) (Draw t a q k) n = tt
  ahead_apart (Row b step) (Make t a q d) n = tt
  ahead_apart (Row b step) (Drop u t a) n = tt
  ahead_apart (Row b step) (Feed t a q d) n = tt
  ahead_apart (Draw s a p k) j n = tt
  ahead_apart (Make s a p c) j n = tt
  ahead_apart (Drop t s a) j n = tt

  -- an item that is no step of a run, ahead of one
  abbrev pub NoStep : Item K → Type 0
  NoStep (Row b step) = ⊥
  NoStep _ = Unit {0}

  pub ahead_step : (i : Item K) (b : ℕ) (step : RowStep) → NoStep i → Ahead i (Row b step)
  ahead_step (Feed s a p c) b step n = tt
  ahead_step (Row c other) b step n = absurd n
  ahead_step (Draw s a p k) b step n = tt
  ahead_step (Make s a p c) b step n = tt
  ahead_step (Drop t s a) b step n = tt

  pub no_step : {P : Type 0} (i : Item K) (b : ℕ) (step : RowStep) → NoStep i → i ≡ Row b step → P
  no_step i b step n e = absurd (subst (λ (j : Item K). NoStep j) e n)

  pub line_join : (xs ys : List (Item K)) → Line xs → Line ys → ((i j : Item K) → Among xs i → Among ys j → Ahead i j) → Line (xs ++ ys)
  line_join [] ys l r h = r
  line_join (i ∷ xs) ys l r h =
      (every_join (λ (j : Item K). Ahead i j) xs ys l.0 (every_of (λ (j : Item K). Ahead i j) ys (λ j g. h i j (inl refl) g)), line_join xs ys l.1 r (λ k j f g. h k j (inr f) g))

  line_if : (b : Bool) (xs ys : List (Item K)) → Line xs → Line ys → Line (if b then xs else ys)
  line_if true xs ys p q = p
  line_if false xs ys p q = q

  draw_ahead : (s : ℕ) (a : SideName) (p : Place) (k : Kind) (xs : List (Item K)) → AllByRecursion (λ (j : Item K). Ahead (Draw s a p k) j) xs
  draw_ahead s a p k xs = every_of (λ (j : Item K). Ahead (Draw s a p k) j) xs (λ j g. tt)

  abbrev pub IsDropped : Item K → Type 0
  IsDropped (Drop t s a) = Unit {0}
  IsDropped _ = ⊥

  ahead_drop : (i j : Item K) → IsDropped j → Ahead i j
  ahead_drop (Draw t2 b p k) j n = tt
  ahead_drop (Make t2 b p c) j n = tt
  ahead_drop (Drop t2 s2 b) j n = tt
  ahead_drop (Feed t2 b p c) (Drop t s a) n = tt
  ahead_drop (Feed t2 b p c) (Draw t a q k) n = absurd n
  ahead_drop (Feed t2 b p c) (Make t a q k) n = absurd n
  ahead_drop (Feed t2 b p c) (Feed t a q k) n = absurd n
  ahead_drop (Feed t2 b p c) (Row t a) n = absurd n
  ahead_drop (Row b step) (Drop t s a) n = tt
  ahead_drop (Row b step) (Draw t a q k) n = absurd n
  ahead_drop (Row b step) (Make t a q k) n = absurd n
  ahead_drop (Row b step) (Feed t a q k) n = absurd n
  ahead_drop (Row b step) (Row t a) n = absurd n

  drops_line : (xs : List (Item K)) → AllByRecursion (λ (i : Item K). IsDropped i) xs → Line xs
  drops_line [] h = tt
  drops_line (i ∷ xs) h = (every_of (λ (j : Item K). Ahead i j) xs (λ j g. ahead_drop i j (every_among (λ (k : Item K). IsDropped k) xs j h.1 g)), drops_line xs h.1)

  -- all items of a list are of this scope
  abbrev pub AllOf : ℕ → List (Item K) → Type 0
  AllOf s work = AllByRecursion (λ (i : Item K). owner i ≡ s) work

  abbrev pub NoSteps : List (Item K) → Type 0
  NoSteps work = AllByRecursion (λ (i : Item K). NoStep i) work

pub rows_of : (K : Types) (b : ℕ) (steps : List RowStep) → AllOf {K = K} b (row_items b steps)
rows_of K b [] = tt
rows_of K b (step ∷ steps) = (refl, rows_of K b steps)

pub drop_items_of : (K : Types) (b : ℕ) (a : SideName) (ts : List ℕ) → AllByRecursion (λ (i : Item K). (owner i ≡ b) × IsDropped i × NoStep i) (drop_items b a ts)
drop_items_of K b a [] = tt
drop_items_of K b a (t ∷ ts) = ((refl, tt, tt), drop_items_of K b a ts)

pub rows_line : (K : Types) (b : ℕ) (shows : Option SideName) (held : Bool) → Line {K = K} (row_items b (row_of shows held))
rows_line K b None held = (((λ e. refl), tt), (tt, tt))
rows_line K b (Some FallbackSide) true = (((λ e. refl), tt), (tt, tt))
rows_line K b (Some FallbackSide) false = (
  ((λ e. refl), ((λ e. refl), ((λ e. refl), tt))),
  (((λ e. refl), ((λ e. refl), tt)), (((λ e. refl), tt), (tt, tt))),
)
rows_line K b (Some ChildrenSide) true = (((λ e. refl), ((λ e. refl), tt)), (((λ e. refl), tt), (tt, tt)))
rows_line K b (Some ChildrenSide) false = (tt, tt)
rows_line K b (Some MainSide) held = tt

pub made_line : (K : Types) (b : ℕ) (held : Bool) → Line {K = K} (row_items b (if held then RunFallback ∷ ShowFallback ∷ [] else ShowChildren ∷ Resolve ∷ []))
made_line K b true = (((λ e. refl), tt), (tt, tt))
made_line K b false = (((λ e. refl), tt), (tt, tt))

module _ {K : Types} (app : Application K) (s : ℕ) (a : SideName) where
  serves_line : (old new : List (Spot K)) → Distinct new → Line (serves app s a old new)
  serves_line old [] d = tt
  serves_line old (node_at q k ∷ new) d =
      let tail = serves_line old new d.1 in
      line_if (has_node old q k) (serves app s a old new) (Draw s a q k ∷ serves app s a old new) tail (draw_ahead s a q k (serves app s a old new), tail)
  serves_line old (component_at q c ∷ new) d =
      let tail = serves_line old new d.1 in
      line_if (is_fed app (component_in old q) (Some c)) (Feed s a q c ∷ serves app s a old new) (Make s a q c ∷ serves app s a old new) (
        serves_every app s a old (λ (j : Item K). Ahead (Feed s a q c) j) new (λ p k. tt)
            (λ p e h fed. λ same side place. all_among (λ (f : Spot K). q ≡ place_of f → ⊥) new (component_at p e) d.0 h place) (λ p e h fed. tt),
        tail,
      )
      (serves_every app s a old (λ (j : Item K). Ahead (Make s a q c) j) new (λ p k. tt) (λ p e h fed. tt) (λ p e h fed. tt), tail)

  -- of the work of a patch all is of its scope and side, and no step of a run
  abbrev pub OfPatch : Item K → Type 0
  OfPatch i = (owner i ≡ s) × NoStep i

  pub agenda_of : (was : Side K) (tree : Tree K) → AllByRecursion (λ (i : Item K). OfPatch i) (agenda app s a was tree)
  agenda_of was tree =
      every_join (λ (i : Item K). OfPatch i) (serves app s a (spots_of was.output) (spots [] tree)) (drops_of app s a (spots [] tree) was.children (spots_of was.output))
      (serves_every app s a (spots_of was.output) (λ (i : Item K). OfPatch i) (spots [] tree) (λ p k. (refl, tt)) (λ p c h fed. (refl, tt)) (λ p c h fed. (refl, tt)))
      (drops_every app s a (spots [] tree) was.children (λ (i : Item K). OfPatch i) (spots_of was.output) (λ p c t h gone e. (refl, tt)))

  pub agenda_line : (was : Side K) (tree : Tree K) → Line (agenda app s a was tree)
  agenda_line was tree =
      let drops : List (Item K) = drops_of app s a (spots [] tree) was.children (spots_of was.output) in
      let dropped : AllByRecursion (λ (i : Item K). IsDropped i) drops = drops_every app s a (spots [] tree) was.children (λ (i : Item K). IsDropped i) (spots_of was.output) (λ p c t h gone e. tt) in
      line_join (serves app s a (spots_of was.output) (spots [] tree)) drops (serves_line (spots_of was.output) (spots [] tree) (spots_distinct [] tree)) (drops_line drops dropped)
      (λ i j f g. ahead_drop i j (every_among (λ (k : Item K). IsDropped k) drops j dropped g))

module _ {K : Types} where
  -- what comes behind a step of a run is another step of it, or of a scope that is less high
  pub behind_step : (w : State K) (b : ℕ) (step : RowStep) (rest : List (Item K)) (j : Item K) → AllByRecursion (λ (i : Item K). After w (Row b step) i) rest → Among rest j → owner j ≡ b → (other : RowStep) × (j ≡ Row b other)
  behind_step w b step rest j h g e = one j (every_among (λ (i : Item K). After w (Row b step) i) rest j h g) e
    where
      one : (j : Item K) → After w (Row b step) j → owner j ≡ b → (other : RowStep) × (j ≡ Row b other)
      one j (inl low) e = let level : height_of w.scopes (owner j) ≡ height_of w.scopes b = ap (λ (n : ℕ). height_of w.scopes n) e in absurd (omega (arith, low, level))
      one (Row c other) (inr same) e = (other, ap (λ (n : ℕ). Row n other) e)
      one (Draw t a q k) (inr same) e = absurd same.1
      one (Feed t a q d) (inr same) e = absurd same.1
      one (Make t a q d) (inr same) e = absurd same.1
      one (Drop u t a) (inr same) e = absurd same.1

  -- what comes behind a feed is of no scope below it
  pub behind_feed : (w : State K) (s : ℕ) (a : SideName) (p : Place) (c : VComponent K) (rest : List (Item K)) (j : Item K) → AllByRecursion (λ (i : Item K). After w (Feed s a p c) i) rest → Among rest j
      → (height_of w.scopes (owner j) < height_of w.scopes s) ⊎ (owner j ≡ s)
  behind_feed w s a p c rest j h g = elim (every_among (λ (i : Item K). After w (Feed s a p c) i) rest j h g) [ inl low ↦ inl low | inr same ↦ inr same.0 ]

  -- the owner of each item is live
  pub owner_lives : (w : State K) (work : List (Item K)) (j : Item K) → Stack w work → Among work j → is_live w (owner j) ≡ true
  owner_lives w (i ∷ work) j h (inl e) = ap (λ (k : Item K). is_live w (owner k)) (sym e) ∙ h.0
  owner_lives w (i ∷ work) j h (inr e) = owner_lives w work j h.3 e
  owner_lives w [] j h e = absurd e
