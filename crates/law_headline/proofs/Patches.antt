-- What a change does to the sides of its own scope, as what holds since the unit began takes it.
use Rattle.std.proofs.Common.{ℕ, Bool, true, false, List, [], ◌∷◌, ◌≡◌, ◌⊎◌, inl, inr, refl, sym, ap, ◌∙◌, subst}
use Rattle.std.specs.Prelude.{Option, Some, None, if◌then◌else◌}
use Rattle.std.specs.List.{AllByRecursion}
use Rattle.rt_model.specs.Lists.{at}
use Rattle.rt_model.specs.Tree.{Types, Tree, Place, Kind, spots}
use Rattle.rt_model.specs.World.{Application}
use Rattle.rt_model.specs.Laws.{IsLawful}
use Rattle.rt_model.specs.State.{SideName, MainSide, ChildrenSide, FallbackSide, RowStep, PatchChildren, MadeChildren, RunFallback, ShowFallback, ShowChildren, DropFallback, Resolve, Side, Scope, State, Item, Row, empty_side, side_of, with_side, is_held}
use Rattle.rt_model.specs.Run.{spots_of, serves, drops_of, row_of, row_items}
use Rattle.rt_model.specs.Boundary.{drop_items}
use Rattle.rt_model.proofs.Among.{Among}
use Rattle.rt_model.proofs.Agendas.{kept_among, kept_children_among}
use Rattle.law_moves.proofs.Lists.{every_among, every_join, serves_every, drops_every}
use Rattle.law_moves.specs.Frames.{shown}
use Rattle.law_headline.proofs.Did.{Matches, after_of, that_side, other_side, agenda, renewed, Patch, RunDid, StepDid}
use Rattle.law_headline.proofs.Lines.{clash, NoStep}
use Rattle.law_headline.proofs.Sides.{Link, link_patch}
use Rattle.law_headline.proofs.Since.{turns, item_side}

pub one_side : (a b : SideName) → (a ≡ b) ⊎ (a ≡ b → ⊥)
one_side MainSide MainSide = inl refl
one_side MainSide ChildrenSide = inr (λ e. cc)
one_side MainSide FallbackSide = inr (λ e. cc)
one_side ChildrenSide MainSide = inr (λ e. cc)
one_side ChildrenSide ChildrenSide = inl refl
one_side ChildrenSide FallbackSide = inr (λ e. cc)
one_side FallbackSide MainSide = inr (λ e. cc)
one_side FallbackSide ChildrenSide = inr (λ e. cc)
one_side FallbackSide FallbackSide = inl refl

-- of two steps that patch one side the first may not come ahead of the second
pub turns_clash : (i j : RowStep) (a : SideName) → turns i ≡ Some a → turns j ≡ Some a → clash i j ≡ true
turns_clash PatchChildren PatchChildren a e f = refl
turns_clash PatchChildren MadeChildren a e f = let absurdity : Some ChildrenSide ≡ Some FallbackSide = e ∙ sym f in cc
turns_clash PatchChildren RunFallback a e f = let absurdity : Some ChildrenSide ≡ Some FallbackSide = e ∙ sym f in cc
turns_clash PatchChildren ShowFallback a e f = cc
turns_clash PatchChildren ShowChildren a e f = cc
turns_clash PatchChildren DropFallback a e f = cc
turns_clash PatchChildren Resolve a e f = cc
turns_clash MadeChildren j a e f = refl
turns_clash RunFallback PatchChildren a e f = let absurdity : Some ChildrenSide ≡ Some FallbackSide = f ∙ sym e in cc
turns_clash RunFallback MadeChildren a e f = refl
turns_clash RunFallback RunFallback a e f = refl
turns_clash RunFallback ShowFallback a e f = cc
turns_clash RunFallback ShowChildren a e f = cc
turns_clash RunFallback DropFallback a e f = cc
turns_clash RunFallback Resolve a e f = cc
turns_clash ShowFallback j a e f = cc
turns_clash ShowChildren j a e f = cc
turns_clash DropFallback j a e f = cc
turns_clash Resolve j a e f = cc

module _ {K : Types} (app : Application K) where
  -- a side stayed, was patched, or was emptied
  abbrev pub SideDid : Side K → Side K → Type 0
  SideDid was now = (now ≡ was) ⊎ (((tree : Tree K) × (now ≡ renewed app was tree)) ⊎ (now ≡ empty_side))

  pub did_numbers : (was now : Side K) (e : Place × Kind × ℕ) → SideDid was now → Among now.numbers e → Among was.numbers e
  did_numbers was now e (inl h) g = subst (λ (i : Side K). Among i.numbers e) h g
  did_numbers was now e (inr (inl h)) g = kept_among (spots [] h.0) was.numbers e (subst (λ (i : Side K). Among i.numbers e) h.1 g)
  did_numbers was now e (inr (inr h)) g = absurd (subst (λ (i : Side K). Among i.numbers e) h g)

  pub did_children : (was now : Side K) (e : Place × ℕ) → SideDid was now → Among now.children e → Among was.children e
  did_children was now e (inl h) g = subst (λ (i : Side K). Among i.children e) h g
  did_children was now e (inr (inl h)) g = kept_children_among app (spots_of was.output) (spots [] h.0) was.children e (subst (λ (i : Side K). Among i.children e) h.1 g)
  did_children was now e (inr (inr h)) g = absurd (subst (λ (i : Side K). Among i.children e) h g)

  module _ (lawful : IsLawful K app) where
    pub link_empty : (limit : ℕ) (old : Side K) → Link app lawful limit old empty_side
    link_empty limit old = record { nodes = λ p k f g. absurd g; kids = λ p c d f g e. absurd f; feeds = λ p u c d i low f g. absurd i }

    -- a side that was as it was when the unit began is linked to that one after a patch
    pub did_link : (limit : ℕ) (first was now : Side K) → SideDid was now → Link app lawful limit first was → (was ≡ first) ⊎ (now ≡ was) → Link app lawful limit first now
    did_link limit first was now (inl h) link as_was = subst (λ (i : Side K). Link app lawful limit first i) (sym h) link
    did_link limit first was now (inr (inl h)) link (inl e) =
        subst (λ (i : Side K). Link app lawful limit first i) (sym (h.1 ∙ ap (λ (i : Side K). renewed app i h.0) e)) (link_patch app lawful limit first h.0)
    did_link limit first was now (inr (inl h)) link (inr e) = subst (λ (i : Side K). Link app lawful limit first i) (sym e) link
    did_link limit first was now (inr (inr h)) link e = subst (λ (i : Side K). Link app lawful limit first i) (sym h) (link_empty limit first)

  patch_sides : (s : ℕ) (b : SideName) (x y : Scope K) (v : State K) (work : List (Item K)) → at v.scopes s ≡ Some y → Patch app s b x v work → (a : SideName) → ((a ≡ b → ⊥) → side_of y a ≡ side_of x a) × SideDid (side_of x a) (side_of y a)
  patch_sides s b x y v work found p a = (other, by_one (one_side a b))
    where
      m : Matches y (with_side x b (renewed app (side_of x b) p.tree))
      m = after_of (at v.scopes s) (with_side x b (renewed app (side_of x b) p.tree)) y p.here found

      other : (a ≡ b → ⊥) → side_of y a ≡ side_of x a
      other n = m.sides a ∙ other_side x b a (renewed app (side_of x b) p.tree) n

      by_one : (a ≡ b) ⊎ (a ≡ b → ⊥) → SideDid (side_of x a) (side_of y a)
      by_one (inl e) =
          let here : side_of y b ≡ renewed app (side_of x b) p.tree = m.sides b ∙ that_side x b (renewed app (side_of x b) p.tree) in
          subst (λ (i : SideName). SideDid (side_of x i) (side_of y i)) (sym e) (inr (inl (p.tree, here)))
      by_one (inr n) = inl (other n)

  -- of what a patch opens all is of its side, and no step of a run
  abbrev pub OfSide : SideName → Item K → Type 0
  OfSide b i = ((item_side i ≡ None) ⊎ (item_side i ≡ Some b)) × NoStep i

  agenda_sides : (s : ℕ) (b : SideName) (was : Side K) (tree : Tree K) → AllByRecursion (λ (i : Item K). OfSide b i) (agenda app s b was tree)
  agenda_sides s b was tree =
      every_join (λ (i : Item K). OfSide b i) (serves app s b (spots_of was.output) (spots [] tree)) (drops_of app s b (spots [] tree) was.children (spots_of was.output))
      (serves_every app s b (spots_of was.output) (λ (i : Item K). OfSide b i) (spots [] tree) (λ p k. (inr refl, tt)) (λ p c h fed. (inr refl, tt)) (λ p c h fed. (inr refl, tt)))
      (drops_every app s b (spots [] tree) was.children (λ (i : Item K). OfSide b i) (spots_of was.output) (λ p c t h gone e. (inl refl, tt)))

  patch_item : (s : ℕ) (b : SideName) (x : Scope K) (v : State K) (work : List (Item K)) (i : Item K) → Patch app s b x v work → Among work i → OfSide b i
  patch_item s b x v work i p g = every_among (λ (j : Item K). OfSide b j) (agenda app s b (side_of x b) p.tree) i (agenda_sides s b (side_of x b) p.tree) (subst (λ (xs : List (Item K)). Among xs i) p.opens g)

rows_plain : (K : Types) (b : ℕ) (steps : List RowStep) → AllByRecursion (λ (i : Item K). item_side i ≡ None) (row_items b steps)
rows_plain K b [] = tt
rows_plain K b (step ∷ steps) = (refl, rows_plain K b steps)

drops_plain : (K : Types) (b : ℕ) (a : SideName) (ts : List ℕ) → AllByRecursion (λ (i : Item K). (item_side i ≡ None) × NoStep i) (drop_items b a ts)
drops_plain K b a [] = tt
drops_plain K b a (t ∷ ts) = ((refl, tt), drops_plain K b a ts)

abbrev step_named : {K : Types} → Item K → RowStep
step_named (Row c step) = step
step_named _ = Resolve

made_turn : (K : Types) (b : ℕ) (held : Bool) (other : RowStep) (a : SideName) → Among {A = Item K} (row_items b (if held then RunFallback ∷ ShowFallback ∷ [] else ShowChildren ∷ Resolve ∷ [])) (Row b other) → turns other ≡ Some a → Some FallbackSide ≡ Some a
made_turn K b true other a (inl e) turn = ap (λ (i : Item K). turns (step_named i)) e ∙ turn
made_turn K b true other a (inr (inl e)) turn = let absurdity : None ≡ Some a = ap (λ (i : Item K). turns (step_named i)) e ∙ turn in cc
made_turn K b true other a (inr (inr e)) turn = absurd e
made_turn K b false other a (inl e) turn = let absurdity : None ≡ Some a = ap (λ (i : Item K). turns (step_named i)) e ∙ turn in cc
made_turn K b false other a (inr (inl e)) turn = let absurdity : None ≡ Some a = ap (λ (i : Item K). turns (step_named i)) e ∙ turn in cc
made_turn K b false other a (inr (inr e)) turn = absurd e

module _ {K : Types} (app : Application K) where
  -- what a run did to the sides of its scope, and of which sides its work is
  pub record RunSides (s : ℕ) (x y : Scope K) (work : List (Item K)) : Type 0 where
    pub sides : (a : SideName) → SideDid app (side_of x a) (side_of y a)
    -- where a step of its run is left no side was patched and no item is of a side
    pub rows : (step : RowStep) → Among work (Row s step) → ((a : SideName) → side_of y a ≡ side_of x a) × ((j : Item K) → Among work j → item_side j ≡ None)

  pub run_sides : (w v : State K) (s : ℕ) (x y : Scope K) (work : List (Item K)) → at w.scopes s ≡ Some x → at v.scopes s ≡ Some y → RunDid app w s x v work → RunSides s x y work
  run_sides w v s x y work here found (inl h) =
      let m : Matches y x = after_of (at v.scopes s) x y (h.1.0.shows s ∙ ap (λ (o : Option (Scope K)). shown o) here) found in
      let rows : List (Item K) = row_items s (row_of x.shows (is_held x)) in
      record {
        sides = λ a. inl (m.sides a);
        rows = λ step e. (m.sides, λ j g. every_among (λ (i : Item K). item_side i ≡ None) rows j (rows_plain K s (row_of x.shows (is_held x))) (subst (λ (xs : List (Item K)). Among xs j) h.1.1 g));
      }
  run_sides w v s x y work here found (inr (no_boundary, inl p)) =
      record { sides = λ a. (patch_sides app s MainSide x y v work found p a).1; rows = λ step e. absurd (patch_item app s MainSide x v work (Row s step) p e).1 }
  run_sides w v s x y work here found (inr (no_boundary, inr h)) =
      let m : Matches y x = after_of (at v.scopes s) x y (h.1.shows s ∙ ap (λ (o : Option (Scope K)). shown o) here) found in
      record { sides = λ a. inl (m.sides a); rows = λ step e. absurd (subst (λ (xs : List (Item K)). Among xs (Row s step)) h.0 e) }

  -- what a step of a boundary's run did
  pub record StepSides (b : ℕ) (step : RowStep) (x y : Scope K) (work : List (Item K)) : Type 0 where
    pub sides : (a : SideName) → SideDid app (side_of x a) (side_of y a)
    -- a side that it doesn't patch stays, but for the fallback that is dropped
    pub stays : (a : SideName) → (turns step ≡ Some a → ⊥) → ((step ≡ DropFallback) × (a ≡ FallbackSide) → ⊥) → side_of y a ≡ side_of x a
    pub cleared : step ≡ DropFallback → side_of y FallbackSide ≡ empty_side
    -- its items are of the side that it patches
    pub items : (j : Item K) (a : SideName) → Among work j → item_side j ≡ Some a → turns step ≡ Some a
    -- a step that it opens patches the side that it leads to, and then it patches none itself
    pub rows : (other : RowStep) → Among work (Row b other) → ((a : SideName) → side_of y a ≡ side_of x a) × ((j : Item K) → Among work j → item_side j ≡ None) × ((a : SideName) → turns other ≡ Some a → turns step ≡ Some a)

  patch_step : (b : ℕ) (step : RowStep) (d : SideName) (x y : Scope K) (v : State K) (work : List (Item K)) → turns step ≡ Some d → at v.scopes b ≡ Some y → Patch app b d x v work → StepSides b step x y work
  patch_step b step d x y v work turn found p =
      record {
        sides = λ a. (patch_sides app b d x y v work found p a).1;
        stays = λ a n m. (patch_sides app b d x y v work found p a).0 (λ e. n (turn ∙ ap (λ (i : SideName). Some i) (sym e)));
        cleared = λ q. let absurdity : None ≡ Some d = sym (ap (λ (i : RowStep). turns i) q) ∙ turn in cc;
        items =
            λ j a g e.
            elim (patch_item app b d x v work j p g).0 [
              | inl none ↦ (let absurdity : None ≡ Some a = sym none ∙ e in cc)
              | inr one ↦ turn ∙ sym one ∙ e
            ];
        rows = λ other g. absurd (patch_item app b d x v work (Row b other) p g).1;
      }

  still_step : (b : ℕ) (step : RowStep) (x y : Scope K) (work : List (Item K)) → ((a : SideName) → side_of y a ≡ side_of x a) → work ≡ [] → (step ≡ DropFallback → ⊥) → StepSides b step x y work
  still_step b step x y work same idle other =
      record {
        sides = λ a. inl (same a);
        stays = λ a n m. same a;
        cleared = λ q. absurd (other q);
        items = λ j a g e. absurd (subst (λ (xs : List (Item K)). Among xs j) idle g);
        rows = λ other g. absurd (subst (λ (xs : List (Item K)). Among xs (Row b other)) idle g);
      }

  shows_sides : (x : Scope K) (o : Option SideName) (a : SideName) → side_of (record x { shows = o }) a ≡ side_of x a
  shows_sides x o MainSide = refl
  shows_sides x o ChildrenSide = refl
  shows_sides x o FallbackSide = refl

  cleared_sides : (x y : Scope K) → Matches y (record x { fallback_side = empty_side }) → (a : SideName) → SideDid app (side_of x a) (side_of y a)
  cleared_sides x y m MainSide = inl (m.sides MainSide)
  cleared_sides x y m ChildrenSide = inl (m.sides ChildrenSide)
  cleared_sides x y m FallbackSide = inr (inr (m.sides FallbackSide))

  cleared_stays : (x y : Scope K) → Matches y (record x { fallback_side = empty_side }) → (a : SideName) → (a ≡ FallbackSide → ⊥) → side_of y a ≡ side_of x a
  cleared_stays x y m MainSide n = m.sides MainSide
  cleared_stays x y m ChildrenSide n = m.sides ChildrenSide
  cleared_stays x y m FallbackSide n = absurd (n refl)

  pub step_sides : (w v : State K) (b : ℕ) (step : RowStep) (x y : Scope K) (work : List (Item K)) → at v.scopes b ≡ Some y → StepDid app w b x step v work → StepSides b step x y work
  step_sides w v b PatchChildren x y work found p = patch_step b PatchChildren ChildrenSide x y v work refl found p
  step_sides w v b MadeChildren x y work found h =
      let m : Matches y x = after_of (at v.scopes b) x y h.0 found in
      let steps : List RowStep = if is_held x then RunFallback ∷ ShowFallback ∷ [] else ShowChildren ∷ Resolve ∷ [] in
      let plain : (j : Item K) → Among work j → item_side j ≡ None = λ j g. every_among (λ (i : Item K). item_side i ≡ None) (row_items b steps) j (rows_plain K b steps) (subst (λ (xs : List (Item K)). Among xs j) h.1 g) in
      record {
        sides = λ a. inl (m.sides a);
        stays = λ a n k. m.sides a;
        cleared = λ q. cc;
        items = λ j a g e. let absurdity : None ≡ Some a = sym (plain j g) ∙ e in cc;
        rows = λ other g. (m.sides, plain, λ a turn. made_turn K b (is_held x) other a (subst (λ (xs : List (Item K)). Among xs (Row b other)) h.1 g) turn);
      }
  step_sides w v b RunFallback x y work found p = patch_step b RunFallback FallbackSide x y v work refl found p
  step_sides w v b ShowFallback x y work found h =
      let m = after_of (at v.scopes b) (record x { shows = Some FallbackSide }) y h.0 found in still_step b ShowFallback x y work (λ a. m.sides a ∙ shows_sides x (Some FallbackSide) a) h.1 (λ q. cc)
  step_sides w v b ShowChildren x y work found h =
      let m = after_of (at v.scopes b) (record x { shows = Some ChildrenSide }) y h.0 found in still_step b ShowChildren x y work (λ a. m.sides a ∙ shows_sides x (Some ChildrenSide) a) h.1 (λ q. cc)
  step_sides w v b DropFallback x y work found h =
      let m : Matches y (record x { fallback_side = empty_side }) = after_of (at v.scopes b) (record x { fallback_side = empty_side }) y h.0 found in
      let plain : (j : Item K) → Among work j → (item_side j ≡ None) × NoStep j =
      λ j g. every_among (λ (i : Item K). (item_side i ≡ None) × NoStep i) (drop_items b FallbackSide h.1.0) j (drops_plain K b FallbackSide h.1.0) (subst (λ (xs : List (Item K)). Among xs j) h.1.1 g) in
      record {
        sides = cleared_sides x y m;
        stays = λ a n k. cleared_stays x y m a (λ e. k (refl, e));
        cleared = λ q. m.sides FallbackSide;
        items = λ j a g e. let absurdity : None ≡ Some a = sym (plain j g).0 ∙ e in cc;
        rows = λ other g. absurd (plain (Row b other) g).1;
      }
  step_sides w v b Resolve x y work found h = let m : Matches y x = after_of (at v.scopes b) x y h.0 found in still_step b Resolve x y work m.sides h.1 (λ q. cc)
