-- Each change of the open work keeps it in order.
use Rattle.std.proofs.Common.{ℕ, ◌+◌, true, false, List, [], ◌∷◌, ◌++◌, ◌≡◌, ◌⊎◌, inl, inr, refl, sym, ap, ◌∙◌, subst, arith, nat_eq}
use Rattle.std.specs.Prelude.{Option, Some, None, is_some}
use Rattle.std.specs.List.{AllByRecursion}
use Rattle.std.proofs.lemmas.Bool.{eqb-true}
use Rattle.rt_model.specs.Lists.{at, put}
use Rattle.rt_model.specs.Tree.{Types, Tree, Place, Kind, VComponent, Spot, component_at, spots}
use Rattle.rt_model.specs.World.{before_render_kind, Application}
use Rattle.rt_model.specs.Laws.{IsLawful}
use Rattle.rt_model.specs.State.{SideName, MainSide, ChildrenSide, FallbackSide, RowStep, PatchChildren, MadeChildren, RunFallback, ShowFallback, ShowChildren, DropFallback, Resolve, Side, Scope, State, Item, Draw, Row, Feed, Make, Drop, Outcome, Done, Cut, onward, side_of, with_side, empty_side, change, changed_scope, is_live, height_of}
use Rattle.rt_model.specs.Run.{child_at, spots_of, kept_numbers, kept_children, serves, drops_of, patched, start_agenda, unmarked, hooks_called, run_as, run}
use Rattle.rt_model.specs.Boundary.{side_scopes, drop_items, row_step, boundary_step}
use Rattle.rt_model.specs.Replay.{numbered, with_props}
use Rattle.rt_model.proofs.Maps.{by_test, eq_same, at_put_other, at_put_here}
use Rattle.rt_model.proofs.Among.{Among, among_left, among_right}
use Rattle.rt_model.proofs.Places.{Distinct, spots_distinct}
use Rattle.rt_model.proofs.Stands.{Stands}
use Rattle.law_moves.specs.Removals.{Apart}
use Rattle.law_moves.proofs.Woods.{ChildOf, side_children}
use Rattle.law_moves.proofs.Twigs.{bare, twig, twig_up, twig_below, twig_side, up, below, side_at, kids, slots, HasSlot, SameTwigs, live_by, height_by, up_by, below_by, side_found, by_scope, live_found, child_knows, child_place}
use Rattle.law_moves.proofs.Woven.{owner, Fits, Behind, After, Stack, InSlot, Whole, kids_same, whole_same}
use Rattle.law_moves.proofs.Lists.{every_join, Pairs}
use Rattle.law_moves.proofs.Patched.{by_side, Turns, IsRow, Aside, Idle, behind_row, Ours, has_kid_other, stacked, patched_whole}
use Rattle.law_moves.proofs.Made.{same_rest, other_side, that_side}
use Rattle.law_moves.proofs.Taken.{among_slots, live_up}
use Rattle.law_moves.proofs.Opens.{Opens, OwnRows, run_opens, row_opens}

-- drops, one after another

drops_behind : (K : Types) (t b : ℕ) (a : SideName) (ts : List ℕ) → AllByRecursion (λ (k : ℕ). nat_eq t k ≡ false) ts → AllByRecursion (λ (j : Item K). Behind (Drop t b a) j) (drop_items b a ts)
drops_behind K t b a [] h = tt
drops_behind K t b a (k ∷ ts) h = (h.0, drops_behind K t b a ts h.1)

drops_paired : (K : Types) (b : ℕ) (a : SideName) (ts : List ℕ) → Apart ts → Pairs {K = K} (drop_items b a ts)
drops_paired K b a [] h = tt
drops_paired K b a (t ∷ ts) h = (drops_behind K t b a ts h.0, drops_paired K b a ts h.1)

drop_among : (K : Types) (b : ℕ) (a : SideName) (ts : List ℕ) (t : ℕ) → Among ts t → Among (drop_items {K = K} b a ts) (Drop t b a)
drop_among K b a [] t h = absurd h
drop_among K b a (k ∷ ts) t (inl e) = inl (ap {B = Item K} (λ (n : ℕ). Drop n b a) e)
drop_among K b a (k ∷ ts) t (inr g) = inr (drop_among K b a ts t g)

module _ {K : Types} where
  -- where a change isn't cut the open work fits the tree, and no removal is under way
  abbrev pub WholeO : List (Item K) → Outcome K → Type 0
  WholeO rest (Done v work) = Whole v (work ++ rest)
  WholeO rest (Cut v fault) = Unit {0}

  -- what live children know, and that each stands at one place
  pub record Knows (w : State K) : Type 0 where
    pub parents : (s t : ℕ) (a : SideName) (p : Place) → child_at (kids w s a) p ≡ Some t → is_live w t ≡ true → (up w t ≡ Some s) × (below w t ≡ Some a)
    pub places : (s t : ℕ) (a : SideName) (p q : Place) → Among (kids w s a) (p, t) → Among (kids w s a) (q, t) → p ≡ q

  pub knows_of : (w : State K) (work : List (Item K)) → Stands w work → Knows w
  knows_of w work h = record { parents = λ s t a p e live. child_knows w work h s t a p e live; places = λ s t a p q e f. child_place w work h s t a p q e f }

  pub knows_same : (w u : State K) → SameTwigs w u → Knows w → Knows u
  knows_same w u same h =
      record {
        parents =
            λ s t a p e live.
            let told = h.parents s t a p (sym (ap (λ (xs : List (Place × ℕ)). child_at xs p) (kids_same w u same s a)) ∙ e) (sym (live_by w u t (same t)) ∙ live) in
            (up_by w u t (same t) ∙ told.0, below_by w u t (same t) ∙ told.1);
        places =
            λ s t a p q e f.
            h.places s t a p q (subst (λ xs. Among xs (p, t)) (kids_same w u same s a) e) (subst (λ xs. Among xs (q, t)) (kids_same w u same s a) f);
      }

  aside_same : (w u : State K) (s : ℕ) (j : Item K) → SameTwigs w u → Aside w s j → Aside u s j
  aside_same w u s j same (inl low) = let x = height_by w u (owner j) (same (owner j)) in let y = height_by w u s (same s) in inl (omega (arith, low, x, y))
  aside_same w u s j same (inr row) = inr row

  pub idle_same : (w u : State K) (s : ℕ) (rest : List (Item K)) → SameTwigs w u → Idle w s rest → Idle u s rest
  idle_same w u s [] same h = tt
  idle_same w u s (j ∷ rest) same h = (aside_same w u s j same h.0, idle_same w u s rest same h.1)

  spots_apart : (o : Option (Tree K)) → Distinct (spots_of o)
  spots_apart None = tt
  spots_apart (Some tree) = spots_distinct [] tree

  -- a side is put in the place of another one
  module _ (w : State K) (s : ℕ) (a : SideName) (x : Scope K) (z : Side K) (found : at w.scopes s ≡ Some x) where
    abbrev pub put_side : State K
    put_side = record w { scopes = put w.scopes s (with_side x a z) }

    at_here : at put_side.scopes s ≡ Some (with_side x a z)
    at_here = at_put_here w.scopes s (with_side x a z) s (eq_same s)

    put_part : {A : Type 0} (g : Option (Scope K) → A) (t : ℕ) → g (Some (with_side x a z)) ≡ g (Some x) → g (at put_side.scopes t) ≡ g (at w.scopes t)
    put_part g t e =
        by_test (nat_eq s t)
        (
        λ q.
        ap (λ (i : ℕ). g (at put_side.scopes i)) (sym (eqb-true s t q)) ∙ ap g at_here ∙ e ∙ sym (ap g found) ∙ ap (λ (i : ℕ). g (at w.scopes i)) (eqb-true s t q)
        )
        (λ q. ap g (at_put_other w.scopes s (with_side x a z) t q))

    put_else : (t : ℕ) (b : SideName) → (t ≡ s → b ≡ a → ⊥) → side_at put_side t b ≡ side_at w t b
    put_else t b other =
        by_test (nat_eq s t)
        (
        λ q.
        let same : s ≡ t = eqb-true s t q in
        ap (λ (i : ℕ). side_at put_side i b) (sym same)
        ∙ side_found put_side s b (with_side x a z) at_here
        ∙ ap (λ (i : Side K). bare i) (other_side x a b z (λ e. other (sym same) e))
        ∙ sym (side_found w s b x found)
        ∙ ap (λ (i : ℕ). side_at w i b) same
        )
        (λ q. ap (λ (o : Option (Scope K)). twig_side b (twig o)) (at_put_other w.scopes s (with_side x a z) t q))

    put_here : side_at put_side s a ≡ bare z
    put_here = side_found put_side s a (with_side x a z) at_here ∙ ap (λ (i : Side K). bare i) (that_side x a z)

    pub put_turns : (left : List (Place × ℕ)) → z.children ≡ left → Turns w put_side s a (spots_of z.output) left
    put_turns left e =
        record {
          lives = λ t. put_part (λ (o : Option (Scope K)). is_some o) t refl;
          ups = λ t. put_part (λ (o : Option (Scope K)). twig_up (twig o)) t (same_rest x a z).0;
          belows = λ t. put_part (λ (o : Option (Scope K)). twig_below (twig o)) t (ap Some (same_rest x a z).2);
          heights = λ t. put_part (λ (o : Option (Scope K)). elim o as (λ i. ℕ) [ None ↦ 0 | Some i ↦ i.height ]) t (same_rest x a z).1;
          others = put_else;
          slots_here = ap (λ (i : Side K). spots_of i.output) put_here;
          kids_here = ap (λ (i : Side K). i.children) put_here ∙ e;
        }

  -- steps of a scope's own run come before the rest
  rows_after : (w : State K) (s : ℕ) (i : Item K) (rest : List (Item K)) → owner i ≡ s → IsRow i → Idle w s rest → AllByRecursion (λ (j : Item K). After w i j) rest
  rows_after w s i [] own row h = tt
  rows_after w s i (j ∷ rest) own row h = (one h.0, rows_after w s i rest own row h.1)
    where
      one : Aside w s j → After w i j
      one (inl low) = let level : height_of w.scopes (owner i) ≡ height_of w.scopes s = ap (λ (n : ℕ). height_of w.scopes n) own in inl (omega (arith, low, level))
      one (inr r) = inr (r.0 ∙ sym own, behind_row i j r.1)

  rows_between : (w : State K) (s : ℕ) (i : Item K) (work : List (Item K)) → owner i ≡ s → OwnRows s work → AllByRecursion (λ (j : Item K). After w i j) work
  rows_between w s i [] own h = tt
  rows_between w s i (j ∷ work) own h = (inr (h.0.0 ∙ sym own, behind_row i j h.0.1), rows_between w s i work own h.1)

  row_fits : (w : State K) (i : Item K) → IsRow i → Fits w i
  row_fits w (Row b step) r = tt
  row_fits w (Draw s a p k) r = absurd r
  row_fits w (Feed s a p c) r = absurd r
  row_fits w (Make s a p c) r = absurd r
  row_fits w (Drop t s a) r = absurd r

  rows_stack : (w : State K) (s : ℕ) (work rest : List (Item K)) → is_live w s ≡ true → OwnRows s work → Idle w s rest → Stack w rest → Stack w (work ++ rest)
  rows_stack w s [] rest live own idle h = h
  rows_stack w s (i ∷ work) rest live own idle h = (
    ap (λ (n : ℕ). is_live w n) own.0.0 ∙ live,
    row_fits w i own.0.1,
    every_join (λ (j : Item K). After w i j) work rest (rows_between w s i work own.0.0 own.1) (rows_after w s i rest own.0.0 own.0.1 idle),
    rows_stack w s work rest live own.1 idle h,
  )

  more_work : (w : State K) (work rest : List (Item K)) → Stack w (work ++ rest) → Whole w rest → Whole w (work ++ rest)
  more_work w work rest stack h =
      record {
        stack = stack;
        attached =
            λ v p e.
            let was = h.attached v p e in
            (was.0, elim was.1 [ inl i ↦ inl i | inr d ↦ inr (d.0, among_right work rest (Drop v p d.0) d.1) ]);
        full = λ s a p c e. elim (h.full s a p c e) [ inl k ↦ inl k | inr m ↦ inr (m.0, among_right work rest (Make s a p m.0) m.1) ];
      }

  -- a fallback is emptied, and its children are dropped
  module _ (w : State K) (b : ℕ) (x : Scope K) (found : at w.scopes b ≡ Some x) (k : Knows w) (rest : List (Item K)) (h : Whole w rest) (idle : Idle w b rest)
      (apart : Apart (side_scopes w x.fallback_side)) where
    abbrev emptied : State K
    emptied = put_side w b FallbackSide x empty_side found

    abbrev gone : List ℕ
    gone = side_scopes w x.fallback_side

    turns : Turns w emptied b FallbackSide [] []
    turns = put_turns w b FallbackSide x empty_side found [] refl

    child_fits : (t : ℕ) → ChildOf w x.fallback_side t → Fits emptied (Drop t b FallbackSide)
    child_fits t c =
        let there : child_at (kids w b FallbackSide) c.place ≡ Some t = ap (λ (i : Side K). child_at i.children c.place) (side_found w b FallbackSide x found) ∙ c.child in
        let told = k.parents b t FallbackSide c.place there c.live in
        let none : (q : Place) → child_at (kids emptied b FallbackSide) q ≡ Some t → ⊥ =
        λ q e.
        let absurdity : None ≡ Some t = sym (ap (λ (xs : List (Place × ℕ)). child_at xs q) turns.kids_here) ∙ e in
        cc in
        (turns.lives t ∙ c.live, turns.ups t ∙ told.0, turns.belows t ∙ told.1, none)

    children_fit : (ts : List ℕ) → AllByRecursion (λ (t : ℕ). ChildOf w x.fallback_side t) ts → Ours emptied b (drop_items b FallbackSide ts)
    children_fit [] c = tt
    children_fit (t ∷ ts) c = ((refl, child_fits t c.0), children_fit ts c.1)

    in_slot_else : (v p : ℕ) → InSlot w v p → up w v ≡ Some p → InSlot emptied v p ⊎ ((a : SideName) × Among (drop_items b FallbackSide gone ++ rest) (Drop v p a))
    in_slot_else v p i e =
        by_side p b i.side FallbackSide
        (
        λ here.
        let slot : HasSlot w b FallbackSide i.place = subst (λ (n : ℕ). HasSlot w n FallbackSide i.place) here.0 (subst (λ (a : SideName). HasSlot w p a i.place) here.1 i.slot) in
        let kid : child_at (kids w b FallbackSide) i.place ≡ Some v =
        sym (ap (λ (n : ℕ). child_at (kids w n FallbackSide) i.place) here.0) ∙ sym (ap (λ (a : SideName). child_at (kids w p a) i.place) here.1) ∙ i.kid in
        let side = side_found w b FallbackSide x found in
        let child : Among gone v =
        among_slots w x.fallback_side.children (spots_of x.fallback_side.output) i.place slot.0 v
        (subst (λ (z : Side K). Among (spots_of z.output) (component_at i.place slot.0)) side slot.1)
        (ap (λ (z : Side K). child_at z.children i.place) (sym side) ∙ kid) (live_up w v p e) in
        let item : Among (drop_items b FallbackSide gone ++ rest) (Drop v b FallbackSide) =
        among_left (drop_items b FallbackSide gone) rest (Drop v b FallbackSide) (drop_among K b FallbackSide gone v child) in
        inr (FallbackSide, subst (λ (n : ℕ). Among (drop_items b FallbackSide gone ++ rest) (Drop v n FallbackSide)) (sym here.0) item)
        )
        (
        λ other.
        let same = turns.others p i.side other in
        inl
        (record {
          side = i.side;
          place = i.place;
          below_is = turns.belows v ∙ i.below_is;
          slot = (i.slot.0, subst (λ (z : Side K). Among (spots_of z.output) (component_at i.place i.slot.0)) (sym same) i.slot.1);
          kid = ap (λ (z : Side K). child_at z.children i.place) same ∙ i.kid;
        })
        )

    emptied_whole : Whole emptied (drop_items b FallbackSide gone ++ rest)
    emptied_whole =
        record {
          stack = stacked w emptied b FallbackSide [] [] turns (drop_items b FallbackSide gone) rest (live_found w b x found) (children_fit gone (side_children w x.fallback_side))
              (drops_paired K b FallbackSide gone apart) idle h.stack;
          attached =
              λ v p e.
              let up_old : up w v ≡ Some p = sym (turns.ups v) ∙ e in
              let was = h.attached v p up_old in
              (turns.lives p ∙ was.0, elim was.1 [ inl i ↦ in_slot_else v p i up_old | inr d ↦ inr (d.0, among_right (drop_items b FallbackSide gone) rest (Drop v p d.0) d.1) ]);
          full =
              λ s a p c e.
              by_side s b a FallbackSide
              (
              λ here.
              absurd
              (subst (λ xs. Among xs (component_at p c)) turns.slots_here
              (subst (λ (n : ℕ). Among (slots emptied n FallbackSide) (component_at p c)) here.0 (subst (λ (i : SideName). Among (slots emptied s i) (component_at p c)) here.1 e)))
              )
              (
              λ other.
              elim (h.full s a p c (subst (λ (z : Side K). Among (spots_of z.output) (component_at p c)) (turns.others s a other) e)) [
                | inl g ↦ inl (has_kid_other w emptied b FallbackSide [] [] turns s a p other g)
                | inr m ↦ inr (m.0, among_right (drop_items b FallbackSide gone) rest (Make s a p m.0) m.1)
              ]
              );
        }

    pub dropped_whole : Whole (change w b (λ y. record y { fallback_side = empty_side })) (drop_items b FallbackSide gone ++ rest)
    dropped_whole =
        subst (λ (v : State K). Whole v (drop_items b FallbackSide gone ++ rest))
        (sym (ap (λ (o : Option (Scope K)). changed_scope w b (λ y. record y { fallback_side = empty_side }) o) found)) emptied_whole

module _ {K : Types} (app : Application K) where
  -- the tree becomes the output of a side
  agenda_at : (w : State K) (rest : List (Item K)) (s : ℕ) (a : SideName) (tree : Tree K) (o : Option (Scope K)) → at w.scopes s ≡ o → Knows w → Whole w rest → Idle w s rest
      → WholeO rest (elim o as (λ z. Outcome K) [ None ↦ Done w [] | Some x ↦ patched app w s a tree (spots_of (side_of x a).output) (spots [] tree) (side_of x a) x ])
  agenda_at w rest s a tree None found k h idle = h
  agenda_at w rest s a tree (Some x) found k h idle =
      let was : Side K = side_of x a in
      let new : List (Spot K) = spots [] tree in
      let z : Side K = record {
        output = Some tree;
        numbers = kept_numbers new was.numbers;
        children = kept_children app (spots_of was.output) new was.children;
      } in
      let v : State K = put_side w s a x z found in
      let side = side_found w s a x found in
      let f : Turns w v s a new (kept_children app (slots w s a) new (kids w s a)) =
      put_turns w s a x z found (kept_children app (slots w s a) new (kids w s a)) (sym (ap (λ (i : Side K). kept_children app (spots_of i.output) new i.children) side)) in
      subst (λ (i : Side K). Whole v ((serves app s a (spots_of i.output) new ++ drops_of app s a new i.children (spots_of i.output)) ++ rest)) side
      (patched_whole app w v s a new rest f (live_found w s x found) idle h (spots_apart (side_at w s a).output) (spots_distinct [] tree)
      (λ t p e live. k.parents s t a p e live)
      (λ t p q e g. k.places s t a p q e g))

  agenda_whole : (w : State K) (rest : List (Item K)) (s : ℕ) (a : SideName) (tree : Tree K) → Knows w → Whole w rest → Idle w s rest → WholeO rest (start_agenda app w s a tree)
  agenda_whole w rest s a tree k h idle = agenda_at w rest s a tree (at w.scopes s) refl k h idle

  opens_whole : (w : State K) (rest : List (Item K)) (s : ℕ) (o : Outcome K) → Opens app w s o → Knows w → Whole w rest → Idle w s rest → is_live w s ≡ true → WholeO rest o
  opens_whole w rest s (Cut v fault) how k h idle live = tt
  opens_whole w rest s (Done v work) (inl how) k h idle live =
      let now : Whole v rest = whole_same w v how.0 rest h in
      more_work v work rest (rows_stack v s work rest (live_by w v s (how.0 s) ∙ live) how.1 (idle_same w v s rest how.0 idle) now.stack) now
  opens_whole w rest s (Done v work) (inr how) k h idle live =
      let u : State K = how.2 in
      let same : SameTwigs w u = how.3 in
      subst (λ (o : Outcome K). WholeO rest o) how.4
      (agenda_whole u rest s how.0 how.1 (knows_same w u same k) (whole_same w u same rest h) (idle_same w u s rest same idle))

module _ {K : Types} (app : Application K) (lawful : IsLawful K app) where
  -- a run
  pub run_whole : (w : State K) (rest : List (Item K)) (s : ℕ) → Knows w → Whole w rest → Idle w s rest → WholeO rest (run app w s)
  run_whole w rest s k h idle =
      by_scope (at w.scopes s)
      (
      λ none.
      subst
      (λ (o : Option (Scope K)). WholeO rest (elim o as (λ z. Outcome K) [
        | None ↦ Done w []
        | Some x ↦ onward (hooks_called app before_render_kind (unmarked w s) s x.hooks) (λ v. run_as app v s x x.component)
      ]))
      (sym none) h
      )
      (λ x found. opens_whole app w rest s (run app w s) (run_opens app lawful w s) k h idle (live_found w s x found))

  row_whole : (w : State K) (rest : List (Item K)) (b : ℕ) (x : Scope K) (step : RowStep) → at w.scopes b ≡ Some x → Knows w → Whole w rest → Idle w b rest → Apart (side_scopes w x.fallback_side)
      → WholeO rest (row_step app w b x step)
  row_whole w rest b x DropFallback found k h idle apart = dropped_whole w b x found k rest h idle apart
  row_whole w rest b x PatchChildren found k h idle apart = opens_whole app w rest b (row_step app w b x PatchChildren) (row_opens app lawful w b x PatchChildren (λ e. cc)) k h idle (live_found w b x found)
  row_whole w rest b x MadeChildren found k h idle apart = opens_whole app w rest b (row_step app w b x MadeChildren) (row_opens app lawful w b x MadeChildren (λ e. cc)) k h idle (live_found w b x found)
  row_whole w rest b x RunFallback found k h idle apart = opens_whole app w rest b (row_step app w b x RunFallback) (row_opens app lawful w b x RunFallback (λ e. cc)) k h idle (live_found w b x found)
  row_whole w rest b x ShowFallback found k h idle apart = opens_whole app w rest b (row_step app w b x ShowFallback) (row_opens app lawful w b x ShowFallback (λ e. cc)) k h idle (live_found w b x found)
  row_whole w rest b x ShowChildren found k h idle apart = opens_whole app w rest b (row_step app w b x ShowChildren) (row_opens app lawful w b x ShowChildren (λ e. cc)) k h idle (live_found w b x found)
  row_whole w rest b x Resolve found k h idle apart = opens_whole app w rest b (row_step app w b x Resolve) (row_opens app lawful w b x Resolve (λ e. cc)) k h idle (live_found w b x found)

  -- a step of a boundary's run
  pub step_whole : (w : State K) (rest : List (Item K)) (b : ℕ) (step : RowStep) → Knows w → Whole w rest → Idle w b rest
      → ((x : Scope K) → at w.scopes b ≡ Some x → Apart (side_scopes w x.fallback_side))
      → WholeO rest (boundary_step app w b step)
  step_whole w rest b step k h idle apart =
      by_scope (at w.scopes b)
      (λ none. subst (λ (o : Option (Scope K)). WholeO rest (elim o as (λ z. Outcome K) [ None ↦ Done w [] | Some x ↦ row_step app w b x step ])) (sym none) h)
      (
      λ x found.
      subst (λ (o : Option (Scope K)). WholeO rest (elim o as (λ z. Outcome K) [ None ↦ Done w [] | Some y ↦ row_step app w b y step ])) (sym found)
      (row_whole w rest b x step found k h idle (apart x found))
      )

module _ {K : Types} where
  changed_twigs : (w : State K) (s : ℕ) (f : Scope K → Scope K) (o : Option (Scope K)) → at w.scopes s ≡ o → ((x : Scope K) → twig (Some (f x)) ≡ twig (Some x)) → SameTwigs w (changed_scope w s f o)
  changed_twigs w s f None found h t = refl
  changed_twigs w s f (Some x) found h t =
      by_test (nat_eq s t)
      (
      λ q.
      ap (λ (o : Option (Scope K)). twig o) (at_put_here w.scopes s (f x) t q)
      ∙ h x
      ∙ sym (ap (λ (o : Option (Scope K)). twig o) found)
      ∙ ap (λ (i : ℕ). twig (at w.scopes i)) (eqb-true s t q)
      )
      (λ q. ap (λ (o : Option (Scope K)). twig o) (at_put_other w.scopes s (f x) t q))

  -- what changes no parent, no height and no child of any side leaves the tree
  pub change_twigs : (w : State K) (s : ℕ) (f : Scope K → Scope K) → ((x : Scope K) → twig (Some (f x)) ≡ twig (Some x)) → SameTwigs w (change w s f)
  change_twigs w s f h = changed_twigs w s f (at w.scopes s) refl h

  more_numbers : (x : Scope K) (side : SideName) (numbers : List (Place × Kind × ℕ)) → twig (Some (with_side x side (record (side_of x side) { numbers = numbers }))) ≡ twig (Some x)
  more_numbers x MainSide numbers = refl
  more_numbers x ChildrenSide numbers = refl
  more_numbers x FallbackSide numbers = refl

  pub numbered_twigs : (w : State K) (s : ℕ) (side : SideName) (p : Place) (k : Kind) → SameTwigs w (numbered w s side p k)
  numbered_twigs w s side p k =
      change_twigs (record w { next = record (w.next) { elements = w.next.elements + 1 } }) s
      (λ x. with_side x side (record (side_of x side) { numbers = (side_of x side).numbers ++ (p, k, w.next.elements) ∷ [] }))
      (λ x. more_numbers x side ((side_of x side).numbers ++ (p, k, w.next.elements) ∷ []))

module _ {K : Types} (app : Application K) where
  pub props_twigs : (w : State K) (t : ℕ) (c : VComponent K) → SameTwigs w (with_props app w t c)
  props_twigs w t c = change_twigs w t (λ x. record x { component = c }) (λ x. refl)
