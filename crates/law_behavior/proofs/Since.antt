-- What holds of the scopes whose bodies ran since the last look: nothing that is owed or open names one of them.
use Rattle.std.proofs.Common.{ℕ, ◌≤◌, ◌<◌, Bool, true, false, List, [], ◌∷◌, ◌++◌, ◌≡◌, ◌⊎◌, inl, inr, refl, sym, ap, ◌∙◌, subst, arith}
use Rattle.std.specs.Prelude.{Option, Some, None}
use Rattle.std.specs.List.{AllByRecursion}
use Rattle.law_headline.proofs.Lines.{among_either}
use Rattle.rt_model.specs.Lists.{at, has}
use Rattle.rt_model.specs.Tree.{Types, Tree, Place, VComponent, spots}
use Rattle.rt_model.specs.World.{Application}
use Rattle.rt_model.specs.State.{SideName, RowStep, Side, Scope, State, Item, Row, Feed, Outcome, Done, side_of, is_live, height_of}
use Rattle.rt_model.specs.Run.{child_at, kept_numbers, kept_children, spots_of, patched}
use Rattle.rt_model.proofs.Among.{Among}
use Rattle.law_moves.proofs.Twigs.{up, below, kids, SameTwigs, height_by, up_by, below_by, side_by}
use Rattle.law_moves.proofs.Woven.{owner, Fits, Stack}
use Rattle.law_moves.proofs.Lists.{some_number, every_among}
use Rattle.law_moves.proofs.Opens.{Opens}
use Rattle.law_moves.proofs.Weaves.{Knows, put_side, put_turns}
use Rattle.law_behavior.proofs.Lines.{turns, Line, OfTurn, turn_owner, Clear, line_opened}

module _ {K : Types} where
  -- no scope becomes seen
  abbrev pub Fades : State K → State K → Type 0
  Fades w v = (x : ℕ) → has v.seen x ≡ true → has w.seen x ≡ true

  -- a scope isn't higher than any that is seen or that open work is of
  abbrev pub Early : State K → List (Item K) → ℕ → Type 0
  Early w work u =
      ((x : ℕ) → has w.seen x ≡ true → height_of w.scopes u ≤ height_of w.scopes x) × ((j : Item K) → Among work j → height_of w.scopes u ≤ height_of w.scopes (owner j))

  pub record Since (ran : ℕ → Type 0) (w : State K) (work : List (Item K)) : Type 0 where
    pub unseen : (u : ℕ) → ran u → has w.seen u ≡ false
    pub unfed : (u s : ℕ) (a : SideName) (p : Place) (c : VComponent K) → ran u → Among work (Feed s a p c) → child_at (kids w s a) p ≡ Some u → ⊥
    pub unturned : (u b : ℕ) (step : RowStep) (a : SideName) → ran u → up w u ≡ Some b → below w u ≡ Some a → Among work (Row b step) → turns step ≡ Some a → ⊥
    pub above : (u p : ℕ) → ran u → up w u ≡ Some p → ran p ⊎ Early w work u
    pub owners : (j : Item K) → Among work j → ran (owner j)
    pub drawn : (u : ℕ) → ran u → u < w.next_scope
    pub line : Line work

  -- from w to v the tree stays but for the children of one scope
  pub record Shift (w v : State K) (s : ℕ) : Type 0 where
    pub ups : (t : ℕ) → up v t ≡ up w t
    pub belows : (t : ℕ) → below v t ≡ below w t
    pub heights : (t : ℕ) → height_of v.scopes t ≡ height_of w.scopes t
    pub kept : (t : ℕ) (a : SideName) → (t ≡ s → ⊥) → kids v t a ≡ kids w t a

  pub shift_same : (w v : State K) (s : ℕ) → SameTwigs w v → Shift w v s
  shift_same w v s same =
      record {
        ups = λ t. up_by w v t (same t);
        belows = λ t. below_by w v t (same t);
        heights = λ t. height_by w v t (same t);
        kept = λ t a n. ap (λ (i : Side K). i.children) (side_by w v t a (same t));
      }

  pub shift_then : (u v w : State K) (s : ℕ) → Shift u v s → Shift v w s → Shift u w s
  shift_then u v w s f g =
      record {
        ups = λ t. g.ups t ∙ f.ups t;
        belows = λ t. g.belows t ∙ f.belows t;
        heights = λ t. g.heights t ∙ f.heights t;
        kept = λ t a n. g.kept t a n ∙ f.kept t a n;
      }

  pub put_shift : (w : State K) (s : ℕ) (a : SideName) (x : Scope K) (z : Side K) (found : at w.scopes s ≡ Some x) → Shift w (put_side w s a x z found) s
  put_shift w s a x z found =
      let f = put_turns w s a x z found z.children refl in
      record {
        ups = f.ups;
        belows = f.belows;
        heights = f.heights;
        kept = λ t b n. ap (λ (i : Side K). i.children) (f.others t b (λ e side. n e));
      }

  -- an item of the work goes
  pub since_rest : (ran : ℕ → Type 0) (w : State K) (item : Item K) (rest : List (Item K)) → Since ran w (item ∷ rest) → Since ran w rest
  since_rest ran w item rest h =
      record {
        unseen = h.unseen;
        unfed = λ u s a p c r e. h.unfed u s a p c r (inr e);
        unturned = λ u b step a r e f g. h.unturned u b step a r e f (inr g);
        above = λ u p r e. elim (h.above u p r e) [ inl q ↦ inl q | inr q ↦ inr (q.0, λ j g. q.1 j (inr g)) ];
        owners = λ j e. h.owners j (inr e);
        drawn = h.drawn;
        line = h.line.1;
      }

  pub fades_unseen : (ran : ℕ → Type 0) (w v : State K) → Fades w v → ((u : ℕ) → ran u → has w.seen u ≡ false) → (u : ℕ) → ran u → has v.seen u ≡ false
  fades_unseen ran w v fades unseen u r = one (has v.seen u) refl
    where
      one : (b : Bool) → has v.seen u ≡ b → has v.seen u ≡ false
      one false e = e
      one true e = let absurdity : true ≡ false = sym (fades u e) ∙ unseen u r in cc

  early_same : (w v : State K) (work : List (Item K)) (u : ℕ) → Fades w v → ((t : ℕ) → height_of v.scopes t ≡ height_of w.scopes t) → Early w work u → Early v work u
  early_same w v work u fades level h = (
    λ x q. let a = level u in let b = level x in let c = h.0 x (fades x q) in omega (arith, a, b, c),
    λ j g. let a = level u in let b = level (owner j) in let c = h.1 j g in omega (arith, a, b, c),
  )

  -- a change that leaves the tree
  pub calm_since : (ran : ℕ → Type 0) (w v : State K) (work : List (Item K)) → SameTwigs w v → Fades w v → w.next_scope ≤ v.next_scope → Since ran w work → Since ran v work
  calm_since ran w v work same fades rises h =
      let f = λ (s : ℕ). shift_same w v s same in
      record {
        unseen = fades_unseen ran w v fades h.unseen;
        unfed = λ u s a p c r e kid. h.unfed u s a p c r e (sym (ap (λ (i : Side K). child_at i.children p) (side_by w v s a (same s))) ∙ kid);
        unturned = λ u b step a r e g i. h.unturned u b step a r (sym (up_by w v u (same u)) ∙ e) (sym (below_by w v u (same u)) ∙ g) i;
        above =
            λ u p r e.
            elim (h.above u p r (sym (up_by w v u (same u)) ∙ e)) [
              | inl q ↦ inl q
              | inr q ↦ inr (early_same w v work u fades (λ t. height_by w v t (same t)) q)
            ];
        owners = h.owners;
        drawn = λ u r. let low = h.drawn u r in omega (arith, low, rises);
        line = h.line;
      }

  -- what is fed is live
  pub feed_fits : (v : State K) (work : List (Item K)) (s : ℕ) (a : SideName) (p : Place) (c : VComponent K) → Stack v work → Among work (Feed s a p c) → Fits v (Feed s a p c)
  feed_fits v [] s a p c h e = absurd e
  feed_fits v (i ∷ work) s a p c h (inl e) = subst (λ (j : Item K). Fits v j) e h.1
  feed_fits v (i ∷ work) s a p c h (inr e) = feed_fits v work s a p c h.3 e

  -- a scope that ran, or a boundary at a step, opens work
  module _ (ran : ℕ → Type 0) (w v : State K) (s : ℕ) (ok : SideName → Type 0) (work rest : List (Item K)) (f : Shift w v s) (fades : Fades w v) (rises : w.next_scope ≤ v.next_scope)
      (unseen : (u : ℕ) → ran u → has v.seen u ≡ false) (mine : ran s) (line : Line work) (own : AllByRecursion (λ (i : Item K). OfTurn s ok i) work) (clear : AllByRecursion (λ (j : Item K). Clear s ok j) rest)
      (fresh : (u : ℕ) (a : SideName) → ran u → up w u ≡ Some s → below w u ≡ Some a → ok a → ⊥)
      (low : (u p : ℕ) → ran u → up w u ≡ Some p → ran p ⊎ (Early w rest u × (height_of w.scopes u ≤ height_of w.scopes s)))
      (unfed : (u t : ℕ) (a : SideName) (p : Place) (c : VComponent K) → ran u → Among rest (Feed t a p c) → child_at (kids w t a) p ≡ Some u → ⊥)
      (unturned : (u b : ℕ) (step : RowStep) (a : SideName) → ran u → up w u ≡ Some b → below w u ≡ Some a → Among rest (Row b step) → turns step ≡ Some a → ⊥)
      (owners : (j : Item K) → Among rest j → ran (owner j)) (drawn : (u : ℕ) → ran u → u < w.next_scope) (line_rest : Line rest)
      (stack : Stack v (work ++ rest)) (knows : Knows v) where
    own_item : (i : Item K) → Among work i → OfTurn s ok i
    own_item i e = every_among (λ (j : Item K). OfTurn s ok j) work i own e

    fed_else : (u t : ℕ) (a : SideName) (p : Place) (c : VComponent K) → ran u → child_at (kids v t a) p ≡ Some u → Among (work ++ rest) (Feed t a p c) → Among work (Feed t a p c) ⊎ Among rest (Feed t a p c) → ⊥
    fed_else u t a p c r kid all (inl e) =
        let mine_item : (t ≡ s) × ok a = own_item (Feed t a p c) e in
        let fits = feed_fits v (work ++ rest) t a p c stack all in
        let same : fits.0 ≡ u = some_number fits.0 u (sym fits.1 ∙ kid) in
        let told = knows.parents t u a p kid (ap (λ (n : ℕ). is_live v n) (sym same) ∙ fits.2) in
        fresh u a r (sym (f.ups u) ∙ told.0 ∙ ap (λ (n : ℕ). Some n) mine_item.0) (sym (f.belows u) ∙ told.1) mine_item.1
    fed_else u t a p c r kid all (inr e) =
        let other : t ≡ s → ⊥ = every_among (λ (j : Item K). Clear s ok j) rest (Feed t a p c) clear e in
        unfed u t a p c r e (sym (ap (λ (xs : List (Place × ℕ)). child_at xs p) (f.kept t a other)) ∙ kid)

    turned_else : (u b : ℕ) (step : RowStep) (a : SideName) → ran u → up w u ≡ Some b → below w u ≡ Some a → turns step ≡ Some a → Among work (Row b step) ⊎ Among rest (Row b step) → ⊥
    turned_else u b step a r e g turn (inl i) =
        let mine_item : (b ≡ s) × ((d : SideName) → turns step ≡ Some d → ok d) = own_item (Row b step) i in
        fresh u a r (e ∙ ap (λ (n : ℕ). Some n) mine_item.0) g (mine_item.1 a turn)
    turned_else u b step a r e g turn (inr i) = unturned u b step a r e g i turn

    height_else : (u : ℕ) (j : Item K) → Early w rest u → height_of w.scopes u ≤ height_of w.scopes s → Among work j ⊎ Among rest j → height_of v.scopes u ≤ height_of v.scopes (owner j)
    height_else u j early under (inl e) =
        let same : height_of w.scopes (owner j) ≡ height_of w.scopes s = ap (λ (n : ℕ). height_of w.scopes n) (turn_owner s ok j (own_item j e)) in
        let a = f.heights u in
        let b = f.heights (owner j) in
        omega (arith, under, same, a, b)
    height_else u j early under (inr e) = let c = early.1 j e in let a = f.heights u in let b = f.heights (owner j) in omega (arith, a, b, c)

    early_else : (u : ℕ) → Early w rest u → height_of w.scopes u ≤ height_of w.scopes s → Early v (work ++ rest) u
    early_else u early under = (
      λ x q. let a = f.heights u in let b = f.heights x in let c = early.0 x (fades x q) in omega (arith, a, b, c),
      λ j e. height_else u j early under (among_either work rest j e),
    )

    owner_else : (j : Item K) → Among work j ⊎ Among rest j → ran (owner j)
    owner_else j (inl e) = subst (λ (n : ℕ). ran n) (sym (turn_owner s ok j (own_item j e))) mine
    owner_else j (inr e) = owners j e

    pub opened_since : Since ran v (work ++ rest)
    opened_since =
        record {
          unseen = unseen;
          unfed = λ u t a p c r e kid. fed_else u t a p c r kid e (among_either work rest (Feed t a p c) e);
          unturned = λ u b step a r e g i turn. turned_else u b step a r (sym (f.ups u) ∙ e) (sym (f.belows u) ∙ g) turn (among_either work rest (Row b step) i);
          above = λ u p r e. elim (low u p r (sym (f.ups u) ∙ e)) [ inl q ↦ inl q | inr q ↦ inr (early_else u q.0 q.1) ];
          owners = λ j e. owner_else j (among_either work rest j e);
          drawn = λ u r. let below_next = drawn u r in omega (arith, below_next, rises);
          line = line_opened s ok work rest line own clear line_rest;
        }

module _ {K : Types} (app : Application K) where
  patch_shift_at : (w : State K) (s : ℕ) (a : SideName) (tree : Tree K) (v : State K) (work : List (Item K)) (o : Option (Scope K)) → at w.scopes s ≡ o
      → elim o as (λ z. Outcome K) [ None ↦ Done w [] | Some x ↦ patched app w s a tree (spots_of (side_of x a).output) (spots [] tree) (side_of x a) x ] ≡ Done v work
      → Shift w v s
  patch_shift_at w s a tree v work None found e =
      let same : w ≡ v = cc in
      subst (λ (u : State K). Shift w u s) same (shift_same w w s (λ t. refl))
  patch_shift_at w s a tree v work (Some x) found e =
      let was : Side K = side_of x a in
      let new = spots [] tree in
      let z : Side K = record {
        output = Some tree;
        numbers = kept_numbers new was.numbers;
        children = kept_children app (spots_of was.output) new was.children;
      } in
      let u : State K = put_side w s a x z found in
      let same : u ≡ v = cc in
      subst (λ (y : State K). Shift w y s) same (put_shift w s a x z found)

  -- what opens work leaves the tree but for the children of its scope
  pub opens_shift : (w : State K) (s : ℕ) (v : State K) (work : List (Item K)) → Opens app w s (Done v work) → Shift w v s
  opens_shift w s v work (inl h) = shift_same w v s h.0
  opens_shift w s v work (inr h) = shift_then w h.2 v s (shift_same w h.2 s h.3) (patch_shift_at h.2 s h.0 h.1 v work (at (h.2).scopes s) refl h.4)
