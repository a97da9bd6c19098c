-- What holds between the state in which a unit began and each one while its work is served.
use Rattle.std.proofs.Common.{ℕ, ◌≤◌, ◌<◌, true, false, List, [], ◌∷◌, ◌++◌, ◌≡◌, ◌⊎◌, inl, inr, refl, sym, ap, ◌∙◌, subst, arith, nat_eq}
use Rattle.std.specs.Prelude.{Option, Some, None}
use Rattle.std.proofs.lemmas.Bool.{eqb-true}
use Rattle.rt_model.specs.Lists.{at}
use Rattle.rt_model.specs.Tree.{Types, Place, Kind, VComponent}
use Rattle.rt_model.specs.World.{Application}
use Rattle.rt_model.specs.Laws.{IsLawful}
use Rattle.rt_model.specs.State.{SideName, ChildrenSide, FallbackSide, RowStep, PatchChildren, MadeChildren, RunFallback, ShowFallback, ShowChildren, DropFallback, Resolve, Side, Scope, State, Item, Draw, Row, Feed, Make, Drop, side_of, is_live}
use Rattle.rt_model.specs.Run.{child_at}
use Rattle.rt_model.proofs.Maps.{by_test, eq_same}
use Rattle.rt_model.proofs.Among.{Among}
use Rattle.law_moves.proofs.Twigs.{up, below, kids, found_live}
use Rattle.law_moves.proofs.Woven.{owner, Climb}
use Rattle.law_moves.proofs.Lists.{every_among}
use Rattle.law_moves.specs.Frames.{stand, shown, Keeps}
use Rattle.law_headline.proofs.Steps.{Ready}
use Rattle.law_headline.proofs.Did.{alike}
use Rattle.law_headline.proofs.Lines.{among_either, AllOf}
use Rattle.law_headline.proofs.Trees.{apart_has}
use Rattle.law_headline.proofs.Sides.{Link}
use Rattle.law_headline.proofs.Climbs.{up_by, below_by, live_by, kids_by, climb_by, no_cycle, fed_stands, off_itself}

-- the side that a step of a boundary's run patches, or a step that it leads to
abbrev pub turns : RowStep → Option SideName
turns PatchChildren = Some ChildrenSide
turns MadeChildren = Some FallbackSide
turns RunFallback = Some FallbackSide
turns ShowFallback = None
turns ShowChildren = None
turns DropFallback = None
turns Resolve = None

module _ {K : Types} where
  -- the side whose numbers or children an item changes
  abbrev pub item_side : Item K → Option SideName
  item_side (Draw s a p k) = Some a
  item_side (Feed s a p c) = Some a
  item_side (Make s a p c) = Some a
  item_side (Row b step) = None
  item_side (Drop t s a) = None

  -- a scope is to run, or its parent's side is to be patched
  abbrev pub Awaits : State K → List (Item K) → ℕ → Type 0
  Awaits w work t =
      ((s : ℕ) × (a : SideName) × (p : Place) × (c : VComponent K) × Among work (Feed s a p c) × (child_at (kids w s a) p ≡ Some t))
      ⊎
      ((b : ℕ) × (step : RowStep) × (a : SideName) × Among work (Row b step) × (turns step ≡ Some a) × (up w t ≡ Some b) × (below w t ≡ Some a))

  -- a scope isn't below the root, nor the root itself
  abbrev pub Out : State K → ℕ → List ℕ → ℕ → Type 0
  Out w root [] t = (nat_eq t root ≡ false) × (up w t ≡ None)
  Out w root (p ∷ path) t = (nat_eq t root ≡ false) × (up w t ≡ Some p) × Out w root path p

  pub out_not : (w : State K) (root : ℕ) (path more : List ℕ) (t : ℕ) → Out w root path t → Climb w more t root → ⊥
  out_not w root [] [] t h g = off_itself (nat_eq t root) (ap (λ (n : ℕ). nat_eq t n) (sym g) ∙ eq_same t) h.0
  out_not w root (p ∷ path) [] t h g = off_itself (nat_eq t root) (ap (λ (n : ℕ). nat_eq t n) (sym g) ∙ eq_same t) h.0
  out_not w root [] (q ∷ more) t h g = let absurdity : None ≡ Some q = sym h.1 ∙ g.0 in cc
  out_not w root (p ∷ path) (q ∷ more) t h g =
      let same : Some q ≡ Some p = sym g.0 ∙ h.1 in
      let one : q ≡ p = cc in
      out_not w root path more p h.2 (subst (λ (n : ℕ). Climb w more n root) one g.1)

module _ {K : Types} (app : Application K) (lawful : IsLawful K app) (first : State K) (root : ℕ) where
  -- a scope has the sides that it had when the unit began
  abbrev pub Untouched : State K → ℕ → Type 0
  Untouched w u = (y : Scope K) → at w.scopes u ≡ Some y → (z : Scope K) × (at first.scopes u ≡ Some z) × ((a : SideName) → side_of y a ≡ side_of z a)

  pub record Since (w : State K) (work : List (Item K)) : Type 0 where
    -- numbers that were drawn before stand where they stood
    pub numbers :
        (t : ℕ) (x : Scope K) (a : SideName) (p : Place) (k : Kind) (n : ℕ)
        → at w.scopes t ≡ Some x → Among (side_of x a).numbers (p, k, n) → n < first.next.elements
        → (z : Scope K) × (at first.scopes t ≡ Some z) × Among (side_of z a).numbers (p, k, n)
    -- and so do child scopes
    pub children :
        (t : ℕ) (x : Scope K) (a : SideName) (p : Place) (u : ℕ)
        → at w.scopes t ≡ Some x → Among (side_of x a).children (p, u) → u < first.next_scope
        → (z : Scope K) × (at first.scopes t ≡ Some z) × Among (side_of z a).children (p, u)
    -- a scope with a number that was drawn before lived and stands where it stood
    pub old : (t : ℕ) → is_live w t ≡ true → t < first.next_scope → stand (at w.scopes t) ≡ stand (at first.scopes t)
    pub links : (t : ℕ) (x z : Scope K) (a : SideName) → at w.scopes t ≡ Some x → at first.scopes t ≡ Some z → Link app lawful first.next_scope (side_of z a) (side_of x a)
    -- a side that awaits its patch is as it was
    pub waits :
        (b : ℕ) (step : RowStep) (a : SideName) (x z : Scope K)
        → Among work (Row b step) → turns step ≡ Some a → at w.scopes b ≡ Some x → at first.scopes b ≡ Some z → side_of x a ≡ side_of z a
    -- so is all below what awaits its run
    pub quiet : (t u : ℕ) (path : List ℕ) → Awaits w work t → Climb w path u t → is_live w u ≡ true → Untouched w u
    -- no item is of a scope below it
    pub apart : (t : ℕ) (j : Item K) (path : List ℕ) → Awaits w work t → Among work j → Climb w path (owner j) t → ⊥
    -- no item is of a side that awaits its patch
    pub clear : (j : Item K) (b : ℕ) (step : RowStep) (a : SideName) → Among work j → owner j ≡ b → item_side j ≡ Some a → Among work (Row b step) → turns step ≡ Some a → ⊥
    pub elements : first.next.elements ≤ w.next.elements
    pub scopes : first.next_scope ≤ w.next_scope
    -- work is of scopes from the root down
    pub inside : (j : Item K) → Among work j → (path : List ℕ) × Climb w path (owner j) root
    -- all other scopes are as they were
    pub outer : (t : ℕ) (path : List ℕ) (x : Scope K) → at w.scopes t ≡ Some x → Out w root path t → (z : Scope K) × (at first.scopes t ≡ Some z) × (x.shows ≡ z.shows) × ((a : SideName) → side_of x a ≡ side_of z a)
    pub lives : (t : ℕ) (path : List ℕ) → is_live first t ≡ true → Out first root path t → is_live w t ≡ true
    pub top : is_live w root ≡ true

  -- an item of the work goes
  pub since_rest : (w : State K) (item : Item K) (rest : List (Item K)) → Since w (item ∷ rest) → Since w rest
  since_rest w item rest h =
      record {
        numbers = h.numbers;
        children = h.children;
        old = h.old;
        links = h.links;
        waits = λ b step a x z e. h.waits b step a x z (inr e);
        quiet = λ t u path e. h.quiet t u path (awaits_more t e);
        apart = λ t j path e g. h.apart t j path (awaits_more t e) (inr g);
        clear = λ j b step a e o i g. h.clear j b step a (inr e) o i (inr g);
        elements = h.elements;
        scopes = h.scopes;
        inside = λ j e. h.inside j (inr e);
        outer = h.outer;
        lives = h.lives;
        top = h.top;
      }
    where
      awaits_more : (t : ℕ) → Awaits w rest t → Awaits w (item ∷ rest) t
      awaits_more t (inl e) = inl (e.0, e.1, e.2, e.3, inr e.4, e.5)
      awaits_more t (inr e) = inr (e.0, e.1, e.2, inr e.3, e.4, e.5, e.6)

  -- two states in which each scope stands and shows alike
  pub record Like (w u : State K) : Type 0 where
    pub stands : (t : ℕ) → stand (at u.scopes t) ≡ stand (at w.scopes t)
    pub finds : (t : ℕ) (y : Scope K) → at u.scopes t ≡ Some y → (x : Scope K) × (at w.scopes t ≡ Some x) × (y.shows ≡ x.shows) × ((a : SideName) → side_of y a ≡ side_of x a)
    pub kept : (t : ℕ) (a : SideName) → kids u t a ≡ kids w t a
    pub elements : u.next.elements ≡ w.next.elements
    pub scopes : u.next_scope ≡ w.next_scope

  out_like : (w u : State K) (f : Like w u) (path : List ℕ) (t : ℕ) → Out u root path t → Out w root path t
  out_like w u f [] t e = (e.0, sym (up_by w u t (f.stands t)) ∙ e.1)
  out_like w u f (p ∷ path) t e = (e.0, sym (up_by w u t (f.stands t)) ∙ e.1, out_like w u f path p e.2)

  pub awaits_like : (w u : State K) (f : Like w u) (work : List (Item K)) (t : ℕ) → Awaits u work t → Awaits w work t
  awaits_like w u f work t (inl e) = inl (e.0, e.1, e.2, e.3, e.4, sym (ap (λ (xs : List (Place × ℕ)). child_at xs e.2) (f.kept e.0 e.1)) ∙ e.5)
  awaits_like w u f work t (inr e) = inr (e.0, e.1, e.2, e.3, e.4, sym (up_by w u t (f.stands t)) ∙ e.5, sym (below_by w u t (f.stands t)) ∙ e.6)

  pub untouched_like : (w u : State K) (f : Like w u) (n : ℕ) → Untouched w n → Untouched u n
  untouched_like w u f n h y found = let x = f.finds n y found in let z = h x.0 x.1 in (z.0, z.1, λ a. x.3 a ∙ z.2 a)

  pub like_since : (w u : State K) (work : List (Item K)) → Like w u → Since w work → Since u work
  like_since w u work f h =
      record {
        numbers = λ t y a p k n found g low. let x = f.finds t y found in h.numbers t x.0 a p k n x.1 (subst (λ (i : Side K). Among i.numbers (p, k, n)) (x.3 a) g) low;
        children = λ t y a p n found g low. let x = f.finds t y found in h.children t x.0 a p n x.1 (subst (λ (i : Side K). Among i.children (p, n)) (x.3 a) g) low;
        old = λ t alive low. f.stands t ∙ h.old t (sym (live_by w u t (f.stands t)) ∙ alive) low;
        links = λ t y z a found there. let x = f.finds t y found in subst (λ (i : Side K). Link app lawful first.next_scope (side_of z a) i) (sym (x.3 a)) (h.links t x.0 z a x.1 there);
        waits = λ b step a y z e turn found there. let x = f.finds b y found in x.3 a ∙ h.waits b step a x.0 z e turn x.1 there;
        quiet = λ t n path e c alive. untouched_like w u f n (h.quiet t n path (awaits_like w u f work t e) (climb_by w u f.stands path n t c) (sym (live_by w u n (f.stands n)) ∙ alive));
        apart = λ t j path e g c. h.apart t j path (awaits_like w u f work t e) g (climb_by w u f.stands path (owner j) t c);
        clear = h.clear;
        elements = let a = h.elements in let b = f.elements in omega (arith, a, b);
        scopes = let a = h.scopes in let b = f.scopes in omega (arith, a, b);
        inside = λ j e. let c = h.inside j e in (c.0, climb_by u w (λ n. sym (f.stands n)) c.0 (owner j) root c.1);
        outer = λ t path y found e. let x = f.finds t y found in let z = h.outer t path x.0 x.1 (out_like w u f path t e) in (z.0, z.1, x.2 ∙ z.2, λ a. x.3 a ∙ z.3 a);
        lives = λ t path alive e. live_by w u t (f.stands t) ∙ h.lives t path alive e;
        top = live_by w u root (f.stands root) ∙ h.top;
      }

  -- one scope changes, and work of its own opens
  module _ (w v : State K) (s : ℕ) (ok : SideName → Type 0) (work rest : List (Item K)) (ready : Ready v (work ++ rest)) (k : Keeps (s ∷ []) [] w v) (h : Since w rest) (all : AllOf s work)
      (live : is_live w s ≡ true) (elements : w.next.elements ≤ v.next.elements) (scopes : w.next_scope ≤ v.next_scope) (way : (path : List ℕ) × Climb w path s root)
      (fed_kept : (t : ℕ) (a : SideName) (p : Place) (c : VComponent K) → Among rest (Feed s a p c) → child_at (kids v s a) p ≡ Some t → child_at (kids w s a) p ≡ Some t)
      (not_awaited : (t : ℕ) (path : List ℕ) → Awaits w rest t → Climb w path s t → ⊥)
      (fresh : (t u : ℕ) (a : SideName) (path : List ℕ) → up w t ≡ Some s → below w t ≡ Some a → ok a → Climb w path u t → is_live w u ≡ true → Untouched w u)
      (clean : (t : ℕ) (j : Item K) (a : SideName) (path : List ℕ) → up w t ≡ Some s → below w t ≡ Some a → ok a → Among rest j → Climb w path (owner j) t → ⊥)
      (feeds_ok : (a : SideName) (p : Place) (c : VComponent K) → Among work (Feed s a p c) → ok a)
      (rows_ok : (step : RowStep) (a : SideName) → Among work (Row s step) → turns step ≡ Some a → ok a)
      (links : (y z : Scope K) (a : SideName) → at v.scopes s ≡ Some y → at first.scopes s ≡ Some z → Link app lawful first.next_scope (side_of z a) (side_of y a))
      (waits : (step : RowStep) (a : SideName) (y z : Scope K) → Among (work ++ rest) (Row s step) → turns step ≡ Some a → at v.scopes s ≡ Some y → at first.scopes s ≡ Some z → side_of y a ≡ side_of z a)
      (clear : (j : Item K) (step : RowStep) (a : SideName) → Among (work ++ rest) j → owner j ≡ s → item_side j ≡ Some a → Among (work ++ rest) (Row s step) → turns step ≡ Some a → ⊥)
      (numbers : (x y : Scope K) (a : SideName) (p : Place) (kind : Kind) (n : ℕ) → at w.scopes s ≡ Some x → at v.scopes s ≡ Some y → Among (side_of y a).numbers (p, kind, n) → n < first.next.elements → Among (side_of x a).numbers (p, kind, n))
      (children : (x y : Scope K) (a : SideName) (p : Place) (u : ℕ) → at w.scopes s ≡ Some x → at v.scopes s ≡ Some y → Among (side_of y a).children (p, u) → u < first.next_scope → Among (side_of x a).children (p, u)) where
    same_stands : (t : ℕ) → stand (at v.scopes t) ≡ stand (at w.scopes t)
    same_stands t = k.stands t refl

    back : (path : List ℕ) (t u : ℕ) → Climb v path t u → Climb w path t u
    back path t u c = climb_by w v same_stands path t u c

    forth : (path : List ℕ) (t u : ℕ) → Climb w path t u → Climb v path t u
    forth path t u c = climb_by v w (λ n. sym (same_stands n)) path t u c

    same_shown : (t : ℕ) → nat_eq s t ≡ false → shown (at v.scopes t) ≡ shown (at w.scopes t)
    same_shown t q = k.sides t (apart_has s t q)

    -- a scope that isn't the one, before the change
    record Before (t : ℕ) (y : Scope K) : Type 0 where
      was : Scope K
      found : at w.scopes t ≡ Some was
      shows : was.shows ≡ y.shows
      sides : (a : SideName) → side_of was a ≡ side_of y a

    before : (t : ℕ) (y : Scope K) → nat_eq s t ≡ false → at v.scopes t ≡ Some y → Before t y
    before t y q found =
        let x = alike (at w.scopes t) y (sym (same_shown t q) ∙ ap (λ (o : Option (Scope K)). shown o) found) in
        record { was = x.old; found = x.found; shows = x.shows; sides = x.sides }

    own : (t : ℕ) → nat_eq s t ≡ true → s ≡ t
    own t q = eqb-true s t q

    owned : (j : Item K) → Among work j → owner j ≡ s
    owned j e = every_among (λ (i : Item K). owner i ≡ s) work j all e

    abbrev Fresh : ℕ → Type 0
    Fresh t = (a : SideName) × (up w t ≡ Some s) × (below w t ≡ Some a) × ok a

    feed_split : (t : ℕ) (b : ℕ) (a : SideName) (p : Place) (c : VComponent K) → Among (work ++ rest) (Feed b a p c) → child_at (kids v b a) p ≡ Some t → Among work (Feed b a p c) ⊎ Among rest (Feed b a p c) → Awaits w rest t ⊎ Fresh t
    feed_split t b a p c e kid (inl g) =
        let mine : b ≡ s = owned (Feed b a p c) g in
        let told = fed_stands v (work ++ rest) ready b t a p c e kid in
        inr
        (a, sym (up_by w v t (same_stands t)) ∙ told.0 ∙ ap (λ (n : ℕ). Some n) mine, sym (below_by w v t (same_stands t)) ∙ told.1, feeds_ok a p c (subst (λ (n : ℕ). Among work (Feed n a p c)) mine g))
    feed_split t b a p c e kid (inr g) =
        by_test (nat_eq s b)
        (
        λ q.
        inl
        (inl
        (s, a, p, c, subst (λ (n : ℕ). Among rest (Feed n a p c)) (sym (own b q)) g, fed_kept t a p c (subst (λ (n : ℕ). Among rest (Feed n a p c)) (sym (own b q)) g) (ap (λ (n : ℕ). child_at (kids v n a) p) (own b q) ∙ kid)))
        )
        (λ q. inl (inl (b, a, p, c, g, sym (ap (λ (xs : List (Place × ℕ)). child_at xs p) (kids_by w v b a (same_shown b q))) ∙ kid)))

    row_split : (t : ℕ) (b : ℕ) (step : RowStep) (a : SideName) → turns step ≡ Some a → up v t ≡ Some b → below v t ≡ Some a → Among work (Row b step) ⊎ Among rest (Row b step) → Awaits w rest t ⊎ Fresh t
    row_split t b step a turn e f (inl g) =
        let mine : b ≡ s = owned (Row b step) g in
        inr
        (a, sym (up_by w v t (same_stands t)) ∙ e ∙ ap (λ (n : ℕ). Some n) mine, sym (below_by w v t (same_stands t)) ∙ f, rows_ok step a (subst (λ (n : ℕ). Among work (Row n step)) mine g) turn)
    row_split t b step a turn e f (inr g) =
        inl (inr (b, step, a, g, turn, sym (up_by w v t (same_stands t)) ∙ e, sym (below_by w v t (same_stands t)) ∙ f))

    await_split : (t : ℕ) → Awaits v (work ++ rest) t → Awaits w rest t ⊎ Fresh t
    await_split t (inl e) = feed_split t e.0 e.1 e.2 e.3 e.4 e.5 (among_either work rest (Feed e.0 e.1 e.2 e.3) e.4)
    await_split t (inr e) = row_split t e.0 e.1 e.2 e.4 e.5 e.6 (among_either work rest (Row e.0 e.1) e.3)

    untouched_else : (u : ℕ) → nat_eq s u ≡ false → Untouched w u → Untouched v u
    untouched_else u q f y found =
        let x = before u y q found in
        let z = f x.was x.found in
        (z.0, z.1, λ a. sym (x.sides a) ∙ z.2 a)

    quiet_at : (t u : ℕ) (path : List ℕ) → Climb v path u t → is_live v u ≡ true → Awaits w rest t ⊎ Fresh t → Untouched v u
    quiet_at t u path c alive (inl e) =
        by_test (nat_eq s u)
        (λ q. absurd (not_awaited t path e (back path s t (subst (λ (n : ℕ). Climb v path n t) (sym (own u q)) c))))
        (λ q. untouched_else u q (h.quiet t u path e (back path u t c) (sym (live_by w v u (same_stands u)) ∙ alive)))
    quiet_at t u path c alive (inr e) =
        by_test (nat_eq s u)
        (λ q. no_cycle v (work ++ rest) ready path s t (subst (λ (n : ℕ). Climb v path n t) (sym (own u q)) c) (up_by w v t (same_stands t) ∙ e.1))
        (λ q. untouched_else u q (fresh t u e.0 path e.1 e.2 e.3 (back path u t c) (sym (live_by w v u (same_stands u)) ∙ alive)))

    apart_at : (t : ℕ) (j : Item K) (path : List ℕ) → Climb v path (owner j) t → Awaits w rest t ⊎ Fresh t → Among work j ⊎ Among rest j → ⊥
    apart_at t j path c (inl e) (inl g) = not_awaited t path e (back path s t (subst (λ (n : ℕ). Climb v path n t) (owned j g) c))
    apart_at t j path c (inl e) (inr g) = h.apart t j path e g (back path (owner j) t c)
    apart_at t j path c (inr e) (inl g) = no_cycle v (work ++ rest) ready path s t (subst (λ (n : ℕ). Climb v path n t) (owned j g) c) (up_by w v t (same_stands t) ∙ e.1)
    apart_at t j path c (inr e) (inr g) = clean t j e.0 path e.1 e.2 e.3 g (back path (owner j) t c)

    clear_at : (j : Item K) (b : ℕ) (step : RowStep) (a : SideName) → owner j ≡ b → item_side j ≡ Some a → turns step ≡ Some a → Among (work ++ rest) j → Among (work ++ rest) (Row b step) → Among work j ⊎ Among rest j → Among work (Row b step) ⊎ Among rest (Row b step) → ⊥
    clear_at j b step a o i turn e f (inl g) d =
        let mine : b ≡ s = sym o ∙ owned j g in
        clear j step a e (o ∙ mine) i (subst (λ (n : ℕ). Among (work ++ rest) (Row n step)) mine f) turn
    clear_at j b step a o i turn e f (inr g) (inl d) =
        let mine : b ≡ s = owned (Row b step) d in
        clear j step a e (o ∙ mine) i (subst (λ (n : ℕ). Among (work ++ rest) (Row n step)) mine f) turn
    clear_at j b step a o i turn e f (inr g) (inr d) = h.clear j b step a g o i d turn

    out_back : (path : List ℕ) (t : ℕ) → Out v root path t → Out w root path t
    out_back [] t e = (e.0, sym (up_by w v t (same_stands t)) ∙ e.1)
    out_back (p ∷ path) t e = (e.0, sym (up_by w v t (same_stands t)) ∙ e.1, out_back path p e.2)

    inside_at : (j : Item K) → Among work j ⊎ Among rest j → (path : List ℕ) × Climb v path (owner j) root
    inside_at j (inl e) = (way.0, subst (λ (n : ℕ). Climb v way.0 n root) (sym (owned j e)) (forth way.0 s root way.1))
    inside_at j (inr e) = let c = h.inside j e in (c.0, forth c.0 (owner j) root c.1)

    numbers_at : (t : ℕ) (y : Scope K) (a : SideName) (p : Place) (kind : Kind) (n : ℕ) → at v.scopes t ≡ Some y → Among (side_of y a).numbers (p, kind, n) → n < first.next.elements
        → (z : Scope K) × (at first.scopes t ≡ Some z) × Among (side_of z a).numbers (p, kind, n)
    numbers_at t y a p kind n found g low =
        by_test (nat_eq s t)
        (
        λ q.
        let x = found_live (at w.scopes s) live in
        let here : at v.scopes s ≡ Some y = ap (λ (i : ℕ). at v.scopes i) (own t q) ∙ found in
        let z = h.numbers s x.0 a p kind n x.1 (numbers x.0 y a p kind n x.1 here g low) low in
        (z.0, ap (λ (i : ℕ). at first.scopes i) (sym (own t q)) ∙ z.1, z.2)
        )
        (λ q. let x = before t y q found in h.numbers t x.was a p kind n x.found (subst (λ (i : Side K). Among i.numbers (p, kind, n)) (sym (x.sides a)) g) low)

    children_at : (t : ℕ) (y : Scope K) (a : SideName) (p : Place) (u : ℕ) → at v.scopes t ≡ Some y → Among (side_of y a).children (p, u) → u < first.next_scope
        → (z : Scope K) × (at first.scopes t ≡ Some z) × Among (side_of z a).children (p, u)
    children_at t y a p u found g low =
        by_test (nat_eq s t)
        (
        λ q.
        let x = found_live (at w.scopes s) live in
        let here : at v.scopes s ≡ Some y = ap (λ (i : ℕ). at v.scopes i) (own t q) ∙ found in
        let z = h.children s x.0 a p u x.1 (children x.0 y a p u x.1 here g low) low in
        (z.0, ap (λ (i : ℕ). at first.scopes i) (sym (own t q)) ∙ z.1, z.2)
        )
        (λ q. let x = before t y q found in h.children t x.was a p u x.found (subst (λ (i : Side K). Among i.children (p, u)) (sym (x.sides a)) g) low)

    links_at : (t : ℕ) (y z : Scope K) (a : SideName) → at v.scopes t ≡ Some y → at first.scopes t ≡ Some z → Link app lawful first.next_scope (side_of z a) (side_of y a)
    links_at t y z a found there =
        by_test (nat_eq s t)
        (λ q. links y z a (ap (λ (i : ℕ). at v.scopes i) (own t q) ∙ found) (ap (λ (i : ℕ). at first.scopes i) (own t q) ∙ there))
        (λ q. let x = before t y q found in subst (λ (i : Side K). Link app lawful first.next_scope (side_of z a) i) (x.sides a) (h.links t x.was z a x.found there))

    waits_at : (b : ℕ) (step : RowStep) (a : SideName) (y z : Scope K) → Among (work ++ rest) (Row b step) → turns step ≡ Some a → at v.scopes b ≡ Some y → at first.scopes b ≡ Some z → Among work (Row b step) ⊎ Among rest (Row b step)
        → side_of y a ≡ side_of z a
    waits_at b step a y z e turn found there (inl g) =
        let mine : b ≡ s = owned (Row b step) g in
        waits step a y z (subst (λ (n : ℕ). Among (work ++ rest) (Row n step)) mine e) turn (ap (λ (i : ℕ). at v.scopes i) (sym mine) ∙ found) (ap (λ (i : ℕ). at first.scopes i) (sym mine) ∙ there)
    waits_at b step a y z e turn found there (inr g) =
        by_test (nat_eq s b)
        (
        λ q.
        waits step a y z (subst (λ (n : ℕ). Among (work ++ rest) (Row n step)) (sym (own b q)) e) turn (ap (λ (i : ℕ). at v.scopes i) (own b q) ∙ found) (ap (λ (i : ℕ). at first.scopes i) (own b q) ∙ there)
        )
        (λ q. let x = before b y q found in sym (x.sides a) ∙ h.waits b step a x.was z g turn x.found there)

    outer_at : (t : ℕ) (path : List ℕ) (y : Scope K) → at v.scopes t ≡ Some y → Out v root path t → (z : Scope K) × (at first.scopes t ≡ Some z) × (y.shows ≡ z.shows) × ((a : SideName) → side_of y a ≡ side_of z a)
    outer_at t path y found e =
        by_test (nat_eq s t)
        (λ q. absurd (out_not w root path way.0 s (subst (λ (n : ℕ). Out w root path n) (sym (own t q)) (out_back path t e)) way.1))
        (λ q. let x = before t y q found in let z = h.outer t path x.was x.found (out_back path t e) in (z.0, z.1, sym x.shows ∙ z.2, λ a. sym (x.sides a) ∙ z.3 a))

    pub opened_since : Since v (work ++ rest)
    opened_since =
        record {
          numbers = numbers_at;
          children = children_at;
          old = λ t alive low. same_stands t ∙ h.old t (sym (live_by w v t (same_stands t)) ∙ alive) low;
          links = links_at;
          waits = λ b step a y z e turn found there. waits_at b step a y z e turn found there (among_either work rest (Row b step) e);
          quiet = λ t u path e c alive. quiet_at t u path c alive (await_split t e);
          apart = λ t j path e g c. apart_at t j path c (await_split t e) (among_either work rest j g);
          clear = λ j b step a e o i f turn. clear_at j b step a o i turn e f (among_either work rest j e) (among_either work rest (Row b step) f);
          elements = let a = h.elements in omega (arith, a, elements);
          scopes = let a = h.scopes in omega (arith, a, scopes);
          inside = λ j e. inside_at j (among_either work rest j e);
          outer = outer_at;
          lives = λ t path alive e. live_by w v t (same_stands t) ∙ h.lives t path alive e;
          top = live_by w v root (same_stands root) ∙ h.top;
        }
