-- A scope that is made or goes, and a child that is fed, keep what holds since the unit began.
use Rattle.std.proofs.Common.{ℕ, ◌≤◌, ◌<◌, Bool, true, false, List, [], ◌∷◌, ◌++◌, ◌≡◌, inl, inr, refl, sym, ap, ◌∙◌, subst, arith, nat_eq}
use Rattle.std.specs.Prelude.{Option, Some, None, is_some, nat_lt, if◌then◌else◌}
use Rattle.std.proofs.lemmas.Bool.{eqb-true}
use Rattle.rt_model.specs.Lists.{at, put}
use Rattle.rt_model.specs.Tree.{Types, Place, VComponent}
use Rattle.rt_model.specs.World.{Application}
use Rattle.rt_model.specs.Laws.{IsLawful}
use Rattle.rt_model.specs.State.{SideName, MainSide, ChildrenSide, FallbackSide, Side, Scope, State, Item, Feed, Drop, Outcome, Done, side_of, changed_scope, is_live, height_of}
use Rattle.rt_model.specs.Run.{child_at, run}
use Rattle.rt_model.specs.Removal.{next_removed, removed}
use Rattle.rt_model.specs.Replay.{with_props, keeps, handed, outcome_of}
use Rattle.rt_model.proofs.Maps.{by_test, at_put_here, at_put_other}
use Rattle.rt_model.proofs.Among.{Among}
use Rattle.rt_model.proofs.NumbersStand.{child_among}
use Rattle.rt_model.proofs.TakesOne.{removal_takes_one}
use Rattle.rt_model.proofs.StepFrames.{Follows, removed_follows}
use Rattle.rt_model.proofs.TourCalls.{state_of}
use Rattle.law_moves.proofs.Twigs.{twig, twig_side, up, below, kids, found_live}
use Rattle.law_moves.proofs.Woven.{owner, Climb}
use Rattle.law_moves.proofs.Lists.{every_among}
use Rattle.law_moves.proofs.Weaves.{knows_of}
use Rattle.law_moves.proofs.Taken.{LeafOf, leaf_found}
use Rattle.law_moves.proofs.Everywhere.{fed_kid}
use Rattle.law_moves.specs.Frames.{stand, shown, Keeps}
use Rattle.law_moves.proofs.Untouched.{removal_leaves}
use Rattle.law_headline.proofs.Steps.{Ready}
use Rattle.law_headline.proofs.Did.{same_scope, alike}
use Rattle.law_headline.proofs.Lines.{Ahead, Line, owner_lives}
use Rattle.law_headline.proofs.Trees.{keeps_of, apart_has}
use Rattle.law_headline.proofs.Clothed.{feed_none}
use Rattle.law_headline.proofs.Nodes.{Settled}
use Rattle.law_headline.proofs.Sides.{Link}
use Rattle.law_headline.proofs.Climbs.{up_by, below_by, live_by, kids_by, climb_by, climb_on, lives_below, parent_lives, climb_height, off_itself}
use Rattle.law_headline.proofs.Since.{Awaits, Out, out_not, Untouched, Since, since_rest, Like, awaits_like, untouched_like, like_since}
use Rattle.law_headline.proofs.Serving.{run_since}

module _ {K : Types} (app : Application K) (lawful : IsLawful K app) (first : State K) (root : ℕ) (settled : Settled first) where
  pub more_awaits : (w : State K) (item : Item K) (rest : List (Item K)) (t : ℕ) → Awaits w rest t → Awaits w (item ∷ rest) t
  more_awaits w item rest t (inl g) = inl (g.0, g.1, g.2, g.3, inr g.4, g.5)
  more_awaits w item rest t (inr g) = inr (g.0, g.1, g.2, inr g.3, g.4, g.5, g.6)

  -- a scope goes
  module _ (w v : State K) (l : ℕ) (work : List (Item K)) (now : Ready v work) (k : Keeps (l ∷ []) (l ∷ []) w v) (gone : at v.scopes l ≡ None) (h : Since app lawful first root w work)
      (elements : w.next.elements ≤ v.next.elements) (scopes : w.next_scope ≤ v.next_scope) (way : (path : List ℕ) × Climb w path l root) (other : nat_eq l root ≡ false) where
    not_gone : (t : ℕ) → is_live v t ≡ true → nat_eq l t ≡ false
    not_gone t live = by_test (nat_eq l t) (λ q. off_itself (is_some (at v.scopes l)) (ap (λ (n : ℕ). is_live v n) (eqb-true l t q) ∙ live) (ap (λ (o : Option (Scope K)). is_some o) gone)) (λ q. q)

    found_not : (t : ℕ) (y : Scope K) → at v.scopes t ≡ Some y → nat_eq l t ≡ false
    found_not t y e = not_gone t (ap (λ (o : Option (Scope K)). is_some o) e)

    stands_at : (t : ℕ) → nat_eq l t ≡ false → stand (at v.scopes t) ≡ stand (at w.scopes t)
    stands_at t q = k.stands t (apart_has l t q)

    up_back : (t p : ℕ) → up v t ≡ Some p → up w t ≡ Some p
    up_back t p e = sym (up_by w v t (stands_at t (not_gone t (lives_below v t p e)))) ∙ e

    climb_back : (path : List ℕ) (s t : ℕ) → Climb v path s t → Climb w path s t
    climb_back [] s t c = c
    climb_back (p ∷ path) s t c = (up_back s p c.0, climb_back path p t c.1)

    climb_forth : (path : List ℕ) (s t : ℕ) → is_live v s ≡ true → Climb w path s t → Climb v path s t
    climb_forth [] s t live c = c
    climb_forth (p ∷ path) s t live c =
        let here : up v s ≡ Some p = up_by w v s (stands_at s (not_gone s live)) ∙ c.0 in
        (here, climb_forth path p t (parent_lives v work now s p here) c.1)

    out_back : (path : List ℕ) (t : ℕ) → is_live v t ≡ true → Out v root path t → Out w root path t
    out_back [] t live e = (e.0, sym (up_by w v t (stands_at t (not_gone t live))) ∙ e.1)
    out_back (p ∷ path) t live e = (e.0, up_back t p e.1, out_back path p (parent_lives v work now t p e.1) e.2)

    awaits_back : (t : ℕ) → Awaits v work t → Awaits w work t
    awaits_back t (inl e) =
        let live : is_live v e.0 ≡ true = owner_lives v work (Feed e.0 e.1 e.2 e.3) now.woven.stack e.4 in
        inl (e.0, e.1, e.2, e.3, e.4, sym (ap (λ (xs : List (Place × ℕ)). child_at xs e.2) (kids_by w v e.0 e.1 (k.sides e.0 (apart_has l e.0 (not_gone e.0 live))))) ∙ e.5)
    awaits_back t (inr e) =
        let there : nat_eq l t ≡ false = not_gone t (lives_below v t e.0 e.5) in
        inr (e.0, e.1, e.2, e.3, e.4, up_back t e.0 e.5, sym (below_by w v t (stands_at t there)) ∙ e.6)

    record Before (t : ℕ) (y : Scope K) : Type 0 where
      was : Scope K
      found : at w.scopes t ≡ Some was
      shows : was.shows ≡ y.shows
      sides : (a : SideName) → side_of was a ≡ side_of y a

    before : (t : ℕ) (y : Scope K) → at v.scopes t ≡ Some y → Before t y
    before t y e =
        let x = alike (at w.scopes t) y (sym (k.sides t (apart_has l t (found_not t y e))) ∙ ap (λ (o : Option (Scope K)). shown o) e) in
        record { was = x.old; found = x.found; shows = x.shows; sides = x.sides }

    untouched_after : (u : ℕ) → Untouched app lawful first root w u → Untouched app lawful first root v u
    untouched_after u f y e = let x = before u y e in let z = f x.was x.found in (z.0, z.1, λ a. sym (x.sides a) ∙ z.2 a)

    first_out : (path : List ℕ) (t : ℕ) → is_live first t ≡ true → Out first root path t → Out w root path t
    first_out path t live e = (from path t live e)
      where
        same : (t : ℕ) (path : List ℕ) → is_live first t ≡ true → Out first root path t → stand (at w.scopes t) ≡ stand (at first.scopes t)
        same t path live e = h.old t (h.lives t path live e) (low t live)
          where
            low : (t : ℕ) → is_live first t ≡ true → t < first.next_scope
            low t live = by_test (nat_lt t first.next_scope) (λ q. grind (arith, q))
                (λ q. let high : first.next_scope ≤ t = grind (arith, q) in off_itself (is_live first t) live (ap (λ (o : Option (Scope K)). is_some o) ((settled.ready.rooted).drawn t high)))

        from : (path : List ℕ) (t : ℕ) → is_live first t ≡ true → Out first root path t → Out w root path t
        from [] t live e = (e.0, up_by first w t (same t [] live e) ∙ e.1)
        from (p ∷ path) t live e = (e.0, up_by first w t (same t (p ∷ path) live e) ∙ e.1, from path p (parent_lives first [] settled.ready t p e.1) e.2)

    pub gone_since : Since app lawful first root v work
    gone_since =
        record {
          numbers = λ t y a p kind n e g low. let x = before t y e in h.numbers t x.was a p kind n x.found (subst (λ (i : Side K). Among i.numbers (p, kind, n)) (sym (x.sides a)) g) low;
          children = λ t y a p u e g low. let x = before t y e in h.children t x.was a p u x.found (subst (λ (i : Side K). Among i.children (p, u)) (sym (x.sides a)) g) low;
          old = λ t live low. let q = not_gone t live in stands_at t q ∙ h.old t (sym (live_by w v t (stands_at t q)) ∙ live) low;
          links = λ t y z a e there. let x = before t y e in subst (λ (i : Side K). Link app lawful first.next_scope (side_of z a) i) (x.sides a) (h.links t x.was z a x.found there);
          waits = λ b step a y z g turn e there. let x = before b y e in sym (x.sides a) ∙ h.waits b step a x.was z g turn x.found there;
          quiet = λ t u path e c live. untouched_after u (h.quiet t u path (awaits_back t e) (climb_back path u t c) (sym (live_by w v u (stands_at u (not_gone u live))) ∙ live));
          apart = λ t j path e g c. h.apart t j path (awaits_back t e) g (climb_back path (owner j) t c);
          clear = h.clear;
          elements = let a = h.elements in omega (arith, a, elements);
          scopes = let a = h.scopes in omega (arith, a, scopes);
          inside = λ j g. let c = h.inside j g in (c.0, climb_forth c.0 (owner j) root (owner_lives v work j now.woven.stack g) c.1);
          outer =
              λ t path y e out.
              let x = before t y e in
              let z = h.outer t path x.was x.found (out_back path t (ap (λ (o : Option (Scope K)). is_some o) e) out) in
              (z.0, z.1, sym x.shows ∙ z.2, λ a. sym (x.sides a) ∙ z.3 a);
          lives =
              λ t path live out.
              by_test (nat_eq l t)
              (λ q. absurd (out_not w root path way.0 l (subst (λ (n : ℕ). Out w root path n) (sym (eqb-true l t q)) (first_out path t live out)) way.1))
              (λ q. live_by w v t (stands_at t q) ∙ h.lives t path live out);
          top = live_by w v root (stands_at root other) ∙ h.top;
        }

  -- a removal under way
  pub removed_since : (w v : State K) (l top parent : ℕ) (side : SideName) (rest after work : List (Item K)) → Ready w (Drop top parent side ∷ rest) → Ready v (work ++ after) → next_removed w top ≡ l
      → removed app w l ≡ Done v work → Since app lawful first root w (Drop top parent side ∷ rest) → Since app lawful first root w after → Since app lawful first root v (work ++ after)
  removed_since w v l top parent side rest after work ready now is e h left =
      let took = removal_takes_one app lawful w v l work e in
      let k : Keeps (l ∷ []) (l ∷ []) w v = keeps_of (l ∷ []) (l ∷ []) w v work (removed app w l) (removal_leaves app w l) e in
      let follows = subst (λ (o : Outcome K). Follows w (state_of o)) e (removed_follows app lawful w l) in
      let leaf : LeafOf w top l = subst (λ (n : ℕ). LeafOf w top n) is (leaf_found w (Drop top parent side ∷ rest) ready.rooted ready.stands top) in
      let up_top : up w top ≡ Some parent = ready.woven.stack.1.1 in
      let above = h.inside (Drop top parent side) (inl refl) in
      let way : (path : List ℕ) × Climb w path l root = (leaf.path ++ parent ∷ above.0, climb_on w leaf.path (parent ∷ above.0) l top root leaf.climb (up_top, above.1)) in
      let level = climb_height w (Drop top parent side ∷ rest) ready leaf.path l top leaf.climb in
      let higher = climb_height w (Drop top parent side ∷ rest) ready (parent ∷ above.0) top root (up_top, above.1) in
      let other : nat_eq l root ≡ false =
      by_test (nat_eq l root)
      (λ q. let same : height_of w.scopes l ≡ height_of w.scopes root = ap (λ (n : ℕ). height_of w.scopes n) (eqb-true l root q) in absurd (omega (arith, level, higher, same)))
      (λ q. q) in
      let elements = follows.rises.elements in
      let scopes = follows.next_scope in
      subst (λ (xs : List (Item K)). Since app lawful first root v (xs ++ after)) (sym took.0)
      (gone_since w v l after (subst (λ (xs : List (Item K)). Ready v (xs ++ after)) took.0 now) k took.1.gone left elements scopes way other)

  -- a child is fed: it runs, unless it keeps its output

  props_like : (w : State K) (t : ℕ) (c : VComponent K) → Like app lawful first root w (with_props app w t c)
  props_like w t c =
      record {
        stands = λ n. stands_at (at w.scopes t) refl n;
        finds = λ n y e. finds_at (at w.scopes t) refl n y e;
        kept = λ n a. kids_at (at w.scopes t) refl n a;
        elements = same_elements (at w.scopes t);
        scopes = same_scopes (at w.scopes t);
      }
    where
      f : Scope K → Scope K
      f x = record x { component = c }

      u : Option (Scope K) → State K
      u o = changed_scope w t f o

      same_elements : (o : Option (Scope K)) → (u o).next.elements ≡ w.next.elements
      same_elements None = refl
      same_elements (Some x) = refl

      same_scopes : (o : Option (Scope K)) → (u o).next_scope ≡ w.next_scope
      same_scopes None = refl
      same_scopes (Some x) = refl

      put_at : {A : Type 0} (g : Option (Scope K) → A) (x : Scope K) (n : ℕ) → at w.scopes t ≡ Some x → g (Some (f x)) ≡ g (Some x) → g (at (put w.scopes t (f x)) n) ≡ g (at w.scopes n)
      put_at g x n is same =
          by_test (nat_eq t n)
          (λ q. ap g (at_put_here w.scopes t (f x) n q) ∙ same ∙ ap g (sym is ∙ ap (λ (i : ℕ). at w.scopes i) (eqb-true t n q)))
          (λ q. ap g (at_put_other w.scopes t (f x) n q))

      stands_at : (o : Option (Scope K)) → at w.scopes t ≡ o → (n : ℕ) → stand (at (u o).scopes n) ≡ stand (at w.scopes n)
      stands_at None is n = refl
      stands_at (Some x) is n = put_at (λ o. stand o) x n is refl

      kids_at : (o : Option (Scope K)) → at w.scopes t ≡ o → (n : ℕ) (a : SideName) → kids (u o) n a ≡ kids w n a
      kids_at None is n a = refl
      kids_at (Some x) is n a = put_at (λ o. (twig_side a (twig o)).children) x n is (same_kids a)
        where
          same_kids : (a : SideName) → (twig_side a (twig (Some (f x)))).children ≡ (twig_side a (twig (Some x))).children
          same_kids MainSide = refl
          same_kids ChildrenSide = refl
          same_kids FallbackSide = refl

      same_sides : (x : Scope K) (a : SideName) → side_of (f x) a ≡ side_of x a
      same_sides x MainSide = refl
      same_sides x ChildrenSide = refl
      same_sides x FallbackSide = refl

      finds_at : (o : Option (Scope K)) → at w.scopes t ≡ o → (n : ℕ) (y : Scope K) → at (u o).scopes n ≡ Some y → (x : Scope K) × (at w.scopes n ≡ Some x) × (y.shows ≡ x.shows) × ((a : SideName) → side_of y a ≡ side_of x a)
      finds_at None is n y e = (y, e, refl, λ a. refl)
      finds_at (Some x) is n y e =
          by_test (nat_eq t n)
          (
          λ q.
          let same : f x ≡ y = same_scope (f x) y (sym (at_put_here w.scopes t (f x) n q) ∙ e) in
          (x, ap (λ (i : ℕ). at w.scopes i) (sym (eqb-true t n q)) ∙ is, ap (λ (i : Scope K). i.shows) (sym same), λ a. ap (λ (i : Scope K). side_of i a) (sym same) ∙ same_sides x a)
          )
          (λ q. (y, sym (at_put_other w.scopes t (f x) n q) ∙ e, refl, λ a. refl))

  module _ (w v : State K) (s t : ℕ) (a : SideName) (p : Place) (c : VComponent K) (rest work : List (Item K)) (now : Ready w (Feed s a p c ∷ rest)) (ready : Ready v (work ++ rest)) (line : Line (Feed s a p c ∷ rest))
      (h : Since app lawful first root w (Feed s a p c ∷ rest)) (kid : child_at (kids w s a) p ≡ Some t) (live : is_live w t ≡ true) where
    fed : Awaits w (Feed s a p c ∷ rest) t
    fed = inl (s, a, p, c, inl refl, kid)

    told : (up w t ≡ Some s) × (below w t ≡ Some a)
    told = (knows_of w (Feed s a p c ∷ rest) now.stands).parents s t a p kid live

    abbrev given : State K
    given = with_props app w t c

    like : Like app lawful first root w given
    like = props_like w t c

    left : Since app lawful first root given rest
    left = like_since app lawful first root w given rest like (since_rest app lawful first root w (Feed s a p c) rest h)

    back : (path : List ℕ) (i j : ℕ) → Climb given path i j → Climb w path i j
    back path i j g = climb_by w given like.stands path i j g

    -- no other item awaits the child that is fed
    fed_once : Awaits w rest t → ⊥
    fed_once (inl e) =
        let other = (knows_of w (Feed s a p c ∷ rest) now.stands).parents e.0 t e.1 e.2 e.5 live in
        let scope : Some s ≡ Some e.0 = sym told.0 ∙ other.0 in
        let side : Some a ≡ Some e.1 = sym told.1 ∙ other.1 in
        let one : s ≡ e.0 = cc in
        let two : a ≡ e.1 = cc in
        let kid_there : child_at (kids w s a) e.2 ≡ Some t = ap (λ (i : ℕ). child_at (kids w i a) e.2) one ∙ ap (λ (i : SideName). child_at (kids w e.0 i) e.2) two ∙ e.5 in
        let place : p ≡ e.2 =
        (knows_of w (Feed s a p c ∷ rest) now.stands).places s t a p e.2 (child_among (kids w s a) p t kid) (child_among (kids w s a) e.2 t kid_there) in
        every_among (λ (j : Item K). Ahead (Feed s a p c) j) rest (Feed e.0 e.1 e.2 e.3) line.0 e.4 one two place
    fed_once (inr e) =
        let scope : Some s ≡ Some e.0 = sym told.0 ∙ e.5 in
        let side : Some a ≡ Some e.2 = sym told.1 ∙ e.6 in
        let one : s ≡ e.0 = cc in
        let two : Some a ≡ Some e.2 = side in
        h.clear (Feed s a p c) e.0 e.1 a (inl refl) one refl (inr e.3) (e.4 ∙ sym two)

    not_awaited : (n : ℕ) (path : List ℕ) → Awaits w rest n → Climb w path t n → ⊥
    not_awaited n [] e g = fed_once (subst (λ (i : ℕ). Awaits w rest i) (sym g) e)
    not_awaited n (q ∷ path) e g =
        let same : Some q ≡ Some s = sym g.0 ∙ told.0 in
        let one : q ≡ s = cc in
        h.apart n (Feed s a p c) path (more_awaits w (Feed s a p c) rest n e) (inl refl) (subst (λ (i : ℕ). Climb w path i n) one g.1)

    above : (path : List ℕ) × Climb given path t root
    above = let g = h.inside (Feed s a p c) (inl refl) in (s ∷ g.0, climb_by given w (λ n. sym (like.stands n)) (s ∷ g.0) t root (told.0, g.1))

    fed_runs : (x : Scope K) → at given.scopes t ≡ Some x → run app given t ≡ Done v work → Since app lawful first root v (work ++ rest)
    fed_runs x there e =
        run_since app lawful first root given v t rest work x ready left there e (feed_none app lawful w s t a p c rest now kid live) above
        (
        λ z b begun.
        let y = like.finds t x there in
        let was = h.quiet t t [] fed refl live y.0 y.1 in
        let same : was.0 ≡ z = same_scope was.0 z (sym was.1 ∙ begun) in
        y.3 b ∙ was.2 b ∙ ap (λ (i : Scope K). side_of i b) same
        )
        (
        λ m u path over g alive.
        untouched_like app lawful first root w given like u
        (h.quiet t u (path ++ t ∷ []) fed
        (climb_on w path (t ∷ []) u m t (back path u m g) (sym (up_by w given m (like.stands m)) ∙ over, refl))
        (sym (live_by w given u (like.stands u)) ∙ alive))
        )
        (
        λ m j path over g e2.
        h.apart t j (path ++ t ∷ []) fed (inr g) (climb_on w path (t ∷ []) (owner j) m t (back path (owner j) m e2) (sym (up_by w given m (like.stands m)) ∙ over, refl))
        )
        (λ n path e2 g. not_awaited n path (awaits_like app lawful first root w given like rest n e2) (back path t n g))

    handed_since : (b : Bool) → (if b then Done given [] else run app given t) ≡ Done v work → Since app lawful first root v (work ++ rest)
    handed_since true e =
        let state : given ≡ v = cc in
        let items : [] ≡ work = cc in
        subst (λ (xs : List (Item K)). Since app lawful first root v (xs ++ rest)) items (subst (λ (i : State K). Since app lawful first root i rest) state left)
    handed_since false e =
        let x = found_live (at given.scopes t) (live_by w given t (like.stands t) ∙ live) in
        fed_runs x.0 x.1 e

  pub feed_since : (w v : State K) (s : ℕ) (a : SideName) (p : Place) (c : VComponent K) (rest work : List (Item K)) → Ready w (Feed s a p c ∷ rest) → Ready v (work ++ rest) → Line (Feed s a p c ∷ rest)
      → Since app lawful first root w (Feed s a p c ∷ rest) → outcome_of app w (Feed s a p c) ≡ Done v work → Since app lawful first root v (work ++ rest)
  feed_since w v s a p c rest work now ready line h e =
      let kid = now.woven.stack.1 in
      let is : handed app w kid.0 c ≡ Done v work = sym (ap (λ (o : Option ℕ). elim o as (λ z. Outcome K) [ None ↦ Done w [] | Some i ↦ handed app w i c ]) (fed_kid w s a p ∙ kid.1)) ∙ e in
      handed_since w v s kid.0 a p c rest work now ready line h kid.1 kid.2 (keeps app w kid.0 c) is
