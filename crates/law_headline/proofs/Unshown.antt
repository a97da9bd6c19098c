-- Where no work is open: a number whose home is below a scope that doesn't show it isn't shown at all.
use Rattle.std.proofs.Common.{ℕ, zero, suc, ◌+◌, ◌≤◌, ◌<◌, List, [], ◌∷◌, ◌++◌, ◌≡◌, refl, sym, ap, ◌∙◌, subst, arith, length}
use Rattle.std.specs.Prelude.{Option, Some, None}
use Rattle.rt_model.specs.Lists.{at}
use Rattle.rt_model.specs.Tree.{Types, Place, Kind, Spot, node_at, component_at, spots}
use Rattle.rt_model.specs.State.{SideName, Scope, State, side_of, height_of}
use Rattle.rt_model.specs.Document.{Forest, count_of}
use Rattle.rt_model.specs.View.{child_view, tree_view, nodes_of, view}
use Rattle.rt_model.proofs.Among.{Among}
use Rattle.rt_model.proofs.NumbersStand.{child_among}
use Rattle.law_moves.proofs.Twigs.{up, up_found, below_found, found_live}
use Rattle.law_moves.proofs.Woven.{Climb}
use Rattle.law_moves.specs.Trees.{HasChild}
use Rattle.law_headline.proofs.Nodes.{Shown, Settled, shown_of, view_of, kid_of}
use Rattle.law_headline.proofs.Above.{climb_one}
use Rattle.law_headline.proofs.Climbs.{climb_on, climb_height, rises, no_cycle, parent_lives}
use Rattle.law_headline.proofs.ClaimedOnce.{Tag, Here, here_more, Known, tree_counted}
use Rattle.law_headline.proofs.Homes.{Entry, Under, KidAt, HomeAt, home_once, spot_known, scope_under}

none_of : (m : ℕ) → (0 < m → ⊥) → m ≡ 0
none_of zero h = refl
none_of (suc m) h = absurd (h (omega arith))

module _ {K : Types} (w : State K) (f : Settled w) (i : ℕ) where
  pub own_entry : (t : ℕ) (x : Scope K) (a : SideName) (p : Place) (k : Kind) → at w.scopes t ≡ Some x → Among (side_of x a).numbers (p, k, i) → Entry w f i t a p k
  own_entry t x a p k found e = record { row = x; found = found; number = e }

  pub own_kid : (t : ℕ) (x : Scope K) (a : SideName) (p : Place) (kid : HasChild w t x a p) → at w.scopes t ≡ Some x → KidAt w f i t a p kid.child
  own_kid t x a p kid found =
      record {
        row = x;
        found = found;
        child = child_among (side_of x a).children p kid.child kid.kid;
        above = up_found w kid.child kid.record_of kid.live ∙ kid.parent;
        below_is = below_found w kid.child kid.record_of kid.live ∙ ap (λ (s : SideName). Some s) kid.below;
      }

  -- how often a live scope shows the number, and that its home is there then
  pub own_under : (t : ℕ) (x : Scope K) → at w.scopes t ≡ Some x → Here (count_of i (nodes_of w t)) (Under w f i t)
  own_under t x found = scope_under w f i w f own_entry (λ s y a p kid there some u. own_kid s y a p kid there) t x found

  own_known : (t : ℕ) (x : Scope K) (d : Shown x) → at w.scopes t ≡ Some x → (e : Spot K) → Among (spots [] d.tree) e
      → Known (λ p k. HomeAt w f i t d.side p k) (λ p q k l c e. home_once w f i t d.side p q k l c e) (side_of x d.side) (λ u. nodes_of w u) i e
  own_known t x d found =
      spot_known w f i w f own_entry (λ s y a p kid there some u. own_kid s y a p kid there) t x d.side d.tree found d.output (λ u y there level. own_under u y there)

  -- the home as a scope's side shows it: a child that has the number shows it
  abbrev SeenAt : ℕ → SideName → Place → Tag → Type 0
  SeenAt t a p (Some k) = Entry w f i t a p k
  SeenAt t a p None = (u : ℕ) × KidAt w f i t a p u × Under w f i u × (0 < count_of i (nodes_of w u))

  home_seen : (t : ℕ) (a : SideName) (p : Place) (k : Tag) → SeenAt t a p k → HomeAt w f i t a p k
  home_seen t a p (Some k) e = e
  home_seen t a p None e = (e.0, e.1, e.2)

  seen_once : (t : ℕ) (a : SideName) (p q : Place) (k l : Tag) → SeenAt t a p k → SeenAt t a q l → (p ≡ q) × (k ≡ l)
  seen_once t a p q k l e d = home_once w f i t a p q k l (home_seen t a p k e) (home_seen t a q l d)

  seen_known : (t : ℕ) (x : Scope K) (d : Shown x) → at w.scopes t ≡ Some x → (e : Spot K) → Among (spots [] d.tree) e
      → Known (λ p k. SeenAt t d.side p k) (λ p q k l c e. seen_once t d.side p q k l c e) (side_of x d.side) (λ u. nodes_of w u) i e
  seen_known t x d found (node_at p k) g = own_known t x d found (node_at p k) g
  seen_known t x d found (component_at p c) g =
      let kid : HasChild w t x d.side p = kid_of w f t x d.side d.tree p c found d.output g in
      let inner = own_under kid.child kid.record_of kid.live in
      subst (λ (o : Option ℕ). Here (count_of i (child_view (λ u. nodes_of w u) o)) (SeenAt t d.side p None)) (sym kid.kid)
      (inner.0, λ more. (kid.child, own_kid t x d.side p kid found, inner.1 more, more))

  seen_home : (t : ℕ) (x : Scope K) (d : Shown x) → at w.scopes t ≡ Some x → Here (count_of i (nodes_of w t)) ((p : Place) × (k : Tag) × SeenAt t d.side p k)
  seen_home t x d found =
      here_more (count_of i (nodes_of w t)) (count_of i (tree_view (side_of x d.side) (λ u. nodes_of w u) [] d.tree)) (ap (λ (z : Forest). count_of i z) (view_of w f t x found d))
      (λ c. (c.0, c.1, c.2))
      (tree_counted (λ p k. SeenAt t d.side p k) (λ p q k l c e. seen_once t d.side p q k l c e) (side_of x d.side) (λ u. nodes_of w u) i [] d.tree (seen_known t x d found))

  -- one child scope of a scope has the number at or below it
  same_child : (p s u : ℕ) → up w s ≡ Some p → up w u ≡ Some p → Under w f i s → Under w f i u → s ≡ u
  same_child p s u m n x y =
      let scope : x.scope ≡ y.scope =
      ((f.ready.stands).once x.scope y.scope i x.entry.row y.entry.row x.side y.side x.place y.place x.kind y.kind x.entry.found y.entry.found x.entry.number y.entry.number).0 in
      let one = climb_height w [] f.ready x.path x.scope s x.climb in
      let two = climb_height w [] f.ready y.path y.scope u y.climb in
      let three = rises w [] f.ready s p m in
      let four = rises w [] f.ready u p n in
      let same : height_of w.scopes x.scope ≡ height_of w.scopes y.scope = ap (λ (j : ℕ). height_of w.scopes j) scope in
      let lengths : length x.path ≡ length y.path = omega (arith, one, two, three, four, same) in
      climb_one w x.path y.path x.scope s u x.climb (subst (λ (j : ℕ). Climb w y.path j u) (sym scope) y.climb) lengths

  -- where a parent shows the number, the child that has its home does
  child_shows : (s p : ℕ) → up w s ≡ Some p → Under w f i s → 0 < count_of i (nodes_of w p) → 0 < count_of i (nodes_of w s)
  child_shows s p above under more =
      let y = found_live (at w.scopes p) (parent_lives w [] f.ready s p above) in
      let d : Shown y.0 = shown_of w f p y.0 y.1 in
      let home = (seen_home p y.0 d y.1).1 more in
      by_tag home.0 home.1 d.side home.2
    where
      by_tag : (q : Place) (tag : Tag) (a : SideName) → SeenAt p a q tag → 0 < count_of i (nodes_of w s)
      by_tag q (Some k) a e =
          let scope : under.scope ≡ p =
          ((f.ready.stands).once under.scope p i under.entry.row e.row under.side a under.place q under.kind k under.entry.found e.found under.entry.number e.number).0 in
          no_cycle w [] f.ready under.path p s (subst (λ (j : ℕ). Climb w under.path j s) scope under.climb) above
      by_tag q None a e =
          let same : s ≡ e.0 = same_child p s e.0 above (e.1).above under e.2 in
          subst (λ (j : ℕ). 0 < count_of i (nodes_of w j)) (sym same) e.3

  -- and so from any scope above
  shows_down : (path : List ℕ) (s t : ℕ) → Climb w path s t → Under w f i s → 0 < count_of i (nodes_of w t) → 0 < count_of i (nodes_of w s)
  shows_down [] s t c under more = subst (λ (j : ℕ). 0 < count_of i (nodes_of w j)) (sym c) more
  shows_down (p ∷ path) s t c under more =
      let higher : Under w f i p =
      record {
        scope = under.scope;
        side = under.side;
        place = under.place;
        kind = under.kind;
        entry = under.entry;
        path = under.path ++ p ∷ [];
        climb = climb_on w under.path (p ∷ []) under.scope s p under.climb (c.0, refl);
      } in
      child_shows s p c.0 under (shows_down path p t c.1 higher more)

  -- each live scope is below the first one
  top_by : (s : ℕ) (x : Scope K) (o : Option ℕ) → at w.scopes s ≡ Some x → x.parent ≡ o
      → ((p : ℕ) (y : Scope K) → at w.scopes p ≡ Some y → x.height ≡ y.height + 1 → (path : List ℕ) × Climb w path p 0)
      → (path : List ℕ) × Climb w path s 0
  top_by s x None found e go = ([], (f.topped s x found e).1)
  top_by s x (Some p) found e go =
      let y = (f.tree).parent s p x found e in
      let r = go p y.0 y.1 y.2 in
      (p ∷ r.0, (up_found w s x found ∙ e, r.1))

  to_top : (n s : ℕ) (x : Scope K) → at w.scopes s ≡ Some x → x.height ≤ n → (path : List ℕ) × Climb w path s 0
  to_top zero s x found bound = top_by s x x.parent found refl (λ p y there level. absurd (omega (arith, bound, level)))
  to_top (suc n) s x found bound = top_by s x x.parent found refl (λ p y there level. to_top n p y there (omega (arith, bound, level)))

  pub hidden : (s : ℕ) (x : Scope K) → at w.scopes s ≡ Some x → Under w f i s → count_of i (nodes_of w s) ≡ 0 → count_of i (view w) ≡ 0
  hidden s x found under none =
      let way = to_top x.height s x found (omega arith) in
      none_of (count_of i (view w)) (λ more. let shows = shows_down way.0 s 0 way.1 under more in omega (arith, shows, none))
