-- The children on the sides of a scope, as one side changes or a child comes.
use Rattle.std.proofs.Common.{◌≡◌, ◌<◌, arith, ℕ, Bool, true, false, List, [], ◌∷◌, ◌++◌, ◌||◌, nat_eq, refl, sym, ap, ◌∙◌}
use Rattle.std.proofs.lemmas.Bool.{ltb-true}
use Rattle.std.specs.Prelude.{Result, Ok, Err, OnErr, OnOk, Option, Some, None, map, option_map, if◌then◌else◌}
use Rattle.rt_model.specs.Lists.{at, has, put}
use Rattle.rt_model.specs.OneLog.{types}
use Rattle.rt_model.specs.Tree.{Types, Place}
use Rattle.rt_model.specs.State as model
use Rattle.rt_model.specs.State.{MainSide, ChildrenSide, FallbackSide, side_of, with_side}
use Rattle.rt_model.proofs.Maps.{at_append_here, eq_same}
use Rattle.rt_model.proofs.Members.{by_either, clash, or_left, or_right}
use Rattle.run_records.specs.Kept.{each, scope_of}
use Rattle.run_records.specs.declared.rest.Scope.{Scope}
use Rattle.run_places.specs.declared.side.Side.{Side}
use Rattle.run_places.specs.declared.side.SideName.{SideName}
use Rattle.run_places.specs.Places as code
use Rattle.run_places.specs.Places.{side_name_of}
use Rattle.run_places.specs.Sides.{and_child}
use Rattle.run_state.specs.Mounts.{IsWaiting, Way, seats_in, seats_on, way_in, way_of, ways_in, ways_of}
use Rattle.run_state.specs.Sides.{FewerSeats, side_put}
use Rattle.run_state.proofs.Covers.{any_more, one_found}
use Rattle.run_state.proofs.Each.{at-each}
use Rattle.run_state.proofs.Put.{put_is}
use Rattle.run_state.proofs.Waiting.{row_below}

-- a number among two lists is among one of them
has_parts : {A : Type 0} (xs ys : List ℕ) (t : ℕ) → has (xs ++ ys) t ≡ true → (has xs t ≡ true → A) → (has ys t ≡ true → A) → A
has_parts [] ys t h here there = there h
has_parts (x ∷ xs) ys t h here there =
    by_either (nat_eq x t) (has (xs ++ ys) t) h (λ q. here (or_left (nat_eq x t) (has xs t) q))
    (λ q. has_parts xs ys t q (λ r. here (or_right (nat_eq x t) (has xs t) r)) there)

has_front : (xs ys : List ℕ) (t : ℕ) → has xs t ≡ true → has (xs ++ ys) t ≡ true
has_front xs ys t h = any_more (λ y. nat_eq y t) xs ys h

has_back : (xs ys : List ℕ) (t : ℕ) → has ys t ≡ true → has (xs ++ ys) t ≡ true
has_back [] ys t h = h
has_back (x ∷ xs) ys t h = or_right (nat_eq x t) (has (xs ++ ys) t) (has_back xs ys t h)

-- with one child more
has_more_seats : (es : List (Place × ℕ)) (p : Place) (child t : ℕ) → nat_eq child t ≡ false → has (map (λ (e : Place × ℕ). e.1) (es ++ (p, child) ∷ [])) t ≡ true
    → has (map (λ (e : Place × ℕ). e.1) es) t ≡ true
has_more_seats [] p child t other h = by_either (nat_eq child t) false h (λ q. clash q other) (λ q. q)
has_more_seats (e ∷ es) p child t other h =
    by_either (nat_eq e.1 t) (has (map (λ (e : Place × ℕ). e.1) (es ++ (p, child) ∷ [])) t) h
    (λ q. or_left (nat_eq e.1 t) (has (map (λ (e : Place × ℕ). e.1) es) t) q)
    (λ q. or_right (nat_eq e.1 t) (has (map (λ (e : Place × ℕ). e.1) es) t) (has_more_seats es p child t other q))

module _ {K : Types} where
  -- a child on a side is one on the sides
  pub seat_there : (x : model.Scope K) (name : model.SideName) (t : ℕ) → has (seats_on (side_of x name)) t ≡ true → has (seats_in x) t ≡ true
  seat_there x MainSide t h = has_front (seats_on x.main_side) (seats_on x.children_side ++ seats_on x.fallback_side) t h
  seat_there x ChildrenSide t h =
      has_back (seats_on x.main_side) (seats_on x.children_side ++ seats_on x.fallback_side) t (has_front (seats_on x.children_side) (seats_on x.fallback_side) t h)
  seat_there x FallbackSide t h =
      has_back (seats_on x.main_side) (seats_on x.children_side ++ seats_on x.fallback_side) t (has_back (seats_on x.children_side) (seats_on x.fallback_side) t h)

  -- one on the sides with another one in the place of one stands on that one, or stood there
  seat_from : {A : Type 0} (x : model.Scope K) (name : model.SideName) (side : model.Side K) (t : ℕ) → has (seats_in (with_side x name side)) t ≡ true
      → (has (seats_on side) t ≡ true → A) → (has (seats_in x) t ≡ true → A) → A
  seat_from x MainSide side t h own stood =
      has_parts (seats_on side) (seats_on x.children_side ++ seats_on x.fallback_side) t h own
      (λ q. stood (has_back (seats_on x.main_side) (seats_on x.children_side ++ seats_on x.fallback_side) t q))
  seat_from x ChildrenSide side t h own stood =
      has_parts (seats_on x.main_side) (seats_on side ++ seats_on x.fallback_side) t h (λ q. stood (seat_there x MainSide t q))
      (λ q. has_parts (seats_on side) (seats_on x.fallback_side) t q own (λ r. stood (seat_there x FallbackSide t r)))
  seat_from x FallbackSide side t h own stood =
      has_parts (seats_on x.main_side) (seats_on x.children_side ++ seats_on side) t h (λ q. stood (seat_there x MainSide t q))
      (λ q. has_parts (seats_on x.children_side) (seats_on side) t q (λ r. stood (seat_there x ChildrenSide t r)) own)

  -- of a side without other children none comes
  pub seat_stood : (x : model.Scope K) (name : model.SideName) (side : model.Side K) (t : ℕ) → (has (seats_on side) t ≡ true → has (seats_on (side_of x name)) t ≡ true)
      → has (seats_in (with_side x name side)) t ≡ true → has (seats_in x) t ≡ true
  seat_stood x name side t fewer h = seat_from x name side t h (λ q. seat_there x name t (fewer q)) (λ q. q)

module _ {P C Q V H T E L : Type 0} where
  -- another side of a scope, on which no other child stands
  pub seats_put : (name : SideName) (side : Side P C Q V H T E L) (x y : Scope P C Q V H T E L) (t : ℕ) → y ≡ side_put name side x → FewerSeats (code.side_of side) (side_of (scope_of x) (side_name_of name))
      → has (way_of y).children t ≡ true → has (way_of x).children t ≡ true
  seats_put name side x y t is fewer child =
      seat_stood (scope_of x) (side_name_of name) (code.side_of side) t (λ q. fewer.stood t q)
      (sym (ap (λ (z : Scope P C Q V H T E L). has (seats_in (scope_of z)) t) is ∙ ap (λ (z : model.Scope (types C Q V H T E L)). has (seats_in z) t) (put_is name side x)) ∙ child)

module _ {P C Q V H T E L U X : Type 0} where
  -- a side with one child more, or the same one where it is refused
  pub seat_one : (r : Result U X) (old new : Side P C Q V H T E L) (p : Place) (child t : ℕ) → OnOk r (code.side_of new ≡ and_child (code.side_of old) (p, child)) → OnErr r (new ≡ old)
      → nat_eq child t ≡ false → has (seats_on (code.side_of new)) t ≡ true → has (seats_on (code.side_of old)) t ≡ true
  seat_one (Ok u) old new p child t seated same other h =
      has_more_seats (code.side_of old).children p child t other (sym (ap (λ (a : model.Side (types C Q V H T E L)). has (seats_on a) t) seated) ∙ h)
  seat_one (Err e) old new p child t seated same other h = sym (ap (λ (a : Side P C Q V H T E L). has (seats_on (code.side_of a)) t) same) ∙ h

module _ {A : Type 0} where
  -- what stands in a list stands in a longer one
  pub at_front : (es others : List (ℕ × A)) (n : ℕ) (x : A) → at es n ≡ Some x → at (es ++ others) n ≡ Some x
  at_front [] others n x h = absurd (cc h)
  at_front (e ∷ es) others n x h = by (nat_eq e.0 n) h (at_front es others n x)
    where
      by : (b : Bool) → (if b then Some e.1 else at es n) ≡ Some x → (at es n ≡ Some x → at (es ++ others) n ≡ Some x) → (if b then Some e.1 else at (es ++ others) n) ≡ Some x
      by true here rest = here
      by false here rest = rest here

  -- and is replaced there
  put_front : (es others : List (ℕ × A)) (n : ℕ) (x y : A) → at es n ≡ Some x → put (es ++ others) n y ≡ put es n y ++ others
  put_front [] others n x y h = absurd (cc h)
  put_front (e ∷ es) others n x y h = by (nat_eq e.0 n) h (put_front es others n x y)
    where
      by : (b : Bool) → (if b then Some e.1 else at es n) ≡ Some x → (at es n ≡ Some x → put (es ++ others) n y ≡ put es n y ++ others)
          → (if b then (n, y) ∷ (es ++ others) else e ∷ put (es ++ others) n y) ≡ (if b then (n, y) ∷ es else e ∷ put es n y) ++ others
      by true here rest = refl
      by false here rest = ap (λ (fs : List (ℕ × A)). e ∷ fs) (rest here)

module _ {K : Types} where
  -- the change of a scope once another one has joined
  pub change_front : (w : model.State K) (n s next : ℕ) (x y : model.Scope K) (f : model.Scope K → model.Scope K) → at w.scopes s ≡ Some x
      → model.change (record w { scopes = w.scopes ++ (n, y) ∷ []; next_scope = next }) s f ≡ record w { scopes = put w.scopes s (f x) ++ (n, y) ∷ []; next_scope = next }
  change_front w n s next x y f found =
      let more : model.State K = record w { scopes = w.scopes ++ (n, y) ∷ []; next_scope = next } in
      ap (λ (o : Option (model.Scope K)). model.changed_scope more s f o) (at_front w.scopes ((n, y) ∷ []) s x found)
      ∙ ap (λ (es : List (ℕ × model.Scope K)). let v : model.State K = record w { scopes = es; next_scope = next } in v) (put_front w.scopes ((n, y) ∷ []) s x (f x) found)

  -- the parent of a scope that has joined
  way_joined : (scopes new : List (ℕ × model.Scope K)) (n : ℕ) (x : model.Scope K) → at scopes n ≡ None → new ≡ scopes ++ (n, x) ∷ [] → (y : Way) → at (ways_in new) n ≡ Some y → y.parent ≡ x.parent
  way_joined scopes new n x free joined y there =
      let here : at (ways_in new) n ≡ Some (way_in x) =
      at-each way_in new n
      ∙ ap (λ (es : List (ℕ × model.Scope K)). option_map way_in (at es n)) joined
      ∙ ap (λ (o : Option (model.Scope K)). option_map way_in o) (at_append_here scopes n x n (eq_same n) free) in
      ap (λ (z : Way). z.parent) (one_found (at (ways_in new) n) y (way_in x) there here)

module _ {P C Q V H T E L : Type 0} where
  -- no scope has the next number
  next_free : (rows : List (ℕ × Scope P C Q V H T E L)) (fresh : List ℕ) (hidden : List (ℕ × ℕ)) (bound : ℕ) → ∥ IsWaiting (ways_of rows) fresh hidden bound ∥₁ → at (each scope_of rows) bound ≡ None
  next_free rows fresh hidden bound held =
      at-each scope_of rows bound ∙ ap (λ (o : Option (Scope P C Q V H T E L)). option_map scope_of o) (by (at rows bound) refl)
    where
      by : (o : Option (Scope P C Q V H T E L)) → at rows bound ≡ o → at rows bound ≡ None
      by None e = e
      by (Some x) e = let low : bound < bound = ltb-true bound bound (row_below rows fresh hidden bound bound x held e) in absurd (omega (arith, low))

  -- the scope that joined under the next number knows its parent
  pub next_known : (rows new : List (ℕ × Scope P C Q V H T E L)) (fresh : List ℕ) (hidden : List (ℕ × ℕ)) (bound s : ℕ) (x : model.Scope (types C Q V H T E L)) → ∥ IsWaiting (ways_of rows) fresh hidden bound ∥₁
      → each scope_of new ≡ each scope_of rows ++ (bound, x) ∷ [] → x.parent ≡ Some s → (y : Way) → at (ways_of new) bound ≡ Some y → y.parent ≡ Some s
  next_known rows new fresh hidden bound s x held joined up y there =
      way_joined (each scope_of rows) (each scope_of new) bound x (next_free rows fresh hidden bound held) joined y there ∙ up
