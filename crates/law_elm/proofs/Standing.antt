-- What is known of each scope: it keeps no error, its component is what has to stand there, and so are those of its children.
use Rattle.std.proofs.Common.{ℕ, ◌<◌, Bool, true, false, List, [], ◌∷◌, ◌++◌, ◌≡◌, sym, ◌∙◌, subst, nat_eq}
use Rattle.std.specs.Prelude.{Option, Some, None, if◌then◌else◌}
use Rattle.std.specs.List.{AllByRecursion}
use Rattle.rt_model.specs.Tree.{Types, Tree, VComponent, Own, Root, Fragment, ErrorBoundary, SuspenseBoundary, Place, Spot, same_place}
use Rattle.rt_model.specs.World.{Hook, Application}
use Rattle.rt_model.specs.State.{SideName, MainSide, ChildrenSide, FallbackSide, Side, Scope, side_of, with_side}
use Rattle.rt_model.specs.Run.{child_at, component_in, children_tree, is_fed, kept_children}
use Rattle.rt_model.proofs.Maps.{by_test, pick_true, pick_false}
use Rattle.author_programs.specs.Cells.{Keeping}
use Rattle.author_programs.specs.Pages.{Pages}
use Rattle.law_elm.proofs.Tiers.{Tier, next_tier, IsTier}
use Rattle.law_elm.proofs.Rules.{Alike, Rules, Facts}

module _ {K : Types} where
  -- an error boundary shows its children
  abbrev pub ShowsKids : VComponent K → Option (Tree K) → Type 0
  ShowsKids (ErrorBoundary children handler) output = output ≡ Some (children_tree children)
  ShowsKids (Own component props) output = Unit {0}
  ShowsKids (Root component props) output = Unit {0}
  ShowsKids (Fragment children) output = Unit {0}
  ShowsKids (SuspenseBoundary children fallback) output = Unit {0}

module _ (tiers : ℕ → Tier) (bound : ℕ) where
  -- these children are what stands on a side of such a scope
  abbrev pub Kids : Tier → List (Place × ℕ) → Type 0
  Kids t children = AllByRecursion (λ (e : Place × ℕ). (tiers e.1 ≡ t) × (e.1 < bound)) children

  pub kids_on : (t : Tier) (xs ys : List (Place × ℕ)) → Kids t xs → Kids t ys → Kids t (xs ++ ys)
  kids_on t [] ys h g = g
  kids_on t (x ∷ xs) ys h g = (h.0, kids_on t xs ys h.1 g)

  pub kid_found : (t : Tier) (xs : List (Place × ℕ)) (p : Place) (n : ℕ) → Kids t xs → child_at xs p ≡ Some n → (tiers n ≡ t) × (n < bound)
  kid_found t [] p n h e = cc
  kid_found t (x ∷ xs) p n h e =
      by_test (same_place x.0 p)
      (
      λ q.
      let is : Some x.1 ≡ Some n = sym (pick_true (Some x.1) (child_at xs p) q) ∙ e in
      let one : x.1 ≡ n = cc in
      subst (λ (m : ℕ). (tiers m ≡ t) × (m < bound)) one h.0
      )
      (λ q. kid_found t xs p n h.1 (sym (pick_false (Some x.1) (child_at xs p) q) ∙ e))

  kids_either : (t : Tier) (b : Bool) (xs ys : List (Place × ℕ)) → Kids t xs → Kids t ys → Kids t (if b then xs else ys)
  kids_either t true xs ys h g = h
  kids_either t false xs ys h g = g

  pub kids_kept : {K : Types} (app : Application K) (old new : List (Spot K)) (t : Tier) (xs : List (Place × ℕ)) → Kids t xs → Kids t (kept_children app old new xs)
  kids_kept app old new t [] h = tt
  kids_kept app old new t (x ∷ xs) h =
      let later : Kids t (kept_children app old new xs) = kids_kept app old new t xs h.1 in
      kids_either t (is_fed app (component_in old x.0) (component_in new x.0)) (x ∷ kept_children app old new xs) (kept_children app old new xs) (h.0, later) later

module _ {K : Types} (k : Keeping K.Value) (a : Pages K) (given : K.Props) (law : Rules k a given) (tiers : ℕ → Tier) (bound : ℕ) where
  -- a scope without an error, whose component is what has to stand there, and so are its children
  pub record Stands (n : ℕ) (x : Scope K) : Type 0 where
    pub error : x.error ≡ None
    pub is : IsTier law.may a.root given (tiers n) x.component
    pub low : n < bound
    pub main : Kids tiers bound (next_tier (tiers n) MainSide) x.main_side.children
    pub held : Kids tiers bound (next_tier (tiers n) ChildrenSide) x.children_side.children
    pub fallback : Kids tiers bound (next_tier (tiers n) FallbackSide) x.fallback_side.children
    pub hooks : law.hooks n x.hooks

  pub stands_alike : (n : ℕ) (x y : Scope K) → Alike x y → Stands n x → Stands n y
  stands_alike n x y same h =
      record {
        error = same.error ∙ h.error;
        is = subst (λ (d : VComponent K). IsTier law.may a.root given (tiers n) d) (sym same.component) h.is;
        low = h.low;
        main = subst (λ (es : List (Place × ℕ)). Kids tiers bound (next_tier (tiers n) MainSide) es) (sym same.main) h.main;
        held = subst (λ (es : List (Place × ℕ)). Kids tiers bound (next_tier (tiers n) ChildrenSide) es) (sym same.held) h.held;
        fallback = subst (λ (es : List (Place × ℕ)). Kids tiers bound (next_tier (tiers n) FallbackSide) es) (sym same.fallback) h.fallback;
        hooks = subst (λ (hs : List (Hook K)). law.hooks n hs) (sym same.hooks) h.hooks;
      }

  pub stands_longer : (n : ℕ) (x : Scope K) (h : Hook K) → Stands n x → Stands n (record x { hooks = x.hooks ++ h ∷ [] })
  stands_longer n x hook h =
      record { error = h.error; is = h.is; low = h.low; main = h.main; held = h.held; fallback = h.fallback; hooks = law.longer n x.hooks hook h.hooks }

  -- another side
  pub stands_side : (n : ℕ) (x : Scope K) (side : SideName) (z : Side K) → Kids tiers bound (next_tier (tiers n) side) z.children → Stands n x → Stands n (with_side x side z)
  stands_side n x MainSide z kids h =
      record { error = h.error; is = h.is; low = h.low; main = kids; held = h.held; fallback = h.fallback; hooks = h.hooks }
  stands_side n x ChildrenSide z kids h =
      record { error = h.error; is = h.is; low = h.low; main = h.main; held = kids; fallback = h.fallback; hooks = h.hooks }
  stands_side n x FallbackSide z kids h =
      record { error = h.error; is = h.is; low = h.low; main = h.main; held = h.held; fallback = kids; hooks = h.hooks }

  -- the children of a side
  pub kids_of : (n : ℕ) (x : Scope K) (side : SideName) → Stands n x → Kids tiers bound (next_tier (tiers n) side) (side_of x side).children
  kids_of n x MainSide h = h.main
  kids_of n x ChildrenSide h = h.held
  kids_of n x FallbackSide h = h.fallback

  -- so, and it shows its children where it is an error boundary
  abbrev pub Good : ℕ → Scope K → Type 0
  Good n x = Stands n x × ShowsKids x.component x.main_side.output

  pub shows_alike : (x y : Scope K) → Alike x y → ShowsKids x.component x.main_side.output → ShowsKids y.component y.main_side.output
  shows_alike x y same h =
      subst (λ (d : VComponent K). ShowsKids d y.main_side.output) (sym same.component) (subst (λ (o : Option (Tree K)). ShowsKids x.component o) (sym same.output) h)

  pub good_alike : (n : ℕ) (x y : Scope K) → Alike x y → Good n x → Good n y
  good_alike n x y same h = (stands_alike n x y same h.0, shows_alike x y same h.1)

  -- but for one scope, which may show anything
  abbrev pub But : ℕ → ℕ → Scope K → Type 0
  But b n x = Stands n x × (nat_eq b n ≡ false → ShowsKids x.component x.main_side.output)

  -- that one is at work on a component
  abbrev pub Running : ℕ → VComponent K → ℕ → Scope K → Type 0
  Running b c n x = But b n x × (nat_eq b n ≡ true → x.component ≡ c)

  pub running_alike : (b : ℕ) (c : VComponent K) (n : ℕ) (x y : Scope K) → Alike x y → Running b c n x → Running b c n y
  running_alike b c n x y same h = ((stands_alike n x y same (h.0).0, λ q. shows_alike x y same ((h.0).1 q)), λ q. same.component ∙ h.1 q)

  abbrev pub good_facts : Facts law.hooks
  good_facts =
      record {
        of = λ n x. Good n x;
        keeps = λ n x y same h. good_alike n x y same h;
        longer = λ n x hook h. (stands_longer n x hook h.0, h.1);
        bare = λ n x h. (h.0).error;
        hooked = λ n x h. (h.0).hooks;
      }

  abbrev pub running_facts : ℕ → VComponent K → Facts law.hooks
  running_facts b c =
      record {
        of = λ n x. Running b c n x;
        keeps = λ n x y same h. running_alike b c n x y same h;
        longer = λ n x hook h. ((stands_longer n x hook (h.0).0, (h.0).1), h.1);
        bare = λ n x h. ((h.0).0).error;
        hooked = λ n x h. ((h.0).0).hooks;
      }
