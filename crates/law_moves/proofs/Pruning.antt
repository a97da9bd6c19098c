-- What a removal leaves: where the first child went the others are left, and at the end the scope alone is gone with what was below it.
use Rattle.std.proofs.Common.{ℕ, ◌+◌, ◌≤◌, ◌<◌, Bool, true, false, List, [], ◌∷◌, ◌++◌, ◌≡◌, refl, sym, ap, ◌∙◌, subst, arith, nat_eq}
use Rattle.std.specs.Prelude.{Option, Some, None, is_some, if◌then◌else◌}
use Rattle.std.specs.List.{AllByRecursion}
use Rattle.std.proofs.lemmas.Bool.{eqb-true}
use Rattle.rt_model.specs.Lists.{at, kept_by}
use Rattle.rt_model.specs.Tree.{Types, Place, Spot, node_at, component_at}
use Rattle.rt_model.specs.World.{Application}
use Rattle.rt_model.specs.State.{Side, Scope, State, is_live, height_of}
use Rattle.rt_model.specs.Run.{child_at, spots_of}
use Rattle.rt_model.specs.Boundary.{live_child, children_among, side_scopes}
use Rattle.rt_model.specs.Removal.{children_below}
use Rattle.rt_model.specs.Framed.{Frame, framed}
use Rattle.rt_model.proofs.Maps.{by_test, pick_true, pick_false}
use Rattle.rt_model.proofs.TakesOne.{removal_takes_one}
use Rattle.law_moves.specs.Removals.{Apart, children_at, Wooded, IsWay, Thins, NoHigher, Others, Pruned, OthersAreLeft, OneMoreWent, LeafEnds, LeafPrunes}
use Rattle.law_moves.proofs.Leaves.{AllLive, children_live, first_height}

-- a list of which a test lets some through

kept-append : (test : ℕ → Bool) (xs ys : List ℕ) → kept_by test (xs ++ ys) ≡ kept_by test xs ++ kept_by test ys
kept-append test [] ys = refl
kept-append test (x ∷ xs) ys =
    by_test (test x)
    (
    λ q.
    pick_true (x ∷ kept_by test (xs ++ ys)) (kept_by test (xs ++ ys)) q
    ∙ ap (λ (zs : List ℕ). x ∷ zs) (kept-append test xs ys)
    ∙ sym (ap (λ (zs : List ℕ). zs ++ kept_by test ys) (pick_true (x ∷ kept_by test xs) (kept_by test xs) q))
    )
    (
    λ q.
    pick_false (x ∷ kept_by test (xs ++ ys)) (kept_by test (xs ++ ys)) q
    ∙ kept-append test xs ys
    ∙ sym (ap (λ (zs : List ℕ). zs ++ kept_by test ys) (pick_false (x ∷ kept_by test xs) (kept_by test xs) q))
    )

-- where it holds of all, all are left
kept_all : (test : ℕ → Bool) (xs : List ℕ) → AllByRecursion (λ (x : ℕ). test x ≡ true) xs → kept_by test xs ≡ xs
kept_all test [] h = refl
kept_all test (x ∷ xs) h = pick_true (x ∷ kept_by test xs) (kept_by test xs) h.0 ∙ ap (λ (zs : List ℕ). x ∷ zs) (kept_all test xs h.1)

-- what held of all holds of those that are left
all_kept : (P Q : ℕ → Type 0) (test : ℕ → Bool) (xs : List ℕ) → ((x : ℕ) → test x ≡ true → P x → Q x) → AllByRecursion P xs → AllByRecursion Q (kept_by test xs)
all_kept P Q test [] f h = tt
all_kept P Q test (x ∷ xs) f h =
    let tail = all_kept P Q test xs f h.1 in
    by_test (test x)
    (λ q. subst (λ (zs : List ℕ). AllByRecursion Q zs) (sym (pick_true (x ∷ kept_by test xs) (kept_by test xs) q)) (f x q h.0, tail))
    (λ q. subst (λ (zs : List ℕ). AllByRecursion Q zs) (sym (pick_false (x ∷ kept_by test xs) (kept_by test xs) q)) tail)

apart_kept : (test : ℕ → Bool) (xs : List ℕ) → Apart xs → Apart (kept_by test xs)
apart_kept test [] h = tt
apart_kept test (x ∷ xs) h =
    let tail = apart_kept test xs h.1 in
    let other : ℕ → Type 0 = λ (y : ℕ). nat_eq x y ≡ false in
    by_test (test x)
    (λ q. subst (λ (zs : List ℕ). Apart zs) (sym (pick_true (x ∷ kept_by test xs) (kept_by test xs) q)) (all_kept other other test xs (λ y t g. g) h.0, tail))
    (λ q. subst (λ (zs : List ℕ). Apart zs) (sym (pick_false (x ∷ kept_by test xs) (kept_by test xs) q)) tail)

module _ {K : Types} where
  -- what a frame tells of its scope: its height, whether it is there, its children

  abbrev frame_height : Option (Frame K) → ℕ
  frame_height None = 0
  frame_height (Some f) = f.2

  height_framed : (o : Option (Scope K)) → elim o as (λ z. ℕ) [ None ↦ 0 | Some x ↦ x.height ] ≡ frame_height (framed o)
  height_framed None = refl
  height_framed (Some x) = refl

  live_framed : (o : Option (Scope K)) → is_some o ≡ is_some (framed o)
  live_framed None = refl
  live_framed (Some x) = refl

  abbrev frame_children : State K → Option (Frame K) → List ℕ
  frame_children w None = []
  frame_children w (Some f) = side_scopes w f.6 ++ side_scopes w f.5 ++ side_scopes w f.4

  children_framed : (w : State K) (o : Option (Scope K)) → children_below w o ≡ frame_children w (framed o)
  children_framed w None = refl
  children_framed w (Some x) = refl

  -- a scope is framed in v as in w
  abbrev pub SameFrame : State K → State K → ℕ → Type 0
  SameFrame w v s = framed (at v.scopes s) ≡ framed (at w.scopes s)

  pub same_height : (w v : State K) (s : ℕ) → SameFrame w v s → height_of v.scopes s ≡ height_of w.scopes s
  same_height w v s h = height_framed (at v.scopes s) ∙ ap (λ (f : Option (Frame K)). frame_height f) h ∙ sym (height_framed (at w.scopes s))

  pub same_live : (w v : State K) (s : ℕ) → SameFrame w v s → is_live v s ≡ is_live w s
  same_live w v s h = live_framed (at v.scopes s) ∙ ap (λ (f : Option (Frame K)). is_some f) h ∙ sym (live_framed (at w.scopes s))

  no_children : (w : State K) (o : Option (Scope K)) → is_some o ≡ false → children_below w o ≡ []
  no_children w None h = refl
  no_children w (Some x) h = cc

  -- where no scope came, the children that are left are those that are still live
  module _ (w v : State K) (none_came : (s : ℕ) → is_live v s ≡ true → is_live w s ≡ true) where
    abbrev left : List ℕ → List ℕ
    left ss = kept_by (λ (s : ℕ). is_live v s) ss

    left_if : (t : ℕ) (b c : Bool) → is_live v t ≡ b → is_live w t ≡ c → (if b then t ∷ [] else []) ≡ left (if c then t ∷ [] else [])
    left_if t true true now before = sym (pick_true (t ∷ []) [] now)
    left_if t true false now before = let absurdity : true ≡ false = sym (none_came t now) ∙ before in cc
    left_if t false true now before = sym (pick_false (t ∷ []) [] now)
    left_if t false false now before = refl

    child_left : (o : Option ℕ) → live_child v o ≡ left (live_child w o)
    child_left None = refl
    child_left (Some t) = left_if t (is_live v t) (is_live w t) refl refl

    among_left : (children : List (Place × ℕ)) (ss : List (Spot K)) → children_among v children ss ≡ left (children_among w children ss)
    among_left children [] = refl
    among_left children (node_at p k ∷ ss) = among_left children ss
    among_left children (component_at p c ∷ ss) =
        let here : List ℕ = live_child w (child_at children p) in
        ap (λ (zs : List ℕ). zs ++ children_among v children ss) (child_left (child_at children p))
        ∙ ap (λ (zs : List ℕ). left here ++ zs) (among_left children ss)
        ∙ sym (kept-append (λ (s : ℕ). is_live v s) here (children_among w children ss))

    side_left : (side : Side K) → side_scopes v side ≡ left (side_scopes w side)
    side_left side = among_left side.children (spots_of side.output)

    frame_left : (f : Option (Frame K)) → frame_children v f ≡ left (frame_children w f)
    frame_left None = refl
    frame_left (Some f) =
        let a : List ℕ = side_scopes w f.6 in
        let b : List ℕ = side_scopes w f.5 in
        let c : List ℕ = side_scopes w f.4 in
        let test : ℕ → Bool = λ (s : ℕ). is_live v s in
        ap (λ (zs : List ℕ). zs ++ side_scopes v f.5 ++ side_scopes v f.4) (side_left f.6)
        ∙ ap (λ (zs : List ℕ). left a ++ zs ++ side_scopes v f.4) (side_left f.5)
        ∙ ap (λ (zs : List ℕ). left a ++ left b ++ zs) (side_left f.4)
        ∙ sym (ap (λ (zs : List ℕ). zs ++ left c) (kept-append test a b))
        ∙ sym (kept-append test (a ++ b) c)

    children_left : (s : ℕ) → SameFrame w v s → children_at v s ≡ left (children_at w s)
    children_left s h =
        children_framed v (at v.scopes s)
        ∙ ap (λ (f : Option (Frame K)). frame_children v f) h
        ∙ frame_left (framed (at w.scopes s))
        ∙ sym (ap (λ (zs : List ℕ). left zs) (children_framed w (at w.scopes s)))

  module _ (w v : State K) (stays : ℕ → Type 0) (h : Thins w v stays) where
    pub none_came : (s : ℕ) → is_live v s ≡ true → is_live w s ≡ true
    none_came s live = sym (same_live w v s (h.thin s live)) ∙ live

    rises_at : Wooded w → (s : ℕ) → AllByRecursion (λ (c : ℕ). height_of v.scopes c ≡ height_of v.scopes s + 1) (children_at v s)
    rises_at wood s =
        let One : List ℕ → Type 0 = λ (cs : List ℕ). AllByRecursion (λ (c : ℕ). height_of v.scopes c ≡ height_of v.scopes s + 1) cs in
        by_test (is_live v s)
        (
        λ live.
        let here : SameFrame w v s = h.thin s live in
        subst One (sym (children_left w v none_came s here))
        (all_kept
        (λ (c : ℕ). height_of w.scopes c ≡ height_of w.scopes s + 1)
        (λ (c : ℕ). height_of v.scopes c ≡ height_of v.scopes s + 1)
        (λ (c : ℕ). is_live v c) (children_at w s)
        (λ c there up. same_height w v c (h.thin c there) ∙ up ∙ ap (λ (n : ℕ). n + 1) (sym (same_height w v s here)))
        (wood.rises s))
        )
        (λ dead. subst One (sym (no_children v (at v.scopes s) dead)) tt)

    apart_at : Wooded w → (s : ℕ) → Apart (children_at v s)
    apart_at wood s =
        by_test (is_live v s)
        (λ live. subst (λ (cs : List ℕ). Apart cs) (sym (children_left w v none_came s (h.thin s live))) (apart_kept (λ (c : ℕ). is_live v c) (children_at w s) (wood.apart s)))
        (λ dead. subst (λ (cs : List ℕ). Apart cs) (sym (no_children v (at v.scopes s) dead)) tt)

    -- where scopes went, the others' children still rise by one and stand once
    pub thins_wooded : Wooded w → Wooded v
    thins_wooded wood = record { rises = rises_at wood; apart = apart_at wood }

  -- what is lower is another one
  lower_differs : (w : State K) (s t : ℕ) → height_of w.scopes t < height_of w.scopes s → nat_eq s t ≡ false
  lower_differs w s t low =
      by_test (nat_eq s t)
      (
      λ q.
      let same : s ≡ t = eqb-true s t q in
      let level : height_of w.scopes s ≡ height_of w.scopes t = ap (λ (n : ℕ). height_of w.scopes n) same in
      absurd (omega (arith, low, level))
      )
      (λ q. q)

  pub lower_is_other : (w : State K) (s t : ℕ) → height_of w.scopes t < height_of w.scopes s → Others w s t
  lower_is_other w s t low = let under : height_of w.scopes t ≤ height_of w.scopes s = omega (arith, low) in (lower_differs w s t low, under)

  -- a way leads down
  pub way_height : (w : State K) → Wooded w → (path : List ℕ) (top s : ℕ) → IsWay w path top s → height_of w.scopes top ≤ height_of w.scopes s
  way_height w wood [] top s way = let level : height_of w.scopes top ≡ height_of w.scopes s = ap (λ (n : ℕ). height_of w.scopes n) way in omega (arith, level)
  way_height w wood (child ∷ path) top s way =
      let below = way_height w wood path child s way.1 in
      let step = first_height w wood top child way.0.0 way.0.1 in
      omega (arith, below, step)

  module _ (w v : State K) (c : ℕ) (wood : Wooded w) (h : Pruned w v c) where
    others_live : (ds : List ℕ) → AllByRecursion (λ (d : ℕ). Others w c d) ds → AllLive w ds → AllByRecursion (λ (d : ℕ). is_live v d ≡ true) ds
    others_live [] others live = tt
    others_live (d ∷ ds) others live = (same_live w v d (h.thins.kept d others.0) ∙ live.0, others_live ds others.1 live.1)

    left_others : (s : ℕ) → Others w c s → children_at v s ≡ kept_by (λ (d : ℕ). is_live v d) (children_at w s)
    left_others s other = children_left w v (none_came w v (Others w c) h.thins) s (h.thins.kept s other)

    lower_others : (n : ℕ) (ds : List ℕ) → n + 1 < height_of w.scopes c → AllByRecursion (λ (d : ℕ). height_of w.scopes d ≡ n + 1) ds → AllByRecursion (λ (d : ℕ). Others w c d) ds
    lower_others n [] low up = tt
    lower_others n (d ∷ ds) low up = let here = up.0 in (lower_is_other w c d (omega (arith, low, here)), lower_others n ds low up.1)

    -- a scope whose children are lower than the one that went keeps them all
    children_stay : (s : ℕ) → height_of w.scopes s + 1 < height_of w.scopes c → children_at v s ≡ children_at w s
    children_stay s low =
        left_others s (lower_is_other w c s (omega (arith, low)))
        ∙ kept_all (λ (d : ℕ). is_live v d) (children_at w s)
        (others_live (children_at w s) (lower_others (height_of w.scopes s) (children_at w s) low (wood.rises s)) (children_live w s))

    way_stays : (path : List ℕ) (top s : ℕ) → height_of w.scopes c ≡ height_of w.scopes s + 1 → IsWay w path top s → IsWay v path top s
    way_stays [] top s up way = way
    way_stays (child ∷ path) top s up way =
        let below = way_height w wood path child s way.1 in
        let step = first_height w wood top child way.0.0 way.0.1 in
        ((way.0.0, children_stay top (omega (arith, below, step, up)) ∙ way.0.1), way_stays path child s up way.1)

    level_others : (n : ℕ) (ds : List ℕ) → height_of w.scopes c ≡ n → AllByRecursion (λ (d : ℕ). nat_eq c d ≡ false) ds → AllByRecursion (λ (d : ℕ). height_of w.scopes d ≡ n) ds
        → AllByRecursion (λ (d : ℕ). Others w c d) ds
    level_others n [] here differ level = tt
    level_others n (d ∷ ds) here differ level =
        let there = level.0 in
        let under : height_of w.scopes d ≤ height_of w.scopes c = omega (arith, here, there) in
        ((differ.0, under), level_others n ds here differ.1 level.1)

    -- of the parent the other children are left
    siblings_left : (s : ℕ) (others : List ℕ) → children_at w s ≡ c ∷ others → children_at v s ≡ others
    siblings_left s others e =
        let n : ℕ = height_of w.scopes s + 1 in
        let rises = subst (λ (cs : List ℕ). AllByRecursion (λ (d : ℕ). height_of w.scopes d ≡ n) cs) e (wood.rises s) in
        let apart = subst (λ (cs : List ℕ). Apart cs) e (wood.apart s) in
        let live = subst (λ (cs : List ℕ). AllLive w cs) e (children_live w s) in
        let up = rises.0 in
        let test : ℕ → Bool = λ (d : ℕ). is_live v d in
        left_others s (lower_is_other w c s (omega (arith, up)))
        ∙ ap (λ (cs : List ℕ). kept_by test cs) e
        ∙ pick_false (c ∷ kept_by test others) (kept_by test others) h.gone
        ∙ kept_all test others (others_live others (level_others n others up apart.0 rises.1) live.1)

  -- after a removal that took children, what another one leaves is framed as before both
  thin_after : (w v u : State K) (s : ℕ) (stays : ℕ → Type 0) → Thins w v (NoHigher w s) → Thins v u stays → (t : ℕ) → is_live u t ≡ true → SameFrame w u t
  thin_after w v u s stays first then_on t live =
      let there : SameFrame v u t = then_on.thin t live in
      there ∙ first.thin t (sym (same_live v u t there) ∙ live)

  own_height : (w v : State K) (s : ℕ) → Thins w v (NoHigher w s) → height_of v.scopes s ≡ height_of w.scopes s
  own_height w v s h = let level : height_of w.scopes s ≤ height_of w.scopes s = omega arith in same_height w v s (h.kept s level)

-- before any child went
pub nothing_went : (K : Types) (w : State K) (stays : ℕ → Type 0) → Thins w w stays
nothing_went K w stays = record { thin = λ s live. refl; kept = λ s h. refl }

pub others_are_left : (K : Types) → OthersAreLeft K
others_are_left K w v path top s child others wood way e h =
    (siblings_left w v child wood h s others e, way_stays w v child wood h path top s (first_height w wood s child others e) way, thins_wooded w v (Others w child) h.thins wood)

pub one_more_went : (K : Types) → OneMoreWent K
one_more_went K w v u s child up h g =
    let own = own_height w v s h in
    record {
      thin = thin_after w v u s (Others v child) h g.thins;
      kept =
          λ t low.
          let same : SameFrame w v t = h.kept t low in
          let level = same_height w v t same in
          g.thins.kept t (lower_is_other v child t (omega (arith, low, level, own, up))) ∙ same;
    }

pub leaf_ends : (K : Types) → LeafEnds K
leaf_ends K w v u s h g =
    let own = own_height w v s h in
    let kept : (t : ℕ) → Others w s t → SameFrame w u t =
    λ t other.
    let low = other.1 in
    let same : SameFrame w v t = h.kept t low in
    let level = same_height w v t same in
    let under : height_of v.scopes t ≤ height_of v.scopes s = omega (arith, low, level, own) in
    g.thins.kept t (other.0, under) ∙ same in
    record { gone = g.gone; thins = record { thin = thin_after w v u s (Others v s) h g.thins; kept = kept } }

-- a removal's own scope goes alone
pub leaf_prunes : {K : Types} (app : Application K) → LeafPrunes app
leaf_prunes {K = K} app lawful w v s work is =
    let took = removal_takes_one app lawful w v s work is in
    let gone : is_live v s ≡ false = ap (λ (o : Option (Scope K)). is_some o) took.1.gone in
    let thin : (t : ℕ) → is_live v t ≡ true → SameFrame w v t =
    λ t live.
    by_test (nat_eq s t)
    (
    λ q.
    let same : s ≡ t = eqb-true s t q in
    let absurdity : true ≡ false = sym live ∙ ap (λ (n : ℕ). is_live v n) (sym same) ∙ gone in
    cc
    )
    (λ q. took.1.others t q) in
    (took.0, record { gone = gone; thins = record { thin = thin; kept = λ t other. took.1.others t other.0 } })
