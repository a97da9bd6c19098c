-- What lasts of a child scope: its place.
use Rattle.std.proofs.Common.{ℕ, true, List, [], ◌∷◌, ◌++◌, ◌≡◌, inl, inr, refl, sym, ap, ◌∙◌, subst}
use Rattle.std.specs.Prelude.{Option, Some, None}
use Rattle.rt_model.specs.Lists.{at}
use Rattle.rt_model.specs.Laws.{IsLawful}
use Rattle.rt_model.specs.Tree.{Types, VComponent, Own, Root, Fragment, ErrorBoundary, SuspenseBoundary, Place, Spot, same_place, spots}
use Rattle.rt_model.specs.Values.{is_same_component}
use Rattle.rt_model.specs.World.{Application}
use Rattle.rt_model.specs.State.{SideName, Side, Scope, State, Item, side_of, is_live}
use Rattle.rt_model.specs.Run.{child_at, component_in, spots_of, is_fed, kept_children}
use Rattle.rt_model.specs.Replay.{Entry, Machine}
use Rattle.rt_model.specs.Causes.{Limits}
use Rattle.rt_model.proofs.Maps.{by_test, pick_true, pick_false}
use Rattle.law_moves.specs.Moves.{Move, entries, Leads}
use Rattle.law_moves.specs.Sorts.{ComponentSort, sort_of}
use Rattle.law_moves.proofs.Twigs.{bare, side_at, slots, side_found}
use Rattle.law_moves.proofs.Woven.{Woven, idle_whole}
use Rattle.law_moves.proofs.Lists.{some_number, component_found, kept_at}
use Rattle.law_moves.proofs.Everywhere.{reached_woven}
use Rattle.law_moves.proofs.Ways.{reached_moved}
use Rattle.law_moves.proofs.Logs.{logs_are_moves}
use Rattle.law_behavior.specs.Along.{NoneRemoves}
use Rattle.law_lasting.specs.ChildrenLast.{child_on, sort_in, sort_on, SortStays, ChildrenLast, ChildrenStay, LoggedChildrenLast}
use Rattle.law_lasting.proofs.Sided.{SideBears, SideIs, SideLeft, Regains, side_lasts}

-- a child that stands is found in a longer list
child_longer : (es : List (Place × ℕ)) (p : Place) (e : Place × ℕ) (t : ℕ) → child_at es p ≡ Some t → child_at (es ++ e ∷ []) p ≡ Some t
child_longer [] p e t h = cc
child_longer (d ∷ es) p e t h =
    by_test (same_place d.0 p)
    (λ q. pick_true (Some d.1) (child_at (es ++ e ∷ []) p) q ∙ sym (pick_true (Some d.1) (child_at es p) q) ∙ h)
    (λ q. pick_false (Some d.1) (child_at (es ++ e ∷ []) p) q ∙ child_longer es p e t (sym (pick_false (Some d.1) (child_at es p) q) ∙ h))

module _ {K : Types} (app : Application K) (lawful : IsLawful K app) where
  -- components of one sort may be fed
  fed_sorts : (c d : VComponent K) → sort_of c ≡ sort_of d → is_same_component app c d ≡ true
  fed_sorts (Own a p) (Own b q) h = let same : a ≡ b = cc in ap (λ (c : K.Component). app.same_component a c) (sym same) ∙ lawful.tests_components.1 a
  fed_sorts (Own a p) (Root b q) h = cc
  fed_sorts (Own a p) (Fragment b) h = cc
  fed_sorts (Own a p) (ErrorBoundary b q) h = cc
  fed_sorts (Own a p) (SuspenseBoundary b q) h = cc
  fed_sorts (Root a p) (Own b q) h = cc
  fed_sorts (Root a p) (Root b q) h = refl
  fed_sorts (Root a p) (Fragment b) h = cc
  fed_sorts (Root a p) (ErrorBoundary b q) h = cc
  fed_sorts (Root a p) (SuspenseBoundary b q) h = cc
  fed_sorts (Fragment a) (Own b q) h = cc
  fed_sorts (Fragment a) (Root b q) h = cc
  fed_sorts (Fragment a) (Fragment b) h = refl
  fed_sorts (Fragment a) (ErrorBoundary b q) h = cc
  fed_sorts (Fragment a) (SuspenseBoundary b q) h = cc
  fed_sorts (ErrorBoundary a p) (Own b q) h = cc
  fed_sorts (ErrorBoundary a p) (Root b q) h = cc
  fed_sorts (ErrorBoundary a p) (Fragment b) h = cc
  fed_sorts (ErrorBoundary a p) (ErrorBoundary b q) h = refl
  fed_sorts (ErrorBoundary a p) (SuspenseBoundary b q) h = cc
  fed_sorts (SuspenseBoundary a p) (Own b q) h = cc
  fed_sorts (SuspenseBoundary a p) (Root b q) h = cc
  fed_sorts (SuspenseBoundary a p) (Fragment b) h = cc
  fed_sorts (SuspenseBoundary a p) (ErrorBoundary b q) h = cc
  fed_sorts (SuspenseBoundary a p) (SuspenseBoundary b q) h = refl

  fed_slots : (sort : ComponentSort K) (o n : Option (VComponent K))
      → elim o as (λ z. Option (ComponentSort K)) [ None ↦ None | Some c ↦ Some (sort_of c) ] ≡ Some sort
      → elim n as (λ z. Option (ComponentSort K)) [ None ↦ None | Some c ↦ Some (sort_of c) ] ≡ Some sort
      → is_fed app o n ≡ true
  fed_slots sort None n h g = cc
  fed_slots sort (Some c) None h g = cc
  fed_slots sort (Some c) (Some d) h g = let same : sort_of c ≡ sort_of d = cc in fed_sorts c d same

  -- a place that keeps its sort keeps its child
  child_kept : (old new : List (Spot K)) (es : List (Place × ℕ)) (p : Place) (sort : ComponentSort K) (t : ℕ) → sort_in old p ≡ Some sort → sort_in new p ≡ Some sort → child_at es p ≡ Some t
      → child_at (kept_children app old new es) p ≡ Some t
  child_kept old new es p sort t before now h = kept_at app old new es p (fed_slots sort (component_in old p) (component_in new p) before now) ∙ h

module _ {K : Types} (s : ℕ) (side : SideName) (p : Place) (sort : ComponentSort K) (t : ℕ) where
  -- a side's tree has the sort there
  abbrev Sorted : Side K → Type 0
  Sorted a = sort_in (spots_of a.output) p ≡ Some sort

  -- and the child
  abbrev Kid : Side K → Type 0
  Kid a = Sorted a × (child_at a.children p ≡ Some t)

  -- where its tree has the sort the child is there
  abbrev KidThere : Side K → Type 0
  KidThere a = Sorted a → child_at a.children p ≡ Some t

  module _ (app : Application K) (lawful : IsLawful K app) where
    bears : SideBears app (λ a. Kid a) (λ a. KidThere a)
    bears =
        record {
          leaves = λ a h has. h.1;
          draws = λ a e h. h;
          makes = λ a e h. (h.0, child_longer a.children p e t h.1);
          patches = λ a tree h has. child_kept app lawful (spots_of a.output) (spots [] tree) a.children p sort t h.0 has h.1;
          empties = λ a h has. let absurdity : None ≡ Some sort = has in cc;
        }

    abbrev ChildIs : State K → Type 0
    ChildIs w = SideIs app s side (λ a. Kid a) (λ a. KidThere a) bears w

    abbrev ChildIsThere : State K → Type 0
    ChildIsThere w = SideLeft app s side (λ a. Kid a) (λ a. KidThere a) bears w

    -- where the tree has the sort the fact itself holds
    regained : (w : State K) → sort_on w s side p ≡ Some sort → ChildIsThere w → ChildIs w
    regained w has h =
        let here : sort_in (spots_of (side_of h.row side).output) p ≡ Some sort =
        sym (ap (λ (o : Option (Scope K)). elim o as (λ z. Option (ComponentSort K)) [ None ↦ None | Some x ↦ sort_in (spots_of (side_of x side).output) p ]) h.there) ∙ has in
        record { row = h.row; there = h.there; holds = (here, h.holds here) }

    all_regained : (limits : Limits) (m v : Machine K) (moves : List Move) (leads : Leads app limits m moves v) → SortStays app limits s side p sort m v moves leads
        → Regains app s side (λ a. Kid a) (λ a. KidThere a) bears limits m v moves leads
    all_regained limits m v [] leads there = tt
    all_regained limits m v (move ∷ moves) leads there = (regained (leads.0).state there.0, all_regained limits leads.0 v moves leads.2 there.1)

    begins : (w : State K) (o : Option (Scope K)) → at w.scopes s ≡ o
        → elim o as (λ z. Option (ComponentSort K)) [ None ↦ None | Some x ↦ sort_in (spots_of (side_of x side).output) p ] ≡ Some sort
        → elim o as (λ z. Option ℕ) [ None ↦ None | Some x ↦ child_at (side_of x side).children p ] ≡ Some t
        → ChildIs w
    begins w None e has h = cc
    begins w (Some x) e has h = record { row = x; there = e; holds = (has, h) }

    child_lasts : (limits : Limits) (m v : Machine K) (moves : List Move) (leads : Leads app limits m moves v) → NoneRemoves s (entries moves) → SortStays app limits s side p sort m v moves leads
        → ChildIs m.state
        → ChildIs v.state
    child_lasts limits m v moves leads still there h =
        side_lasts app s side (λ a. Kid a) (λ a. KidThere a) bears limits m v moves leads still (all_regained limits m v moves leads there) h

    child_found : (w : State K) → ChildIs w → child_on w s side p ≡ Some t
    child_found w h = ap (λ (o : Option (Scope K)). elim o as (λ z. Option ℕ) [ None ↦ None | Some x ↦ child_at (side_of x side).children p ]) h.there ∙ (h.holds).1

  -- where the sort is and no work is open the child is live
  live_kid : (w : State K) (o : Option (Scope K)) → at w.scopes s ≡ o
      → elim o as (λ z. Option (ComponentSort K)) [ None ↦ None | Some x ↦ sort_in (spots_of (side_of x side).output) p ] ≡ Some sort
      → elim o as (λ z. Option ℕ) [ None ↦ None | Some x ↦ child_at (side_of x side).children p ] ≡ Some t
      → Woven w []
      → is_live w t ≡ true
  live_kid w None e has h woven = cc
  live_kid w (Some x) e has h woven = by_slot (component_in (spots_of (side_of x side).output) p) refl has
    where
      found : side_at w s side ≡ bare (side_of x side)
      found = side_found w s side x e

      by_slot : (c : Option (VComponent K)) → component_in (spots_of (side_of x side).output) p ≡ c → elim c as (λ z. Option (ComponentSort K)) [ None ↦ None | Some d ↦ Some (sort_of d) ] ≡ Some sort
          → is_live w t ≡ true
      by_slot None q n = cc
      by_slot (Some c) q n =
          let slot : component_in (slots w s side) p ≡ Some c = ap (λ (z : Side K). component_in (spots_of z.output) p) found ∙ q in
          elim ((idle_whole w woven).full s side p c (component_found (slots w s side) p c slot)) [
            | inl kid ↦
                let same : kid.0 ≡ t = some_number kid.0 t (sym kid.1 ∙ ap (λ (z : Side K). child_at z.children p) found ∙ h) in
                ap (λ (n : ℕ). is_live w n) (sym same) ∙ kid.2
            | inr make ↦ absurd make.1
          ]

  last_sort : (app : Application K) (limits : Limits) (m v : Machine K) (moves : List Move) (leads : Leads app limits m moves v) → sort_on m.state s side p ≡ Some sort → SortStays app limits s side p sort m v moves leads
      → sort_on v.state s side p ≡ Some sort
  last_sort app limits m v [] leads has there = subst (λ (x : Machine K). sort_on x.state s side p ≡ Some sort) (sym leads) has
  last_sort app limits m v (move ∷ moves) leads has there = last_sort app limits leads.0 v moves leads.2 there.0 there.1

pub children_last : {K : Types} (app : Application K) → ChildrenLast app
children_last app lawful limits m v moves s side p sort child leads still has there h =
    child_found s side p sort child app lawful v.state
    (child_lasts s side p sort child app lawful limits m v moves leads still there (begins s side p sort child app lawful m.state (at m.state.scopes s) refl has h))

pub children_stay : {K : Types} (app : Application K) → ChildrenStay app
children_stay {K = K} app lawful limits props inputs m v moves s side p sort child reached leads alive idle still has there h =
    let kid : child_on v.state s side p ≡ Some child = children_last app lawful limits m v moves s side p sort child leads still has there h in
    let here : Woven v.state v.work = reached_woven app lawful limits props inputs v (reached_moved app limits props inputs m v moves reached leads) alive in
    let woven : Woven v.state [] = subst (λ (items : List (Item K)). Woven v.state items) idle here in
    (kid, live_kid s side p sort child v.state (at v.state.scopes s) refl (last_sort s side p sort child app limits m v moves leads has there) kid woven)

pub logged_children_last : {K : Types} (app : Application K) → LoggedChildrenLast app
logged_children_last app lawful limits m v log s side p sort child settled accepted stays has h =
    let found = logs_are_moves app limits m v log settled accepted in
    let here : NoneRemoves s (entries found.0) = subst (λ (es : List Entry). NoneRemoves s es) (sym found.2) stays in
    (found.0, found.1, found.2, λ there. children_last app lawful limits m v found.0 s side p sort child found.1 here has there h)
