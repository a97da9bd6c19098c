-- The places of what is drawn, as scopes change, come and go.
use Rattle.std.proofs.Common.{◌≡◌, ℕ, zero, suc, Bool, true, false, List, [], ◌∷◌, ◌++◌, ◌&&◌, ◌||◌, map, nat_eq, refl, sym, ap, subst, ◌∙◌}
use Rattle.std.specs.Coded.{Coded, Coded-set, code_by, coded×, coded_ℕ, coded_bool, coded_list, coded_option}
use Rattle.std.specs.Prelude.{Option, Some, None, Result, Ok, Err, OnOk, option_map, is_some, not, slice_get, if◌then◌else◌}
use Rattle.rt_model.specs.Lists.{at, has, put, without}
use Rattle.rt_model.specs.OneLog.{types}
use Rattle.rt_model.specs.Queries.{Standing}
use Rattle.rt_model.specs.State as model
use Rattle.rt_model.specs.State.{MainSide, ChildrenSide, FallbackSide, side_of, with_side}
use Rattle.rt_model.specs.Tree as tree
use Rattle.rt_model.proofs.Maps.{eq_same, pick_true}
use Rattle.run_records.specs.Kept.{each, scope_of}
use Rattle.run_records.specs.declared.rest.Scope.{Scope}
use Rattle.run_owed.specs.Lists.{EachOnce, numbers_of}
use Rattle.run_owed.proofs.Tables.{numbers_has}
use Rattle.tree_nodes.specs.declared.place.Place.{Place}
use Rattle.run_named.specs.Named.{Named, named_in, named_of}
use Rattle.run_named.specs.Standings.{IsPicked, IsPlaced, picked, scope_standings, side_standings, standings, went, without_all}
use Rattle.run_named.proofs.Around.{Around, around, numbers_drawn, numbers_picked, side_numbers, side_picked, standings_bare, standings_both}
use Rattle.run_named.proofs.Cut.{at_without_all, has_joined, joined_numbers, part_once, placed_cut}
use Rattle.run_named.proofs.More.{Joined, drawn_on, placed_more, standings_joined}
use Rattle.run_named.proofs.Stays.{placed_same, standings_put}
use Rattle.run_named.proofs.Went.{went_has}
use Rattle.run_places.specs.declared.nodes.NodeAt.{NodeAt}
use Rattle.run_places.specs.declared.side.Side.{Side}
use Rattle.run_places.specs.declared.side.SideName.{SideName}
use Rattle.run_places.specs.Places as code
use Rattle.run_places.specs.Places.{node_of, placed, side_name_of}
use Rattle.run_table.specs.Found.{IsTaken}
use Rattle.run_state.specs.Drawn.{drawn_for, numbers_at, numbers_in}
use Rattle.run_state.specs.Sides.{more_number, side_put}
use Rattle.run_state.proofs.Each.{append-each, at-each, put-each}
use Rattle.run_state.proofs.Put.{drawn_put, put_is}

-- a place from its parts
abbrev named_by : ℕ × (Bool × (List (ℕ × ℕ) × List ℕ)) → Named
named_by p = record { scope = p.0; fallback = p.1.0; steps = p.1.1.0; path = p.1.1.1 }

-- places are told by numbers
named_code : Coded Named
named_code =
    code_by (ℕ × (Bool × (List (ℕ × ℕ) × List ℕ))) (coded× coded_ℕ (coded× coded_bool (coded× (coded_list (coded× coded_ℕ coded_ℕ)) (coded_list coded_ℕ))))
    (λ n. (n.scope, (n.fallback, (n.steps, n.path)))) named_by (λ _. refl)

-- an equation of places has one proof
pub one_place : (a b : Option Named) (p q : a ≡ b) → p ≡ q
one_place a b p q = Coded-set (coded_option named_code) a b p q

-- what stands under an index of a list that is put through a change
get_mapped : {A B : Type 0} (f : A → B) (xs : List A) (i : ℕ) → slice_get (map f xs) i ≡ option_map f (slice_get xs i)
get_mapped f [] i = refl
get_mapped f (x ∷ xs) zero = refl
get_mapped f (x ∷ xs) (suc i) = get_mapped f xs i

-- the numbers of what is drawn, in the words of the definitions
pub numbers_are : (nodes : List NodeAt) (drawn : List (ℕ × ℕ)) → numbers_drawn (placed (map node_of nodes) drawn) ≡ numbers_at nodes drawn
numbers_are nodes [] = refl
numbers_are nodes (e ∷ es) =
    ap (λ (o : Option (tree.Place × tree.Kind)). numbers_drawn (elim o as (λ _. List (tree.Place × tree.Kind × ℕ)) [ None ↦ placed (map node_of nodes) es | Some q ↦ (q.0, q.1, e.1) ∷ placed (map node_of nodes) es ]))
    (get_mapped node_of nodes e.0)
    ∙ by (slice_get nodes e.0) (numbers_are nodes es)
  where
    by : (o : Option NodeAt) → numbers_drawn (placed (map node_of nodes) es) ≡ numbers_at nodes es
        → numbers_drawn (elim (option_map node_of o) as (λ _. List (tree.Place × tree.Kind × ℕ)) [ None ↦ placed (map node_of nodes) es | Some q ↦ (q.0, q.1, e.1) ∷ placed (map node_of nodes) es ])
        ≡ (elim o as (λ _. List ℕ) [ None ↦ numbers_at nodes es | Some q ↦ e.1 ∷ numbers_at nodes es ])
    by None h = h
    by (Some a) h = ap (λ (ns : List ℕ). e.1 ∷ ns) h

module _ {K : tree.Types} where
  -- a number joins a side
  pub placed_drawn : (scopes new : List (ℕ × model.Scope K)) (places : List (ℕ × Place)) (s : ℕ) (x : model.Scope K) (name : model.SideName) (e : tree.Place × tree.Kind × ℕ) (p : Place)
      → at scopes s ≡ Some x → new ≡ put scopes s (drawn_on name e x) → at places e.2 ≡ None → named_in p ≡ named_of (s, name, e.0)
      → IsPlaced scopes places → IsPlaced new (places ++ (e.2, p) ∷ [])
  placed_drawn scopes new places s x name e p live is free names h =
      placed_more scopes new places e.2 (s, name, e.0) p h
      (subst (λ (ys : List (ℕ × model.Scope K)). Joined (standings scopes) (standings ys) (e.2, (s, name, e.0))) (sym is) (standings_joined scopes s x name e live))
      (absent_number (standings scopes) e.2 (none_left (at (standings scopes) e.2) (sym (h.each e.2) ∙ ap (λ (o : Option Place). option_map named_in o) free)))
      names
    where
      none_left : (o : Option Standing) → option_map named_of o ≡ None → o ≡ None
      none_left None q = refl
      none_left (Some a) q = absurd (cc q)

      absent_number : (ys : List (ℕ × Standing)) (n : ℕ) → at ys n ≡ None → has (numbers_of ys) n ≡ false
      absent_number ys n q = numbers_has ys n ∙ ap (λ (o : Option Standing). is_some o) q

  -- another side, of which all that is drawn was drawn there
  pub placed_side : (scopes new : List (ℕ × model.Scope K)) (places left : List (ℕ × Place)) (s : ℕ) (x : model.Scope K) (name : model.SideName) (side : model.Side K) (drawn stay : List ℕ)
      → at scopes s ≡ Some x → new ≡ put scopes s (with_side x name side) → IsPicked side.numbers (side_of x name).numbers
      → drawn ≡ numbers_drawn (side_of x name).numbers → stay ≡ numbers_drawn side.numbers → left ≡ without_all places (went drawn stay)
      → IsPlaced scopes places → IsPlaced new left
  placed_side scopes new places left s x name side drawn stay live is few drawn_is stay_is gone h =
      let parts = around scopes s x name live in
      let mid : List (ℕ × Standing) = side_standings s name (side_of x name).numbers in
      let same : side_standings s name side.numbers ≡ picked few.marks mid =
      ap (λ (es : List (tree.Place × tree.Kind × ℕ)). side_standings s name es) few.same ∙ side_picked s name few.marks (side_of x name).numbers in
      placed_cut scopes new parts.front mid parts.back few.marks places left h parts.was
      (ap (λ (ys : List (ℕ × model.Scope K)). standings ys) is ∙ parts.is side ∙ ap (λ (ys : List (ℕ × Standing)). parts.front ++ (ys ++ parts.back)) same)
      (
      λ n.
      ap (λ (ps : List (ℕ × Place)). at ps n) gone
      ∙ at_without_all places (went drawn stay) n
      ∙ ap (λ (b : Bool). if b then None else at places n) (they_go n)
      )
    where
      all : List ℕ
      all = numbers_drawn (side_of x name).numbers

      those : stay ≡ picked few.marks all
      those = stay_is ∙ ap (λ (es : List (tree.Place × tree.Kind × ℕ)). numbers_drawn es) few.same ∙ numbers_picked few.marks (side_of x name).numbers

      mids : numbers_of (side_standings s name (side_of x name).numbers) ≡ all
      mids = side_numbers s name (side_of x name).numbers

      less : numbers_of (picked few.marks (side_standings s name (side_of x name).numbers)) ≡ picked few.marks all
      less =
          ap (λ (ys : List (ℕ × Standing)). numbers_of ys) (sym (side_picked s name few.marks (side_of x name).numbers))
          ∙ side_numbers s name (picked few.marks (side_of x name).numbers)
          ∙ numbers_picked few.marks (side_of x name).numbers

      once : EachOnce all
      once = subst EachOnce mids (once_part (around scopes s x name live))
        where
          once_part : (parts : Around scopes s x name) → EachOnce (numbers_of (side_standings s name (side_of x name).numbers))
          once_part parts =
              part_once parts.front (side_standings s name (side_of x name).numbers) parts.back (subst (λ (ys : List (ℕ × Standing)). EachOnce (numbers_of ys)) parts.was h.apart)

      they_go : (n : ℕ) → has (went drawn stay) n
          ≡ (has (numbers_of (side_standings s name (side_of x name).numbers)) n && not (has (numbers_of (picked few.marks (side_standings s name (side_of x name).numbers))) n))
      they_go n =
          (λ i. has (went (drawn_is i) (those i)) n)
          ∙ went_has few.marks all n once
          ∙ sym (λ i. has (mids i) n && not (has (less i) n))

module _ {P C Q V H T E L : Type 0} where
  -- where nothing is kept nothing stands
  pub placed_empty : (es : List (ℕ × Scope P C Q V H T E L)) (places : List (ℕ × Place)) → es ≡ [] → places ≡ [] → ∥ IsPlaced (each scope_of es) places ∥₁
  placed_empty es places none empty =
      subst (λ (fs : List (ℕ × Scope P C Q V H T E L)). ∥ IsPlaced (each scope_of fs) places ∥₁) (sym none)
      (subst (λ (ps : List (ℕ × Place)). ∥ IsPlaced {K = types C Q V H T E L} [] ps ∥₁) (sym empty) ∣ nothing ∣₁)
    where
      nothing : IsPlaced {K = types C Q V H T E L} [] []
      nothing = record { apart = tt; each = λ n. refl }

  -- a change of a scope that leaves its sides
  pub placed_changed : (R : Scope P C Q V H T E L → Scope P C Q V H T E L → Type 0) (old new : List (ℕ × Scope P C Q V H T E L)) (s : ℕ) (places : List (ℕ × Place))
      → (at old s ≡ None → new ≡ old)
      → ((x : Scope P C Q V H T E L) → at old s ≡ Some x → (y : Scope P C Q V H T E L) × R x y × (new ≡ put old s y))
      → ((x y : Scope P C Q V H T E L) → R x y → drawn_for y ≡ drawn_for x)
      → IsPlaced (each scope_of old) places → IsPlaced (each scope_of new) places
  placed_changed R old new s places absent changed stay h = by (at old s) refl
    where
      by : (o : Option (Scope P C Q V H T E L)) → at old s ≡ o → IsPlaced (each scope_of new) places
      by None e = subst (λ (es : List (ℕ × Scope P C Q V H T E L)). IsPlaced (each scope_of es) places) (sym (absent e)) h
      by (Some x) e =
          let made = changed x e in
          placed_same (each scope_of old) (each scope_of new) places
          (
          ap (λ (es : List (ℕ × Scope P C Q V H T E L)). standings (each scope_of es)) made.2
          ∙ ap (λ (es : List (ℕ × model.Scope (types C Q V H T E L))). standings es) (put-each scope_of old s made.0)
          ∙ standings_put (each scope_of old) s (scope_of x) (scope_of made.0)
          (at-each scope_of old s ∙ ap (λ (f : Option (Scope P C Q V H T E L)). option_map scope_of f) e) (stay x made.0 made.1)
          )
          h

  -- another side of a scope, for which the same is drawn
  pub placed_swapped : (R : Scope P C Q V H T E L → Scope P C Q V H T E L → Type 0) (old new : List (ℕ × Scope P C Q V H T E L)) (s : ℕ) (name : SideName) (side : Side P C Q V H T E L) (places : List (ℕ × Place))
      → (at old s ≡ None → new ≡ old)
      → ((x : Scope P C Q V H T E L) → at old s ≡ Some x → (y : Scope P C Q V H T E L) × R x y × (new ≡ put old s y))
      → ((x y : Scope P C Q V H T E L) → R x y → y ≡ side_put name side x)
      → ((x : Scope P C Q V H T E L) → at old s ≡ Some x → (code.side_of side).numbers ≡ (model.side_of (scope_of x) (side_name_of name)).numbers)
      → IsPlaced (each scope_of old) places → IsPlaced (each scope_of new) places
  placed_swapped R old new s name side places absent changed step drawn h =
      placed_changed (λ (x y : Scope P C Q V H T E L). (at old s ≡ Some x) × R x y) old new s places absent
      (λ x live. let made = changed x live in (made.0, (live, made.1), made.2))
      (λ x y both. ap (λ (z : Scope P C Q V H T E L). drawn_for z) (step x y both.1) ∙ drawn_put name side x (drawn x both.0))
      h

  -- a scope for which nothing is drawn
  pub placed_pushed : (old new : List (ℕ × Scope P C Q V H T E L)) (s : ℕ) (x : Scope P C Q V H T E L) (places : List (ℕ × Place)) → new ≡ old ++ (s, x) ∷ [] → drawn_for x ≡ ([], [], [])
      → IsPlaced (each scope_of old) places → IsPlaced (each scope_of new) places
  placed_pushed old new s x places is none h =
      placed_same (each scope_of old) (each scope_of new) places
      (
      ap (λ (es : List (ℕ × Scope P C Q V H T E L)). standings (each scope_of es)) is
      ∙ ap (λ (es : List (ℕ × model.Scope (types C Q V H T E L))). standings es) (append-each scope_of old ((s, x) ∷ []))
      ∙ standings_bare (each scope_of old) s (scope_of x) none
      )
      h

  -- another side of a scope in the table
  pub placed_put : (R : Scope P C Q V H T E L → Scope P C Q V H T E L → Type 0) (old new : List (ℕ × Scope P C Q V H T E L)) (s : ℕ) (x : Scope P C Q V H T E L) (name : SideName) (side : Side P C Q V H T E L) (was : Side P C Q V H T E L)
      (stay : List (ℕ × ℕ)) (places left : List (ℕ × Place))
      → Some x ≡ at old s
      → ((y : Scope P C Q V H T E L) → at old s ≡ Some y → (z : Scope P C Q V H T E L) × R y z × (new ≡ put old s z))
      → ((y z : Scope P C Q V H T E L) → R y z → z ≡ side_put name side y)
      → code.side_of was ≡ model.side_of (scope_of x) (side_name_of name) → stay ≡ side.numbers
      → left ≡ without_all places (went (numbers_at was.nodes was.numbers) (numbers_in stay))
      → ((y : Scope P C Q V H T E L) → at old s ≡ Some y → IsPicked (code.side_of side).numbers (model.side_of (scope_of y) (side_name_of name)).numbers)
      → numbers_at side.nodes side.numbers ≡ numbers_in side.numbers
      → IsPlaced (each scope_of old) places → IsPlaced (each scope_of new) left
  placed_put R old new s x name side was stay places left live changed step stood stay_is gone few known h =
      let made = changed x (sym live) in
      placed_side (each scope_of old) (each scope_of new) places left s (scope_of x) (side_name_of name) (code.side_of side) (numbers_at was.nodes was.numbers) (numbers_in stay)
      (at-each scope_of old s ∙ ap (λ (f : Option (Scope P C Q V H T E L)). option_map scope_of f) (sym live))
      (
      ap (λ (es : List (ℕ × Scope P C Q V H T E L)). each scope_of es) made.2
      ∙ put-each scope_of old s made.0
      ∙ ap (λ (y : model.Scope (types C Q V H T E L)). put (each scope_of old) s y) (ap scope_of (step x made.0 made.1) ∙ put_is name side x)
      )
      (few x (sym live))
      (sym (numbers_are was.nodes was.numbers) ∙ ap (λ (a : model.Side (types C Q V H T E L)). numbers_drawn a.numbers) stood)
      (ap (λ (es : List (ℕ × ℕ)). numbers_in es) stay_is ∙ sym known ∙ sym (numbers_are side.nodes side.numbers))
      gone h

  -- a number joins a side of a scope in the table
  pub placed_numbered : (old new : List (ℕ × Scope P C Q V H T E L)) (s : ℕ) (side : SideName) (e : tree.Place × tree.Kind × ℕ) (p : Place) (places left : List (ℕ × Place))
      → is_some (at old s) ≡ true
      → ((x : Scope P C Q V H T E L) → at old s ≡ Some x → each scope_of new ≡ put (each scope_of old) s (more_number (side_name_of side) e (scope_of x)))
      → at places e.2 ≡ None → named_in p ≡ named_of (s, side_name_of side, e.0) → left ≡ places ++ (e.2, p) ∷ []
      → IsPlaced (each scope_of old) places → IsPlaced (each scope_of new) left
  placed_numbered old new s side e p places left live made free names more h = by (at old s) refl live
    where
      by : (o : Option (Scope P C Q V H T E L)) → at old s ≡ o → is_some o ≡ true → IsPlaced (each scope_of new) left
      by None here q = absurd (cc q)
      by (Some x) here q =
          subst (λ (ps : List (ℕ × Place)). IsPlaced (each scope_of new) ps) (sym more)
          (
          placed_drawn (each scope_of old) (each scope_of new) places s (scope_of x) (side_name_of side) e p
          (at-each scope_of old s ∙ ap (λ (f : Option (Scope P C Q V H T E L)). option_map scope_of f) here)
          (made x here) free names h
          )

  -- a row of a scope goes, with the places of its three sides
  pub placed_taken : (old new : List (ℕ × Scope P C Q V H T E L)) (s : ℕ) (x : Scope P C Q V H T E L) (places one two three : List (ℕ × Place)) → IsTaken old new s x
      → one ≡ without_all places (went (numbers_at ((x.rest).main_side).nodes ((x.rest).main_side).numbers) [])
      → two ≡ without_all one (went (numbers_at ((x.rest).children_side).nodes ((x.rest).children_side).numbers) [])
      → three ≡ without_all two (went (numbers_at ((x.rest).fallback_side).nodes ((x.rest).fallback_side).numbers) [])
      → IsPlaced (each scope_of old) places → IsPlaced (each scope_of new) three
  placed_taken old new s x places one two three taken first second third h =
      placed_cut (each scope_of old) (each scope_of new) (standings (each scope_of taken.front)) (scope_standings s (scope_of x)) (standings (each scope_of taken.back)) [] places three h
      (
      ap (λ (es : List (ℕ × Scope P C Q V H T E L)). standings (each scope_of es)) taken.was
      ∙ ap (λ (es : List (ℕ × model.Scope (types C Q V H T E L))). standings es) (append-each scope_of taken.front ((s, x) ∷ taken.back))
      ∙ standings_both (each scope_of taken.front) ((s, scope_of x) ∷ each scope_of taken.back)
      )
      (
      ap (λ (es : List (ℕ × Scope P C Q V H T E L)). standings (each scope_of es)) taken.is
      ∙ ap (λ (es : List (ℕ × model.Scope (types C Q V H T E L))). standings es) (append-each scope_of taken.front taken.back)
      ∙ standings_both (each scope_of taken.front) (each scope_of taken.back)
      )
      (
      λ n.
      ap (λ (ps : List (ℕ × Place)). at ps n) third
      ∙ gone_at two fallback n
      ∙ ap (λ (o : Option Place). if has fallback n then None else o) (ap (λ (ps : List (ℕ × Place)). at ps n) second ∙ gone_at one children n)
      ∙ ap (λ (o : Option Place). if has fallback n then None else (if has children n then None else o)) (ap (λ (ps : List (ℕ × Place)). at ps n) first ∙ gone_at places main n)
      ∙ joined (has main n) (has children n) (has fallback n) (at places n)
      ∙ ap (λ (b : Bool). if b && not false then None else at places n) (sym (all_has n))
      )
    where
      main : List ℕ
      main = numbers_at ((x.rest).main_side).nodes ((x.rest).main_side).numbers

      children : List ℕ
      children = numbers_at ((x.rest).children_side).nodes ((x.rest).children_side).numbers

      fallback : List ℕ
      fallback = numbers_at ((x.rest).fallback_side).nodes ((x.rest).fallback_side).numbers

      went_all : (ns : List ℕ) → went ns [] ≡ ns
      went_all [] = refl
      went_all (m ∷ ms) = ap (λ (ks : List ℕ). m ∷ ks) (went_all ms)

      gone_at : (es : List (ℕ × Place)) (ns : List ℕ) (n : ℕ) → at (without_all es (went ns [])) n ≡ (if has ns n then None else at es n)
      gone_at es ns n = ap (λ (ks : List ℕ). at (without_all es ks) n) (went_all ns) ∙ at_without_all es ns n

      joined : (a b c : Bool) (o : Option Place) → (if c then None else (if b then None else (if a then None else o))) ≡ (if (a || (b || c)) && not false then None else o)
      joined true true true o = refl
      joined true true false o = refl
      joined true false true o = refl
      joined true false false o = refl
      joined false true true o = refl
      joined false true false o = refl
      joined false false true o = refl
      joined false false false o = refl

      all_has : (n : ℕ) → has (numbers_of (scope_standings s (scope_of x))) n ≡ (has main n || (has children n || has fallback n))
      all_has n =
          ap (λ (ns : List ℕ). has ns n)
          (
          joined_numbers (on MainSide (x.rest).main_side) (on ChildrenSide (x.rest).children_side ++ on FallbackSide (x.rest).fallback_side)
          ∙ (λ i. numbers_on MainSide (x.rest).main_side i ++ joined_numbers (on ChildrenSide (x.rest).children_side) (on FallbackSide (x.rest).fallback_side) i)
          ∙ (λ i. main ++ (numbers_on ChildrenSide (x.rest).children_side i ++ numbers_on FallbackSide (x.rest).fallback_side i))
          )
          ∙ has_joined main (children ++ fallback) n
          ∙ ap (λ (b : Bool). has main n || b) (has_joined children fallback n)
        where
          on : model.SideName → Side P C Q V H T E L → List (ℕ × Standing)
          on name a = side_standings s name (code.side_of a).numbers

          numbers_on : (name : model.SideName) (a : Side P C Q V H T E L) → numbers_of (on name a) ≡ numbers_at a.nodes a.numbers
          numbers_on name a = side_numbers s name (code.side_of a).numbers ∙ numbers_are a.nodes a.numbers

-- what was put is taken back
pub taken_back : {A : Type 0} (es : List (ℕ × A)) (n : ℕ) (a : A) → at es n ≡ None → without (es ++ (n, a) ∷ []) n ≡ es
taken_back [] n a none = pick_true [] ((n, a) ∷ []) (eq_same n)
taken_back {A = A} (e ∷ es) n a none = by (nat_eq e.0 n) none (λ h. taken_back es n a h)
  where
    by : (b : Bool) → (if b then Some e.1 else at es n) ≡ None → (at es n ≡ None → without (es ++ (n, a) ∷ []) n ≡ es)
        → (if b then without (es ++ (n, a) ∷ []) n else e ∷ without (es ++ (n, a) ∷ []) n) ≡ e ∷ es
    by true q rest = absurd (cc q)
    by false q rest = ap (λ (fs : List (ℕ × A)). e ∷ fs) (rest q)

-- a change that was done, by what it does
pub put_told : {A B U X : Type 0} (r : Result U X) (R : A → A → Type 0) (f : A → B) (h : B → B) (old new : List (ℕ × A)) (n : ℕ)
    → ((x : A) → at old n ≡ Some x → (y : A) × R x y × (new ≡ put old n y))
    → ((x y : A) → R x y → OnOk r (f y ≡ h (f x)))
    → OnOk r ((x : A) → at old n ≡ Some x → each f new ≡ put (each f old) n (h (f x)))
put_told (Ok u) R f h old new n changed step = λ x live. let made = changed x live in ap (each f) made.2 ∙ put-each f old n made.0 ∙ ap (λ b. put (each f old) n b) (step x made.0 made.1)
put_told (Err e) R f h old new n changed step = tt
