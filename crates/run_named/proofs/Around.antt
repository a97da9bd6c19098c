-- What stands round one side of a live scope, and round one row.
use Rattle.std.proofs.Common.{ℕ, Bool, true, false, List, [], ◌∷◌, ◌++◌, ◌≡◌, nat_eq, refl, sym, ap, ◌∙◌, append_assoc, append-nil, map}
use Rattle.std.specs.Prelude.{Option, Some, None, if◌then◌else◌}
use Rattle.std.proofs.lemmas.Bool.{eqb-true}
use Rattle.rt_model.specs.Lists.{at, put}
use Rattle.rt_model.specs.Tree.{Types}
use Rattle.rt_model.specs.Tree as model
use Rattle.rt_model.specs.State.{SideName, MainSide, ChildrenSide, FallbackSide, Scope, Side, side_of, with_side}
use Rattle.rt_model.specs.Queries.{Standing}
use Rattle.run_owed.specs.Lists.{numbers_of}
use Rattle.run_named.specs.Standings.{drawn_in, picked, side_standings, scope_standings, standings}

-- the numbers of what is drawn
abbrev pub numbers_drawn : List (model.Place × model.Kind × ℕ) → List ℕ
numbers_drawn es = map (λ (e : model.Place × model.Kind × ℕ). e.2) es

pub side_numbers : (s : ℕ) (name : SideName) (es : List (model.Place × model.Kind × ℕ)) → numbers_of (side_standings s name es) ≡ numbers_drawn es
side_numbers s name [] = refl
side_numbers s name (e ∷ es) = ap (λ (ns : List ℕ). e.2 ∷ ns) (side_numbers s name es)

-- where what is picked of it stands
pub side_picked : (s : ℕ) (name : SideName) (marks : List Bool) (es : List (model.Place × model.Kind × ℕ)) → side_standings s name (picked marks es) ≡ picked marks (side_standings s name es)
side_picked s name [] es = refl
side_picked s name (b ∷ bs) [] = refl
side_picked s name (true ∷ bs) (e ∷ es) = ap (λ (ys : List (ℕ × Standing)). (e.2, (s, name, e.0)) ∷ ys) (side_picked s name bs es)
side_picked s name (false ∷ bs) (e ∷ es) = side_picked s name bs es

pub numbers_picked : (marks : List Bool) (es : List (model.Place × model.Kind × ℕ)) → numbers_drawn (picked marks es) ≡ picked marks (numbers_drawn es)
numbers_picked [] es = refl
numbers_picked (b ∷ bs) [] = refl
numbers_picked (true ∷ bs) (e ∷ es) = ap (λ (ns : List ℕ). e.2 ∷ ns) (numbers_picked bs es)
numbers_picked (false ∷ bs) (e ∷ es) = numbers_picked bs es

-- what stands before and after a side
pub record Around {K : Types} (scopes : List (ℕ × Scope K)) (s : ℕ) (x : Scope K) (name : SideName) : Type 0 where
  pub front : List (ℕ × Standing)
  pub back : List (ℕ × Standing)
  pub was : standings scopes ≡ front ++ (side_standings s name (side_of x name).numbers ++ back)
  pub is : (side : Side K) → standings (put scopes s (with_side x name side)) ≡ front ++ (side_standings s name side.numbers ++ back)

module _ {K : Types} where
  abbrev others : ℕ → Scope K → SideName → List (ℕ × Standing)
  others s x name = side_standings s name (side_of x name).numbers

  scope_around : (s : ℕ) (x : Scope K) (name : SideName) (rest : List (ℕ × Standing))
      → (front : List (ℕ × Standing)) × (back : List (ℕ × Standing)) × (scope_standings s x ++ rest ≡ front ++ (others s x name ++ back))
      × ((side : Side K) → scope_standings s (with_side x name side) ++ rest ≡ front ++ (side_standings s name side.numbers ++ back))
  scope_around s x MainSide rest = (
    [],
    (others s x ChildrenSide ++ others s x FallbackSide) ++ rest,
    append_assoc (others s x MainSide) (others s x ChildrenSide ++ others s x FallbackSide) rest,
    λ side. append_assoc (side_standings s MainSide side.numbers) (others s x ChildrenSide ++ others s x FallbackSide) rest,
  )
  scope_around s x ChildrenSide rest = (
    others s x MainSide,
    others s x FallbackSide ++ rest,
    append_assoc (others s x MainSide) (others s x ChildrenSide ++ others s x FallbackSide) rest
        ∙ ap (λ (ys : List (ℕ × Standing)). others s x MainSide ++ ys) (append_assoc (others s x ChildrenSide) (others s x FallbackSide) rest),
    λ side.
        append_assoc (others s x MainSide) (side_standings s ChildrenSide side.numbers ++ others s x FallbackSide) rest
        ∙ ap (λ (ys : List (ℕ × Standing)). others s x MainSide ++ ys) (append_assoc (side_standings s ChildrenSide side.numbers) (others s x FallbackSide) rest),
  )
  scope_around s x FallbackSide rest = (
    others s x MainSide ++ others s x ChildrenSide,
    rest,
    append_assoc (others s x MainSide) (others s x ChildrenSide ++ others s x FallbackSide) rest
        ∙ ap (λ (ys : List (ℕ × Standing)). others s x MainSide ++ ys) (append_assoc (others s x ChildrenSide) (others s x FallbackSide) rest)
        ∙ sym (append_assoc (others s x MainSide) (others s x ChildrenSide) (others s x FallbackSide ++ rest)),
    λ side.
        append_assoc (others s x MainSide) (others s x ChildrenSide ++ side_standings s FallbackSide side.numbers) rest
        ∙ ap (λ (ys : List (ℕ × Standing)). others s x MainSide ++ ys) (append_assoc (others s x ChildrenSide) (side_standings s FallbackSide side.numbers) rest)
        ∙ sym (append_assoc (others s x MainSide) (others s x ChildrenSide) (side_standings s FallbackSide side.numbers ++ rest)),
  )

  pub around : (scopes : List (ℕ × Scope K)) (s : ℕ) (x : Scope K) (name : SideName) → at scopes s ≡ Some x → Around scopes s x name
  around [] s x name live = absurd (cc live)
  around (r ∷ rs) s x name live = by (nat_eq r.0 s) refl live (λ h. around rs s x name h)
    where
      by : (b : Bool) → nat_eq r.0 s ≡ b → (if b then Some r.1 else at rs s) ≡ Some x → (at rs s ≡ Some x → Around rs s x name) → Around (r ∷ rs) s x name
      by true q own rest =
          let number : r.0 ≡ s = eqb-true r.0 s q in
          let here : r.1 ≡ x = ap (λ (o : Option (Scope K)). elim o as (λ _. Scope K) [ None ↦ r.1 | Some z ↦ z ]) own in
          let parts = scope_around s x name (standings rs) in
          record {
            front = parts.0;
            back = parts.1;
            was = (λ i. scope_standings (number i) (here i) ++ standings rs) ∙ parts.2;
            is = λ side. ap (λ (c : Bool). standings (if c then (s, with_side x name side) ∷ rs else r ∷ put rs s (with_side x name side))) q ∙ parts.3 side;
          }
      by false q other rest =
          let parts = rest other in
          record {
            front = scope_standings r.0 r.1 ++ parts.front;
            back = parts.back;
            was = ap (λ (ys : List (ℕ × Standing)). scope_standings r.0 r.1 ++ ys) parts.was ∙ sym (append_assoc (scope_standings r.0 r.1) parts.front (others s x name ++ parts.back));
            is = λ side.
                ap (λ (c : Bool). standings (if c then (s, with_side x name side) ∷ rs else r ∷ put rs s (with_side x name side))) q
                ∙ ap (λ (ys : List (ℕ × Standing)). scope_standings r.0 r.1 ++ ys) (parts.is side)
                ∙ sym (append_assoc (scope_standings r.0 r.1) parts.front (side_standings s name side.numbers ++ parts.back));
          }

  -- what stands of two parts
  pub standings_both : (xs ys : List (ℕ × Scope K)) → standings (xs ++ ys) ≡ standings xs ++ standings ys
  standings_both [] ys = refl
  standings_both (x ∷ xs) ys =
      ap (λ (zs : List (ℕ × Standing)). scope_standings x.0 x.1 ++ zs) (standings_both xs ys) ∙ sym (append_assoc (scope_standings x.0 x.1) (standings xs) (standings ys))

  -- a scope for which nothing is drawn
  pub standings_bare : (xs : List (ℕ × Scope K)) (s : ℕ) (x : Scope K) → drawn_in x ≡ ([], [], []) → standings (xs ++ (s, x) ∷ []) ≡ standings xs
  standings_bare xs s x none =
      standings_both xs ((s, x) ∷ [])
      ∙ ap (λ (d : List (model.Place × model.Kind × ℕ) × List (model.Place × model.Kind × ℕ) × List (model.Place × model.Kind × ℕ)).
      standings xs ++ ((side_standings s MainSide d.0 ++ (side_standings s ChildrenSide d.1 ++ side_standings s FallbackSide d.2)) ++ [])) none
      ∙ append-nil (standings xs)
