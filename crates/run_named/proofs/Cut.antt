-- A part of what stands becomes less: what went of it leaves the table.
use Rattle.std.proofs.Common.{ℕ, Bool, true, false, List, [], ◌∷◌, ◌++◌, ◌≡◌, ◌||◌, ◌&&◌, nat_eq, refl, sym, ap, subst, ◌∙◌}
use Rattle.std.specs.Prelude.{not, Option, Some, None, if◌then◌else◌}
use Rattle.std.proofs.lemmas.Bool.{eqb-true}
use Rattle.rt_model.specs.Lists.{at, has, without}
use Rattle.rt_model.specs.Tree.{Types}
use Rattle.rt_model.specs.State.{Scope}
use Rattle.rt_model.specs.Queries.{Standing}
use Rattle.rt_model.proofs.Maps.{by_test, pick_true, pick_false}
use Rattle.rt_model.proofs.Members.{clash, or_left, or_right}
use Rattle.tree_nodes.specs.declared.place.Place.{Place}
use Rattle.run_owed.specs.Lists.{EachOnce, numbers_of}
use Rattle.run_named.specs.Standings.{IsPicked, IsPlaced, picked, standings, without_all}
use Rattle.run_named.proofs.Fewer.{picked_has, placed_fewer}

-- a number is in one part or the other
pub has_joined : (xs ys : List ℕ) (n : ℕ) → has (xs ++ ys) n ≡ (has xs n || has ys n)
has_joined [] ys n = refl
has_joined (x ∷ xs) ys n = by (nat_eq x n) (has_joined xs ys n)
  where
    by : (b : Bool) → has (xs ++ ys) n ≡ (has xs n || has ys n) → (b || has (xs ++ ys) n) ≡ ((b || has xs n) || has ys n)
    by true h = refl
    by false h = h

once_second : (xs ys : List ℕ) → EachOnce (xs ++ ys) → EachOnce ys
once_second [] ys once = once
once_second (x ∷ xs) ys once = once_second xs ys once.1

-- what is in the second part isn't in the first
once_first : (xs ys : List ℕ) (n : ℕ) → EachOnce (xs ++ ys) → has ys n ≡ true → has xs n ≡ false
once_first [] ys n once there = refl
once_first (x ∷ xs) ys n once there =
    by_test (nat_eq x n)
    (
    λ q.
    let whole : has (xs ++ ys) x ≡ true =
    has_joined xs ys x ∙ or_right (has xs x) (has ys x) (ap (λ m. has ys m) (eqb-true x n q) ∙ there) in
    clash whole once.0
    )
    (λ q. (λ i. q i || once_first xs ys n once.1 there i))

module _ {A : Type 0} where
  pub joined_numbers : (xs ys : List (ℕ × A)) → numbers_of (xs ++ ys) ≡ numbers_of xs ++ numbers_of ys
  joined_numbers [] ys = refl
  joined_numbers (x ∷ xs) ys = ap (λ (ns : List ℕ). x.0 ∷ ns) (joined_numbers xs ys)

  -- all of a list
  all_picked : (ys : List A) → IsPicked ys ys
  all_picked [] = record { marks = []; same = refl }
  all_picked (y ∷ ys) = let rest = all_picked ys in record { marks = true ∷ rest.marks; same = ap (λ (zs : List A). y ∷ zs) rest.same }

  -- what is picked of a list, before all of another one
  picked_before : (marks : List Bool) (mid back : List A) → IsPicked (picked marks mid ++ back) (mid ++ back)
  picked_before [] [] back = all_picked back
  picked_before (b ∷ bs) [] back = all_picked back
  picked_before [] (m ∷ ms) back = let rest = picked_before [] ms back in record { marks = false ∷ rest.marks; same = rest.same }
  picked_before (true ∷ bs) (m ∷ ms) back = let rest = picked_before bs ms back in record { marks = true ∷ rest.marks; same = ap (λ (zs : List A). m ∷ zs) rest.same }
  picked_before (false ∷ bs) (m ∷ ms) back = let rest = picked_before bs ms back in record { marks = false ∷ rest.marks; same = rest.same }

  picked_after : (front few all : List A) → IsPicked few all → IsPicked (front ++ few) (front ++ all)
  picked_after [] few all h = h
  picked_after (x ∷ xs) few all h = let rest = picked_after xs few all h in record { marks = true ∷ rest.marks; same = ap (λ (zs : List A). x ∷ zs) rest.same }

  -- what stands where numbers left a table
  pub at_without_all : (es : List (ℕ × A)) (ns : List ℕ) (n : ℕ) → at (without_all es ns) n ≡ (if has ns n then None else at es n)
  at_without_all es [] n = refl
  at_without_all es (m ∷ ms) n =
      at_without_all (without es m) ms n
      ∙ by_test (nat_eq m n)
      (
      λ q.
      ap (λ (o : Option A). if has ms n then None else o) (at_gone es q)
      ∙ nothing (has ms n)
      ∙ sym (ap (λ b. if b || has ms n then None else at es n) q)
      )
      (
      λ q.
      ap (λ (o : Option A). if has ms n then None else o) (at_stays es q)
      ∙ sym (ap (λ b. if b || has ms n then None else at es n) q)
      )
    where
      nothing : (b : Bool) → ◌≡◌ {A = Option A} (if b then None else None) None
      nothing true = refl
      nothing false = refl

      at_gone : (es : List (ℕ × A)) → nat_eq m n ≡ true → at (without es m) n ≡ None
      at_gone [] q = refl
      at_gone (e ∷ rest) q =
          by_test (nat_eq e.0 m)
          (λ r. ap (λ (xs : List (ℕ × A)). at xs n) (pick_true (without rest m) (e ∷ without rest m) r) ∙ at_gone rest q)
          (
          λ r.
          ap (λ (xs : List (ℕ × A)). at xs n) (pick_false (without rest m) (e ∷ without rest m) r)
          ∙ pick_false (Some e.1) (at (without rest m) n) (ap (λ (k : ℕ). nat_eq e.0 k) (sym (eqb-true m n q)) ∙ r)
          ∙ at_gone rest q
          )

      at_stays : (es : List (ℕ × A)) → nat_eq m n ≡ false → at (without es m) n ≡ at es n
      at_stays [] q = refl
      at_stays (e ∷ rest) q =
          by_test (nat_eq e.0 m)
          (
          λ r.
          ap (λ (xs : List (ℕ × A)). at xs n) (pick_true (without rest m) (e ∷ without rest m) r)
          ∙ at_stays rest q
          ∙ sym (pick_false (Some e.1) (at rest n) (ap (λ (k : ℕ). nat_eq k n) (eqb-true e.0 m r) ∙ q))
          )
          (
          λ r.
          ap (λ (xs : List (ℕ × A)). at xs n) (pick_false (without rest m) (e ∷ without rest m) r)
          ∙ ap (λ (o : Option A). if nat_eq e.0 n then Some e.1 else o) (at_stays rest q)
          )

-- a part of what stands once
pub part_once : (front mid back : List (ℕ × Standing)) → EachOnce (numbers_of (front ++ (mid ++ back))) → EachOnce (numbers_of mid)
part_once front mid back once =
    first_once (numbers_of mid) (numbers_of back)
    (subst EachOnce (joined_numbers mid back) (once_second (numbers_of front) (numbers_of (mid ++ back)) (subst EachOnce (joined_numbers front (mid ++ back)) once)))
  where
    first_once : (xs ys : List ℕ) → EachOnce (xs ++ ys) → EachOnce xs
    first_once [] ys one = tt
    first_once (x ∷ xs) ys one = (
      by_test (has xs x) (λ q. clash (has_joined xs ys x ∙ or_left (has xs x) (has ys x) q) one.0) (λ q. q),
      first_once xs ys one.1,
    )

-- what went of the whole is what went of the part
gone_part : (f m b w : Bool) → (m ≡ true → f ≡ false) → (m ≡ true → b ≡ false) → (w ≡ true → m ≡ true) → ((f || (m || b)) && not (f || (w || b))) ≡ (m && not w)
gone_part f true b w first last was = (λ i. (first refl i || true) && not (first refl i || (w || last refl i))) ∙ same w
  where
    same : (c : Bool) → (true && not (c || false)) ≡ (true && not c)
    same true = refl
    same false = refl
gone_part f false b true first last was = clash (was refl) refl
gone_part true false b false first last was = refl
gone_part false false true false first last was = refl
gone_part false false false false first last was = refl

module _ {K : Types} where
  -- a part of what stands becomes what is picked of it, and what went leaves the table
  pub placed_cut : (old new : List (ℕ × Scope K)) (front mid back : List (ℕ × Standing)) (marks : List Bool) (places left : List (ℕ × Place)) → IsPlaced old places
      → standings old ≡ front ++ (mid ++ back) → standings new ≡ front ++ (picked marks mid ++ back)
      → ((n : ℕ) → at left n ≡ (if has (numbers_of mid) n && not (has (numbers_of (picked marks mid)) n) then None else at places n))
      → IsPlaced new left
  placed_cut old new front mid back marks places left h was is went =
      let part : IsPicked (front ++ (picked marks mid ++ back)) (front ++ (mid ++ back)) = picked_after front (picked marks mid ++ back) (mid ++ back) (picked_before marks mid back) in
      placed_fewer old new part.marks places left h (is ∙ part.same ∙ ap (λ (ys : List (ℕ × Standing)). picked part.marks ys) (sym was))
      (λ n. went n ∙ ap (λ (b : Bool). if b then None else at places n) (sym (whole n)))
    where
      parts : (mid : List (ℕ × Standing)) → numbers_of (front ++ (mid ++ back)) ≡ numbers_of front ++ (numbers_of mid ++ numbers_of back)
      parts mid = joined_numbers front (mid ++ back) ∙ ap (λ (ns : List ℕ). numbers_of front ++ ns) (joined_numbers mid back)

      once : EachOnce (numbers_of front ++ (numbers_of mid ++ numbers_of back))
      once = subst EachOnce (parts mid) (subst (λ (ys : List (ℕ × Standing)). EachOnce (numbers_of ys)) was h.apart)

      in_parts : (ys : List (ℕ × Standing)) (n : ℕ) → has (numbers_of (front ++ (ys ++ back))) n ≡ (has (numbers_of front) n || (has (numbers_of ys) n || has (numbers_of back) n))
      in_parts ys n =
          ap (λ (ns : List ℕ). has ns n) (parts ys)
          ∙ has_joined (numbers_of front) (numbers_of ys ++ numbers_of back) n
          ∙ ap (λ (b : Bool). has (numbers_of front) n || b) (has_joined (numbers_of ys) (numbers_of back) n)

      whole : (n : ℕ) → (has (numbers_of (standings old)) n && not (has (numbers_of (standings new)) n)) ≡ (has (numbers_of mid) n && not (has (numbers_of (picked marks mid)) n))
      whole n =
          (
          λ i.
          (ap (λ (ys : List (ℕ × Standing)). has (numbers_of ys) n) was ∙ in_parts mid n) i
          && not ((ap (λ (ys : List (ℕ × Standing)). has (numbers_of ys) n) is ∙ in_parts (picked marks mid) n) i)
          )
          ∙ gone_part (has (numbers_of front) n) (has (numbers_of mid) n) (has (numbers_of back) n) (has (numbers_of (picked marks mid)) n)
          (
          λ q.
          once_first (numbers_of front) (numbers_of mid ++ numbers_of back) n once
          (has_joined (numbers_of mid) (numbers_of back) n ∙ or_left (has (numbers_of mid) n) (has (numbers_of back) n) q)
          )
          (
          λ q.
          by_test (has (numbers_of back) n)
          (λ r. clash q (once_first (numbers_of mid) (numbers_of back) n (once_second (numbers_of front) (numbers_of mid ++ numbers_of back) once) r))
          (λ r. r)
          )
          (λ q. picked_has marks mid n q)
