-- What is provided, by the index of its kind.
use Rattle.std.proofs.Common.{◌≡◌, ℕ, suc, ◌<◌, Bool, cond, true, false, List, [], ◌∷◌, ◌++◌, length, map, refl, sym, ap, ◌∙◌, subst, arith}
use Rattle.std.specs.Prelude.{nat_eq, slice_get, slice_set, Option, Some, None, option_map, option_and_then, if◌then◌else◌}
use Rattle.std.specs.Ordering.{nat_cmp}
use Rattle.std.specs.Cmp.{unsigned_ties}
use Rattle.std.specs.BTreeMap.{BTreeMap, get, is_at}
use Rattle.std.proofs.lemmas.Bool.{eqb-true}
use Rattle.rt_model.specs.Lists.{at}
use Rattle.rt_model.proofs.Maps.{by_test, pick_true, pick_false}
use Rattle.run_records.specs.declared.rows.Provided.{Provided}
use Rattle.run_records.specs.Kept.{provided_of}
use Rattle.run_records.specs.World.{provided}
use Rattle.run_records.specs.Provisions.{kind_place, put_provided}

-- an index, or the end
abbrev pub or_end : Option ℕ → ℕ → ℕ
or_end None n = n
or_end (Some i) n = i

further : (o : Option ℕ) (n : ℕ) → suc (or_end o n) ≡ or_end (option_map (λ i. suc i) o) (suc n)
further None n = refl
further (Some i) n = refl

-- the map's own test is equality
tests : (k q : ℕ) → is_at (nat_cmp k) q ≡ nat_eq k q
tests k q = sym (unsigned_ties k q)

module _ {P C Q V H T E L : Type 0} where
  -- what is provided of a kind is what stands at it
  pub provided-is : (ps : List (Provided P C Q V H T E L)) (k : ℕ) → provided ps k ≡ at (map provided_of ps) k
  provided-is [] k = refl
  provided-is (p ∷ ps) k = ap (λ (o : Option V). if nat_eq p.kind k then Some p.value else o) (provided-is ps k)

  abbrev value_of : Provided P C Q V H T E L → V
  value_of p = p.value

  behind : (p : Provided P C Q V H T E L) (ps : List (Provided P C Q V H T E L)) (o : Option ℕ) → option_and_then (slice_get (p ∷ ps)) (option_map (λ n. suc n) o) ≡ option_and_then (slice_get ps) o
  behind p ps None = refl
  behind p ps (Some n) = refl

  first : (b : Bool) (p : Provided P C Q V H T E L) (ps : List (Provided P C Q V H T E L)) (o : Option ℕ) (rest : Option V) → option_map value_of (option_and_then (slice_get ps) o) ≡ rest
      → option_map value_of (option_and_then (slice_get (p ∷ ps)) (if b then Some 0 else option_map (λ n. suc n) o)) ≡ (if b then Some p.value else rest)
  first true p ps o rest is = refl
  first false p ps o rest is = ap (option_map value_of) (behind p ps o) ∙ is

  value_there : (ps : List (Provided P C Q V H T E L)) (k : ℕ) → option_map value_of (option_and_then (slice_get ps) (kind_place ps k)) ≡ provided ps k
  value_there [] k = refl
  value_there (p ∷ ps) k = first (nat_eq p.kind k) p ps (kind_place ps k) (provided ps k) (value_there ps k)

  -- the value at the index of a kind
  pub value_at_place : (ps : List (Provided P C Q V H T E L)) (k i : ℕ) → Some i ≡ kind_place ps k → option_map value_of (slice_get ps i) ≡ provided ps k
  value_at_place ps k i is = ap (λ o. option_map value_of (option_and_then (slice_get ps) o)) is ∙ value_there ps k

  -- no value of a kind without index
  pub no_value : (ps : List (Provided P C Q V H T E L)) (k : ℕ) → None ≡ kind_place ps k → None ≡ provided ps k
  no_value ps k is = ap (λ o. option_map value_of (option_and_then (slice_get ps) o)) is ∙ value_there ps k

  -- a value is put at the index of its kind, or at the end
  abbrev Put : List (Provided P C Q V H T E L) → List (Provided P C Q V H T E L) → Provided P C Q V H T E L → Option ℕ → Type 0
  Put ps after r None = after ≡ ps ++ r ∷ []
  Put ps after r (Some i) = (i < length ps) × (after ≡ slice_set ps i r)

  chosen : (b : Bool) (p : Provided P C Q V H T E L) (ps rest : List (Provided P C Q V H T E L)) (r : Provided P C Q V H T E L) (o : Option ℕ) → Put ps rest r o
      → Put (p ∷ ps) (if b then r ∷ ps else p ∷ rest) r (if b then Some 0 else option_map (λ n. suc n) o)
  chosen true p ps rest r o put = (omega arith, refl)
  chosen false p ps rest r None put = ap (λ qs. p ∷ qs) put
  chosen false p ps rest r (Some i) put = let low = put.0 in (omega (arith, low), ap (λ qs. p ∷ qs) put.1)

  puts : (ps : List (Provided P C Q V H T E L)) (k : ℕ) (v : V) → Put ps (put_provided ps k v) (record { kind = k; value = v }) (kind_place ps k)
  puts [] k v = refl
  puts (p ∷ ps) k v = chosen (nat_eq p.kind k) p ps (put_provided ps k v) (record { kind = k; value = v }) (kind_place ps k) (puts ps k v)

  -- where its kind has an index
  pub put_there : (ps : List (Provided P C Q V H T E L)) (k i : ℕ) (v : V) → Some i ≡ kind_place ps k
      → (i < length ps) × (put_provided ps k v ≡ slice_set ps i (record { kind = k; value = v }))
  put_there ps k i v is = subst (λ o. Put ps (put_provided ps k v) (record { kind = k; value = v }) o) (sym is) (puts ps k v)

  -- where it has none
  pub put_new : (ps : List (Provided P C Q V H T E L)) (k : ℕ) (v : V) → None ≡ kind_place ps k → put_provided ps k v ≡ ps ++ record { kind = k; value = v } ∷ []
  put_new ps k v is = subst (λ o. Put ps (put_provided ps k v) (record { kind = k; value = v }) o) (sym is) (puts ps k v)

  -- the index of each kind after a put
  pub placed : (ps : List (Provided P C Q V H T E L)) (k : ℕ) (v : V) (q : ℕ)
      → kind_place (put_provided ps k v) q ≡ (if nat_eq k q then Some (or_end (kind_place ps k) (length ps)) else kind_place ps q)
  placed [] k v q = refl
  placed (p ∷ ps) k v q =
      by_test (nat_eq p.kind k)
      (λ own.
      let same : p.kind ≡ k = eqb-true p.kind k own in
      ap (λ qs. kind_place qs q) (pick_true (record { kind = k; value = v } ∷ ps) (p ∷ put_provided ps k v) own)
      ∙ at_first (nat_eq k q) (nat_eq p.kind q) (ap (λ n. nat_eq n q) same) (kind_place ps q)
      ∙ ap (λ o. if nat_eq k q then Some (or_end o (suc (length ps))) else kind_place (p ∷ ps) q) (sym (pick_true (Some 0) (option_map (λ n. suc n) (kind_place ps k)) own)))
      (λ other.
      ap (λ qs. kind_place qs q) (pick_false (record { kind = k; value = v } ∷ ps) (p ∷ put_provided ps k v) other)
      ∙ ap (λ o. if nat_eq p.kind q then Some 0 else option_map (λ n. suc n) o) (placed ps k v q)
      ∙ past (nat_eq k q) (nat_eq p.kind q) (λ here. sym (ap (λ n. nat_eq p.kind n) (eqb-true k q here)) ∙ other) (or_end (kind_place ps k) (length ps)) (kind_place ps q)
      ∙ ap (λ n. if nat_eq k q then Some n else kind_place (p ∷ ps) q) (further (kind_place ps k) (length ps))
      ∙ ap (λ o. if nat_eq k q then Some (or_end o (suc (length ps))) else kind_place (p ∷ ps) q) (sym (pick_false (Some 0) (option_map (λ n. suc n) (kind_place ps k)) other)))
    where
      at_first : (b d : Bool) → d ≡ b → (o : Option ℕ) → (if b then Some 0 else option_map (λ n. suc n) o) ≡ (if b then Some 0 else (if d then Some 0 else option_map (λ n. suc n) o))
      at_first true d is o = refl
      at_first false d is o = ap (λ (e : Bool). if e then Some 0 else option_map (λ n. suc n) o) (sym is)

      past : (b d : Bool) → (b ≡ true → d ≡ false) → (n : ℕ) (o : Option ℕ)
          → (if d then Some 0 else option_map (λ m. suc m) (if b then Some n else o)) ≡ (if b then Some (suc n) else (if d then Some 0 else option_map (λ m. suc m) o))
      past true d apart n o = ap (λ (e : Bool). if e then Some 0 else Some (suc n)) (apart refl)
      past false d apart n o = refl

  -- a put at an index moves no kind
  pub kinds_kept : (ps : List (Provided P C Q V H T E L)) (k i : ℕ) (v : V) (q : ℕ) → Some i ≡ kind_place ps k
      → kind_place (slice_set ps i (record { kind = k; value = v })) q ≡ kind_place ps q
  kinds_kept ps k i v q is =
      ap (λ qs. kind_place qs q) (sym (put_there ps k i v is).1) ∙ placed ps k v q
      ∙ ap (λ o. if nat_eq k q then Some (or_end o (length ps)) else kind_place ps q) (sym is)
      ∙ own (nat_eq k q) (λ here. is ∙ ap (kind_place ps) (eqb-true k q here))
    where
      own : (b : Bool) → (b ≡ true → Some i ≡ kind_place ps q) → (if b then Some i else kind_place ps q) ≡ kind_place ps q
      own true same = same refl
      own false same = refl

  -- one at the end gives its kind the last index
  pub kinds_more : (ps : List (Provided P C Q V H T E L)) (k : ℕ) (v : V) (q : ℕ) → None ≡ kind_place ps k
      → kind_place (ps ++ record { kind = k; value = v } ∷ []) q ≡ (if nat_eq k q then Some (length ps) else kind_place ps q)
  kinds_more ps k v q is =
      ap (λ qs. kind_place qs q) (sym (put_new ps k v is)) ∙ placed ps k v q
      ∙ ap (λ o. if nat_eq k q then Some (or_end o (length ps)) else kind_place ps q) (sym is)

  -- the indices after one more at the end
  pub index_more : (ps after : List (Provided P C Q V H T E L)) (k : ℕ) (v : V) (m n : BTreeMap ℕ ℕ) (end : ℕ) → ((q : ℕ) → get nat_cmp m q ≡ kind_place ps q)
      → None ≡ kind_place ps k → end ≡ length ps → after ≡ ps ++ record { kind = k; value = v } ∷ []
      → ((q : ℕ) → get nat_cmp n q ≡ cond (is_at (nat_cmp k) q) (Some end) (get nat_cmp m q)) → (q : ℕ) → get nat_cmp n q ≡ kind_place after q
  index_more ps after k v m n end kept none last grown inserted q =
      inserted q ∙ (λ i. cond (tests k q i) (Some (last i)) (kept q i)) ∙ sym (kinds_more ps k v q none) ∙ sym (ap (λ qs. kind_place qs q) grown)

  -- and after its index was taken out again
  pub index_back : (ps : List (Provided P C Q V H T E L)) (k : ℕ) (m n l : BTreeMap ℕ ℕ) (end : ℕ) → ((q : ℕ) → get nat_cmp m q ≡ kind_place ps q) → None ≡ kind_place ps k
      → ((q : ℕ) → get nat_cmp n q ≡ cond (is_at (nat_cmp k) q) (Some end) (get nat_cmp m q)) → ((q : ℕ) → get nat_cmp l q ≡ cond (is_at (nat_cmp k) q) None (get nat_cmp n q))
      → (q : ℕ) → get nat_cmp l q ≡ kind_place ps q
  index_back ps k m n l end kept none inserted removed q =
      removed q ∙ (λ i. cond (tests k q i) None (inserted q i)) ∙ (λ i. cond (nat_eq k q) None (cond (tests k q i) (Some end) (kept q i)))
      ∙ back (nat_eq k q) (kind_place ps q) (λ here. none ∙ ap (kind_place ps) (eqb-true k q here))
    where
      back : (b : Bool) (o : Option ℕ) → (b ≡ true → None ≡ o) → cond b None (cond b (Some end) o) ≡ o
      back true o is = is refl
      back false o is = refl
