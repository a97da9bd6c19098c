-- The next number is above all that are kept, so its thing comes last; and each number is kept once.
use Rattle.std.proofs.Common.{◌≡◌, ℕ, ◌+◌, ◌<◌, ◌≤◌, List, [], ◌∷◌, ◌++◌, Bool, true, false, cond, not, nat_eq, Option, None, Some, refl, sym, ap, ◌∙◌, arith}
use Rattle.std.specs.declared.cmp.Ordering.{Ordering}
use Rattle.std.specs.declared.cmp.Ordering.TheVariants.{Less, Equal, Greater}
use Rattle.std.specs.Ordering.{is_eq, nat_cmp, match_ordering}
use Rattle.std.specs.Cmp.{nat_cmp_is, nat_cmp_total, tied_itself}
use Rattle.std.specs.FinMap.{nat_cmp-IsAntisymmetric}
use Rattle.std.specs.Option.{is_some, IsSome}
use Rattle.std.specs.List.{filter, AllByRecursion}
use Rattle.std.specs.List.Sorted.{IsStrictlySortedBy}
use Rattle.std.specs.Map.{keys_of}
use Rattle.std.specs.BTreeMap.{insert_entry}
use Rattle.std.proofs.lemmas.Bool.Decides.{eqb_tells}
use Rattle.std.proofs.lemmas.Map.Keys.{sorted_head, sorted_tail}
use Rattle.rt_lemmas.proofs.Numbers.{ties_back as tie}
use Rattle.rt_values.specs.declared.names.ScopeId.{ScopeId}
use Rattle.rt_cells.specs.declared.numbered.Held.{Held}
use Rattle.rt_cells.specs.Held.{held_at, without}
use Rattle.rt_cells.specs.Index.{IsIndexed}

module _ {X : Type 0} where
  there : (hit : Bool) (thing : Held X) (found : Option (Held X)) → IsSome found → IsSome (cond hit (Some thing) found)
  there true thing found some = refl
  there false thing found some = some

  -- above all numbers is behind all things
  pub comes_last : (held : List (ℕ × Held X)) (next : ℕ) (thing : Held X) → ((number : ℕ) → IsSome (held_at number held) → number < next)
      → insert_entry nat_cmp held next thing ≡ held ++ (next, thing) ∷ []
  comes_last [] next thing below = refl
  comes_last (first ∷ held) next thing below =
      let own : IsSome (held_at first.0 (first ∷ held)) = ap (λ r. is_some (cond (is_eq r) (Some first.1) (held_at first.0 held))) (tied_itself nat_cmp_total first.0) in
      let behind : first.0 < next = below first.0 own in
      let above : nat_cmp next first.0 ≡ Greater = sym (nat_cmp_is next first.0 Greater behind) in
      ap (λ r. match_ordering r ((next, thing) ∷ first ∷ held) ((first.0, thing) ∷ held) (first ∷ insert_entry nat_cmp held next thing)) above
      ∙ ap (λ rest. first ∷ rest) (comes_last held next thing (λ number some. below number (there (is_eq (nat_cmp number first.0)) first.1 (held_at number held) some)))

  -- a number that is below all of a list isn't in it
  none_of : (held : List (ℕ × Held X)) (number : ℕ) → AllByRecursion (λ k. nat_cmp number k ≡ Less) (keys_of held) → filter (λ thing. not (nat_eq thing.0 number)) held ≡ held
  none_of [] number all = refl
  none_of (first ∷ held) number all =
      let apart : nat_eq first.0 number ≡ false = sym (tie number first.0) ∙ ap is_eq all.0 in
      ap (λ b. cond (not b) (first ∷ filter (λ thing. not (nat_eq thing.0 number)) held) (filter (λ thing. not (nat_eq thing.0 number)) held)) apart
      ∙ ap (λ rest. first ∷ rest) (none_of held number all.1)

  either : (b : Bool) (number : ℕ) (first : ℕ × Held X) (held rest : List (ℕ × Held X)) → nat_eq first.0 number ≡ b → (b ≡ true → held ≡ rest) → without number held ≡ rest
      → cond b held (first ∷ without number held) ≡ cond (not b) (first ∷ rest) rest
  either true number first held rest is same others = same refl
  either false number first held rest is same others = ap (λ hs. first ∷ hs) others

  -- without the first of a number is without all of it
  pub without_all : (held : List (ℕ × Held X)) (number : ℕ) → IsStrictlySortedBy nat_cmp (keys_of held) → without number held ≡ filter (λ thing. not (nat_eq thing.0 number)) held
  without_all [] number sorted = refl
  without_all (first ∷ held) number sorted =
      ap (λ b. cond b held (first ∷ without number held)) (tie number first.0)
      ∙ either (nat_eq first.0 number) number first held (filter (λ thing. not (nat_eq thing.0 number)) held) refl
      (λ same. sym (none_of held number (subst_key same)))
      (without_all held number (sorted_tail nat_cmp first.0 (keys_of held) sorted))
    where
      equal_of : (r : Ordering) → is_eq r ≡ true → r ≡ Equal
      equal_of Less is = absurd (cc is)
      equal_of Equal is = refl
      equal_of Greater is = absurd (cc is)

      subst_key : nat_eq first.0 number ≡ true → AllByRecursion (λ k. nat_cmp number k ≡ Less) (keys_of held)
      subst_key same =
          let one : number ≡ first.0 = nat_cmp-IsAntisymmetric number first.0 (equal_of (nat_cmp number first.0) (tie number first.0 ∙ same)) in
          rw one (sorted_head nat_cmp first.0 (keys_of held) sorted)

-- a later number may be the next one too
pub indexed_later : {X : Type 0} {held : List (ℕ × Held X)} {owners : List (ScopeId × ℕ)} {next : ℕ} → IsIndexed held owners next → (later : ℕ) → next ≤ later → IsIndexed held owners later
indexed_later ok later above = record { tied = ok.tied; ascending = ok.ascending; below = λ number some. omega (arith, ok.below number some, above) }
