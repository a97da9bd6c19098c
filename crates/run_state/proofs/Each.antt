-- Lists of numbered values, each value put through a change.
use Rattle.std.proofs.Common.{◌≡◌, ℕ, suc, Bool, true, false, List, [], ◌∷◌, ◌++◌, get_or, refl, ap, sym, ◌∙◌, arith, ◌<◌, ◌+◌}
use Rattle.std.specs.Prelude.{nat_eq, slice_set, Option, Some, None, option_map, is_some, if◌then◌else◌}
use Rattle.std.proofs.lemmas.Grind.{common_steps}
pub use Rattle.rt_lemmas.proofs.Lists.{drop_all as drop-all}
use Rattle.rt_model.specs.Lists.{at, put, without}
use Rattle.run_records.specs.Kept.{each}
use Rattle.tree_nodes.specs.declared.vnode.VNode.{VNode}
use Rattle.run_places.specs.Places.{output_of}

module _ {A B : Type 0} (f : A → B) where
  pub at-each : (es : List (ℕ × A)) (n : ℕ) → at (each f es) n ≡ option_map f (at es n)
  at-each [] n = refl
  at-each (e ∷ es) n = grind (arith, common_steps, at-each es n)

  pub put-each : (es : List (ℕ × A)) (n : ℕ) (a : A) → each f (put es n a) ≡ put (each f es) n (f a)
  put-each [] n a = refl
  put-each (e ∷ es) n a = grind (arith, common_steps, put-each es n a)

  pub without-each : (es : List (ℕ × A)) (n : ℕ) → each f (without es n) ≡ without (each f es) n
  without-each [] n = refl
  without-each (e ∷ es) n = grind (arith, common_steps, without-each es n)

  pub append-each : (es others : List (ℕ × A)) → each f (es ++ others) ≡ each f es ++ each f others
  append-each [] others = refl
  append-each (e ∷ es) others = ap (λ rest. (e.0, f e.1) ∷ rest) (append-each es others)

  pub some-mapped : (found : Option A) → is_some (option_map f found) ≡ is_some found
  some-mapped None = refl
  some-mapped (Some a) = refl

  pub live-each : (es : List (ℕ × A)) (n : ℕ) → is_some (at (each f es) n) ≡ is_some (at es n)
  live-each es n = ap is_some (at-each es n) ∙ some-mapped (at es n)

  -- what is found under a number, as the other list has it
  pub found-each : (es : List (ℕ × A)) (n : ℕ) (found : Option A) → found ≡ at es n → at (each f es) n ≡ option_map f found
  found-each es n found is = at-each es n ∙ ap (option_map f) (sym is)

module _ {P C Q V H T E L : Type 0} where
  -- an output is there where the model has one
  pub some-output : (output : Option (VNode P C Q V H T E L)) → is_some (output_of output) ≡ is_some output
  some-output None = refl
  some-output (Some tree) = refl

pub ruleset eaches = (at-each, live-each)

-- and whether a value is there that is put through a change
pub ruleset mappeds = (at-each, some-output)
