-- The application is an Elm program: nothing fails in what its page shows, which is texts and placeholders alone, and all cells are its own.
use Rattle.std.proofs.Common.{ℕ, List, ◌≡◌, refl, sym, subst}
use Rattle.std.specs.Prelude.{Option, Some, None}
use Rattle.std.specs.List.{slice_get}
use Rattle.rt_author.specs.Safe.{IsElm, SafeTree}
use Rattle.rt_author.specs.Tree.{Tree}
use Rattle.rt_author.specs.Words.{NoData}
use Rattle.examples_template.specs.Meaning.{OwnTypes, answers, nothing}
use Rattle.examples_template.proofs.Plain.{present_here, present_tree}

module _ (may : NoData → Type 0) where
  -- of the tree as the definitions write it
  safe_here : (scope : ℕ) (cell : Option ℕ) (value : Option (Option ℕ)) → SafeTree {K = OwnTypes} may (present_here scope cell value)
  safe_here scope (Some cell) (Some (Some number)) = (tt, tt)
  safe_here scope (Some cell) (Some None) = (tt, tt)
  safe_here scope (Some cell) None = (tt, tt)
  safe_here scope None (Some (Some number)) = (tt, tt)
  safe_here scope None (Some None) = (tt, tt)
  safe_here scope None None = (tt, tt)

pub is_elm : IsElm answers
is_elm =
    record {
      safe =
          λ c p s own values.
          subst (λ (t : Tree OwnTypes). SafeTree {K = OwnTypes} (λ d. d ≡ nothing → ⊥) t) (sym (present_tree s (slice_get own 0) (slice_get values 0)))
          (safe_here (λ d. d ≡ nothing → ⊥) s (slice_get own 0) (slice_get values 0));
      bare = λ c p other. absurd (other refl);
      many = λ p q. refl;
    }
