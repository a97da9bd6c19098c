-- The tests of such an application decide, its formulas only look, and its polls are those of its derived cells.
use Rattle.std.proofs.Common.{ℕ, List, [], ◌∷◌, ◌≡◌, refl, ap}
use Rattle.rt_model.specs.Laws.{Tests}
use Rattle.rt_model.specs.Program.{Program, done}
use Rattle.rt_model.specs.Tree.{Types}
use Rattle.author_programs.specs.Cells.{Keeping, all_read}
use Rattle.author_programs.specs.Means.{AllDecide}
use Rattle.author_formulas.specs.Formulas.{FormulasLook}
use Rattle.author_formulas.specs.Looking.{Looks}
use Rattle.author_formulas.specs.Memos as memos
use Rattle.author_formulas.proofs.Looking.{looks_on}
use Rattle.author_bodies.specs.Bodies.{ProgramsDecide}
use Rattle.author_deriving.specs.Task.{as_task}
use Rattle.author_deriving.proofs.Returning.{as_defined}
use Rattle.author_derived.specs.Derived.{Derivations, formulas_of, derived_types, polled, programs_of_derived}

-- reads of cells only look
reads_look : (K : Types) (ns : List ℕ) → Looks (all_read {K = K} ns)
unfolding Looks
reads_look K [] = tt
reads_look K (n ∷ ns) = λ v. looks_on (all_read {K = K} ns) (λ vs. done (v ∷ vs)) (reads_look K ns) (λ vs. tt)

module _ {K : Types} {F : Type 0} where
  pub formulas_look : (a : Derivations K F) → Tests K.Value (a.pages).same_value → FormulasLook (formulas_of a)
  unfolding Looks
  formulas_look a values =
      record {
        looks = λ f. looks_on (all_read (a.sources f)) (λ vs. done (a.value f vs)) (reads_look K (a.sources f)) (λ vs. tt);
        values = values;
      }

module _ {C Q V H F L : Type 0} where
  pub derivations_decide : (k : Keeping V) (a : Derivations (derived_types C Q V H F L) F)
      → AllDecide (derived_types C Q V H F L) a.pages
      → ProgramsDecide (derived_types C Q V H F L) (programs_of_derived k a)
  derivations_decide k a h =
      record { memoized = λ c p q. refl; components = h.components; props = h.props; values = h.values; handlers = h.handlers }

  pub polls_memos : (k : Keeping V) (a : Derivations (derived_types C Q V H F L) F) (m : memos.MemoTask V F)
      → (programs_of_derived k a).poll (as_task m) ≡ polled a m
  polls_memos k a m = ap (λ n. polled a n) (as_defined m)
