-- The cells of a component, one after another, and what is shown of them.
use Rattle.std.proofs.Common.{ℕ, false, List, [], ◌∷◌, ◌++◌, ◌≡◌, sym, ap, ◌∙◌, length, arith}
use Rattle.std.specs.Prelude.{Option, Some, None}
use Rattle.rt_model.specs.Program.{Program, done, current_scope, Call}
use Rattle.rt_model.specs.Tree.{Types, rendered, placeholder_tree}
use Rattle.rt_model.specs.World.{World}
use Rattle.author_programs.specs.Came.{Came, came, reached}
use Rattle.author_programs.specs.Cells.{Keeping, all_read}
use Rattle.author_programs.specs.Pages.{Page, own_cells, shown}
use Rattle.author_programs.specs.Sequence.{go_on}
use Rattle.author_bodies.specs.Comes.{Knows}
use Rattle.author_calls.specs.Turn as turns
use Rattle.author_programs.proofs.Steps.{on, at_done, at_scope}
use Rattle.author_formulas.specs.Memos.{MemoTask, own_memo}
use Rattle.author_derived.specs.Derived.{Derivations, one_behind, derived_behind, with_derived, all_cells}

module _ {K : Types} {F : Type 0} (w : World K) (k : Keeping K.Value) (state : MemoTask K.Value F → K.TaskState) where
  -- one more derived cell
  pub derived_more : (c d : Call K) (empty : K.Value) (f : F) (fs : List F) (all longer : List ℕ) (n : ℕ)
      → came w (own_memo k state empty f false) c ≡ reached (Some n) d
      → longer ≡ all ++ n ∷ []
      → came w (derived_behind k state empty (f ∷ fs) all) c ≡ came w (derived_behind k state empty fs longer) d
  derived_more c d empty f fs all longer n made long =
      on w (own_memo k state empty f false) (λ o. one_behind (λ more. derived_behind k state empty fs more) all o) c
      ∙ ap (λ (x : Came K (Option ℕ)). came w (one_behind (λ more. derived_behind k state empty fs more) all x.answer) x.call) made
      ∙ ap (λ more. came w (derived_behind k state empty fs more) d) (sym long)

  -- none is had, and the rest isn't made
  pub derived_none : (c d : Call K) (empty : K.Value) (f : F) (fs : List F) (all : List ℕ)
      → came w (own_memo k state empty f false) c ≡ reached None d
      → came w (derived_behind k state empty (f ∷ fs) all) c ≡ reached None d
  derived_none c d empty f fs all made =
      on w (own_memo k state empty f false) (λ o. one_behind (λ more. derived_behind k state empty fs more) all o) c
      ∙ ap (λ (x : Came K (Option ℕ)). came w (one_behind (λ more. derived_behind k state empty fs more) all x.answer) x.call) made
      ∙ at_done w None d

  -- none is left
  pub derived_end : (c : Call K) (empty : K.Value) (fs : List F) (all : List ℕ) → length fs ≡ 0 → came w (derived_behind k state empty fs all) c ≡ reached (Some all) c
  derived_end c empty [] all h = at_done w (Some all) c
  derived_end c empty (f ∷ fs) all h = absurd (omega (arith, h))

  module _ (a : Derivations K F) (b : K.Component) (p : K.Props) where
    -- the derived cells follow the own ones
    pub cells_on : (c d e : Call K) (firsts : List K.Value) (own : List ℕ) (formulas : List F) (o : Option (List ℕ))
        → firsts ≡ ((a.pages).page b p).cells
        → came w (own_cells k firsts) c ≡ reached (Some own) d
        → formulas ≡ a.derived b p own
        → came w (derived_behind k state a.empty formulas own) d ≡ reached o e
        → came w (all_cells k state a b p) c ≡ reached o e
    cells_on c d e firsts own formulas o cells made kept behind =
        on w (own_cells k ((a.pages).page b p).cells) (λ x. with_derived k state a b p x) c
        ∙ ap (λ (x : Came K (Option (List ℕ))). came w (with_derived k state a b p x.answer) x.call) (ap (λ vs. came w (own_cells k vs) c) (sym cells) ∙ made)
        ∙ ap (λ fs. came w (derived_behind k state a.empty fs own) d) (sym kept)
        ∙ behind

    -- where these aren't had none is
    pub cells_end : (c d : Call K) (firsts : List K.Value)
        → firsts ≡ ((a.pages).page b p).cells
        → came w (own_cells k firsts) c ≡ reached None d
        → came w (all_cells k state a b p) c ≡ reached None d
    cells_end c d firsts cells made =
        on w (own_cells k ((a.pages).page b p).cells) (λ x. with_derived k state a b p x) c
        ∙ ap (λ (x : Came K (Option (List ℕ))). came w (with_derived k state a b p x.answer) x.call) (ap (λ vs. came w (own_cells k vs) c) (sym cells) ∙ made)
        ∙ at_done w None d

module _ {K : Types} (w : World K) (page : Page K) (cells : Program K (Option (List ℕ))) where
  -- what a page shows of cells that are had
  pub shown_of : (c d e : Call K) (all reads : List ℕ) (values : List (Option K.Value))
      → came w cells c ≡ reached (Some all) d
      → reads ≡ page.reads all
      → came w (all_read reads) d ≡ reached values e
      → came w (go_on cells (λ o. shown page o)) c ≡ reached (rendered (page.shows w.given.scope all values)) e
  shown_of c d e all reads values made read each =
      on w cells (λ o. shown page o) c
      ∙ ap (λ (x : Came K (Option (List ℕ))). came w (shown page x.answer) x.call) made
      ∙ on w (all_read (page.reads all)) (λ vs. current_scope (λ s. done (rendered (page.shows s all vs)))) d
      ∙ ap (λ (x : Came K (List (Option K.Value))). came w (current_scope (λ s. done (rendered (page.shows s all x.answer)))) x.call)
      (ap (λ ns. came w (all_read ns) d) (sym read) ∙ each)
      ∙ at_scope w (λ s. done (rendered (page.shows s all values))) e
      ∙ at_done w (rendered (page.shows w.given.scope all values)) e

  -- and where they aren't
  pub shown_none : (c d : Call K) → came w cells c ≡ reached None d → came w (go_on cells (λ o. shown page o)) c ≡ reached (rendered placeholder_tree) d
  shown_none c d made =
      on w cells (λ o. shown page o) c
      ∙ ap (λ (x : Came K (Option (List ℕ))). came w (shown page x.answer) x.call) made
      ∙ at_done w (rendered placeholder_tree) d

module _ {P C Q V H T E L : Type 0} where
  -- what is known of an answer leads to what follows from it
  pub knows_on : {A B D : Type 0} (o : Option A) (c : turns.Call P C Q V H T E L) → (B → D) → Knows o c B → Knows o c D
  knows_on (Some a) c f h = f h
  knows_on None c f h = λ had. f (h had)
