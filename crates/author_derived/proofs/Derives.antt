-- The value of a formula, and that a memo that is kept holds it.
use Rattle.std.proofs.Common.{ℕ, Bool, true, false, List, [], ◌∷◌, ◌≡◌, refl, sym, ap, subst, ◌∙◌, map, nat_lt}
use Rattle.std.specs.Prelude.{Option, Some, None, if◌then◌else◌}
use Rattle.rt_model.specs.Program.{Program, done, Call, begun, noted, noted_at}
use Rattle.rt_model.specs.State.{State, TaskRow, values_of}
use Rattle.rt_model.specs.Tree.{Types}
use Rattle.rt_model.specs.World.{World, Source, Cell}
use Rattle.author_programs.specs.Came.{Came, came, reached}
use Rattle.author_programs.specs.Cells.{all_read}
use Rattle.author_programs.specs.Reads.{read_value, read_call}
use Rattle.author_programs.specs.Sequence.{go_on}
use Rattle.author_programs.proofs.Steps.{on, at_done, at_read}
use Rattle.author_formulas.specs.Formulas.{value_of}
use Rattle.author_formulas.specs.Memos.{MemoTask, memo, cell_of, formula_of}
use Rattle.law_minding.specs.Held.{Holds, IsKept, Since}
use Rattle.law_minding.specs.Minding.{polled_world}
use Rattle.author_derived.specs.Derived.{Derivations, computed, formulas_of}
use Rattle.author_derived.specs.DerivedShow.{given_by, value_below, IsDerived, KeptAreDerived}

module _ {K : Types} (w : World K) where
  -- reads change no value that is read
  still_noted : (c : Call K) (x : Source) (into : List ℕ) (body : Bool) (n : ℕ) → read_value w (noted_at c x into body) n ≡ read_value w c n
  still_noted c x [] true n = refl
  still_noted c x [] false n = refl
  still_noted c x (m ∷ ms) body n = refl

  still_read : (c : Call K) (m n : ℕ) → read_value w (read_call c m) n ≡ read_value w c n
  still_read c m n = either (nat_lt m c.next.cells)
    where
      either : (b : Bool) → read_value w (if b then noted c (Cell m) else c) n ≡ read_value w c n
      either true = still_noted c (Cell m) c.into c.in_body n
      either false = refl

  each_still : (c d : Call K) (ns : List ℕ) → ((n : ℕ) → read_value w d n ≡ read_value w c n) → map (read_value w d) ns ≡ map (read_value w c) ns
  each_still c d [] h = refl
  each_still c d (n ∷ ns) h = λ i. h n i ∷ each_still c d ns h i

  -- what several reads answer
  all_answered : (c : Call K) (ns : List ℕ) → (came w (all_read ns) c).answer ≡ map (read_value w c) ns
  all_answered c [] = ap (λ (x : Came K (List (Option K.Value))). x.answer) (at_done w [] c)
  all_answered c (n ∷ ns) =
      let d : Call K = read_call c n in
      let v : Option K.Value = read_value w c n in
      ap (λ (x : Came K (List (Option K.Value))). x.answer)
      (at_read w n (λ u. go_on (all_read ns) (λ vs. done (u ∷ vs))) c
      ∙ on w (all_read ns) (λ vs. done (v ∷ vs)) d
      ∙ at_done w (v ∷ (came w (all_read ns) d).answer) (came w (all_read ns) d).call)
      ∙ ap (λ (vs : List (Option K.Value)). v ∷ vs) (all_answered d ns ∙ each_still c d ns (λ m. still_read c n m))

module _ {K : Types} {F : Type 0} (a : Derivations K F) where
  -- a formula comes to its function of the values that it reads
  comes_to : (w : World K) (c : Call K) (f : F) → (came w (computed a f) c).answer ≡ a.value f (map (read_value w c) (a.sources f))
  comes_to w c f =
      let x : Came K (List (Option K.Value)) = came w (all_read (a.sources f)) c in
      ap (λ (y : Came K K.Value). y.answer) (on w (all_read (a.sources f)) (λ vs. done (a.value f vs)) c ∙ at_done w (a.value f x.answer) x.call)
      ∙ ap (λ vs. a.value f vs) (all_answered w c (a.sources f))

  module _ (w : State K) (t drawn : ℕ) (task : TaskRow K) where
    -- what its cell holds, by where the task stands
    abbrev Kept : MemoTask K.Value F → Type 0
    Kept place =
        (v : K.Value)
        × ((values_of w).cell (cell_of place) ≡ Some v)
        × Holds (formulas_of a) place (value_of (formulas_of a) (polled_world w t task) drawn (formula_of place)) v

    holds_value : (cell context : ℕ) (f : F) → Kept (memo cell context f) → IsDerived a w cell (record { drawn = drawn; formula = f })
    holds_value cell context f h =
        let u : World K = polled_world w t task in
        h.1
        ∙ ap (λ (v : K.Value). Some v) (h.2 ∙ comes_to u (begun false (record (u.given.next) { cells = drawn })) f)

pub kept_are_derived : {K : Types} {F : Type 0} → KeptAreDerived K F
kept_are_derived a w t cell context f task h is kept =
    holds_value a w t h.last.given.next.cells task cell context f
    (subst (λ (place : MemoTask _ _). Kept a w t h.last.given.next.cells task place) is kept)
