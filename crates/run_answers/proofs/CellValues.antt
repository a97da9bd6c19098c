-- The value of a cell that code keeps, as the definitions' cells have it.
use Rattle.std.proofs.Common.{◌≡◌, ℕ, List, refl, ap, sym, ◌∙◌}
use Rattle.std.specs.Prelude.{Option, Some, None, option_map}
use Rattle.rt_cells.specs.Held.{value_at}
use Rattle.rt_cells.specs.declared.numbered.Held.{Held}
use Rattle.rt_model.specs.Lists.{at}
use Rattle.rt_model.specs.OneLog.{types}
use Rattle.rt_model.specs.State.{CellRow}
use Rattle.run_records.specs.Kept.{each}
use Rattle.run_state.specs.Mirror.{cell_of}
use Rattle.run_state.proofs.CellsKept.{held-found}
use Rattle.run_state.proofs.Each.{at-each}

module _ (C Q V H T E L : Type 0) where
  -- the value of a row
  abbrev value_in : Option (CellRow (types C Q V H T E L)) → Option V
  value_in found = option_map (λ (row : CellRow (types C Q V H T E L)). row.value) found

  -- the row of a cell that is held
  abbrev row_of : Held V → CellRow (types C Q V H T E L)
  row_of held = cell_of {C = C} {Q = Q} {V = V} {H = H} {T = T} {E = E} {L = L} held

  value_kept : (found : Option (Held V)) → option_map (λ (held : Held V). held.value) found ≡ value_in (option_map row_of found)
  value_kept None = refl
  value_kept (Some held) = refl

  -- what is found under a cell's number is the value of its row
  pub cell_value : (cells : List (ℕ × Held V)) (n : ℕ) (value : Option V) → value ≡ value_at n cells → value ≡ value_in (at (each row_of cells) n)
  cell_value cells n value is =
      is
      ∙ ap (option_map (λ (held : Held V). held.value)) (held-found cells n)
      ∙ value_kept (at cells n)
      ∙ ap value_in (sym (at-each row_of cells n))
