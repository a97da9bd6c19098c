-- The lines of rows that are put one after the other.
use Rattle.std.proofs.Common.{◌≡◌, ℕ, ◌+◌, ◌<◌, ◌≤◌, suc, zero, List, [], ◌∷◌, length, map, take, get_or, Option, Ok, Err, ap, arith}
use Rattle.std.proofs.lemmas.List.{length-map}
use Rattle.show_streams.specs.Writes.{Writes, Puts}
use Rattle.show_streams.specs.declared.out.OutError.{OutError}
use Rattle.rt_text.specs.Printed.{row_line}
use Rattle.rt_text.specs.declared.rows.Row.{Row}
use Rattle.show_words.proofs.Puts.{line_put, line_failed, lines_put}

-- the line of a row among all lines
line_at : (rows : List Row) (at : ℕ) (row : Row) → at < length rows → row ≡ get_or rows at row → row_line row ≡ get_or (map row_line rows) at (row_line row)
line_at [] at row within is = absurd (omega arith)
line_at (first ∷ rows) zero row within is = ap row_line is
line_at (first ∷ rows) (suc at) row within is = line_at rows at row (omega arith) is

pub row_put : (rows : List Row) (at : ℕ) (row : Row) (old mid new : Puts) (before between after : ℕ) → at < length rows → row ≡ get_or rows at row →
    Writes (take at (map row_line rows)) old mid before between (Ok tt) → Writes (row_line row ∷ []) mid new between after (Ok tt) →
    Writes (take (at + 1) (map row_line rows)) old new before after (Ok tt)
row_put rows at row old mid new before between after within is first second =
    line_put (map row_line rows) at (row_line row) old mid new before between after (rw (length-map rows row_line) within) (line_at rows at row within is) first second

pub row_failed : (rows : List Row) (at : ℕ) (row : Row) (old mid new : Puts) (before between after : ℕ) (error : OutError) → at < length rows → row ≡ get_or rows at row →
    Writes (take at (map row_line rows)) old mid before between (Ok tt) → Writes (row_line row ∷ []) mid new between after (Err error) →
    Writes (map row_line rows) old new before after (Err error)
row_failed rows at row old mid new before between after error within is first second =
    line_failed (map row_line rows) at (row_line row) old mid new before between after error (rw (length-map rows row_line) within) (line_at rows at row within is) first second

pub rows_put : (rows : List Row) (at : ℕ) (old new : Puts) (before after : ℕ) → length rows ≤ at →
    Writes (take at (map row_line rows)) old new before after (Ok tt) → Writes (map row_line rows) old new before after (Ok tt)
rows_put rows at old new before after all put = lines_put (map row_line rows) at old new before after (rw (length-map rows row_line) all) put
