-- What stands before the newline is behind the line.
use Rattle.std.proofs.Common.{◌≡◌, ◌+◌, ◌-◌, List, ℕ, ◌++◌, drop, take, sym, ap, ◌∙◌, subst}
use Rattle.show_lines.proofs.Ends.{moves_up, plain_up, within_up}
use Rattle.show_lines.specs.Held.{Held, MovesUp}
use Rattle.show_lines.specs.Lines.{IsLine, line_length}
use Rattle.show_lines.proofs.reader.LineReader.take_up.Goals as goal

pub end_of_line-to-requires : goal.end_of_line-to-requires
end_of_line-to-requires c = rw c.as_slice-chunk.ensures.value c.self.invariant.0

pub invariant_of-self-2 : goal.invariant_of-self-2
invariant_of-self-2 c =
    let i = c.self.inside in
    let to = c.end_of_line-to.result in
    let same : c.as_slice-chunk.result.now ≡ i.chunk.items = c.as_slice-chunk.ensures.value in
    let ends : to ≡ i.at + line_length (drop i.at i.chunk.items) =
    c.end_of_line-to.ensures.ends ∙ ap (λ (bytes : List ℕ). i.at + line_length (drop i.at bytes)) same in
    let line : c.extend_from_slice.new.self.items ≡ i.line.items ++ take (to - i.at) (drop i.at i.chunk.items) =
    c.in_ok-extend_from_slice.ensures.items ∙ ap (λ (bytes : List ℕ). i.line.items ++ take (to - i.at) (drop i.at bytes)) same in (
      within_up i.line.items c.extend_from_slice.new.self.items i.chunk.items i.at to ends c.self.invariant.0,
      subst (λ (l : List ℕ). IsLine l) (sym line) (plain_up i.line.items c.extend_from_slice.new.self.items i.chunk.items i.at to ends c.self.invariant.1),
    )

pub returns : goal.returns
returns c =
    let i = c.self.inside in
    let to = c.end_of_line-to.result in
    let same : c.as_slice-chunk.result.now ≡ i.chunk.items = c.as_slice-chunk.ensures.value in
    let ends : to ≡ i.at + line_length (drop i.at i.chunk.items) =
    c.end_of_line-to.ensures.ends ∙ ap (λ (bytes : List ℕ). i.at + line_length (drop i.at bytes)) same in
    let line : c.extend_from_slice.new.self.items ≡ i.line.items ++ take (to - i.at) (drop i.at i.chunk.items) =
    c.in_ok-extend_from_slice.ensures.items ∙ ap (λ (bytes : List ℕ). i.line.items ++ take (to - i.at) (drop i.at bytes)) same in
    record {
      moves =
          subst (λ (h : Held). MovesUp h (record { line = c.extend_from_slice.new.self.items; rest = drop to i.chunk.items })) c.self.view_is
          (moves_up i.line.items c.extend_from_slice.new.self.items i.chunk.items i.at to ends line);
    }
