-- The byte in front is the one that is taken off.
use Rattle.std.proofs.Common.{arith, rules, ◌≡◌, ◌∙◌, ◌+◌, ◌<◌, ◌≤◌, [], drop, get_or, length, refl, subst, true}
use Rattle.std.proofs.lemmas.List.{drop_all, drop_more}
use Rattle.show_lines.specs.Held.{Held, SkipsNewline}
use Rattle.show_lines.proofs.reader.LineReader.skip_newline.Goals as goal

pub returns-then-self-len : goal.returns-then-self-len
returns-then-self-len c =
    let i = c.self.inside in
    let size : c.len.result ≡ length i.chunk.items = c.len.ensures ∙ search rules in
    let end : length i.chunk.items ≤ i.at = omega arith in
    record { skips = (refl, subst (λ (h : Held). h.rest ≡ []) c.self.view_is (drop_all i.at i.chunk.items end)) }

pub returns : goal.returns
returns c =
    let i = c.self.inside in
    let size : c.len.result ≡ length i.chunk.items = c.len.ensures ∙ search rules in
    let short : i.at ≤ length i.chunk.items = c.self.invariant.0 in
    let within : i.at < length i.chunk.items = omega arith in
    record {
      skips =
          subst (λ (h : Held). SkipsNewline true h (record { line = i.line.items; rest = drop (i.at + 1) i.chunk.items })) c.self.view_is
          (refl, (get_or i.chunk.items i.at 0, drop_more i.chunk.items i.at 0 within));
    }
