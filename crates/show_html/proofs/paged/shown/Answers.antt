-- What the program comes to, by what its parts come to.
use Rattle.std.proofs.Common.{rules, ◌≡◌, ◌∙◌, true, false, Err, refl, sym}
use Rattle.lang_syntax.specs.Mirror.{source_of}
use Rattle.show_html.specs.Paging.{asks_for_page}
use Rattle.show_html.proofs.Pagings.{pages_reading, pages_running}
use Rattle.show_html.proofs.paged.shown.Goals as goal

pub returns-then-not-asks_for_page : goal.returns-then-not-asks_for_page
returns-then-not-asks_for_page g c =
    let other : asks_for_page c.args.words.now ≡ false = sym c.asks_for_page.ensures.asks ∙ c.if-not-asks_for_page.true in
    record {
      unasked = λ is. (refl, refl, refl, refl);
      pages = λ ask. absurd (cc (sym ask ∙ other));
    }

pub returns-in_err-described : goal.returns-in_err-described
returns-in_err-described g c =
    let asked : asks_for_page c.args.words.now ≡ true = sym c.asks_for_page.ensures.asks ∙ c.if-not-asks_for_page.false in
    let stopped : c.from_residual.result ≡ Err c.in_err-described.field-0.0 = search rules in
    record {
      unasked = λ other. absurd (cc (sym asked ∙ other));
      pages = λ ask. rw stopped (pages_reading _ _ _ _ _ _ _ _ c.in_err-described.field-0.0 c.in_err-described.ensures.reads refl);
    }

pub returns : goal.returns
returns g c =
    let asked : asks_for_page c.args.words.now ≡ true = sym c.asks_for_page.ensures.asks ∙ c.if-not-asks_for_page.false in
    record {
      unasked = λ other. absurd (cc (sym asked ∙ other));
      pages = λ ask. pages_running (source_of c.in_ok-described.described) _ _ _ _ _ _ _ _ _ c.in_ok-described.ensures.described c.run.ensures.pages;
    }
