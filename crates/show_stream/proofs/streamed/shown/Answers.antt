-- The words are one of the two, or others.
use Rattle.std.proofs.Common.{◌≡◌, ◌∙◌, false, true, Some, None, refl, sym, subst}
use Rattle.show_answers.specs.Told.{text_form}
use Rattle.show_objects.specs.Objects.{object_form}
use Rattle.show_stream.proofs.Reading.{form_is, same_form}
use Rattle.show_stream.specs.Statuses.{Comes, form_asked, is_word}
use Rattle.std.specs.Prelude.{codes}
use Rattle.show_stream.proofs.streamed.shown.Goals as goal

pub returns-then-asks_for_text : goal.returns-then-asks_for_text
returns-then-asks_for_text g c =
    let first : is_word c.args.words.now (codes "--stream") ≡ true = sym c.asks_for_text.ensures.asks ∙ c.if-asks_for_text.true in
    let asked : form_asked c.args.words.now ≡ Some text_form = form_is c.args.words.now true (is_word c.args.words.now (codes "--stream-json")) first refl in
    record {
      unasked = λ none. absurd (cc (sym asked ∙ none));
      comes = λ form is.
          subst
          (λ f. Comes f (g.S.Source.left c.args.source.now) (g.O.Out.puts c.args.out.now) (g.O.Out.puts c.in_text.new.out) (g.S.Source.faults c.args.source.now) (g.S.Source.faults c.in_text.new.source)
          (g.O.Out.faults c.args.out.now) (g.O.Out.faults c.in_text.new.out) c.in_text.result)
          (same_form (form_asked c.args.words.now) text_form form asked is) c.in_text.ensures.comes;
    }

pub returns-then-asks_for_objects : goal.returns-then-asks_for_objects
returns-then-asks_for_objects g c =
    let first : is_word c.args.words.now (codes "--stream") ≡ false = sym c.asks_for_text.ensures.asks ∙ c.if-asks_for_text.false in
    let second : is_word c.args.words.now (codes "--stream-json") ≡ true = sym c.asks_for_objects.ensures.asks ∙ c.if-asks_for_objects.true in
    let asked : form_asked c.args.words.now ≡ Some object_form = form_is c.args.words.now false true first second in
    record {
      unasked = λ none. absurd (cc (sym asked ∙ none));
      comes = λ form is.
          subst
          (λ f. Comes f (g.S.Source.left c.args.source.now) (g.O.Out.puts c.args.out.now) (g.O.Out.puts c.in_objects.new.out) (g.S.Source.faults c.args.source.now) (g.S.Source.faults c.in_objects.new.source)
          (g.O.Out.faults c.args.out.now) (g.O.Out.faults c.in_objects.new.out) c.in_objects.result)
          (same_form (form_asked c.args.words.now) object_form form asked is) c.in_objects.ensures.comes;
    }

pub returns : goal.returns
returns g c =
    let first : is_word c.args.words.now (codes "--stream") ≡ false = sym c.asks_for_text.ensures.asks ∙ c.if-asks_for_text.false in
    let second : is_word c.args.words.now (codes "--stream-json") ≡ false = sym c.asks_for_objects.ensures.asks ∙ c.if-asks_for_objects.false in
    let none : form_asked c.args.words.now ≡ None = form_is c.args.words.now false false first second in
    record {
      unasked = λ is. (refl, refl, refl, refl);
      comes = λ form is. absurd (cc (sym none ∙ is));
    }
