-- The names of a source's page and pieces can be spelt, and what shows comes back of its spelling.
use Rattle.std.proofs.Common.{inl, inr, ℕ, Bool, true, false, List, [], ◌∷◌, ◌≡◌, refl}
use Rattle.std.specs.Prelude.{if◌then◌else◌}
use Rattle.rt_html.specs.Spelling.{are_namable}
use Rattle.rt_language.specs.Expressions.{SourceTypes}
use Rattle.rt_language.specs.Meaning.{meaning_of, props_of}
use Rattle.rt_language.proofs.Lawful.{sources_are_lawful}
use Rattle.rt_model.specs.State.{State, is_live}
use Rattle.rt_model.specs.Tree.{Types}
use Rattle.rt_model.specs.View.{nodes_of}
use Rattle.rt_model.proofs.Members.{clash}
use Rattle.lang_lines.specs.Named.{NamedSource}
use Rattle.lang_lines.proofs.NamedStates.{NamedAt}
use Rattle.lang_lines.proofs.NamedAnswers.{sources_answer_named}
use Rattle.lang_lines.proofs.ReadSources.{described_have_names}
use Rattle.rt_served.specs.Serving.{IsUnspelt, is_spelt, are_spelt}
use Rattle.lang_pages.specs.Pages.{IsPut, NamesAreSpelt, NoneIsUnspelt, PutComesBack, SafeIsServable, SpeltComeBack}
use Rattle.lang_pages.proofs.Ascending.{both}
use Rattle.lang_pages.proofs.Rendered.{put_named}
use Rattle.lang_pages.proofs.Shown.{shown_fit, fit_namable, fit_within}

pub spelt_come_back : {K : Types} → SpeltComeBack K
spelt_come_back w scope names deep =
    record { spelt = refl; fit = fit_within ⊥ 1024 (nodes_of w scope) (shown_fit ⊥ w scope (λ n. absurd n)) names deep }

pub names_are_spelt : NamesAreSpelt
names_are_spelt bytes said limits w scope described put =
    let named : NamedSource said = described_have_names bytes said described in
    let state : NamedAt w [] =
    put_named (meaning_of said) (sources_are_lawful said) (sources_answer_named said named) limits (props_of said) w put in
    fit_namable (Unit {0}) (nodes_of w scope) tt (shown_fit (Unit {0}) w scope (λ n. state.scopes))

pub put_comes_back : PutComesBack
put_comes_back bytes said limits w scope described put deep =
    spelt_come_back w scope (names_are_spelt bytes said limits w scope described put) deep

-- the pieces of scopes, where all that shows can be spelt
pieces_spelt : (w : State SourceTypes) (scopes : List ℕ) → ((s : ℕ) → are_namable (nodes_of w s) ≡ true) → are_spelt w scopes ≡ true
pieces_spelt w [] h = refl
pieces_spelt w (s ∷ scopes) h = both (is_spelt w s) (are_spelt w scopes) (by_live (is_live w s)) (pieces_spelt w scopes h)
  where
    by_live : (b : Bool) → (if b then are_namable (nodes_of w s) else true) ≡ true
    by_live true = h s
    by_live false = refl

pub none_is_unspelt : NoneIsUnspelt
none_is_unspelt bytes said limits tasks described unspelt = by unspelt
  where
    by : IsUnspelt (meaning_of said) limits (props_of said) tasks → ⊥
    by (inl page) = clash (names_are_spelt bytes said limits page.0 0 described (inl page.1)) page.2
    by (inr piece) =
        let u = piece.2 in
        let put : IsPut (meaning_of said) limits (props_of said) u.next =
        inr
        (record {
          first = piece.0;
          opened = piece.1;
          done = u.done;
          text = u.text;
          last = u.last;
          answered = u.answered;
          task = u.task;
          turned = u.turned;
          renders = u.renders;
        }) in
        clash (pieces_spelt u.next u.turned (λ s. names_are_spelt bytes said limits u.next s described put)) u.unspelt

pub safe_is_servable : SafeIsServable
safe_is_servable bytes said limits tasks described safe =
    record { safe = safe; spelt = λ unspelt. none_is_unspelt bytes said limits tasks described unspelt }
