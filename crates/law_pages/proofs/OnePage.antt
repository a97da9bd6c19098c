-- A scope of a page that is current shows its page's function of the present values, whatever else the application has.
use Rattle.std.proofs.Common.{ℕ, List, [], ◌∷◌, ◌≡◌, refl, ap, subst, ◌∙◌}
use Rattle.std.specs.Prelude.{Option, Some, None}
use Rattle.rt_model.specs.Current.{IsCurrent, CurrentAs, BodyIsCurrent, world_again, again}
use Rattle.rt_model.specs.Lists.{at}
use Rattle.rt_model.specs.Program.{Program, body_means}
use Rattle.rt_model.specs.Run.{body_of}
use Rattle.rt_model.specs.State.{Scope, LastCall}
use Rattle.rt_model.specs.Tree.{Types, VComponent, Tree, Element}
use Rattle.author_programs.specs.Cells.{Keeping}
use Rattle.author_programs.specs.Pages.{Page, page_body}
use Rattle.author_programs.specs.Sequence.{go_on}
use Rattle.author_programs.proofs.Present.{found, page-shown}
use Rattle.law_pages.specs.OnePage.{OnePageShows, OneReadShows, one_read}

pub one_page_shows : (K : Types) → OnePageShows K
one_page_shows K app k page c p means w current s x last own there called component kept same =
    let scope : CurrentAs app w x (at w.last_calls s) x.component = found (λ (e : ℕ × Scope K). IsCurrent app w e.0 e.1) w.scopes s x current there in
    let body : BodyIsCurrent app w x (Some last) =
    subst (λ (o : Option (LastCall K)). BodyIsCurrent app w x o) called
    (subst (λ (v : VComponent K). CurrentAs app w x (at w.last_calls s) v) component scope) in
    page-shown k page w x last own kept same (again app w x last)
    (ap (λ (v : VComponent K). body_of app v (world_again w x last)) component ∙ means (world_again w x last))
    body.0
    body.1

-- the first of the values that were read
abbrev first : {V : Type 0} → List (Option V) → Option V
first [] = None
first (v ∷ vs) = v

module _ {K : Types} where
  -- the page that such a body is
  abbrev read_page : ℕ → (ℕ → Option K.Value → Tree K) → Page K
  read_page n shows = record { cells = []; reads = λ own. n ∷ []; shows = λ scope own values. shows scope (first values) }

  is_page : (k : Keeping K.Value) (n : ℕ) (shows : ℕ → Option K.Value → Tree K) → one_read {K = K} n shows ≡ page_body k (read_page n shows)
  unfolding go_on
  is_page k n shows = refl

pub one_read_shows : (K : Types) → OneReadShows K
one_read_shows K app k n shows c p means w current s x last there called component =
    one_page_shows K app k (read_page n shows) c p
    (λ v. means v ∙ ap (λ (body : Program K (Element K)). body_means body v) (is_page k n shows))
    w current s x last [] there called component tt refl
