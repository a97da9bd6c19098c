-- A page shows present values, and these are what the inputs made of those before.
use Rattle.std.proofs.Common.{ℕ, List, [], ◌∷◌, ◌≡◌, refl, sym, ap, ◌∙◌, map, nat_lt}
use Rattle.std.specs.Prelude.{Option, Some, None, if◌then◌else◌}
use Rattle.std.specs.List.{AllByRecursion}
use Rattle.rt_model.specs.Lists.{at}
use Rattle.rt_model.specs.Tree.{Types}
use Rattle.rt_model.specs.State.{LastCall, State}
use Rattle.rt_model.specs.Replay.{Input}
use Rattle.rt_model.specs.Told.{Told}
use Rattle.rt_model.specs.Reports.{Report}
use Rattle.rt_model.specs.Headline.{Headline}
use Rattle.rt_model.specs.Document.{Edit}
use Rattle.rt_model.specs.Causes.{Limits}
use Rattle.rt_model.specs.Ran.{Ran}
use Rattle.author_programs.specs.Cells.{Keeping}
use Rattle.author_programs.specs.Pages.{Pages, meaning_of_pages}
use Rattle.author_programs.specs.Present.{value_now, PagesShow}
use Rattle.author_programs.proofs.Author.{reports-show-pages}
use Rattle.law_pages.specs.Updates.{Model, model_of, read_in}
use Rattle.law_pages.proofs.Listening.{at_values}
use Rattle.law_reduce.specs.Reduces.{reduced, AllReduce, EachReduces}
use Rattle.law_reduce.specs.Folds.{folded, last_state, FoldsTo}
use Rattle.law_reduce.specs.Shows.{Stays, ShowsOf, AllShow, EachShows, ShowsFold, ReportsShowReduced, FoldsShow}
use Rattle.law_reduce.proofs.Reports.{reports_reduce}
use Rattle.law_reduce.proofs.Folded.{pages_reduce}

module _ {K : Types} (k : Keeping K.Value) (a : Pages K) where
  -- the session ran, whose headline holds
  abbrev pub ran_of : (props : K.Props) (inputs : List (Input K)) (limits : Limits) (taken : Option (List Edit)) (reports : List Report)
      → Headline (meaning_of_pages k a) props inputs limits taken reports → Ran (meaning_of_pages k a) props inputs limits taken reports
  ran_of props inputs limits taken reports h = record { told = h.told; recorded = (h.holds).recorded; done = h.done }

  -- what is read now is what a model answers
  pub reads_now : (v : State K) (last : LastCall K) (m : Model K) (ns : List ℕ) → AllByRecursion (λ (n : ℕ). at (model_of v) n ≡ at m n) ns
      → map (value_now v last) ns ≡ map (read_in m last.given.given.next.cells) ns
  reads_now v last m [] h = refl
  reads_now v last m (n ∷ ns) h =
      λ i. (if nat_lt n last.given.given.next.cells then (sym (at_values v.cells n) ∙ h.0) i else None) ∷ reads_now v last m ns h.1 i

  -- so of what shows
  shows_of : (v : State K) (asked : ℕ → Type 0) (m : Model K) → ((n : ℕ) → asked n → at (model_of v) n ≡ at m n) → PagesShow k a v → ShowsOf k a v asked m
  shows_of v asked m answers shows s x last c p own there called component kept same fine =
      shows s x last c p own there called component kept same
      ∙ ap (λ (vs : List (Option K.Value)). Some ((a.page c p).shows last.given.given.scope own vs)) (reads_now v last m ((a.page c p).reads own) (all ((a.page c p).reads own) fine))
    where
      all : (ns : List ℕ) → AllByRecursion asked ns → AllByRecursion (λ (n : ℕ). at (model_of v) n ≡ at m n) ns
      all [] h = tt
      all (n ∷ ns) h = (answers n h.0, all ns h.1)

  abbrev AllPagesShow : List (Told K) → Type 0
  AllPagesShow told = AllByRecursion (λ (r : Told K). PagesShow k a (r.machine).state) told

  all_show : (w : State K) (inputs : List (Input K)) (reports : List Report) (told : List (Told K)) → AllReduce a w inputs reports told → AllPagesShow told → AllShow k a w inputs reports told
  all_show w [] [] [] each shows = tt
  all_show w [] [] (t ∷ ts) each shows = absurd each
  all_show w [] (r ∷ rs) told each shows = absurd each
  all_show w (input ∷ inputs) [] told each shows = absurd each
  all_show w (input ∷ inputs) (r ∷ rs) [] each shows = absurd each
  all_show w (input ∷ inputs) (r ∷ rs) (t ∷ ts) each shows =
      let v : State K = (t.machine).state in (
        shows_of v (λ n. Stays w r.log n) (reduced a w input) (λ n h. each.0 n h.row h.there h.stays) shows.0,
        all_show v inputs rs ts each.1 shows.1,
      )

  -- of the last one
  last_shows : (w : State K) (told : List (Told K)) → PagesShow k a w → AllPagesShow told → PagesShow k a (last_state w told)
  last_shows w [] here shows = here
  last_shows w (t ∷ ts) here shows = last_shows (t.machine).state ts shows.0 shows.1

pub reports_show_reduced : (K : Types) → ReportsShowReduced K
reports_show_reduced K k a props inputs limits taken reports h =
    by reports h.told (reports_reduce K k a props inputs limits taken reports (ran_of k a props inputs limits taken reports h)) (reports-show-pages K k a props inputs limits taken reports h)
  where
    by : (rs : List Report) (ts : List (Told K)) → EachReduces a inputs rs ts → AllPagesShow k a ts → EachShows k a inputs rs ts
    by [] ts each shows = absurd each
    by (r ∷ rs) [] each shows = absurd each
    by (r ∷ rs) (t ∷ ts) each shows = all_show k a (t.machine).state inputs rs ts each shows.1

pub folds_show : (K : Types) → FoldsShow K
folds_show K k a props inputs limits taken reports h =
    by reports h.told (pages_reduce K k a props inputs limits taken reports (ran_of k a props inputs limits taken reports h)) (reports-show-pages K k a props inputs limits taken reports h)
  where
    by : (rs : List Report) (ts : List (Told K)) → FoldsTo a inputs rs ts → AllPagesShow k a ts → ShowsFold k a inputs rs ts
    by [] ts each shows = absurd each
    by (r ∷ rs) [] each shows = absurd each
    by (r ∷ rs) (t ∷ ts) each shows = λ keeps.
        let w : State K = (t.machine).state in
        shows_of k a (last_state w ts) (λ n. Unit {0}) (folded a w inputs ts (model_of w)) (λ n h. each keeps n) (last_shows k a w ts shows.0 shows.1)
