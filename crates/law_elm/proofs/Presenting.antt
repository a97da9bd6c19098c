-- So the root of an Elm program shows its page's function of the fold.
use Rattle.std.proofs.Common.{ℕ, suc, ◌+◌, ◌<◌, Bool, true, List, [], ◌∷◌, ◌≡◌, refl, ap, ◌∙◌, map}
use Rattle.std.specs.Prelude.{Option, Some, None, if◌then◌else◌, is_some, length}
use Rattle.std.specs.List.{AllByRecursion}
use Rattle.rt_lemmas.proofs.Numbers.{low_test as tests_low}
use Rattle.rt_model.specs.Lists.{at, has}
use Rattle.rt_model.specs.Tree.{Types}
use Rattle.rt_model.specs.State.{CellRow, State}
use Rattle.rt_model.specs.Current.{AllCurrent}
use Rattle.rt_model.specs.Told.{Told}
use Rattle.rt_model.specs.Reports.{Report}
use Rattle.law_moves.specs.Sorts.{ChildrenFitSlots, FedFit}
use Rattle.law_minding.specs.Numbering.{CellsAreDrawn}
use Rattle.law_behavior.specs.Owed.{MarksAreRun}
use Rattle.law_lasting.specs.ComponentsLast.{ComponentsLast}
use Rattle.author_programs.specs.Cells.{Keeping}
use Rattle.author_programs.specs.First.{numbers_from}
use Rattle.author_programs.specs.Pages.{Pages, meaning_of_pages}
use Rattle.law_pages.specs.Updates.{Model, model_of, read_in}
use Rattle.law_reduce.specs.Elm.{NeverRemoved}
use Rattle.law_reduce.specs.Folds.{folded, last_state}
use Rattle.law_reduce.specs.RootStays.{RootStays}
use Rattle.law_reduce.specs.Values.{own_of, ShowsNow}
use Rattle.law_reduce.proofs.Reports.{EachGoesOn, each_goes_on, BuiltBy, each_built}
use Rattle.law_reduce.proofs.Values.{shows_end}
use Rattle.law_reduce.proofs.Elm.{drawn_there as were_drawn}
use Rattle.law_elm.specs.Roots.{RootGoesOn}
use Rattle.law_elm.specs.Programs.{ProgramFolds, ElmProgramsFold, ProgramShows, ElmProgramsShow}
use Rattle.law_elm.proofs.Asking.{root_rules}
use Rattle.law_elm.proofs.Ending.{from_build}

module _ {V : Type 0} where
  -- as many numbers as values
  numbers_many : (n : ℕ) (vs : List V) → length vs ≡ length (numbers_from n vs)
  numbers_many n [] = refl
  numbers_many n (v ∷ vs) = ap (λ (m : ℕ). suc m) (numbers_many (n + 1) vs)

  -- what is read of numbers that were drawn is what the other model has
  reads_fold : (m f : List (ℕ × V)) (own : List ℕ) (drawn : ℕ) → ((n : ℕ) → has own n ≡ true → n < drawn) → ((n : ℕ) → at m n ≡ at f n) → (ns : List ℕ)
      → AllByRecursion (λ (n : ℕ). has own n ≡ true) ns
      → map (read_in m drawn) ns ≡ map (λ (n : ℕ). at f n) ns
  reads_fold m f own drawn low same [] h = refl
  reads_fold m f own drawn low same (n ∷ ns) h =
      λ i.
      (ap (λ (b : Bool). if b then at m n else None) (tests_low n drawn (low n h.0)) ∙ same n) i
      ∷ reads_fold m f own drawn low same ns h.1 i

pub elm_programs_show : (K : Types) → ((k : Keeping K.Value) (a : Pages K) → MarksAreRun (meaning_of_pages k a)) → ((k : Keeping K.Value) (a : Pages K) → FedFit (meaning_of_pages k a)) → ((k : Keeping K.Value) (a : Pages K) → ComponentsLast (meaning_of_pages k a))
    → ((k : Keeping K.Value) (a : Pages K) → CellsAreDrawn (meaning_of_pages k a))
    → ((k : Keeping K.Value) (a : Pages K) → ChildrenFitSlots (meaning_of_pages k a)) → ((k : Keeping K.Value) (a : Pages K) → RootStays (meaning_of_pages k a))
    → ElmProgramsFold K
    → ElmProgramsShow K
elm_programs_show K marks fed lasts drawn fits root_lasts folds k a back elm lawful props inputs limits taken reports h =
    by reports h.told
    (folds k a elm lawful props inputs limits taken reports h)
    (from_build k a props (root_rules k a elm props) (λ n. tt) lawful (fits k a) (root_lasts k a) inputs reports h.told (h.done).one_each ((h.holds).recorded).accepted ((h.holds).recorded).settled (h.holds).current)
    (each_goes_on k a (marks k a) (record { lawful = lawful; fed = fed k a; lasts = lasts k a }) props inputs reports h.told (h.done).one_each ((h.holds).recorded).accepted ((h.holds).recorded).settled)
    (h.holds).current
    (each_built k a props inputs reports h.told ((h.holds).recorded).accepted)
  where
    by : (rs : List Report) (ts : List (Told K)) → ProgramFolds k a props inputs rs ts → RootGoesOn a.root props rs ts → EachGoesOn k a rs ts
        → AllByRecursion (λ (r : Told K). AllCurrent (meaning_of_pages k a) (r.machine).state) ts
        → BuiltBy k a props inputs ts
        → ProgramShows k a props inputs rs ts
    by [] ts fold root go current built = absurd go
    by (r ∷ rs) [] fold root go current built = absurd go
    by (r ∷ rs) (t ∷ ts) fold roots go current built = λ root p stands run among owned.
        let w : State K = (t.machine).state in
        let own : List ℕ = own_of k a root a.root p run.first in
        let v : State K = last_state w ts in
        let stays : NeverRemoved root rs = (roots.1 root stands).0 in
        let now : ShowsNow k a root a.root p w own v = shows_end k a back root a.root p w run (λ q. elm.many p q) rs ts go current.0 current.1 stays in
        let m : Model K = folded a w inputs ts (model_of w) in
        let many : length (a.page a.root p).cells ≡ length own = numbers_many run.first.given.given.next.cells (a.page a.root p).cells in
        let whole = fold root stands (record { row = run.row; there = run.there; own = own; keeps = run.keeps; props = p; many = many }) in
        let below : (n : ℕ) → has own n ≡ true → n < now.drawn =
        λ n q.
        let there : is_some (at w.cells n) ≡ true = ap (λ (o : Option (CellRow K)). is_some o) (owned n q).there in
        now.below n q (were_drawn (meaning_of_pages k a) (drawn k a) lawful props inputs t.machine built n there) in
        record {
          row = now.row;
          there = now.there;
          props = now.props;
          page = now.page;
          last = now.last;
          call = now.call;
          output =
              now.output
              ∙ ap (λ (vs : List (Option K.Value)). Some ((a.page a.root now.props).shows (now.last).given.given.scope own vs))
              (reads_fold (model_of v) m own now.drawn below whole.2 ((a.page a.root now.props).reads own) (among now.props));
        }
