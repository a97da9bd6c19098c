-- The cells of one scope, whose values listeners read alone: report by report they are those of the fold, and the scope shows them.
use Rattle.std.proofs.Common.{ℕ, ◌<◌, Bool, true, List, [], ◌∷◌, ◌≡◌, refl, sym, ap, ◌∙◌, subst, map}
use Rattle.std.specs.Prelude.{Option, Some, None, if◌then◌else◌, is_some}
use Rattle.std.specs.List.{AllByRecursion}
use Rattle.rt_lemmas.proofs.Numbers.{low_test as tests_low}
use Rattle.rt_model.specs.Lists.{at, has}
use Rattle.rt_model.specs.Tree.{Types}
use Rattle.rt_model.specs.World.{Application}
use Rattle.rt_model.specs.Laws.{IsLawful}
use Rattle.rt_model.specs.State.{CellRow, State}
use Rattle.rt_model.specs.Replay.{Entry, Input, Machine, start}
use Rattle.rt_model.specs.Current.{AllCurrent}
use Rattle.rt_model.specs.Told.{Told}
use Rattle.rt_model.specs.Reports.{Report}
use Rattle.law_behavior.specs.Along.{NoneRemoves}
use Rattle.law_moves.specs.Sorts.{FedFit}
use Rattle.law_moves.proofs.Limited.{some_limits}
use Rattle.law_moves.proofs.Logs.{logs_are_moves}
use Rattle.law_minding.specs.Numbering.{CellsAreDrawn}
use Rattle.law_behavior.specs.Owed.{MarksAreRun}
use Rattle.law_lasting.specs.ComponentsLast.{ComponentsLast}
use Rattle.author_programs.specs.Cells.{Keeping}
use Rattle.author_programs.specs.Pages.{Pages, meaning_of_pages}
use Rattle.law_pages.specs.Updates.{Model, model_of, read_in}
use Rattle.law_reduce.specs.Reduces.{reduce, reduced, Reduces, AllReduce, EachReduces}
use Rattle.law_reduce.specs.Folds.{folded, last_state}
use Rattle.law_reduce.specs.Values.{own_of, ShowsNow}
use Rattle.law_reduce.specs.Elm.{Owned, OwnersStay, NeverRemoved, AllRead, OwnFolds, OwnCellsFold, OwnShows, OwnPagesShow}
use Rattle.law_reduce.proofs.Led.{LedTo}
use Rattle.law_reduce.proofs.Among.{AlikeOn, reads_among, reduce_among}
use Rattle.law_reduce.proofs.Reports.{AllOwn, EachOwns, each_owns, EachGoesOn, each_goes_on, BuiltBy, each_built, reports_reduce}
use Rattle.law_reduce.proofs.Shown.{ran_of}
use Rattle.law_reduce.proofs.Values.{shows_end}

module _ {K : Types} (a : Pages K) (own : List ℕ) (s : ℕ) where
  -- the scope owns these cells
  abbrev OwnsAll : State K → Type 0
  OwnsAll w = (n : ℕ) → has own n ≡ true → Owned w n s

  of_scope : (log : List Entry) (owner : ℕ) → owner ≡ s → NoneRemoves s log → NoneRemoves owner log
  of_scope log owner is stays = subst (λ (i : ℕ). NoneRemoves i log) (sym is) stays

  -- after one report
  owns_on : (w v : State K) (log : List Entry) → OwnersStay w log v → NoneRemoves s log → OwnsAll w → OwnsAll v
  owns_on w v log stay stays h = λ n q.
      let o : Owned w n s = h n q in
      let now : Owned v n (o.row).owner = stay n o.row o.there (of_scope log (o.row).owner o.owner_is stays) in
      record { row = now.row; there = now.there; owner_is = now.owner_is ∙ o.owner_is }

  reduced_on : (w v : State K) (input : Input K) (log : List Entry) → Reduces a w input log v → NoneRemoves s log → OwnsAll w → AlikeOn own (model_of v) (reduced a w input)
  reduced_on w v input log reduces stays h = λ n q.
      let o : Owned w n s = h n q in
      reduces n o.row o.there (of_scope log (o.row).owner o.owner_is stays)

  -- after all of them
  pub own_fold : (w : State K) (inputs : List (Input K)) (reports : List Report) (told : List (Told K)) (m : Model K)
      → AlikeOn own (model_of w) m
      → OwnsAll w
      → AllRead a own w inputs told
      → AllReduce a w inputs reports told
      → AllOwn w reports told
      → NeverRemoved s reports
      → AlikeOn own (model_of (last_state w told)) (folded a w inputs told m)
  own_fold w [] [] [] m alike h reads each owns stays = alike
  own_fold w [] [] (t ∷ ts) m alike h reads each owns stays = absurd each
  own_fold w [] (r ∷ rs) told m alike h reads each owns stays = absurd each
  own_fold w (input ∷ inputs) [] told m alike h reads each owns stays = absurd each
  own_fold w (input ∷ inputs) (r ∷ rs) [] m alike h reads each owns stays = absurd each
  own_fold w (input ∷ inputs) (r ∷ rs) (t ∷ ts) m alike h reads each owns stays =
      let v : State K = (t.machine).state in
      let one : AlikeOn own (model_of v) (reduced a w input) = reduced_on w v input r.log each.0 stays.0 h in
      let then_on : AlikeOn own (reduced a w input) (reduce a w input m) = reduce_among a own w input reads.0 (model_of w) m alike in
      own_fold v inputs rs ts (reduce a w input m) (λ n q. one n q ∙ then_on n q) (owns_on w v r.log owns.0 stays.0 h) reads.1 each.1 owns.1 stays.1

module _ {K : Types} (a : Pages K) where
  pub folds_of : (inputs : List (Input K)) (reports : List Report) (told : List (Told K)) → EachReduces a inputs reports told → EachOwns reports told → OwnFolds a inputs reports told
  folds_of inputs [] told each owns = absurd each
  folds_of inputs (r ∷ rs) [] each owns = absurd each
  folds_of inputs (r ∷ rs) (t ∷ ts) each owns = λ s own reads owned stays.
      let w : State K = (t.machine).state in
      own_fold a own s w inputs rs ts (model_of w) (λ n q. refl) owned reads each owns stays

pub own_cells_fold : (K : Types) → OwnCellsFold K
own_cells_fold K k a props inputs limits taken reports ran =
    folds_of a inputs reports ran.told (reports_reduce K k a props inputs limits taken reports ran)
    (each_owns k a props inputs reports ran.told (ran.done).one_each (ran.recorded).accepted (ran.recorded).settled)

module _ {V : Type 0} where
  -- of a number that was drawn a model is read
  read_low : (m : List (ℕ × V)) (drawn n : ℕ) → n < drawn → read_in m drawn n ≡ at m n
  read_low m drawn n low = ap (λ (b : Bool). if b then at m n else None) (tests_low n drawn low)

  reads_all : (m : List (ℕ × V)) (own : List ℕ) (drawn : ℕ) → ((n : ℕ) → has own n ≡ true → n < drawn) → (ns : List ℕ) → AllByRecursion (λ (n : ℕ). has own n ≡ true) ns
      → map (read_in m drawn) ns ≡ map (λ (n : ℕ). at m n) ns
  reads_all m own drawn low [] h = refl
  reads_all m own drawn low (n ∷ ns) h = λ i. read_low m drawn n (low n h.0) i ∷ reads_all m own drawn low ns h.1 i

-- the cells of a machine to which a log leads from the start of a session
pub drawn_there : {K : Types} (app : Application K) → CellsAreDrawn app → IsLawful K app → (props : K.Props) (inputs : List (Input K)) (m : Machine K) → LedTo app props inputs m
    → (n : ℕ) → is_some (at m.state.cells n) ≡ true → n < m.state.next.cells
drawn_there {K = K} app drawn lawful props inputs m led n there =
    let first : Machine K = start app props inputs in
    let found = some_limits app led.done first m led.goes in
    let moved = logs_are_moves app found.0 first m led.done refl found.1 in
    drawn lawful found.0 props inputs m moved.0 n moved.1 there

pub own_pages_show : (K : Types) → ((k : Keeping K.Value) (a : Pages K) → MarksAreRun (meaning_of_pages k a)) → ((k : Keeping K.Value) (a : Pages K) → FedFit (meaning_of_pages k a)) → ((k : Keeping K.Value) (a : Pages K) → ComponentsLast (meaning_of_pages k a))
    → ((k : Keeping K.Value) (a : Pages K) → CellsAreDrawn (meaning_of_pages k a))
    → OwnPagesShow K
own_pages_show K marks fed lasts drawn k a back lawful props inputs limits taken reports h =
    by reports h.told
    (own_cells_fold K k a props inputs limits taken reports (ran_of k a props inputs limits taken reports h))
    (each_goes_on k a (marks k a) (record { lawful = lawful; fed = fed k a; lasts = lasts k a }) props inputs reports h.told (h.done).one_each ((h.holds).recorded).accepted ((h.holds).recorded).settled)
    (h.holds).current
    (each_built k a props inputs reports h.told ((h.holds).recorded).accepted)
  where
    by : (rs : List Report) (ts : List (Told K)) → OwnFolds a inputs rs ts → EachGoesOn k a rs ts
        → AllByRecursion (λ (r : Told K). AllCurrent (meaning_of_pages k a) (r.machine).state) ts
        → BuiltBy k a props inputs ts
        → OwnShows k a inputs rs ts
    by [] ts folds go current built = absurd go
    by (r ∷ rs) [] folds go current built = absurd go
    by (r ∷ rs) (t ∷ ts) folds go current built = λ s c p run reads among many owned stays.
        let w : State K = (t.machine).state in
        let own : List ℕ = own_of k a s c p run.first in
        let v : State K = last_state w ts in
        let now : ShowsNow k a s c p w own v = shows_end k a back s c p w run many rs ts go current.0 current.1 stays in
        let m : Model K = folded a w inputs ts (model_of w) in
        let below : (n : ℕ) → has own n ≡ true → n < now.drawn =
        λ n q.
        let there : is_some (at w.cells n) ≡ true = ap (λ (o : Option (CellRow K)). is_some o) (owned n q).there in
        now.below n q (drawn_there (meaning_of_pages k a) (drawn k a) lawful props inputs t.machine built n there) in
        record {
          row = now.row;
          there = now.there;
          props = now.props;
          page = now.page;
          last = now.last;
          call = now.call;
          output =
              now.output
              ∙ ap (λ (vs : List (Option K.Value)). Some ((a.page c now.props).shows (now.last).given.given.scope own vs))
              (
              reads_among own (model_of v) m now.drawn ((a.page c now.props).reads own) (among now.props) (folds s own reads owned stays)
              ∙ reads_all m own now.drawn below ((a.page c now.props).reads own) (among now.props)
              );
        }
