-- What comes of a page's scope along the log of a report: it was run, or its last call and what it read stay.
use Rattle.std.proofs.Common.{ℕ, Bool, true, false, ◌||◌, ◌⊎◌, List, [], ◌∷◌, ◌++◌, ◌≡◌, inl, inr, sym, ap, ◌∙◌}
use Rattle.std.specs.Prelude.{Option, Some, None, length, is_some}
use Rattle.rt_model.specs.Lists.{at}
use Rattle.rt_model.specs.Tree.{Types, VComponent, Own}
use Rattle.rt_model.specs.World.{Source, Cell, Application}
use Rattle.rt_model.specs.State.{Scope, LastCall, State, CellRow, is_live}
use Rattle.rt_model.specs.Laws.{IsLawful}
use Rattle.rt_model.specs.Replay.{Entry, Input, Machine}
use Rattle.rt_model.specs.Causes.{Limits}
use Rattle.rt_model.specs.Told.{count_entries}
use Rattle.rt_model.specs.Reports.{is_opening}
use Rattle.law_moves.specs.Moves.{Move, entries, Leads}
use Rattle.law_moves.specs.Reached.{Reached}
use Rattle.law_moves.specs.Sorts.{FedFit}
use Rattle.law_behavior.specs.Along.{NoneRemoves}
use Rattle.law_behavior.specs.Owed.{runs_in}
use Rattle.author_programs.specs.Cells.{Keeping}
use Rattle.author_programs.specs.Pages.{Pages, meaning_of_pages}
use Rattle.law_lasting.specs.ComponentsLast.{component_of, ComponentsLast}
use Rattle.law_reduce.specs.Runs.{some_runs}
use Rattle.law_reduce.specs.Reads.{NoneRuns}
use Rattle.law_reduce.proofs.Calling.{Page_is}
use Rattle.law_reduce.proofs.Runs.{here_last, unrun_last, run_is_given}
use Rattle.law_reduce.proofs.Hooked.{cells_are_kept}
use Rattle.author_programs.specs.Shows.{KeepAll}
use Rattle.rt_model.specs.Commands.{names_source}
use Rattle.rt_model.proofs.Maps.{by_test}

-- what no entry of a log removes, none of its end does
pub later_stays : (o : ℕ) (xs ys : List Entry) → NoneRemoves o (xs ++ ys) → NoneRemoves o ys
later_stays o [] ys h = h
later_stays o (x ∷ xs) ys h = later_stays o xs ys h.1

-- what none runs
pub later_unrun : (s : ℕ) (xs ys : List Entry) → NoneRuns s (xs ++ ys) → NoneRuns s ys
later_unrun s [] ys h = h
later_unrun s (x ∷ xs) ys h = later_unrun s xs ys h.1

-- where not some entry runs it none does
pub none_runs : (s : ℕ) (log : List Entry) → some_runs s log ≡ false → NoneRuns s log
none_runs s [] h = tt
none_runs s (e ∷ log) h =
    by_test (runs_in s e)
    (λ q. let absurdity : true ≡ false = ap (λ (b : Bool). b || some_runs s log) (sym q) ∙ h in cc)
    (λ q. (q, none_runs s log (ap (λ (b : Bool). b || some_runs s log) (sym q) ∙ h)))

module _ {K : Types} (k : Keeping K.Value) (a : Pages K) where
  abbrev app : Application K
  app = meaning_of_pages k a

  -- what comes of a page's scope: it was run, and its last call was given hooks that keep its cells, or its last call is the one before,
  -- with the same props, and its own cells that it reads are as they were
  pub record PageAfter (w v : State K) (s : ℕ) (x : Scope K) (c : K.Component) (own : List ℕ) : Type 0 where
    pub row : Scope K
    pub there : at v.scopes s ≡ Some row
    pub props : K.Props
    pub page : row.component ≡ Own c props
    pub keeps : KeepAll k row.hooks 0 own
    pub calls : (last : LastCall K) → at v.last_calls s ≡ Some last
        → KeepAll k last.given.given.hooks 0 own
        ⊎ ((at w.last_calls s ≡ Some last) × (row.reads ≡ x.reads) × (row.component ≡ x.component)
        × ((n : ℕ) (r : CellRow K) → names_source x.reads (Cell n) ≡ true → at w.cells n ≡ Some r → r.owner ≡ s → at v.cells n ≡ Some r))

  -- of each one that its log doesn't remove, where how many cells its page has doesn't depend on its props
  abbrev pub PagesGoOn : State K → List Entry → State K → Type 0
  PagesGoOn w log v =
      (s : ℕ) (x : Scope K) (c : K.Component) (p : K.Props) (own : List ℕ)
      → ((q : K.Props) → length (a.page c q).cells ≡ length own)
      → at w.scopes s ≡ Some x
      → x.component ≡ Own c p
      → KeepAll k x.hooks 0 own
      → NoneRemoves s log
      → PageAfter w v s x c own

  -- what is known of the application's moves
  pub record Knows : Type 0 where
    pub lawful : IsLawful K app
    pub fed : FedFit app
    pub lasts : ComponentsLast app

  -- along the moves from there
  pub page_after : Knows → (w : State K) (b v : Machine K) (limits : Limits) (props : K.Props) (inputs : List (Input K)) (moves : List Move) → Reached app limits props inputs b → Leads app limits b moves v → v.dead ≡ None
      → count_entries is_opening (entries moves) ≡ 0
      → b.state.last_calls ≡ w.last_calls
      → (s : ℕ) (x : Scope K) (c : K.Component) (p : K.Props) (own : List ℕ) → ((q : K.Props) → length (a.page c q).cells ≡ length own)
      → at b.state.scopes s ≡ Some x
      → x.component ≡ Own c p
      → KeepAll k x.hooks 0 own
      → NoneRemoves s (entries moves)
      → (is_live v.state s ≡ true → NoneRuns s (entries moves) → (n : ℕ) (r : CellRow K) → names_source x.reads (Cell n) ≡ true → at w.cells n ≡ Some r → r.owner ≡ s → at v.state.cells n ≡ Some r)
      → PageAfter w v.state s x c own
  page_after known w b v limits props inputs moves reached leads alive none calls s x c p own same there page keeps stays cells =
      let begins : Page_is k a s own c b.state = record { row = x; there = there; holds = (keeps, p, page) } in
      let ends : Page_is k a s own c v.state = here_last k a known.lawful s own c same known.fed known.lasts limits props inputs b v moves leads reached alive none stays begins in
      let live : is_live v.state s ≡ true = ap (λ (o : Option (Scope K)). is_some o) ends.there in
      let kept = cells_are_kept app k limits b v moves s x own leads stays there keeps in
      by_test (some_runs s (entries moves))
      (
      λ q.
      record {
        row = ends.row;
        there = ends.there;
        props = (ends.holds).1;
        page = (ends.holds).2;
        keeps = (ends.holds).0;
        calls =
            λ last e.
            inl
            (run_is_given k a known.lawful s own c same known.fed known.lasts limits props inputs b v moves leads reached alive none stays q begins last e);
      }
      )
      (
      λ q.
      let unrun : NoneRuns s (entries moves) = none_runs s (entries moves) q in
      let before : component_of b.state s ≡ Some (Own c p) =
      ap (λ (z : Option (Scope K)). elim z as (λ y. Option (VComponent K)) [ None ↦ None | Some y ↦ Some y.component ]) there ∙ ap (λ (d : VComponent K). Some d) page in
      let after : component_of v.state s ≡ Some (Own c p) =
      unrun_last k a known.lawful s own c same known.fed known.lasts limits props inputs p b v moves leads reached alive none stays unrun begins before in
      let found : Some (ends.row).component ≡ Some (Own c p) =
      sym (ap (λ (z : Option (Scope K)). elim z as (λ y. Option (VComponent K)) [ None ↦ None | Some y ↦ Some y.component ]) ends.there) ∙ after in
      let still : (ends.row).component ≡ Own c p = cc in
      record {
        row = ends.row;
        there = ends.there;
        props = (ends.holds).1;
        page = (ends.holds).2;
        keeps = (ends.holds).0;
        calls =
            λ last e.
            elim (kept.1 last e) [
              | inl o ↦
                  inr (
                    ap (λ (es : List (ℕ × LastCall K)). at es s) (sym calls) ∙ o.0,
                    sym (ap (λ (z : Option (Scope K)). elim z as (λ y. List Source) [ None ↦ [] | Some y ↦ y.reads ]) ends.there) ∙ o.1,
                    still ∙ sym page,
                    cells live unrun,
                  )
              | inr g ↦ inl g
            ];
      }
      )
