-- Report by report of an Elm program: all cells are the root's, none comes, and its scope stays, so they are those of the fold.
use Rattle.std.proofs.Common.{ℕ, ◌<◌, true, false, List, [], ◌∷◌, ◌≡◌, refl, sym, ap, ◌∙◌, subst, nat_eq, arith}
use Rattle.std.specs.Prelude.{Option, Some, None, length, is_some}
use Rattle.std.specs.List.{AllByRecursion}
use Rattle.rt_model.specs.Lists.{at}
use Rattle.rt_model.specs.Tree.{Types}
use Rattle.rt_model.specs.World.{Hook, Application}
use Rattle.rt_model.specs.Laws.{IsLawful}
use Rattle.rt_model.specs.State.{CellRow, Scope, State}
use Rattle.rt_model.specs.Current.{AllCurrent}
use Rattle.rt_model.specs.Replay.{Input, Machine, replay_on, start}
use Rattle.rt_model.specs.Told.{Told, telling, told_by, tell_reports}
use Rattle.rt_model.specs.Reports.{Report, logs_of, OneEach}
use Rattle.rt_model.proofs.Maps.{by_test, eq_same, pick_true, pick_false}
use Rattle.rt_model.proofs.ToldReplayed.{first-of, log-replays}
use Rattle.law_moves.specs.Moves.{IsSettled}
use Rattle.law_moves.specs.Sorts.{ChildrenFitSlots}
use Rattle.law_moves.proofs.Always.{moves_last}
use Rattle.law_moves.proofs.Limited.{some_limits}
use Rattle.law_moves.proofs.Twigs.{found_live}
use Rattle.law_headline.proofs.Begins.{sound, built_on}
use Rattle.law_headline.proofs.Reports.{settled_after}
use Rattle.law_behavior.specs.Along.{NoneRemoves}
use Rattle.author_programs.specs.Cells.{Keeping}
use Rattle.author_programs.specs.Pages.{Pages, meaning_of_pages}
use Rattle.author_programs.specs.Shows.{KeepAll}
use Rattle.law_reduce.specs.Elm.{NeverRemoved}
use Rattle.law_reduce.specs.Folds.{KeepsCells, AllKeepCells, FoldsTo}
use Rattle.law_reduce.specs.RootStays.{RootStays}
use Rattle.law_reduce.proofs.Folded.{pages_reduce}
use Rattle.law_reduce.proofs.Led.{LedTo, led_start, led_on, Way, way_on}
use Rattle.law_reduce.proofs.OneReport.{settled_alive, settled_idle}
use Rattle.law_reduce.proofs.Owners.{owners_in, owners_of}
use Rattle.law_reduce.proofs.Reports.{AllSettled, none_told}
use Rattle.law_reduce.proofs.Shown.{ran_of}
use Rattle.law_elm.specs.Safe.{IsElm}
use Rattle.law_elm.specs.Roots.{RootStands, RootGoesOn}
use Rattle.law_elm.specs.Programs.{AllOwned, ProgramFolds, ElmProgramsFold}
use Rattle.law_elm.proofs.Tiers.{Tier, RootTier}
use Rattle.law_elm.proofs.Asking.{root_rules, kept_rules, OldCell}
use Rattle.law_elm.proofs.Well.{OwnAll}
use Rattle.law_elm.proofs.Standing.{Good}
use Rattle.law_elm.proofs.Following.{AllSafe, safe_lasts}
use Rattle.law_elm.proofs.Sessions.{Safe, start_safe, logs_safe}
use Rattle.law_elm.proofs.Ending.{led_reached, not_yet, from_build}
use Rattle.law_elm.proofs.Unique.{own_found, all_owned}

module _ {K : Types} where
  -- a cell that is there is found
  found_all : (es fs : List (ℕ × CellRow K)) → ((n : ℕ) → is_some (at es n) ≡ true → is_some (at fs n) ≡ true) → AllByRecursion (λ (e : ℕ × ℕ). is_some (at fs e.0) ≡ true) (owners_in es)
  found_all [] fs goes = tt
  found_all (e ∷ es) fs goes = (
    goes e.0 (ap (λ (o : Option (CellRow K)). is_some o) (pick_true (Some e.1) (at es e.0) (eq_same e.0))),
    found_all es fs
        (
        λ n h.
        goes n
        (
        by_test (nat_eq e.0 n)
        (λ q. ap (λ (o : Option (CellRow K)). is_some o) (pick_true (Some e.1) (at es n) q))
        (λ q. ap (λ (o : Option (CellRow K)). is_some o) (pick_false (Some e.1) (at es n) q) ∙ h)
        )
        ),
  )

module _ {K : Types} (k : Keeping K.Value) (a : Pages K) (elm : IsElm a) (props : K.Props) (root : ℕ) (own : List ℕ) (many : (q : K.Props) → length (a.page a.root q).cells ≡ length own) where
  -- the cells of a state, whose owners are as they have to be
  old_cells : (tiers : ℕ → Tier) (bound : ℕ) (w : State K) (old : ℕ → Type 0) (os : List (ℕ × ℕ)) → AllByRecursion (λ (e : ℕ × ℕ). old e.0) os
      → OwnAll (λ n x. Good k a props (root_rules k a elm props) tiers bound n x) (λ n o. tiers o ≡ RootTier) bound w os
      → OwnAll (λ n x. Good k a props (kept_rules k a elm props root own many old) tiers bound n x) (λ n o. OldCell k a elm props root own many old (tiers o) n o) bound w os
  old_cells tiers bound w old [] g h = tt
  old_cells tiers bound w old (e ∷ os) g h = ((((h.0).0, λ same. g.0), (h.0).1), old_cells tiers bound w old os g.1 h.1)

  -- where the root's scope has its cells it keeps them from there on
  keeping : (m : Machine K) (row : Scope K) → at m.state.scopes root ≡ Some row → KeepAll k row.hooks 0 own → m.work ≡ [] → Safe k a props (root_rules k a elm props) m
      → Safe k a props (kept_rules k a elm props root own many (λ n. is_some (at m.state.cells n) ≡ true)) m
  keeping m row there keeps idle safe =
      let old : ℕ → Type 0 = λ n. is_some (at m.state.cells n) ≡ true in
      let s = safe.holds in
      record {
        holds =
            record {
              tiers = s.tiers;
              bound = s.bound;
              well =
                  record {
                    rows =
                        λ n x here.
                        let g = s.well.rows n x here in (
                          record {
                            error = g.0.error;
                            is = g.0.is;
                            low = g.0.low;
                            main = g.0.main;
                            held = g.0.held;
                            fallback = g.0.fallback;
                            hooks =
                                λ same.
                                let both : Some row ≡ Some x = sym there ∙ ap (λ (i : ℕ). at m.state.scopes i) (sym same) ∙ here in
                                subst (λ (o : Option (Scope K)). KeepAll k (elim o as (λ z. List (Hook K)) [ None ↦ [] | Some y ↦ y.hooks ]) 0 own) both keeps;
                          },
                          g.1,
                        );
                    cells = old_cells s.tiers s.bound m.state old (owners_of m.state) (found_all m.state.cells m.state.cells (λ n q. q)) s.well.cells;
                    drawn = s.well.drawn;
                  };
              works = s.works;
              fresh =
                  λ n high same.
                  let low : root < s.bound = (s.well.rows root row there).0.low in
                  absurd (omega (arith, low, high, same));
            };
        idle = safe.idle;
      }

module _
    {K : Types} (k : Keeping K.Value) (a : Pages K) (elm : IsElm a) (props : K.Props) (lawful : IsLawful K (meaning_of_pages k a)) (fits : ChildrenFitSlots (meaning_of_pages k a))
    (root_lasts : RootStays (meaning_of_pages k a)) (inputs : List (Input K)) (root : ℕ) (own : List ℕ) (many : (q : K.Props) → length (a.page a.root q).cells ≡ length own)
  where
    abbrev app : Application K
    app = meaning_of_pages k a

    abbrev SafeRoots : Machine K → Type 0
    SafeRoots m = Safe k a props (root_rules k a elm props) m

    abbrev Stands : State K → Type 0
    Stands w = RootStands a.root props w root

    -- the root's scope has its cells
    pub record Keeps (w : State K) : Type 0 where
      pub row : Scope K
      pub there : at w.scopes root ≡ Some row
      pub keeps : KeepAll k row.hooks 0 own

    -- what none of these cells is there is none there
    comes : (w v : State K) (n : ℕ) → ((row : CellRow K) → at v.cells n ≡ Some row → is_some (at w.cells n) ≡ true) → at w.cells n ≡ None → at v.cells n ≡ None
    comes w v n old none = on (at v.cells n) refl
      where
        on : (o : Option (CellRow K)) → at v.cells n ≡ o → at v.cells n ≡ None
        on None e = e
        on (Some row) e = let absurdity : true ≡ false = sym (old row e) ∙ ap (λ (o : Option (CellRow K)). is_some o) none in cc

    pub keeps_on : (reports : List Report) (m : Machine K) (told : List (Told K)) → LedTo app props inputs m → IsSettled m → m.work ≡ [] → m.built ≡ true → SafeRoots m → Stands m.state → Keeps m.state → AllOwned m.state root
        → tell_reports app m (logs_of reports) ≡ Some told
        → AllSettled told
        → NeverRemoved root reports
        → AllByRecursion (λ (r : Told K). Stands r.machine.state) told
        → AllKeepCells m.state reports told
    keeps_on [] m told led still idle built safe h keeps owned accepted settled stays stand =
        subst (λ (rs : List (Told K)). AllKeepCells m.state [] rs) (none_told told accepted) tt
    keeps_on (r ∷ rs) m told led still idle built safe h keeps owned accepted settled stays stand =
        let f = first-of app m r.log (logs_of rs) told accepted in
        let v : Machine K = (f.0).machine in
        let ends : AllSettled (told_by f.0 ∷ f.1) = subst (λ (x : List (Told K)). AllSettled x) (sym f.4) settled in
        let standing : AllByRecursion (λ (t : Told K). Stands t.machine.state) (told_by f.0 ∷ f.1) =
        subst (λ (x : List (Told K)). AllByRecursion (λ (t : Told K). Stands t.machine.state) x) (sym f.4) stand in
        let goes : replay_on app (Some m) r.log ≡ Some v = log-replays app r.log (telling m) f.0 f.2 in
        let way : Way app props inputs m r.log v = way_on app props inputs m v r.log still led goes in
        let alive : v.dead ≡ None = settled_alive v ends.0 in
        let quiet : v.work ≡ [] = settled_idle v ends.0 in
        let within = some_limits app r.log m v goes in
        let next : LedTo app props inputs v = led_on app props inputs m v r.log led goes in
        let reached = led_reached k a props (root_rules k a elm props) (λ n. tt) lawful fits root_lasts inputs v next in
        let built_there : v.built ≡ true = built_on app lawful way.limits props inputs m v way.moves (sound app lawful way.limits props inputs m way.reached) built way.leads alive in
        let safe_there : SafeRoots v = moves_last app (λ w work. AllSafe k a props (root_rules k a elm props) w work) (safe_lasts k a props (root_rules k a elm props)) way.limits m v way.moves way.leads alive safe in
        let old : ℕ → Type 0 = λ n. is_some (at m.state.cells n) ≡ true in
        let kept : Safe k a props (kept_rules k a elm props root own many old) v =
        moves_last app (λ w work. AllSafe k a props (kept_rules k a elm props root own many old) w work) (safe_lasts k a props (kept_rules k a elm props root own many old)) way.limits m v way.moves way.leads alive
        (keeping k a elm props root own many m keeps.row keeps.there keeps.keeps idle safe) in
        let all : AllOwned v.state root =
        all_owned k a props (root_rules k a elm props) lawful fits inputs reached.0 v reached.1 alive built_there quiet safe_there root standing.0 (λ t n o e. e) in
        let s = found_live (at v.state.scopes root) (standing.0).live in
        let kept_there : Keeps v.state = record { row = s.0; there = s.1; keeps = ((kept.holds).well.rows root s.0 s.1).0.hooks refl } in
        let cells : KeepsCells m.state r.log v.state = record {
          none_goes = λ n row there. subst (λ (i : ℕ). NoneRemoves i r.log) (sym (owned n row there)) stays.0;
          none_comes = λ n none. comes m.state v.state n (λ row there. ((own_found (λ i x. Good k a props (kept_rules k a elm props root own many old) (kept.holds).tiers (kept.holds).bound i x) (λ i o. OldCell k a elm props root own many old ((kept.holds).tiers o) i o) (kept.holds).bound v.state v.state.cells n row there (kept.holds).well.cells).0).1 (all n row there)) none;
        } in
        subst (λ (x : List (Told K)). AllKeepCells m.state (r ∷ rs) x) f.4
        (cells, keeps_on rs v f.1 next (settled_after app within.0 r.log m v still within.1) quiet built_there safe_there standing.0 kept_there all f.3 ends.1 stays.1 standing.1)

module _
    {K : Types} (k : Keeping K.Value) (a : Pages K) (elm : IsElm a) (props : K.Props) (lawful : IsLawful K (meaning_of_pages k a)) (fits : ChildrenFitSlots (meaning_of_pages k a))
    (root_lasts : RootStays (meaning_of_pages k a)) (inputs : List (Input K))
  where
    abbrev meant : Application K
    meant = meaning_of_pages k a

    -- from the build's report on
    from_the_build : (reports : List Report) (told : List (Told K)) → OneEach inputs (logs_of reports) → tell_reports meant (start meant props inputs) (logs_of reports) ≡ Some told → AllSettled told
        → AllByRecursion (λ (r : Told K). AllCurrent meant r.machine.state) told
        → FoldsTo a inputs reports told
        → ProgramFolds k a props inputs reports told
    from_the_build [] told each accepted settled current folds = absurd each
    from_the_build (r ∷ rs) told each accepted settled current folds =
        let m : Machine K = start meant props inputs in
        let law = root_rules k a elm props in
        let f = first-of meant m r.log (logs_of rs) told accepted in
        let v : Machine K = (f.0).machine in
        let ends : AllSettled (told_by f.0 ∷ f.1) = subst (λ (x : List (Told K)). AllSettled x) (sym f.4) settled in
        let goes : replay_on meant (Some m) r.log ≡ Some v = log-replays meant r.log (telling m) f.0 f.2 in
        let led : LedTo meant props inputs v = led_on meant props inputs m v r.log (led_start meant props inputs) goes in
        let reached = led_reached k a props law (λ n. tt) lawful fits root_lasts inputs v led in
        let within = some_limits meant r.log m v goes in
        let alive : v.dead ≡ None = settled_alive v ends.0 in
        let idle : v.work ≡ [] = settled_idle v ends.0 in
        let still : IsSettled v = settled_after meant within.0 r.log m v refl within.1 in
        let safe : Safe k a props law v = logs_safe k a props law m v r.log refl refl (start_safe k a props law (λ n. tt) inputs) goes alive in
        let on : RootGoesOn a.root props (r ∷ rs) (told_by f.0 ∷ f.1) =
        subst (λ (x : List (Told K)). RootGoesOn a.root props (r ∷ rs) x) (sym f.4) (from_build k a props law (λ n. tt) lawful fits root_lasts inputs (r ∷ rs) told each accepted settled current) in
        let fold : FoldsTo a inputs (r ∷ rs) (told_by f.0 ∷ f.1) = subst (λ (x : List (Told K)). FoldsTo a inputs (r ∷ rs) x) (sym f.4) folds in
        subst (λ (x : List (Told K)). ProgramFolds k a props inputs (r ∷ rs) x) f.4
        (
        λ root stands cells.
        let many : (q : K.Props) → length (a.page a.root q).cells ≡ length cells.own = λ q. elm.many cells.props q ∙ cells.many in
        let built : v.built ≡ true = not_yet k a props law (λ n. tt) lawful fits root_lasts inputs reached.0 v stands.boundary stands.error reached.1 alive stands.wrapped in
        let owned : AllOwned v.state root = all_owned k a props law lawful fits inputs reached.0 v reached.1 alive built idle safe root stands (λ t n o e. e) in
        let goes_on = on.1 root stands in
        let keep : AllKeepCells v.state rs f.1 =
        keeps_on k a elm props lawful fits root_lasts inputs root cells.own many rs v f.1 led still idle built safe stands (record { row = cells.row; there = cells.there; keeps = cells.keeps }) owned f.3 ends.1 goes_on.0 goes_on.1 in
        (owned, keep, λ n. fold keep n)
        )

pub elm_programs_fold : (K : Types) → ((k : Keeping K.Value) (a : Pages K) → ChildrenFitSlots (meaning_of_pages k a)) → ((k : Keeping K.Value) (a : Pages K) → RootStays (meaning_of_pages k a)) → ElmProgramsFold K
elm_programs_fold K fits stays k a elm lawful props inputs limits taken reports h =
    from_the_build k a elm props lawful (fits k a) (stays k a) inputs reports h.told (h.done).one_each ((h.holds).recorded).accepted ((h.holds).recorded).settled (h.holds).current
    (pages_reduce K k a props inputs limits taken reports (ran_of k a props inputs limits taken reports h))
