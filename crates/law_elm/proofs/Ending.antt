-- Report by report the root's own scope stays, and after the last one it shows its function of the fold of all inputs.
use Rattle.std.proofs.Common.{ℕ, true, List, [], ◌∷◌, ◌≡◌, inl, inr, refl, sym, ap, ◌∙◌, subst}
use Rattle.std.specs.Prelude.{Option, Some, None}
use Rattle.std.specs.List.{AllByRecursion}
use Rattle.rt_model.specs.Lists.{at, has}
use Rattle.rt_model.specs.Tree.{Types, Tree, Own, rendered, component_slot, one_slot, component_at, spots}
use Rattle.rt_model.specs.World.{Event, Application}
use Rattle.rt_model.specs.Heard.{Listener}
use Rattle.rt_model.specs.Laws.{IsLawful}
use Rattle.rt_model.specs.State.{MainSide, Scope, State, side_of}
use Rattle.rt_model.specs.Run.{child_at, root_tree, children_tree}
use Rattle.rt_model.specs.Current.{AllCurrent}
use Rattle.rt_model.specs.Replay.{Entry, Input, EventAt, WakeOf, WriteOf, MarkOf, Drain, Machine, replay_on, start}
use Rattle.rt_model.specs.Causes.{Limits}
use Rattle.rt_model.specs.Told.{Told, telling, told_by, tell_reports}
use Rattle.rt_model.specs.Reports.{Report, logs_of, OneEach}
use Rattle.rt_model.proofs.ToldReplayed.{first-of, log-replays}
use Rattle.law_moves.specs.Moves.{IsSettled, entries}
use Rattle.law_moves.specs.Reached.{start_at, Reached}
use Rattle.law_moves.specs.Trees.{HasChild}
use Rattle.law_moves.specs.Sorts.{own_sort, ChildrenFitSlots}
use Rattle.law_moves.proofs.Always.{Steady, moves_last}
use Rattle.law_moves.proofs.Insides.{alive_before}
use Rattle.law_moves.proofs.Limited.{some_limits}
use Rattle.law_moves.proofs.Logs.{logs_are_moves}
use Rattle.law_moves.proofs.Twigs.{live_found, found_live}
use Rattle.law_moves.proofs.Ways.{start_reached, reached_moved}
use Rattle.law_headline.proofs.Begins.{start_or_built, sound, built_on}
use Rattle.law_headline.proofs.Reports.{settled_after}
use Rattle.law_headline.proofs.Settled.{contained, settled_have_children}
use Rattle.law_behavior.specs.Along.{NoneRemoves}
use Rattle.author_programs.specs.Cells.{Keeping}
use Rattle.author_programs.specs.Pages.{Pages, meaning_of_pages}
use Rattle.law_reduce.specs.Elm.{NeverRemoved, OwnPagesShow, OwnShows, OwnFolds, ReadsAmong, HearersRead, AllRead}
use Rattle.law_reduce.specs.Reduces.{hearers}
use Rattle.law_reduce.specs.RootStays.{Wrapped, RootStays}
use Rattle.law_reduce.proofs.Elm.{own_cells_fold}
use Rattle.law_reduce.proofs.Shown.{ran_of}
use Rattle.law_reduce.proofs.Led.{LedTo, led_start, led_on, Way, way_on}
use Rattle.law_reduce.proofs.Live.{live_unremoved}
use Rattle.law_reduce.proofs.OneReport.{settled_alive, settled_idle}
use Rattle.law_reduce.proofs.Reports.{AllSettled, none_told}
use Rattle.law_reduce.proofs.RootStays.{wrappers_stay}
use Rattle.law_reduce.proofs.Wrapping.{current_wrapped}
use Rattle.law_elm.specs.Roots.{root_place, RootStands, RootGoesOn, RootsLast}
use Rattle.law_elm.specs.RootShows.{RootShowsFold, ElmShows, RootFolds, ElmFolds, RepliesRead}
use Rattle.law_elm.proofs.Following.{AllSafe, safe_lasts}
use Rattle.law_elm.proofs.Rules.{Rules}
use Rattle.law_elm.proofs.Sessions.{plain_rules, start_safe, logs_safe}
use Rattle.law_elm.proofs.Staying.{shows_there, sort_there, stays}

module _
    {K : Types} (k : Keeping K.Value) (a : Pages K) (props : K.Props) (law : Rules k a props) (fresh : (n : ℕ) → law.hooks n []) (lawful : IsLawful K (meaning_of_pages k a))
    (fits : ChildrenFitSlots (meaning_of_pages k a)) (root_lasts : RootStays (meaning_of_pages k a)) (inputs : List (Input K))
  where
    abbrev app : Application K
    app = meaning_of_pages k a

    abbrev Safe : Machine K → Type 0
    Safe m = Steady (λ w work. AllSafe k a props law w work) m

    abbrev Stands : ℕ → State K → Type 0
    Stands root w = RootStands a.root props w root

    abbrev AllStand : ℕ → List (Told K) → Type 0
    AllStand root told = AllByRecursion (λ (r : Told K). Stands root r.machine.state) told

    pub led_reached : (m : Machine K) → LedTo app props inputs m → (limits : Limits) × Reached app limits props inputs m
    led_reached m led =
        let first : Machine K = start app props inputs in
        let within = some_limits app led.done first m led.goes in
        let moved = logs_are_moves app within.0 first m led.done refl within.1 in
        (within.0, reached_moved app within.0 props inputs first m moved.0 (start_reached app within.0 props inputs) moved.1)

    -- before the build it doesn't stand there
    pub not_yet : (limits : Limits) (m : Machine K) (s t : ℕ) → (reached : Reached app limits props inputs m) → m.dead ≡ None → Wrapped a.root props m.state s t → m.built ≡ true
    not_yet limits m s t reached alive h =
        elim (start_or_built app lawful limits props inputs m reached alive) [
          | inl same ↦
              let begun : Machine K = start_at app props reached.firsts reached.contexts inputs in
              let g : Wrapped a.root props begun.state s t = subst (λ (x : Machine K). Wrapped a.root props x.state s t) same h in
              absurd (nothing_shows begun.state g.root (root_tree a.root props) g.stands g.shows refl)
          | inr built ↦ built
        ]
      where
        nothing_shows : (w : State K) (x : Scope K) (tree : Tree K) → at w.scopes 0 ≡ Some x → x.main_side.output ≡ Some tree
            → elim (at w.scopes 0) as (λ z. Option (Tree K)) [ None ↦ None | Some y ↦ y.main_side.output ] ≡ None
            → ⊥
        nothing_shows w x tree there shows none =
            let absurdity : Some tree ≡ None =
            sym shows ∙ sym (ap (λ (o : Option (Scope K)). elim o as (λ z. Option (Tree K)) [ None ↦ None | Some y ↦ y.main_side.output ]) there) ∙ none in
            cc

    -- where no work is open and all is current it stands there
    there : (limits : Limits) (m : Machine K) → Reached app limits props inputs m → m.dead ≡ None → m.work ≡ [] → Safe m → AllCurrent app m.state → (root : ℕ) × Stands root m.state
    there limits m reached alive idle safe current =
        let around = current_wrapped app lawful limits props inputs m reached alive idle current in
        let s : ℕ = around.0 in
        let t : ℕ = around.1 in
        let built : m.built ≡ true = not_yet limits m s t reached alive around.2 in
        let y = found_live (at m.state.scopes t) (around.2).live in
        let tree : Tree K = children_tree (rendered (one_slot (component_slot (Own a.root props)))) in
        let shows : (y.0).main_side.output ≡ Some tree = shows_there k a props law lawful fits inputs limits s t m reached built alive safe around.2 y.0 y.1 in
        let kid : HasChild m.state t y.0 MainSide root_place =
        settled_have_children app lawful limits props inputs m reached alive built idle t y.0 MainSide tree root_place (Own a.root props) y.1 shows
        (contained (spots [] tree) (component_at root_place (Own a.root props)) (inl refl)) in (
          kid.child,
          record {
            boundary = s;
            error = t;
            wrapped = around.2;
            child = ap (λ (o : Option (Scope K)). elim o as (λ z. Option ℕ) [ None ↦ None | Some x ↦ child_at (side_of x MainSide).children root_place ]) y.1 ∙ kid.kid;
            live = live_found m.state kid.child kid.record_of kid.live;
          },
        )

    goes_on : (root : ℕ) (reports : List Report) (m : Machine K) (told : List (Told K)) → LedTo app props inputs m → IsSettled m → m.work ≡ [] → m.built ≡ true → Safe m → Stands root m.state
        → tell_reports app m (logs_of reports) ≡ Some told
        → AllSettled told
        → NeverRemoved root reports × AllStand root told
    goes_on root [] m told led still idle built safe h accepted settled = (tt, subst (λ (rs : List (Told K)). AllStand root rs) (none_told told accepted) tt)
    goes_on root (r ∷ rs) m told led still idle built safe h accepted settled =
        let f = first-of app m r.log (logs_of rs) told accepted in
        let v : Machine K = (f.0).machine in
        let ends : AllSettled (told_by f.0 ∷ f.1) = subst (λ (x : List (Told K)). AllSettled x) (sym f.4) settled in
        let goes : replay_on app (Some m) r.log ≡ Some v = log-replays app r.log (telling m) f.0 f.2 in
        let way : Way app props inputs m r.log v = way_on app props inputs m v r.log still led goes in
        let alive : v.dead ≡ None = settled_alive v ends.0 in
        let quiet : v.work ≡ [] = settled_idle v ends.0 in
        let living : m.dead ≡ None = alive_before app way.limits m v way.moves m.dead refl way.leads alive in
        let on = stays k a props law lawful fits inputs way.limits h.boundary h.error m way.reached idle h.wrapped [] m v way.moves refl way.leads alive built safe in
        let sort = sort_there k a props law lawful fits inputs way.limits h.boundary h.error m way.reached built living safe h.wrapped in
        let kid = root_lasts lawful way.limits props inputs m v way.moves h.boundary h.error root_place (own_sort a.root) root way.reached way.leads alive idle quiet h.wrapped sort on h.child in
        let wrapped : Wrapped a.root props v.state h.boundary h.error = wrappers_stay app lawful way.limits props inputs m v way.moves h.boundary h.error way.reached way.leads alive idle h.wrapped in
        let next : Stands root v.state = record {
          boundary = h.boundary;
          error = h.error;
          wrapped = wrapped;
          child = kid.0;
          live = kid.1;
        } in
        let spared : NoneRemoves root (entries way.moves) = live_unremoved app lawful way.limits props inputs m v way.moves root way.reached way.leads alive kid.1 in
        let built_there : v.built ≡ true = built_on app lawful way.limits props inputs m v way.moves (sound app lawful way.limits props inputs m way.reached) built way.leads alive in
        let safe_there : Safe v = moves_last app (λ w work. AllSafe k a props law w work) (safe_lasts k a props law) way.limits m v way.moves way.leads alive safe in
        let within = some_limits app r.log m v goes in
        let rest = goes_on root rs v f.1 (led_on app props inputs m v r.log led goes) (settled_after app within.0 r.log m v still within.1) quiet built_there safe_there next f.3 ends.1 in (
          (subst (λ (es : List Entry). NoneRemoves root es) way.entries_are spared, rest.0),
          subst (λ (x : List (Told K)). AllStand root x) f.4 (next, rest.1),
        )

    pub from_build : (reports : List Report) (told : List (Told K)) → OneEach inputs (logs_of reports) → tell_reports app (start app props inputs) (logs_of reports) ≡ Some told → AllSettled told
        → AllByRecursion (λ (r : Told K). AllCurrent app r.machine.state) told
        → RootGoesOn a.root props reports told
    from_build [] told each accepted settled current = absurd each
    from_build (r ∷ rs) told each accepted settled current =
        let m : Machine K = start app props inputs in
        let f = first-of app m r.log (logs_of rs) told accepted in
        let v : Machine K = (f.0).machine in
        let ends : AllSettled (told_by f.0 ∷ f.1) = subst (λ (x : List (Told K)). AllSettled x) (sym f.4) settled in
        let goes : replay_on app (Some m) r.log ≡ Some v = log-replays app r.log (telling m) f.0 f.2 in
        let led : LedTo app props inputs v = led_on app props inputs m v r.log (led_start app props inputs) goes in
        let reached = led_reached v led in
        let within = some_limits app r.log m v goes in
        let alive : v.dead ≡ None = settled_alive v ends.0 in
        let still : IsSettled v = settled_after app within.0 r.log m v refl within.1 in
        let safe : Safe v = logs_safe k a props law m v r.log refl refl (start_safe k a props law fresh inputs) goes alive in
        let now : AllByRecursion (λ (x : Told K). AllCurrent app x.machine.state) (told_by f.0 ∷ f.1) =
        subst (λ (x : List (Told K)). AllByRecursion (λ (i : Told K). AllCurrent app i.machine.state) x) (sym f.4) current in
        subst (λ (x : List (Told K)). RootGoesOn a.root props (r ∷ rs) x) f.4 (
          there reached.0 v reached.1 alive (settled_idle v ends.0) safe now.0,
          λ root h. goes_on root rs v f.1 led still (settled_idle v ends.0) (not_yet reached.0 v h.boundary h.error reached.1 alive h.wrapped) safe h f.3 ends.1,
        )

pub roots_last : (K : Types) → ((k : Keeping K.Value) (a : Pages K) → ChildrenFitSlots (meaning_of_pages k a)) → ((k : Keeping K.Value) (a : Pages K) → RootStays (meaning_of_pages k a)) → RootsLast K
roots_last K fits stays_there k a calm lawful props inputs limits taken reports h =
    from_build k a props (plain_rules k a props calm) (λ n. tt) lawful (fits k a) (stays_there k a) inputs reports h.told (h.done).one_each ((h.holds).recorded).accepted ((h.holds).recorded).settled (h.holds).current

pub elm_shows : (K : Types) → RootsLast K → OwnPagesShow K → ElmShows K
elm_shows K roots own k a back calm lawful props inputs limits taken reports h =
    by reports h.told (roots k a calm lawful props inputs limits taken reports h) (own k a back lawful props inputs limits taken reports h)
  where
    by : (rs : List Report) (ts : List (Told K)) → RootGoesOn a.root props rs ts → OwnShows k a inputs rs ts → RootShowsFold k a props inputs rs ts
    by [] ts goes shows = absurd goes
    by (r ∷ rs) [] goes shows = absurd goes
    by (r ∷ rs) (t ∷ ts) goes shows = λ root p stands run reads among many owned. shows root a.root p run reads among many owned (goes.1 root stands).0

pub elm_folds : (K : Types) → RootsLast K → ElmFolds K
elm_folds K roots k a calm lawful props inputs limits taken reports h =
    by reports h.told (roots k a calm lawful props inputs limits taken reports h) (own_cells_fold K k a props inputs limits taken reports (ran_of k a props inputs limits taken reports h))
  where
    by : (rs : List Report) (ts : List (Told K)) → RootGoesOn a.root props rs ts → OwnFolds a inputs rs ts → RootFolds a props inputs rs ts
    by [] ts goes folds = absurd goes
    by (r ∷ rs) [] goes folds = absurd goes
    by (r ∷ rs) (t ∷ ts) goes folds = λ root own stands reads owned n among. folds root own reads owned (goes.1 root stands).0 n among

-- listeners that read no others

module _ {K : Types} (a : Pages K) (own : List ℕ) (all : (h : K.Handler) (e : Event K) → AllByRecursion (λ (n : ℕ). has own n ≡ true) (a.reply h e).reads) where
  heard_read : (ls : List (Listener K)) → AllByRecursion (λ (l : Listener K). ReadsAmong a own l) ls
  heard_read [] = tt
  heard_read (l ∷ ls) = (λ e. all l.handler e, heard_read ls)

  input_reads : (w : State K) (input : Input K) → HearersRead a own w input
  input_reads w (EventAt name payload element bubbles) = heard_read (hearers w name element bubbles)
  input_reads w (WakeOf t) = tt
  input_reads w (WriteOf n v) = tt
  input_reads w (MarkOf s) = tt
  input_reads w (Drain messages) = tt

  all_read : (w : State K) (inputs : List (Input K)) (told : List (Told K)) → AllRead a own w inputs told
  all_read w [] told = tt
  all_read w (input ∷ inputs) [] = tt
  all_read w (input ∷ inputs) (t ∷ ts) = (input_reads w input, all_read (t.machine).state inputs ts)

pub replies_read : (K : Types) → RepliesRead K
replies_read K a own all w inputs told = all_read a own all w inputs told
