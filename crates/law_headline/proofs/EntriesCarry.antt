-- Entry by entry: what the edits so far carry was drawn, and a unit that an entry ends adds edits that carry what may come.
use Rattle.std.proofs.Common.{ℕ, ◌≤◌, ◌<◌, Bool, true, false, ◌||◌, not, List, [], ◌∷◌, ◌++◌, ◌≡◌, ◌⊎◌, inl, inr, refl, sym, ap, ◌∙◌, subst, arith, append_assoc}
use Rattle.std.proofs.lemmas.List.{append-nil}
use Rattle.std.specs.Prelude.{Option, Some, None, if◌then◌else◌}
use Rattle.rt_model.specs.Tree.{Types}
use Rattle.rt_model.specs.World.{Application}
use Rattle.rt_model.specs.Laws.{IsLawful}
use Rattle.rt_model.specs.State.{Fault, State}
use Rattle.rt_model.specs.Replay.{Entry, Input, Machine, is_due, due, change_by, step, accepts, rows_left, replay_on}
use Rattle.rt_model.specs.Document.{Edit}
use Rattle.rt_model.specs.Caused.{caused}
use Rattle.rt_model.specs.Causes.{Limits, refusal, replay_within}
use Rattle.rt_model.specs.Told.{Telling, opens, opened, closed_unit, told_entry}
use Rattle.rt_model.specs.Sentences.{all_carried, AllMayCome}
use Rattle.rt_model.proofs.FaultsOnce.{open_gate}
use Rattle.rt_model.proofs.LastsAlways.{rises_lasts}
use Rattle.rt_model.proofs.Maps.{by_test}
use Rattle.law_moves.specs.Moves.{Move, Closed, Logged, serves_item, Inside, IsSettled, AtWork, Leads}
use Rattle.law_moves.specs.Reached.{Reached}
use Rattle.law_moves.proofs.Fuel.{fuel_suffices}
use Rattle.law_moves.proofs.Insides.{alive_before}
use Rattle.law_moves.proofs.Joins.{Inside-append, Leads-append}
use Rattle.law_moves.proofs.Logs.{logs_are_moves}
use Rattle.law_moves.proofs.Tellings.{told_where, told_machine}
use Rattle.law_moves.proofs.Lists.{every_join}
use Rattle.law_headline.proofs.Begins.{idle_settled, work_open, matches_serves, reached_on, idle, matches_entry, build_first, built_after, unit_begins, entry_aside}
use Rattle.law_headline.proofs.Carries.{carried_both}
use Rattle.law_headline.proofs.Drawn.{Below, still_below}
use Rattle.law_headline.proofs.Rests.{Begins, begins, Finishes, rests, no_moves}
use Rattle.law_headline.proofs.Open.{serves_opens_none, OpenUnit, in_work, unit_reached}
use Rattle.law_headline.proofs.Wrote.{Wrote, unit_wrote}

module _ {K : Types} where
  same_telling : (t u : Telling K) → Some t ≡ Some u → t ≡ u
  same_telling t u h = cc

  unbuilt : {P : Type 0} (v : Machine K) → v.built ≡ true → v.built ≡ false → P
  unbuilt v built not_built = let absurdity : true ≡ false = sym built ∙ not_built in cc

module _ {K : Types} (app : Application K) (lawful : IsLawful K app) (props : K.Props) (inputs : List (Input K)) (limits : Limits) where
  abbrev From : Machine K → Type 0
  From m = Reached app limits props inputs m

  abbrev InUnit : List ℕ → State K → Entry → Machine K → Type 0
  InUnit xs w first m = OpenUnit app lawful props inputs limits xs w first m

  -- between two entries of a session
  pub record Between (before : List Edit) (t : Telling K) : Type 0 where
    pub reached : From t.machine
    -- before the build nothing was told
    pub none_before : t.machine.built ≡ false → all_carried (before ++ t.edits) ≡ []
    pub settled : IsSettled t.machine
    pub alive : t.machine.dead ≡ None
    pub low : Below t.machine.state.next.elements (all_carried (before ++ t.edits))
    pub phase : (t.machine.unit ≡ false) ⊎ InUnit (all_carried (before ++ t.edits)) t.before t.first t.machine

  -- an entry added edits, which carry what may come
  pub record Stepped (before : List Edit) (t u : Telling K) : Type 0 where
    pub next : Between before u
    pub edits : List Edit
    pub grown : u.edits ≡ t.edits ++ edits
    pub come : AllMayCome (all_carried (before ++ t.edits)) u.before edits

  -- of an accepted entry: the moves that it is made of
  record Moved (m v : Machine K) (e : Entry) : Type 0 where
    settled : IsSettled v
    alive : v.dead ≡ None
    built : v.built ≡ true
    rises : m.state.next.elements ≤ v.state.next.elements
    begins : Begins app limits m v e

  -- nothing more was told
  still : (before : List Edit) (t u : Telling K) (v : Machine K) (e : Entry) → Moved t.machine v e → Below t.machine.state.next.elements (all_carried (before ++ t.edits)) → u ≡ record t { machine = v }
      → From v → ((v.unit ≡ false) ⊎ InUnit (all_carried (before ++ t.edits)) t.before t.first v) → Stepped before t u
  still before t u v e moved low same reached phase =
      subst (λ (x : Telling K). Stepped before t x) (sym same)
      (record {
        next =
            record {
              reached = reached;
              none_before = λ q. unbuilt v moved.built q;
              settled = moved.settled;
              alive = moved.alive;
              low = still_below (all_carried (before ++ t.edits)) t.machine.state.next.elements v.state.next.elements moved.rises low;
              phase = phase;
            };
        edits = [];
        grown = sym (append-nil t.edits);
        come = tt;
      })

  -- a unit's edits were told
  over : (before : List Edit) (t u : Telling K) (v : Machine K) (e : Entry) (edits : List Edit) → Moved t.machine v e → Below t.machine.state.next.elements (all_carried (before ++ t.edits))
      → u ≡ record t { machine = v; edits = t.edits ++ edits } → From v → v.unit ≡ false → Wrote app lawful props inputs limits (all_carried (before ++ t.edits)) t.before v edits → Stepped before t u
  over before t u v e edits moved low same reached unit wrote =
      subst (λ (x : Telling K). Stepped before t x) (sym same)
      (record {
        next =
            record {
              reached = reached;
              none_before = λ q. unbuilt v moved.built q;
              settled = moved.settled;
              alive = moved.alive;
              low = all_low;
              phase = inl unit;
            };
        edits = edits;
        grown = refl;
        come = wrote.come;
      })
    where
      numbers : all_carried (before ++ (t.edits ++ edits)) ≡ all_carried (before ++ t.edits) ++ all_carried edits
      numbers = ap (λ (es : List Edit). all_carried es) (sym (append_assoc before t.edits edits)) ∙ carried_both (before ++ t.edits) edits

      all_low : Below v.state.next.elements (all_carried (before ++ (t.edits ++ edits)))
      all_low =
          subst (λ (xs : List ℕ). Below v.state.next.elements xs) (sym numbers)
          (every_join (λ (k : ℕ). (0 < k) × (k < v.state.next.elements)) (all_carried (before ++ t.edits)) (all_carried edits)
          (still_below (all_carried (before ++ t.edits)) t.machine.state.next.elements v.state.next.elements moved.rises low) wrote.low)

  -- the rest of an entry's moves while a unit is open
  goes_on : (before : List Edit) (t u : Telling K) (v : Machine K) (e : Entry) (moved : Moved t.machine v e) → Below t.machine.state.next.elements (all_carried (before ++ t.edits))
      → InUnit (all_carried (before ++ t.edits)) t.before t.first (moved.begins).middle → u ≡ closed_unit app t true v → Stepped before t u
  goes_on before t u v e moved low o same = elim (rests app limits b.middle v b.rest b.leads b.none) [ inl inside ↦ more inside | inr f ↦ ends f ]
    where
      b : Begins app limits t.machine v e
      b = moved.begins

      xs : List ℕ
      xs = all_carried (before ++ t.edits)

      on : (moves : List Move) (x : Machine K) → Leads app limits b.middle moves x → Inside moves → InUnit xs t.before t.first x
      on moves x leads inside =
          record {
            from = o.from;
            begun = o.begun;
            opening = o.opening;
            reached = o.reached;
            none_before = o.none_before;
            alive = o.alive;
            unit = o.unit;
            logged = o.logged;
            at_work = o.at_work;
            done = o.done ++ moves;
            leads = Leads-append app limits o.done moves o.begun b.middle x o.leads leads;
            inside = Inside-append o.done moves o.inside inside;
            before_is = o.before_is;
            low = o.low;
          }

      with_caused : Telling K
      with_caused = record t { machine = v; edits = t.edits ++ caused app t.before v.state t.first }

      told_as : (unit : Bool) → v.unit ≡ unit → u ≡ (if not unit then with_caused else record t { machine = v })
      told_as unit is =
          same ∙ ap (λ (x : Option Fault). told_where app t true v x) moved.alive
          ∙ ap (λ (x : Bool). if not x then with_caused else record t { machine = v }) is

      more : Inside b.rest → Stepped before t u
      more inside =
          let here : InUnit xs t.before t.first v = on b.rest v b.leads inside in
          let work : AtWork v = in_work app lawful props inputs limits xs t.before t.first v here moved.alive in
          still before t u v e moved low (told_as true work.unit) (unit_reached app lawful props inputs limits xs t.before t.first v here)
          (inr here)

      ends : Finishes app limits b.middle v → Stepped before t u
      ends f =
          let here : InUnit xs t.before t.first f.served = on f.moves f.served f.leads f.inside in
          let unit : v.unit ≡ false = ap (λ (x : Machine K). x.unit) (f.closed).gives in
          let open_at : From f.served = unit_reached app lawful props inputs limits xs t.before t.first f.served here in
          let reached : From v = reached_on app lawful limits props inputs f.served v (Closed ∷ []) open_at (v, f.closed, refl) in
          over before t u v e (caused app t.before v.state t.first) moved low (told_as false unit) reached unit (unit_wrote app lawful props inputs limits xs t.before t.first f.served v here f.closed)

  -- one more entry
  module _ (before : List Edit) (t u : Telling K) (e : Entry) (so : Between before t) (none_refused : refusal limits t.machine ≡ None) (due_now : is_due app (due app t.machine) e ≡ true) where
    abbrev m : Machine K
    m = t.machine

    abbrev v : Machine K
    v = step app t.machine e

    abbrev anew : Telling K
    anew = record t { before = t.machine.state; first = e }

    accept : accepts app m e ≡ Some v
    accept = ap (λ (b : Bool). if b then Some (step app t.machine e) else None) due_now

    pub within : replay_within app limits (Some m) (e ∷ []) ≡ Some v
    within =
        ap (λ (o : Option Fault). replay_within app limits (elim o as (λ z. Option (Machine K)) [ None ↦ accepts app t.machine e | Some fault ↦ None ]) []) none_refused
        ∙ ap (λ (o : Option (Machine K)). replay_within app limits o []) accept

    alone : replay_on app (Some m) (e ∷ []) ≡ Some v
    alone = ap (λ (o : Option (Machine K)). replay_on app o []) accept

    moved : v.dead ≡ None → Moved m v e
    moved alive =
        let found = logs_are_moves app limits m v (e ∷ []) so.settled within in
        let x : Machine K = change_by app t.machine t.machine.work e in
        let b : Begins app limits m v e = begins app limits m v found.0 e so.settled found.1 found.2 in
        record {
          settled = (fuel_suffices app (rows_left x.work) (rows_left x.work) x (omega arith) (omega arith)).1;
          alive = alive;
          built = built_after app lawful limits props inputs m b.middle v e b.rest so.reached b.logged b.leads alive;
          rises = (rises_lasts app lawful m (e ∷ []) v alone).elements;
          begins = b;
        }

    at_rest_on : (h : Moved m v e) → u ≡ closed_unit app (opened t e) (opens e || m.unit) v → m.unit ≡ false → Stepped before t u
    at_rest_on h same rest = by_test (opens e) (λ q. opening q) (λ q. aside q)
      where
        b : Begins app limits m v e
        b = h.begins

        idle_before : m.work ≡ []
        idle_before = idle app lawful limits props inputs m so.reached so.alive rest

        alive : (b.middle).dead ≡ None
        alive = alive_before app limits b.middle v b.rest (b.middle).dead refl b.leads h.alive

        opening : opens e ≡ true → Stepped before t u
        opening q =
            let began = unit_begins app lawful limits props inputs m b.middle e so.reached idle_before q b.logged alive in
            let o : InUnit (all_carried (before ++ t.edits)) m.state e b.middle =
            record {
              from = m;
              begun = b.middle;
              opening = q;
              reached = so.reached;
              none_before = λ is. so.none_before (build_first app m so.alive idle_before (subst (λ (d : Entry). due app m ≡ Some d) is (b.logged).due_is));
              alive = so.alive;
              unit = rest;
              logged = b.logged;
              at_work = began.0;
              done = [];
              leads = refl;
              inside = tt;
              before_is = refl;
              low = so.low;
            } in
            let told : u ≡ closed_unit app anew true v = same ∙ ap (λ (x : Bool). closed_unit app (if x then anew else t) (x || m.unit) v) q in
            let x : Stepped before anew u = goes_on before anew u v e h so.low o told in
            record { next = x.next; edits = x.edits; grown = x.grown; come = x.come }

        aside : opens e ≡ false → Stepped before t u
        aside q =
            let after = entry_aside app lawful limits props inputs m b.middle e idle_before rest q b.logged in
            let there : From b.middle = reached_on app lawful limits props inputs m b.middle (Logged e ∷ []) so.reached (b.middle, b.logged, refl) in
            let stays : IsSettled b.middle = idle_settled b.middle (idle app lawful limits props inputs b.middle there alive after.0) after.0 in
            let end : v ≡ b.middle = no_moves app limits b.middle v b.rest stays b.leads b.none in
            let unit : v.unit ≡ false = ap (λ (x : Machine K). x.unit) end ∙ after.0 in
            let reached : From v = reached_on app lawful limits props inputs m v (Logged e ∷ b.rest) so.reached (b.middle, b.logged, b.leads) in
            let told : u ≡ record t { machine = v } =
            same
            ∙ ap (λ (x : Bool). closed_unit app (if x then anew else t) (x || m.unit) v) q
            ∙ ap (λ (x : Bool). closed_unit app t x v) rest
            ∙ ap (λ (x : Option Fault). told_where app t false v x) h.alive in
            still before t u v e h so.low told reached (inl unit)

    in_unit_on : (h : Moved m v e) → u ≡ closed_unit app (opened t e) (opens e || m.unit) v → InUnit (all_carried (before ++ t.edits)) t.before t.first m → Stepped before t u
    in_unit_on h same o =
        let b : Begins app limits m v e = h.begins in
        let work : AtWork m = in_work app lawful props inputs limits (all_carried (before ++ t.edits)) t.before t.first m o so.alive in
        let open_work : m.work ≡ [] → ⊥ = λ none. work_open m so.alive work.unit so.settled none in
        let serves : serves_item e ≡ true = matches_serves m.work e (matches_entry app lawful limits props inputs m b.middle e so.reached b.logged) open_work in
        let here : InUnit (all_carried (before ++ t.edits)) t.before t.first b.middle =
        record {
          from = o.from;
          begun = o.begun;
          opening = o.opening;
          reached = o.reached;
          none_before = o.none_before;
          alive = o.alive;
          unit = o.unit;
          logged = o.logged;
          at_work = o.at_work;
          done = o.done ++ Logged e ∷ [];
          leads = Leads-append app limits o.done (Logged e ∷ []) o.begun m b.middle o.leads (b.middle, b.logged, refl);
          inside = Inside-append o.done (Logged e ∷ []) o.inside (serves, tt);
          before_is = o.before_is;
          low = o.low;
        } in
        let told : u ≡ closed_unit app t true v =
        same
        ∙ ap (λ (x : Bool). closed_unit app (if x then anew else t) (x || m.unit) v) (serves_opens_none e serves)
        ∙ ap (λ (x : Bool). closed_unit app t x v) work.unit in
        goes_on before t u v e h so.low here told

    stepped : u ≡ closed_unit app (opened t e) (opens e || m.unit) v → u.machine.dead ≡ None → Stepped before t u
    stepped same alive_u =
        let alive : v.dead ≡ None = ap (λ (x : Machine K). x.dead) (sym (told_machine app limits (opened t e) (opens e || m.unit) v)) ∙ ap (λ (x : Telling K). x.machine.dead) (sym same) ∙ alive_u in
        let h : Moved m v e = moved alive in
        elim so.phase [ inl rest ↦ at_rest_on h same rest | inr o ↦ in_unit_on h same o ]

  -- what is told of an entry that is due
  pub told_due : (t u : Telling K) (e : Entry) → is_due app (due app t.machine) e ≡ true → told_entry app t e ≡ Some u → u ≡ closed_unit app (opened t e) (opens e || t.machine.unit) (step app t.machine e)
  told_due t u e due_now told =
      same_telling u (closed_unit app (opened t e) (opens e || t.machine.unit) (step app t.machine e))
      (sym told
      ∙ ap (λ (b : Bool). elim (if b then Some (step app t.machine e) else None) as (λ z. Option (Telling K)) [ None ↦ None | Some x ↦ Some (closed_unit app (opened t e) (opens e || t.machine.unit) x) ]) due_now)

  pub entry_so : (before : List Edit) (more : List Entry) (t u : Telling K) (e : Entry) (last : Machine K) → Between before t → replay_within app limits (Some t.machine) (e ∷ more) ≡ Some last
      → told_entry app t e ≡ Some u → u.machine.dead ≡ None → Stepped before t u × (replay_within app limits (Some u.machine) more ≡ Some last)
  entry_so before more t u e last so go told alive =
      let gate = open_gate app limits (refusal limits t.machine) (is_due app (due app t.machine) e) (step app t.machine e) more last go in
      let same : u ≡ closed_unit app (opened t e) (opens e || t.machine.unit) (step app t.machine e) = told_due t u e gate.1 told in
      let end : u.machine ≡ step app t.machine e = ap (λ (x : Telling K). x.machine) same ∙ told_machine app limits (opened t e) (opens e || t.machine.unit) (step app t.machine e) in (
        stepped before t u e so gate.0 gate.1 same alive,
        ap (λ (x : Machine K). replay_within app limits (Some x) more) end ∙ gate.2,
      )
