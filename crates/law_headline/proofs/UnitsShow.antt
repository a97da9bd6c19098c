-- Along the moves of a report the edits told so far give what shows, whenever no unit is at work.
use Rattle.std.proofs.Common.{ℕ, Bool, true, false, ◌||◌, not, List, [], ◌∷◌, ◌++◌, ◌≡◌, ◌⊎◌, inl, inr, refl, sym, ap, ◌∙◌, subst, append_assoc, arith}
use Rattle.std.proofs.lemmas.List.{append-nil}
use Rattle.std.specs.Prelude.{Option, Some, None, Result, Ok, if◌then◌else◌}
use Rattle.rt_lemmas.proofs.Bools.{first_of as drawn_number}
use Rattle.rt_model.specs.Tree.{Types, node_at, spots}
use Rattle.rt_model.specs.World.{Application}
use Rattle.rt_model.specs.Laws.{IsLawful}
use Rattle.rt_model.specs.State.{Fault, State, Item, side_of}
use Rattle.rt_model.specs.Replay.{Entry, Build, Taken, Heard, Rerun, Poll, Effects, Made, Fed, Kept, Removed, Input, Machine, mounted_state}
use Rattle.rt_model.specs.Document.{Forest, Empty, Edit, AppendChildren, DocFault, and_then, document_after}
use Rattle.rt_model.specs.View.{view}
use Rattle.rt_model.specs.Caused.{written, caused}
use Rattle.rt_model.specs.Causes.{Limits}
use Rattle.rt_model.specs.Told.{Telling, opens, opened, closed_unit, told_entry, tell_log}
use Rattle.rt_model.specs.Lasting.{IsRooted}
use Rattle.rt_model.proofs.Maps.{by_test}
use Rattle.rt_model.proofs.Among.{among_contained}
use Rattle.rt_model.proofs.Stands.{Stands}
use Rattle.rt_model.proofs.NumbersStand.{Sound, child_among}
use Rattle.rt_model.proofs.WellNumbered.{WellNumbered}
use Rattle.rt_model.proofs.ViewOnce.{well_numbered_once, well_numbered_positive}
use Rattle.law_moves.specs.Moves.{Move, Silent, Closed, Logged, entries, serves_item, Inside, InOneUnit, IsSettled, AtWork, IsClosed, IsLogged, Moves, Leads}
use Rattle.law_moves.specs.Reached.{start_at, Reached}
use Rattle.law_moves.specs.Units.{unit_told}
use Rattle.law_moves.proofs.Insides.{alive_before, inside_lasts}
use Rattle.law_moves.proofs.Joins.{entries-append, Inside-append, Leads-append, logs_join}
use Rattle.law_moves.proofs.Settles.{settled_stays}
use Rattle.law_moves.proofs.Tellings.{told_where, entry_told, unit_is_told}
use Rattle.law_moves.specs.Trees.{IsUnfolded}
use Rattle.law_moves.specs.Reruns.{Reruns}
use Rattle.law_headline.proofs.InRows.{comes_in, one_list_on}
use Rattle.law_moves.proofs.Commanded.{Level, level_trans}
use Rattle.law_moves.proofs.Called.{mounted_level}
use Rattle.law_headline.proofs.Views.{level_views}
use Rattle.law_headline.proofs.Begins.{idle_settled, work_open, matches_serves, Stays, stays_on, build_first, reached_on, idle, sound, matches_entry, start_or_built, unit_begins, entry_aside}

in_unit_to_end : (moves : List Move) → Inside moves → InOneUnit (moves ++ Closed ∷ [])
in_unit_to_end [] h = refl
in_unit_to_end (Silent ∷ moves) h = in_unit_to_end moves h
in_unit_to_end (Closed ∷ moves) h = absurd h
in_unit_to_end (Logged e ∷ moves) h = (h.0, in_unit_to_end moves h.1)

module _ {K : Types} where
  not_open : (item : Item K) (later : List (Item K)) → [] ≡ item ∷ later → ⊥
  not_open item later h = cc

  -- what stands beside no work is well numbered
  pub well_numbered : (w : State K) → IsRooted w → Stands w [] → WellNumbered w
  well_numbered w r h =
      record {
        positive = λ s n x a p k e g. (h.range s n x a p k e (among_contained (side_of x a).numbers (p, k, n) g)).0;
        once =
            λ s t n x y a b p q k l e f g i.
            h.once s t n x y a b p q k l e f (among_contained (side_of x a).numbers (p, k, n) g) (among_contained (side_of y b).numbers (q, l, n) i);
        whole = λ s x a tree p k e o g. drawn_number (h.whole s x a tree p k e o (among_contained (spots [] tree) (node_at p k) g));
        fit = h.fit;
        child =
            λ s t x y a p e g f.
            let c = h.child s t x y a p e (child_among (side_of x a).children p t g) f in
            (c.0, c.1, r.heights t s y x f c.0 e);
        slot = λ s t x a p q e g i. h.slot s t x a p q e (child_among (side_of x a).children p t g) (child_among (side_of x a).children q t i);
      }

  abbrev caused_by_build : State K → List Edit
  caused_by_build v = AppendChildren 0 (view v) ∷ []

  -- the build of an empty document
  built_from_empty : (w v : State K) → WellNumbered v → view w ≡ Empty → (edits : List Edit) → edits ≡ caused_by_build v → document_after edits (view w) ≡ Ok (view v)
  built_from_empty w v good none edits is =
      ap (λ (es : List Edit). document_after es (view w)) is
      ∙ ap (λ (d : Forest). document_after (caused_by_build v) d) none
      ∙ ap (λ (r : Result Forest DocFault). and_then r (λ after. Ok after))
      (comes_in Empty (view v) (view v) (λ i. omega (arith, well_numbered_once v good i)) (well_numbered_positive v good))

module _ {K : Types} (app : Application K) (limits : Limits) (props : K.Props) (inputs : List (Input K)) where
  -- the edits of a rerun, from its entry to its end, make what shows after it of what showed
  abbrev pub Brings : Type 0
  Brings =
      (m v : Machine K) (s : ℕ)
      → Reruns app limits props inputs m s v
      → document_after (written app m.state v.state s) (view m.state) ≡ Ok (view v.state)

module _ {K : Types} (app : Application K) (lawful : IsLawful K app) (limits : Limits) (props : K.Props) (inputs : List (Input K))
    (unfolded : (m : Machine K) → Reached app limits props inputs m → m.dead ≡ None → IsUnfolded m.state)
    (brings : Brings app limits props inputs)
    (d : Forest) where
  -- no unit is at work: what is told so far gives what shows
  pub record Rest (t : Telling K) (m : Machine K) : Type 0 where
    pub reached : Reached app limits props inputs m
    pub alive : m.dead ≡ None
    pub unit : m.unit ≡ false
    pub tells : t.machine ≡ m
    pub shows : document_after t.edits d ≡ Ok (view m.state)

  -- the build or a unit that began at the machine m0 is at work
  record Open (m0 : Machine K) (first : Entry) (m : Machine K) : Type 0 where
    begun : Machine K
    opening : opens first ≡ true
    logged : IsLogged app limits m0 first begun
    at_work : AtWork begun
    done : List Move
    leads : Leads app limits begun done m
    inside : Inside done
    stays : Stays app first m0 m

  -- the log is told, and then what is told gives what shows
  pub record Ends (t : Telling K) (log : List Entry) (v : Machine K) : Type 0 where
    pub last : Telling K
    pub told : tell_log app (Some t) log ≡ Some last
    pub machine : last.machine ≡ v
    pub shows : document_after last.edits d ≡ Ok (view v.state)

  in_between : (t : Telling K) (log other : List Entry) (v : Machine K) → log ≡ other → Ends t log v → Ends t other v
  in_between t log other v e h = subst (λ (es : List Entry). Ends t es v) e h

  -- one more entry that is told
  one_ahead : (t u : Telling K) (e : Entry) (log : List Entry) (v : Machine K) → told_entry app t e ≡ Some u → Ends u log v → Ends t (e ∷ log) v
  one_ahead t u e log v told h =
      record { last = h.last; told = ap (λ (o : Option (Telling K)). tell_log app o log) told ∙ h.told; machine = h.machine; shows = h.shows }

  -- while the unit is at work
  still_at_work : (m0 : Machine K) (first : Entry) (m : Machine K) → m.dead ≡ None → Open m0 first m → AtWork m
  still_at_work m0 first m alive o =
      (inside_lasts app (λ w work. Unit {0})
      (record {
        serves = λ w v item rest work ready here e. tt;
        drops = λ w v scope parent side rest work first live here e. tt;
        thins = λ w v scope top parent side rest work first other live here e. tt;
      })
      limits o.begun m o.done o.at_work o.leads o.inside alive tt).0

  -- what the unit wrote
  unit_shows : (m0 m v : Machine K) (first : Entry) → Reached app limits props inputs m0 → m0.dead ≡ None → m0.work ≡ [] → Open m0 first m → IsClosed m v → Reached app limits props inputs v → v.dead ≡ None
      → document_after (caused app m0.state v.state first) (view m0.state) ≡ Ok (view v.state)
  unit_shows m0 m v first r alive none o closed after lives = by_entry first o.opening o.logged o.stays
    where
      rests : Level m0.state m.state → document_after [] (view m0.state) ≡ Ok (view v.state)
      rests h =
          let level : Level m0.state v.state =
          subst (λ (x : Machine K). Level m0.state x.state) (sym closed.gives) (level_trans m0.state m.state (mounted_state m.state) h (mounted_level m.state)) in
          ap Ok (sym (level_views m0.state v.state (unfolded m0 r alive) (unfolded v after lives) level))

      from_start : (m0 ≡ start_at app props r.firsts r.contexts inputs) ⊎ (m0.built ≡ true) → m0.built ≡ false → view m0.state ≡ Empty
      from_start (inl same) unbuilt = ap (λ (x : Machine K). view x.state) same
      from_start (inr built) unbuilt = let absurdity : false ≡ true = sym unbuilt ∙ built in cc

      idle_after : v.work ≡ []
      idle_after = ap (λ (x : Machine K). x.work) closed.gives ∙ closed.idle

      by_entry : (e : Entry) → opens e ≡ true → IsLogged app limits m0 e o.begun → Stays app e m0 m → document_after (caused app m0.state v.state e) (view m0.state) ≡ Ok (view v.state)
      by_entry Build h logged stays =
          let s : Sound app lawful v = sound app lawful limits props inputs v after in
          let good : WellNumbered v.state = well_numbered v.state s.rooted (subst (λ (xs : List (Item K)). Stands v.state xs) idle_after (s.stands lives)) in
          built_from_empty m0.state v.state good
          (from_start (start_or_built app lawful limits props inputs m0 r alive) (build_first app m0 alive none logged.due_is))
          (caused app m0.state v.state Build) refl
      by_entry (Rerun s) h logged stays =
          brings m0 v s
          (record { begun = o.begun; served = m; moves = o.done; reached = r; logged = logged; leads = o.leads; inside = o.inside; closed = closed })
      by_entry (Poll t) h logged stays = rests stays.1
      by_entry (Effects s) h logged stays = rests stays.1
      by_entry (Taken k) h logged stays = cc
      by_entry (Heard s) h logged stays = cc
      by_entry (Made s) h logged stays = cc
      by_entry (Fed s) h logged stays = cc
      by_entry (Kept s) h logged stays = cc
      by_entry (Removed s) h logged stays = cc

  -- what is told after a unit
  abbrev with_edits : Telling K → Entry → Machine K → Telling K
  with_edits t first v = record { machine = v; before = t.machine.state; first = first; edits = t.edits ++ caused app t.machine.state v.state first }

  told_closed : (t : Telling K) (first : Entry) (v : Machine K) → v.dead ≡ None → v.unit ≡ false → unit_told app t first v ≡ with_edits t first v
  told_closed t first v alive unit =
      let begun : Telling K = record t { before = t.machine.state; first = first } in
      ap (λ (o : Option Fault). told_where app begun true v o) alive
      ∙ ap (λ (b : Bool). if not b then with_edits t first v else record begun { machine = v }) unit

  -- an entry outside of units adds no edit
  told_aside : (t : Telling K) (m u : Machine K) (e : Entry) → t.machine ≡ m → m.unit ≡ false → opens e ≡ false → IsLogged app limits m e u → IsSettled u → u.dead ≡ None
      → told_entry app t e ≡ Some (record t { machine = u })
  told_aside t m u e is rest none h s alive =
      entry_told app limits t m u e is h
      ∙ ap (λ (x : Machine K). Some (closed_unit app (opened t e) (opens e || t.machine.unit) x)) (settled_stays app u s)
      ∙ ap (λ (b : Bool). Some (closed_unit app (if b then record t { before = t.machine.state; first = e } else t) (b || t.machine.unit) u)) none
      ∙ ap (λ (b : Bool). Some (closed_unit app t b u)) (ap (λ (x : Machine K). x.unit) is ∙ rest)
      ∙ ap (λ (o : Option Fault). Some (told_where app t false u o)) alive

  -- the unit ends, and is told
  record Over (t : Telling K) (m0 : Machine K) (first : Entry) (log : List Entry) (v : Machine K) : Type 0 where
    after : Telling K
    rest : Rest after v
    told : tell_log app (Some t) (first ∷ log) ≡ Some after

  unit_over : (t : Telling K) (m0 m v : Machine K) (first : Entry) → Rest t m0 → (o : Open m0 first m) → IsClosed m v → v.dead ≡ None → Over t m0 first (entries o.done) v
  unit_over t m0 m v first r o closed alive =
      let all : List Move = o.done ++ Closed ∷ [] in
      let leads : Leads app limits o.begun all v = Leads-append app limits o.done (Closed ∷ []) o.begun m v o.leads (v, closed, refl) in
      let after : Reached app limits props inputs v = reached_on app lawful limits props inputs m0 v (Logged first ∷ all) r.reached (o.begun, o.logged, leads) in
      let none : v.work ≡ [] = ap (λ (x : Machine K). x.work) closed.gives ∙ closed.idle in
      let unit : v.unit ≡ false = ap (λ (x : Machine K). x.unit) closed.gives in
      let idle_before : m0.work ≡ [] = idle app lawful limits props inputs m0 r.reached r.alive r.unit in
      let same : entries all ≡ entries o.done = entries-append o.done (Closed ∷ []) ∙ append-nil (entries o.done) in
      record {
        after = with_edits t first v;
        rest =
            record {
              reached = after;
              alive = alive;
              unit = unit;
              tells = refl;
              shows = one_list_on t.edits (caused app t.machine.state v.state first) d (view m0.state) r.shows
                  ∙ ap (λ (x : Machine K). document_after (caused app x.state v.state first) (view m0.state)) r.tells
                  ∙ unit_shows m0 m v first r.reached r.alive idle_before o closed after alive;
            };
        told = ap (λ (log : List Entry). tell_log app (Some t) (first ∷ log)) (sym same)
            ∙ unit_is_told app limits m0 o.begun v first all t r.tells o.opening o.logged o.at_work.unit leads (in_unit_to_end o.done o.inside) (idle_settled v none unit)
            ∙ ap Some (told_closed t first v alive unit);
      }

  -- what follows a unit that is told
  after_unit : (t : Telling K) (m0 : Machine K) (first : Entry) (log more : List Entry) (u v : Machine K) → (over : Over t m0 first log u) → Ends over.after more v → Ends t (first ∷ (log ++ more)) v
  after_unit t m0 first log more u v over h =
      record {
        last = h.last;
        told = (logs_join app limits (first ∷ log) more).2 t over.after over.told ∙ h.told;
        machine = h.machine;
        shows = h.shows;
      }

  -- one more move of the unit
  abbrev more_done : (m0 m u : Machine K) (first : Entry) (move : Move) → (o : Open m0 first m) → Moves app limits m move u → Inside (move ∷ []) → Stays app first m0 u → Open m0 first u
  more_done m0 m u first move o h inside stays =
      record {
        begun = o.begun;
        opening = o.opening;
        logged = o.logged;
        at_work = o.at_work;
        done = o.done ++ move ∷ [];
        leads = Leads-append app limits o.done (move ∷ []) o.begun m u o.leads (u, h, refl);
        inside = Inside-append o.done (move ∷ []) o.inside inside;
        stays = stays;
      }

  mutual
    -- from where no unit is at work
    pub rest_ends : (moves : List Move) (t : Telling K) (m v : Machine K) → Rest t m → Leads app limits m moves v → v.dead ≡ None → v.unit ≡ false → Ends t (entries moves) v
    rest_ends [] t m v r leads alive unit =
        record { last = t; told = refl; machine = r.tells ∙ sym leads; shows = r.shows ∙ ap (λ (x : Machine K). Ok (view x.state)) (sym leads) }
    rest_ends (Silent ∷ moves) t m v r leads alive unit =
        let h = leads.1 in
        let none : m.work ≡ [] = idle app lawful limits props inputs m r.reached r.alive r.unit in
        let absurdity : [] ≡ h.item ∷ h.later = sym none ∙ h.next in
        cc
    rest_ends (Closed ∷ moves) t m v r leads alive unit = let absurdity : false ≡ true = sym r.unit ∙ leads.1.at_work in cc
    rest_ends (Logged e ∷ moves) t m v r leads alive unit =
        let u : Machine K = leads.0 in
        let none : m.work ≡ [] = idle app lawful limits props inputs m r.reached r.alive r.unit in
        let lives : u.dead ≡ None = alive_before app limits u v moves u.dead refl leads.2 alive in
        by_test (opens e)
        (
        λ opening.
        let began = unit_begins app lawful limits props inputs m u e r.reached none opening leads.1 lives in
        let o : Open m e u = record { begun = u; opening = opening; logged = leads.1; at_work = began.0; done = []; leads = refl; inside = tt; stays = began.1 } in
        open_ends moves t m e u v r o leads.2 alive unit
        )
        (
        λ aside.
        let after = entry_aside app lawful limits props inputs m u e none r.unit aside leads.1 in
        let there : Reached app limits props inputs u = reached_on app lawful limits props inputs m u (Logged e ∷ []) r.reached (u, leads.1, refl) in
        let next : Rest (record t { machine = u }) u = record {
          reached = there;
          alive = lives;
          unit = after.0;
          tells = refl;
          shows = r.shows ∙ ap Ok (sym (level_views m.state u.state (unfolded m r.reached r.alive) (unfolded u there lives) after.1));
        } in
        one_ahead t (record t { machine = u }) e (entries moves) v
        (told_aside t m u e r.tells r.unit aside leads.1 (idle_settled u (idle app lawful limits props inputs u there lives after.0) after.0) lives)
        (rest_ends moves (record t { machine = u }) u v next leads.2 alive unit)
        )

    -- from the midst of a unit
    open_ends : (moves : List Move) (t : Telling K) (m0 : Machine K) (first : Entry) (m v : Machine K) → Rest t m0 → (o : Open m0 first m) → Leads app limits m moves v → v.dead ≡ None → v.unit ≡ false
        → Ends t (first ∷ (entries o.done ++ entries moves)) v
    open_ends [] t m0 first m v r o leads alive unit =
        let lives : m.dead ≡ None = ap (λ (x : Machine K). x.dead) (sym leads) ∙ alive in
        let work : AtWork m = still_at_work m0 first m lives o in
        let absurdity : false ≡ true = sym unit ∙ ap (λ (x : Machine K). x.unit) leads ∙ work.unit in
        cc
    open_ends (Silent ∷ moves) t m0 first m v r o leads alive unit =
        let u : Machine K = leads.0 in
        let h = leads.1 in
        let next : Open m0 first u = more_done m0 m u first Silent o h tt (stays_on app first m0 m u (λ none. not_open h.item h.later (sym none ∙ h.next)) o.stays) in
        in_between t (first ∷ (entries (o.done ++ Silent ∷ []) ++ entries moves)) (first ∷ (entries o.done ++ entries moves)) v
        (ap (λ (log : List Entry). first ∷ (log ++ entries moves)) (entries-append o.done (Silent ∷ []) ∙ append-nil (entries o.done)))
        (open_ends moves t m0 first u v r next leads.2 alive unit)
    open_ends (Closed ∷ moves) t m0 first m v r o leads alive unit =
        let u : Machine K = leads.0 in
        let lives : u.dead ≡ None = alive_before app limits u v moves u.dead refl leads.2 alive in
        let over = unit_over t m0 m u first r o leads.1 lives in
        after_unit t m0 first (entries o.done) (entries moves) u v over (rest_ends moves over.after u v over.rest leads.2 alive unit)
    open_ends (Logged e ∷ moves) t m0 first m v r o leads alive unit =
        let u : Machine K = leads.0 in
        let h = leads.1 in
        let here : m.dead ≡ None = alive_before app limits m v (Logged e ∷ moves) m.dead refl leads alive in
        let work : AtWork m = still_at_work m0 first m here o in
        let there : Reached app limits props inputs m = reached_on app lawful limits props inputs m0 m (Logged first ∷ o.done) r.reached (o.begun, o.logged, o.leads) in
        let open_work : m.work ≡ [] → ⊥ = λ none. work_open m here work.unit h.settled none in
        let serves : serves_item e ≡ true = matches_serves m.work e (matches_entry app lawful limits props inputs m u e there h) open_work in
        let next : Open m0 first u = more_done m0 m u first (Logged e) o h (serves, tt) (stays_on app first m0 m u open_work o.stays) in
        in_between t (first ∷ (entries (o.done ++ Logged e ∷ []) ++ entries moves)) (first ∷ (entries o.done ++ (e ∷ entries moves))) v
        (ap (λ (log : List Entry). first ∷ (log ++ entries moves)) (entries-append o.done (Logged e ∷ []))
        ∙ ap (λ (log : List Entry). first ∷ log) (append_assoc (entries o.done) (e ∷ []) (entries moves)))
        (open_ends moves t m0 first u v r next leads.2 alive unit)
