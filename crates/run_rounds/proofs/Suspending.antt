-- A render while suspended, unit by unit.
use Rattle.std.proofs.Common.{inl, ℕ, ◌+◌, ◌≤◌, Bool, true, false, ◌&&◌, nat_eq, List, [], ◌∷◌, ◌++◌, ◌≡◌, refl, sym, ap, ◌∙◌, subst, map, Result, Ok, Err, arith}
use Rattle.std.proofs.lemmas.Bool.{eqb-true}
use Rattle.std.proofs.lemmas.List.{append-nil, map-append}
use Rattle.std.specs.Prelude.{Option, Some, None, is_some, if◌then◌else◌}
pub use Rattle.rt_lemmas.proofs.Numbers.{eq_true as all_spent}
use Rattle.rt_edits.specs.declared.edit.Edit.{Edit}
use Rattle.tree_edits.specs.Documents.{edit_of}
use Rattle.rt_model.specs.Document as doc
use Rattle.rt_model.specs.Document.{Forest, DocFault, and_then, apply, document_after}
use Rattle.rt_model.specs.View.{view}
use Rattle.rt_model.specs.Lists.{first_of}
use Rattle.rt_model.specs.OneLog.{types}
use Rattle.rt_model.specs.World.{Application}
use Rattle.rt_model.specs.Laws.{IsLawful}
use Rattle.rt_model.specs.State as model
use Rattle.rt_model.specs.Next.{Work, owes}
use Rattle.rt_model.specs.Replay as replay
use Rattle.rt_model.specs.Causes as causes
use Rattle.rt_model.specs.Causes.{refusal, depth_refused, next_height, replay_within}
use Rattle.rt_model.specs.Told.{telling}
use Rattle.rt_model.specs.Asides.{Answered, resting}
use Rattle.rt_model.specs.Rendering.{rendering_rest, rendering_next, renders_within, resolved_by_height, nothing_resolved, spent_where}
use Rattle.rt_model.specs.Rendering as rendering
use Rattle.rt_values.specs.declared.names.ScopeId.{ScopeId}
use Rattle.law_moves.specs.Reports.{ToldSo}
use Rattle.law_behavior.specs.Doms.{LedTo, UnitRan}
use Rattle.law_behavior.proofs.Leading.{asides_lead}
use Rattle.law_behavior.proofs.Doms.{passed_leads, units_lead}
use Rattle.law_behavior.proofs.Counting.{units_follow}
use Rattle.run_outside.specs.Short.{PartBy}
use Rattle.run_outside.specs.declared.ended.Ended.{Ended}
use Rattle.run_machine.specs.declared.machine.Machine.{Machine}
use Rattle.run_machine.proofs.Running.{told_more}
use Rattle.run_outside.proofs.Short.{in_none}
use Rattle.run_machine.proofs.Turning.{grown_none}
use Rattle.run_rounds.specs.Rounds.{BrokeAlone, OpensFirst, RestsAt}
use Rattle.run_rounds.specs.Suspended.{UnitOn, UnitCutOn, RenderingOn, RenderedOn, RenderBroke, RenderCutOn}
use Rattle.run_rounds.specs.Steps.{Stepped}
use Rattle.run_rounds.proofs.Steps.{steps_more}
use Rattle.run_rounds.proofs.Units.{picked}

-- edits behind one another
after_join : (xs ys : List doc.Edit) (d a b : Forest) → document_after xs d ≡ Ok a → document_after ys a ≡ Ok b → document_after (xs ++ ys) d ≡ Ok b
after_join [] ys d a b first second = let same : d ≡ a = cc in ap (λ (f : Forest). document_after ys f) same ∙ second
after_join (e ∷ xs) ys d a b first second = by (λ f. after_join xs ys f a b) (apply e d) first
  where
    by : ((f : Forest) → document_after xs f ≡ Ok a → document_after ys a ≡ Ok b → document_after (xs ++ ys) f ≡ Ok b)
        → (r : Result Forest DocFault) → and_then r (λ f. document_after xs f) ≡ Ok a
        → and_then r (λ f. document_after (xs ++ ys) f) ≡ Ok b
    by on (Ok f) h = on f h second
    by on (Err fault) h = cc

-- one more unit is within the limit
pub below_next : (n l : ℕ) → n ≤ l → nat_eq n l ≡ false → n + 1 ≤ l
below_next n l h few = grind (arith, h, few)

-- a limit at which a unit is refused leaves room for none
pub no_room : (n l : ℕ) → n ≤ l → nat_eq n l ≡ false → nat_eq 0 l ≡ true → ⊥
no_room n l h few none =
    let on : n + 1 ≤ l = below_next n l h few in
    let all : 0 ≡ l = eqb-true 0 l none in
    omega (arith, on, all)

-- the fault with which a unit by itself stops is the one with which the render does
same_refusal : (u : ℕ) (d o : Option model.Fault) (b : Bool) (q : Option model.Fault) (fault : model.Fault)
    → first_of d (first_of o (if b then Some (model.OutOfTurns u) else None)) ≡ Some fault
    → (fault ≡ model.OutOfTurns u → ⊥)
    → first_of d (first_of o q) ≡ Some fault
same_refusal u (Some f) o b q fault h never = h
same_refusal u None (Some f) b q fault h never = h
same_refusal u None None true q fault h never = absurd (never (sym (one h)))
  where
    one : {a c : model.Fault} → Some a ≡ Some c → a ≡ c
    one k = cc
same_refusal u None None false q fault h never = cc

module _ {C Q V H T E L : Type 0} (app : Application (types C Q V H T E L)) (lawful : IsLawful (types C Q V H T E L) app)
    (limits : causes.Limits) (props : Q) (w : model.State (types C Q V H T E L)) where
  -- the rest was passed over
  pub passed_led : (x : model.State (types C Q V H T E L)) → LedTo app limits props false x → LedTo app limits props false (rendering_rest x)
  passed_led x led = (passed_leads app lawful limits props x led).0

  -- what shows once the rest was passed over
  passed_shows : (es : List doc.Edit) (x : model.State (types C Q V H T E L)) → LedTo app limits props false x
      → document_after es (view w) ≡ Ok (view x) → document_after es (view w) ≡ Ok (view (rendering_rest x))
  passed_shows es x led shows = shows ∙ ap (λ (d : Forest). Ok d) (sym (passed_leads app lawful limits props x led).1)

module _ {P C Q V H T E L : Type 0} (app : Application (types C Q V H T E L)) (lawful : IsLawful (types C Q V H T E L) app)
    (limits : causes.Limits) (props : Q) (w : model.State (types C Q V H T E L)) where
  -- no unit yet
  pub render_none : {calls : ℕ} (now : Option (List Edit)) (m : Machine P C Q V H T E L) → RestsAt w m calls → LedTo app limits props false w
      → RenderingOn app limits props w now now 0 m calls
  render_none now m rests led =
      record {
        wrote = [];
        told = grown_none now;
        log = [];
        left = w;
        goes = refl;
        below = omega arith;
        led = led;
        stepped = record { steps = []; told = refl; entries = refl; edits_are = refl };
        shows = refl;
        rests = rests;
      }

  -- one more unit
  pub render_more : {was calls : ℕ} (before now after : Option (List Edit)) (n k : ℕ) (work : Work) (old new : Machine P C Q V H T E L)
      → (h : RenderingOn app limits props w before now n old was)
      → k ≡ n + 1 → nat_eq n limits.units ≡ false
      → rendering_next h.left ≡ Some work
      → UnitOn app limits (rendering_rest h.left) now after new calls
      → RenderingOn app limits props w before after k new calls
  render_more before now after n k work old new h more few next u =
      let v : replay.Machine (types C Q V H T E L) = record (resting u.left) { units = u.units } in
      let ran : UnitRan app limits h.left (u.entry ∷ u.more) (map edit_of u.wrote) v =
      record { last = (u.ran).last; so = (u.ran).so; edits_are = (u.ran).edits_are; machine = (u.ran).machine; quiet = (u.ran).quiet } in
      let led = units_lead app lawful limits props h.left (u.entry ∷ u.more) (map edit_of u.wrote) v h.led ran in
      let accepted : replay_within app limits (Some (resting (rendering_rest h.left))) (u.entry ∷ u.more) ≡ Some v =
      (u.ran).so.accepted ∙ ap (λ (m : replay.Machine (types C Q V H T E L)). Some m) (u.ran).machine in
      record {
        wrote = h.wrote ++ u.wrote;
        told = told_more before now after h.wrote u.wrote h.told u.told;
        log = h.log ++ u.entry ∷ u.more;
        left = u.left;
        goes =
            units_follow app limits w h.left n h.log u.more u.entry work v h.goes few next u.shut accepted
            ∙ ap (λ (j : ℕ). Some (record (resting u.left) { units = j })) (sym more);
        below = subst (λ (j : ℕ). j ≤ limits.units) (sym more) (below_next n limits.units h.below few);
        led = led.0;
        stepped =
            subst (λ (es : List doc.Edit). Stepped app limits w (h.log ++ u.entry ∷ u.more) es u.left) (sym (map-append edit_of h.wrote u.wrote))
            (steps_more app limits w h.left u.left h.log (u.entry ∷ u.more) (map edit_of h.wrote) (map edit_of u.wrote) u.units h.stepped u.ran u.shut);
        shows =
            ap (λ (es : List doc.Edit). document_after es (view w)) (map-append edit_of h.wrote u.wrote)
            ∙ after_join (map edit_of h.wrote) (map edit_of u.wrote) (view w) (view h.left) (view u.left) h.shows led.1;
        rests = u.rests;
      }

  -- nothing may be taken any more
  pub render_ends : {calls : ℕ} (before after : Option (List Edit)) (n : ℕ) (answer : List ScopeId) (old new : Machine P C Q V H T E L)
      → (h : RenderingOn app limits props w before after n old calls)
      → rendering_next h.left ≡ None
      → map (λ (scope : ScopeId). scope.0) answer ≡ resolved_by_height (rendering_rest h.left)
      → RestsAt (nothing_resolved (rendering_rest h.left)) new calls
      → RenderedOn app limits w props before after answer new calls
  render_ends before after n answer old new h none answers rests =
      record {
        wrote = h.wrote;
        told = h.told;
        log = h.log;
        left = rendering_rest h.left;
        went =
            record {
              last = record (resting h.left) { units = n };
              goes = h.goes;
              done = ap (λ (o : Option Work). rendering.entry_of o) none;
              rest = refl;
              stepped = h.stepped;
            };
        shows = passed_shows app lawful limits props w (map edit_of h.wrote) h.left h.led h.shows;
        answers = answers;
        led =
            asides_lead app limits props false lawful (rendering_rest h.left) Answered (passed_leads app lawful limits props h.left h.led).0 tt (inl tt);
        rests = rests;
      }

  -- units were spent
  pub render_spent : {calls : ℕ} (before after : Option (List Edit)) (n : ℕ) (work : Work) (fault : model.Fault) (old new : Machine P C Q V H T E L)
      → (h : RenderingOn app limits props w before after n old calls)
      → nat_eq n limits.units ≡ true
      → fault ≡ model.OutOfTurns limits.units
      → rendering_next h.left ≡ Some work
      → RestsAt (rendering_rest h.left) new calls
      → RenderCutOn app limits w props before after fault new calls
  render_spent before after n work fault old new h all out next rests =
      record {
        wrote = h.wrote;
        told = h.told;
        log = h.log;
        last = record (resting h.left) { units = n };
        goes = h.goes;
        cause =
            ap (λ (b : Bool). if b && is_some (rendering_next h.left) then Some (model.OutOfTurns limits.units) else None) all
            ∙ ap (λ (o : Option Work). if is_some o then Some (model.OutOfTurns limits.units) else None) next
            ∙ ap (λ (f : model.Fault). Some f) (sym out);
        taken =
            record {
              earlier = h.log;
              unit = [];
              whole = sym (append-nil h.log);
              far = record { left = h.left; units = n; goes = h.goes; done = h.wrote; stepped = h.stepped; shows = h.shows };
              last = telling (resting (rendering_rest h.left));
              so = record { accepted = refl; told = refl };
              part = [];
              edits_are = refl;
              all = sym (append-nil h.wrote);
            };
        stepped = λ units is. h.stepped;
        spent =
            λ units is. (
              passed_shows app lawful limits props w (map edit_of h.wrote) h.left h.led h.shows,
              passed_led app lawful limits props w h.left h.led,
              rests,
            );
      }

  -- a unit came to a fault
  pub render_cut : {was : ℕ} (calls : ℕ) (before now after : Option (List Edit)) (n : ℕ) (work : Work) (fault : model.Fault) (old new : Machine P C Q V H T E L)
      → (h : RenderingOn app limits props w before now n old was)
      → nat_eq n limits.units ≡ false
      → rendering_next h.left ≡ Some work
      → UnitCutOn app limits (rendering_rest h.left) now after fault
      → RenderCutOn app limits w props before after fault new calls
  render_cut calls before now after n work fault old new h few next u = by u.log u.opened u.so
    where
      turns : {A : Type 0} → (units : ℕ) → fault ≡ model.OutOfTurns units → A
      turns units out = absurd (no_room n limits.units h.below few (u.never units out))

      by : (log : List replay.Entry) → OpensFirst log
          → ToldSo app limits (resting (rendering_rest h.left)) log u.last
          → RenderCutOn app limits w props before after fault new calls
      by [] opened so =
          let m : replay.Machine (types C Q V H T E L) = resting (rendering_rest h.left) in
          let all : nat_eq 0 limits.units ≡ true =
          picked (nat_eq 0 limits.units) (owes (rendering_rest h.left)) (model.OutOfTurns limits.units) fault
          (ap (λ (d : replay.Machine (types C Q V H T E L)). refusal limits d) (one m (u.last).machine so.accepted) ∙ u.cause) in
          absurd (no_room n limits.units h.below few all)
        where
          one : (a b : replay.Machine (types C Q V H T E L)) → Some a ≡ Some b → a ≡ b
          one a b k = cc
      by (e ∷ more) opened so =
          record {
            wrote = h.wrote ++ u.wrote;
            told = told_more before now after h.wrote u.wrote h.told u.told;
            log = h.log ++ e ∷ more;
            last = record ((u.last).machine) { units = n + 1 };
            goes = units_follow app limits w h.left n h.log more e work (u.last).machine h.goes few next opened so.accepted;
            cause =
                same_refusal limits.units ((u.last).machine).dead (depth_refused limits (next_height (u.last).machine))
                (((u.last).machine).built && replay.is_quiet (u.last).machine && nat_eq ((u.last).machine).units limits.units && owes ((u.last).machine).state)
                (spent_where app limits (record ((u.last).machine) { units = n + 1 }) (rendering_next ((u.last).machine).state)) fault u.cause
                (λ out. turns limits.units out);
            taken =
                record {
                  earlier = h.log;
                  unit = e ∷ more;
                  whole = refl;
                  far = record { left = h.left; units = n; goes = h.goes; done = h.wrote; stepped = h.stepped; shows = h.shows };
                  last = u.last;
                  so = so;
                  part = u.wrote;
                  edits_are = u.edits_are;
                  all = refl;
                };
            stepped = λ units out. turns units out;
            spent = λ units out. turns units out;
          }

  -- it broke off before another unit
  pub render_halts : {calls : ℕ} (before now : Option (List Edit)) (n : ℕ) (m : Machine P C Q V H T E L) (ended : Ended)
      → (h : RenderingOn app limits props w before now n m calls)
      → PartBy ended [] []
      → RenderBroke app limits w before now (PartBy ended)
  render_halts before now n m ended h none =
      record {
        log = h.log;
        far = record { left = h.left; units = n; goes = h.goes; done = h.wrote; stepped = h.stepped; shows = h.shows };
        part = [];
        told = told_more before now now h.wrote [] h.told (grown_none now);
        short =
            (in_none app limits (PartBy ended) (resting (rendering_rest h.left)) (record { alive = refl; idle = refl; unit = refl }) none).short;
        alone = tt;
        last = record (resting h.left) { units = n };
        within = ap (λ (l : List replay.Entry). renders_within app limits (Some (resting w)) l) (append-nil h.log) ∙ h.goes;
      }

  -- the entries of one more unit, or none, are ones that it may take
  takes_one : {calls : ℕ} (before now : Option (List Edit)) (n : ℕ) (work : Work) (m : Machine P C Q V H T E L)
      → (h : RenderingOn app limits props w before now n m calls)
      → nat_eq n limits.units ≡ false
      → rendering_next h.left ≡ Some work
      → (l : List replay.Entry) (v : replay.Machine (types C Q V H T E L)) → OpensFirst l
      → replay_within app limits (Some (resting (rendering_rest h.left))) l ≡ Some v
      → (last : replay.Machine (types C Q V H T E L)) × (renders_within app limits (Some (resting w)) (h.log ++ l) ≡ Some last)
  takes_one before now n work m h few next [] v opened accepted = (
    record (resting h.left) { units = n },
    ap (λ (l : List replay.Entry). renders_within app limits (Some (resting w)) l) (append-nil h.log) ∙ h.goes,
  )
  takes_one before now n work m h few next (e ∷ more) v opened accepted = (
    record v { units = n + 1 },
    units_follow app limits w h.left n h.log more e work v h.goes few next opened accepted,
  )

  -- it broke off in one more unit
  pub render_broke : {calls : ℕ} (before now after : Option (List Edit)) (n : ℕ) (work : Work) (m : Machine P C Q V H T E L) (ended : Ended)
      → (h : RenderingOn app limits props w before now n m calls)
      → nat_eq n limits.units ≡ false
      → rendering_next h.left ≡ Some work
      → BrokeAlone app limits (resting (rendering_rest h.left)) now after (PartBy ended)
      → RenderBroke app limits w before after (PartBy ended)
  render_broke before now after n work m ended h few next alone =
      let broke = alone.broke in
      let short = broke.short in
      let far = takes_one before now n work m h few next (short.log ++ short.unit) (short.last).machine alone.alone (short.cut).accepted in
      record {
        log = h.log;
        far = record { left = h.left; units = n; goes = h.goes; done = h.wrote; stepped = h.stepped; shows = h.shows };
        part = broke.wrote;
        told = told_more before now after h.wrote broke.wrote h.told broke.told;
        short = short;
        alone = alone.alone;
        last = far.0;
        within = far.1;
      }
