-- Batch after batch of marks, what is so at their spots goes on to be so.
use Rattle.std.proofs.Common.{ℕ, List, [], ◌∷◌, ◌++◌, ◌≡◌, map, refl, sym, ap, subst, ◌∙◌, append-nil, append_assoc}
use Rattle.rt_values.specs.declared.names.ScopeId.{ScopeId}
use Rattle.rt_edits.specs.declared.doc_node.DocNode.{DocNode}
use Rattle.rt_model.specs.Lists.{joined}
use Rattle.rt_model.specs.OneLog.{types}
use Rattle.rt_model.specs.Tree as model
use Rattle.rt_model.specs.Tree.{Place, Kind, Spot}
use Rattle.rt_model.specs.World.{Application}
use Rattle.tree_marks.specs.Marks.{Mark, comes, made}
use Rattle.tree_mirror.specs.Sealed.{component_of}
use Rattle.run_places.specs.declared.place.Step.{Step}
use Rattle.run_places.specs.Places.{place_of, side_of}
use Rattle.run_places.specs.Sides.{and_number}
use Rattle.run_work.proofs.Joins.{joined_append}
use Rattle.run_work.proofs.Walking.{mapped}
use Rattle.rt_tree.specs.declared.patch.Patch.{Patch}
use Rattle.rt_tree.specs.declared.patch.Phase.{Phase}
use Rattle.rt_tree.specs.declared.patch.Phase.TheVariants as phase
use Rattle.rt_tree.specs.declared.step.PatchStep.{PatchStep}
use Rattle.rt_tree.specs.declared.step.PatchStep.TheVariants as s
use Rattle.rt_tree.specs.Awaits.{awaited, awaits, no_answer, a_scope}
use Rattle.rt_tree.specs.Does.{AllStill, DoneBy, IsStill}
use Rattle.rt_tree.specs.Gives.{Gives}
use Rattle.rt_tree.specs.Grows.{Grows}
use Rattle.rt_tree.specs.Runs.{Runs, passed_by, stays, steps, gives}
use Rattle.rt_tree.proofs.Growing.{give_grows, step_grows}
use Rattle.rt_tree.proofs.Running.{firsts}
use Rattle.rt_tree.proofs.Stilled.{all_still}
use Rattle.law_served.specs.KnownSpots.{Each, KnownBehind, StartsWith}

module _ {P C Q V H T E L : Type 0} (At : Patch P C Q V H T E L → Spot (types C Q V H T E L) → Type 0)
    (spots_of_mark : Mark (types C Q V H T E L) → List (Spot (types C Q V H T E L)))
    (grown : (q n : Patch P C Q V H T E L) → Grows q n → (spot : Spot (types C Q V H T E L)) → At q spot → At n spot)
    (draws : (q n : Patch P C Q V H T E L) (place : Place) (kind : Kind) (i : ℕ) → side_of n.new.side ≡ and_number (side_of q.new.side) (place, kind, i) → Each At n (spots_of_mark (comes place kind)))
    (seats : (q n : Patch P C Q V H T E L) (place : List Step) (scope : ScopeId) (nodes : List DocNode) (c : model.VComponent (types C Q V H T E L)) → q.phase ≡ phase.Make place → Gives q scope nodes n
    → Each At n (spots_of_mark (made (place_of place) c))) where
  -- the spots of some marks
  abbrev of_all : List (Mark (types C Q V H T E L)) → List (Spot (types C Q V H T E L))
  of_all ms = joined (map spots_of_mark ms)

  -- a component came, and its child scope is waited for
  pub record Pending (p : Patch P C Q V H T E L) (place : List Step) (front : List (Mark (types C Q V H T E L))) : Type 0 where
    pub before : List (Mark (types C Q V H T E L))
    pub component : model.VComponent (types C Q V H T E L)
    pub is : front ≡ before ++ made (place_of place) component ∷ []
    pub known : Each At p (of_all before)

  -- what is so of the marks that were passed, by what is waited for
  abbrev pub ReadyBy : Phase → Patch P C Q V H T E L → List (Mark (types C Q V H T E L)) → Type 0
  ReadyBy phase.Free p front = Each At p (of_all front)
  ReadyBy (phase.Make place) p front = Pending p place front
  ReadyBy (phase.Asked named) p front = Each At p (of_all front)

  pub begins : (ph : Phase) (p : Patch P C Q V H T E L) → awaited ph ≡ no_answer → ReadyBy ph p []
  begins phase.Free p none = tt
  begins (phase.Make place) p none = absurd (let e : ⊥ = cc none in e)
  begins (phase.Asked named) p none = tt

  pub ready_free : (ph : Phase) (p : Patch P C Q V H T E L) (front : List (Mark (types C Q V H T E L))) → awaited ph ≡ no_answer → ReadyBy ph p front → Each At p (of_all front)
  ready_free phase.Free p front none h = h
  ready_free (phase.Make place) p front none h = absurd (let e : ⊥ = cc none in e)
  ready_free (phase.Asked named) p front none h = h

  ready_known : (ph : Phase) (p : Patch P C Q V H T E L) (front : List (Mark (types C Q V H T E L))) → (awaited ph ≡ a_scope → ⊥) → Each At p (of_all front) → ReadyBy ph p front
  ready_known phase.Free p front other h = h
  ready_known (phase.Make place) p front other h = absurd (other refl)
  ready_known (phase.Asked named) p front other h = h

  -- some spots, and then others
  each_both : (p : Patch P C Q V H T E L) (ss ts : List (Spot (types C Q V H T E L))) → Each At p ss → Each At p ts → Each At p (ss ++ ts)
  each_both p [] ts h g = g
  each_both p (spot ∷ ss) ts h g = (h.0, each_both p ss ts h.1 g)

  each_grown : (q n : Patch P C Q V H T E L) → Grows q n → (ss : List (Spot (types C Q V H T E L))) → Each At q ss → Each At n ss
  each_grown q n gr [] h = tt
  each_grown q n gr (spot ∷ ss) h = (grown q n gr spot h.0, each_grown q n gr ss h.1)

  -- one mark more
  one_more : (p : Patch P C Q V H T E L) (front : List (Mark (types C Q V H T E L))) (m : Mark (types C Q V H T E L)) → Each At p (of_all front) → Each At p (spots_of_mark m) → Each At p (of_all (front ++ m ∷ []))
  one_more p front m h g =
      subst (λ (ss : List (Spot (types C Q V H T E L))). Each At p ss)
      (sym (joined_append spots_of_mark front (m ∷ []) ∙ ap (λ (ss : List (Spot (types C Q V H T E L))). of_all front ++ ss) (append-nil (spots_of_mark m))))
      (each_both p (of_all front) (spots_of_mark m) h g)

  -- from the start at some marks, and at others
  starts_front : (p : Patch P C Q V H T E L) (ms ns : List (Mark (types C Q V H T E L))) → StartsWith At spots_of_mark p (ms ++ ns) → StartsWith At spots_of_mark p ms
  starts_front p [] ns h = tt
  starts_front p (m ∷ ms) ns h = (h.0, starts_front p ms ns h.1)

  starts_back : (p : Patch P C Q V H T E L) (ms ns : List (Mark (types C Q V H T E L))) → StartsWith At spots_of_mark p (ms ++ ns) → StartsWith At spots_of_mark p ns
  starts_back p [] ns h = h
  starts_back p (m ∷ ms) ns h = starts_back p ms ns h.1

  starts_grown : (q n : Patch P C Q V H T E L) → Grows q n → (ms : List (Mark (types C Q V H T E L))) → StartsWith At spots_of_mark q ms → StartsWith At spots_of_mark n ms
  starts_grown q n gr [] h = tt
  starts_grown q n gr (m ∷ ms) h = (λ still. each_grown q n gr (spots_of_mark m) (h.0 still), starts_grown q n gr ms h.1)

  -- marks at which nothing new comes
  still_known : (p : Patch P C Q V H T E L) (front over : List (Mark (types C Q V H T E L))) → AllStill over → StartsWith At spots_of_mark p over → Each At p (of_all front) → Each At p (of_all (front ++ over))
  still_known p front [] still start h = subst (λ (ms : List (Mark (types C Q V H T E L))). Each At p (of_all ms)) (sym (append-nil front)) h
  still_known p front (m ∷ ms) still start h =
      subst (λ (ns : List (Mark (types C Q V H T E L))). Each At p (of_all ns)) (append_assoc front (m ∷ []) ms)
      (still_known p (front ++ m ∷ []) ms still.1 start.1 (one_more p front m h (start.0 still.0)))

  -- a batch at which nothing new comes
  still_batch : (p : Patch P C Q V H T E L) (front over : List (Mark (types C Q V H T E L))) (more : List (Mark (types C Q V H T E L) × Patch P C Q V H T E L))
      → AllStill over → StartsWith At spots_of_mark p over → Each At p (of_all front) → KnownBehind At spots_of_mark (front ++ over) more → KnownBehind At spots_of_mark front (passed_by p over ++ more)
  still_batch p front [] more still start h rest = subst (λ (ms : List (Mark (types C Q V H T E L))). KnownBehind At spots_of_mark ms more) (append-nil front) rest
  still_batch p front (m ∷ ms) more still start h rest = (
    h,
    still_batch p (front ++ m ∷ []) ms more still.1 start.1 (one_more p front m h (start.0 still.0))
        (subst (λ (ns : List (Mark (types C Q V H T E L))). KnownBehind At spots_of_mark ns more) (sym (append_assoc front (m ∷ []) ms)) rest),
  )

  -- and one mark behind it
  last_batch : (p : Patch P C Q V H T E L) (front over passed : List (Mark (types C Q V H T E L))) (m : Mark (types C Q V H T E L))
      (more : List (Mark (types C Q V H T E L) × Patch P C Q V H T E L)) → passed ≡ over ++ m ∷ [] → AllStill over → StartsWith At spots_of_mark p passed
      → Each At p (of_all front) → KnownBehind At spots_of_mark (front ++ passed) more → KnownBehind At spots_of_mark front (passed_by p passed ++ more)
  last_batch p front over passed m more is still start h rest =
      let begun : StartsWith At spots_of_mark p (over ++ m ∷ []) = subst (λ (ms : List (Mark (types C Q V H T E L))). StartsWith At spots_of_mark p ms) is start in
      let begun_over : StartsWith At spots_of_mark p over = starts_front p over (m ∷ []) begun in
      let behind : KnownBehind At spots_of_mark ((front ++ over) ++ m ∷ []) more =
      subst (λ (ms : List (Mark (types C Q V H T E L))). KnownBehind At spots_of_mark ms more) (ap (λ (ms : List (Mark (types C Q V H T E L))). front ++ ms) is ∙ sym (append_assoc front over (m ∷ []))) rest in
      let batch : KnownBehind At spots_of_mark front (passed_by p over ++ ((m, p) ∷ more)) =
      still_batch p front over ((m, p) ∷ more) still begun_over h (still_known p front over still begun_over h, behind) in
      subst (λ (ms : List (Mark (types C Q V H T E L) × Patch P C Q V H T E L)). KnownBehind At spots_of_mark front ms)
      (sym
      (ap (λ (ms : List (Mark (types C Q V H T E L))). passed_by p ms ++ more) is
      ∙ ap (λ (xs : List (Mark (types C Q V H T E L) × Patch P C Q V H T E L)). xs ++ more) (mapped (λ (n : Mark (types C Q V H T E L)). (n, p)) over (m ∷ []))
      ∙ append_assoc (passed_by p over) ((m, p) ∷ []) more))
      batch

  module _ (q n : Patch P C Q V H T E L) (gr : Grows q n) (front : List (Mark (types C Q V H T E L))) (known : Each At q (of_all front)) where
    -- where nothing new came it goes on to be so
    rest_ready : (passed : List (Mark (types C Q V H T E L))) → AllStill passed → StartsWith At spots_of_mark q passed → (awaited n.phase ≡ a_scope → ⊥)
        → ReadyBy n.phase n (front ++ passed)
    rest_ready passed still start other =
        ready_known n.phase n (front ++ passed) other (each_grown q n gr (of_all (front ++ passed)) (still_known q front passed still start known))

    -- after the step it is so at the spots of the last mark, too
    last_ready : (over passed : List (Mark (types C Q V H T E L))) (m : Mark (types C Q V H T E L)) → passed ≡ over ++ m ∷ [] → AllStill over → StartsWith At spots_of_mark q passed
        → Each At n (spots_of_mark m) → (awaited n.phase ≡ a_scope → ⊥) → ReadyBy n.phase n (front ++ passed)
    last_ready over passed m is still start here other =
        let begun : StartsWith At spots_of_mark q (over ++ m ∷ []) = subst (λ (ms : List (Mark (types C Q V H T E L))). StartsWith At spots_of_mark q ms) is start in
        let before : Each At n (of_all (front ++ over)) =
        each_grown q n gr (of_all (front ++ over)) (still_known q front over still (starts_front q over (m ∷ []) begun) known) in
        ready_known n.phase n (front ++ passed) other
        (subst (λ (ms : List (Mark (types C Q V H T E L))). Each At n (of_all ms))
        (append_assoc front over (m ∷ []) ∙ ap (λ (ms : List (Mark (types C Q V H T E L))). front ++ ms) (sym is))
        (one_more n (front ++ over) m before here))

    -- so it is after any step
    step_ready : (step : PatchStep P C Q V H T E L) (passed : List (Mark (types C Q V H T E L))) → DoneBy passed q step n → awaited n.phase ≡ awaits step
        → StartsWith At spots_of_mark q passed → ReadyBy n.phase n (front ++ passed)
    step_ready (s.Drawn id places path) passed does waits start =
        let one = does.holds in
        let here : Each At n (spots_of_mark does.mark) =
        subst (λ (m : Mark (types C Q V H T E L)). Each At n (spots_of_mark m)) (sym one.mark) (draws q n one.place one.kind id.0 one.side) in
        last_ready does.front passed does.mark does.is (all_still (side_of q.old).children does.front does.still) start here (λ e. let absurdity : ⊥ = cc (sym waits ∙ e) in absurdity)
    step_ready (s.Make component) passed does waits start =
        let one = does.holds in
        let begun : StartsWith At spots_of_mark q (does.front ++ does.mark ∷ []) = subst (λ (ms : List (Mark (types C Q V H T E L))). StartsWith At spots_of_mark q ms) does.is start in
        let pending : Pending n one.steps (front ++ passed) =
        record {
          before = front ++ does.front;
          component = component_of component;
          is =
              ap (λ (ms : List (Mark (types C Q V H T E L))). front ++ ms) does.is
              ∙ sym (append_assoc front does.front (does.mark ∷ []))
              ∙ ap (λ (m : Mark (types C Q V H T E L)). (front ++ does.front) ++ m ∷ []) one.mark;
          known = each_grown q n gr (of_all (front ++ does.front)) (still_known q front does.front (all_still (side_of q.old).children does.front does.still) (starts_front q does.front (does.mark ∷ []) begun) known);
        } in
        subst (λ (ph : Phase). ReadyBy ph n (front ++ passed)) (sym one.phase) pending
    step_ready (s.Feed scope component) passed does waits start =
        let one = does.holds in
        let begun : StartsWith At spots_of_mark q (does.front ++ does.mark ∷ []) = subst (λ (ms : List (Mark (types C Q V H T E L))). StartsWith At spots_of_mark q ms) does.is start in
        let still : IsStill does.mark = subst (λ (m : Mark (types C Q V H T E L)). IsStill m) (sym one.mark) tt in
        let there : Each At q (spots_of_mark does.mark) = (starts_back q does.front (does.mark ∷ []) begun).0 still in
        last_ready does.front passed does.mark does.is (all_still (side_of q.old).children does.front does.still) start (each_grown q n gr (spots_of_mark does.mark) there)
        (λ e. let absurdity : ⊥ = cc (sym waits ∙ e) in absurdity)
    step_ready (s.Nodes scope) passed does waits start = rest_ready passed (all_still (side_of q.old).children passed does.still) start (λ e. let absurdity : ⊥ = cc (sym waits ∙ e) in absurdity)
    step_ready (s.Edit edit) passed does waits start = rest_ready passed (all_still (side_of q.old).children passed does.still) start (λ e. let absurdity : ⊥ = cc (sym waits ∙ e) in absurdity)
    step_ready (s.Remove scope) passed does waits start = rest_ready passed (all_still (side_of q.old).children passed does.still) start (λ e. let absurdity : ⊥ = cc (sym waits ∙ e) in absurdity)
    step_ready (s.Gone id) passed does waits start = rest_ready passed (all_still (side_of q.old).children passed does.still) start (λ e. let absurdity : ⊥ = cc (sym waits ∙ e) in absurdity)
    step_ready s.Done passed does waits start = rest_ready passed (all_still (side_of q.old).children passed does.still) start (λ e. let absurdity : ⊥ = cc (sym waits ∙ e) in absurdity)

    module _ (more : List (Mark (types C Q V H T E L) × Patch P C Q V H T E L)) where
      -- the marks that a step passes, and those behind them
      step_batch : (step : PatchStep P C Q V H T E L) (passed : List (Mark (types C Q V H T E L))) → DoneBy passed q step n → StartsWith At spots_of_mark q passed
          → KnownBehind At spots_of_mark (front ++ passed) more → KnownBehind At spots_of_mark front (passed_by q passed ++ more)
      step_batch (s.Drawn id places path) passed does start rest =
          last_batch q front does.front passed does.mark more does.is (all_still (side_of q.old).children does.front does.still) start known rest
      step_batch (s.Make component) passed does start rest =
          last_batch q front does.front passed does.mark more does.is (all_still (side_of q.old).children does.front does.still) start known rest
      step_batch (s.Feed scope component) passed does start rest =
          last_batch q front does.front passed does.mark more does.is (all_still (side_of q.old).children does.front does.still) start known rest
      step_batch (s.Nodes scope) passed does start rest = still_batch q front passed more (all_still (side_of q.old).children passed does.still) start known rest
      step_batch (s.Edit edit) passed does start rest = still_batch q front passed more (all_still (side_of q.old).children passed does.still) start known rest
      step_batch (s.Remove scope) passed does start rest = still_batch q front passed more (all_still (side_of q.old).children passed does.still) start known rest
      step_batch (s.Gone id) passed does start rest = still_batch q front passed more (all_still (side_of q.old).children passed does.still) start known rest
      step_batch s.Done passed does start rest = still_batch q front passed more (all_still (side_of q.old).children passed does.still) start known rest

  -- what is given is the child scope that was waited for
  gave_known : (q n : Patch P C Q V H T E L) (scope : ScopeId) (nodes : List DocNode) (front : List (Mark (types C Q V H T E L))) (ph : Phase) → q.phase ≡ ph → Gives q scope nodes n
      → ReadyBy ph q front → Each At n (of_all front)
  gave_known q n scope nodes front phase.Free is g h = each_grown q n (give_grows q n scope nodes g) (of_all front) h
  gave_known q n scope nodes front (phase.Make place) is g h =
      subst (λ (ms : List (Mark (types C Q V H T E L))). Each At n (of_all ms)) (sym h.is)
      (one_more n h.before (made (place_of place) h.component) (each_grown q n (give_grows q n scope nodes g) (of_all h.before) h.known) (seats q n place scope nodes h.component is g))
  gave_known q n scope nodes front (phase.Asked named) is g h = each_grown q n (give_grows q n scope nodes g) (of_all front) h

  -- the marks of a step, and of those behind it
  marks_of_step : (q : Patch P C Q V H T E L) (passed : List (Mark (types C Q V H T E L))) (more : List (Mark (types C Q V H T E L) × Patch P C Q V H T E L))
      → map (λ x. x.0) (passed_by q passed ++ more) ≡ passed ++ map (λ x. x.0) more
  marks_of_step q passed more =
      mapped (λ (x : Mark (types C Q V H T E L) × Patch P C Q V H T E L). x.0) (passed_by q passed) more
      ∙ ap (λ (ms : List (Mark (types C Q V H T E L))). ms ++ map (λ x. x.0) more) (firsts q passed)

  starts_all : (q : Patch P C Q V H T E L) (passed : List (Mark (types C Q V H T E L))) (more : List (Mark (types C Q V H T E L) × Patch P C Q V H T E L))
      → StartsWith At spots_of_mark q (map (λ x. x.0) (passed_by q passed ++ more)) → StartsWith At spots_of_mark q (passed ++ map (λ x. x.0) more)
  starts_all q passed more start = subst (λ (ms : List (Mark (types C Q V H T E L))). StartsWith At spots_of_mark q ms) (marks_of_step q passed more) start

  -- after an answer
  give_ready : (q n : Patch P C Q V H T E L) (scope : ScopeId) (nodes : List DocNode) (front : List (Mark (types C Q V H T E L))) → Gives q scope nodes n → awaited n.phase ≡ no_answer
      → ReadyBy q.phase q front → ReadyBy n.phase n front
  give_ready q n scope nodes front g free ready =
      ready_known n.phase n front (λ e. let absurdity : ⊥ = cc (sym free ∙ e) in absurdity) (gave_known q n scope nodes front q.phase refl g ready)

  module _ (app : Application (types C Q V H T E L)) where
    pub known_run : (front : List (Mark (types C Q V H T E L))) (p r : Patch P C Q V H T E L) (ss : List (PatchStep P C Q V H T E L)) (met : List (Mark (types C Q V H T E L) × Patch P C Q V H T E L))
        → Runs app p ss met r → ReadyBy p.phase p front → StartsWith At spots_of_mark p (map (λ x. x.0) met) → KnownBehind At spots_of_mark front met
    known_run front p r ss met (stays q) ready start = tt
    known_run front p r ss met (steps q n last step fs more free served leaves waits run) ready start =
        let gr : Grows q n = step_grows q n served.passed step served.does leaves in
        let behind : List (Mark (types C Q V H T E L)) = map (λ x. x.0) more in
        let all : StartsWith At spots_of_mark q (served.passed ++ behind) = starts_all q served.passed more start in
        let known : Each At q (of_all front) = ready_free q.phase q front free ready in
        let begun : StartsWith At spots_of_mark q served.passed = starts_front q served.passed behind all in
        step_batch q n gr front known more step served.passed served.does begun
        (known_run (front ++ served.passed) n r fs more run (step_ready q n gr front known step served.passed served.does waits begun)
        (starts_grown q n gr behind (starts_back q served.passed behind all)))
    known_run front p r ss met (gives q n last scope nodes fs more asked g free run) ready start =
        known_run front n r fs more run (give_ready q n scope nodes front g free ready) (starts_grown q n (give_grows q n scope nodes g) (map (λ x. x.0) more) start)

    -- and so it is at the spots of all marks in the end
    pub ready_run : (front : List (Mark (types C Q V H T E L))) (p r : Patch P C Q V H T E L) (ss : List (PatchStep P C Q V H T E L)) (met : List (Mark (types C Q V H T E L) × Patch P C Q V H T E L))
        → Runs app p ss met r → ReadyBy p.phase p front → StartsWith At spots_of_mark p (map (λ x. x.0) met) → ReadyBy r.phase r (front ++ map (λ x. x.0) met)
    ready_run front p r ss met (stays q) ready start = subst (λ (ms : List (Mark (types C Q V H T E L))). ReadyBy q.phase q ms) (sym (append-nil front)) ready
    ready_run front p r ss met (steps q n last step fs more free served leaves waits run) ready start =
        let gr : Grows q n = step_grows q n served.passed step served.does leaves in
        let behind : List (Mark (types C Q V H T E L)) = map (λ x. x.0) more in
        let all : StartsWith At spots_of_mark q (served.passed ++ behind) = starts_all q served.passed more start in
        let known : Each At q (of_all front) = ready_free q.phase q front free ready in
        let begun : StartsWith At spots_of_mark q served.passed = starts_front q served.passed behind all in
        subst (λ (ms : List (Mark (types C Q V H T E L))). ReadyBy r.phase r ms)
        (append_assoc front served.passed behind ∙ ap (λ (ms : List (Mark (types C Q V H T E L))). front ++ ms) (sym (marks_of_step q served.passed more)))
        (ready_run (front ++ served.passed) n r fs more run (step_ready q n gr front known step served.passed served.does waits begun)
        (starts_grown q n gr behind (starts_back q served.passed behind all)))
    ready_run front p r ss met (gives q n last scope nodes fs more asked g free run) ready start =
        ready_run front n r fs more run (give_ready q n scope nodes front g free ready) (starts_grown q n (give_grows q n scope nodes g) (map (λ x. x.0) more) start)
