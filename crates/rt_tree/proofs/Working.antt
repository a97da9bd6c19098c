-- Step after step the work is done that marks open.
use Rattle.std.proofs.Common.{ℕ, List, [], ◌∷◌, ◌++◌, ◌≡◌, map, refl, sym, ap, subst, ◌∙◌, append-nil, append_assoc}
use Rattle.std.specs.Prelude.{None, Some}
use Rattle.rt_model.specs.Lists.{joined}
use Rattle.rt_model.specs.OneLog.{types}
use Rattle.rt_model.specs.Run.{child_at}
use Rattle.rt_model.specs.State.{SideName, Item, Draw, Feed, Make}
use Rattle.rt_model.specs.Tree.{Types, Place, Kind}
use Rattle.rt_model.specs.World.{Application}
use Rattle.rt_model.proofs.Maps.{none_some}
use Rattle.tree_marks.specs.Deeds.{work_at}
use Rattle.tree_marks.specs.Marks.{Mark, stays, goes, comes, fed, left, made, given, worded, slot_goes, tree_goes, slot_way, tree_way, come_in, go_out, lone}
use Rattle.tree_mirror.specs.Sealed.{component_of}
use Rattle.run_places.specs.declared.side.Side.{Side}
use Rattle.run_places.specs.Places.{place_of, side_of}
use Rattle.run_work.proofs.Joins.{joined_append}
use Rattle.run_work.proofs.Walking.{mapped}
use Rattle.rt_tree.specs.declared.patch.Patch.{Patch}
use Rattle.rt_tree.specs.declared.step.PatchStep.{PatchStep}
use Rattle.rt_tree.specs.declared.step.PatchStep.TheVariants as s
use Rattle.rt_tree.specs.Does.{AllQuiet, DoneBy, IsQuiet}
use Rattle.rt_tree.specs.Runs.{Runs, passed_by}
use Rattle.rt_tree.specs.Runs as run
use Rattle.rt_tree.specs.Works.{AllHave, HasChild, Works, WorksOn}
use Rattle.rt_tree.proofs.Growing.{seated_by}
use Rattle.rt_tree.proofs.Running.{firsts}

module _ {K : Types} (scope : ℕ) (side : SideName) (children : List (Place × ℕ)) where
  -- a mark at which nothing is done opens no work
  unworked : (m : Mark K) → IsQuiet children m → HasChild children m → work_at scope side m ≡ []
  unworked (stays p k) quiet has = refl
  unworked (goes p k) quiet has = refl
  unworked (comes p k) quiet has = absurd quiet
  unworked (fed p c d) quiet has = none_some quiet has.1
  unworked (left p c) quiet has = refl
  unworked (made p d) quiet has = absurd quiet
  unworked (given above whole new old) quiet has = refl
  unworked (worded p new old) quiet has = refl
  unworked (slot_goes p old) quiet has = refl
  unworked (tree_goes above old) quiet has = refl
  unworked (slot_way p new old) quiet has = refl
  unworked (tree_way above new old) quiet has = refl
  unworked (come_in p front i new) quiet has = refl
  unworked (go_out p i old) quiet has = refl
  unworked (lone p new) quiet has = refl

  all_unworked : (ms : List (Mark K)) → AllQuiet children ms → AllHave children ms → joined (map (λ m. work_at scope side m) ms) ≡ []
  all_unworked [] quiet have = refl
  all_unworked (m ∷ ms) quiet have = (λ t. unworked m quiet.0 have.0 t ++ all_unworked ms quiet.1 have.1 t)

  -- of the first of some marks, and of the others
  have_front : (ms ns : List (Mark K)) → AllHave children (ms ++ ns) → AllHave children ms
  have_front [] ns have = tt
  have_front (m ∷ ms) ns have = (have.0, have_front ms ns have.1)

  have_back : (ms ns : List (Mark K)) → AllHave children (ms ++ ns) → AllHave children ns
  have_back [] ns have = have
  have_back (m ∷ ms) ns have = have_back ms ns have.1

module _ {P C Q V H T E L : Type 0} (scope : ℕ) (side : SideName) (q n : Patch P C Q V H T E L) where
  -- what is opened by marks of which the last alone opens work
  by_last : (children : List (Place × ℕ)) (passed front : List (Mark (types C Q V H T E L))) (m : Mark (types C Q V H T E L)) (item : Item (types C Q V H T E L))
      (later : List (Item (types C Q V H T E L))) → passed ≡ front ++ m ∷ [] → AllQuiet children front → AllHave children passed → work_at scope side m ≡ item ∷ []
      → joined (map (λ x. work_at scope side x) passed) ++ later ≡ item ∷ later
  by_last children passed front m item later is quiet have one =
      let in_front : AllHave children (front ++ m ∷ []) = subst (λ (ms : List (Mark (types C Q V H T E L))). AllHave children ms) is have in
      ap (λ (zs : List (Item (types C Q V H T E L))). zs ++ later)
      (ap (λ (ms : List (Mark (types C Q V H T E L))). joined (map (λ x. work_at scope side x) ms)) is
      ∙ joined_append (λ x. work_at scope side x) front (m ∷ [])
      ∙ (λ t. all_unworked scope side children front quiet (have_front scope side children front (m ∷ []) in_front) t ++ (append-nil (work_at scope side m) ∙ one) t))

  -- the numbers that a step draws
  abbrev numbers_by : (step : PatchStep P C Q V H T E L) (passed : List (Mark (types C Q V H T E L))) → DoneBy passed q step n → List (Place × Kind × ℕ)
  numbers_by (s.Drawn id steps path) passed does = (does.holds.place, does.holds.kind, id.0) ∷ []
  numbers_by (s.Make component) passed does = []
  numbers_by (s.Feed t component) passed does = []
  numbers_by (s.Nodes t) passed does = []
  numbers_by (s.Edit edit) passed does = []
  numbers_by (s.Remove t) passed does = []
  numbers_by (s.Gone id) passed does = []
  numbers_by s.Done passed does = []

  none_drawn : n.new.side ≡ q.new.side → (side_of n.new.side).numbers ≡ (side_of q.new.side).numbers ++ []
  none_drawn same = (λ t. (side_of (same t)).numbers) ∙ sym (append-nil (side_of q.new.side).numbers)

  numbers_come : (step : PatchStep P C Q V H T E L) (passed : List (Mark (types C Q V H T E L))) (does : DoneBy passed q step n)
      → (side_of n.new.side).numbers ≡ (side_of q.new.side).numbers ++ numbers_by step passed does
  numbers_come (s.Drawn id steps path) passed does = λ t. (does.holds.side t).numbers
  numbers_come (s.Make component) passed does = none_drawn does.holds.side
  numbers_come (s.Feed t component) passed does = none_drawn does.holds.side
  numbers_come (s.Nodes t) passed does = none_drawn does.side
  numbers_come (s.Edit edit) passed does = none_drawn does.side
  numbers_come (s.Remove t) passed does = none_drawn does.side
  numbers_come (s.Gone id) passed does = none_drawn does.side
  numbers_come s.Done passed does = none_drawn does.side

  -- one step, and those behind it
  step_works : (step : PatchStep P C Q V H T E L) (ss : List (PatchStep P C Q V H T E L)) (passed : List (Mark (types C Q V H T E L))) (later : List (Item (types C Q V H T E L)))
      (more : List (Place × Kind × ℕ)) → (does : DoneBy passed q step n) → AllHave (side_of q.old).children passed → Works scope side (side_of q.old).children ss later more
      → Works scope side (side_of q.old).children (step ∷ ss) (joined (map (λ m. work_at scope side m) passed) ++ later) (numbers_by step passed does ++ more)
  step_works (s.Drawn id steps path) ss passed later more does have rest =
      let one = does.holds in
      record {
        place = one.place;
        kind = one.kind;
        later = later;
        more = more;
        number = refl;
        first =
            by_last (side_of q.old).children passed does.front does.mark (Draw scope side one.place one.kind) later does.is does.still have
            (ap (λ (m : Mark (types C Q V H T E L)). work_at scope side m) one.mark);
        steps_are = one.steps_are;
        path_is = one.path_is;
        holds = rest;
      }
  step_works (s.Make component) ss passed later more does have rest =
      let one = does.holds in
      record {
        place = place_of one.steps;
        later = later;
        first =
            by_last (side_of q.old).children passed does.front does.mark (Make scope side (place_of one.steps) (component_of component)) later does.is does.still have
            (ap (λ (m : Mark (types C Q V H T E L)). work_at scope side m) one.mark);
        holds = rest;
      }
  step_works (s.Feed t component) ss passed later more does have rest =
      let one = does.holds in
      record {
        place = one.place;
        later = later;
        child = one.child;
        first =
            by_last (side_of q.old).children passed does.front does.mark (Feed scope side one.place (component_of component)) later does.is does.still have
            (ap (λ (m : Mark (types C Q V H T E L)). work_at scope side m) one.mark);
        holds = rest;
      }
  step_works (s.Nodes t) ss passed later more does have rest =
      subst (λ (zs : List (Item (types C Q V H T E L))). Works scope side (side_of q.old).children ss (zs ++ later) more) (sym (all_unworked scope side (side_of q.old).children passed does.still have)) rest
  step_works (s.Edit edit) ss passed later more does have rest =
      subst (λ (zs : List (Item (types C Q V H T E L))). Works scope side (side_of q.old).children ss (zs ++ later) more) (sym (all_unworked scope side (side_of q.old).children passed does.still have)) rest
  step_works (s.Remove t) ss passed later more does have rest =
      subst (λ (zs : List (Item (types C Q V H T E L))). Works scope side (side_of q.old).children ss (zs ++ later) more) (sym (all_unworked scope side (side_of q.old).children passed does.still have)) rest
  step_works (s.Gone id) ss passed later more does have rest =
      subst (λ (zs : List (Item (types C Q V H T E L))). Works scope side (side_of q.old).children ss (zs ++ later) more) (sym (all_unworked scope side (side_of q.old).children passed does.still have)) rest
  step_works s.Done ss passed later more does have rest =
      subst (λ (zs : List (Item (types C Q V H T E L))). Works scope side (side_of q.old).children ss (zs ++ later) more) (sym (all_unworked scope side (side_of q.old).children passed does.still have)) rest

module _ {P C Q V H T E L : Type 0} (app : Application (types C Q V H T E L)) (scope : ℕ) (side : SideName) where
  pub works : (p r : Patch P C Q V H T E L) (ss : List (PatchStep P C Q V H T E L)) (met : List (Mark (types C Q V H T E L) × Patch P C Q V H T E L)) → Runs app p ss met r
      → AllHave (side_of p.old).children (map (λ x. x.0) met)
      → WorksOn scope side p r ss (joined (map (λ m. work_at scope side m) (map (λ x. x.0) met)))
  works p r ss met (run.stays q) have = record { numbers = []; drawn = sym (append-nil (side_of q.new.side).numbers); works = (refl, refl) }
  works p r ss met (run.steps q n last step fs more free served leaves waits on) have =
      let behind : List (Mark (types C Q V H T E L)) = map (λ x. x.0) more in
      let marks : map (λ x. x.0) (passed_by q served.passed ++ more) ≡ served.passed ++ behind =
      mapped (λ (x : Mark (types C Q V H T E L) × Patch P C Q V H T E L). x.0) (passed_by q served.passed) more
      ∙ ap (λ (ms : List (Mark (types C Q V H T E L))). ms ++ behind) (firsts q served.passed) in
      let all : AllHave (side_of q.old).children (served.passed ++ behind) = subst (λ (ms : List (Mark (types C Q V H T E L))). AllHave (side_of q.old).children ms) marks have in
      let later : AllHave (side_of n.old).children behind =
      subst (λ (o : Side P C Q V H T E L). AllHave (side_of o).children behind) (sym leaves.old) (have_back scope side (side_of q.old).children served.passed behind all) in
      let rest : WorksOn scope side n r fs (joined (map (λ m. work_at scope side m) behind)) = works n r fs more on later in
      let work : Works scope side (side_of q.old).children fs (joined (map (λ m. work_at scope side m) behind)) rest.numbers =
      subst (λ (o : Side P C Q V H T E L). Works scope side (side_of o).children fs (joined (map (λ m. work_at scope side m) behind)) rest.numbers) leaves.old rest.works in
      let first : List (Place × Kind × ℕ) = numbers_by scope side q n step served.passed served.does in
      record {
        numbers = first ++ rest.numbers;
        drawn =
            rest.drawn
            ∙ ap (λ (ns : List (Place × Kind × ℕ)). ns ++ rest.numbers) (numbers_come scope side q n step served.passed served.does)
            ∙ append_assoc (side_of q.new.side).numbers first rest.numbers;
        works =
            subst (λ (zs : List (Item (types C Q V H T E L))). Works scope side (side_of q.old).children (step ∷ fs) zs (first ++ rest.numbers))
            (sym (ap (λ (ms : List (Mark (types C Q V H T E L))). joined (map (λ m. work_at scope side m) ms)) marks ∙ joined_append (λ m. work_at scope side m) served.passed behind))
            (step_works scope side q n step fs served.passed (joined (map (λ m. work_at scope side m) behind)) rest.numbers served.does
            (have_front scope side (side_of q.old).children served.passed behind all) work);
      }
  works p r ss met (run.gives q n last t nodes fs more asked g free on) have =
      let rest : WorksOn scope side n r fs (joined (map (λ m. work_at scope side m) (map (λ x. x.0) more))) =
      works n r fs more on (subst (λ (o : Side P C Q V H T E L). AllHave (side_of o).children (map (λ x. x.0) more)) (sym g.old) have) in
      record {
        numbers = rest.numbers;
        drawn =
            rest.drawn
            ∙ ap (λ (ns : List (Place × Kind × ℕ)). ns ++ rest.numbers) (seated_by q.phase t (side_of q.new.side) (side_of n.new.side) g.seated).numbers;
        works =
            subst (λ (o : Side P C Q V H T E L). Works scope side (side_of o).children fs (joined (map (λ m. work_at scope side m) (map (λ x. x.0) more))) rest.numbers) g.old rest.works;
      }
