-- Marks that were passed wrote nothing, and so a step serves them and the mark behind them.
use Rattle.std.proofs.Common.{ℕ, List, [], ◌∷◌, ◌++◌, ◌≡◌, map, refl, sym, ap, subst, ◌∙◌, append-nil, append_assoc}
use Rattle.std.specs.Prelude.{if◌then◌else◌, false, None, Some}
use Rattle.rt_model.specs.Caused as caused
use Rattle.rt_model.specs.Lists.{joined}
use Rattle.rt_model.specs.OneLog.{types}
use Rattle.rt_model.specs.Run.{child_at}
use Rattle.rt_model.specs.State.{SideName}
use Rattle.rt_model.specs.World.{Application}
use Rattle.rt_edits.specs.declared.edit.Edit.{Edit}
use Rattle.tree_edits.specs.Documents.{edit_of}
use Rattle.tree_marks.specs.Marks.{Mark}
use Rattle.run_places.specs.declared.side.Side.{Side}
use Rattle.run_places.specs.Places.{side_of}
use Rattle.run_places.specs.Sides.{and_number}
use Rattle.run_shown.specs.Given.{given_to}
use Rattle.run_met.specs.declared.met.Met.{Met}
use Rattle.run_met.specs.Mets.{mark_of, marks_of}
use Rattle.run_work.proofs.Joins.{both_joined}
use Rattle.rt_tree.specs.declared.patch.Patch.{Patch}
use Rattle.rt_tree.specs.declared.step.PatchStep.{PatchStep}
use Rattle.rt_tree.specs.declared.step.PatchStep.TheVariants as s
use Rattle.rt_tree.specs.Asks.{AllKnown, IsKnown, asked_by}
use Rattle.rt_tree.specs.Does.{AllQuiet, Does, DoneBy, DrawsFor, FeedsFor, IsQuiet, Last, MakesFor, Rests, StillFor}
use Rattle.rt_tree.specs.Endings.{LeavesAt, LeavesBy, LeavesNone, Tells, removed_in, told_in}
use Rattle.rt_tree.specs.Owns.{own_writes}
use Rattle.rt_tree.proofs.Ending.{Piles, piles_more, piles_none, tells_none}
use Rattle.rt_tree.proofs.Stilled.{quiet_more}
use Rattle.rt_tree.specs.Served.{Keeps, Leaves, Serves, Silent, Turned, edits_in, edits_left, marks_left, writes_now}

module _ {P C Q V H T E L : Type 0} where
  -- a mark writes the same while what a patch has of both blocks stays
  pub writes_same : (app : Application (types C Q V H T E L)) (before now : Patch P C Q V H T E L) → Keeps before now → (m : Mark (types C Q V H T E L))
      → writes_now app before m ≡ writes_now app now m
  writes_same app before now k m =
      λ t.
      if sym k.shown t
      then own_writes app
      (record {
        old = side_of (sym k.old t);
        new = side_of (sym k.new t);
        old_child = λ u. given_to (sym k.given t) u;
        new_child = λ u. given_to (sym k.given t) u;
        under = λ u. caused.writes [];
        stop = None;
        on_way = λ u. false;
      }) m
      else []

  both_kept : (a b c : Patch P C Q V H T E L) → Keeps a b → Keeps b c → Keeps a c
  both_kept a b c h k = record { old = k.old ∙ h.old; new = k.new ∙ h.new; given = k.given ∙ h.given; shown = k.shown ∙ h.shown }

  -- what is written at marks that wrote nothing, and at one more
  more_written : (app : Application (types C Q V H T E L)) (before : Patch P C Q V H T E L) (ms : List (Mark (types C Q V H T E L))) (m : Mark (types C Q V H T E L))
      → joined (map (λ n. writes_now app before n) ms) ≡ []
      → joined (map (λ n. writes_now app before n) (ms ++ m ∷ [])) ≡ writes_now app before m
  more_written app before ms m none = both_joined (λ n. writes_now app before n) ms (m ∷ []) none (append-nil (writes_now app before m))

  -- the marks that are left, once one more was taken off the plan
  more_left : (before now taken : Patch P C Q V H T E L) (met : Met P C Q V H T E L) (ms : List (Mark (types C Q V H T E L))) → marks_left before ≡ ms ++ marks_left now
      → now.plan.items ≡ met ∷ taken.plan.items → marks_left before ≡ (ms ++ mark_of met ∷ []) ++ marks_left taken
  more_left before now taken met ms left front =
      left ∙ ap (λ (xs : List (Met P C Q V H T E L)). ms ++ marks_of xs) front ∙ sym (append_assoc ms (mark_of met ∷ []) (marks_left taken))

  -- no scope has to be asked at one mark more
  known_more : (p : Patch P C Q V H T E L) (ms : List (Mark (types C Q V H T E L))) (m : Mark (types C Q V H T E L)) → AllKnown p ms → IsKnown p m → AllKnown p (ms ++ m ∷ [])
  known_more p [] m all one = (one, tt)
  known_more p (n ∷ ms) m all one = (all.0, known_more p ms m all.1 one)

  -- nor was there one before, where what a patch has of both blocks stays
  pub known_same : (before now : Patch P C Q V H T E L) (m : Mark (types C Q V H T E L)) → Keeps before now → IsKnown now m → IsKnown before m
  known_same before now m k known is_shown =
      (λ t. asked_by (sym k.old t) (sym k.new t) (sym k.given t) m) ∙ known (k.shown ∙ is_shown)

  -- nothing is done at a mark while the old block stays
  pub quiet_same : (before now : Patch P C Q V H T E L) (m : Mark (types C Q V H T E L)) → now.old ≡ before.old → IsQuiet (side_of now.old).children m → IsQuiet (side_of before.old).children m
  quiet_same before now m same h = subst (λ (o : Side P C Q V H T E L). IsQuiet (side_of o).children m) same h

  -- some marks were passed, and wrote nothing
  pub record Passed (before now : Patch P C Q V H T E L) : Type 0 where
    pub over : List (Mark (types C Q V H T E L))
    pub rest : marks_left before ≡ over ++ marks_left now
    pub quiet : (app : Application (types C Q V H T E L)) → joined (map (λ m. writes_now app before m) over) ≡ []
    pub stays : Keeps before now
    pub knows : (app : Application (types C Q V H T E L)) → AllKnown before over
    pub still : AllQuiet (side_of before.old).children over
    pub piles : Piles over before now

  -- none yet
  pub none_passed : (before now : Patch P C Q V H T E L) → marks_left before ≡ marks_left now → Keeps before now → LeavesNone before now → Passed before now
  none_passed before now same keeps none =
      record { over = []; rest = same; quiet = λ app. refl; stays = keeps; knows = λ app. tt; still = tt; piles = piles_none before now none }

  -- what one more mark writes that was in front, by what was there before
  one_written : (app : Application (types C Q V H T E L)) (before now taken : Patch P C Q V H T E L) (m : Mark (types C Q V H T E L)) → (h : Passed before now) → Keeps now taken
      → joined (map (λ n. writes_now app before n) (h.over ++ m ∷ [])) ≡ writes_now app taken m
  one_written app before now taken m h same = more_written app before h.over m (h.quiet app) ∙ writes_same app before taken (both_kept before now taken h.stays same) m

  -- one more mark was passed: it was in front, `taken` is without it, and it led to no step
  pub one_passed : (before now taken after : Patch P C Q V H T E L) (met : Met P C Q V H T E L) → Passed before now → now.plan.items ≡ met ∷ taken.plan.items
      → Keeps now taken → ((app : Application (types C Q V H T E L)) → Silent app (mark_of met) taken after) → Keeps taken after → after.plan.items ≡ taken.plan.items → IsQuiet (side_of taken.old).children (mark_of met)
      → LeavesNone now taken → LeavesAt (mark_of met) taken after → Passed before after
  one_passed before now taken after met h front same silent keeps left still none leaves =
      record {
        over = h.over ++ mark_of met ∷ [];
        rest = more_left before now taken met h.over h.rest front ∙ ap (λ (xs : List (Met P C Q V H T E L)). (h.over ++ mark_of met ∷ []) ++ marks_of xs) (sym left);
        quiet = λ app. one_written app before now taken (mark_of met) h same ∙ (silent app).quiet;
        stays = both_kept before taken after (both_kept before now taken h.stays same) keeps;
        knows = λ app. known_more before h.over (mark_of met) (h.knows app) (known_same before taken (mark_of met) (both_kept before now taken h.stays same) (silent app).known);
        still = quiet_more (side_of before.old).children h.over (mark_of met) h.still (quiet_same before taken (mark_of met) (same.old ∙ h.stays.old) still);
        piles = piles_more h.over (mark_of met) before now taken after h.piles none (same.old ∙ h.stays.old) leaves;
      }

  -- behind the marks what a patch has of both blocks is what it had before
  pub left_by : (before now after : Patch P C Q V H T E L) → Passed before now → after.old ≡ now.old → after.given ≡ now.given → after.shown ≡ now.shown → Leaves before after
  left_by before now after h old given shown = record { old = old ∙ h.stays.old; given = given ∙ h.stays.given; shown = shown ∙ h.stays.shown }

  -- and nothing new came at these marks
  pub rests_by : (before now after : Patch P C Q V H T E L) (h : Passed before now) → after.new.side ≡ now.new.side → Rests h.over before after
  rests_by before now after h same = record { side = same ∙ h.stays.new; still = h.still }

  -- an edit that was left over passes no mark
  pub served_first : (app : Application (types C Q V H T E L)) (before after : Patch P C Q V H T E L) (edit : Edit) → before.edits.items ≡ edit ∷ after.edits.items
      → marks_left before ≡ marks_left after → after.new.side ≡ before.new.side → LeavesNone before after → Serves app before (s.Edit edit) after
  served_first app before after edit first same stays none = record {
    passed = [];
    marks = same;
    edits = append-nil (edits_left before) ∙ ap (λ (es : List Edit). map edit_of es) first;
    known = tt;
    does = record { side = stays; still = tt };
    tells = tells_none [] before before after (s.Edit edit) (piles_none before before (record { drops = refl; gone = refl })) none (λ scope side. refl) refl;
  }

module _ {P C Q V H T E L : Type 0} (app : Application (types C Q V H T E L)) (before now : Patch P C Q V H T E L) (h : Passed before now) (none_left : edits_left before ≡ []) where
  -- a step behind the plan passes no further mark
  pub served_end : (step : PatchStep P C Q V H T E L) (after : Patch P C Q V H T E L) → marks_left after ≡ marks_left now → edits_left after ≡ [] → edits_in step ≡ []
      → DoneBy h.over before step after → Tells h.over before step after → Serves app before step after
  served_end step after left last given does tells = record {
    passed = h.over;
    marks = h.rest ∙ ap (λ (ms : List (Mark (types C Q V H T E L))). h.over ++ ms) (sym left);
    edits = (λ t. none_left t ++ h.quiet app t) ∙ sym (λ t. given t ++ last t);
    known = h.knows app;
    does = does;
    tells = tells;
  }

  module _ (taken after : Patch P C Q V H T E L) (met : Met P C Q V H T E L) (front : now.plan.items ≡ met ∷ taken.plan.items) (same : Keeps now taken)
      (none : LeavesNone now taken) where
    one_left : marks_left after ≡ marks_left taken → marks_left before ≡ (h.over ++ mark_of met ∷ []) ++ marks_left after
    one_left left =
        more_left before now taken met h.over h.rest front ∙ ap (λ (ms : List (Mark (types C Q V H T E L))). (h.over ++ mark_of met ∷ []) ++ ms) (sym left)

    -- no scope has to be asked at any of them
    all_known : IsKnown taken (mark_of met) → AllKnown before (h.over ++ mark_of met ∷ [])
    all_known known = known_more before h.over (mark_of met) (h.knows app) (known_same before taken (mark_of met) (both_kept before now taken h.stays same) known)

    -- what the patch had of both blocks when the mark was taken is what it had before
    kept : Keeps before taken
    kept = both_kept before now taken h.stays same

    -- the mark is the last that is passed
    last : (fact : Mark (types C Q V H T E L) → Type 0) → fact (mark_of met) → Last (side_of before.old).children (h.over ++ mark_of met ∷ []) fact
    last fact holds = record { front = h.over; mark = mark_of met; is = refl; still = h.still; holds = holds }

    -- it leaves what it does for the end behind theirs
    tells_more : (step : PatchStep P C Q V H T E L) → ((scope : ℕ) (side : SideName) → removed_in scope side step ≡ []) → told_in step ≡ [] → LeavesAt (mark_of met) taken after
        → Tells (h.over ++ mark_of met ∷ []) before step after
    tells_more step drops gone leaves =
        tells_none (h.over ++ mark_of met ∷ []) before after after step (piles_more h.over (mark_of met) before now taken after h.piles none kept.old leaves)
        (record { drops = refl; gone = refl }) drops gone

    -- the mark behind them wrote nothing, and led to a step that is no edit
    served_mark : (step : PatchStep P C Q V H T E L) → edits_in step ≡ [] → Silent app (mark_of met) taken after → DoneBy (h.over ++ mark_of met ∷ []) before step after
        → Tells (h.over ++ mark_of met ∷ []) before step after → Serves app before step after
    served_mark step given silent does tells = record {
      passed = h.over ++ mark_of met ∷ [];
      marks = one_left silent.marks;
      edits = (λ t. none_left t ++ (one_written app before now taken (mark_of met) h same ∙ silent.quiet) t) ∙ sym (λ t. given t ++ silent.spent t);
      known = all_known silent.known;
      does = does;
      tells = tells;
    }

    -- one mark, and the step that it leads to
    pub served_turn : (step : PatchStep P C Q V H T E L) → Turned app (mark_of met) taken step after → Does (mark_of met) taken step after → StillFor (side_of taken.old).children (Some step) (mark_of met)
        → LeavesBy (Some step) (mark_of met) taken after → Serves app before step after
    served_turn (s.Nodes scope) turned does still leaves = record {
      passed = h.over;
      marks = h.rest ∙ ap (λ (xs : List (Met P C Q V H T E L)). h.over ++ marks_of xs) front ∙ ap (λ (ms : List (Mark (types C Q V H T E L))). h.over ++ ms) (sym turned.marks);
      edits = (λ t. none_left t ++ h.quiet app t) ∙ sym turned.spent;
      known = h.knows app;
      does = record { side = does ∙ kept.new; still = h.still };
      tells = tells_none h.over before now after (s.Nodes scope) h.piles (record { drops = leaves.drops ∙ none.drops; gone = leaves.gone ∙ none.gone }) (λ of side. refl) refl;
    }
    served_turn (s.Edit edit) turned does still leaves = record {
      passed = h.over ++ mark_of met ∷ [];
      marks = one_left turned.marks;
      edits = λ t. none_left t ++ (one_written app before now taken (mark_of met) h same ∙ turned.first) t;
      known = all_known turned.known;
      does = record { side = does ∙ kept.new; still = quiet_more (side_of before.old).children h.over (mark_of met) h.still (quiet_same before taken (mark_of met) kept.old still) };
      tells = tells_more (s.Edit edit) (λ scope side. refl) refl leaves;
    }
    served_turn (s.Make component) turned does still leaves =
        served_mark (s.Make component) refl turned
        (last (λ m. MakesFor m before component after) (record { steps = does.steps; mark = does.mark; phase = does.phase; side = does.side ∙ kept.new }))
        (tells_more (s.Make component) (λ scope side. refl) refl leaves)
    served_turn (s.Feed scope component) turned does still leaves =
        served_mark (s.Feed scope component) refl turned
        (last (λ m. FeedsFor m before scope component after)
        (record { place = does.place; was = does.was; mark = does.mark; child = ap (λ (o : Side P C Q V H T E L). child_at (side_of o).children does.place) (sym kept.old) ∙ does.child; side = does.side ∙ kept.new; spent = does.spent }))
        (tells_more (s.Feed scope component) (λ of side. refl) refl leaves)
    served_turn (s.Drawn id places path) turned does still leaves =
        served_mark (s.Drawn id places path) refl turned
        (last (λ m. DrawsFor m before id.0 places path after)
        (
        record {
          place = does.place;
          kind = does.kind;
          mark = does.mark;
          side = does.side ∙ ap (λ (x : Side P C Q V H T E L). and_number (side_of x) (does.place, does.kind, id.0)) kept.new;
          steps_are = does.steps_are;
          path_is = does.path_is;
        }
        ))
        (tells_more (s.Drawn id places path) (λ scope side. refl) refl leaves)
    served_turn (s.Remove scope) turned does still leaves = absurd leaves
    served_turn (s.Gone id) turned does still leaves = absurd leaves
    served_turn s.Done turned does still leaves = absurd leaves
