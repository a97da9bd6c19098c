-- Where a number is drawn next, and where none is.
use Rattle.std.proofs.Common.{List, [], ◌∷◌, ◌++◌, ◌≡◌, ◌⊎◌, inl, inr, map, refl, sym, ap, subst, ◌∙◌}
use Rattle.std.specs.Prelude.{None, Some}
use Rattle.rt_model.specs.Lists.{joined}
use Rattle.rt_model.specs.OneLog.{types}
use Rattle.rt_model.specs.Run.{child_at}
use Rattle.rt_model.specs.World.{Application}
use Rattle.rt_model.proofs.Maps.{none_some}
use Rattle.rt_edits.specs.declared.edit.Edit.{Edit}
use Rattle.tree_edits.specs.Documents.{edit_of}
use Rattle.tree_marks.specs.Marks.{Mark, stays, goes, comes, fed, left, made, given, worded, slot_goes, tree_goes, slot_way, tree_way, come_in, go_out, lone}
use Rattle.run_met.specs.declared.met.Met.{Met}
use Rattle.run_met.specs.Mets.{mark_of, marks_of}
use Rattle.run_places.specs.Places.{side_of}
use Rattle.rt_tree.specs.declared.patch.Patch.{Patch}
use Rattle.rt_tree.specs.declared.step.PatchStep.{PatchStep}
use Rattle.rt_tree.specs.declared.step.PatchStep.TheVariants as s
use Rattle.rt_tree.specs.Asks.{AllKnown, asked_at, asked_by}
use Rattle.rt_tree.specs.Does.{AllQuiet, Does, IsQuiet}
use Rattle.rt_tree.specs.Drawing.{DrawsAt, DrawsNext, IsComing, LeadsNowhere}
use Rattle.rt_tree.specs.Endings.{LeavesBy}
use Rattle.rt_tree.specs.Owns.{own_writes}
use Rattle.rt_tree.specs.Served.{Keeps, Leaves, Turned, both_now, marks_left, writes_now}
use Rattle.rt_tree.specs.Told.{IfDrawn}
use Rattle.rt_tree.proofs.Quiet.{nothing_written}
use Rattle.rt_tree.proofs.Serving.{Passed, known_same, quiet_same, writes_same}

-- where two lists together are none each is
pub first_none : {A : Type 0} (xs ys : List A) → xs ++ ys ≡ [] → xs ≡ []
first_none [] ys h = refl
first_none (x ∷ xs) ys h = let absurdity : ⊥ = cc h in absurd absurdity

second_none : {A : Type 0} (xs ys : List A) → xs ++ ys ≡ [] → ys ≡ []
second_none [] ys h = h
second_none (x ∷ xs) ys h = let absurdity : ⊥ = cc h in absurd absurdity

module _ {P C Q V H T E L : Type 0} where
  -- at a node that comes no scope is asked, and nothing is written
  coming_asks : (p : Patch P C Q V H T E L) (m : Mark (types C Q V H T E L)) → IsComing m → asked_at p m ≡ None
  coming_asks p (stays q k) h = absurd h
  coming_asks p (goes q k) h = absurd h
  coming_asks p (comes q k) h = refl
  coming_asks p (fed q c d) h = absurd h
  coming_asks p (left q c) h = absurd h
  coming_asks p (made q d) h = absurd h
  coming_asks p (given above whole new old) h = absurd h
  coming_asks p (worded q new old) h = absurd h
  coming_asks p (slot_goes q old) h = absurd h
  coming_asks p (tree_goes above old) h = absurd h
  coming_asks p (slot_way q new old) h = absurd h
  coming_asks p (tree_way above new old) h = absurd h
  coming_asks p (come_in q front i new) h = absurd h
  coming_asks p (go_out q i old) h = absurd h
  coming_asks p (lone q new) h = absurd h

  -- what was matched is one
  pub comes_here : (met x : Met P C Q V H T E L) → met ≡ x → IsComing (mark_of x) → IsComing (mark_of met)
  comes_here met x is h = subst (λ (y : Met P C Q V H T E L). IsComing (mark_of y)) (sym is) h

  -- what a patch has of both blocks stays, seen from behind
  keeps_back : (a b : Patch P C Q V H T E L) → Keeps a b → Keeps b a
  keeps_back a b k = record { old = sym k.old; new = sym k.new; given = sym k.given; shown = sym k.shown }

module _ {P C Q V H T E L : Type 0} (app : Application (types C Q V H T E L)) where
  coming_writes : (p : Patch P C Q V H T E L) (m : Mark (types C Q V H T E L)) → IsComing m → own_writes app (both_now p) m ≡ []
  coming_writes p (stays q k) h = absurd h
  coming_writes p (goes q k) h = absurd h
  coming_writes p (comes q k) h = refl
  coming_writes p (fed q c d) h = absurd h
  coming_writes p (left q c) h = absurd h
  coming_writes p (made q d) h = absurd h
  coming_writes p (given above whole new old) h = absurd h
  coming_writes p (worded q new old) h = absurd h
  coming_writes p (slot_goes q old) h = absurd h
  coming_writes p (tree_goes above old) h = absurd h
  coming_writes p (slot_way q new old) h = absurd h
  coming_writes p (tree_way above new old) h = absurd h
  coming_writes p (come_in q front i new) h = absurd h
  coming_writes p (go_out q i old) h = absurd h
  coming_writes p (lone q new) h = absurd h

  -- a node that comes is a step
  not_nowhere : (p : Patch P C Q V H T E L) (m : Mark (types C Q V H T E L)) → IsComing m → IsQuiet (side_of p.old).children m → ⊥
  not_nowhere p (stays q k) h quiet = h
  not_nowhere p (goes q k) h quiet = h
  not_nowhere p (comes q k) h quiet = quiet
  not_nowhere p (fed q c d) h quiet = h
  not_nowhere p (left q c) h quiet = h
  not_nowhere p (made q d) h quiet = h
  not_nowhere p (given above whole new old) h quiet = h
  not_nowhere p (worded q new old) h quiet = h
  not_nowhere p (slot_goes q old) h quiet = h
  not_nowhere p (tree_goes above old) h quiet = h
  not_nowhere p (slot_way q new old) h quiet = h
  not_nowhere p (tree_way above new old) h quiet = h
  not_nowhere p (come_in q front i new) h quiet = h
  not_nowhere p (go_out q i old) h quiet = h
  not_nowhere p (lone q new) h quiet = h

  -- these marks lead to no step
  abbrev AllNowhere : Patch P C Q V H T E L → List (Mark (types C Q V H T E L)) → Type 0
  AllNowhere p [] = Unit {0}
  AllNowhere p (m ∷ ms) = LeadsNowhere app p m × AllNowhere p ms

  nowhere_all : (p : Patch P C Q V H T E L) (ms : List (Mark (types C Q V H T E L))) → AllQuiet (side_of p.old).children ms → AllKnown p ms
      → joined (map (λ m. writes_now app p m) ms) ≡ [] → AllNowhere p ms
  nowhere_all p [] quiet known silent = tt
  nowhere_all p (m ∷ ms) quiet known silent = (
    record { quiet = quiet.0; known = known.0; silent = first_none (writes_now app p m) (joined (map (λ n. writes_now app p n) ms)) silent },
    nowhere_all p ms quiet.1 known.1 (second_none (writes_now app p m) (joined (map (λ n. writes_now app p n) ms)) silent),
  )

  -- so a number is drawn next behind them where it is drawn next with them, and the other way
  draws_over : (p : Patch P C Q V H T E L) (over ms : List (Mark (types C Q V H T E L))) → AllNowhere p over → DrawsAt app p (over ++ ms) → DrawsAt app p ms
  draws_over p [] ms all h = h
  draws_over p (m ∷ over) ms all h = elim h [ inl here ↦ absurd (not_nowhere p m here (all.0).quiet) | inr later ↦ draws_over p over ms all.1 later.1 ]

  draws_behind : (p : Patch P C Q V H T E L) (over ms : List (Mark (types C Q V H T E L))) → AllNowhere p over → DrawsAt app p ms → DrawsAt app p (over ++ ms)
  draws_behind p [] ms all h = h
  draws_behind p (m ∷ over) ms all h = inr (all.0, draws_behind p over ms all.1 h)

  -- an edit that is left over comes before
  pub not_left : (p : Patch P C Q V H T E L) (edit : Edit) (rest : List Edit) → p.edits.items ≡ edit ∷ rest → DrawsNext app p → ⊥
  not_left p edit rest first d = let absurdity : ⊥ = cc (sym d.none ∙ ap (λ (es : List Edit). map edit_of es) first) in absurdity

  module _ (before now : Patch P C Q V H T E L) (h : Passed before now) where
    passed_nowhere : AllNowhere before h.over
    passed_nowhere = nowhere_all before h.over h.still (h.knows app) (h.quiet app)

    -- behind the plan none is drawn
    pub not_behind : now.plan.items ≡ [] → DrawsNext app before → ⊥
    not_behind none d =
        draws_over before h.over [] passed_nowhere
        (subst (λ (ms : List (Mark (types C Q V H T E L))). DrawsAt app before ms) (h.rest ∙ ap (λ (xs : List (Met P C Q V H T E L)). h.over ++ marks_of xs) none) d.marks)

    module _ (met : Met P C Q V H T E L) (rest : List (Met P C Q V H T E L)) (front : now.plan.items ≡ met ∷ rest) where
      all_left : marks_left before ≡ h.over ++ mark_of met ∷ marks_of rest
      all_left = h.rest ∙ ap (λ (xs : List (Met P C Q V H T E L)). h.over ++ marks_of xs) front

      -- the mark in front is a node that comes: a number is drawn next
      pub draws_next : before.edits.items ≡ [] → IsComing (mark_of met) → DrawsNext app before
      draws_next none coming = record {
        none = ap (λ (es : List Edit). map edit_of es) none;
        marks =
            subst (λ (ms : List (Mark (types C Q V H T E L))). DrawsAt app before ms) (sym all_left)
            (draws_behind before h.over (mark_of met ∷ marks_of rest) passed_nowhere (inl coming));
      }

      -- where a number is drawn next the mark in front is that node, or leads to no step
      in_front : (taken : Patch P C Q V H T E L) → Keeps now taken → DrawsNext app before → IsComing (mark_of met) ⊎ LeadsNowhere app taken (mark_of met)
      in_front taken same d =
          by (draws_over before h.over (mark_of met ∷ marks_of rest) passed_nowhere (subst (λ (ms : List (Mark (types C Q V H T E L))). DrawsAt app before ms) all_left d.marks))
        where
          back : Keeps taken before
          back = keeps_back before taken (record { old = same.old ∙ h.stays.old; new = same.new ∙ h.stays.new; given = same.given ∙ h.stays.given; shown = same.shown ∙ h.stays.shown })

          by : DrawsAt app before (mark_of met ∷ marks_of rest) → IsComing (mark_of met) ⊎ LeadsNowhere app taken (mark_of met)
          by at_first =
              elim at_first [
                | inl coming ↦ inl coming
                | inr nowhere ↦ inr (
                    record {
                      quiet = quiet_same taken before (mark_of met) back.old (nowhere.0).quiet;
                      known = known_same taken before (mark_of met) back (nowhere.0).known;
                      silent = writes_same app taken before back (mark_of met) ∙ (nowhere.0).silent;
                    }
                    )
              ]

      -- so a step that it leads to draws one
      pub only_drawn : (taken after : Patch P C Q V H T E L) (step : PatchStep P C Q V H T E L) (F : Type 0) → Keeps now taken → Turned app (mark_of met) taken step after
          → Does (mark_of met) taken step after → Leaves taken after → LeavesBy (Some step) (mark_of met) taken after → IfDrawn step (λ id. F) → DrawsNext app before → F
      only_drawn taken after (s.Drawn id steps path) F same turned does leaves behind told d = told
      only_drawn taken after (s.Nodes scope) F same turned does leaves behind told d =
          let new : after.new.side ≡ taken.new.side = does in
          let asked : asked_at taken (mark_of met) ≡ Some scope.0 = sym (λ t. asked_by (leaves.old t) (new t) (leaves.given t) (mark_of met)) ∙ turned.asked in
          let none : asked_at taken (mark_of met) ≡ None =
          elim (in_front taken same d) [ inl coming ↦ coming_asks taken (mark_of met) coming | inr nowhere ↦ nowhere.known turned.shown ] in
          none_some none asked
      only_drawn taken after (s.Edit edit) F same turned does leaves behind told d =
          let none : writes_now app taken (mark_of met) ≡ [] =
          elim (in_front taken same d) [ inl coming ↦ nothing_written app taken (mark_of met) (coming_writes taken (mark_of met) coming) | inr nowhere ↦ nowhere.silent ] in
          let absurdity : ⊥ = cc (sym none ∙ turned.first) in
          absurd absurdity
      only_drawn taken after (s.Make component) F same turned does leaves behind told d =
          elim (in_front taken same d) [
            | inl coming ↦ absurd (subst (λ (m : Mark (types C Q V H T E L)). IsComing m) does.mark coming)
            | inr nowhere ↦ absurd (subst (λ (m : Mark (types C Q V H T E L)). IsQuiet (side_of taken.old).children m) does.mark nowhere.quiet)
          ]
      only_drawn taken after (s.Feed scope component) F same turned does leaves behind told d =
          elim (in_front taken same d) [
            | inl coming ↦ absurd (subst (λ (m : Mark (types C Q V H T E L)). IsComing m) does.mark coming)
            | inr nowhere ↦
                let quiet : child_at (side_of taken.old).children does.place ≡ None =
                subst (λ (m : Mark (types C Q V H T E L)). IsQuiet (side_of taken.old).children m) does.mark nowhere.quiet in
                none_some quiet does.child
          ]
      only_drawn taken after (s.Remove scope) F same turned does leaves behind told d = absurd behind
      only_drawn taken after (s.Gone id) F same turned does leaves behind told d = absurd behind
      only_drawn taken after s.Done F same turned does leaves behind told d = absurd behind
