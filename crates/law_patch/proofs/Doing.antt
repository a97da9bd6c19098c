-- The marks of two trees do the agenda of the definitions, and the numbers that go are those that aren't kept.
use Rattle.std.proofs.Common.{ℕ, List, [], ◌∷◌, ◌++◌, ◌≡◌, map, inl, inr, refl, sym, ap, subst, ◌∙◌}
use Rattle.rt_model.specs.Lists.{joined}
use Rattle.rt_model.specs.Tree.{Types, Tree, Place, Kind, Spot, spots}
use Rattle.rt_model.specs.World.{Application}
use Rattle.rt_model.specs.Values.{is_same_component}
use Rattle.rt_model.specs.State.{SideName, Item, Draw, Feed, Make}
use Rattle.rt_model.specs.Run.{child_at, drop_at, serves, drops_of}
use Rattle.rt_model.specs.Heard.{number_at}
use Rattle.rt_model.proofs.Maps.{pick_true, pick_false}
use Rattle.rt_model.proofs.Places.{Distinct, spots_distinct}
use Rattle.run_work.specs.Events as event
use Rattle.run_work.specs.Events.{Event, pairing}
use Rattle.run_work.proofs.Flats.{flat, old_in, new_in}
use Rattle.run_work.proofs.Branches.{AllIn}
use Rattle.run_work.proofs.EventSpots.{pairing-old, pairing-new}
use Rattle.run_work.proofs.Matched.{IsMatched, pairing-matched}
use Rattle.run_work.proofs.Agreed.{IsAgreed, all-agreed, agreed-work, agreed-drops, work_in, drop_in}
use Rattle.tree_marks.specs.Marks.{Mark, stays, goes, comes, fed, left, made, given, worded, slot_goes, tree_goes, slot_way, tree_way, come_in, go_out, lone, tree_marks}
use Rattle.tree_marks.specs.Deeds.{work_at, dropped_at, gone_at}
use Rattle.law_patch.specs.Agenda.{not_kept, Does}
use Rattle.run_work.specs.Marked.{events_in}
use Rattle.run_work.proofs.Eventful.{tree_events}

-- the number that goes at an event
abbrev number_in : {K : Types} → List (Place × Kind × ℕ) → Event K → List ℕ
number_in numbers (event.stays p k) = []
number_in numbers (event.goes p k) = number_at numbers p k ∷ []
number_in numbers (event.comes p k) = []
number_in numbers (event.fed p c d) = []
number_in numbers (event.left p c) = []
number_in numbers (event.made p d) = []

-- what events do
record Did {K : Types} (app : Application K) (es : List (Event K)) (scope : ℕ) (side : SideName) (numbers : List (Place × Kind × ℕ))
    (children : List (Place × ℕ)) (olds news : List (Spot K)) : Type 0 where
  work : flat (work_in scope side) es ≡ serves app scope side olds news
  drops : flat (drop_in scope side children) es ≡ drops_of app scope side news children olds
  gone : flat (number_in numbers) es ≡ not_kept news numbers olds

module _ {K : Types} (app : Application K) (scope : ℕ) (side : SideName) (numbers : List (Place × Kind × ℕ)) (children : List (Place × ℕ)) where
  works : (ms : List (Mark K)) → joined (map (work_at scope side) ms) ≡ flat (work_in scope side) (events_in ms)
  works [] = refl
  works (stays p k ∷ ms) = works ms
  works (goes p k ∷ ms) = works ms
  works (comes p k ∷ ms) = ap (λ (zs : List (Item K)). Draw scope side p k ∷ zs) (works ms)
  works (fed p c d ∷ ms) = ap (λ (zs : List (Item K)). Feed scope side p d ∷ zs) (works ms)
  works (left p c ∷ ms) = works ms
  works (made p d ∷ ms) = ap (λ (zs : List (Item K)). Make scope side p d ∷ zs) (works ms)
  works (given above whole new old ∷ ms) = works ms
  works (worded p new old ∷ ms) = works ms
  works (slot_goes p old ∷ ms) = works ms
  works (tree_goes above old ∷ ms) = works ms
  works (slot_way p new old ∷ ms) = works ms
  works (tree_way above new old ∷ ms) = works ms
  works (come_in p front i new ∷ ms) = works ms
  works (go_out p i old ∷ ms) = works ms
  works (lone p new ∷ ms) = works ms

  drops : (ms : List (Mark K)) → joined (map (dropped_at scope side children) ms) ≡ flat (drop_in scope side children) (events_in ms)
  drops [] = refl
  drops (stays p k ∷ ms) = drops ms
  drops (goes p k ∷ ms) = drops ms
  drops (comes p k ∷ ms) = drops ms
  drops (fed p c d ∷ ms) = drops ms
  drops (left p c ∷ ms) = ap (λ (zs : List (Item K)). drop_at scope side (child_at children p) ++ zs) (drops ms)
  drops (made p d ∷ ms) = drops ms
  drops (given above whole new old ∷ ms) = drops ms
  drops (worded p new old ∷ ms) = drops ms
  drops (slot_goes p old ∷ ms) = drops ms
  drops (tree_goes above old ∷ ms) = drops ms
  drops (slot_way p new old ∷ ms) = drops ms
  drops (tree_way above new old ∷ ms) = drops ms
  drops (come_in p front i new ∷ ms) = drops ms
  drops (go_out p i old ∷ ms) = drops ms
  drops (lone p new ∷ ms) = drops ms

  goings : (ms : List (Mark K)) → joined (map (gone_at numbers) ms) ≡ flat (number_in numbers) (events_in ms)
  goings [] = refl
  goings (stays p k ∷ ms) = goings ms
  goings (goes p k ∷ ms) = ap (λ (zs : List ℕ). number_at numbers p k ∷ zs) (goings ms)
  goings (comes p k ∷ ms) = goings ms
  goings (fed p c d ∷ ms) = goings ms
  goings (left p c ∷ ms) = goings ms
  goings (made p d ∷ ms) = goings ms
  goings (given above whole new old ∷ ms) = goings ms
  goings (worded p new old ∷ ms) = goings ms
  goings (slot_goes p old ∷ ms) = goings ms
  goings (tree_goes above old ∷ ms) = goings ms
  goings (slot_way p new old ∷ ms) = goings ms
  goings (tree_way above new old ∷ ms) = goings ms
  goings (come_in p front i new ∷ ms) = goings ms
  goings (go_out p i old ∷ ms) = goings ms
  goings (lone p new ∷ ms) = goings ms

  -- a number goes exactly where the new tree doesn't have its node
  gone_numbers : (olds news : List (Spot K)) (es : List (Event K)) → AllIn (IsAgreed app olds news) es → flat (number_in numbers) es ≡ not_kept news numbers (flat old_in es)
  gone_numbers olds news [] h = refl
  gone_numbers olds news (event.stays p k ∷ es) h =
      gone_numbers olds news es (λ e g. h e (inr g))
      ∙ sym (pick_true (not_kept news numbers (flat old_in es)) (number_at numbers p k ∷ not_kept news numbers (flat old_in es)) ((h (event.stays p k) (inl refl)).1))
  gone_numbers olds news (event.goes p k ∷ es) h =
      ap (λ (zs : List ℕ). number_at numbers p k ∷ zs) (gone_numbers olds news es (λ e g. h e (inr g)))
      ∙ sym (pick_false (not_kept news numbers (flat old_in es)) (number_at numbers p k ∷ not_kept news numbers (flat old_in es)) (h (event.goes p k) (inl refl)))
  gone_numbers olds news (event.comes p k ∷ es) h = gone_numbers olds news es (λ e g. h e (inr g))
  gone_numbers olds news (event.fed p c d ∷ es) h = gone_numbers olds news es (λ e g. h e (inr g))
  gone_numbers olds news (event.left p c ∷ es) h = gone_numbers olds news es (λ e g. h e (inr g))
  gone_numbers olds news (event.made p d ∷ es) h = gone_numbers olds news es (λ e g. h e (inr g))

  events_do : (es : List (Event K)) → IsMatched (λ c d. is_same_component app c d) es → Distinct (flat old_in es) → Distinct (flat new_in es)
      → Did app es scope side numbers children (flat old_in es) (flat new_in es)
  events_do es matched old_once new_once =
      let agreed = all-agreed app es matched old_once new_once in
      record {
        work = agreed-work app scope side (flat old_in es) (flat new_in es) es agreed;
        drops = agreed-drops app scope side (flat old_in es) (flat new_in es) children es agreed;
        gone = gone_numbers (flat old_in es) (flat new_in es) es agreed;
      }

  -- so do the events of two trees
  pairing_does : (above : Place) (new old : Tree K)
      → Did app (events_in (tree_marks app above new old)) scope side numbers children (spots above old) (spots above new)
  pairing_does above new old =
      let es : List (Event K) = pairing (λ c d. is_same_component app c d) old new above in
      let olds : flat old_in es ≡ spots above old = pairing-old (λ c d. is_same_component app c d) old new above in
      let news : flat new_in es ≡ spots above new = pairing-new (λ c d. is_same_component app c d) old new above in
      let here : Did app es scope side numbers children (flat old_in es) (flat new_in es) =
      events_do es (pairing-matched (λ c d. is_same_component app c d) old new above) (subst (λ ss. Distinct ss) (sym olds) (spots_distinct above old)) (subst (λ ss. Distinct ss) (sym news) (spots_distinct above new)) in
      subst (λ (zs : List (Event K)). Did app zs scope side numbers children (spots above old) (spots above new)) (sym (tree_events app above new old))
      (subst (λ (ss : List (Spot K)). Did app es scope side numbers children ss (spots above new)) olds
      (subst (λ (us : List (Spot K)). Did app es scope side numbers children (flat old_in es) us) news here))

  pub marks_do : (above : Place) (new old : Tree K)
      → Does app (tree_marks app above new old) scope side numbers children (spots above old) (spots above new)
  marks_do above new old =
      let did = pairing_does above new old in
      record {
        work = works (tree_marks app above new old) ∙ did.work;
        drops = drops (tree_marks app above new old) ∙ did.drops;
        gone = goings (tree_marks app above new old) ∙ did.gone;
      }
