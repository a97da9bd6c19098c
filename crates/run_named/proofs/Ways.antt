-- What is told of a place, step by step.
use Rattle.std.proofs.Common.{ℕ, suc, ◌+◌, ◌<◌, ◌≤◌, Bool, true, false, ◌&&◌, List, [], ◌∷◌, ◌++◌, ◌≡◌, ◌≢◌, nat_eq, length, get_or, drop, map, take, refl, sym, ap, ◌∙◌, arith, append_assoc, append-nil}
use Rattle.std.proofs.lemmas.List.{drop_more, map-append}
use Rattle.std.proofs.Math.Seq.{take-suc}
use Rattle.rt_lemmas.proofs.Lists.{drop_all as drop-all}
use Rattle.rt_model.specs.Lists.{same_numbers}
use Rattle.rt_model.specs.Tree as model
use Rattle.rt_model.specs.Tree.{inside, item}
use Rattle.rt_model.proofs.Maps.{pick_true, pick_false}
use Rattle.run_places.specs.Places.{place_of, step_of}
use Rattle.tree_nodes.specs.declared.template.TemplateParts.{TemplateParts as Template}
use Rattle.run_places.proofs.Stands.{places-append}
use Rattle.run_places.specs.declared.place.Step.{Step}
use Rattle.run_places.specs.declared.place.Step.TheVariants as steps
use Rattle.tree_nodes.specs.declared.place.Step.{Step as Told}
use Rattle.run_named.specs.Named.{path_after, path_from, slot_after, slot_at, slot_from, step_in, steps_at, steps_from}

one_step : (k : ℕ) (s : model.Step) (rest : model.Place) → steps_at k s ++ steps_from (slot_after k s) rest ≡ steps_from k (s ∷ rest)
one_step k (inside t p) rest = refl
one_step k (item i) rest = refl

-- one more step is told
pub steps_step : (place : List Step) (i k : ℕ) (step : Step) (told new : List (ℕ × ℕ)) (next : ℕ) → i < length place → step ≡ get_or place i step
    → new ≡ told ++ steps_at k (step_of step) → next ≡ slot_after k (step_of step)
    → new ++ steps_from next (place_of (drop (i + 1) place)) ≡ told ++ steps_from k (place_of (drop i place))
steps_step place i k step told new next within is more slot =
    (λ j. more j ++ steps_from (slot j) (place_of (drop (i + 1) place)))
    ∙ append_assoc told (steps_at k (step_of step)) (steps_from (slot_after k (step_of step)) (place_of (drop (i + 1) place)))
    ∙ ap (λ ss. told ++ ss)
    (
    one_step k (step_of step) (place_of (drop (i + 1) place))
    ∙ ap (λ (s : Step). steps_from k (step_of s ∷ place_of (drop (i + 1) place))) is
    ∙ ap (λ (ss : List Step). steps_from k (place_of ss)) (sym (drop_more place i step within))
    )

pub steps_end : (place : List Step) (i k : ℕ) (told all : List (ℕ × ℕ)) → length place ≤ i → told ++ steps_from k (place_of (drop i place)) ≡ all → told ≡ all
steps_end place i k told all end is = sym (append-nil told) ∙ ap (λ (ss : List Step). told ++ steps_from k (place_of ss)) (sym (drop-all place i end)) ∙ is

-- the path goes on
pub path_step : (place : List Step) (i : ℕ) (step : Step) (q new : List ℕ) → i < length place → step ≡ get_or place i step → new ≡ path_after q (step_of step)
    → path_from new (place_of (drop (i + 1) place)) ≡ path_from q (place_of (drop i place))
path_step place i step q new within is more =
    ap (λ (p : List ℕ). path_from p (place_of (drop (i + 1) place))) more
    ∙ ap (λ (s : Step). path_from q (step_of s ∷ place_of (drop (i + 1) place))) is
    ∙ ap (λ (ss : List Step). path_from q (place_of ss)) (sym (drop_more place i step within))

pub path_end : (place : List Step) (i : ℕ) (q all : List ℕ) → length place ≤ i → path_from q (place_of (drop i place)) ≡ all → q ≡ all
path_end place i q all end is = ap (λ (ss : List Step). path_from q (place_of ss)) (sym (drop-all place i end)) ∙ is

-- the slot goes on
pub slot_step : (place : List Step) (i : ℕ) (step : Step) (k next : ℕ) → i < length place → step ≡ get_or place i step → next ≡ slot_after k (step_of step)
    → slot_from next (place_of (drop (i + 1) place)) ≡ slot_from k (place_of (drop i place))
slot_step place i step k next within is more =
    ap (λ (n : ℕ). slot_from n (place_of (drop (i + 1) place))) more
    ∙ ap (λ (s : Step). slot_from k (step_of s ∷ place_of (drop (i + 1) place))) is
    ∙ ap (λ (ss : List Step). slot_from k (place_of ss)) (sym (drop_more place i step within))

pub slot_last : (place : List Step) (i k all : ℕ) → length place ≤ i → slot_from k (place_of (drop i place)) ≡ all → k ≡ all
slot_last place i k all end is = ap (λ (ss : List Step). slot_from k (place_of ss)) (sym (drop-all place i end)) ∙ is

-- what is told of one more step, which comes last
steps-last : (k : ℕ) (place : model.Place) (s : model.Step) → steps_from k (place ++ s ∷ []) ≡ steps_from k place ++ steps_at (slot_from k place) s
steps-last k [] (inside t p) = refl
steps-last k [] (item i) = refl
steps-last k (inside t p ∷ rest) s = steps-last (slot_at t.node_paths p) rest s
steps-last k (item i ∷ rest) s = ap (λ (ss : List (ℕ × ℕ)). (k, i) ∷ ss) (steps-last k rest s)

path-last : (q : List ℕ) (place : model.Place) (s : model.Step) → path_from q (place ++ s ∷ []) ≡ path_after (path_from q place) s
path-last q [] s = refl
path-last q (t ∷ rest) s = path-last (path_after q t) rest s

-- a template's step tells nothing but the path
pub way_inside : (above place : List Step) (t : Template) (p : List ℕ) → place ≡ above ++ steps.Inside t p ∷ []
    → (steps_from 0 (place_of above) ≡ steps_from 0 (place_of place)) × (p ≡ path_from [] (place_of place))
way_inside above place t p is =
    let all : place_of place ≡ place_of above ++ step_of (steps.Inside t p) ∷ [] = ap place_of is ∙ places-append above (steps.Inside t p ∷ []) in (
      sym (ap (λ ss. steps_from 0 ss) all ∙ steps-last 0 (place_of above) (step_of (steps.Inside t p)) ∙ append-nil (steps_from 0 (place_of above))),
      sym (ap (λ ss. path_from [] ss) all ∙ path-last [] (place_of above) (step_of (steps.Inside t p))),
    )

-- an item's step leaves the path
pub way_item : (above place : List Step) (i : ℕ) → place ≡ above ++ steps.Item i ∷ [] → path_from [] (place_of above) ≡ path_from [] (place_of place)
way_item above place i is =
    sym (ap (λ ss. path_from [] (place_of ss)) is ∙ ap (λ ss. path_from [] ss) (places-append above (steps.Item i ∷ [])) ∙ path-last [] (place_of above) (step_of (steps.Item i)))

-- one step more to an item
pub told_below : (above : List Step) (i slot : ℕ) (told all : List (ℕ × ℕ)) → told ≡ steps_from 0 (place_of above) → slot ≡ slot_from 0 (place_of above) → all ≡ told ++ (slot, i) ∷ []
    → all ≡ steps_from 0 (place_of (above ++ steps.Item i ∷ []))
told_below above i slot told all so_far is more =
    more ∙ (λ j. so_far j ++ (is j, i) ∷ [])
    ∙ sym (steps-last 0 (place_of above) (step_of (steps.Item i)))
    ∙ ap (λ ss. steps_from 0 ss) (sym (places-append above (steps.Item i ∷ [])))

-- one more of some steps
pub told_more : (all : List Told) (told slot position : ℕ) (own : Told) → told < length all → own ≡ get_or all told own → step_in own ≡ (slot, position)
    → map step_in (take (told + 1) all) ≡ map step_in (take told all) ++ (slot, position) ∷ []
told_more all told slot position own within is same =
    let one : told + 1 ≡ suc told = omega arith in
    ap (λ n. map step_in (take n all)) one
    ∙ ap (map step_in) (take-suc all told own within)
    ∙ map-append step_in (take told all) (get_or all told own ∷ [])
    ∙ ap (λ (x : ℕ × ℕ). map step_in (take told all) ++ x ∷ []) (ap step_in (sym is) ∙ same)

-- a path that isn't at an index is sought after it
pub slot_passed : (paths : List (List ℕ)) (path : List ℕ) (i : ℕ) (own : List ℕ) → i < length paths → own ≡ get_or paths i own → same_numbers own path ≡ false
    → (i + 1) + slot_at (drop (i + 1) paths) path ≡ i + slot_at (drop i paths) path
slot_passed paths path i own within is other =
    let step : (i + 1) + slot_at (drop (i + 1) paths) path ≡ i + suc (slot_at (drop (i + 1) paths) path) = omega arith in
    step
    ∙ ap (λ (n : ℕ). i + n)
    (
    sym (pick_false 0 (suc (slot_at (drop (i + 1) paths) path)) other)
    ∙ ap (λ (p : List ℕ). slot_at (p ∷ drop (i + 1) paths) path) is
    ∙ ap (λ (ps : List (List ℕ)). slot_at ps path) (sym (drop_more paths i own within))
    )

pub slot_here : (paths : List (List ℕ)) (path : List ℕ) (i : ℕ) (own : List ℕ) → i < length paths → own ≡ get_or paths i own → same_numbers own path ≡ true
    → i + slot_at (drop i paths) path ≡ i
slot_here paths path i own within is same =
    let none : i + 0 ≡ i = omega arith in
    ap (λ (n : ℕ). i + n)
    (
    ap (λ (ps : List (List ℕ)). slot_at ps path) (drop_more paths i own within)
    ∙ ap (λ (p : List ℕ). slot_at (p ∷ drop (i + 1) paths) path) (sym is)
    ∙ pick_true 0 (suc (slot_at (drop (i + 1) paths) path)) same
    )
    ∙ none

pub slot_end : (paths : List (List ℕ)) (path : List ℕ) (i : ℕ) → i ≡ length paths → i + slot_at (drop i paths) path ≡ length paths
slot_end paths path i end =
    let low : length paths ≤ i = omega (arith, end) in
    let sum : i + 0 ≡ length paths = omega (arith, end) in
    ap (λ (ps : List (List ℕ)). i + slot_at ps path) (drop-all paths i low) ∙ sum

-- lists that aren't of one length
pub unlike : (xs ys : List ℕ) → length xs ≢ length ys → false ≡ same_numbers xs ys
unlike [] [] other = absurd (other refl)
unlike [] (y ∷ ys) other = refl
unlike (x ∷ xs) [] other = refl
unlike (x ∷ xs) (y ∷ ys) other = by (nat_eq x y) (unlike xs ys (λ e. other (omega (arith, e))))
  where
    by : (b : Bool) → false ≡ same_numbers xs ys → false ≡ (b && same_numbers xs ys)
    by true h = h
    by false h = refl
