-- The tasks that inputs wake, one after another.
use Rattle.std.proofs.Common.{◌≡◌, ◌∙◌, ℕ, ◌+◌, ◌<◌, ◌≤◌, List, [], ◌∷◌, ◌++◌, length, map, get_or, drop, Option, Some, None, refl, sym, ap, append_assoc, append-nil}
use Rattle.std.proofs.Math.ListN.{drop_of_length-le}
use Rattle.std.proofs.lemmas.List.{drop_more}
use Rattle.std.specs.Prelude.{option_and_then, option_map}
use Rattle.lang_script.specs.declared.script.Script.{Script}
use Rattle.rt_language.specs.Meaning.{inputs_of}
use Rattle.rt_language.specs.Syntax.{Source}
use Rattle.rt_language.specs.Values.{Value}
use Rattle.rt_language.specs.Expressions.{SourceTypes}
use Rattle.rt_model.specs.Replay.{Input}
use Rattle.show_html.specs.Paging.{wake_in, wakes_in}
use Rattle.show_words.specs.Ready.{MadeOf}

-- tasks so far, and those of the inputs that are left
abbrev pub with_front : List ℕ → Option (List ℕ) → Option (List ℕ)
with_front front tasks = option_map (λ ts. front ++ ts) tasks

pub none_before : (tasks : Option (List ℕ)) → with_front [] tasks ≡ tasks
none_before None = refl
none_before (Some tasks) = refl

one_before : (front : List ℕ) (task : ℕ) (tasks : Option (List ℕ))
    → with_front front (option_map (λ ts. task ∷ ts) tasks) ≡ with_front (front ++ task ∷ []) tasks
one_before front task None = refl
one_before front task (Some tasks) = ap Some (sym (append_assoc front (task ∷ []) tasks))

module _ {A : Type 0} (read : A → Input SourceTypes) where
  -- the inputs from a place on
  left : (xs : List A) (at : ℕ) (x : A) → at < length xs → x ≡ get_or xs at x
      → wakes_in (map read (drop at xs)) ≡ wakes_in (read x ∷ map read (drop (at + 1) xs))
  left xs at x within is =
      ap (λ ys. wakes_in (map read ys)) (drop_more xs at x within ∙ ap (λ y. y ∷ drop (at + 1) xs) (sym is))

  -- the next one wakes a task
  pub wake_more : (xs : List A) (at : ℕ) (x : A) (front longer : List ℕ) (task : ℕ) (whole : Option (List ℕ))
      → at < length xs → x ≡ get_or xs at x
      → Some task ≡ wake_in (read x)
      → longer ≡ front ++ task ∷ []
      → with_front front (wakes_in (map read (drop at xs))) ≡ whole
      → with_front longer (wakes_in (map read (drop (at + 1) xs))) ≡ whole
  wake_more xs at x front longer task whole within is wakes long before =
      let rest : Option (List ℕ) = wakes_in (map read (drop (at + 1) xs)) in
      ap (λ ts. with_front ts rest) long
      ∙ sym (one_before front task rest)
      ∙ ap (λ o. with_front front (option_and_then (λ t. option_map (λ ts. t ∷ ts) rest) o)) wakes
      ∙ ap (λ o. with_front front o) (sym (left xs at x within is))
      ∙ before

  -- it doesn't
  pub wake_none : (xs : List A) (at : ℕ) (x : A) (front : List ℕ) (whole : Option (List ℕ))
      → at < length xs → x ≡ get_or xs at x
      → None ≡ wake_in (read x)
      → with_front front (wakes_in (map read (drop at xs))) ≡ whole
      → None ≡ whole
  wake_none xs at x front whole within is none before =
      let rest : Option (List ℕ) = wakes_in (map read (drop (at + 1) xs)) in
      ap (λ o. with_front front (option_and_then (λ t. option_map (λ ts. t ∷ ts) rest) o)) none
      ∙ ap (λ o. with_front front o) (sym (left xs at x within is))
      ∙ before

  -- all do
  pub wake_all : (xs : List A) (at : ℕ) (front : List ℕ) (whole : Option (List ℕ))
      → length xs ≤ at
      → with_front front (wakes_in (map read (drop at xs))) ≡ whole
      → Some front ≡ whole
  wake_all xs at front whole end before =
      ap Some (sym (append-nil front))
      ∙ ap (λ ys. with_front front (wakes_in (map read ys))) (sym (drop_of_length-le xs end))
      ∙ before

-- the tasks that a script's inputs wake are those that the inputs of its source wake
pub wakes_said : {B : Type 0} (said : Source) (script : Script) (props : List Value) (inputs given : List (Input SourceTypes))
    (number : B → ℕ) (found known : Option (List B))
    → MadeOf said script props inputs
    → given ≡ inputs
    → option_map (λ bs. map number bs) found ≡ wakes_in given
    → found ≡ known
    → wakes_in (inputs_of said.inputs) ≡ option_map (λ bs. map number bs) known
wakes_said said script props inputs given number found known made same is shown =
    ap (λ xs. wakes_in xs) (sym made.inputs_are ∙ sym same) ∙ sym is ∙ ap (λ o. option_map (λ bs. map number bs) o) shown
