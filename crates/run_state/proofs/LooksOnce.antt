-- A look takes the marks of live scopes and the wakes of tasks that haven't ended.
use Rattle.std.proofs.Common.{◌≡◌, ℕ, Bool, true, false, List, [], ◌∷◌, refl, ap, sym, ◌∙◌}
use Rattle.std.specs.Prelude.{is_some, if◌then◌else◌}
use Rattle.rt_model.specs.Lists.{at, has, join}
use Rattle.rt_model.specs.Tree.{Types}
use Rattle.rt_model.specs.State as model
use Rattle.rt_model.specs.State.{Posted, Mark, Woken}
use Rattle.rt_model.specs.Next.{look, look_on}
use Rattle.run_owed.specs.Lists.{joins, marks_in, numbers_of, wakes_in}
use Rattle.run_owed.specs.Owing.{living}
use Rattle.run_state.specs.Looks.{queued_of, seen_of}

module _ {K : Types} where
  -- a state with other seen scopes and queued tasks
  abbrev pub with_lists : model.State K → List ℕ → List ℕ → model.State K
  with_lists w seen queued = record w { seen = seen; queued = queued }

  -- marks and wakes don't hang on each other
  looks : (ps : List Posted) (w : model.State K) (seen queued : List ℕ)
      → look_on ps (with_lists w seen queued) ≡ with_lists w (seen_of w (marks_in ps) seen) (queued_of w (wakes_in ps) queued)
  looks [] w seen queued = refl
  looks (Mark s ∷ ps) w seen queued = by (model.is_live w s) (λ xs ys. looks ps w xs ys)
    where
      by : (b : Bool)
          → ((xs ys : List ℕ) → look_on ps (with_lists w xs ys) ≡ with_lists w (seen_of w (marks_in ps) xs) (queued_of w (wakes_in ps) ys))
          → look_on ps (if b then with_lists w (join seen s) queued else with_lists w seen queued)
          ≡ with_lists w (seen_of w (marks_in ps) (if b then join seen s else seen)) (queued_of w (wakes_in ps) queued)
      by true h = h (join seen s) queued
      by false h = h seen queued
  looks (Woken t ∷ ps) w seen queued = by (is_some (at w.tasks t)) (λ xs ys. looks ps w xs ys)
    where
      by : (b : Bool)
          → ((xs ys : List ℕ) → look_on ps (with_lists w xs ys) ≡ with_lists w (seen_of w (marks_in ps) xs) (queued_of w (wakes_in ps) ys))
          → look_on ps (if b then with_lists w seen (join queued t) else with_lists w seen queued)
          ≡ with_lists w (seen_of w (marks_in ps) seen) (queued_of w (wakes_in ps) (if b then join queued t else queued))
      by true h = h seen (join queued t)
      by false h = h seen queued

  -- those that are entered join
  seen_living : (w : model.State K) (entered : List (ℕ × ℕ)) → ((s : ℕ) → model.is_live w s ≡ has (numbers_of entered) s) → (ms seen : List ℕ) → seen_of w ms seen ≡ joins seen (living entered ms)
  seen_living w entered same [] seen = refl
  seen_living w entered same (m ∷ ms) seen =
      ap (λ (b : Bool). seen_of w ms (if b then join seen m else seen)) (same m)
      ∙ seen_living w entered same ms (if has (numbers_of entered) m then join seen m else seen)
      ∙ by (has (numbers_of entered) m)
    where
      by : (b : Bool) → joins (if b then join seen m else seen) (living entered ms) ≡ joins seen (if b then m ∷ living entered ms else living entered ms)
      by true = refl
      by false = refl

  queued_living : (w : model.State K) (entered : List (ℕ × ℕ)) → ((t : ℕ) → is_some (at w.tasks t) ≡ has (numbers_of entered) t) → (ts queued : List ℕ) → queued_of w ts queued ≡ joins queued (living entered ts)
  queued_living w entered same [] queued = refl
  queued_living w entered same (t ∷ ts) queued =
      ap (λ (b : Bool). queued_of w ts (if b then join queued t else queued)) (same t)
      ∙ queued_living w entered same ts (if has (numbers_of entered) t then join queued t else queued)
      ∙ by (has (numbers_of entered) t)
    where
      by : (b : Bool) → joins (if b then join queued t else queued) (living entered ts) ≡ joins queued (if b then t ∷ living entered ts else living entered ts)
      by true = refl
      by false = refl

  -- a look, by what is entered
  pub looked_by : (w : model.State K) (scopes tasks : List (ℕ × ℕ)) → ((s : ℕ) → model.is_live w s ≡ has (numbers_of scopes) s) → ((t : ℕ) → is_some (at w.tasks t) ≡ has (numbers_of tasks) t)
      → record w { posted = []; seen = joins w.seen (living scopes (marks_in w.posted)); queued = joins w.queued (living tasks (wakes_in w.posted)) } ≡ look w
  looked_by w scopes tasks lives works =
      (λ i. record w { posted = []; seen = sym (seen_living w scopes lives (marks_in w.posted) w.seen) i; queued = sym (queued_living w tasks works (wakes_in w.posted) w.queued) i })
      ∙ sym (looks w.posted (record w { posted = [] }) w.seen w.queued)
