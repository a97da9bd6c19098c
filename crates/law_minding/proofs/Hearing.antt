-- Who hears of a source.
use Rattle.std.proofs.Common.{ℕ, true, false, List, [], ◌∷◌, ◌++◌, ◌≡◌, ◌&&◌, inl, inr, refl, ap, ◌∙◌, nat_eq}
use Rattle.std.specs.List.{AllByRecursion}
pub use Rattle.rt_lemmas.proofs.Bools.{neither, and_both, second_false as other_false}
use Rattle.rt_model.specs.Lists.{has}
use Rattle.rt_model.specs.Tree.{Types}
use Rattle.rt_model.specs.World.{Source, Target, ScopeTarget, TaskTarget, same_source}
use Rattle.rt_model.specs.State.{Mark, Woken, CellRow, ContextRow, State}
use Rattle.rt_model.specs.Commands.{names_source}
use Rattle.rt_model.specs.Removal.{cell_sources, cells_in, context_sources}
use Rattle.rt_model.proofs.Maps.{by_test, eq_same}
use Rattle.rt_model.proofs.Conjunctions.{and-left, and-right}
use Rattle.rt_model.proofs.Members.{clash, or_left, or_right, by_either}
use Rattle.rt_model.proofs.SameTrees.{source_tests}
use Rattle.law_behavior.specs.Hidden.{StandsIn}
use Rattle.law_behavior.specs.Marking.{Targets}
use Rattle.law_minding.specs.Waking.{is_task, hears, goes_with, loses, removal_wakes}

-- a number stands in a list behind others
pub has_middle : (front back : List ℕ) (n : ℕ) → has (front ++ n ∷ back) n ≡ true
has_middle [] back n = or_left (nat_eq n n) (has back n) (eq_same n)
has_middle (x ∷ front) back n = or_right (nat_eq x n) (has (front ++ n ∷ back) n) (has_middle front back n)

module _ {K : Types} (t : ℕ) where
  -- what a post of a task's wake came from targets the task
  pub target_is : (w : State K) (a : Target) → Targets w a (Woken t) → is_task t a ≡ true
  target_is w (ScopeTarget s) h = let absurdity : Woken t ≡ Mark s = h.1 in cc
  target_is w (TaskTarget u) h =
      let same : Woken t ≡ Woken u = h.1 in
      let one : u ≡ t = cc in
      ap (λ (n : ℕ). nat_eq n t) one ∙ eq_same t

  -- a context among these hears
  pub hears_in : (es : List (ℕ × ContextRow K)) (i : Source) (n : ℕ) (x : ContextRow K) → StandsIn es (n, x) → names_source x.sources i ≡ true → is_task t x.target ≡ true
      → hears t es i ≡ true
  hears_in [] i n x stands reads target = absurd stands
  hears_in (e ∷ es) i n x (inl same) reads target =
      or_left (names_source (e.1).sources i && is_task t (e.1).target) (hears t es i)
      (
      and_both (names_source (e.1).sources i) (is_task t (e.1).target)
      (ap (λ (d : ℕ × ContextRow K). names_source (d.1).sources i) same ∙ reads)
      (ap (λ (d : ℕ × ContextRow K). is_task t (d.1).target) same ∙ target)
      )
  hears_in (e ∷ es) i n x (inr later) reads target =
      or_right (names_source (e.1).sources i && is_task t (e.1).target) (hears t es i) (hears_in es i n x later reads target)

  module _ (cells : List (ℕ × CellRow K)) (s : ℕ) where
    loses_in : (xs : List Source) (i : Source) → goes_with cells s i ≡ true → names_source xs i ≡ true → loses cells s xs ≡ true
    loses_in [] i goes named = clash named refl
    loses_in (x ∷ xs) i goes named =
        by_either (same_source x i) (names_source xs i) named
        (λ q. or_left (goes_with cells s x) (loses cells s xs) (ap (λ (j : Source). goes_with cells s j) (source_tests.0 x i q) ∙ goes))
        (λ q. or_right (goes_with cells s x) (loses cells s xs) (loses_in xs i goes q))

    removal_in : (es : List (ℕ × ContextRow K)) (i : Source) → goes_with cells s i ≡ true → hears t es i ≡ true → removal_wakes t cells s es ≡ true
    removal_in [] i goes heard = clash heard refl
    removal_in (e ∷ es) i goes heard =
        by_either (names_source (e.1).sources i && is_task t (e.1).target) (hears t es i) heard
        (
        λ q.
        or_left (loses cells s (e.1).sources && is_task t (e.1).target) (removal_wakes t cells s es)
        (
        and_both (loses cells s (e.1).sources) (is_task t (e.1).target)
        (loses_in (e.1).sources i goes (and-left (names_source (e.1).sources i) (is_task t (e.1).target) q))
        (and-right (names_source (e.1).sources i) (is_task t (e.1).target) q)
        )
        )
        (λ q. or_right (loses cells s (e.1).sources && is_task t (e.1).target) (removal_wakes t cells s es) (removal_in es i goes q))

    -- where a removal wakes nobody, nobody hears of what goes
    pub hears_none : (es : List (ℕ × ContextRow K)) → removal_wakes t cells s es ≡ false → (i : Source) → goes_with cells s i ≡ true → hears t es i ≡ false
    hears_none es none i goes = by_test (hears t es i) (λ q. clash (removal_in es i goes q) none) (λ q. q)

    abbrev pub AllGo : List Source → Type 0
    AllGo xs = AllByRecursion (λ (i : Source). goes_with cells s i ≡ true) xs

    cells_go : (ns : List ℕ) → ((n : ℕ) → has ns n ≡ true → has (cells_in s cells) n ≡ true) → AllGo (cell_sources ns)
    cells_go [] all = tt
    cells_go (n ∷ ns) all = (all n (or_left (nat_eq n n) (has ns n) (eq_same n)), cells_go ns (λ m q. all m (or_right (nat_eq n m) (has ns m) q)))

    pub all_cells_go : AllGo (cell_sources (cells_in s cells))
    all_cells_go = cells_go (cells_in s cells) (λ n q. q)

    pub contexts_go : (ks : List ℕ) → AllGo (context_sources s ks)
    contexts_go [] = tt
    contexts_go (k ∷ ks) = (eq_same s, contexts_go ks)
