-- What is proved of programs and of pages.
use Rattle.std.proofs.Common.{inl, inr}
use Rattle.std.specs.Prelude.{ℕ, nat_eq, Bool, true, false, ◌&&◌, ◌≡◌, ◌⊎◌, List}
use Rattle.rt_model.specs.Laws.{IsLawful, Tests}
use Rattle.rt_model.specs.Lists.{same_numbers}
use Rattle.rt_model.specs.Program.{Program, Programs, Call, application_of, exec, ended}
use Rattle.rt_model.specs.Tree.{Types}
use Rattle.rt_model.specs.World.{World}
use Rattle.author_programs.specs.Came.{Came, came}
use Rattle.author_programs.specs.Sequence.{go_on}
use Rattle.author_programs.specs.Cells.{Keeping}
use Rattle.author_programs.specs.Pages.{Pages, meaning_of_pages}

-- whatever call it goes on from, a program means the answer and the call that it comes to
abbrev pub ComesToMeaning : Types → Type 0 → Type 0
ComesToMeaning K A = (w : World K) (p : Program K A) (c : Call K) → exec w p c ≡ ended (came w p c).call (came w p c).answer

-- a program and then another one come to what the second comes to, from where the first one did
abbrev pub GoesOnFromThere : Types → Type 0 → Type 0 → Type 0
GoesOnFromThere K A B =
    (w : World K) (p : Program K A) (f : A → Program K B) (c : Call K)
    → came w (go_on p f) c ≡ came w (f (came w p c).answer) (came w p c).call

-- each test of an application of pure answers decides
pub record AllDecide (K : Types) (a : Pages K) : Type 0 where
  pub components : Tests K.Component a.same_component
  pub props : Tests K.Props a.same_props
  pub values : Tests K.Value a.same_value
  pub handlers : Tests K.Handler a.same_handler

-- an application of pure answers is lawful where its tests decide
abbrev pub PagesAreLawful : Types → Type 0
PagesAreLawful K =
    (k : Keeping K.Value) (a : Pages K) → AllDecide K a → IsLawful K (meaning_of_pages k a)

-- an application of programs is lawful where its tests decide and a component is taken to mean the same with equal props
abbrev pub MemoizedAreLawful : Types → Type 0
MemoizedAreLawful K =
    (a : Programs K)
    → ((c : K.Component) (p q : K.Props) → a.memoize c p q ≡ a.same_props p q)
    → Tests K.Component a.same_component
    → Tests K.Props a.same_props
    → Tests K.Value a.same_value
    → Tests K.Handler a.same_handler
    → IsLawful K (application_of a)

-- a test of both parts decides pairs
abbrev pub PairTests : Type 0 → Type 0 → Type 0
PairTests A B =
    (s : A → A → Bool) (t : B → B → Bool) → Tests A s → Tests B t → Tests (A × B) (λ a b. s a.0 b.0 && t a.1 b.1)

-- values of one type or of another one are the same where both are of one, and its test says so
abbrev pub same_either : {A B : Type 0} → (A → A → Bool) → (B → B → Bool) → A ⊎ B → A ⊎ B → Bool
same_either s t (inl a) (inl b) = s a b
same_either s t (inl a) (inr b) = false
same_either s t (inr a) (inl b) = false
same_either s t (inr a) (inr b) = t a b

-- a test of each of two types decides what is of the one or of the other
abbrev pub EitherTests : Type 0 → Type 0 → Type 0
EitherTests A B =
    (s : A → A → Bool) (t : B → B → Bool) → Tests A s → Tests B t → Tests (A ⊎ B) (same_either s t)

-- a test of what values are coded as decides, where the code can be read back
abbrev pub CodedTests : Type 0 → Type 0 → Type 0
CodedTests A B =
    (code : A → B) (value : B → A) (same : B → B → Bool)
    → ((a : A) → value (code a) ≡ a)
    → Tests B same
    → Tests A (λ a b. same (code a) (code b))

-- tests of plain values that decide
pub record PlainTests : Type 0 where
  pub numbers : Tests ℕ nat_eq
  pub texts : Tests (List ℕ) same_numbers
  pub nothing : Tests (Unit {0}) (λ a b. true)
