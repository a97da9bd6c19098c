-- What a scope shows whose component has derived cells, while it is current: a function of the values of cells and of what formulas give.
use Rattle.std.specs.Prelude.{ℕ, ◌++◌, true, List, map, length, nat_lt, Option, Some, None, if◌then◌else◌, ◌≡◌}
use Rattle.std.specs.List.{AllByRecursion}
use Rattle.rt_model.specs.Causes.{Limits}
use Rattle.rt_model.specs.Current.{AllCurrent}
use Rattle.rt_model.specs.Document.{Edit}
use Rattle.rt_model.specs.Headline.{Headline}
use Rattle.rt_model.specs.Lists.{at}
use Rattle.rt_model.specs.Replay.{Input}
use Rattle.rt_model.specs.Reports.{Report}
use Rattle.rt_model.specs.State.{State, Scope, LastCall, TaskRow, values_of}
use Rattle.rt_model.specs.Told.{Told}
use Rattle.rt_model.specs.Tree.{Types, Own}
use Rattle.author_programs.specs.Cells.{Keeping}
use Rattle.author_programs.specs.Means.{AllDecide}
use Rattle.author_programs.specs.Present.{value_now}
use Rattle.author_programs.specs.Shows.{KeepAll}
use Rattle.author_formulas.specs.Memos.{memo}
use Rattle.author_deriving.specs.Task.{as_task}
use Rattle.law_minding.specs.Held.{IsKept, Since}
use Rattle.law_minding.specs.Sessions.{MemosKept}
use Rattle.author_derived.specs.Derived.{Derivations, formulas_of, derived_types, meaning_of_derived}

-- a derived cell: how many cells were drawn when it was computed, and its formula
pub record Derivation (F : Type 0) : Type 0 where
  pub drawn : ℕ
  pub formula : F

module _ {K : Types} where
  -- the value of a cell in a state, of the numbers that were drawn
  abbrev pub value_below : State K → ℕ → ℕ → Option K.Value
  value_below w drawn n = if nat_lt n drawn then (values_of w).cell n else None

module _ {K : Types} {F : Type 0} (a : Derivations K F) (w : State K) where
  -- what a formula gives of the values in a state
  abbrev pub given_by : Derivation F → K.Value
  given_by d = a.value d.formula (map (value_below w d.drawn) (a.sources d.formula))

  -- a cell holds that
  abbrev pub IsDerived : ℕ → Derivation F → Type 0
  IsDerived n d = (values_of w).cell n ≡ Some (given_by d)

  -- so do all these cells, which were drawn before a scope's last call
  abbrev pub AllDerived : LastCall K → List (ℕ × Derivation F) → Type 0
  AllDerived last derived =
      AllByRecursion (λ (e : ℕ × Derivation F). (nat_lt e.0 last.given.given.next.cells ≡ true) × IsDerived e.0 e.1) derived

  -- what a scope sees in a cell: of a derived one what its formula gives, of another one the present value
  abbrev pub seen_as : LastCall K → ℕ → Option (Derivation F) → Option K.Value
  seen_as last n None = value_now w last n
  seen_as last n (Some d) = Some (given_by d)

  -- where these are the derived ones
  abbrev pub seen_value : LastCall K → List (ℕ × Derivation F) → ℕ → Option K.Value
  seen_value last derived n = seen_as last n (at derived n)

-- of every scope whose hooks kept the cells of its component at its last call, its own ones and behind them its derived ones: where derived
-- cells hold what their formulas give, it shows what its page gives of that, and of the present values of all other cells
abbrev pub DerivedShow : {K : Types} {F : Type 0} → Keeping K.Value → Derivations K F → State K → Type 0
DerivedShow {K = K} {F = F} k a w =
    (s : ℕ) (x : Scope K) (last : LastCall K) (c : K.Component) (p : K.Props) (own behind : List ℕ) (derived : List (ℕ × Derivation F))
    → at w.scopes s ≡ Some x
    → at w.last_calls s ≡ Some last
    → x.component ≡ Own c p
    → KeepAll k last.given.given.hooks 0 (own ++ behind)
    → length ((a.pages).page c p).cells ≡ length own
    → length (a.derived c p own) ≡ length behind
    → AllDerived a w last derived
    → x.main_side.output
    ≡ Some (((a.pages).page c p).shows
    last.given.given.scope (own ++ behind) (map (seen_value a w last derived) (((a.pages).page c p).reads (own ++ behind))))

-- so it is wherever every output is current
abbrev pub CurrentDerivedShow : (C Q V H F L : Type 0) → Type 0
CurrentDerivedShow C Q V H F L =
    (k : Keeping V) (a : Derivations (derived_types C Q V H F L) F) (w : State (derived_types C Q V H F L))
    → AllCurrent (meaning_of_derived k a) w
    → DerivedShow k a w

-- the cell of a memo that is kept holds what its formula gives
abbrev pub KeptAreDerived : Types → Type 0 → Type 0
KeptAreDerived K F =
    (a : Derivations K F) (w : State K) (t cell context : ℕ) (f : F) (task : TaskRow K) (h : Since K F)
    → h.place ≡ memo cell context f
    → IsKept (formulas_of a) w t task h
    → IsDerived a w cell (record { drawn = h.last.given.next.cells; formula = f })

-- after each report of a session every such scope shows so, and the derived cells are kept as memos are
abbrev pub ReportsShowDerived : (C Q V H F L : Type 0) → Type 0
ReportsShowDerived C Q V H F L =
    (k : Keeping V) (a : Derivations (derived_types C Q V H F L) F) (props : Q) (inputs : List (Input (derived_types C Q V H F L)))
    → (limits : Limits) (taken : Option (List Edit)) (reports : List Report)
    → AllDecide (derived_types C Q V H F L) a.pages
    → (h : Headline (meaning_of_derived k a) props inputs limits taken reports)
    → AllByRecursion (λ (r : Told (derived_types C Q V H F L)). DerivedShow k a (r.machine).state) h.told
    × MemosKept (formulas_of a) (meaning_of_derived k a) (λ task. as_task task) props inputs limits reports
