-- Where every output is current a component shows what its page gives of its cells, and so it is after each report.
use Rattle.std.proofs.Common.{ℕ, Bool, true, List, [], ◌∷◌, ◌++◌, ◌≡◌, refl, sym, ap, subst, ◌∙◌, map, nat_lt}
use Rattle.std.specs.Prelude.{Option, Some, None, if◌then◌else◌}
use Rattle.std.specs.List.{AllByRecursion}
use Rattle.rt_model.specs.Current.{AllCurrent, IsCurrent, CurrentAs, BodyIsCurrent, world_again, again}
use Rattle.rt_model.specs.Lists.{at}
use Rattle.rt_model.specs.Program.{call_means}
use Rattle.rt_model.specs.Run.{body_of}
use Rattle.rt_model.specs.State.{State, Scope, LastCall, values_of}
use Rattle.rt_model.specs.Told.{Told}
use Rattle.rt_model.specs.Tree.{Types, VComponent}
use Rattle.rt_model.specs.World.{Application}
use Rattle.author_bodies.specs.Bodies.{bodies_are_lawful}
use Rattle.author_programs.specs.Cells.{Keeping}
use Rattle.author_programs.specs.Present.{value_now}
use Rattle.author_programs.proofs.Present.{found, page-shown}
use Rattle.author_deriving.specs.Task.{as_task}
use Rattle.law_minding.specs.Sessions.{SessionsKeepMemos}
use Rattle.author_derived.specs.Derived.{Derivations, formulas_of, derived_types, meaning_of_derived, programs_of_derived}
use Rattle.author_derived.specs.DerivedShow.{Derivation, IsDerived, AllDerived, seen_as, seen_value, DerivedShow, CurrentDerivedShow, ReportsShowDerived}
use Rattle.author_derived.specs.Decides.{derivations_decide, formulas_look, polls_memos}
use Rattle.author_derived.proofs.Standing.{whole, whole_length, means_whole}

module _ {K : Types} {F : Type 0} (a : Derivations K F) (w : State K) (last : LastCall K) (derived : List (ℕ × Derivation F)) (h : AllDerived a w last derived) where
  -- of a derived cell the present value is what its formula gives
  one_seen : (n : ℕ) (o : Option (Derivation F)) → at derived n ≡ o → value_now w last n ≡ seen_as a w last n o
  one_seen n None is = refl
  one_seen n (Some d) is =
      let here = found (λ (e : ℕ × Derivation F). (nat_lt e.0 last.given.given.next.cells ≡ true) × IsDerived a w e.0 e.1) derived n d h is in
      ap (λ (b : Bool). if b then (values_of w).cell n else None) here.0 ∙ here.1

  all_seen : (ns : List ℕ) → map (value_now w last) ns ≡ map (seen_value a w last derived) ns
  all_seen [] = refl
  all_seen (n ∷ ns) = λ i. one_seen n (at derived n) refl i ∷ all_seen ns i

pub current_derived_show : (C Q V H F L : Type 0) → CurrentDerivedShow C Q V H F L
current_derived_show C Q V H F L k a w current s x last c p own behind derived there called component kept cells same held =
    let app : Application (derived_types C Q V H F L) = meaning_of_derived k a in
    let all : List ℕ = own ++ behind in
    let scope : CurrentAs app w x (at w.last_calls s) x.component = found (λ (e : ℕ × Scope (derived_types C Q V H F L)). IsCurrent app w e.0 e.1) w.scopes s x current there in
    let body : BodyIsCurrent app w x (Some last) =
    subst (λ (o : Option (LastCall (derived_types C Q V H F L))). BodyIsCurrent app w x o) called
    (subst (λ (v : VComponent (derived_types C Q V H F L)). CurrentAs app w x (at w.last_calls s) v) component scope) in
    page-shown k (whole k (λ task. as_task task) a c p behind) w x last all kept (whole_length k (λ task. as_task task) a c p own behind cells) (again app w x last)
    (ap (λ (v : VComponent (derived_types C Q V H F L)). body_of app v (world_again w x last)) component
    ∙ means_whole k (λ task. as_task task) a c p (world_again w x last) own behind kept cells same)
    body.0
    body.1
    ∙ ap (λ vs. Some (((a.pages).page c p).shows last.given.given.scope all vs)) (all_seen a w last derived held (((a.pages).page c p).reads all))

module _ {C Q V H F L : Type 0} (k : Keeping V) (a : Derivations (derived_types C Q V H F L) F) where
  all_show : (rs : List (Told (derived_types C Q V H F L)))
      → AllByRecursion (λ (r : Told (derived_types C Q V H F L)). AllCurrent (meaning_of_derived k a) (r.machine).state) rs
      → AllByRecursion (λ (r : Told (derived_types C Q V H F L)). DerivedShow k a (r.machine).state) rs
  all_show [] h = tt
  all_show (r ∷ rs) h = (current_derived_show C Q V H F L k a (r.machine).state h.0, all_show rs h.1)

-- of the law on memos of each session
pub reports_show_derived : (C Q V H F L : Type 0)
    → ((k : Keeping V) (a : Derivations (derived_types C Q V H F L) F) → SessionsKeepMemos (formulas_of a) (meaning_of_derived k a) (λ task. as_task task))
    → ReportsShowDerived C Q V H F L
reports_show_derived C Q V H F L keep k a props inputs limits taken reports tests h = (
  all_show k a h.told h.holds.current,
  keep k a (bodies_are_lawful (derived_types C Q V H F L) (programs_of_derived k a) (derivations_decide k a tests)) (formulas_look a tests.values)
      (λ m w. ap (λ body. call_means body w) (polls_memos k a m)) props inputs limits taken reports h,
)
