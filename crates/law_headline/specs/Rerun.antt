-- A rerun from its entry to its end: what its edits make of the document, what they claim, and what it leaves as it was.
use Rattle.std.specs.Prelude.{ℕ, ◌<◌, ◌≤◌, true, false, List, length, Some, Ok, Contains, ◌≡◌}
use Rattle.rt_model.specs.Lists.{at}
use Rattle.rt_model.specs.Tree.{Types, Place, Kind}
use Rattle.rt_model.specs.World.{Application}
use Rattle.rt_model.specs.Laws.{IsLawful}
use Rattle.rt_model.specs.State.{SideName, Scope, State, side_of, is_live, is_shown}
use Rattle.rt_model.specs.Document.{document_after}
use Rattle.rt_model.specs.View.{nodes_of, view}
use Rattle.rt_model.specs.Caused.{written}
use Rattle.rt_model.specs.Replay.{Input, Machine}
use Rattle.rt_model.specs.Causes.{Limits}
use Rattle.law_moves.specs.Sweeps.{MeetsDown, scope_claims}
use Rattle.law_moves.specs.Settings.{Setting, placed}
use Rattle.law_moves.specs.Trees.{Outside}
use Rattle.law_moves.specs.Reruns.{Reruns}

module _ {K : Types} (app : Application K) where
  -- of a lawful application it holds of the state before a rerun, the one after it, and the scope that ran
  abbrev pub OfReruns : (State K → State K → ℕ → Type 0) → Type 0
  OfReruns holds =
      IsLawful K app
      → (limits : Limits) (props : K.Props) (inputs : List (Input K)) (m v : Machine K) (s : ℕ)
      → Reruns app limits props inputs m s v
      → holds m.state v.state s

  -- the edits of a rerun never fault, and make what shows after it of what showed before it
  abbrev pub RerunsBring : Type 0
  RerunsBring = OfReruns (λ w v s. document_after (written app w v s) (view w) ≡ Ok (view v))

  -- its edits claim no number twice
  abbrev pub RerunsClaimOnce : Type 0
  RerunsClaimOnce = OfReruns (λ w v s. (n : ℕ) → scope_claims app w v (length w.scopes) s n ≤ 1)

  -- a number that was drawn before it stands, if it does, at the place of the side of the scope at which it stood
  abbrev pub RerunsKeepNumbers : Type 0
  RerunsKeepNumbers =
      OfReruns
      (
      λ w v s.
      (t n : ℕ) (x : Scope K) (a : SideName) (p : Place) (k : Kind)
      → at v.scopes t ≡ Some x
      → Contains (side_of x a).numbers (p, k, n)
      → n < w.next.elements
      → (z : Scope K) × (at w.scopes t ≡ Some z) × Contains (side_of z a).numbers (p, k, n)
      )

  -- scopes that aren't below the scope stay, and show what they showed
  abbrev pub RerunsLeaveOthers : Type 0
  RerunsLeaveOthers =
      OfReruns
      (
      λ w v s.
      (t : ℕ) (path : List ℕ)
      → (
      (x : Scope K)
      → at v.scopes t ≡ Some x
      → Outside v s path t
      → (z : Scope K) × (at w.scopes t ≡ Some z) × (x.shows ≡ z.shows) × ((a : SideName) → side_of x a ≡ side_of z a)
      )
      × (is_live w t ≡ true → Outside w s path t → is_live v t ≡ true)
      )

  -- a shown scope is shown still, and what stands about its nodes stays
  abbrev pub RerunsKeepSetting : Type 0
  RerunsKeepSetting =
      OfReruns
      (
      λ w v s.
      is_shown w s ≡ true
      → (is_shown v s ≡ true)
      × ((place : Setting) × (view w ≡ placed place (nodes_of w s)) × (view v ≡ placed place (nodes_of v s)))
      )

  -- of a hidden one the document stays
  abbrev pub RerunsHidden : Type 0
  RerunsHidden = OfReruns (λ w v s. is_shown w s ≡ false → view w ≡ view v)

  -- from a shown scope down through all that is fed, the new outputs meet the old ones
  abbrev pub RerunsMeet : Type 0
  RerunsMeet = OfReruns (λ w v s. is_shown w s ≡ true → MeetsDown app w v (length w.scopes) s)
