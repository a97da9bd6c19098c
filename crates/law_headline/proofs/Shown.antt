-- A number that the edits of a rerun carry stands in the state after it, and didn't show before it.
use Rattle.std.proofs.Common.{ℕ, zero, suc, ◌+◌, ◌≤◌, ◌<◌, true, false, List, [], ◌≡◌, inl, inr, refl, ap, ◌∙◌, arith, length}
use Rattle.std.specs.Prelude.{Option, Some, None, nat_lt}
use Rattle.std.specs.List.{AllByRecursion}
use Rattle.rt_model.specs.Lists.{at}
use Rattle.rt_model.specs.Tree.{Types}
use Rattle.rt_model.specs.World.{Application}
use Rattle.rt_model.specs.Laws.{IsLawful}
use Rattle.rt_model.specs.State.{Scope, State, side_of, is_shown}
use Rattle.rt_model.specs.Replay.{Input, Machine}
use Rattle.rt_model.specs.Document.{Forest, Edit, count_of}
use Rattle.rt_model.specs.View.{scope_view, nodes_of, view}
use Rattle.rt_model.specs.Caused.{written_within, written}
use Rattle.rt_model.specs.Causes.{Limits}
use Rattle.rt_model.specs.Sentences.{all_carried, MayCome}
use Rattle.rt_model.proofs.Maps.{by_test}
use Rattle.law_moves.proofs.Twigs.{found_live}
use Rattle.law_moves.specs.Settings.{Setting, beside}
use Rattle.law_moves.specs.Sweeps.{MeetsDown, scope_claims}
use Rattle.law_headline.proofs.InRows.{absent, count_placed}
use Rattle.law_headline.proofs.Descent.{scope_sweep}
use Rattle.law_headline.proofs.Unfolding.{tree_unfolds}
use Rattle.law_headline.proofs.Nodes.{Settled}
use Rattle.law_headline.proofs.Settled.{contained, settled_once}
use Rattle.law_moves.specs.Reruns.{Reruns}
use Rattle.law_headline.proofs.Homes.{Entry, Under}
use Rattle.law_headline.proofs.Reruns.{Ended, rerun_ended, reruns_claim_once, reruns_keep_numbers, reruns_keep_setting, reruns_meet}
use Rattle.law_headline.specs.Carried.{RerunsCarryAnew}
use Rattle.law_headline.proofs.Carries.{carries}
use Rattle.law_headline.proofs.Drawn.{never_among, all_listed}
use Rattle.law_headline.proofs.Unshown.{own_under}
use Rattle.law_headline.proofs.Down.{scope_within}

module _ {K : Types} (v : State K) (g : Settled v) (n : ℕ) where
  -- a number that a scope shows stands in it or below it
  pub stands_under : (t : ℕ) (x : Scope K) → at v.scopes t ≡ Some x → 0 < count_of n (nodes_of v t) → Under v g n t
  stands_under t x found more = (own_under v g n t x found).1 more

  -- one that the document shows stands in a live scope
  pub shown_stands : 0 < count_of n (view v) → Under v g n 0
  shown_stands more = by_scope (at v.scopes 0) refl
    where
      by_scope : (o : Option (Scope K)) → at v.scopes 0 ≡ o → Under v g n 0
      by_scope (Some x) found = stands_under 0 x found more
      by_scope None found =
          let none : count_of n (view v) ≡ 0 = ap (λ (f : Forest). count_of n f) (tree_unfolds v g.tree 0 ∙ ap (λ (o : Option (Scope K)). scope_view (λ t. nodes_of v t) o) found) in
          absurd (omega (arith, more, none))

  -- it was drawn
  pub in_range : (t : ℕ) → Under v g n t → (0 < n) × (n < v.next.elements)
  in_range t u =
      let e : Entry v g n u.scope u.side u.place u.kind = u.entry in
      (g.ready.stands).range u.scope n e.row u.side u.place u.kind e.found e.number

module _ {K : Types} (app : Application K) (lawful : IsLawful K app) (limits : Limits) (props : K.Props) (inputs : List (Input K)) (m v : Machine K) (s : ℕ) (r : Reruns app limits props inputs m s v) where
  abbrev pub ended : Ended app lawful m.state v.state s
  ended = rerun_ended app lawful limits props inputs m v s r

  -- what is known of a number that the rerun's edits carry
  pub record Comes (n : ℕ) : Type 0 where
    pub stands : Under v.state ended.after n s
    pub hidden : count_of n (view m.state) ≡ 0

  hidden_writes : (n : ℕ) → is_shown m.state s ≡ false → (written_within app [] m.state v.state n s).edits ≡ []
  hidden_writes zero hidden = refl
  hidden_writes (suc n) hidden = rw hidden refl

  pub carried_comes : (n : ℕ) → 0 < carries n (written app m.state v.state s) → Comes n
  carried_comes n more =
      by_test (is_shown m.state s)
      (λ seen. when_shown seen)
      (
      λ hidden.
      let none : carries n (written app m.state v.state s) ≡ 0 = ap (λ (es : List Edit). carries n es) (hidden_writes (length m.state.scopes) hidden) in
      absurd (omega (arith, more, none))
      )
    where
      when_shown : is_shown m.state s ≡ true → Comes n
      when_shown seen = record { stands = stands_under v.state ended.after n s x.0 x.1 shows_it; hidden = hidden_before }
        where
          x : (y : Scope K) × (at v.state.scopes s ≡ Some y)
          x = found_live (at v.state.scopes s) ended.since.top

          meets : MeetsDown app m.state v.state (length m.state.scopes) s
          meets = reruns_meet app lawful limits props inputs m v s r seen

          within : count_of n (nodes_of m.state s) + carries n (written app m.state v.state s) ≤ scope_claims app m.state v.state (length m.state.scopes) s n
          within = scope_within app m.state v.state (tree_unfolds m.state ended.before.tree) n (length m.state.scopes) s meets

          bounded : scope_claims app m.state v.state (length m.state.scopes) s n ≤ count_of n (nodes_of m.state s) + count_of n (nodes_of v.state s)
          bounded = (scope_sweep app m.state v.state (tree_unfolds m.state ended.before.tree) (tree_unfolds v.state ended.after.tree) (length m.state.scopes) s meets).bounded n

          once : scope_claims app m.state v.state (length m.state.scopes) s n ≤ 1
          once = reruns_claim_once app lawful limits props inputs m v s r n

          shows_it : 0 < count_of n (nodes_of v.state s)
          shows_it = omega (arith, more, within, bounded)

          hidden_before : count_of n (view m.state) ≡ 0
          hidden_before =
              let set = (reruns_keep_setting app lawful limits props inputs m v s r seen).1 in
              let place : Setting = set.0 in
              let old : count_of n (view m.state) ≡ beside n place + count_of n (nodes_of m.state s) = ap (λ (f : Forest). count_of n f) set.1 ∙ count_placed n place (nodes_of m.state s) in
              let new : count_of n (view v.state) ≡ beside n place + count_of n (nodes_of v.state s) = ap (λ (f : Forest). count_of n f) set.2 ∙ count_placed n place (nodes_of v.state s) in
              let single : count_of n (view v.state) ≤ 1 = (settled_once app lawful v.state ended.after).once n in
              omega (arith, more, within, bounded, once, old, new, single, shows_it)

  -- such a number may come
  pub may_come : (earlier : List ℕ) → AllByRecursion (λ (k : ℕ). k < m.state.next.elements) earlier → (n : ℕ) → Comes n → MayCome earlier m.state n
  may_come earlier low n c =
      by_test (nat_lt n m.state.next.elements)
      (
      λ e.
      let drawn : n < m.state.next.elements = grind (arith, e) in
      let u : Under v.state ended.after n s = c.stands in
      let i : Entry v.state ended.after n u.scope u.side u.place u.kind = u.entry in
      let z = reruns_keep_numbers app lawful limits props inputs m v s r u.scope n i.row u.side u.place u.kind i.found (contained (side_of i.row u.side).numbers (u.place, u.kind, n) i.number) drawn in
      inr (absent n (view m.state) c.hidden, record { scope = u.scope; row = z.0; side = u.side; place = u.place; kind = u.kind; live = z.1; kept = z.2 })
      )
      (
      λ e.
      let later : m.state.next.elements ≤ n = grind (arith, e) in
      inl (never_among (λ (k : ℕ). k < m.state.next.elements) n (λ less. omega (arith, less, later)) earlier low)
      )

  -- and was drawn by the end
  pub comes_low : (n : ℕ) → Comes n → (0 < n) × (n < v.state.next.elements)
  comes_low n c = in_range v.state ended.after n s c.stands

module _ {K : Types} (app : Application K) where
  pub reruns_carry_anew : RerunsCarryAnew app
  reruns_carry_anew lawful limits props inputs m v s earlier r low =
      all_listed (λ n. MayCome earlier m.state n) (all_carried (written app m.state v.state s))
      (λ n more. may_come app lawful limits props inputs m v s r earlier low n (carried_comes app lawful limits props inputs m v s r n more))
