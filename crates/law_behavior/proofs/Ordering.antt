-- What runs and removals leave of the seen scopes in their order.
use Rattle.std.proofs.Common.{ℕ, ◌+◌, ◌++◌, ◌≤◌, ◌<◌, Bool, true, false, ◌&&◌, ◌||◌, not, List, [], ◌∷◌, ◌≡◌, refl, sym, ap, ◌∙◌, subst, arith, nat_eq}
use Rattle.std.specs.Prelude.{Option, Some, None, is_some, if◌then◌else◌, nat_lt}
use Rattle.std.specs.List.{AllByRecursion}
use Rattle.std.proofs.lemmas.Bool.{eqb-true}
use Rattle.rt_lemmas.proofs.Bools.{and_false as and_none}
use Rattle.rt_lemmas.proofs.Numbers.{other_way, not_less as none_less}
use Rattle.rt_model.specs.Lists.{at, has, drop_number}
use Rattle.rt_model.specs.Tree.{Types, Place, VComponent}
use Rattle.rt_model.specs.World.{Scopes, Elements, at_end, Application}
use Rattle.rt_model.specs.Laws.{IsLawful}
use Rattle.rt_model.specs.Lasting.{IsRooted}
use Rattle.rt_model.specs.State.{SideName, IdsExhausted, Scope, State, Item, Draw, Row, Feed, Make, Drop, Outcome, Done, Cut, is_live, height_of, new_scope, side_of, with_side}
use Rattle.rt_model.specs.Boundary.{boundary_step, row_step}
use Rattle.rt_model.specs.Next.{Work, RerunScope, sorted_by, is_before, found, looked, drops, at_rest, or_effects, next, seen_in_order}
use Rattle.rt_model.specs.Run.{with_next, run}
use Rattle.rt_model.specs.Removal.{removed}
use Rattle.rt_model.specs.Replay.{Entry, Build, Taken, Heard, Rerun, Poll, Effects, Made, Fed, Kept, Removed, Machine, ended_by, numbered, made_in, made, with_new_scope, with_props, outcome_of}
use Rattle.rt_model.specs.Sentences.{render_ends}
use Rattle.rt_model.proofs.Frames.{shape}
use Rattle.rt_model.proofs.Maps.{by_test}
use Rattle.rt_model.proofs.Members.{number_gone}
use Rattle.rt_model.proofs.RunFrames.{Later, LaterO, later_trans, change_later, run_later, step_later}
use Rattle.rt_model.proofs.MachineFrames.{rest_later, numbered_later}
use Rattle.law_moves.specs.Moves.{is_silent}
use Rattle.law_moves.proofs.Made.{heights, at_child}
use Rattle.rt_model.proofs.TakesOne.{removal_takes_one}
use Rattle.law_moves.proofs.Twigs.{by_scope, same_framed, height_by}
use Rattle.law_behavior.specs.Comes.{IsFirst, ComesToRerun}
use Rattle.law_behavior.proofs.Coming.{found_turn, none_found}
use Rattle.law_behavior.proofs.Firsts.{scopes_order}
use Rattle.law_behavior.proofs.Orders.{came_up, drops_seen, unlooked}
use Rattle.law_behavior.proofs.Unlooked.{Sees, changes, run_sees, row_sees, removed_sees}
use Rattle.law_behavior.proofs.Seen.{Lined, drops_same}
use Rattle.law_behavior.proofs.Sorting.{drop_none, turn_sorted, drop_sorted, agree_sorted, all_map}

pub all_any : (P : ℕ → Type 0) (xs : List ℕ) → ((x : ℕ) → P x) → AllByRecursion P xs
all_any P [] f = tt
all_any P (x ∷ xs) f = (f x, all_any P xs f)

apart_all : (xs : List ℕ) (n : ℕ) → has xs n ≡ false → AllByRecursion (λ (x : ℕ). nat_eq x n ≡ false) xs
apart_all [] n h = tt
apart_all (x ∷ xs) n h = by (λ g. apart_all xs n g) (nat_eq x n) refl h
  where
    by : (has xs n ≡ false → AllByRecursion (λ (y : ℕ). nat_eq y n ≡ false) xs) → (b : Bool) → nat_eq x n ≡ b → b || has xs n ≡ false
        → AllByRecursion (λ (y : ℕ). nat_eq y n ≡ false) (x ∷ xs)
    by go true e g = cc
    by go false e g = (e, go g)

-- numbers below one are not that one
below_out : (xs : List ℕ) (n : ℕ) → AllByRecursion (λ (x : ℕ). x < n) xs → has xs n ≡ false
below_out [] n h = refl
below_out (x ∷ xs) n h =
    let first : nat_eq x n ≡ false =
    by_test (nat_eq x n) (λ q. let same : x ≡ n = eqb-true x n q in let low = h.0 in absurd (omega (arith, same, low))) (λ q. q) in
    ap (λ (b : Bool). b || has xs n) first ∙ below_out xs n h.1

-- what is left of a list in order
abbrev pub after : List ℕ → Entry → List ℕ
after xs Build = xs
after xs (Taken k) = xs
after xs (Heard s) = xs
after xs (Rerun s) = drop_number xs s
after xs (Poll t) = xs
after xs (Effects s) = xs
after xs (Made s) = xs
after xs (Fed s) = drop_number xs s
after xs (Kept s) = xs
after xs (Removed s) = drop_number xs s

module _ {K : Types} where
  height_shape : (o : Option (Scope K)) → elim o as (λ z. ℕ) [ None ↦ 0 | Some x ↦ x.height ] ≡ elim (shape o) as (λ z. ℕ) [ None ↦ 0 | Some f ↦ f.1 ]
  height_shape None = refl
  height_shape (Some x) = refl

  pub height_later : (w v : State K) → Later w v → (s : ℕ) → height_of v.scopes s ≡ height_of w.scopes s
  height_later w v f s =
      height_shape (at v.scopes s)
      ∙ ap (λ (o : Option (Option ℕ × ℕ)). elim o as (λ z. ℕ) [ None ↦ 0 | Some f ↦ f.1 ]) (f.shapes s)
      ∙ sym (height_shape (at w.scopes s))

  -- a scope keeps its height
  abbrev pub Level : State K → State K → ℕ → Type 0
  Level w v s = height_of v.scopes s ≡ height_of w.scopes s

  before_same : (w v : State K) (s t : ℕ) → Level w v s → Level w v t → is_before v.scopes s t ≡ is_before w.scopes s t
  before_same w v s t p q =
      ap (λ (a : ℕ). nat_lt a (height_of v.scopes t) || (nat_eq a (height_of v.scopes t) && nat_lt s t)) p
      ∙ ap (λ (b : ℕ). nat_lt (height_of w.scopes s) b || (nat_eq (height_of w.scopes s) b && nat_lt s t)) q

  before_apart : (scopes : List (ℕ × Scope K)) (s : ℕ) → is_before scopes s s ≡ false
  before_apart scopes s =
      let h : ℕ = height_of scopes s in
      ap (λ (b : Bool). b || (nat_eq h h && nat_lt s s)) (none_less h)
      ∙ ap (λ (b : Bool). nat_eq h h && b) (none_less s)
      ∙ and_none (nat_eq h h)

  -- where the same are seen
  pub order_same : (w v : State K) → v.seen ≡ w.seen → AllByRecursion (λ (s : ℕ). Level w v s) w.seen → seen_in_order v ≡ seen_in_order w
  order_same w v same level =
      ap (λ (xs : List ℕ). sorted_by (λ s t. is_before v.scopes s t) xs) same
      ∙ agree_sorted (λ s t. is_before v.scopes s t) (λ s t. is_before w.scopes s t) (λ s. Level w v s) (λ s t p q. before_same w v s t p q) w.seen level

  -- where one went
  order_left : (w v : State K) (t : ℕ) → v.seen ≡ drop_number w.seen t → AllByRecursion (λ (s : ℕ). Level w v s) (drop_number w.seen t)
      → seen_in_order v ≡ drop_number (seen_in_order w) t
  order_left w v t same level =
      ap (λ (xs : List ℕ). sorted_by (λ s u. is_before v.scopes s u) xs) same
      ∙ agree_sorted (λ s u. is_before v.scopes s u) (λ s u. is_before w.scopes s u) (λ s. Level w v s) (λ s u p q. before_same w v s u p q)
      (drop_number w.seen t) level
      ∙ drop_sorted (λ s u. is_before w.scopes s u) (scopes_order w.scopes) (before_apart w.scopes) w.seen t

  -- the seen scopes stand in this order, unless a fault ended the run
  abbrev pub InOrder : List ℕ → Machine K → Type 0
  InOrder xs m = m.dead ≡ None → seen_in_order m.state ≡ xs

  -- the same of a change
  abbrev pub OrderO : List ℕ → Outcome K → Type 0
  OrderO xs (Done v work) = seen_in_order v ≡ xs
  OrderO xs (Cut v fault) = Unit {0}

  pub ended_order : (xs : List ℕ) (m : Machine K) (item : Option (Item K)) (rest : List (Item K)) (o : Outcome K) → OrderO xs o
      → InOrder xs (ended_by m item rest o)
  ended_order xs m item rest (Done v work) h = λ alive. h
  ended_order xs m item rest (Cut v fault) h = λ alive. let absurdity : Some fault ≡ None = alive in cc

  -- the seen scope that is rerun comes first
  pub turn_first : (w : State K) (s : ℕ) → next w ≡ Some (RerunScope s) → render_ends w ≡ false → Lined w
      → seen_in_order w ≡ s ∷ drop_number (seen_in_order w) s
  turn_first w s is goes h = by (found d) refl goes
    where
      d : State K
      d = drops w.queued w

      by : (o : Option Work) → found d ≡ o → not (is_some o) ≡ false → seen_in_order w ≡ s ∷ drop_number (seen_in_order w) s
      by None e g = cc
      by (Some x) e g =
          let rests : at_rest w ≡ d = ap (λ (o : Option Work). looked d o) e in
          let here : found d ≡ Some (RerunScope s) =
          came_up d (found d) s (sym (ap (λ (z : State K). or_effects z (found z)) rests) ∙ is) in
          let turn : ComesToRerun d s = found_turn d (RerunScope s) here in
          let scopes = drops_same (λ v. v.scopes) (λ v t. refl) w.queued w in
          let first : IsFirst (λ a b. is_before w.scopes a b) s w.seen =
          subst (λ (es : List (ℕ × Scope K)). IsFirst (λ a b. is_before es a b) s w.seen) scopes
          (subst (λ (xs : List ℕ). IsFirst (λ a b. is_before d.scopes a b) s xs) (drops_seen w.queued w) turn.first) in
          turn_sorted (λ a b. is_before w.scopes a b) (scopes_order w.scopes) (before_apart w.scopes) w.seen s first h.distinct
          ∙ ap (λ (xs : List ℕ). s ∷ xs) (drop_sorted (λ a b. is_before w.scopes a b) (scopes_order w.scopes) (before_apart w.scopes) w.seen s)

  -- where nothing comes up nothing is seen
  pub none_left : (w : State K) → render_ends w ≡ true → seen_in_order w ≡ []
  none_left w ends = by (found d) refl ends
    where
      d : State K
      d = drops w.queued w

      by : (o : Option Work) → found d ≡ o → not (is_some o) ≡ true → seen_in_order w ≡ []
      by None e g = ap (λ (xs : List ℕ). sorted_by (λ s t. is_before w.scopes s t) xs) (sym (drops_seen w.queued w) ∙ (none_found d e).0)
      by (Some x) e g = cc

module _ {K : Types} (app : Application K) (lawful : IsLawful K app) where
  -- a rerun
  pub rerun_order : (w : State K) (s : ℕ) → render_ends w ≡ false → is_live w s ≡ true → OrderO (drop_number (seen_in_order w) s) (run app (at_rest w) s)
  rerun_order w s goes live = by (at (at_rest w).scopes s) refl
    where
      r : State K
      r = at_rest w

      gone : (o p : Option (Scope K)) → shape o ≡ shape p → is_some p ≡ true → o ≡ None → ⊥
      gone o None h l e = cc
      gone None (Some x) h l e = cc
      gone (Some y) (Some x) h l e = cc

      on : (x : Scope K) (o : Outcome K) → Sees (drop_number r.seen s) o → LaterO r o → OrderO (drop_number (seen_in_order w) s) o
      on x (Done u work) sees later =
          let all : Later w u = later_trans w r u (rest_later w) later in
          order_left w u s (sees ∙ ap (λ (xs : List ℕ). drop_number xs s) (unlooked w goes))
          (all_any (λ t. Level w u t) (drop_number w.seen s) (λ t. height_later w u all t))
      on x (Cut u fault) sees later = tt

      by : (o : Option (Scope K)) → at r.scopes s ≡ o → OrderO (drop_number (seen_in_order w) s) (run app r s)
      by None e = absurd (gone (at r.scopes s) (at w.scopes s) ((rest_later w).shapes s) live e)
      by (Some x) e = on x (run app r s) (run_sees app r s x e) (run_later app lawful r s)

  -- a scope is made
  pub make_order : (w : State K) (s : ℕ) (side : SideName) (p : Place) (c : VComponent K) → is_live w s ≡ true → IsRooted w → Lined w
      → OrderO (seen_in_order w) (made app w s side p c)
  make_order w s side p c live rooted h =
      by_scope (at w.scopes s)
      (λ none. let absurdity : false ≡ true = sym (ap (λ (o : Option (Scope K)). is_some o) none) ∙ live in cc)
      (
      λ x found.
      subst (λ (o : Outcome K). OrderO (seen_in_order w) o)
      (sym (ap (λ (o : Option (Scope K)). elim o as (λ z. Outcome K) [ None ↦ Done w [] | Some y ↦ made_in app w s side p c y ]) found))
      (by_end x found (at_end w.next_scope))
      )
    where
      fresh : at w.scopes w.next_scope ≡ None
      fresh = let level : w.next_scope ≤ w.next_scope = omega arith in rooted.drawn w.next_scope level

      apart : (t : ℕ) → t < w.next_scope → nat_eq w.next_scope t ≡ false
      apart t low =
          by_test (nat_eq w.next_scope t) (λ q. let same : w.next_scope ≡ t = eqb-true w.next_scope t q in absurd (omega (arith, same, low))) (λ q. q)

      born_order : (x : Scope K) → at w.scopes s ≡ Some x → (o : Outcome K) → Sees (drop_number w.seen w.next_scope) o
          → LaterO (with_new_scope w s side p c x) o → OrderO (seen_in_order w) o
      born_order x found (Done u work) sees later =
          order_same w u (sees ∙ drop_none w.seen w.next_scope (below_out w.seen w.next_scope h.drawn))
          (all_map (λ t. t < w.next_scope) (λ t. Level w u t) w.seen
          (λ t low. height_later (with_new_scope w s side p c x) u later t ∙ heights w s side p c x found fresh t (apart t low)) h.drawn)
      born_order x found (Cut u fault) sees later = tt

      by_end : (x : Scope K) → at w.scopes s ≡ Some x → (b : Bool)
          → OrderO (seen_in_order w) (if b then Cut w (IdsExhausted Scopes) else run app (with_new_scope w s side p c x) w.next_scope)
      by_end x found true = tt
      by_end x found false =
          let born : State K = with_new_scope w s side p c x in
          born_order x found (run app born w.next_scope)
          (run_sees app born w.next_scope (new_scope c (Some s) (x.height + 1) side) (at_child w s side p c x found fresh))
          (run_later app lawful born w.next_scope)

  -- a child keeps its output
  pub kept_order : (w : State K) (t : ℕ) (c : VComponent K) → OrderO (seen_in_order w) (Done (with_props app w t c) [])
  kept_order w t c =
      let f : Scope K → Scope K = λ x. record x { component = c } in
      order_same w (with_props app w t c) (changes w t f)
      (all_any (λ s. Level w (with_props app w t c) s) w.seen (λ s. height_later w (with_props app w t c) (change_later w t f (λ x. refl)) s))

  -- a child is fed
  pub fed_order : (w : State K) (t : ℕ) (c : VComponent K) → is_live w t ≡ true → OrderO (drop_number (seen_in_order w) t) (run app (with_props app w t c) t)
  fed_order w t c live = by (at (with_props app w t c).scopes t) refl
    where
      f : Scope K → Scope K
      f x = record x { component = c }

      fed_later : Later w (with_props app w t c)
      fed_later = change_later w t (λ x. record x { component = c }) (λ x. refl)

      gone : (o p : Option (Scope K)) → shape o ≡ shape p → is_some p ≡ true → o ≡ None → ⊥
      gone o None h l e = cc
      gone None (Some x) h l e = cc
      gone (Some y) (Some x) h l e = cc

      on : (o : Outcome K) → Sees (drop_number (with_props app w t c).seen t) o → LaterO (with_props app w t c) o → OrderO (drop_number (seen_in_order w) t) o
      on (Done u work) sees later =
          let all : Later w u = later_trans w (with_props app w t c) u fed_later later in
          order_left w u t (sees ∙ ap (λ (xs : List ℕ). drop_number xs t) (changes w t (λ x. record x { component = c })))
          (all_any (λ s. Level w u s) (drop_number w.seen t) (λ s. height_later w u all s))
      on (Cut u fault) sees later = tt

      by : (o : Option (Scope K)) → at (with_props app w t c).scopes t ≡ o → OrderO (drop_number (seen_in_order w) t) (run app (with_props app w t c) t)
      by None e = absurd (gone (at (with_props app w t c).scopes t) (at w.scopes t) (fed_later.shapes t) live e)
      by (Some x) e = on (run app (with_props app w t c) t) (run_sees app (with_props app w t c) t x e) (run_later app lawful (with_props app w t c) t)

  -- a scope goes
  pub removed_order : (w : State K) (l : ℕ) → OrderO (drop_number (seen_in_order w) l) (removed app w l)
  removed_order w l = by (removed app w l) refl (removed_sees app w l)
    where
      by : (o : Outcome K) → removed app w l ≡ o → Sees (drop_number w.seen l) o → OrderO (drop_number (seen_in_order w) l) o
      by (Done u work) e sees =
          let took = (removal_takes_one app lawful w u l work e).1 in
          order_left w u l sees
          (all_map (λ t. nat_eq t l ≡ false) (λ t. Level w u t) (drop_number w.seen l)
          (λ t other. height_by w u t (same_framed (at u.scopes t) (at w.scopes t) (took.others t (other_way t l other))))
          (apart_all (drop_number w.seen l) l (number_gone w.seen l)))
      by (Cut u fault) e sees = tt

  -- silent items
  pub silent_order : (w : State K) (item : Item K) → is_silent item ≡ true → OrderO (seen_in_order w) (outcome_of app w item)
  silent_order w (Draw s side p k) silent = by (at_end w.next.elements)
    where
      by : (b : Bool) → OrderO (seen_in_order w) (if b then Cut w (IdsExhausted Elements) else Done (numbered w s side p k) [])
      by true = tt
      by false =
          let n = record (w.next) { elements = w.next.elements + 1 } in
          order_same w (numbered w s side p k)
          (changes (with_next w n) s (λ x. with_side x side (record (side_of x side) { numbers = (side_of x side).numbers ++ (p, k, w.next.elements) ∷ [] })))
          (all_any (λ t. Level w (numbered w s side p k) t) w.seen (λ t. height_later w (numbered w s side p k) (numbered_later w s side p k) t))
  silent_order w (Row b row_step_is) silent = by_scope (at w.scopes b) none_row some_row
    where
      on : (o : Outcome K) → Sees w.seen o → LaterO w o → OrderO (seen_in_order w) o
      on (Done u work) sees later = order_same w u sees (all_any (λ t. Level w u t) w.seen (λ t. height_later w u later t))
      on (Cut u fault) sees later = tt

      row_is : (o : Option (Scope K)) → at w.scopes b ≡ o
          → boundary_step app w b row_step_is ≡ elim o as (λ z. Outcome K) [ None ↦ Done w [] | Some x ↦ row_step app w b x row_step_is ]
      row_is o e = ap (λ (p : Option (Scope K)). elim p as (λ z. Outcome K) [ None ↦ Done w [] | Some x ↦ row_step app w b x row_step_is ]) e

      none_row : at w.scopes b ≡ None → OrderO (seen_in_order w) (boundary_step app w b row_step_is)
      none_row e = subst (λ (o : Outcome K). OrderO (seen_in_order w) o) (sym (row_is None e)) refl

      some_row : (x : Scope K) → at w.scopes b ≡ Some x → OrderO (seen_in_order w) (boundary_step app w b row_step_is)
      some_row x e =
          on (boundary_step app w b row_step_is) (subst (λ (o : Outcome K). Sees w.seen o) (sym (row_is (Some x) e)) (row_sees app w b x row_step_is))
          (step_later app lawful w b row_step_is)
  silent_order w (Make s side p c) silent = cc
  silent_order w (Feed s side p c) silent = cc
  silent_order w (Drop t s side) silent = cc
