-- Listeners that wait, one by one.
use Rattle.std.proofs.Common.{ℕ, ◌+◌, Bool, true, false, not, ◌||◌, List, [], ◌∷◌, ◌++◌, ◌≡◌, refl, sym, ap, ◌∙◌, reverse}
use Rattle.std.proofs.lemmas.List.{map-append, reverse-append}
use Rattle.std.specs.Prelude.{Option, Some, None, if◌then◌else◌, MatchOption}
pub use Rattle.rt_lemmas.proofs.Lists.{next_drop, next_item}
use Rattle.rt_lemmas.proofs.Bools.{and_left, and_right, or_all, or_none}
use Rattle.rt_model.specs.Lists.{has}
use Rattle.rt_model.specs.OneLog.{types}
use Rattle.rt_model.specs.Tree.{Types}
use Rattle.rt_model.specs.State.{State, is_live}
use Rattle.rt_model.specs.Heard.{Listener}
use Rattle.rt_model.specs.Replay.{Machine, no_listener, looked_where_quiet, then_looked}
use Rattle.rt_model.specs.Next.{look}
use Rattle.run_shown.specs.Hearing.{listener_in, listeners_of}
use Rattle.run_shown.specs.declared.hearing.Listener.{Listener as CodeListener}
use Rattle.run_outside.specs.Among.{are_among, are_live}
use Rattle.run_outside.specs.Hearings.{live_listeners, has_waiting, TakesWaiting}
use Rattle.run_outside.proofs.Awaited.{all_has}

module _ {K : Types} where
  abbrev picked : State K → Listener K → List (Listener K) → Bool → List (Listener K)
  picked w l ls b = if b then l ∷ live_listeners w ls else live_listeners w ls

  pub waits_first : (w : State K) (l : Listener K) (ls : List (Listener K)) → is_live w l.origin ≡ true → has_waiting w (l ∷ ls) ≡ true
  waits_first w l ls h = ap (λ b. not (no_listener (picked w l ls b))) h

  pub waits_later : (w : State K) (l : Listener K) (ls : List (Listener K)) → is_live w l.origin ≡ false → has_waiting w (l ∷ ls) ≡ has_waiting w ls
  waits_later w l ls h = ap (λ b. not (no_listener (picked w l ls b))) h

  pub one_live : (w : State K) (l : Listener K) → is_live w l.origin ≡ true → live_listeners w (l ∷ []) ≡ l ∷ []
  one_live w l h = ap (λ b. picked w l [] b) h

  pub none_live : (w : State K) (l : Listener K) → is_live w l.origin ≡ false → live_listeners w (l ∷ []) ≡ []
  none_live w l h = ap (λ b. picked w l [] b) h

  pub live_more : (w : State K) (l : Listener K) (ls : List (Listener K)) → live_listeners w (l ∷ ls) ≡ live_listeners w (l ∷ []) ++ live_listeners w ls
  live_more w l ls = by (is_live w l.origin)
    where
      by : (b : Bool) → picked w l ls b ≡ picked w l [] b ++ live_listeners w ls
      by true = refl
      by false = refl

  pub none_waits : (w : State K) (ls : List (Listener K)) → has_waiting w ls ≡ false → live_listeners w ls ≡ []
  none_waits w ls h = by (live_listeners w ls) h
    where
      by : (xs : List (Listener K)) → not (no_listener xs) ≡ false → xs ≡ []
      by [] e = refl
      by (x ∷ xs) e = cc

  -- a look follows where no listener waits
  pub quiet_looks : (m : Machine K) → has_waiting m.state m.listeners ≡ false → then_looked m ≡ record m { state = look m.state }
  quiet_looks m h = ap (λ ls. looked_where_quiet m ls) (none_waits m.state m.listeners h)

  -- and none where one does
  pub loud_looks : (m : Machine K) → has_waiting m.state m.listeners ≡ true → then_looked m ≡ m
  loud_looks m h = by (live_listeners m.state m.listeners) h
    where
      by : (ls : List (Listener K)) → not (no_listener ls) ≡ true → looked_where_quiet m ls ≡ m
      by [] e = cc
      by (l ∷ ls) e = refl

  pub some_waits : {P : Type 0} (w : State K) (ls : List (Listener K)) → has_waiting w ls ≡ true → live_listeners w ls ≡ [] → P
  some_waits w ls h none = let e : false ≡ true = sym (ap (λ xs. not (no_listener xs)) none) ∙ h in cc

  -- one waits of two lists exactly where one waits of either
  waits_either : (w : State K) (ls ms : List (Listener K)) → has_waiting w (ls ++ ms) ≡ (has_waiting w ls || has_waiting w ms)
  waits_either w [] ms = refl
  waits_either w (l ∷ ls) ms = by (is_live w l.origin) (waits_either w ls ms)
    where
      by : (b : Bool) → has_waiting w (ls ++ ms) ≡ (has_waiting w ls || has_waiting w ms)
          → not (no_listener (picked w l (ls ++ ms) b)) ≡ (not (no_listener (picked w l ls b)) || has_waiting w ms)
      by true rest = refl
      by false rest = rest

either_way : (a b : Bool) → (a || b) ≡ (b || a)
either_way true b = sym (or_all b)
either_way false b = sym (or_none b)

module _ {P C Q V H T E L : Type 0} where
  -- the order doesn't tell whether one waits
  pub waits_back : (w : State (types C Q V H T E L)) (all : List (CodeListener P C Q V H T E L)) → has_waiting w (listeners_of (reverse all)) ≡ has_waiting w (listeners_of all)
  waits_back w [] = refl
  waits_back w (l ∷ ls) =
      ap (λ xs. has_waiting w (listeners_of xs)) (reverse-append (l ∷ []) ls)
      ∙ ap (λ xs. has_waiting w xs) (map-append listener_in (reverse ls) (l ∷ []))
      ∙ waits_either w (listeners_of (reverse ls)) (listener_in l ∷ [])
      ∙ ap (λ b. b || has_waiting w (listener_in l ∷ [])) (waits_back w ls)
      ∙ either_way (has_waiting w (listeners_of ls)) (has_waiting w (listener_in l ∷ []))
      ∙ sym (waits_either w (listener_in l ∷ []) (listeners_of ls))

  -- all wait where all their scopes are live
  pub all_wait : (w : State (types C Q V H T E L)) (scopes : List ℕ) (all : List (CodeListener P C Q V H T E L))
      → are_live w scopes ≡ true
      → are_among (λ (l : CodeListener P C Q V H T E L). l.origin) scopes all ≡ true
      → live_listeners w (listeners_of all) ≡ listeners_of all
  all_wait w scopes [] live among = refl
  all_wait w scopes (l ∷ ls) live among =
      let rest = are_among (λ (l : CodeListener P C Q V H T E L). l.origin) scopes ls in
      ap (λ b. picked w (listener_in l) (listeners_of ls) b)
      (all_has (λ s. is_live w s) scopes l.origin live (and_left (has scopes l.origin) rest among))
      ∙ ap (λ xs. listener_in l ∷ xs) (all_wait w scopes ls live (and_right (has scopes l.origin) rest among))

  -- the first of those that wait
  pub takes_waiting : (w : State (types C Q V H T E L)) (all live rest : List (CodeListener P C Q V H T E L)) (first : Option (CodeListener P C Q V H T E L))
      → has_waiting w (listeners_of all) ≡ true
      → listeners_of live ≡ live_listeners w (listeners_of all)
      → MatchOption first ((live ≡ []) × (rest ≡ [])) (λ x. live ≡ x ∷ rest)
      → TakesWaiting w first all rest
  takes_waiting w all live rest None waits is took = some_waits w (listeners_of all) waits (sym is ∙ ap (λ xs. listeners_of xs) took.0)
  takes_waiting w all live rest (Some x) waits is took = sym is ∙ ap (λ xs. listeners_of xs) took
