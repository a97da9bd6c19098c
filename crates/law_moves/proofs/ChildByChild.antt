-- A removal in code: the children one after another, then the scope itself.
use Rattle.std.proofs.Common.{ℕ, true, List, [], ◌∷◌, ◌++◌, ◌≡◌, refl, ap, ◌∙◌, subst, arith, nat_eq}
use Rattle.std.specs.Prelude.{Some}
use Rattle.rt_model.specs.Tree.{Types}
use Rattle.rt_model.specs.World.{Application}
use Rattle.rt_model.specs.Laws.{IsLawful}
use Rattle.rt_model.specs.State.{SideName, Fault, State, Item, Drop, Done, Cut, is_live}
use Rattle.rt_model.specs.Removal.{next_removed, removed}
use Rattle.rt_model.specs.Replay.{Entry, Removed, Machine, ended_by}
use Rattle.rt_model.specs.Causes.{Limits}
use Rattle.rt_model.proofs.Maps.{eq_same}
use Rattle.law_moves.specs.Moves.{Logged, busy, AtWork, IsLogged}
use Rattle.law_moves.specs.Words.{Word, Served, Stopped, Short, Does, Goes, Says}
use Rattle.law_moves.specs.Removals.{children_at, Wooded, IsWay, NoHigher, Pruned, Removing}
use Rattle.law_moves.specs.Calls.{left_of, RemovesOn}
use Rattle.law_moves.proofs.Joins.{still_at_work, stays, said_next, said_less}
use Rattle.law_moves.proofs.Items.{is_end, move_did, drop_logged, served_at_once}
use Rattle.law_moves.proofs.Leaves.{first_height, first_live, removal_walks}
use Rattle.law_moves.proofs.Pruning.{same_live, lower_is_other, way_height, nothing_went, others_are_left, one_more_went, leaf_ends, leaf_prunes}

-- a way goes on to the first child
way_further : (K : Types) (w : State K) (path : List ℕ) (top s child : ℕ) (others : List ℕ) → IsWay w path top s → children_at w s ≡ child ∷ others → IsWay w (path ++ child ∷ []) top child
way_further K w [] top s child others way e = ((others, ap (λ (n : ℕ). children_at w n) way ∙ e), refl)
way_further K w (d ∷ path) top s child others way e = (way.0, way_further K w path d s child others way.1 e)

-- at its end the drop stays
stays_further : (K : Types) (path : List ℕ) (child : ℕ) (item : Item K) (rest : List (Item K)) → left_of (path ++ child ∷ []) item rest ≡ item ∷ rest
stays_further K [] child item rest = refl
stays_further K (d ∷ path) child item rest = refl

module _ {K : Types} where
  -- a way that goes down ends elsewhere, one without a step where it begins
  ends_there : (w : State K) → Wooded w → (path : List ℕ) (top scope : ℕ) → IsWay w path top scope → nat_eq scope top ≡ is_end path
  ends_there w wood [] top scope way = ap (λ (n : ℕ). nat_eq scope n) way ∙ eq_same scope
  ends_there w wood (child ∷ path) top scope way =
      let below = way_height w wood path child scope way.1 in
      let step = first_height w wood top child way.0.0 way.0.1 in
      (lower_is_other w scope top (omega (arith, below, step))).0

  -- one child went
  one_less : (w v u : State K) (path : List ℕ) (top scope child : ℕ) (left : List ℕ) → Removing w path top scope (child ∷ left) v → Pruned v u child → Removing w path top scope left u
  one_less w v u path top scope child left r went =
      let after = others_are_left K v u path top scope child left r.wooded r.way r.left_is went in
      let up = first_height v r.wooded scope child left r.left_is in
      record {
        thins = one_more_went K w v u scope child up r.thins went;
        left_is = after.0;
        way = after.1;
        wooded = after.2;
        live = same_live v u scope (went.thins.kept scope (lower_is_other v child scope (omega (arith, up)))) ∙ r.live;
      }

module _ {K : Types} (app : Application K) (limits : Limits) (m : Machine K) (path : List ℕ) (top parent : ℕ) (side : SideName) (rest : List (Item K)) (scope : ℕ) where
  abbrev item : Item K
  item = Drop top parent side

  -- at its start no child is gone
  pub removal_starts : (stands : State K → Type 0) (log : List Entry)
      → m.work ≡ item ∷ rest
      → IsWay m.state path top scope
      → is_live m.state scope ≡ true
      → Wooded m.state
      → stands m.state
      → RemovesOn app limits m path top item rest scope (children_at m.state scope) log log stands
  removal_starts stands log next way live wood h =
      record {
        state = m.state;
        goes = subst (λ (items : List (Item K)). Goes app limits m log log (busy m m.state items)) next (stays app limits m log);
        ended = (h, record { thins = nothing_went K m.state (NoHigher m.state scope); left_is = refl; way = way; wooded = wood; live = live });
      }

  -- the first child that is left is removed
  pub child_removed : (before stands : State K → Type 0) (stops : Machine K → Type 0) (a b c : List Entry) (child : ℕ) (left : List ℕ) (word : Word)
      → RemovesOn app limits m path top item rest scope (child ∷ left) a b before
      → ((w : State K) → before w → IsWay w (path ++ child ∷ []) top child → is_live w child ≡ true → Wooded w
      → Says app limits (busy m w (item ∷ rest)) (left_of (path ++ child ∷ []) item rest) b c (λ u. stands u × Pruned w u child) stops word)
      → Says app limits m (item ∷ rest) a c (λ w. stands w × Removing m.state path top scope left w) stops word
  child_removed before stands stops a b c child left word so_far remove =
      said_next app limits m (item ∷ rest) (item ∷ rest) a b c
      (λ w. before w × Removing m.state path top scope (child ∷ left) w)
      (λ w. stands w × Removing m.state path top scope left w)
      stops word so_far
      (
      λ w h.
      let r = h.1 in
      let said = remove w h.0 (way_further K w path top scope child left r.way r.left_is) (first_live w scope child left r.left_is) r.wooded in
      said_less app limits (busy m w (item ∷ rest)) (item ∷ rest) b c
      (λ u. stands u × Pruned w u child)
      (λ u. stands u × Removing m.state path top scope left u)
      stops stops word
      (λ u g. (g.0, one_less m.state w u path top scope child left r g.1))
      (λ u g. g)
      (
      subst (λ (items : List (Item K)). Says app limits (busy m w (item ∷ rest)) items b c (λ u. stands u × Pruned w u child) stops word)
      (stays_further K path child item rest) said
      )
      )

  -- the machine while the scope itself is removed
  abbrev at_leaf : State K → Machine K
  at_leaf w = busy m w (item ∷ rest)

  -- no child is left: the scope itself is the next to go
  pub leaf_logged : (w : State K) → AtWork m → Removing m.state path top scope [] w
      → IsLogged app limits (at_leaf w) (Removed scope) (ended_by (at_leaf w) (Some item) (left_of path item rest) (removed app w scope))
  leaf_logged w work r =
      let walks = removal_walks K w r.wooded in
      let first : next_removed w top ≡ scope = walks.2 path top scope r.way ∙ walks.1 scope r.left_is in
      drop_logged app limits (at_leaf w) scope top parent side rest path (still_at_work m w (item ∷ rest) work) refl first r.live
      (ends_there w r.wooded path top scope r.way)

  -- so its entry is logged, and it goes
  pub removal_ends : (before stands : State K → Type 0) (stops : Machine K → Type 0) (a b : List Entry) (word : Word)
      → IsLawful K app
      → AtWork m
      → RemovesOn app limits m path top item rest scope [] a b before
      → ((w : State K) → before w → Does (removed app w scope) (λ u work. stands u) word)
      → ((w : State K) → before w → (u : State K) (fault : Fault) → removed app w scope ≡ Cut u fault
      → stops (record m { state = u; work = left_of path item rest; dead = Some fault; refused = Some item }))
      → Says app limits m (left_of path item rest) a (b ++ Removed scope ∷ []) (λ w. stands w × Pruned m.state w scope) stops word
  removal_ends before stands stops a b word lawful work so_far leaf cuts =
      said_next app limits m (item ∷ rest) (left_of path item rest) a b (b ++ Removed scope ∷ [])
      (λ w. before w × Removing m.state path top scope [] w)
      (λ w. stands w × Pruned m.state w scope)
      stops word so_far
      (
      λ w h.
      let r = h.1 in
      let left : List (Item K) = left_of path item rest in
      let done : State K → List (Item K) → Type 0 = λ u more. (removed app w scope ≡ Done u more) × stands u in
      served_at_once app limits (at_leaf w) left b (b ++ Removed scope ∷ []) done (λ u. stands u × Pruned m.state u scope) stops word
      (
      λ u more g.
      let went = leaf_prunes app lawful w u scope more g.0 in
      (went.0, (g.1, leaf_ends K m.state w u scope r.thins went.1))
      )
      (move_did app limits (at_leaf w) (Logged (Removed scope)) b (b ++ Removed scope ∷ []) item left (removed app w scope) done stops word (leaf_logged w work r) (refl, tt) refl
      (λ u fault cut. cuts w h.0 u fault cut)
      (does_more w word (leaf w h.0)))
      )
    where
      does_more : (w : State K) (word : Word) → Does (removed app w scope) (λ u more. stands u) word → Does (removed app w scope) (λ u more. (removed app w scope ≡ Done u more) × stands u) word
      does_more w Served did = (did.0, did.1, did.2, (did.2, did.3))
      does_more w (Stopped fault) did = did
      does_more w Short did = did
