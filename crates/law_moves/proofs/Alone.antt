-- A change of one scope alone.
use Rattle.std.proofs.Common.{ℕ, Bool, true, false, List, [], ◌∷◌, ◌≡◌, ◌≤◌, refl, sym, ap, ◌∙◌, subst, nat_eq, arith, inl, inr}
use Rattle.std.specs.Prelude.{Option, Some, None, if◌then◌else◌, is_some}
use Rattle.std.specs.List.{AllByRecursion}
use Rattle.rt_model.specs.Lists.{at, put, without, has}
use Rattle.rt_model.specs.Tree.{Types}
use Rattle.rt_model.specs.World.{Source, Cell, Error, Context, Firsts}
use Rattle.rt_model.specs.State.{SideName, MainSide, ChildrenSide, FallbackSide, Side, Posted, Scope, LastCall, TaskRow, State, Item, Draw, Row, Feed, Make, Drop, Outcome, Done, Cut, onward, with_side, change, changed_scope}
use Rattle.rt_model.specs.Run.{with_last_call}
use Rattle.rt_model.specs.Boundary.{drop_items}
use Rattle.rt_model.proofs.Maps.{at_put_other, at_without_other}
use Rattle.law_moves.proofs.Lists.{IsServe, IsDrop}
use Rattle.law_moves.specs.Heeds.{HasMark, leavings, Marked, SameOf}
use Rattle.law_moves.proofs.Told.{put_by, CalmO}
use Rattle.law_moves.proofs.Calm.{error_of, context_of, holders_of, held_stays, holders_stay, Unique, unique_put, listed_same, Pending, Calm}
use Rattle.law_moves.proofs.Owed.{rows_of}

module _ {K : Types} where
  -- only one scope's component, reads, side that shows or outputs change, and its last call; no source does
  pub record Alone (s : ℕ) (w v : State K) : Type 0 where
    pub others : (t : ℕ) → nat_eq s t ≡ false → leavings (at v.scopes t) ≡ leavings (at w.scopes t)
    pub calls : (t : ℕ) → nat_eq s t ≡ false → at v.last_calls t ≡ at w.last_calls t
    pub alike : (i : Source) → SameOf w v i
    pub holders : (t : ℕ) → holders_of (at v.scopes t) ≡ holders_of (at w.scopes t)
    pub tasks : v.tasks ≡ w.tasks
    pub unique : Unique w.scopes → Unique v.scopes
    pub posted : v.posted ≡ w.posted
    pub seen : v.seen ≡ w.seen
    pub queued : v.queued ≡ w.queued
    pub skipped : v.skipped ≡ w.skipped
    pub next : v.next ≡ w.next

  pub alone_marks : (s : ℕ) (w v : State K) (t : ℕ) → Alone s w v → Marked w t → Marked v t
  alone_marks s w v t f (inl m) = inl (subst (λ (ps : List Posted). HasMark ps t) (sym f.posted) m)
  alone_marks s w v t f (inr m) = inr (ap (λ (xs : List ℕ). has xs t) f.seen ∙ m)

  pub alone_pending : (s : ℕ) (w v : State K) (t : ℕ) → Alone s w v → Pending w t → Pending v t
  alone_pending s w v t f (inl m) = inl (alone_marks s w v t f m)
  alone_pending s w v t f (inr q) = inr (ap (λ (xs : List ℕ). has xs t) f.skipped ∙ q)

  pub alone_calm : (n s : ℕ) (w v : State K) → Alone s w v → Calm (Some s) n w v
  alone_calm n s w v f =
      let level : v.next.cells ≡ w.next.cells = ap (λ (g : Firsts). g.cells) f.next in
      let up : w.next.cells ≤ v.next.cells = omega (arith, level) in
      record {
        heeds =
            record {
              stays = λ t p. f.others t p;
              calls = λ t p. f.calls t p;
              marks = λ t x p e h. alone_marks s w v t f h;
              told = λ t x i p e reads low. inl (f.alike i);
              held = λ t x y p e d. inl (held_stays w v t x y (f.holders t) e d);
            };
        lists = listed_same (Some s) w v f.seen f.queued f.skipped (λ u e. ap (λ (ts : List (ℕ × TaskRow K)). is_some (at ts u)) f.tasks ∙ e);
        orderly = λ h. record { holders = holders_stay w v f.holders (λ u e. ap (λ (ts : List (ℕ × TaskRow K)). is_some (at ts u)) f.tasks ∙ e) h.holders; unique = f.unique h.unique };
        rises = up;
      }

  -- a record in the place of another one whose sources and holders are the same
  pub put_alone : (w : State K) (s : ℕ) (x y : Scope K) → at w.scopes s ≡ Some x → y.error ≡ x.error → y.contexts ≡ x.contexts → y.holders ≡ x.holders → Alone s w (record w { scopes = put w.scopes s y })
  put_alone w s x y live error contexts holders =
      record {
        others = λ t p. ap (λ (o : Option (Scope K)). leavings o) (at_put_other w.scopes s y t p);
        calls = λ t p. refl;
        alike = alike;
        holders = put_by (λ o. holders_of o) w.scopes s x y live holders;
        tasks = refl;
        unique = λ h. unique_put w.scopes s x y live h;
        posted = refl;
        seen = refl;
        queued = refl;
        skipped = refl;
        next = refl;
      }
    where
      alike : (i : Source) → SameOf w (record w { scopes = put w.scopes s y }) i
      alike (Cell m) = refl
      alike (Error t) = sym (put_by (λ o. error_of o) w.scopes s x y live error t)
      alike (Context k t) = sym (put_by (λ o. context_of k o) w.scopes s x y live (ap (λ (es : List (ℕ × K.Value)). at es k) contexts) t)

  own_refl : (s : ℕ) (w : State K) → Alone s w w
  own_refl s w = record { others = λ t p. refl; calls = λ t p. refl; alike = alike; holders = λ t. refl; tasks = refl; unique = λ h. h; posted = refl; seen = refl; queued = refl; skipped = refl; next = refl }
    where
      alike : (i : Source) → SameOf w w i
      alike (Cell m) = refl
      alike (Error t) = refl
      alike (Context k t) = refl

  changed_own : (w : State K) (s : ℕ) (f : Scope K → Scope K) (o : Option (Scope K)) → at w.scopes s ≡ o → ((x : Scope K) → (f x).error ≡ x.error) → ((x : Scope K) → (f x).contexts ≡ x.contexts)
      → ((x : Scope K) → (f x).holders ≡ x.holders)
      → Alone s w (changed_scope w s f o)
  changed_own w s f None e a b c = own_refl s w
  changed_own w s f (Some x) e a b c = put_alone w s x (f x) e (a x) (b x) (c x)

  pub change_alone : (w : State K) (s : ℕ) (f : Scope K → Scope K) → ((x : Scope K) → (f x).error ≡ x.error) → ((x : Scope K) → (f x).contexts ≡ x.contexts) → ((x : Scope K) → (f x).holders ≡ x.holders) → Alone s w (change w s f)
  change_alone w s f a b c = changed_own w s f (at w.scopes s) refl a b c

  pub call_own : (w : State K) (s : ℕ) (last : LastCall K) → Alone s w (with_last_call w s last)
  call_own w s last =
      record { others = λ t p. refl; calls = λ t p. at_put_other w.last_calls s last t p; alike = alike; holders = λ t. refl; tasks = refl; unique = λ h. h; posted = refl; seen = refl; queued = refl; skipped = refl; next = refl }
    where
      alike : (i : Source) → SameOf w (with_last_call w s last) i
      alike (Cell m) = refl
      alike (Error t) = refl
      alike (Context k t) = refl

  pub no_call_own : (w : State K) (s : ℕ) → Alone s w (record w { last_calls = without w.last_calls s })
  no_call_own w s =
      record { others = λ t p. refl; calls = λ t p. at_without_other w.last_calls s t p; alike = alike; holders = λ t. refl; tasks = refl; unique = λ h. h; posted = refl; seen = refl; queued = refl; skipped = refl; next = refl }
    where
      alike : (i : Source) → SameOf w (record w { last_calls = without w.last_calls s }) i
      alike (Cell m) = refl
      alike (Error t) = refl
      alike (Context k t) = refl

  pub side_error : (x : Scope K) (a : SideName) (z : Side K) → (with_side x a z).error ≡ x.error
  side_error x MainSide z = refl
  side_error x ChildrenSide z = refl
  side_error x FallbackSide z = refl

  pub side_contexts : (x : Scope K) (a : SideName) (z : Side K) → (with_side x a z).contexts ≡ x.contexts
  side_contexts x MainSide z = refl
  side_contexts x ChildrenSide z = refl
  side_contexts x FallbackSide z = refl

  pub side_holders : (x : Scope K) (a : SideName) (z : Side K) → (with_side x a z).holders ≡ x.holders
  side_holders x MainSide z = refl
  side_holders x ChildrenSide z = refl
  side_holders x FallbackSide z = refl

  -- what is to hold where a change isn't cut
  abbrev pub Then : (State K → List (Item K) → Type 0) → Outcome K → Type 0
  Then P (Done v work) = P v work
  Then P (Cut v fault) = Unit {0}

  pub then_if : (P : State K → List (Item K) → Type 0) (b : Bool) (x y : Outcome K) → Then P x → Then P y → Then P (if b then x else y)
  then_if P true x y f g = f
  then_if P false x y f g = g

  -- after a calm change
  pub then_onward : (P : State K → List (Item K) → Type 0) (n : ℕ) (w : State K) (o : Outcome K) (f : State K → Outcome K) → CalmO None n w o → ((v : State K) → Calm None n w v → Then P (f v)) → Then P (onward o f)
  then_onward P n w (Done v work) f calm h = h v calm
  then_onward P n w (Cut v fault) f calm h = tt

  -- items of a patch are no steps
  pub serve_rows : (b : ℕ) (xs : List (Item K)) → AllByRecursion (λ (i : Item K). IsServe i) xs → rows_of b xs ≡ []
  serve_rows b [] h = refl
  serve_rows b (Draw s a p k ∷ xs) h = serve_rows b xs h.1
  serve_rows b (Feed s a p c ∷ xs) h = serve_rows b xs h.1
  serve_rows b (Make s a p c ∷ xs) h = serve_rows b xs h.1
  serve_rows b (Row c step ∷ xs) h = absurd h.0
  serve_rows b (Drop t s a ∷ xs) h = absurd h.0

  pub drop_rows : (b : ℕ) (xs : List (Item K)) → AllByRecursion (λ (i : Item K). IsDrop i) xs → rows_of b xs ≡ []
  drop_rows b [] h = refl
  drop_rows b (Drop t s a ∷ xs) h = drop_rows b xs h.1
  drop_rows b (Draw s a p k ∷ xs) h = absurd h.0
  drop_rows b (Feed s a p c ∷ xs) h = absurd h.0
  drop_rows b (Make s a p c ∷ xs) h = absurd h.0
  drop_rows b (Row c step ∷ xs) h = absurd h.0

-- a boundary's children that are dropped
pub dropped_rows : (K : Types) (c b : ℕ) (a : SideName) (ts : List ℕ) → rows_of {K = K} c (drop_items b a ts) ≡ []
dropped_rows K c b a [] = refl
dropped_rows K c b a (t ∷ ts) = dropped_rows K c b a ts
