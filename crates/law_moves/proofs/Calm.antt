-- A change that heeds all scopes but one, keeps holders live, and lets no counter of cells fall.
use Rattle.std.proofs.Common.{ℕ, Bool, true, false, List, [], ◌∷◌, ◌≡◌, ◌≤◌, ◌⊎◌, refl, sym, ap, ◌∙◌, subst, nat_eq, arith, inl, inr}
use Rattle.std.proofs.lemmas.Bool.{eqb-true}
use Rattle.std.specs.Prelude.{Option, Some, None, if◌then◌else◌, is_some}
use Rattle.std.specs.List.{AllByRecursion}
use Rattle.rt_model.specs.Lists.{at, put, has}
use Rattle.rt_model.specs.Tree.{Types, CapturedError}
use Rattle.rt_model.specs.World.{Source, Cell, Error, Context}
use Rattle.rt_model.specs.State.{Posted, Mark, Scope, LastCall, CellRow, TaskRow, State, is_live, is_held, values_of}
use Rattle.rt_model.specs.Commands.{names_source}
use Rattle.rt_model.proofs.Maps.{by_test, pick_true, pick_false, at_put_none, at_there, none_some}
use Rattle.rt_model.proofs.Members.{clash}
use Rattle.law_moves.specs.Heeds.{HasMark, is_past, Leavings, leavings, Marked, SameOf, Heeds}

-- what quiet changes leave of a scope
abbrev pub Standing : Types → Type 0
Standing K = Leavings K × Option CapturedError × List (ℕ × K.Value) × List (ℕ × ℕ)

abbrev pub is_held_by : List (ℕ × ℕ) → Bool
is_held_by holders = elim holders as (λ z. Bool) [ [] ↦ false | h ∷ hs ↦ true ]

-- a mark, where a test says so
pub mark_where : (b : Bool) (r s : ℕ) (ps : List Posted) → HasMark ps s ⊎ ((b ≡ true) × (r ≡ s)) → HasMark (if b then Mark r ∷ ps else ps) s
mark_where true r s ps (inl h) = inr h
mark_where true r s ps (inr h) = inl (ap (λ (k : ℕ). Mark k) h.1)
mark_where false r s ps (inl h) = h
mark_where false r s ps (inr h) = clash h.0 refl

module _ {K : Types} where
  abbrev pub standing : Option (Scope K) → Option (Standing K)
  standing None = None
  standing (Some x) = Some ((x.component, x.reads, x.shows, x.main_side.output, x.children_side.output, x.fallback_side.output), x.error, x.contexts, x.holders)

  abbrev leavings_in : Option (Standing K) → Option (Leavings K)
  leavings_in None = None
  leavings_in (Some f) = Some f.0

  abbrev error_in : Option (Standing K) → Option CapturedError
  error_in None = None
  error_in (Some f) = f.1

  abbrev context_in : ℕ → Option (Standing K) → Option K.Value
  context_in k None = None
  context_in k (Some f) = at f.2 k

  abbrev holders_in : Option (Standing K) → List (ℕ × ℕ)
  holders_in None = []
  holders_in (Some f) = f.3

  abbrev pub error_of : Option (Scope K) → Option CapturedError
  error_of o = elim o [ None ↦ None | Some x ↦ x.error ]

  abbrev pub context_of : ℕ → Option (Scope K) → Option K.Value
  context_of k o = elim o [ None ↦ None | Some x ↦ at x.contexts k ]

  abbrev pub holders_of : Option (Scope K) → List (ℕ × ℕ)
  holders_of o = elim o as (λ z. List (ℕ × ℕ)) [ None ↦ [] | Some x ↦ x.holders ]

  abbrev pub cell_in : Option (CellRow K) → Option K.Value
  cell_in o = elim o [ None ↦ None | Some c ↦ Some c.value ]

  leavings_standing : (o : Option (Scope K)) → leavings o ≡ leavings_in (standing o)
  leavings_standing None = refl
  leavings_standing (Some x) = refl

  error_standing : (o : Option (Scope K)) → error_of o ≡ error_in (standing o)
  error_standing None = refl
  error_standing (Some x) = refl

  context_standing : (k : ℕ) (o : Option (Scope K)) → context_of k o ≡ context_in k (standing o)
  context_standing k None = refl
  context_standing k (Some x) = refl

  holders_standing : (o : Option (Scope K)) → holders_of o ≡ holders_in (standing o)
  holders_standing None = refl
  holders_standing (Some x) = refl

  pub leavings_by : (o p : Option (Scope K)) → standing o ≡ standing p → leavings o ≡ leavings p
  leavings_by o p h = leavings_standing o ∙ ap (λ (f : Option (Standing K)). leavings_in f) h ∙ sym (leavings_standing p)

  pub holders_by : (o p : Option (Scope K)) → standing o ≡ standing p → holders_of o ≡ holders_of p
  holders_by o p h = holders_standing o ∙ ap (λ (f : Option (Standing K)). holders_in f) h ∙ sym (holders_standing p)

  error_by : (o p : Option (Scope K)) → standing o ≡ standing p → error_of o ≡ error_of p
  error_by o p h = error_standing o ∙ ap (λ (f : Option (Standing K)). error_in f) h ∙ sym (error_standing p)

  context_by : (k : ℕ) (o p : Option (Scope K)) → standing o ≡ standing p → context_of k o ≡ context_of k p
  context_by k o p h = context_standing k o ∙ ap (λ (f : Option (Standing K)). context_in k f) h ∙ sym (context_standing k p)

  -- a scope that is found where another one's leavings are
  pub there_by : (o : Option (Scope K)) (x : Scope K) → leavings o ≡ leavings (Some x) → (y : Scope K) × (o ≡ Some y) × (leavings (Some y) ≡ leavings (Some x))
  there_by None x h = cc
  there_by (Some y) x h = (y, refl, h)

  pub there_of : (o p : Option (Scope K)) (x : Scope K) → leavings o ≡ leavings p → p ≡ Some x → (y : Scope K) × (o ≡ Some y) × (leavings (Some y) ≡ leavings (Some x))
  there_of o p x h e = there_by o x (h ∙ ap (λ (z : Option (Scope K)). leavings z) e)

  abbrev pub reads_in : Option (Leavings K) → List Source
  reads_in None = []
  reads_in (Some f) = f.1

  pub reads_by : (x y : Scope K) → leavings (Some y) ≡ leavings (Some x) → y.reads ≡ x.reads
  reads_by x y h = ap (λ (f : Option (Leavings K)). reads_in f) h

  pub held_by : (x y : Scope K) → holders_of (Some y) ≡ holders_of (Some x) → is_held y ≡ is_held x
  held_by x y h = ap (λ (hs : List (ℕ × ℕ)). is_held_by hs) h

  pub same_scope : (x y : Scope K) → Some x ≡ Some y → x ≡ y
  same_scope x y h = cc

  -- the holders of each scope are tasks that haven't ended
  abbrev pub HoldersLive : State K → Type 0
  HoldersLive w = (s : ℕ) → AllByRecursion (λ (h : ℕ × ℕ). is_some (at w.tasks h.0) ≡ true) (holders_of (at w.scopes s))

  -- each scope stands once
  abbrev pub Unique : List (ℕ × Scope K) → Type 0
  Unique [] = Unit {0}
  Unique (e ∷ es) = (at es e.0 ≡ None) × Unique es

  pub unique_put : (es : List (ℕ × Scope K)) (s : ℕ) (x y : Scope K) → at es s ≡ Some x → Unique es → Unique (put es s y)
  unique_put [] s x y live h = none_some refl live
  unique_put (e ∷ es) s x y live h =
      by_test (nat_eq e.0 s)
      (
      λ q.
      subst (λ (zs : List (ℕ × Scope K)). Unique zs) (sym (pick_true ((s, y) ∷ es) (e ∷ put es s y) q))
      (ap (λ (k : ℕ). at es k) (sym (eqb-true e.0 s q)) ∙ h.0, h.1)
      )
      (
      λ q.
      let there : at es s ≡ Some x = sym (at_there e.0 e.1 es s q) ∙ live in
      subst (λ (zs : List (ℕ × Scope K)). Unique zs) (sym (pick_false ((s, y) ∷ es) (e ∷ put es s y) q))
      (at_put_none es s y x e.0 there h.0, unique_put es s x y there h.1)
      )

  -- what holds of the holders and of the scopes' numbers
  pub record Orderly (w : State K) : Type 0 where
    pub holders : HoldersLive w
    pub unique : Unique w.scopes

  -- who is seen was so or is live, and what is queued was so, and is there if it was, or is there
  pub record Listed (past : Option ℕ) (w v : State K) : Type 0 where
    pub seen : (s : ℕ) → is_past past s ≡ false → has v.seen s ≡ true → (has w.seen s ≡ true) ⊎ (is_live v s ≡ true)
    pub queued :
        (t : ℕ) → has v.queued t ≡ true
        → ((has w.queued t ≡ true) × (is_some (at w.tasks t) ≡ true → is_some (at v.tasks t) ≡ true)) ⊎ (is_some (at v.tasks t) ≡ true)
    -- who was passed over is so still, and no other scope is
    pub passes : (s : ℕ) → is_past past s ≡ false → has w.skipped s ≡ true → has v.skipped s ≡ true
    pub passed : (s : ℕ) → has v.skipped s ≡ true → has w.skipped s ≡ true

  pub listed_same : (past : Option ℕ) (w v : State K) → v.seen ≡ w.seen → v.queued ≡ w.queued → v.skipped ≡ w.skipped → ((t : ℕ) → is_some (at w.tasks t) ≡ true → is_some (at v.tasks t) ≡ true) → Listed past w v
  listed_same past w v seen queued skipped tasks =
      record {
        seen = λ s p h. inl (sym (ap (λ (xs : List ℕ). has xs s) seen) ∙ h);
        queued = λ t h. inl (sym (ap (λ (xs : List ℕ). has xs t) queued) ∙ h, tasks t);
        passes = λ s p h. ap (λ (xs : List ℕ). has xs s) skipped ∙ h;
        passed = λ s h. sym (ap (λ (xs : List ℕ). has xs s) skipped) ∙ h;
      }

  pub listed_then : (past : Option ℕ) (u v w : State K) → ((s : ℕ) → is_past past s ≡ false → is_live v s ≡ true → is_live w s ≡ true) → Listed past u v → Listed past v w → Listed past u w
  listed_then past u v w lives f g =
      record {
        seen = λ s p h. elim (g.seen s p h) [ inl a ↦ elim (f.seen s p a) [ inl b ↦ inl b | inr b ↦ inr (lives s p b) ] | inr b ↦ inr b ];
        queued =
            λ t h.
            elim (g.queued t h) [
              | inl a ↦ elim (f.queued t a.0) [ inl b ↦ inl (b.0, λ i. a.1 (b.1 i)) | inr b ↦ inr (a.1 b) ]
              | inr b ↦ inr b
            ];
        passes = λ s p h. g.passes s p (f.passes s p h);
        passed = λ s h. f.passed s (g.passed s h);
      }

  pub listed_to : (past : Option ℕ) (w v : State K) → Listed None w v → Listed past w v
  listed_to past w v f = record { seen = λ s p h. f.seen s refl h; queued = f.queued; passes = λ s p h. f.passes s refl h; passed = f.passed }

  live_left : (o : Option (Scope K)) → is_some o ≡ is_some (leavings o)
  live_left None = refl
  live_left (Some x) = refl

  pub live_by : (o p : Option (Scope K)) → leavings o ≡ leavings p → is_some p ≡ true → is_some o ≡ true
  live_by o p h live = live_left o ∙ ap (λ (f : Option (Leavings K)). is_some f) h ∙ sym (live_left p) ∙ live

  pub record Calm (past : Option ℕ) (n : ℕ) (w v : State K) : Type 0 where
    pub heeds : Heeds past n w v
    pub lists : Listed past w v
    pub orderly : Orderly w → Orderly v
    pub rises : w.next.cells ≤ v.next.cells

  -- a scope is marked, or was passed over by a render
  abbrev pub Pending : State K → ℕ → Type 0
  Pending w s = Marked w s ⊎ (has w.skipped s ≡ true)

  pub pending_on : (past : Option ℕ) (n : ℕ) (w v : State K) (t : ℕ) (x : Scope K) → Calm past n w v → is_past past t ≡ false → at w.scopes t ≡ Some x → Pending w t → Pending v t
  pending_on past n w v t x f p e (inl m) = inl (f.heeds.marks t x p e m)
  pending_on past n w v t x f p e (inr q) = inr (f.lists.passes t p q)

  pub same_then : (u v w : State K) (i : Source) → SameOf u v i → SameOf v w i → SameOf u w i
  same_then u v w (Cell m) f g = f ∙ g
  same_then u v w (Error s) f g = f ∙ g
  same_then u v w (Context k s) f g = f ∙ g

  heeds_then : (past : Option ℕ) (n : ℕ) (u v w : State K) → Heeds past n u v → Heeds past n v w → Heeds past n u w
  heeds_then past n u v w f g =
      record {
        stays = λ t p. g.stays t p ∙ f.stays t p;
        calls = λ t p. g.calls t p ∙ f.calls t p;
        marks = λ t x p e h. g.marks t (there t x p e).0 p (there t x p e).1 (f.marks t x p e h);
        told =
            λ t x i p e reads low.
            let y = there t x p e in
            either_told t i (f.told t x i p e reads low) (g.told t y.0 i p y.1 (ap (λ (xs : List Source). names_source xs i) (reads_by x y.0 y.2) ∙ reads) low)
            (λ h. g.marks t y.0 p y.1 h);
        held =
            λ t x z p e d.
            let y = there t x p e in
            either_held t x y.0 z (f.held t x y.0 p e y.1) (g.held t y.0 z p y.1 d) (λ h. g.marks t y.0 p y.1 h);
      }
    where
      there : (t : ℕ) (x : Scope K) → is_past past t ≡ false → at u.scopes t ≡ Some x → (y : Scope K) × (at v.scopes t ≡ Some y) × (leavings (Some y) ≡ leavings (Some x))
      there t x p e = there_of (at v.scopes t) (at u.scopes t) x (f.stays t p) e

      either_told : (t : ℕ) (i : Source) → SameOf u v i ⊎ Marked v t → SameOf v w i ⊎ Marked w t → (Marked v t → Marked w t) → SameOf u w i ⊎ Marked w t
      either_told t i a (inr b) m = inr b
      either_told t i (inr a) (inl b) m = inr (m a)
      either_told t i (inl a) (inl b) m = inl (same_then u v w i a b)

      either_held : (t : ℕ) (x y z : Scope K) → (is_held y ≡ is_held x) ⊎ Marked v t → (is_held z ≡ is_held y) ⊎ Marked w t → (Marked v t → Marked w t) → (is_held z ≡ is_held x) ⊎ Marked w t
      either_held t x y z a (inr b) m = inr b
      either_held t x y z (inr a) (inl b) m = inr (m a)
      either_held t x y z (inl a) (inl b) m = inl (b ∙ a)

  -- one calm change after another
  pub calm_then : (past : Option ℕ) (n : ℕ) (u v w : State K) → Calm past n u v → Calm past n v w → Calm past n u w
  calm_then past n u v w f g =
      let up : u.next.cells ≤ w.next.cells = omega (arith, f.rises, g.rises) in
      record { heeds = heeds_then past n u v w f.heeds g.heeds; lists = listed_then past u v w (λ s p live. live_by (at w.scopes s) (at v.scopes s) (g.heeds.stays s p) live) f.lists g.lists; orderly = λ h. g.orderly (f.orderly h); rises = up }

  -- what heeds all heeds all but one
  pub calm_past : (s n : ℕ) (w v : State K) → Calm None n w v → Calm (Some s) n w v
  calm_past s n w v f =
      record {
        heeds =
            record {
              stays = λ t p. (f.heeds).stays t refl;
              calls = λ t p. (f.heeds).calls t refl;
              marks = λ t x p e h. (f.heeds).marks t x refl e h;
              told = λ t x i p e reads low. (f.heeds).told t x i refl e reads low;
              held = λ t x y p e d. (f.heeds).held t x y refl e d;
            };
        lists = listed_to (Some s) w v f.lists;
        orderly = f.orderly;
        rises = f.rises;
      }

  pub calm_to : (past : Option ℕ) (n : ℕ) (w v : State K) → Calm None n w v → Calm past n w v
  calm_to None n w v f = f
  calm_to (Some s) n w v f = calm_past s n w v f

  pub calm_if : (past : Option ℕ) (n : ℕ) (w x y : State K) (b : Bool) → Calm past n w x → Calm past n w y → Calm past n w (if b then x else y)
  calm_if past n w x y true f g = f
  calm_if past n w x y false f g = g

  -- a change that leaves what is read, and all marks
  pub record Quiet (w v : State K) : Type 0 where
    pub stand : (t : ℕ) → standing (at v.scopes t) ≡ standing (at w.scopes t)
    pub cells : v.cells ≡ w.cells
    pub calls : v.last_calls ≡ w.last_calls
    pub tasks : (u : ℕ) → is_some (at w.tasks u) ≡ true → is_some (at v.tasks u) ≡ true
    pub unique : Unique w.scopes → Unique v.scopes
    pub lists : Listed None w v
    pub marks : (t : ℕ) (x : Scope K) → at w.scopes t ≡ Some x → Marked w t → Marked v t
    pub rises : w.next.cells ≤ v.next.cells

  pub quiet_then : (u v w : State K) → Quiet u v → Quiet v w → Quiet u w
  quiet_then u v w f g =
      let up : u.next.cells ≤ w.next.cells = omega (arith, f.rises, g.rises) in
      record {
        stand = λ t. g.stand t ∙ f.stand t;
        cells = g.cells ∙ f.cells;
        calls = g.calls ∙ f.calls;
        tasks = λ t e. g.tasks t (f.tasks t e);
        unique = λ h. g.unique (f.unique h);
        lists = listed_then None u v w (λ s p live. live_by (at w.scopes s) (at v.scopes s) (leavings_by (at w.scopes s) (at v.scopes s) (g.stand s)) live) f.lists g.lists;
        marks =
            λ t x e h.
            let y = there_of (at v.scopes t) (at u.scopes t) x (leavings_by (at v.scopes t) (at u.scopes t) (f.stand t)) e in
            g.marks t y.0 y.1 (f.marks t x e h);
        rises = up;
      }

  -- the scopes, cells, calls and tasks stand, and so do marks
  pub quiet_rest : (w v : State K) → v.scopes ≡ w.scopes → v.cells ≡ w.cells → v.last_calls ≡ w.last_calls → v.tasks ≡ w.tasks → v.posted ≡ w.posted → v.seen ≡ w.seen → v.queued ≡ w.queued → v.skipped ≡ w.skipped → w.next.cells ≤ v.next.cells → Quiet w v
  quiet_rest w v a b c d e f q k g =
      record {
        stand = λ t. ap (λ (es : List (ℕ × Scope K)). standing (at es t)) a;
        cells = b;
        calls = c;
        tasks = λ t h. ap (λ (ts : List (ℕ × TaskRow K)). is_some (at ts t)) d ∙ h;
        unique = λ h. subst (λ (es : List (ℕ × Scope K)). Unique es) (sym a) h;
        lists = listed_same None w v f q k (λ t h. ap (λ (ts : List (ℕ × TaskRow K)). is_some (at ts t)) d ∙ h);
        marks =
            λ t x live h.
            elim h [
              | inl m ↦ inl (subst (λ (ps : List Posted). HasMark ps t) (sym e) m)
              | inr m ↦ inr (ap (λ (xs : List ℕ). has xs t) f ∙ m)
            ];
        rises = g;
      }

  pub no_fall : (w : State K) → w.next.cells ≤ w.next.cells
  no_fall w = omega arith

  pub quiet_refl : (w : State K) → Quiet w w
  quiet_refl w = quiet_rest w w refl refl refl refl refl refl refl refl (no_fall w)

  pub quiet_if : (w x y : State K) (b : Bool) → Quiet w x → Quiet w y → Quiet w (if b then x else y)
  quiet_if w x y true f g = f
  quiet_if w x y false f g = g

  pub cells_alike : (w v : State K) (m : ℕ) → v.cells ≡ w.cells → (values_of w).cell m ≡ (values_of v).cell m
  cells_alike w v m h = ap (λ (es : List (ℕ × CellRow K)). cell_in (at es m)) (sym h)

  pub same_quiet : (w v : State K) (i : Source) → Quiet w v → SameOf w v i
  same_quiet w v (Cell m) f = cells_alike w v m f.cells
  same_quiet w v (Error s) f = error_by (at w.scopes s) (at v.scopes s) (sym (f.stand s))
  same_quiet w v (Context k s) f = context_by k (at w.scopes s) (at v.scopes s) (sym (f.stand s))

  pub all_lives : (w v : State K) (hs : List (ℕ × ℕ)) → ((u : ℕ) → is_some (at w.tasks u) ≡ true → is_some (at v.tasks u) ≡ true)
      → AllByRecursion (λ (h : ℕ × ℕ). is_some (at w.tasks h.0) ≡ true) hs
      → AllByRecursion (λ (h : ℕ × ℕ). is_some (at v.tasks h.0) ≡ true) hs
  all_lives w v [] f h = tt
  all_lives w v (e ∷ hs) f h = (f e.0 h.0, all_lives w v hs f h.1)

  -- holders stay, and tasks do
  pub holders_stay : (w v : State K) → ((t : ℕ) → holders_of (at v.scopes t) ≡ holders_of (at w.scopes t)) → ((u : ℕ) → is_some (at w.tasks u) ≡ true → is_some (at v.tasks u) ≡ true)
      → HoldersLive w
      → HoldersLive v
  holders_stay w v same tasks h =
      λ t.
      subst (λ (hs : List (ℕ × ℕ)). AllByRecursion (λ (d : ℕ × ℕ). is_some (at v.tasks d.0) ≡ true) hs) (sym (same t)) (all_lives w v (holders_of (at w.scopes t)) tasks (h t))

  pub held_stays : (w v : State K) (t : ℕ) (x y : Scope K) → holders_of (at v.scopes t) ≡ holders_of (at w.scopes t) → at w.scopes t ≡ Some x → at v.scopes t ≡ Some y → is_held y ≡ is_held x
  held_stays w v t x y same e d =
      held_by x y (ap (λ (o : Option (Scope K)). holders_of o) (sym d) ∙ same ∙ ap (λ (o : Option (Scope K)). holders_of o) e)

  pub quiet_calm : (past : Option ℕ) (n : ℕ) (w v : State K) → Quiet w v → Calm past n w v
  quiet_calm past n w v f =
      let holders : (t : ℕ) → holders_of (at v.scopes t) ≡ holders_of (at w.scopes t) = λ t. holders_by (at v.scopes t) (at w.scopes t) (f.stand t) in
      record {
        heeds =
            record {
              stays = λ t p. leavings_by (at v.scopes t) (at w.scopes t) (f.stand t);
              calls = λ t p. ap (λ (ls : List (ℕ × LastCall K)). at ls t) f.calls;
              marks = λ t x p e h. f.marks t x e h;
              told = λ t x i p e reads low. inl (same_quiet w v i f);
              held = λ t x y p e d. inl (held_stays w v t x y (holders t) e d);
            };
        lists = listed_to past w v f.lists;
        orderly = λ h. record { holders = holders_stay w v holders f.tasks h.holders; unique = f.unique h.unique };
        rises = f.rises;
      }

  pub calm_refl : (past : Option ℕ) (n : ℕ) (w : State K) → Calm past n w w
  calm_refl past n w = quiet_calm past n w w (quiet_refl w)
