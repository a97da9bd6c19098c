-- A scope goes with what it owns: who read any of that is marked.
use Rattle.std.proofs.Common.{ℕ, Bool, true, false, List, [], ◌∷◌, ◌≡◌, ◌⊎◌, ◌&&◌, not, refl, sym, ap, ◌∙◌, subst, nat_eq, nat_lt, inl, inr}
use Rattle.std.proofs.lemmas.Bool.{eqb-true}
use Rattle.std.specs.Prelude.{Option, Some, is_some, if◌then◌else◌}
use Rattle.std.specs.List.{AllByRecursion}
use Rattle.rt_model.specs.Lists.{at, without, kept_by, has, insert_number}
use Rattle.rt_model.specs.Tree.{Types}
use Rattle.rt_model.specs.World.{Source, Cell, Error, Context, same_source}
use Rattle.rt_model.specs.State.{Scope, LastCall, CellRow, ContextRow, State}
use Rattle.rt_model.specs.Commands.{names_source, tell}
use Rattle.rt_model.specs.Removal.{kinds_in, cell_sources, context_sources, cells_in, tell_all, kinds_of_scopes, kinds_of_contexts, read_contexts, without_scope, gone}
use Rattle.rt_model.proofs.Maps.{by_test, pick_true, pick_false, at_without_none, eq_same, at_here, at_there, at_without_here, at_without_other, none_some}
use Rattle.rt_model.proofs.Members.{clash, or_left, or_right, by_either, number_stays, number_left}
use Rattle.law_moves.specs.Heeds.{leavings, Marked, SameOf, Heeds}
use Rattle.law_moves.proofs.Marks.{source_is}
use Rattle.law_moves.proofs.Told.{tell_quiet, tell_marks}
use Rattle.law_moves.proofs.Calm.{error_of, context_of, holders_of, cell_in, there_of, leavings_by, reads_by, held_stays, same_scope, HoldersLive, Unique, listed_then, listed_to, live_by, Calm, Quiet, quiet_then, quiet_refl, same_quiet, holders_by, holders_stay}

-- a number joins an ascending list
pub inserted : (ks : List ℕ) (k : ℕ) → has (insert_number ks k) k ≡ true
inserted [] k = or_left (nat_eq k k) false (eq_same k)
inserted (m ∷ ks) k = first (nat_eq m k) refl (inserted ks k)
  where
    second : (b : Bool) → has (insert_number ks k) k ≡ true → has (if b then k ∷ m ∷ ks else m ∷ insert_number ks k) k ≡ true
    second true r = or_left (nat_eq k k) (has (m ∷ ks) k) (eq_same k)
    second false r = or_right (nat_eq m k) (has (insert_number ks k) k) r

    first : (b : Bool) → nat_eq m k ≡ b → has (insert_number ks k) k ≡ true → has (if b then m ∷ ks else (if nat_lt k m then k ∷ m ∷ ks else m ∷ insert_number ks k)) k ≡ true
    first true q r = or_left (nat_eq m k) (has ks k) q
    first false q r = second (nat_lt k m) r

-- and the others are still there
pub insert_keeps : (ks : List ℕ) (k j : ℕ) → has ks j ≡ true → has (insert_number ks k) j ≡ true
insert_keeps [] k j h = clash h refl
insert_keeps (m ∷ ks) k j h = first (nat_eq m k) (λ q. insert_keeps ks k j q)
  where
    second : (b : Bool) → (has ks j ≡ true → has (insert_number ks k) j ≡ true) → has (if b then k ∷ m ∷ ks else m ∷ insert_number ks k) j ≡ true
    second true go = or_right (nat_eq k j) (has (m ∷ ks) j) h
    second false go =
        by_either (nat_eq m j) (has ks j) h
        (λ q. or_left (nat_eq m j) (has (insert_number ks k) j) q)
        (λ q. or_right (nat_eq m j) (has (insert_number ks k) j) (go q))

    first : (b : Bool) → (has ks j ≡ true → has (insert_number ks k) j ≡ true) → has (if b then m ∷ ks else (if nat_lt k m then k ∷ m ∷ ks else m ∷ insert_number ks k)) j ≡ true
    first true go = h
    first false go = second (nat_lt k m) go

pub kind_stays : (b : Bool) (ks : List ℕ) (k j : ℕ) → has ks j ≡ true → has (if b then insert_number ks k else ks) j ≡ true
kind_stays true ks k j h = insert_keeps ks k j h
kind_stays false ks k j h = h

pub kinds_stay : (s : ℕ) (xs : List Source) (ks : List ℕ) (j : ℕ) → has ks j ≡ true → has (kinds_in s xs ks) j ≡ true
kinds_stay s [] ks j h = h
kinds_stay s (Context k t ∷ xs) ks j h = kinds_stay s xs (if nat_eq t s then insert_number ks k else ks) j (kind_stays (nat_eq t s) ks k j h)
kinds_stay s (Cell n ∷ xs) ks j h = kinds_stay s xs ks j h
kinds_stay s (Error t ∷ xs) ks j h = kinds_stay s xs ks j h

pub kind_joins : (b : Bool) (ks : List ℕ) (k : ℕ) → b ≡ true → has (if b then insert_number ks k else ks) k ≡ true
kind_joins true ks k h = inserted ks k
kind_joins false ks k h = clash h refl

pub kinds_named : (s k : ℕ) (xs : List Source) (ks : List ℕ) → names_source xs (Context k s) ≡ true → has (kinds_in s xs ks) k ≡ true
kinds_named s k [] ks h = clash h refl
kinds_named s k (Cell n ∷ xs) ks h = kinds_named s k xs ks h
kinds_named s k (Error t ∷ xs) ks h = kinds_named s k xs ks h
kinds_named s k (Context j t ∷ xs) ks h =
    by_either (nat_eq j k && nat_eq t s) (names_source xs (Context k s)) h
    (
    λ q.
    by_test (nat_eq j k)
    (
    λ p.
    let own : nat_eq t s ≡ true = sym (ap (λ (b : Bool). b && nat_eq t s) p) ∙ q in
    kinds_stay s xs (if nat_eq t s then insert_number ks j else ks) k
    (subst (λ (m : ℕ). has (if nat_eq t s then insert_number ks j else ks) m ≡ true) (eqb-true j k p) (kind_joins (nat_eq t s) ks j own))
    )
    (λ p. clash q (ap (λ (b : Bool). b && nat_eq t s) p))
    )
    (λ q. kinds_named s k xs (if nat_eq t s then insert_number ks j else ks) q)

pub contexts_named : (s k : ℕ) (ks : List ℕ) → has ks k ≡ true → names_source (context_sources s ks) (Context k s) ≡ true
contexts_named s k [] h = clash h refl
contexts_named s k (j ∷ ks) h =
    by_either (nat_eq j k) (has ks k) h
    (λ q. or_left (nat_eq j k && nat_eq s s) (names_source (context_sources s ks) (Context k s)) (ap (λ (b : Bool). b && nat_eq s s) q ∙ eq_same s))
    (λ q. or_right (nat_eq j k && nat_eq s s) (names_source (context_sources s ks) (Context k s)) (contexts_named s k ks q))

pub cells_named : (ns : List ℕ) (n : ℕ) → has ns n ≡ true → names_source (cell_sources ns) (Cell n) ≡ true
cells_named [] n h = clash h refl
cells_named (m ∷ ns) n h =
    by_either (nat_eq m n) (has ns n) h
    (λ q. or_left (nat_eq m n) (names_source (cell_sources ns) (Cell n)) q)
    (λ q. or_right (nat_eq m n) (names_source (cell_sources ns) (Cell n)) (cells_named ns n q))

module _ {K : Types} where
  pub told_quiet : (w : State K) (xs : List Source) → Quiet w (tell_all w xs)
  told_quiet w [] = quiet_refl w
  told_quiet w (x ∷ xs) = quiet_then w (tell w x) (tell_all (tell w x) xs) (tell_quiet w x) (told_quiet (tell w x) xs)

  -- the readers of each of these are marked
  told_marks : (w : State K) (xs : List Source) (i : Source) (t : ℕ) (x : Scope K) → at w.scopes t ≡ Some x → names_source x.reads i ≡ true → names_source xs i ≡ true → Marked (tell_all w xs) t
  told_marks w [] i t x live h named = clash named refl
  told_marks w (y ∷ xs) i t x live h named =
      let q : Quiet w (tell w y) = tell_quiet w y in
      let z = there_of (at (tell w y).scopes t) (at w.scopes t) x (leavings_by (at (tell w y).scopes t) (at w.scopes t) (q.stand t)) live in
      by_either (same_source y i) (names_source xs i) named
      (λ e. (told_quiet (tell w y) xs).marks t z.0 z.1 (tell_marks w y t x live (ap (λ (j : Source). names_source x.reads j) (source_is y i e) ∙ h)))
      (λ g. told_marks (tell w y) xs i t z.0 z.1 (ap (λ (rs : List Source). names_source rs i) (reads_by x z.0 z.2) ∙ h) g)

  scopes_stay : (s : ℕ) (es : List (ℕ × Scope K)) (ks : List ℕ) (k : ℕ) → has ks k ≡ true → has (kinds_of_scopes s es ks) k ≡ true
  scopes_stay s [] ks k h = h
  scopes_stay s (e ∷ es) ks k h = scopes_stay s es (kinds_in s (e.1).reads ks) k (kinds_stay s (e.1).reads ks k h)

  scopes_named : (s k t : ℕ) (x : Scope K) (es : List (ℕ × Scope K)) (ks : List ℕ) → at es t ≡ Some x → names_source x.reads (Context k s) ≡ true → has (kinds_of_scopes s es ks) k ≡ true
  scopes_named s k t x [] ks live h = none_some refl live
  scopes_named s k t x (e ∷ es) ks live h =
      by_test (nat_eq e.0 t)
      (
      λ q.
      let same : e.1 ≡ x = same_scope e.1 x (sym (at_here e.0 e.1 es t q) ∙ live) in
      scopes_stay s es (kinds_in s (e.1).reads ks) k (kinds_named s k (e.1).reads ks (ap (λ (y : Scope K). names_source y.reads (Context k s)) same ∙ h))
      )
      (λ q. scopes_named s k t x es (kinds_in s (e.1).reads ks) (sym (at_there e.0 e.1 es t q) ∙ live) h)

  contexts_stay : (s : ℕ) (es : List (ℕ × ContextRow K)) (ks : List ℕ) (k : ℕ) → has ks k ≡ true → has (kinds_of_contexts s es ks) k ≡ true
  contexts_stay s [] ks k h = h
  contexts_stay s (e ∷ es) ks k h = contexts_stay s es (kinds_in s (e.1).sources ks) k (kinds_stay s (e.1).sources ks k h)

  abbrev others_cells : ℕ → List (ℕ × CellRow K) → List (ℕ × CellRow K)
  others_cells s es = kept_by (λ e. not (nat_eq (e.1).owner s)) es

  -- a cell stays, or is one of those that go
  cell_stays : (s : ℕ) (es : List (ℕ × CellRow K)) (n : ℕ) → (cell_in (at es n) ≡ cell_in (at (others_cells s es) n)) ⊎ (has (cells_in s es) n ≡ true)
  cell_stays s [] n = inl refl
  cell_stays s (e ∷ es) n = by_test (nat_eq e.0 n) (λ q. here (nat_eq (e.1).owner s) q) (λ q. there (nat_eq (e.1).owner s) q (cell_stays s es n))
    where
      here : (b : Bool) → nat_eq e.0 n ≡ true
          → (cell_in (at (e ∷ es) n) ≡ cell_in (at (if not b then e ∷ others_cells s es else others_cells s es) n)) ⊎ (has (if b then e.0 ∷ cells_in s es else cells_in s es) n ≡ true)
      here true q = inr (or_left (nat_eq e.0 n) (has (cells_in s es) n) q)
      here false q = inl (ap (λ (o : Option (CellRow K)). cell_in o) (at_here e.0 e.1 es n q ∙ sym (at_here e.0 e.1 (others_cells s es) n q)))

      there : (b : Bool) → nat_eq e.0 n ≡ false → (cell_in (at es n) ≡ cell_in (at (others_cells s es) n)) ⊎ (has (cells_in s es) n ≡ true)
          → (cell_in (at (e ∷ es) n) ≡ cell_in (at (if not b then e ∷ others_cells s es else others_cells s es) n)) ⊎ (has (if b then e.0 ∷ cells_in s es else cells_in s es) n ≡ true)
      there true q (inl h) = inl (ap (λ (o : Option (CellRow K)). cell_in o) (at_there e.0 e.1 es n q) ∙ h)
      there true q (inr h) = inr (or_right (nat_eq e.0 n) (has (cells_in s es) n) h)
      there false q (inl h) =
          inl (ap (λ (o : Option (CellRow K)). cell_in o) (at_there e.0 e.1 es n q) ∙ h ∙ sym (ap (λ (o : Option (CellRow K)). cell_in o) (at_there e.0 e.1 (others_cells s es) n q)))
      there false q (inr h) = inr h

  without_unique : (es : List (ℕ × Scope K)) (s : ℕ) → Unique es → Unique (without es s)
  without_unique [] s h = tt
  without_unique (e ∷ es) s h =
      by_test (nat_eq e.0 s)
      (λ q. subst (λ (zs : List (ℕ × Scope K)). Unique zs) (sym (pick_true (without es s) (e ∷ without es s) q)) (without_unique es s h.1))
      (
      λ q.
      subst (λ (zs : List (ℕ × Scope K)). Unique zs) (sym (pick_false (without es s) (e ∷ without es s) q))
      (at_without_none es s e.0 h.0, without_unique es s h.1)
      )

  pub gone_calm : (n : ℕ) (w : State K) (s : ℕ) → Calm (Some s) n w (gone w s)
  gone_calm n w s =
      record {
        heeds =
            record {
              stays = λ t p. leavings_by (at (gone w s).scopes t) (at u.scopes t) (m.stand t) ∙ ap (λ (o : Option (Scope K)). leavings o) (at_without_other w.scopes s t p);
              calls = λ t p. ap (λ (ls : List (ℕ × LastCall K)). at ls t) m.calls ∙ at_without_other w.last_calls s t p;
              marks = λ t x p e h. m.marks t x (in_u t x p e) h;
              told = λ t x i p e reads low. by_source t x i p e reads;
              held = λ t x y p e d. inl (held_stays w (gone w s) t x y (holders t p) e d);
            };
        lists =
            listed_then (Some s) w u (gone w s) (λ t p live. live_by (at (gone w s).scopes t) (at u.scopes t) (leavings_by (at (gone w s).scopes t) (at u.scopes t) (m.stand t)) live)
            (record {
              seen = λ t p h. inl h;
              queued = λ t h. inl (h, λ i. i);
              passes = λ t p h. number_stays w.skipped s t p h;
              passed = λ t h. (number_left w.skipped s t h).0;
            }) (listed_to (Some s) u (gone w s) m.lists);
        orderly =
            λ h.
            record {
              holders = holders_stay u (gone w s) (λ t. holders_by (at (gone w s).scopes t) (at u.scopes t) (m.stand t)) m.tasks (left h.holders);
              unique = m.unique (without_unique w.scopes s h.unique);
            };
        rises = m.rises;
      }
    where
      u : State K
      u = without_scope w s

      cs : List Source
      cs = cell_sources (cells_in s w.cells)

      v : State K
      v = tell_all u cs

      es : List Source
      es = Error s ∷ read_contexts v s

      to_v : Quiet u v
      to_v = told_quiet u cs

      m : Quiet u (gone w s)
      m = quiet_then u v (gone w s) to_v (told_quiet v es)

      in_u : (t : ℕ) (x : Scope K) → nat_eq s t ≡ false → at w.scopes t ≡ Some x → at u.scopes t ≡ Some x
      in_u t x q e = at_without_other w.scopes s t q ∙ e

      in_v : (t : ℕ) (x : Scope K) → nat_eq s t ≡ false → at w.scopes t ≡ Some x → (y : Scope K) × (at v.scopes t ≡ Some y) × (leavings (Some y) ≡ leavings (Some x))
      in_v t x q e = there_of (at v.scopes t) (at u.scopes t) x (leavings_by (at v.scopes t) (at u.scopes t) (to_v.stand t)) (in_u t x q e)

      holders : (t : ℕ) → nat_eq s t ≡ false → holders_of (at (gone w s).scopes t) ≡ holders_of (at w.scopes t)
      holders t q = holders_by (at (gone w s).scopes t) (at u.scopes t) (m.stand t) ∙ ap (λ (o : Option (Scope K)). holders_of o) (at_without_other w.scopes s t q)

      left : HoldersLive w → HoldersLive u
      left h t =
          by_test (nat_eq s t)
          (λ q. subst (λ (o : Option (Scope K)). AllByRecursion (λ (d : ℕ × ℕ). is_some (at w.tasks d.0) ≡ true) (holders_of o)) (sym (at_without_here w.scopes s t q)) tt)
          (λ q. subst (λ (o : Option (Scope K)). AllByRecursion (λ (d : ℕ × ℕ). is_some (at w.tasks d.0) ≡ true) (holders_of o)) (sym (at_without_other w.scopes s t q)) (h t))

      last_marks : (i : Source) (t : ℕ) (x : Scope K) → nat_eq s t ≡ false → at w.scopes t ≡ Some x → names_source x.reads i ≡ true → names_source es i ≡ true → Marked (gone w s) t
      last_marks i t x q e reads named =
          let y = in_v t x q e in
          told_marks v es i t y.0 y.1 (ap (λ (rs : List Source). names_source rs i) (reads_by x y.0 y.2) ∙ reads) named

      by_cell : (n t : ℕ) (x : Scope K) → nat_eq s t ≡ false → at w.scopes t ≡ Some x → names_source x.reads (Cell n) ≡ true
          → (cell_in (at w.cells n) ≡ cell_in (at u.cells n)) ⊎ (has (cells_in s w.cells) n ≡ true)
          → SameOf w (gone w s) (Cell n) ⊎ Marked (gone w s) t
      by_cell n t x q e reads (inl h) = inl (h ∙ same_quiet u (gone w s) (Cell n) m)
      by_cell n t x q e reads (inr h) =
          let y = in_v t x q e in
          inr ((told_quiet v es).marks t y.0 y.1 (told_marks u cs (Cell n) t x (in_u t x q e) reads (cells_named (cells_in s w.cells) n h)))

      other_scope : {A : Type 0} (f : Option (Scope K) → A) (t : ℕ) → nat_eq s t ≡ false → f (at w.scopes t) ≡ f (at u.scopes t)
      other_scope f t q = ap f (sym (at_without_other w.scopes s t q))

      by_source : (t : ℕ) (x : Scope K) (i : Source) → nat_eq s t ≡ false → at w.scopes t ≡ Some x → names_source x.reads i ≡ true → SameOf w (gone w s) i ⊎ Marked (gone w s) t
      by_source t x (Cell n) q e reads = by_cell n t x q e reads (cell_stays s w.cells n)
      by_source t x (Error r) q e reads =
          by_test (nat_eq s r)
          (
          λ p.
          let own : s ≡ r = eqb-true s r p in
          let named : names_source es (Error r) ≡ true = ap (λ (k : ℕ). names_source es (Error k)) (sym own) ∙ or_left (nat_eq s s) (names_source (read_contexts v s) (Error s)) (eq_same s) in
          inr (last_marks (Error r) t x q e reads named)
          )
          (λ p. inl (other_scope (λ o. error_of o) r p ∙ same_quiet u (gone w s) (Error r) m))
      by_source t x (Context k r) q e reads =
          by_test (nat_eq s r)
          (
          λ p.
          let own : s ≡ r = eqb-true s r p in
          let y = in_v t x q e in
          let read : names_source (y.0).reads (Context k s) ≡ true =
          ap (λ (rs : List Source). names_source rs (Context k s)) (reads_by x y.0 y.2) ∙ ap (λ (j : ℕ). names_source x.reads (Context k j)) own ∙ reads in
          let kinds : List ℕ = kinds_of_scopes s v.scopes [] in
          let named : names_source es (Context k r) ≡ true =
          ap (λ (j : ℕ). names_source es (Context k j)) (sym own)
          ∙ contexts_named s k (kinds_of_contexts s v.contexts kinds) (contexts_stay s v.contexts kinds k (scopes_named s k t y.0 v.scopes [] y.1 read)) in
          inr (last_marks (Context k r) t x q e reads named)
          )
          (λ p. inl (other_scope (λ o. context_of k o) r p ∙ same_quiet u (gone w s) (Context k r) m))

pub removal_heeds : {K : Types} (n : ℕ) (w : State K) (s : ℕ) → Heeds (Some s) n w (gone w s)
removal_heeds n w s = (gone_calm n w s).heeds
