-- What each change leaves of the sources that were read into a context: each has the value that it had, or the task is owed a poll.
use Rattle.std.proofs.Common.{ℕ, ◌+◌, ◌<◌, ◌≤◌, Bool, true, false, ◌&&◌, List, [], ◌∷◌, ◌++◌, ◌≡◌, inl, inr, refl, sym, ap, ◌∙◌, subst, nat_eq, arith}
use Rattle.std.specs.Prelude.{Option, Some, None, ◌⊎◌, is_some}
use Rattle.std.proofs.lemmas.Bool.{eqb-true}
use Rattle.rt_model.specs.Lists.{at, put, without, has, drop_number}
use Rattle.rt_model.specs.Laws.{SameAt}
use Rattle.rt_model.specs.Tree.{Types}
use Rattle.rt_model.specs.World.{Source, Cell, Error, Context, same_source, Target, TaskTarget, World}
use Rattle.rt_model.specs.State.{Posted, Woken, Scope, CellRow, ContextRow, TaskRow, State, changed_scope, world_of, values_of}
use Rattle.rt_model.specs.Commands.{names_source, tell}
use Rattle.rt_model.specs.Next.{is_active, found, paused}
use Rattle.rt_model.specs.Replay.{mounted}
use Rattle.rt_model.proofs.Maps.{by_test, at_put_here, at_put_other, at_without_other, at_append_none}
use Rattle.rt_model.proofs.Members.{clash, turned_round, number_stays}
use Rattle.rt_model.proofs.SameTrees.{source_tests}
use Rattle.law_behavior.specs.Marking.{IsPosted, Targets}
use Rattle.law_behavior.specs.Owed.{IsWoken, OwesPoll}
use Rattle.law_behavior.proofs.Readers.{Posts, tell_posts, tell_readers}
use Rattle.law_minding.proofs.Named.{each_or}
use Rattle.law_minding.proofs.Polled.{cell_value, error_value, context_value}
use Rattle.law_minding.proofs.Writes.{owes_on}
use Rattle.law_minding.proofs.Values.{at_longer, put_live, longer_live, mounted_live, equal_le, active_in, put_error, put_context, new_error, new_context, mounted_error, mounted_context, paused_is}

module _ {K : Types} (last : World K) (t n cell scope : ℕ) (held : CellRow K) (place : K.TaskState) (polled : Bool) (reads : ContextRow K) (target : reads.target ≡ TaskTarget t) (home : reads.scope ≡ scope) where
  -- a source has one value in both states; of cells it speaks of those that were drawn then
  abbrev pub Low : State K → State K → Source → Type 0
  Low w v (Cell m) = m < last.given.next.cells → (values_of w).cell m ≡ (values_of v).cell m
  Low w v (Error s) = (values_of w).error s ≡ (values_of v).error s
  Low w v (Context k s) = (values_of w).context k s ≡ (values_of v).context k s

  -- the world in which its values are seen
  abbrev pub sees : State K → World K
  sees w = world_of w 0 None false

  -- the task is owed a poll, or it was polled, and the sources have the values of then
  abbrev pub Minding : State K → Type 0
  Minding w = OwesPoll w t ⊎ ((polled ≡ true) × ((i : Source) → names_source reads.sources i ≡ true → SameAt last (sees w) i))

  -- the task is there in its place, with its cell and its context as they were; and its sources have the values of then, or it is owed a poll
  pub record Here (w : State K) : Type 0 where
    pub row : TaskRow K
    pub is : at w.tasks t ≡ Some row
    pub scope_is : row.scope ≡ scope
    pub state_is : row.state ≡ place
    pub lives : is_some (at w.scopes scope) ≡ true
    pub holds : at w.cells cell ≡ Some held
    pub context : polled ≡ true → at w.contexts n ≡ Some reads
    pub minds : Minding w

  -- the task is there so, or it has ended for good
  pub record Minded (w : State K) : Type 0 where
    pub low : t + 1 ≤ w.next.tasks
    pub stands : (at w.tasks t ≡ None) ⊎ Here w

  -- the task is there, with the scope and in the place that it had
  abbrev pub Goes_on : TaskRow K → State K → Type 0
  Goes_on x v = (y : TaskRow K) × (at v.tasks t ≡ Some y) × (y.scope ≡ x.scope) × (y.state ≡ x.state)

  -- a change passes: whoever was there so is afterwards
  pub record Passes (w v : State K) : Type 0 where
    pub low : w.next.tasks ≤ v.next.tasks
    pub none : at w.tasks t ≡ None → at v.tasks t ≡ None
    pub row : (x : TaskRow K) → at w.tasks t ≡ Some x → (at v.tasks t ≡ None) ⊎ Goes_on x v
    pub lives : is_some (at w.scopes scope) ≡ true → is_some (at v.scopes scope) ≡ true
    pub holds : at w.cells cell ≡ Some held → at v.cells cell ≡ Some held
    pub context : (polled ≡ true → at w.contexts n ≡ Some reads) → polled ≡ true → at v.contexts n ≡ Some reads
    pub owes : OwesPoll w t → OwesPoll v t
    pub told : Here w → polled ≡ true → (i : Source) → names_source reads.sources i ≡ true → Low w v i ⊎ OwesPoll v t

  pub seen_then : (w v : State K) (i : Source) → SameAt last (sees w) i → Low w v i → SameAt last (sees v) i
  seen_then w v (Cell m) h same = λ low. h low ∙ same low
  seen_then w v (Error s) h same = h ∙ same
  seen_then w v (Context k s) h same = h ∙ same

  pub low_then : (u v w : State K) (i : Source) → Low u v i → Low v w i → Low u w i
  low_then u v w (Cell m) f g = λ low. f low ∙ g low
  low_then u v w (Error s) f g = f ∙ g
  low_then u v w (Context k s) f g = f ∙ g

  pub low_refl : (w : State K) (i : Source) → Low w w i
  low_refl w (Cell m) = λ low. refl
  low_refl w (Error s) = refl
  low_refl w (Context k s) = refl

  -- the task is there so, or it isn't there
  abbrev pub Standing : State K → Type 0
  Standing w = (at w.tasks t ≡ None) ⊎ Here w

  pub stand_on : (w v : State K) → Passes w v → Standing w → Standing v
  stand_on w v p (inl gone) = inl (p.none gone)
  stand_on w v p (inr here) = on here (p.row here.row here.is)
    where
      with_poll : polled ≡ true → OwesPoll v t ⊎ ((i : Source) → names_source reads.sources i ≡ true → SameAt last (sees v) i) → Minding v
      with_poll once (inl owed) = inl owed
      with_poll once (inr current) = inr (once, current)

      minded : (here : Here w) → Minding w → Minding v
      minded here (inl owed) = inl (p.owes owed)
      minded here (inr current) =
          with_poll current.0
          (each_or (OwesPoll v t) (λ i. SameAt last (sees v) i) reads.sources
          (
          λ i e.
          elim (p.told here current.0 i e) as (λ z. SameAt last (sees v) i ⊎ OwesPoll v t) [
            | inl same ↦ inl (seen_then w v i (current.1 i e) same)
            | inr owed ↦ inr owed
          ]
          ))

      on : (here : Here w) → (at v.tasks t ≡ None) ⊎ Goes_on here.row v → Standing v
      on here (inl gone) = inl gone
      on here (inr y) =
          inr
          (record {
            row = y.0;
            is = y.1;
            scope_is = y.2 ∙ here.scope_is;
            state_is = y.3 ∙ here.state_is;
            lives = p.lives here.lives;
            holds = p.holds here.holds;
            context = p.context here.context;
            minds = minded here here.minds;
          })

  pub pass : (w v : State K) → Passes w v → Minded w → Minded v
  pass w v p h =
      record {
        low = let a : t + 1 ≤ w.next.tasks = h.low in let b : w.next.tasks ≤ v.next.tasks = p.low in omega (arith, a, b);
        stands = stand_on w v p h.stands;
      }

  -- tasks and what is owed are as they were
  pub still_owes : (w v : State K) → v.tasks ≡ w.tasks → v.posted ≡ w.posted → v.queued ≡ w.queued → OwesPoll w t → OwesPoll v t
  still_owes w v tasks posted queued h = λ active.
      elim (h (ap (λ (es : List (ℕ × TaskRow K)). active_in (at es t)) (sym tasks) ∙ active)) as (λ z. IsWoken v t) [
        | inl a ↦ inl (subst (λ (ps : List Posted). IsPosted ps (Woken t)) (sym posted) a)
        | inr b ↦ inr (ap (λ (xs : List ℕ). has xs t) queued ∙ b)
      ]

  -- a change of other parts, after which each source has its value
  pub alone : (w v : State K) → v.tasks ≡ w.tasks → v.contexts ≡ w.contexts → v.next.tasks ≡ w.next.tasks → v.posted ≡ w.posted → v.queued ≡ w.queued
      → (is_some (at w.scopes scope) ≡ true → is_some (at v.scopes scope) ≡ true)
      → (at w.cells cell ≡ Some held → at v.cells cell ≡ Some held)
      → ((i : Source) → Low w v i)
      → Passes w v
  alone w v tasks contexts next posted queued lives holds same =
      record {
        low = equal_le w.next.tasks v.next.tasks next;
        none = λ e. ap (λ (es : List (ℕ × TaskRow K)). at es t) tasks ∙ e;
        row = λ x e. inr (x, ap (λ (es : List (ℕ × TaskRow K)). at es t) tasks ∙ e, refl, refl);
        lives = lives;
        holds = holds;
        context = λ e once. ap (λ (es : List (ℕ × ContextRow K)). at es n) contexts ∙ e once;
        owes = λ h. still_owes w v tasks posted queued h;
        told = λ here once i e. inl (same i);
      }

  pub posts_low : (w v : State K) → Posts w v → (i : Source) → Low w v i
  posts_low w v f (Cell m) = λ low. ap (λ (z : State K). cell_value (at z.cells m)) (sym f.alike)
  posts_low w v f (Error s) = ap (λ (z : State K). error_value (at z.scopes s)) (sym f.alike)
  posts_low w v f (Context k s) = ap (λ (z : State K). context_value k (at z.scopes s)) (sym f.alike)

  pub posts_pass : (w v : State K) → Posts w v → Passes w v
  posts_pass w v f =
      record {
        low = equal_le w.next.tasks v.next.tasks (ap (λ (z : State K). z.next.tasks) f.alike);
        none = λ e. ap (λ (z : State K). at z.tasks t) f.alike ∙ e;
        row = λ x e. inr (x, ap (λ (z : State K). at z.tasks t) f.alike ∙ e, refl, refl);
        lives = λ e. ap (λ (z : State K). is_some (at z.scopes scope)) f.alike ∙ e;
        holds = λ e. ap (λ (z : State K). at z.cells cell) f.alike ∙ e;
        context = λ e once. ap (λ (z : State K). at z.contexts n) f.alike ∙ e once;
        owes = λ h. owes_on w v t f h;
        told = λ here once i e. inl (posts_low w v f i);
      }

  pub wakes : (u : State K) (x : TaskRow K) → at u.tasks t ≡ Some x → Targets u reads.target (Woken t)
  wakes u x e = subst (λ (r : Target). Targets u r (Woken t)) (sym target) (ap (λ (o : Option (TaskRow K)). is_some o) e, refl)

  -- a source has another value, and its readers are told
  pub told_change : (w u : State K) (j : Source) → u.tasks ≡ w.tasks → u.contexts ≡ w.contexts → u.next.tasks ≡ w.next.tasks → u.posted ≡ w.posted → u.queued ≡ w.queued
      → (is_some (at w.scopes scope) ≡ true → is_some (at u.scopes scope) ≡ true)
      → (at w.cells cell ≡ Some held → at u.cells cell ≡ Some held)
      → ((i : Source) → same_source i j ≡ false → Low w u i)
      → Passes w (tell u j)
  told_change w u j tasks contexts next posted queued lives holds same =
      record {
        low = equal_le w.next.tasks (tell u j).next.tasks (ap (λ (z : State K). z.next.tasks) (tell_posts u j).alike ∙ next);
        none = λ e. ap (λ (z : State K). at z.tasks t) (tell_posts u j).alike ∙ ap (λ (es : List (ℕ × TaskRow K)). at es t) tasks ∙ e;
        row = λ x e. inr (x, ap (λ (z : State K). at z.tasks t) (tell_posts u j).alike ∙ ap (λ (es : List (ℕ × TaskRow K)). at es t) tasks ∙ e, refl, refl);
        lives = λ e. ap (λ (z : State K). is_some (at z.scopes scope)) (tell_posts u j).alike ∙ lives e;
        holds = λ e. ap (λ (z : State K). at z.cells cell) (tell_posts u j).alike ∙ holds e;
        context = λ e once. ap (λ (z : State K). at z.contexts n) (tell_posts u j).alike ∙ ap (λ (es : List (ℕ × ContextRow K)). at es n) contexts ∙ e once;
        owes = λ h. owes_on u (tell u j) t (tell_posts u j) (still_owes w u tasks posted queued h);
        told =
            λ here once i e.
            by_test (same_source i j)
            (
            λ is.
            let named : names_source reads.sources j ≡ true = ap (λ (k : Source). names_source reads.sources k) (sym (source_tests.0 i j is)) ∙ e in
            inr
            (
            λ active.
            inl
            ((tell_readers u j).contexts n reads (Woken t) (ap (λ (es : List (ℕ × ContextRow K)). at es n) contexts ∙ here.context once) named
            (wakes u here.row (ap (λ (es : List (ℕ × TaskRow K)). at es t) tasks ∙ here.is)))
            )
            )
            (λ q. inl (low_then w u (tell u j) i (same i q) (posts_low u (tell u j) (tell_posts u j) i)));
      }

  -- a scope's record changes, but neither its error nor what it provides
  pub put_low : (w : State K) (s : ℕ) (x y : Scope K) → at w.scopes s ≡ Some x → y.error ≡ x.error → y.contexts ≡ x.contexts → (i : Source) → Low w (record w { scopes = put w.scopes s y }) i
  put_low w s x y e error contexts (Cell m) = λ low. refl
  put_low w s x y e error contexts (Error r) = put_error w.scopes s x y e error r
  put_low w s x y e error contexts (Context k r) = put_context w.scopes s k x y e (ap (λ (cs : List (ℕ × K.Value)). at cs k) contexts) r

  pub put_passes : (w : State K) (s : ℕ) (x y : Scope K) → at w.scopes s ≡ Some x → y.error ≡ x.error → y.contexts ≡ x.contexts → Passes w (record w { scopes = put w.scopes s y })
  put_passes w s x y e error contexts = alone w (record w { scopes = put w.scopes s y }) refl refl refl refl refl (λ h. put_live w.scopes s y scope h) (λ h. h) (put_low w s x y e error contexts)

  pub changed_passes : (w : State K) (s : ℕ) (f : Scope K → Scope K) → ((x : Scope K) → ((f x).error ≡ x.error) × ((f x).contexts ≡ x.contexts))
      → (o : Option (Scope K)) → at w.scopes s ≡ o → Passes w (changed_scope w s f o)
  changed_passes w s f same None e = alone w w refl refl refl refl refl (λ h. h) (λ h. h) (low_refl w)
  changed_passes w s f same (Some x) e = put_passes w s x (f x) e (same x).0 (same x).1

  -- an error comes or goes, and its readers are told
  pub error_passes : (w : State K) (b : ℕ) (x y : Scope K) → at w.scopes b ≡ Some x → y.contexts ≡ x.contexts → Passes w (tell (record w { scopes = put w.scopes b y }) (Error b))
  error_passes w b x y e contexts = told_change w (record w { scopes = put w.scopes b y }) (Error b) refl refl refl refl refl (λ h. put_live w.scopes b y scope h) (λ h. h) same
    where
      same : (i : Source) → same_source i (Error b) ≡ false → Low w (record w { scopes = put w.scopes b y }) i
      same (Cell m) q = λ low. refl
      same (Error r) q = sym (ap (λ (o : Option (Scope K)). error_value o) (at_put_other w.scopes b y r (turned_round r b q)))
      same (Context k r) q = put_context w.scopes b k x y e (ap (λ (cs : List (ℕ × K.Value)). at cs k) contexts) r

  -- a value is provided, and who read what was there is told; an equal one changes nothing
  pub provided_told : (w : State K) (s k : ℕ) (v : K.Value) (x : Scope K) → at w.scopes s ≡ Some x
      → Passes w (tell (record w { scopes = put w.scopes s (record x { contexts = put x.contexts k v }) }) (Context k s))
  provided_told w s k v x e = told_change w u (Context k s) refl refl refl refl refl (λ h. put_live w.scopes s y scope h) (λ h. h) same
    where
      y : Scope K
      y = record x { contexts = put x.contexts k v }

      u : State K
      u = record w { scopes = put w.scopes s y }

      same : (i : Source) → same_source i (Context k s) ≡ false → Low w u i
      same (Cell m) q = λ low. refl
      same (Error r) q = put_error w.scopes s x y e refl r
      same (Context j r) q =
          by_test (nat_eq r s)
          (
          λ own.
          by_test (nat_eq j k)
          (λ p. clash (ap (λ (b : Bool). b && nat_eq r s) p ∙ own) q)
          (λ p. put_context w.scopes s j x y e (at_put_other x.contexts k v j (turned_round j k p)) r)
          )
          (λ other. sym (ap (λ (o : Option (Scope K)). context_value j o) (at_put_other w.scopes s y r (turned_round r s other))))

  pub provided_again : (w : State K) (s k : ℕ) (v : K.Value) (x : Scope K) → at w.scopes s ≡ Some x → at x.contexts k ≡ Some v
      → Passes w (record w { scopes = put w.scopes s (record x { contexts = put x.contexts k v }) })
  provided_again w s k v x e there = alone w u refl refl refl refl refl (λ h. put_live w.scopes s y scope h) (λ h. h) same
    where
      y : Scope K
      y = record x { contexts = put x.contexts k v }

      u : State K
      u = record w { scopes = put w.scopes s y }

      kind : (j : ℕ) → at (put x.contexts k v) j ≡ at x.contexts j
      kind j =
          by_test (nat_eq k j)
          (λ p. at_put_here x.contexts k v j p ∙ sym (ap (λ (m : ℕ). at x.contexts m) (sym (eqb-true k j p)) ∙ there))
          (λ p. at_put_other x.contexts k v j p)

      same : (i : Source) → Low w u i
      same (Cell m) = λ low. refl
      same (Error r) = put_error w.scopes s x y e refl r
      same (Context j r) = put_context w.scopes s j x y e (kind j) r

  -- a scope is made
  pub made_passes : (w v : State K) (m : ℕ) (es : List (ℕ × Scope K)) (y : Scope K) → v.tasks ≡ w.tasks → v.contexts ≡ w.contexts → v.next.tasks ≡ w.next.tasks → v.posted ≡ w.posted → v.queued ≡ w.queued → v.cells ≡ w.cells
      → w.scopes ≡ es
      → v.scopes ≡ es ++ (m, y) ∷ []
      → y.error ≡ None
      → y.contexts ≡ []
      → Passes w v
  made_passes w v m es y tasks contexts next posted queued cells before after error provides =
      alone w v tasks contexts next posted queued
      (
      λ h.
      ap (λ (xs : List (ℕ × Scope K)). is_some (at xs scope)) after
      ∙ longer_live es m y scope (sym (ap (λ (xs : List (ℕ × Scope K)). is_some (at xs scope)) before) ∙ h)
      )
      (λ e. ap (λ (cs : List (ℕ × CellRow K)). at cs cell) cells ∙ e)
      same
    where
      same : (i : Source) → Low w v i
      same (Cell c) = λ low. ap (λ (cs : List (ℕ × CellRow K)). cell_value (at cs c)) (sym cells)
      same (Error r) =
          ap (λ (xs : List (ℕ × Scope K)). error_value (at xs r)) before
          ∙ new_error es m y error r
          ∙ sym (ap (λ (xs : List (ℕ × Scope K)). error_value (at xs r)) after)
      same (Context k r) =
          ap (λ (xs : List (ℕ × Scope K)). context_value k (at xs r)) before
          ∙ new_context es m k y provides r
          ∙ sym (ap (λ (xs : List (ℕ × Scope K)). context_value k (at xs r)) after)

  -- the scopes that show are mounted
  pub mounts_pass : (w : State K) → Passes w (record w { scopes = mounted w w.scopes })
  mounts_pass w = alone w (record w { scopes = mounted w w.scopes }) refl refl refl refl refl (λ h. mounted_live w w.scopes scope h) (λ h. h) same
    where
      same : (i : Source) → Low w (record w { scopes = mounted w w.scopes }) i
      same (Cell m) = λ low. refl
      same (Error r) = mounted_error w w.scopes r
      same (Context k r) = mounted_context w k w.scopes r

  -- cells
  pub write_passes : (w : State K) (c : ℕ) (new : CellRow K) → nat_eq c cell ≡ false → Passes w (tell (record w { cells = put w.cells c new }) (Cell c))
  write_passes w c new other =
      told_change w (record w { cells = put w.cells c new }) (Cell c) refl refl refl refl refl (λ h. h) (λ h. at_put_other w.cells c new cell other ∙ h) same
    where
      same : (i : Source) → same_source i (Cell c) ≡ false → Low w (record w { cells = put w.cells c new }) i
      same (Cell m) q = λ low. sym (ap (λ (o : Option (CellRow K)). cell_value o) (at_put_other w.cells c new m (turned_round m c q)))
      same (Error r) q = refl
      same (Context k r) q = refl

  pub drop_passes : (w : State K) (c : ℕ) → nat_eq c cell ≡ false → Passes w (tell (record w { cells = without w.cells c }) (Cell c))
  drop_passes w c other =
      told_change w (record w { cells = without w.cells c }) (Cell c) refl refl refl refl refl (λ h. h) (λ h. at_without_other w.cells c cell other ∙ h) same
    where
      same : (i : Source) → same_source i (Cell c) ≡ false → Low w (record w { cells = without w.cells c }) i
      same (Cell m) q = λ low. sym (ap (λ (o : Option (CellRow K)). cell_value o) (at_without_other w.cells c m (turned_round m c q)))
      same (Error r) q = refl
      same (Context k r) q = refl

  pub new_cell_passes : (w : State K) (c : ℕ) (new : CellRow K) → last.given.next.cells ≤ c → Passes w (record w { cells = w.cells ++ (c, new) ∷ [] })
  new_cell_passes w c new high =
      alone w (record w { cells = w.cells ++ (c, new) ∷ [] }) refl refl refl refl refl (λ h. h) (λ h. at_longer w.cells cell c new held h) same
    where
      other : (m : ℕ) → m < last.given.next.cells → nat_eq c m ≡ false
      other m low = by_test (nat_eq c m) (λ q. let e : c ≡ m = eqb-true c m q in absurd (omega (arith, e, low, high))) (λ q. q)

      same : (i : Source) → Low w (record w { cells = w.cells ++ (c, new) ∷ [] }) i
      same (Cell m) = λ low. sym (ap (λ (o : Option (CellRow K)). cell_value o) (at_append_none w.cells c new m (other m low)))
      same (Error r) = refl
      same (Context k r) = refl

  -- other contexts
  pub contexts_pass : (w : State K) (cs : List (ℕ × ContextRow K)) → (polled ≡ true → at w.contexts n ≡ Some reads → at cs n ≡ Some reads) → Passes w (record w { contexts = cs })
  contexts_pass w cs stays =
      record {
        low = equal_le w.next.tasks w.next.tasks refl;
        none = λ e. e;
        row = λ x e. inr (x, e, refl, refl);
        lives = λ e. e;
        holds = λ e. e;
        context = λ e once. stays once (e once);
        owes = λ h. h;
        told = λ here once i e. inl (same i);
      }
    where
      same : (i : Source) → Low w (record w { contexts = cs }) i
      same (Cell m) = λ low. refl
      same (Error r) = refl
      same (Context k r) = refl

  -- what is owed changes, but not that the task is
  pub owed_passes : (w v : State K) → v ≡ record w { posted = v.posted; seen = v.seen; queued = v.queued; skipped = v.skipped } → (OwesPoll w t → OwesPoll v t) → Passes w v
  owed_passes w v alike owes =
      record {
        low = equal_le w.next.tasks v.next.tasks (ap (λ (z : State K). z.next.tasks) alike);
        none = λ e. ap (λ (z : State K). at z.tasks t) alike ∙ e;
        row = λ x e. inr (x, ap (λ (z : State K). at z.tasks t) alike ∙ e, refl, refl);
        lives = λ e. ap (λ (z : State K). is_some (at z.scopes scope)) alike ∙ e;
        holds = λ e. ap (λ (z : State K). at z.cells cell) alike ∙ e;
        context = λ e once. ap (λ (z : State K). at z.contexts n) alike ∙ e once;
        owes = owes;
        told = λ here once i e. inl (same i);
      }
    where
      same : (i : Source) → Low w v i
      same (Cell m) = λ low. ap (λ (z : State K). cell_value (at z.cells m)) (sym alike)
      same (Error s) = ap (λ (z : State K). error_value (at z.scopes s)) (sym alike)
      same (Context k s) = ap (λ (z : State K). context_value k (at z.scopes s)) (sym alike)

  pub pauses_pass : (w : State K) (u : ℕ) → paused w (found w) ≡ Some u → Passes w (record w { queued = drop_number w.queued u })
  pauses_pass w u e = owed_passes w (record w { queued = drop_number w.queued u }) refl stays
    where
      stays : OwesPoll w t → OwesPoll (record w { queued = drop_number w.queued u }) t
      stays h active =
          by_test (nat_eq u t)
          (λ q. clash active (ap (λ (m : ℕ). is_active w m) (sym (eqb-true u t q)) ∙ paused_is w (found w) u e))
          (λ q. elim (h active) as (λ z. IsWoken (record w { queued = drop_number w.queued u }) t) [ inl a ↦ inl a | inr b ↦ inr (number_stays w.queued u t q b) ])
