-- What the body of a page asks for and answers: it only looks, makes cells and keeps hooks, and nothing fails in its answer.
use Rattle.std.proofs.Common.{ℕ, Bool, true, false, List, [], ◌∷◌, ◌++◌, ◌≡◌, refl, sym, subst, nat_eq, nat_le, nat_lt}
use Rattle.std.specs.Prelude.{Option, Some, None, if◌then◌else◌, length}
use Rattle.rt_model.specs.Lists.{at, nth}
use Rattle.rt_model.specs.Program.{Program, done, current_scope, read, new_cell, hook_is_new, use_hook, Call, begun, exec, noted, noted_at, faults, past_hook, drew_cell, hooked, kind_of, hook_value, value_in}
use Rattle.rt_model.specs.Tree.{Types, rendered}
use Rattle.rt_model.specs.World.{Source, Cell, at_end, CounterAtEnd, OtherHook, Cells, Hook, HookValue, Command, NewCell, KeepHook, World, Meaning}
use Rattle.author_programs.specs.Cells.{Keeping, own_cell, made_cell, first_or_kept, all_read}
use Rattle.author_programs.specs.Pages.{Page, Pages, own_cells, one_more, and_more, shown, page_body, meaning_of_pages}
use Rattle.author_programs.specs.Sequence.{go_on}
use Rattle.law_elm.specs.Safe.{SafeTree, SafeAnswer, PagesSafe}

module _ {K : Types} where
  -- a cell that is made, or a hook that is kept
  abbrev pub IsQuiet : Command K → Type 0
  IsQuiet (KeepHook h) = Unit {0}
  IsQuiet (NewCell n v) = Unit {0}
  IsQuiet _ = ⊥

  abbrev pub AllQuiet : List (Command K) → Type 0
  AllQuiet [] = Unit {0}
  AllQuiet (c ∷ cs) = IsQuiet c × AllQuiet cs

  quiet_more : (cs : List (Command K)) (c : Command K) → AllQuiet cs → IsQuiet c → AllQuiet (cs ++ c ∷ [])
  quiet_more [] c h g = (g, tt)
  quiet_more (d ∷ cs) c h g = (h.0, quiet_more cs c h.1 g)

  pub quiet_both : (cs ds : List (Command K)) → AllQuiet cs → AllQuiet ds → AllQuiet (cs ++ ds)
  quiet_both [] ds h g = g
  quiet_both (c ∷ cs) ds h g = (h.0, quiet_both cs ds h.1 g)

  -- a program that only looks, makes cells and keeps hooks, and whose answer is such
  abbrev Looks : {A : Type 0} → (A → Type 0) → Program K A → Type 0
  Looks Q (done a) = Q a
  Looks Q (current_scope f) = (s : ℕ) → Looks Q (f s)
  Looks Q (read c f) = (v : Option K.Value) → Looks Q (f v)
  Looks Q (new_cell v f) = (o : Option ℕ) → Looks Q (f o)
  Looks Q (hook_is_new f) = (b : Bool) → Looks Q (f b)
  Looks Q (use_hook k v f) = (o : Option K.Value) → Looks Q (f o)
  Looks Q _ = ⊥

  -- a body that has asked for nothing else
  abbrev Spares : Call K → Type 0
  Spares c = AllQuiet c.commands × (c.into ≡ []) × (c.in_body ≡ true)

  abbrev Meant : {A : Type 0} → (A → Type 0) → Meaning K A → Type 0
  Meant Q m = AllQuiet m.commands × Q m.answer

  noted_in : (c : Call K) (x : Source) → Spares c → Spares (noted c x)
  noted_in c x h =
      let is : noted c x ≡ record c { reads = x ∷ c.reads } = λ i. noted_at c x (h.1 i) (h.2 i) in
      subst (λ (d : Call K). Spares d) (sym is) (h.0, h.1, h.2)

  hook_in : (w : World K) (c : Call K) (k : ℕ) (new : Hook K) (o : Option (Hook K)) → Spares c → Spares (hooked w c k new o)
  hook_in w c k new None h = (quiet_more c.commands (KeepHook new) h.0 tt, h.1, h.2)
  hook_in w c k new (Some old) h = on (nat_eq (kind_of old) k)
    where
      on : (b : Bool) → Spares (if b then past_hook c else past_hook (faults c (OtherHook w.given.scope c.index (kind_of old) k)))
      on true = h
      on false = h

  of_two : {A : Type 0} (Q : A → Type 0) (b : Bool) (x y : Meaning K A) → Meant Q x → Meant Q y → Meant Q (if b then x else y)
  of_two Q true x y h g = h
  of_two Q false x y h g = g

  exec_means : {A : Type 0} (Q : A → Type 0) (w : World K) (p : Program K A) (c : Call K) → Looks Q p → Spares c → Meant Q (exec w p c)
  exec_means Q w (done a) c h g = (g.0, h)
  exec_means Q w (current_scope f) c h g = exec_means Q w (f w.given.scope) c (h w.given.scope) g
  exec_means Q w (read m f) c h g =
      of_two Q (nat_lt m c.next.cells) (exec w (f (value_in w (at c.cells m) m)) (noted c (Cell m))) (exec w (f None) c)
      (exec_means Q w (f (value_in w (at c.cells m) m)) (noted c (Cell m)) (h (value_in w (at c.cells m) m)) (noted_in c (Cell m) g))
      (exec_means Q w (f None) c (h None) g)
  exec_means Q w (new_cell v f) c h g =
      of_two Q (at_end c.next.cells) (exec w (f None) (faults c (CounterAtEnd Cells))) (exec w (f (Some c.next.cells)) (drew_cell c v))
      (exec_means Q w (f None) (faults c (CounterAtEnd Cells)) (h None) g)
      (exec_means Q w (f (Some c.next.cells)) (drew_cell c v) (h (Some c.next.cells)) (quiet_more c.commands (NewCell c.next.cells v) g.0 tt, g.1, g.2))
  exec_means Q w (hook_is_new f) c h g = exec_means Q w (f (nat_le (length w.given.hooks) c.index)) c (h (nat_le (length w.given.hooks) c.index)) g
  exec_means Q w (use_hook k v f) c h g =
      let o : Option (Hook K) = nth w.given.hooks c.index in
      exec_means Q w (f (hook_value k v o)) (hooked w c k (HookValue k v) o) (h (hook_value k v o)) (hook_in w c k (HookValue k v) o g)
  exec_means Q w p c h g = absurd h

  looks_on : {A B : Type 0} (Q : B → Type 0) (p : Program K A) (f : A → Program K B) → Looks (λ a. Unit {0}) p → ((a : A) → Looks Q (f a)) → Looks Q (go_on p f)
  unfolding go_on
  looks_on Q (done a) f h g = g a
  looks_on Q (current_scope q) f h g = λ s. looks_on Q (q s) f (h s) g
  looks_on Q (read m q) f h g = λ v. looks_on Q (q v) f (h v) g
  looks_on Q (new_cell v q) f h g = λ o. looks_on Q (q o) f (h o) g
  looks_on Q (hook_is_new q) f h g = λ b. looks_on Q (q b) f (h b) g
  looks_on Q (use_hook k v q) f h g = λ o. looks_on Q (q o) f (h o) g
  looks_on Q p f h g = absurd h

  more_looks : (others : Program K (Option (List ℕ))) → Looks (λ o. Unit {0}) others → (o : Option ℕ) → Looks (λ o. Unit {0}) (and_more others o)
  more_looks others h None = tt
  more_looks others h (Some m) = looks_on (λ o. Unit {0}) others (λ o. done (one_more m o)) h (λ o. tt)

  page_looks : (may : K.Component → Type 0) (k : Keeping K.Value) (page : Page K) → ((s : ℕ) (own : List ℕ) (values : List (Option K.Value)) → SafeTree may (page.shows s own values)) → Looks (λ e. SafeAnswer may e) (page_body k page)
  page_looks may k page safe = looks_on (λ e. SafeAnswer may e) (own_cells k page.cells) (λ own. shown page own) (cells_look page.cells) shows
    where
      made : (o : Option ℕ) → Looks (λ o. Unit {0}) (made_cell {K = K} k o)
      made None = tt
      made (Some m) = λ o. tt

      cell_looks : (v : K.Value) (b : Bool) → Looks (λ o. Unit {0}) (first_or_kept {K = K} k v b)
      cell_looks v true = λ o. made o
      cell_looks v false = λ o. tt

      cells_look : (vs : List K.Value) → Looks (λ o. Unit {0}) (own_cells {K = K} k vs)
      cells_look [] = tt
      cells_look (v ∷ vs) = looks_on (λ o. Unit {0}) (own_cell k v) (λ o. and_more (own_cells k vs) o) (λ b. cell_looks v b) (λ o. more_looks (own_cells k vs) (cells_look vs) o)

      reads_look : (ns : List ℕ) → Looks (λ vs. Unit {0}) (all_read {K = K} ns)
      reads_look [] = tt
      reads_look (m ∷ ns) = λ v. looks_on (λ vs. Unit {0}) (all_read ns) (λ vs. done (v ∷ vs)) (reads_look ns) (λ vs. tt)

      shows : (o : Option (List ℕ)) → Looks (λ e. SafeAnswer may e) (shown page o)
      shows None = (tt, tt)
      shows (Some own) = looks_on (λ e. SafeAnswer may e) (all_read (page.reads own)) (λ vs. current_scope (λ s. done (rendered (page.shows s own vs)))) (reads_look (page.reads own)) (λ vs s. safe s own vs)

  -- the body of a page in which nothing fails
  pub page_means : (may : K.Component → Type 0) (k : Keeping K.Value) (a : Pages K) → PagesSafe may a → (c : K.Component) (p : K.Props) (w : World K)
      → AllQuiet ((meaning_of_pages k a).body c p w).commands × SafeAnswer may ((meaning_of_pages k a).body c p w).answer
  page_means may k a safe c p w =
      exec_means (λ e. SafeAnswer may e) w (page_body k (a.page c p)) (begun true w.given.next) (page_looks may k (a.page c p) (λ s own values. safe c p s own values)) (tt, refl, refl)
