-- A component whose scope's hooks keep all its cells comes to what a page does whose own cells these are.
use Rattle.std.proofs.Common.{ℕ, suc, Bool, true, false, List, [], ◌∷◌, ◌++◌, ◌≡◌, refl, sym, ap, subst, ◌∙◌, map, length, nat_eq, nat_le, ◌+◌, append-nil, append_assoc}
use Rattle.std.specs.Prelude.{Option, Some, if◌then◌else◌, option_and_then}
use Rattle.rt_model.specs.Lists.{nth}
use Rattle.rt_model.specs.Program as program
use Rattle.rt_model.specs.Program.{Program, done, Call, past_hook, hook_value, hooked, begun, body_means}
use Rattle.rt_model.specs.Tree.{Types, Element}
use Rattle.rt_model.specs.World.{World, Hook, HookValue, OtherHook}
use Rattle.rt_model.proofs.Maps.{eq_same}
use Rattle.author_programs.specs.Came.{Came, came, reached}
use Rattle.author_programs.specs.Cells.{Keeping, own_cell, kept_cell, first_or_kept}
use Rattle.author_programs.specs.Pages.{Page, own_cells, and_more, one_more, shown, page_body}
use Rattle.author_programs.specs.Shows.{IsKept, KeepAll}
use Rattle.author_programs.proofs.Goes.{exec-came, told_by}
use Rattle.author_programs.proofs.Shows.{after_hooks, within as old, same-kind as same_kind}
use Rattle.author_programs.proofs.Steps.{on, at_done, at_hook_is_new, at_use_hook}
use Rattle.author_formulas.specs.Memos.{MemoTask, own_memo, first_or_kept_memo}
use Rattle.author_derived.specs.Derived.{Derivations, derived_behind, all_cells, derived_body}
use Rattle.author_derived.proofs.Gathered.{cells_on, derived_more}

fewer : (m n : ℕ) → suc m ≡ suc n → m ≡ n
fewer m n e = cc

module _ {K : Types} (k : Keeping K.Value) (w : World K) where
  passed : (c : Call K) (kind : ℕ) (new : Hook K) (value : K.Value) → hooked w c kind new (Some (HookValue kind value)) ≡ past_hook c
  passed c kind new value = ap (λ (b : Bool). if b then past_hook c else past_hook (program.faults c (OtherHook w.given.scope c.index kind kind))) (eq_same kind)

  -- the hook gives the number that it keeps
  kept_here : (c : Call K) (n : ℕ) → IsKept k (nth w.given.hooks c.index) n → came w (kept_cell k 0) c ≡ reached (Some n) (past_hook c)
  kept_here c n h =
      at_use_hook w k.kind (k.keeps 0) (λ o. done (option_and_then k.kept o)) c
      ∙ ap (λ (o : Option (Hook K)). came w (done (option_and_then k.kept (hook_value k.kind (k.keeps 0) o))) (hooked w c k.kind (HookValue k.kind (k.keeps 0)) o)) h.is
      ∙ ap (λ (o : Option K.Value). came w (done (option_and_then k.kept o)) (hooked w c k.kind (HookValue k.kind (k.keeps 0)) (Some (HookValue k.kind h.value)))) (same_kind K k.kind (k.keeps 0) h.value)
      ∙ ap (λ (d : Call K). came w (done (k.kept h.value)) d) (passed c k.kind (HookValue k.kind (k.keeps 0)) h.value)
      ∙ ap (λ (o : Option ℕ). came w (done o) (past_hook c)) h.keeps
      ∙ at_done w (Some n) (past_hook c)

  stands : (c : Call K) (n : ℕ) → IsKept k (nth w.given.hooks c.index) n → nat_le (length w.given.hooks) c.index ≡ false
  stands c n h = old w.given.hooks c.index (HookValue k.kind h.value) h.is

  -- so it is found again: a cell of the scope's own
  cell_kept : (c : Call K) (first : K.Value) (n : ℕ) → IsKept k (nth w.given.hooks c.index) n → came w (own_cell k first) c ≡ reached (Some n) (past_hook c)
  cell_kept c first n h =
      at_hook_is_new w (λ is_new. first_or_kept k first is_new) c
      ∙ ap (λ (b : Bool). came w (first_or_kept k first b) c) (stands c n h)
      ∙ kept_here c n h

  -- all of these
  cells_kept : (c : Call K) (vs : List K.Value) (ns : List ℕ) → KeepAll k w.given.hooks c.index ns → length vs ≡ length ns
      → came w (own_cells k vs) c ≡ reached (Some ns) (after_hooks c ns)
  cells_kept c [] [] h same = at_done w (Some []) c
  cells_kept c [] (n ∷ ns) h same = cc
  cells_kept c (v ∷ vs) [] h same = cc
  cells_kept c (v ∷ vs) (n ∷ ns) h same =
      on w (own_cell k v) (λ o. and_more (own_cells k vs) o) c
      ∙ ap (λ (x : Came K (Option ℕ)). came w (and_more (own_cells k vs) x.answer) x.call) (cell_kept c v n h.0)
      ∙ on w (own_cells k vs) (λ o. done (one_more n o)) (past_hook c)
      ∙ ap (λ (x : Came K (Option (List ℕ))). came w (done (one_more n x.answer)) x.call) (cells_kept (past_hook c) vs ns h.1 (fewer (length vs) (length ns) same))
      ∙ at_done w (Some (n ∷ ns)) (after_hooks (past_hook c) ns)

  -- the hooks behind those of the first cells keep the others
  keep_first : (c : Call K) (ns ms : List ℕ) → KeepAll k w.given.hooks c.index (ns ++ ms) → KeepAll k w.given.hooks c.index ns
  keep_first c [] ms h = tt
  keep_first c (n ∷ ns) ms h = (h.0, keep_first (past_hook c) ns ms h.1)

  keep_rest : (c : Call K) (ns ms : List ℕ) → KeepAll k w.given.hooks c.index (ns ++ ms) → KeepAll k w.given.hooks (after_hooks c ns).index ms
  keep_rest c [] ms h = h
  keep_rest c (n ∷ ns) ms h = keep_rest (past_hook c) ns ms h.1

  module _ {F : Type 0} (state : MemoTask K.Value F → K.TaskState) (empty : K.Value) where
    -- and a derived one
    memo_kept : (c : Call K) (f : F) (n : ℕ) → IsKept k (nth w.given.hooks c.index) n → came w (own_memo k state empty f false) c ≡ reached (Some n) (past_hook c)
    memo_kept c f n h =
        at_hook_is_new w (λ is_new. first_or_kept_memo k state empty f false is_new) c
        ∙ ap (λ (b : Bool). came w (first_or_kept_memo k state empty f false b) c) (stands c n h)
        ∙ kept_here c n h

    behind_kept : (c : Call K) (fs : List F) (all ms : List ℕ) → KeepAll k w.given.hooks c.index ms → length fs ≡ length ms
        → came w (derived_behind k state empty fs all) c ≡ reached (Some (all ++ ms)) (after_hooks c ms)
    behind_kept c [] all [] h same = at_done w (Some all) c ∙ ap (λ ns. reached (Some ns) c) (sym (append-nil all))
    behind_kept c [] all (m ∷ ms) h same = cc
    behind_kept c (f ∷ fs) all [] h same = cc
    behind_kept c (f ∷ fs) all (m ∷ ms) h same =
        derived_more w k state c (past_hook c) empty f fs all (all ++ m ∷ []) m (memo_kept c f m h.0) refl
        ∙ behind_kept (past_hook c) fs (all ++ m ∷ []) ms h.1 (fewer (length fs) (length ms) same)
        ∙ ap (λ ns. reached (Some ns) (after_hooks (past_hook c) ms)) (append_assoc all (m ∷ []) ms)

both_hooks : {K : Types} (c : Call K) (ns ms : List ℕ) → after_hooks c (ns ++ ms) ≡ after_hooks (after_hooks c ns) ms
both_hooks c [] ms = refl
both_hooks c (n ∷ ns) ms = both_hooks (past_hook c) ns ms

-- so many of one value
pub fillers : {V : Type 0} → V → List ℕ → List V
fillers v [] = []
fillers v (n ∷ ns) = v ∷ fillers v ns

filled : {V : Type 0} (v : V) (vs : List V) (ns ms : List ℕ) → length vs ≡ length ns → length (vs ++ fillers v ms) ≡ length (ns ++ ms)
unfolding fillers
filled v [] [] [] h = refl
filled v [] [] (m ∷ ms) h = ap suc (filled v [] [] ms h)
filled v [] (n ∷ ns) ms h = cc
filled v (u ∷ vs) [] ms h = cc
filled v (u ∷ vs) (n ∷ ns) ms h = ap suc (filled v vs ns ms (fewer (length vs) (length ns) h))

module _ {K : Types} {F : Type 0} (k : Keeping K.Value) (state : MemoTask K.Value F → K.TaskState) (a : Derivations K F) (b : K.Component) (p : K.Props) where
  -- the page that keeps the derived cells as its own
  abbrev pub whole : List ℕ → Page K
  whole behind = record ((a.pages).page b p) { cells = ((a.pages).page b p).cells ++ fillers a.empty behind }

  pub whole_length : (own behind : List ℕ) → length ((a.pages).page b p).cells ≡ length own → length (whole behind).cells ≡ length (own ++ behind)
  whole_length own behind same = filled a.empty ((a.pages).page b p).cells own behind same

  module _ (w : World K) (own behind : List ℕ)
      (kept : KeepAll k w.given.hooks 0 (own ++ behind))
      (cells : length ((a.pages).page b p).cells ≡ length own) (derived : length (a.derived b p own) ≡ length behind) where
    abbrev start : Call K
    start = begun true w.given.next

    abbrev end : Call K
    end = after_hooks start (own ++ behind)

    -- both show what the page does of all cells
    by_page : came w (page_body k (whole behind)) start ≡ came w (shown (whole behind) (Some (own ++ behind))) end
    by_page =
        on w (own_cells k (whole behind).cells) (λ o. shown (whole behind) o) start
        ∙ ap (λ (x : Came K (Option (List ℕ))). came w (shown (whole behind) x.answer) x.call)
        (cells_kept k w start (whole behind).cells (own ++ behind) kept (whole_length own behind cells))

    by_derived : came w (derived_body k state a b p) start ≡ came w (shown (whole behind) (Some (own ++ behind))) end
    by_derived =
        let middle : Call K = after_hooks start own in
        let firsts = ((a.pages).page b p).cells in
        on w (all_cells k state a b p) (λ o. shown ((a.pages).page b p) o) start
        ∙ ap (λ (x : Came K (Option (List ℕ))). came w (shown ((a.pages).page b p) x.answer) x.call)
        (cells_on w k state a b p start middle end firsts own (a.derived b p own) (Some (own ++ behind)) refl
        (cells_kept k w start firsts own (keep_first k w start own behind kept) cells) refl
        (behind_kept k w state a.empty middle (a.derived b p own) own behind (keep_rest k w start own behind kept) derived
        ∙ ap (λ (d : Call K). reached (Some (own ++ behind)) d) (sym (both_hooks start own behind))))

    -- so both mean the same
    pub means_whole : body_means (derived_body k state a b p) w ≡ body_means (page_body k (whole behind)) w
    means_whole =
        exec-came w (derived_body k state a b p) start
        ∙ ap (λ (x : Came K (Element K)). told_by x) (by_derived ∙ sym by_page)
        ∙ sym (exec-came w (page_body k (whole behind)) start)
