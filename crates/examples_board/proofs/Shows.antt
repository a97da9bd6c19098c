-- What the news answer where their clean-up stands and someone has tried again.
use Rattle.std.proofs.Common.{ℕ, suc, Bool, true, false, nat_eq, nat_lt, ◌≡◌, ◌∙◌, ap, arith}
use Rattle.std.proofs.lemmas.Bool.Decides.{nat_tests}
use Rattle.std.specs.Prelude.{Option, Some, None, codes, if◌then◌else◌}
use Rattle.rt_author.specs.Words.{Element, clean_up_kind, rendered, tree_of}
use Rattle.rt_author.specs.Lists.{at}
use Rattle.rt_author.specs.Program.{Call, exec, faults, hook_stands, hooked, kind_of, noted, past_hook, says, value_in}
use Rattle.rt_author.specs.Sequence.{go_on}
use Rattle.rt_author.specs.World.{Cell, Hook, HookEffect, KeepHook, OtherHook, World}
use Rattle.examples_board.specs.Meaning.{BoardTypes, arrived, line, news_in, refused, stood, told}
use Rattle.examples_board.specs.declared.parts.Cells.{Cells}

-- the answer
abbrev pub shown_news : Element BoardTypes
shown_news = rendered (tree_of (line (codes "news")))

-- one more than some isn't none
some_more : (n : ℕ) → nat_eq (suc n) 0 ≡ false
some_more n = grind (arith, nat_tests)

module _ (v : World BoardTypes) (cells : Cells) (n : ℕ) where
  -- the cell of tries is read, and the news are answered
  answered : (c : Call BoardTypes)
      → nat_lt cells.tries c.next.cells ≡ true
      → value_in v (at c.cells cells.tries) cells.tries ≡ Some (suc n)
      → (exec v (news_in cells (stood true)) c).answer ≡ shown_news
  unfolding go_on
  answered c drawn has =
      let read = noted c (Cell cells.tries) in
      let tries = value_in v (at c.cells cells.tries) cells.tries in
      ap (λ (b : Bool). (if b then exec v (told cells.log tries) read else exec v (told cells.log None) c).answer) drawn
      ∙ ap (λ (o : Option ℕ). (exec v (told cells.log o) read).answer) has
      ∙ ap (λ (b : Bool). (exec v (if b then refused else arrived cells.log) read).answer) (some_more n)

  -- so it is where a hook of the kind stands
  by_kind : (b : Bool) (c d : Call BoardTypes)
      → b ≡ true
      → nat_lt cells.tries c.next.cells ≡ true
      → value_in v (at c.cells cells.tries) cells.tries ≡ Some (suc n)
      → (exec v (news_in cells (stood b)) (if b then past_hook c else d)).answer ≡ shown_news
  by_kind true c d stands drawn has = answered (past_hook c) drawn has
  by_kind false c d stands drawn has = cc

  -- and where none stands there yet
  pub by_hook : (o : Option (Hook BoardTypes)) (c : Call BoardTypes)
      → hook_stands clean_up_kind o ≡ true
      → nat_lt cells.tries c.next.cells ≡ true
      → value_in v (at c.cells cells.tries) cells.tries ≡ Some (suc n)
      → (exec v (news_in cells (stood (hook_stands clean_up_kind o)))
      (hooked v c clean_up_kind (HookEffect clean_up_kind cells.log) o)).answer
      ≡ shown_news
  by_hook None c stands drawn has = answered (past_hook (says c (KeepHook (HookEffect clean_up_kind cells.log)))) drawn has
  by_hook (Some h) c stands drawn has =
      by_kind (nat_eq (kind_of h) clean_up_kind) c (past_hook (faults c (OtherHook v.given.scope c.index (kind_of h) clean_up_kind)))
      stands drawn has
