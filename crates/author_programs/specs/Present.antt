-- What a scope of a page shows while it is current: its page's function of the present values of cells.
use Rattle.std.specs.Prelude.{ℕ, List, map, length, nat_lt, Option, Some, None, if◌then◌else◌, ◌≡◌}
use Rattle.rt_model.specs.Current.{AllCurrent}
use Rattle.rt_model.specs.Lists.{at}
use Rattle.rt_model.specs.State.{State, Scope, LastCall, values_of}
use Rattle.rt_model.specs.Tree.{Types, Own}
use Rattle.author_programs.specs.Cells.{Keeping}
use Rattle.author_programs.specs.Pages.{Pages, meaning_of_pages}
use Rattle.author_programs.specs.Shows.{KeepAll}

-- the present value of a cell that was drawn before a scope's last call, none of any other
abbrev pub value_now : {K : Types} → State K → LastCall K → ℕ → Option K.Value
value_now w last n = if nat_lt n last.given.given.next.cells then (values_of w).cell n else None

-- of every scope whose hooks kept the cells of its page at its last call: it shows what the page's function gives of the present values
abbrev pub PagesShow : {K : Types} → Keeping K.Value → Pages K → State K → Type 0
PagesShow {K = K} k a w =
    (s : ℕ) (x : Scope K) (last : LastCall K) (c : K.Component) (p : K.Props) (own : List ℕ)
    → at w.scopes s ≡ Some x
    → at w.last_calls s ≡ Some last
    → x.component ≡ Own c p
    → KeepAll k last.given.given.hooks 0 own
    → length (a.page c p).cells ≡ length own
    → x.main_side.output ≡ Some ((a.page c p).shows last.given.given.scope own (map (value_now w last) ((a.page c p).reads own)))

-- so it is wherever every output is current
abbrev pub CurrentPagesShow : Types → Type 0
CurrentPagesShow K = (k : Keeping K.Value) (a : Pages K) (w : State K) → AllCurrent (meaning_of_pages k a) w → PagesShow k a w
