-- What is counted: contexts, tasks, or cells. Who makes one draws the next number.
use Rattle.std.proofs.Common.{ℕ, ◌+◌, ◌≤◌, List, [], ◌∷◌, arith}
use Rattle.std.specs.Prelude.{flat_map}
use Rattle.std.specs.List.{AllByRecursion}
use Rattle.rt_model.specs.Laws.{CountUp, IsNumbered, new_context, new_task, new_cell}
use Rattle.rt_model.specs.Lasting.{Rises}
use Rattle.rt_model.specs.Tree.{Types}
use Rattle.rt_model.specs.World.{Firsts, Command, NewCell, NewContext, Spawn}

-- a kind of things with numbers of their own
pub record Counting (K : Types) : Type 1 where
  -- the next number
  pub count : Firsts → ℕ
  -- what a command makes of them has a number below a bound
  pub Low : ℕ → Command K → Type 0
  pub rises : (f g : Firsts) → Rises f g → count f ≤ count g
  pub numbered : (bound : ℕ) (f : Firsts) (cs : List (Command K)) (g : Firsts) → IsNumbered f cs g → count g ≤ bound → AllByRecursion (λ (c : Command K). Low bound c) cs

count_high : (c d : ℕ) (ns : List ℕ) → CountUp c ns d → c ≤ d
count_high c d [] h = omega (arith, h)
count_high c d (n ∷ ns) h = let more : c + 1 ≤ d = count_high (c + 1) d ns h.1 in omega (arith, more)

module _ {K : Types} (bound : ℕ) where
  -- a context that a command makes has a number below the bound
  abbrev pub LowContext : Command K → Type 0
  LowContext (NewContext n target) = n + 1 ≤ bound
  LowContext _ = Unit {0}

  -- and so has a task
  abbrev pub LowTask : Command K → Type 0
  LowTask (Spawn t a forever isomorphic) = t + 1 ≤ bound
  LowTask _ = Unit {0}

  -- and so has a cell
  abbrev pub LowCell : Command K → Type 0
  LowCell (NewCell n v) = n + 1 ≤ bound
  LowCell _ = Unit {0}

  pub contexts_low : (c d : ℕ) (cs : List (Command K)) → CountUp c (flat_map new_context cs) d → d ≤ bound → AllByRecursion (λ (x : Command K). LowContext x) cs
  contexts_low c d [] h l = tt
  contexts_low c d (NewContext n target ∷ cs) h l =
      let more : c + 1 ≤ d = count_high (c + 1) d (flat_map new_context cs) h.1 in
      let here : n + 1 ≤ bound = omega (arith, h.0, more, l) in
      (here, contexts_low (c + 1) d cs h.1 l)
  contexts_low c d (x ∷ cs) h l = (tt, contexts_low c d cs h l)

  pub tasks_low : (c d : ℕ) (cs : List (Command K)) → CountUp c (flat_map new_task cs) d → d ≤ bound → AllByRecursion (λ (x : Command K). LowTask x) cs
  tasks_low c d [] h l = tt
  tasks_low c d (Spawn t a forever isomorphic ∷ cs) h l =
      let more : c + 1 ≤ d = count_high (c + 1) d (flat_map new_task cs) h.1 in
      let here : t + 1 ≤ bound = omega (arith, h.0, more, l) in
      (here, tasks_low (c + 1) d cs h.1 l)
  tasks_low c d (x ∷ cs) h l = (tt, tasks_low c d cs h l)

  pub cells_low : (c d : ℕ) (cs : List (Command K)) → CountUp c (flat_map new_cell cs) d → d ≤ bound → AllByRecursion (λ (x : Command K). LowCell x) cs
  cells_low c d [] h l = tt
  cells_low c d (NewCell n v ∷ cs) h l =
      let more : c + 1 ≤ d = count_high (c + 1) d (flat_map new_cell cs) h.1 in
      let here : n + 1 ≤ bound = omega (arith, h.0, more, l) in
      (here, cells_low (c + 1) d cs h.1 l)
  cells_low c d (x ∷ cs) h l = (tt, cells_low c d cs h l)

abbrev pub contexts_count : {K : Types} → Counting K
contexts_count =
    record {
      count = λ f. f.contexts;
      Low = λ bound c. LowContext bound c;
      rises = λ f g h. h.contexts;
      numbered = λ bound f cs g n l. contexts_low bound f.contexts g.contexts cs n.contexts l;
    }

abbrev pub tasks_count : {K : Types} → Counting K
tasks_count =
    record {
      count = λ f. f.tasks;
      Low = λ bound c. LowTask bound c;
      rises = λ f g h. h.tasks;
      numbered = λ bound f cs g n l. tasks_low bound f.tasks g.tasks cs n.tasks l;
    }

abbrev pub cells_count : {K : Types} → Counting K
cells_count =
    record {
      count = λ f. f.cells;
      Low = λ bound c. LowCell bound c;
      rises = λ f g h. h.cells;
      numbered = λ bound f cs g n l. cells_low bound f.cells g.cells cs n.cells l;
    }
