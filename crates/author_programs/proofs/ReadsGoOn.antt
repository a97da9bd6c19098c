-- A program goes on with what it reads.
use Rattle.std.proofs.Common.{ℕ, Bool, true, false, ◌≡◌, refl, cond}
use Rattle.std.specs.Prelude.{nat_lt, Option, None}
use Rattle.rt_model.specs.Lists.{at}
use Rattle.rt_model.specs.Program as program
use Rattle.rt_model.specs.Program.{Program, Call, exec, noted, value_in}
use Rattle.rt_model.specs.Tree.{Types}
use Rattle.rt_model.specs.World.{World, Cell}
use Rattle.author_programs.specs.Reads.{read_value, read_call}

module _ {K : Types} {A : Type 0} where
  either : (w : World K) (b : Bool) (f : Option K.Value → Program K A) (v : Option K.Value) (c d : Call K)
      → cond b (exec w (f v) d) (exec w (f None) c) ≡ exec w (f (cond b v None)) (cond b d c)
  either w true f v c d = refl
  either w false f v c d = refl

  pub read-goes-on : (w : World K) (c : Call K) (n : ℕ) (f : Option K.Value → Program K A)
      → exec w (program.read n f) c ≡ exec w (f (read_value w c n)) (read_call c n)
  read-goes-on w c n f = either w (nat_lt n c.next.cells) f (value_in w (at c.cells n) n) c (noted c (Cell n))
