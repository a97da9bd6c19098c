-- What is said of an answer, and what follows.
use Rattle.std.proofs.Common.{Result, Ok, Err}
use Rattle.std.specs.Prelude.{OnOk, IfOk, IfErr}

-- what is said where it was done, and what follows
pub on_ok : {A E : Type 0} {X Y : Type 0} (result : Result A E) → OnOk result X → (X → Y) → OnOk result Y
on_ok (Ok a) h f = f h
on_ok (Err e) h f = tt

-- what is said of an answer, and what follows
pub if_ok : {A E : Type 0} {X Y : A → Type 0} (result : Result A E) → IfOk result X → ((a : A) → X a → Y a) → IfOk result Y
if_ok (Ok a) h f = f a h
if_ok (Err e) h f = tt

-- what is said of why it wasn't done, and what follows
pub if_err : {A E : Type 0} {X Y : E → Type 0} (result : Result A E) → IfErr result X → ((e : E) → X e → Y e) → IfErr result Y
if_err (Ok a) h f = tt
if_err (Err e) h f = f e h

-- and of what was done beside it
pub if_ok_and : {A E : Type 0} {X Y : A → Type 0} {Z : Type 0} (result : Result A E) → IfOk result X → OnOk result Z → ((a : A) → X a → Z → Y a) → IfOk result Y
if_ok_and (Ok a) h k f = f a h k
if_ok_and (Err e) h k f = tt
