-- The number whose decimal digits a text is.
use Rattle.std.proofs.Common.{ℕ, Bool, true, false, List, ◌++◌, ◌≡◌, sym, ap, ◌∙◌, Ok, Err, bytes_eq}
use Rattle.std.specs.Prelude.{decimal, Option, Some, None, Result, IfOk}
use Rattle.std.specs.Str.Parse.{ParsesUnsigned}
use Rattle.std.proofs.lemmas.Fmt.{parse-decimal}
use Rattle.std.proofs.lemmas.List.{append_cancel_left}
use Rattle.std.proofs.lemmas.Slice.Eq.{bytes_eq-Decides}
use Rattle.show_logs.specs.Reading.{ReadsNumber, ReadsNumbered}

-- what isn't read as a number has the digits of none
pub unread : {E : Type 0} (bs : List ℕ) (r : Result ℕ E) → ((n : ℕ) → r ≡ Ok n → ⊥) → ParsesUnsigned 64 10 bs r → ReadsNumber bs None
unread bs r none h n small is = none n (parse-decimal 64 n bs r small small is h)

-- what is read as another number, neither
pub misread : {E : Type 0} (bs : List ℕ) (m : ℕ) (r : Result ℕ E) (same : Bool) → r ≡ Ok m → ParsesUnsigned 64 10 bs r
    → same ≡ bytes_eq (decimal m) bs
    → same ≡ false
    → ReadsNumber bs None
misread bs m r same found h is other n small digits =
    let read : Ok m ≡ Ok n = sym found ∙ parse-decimal 64 n bs r small small digits h in
    let number : m ≡ n = cc in
    let equal : bytes_eq (decimal m) bs ≡ true = (bytes_eq-Decides (decimal m) bs).1 (ap decimal number ∙ sym digits) in
    let wrong : false ≡ true = sym other ∙ is ∙ equal in
    cc

-- and what is printed as it stands is that number
pub printed : (bs : List ℕ) (m : ℕ) (same : Bool) → same ≡ bytes_eq (decimal m) bs → same ≡ true → bs ≡ decimal m
printed bs m same is holds = sym ((bytes_eq-Decides (decimal m) bs).0 (sym is ∙ holds))

-- behind a name it is that of what stands there
pub numbered_on : {X : Type 0} (word name digits : List ℕ) (answer : Result (Option ℕ) X) → word ≡ name ++ digits
    → IfOk answer (ReadsNumber digits)
    → IfOk answer (ReadsNumbered word name)
numbered_on word name digits (Ok (Some n)) is h = (is ∙ ap (λ (l : List ℕ). name ++ l) h.0, h.1)
numbered_on word name digits (Ok None) is h = λ n small other. h n small (append_cancel_left name digits (decimal n) (sym is ∙ other))
numbered_on word name digits (Err x) is h = tt
