-- The small applications of the worked rows obey the laws.
use Rattle.std.proofs.Common.{true, List, ◌≡◌, refl, ap, nat_eq}
use Rattle.std.proofs.lemmas.Bool.{eqb-true}
use Rattle.rt_model.specs.Lists.{same_numbers}
use Rattle.rt_model.specs.Program.{body_means}
use Rattle.rt_model.specs.Small.{Val, Num, Str, same_val, Name, Main, Mid, Kid, Load, same_name, Doing, Nought, Rouse, Put, Add, More, Give, Forgive, same_doing, R, app_of, SmallAreLawful}
use Rattle.rt_model.proofs.Maps.{eq_same}
use Rattle.rt_model.proofs.Conjunctions.{and-left, and-right}
use Rattle.rt_model.proofs.SameTrees.{both, numbers, list_tests}
use Rattle.rt_model.proofs.Lawful.{mean_alike, programs_are_lawful}

val-true : (a b : Val) → same_val a b ≡ true → a ≡ b
val-true (Num a) (Num b) h = ap Num (eqb-true a b h)
val-true (Str t) (Str u) h = ap Str (numbers.0 t u h)
val-true _ _ h = cc

val-same : (a : Val) → same_val a a ≡ true
val-same (Num a) = eq_same a
val-same (Str t) = numbers.1 t

name-true : (a b : Name) → same_name a b ≡ true → a ≡ b
name-true Main Main h = refl
name-true Mid Mid h = refl
name-true Kid Kid h = refl
name-true Load Load h = refl
name-true _ _ h = cc

name-same : (a : Name) → same_name a a ≡ true
name-same Main = refl
name-same Mid = refl
name-same Kid = refl
name-same Load = refl

doing-true : (a b : Doing) → same_doing a b ≡ true → a ≡ b
doing-true Nought Nought h = refl
doing-true (Rouse t) (Rouse u) h = ap Rouse (eqb-true t u h)
doing-true (Put c v) (Put d u) h =
    let cell : c ≡ d = eqb-true c d (and-left _ (same_val v u) h) in
    let value : v ≡ u = val-true v u (and-right (nat_eq c d) _ h) in
    λ i. Put (cell i) (value i)
doing-true (Add c t) (Add d u) h =
    let cell : c ≡ d = eqb-true c d (and-left _ (same_numbers t u) h) in
    let text : t ≡ u = numbers.0 t u (and-right (nat_eq c d) _ h) in
    λ i. Add (cell i) (text i)
doing-true (More c) (More d) h = ap More (eqb-true c d h)
doing-true (Give k v) (Give j u) h =
    let kind : k ≡ j = eqb-true k j (and-left _ (same_val v u) h) in
    let value : v ≡ u = val-true v u (and-right (nat_eq k j) _ h) in
    λ i. Give (kind i) (value i)
doing-true Forgive Forgive h = refl
doing-true _ _ h = cc

doing-same : (a : Doing) → same_doing a a ≡ true
doing-same Nought = refl
doing-same (Rouse t) = eq_same t
doing-same (Put c v) = both (eq_same c) (val-same v)
doing-same (Add c t) = both (eq_same c) (numbers.1 t)
doing-same (More c) = eq_same c
doing-same (Give k v) = both (eq_same k) (val-same v)
doing-same Forgive = refl

-- lawful with any bodies and polls
pub small_are_lawful : SmallAreLawful
small_are_lawful body poll =
    let values = list_tests same_val (val-true, val-same) in
    programs_are_lawful R (record (app_of body) { poll = poll })
    (λ c p q h w. mean_alike (body_means (body c p) w) (body_means (body c q) w) (ap (λ (props : List Val). body_means (body c props) w) (values.0 p q h)))
    (name-true, name-same)
    values
    (val-true, val-same)
    (doing-true, doing-same)
