-- What isn't mounted, as what says where scopes show comes, changes and goes.
use Rattle.std.proofs.Common.{◌≡◌, ◌&&◌, ℕ, ◌+◌, ◌<◌, ◌≤◌, true, false, cond, List, [], ◌∷◌, ◌++◌, get_or, nat_eq, refl, sym, ap, subst, ◌∙◌, arith}
use Rattle.std.proofs.lemmas.Bool.{eqb-true}
use Rattle.std.specs.BTreeMap.{is_at}
use Rattle.std.specs.List.{list_any}
use Rattle.std.specs.Prelude.{Option, Some, None, is_some, remove}
use Rattle.rt_model.specs.Lists.{at, has, put, without}
use Rattle.rt_model.proofs.Maps.{at_append_here, at_append_none, at_put_here, at_put_other, at_without_here, at_without_other, by_test, eq_same, none_some}
use Rattle.rt_model.proofs.Members.{clash, or_left}
use Rattle.run_owed.specs.Lists.{EachOnce, numbers_of}
use Rattle.run_owed.proofs.Once.{once_less, once_more}
use Rattle.run_owed.proofs.Tables.{numbers_has, numbers_more, numbers_put, numbers_without}
use Rattle.run_state.specs.Effects.{has_rank, rank_cmp}
use Rattle.run_state.specs.Mounts.{IsSeated, IsWaiting, Way, covers, hides}
use Rattle.run_state.proofs.Ranked.{rank_apart, rank_own}
use Rattle.run_state.proofs.Ways.{Keeps, hides_kept, keeps_none, keeps_same, keeps_some}
use Rattle.run_state.proofs.Covers.{covers_by, covers_kept, covers_still, has_end, has_left, has_more, one_found, pair_covers}

-- children are seated as they were where what stands stood with the same parent and with no child less
pub seats_kept : (ways new : List (ℕ × Way)) (bound : ℕ)
    → ((s t : ℕ) (x : Way) → at ways s ≡ Some x → has x.children t ≡ true → IsSeated ways bound s t)
    → ((s : ℕ) (y : Way) → at new s ≡ Some y → (x : Way) × (at ways s ≡ Some x) × (x.parent ≡ y.parent) × ((t : ℕ) → has y.children t ≡ true → has x.children t ≡ true))
    → (s t : ℕ) (y : Way) → at new s ≡ Some y → has y.children t ≡ true → IsSeated new bound s t
seats_kept ways new bound seated stood s t y there child =
    let own = stood s y there in
    let old = seated s t own.0 own.1 (own.3 t child) in
    (old.0, λ z on. let up = stood t z on in sym up.2 ∙ old.1 up.0 up.1)

-- a scope joins the others
module _ (ways new : List (ℕ × Way)) (fresh more : List ℕ) (hidden : List (ℕ × ℕ)) (bound next n : ℕ) (w : Way) (h : IsWaiting ways fresh hidden bound)
    (is : new ≡ ways ++ (n, w) ∷ []) (joined : more ≡ fresh ++ n ∷ []) (high : bound ≤ n) (past : next ≡ n + 1) (above : (p : ℕ) → w.parent ≡ Some p → p < n) (bare : w.children ≡ []) where
  nobody : at ways n ≡ None
  nobody = by (at ways n) refl
    where
      by : (o : Option Way) → at ways n ≡ o → at ways n ≡ None
      by None e = e
      by (Some x) e = absurd (omega (arith, (h.low n x e).0, high))

  stays_below : (s : ℕ) → nat_eq n s ≡ false → at new s ≡ at ways s
  stays_below s other = ap (λ (es : List (ℕ × Way)). at es s) is ∙ at_append_none ways n w s other

  comes : (s : ℕ) → nat_eq n s ≡ true → at new s ≡ Some w
  comes s own = ap (λ (es : List (ℕ × Way)). at es s) is ∙ at_append_here ways n w s own (ap (λ k. at ways k) (sym (eqb-true n s own)) ∙ nobody)

  low_other : (p : ℕ) → p < bound → nat_eq n p ≡ false
  low_other p low = by_test (nat_eq n p) (λ q. absurd (omega (arith, low, high, eqb-true n p q))) (λ q. q)

  low_more : (s : ℕ) (x : Way) → at new s ≡ Some x → (s < next) × ((p : ℕ) → x.parent ≡ Some p → p < next)
  low_more s x there =
      by_test (nat_eq n s)
      (
      λ own.
      let same : x ≡ w = one_found (at new s) x w there (comes s own) in
      let number : n ≡ s = eqb-true n s own in
      (omega (arith, number, past), λ p up. let small : p < n = above p (sym (ap (λ (z : Way). z.parent) same) ∙ up) in omega (arith, small, past))
      )
      (
      λ other.
      let old = h.low s x (sym (stays_below s other) ∙ there) in
      (omega (arith, old.0, high, past), λ p up. let small : p < bound = old.1 p up in omega (arith, small, high, past))
      )

  covered_more : (s : ℕ) (x : Way) → at new s ≡ Some x → x.mounted ≡ false → covers new more hidden x.height s ≡ true
  covered_more s x there unmounted =
      by_test (nat_eq n s)
      (
      λ own.
      or_left (has more s) (list_any (λ e. nat_eq e.1 s && hides new e.0 x.height s) hidden)
      (ap (λ (ks : List ℕ). has ks s) joined ∙ ap (λ k. has (fresh ++ k ∷ []) s) (eqb-true n s own) ∙ has_end fresh s)
      )
      (
      λ other.
      let old : at ways s ≡ Some x = sym (stays_below s other) ∙ there in
      covers_still ways new fresh more hidden x.height s
      (λ q. ap (λ (ks : List ℕ). has ks s) joined ∙ has_more fresh (n ∷ []) s q)
      (
      λ a q.
      hides_kept ways new a (λ p. p < bound) (λ p low. keeps_same (nat_eq p a) (at ways p) (at new p) (stays_below p (low_other p low))) (λ t p z e up. (h.low t z e).1 p up) x.height s
      (h.low s x old).0 q
      )
      (h.covered s x old unmounted)
      )

  seated_more : (s t : ℕ) (x : Way) → at new s ≡ Some x → has x.children t ≡ true → IsSeated new next s t
  seated_more s t x there child =
      by_test (nat_eq n s)
      (
      λ own.
      let same : x ≡ w = one_found (at new s) x w there (comes s own) in
      clash child (ap (λ (ks : List ℕ). has ks t) (ap (λ (z : Way). z.children) same ∙ bare))
      )
      (
      λ other.
      let old = h.seated s t x (sym (stays_below s other) ∙ there) child in
      (omega (arith, old.0, high, past), λ y on. old.1 y (sym (stays_below t (low_other t old.0)) ∙ on))
      )

  pub one_joins : IsWaiting new more hidden next
  one_joins = record {
    apart =
        subst (λ (es : List (ℕ × Way)). EachOnce (numbers_of es)) (sym is)
        (subst (λ (ks : List ℕ). EachOnce ks) (sym (numbers_more ways n w)) (once_more (numbers_of ways) n h.apart (numbers_has ways n ∙ ap (λ (o : Option Way). is_some o) nobody)));
    low = low_more;
    covered = covered_more;
    seated = seated_more;
  }

-- a scope goes
module _ (ways new : List (ℕ × Way)) (fresh less : List ℕ) (hidden fewer : List (ℕ × ℕ)) (bound n : ℕ) (h : IsWaiting ways fresh hidden bound)
    (is : new ≡ without ways n) (left : (ws : List (ℕ × Way)) (height s : ℕ) → nat_eq n s ≡ false → covers ws fresh hidden height s ≡ true → covers ws less fewer height s ≡ true) where
  goes : (s : ℕ) → nat_eq n s ≡ true → at new s ≡ None
  goes s own = ap (λ (es : List (ℕ × Way)). at es s) is ∙ at_without_here ways n s own

  stays_there : (s : ℕ) → nat_eq n s ≡ false → at new s ≡ at ways s
  stays_there s other = ap (λ (es : List (ℕ × Way)). at es s) is ∙ at_without_other ways n s other

  keeps_less : (a p : ℕ) → Keeps (nat_eq p a) (at ways p) (at new p)
  keeps_less a p =
      by_test (nat_eq n p)
      (λ own. keeps_none (nat_eq p a) (at ways p) (at new p) (goes p own))
      (λ other. keeps_same (nat_eq p a) (at ways p) (at new p) (stays_there p other))

  -- another scope
  old_one : (s : ℕ) (x : Way) → at new s ≡ Some x → nat_eq n s ≡ false
  old_one s x there = by_test (nat_eq n s) (λ own. none_some (goes s own) there) (λ q. q)

  covered_less : (s : ℕ) (x : Way) → at new s ≡ Some x → x.mounted ≡ false → covers new less fewer x.height s ≡ true
  covered_less s x there unmounted =
      let other : nat_eq n s ≡ false = old_one s x there in
      let whole : covers new fresh hidden x.height s ≡ true =
      covers_still ways new fresh fresh hidden x.height s (λ q. q) (λ a q. hides_kept ways new a (λ p. Unit {0}) (λ p i. keeps_less a p) (λ t p z e up. tt) x.height s tt q)
      (h.covered s x (sym (stays_there s other) ∙ there) unmounted) in
      left new x.height s other whole

  pub one_goes : IsWaiting new less fewer bound
  one_goes = record {
    apart =
        subst (λ (es : List (ℕ × Way)). EachOnce (numbers_of es)) (sym is)
        (subst (λ (ks : List ℕ). EachOnce ks) (sym (numbers_without ways n)) (once_less (numbers_of ways) n h.apart));
    low = λ s x there. h.low s x (sym (stays_there s (old_one s x there)) ∙ there);
    covered = covered_less;
    seated = λ s t x there child.
        let old = h.seated s t x (sym (stays_there s (old_one s x there)) ∙ there) child in
        (old.0, λ y on. old.1 y (sym (stays_there t (old_one t y on)) ∙ on));
  }

-- a fresh scope becomes mounted
module _ (ways new : List (ℕ × Way)) (fresh less : List ℕ) (hidden : List (ℕ × ℕ)) (bound n i : ℕ) (x : Way) (h : IsWaiting ways fresh hidden bound)
    (live : at ways n ≡ Some x) (is : new ≡ put ways n (record x { mounted = true })) (own : get_or fresh i 0 ≡ n) (taken : less ≡ remove fresh i) where
  now_mounted : (s : ℕ) → nat_eq n s ≡ true → at new s ≡ Some (record x { mounted = true })
  now_mounted s same = ap (λ (es : List (ℕ × Way)). at es s) is ∙ at_put_here ways n (record x { mounted = true }) s same

  still_there : (s : ℕ) → nat_eq n s ≡ false → at new s ≡ at ways s
  still_there s other = ap (λ (es : List (ℕ × Way)). at es s) is ∙ at_put_other ways n (record x { mounted = true }) s other

  keeps_mounted : (a p : ℕ) → Keeps (nat_eq p a) (at ways p) (at new p)
  keeps_mounted a p =
      by_test (nat_eq n p)
      (λ same. keeps_some (nat_eq p a) (at ways p) (at new p) x (record x { mounted = true }) (ap (λ k. at ways k) (sym (eqb-true n p same)) ∙ live) (now_mounted p same) refl refl (λ q. refl))
      (λ other. keeps_same (nat_eq p a) (at ways p) (at new p) (still_there p other))

  low_mounted : (s : ℕ) (y : Way) → at new s ≡ Some y → (s < bound) × ((p : ℕ) → y.parent ≡ Some p → p < bound)
  low_mounted s y there =
      by_test (nat_eq n s)
      (
      λ same.
      let one : y ≡ record x { mounted = true } = one_found (at new s) y (record x { mounted = true }) there (now_mounted s same) in
      let old = h.low s x (ap (λ k. at ways k) (sym (eqb-true n s same)) ∙ live) in
      (old.0, λ p up. old.1 p (sym (ap (λ (z : Way). z.parent) one) ∙ up))
      )
      (λ other. h.low s y (sym (still_there s other) ∙ there))

  covered_mounted : (s : ℕ) (y : Way) → at new s ≡ Some y → y.mounted ≡ false → covers new less hidden y.height s ≡ true
  covered_mounted s y there unmounted =
      by_test (nat_eq n s)
      (λ same. clash (ap (λ (z : Way). z.mounted) (one_found (at new s) y (record x { mounted = true }) there (now_mounted s same))) unmounted)
      (
      λ other.
      covers_still ways new fresh less hidden y.height s
      (λ q. ap (λ (ks : List ℕ). has ks s) taken ∙ has_left fresh i n s own other q)
      (λ a q. hides_kept ways new a (λ p. Unit {0}) (λ p j. keeps_mounted a p) (λ t p z e up. tt) y.height s tt q)
      (h.covered s y (sym (still_there s other) ∙ there) unmounted)
      )

  stood_mounted : (s : ℕ) (y : Way) → at new s ≡ Some y → (z : Way) × (at ways s ≡ Some z) × (z.parent ≡ y.parent) × ((t : ℕ) → has y.children t ≡ true → has z.children t ≡ true)
  stood_mounted s y there =
      by_test (nat_eq n s)
      (
      λ same.
      let one : y ≡ record x { mounted = true } = one_found (at new s) y (record x { mounted = true }) there (now_mounted s same) in
      (x, ap (λ k. at ways k) (sym (eqb-true n s same)) ∙ live, sym (ap (λ (z : Way). z.parent) one), λ t child. sym (ap (λ (z : Way). has z.children t) one) ∙ child)
      )
      (λ other. (y, sym (still_there s other) ∙ there, refl, λ t child. child))

  pub one_mounts : IsWaiting new less hidden bound
  one_mounts = record {
    apart =
        subst (λ (es : List (ℕ × Way)). EachOnce (numbers_of es)) (sym is)
        (subst (λ (ks : List ℕ). EachOnce ks) (sym (numbers_put ways n (record x { mounted = true }) x live)) h.apart);
    low = low_mounted;
    covered = covered_mounted;
    seated = seats_kept ways new bound h.seated stood_mounted;
  }

-- a fresh scope is hidden from now on
module _ (ways : List (ℕ × Way)) (fresh less : List ℕ) (hidden more : List (ℕ × ℕ)) (bound n i b : ℕ) (h : IsWaiting ways fresh hidden bound)
    (hider : (x : Way) → at ways n ≡ Some x → hides ways b x.height n ≡ true) (own : get_or fresh i 0 ≡ n) (taken : less ≡ remove fresh i)
    (joined : (a t : ℕ) → has_rank more a t ≡ cond (is_at (rank_cmp (b, n)) (a, t)) true (has_rank hidden a t)) where
  covered_hidden : (s : ℕ) (x : Way) → at ways s ≡ Some x → x.mounted ≡ false → covers ways less more x.height s ≡ true
  covered_hidden s x there unmounted =
      by_test (nat_eq n s)
      (
      λ same.
      let number : n ≡ s = eqb-true n s same in
      pair_covers ways less more x.height s b
      (ap (λ k. has_rank more b k) (sym number) ∙ joined b n ∙ ap (λ c. cond c true (has_rank hidden b n)) (rank_own b n))
      (ap (λ k. hides ways b x.height k) (sym number) ∙ hider x (ap (λ k. at ways k) number ∙ there))
      )
      (
      λ other.
      covers_by ways fresh less hidden more x.height s
      (λ q. ap (λ (ks : List ℕ). has ks s) taken ∙ has_left fresh i n s own other q)
      (λ a q. joined a s ∙ ap (λ c. cond c true (has_rank hidden a s)) (rank_apart b n a s other) ∙ q)
      (h.covered s x there unmounted)
      )

  pub one_hides : IsWaiting ways less more bound
  one_hides = record { apart = h.apart; low = h.low; covered = covered_hidden; seated = h.seated }

-- a fresh scope that is gone waits no more
module _ (ways : List (ℕ × Way)) (fresh less : List ℕ) (hidden : List (ℕ × ℕ)) (bound n i : ℕ) (h : IsWaiting ways fresh hidden bound)
    (gone : is_some (at ways n) ≡ false) (own : get_or fresh i 0 ≡ n) (taken : less ≡ remove fresh i) where
  covered_besides : (s : ℕ) (x : Way) → at ways s ≡ Some x → x.mounted ≡ false → covers ways less hidden x.height s ≡ true
  covered_besides s x there unmounted =
      by_test (nat_eq n s)
      (λ same. clash (ap (λ (o : Option Way). is_some o) (ap (λ k. at ways k) (eqb-true n s same) ∙ there)) gone)
      (
      λ other.
      covers_by ways fresh less hidden hidden x.height s (λ q. ap (λ (ks : List ℕ). has ks s) taken ∙ has_left fresh i n s own other q) (λ a q. q)
      (h.covered s x there unmounted)
      )

  pub one_forgotten : IsWaiting ways less hidden bound
  one_forgotten = record { apart = h.apart; low = h.low; covered = covered_besides; seated = h.seated }

-- what the one with a number hid is fresh
pub uncovered : (ways : List (ℕ × Way)) (fresh more : List ℕ) (hidden fewer : List (ℕ × ℕ)) (bound : ℕ)
    → ((ws : List (ℕ × Way)) (height s : ℕ) → covers ws fresh hidden height s ≡ true → covers ws more fewer height s ≡ true)
    → IsWaiting ways fresh hidden bound → IsWaiting ways more fewer bound
uncovered ways fresh more hidden fewer bound still h = record { apart = h.apart; low = h.low; covered = λ s x there unmounted. still ways x.height s (h.covered s x there unmounted); seated = h.seated }

-- another side of a scope that hides none shows
module _ (ways new : List (ℕ × Way)) (fresh : List ℕ) (hidden : List (ℕ × ℕ)) (bound b : ℕ) (x y : Way) (h : IsWaiting ways fresh hidden bound)
    (none : list_any (λ e. nat_eq e.0 b) hidden ≡ false) (live : at ways b ≡ Some x) (is : new ≡ put ways b y) (like : record y { shows = None } ≡ record x { shows = None }) where
  turned : (s : ℕ) → nat_eq b s ≡ true → at new s ≡ Some y
  turned s same = ap (λ (es : List (ℕ × Way)). at es s) is ∙ at_put_here ways b y s same

  unturned : (s : ℕ) → nat_eq b s ≡ false → at new s ≡ at ways s
  unturned s other = ap (λ (es : List (ℕ × Way)). at es s) is ∙ at_put_other ways b y s other

  up_same : y.parent ≡ x.parent
  up_same = ap (λ (z : Way). z.parent) like

  keeps_turned : (a p : ℕ) → nat_eq a b ≡ false → Keeps (nat_eq p a) (at ways p) (at new p)
  keeps_turned a p apart =
      by_test (nat_eq b p)
      (
      λ same.
      keeps_some (nat_eq p a) (at ways p) (at new p) x y (ap (λ k. at ways k) (sym (eqb-true b p same)) ∙ live) (turned p same) up_same (ap (λ (z : Way). z.below) like)
      (
      λ own.
      clash (ap (λ k. nat_eq k b) (sym (eqb-true p a own)) ∙ ap (λ k. nat_eq k b) (sym (eqb-true b p same)) ∙ eq_same b) apart
      )
      )
      (λ other. keeps_same (nat_eq p a) (at ways p) (at new p) (unturned p other))

  covered_old : (s : ℕ) (z : Way) → at ways s ≡ Some z → z.mounted ≡ false → covers new fresh hidden z.height s ≡ true
  covered_old s z there unmounted =
      covers_kept ways new fresh fresh hidden z.height s b none (λ q. q)
      (λ a apart q. hides_kept ways new a (λ p. Unit {0}) (λ p j. keeps_turned a p apart) (λ t p u e up. tt) z.height s tt q)
      (h.covered s z there unmounted)

  covered_turned : (s : ℕ) (z : Way) → at new s ≡ Some z → z.mounted ≡ false → covers new fresh hidden z.height s ≡ true
  covered_turned s z there unmounted =
      by_test (nat_eq b s)
      (
      λ same.
      let one : z ≡ y = one_found (at new s) z y there (turned s same) in
      let stood : at ways s ≡ Some x = ap (λ k. at ways k) (sym (eqb-true b s same)) ∙ live in
      ap (λ k. covers new fresh hidden k s) (ap (λ (u : Way). u.height) one ∙ ap (λ (u : Way). u.height) like)
      ∙ covered_old s x stood (sym (ap (λ (u : Way). u.mounted) like) ∙ sym (ap (λ (u : Way). u.mounted) one) ∙ unmounted)
      )
      (λ other. covered_old s z (sym (unturned s other) ∙ there) unmounted)

  low_turned : (s : ℕ) (z : Way) → at new s ≡ Some z → (s < bound) × ((p : ℕ) → z.parent ≡ Some p → p < bound)
  low_turned s z there =
      by_test (nat_eq b s)
      (
      λ same.
      let one : z ≡ y = one_found (at new s) z y there (turned s same) in
      let old = h.low s x (ap (λ k. at ways k) (sym (eqb-true b s same)) ∙ live) in
      (old.0, λ p up. old.1 p (sym up_same ∙ sym (ap (λ (u : Way). u.parent) one) ∙ up))
      )
      (λ other. h.low s z (sym (unturned s other) ∙ there))

  stood_turned : (s : ℕ) (z : Way) → at new s ≡ Some z → (u : Way) × (at ways s ≡ Some u) × (u.parent ≡ z.parent) × ((t : ℕ) → has z.children t ≡ true → has u.children t ≡ true)
  stood_turned s z there =
      by_test (nat_eq b s)
      (
      λ same.
      let one : z ≡ y = one_found (at new s) z y there (turned s same) in (
        x,
        ap (λ k. at ways k) (sym (eqb-true b s same)) ∙ live,
        sym (ap (λ (u : Way). u.parent) one ∙ up_same),
        λ t child. sym (ap (λ (u : Way). has u.children t) one ∙ ap (λ (u : Way). has u.children t) like) ∙ child,
      )
      )
      (λ other. (z, sym (unturned s other) ∙ there, refl, λ t child. child))

  pub one_turns : IsWaiting new fresh hidden bound
  one_turns = record {
    apart =
        subst (λ (es : List (ℕ × Way)). EachOnce (numbers_of es)) (sym is)
        (subst (λ (ks : List ℕ). EachOnce ks) (sym (numbers_put ways b y x live)) h.apart);
    low = low_turned;
    covered = covered_turned;
    seated = seats_kept ways new bound h.seated stood_turned;
  }

-- other children stand on the sides of a scope, each of which knows it
module _ (ways new : List (ℕ × Way)) (fresh : List ℕ) (hidden : List (ℕ × ℕ)) (bound n : ℕ) (x y : Way) (h : IsWaiting ways fresh hidden bound)
    (live : at ways n ≡ Some x) (is : new ≡ put ways n y) (like : record y { children = [] } ≡ record x { children = [] })
    (known : (t : ℕ) → has y.children t ≡ true → IsSeated ways bound n t) where
  seats : (s : ℕ) → nat_eq n s ≡ true → at new s ≡ Some y
  seats s same = ap (λ (es : List (ℕ × Way)). at es s) is ∙ at_put_here ways n y s same

  unseated : (s : ℕ) → nat_eq n s ≡ false → at new s ≡ at ways s
  unseated s other = ap (λ (es : List (ℕ × Way)). at es s) is ∙ at_put_other ways n y s other

  own_stood : (s : ℕ) → nat_eq n s ≡ true → at ways s ≡ Some x
  own_stood s same = ap (λ k. at ways k) (sym (eqb-true n s same)) ∙ live

  keeps_seats : (a p : ℕ) → Keeps (nat_eq p a) (at ways p) (at new p)
  keeps_seats a p =
      by_test (nat_eq n p)
      (
      λ same.
      keeps_some (nat_eq p a) (at ways p) (at new p) x y (own_stood p same) (seats p same) (ap (λ (z : Way). z.parent) like) (ap (λ (z : Way). z.below) like)
      (λ q. ap (λ (z : Way). z.shows) like)
      )
      (λ other. keeps_same (nat_eq p a) (at ways p) (at new p) (unseated p other))

  covered_still : (s : ℕ) (z : Way) → at ways s ≡ Some z → z.mounted ≡ false → covers new fresh hidden z.height s ≡ true
  covered_still s z there unmounted =
      covers_still ways new fresh fresh hidden z.height s (λ q. q) (λ a q. hides_kept ways new a (λ p. Unit {0}) (λ p j. keeps_seats a p) (λ t p u e up. tt) z.height s tt q)
      (h.covered s z there unmounted)

  covered_seated : (s : ℕ) (z : Way) → at new s ≡ Some z → z.mounted ≡ false → covers new fresh hidden z.height s ≡ true
  covered_seated s z there unmounted =
      by_test (nat_eq n s)
      (
      λ same.
      let one : z ≡ y = one_found (at new s) z y there (seats s same) in
      ap (λ k. covers new fresh hidden k s) (ap (λ (u : Way). u.height) one ∙ ap (λ (u : Way). u.height) like)
      ∙ covered_still s x (own_stood s same) (sym (ap (λ (u : Way). u.mounted) like) ∙ sym (ap (λ (u : Way). u.mounted) one) ∙ unmounted)
      )
      (λ other. covered_still s z (sym (unseated s other) ∙ there) unmounted)

  low_seated : (s : ℕ) (z : Way) → at new s ≡ Some z → (s < bound) × ((p : ℕ) → z.parent ≡ Some p → p < bound)
  low_seated s z there =
      by_test (nat_eq n s)
      (
      λ same.
      let one : z ≡ y = one_found (at new s) z y there (seats s same) in
      let old = h.low s x (own_stood s same) in
      (old.0, λ p up. old.1 p (sym (ap (λ (u : Way). u.parent) one ∙ ap (λ (u : Way). u.parent) like) ∙ up))
      )
      (λ other. h.low s z (sym (unseated s other) ∙ there))

  -- with which parent a scope stood
  stood_up : (s : ℕ) (z : Way) → at new s ≡ Some z → (u : Way) × (at ways s ≡ Some u) × (u.parent ≡ z.parent)
  stood_up s z there =
      by_test (nat_eq n s)
      (
      λ same.
      let one : z ≡ y = one_found (at new s) z y there (seats s same) in
      (x, own_stood s same, sym (ap (λ (u : Way). u.parent) one ∙ ap (λ (u : Way). u.parent) like))
      )
      (λ other. (z, sym (unseated s other) ∙ there, refl))

  seated_now : (s t : ℕ) (z : Way) → at new s ≡ Some z → has z.children t ≡ true → IsSeated new bound s t
  seated_now s t z there child =
      by_test (nat_eq n s)
      (
      λ same.
      let one : z ≡ y = one_found (at new s) z y there (seats s same) in
      let own = known t (sym (ap (λ (u : Way). has u.children t) one) ∙ child) in
      (own.0, λ w on. let up = stood_up t w on in sym up.2 ∙ own.1 up.0 up.1 ∙ ap (λ (k : ℕ). Some k) (eqb-true n s same))
      )
      (
      λ other.
      let old = h.seated s t z (sym (unseated s other) ∙ there) child in
      (old.0, λ w on. let up = stood_up t w on in sym up.2 ∙ old.1 up.0 up.1)
      )

  pub one_seats : IsWaiting new fresh hidden bound
  one_seats = record {
    apart =
        subst (λ (es : List (ℕ × Way)). EachOnce (numbers_of es)) (sym is)
        (subst (λ (ks : List ℕ). EachOnce ks) (sym (numbers_put ways n y x live)) h.apart);
    low = low_seated;
    covered = covered_seated;
    seated = seated_now;
  }
