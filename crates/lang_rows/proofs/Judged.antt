-- A verdict is what the log deserves.
use Rattle.std.proofs.Common.{◌≡◌, ℕ, zero, suc, ◌+◌, Bool, true, false, if◌then◌else◌, List, [], ◌∷◌, ◌++◌, length, Option, Some, None, ◌⊎◌, inl, inr, refl, sym, ap, ◌∙◌, subst, arith}
use Rattle.rt_lemmas.proofs.Bools.{pick_true, pick_false}
use Rattle.rt_model.specs.Tree.{Types}
use Rattle.rt_model.specs.World.{Application}
use Rattle.rt_model.specs.Replay.{Entry, Machine}
use Rattle.lang_rows.specs.Verdicts.{Verdict, Accepted, Refused, allowed, may_end, verdict_on, verdict_from, Goes, AreGood, Stops, StopsAt, AcceptedExactly, RefusedExactly}

-- where an index stands after a list
abbrev counted : {A : Type 0} → ℕ → List A → ℕ
counted n [] = n
counted n (x ∷ xs) = counted (suc n) xs

counted-is : {A : Type 0} (n : ℕ) (xs : List A) → counted n xs ≡ n + length xs
counted-is n [] = omega arith
counted-is n (x ∷ xs) = let more = counted-is (suc n) xs in omega (arith, more)

counted-length : {A : Type 0} (xs : List A) → counted 0 xs ≡ length xs
counted-length xs = let is = counted-is 0 xs in omega (arith, is)

module _ {K : Types} (app : Application K) where
  abbrev by : ℕ → ℕ → Option (Machine K) → List Entry → (Machine K → Verdict) → Verdict
  by r n o log later = elim o [ None ↦ Refused r n | Some u ↦ verdict_on app r (suc n) u log later ]

  -- what is judged after entries that are allowed
  goes_on : (r n : ℕ) (m v : Machine K) (here rest : List Entry) (later : Machine K → Verdict) → Goes app r n m here v
      → verdict_on app r n m (here ++ rest) later ≡ verdict_on app r (counted n here) v rest later
  goes_on r n m v [] rest later g = ap (λ (u : Machine K). verdict_on app r n u rest later) g
  goes_on r n m v (e ∷ here) rest later g =
      ap (λ (o : Option (Machine K)). by r n o (here ++ rest) later) g.1 ∙ goes_on r (suc n) g.0 v here rest later g.2

  stops_here : (r n : ℕ) (v : Machine K) (rest : List Entry) (later : Machine K → Verdict) → Stops app r n v rest
      → verdict_on app r n v rest later ≡ Refused r n
  stops_here r n v [] later h = pick_false (may_end app n v) (later v) (Refused r n) h
  stops_here r n v (e ∷ rest) later h = ap (λ (o : Option (Machine K)). by r n o rest later) h

  append_none : {A : Type 0} (xs : List A) → xs ++ [] ≡ xs
  append_none [] = refl
  append_none (x ∷ xs) = ap (λ ys. x ∷ ys) (append_none xs)

  -- a list that is good
  good_list : (r : ℕ) (m u : Machine K) (log : List Entry) (later : Machine K → Verdict) → Goes app r 0 m log u
      → may_end app (length log) u ≡ true
      → verdict_on app r 0 m log later ≡ later u
  good_list r m u log later g h =
      ap (λ (xs : List Entry). verdict_on app r 0 m xs later) (sym (append_none log)) ∙ goes_on r 0 m u log [] later g ∙
      pick_true (may_end app (counted 0 log) u) (later u) (Refused r (counted 0 log)) (ap (λ n. may_end app n u) (counted-length log) ∙ h)

  good_lists : (r : ℕ) (m v : Machine K) (front more : List (List Entry)) → AreGood app r m front v
      → verdict_from app r m (front ++ more) ≡ verdict_from app (counted r front) v more
  good_lists r m v [] more g = ap (λ (u : Machine K). verdict_from app r u more) g
  good_lists r m v (log ∷ front) more g =
      good_list r m g.0 log (λ u. verdict_from app (suc r) u (front ++ more)) g.1 g.2 ∙ good_lists (suc r) g.0 v front more g.3

  -- and back

  -- how a list was judged: it is good and the verdict is that of the next ones, or it stops here
  abbrev Judged : ℕ → ℕ → Machine K → List Entry → (Machine K → Verdict) → Verdict → Type 0
  Judged r n m log later w =
      ((u : Machine K) × Goes app r n m log u × (may_end app (counted n log) u ≡ true) × (later u ≡ w))
      ⊎
      ((here : List Entry) × (rest : List Entry) × (v : Machine K) × (log ≡ here ++ rest) × Goes app r n m here v × Stops app r
      (counted n here) v rest
      × (Refused r (counted n here) ≡ w))

  ended : (r n : ℕ) (m : Machine K) (later : Machine K → Verdict) (w : Verdict) (b : Bool) → may_end app n m ≡ b
      → (if b then later m else Refused r n) ≡ w → Judged r n m [] later w
  ended r n m later w true e h = inl (m, refl, e, h)
  ended r n m later w false e h = inr ([], [], m, refl, refl, e, h)

  stepped : (r n : ℕ) (m : Machine K) (e : Entry) (log : List Entry) (later : Machine K → Verdict) (w : Verdict) (o : Option (Machine K))
      → allowed app r n m e ≡ o → by r n o log later ≡ w
      → ((u : Machine K) → verdict_on app r (suc n) u log later ≡ w → Judged r (suc n) u log later w) → Judged r n m (e ∷ log) later w
  stepped r n m e log later w None is h more = inr ([], e ∷ log, m, refl, refl, is, h)
  stepped r n m e log later w (Some u) is h more =
      elim (more u h) [
        | inl g ↦ inl (g.0, (u, is, g.1), g.2, g.3)
        | inr s ↦ inr (e ∷ s.0, s.1, s.2, ap (λ xs. e ∷ xs) s.3, (u, is, s.4), s.5, s.6)
      ]

  judged : (r n : ℕ) (m : Machine K) (log : List Entry) (later : Machine K → Verdict) (w : Verdict) → verdict_on app r n m log later ≡ w
      → Judged r n m log later w
  judged r n m [] later w h = ended r n m later w (may_end app n m) refl h
  judged r n m (e ∷ log) later w h = stepped r n m e log later w (allowed app r n m e) refl h (λ u k. judged r (suc n) u log later w k)

  accepted_lists : (r : ℕ) (m : Machine K) (logs : List (List Entry)) → verdict_from app r m logs ≡ Accepted
      → (v : Machine K) × AreGood app r m logs v
  accepted_lists r m [] h = (m, refl)
  accepted_lists r m (log ∷ logs) h =
      elim (judged r 0 m log (λ u. verdict_from app (suc r) u logs) Accepted h) [
        | inl g ↦
            let next = accepted_lists (suc r) g.0 logs g.3 in
            (next.0, (g.0, g.1, ap (λ n. may_end app n g.0) (sym (counted-length log)) ∙ g.2, next.1))
        | inr s ↦ let wrong : Refused r (counted 0 s.0) ≡ Accepted = s.6 in cc
      ]

  pub accepted_exactly : AcceptedExactly app
  accepted_exactly m logs = (
    λ h. accepted_lists 0 m logs h,
    λ v g. ap (λ (xs : List (List Entry)). verdict_from app 0 m xs) (sym (append_none logs)) ∙ good_lists 0 m v logs [] g,
  )

  -- the same from a list on
  abbrev Stopped : ℕ → Machine K → List (List Entry) → ℕ → ℕ → Type 0
  Stopped from m logs r e =
      (front : List (List Entry)) × (later : List (List Entry)) × (here : List Entry) × (rest : List Entry) × (at : Machine K) ×
      (last : Machine K)
      × (logs ≡ front ++ (here ++ rest) ∷ later) × (counted from front ≡ r) × (counted 0 here ≡ e) × AreGood app from m front at
      × Goes app r 0 at here last × Stops app r e last rest

  same_at : (r e a b : ℕ) → Refused a b ≡ Refused r e → (a ≡ r) × (b ≡ e)
  same_at r e a b h = (cc, cc)

  refused_lists : (from : ℕ) (m : Machine K) (logs : List (List Entry)) (r e : ℕ) → verdict_from app from m logs ≡ Refused r e
      → Stopped from m logs r e
  refused_lists from m [] r e h = cc
  refused_lists from m (log ∷ logs) r e h =
      elim (judged from 0 m log (λ u. verdict_from app (suc from) u logs) (Refused r e) h) [
        | inl g ↦
            let n = refused_lists (suc from) g.0 logs r e g.3 in (
              log ∷ n.0,
              n.1,
              n.2,
              n.3,
              n.4,
              n.5,
              ap (λ xs. log ∷ xs) n.6,
              n.7,
              n.8,
              (g.0, g.1, ap (λ k. may_end app k g.0) (sym (counted-length log)) ∙ g.2, n.9),
              n.10,
              n.11,
            )
        | inr s ↦
            let is = same_at r e from (counted 0 s.0) s.6 in (
              [],
              logs,
              s.0,
              s.1,
              m,
              s.2,
              ap (λ xs. xs ∷ logs) s.3,
              is.0,
              is.1,
              refl,
              subst (λ k. Goes app k 0 m s.0 s.2) is.0 s.4,
              subst (λ k. Stops app k e s.2 s.1) is.0 (subst (λ k. Stops app from k s.2 s.1) is.1 s.5),
            )
      ]

  stops_at : (m : Machine K) (logs : List (List Entry)) (r e : ℕ) → Stopped 0 m logs r e → StopsAt app m logs r e
  stops_at m logs r e s =
      record {
        front = s.0;
        later = s.1;
        here = s.2;
        rest = s.3;
        at = s.4;
        last = s.5;
        lists = s.6;
        reports = sym (counted-length s.0) ∙ s.7;
        entries = sym (counted-length s.2) ∙ s.8;
        good = s.9;
        goes = s.10;
        stops = s.11;
      }

  refused_at : (m : Machine K) (logs : List (List Entry)) (r e : ℕ) → StopsAt app m logs r e → verdict_from app 0 m logs ≡ Refused r e
  refused_at m logs r e s =
      let there : counted 0 s.front ≡ r = counted-length s.front ∙ s.reports in
      let place : counted 0 s.here ≡ e = counted-length s.here ∙ s.entries in
      ap (λ (xs : List (List Entry)). verdict_from app 0 m xs) s.lists ∙ good_lists 0 m s.at s.front ((s.here ++ s.rest) ∷ s.later) s.good ∙
      ap (λ k. verdict_from app k s.at ((s.here ++ s.rest) ∷ s.later)) there ∙
      goes_on r 0 s.at s.last s.here s.rest (λ u. verdict_from app (suc r) u s.later) s.goes ∙
      ap (λ k. verdict_on app r k s.last s.rest (λ u. verdict_from app (suc r) u s.later)) place ∙
      stops_here r e s.last s.rest (λ u. verdict_from app (suc r) u s.later) s.stops

  pub refused_exactly : RefusedExactly app
  refused_exactly m logs r e = (λ h. stops_at m logs r e (refused_lists 0 m logs r e h), λ s. refused_at m logs r e s)
