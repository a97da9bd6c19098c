-- A look takes all that is posted.
use Rattle.std.proofs.Common.{ℕ, Bool, true, false, List, [], ◌∷◌, ◌≡◌, ◌⊎◌, inl, inr, refl, sym, subst}
use Rattle.std.specs.Prelude.{if◌then◌else◌, is_some}
use Rattle.rt_model.specs.Lists.{at, has, join}
use Rattle.rt_model.specs.Tree.{Types}
use Rattle.rt_model.specs.State.{Posted, Mark, Woken, State, is_live}
use Rattle.rt_model.specs.Next.{look_on}
use Rattle.rt_model.proofs.Maps.{by_test, pick_true, pick_false}
use Rattle.rt_model.proofs.Members.{clash, join_keeps, join_has}
use Rattle.law_behavior.specs.Marking.{IsPosted}
use Rattle.law_behavior.specs.Looks.{LooksTakeAll}

module _ {K : Types} where
  taken_posted : (ps : List Posted) (w : State K) → w.posted ≡ [] → (look_on ps w).posted ≡ []
  taken_posted [] w h = h
  taken_posted (Mark s ∷ ps) w h = taken_posted ps (if is_live w s then record w { seen = join w.seen s } else w) (either (is_live w s))
    where
      either : (b : Bool) → (if b then record w { seen = join w.seen s } else w).posted ≡ []
      either true = h
      either false = h
  taken_posted (Woken t ∷ ps) w h = taken_posted ps (if is_some (at w.tasks t) then record w { queued = join w.queued t } else w) (either (is_some (at w.tasks t)))
    where
      either : (b : Bool) → (if b then record w { queued = join w.queued t } else w).posted ≡ []
      either true = h
      either false = h

  -- the one that is taken is seen, and who was seen stays so
  taken_seen : (ps : List Posted) (w : State K) (s : ℕ) → is_live w s ≡ true → IsPosted ps (Mark s) ⊎ (has w.seen s ≡ true) → has (look_on ps w).seen s ≡ true
  taken_seen [] w s live h = elim h [ inl a ↦ absurd a | inr a ↦ a ]
  taken_seen (Woken t ∷ ps) w s live h =
      taken_seen ps (if is_some (at w.tasks t) then record w { queued = join w.queued t } else w) s (lives (is_some (at w.tasks t))) (elim h [ inl a ↦ elim a [ inl e ↦ other e | inr b ↦ inl b ] | inr a ↦ inr (keeps (is_some (at w.tasks t)) a) ])
    where
      other : {P : Type 0} → Woken t ≡ Mark s → P
      other e = cc

      lives : (b : Bool) → is_live (if b then record w { queued = join w.queued t } else w) s ≡ true
      lives true = live
      lives false = live

      keeps : (b : Bool) → has w.seen s ≡ true → has (if b then record w { queued = join w.queued t } else w).seen s ≡ true
      keeps true a = a
      keeps false a = a
  taken_seen (Mark r ∷ ps) w s live h =
      by_test (is_live w r)
      (
      λ q.
      let u : State K = record w { seen = join w.seen r } in
      subst (λ (x : State K). has (look_on ps x).seen s ≡ true) (sym (pick_true u w q))
      (taken_seen ps u s live (elim h [ inl a ↦ elim a [ inl e ↦ inr (taken e) | inr b ↦ inl b ] | inr a ↦ inr (join_keeps w.seen r s a) ]))
      )
      (
      λ q.
      subst (λ (x : State K). has (look_on ps x).seen s ≡ true) (sym (pick_false (record w { seen = join w.seen r }) w q))
      (taken_seen ps w s live (elim h [ inl a ↦ elim a [ inl e ↦ clash live (gone e q) | inr b ↦ inl b ] | inr a ↦ inr a ]))
      )
    where
      taken : Mark r ≡ Mark s → has (join w.seen r) s ≡ true
      taken e = let same : r ≡ s = cc in subst (λ (k : ℕ). has (join w.seen k) s ≡ true) (sym same) (join_has w.seen s)

      gone : Mark r ≡ Mark s → is_live w r ≡ false → is_live w s ≡ false
      gone e q = let same : r ≡ s = cc in subst (λ (k : ℕ). is_live w k ≡ false) same q

  -- the same of tasks
  taken_queued : (ps : List Posted) (w : State K) (t : ℕ) → is_some (at w.tasks t) ≡ true → IsPosted ps (Woken t) ⊎ (has w.queued t ≡ true) → has (look_on ps w).queued t ≡ true
  taken_queued [] w t live h = elim h [ inl a ↦ absurd a | inr a ↦ a ]
  taken_queued (Mark s ∷ ps) w t live h =
      taken_queued ps (if is_live w s then record w { seen = join w.seen s } else w) t (lives (is_live w s)) (elim h [ inl a ↦ elim a [ inl e ↦ other e | inr b ↦ inl b ] | inr a ↦ inr (keeps (is_live w s) a) ])
    where
      other : {P : Type 0} → Mark s ≡ Woken t → P
      other e = cc

      lives : (b : Bool) → is_some (at (if b then record w { seen = join w.seen s } else w).tasks t) ≡ true
      lives true = live
      lives false = live

      keeps : (b : Bool) → has w.queued t ≡ true → has (if b then record w { seen = join w.seen s } else w).queued t ≡ true
      keeps true a = a
      keeps false a = a
  taken_queued (Woken r ∷ ps) w t live h =
      by_test (is_some (at w.tasks r))
      (
      λ q.
      let u : State K = record w { queued = join w.queued r } in
      subst (λ (x : State K). has (look_on ps x).queued t ≡ true) (sym (pick_true u w q))
      (taken_queued ps u t live (elim h [ inl a ↦ elim a [ inl e ↦ inr (taken e) | inr b ↦ inl b ] | inr a ↦ inr (join_keeps w.queued r t a) ]))
      )
      (
      λ q.
      subst (λ (x : State K). has (look_on ps x).queued t ≡ true) (sym (pick_false (record w { queued = join w.queued r }) w q))
      (taken_queued ps w t live (elim h [ inl a ↦ elim a [ inl e ↦ clash live (gone e q) | inr b ↦ inl b ] | inr a ↦ inr a ]))
      )
    where
      taken : Woken r ≡ Woken t → has (join w.queued r) t ≡ true
      taken e = let same : r ≡ t = cc in subst (λ (k : ℕ). has (join w.queued k) t ≡ true) (sym same) (join_has w.queued t)

      gone : Woken r ≡ Woken t → is_some (at w.tasks r) ≡ false → is_some (at w.tasks t) ≡ false
      gone e q = let same : r ≡ t = cc in subst (λ (k : ℕ). is_some (at w.tasks k) ≡ false) same q

pub looks_take_all : (K : Types) → LooksTakeAll K
looks_take_all K w =
    let v : State K = record w { posted = [] } in
    record {
      unposted = taken_posted w.posted v refl;
      seen = λ s live h. taken_seen w.posted v s live h;
      queued = λ t live h. taken_queued w.posted v t live h;
    }
