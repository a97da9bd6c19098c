-- What drains hold, with one more behind them.
use Rattle.std.proofs.Common.{◌≡◌, true, false, ℕ, ◌+◌, ◌<◌, ◌≤◌, List, [], ◌∷◌, ◌++◌, length, take, drop, get_or, refl, sym, ap, ◌∙◌, subst, append_assoc, append-nil, inl, inr, arith, suc}
use Rattle.std.proofs.lemmas.List.{take_all}
use Rattle.std.proofs.Math.Seq.{take-suc}
use Rattle.std.proofs.lemmas.List.{take-append-drop}
use Rattle.std.specs.Prelude.{◌⊎◌, Result, Ok, Err}
use Rattle.rt_inbox.specs.Ends.{taken_of}
use Rattle.rt_inbox.specs.declared.message.Msg.{Msg}
use Rattle.rt_inbox.specs.declared.owner.Owner.{Owner}
use Rattle.run_outside.specs.declared.ended.Ended.{Ended}
use Rattle.rt_model.specs.Lists.{joined}
use Rattle.rt_session.specs.Sittings.{AddsMessage, IsWanting, KeepsAll, KeepsDrain, KeepsMessages}
use Rattle.rt_session.proofs.Cuts.{joined-one}

pub drain_joined : (old new : List (List Msg)) (messages : List Msg) → new ≡ old ++ messages ∷ [] → joined new ≡ joined old ++ messages
drain_joined old new messages same = ap joined same ∙ joined-one old messages

-- a drain that was kept holds its messages
pub keeps_messages : (old new : List (List Msg)) (messages : List Msg) (result : Result (Unit {0}) Ended) → KeepsDrain old new messages result
    → KeepsMessages old new messages result
keeps_messages old new messages (Ok u) kept = drain_joined old new messages kept
keeps_messages old new messages (Err ended) (inl memory) = inl memory
keeps_messages old new messages (Err ended) (inr kept) = inr (drain_joined old new messages kept)

-- and no message where there was none
pub keeps_none : (old new : List (List Msg)) (messages : List Msg) → messages ≡ [] → new ≡ old → joined new ≡ joined old ++ messages
keeps_none old new messages none same = ap joined same ∙ sym (append-nil (joined old)) ∙ ap (λ l. joined old ++ l) (sym none)

-- where it isn't so that there is none, there is one
pub some_items : (messages : List Msg) → (messages ≡ [] → false ≡ true) → 1 ≤ length messages
some_items [] never = let no = never refl in cc
some_items (m ∷ ms) never = omega arith

-- a full piece was taken in
pub adds_full : (most : ℕ) (old new : List (List Msg)) (before full after : List Msg) (message : Msg) (result : Result (Unit {0}) Ended)
    → full ≡ before ++ message ∷ [] → after ≡ [] → 1 ≤ most → KeepsDrain old new full result → AddsMessage most old new before after message result
adds_full most old new before full after message (Ok u) is empty some kept = (
  ap (λ l. joined new ++ l) empty ∙ append-nil (joined new) ∙ drain_joined old new full kept ∙ ap (λ l. joined old ++ l) is,
  subst (λ (l : List Msg). length l < most) (sym empty) (omega (arith, some)),
)
adds_full most old new before full after message (Err ended) is empty some (inl memory) = inl memory
adds_full most old new before full after message (Err ended) is empty some (inr kept) =
    inr (drain_joined old new full kept ∙ ap (λ l. joined old ++ l) is)

-- all messages up to a place, and the one there
take_one_more : (xs : List Msg) (at : ℕ) (x : Msg) → at < length xs → x ≡ get_or xs at x → take (at + 1) xs ≡ take at xs ++ x ∷ []
take_one_more xs at x within is =
    let one : at + 1 ≡ suc at = omega arith in
    ap (λ n. take n xs) one ∙ take-suc xs at x within ∙ ap (λ y. take at xs ++ y ∷ []) (sym is)

-- one message more stands in the drains and in the piece
pub left_more : (first old new : List (List Msg)) (before after left : List Msg) (at : ℕ) (message : Msg)
    → at < length left → message ≡ get_or left at message
    → joined old ++ before ≡ joined first ++ take at left
    → joined new ++ after ≡ joined old ++ (before ++ message ∷ [])
    → joined new ++ after ≡ joined first ++ take (at + 1) left
left_more first old new before after left at message within is so more =
    more ∙ sym (append_assoc (joined old) before (message ∷ [])) ∙ ap (λ l. l ++ message ∷ []) so
    ∙ append_assoc (joined first) (take at left) (message ∷ []) ∙ ap (λ l. joined first ++ l) (sym (take_one_more left at message within is))

-- where it ended there, a front of them
pub left_ended : (first old new : List (List Msg)) (before left : List Msg) (at : ℕ) (message : Msg) (ended : Ended)
    → at < length left → message ≡ get_or left at message
    → joined old ++ before ≡ joined first ++ take at left
    → IsWanting ended ⊎ (joined new ≡ joined old ++ (before ++ message ∷ []))
    → KeepsAll first new left (Err ended)
left_ended first old new before left at message ended within is so (inl memory) = inl memory
left_ended first old new before left at message ended within is so (inr kept) =
    let nothing : joined new ++ [] ≡ joined first ++ take (at + 1) left =
    left_more first old new before [] left at message within is so (append-nil (joined new) ∙ kept) in
    inr (
      drop (at + 1) left,
      ap (λ l. l ++ drop (at + 1) left) (sym (append-nil (joined new)) ∙ nothing)
          ∙ append_assoc (joined first) (take (at + 1) left) (drop (at + 1) left)
          ∙ ap (λ l. joined first ++ l) (take-append-drop (at + 1) left),
    )

-- the last piece was taken in, which ends all
pub left_all : (first old new : List (List Msg)) (piece left : List Msg) (at : ℕ) (result : Result (Unit {0}) Ended)
    → length left ≤ at
    → joined old ++ piece ≡ joined first ++ take at left
    → KeepsMessages old new piece result
    → KeepsAll first new left result
left_all first old new piece left at (Ok u) all so kept = kept ∙ so ∙ ap (λ l. joined first ++ l) (take_all at left all)
left_all first old new piece left at (Err ended) all so (inl memory) = inl memory
left_all first old new piece left at (Err ended) all so (inr kept) =
    inr ([], append-nil (joined new) ∙ kept ∙ so ∙ ap (λ l. joined first ++ l) (take_all at left all))

-- the owner took what the drains hold, with what it drained once more
pub taken_more : (owner then : Owner) (old new : List (List Msg)) (messages : List Msg)
    → taken_of owner ≡ joined old → taken_of then ≡ taken_of owner ++ messages → joined new ≡ joined old ++ messages → taken_of then ≡ joined new
taken_more owner then old new messages so took kept = took ∙ ap (λ l. l ++ messages) so ∙ sym kept

pub taken_ended : (owner then : Owner) (old new : List (List Msg)) (messages : List Msg) (ended : Ended)
    → taken_of owner ≡ joined old → taken_of then ≡ taken_of owner ++ messages → KeepsMessages old new messages (Err ended)
    → IsWanting ended ⊎ (taken_of then ≡ joined new)
taken_ended owner then old new messages ended so took (inl memory) = inl memory
taken_ended owner then old new messages ended so took (inr kept) = inr (taken_more owner then old new messages so took kept)
