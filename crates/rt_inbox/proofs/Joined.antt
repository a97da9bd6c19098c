-- One drain more.
use Rattle.std.proofs.Common.{◌≡◌, List, [], ◌∷◌, ◌++◌, sym, ap, ◌∙◌, append_assoc, append-nil}
use Rattle.rt_inbox.specs.Ends.{taken_of}
use Rattle.rt_inbox.specs.declared.message.Msg.{Msg}
use Rattle.rt_inbox.specs.declared.owner.Owner.{Owner}
use Rattle.rt_inbox.specs.Posted.{joined, HasDrained}

joined-more : (drains : List (List Msg)) (drain : List Msg) → joined (drains ++ drain ∷ []) ≡ joined drains ++ drain
joined-more [] drain = append-nil drain
joined-more (d ∷ drains) drain = ap (λ ms. d ++ ms) (joined-more drains drain) ∙ sym (append_assoc d (joined drains) drain)

pub drained-none : (o : Owner) (drains : List (List Msg)) → HasDrained o o drains drains
drained-none o drains = ([], sym (append-nil drains), sym (append-nil (taken_of o)))

-- nothing was taken
pub drained-empty : (o u v : Owner) (before now : List (List Msg)) (ms : List Msg) → HasDrained o u before now → taken_of v ≡ taken_of u ++ ms → ms ≡ []
    → HasDrained o v before now
drained-empty o u v before now ms h t e = (h.0, h.1, t ∙ ap (λ xs. taken_of u ++ xs) e ∙ append-nil (taken_of u) ∙ h.2)

-- one drain more
pub drained-more : (o u v : Owner) (before now after : List (List Msg)) (ms : List Msg) → HasDrained o u before now → taken_of v ≡ taken_of u ++ ms
    → after ≡ now ++ ms ∷ [] → HasDrained o v before after
drained-more o u v before now after ms h t e = (
  h.0 ++ ms ∷ [],
  e ∙ ap (λ ds. ds ++ ms ∷ []) h.1 ∙ append_assoc before h.0 (ms ∷ []),
  t ∙ ap (λ xs. xs ++ ms) h.2 ∙ append_assoc (taken_of o) (joined h.0) ms ∙ ap (λ xs. taken_of o ++ xs) (sym (joined-more h.0 ms)),
)
