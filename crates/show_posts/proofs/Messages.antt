-- The lines of messages are put one after the other.
use Rattle.std.proofs.Common.{◌≡◌, ℕ, ◌+◌, ◌<◌, ◌≤◌, suc, List, [], ◌∷◌, length, map, take, get_or, Option, Ok, Err, refl, ap, sym, ◌∙◌, subst, zero, add-zero, arith}
use Rattle.rt_inbox.specs.declared.message.Msg.{Msg}
use Rattle.rt_language.specs.Lines.{line, taken_text}
use Rattle.rt_model.specs.Lists.{joined}
use Rattle.run_reports.specs.Seen.{message_of}
use Rattle.show_posts.specs.Posting.{drain_lines, taken_lines}
use Rattle.show_words.proofs.Puts.{line_failed, line_put, lines_put, part_failed, part_put, parts_put}
use Rattle.show_streams.specs.Writes.{Writes, Puts}
use Rattle.show_streams.specs.declared.out.OutError.{OutError}
use Rattle.rt_session.specs.Posted.{drains_of}

-- the lines of one drain
abbrev pub lines_in : ℕ → List Msg → List (List ℕ)
lines_in number messages = drain_lines number (map message_of messages)

-- the line of one message
abbrev pub line_in : ℕ → Msg → List ℕ
line_in number message = line (taken_text number (message_of message))

in_length : (number : ℕ) (messages : List Msg) → length (lines_in number messages) ≡ length messages
in_length number [] = refl
in_length number (message ∷ messages) = ap suc (in_length number messages)

-- the line of a message among all lines; `other` is what stands for it past the end
in_at : (number : ℕ) (messages : List Msg) (at : ℕ) (other : Msg) → at < length messages
    → line_in number (get_or messages at other) ≡ get_or (lines_in number messages) at (line_in number (get_or messages at other))
in_at number [] at other within = absurd (omega (arith, within))
in_at number (first ∷ messages) zero other within = refl
in_at number (first ∷ messages) (suc at) other within = in_at number messages at other (omega (arith, within))

pub message_put : (number : ℕ) (messages : List Msg) (at : ℕ) (other : Msg) (old mid new : Puts) (before between after : ℕ)
    → at < length messages
    → Writes (take at (lines_in number messages)) old mid before between (Ok tt)
    → Writes (line_in number (get_or messages at other) ∷ []) mid new between after (Ok tt)
    → Writes (take (at + 1) (lines_in number messages)) old new before after (Ok tt)
message_put number messages at other old mid new before between after within first second =
    line_put (lines_in number messages) at (line_in number (get_or messages at other)) old mid new before between after
    (rw (in_length number messages) within) (in_at number messages at other within) first second

pub message_failed : (number : ℕ) (messages : List Msg) (at : ℕ) (other : Msg) (old mid new : Puts) (before between after : ℕ)
    (error : OutError)
    → at < length messages
    → Writes (take at (lines_in number messages)) old mid before between (Ok tt)
    → Writes (line_in number (get_or messages at other) ∷ []) mid new between after (Err error)
    → Writes (lines_in number messages) old new before after (Err error)
message_failed number messages at other old mid new before between after error within first second =
    line_failed (lines_in number messages) at (line_in number (get_or messages at other)) old mid new before between after error
    (rw (in_length number messages) within) (in_at number messages at other within) first second

pub messages_put : (number : ℕ) (messages : List Msg) (at : ℕ) (old new : Puts) (before after : ℕ) → length messages ≤ at
    → Writes (take at (lines_in number messages)) old new before after (Ok tt)
    → Writes (lines_in number messages) old new before after (Ok tt)
messages_put number messages at old new before after all put =
    lines_put (lines_in number messages) at old new before after (rw (in_length number messages) all) put

-- the lines of all drains, drain by drain
abbrev pub lines_from : ℕ → List (List Msg) → List (List (List ℕ))
lines_from number drains = taken_lines number (drains_of drains)

from_length : (number : ℕ) (drains : List (List Msg)) → length (lines_from number drains) ≡ length drains
from_length number [] = refl
from_length number (drain ∷ drains) = ap suc (from_length (number + 1) drains)

from_at : (number : ℕ) (drains : List (List Msg)) (at : ℕ) (drain : List Msg) → at < length drains → drain ≡ get_or drains at drain
    → lines_in (number + at) drain ≡ get_or (lines_from number drains) at (lines_in (number + at) drain)
from_at number [] at drain within is = absurd (omega arith)
from_at number (first ∷ drains) zero drain within is =
    ap (λ count. lines_in count drain) (add-zero number) ∙ ap (λ d. lines_in number d) is
from_at number (first ∷ drains) (suc at) drain within is =
    let later : (number + 1) + at ≡ number + suc at = omega arith in
    subst (λ (count : ℕ). lines_in count drain ≡ get_or (lines_from (number + 1) drains) at (lines_in count drain)) later
    (from_at (number + 1) drains at drain (omega arith) is)

-- the drain at a place has the report that is one further
first_at : (drains : List (List Msg)) (at : ℕ) (drain : List Msg) → at < length drains → drain ≡ get_or drains at drain
    → lines_in (at + 1) drain ≡ get_or (lines_from 1 drains) at (lines_in (at + 1) drain)
first_at drains at drain within is =
    let one : 1 + at ≡ at + 1 = omega arith in
    subst (λ (count : ℕ). lines_in count drain ≡ get_or (lines_from 1 drains) at (lines_in count drain)) one
    (from_at 1 drains at drain within is)

pub drain_put : (drains : List (List Msg)) (at : ℕ) (drain given : List Msg) (old mid new : Puts) (before between after : ℕ)
    → at < length drains → drain ≡ get_or drains at drain → given ≡ drain
    → Writes (joined (take at (lines_from 1 drains))) old mid before between (Ok tt)
    → Writes (lines_in (at + 1) given) mid new between after (Ok tt)
    → Writes (joined (take (at + 1) (lines_from 1 drains))) old new before after (Ok tt)
drain_put drains at drain given old mid new before between after within is same first second =
    part_put (lines_from 1 drains) at (lines_in (at + 1) drain) old mid new before between after
    (rw (from_length 1 drains) within) (first_at drains at drain within is) first
    (subst (λ (messages : List Msg). Writes (lines_in (at + 1) messages) mid new between after (Ok tt)) same second)

pub drain_failed : (drains : List (List Msg)) (at : ℕ) (drain given : List Msg) (old mid new : Puts) (before between after : ℕ)
    (error : OutError)
    → at < length drains → drain ≡ get_or drains at drain → given ≡ drain
    → Writes (joined (take at (lines_from 1 drains))) old mid before between (Ok tt)
    → Writes (lines_in (at + 1) given) mid new between after (Err error)
    → Writes (joined (lines_from 1 drains)) old new before after (Err error)
drain_failed drains at drain given old mid new before between after error within is same first second =
    part_failed (lines_from 1 drains) at (lines_in (at + 1) drain) old mid new before between after error
    (rw (from_length 1 drains) within) (first_at drains at drain within is) first
    (subst (λ (messages : List Msg). Writes (lines_in (at + 1) messages) mid new between after (Err error)) same second)

pub drains_put : (drains : List (List Msg)) (at : ℕ) (old new : Puts) (before after : ℕ) → length drains ≤ at
    → Writes (joined (take at (lines_from 1 drains))) old new before after (Ok tt)
    → Writes (joined (lines_from 1 drains)) old new before after (Ok tt)
drains_put drains at old new before after all put =
    parts_put (lines_from 1 drains) at old new before after (rw (from_length 1 drains) all) put
