-- Texts of faults, and of messages that a drain took, are told apart.
use Rattle.std.proofs.Common.{arith, ◌≡◌, ◌∙◌, ℕ, ◌^◌, ◌*◌, ◌+◌, ◌<◌, ◌==◌, List, [], ◌∷◌, ◌++◌, drop, refl, ap, sym}
use Rattle.std.proofs.lemmas.List.{append_cancel_left}
use Rattle.std.specs.Prelude.{decimal, codes, if◌then◌else◌}
use Rattle.rt_model.specs.World.{Counter, Scopes, Tasks, Cells, Contexts, Elements, Errors, Renders}
use Rattle.rt_model.specs.State.{Fault, OutOfTurns, TooDeep, IdsExhausted, HookChanged, NoSuchTask, BadNode}
use Rattle.rt_model.specs.Replay.{Post, MarkScope, WakeTask, AllDirty, Message}
use Rattle.rt_language.specs.Lines.{counter_text, fault_text, post_text, taken_text}
use Rattle.lang_lines.specs.Plain.{IsSmallFault, IsSmallPost, IsSmallMessage}
use Rattle.lang_lines.proofs.Names.{numbers_told}
use Rattle.lang_lines.proofs.Edits.{between}

-- a number to the end of a line
last_told : (m n : ℕ) (r s : List ℕ) → m < 2 ^ 64 → n < 2 ^ 64 → decimal m ++ (10 ∷ r) ≡ decimal n ++ (10 ∷ s) → (m ≡ n) × (r ≡ s)
last_told m n r s small little same =
    let both = numbers_told m n (10 ∷ r) (10 ∷ s) small little refl refl same in
    (both.0, ap (λ x. drop 1 x) both.1)

-- a number before a space, a number before a colon
spaced_told : (m n : ℕ) (r s : List ℕ) → m < 2 ^ 64 → n < 2 ^ 64 → decimal m ++ (codes " " ++ r) ≡ decimal n ++ (codes " " ++ s)
    → (m ≡ n) × (r ≡ s)
spaced_told m n r s small little same =
    let both = numbers_told m n (codes " " ++ r) (codes " " ++ s) small little refl refl same in
    (both.0, ap (λ x. drop 1 x) both.1)

colon_told : (m n : ℕ) (r s : List ℕ) → m < 2 ^ 64 → n < 2 ^ 64 → decimal m ++ (codes ":" ++ r) ≡ decimal n ++ (codes ":" ++ s)
    → (m ≡ n) × (r ≡ s)
colon_told m n r s small little same =
    let both = numbers_told m n (codes ":" ++ r) (codes ":" ++ s) small little refl refl same in
    (both.0, ap (λ x. drop 1 x) both.1)

-- counters

-- the first two bytes
key : List ℕ → ℕ
key [] = 0
key (a ∷ []) = 0
key (a ∷ b ∷ rest) = a * 256 + b

-- the counter whose name has this key
counter_at : ℕ → Counter
counter_at n =
    if n == 115 * 256 + 99 then Scopes
    else (if n == 116 * 256 + 97 then Tasks
    else (if n == 99 * 256 + 101 then Cells
    else (if n == 99 * 256 + 111 then Contexts
    else (if n == 101 * 256 + 108 then Elements
    else (if n == 101 * 256 + 114 then Errors else Renders)))))

counter_found : (c : Counter) (r : List ℕ) → counter_at (key (counter_text c ++ r)) ≡ c
unfolding counter_at key
counter_found Scopes r = refl
counter_found Tasks r = refl
counter_found Cells r = refl
counter_found Contexts r = refl
counter_found Elements r = refl
counter_found Errors r = refl
counter_found Renders r = refl

counters_parted : (c d : Counter) (r s : List ℕ) → counter_text c ++ r ≡ counter_text d ++ s → (c ≡ d) × (r ≡ s)
counters_parted c d r s same =
    let one : c ≡ d = sym (counter_found c r) ∙ ap (λ t. counter_at (key t)) same ∙ counter_found d s in
    (one, append_cancel_left (counter_text d) r s (ap (λ x. counter_text x ++ r) (sym one) ∙ same))

-- faults

-- the seventh byte
seventh : List ℕ → ℕ
seventh [] = 0
seventh (c ∷ cs) = c

sort_of_fault : Fault → ℕ
sort_of_fault (OutOfTurns units) = 51
sort_of_fault (TooDeep height) = 52
sort_of_fault (IdsExhausted what) = 53
sort_of_fault (HookChanged scope index kept asked) = 54
sort_of_fault (NoSuchTask scope task) = 55
sort_of_fault (BadNode scope) = 56

fault_sort_is : (a : Fault) (r : List ℕ) → seventh (drop 6 (fault_text a ++ r)) ≡ sort_of_fault a
unfolding seventh sort_of_fault
fault_sort_is (OutOfTurns units) r = refl
fault_sort_is (TooDeep height) r = refl
fault_sort_is (IdsExhausted what) r = refl
fault_sort_is (HookChanged scope index kept asked) r = refl
fault_sort_is (NoSuchTask scope task) r = refl
fault_sort_is (BadNode scope) r = refl

-- four numbers with spaces between
four : (a b c d r : List ℕ)
    → ((((((a ++ codes " ") ++ b) ++ codes " ") ++ c) ++ codes " ") ++ d) ++ r
    ≡
    a ++ (codes " " ++ (b ++ (codes " " ++ (c ++ (codes " " ++ (d ++ r))))))
four a b c d r =
    between ((((a ++ codes " ") ++ b) ++ codes " ") ++ c) (codes " ") d r
    ∙ between ((a ++ codes " ") ++ b) (codes " ") c (codes " " ++ (d ++ r))
    ∙ between a (codes " ") b (codes " " ++ (c ++ (codes " " ++ (d ++ r))))

-- faults, to the end of a line, are told apart, and what follows
pub faults_parted : (a b : Fault) (r s : List ℕ) → IsSmallFault a → IsSmallFault b → fault_text a ++ (10 ∷ r) ≡ fault_text b ++ (10 ∷ s)
    → (a ≡ b) × (r ≡ s)
unfolding sort_of_fault
faults_parted (OutOfTurns m) (OutOfTurns n) r s small little same =
    let both = last_told m n r s small little (ap (λ x. drop 19 x) same) in
    (ap OutOfTurns both.0, both.1)
faults_parted (TooDeep m) (TooDeep n) r s small little same =
    let both = last_told m n r s small little (ap (λ x. drop 16 x) same) in
    (ap TooDeep both.0, both.1)
faults_parted (IdsExhausted c) (IdsExhausted d) r s small little same =
    let both = counters_parted c d (10 ∷ r) (10 ∷ s) (ap (λ x. drop 21 x) same) in
    (ap IdsExhausted both.0, ap (λ x. drop 1 x) both.1)
faults_parted (HookChanged a b c d) (HookChanged e f g h) r s small little same =
    let scopes = spaced_told a e (decimal b ++ (codes " " ++ (decimal c ++ (codes " " ++ (decimal d ++ (10 ∷ r)))))) (decimal f ++ (codes
    " " ++ (decimal g ++ (codes " " ++ (decimal h ++ (10 ∷ s)))))) small.0 little.0
    (sym (four (decimal a) (decimal b) (decimal c) (decimal d) (10 ∷ r)) ∙ ap (λ x. drop 20 x) same ∙ four (decimal e) (decimal f)
    (decimal g) (decimal h) (10 ∷ s)) in
    let indexes = spaced_told b f (decimal c ++ (codes " " ++ (decimal d ++ (10 ∷ r)))) (decimal g ++ (codes " " ++ (decimal h ++ (10 ∷
    s)))) small.1 little.1 scopes.1 in
    let kinds = spaced_told c g (decimal d ++ (10 ∷ r)) (decimal h ++ (10 ∷ s)) small.2 little.2 indexes.1 in
    let last = last_told d h r s small.3 little.3 kinds.1 in
    (λ k. HookChanged (scopes.0 k) (indexes.0 k) (kinds.0 k) (last.0 k), last.1)
faults_parted (NoSuchTask a b) (NoSuchTask c d) r s small little same =
    let scopes = spaced_told a c (decimal b ++ (10 ∷ r)) (decimal d ++ (10 ∷ s)) small.0 little.0
    (sym (between (decimal a) (codes " ") (decimal b) (10 ∷ r)) ∙ ap (λ x. drop 19 x) same ∙ between (decimal c) (codes " ") (decimal d)
    (10 ∷ s)) in
    let last = last_told b d r s small.1 little.1 scopes.1 in
    (λ k. NoSuchTask (scopes.0 k) (last.0 k), last.1)
faults_parted (BadNode m) (BadNode n) r s small little same =
    let both = last_told m n r s small little (ap (λ x. drop 16 x) same) in
    (ap BadNode both.0, both.1)
faults_parted a b r s small little same =
    let sorts : sort_of_fault a ≡ sort_of_fault b =
    sym (fault_sort_is a (10 ∷ r)) ∙ ap (λ x. seventh (drop 6 x)) same ∙ fault_sort_is b (10 ∷ s) in
    absurd (omega (arith, sorts))

-- messages

sort_of_post : Post → ℕ
sort_of_post (MarkScope s) = 109
sort_of_post (WakeTask t) = 119
sort_of_post AllDirty = 97

post_sort_is : (p : Post) (r : List ℕ) → seventh (post_text p ++ r) ≡ sort_of_post p
unfolding seventh sort_of_post
post_sort_is (MarkScope s) r = refl
post_sort_is (WakeTask t) r = refl
post_sort_is AllDirty r = refl

posts_parted : (p q : Post) (r s : List ℕ) → IsSmallPost p → IsSmallPost q → post_text p ++ (10 ∷ r) ≡ post_text q ++ (10 ∷ s)
    → (p ≡ q) × (r ≡ s)
unfolding sort_of_post
posts_parted (MarkScope m) (MarkScope n) r s small little same =
    let both = last_told m n r s small little (ap (λ x. drop 5 x) same) in
    (ap MarkScope both.0, both.1)
posts_parted (WakeTask m) (WakeTask n) r s small little same =
    let both = last_told m n r s small little (ap (λ x. drop 5 x) same) in
    (ap WakeTask both.0, both.1)
posts_parted AllDirty AllDirty r s small little same = (refl, ap (λ x. drop 4 x) same)
posts_parted p q r s small little same =
    let sorts : sort_of_post p ≡ sort_of_post q = sym (post_sort_is p (10 ∷ r)) ∙ ap seventh same ∙ post_sort_is q (10 ∷ s) in
    absurd (omega (arith, sorts))

-- three numbers, and what is posted
posted : (a b c d r : List ℕ)
    → ((((((a ++ codes " ") ++ b) ++ codes ":") ++ c) ++ codes " ") ++ d) ++ r
    ≡
    a ++ (codes " " ++ (b ++ (codes ":" ++ (c ++ (codes " " ++ (d ++ r))))))
posted a b c d r =
    between ((((a ++ codes " ") ++ b) ++ codes ":") ++ c) (codes " ") d r
    ∙ between ((a ++ codes " ") ++ b) (codes ":") c (codes " " ++ (d ++ r))
    ∙ between a (codes " ") b (codes ":" ++ (c ++ (codes " " ++ (d ++ r))))

-- messages taken, to the end of a line, are told apart, and what follows
pub messages_parted : (k l : ℕ) (m n : Message) (r s : List ℕ) → k < 2 ^ 64 → l < 2 ^ 64 → IsSmallMessage m → IsSmallMessage n
    → taken_text k m ++ (10 ∷ r) ≡ taken_text l n ++ (10 ∷ s)
    → (k ≡ l) × (m ≡ n) × (r ≡ s)
messages_parted k l m n r s few less small little same =
    let what : List ℕ = post_text m.what ++ (10 ∷ r) in
    let other : List ℕ = post_text n.what ++ (10 ∷ s) in
    let reports = spaced_told k l (decimal m.poster ++ (codes ":" ++ (decimal m.sequence ++ (codes " " ++ what)))) (decimal n.poster ++
    (codes ":" ++ (decimal n.sequence ++ (codes " " ++ other)))) few less
    (sym (posted (decimal k) (decimal m.poster) (decimal m.sequence) (post_text m.what) (10 ∷ r)) ∙ ap (λ x. drop 6 x) same ∙ posted
    (decimal l) (decimal n.poster) (decimal n.sequence) (post_text n.what) (10 ∷ s)) in
    let posters = colon_told m.poster n.poster (decimal m.sequence ++ (codes " " ++ what)) (decimal n.sequence ++ (codes " " ++ other))
    small.0 little.0 reports.1 in
    let sequences = spaced_told m.sequence n.sequence what other small.1 little.1 posters.1 in
    let posts = posts_parted m.what n.what r s small.2 little.2 sequences.1 in
    (reports.0, λ i. record { poster = posters.0 i; sequence = sequences.0 i; what = posts.0 i }, posts.1)
