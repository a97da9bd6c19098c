-- The pieces of scopes, one after another.
use Rattle.std.proofs.Common.{◌≡◌, ℕ, ◌+◌, ◌<◌, ◌≤◌, suc, Bool, true, false, List, [], ◌∷◌, ◌++◌, length, map, take, drop, get_or, Option, Some, Result, Ok, Err, refl, ap, sym, ◌∙◌, append_assoc, append-nil, subst, take-append-drop, length-append, arith}
use Rattle.std.proofs.Math.Seq.{take-suc}
use Rattle.std.proofs.lemmas.List.{take_all}
use Rattle.std.specs.Prelude.{◌&&◌, IfSome}
use Rattle.rt_lemmas.proofs.Bools.{and_false}
use Rattle.rt_html.specs.Spelling.{are_namable, piece_html}
use Rattle.rt_html.specs.declared.error.HtmlError.{HtmlError}
use Rattle.rt_html.specs.declared.error.HtmlError.TheVariants as spellings
use Rattle.rt_model.proofs.Maps.{pick_false, pick_true}
use Rattle.rt_model.specs.Lists.{Text}
use Rattle.rt_model.specs.State.{State, is_live}
use Rattle.rt_model.specs.Tree.{Types}
use Rattle.rt_model.specs.View.{nodes_of}
use Rattle.show_streams.specs.Writes.{AddsFront, Puts, Writes, grown}
use Rattle.show_streams.specs.declared.out.OutError.{OutError}
use Rattle.show_streams.specs.declared.out.OutError.TheVariants as outs
use Rattle.rt_values.specs.declared.names.ScopeId.{ScopeId}
use Rattle.rt_served.specs.Faults.{html_fault, put_fault}
use Rattle.rt_served.specs.Serving.{are_spelt, is_spelt, page, piece, pieces}
use Rattle.rt_served.specs.Stood.{PutBy, PutsTexts}
use Rattle.rt_served.specs.declared.refusal.ServeFault.{ServeFault}
use Rattle.rt_served.specs.declared.refusal.ServeFault.TheVariants as faults
use Rattle.rt_served.proofs.Fronts.{front_after, front_first, front_more, front_none, front_whole, grown_both, grown_none}

-- memory was wanting before anything was put
pub wanting : {A : Type 0} (texts : List Text) (spelt : Bool) (old : Puts) (before : ℕ)
    → PutsTexts {A = A} texts spelt old old before before (Err faults.OutOfMemory)
wanting texts spelt old before = record { ok = tt; front = front_none old texts; later = omega arith; cause = tt }

-- what holds of what may be there holds of what is there
pub some_of : {X : Type 0} (o : Option X) (x : X) (P : X → Type 0) → o ≡ Some x → IfSome o P → P x
some_of {X = X} o x P is h = subst (λ (v : Option X). IfSome v P) is h

-- nodes couldn't be spelt
pub unspelt : {A : Type 0} (texts : List Text) (spelt : Bool) (old : Puts) (before : ℕ) (error : HtmlError)
    → (error ≡ spellings.BadName → spelt ≡ false)
    → PutsTexts {A = A} texts spelt old old before before (Err (html_fault error))
unspelt texts spelt old before spellings.BadName bad =
    record { ok = tt; front = front_none old texts; later = omega arith; cause = bad refl }
unspelt texts spelt old before spellings.OutOfMemory bad = wanting texts spelt old before

-- the out refused a text, or there was no memory for it
unput : {A : Type 0} (text : Text) (spelt : Bool) (old new : Puts) (before after : ℕ) (error : OutError)
    → Writes (text ∷ []) old new before after (Err error)
    → PutsTexts {A = A} (text ∷ []) spelt old new before after (Err (put_fault error))
unput text spelt old new before after outs.Failed w = record { ok = tt; front = w.front; later = w.later; cause = w.cause refl }
unput text spelt old new before after outs.OutOfMemory w = record { ok = tt; front = w.front; later = w.later; cause = tt }

-- a text was put
put_one : {A : Type 0} (text : Text) (spelt : Bool) (old new : Puts) (before after : ℕ) (answer : A)
    → Writes (text ∷ []) old new before after (Ok tt)
    → PutsTexts (text ∷ []) spelt old new before after (Ok answer)
put_one text spelt old new before after answer w = record { ok = w.ok; front = w.front; later = w.later; cause = tt }

-- another spelling of the texts and of whether they are spelt
putting : {A : Type 0} (texts others : List Text) (spelt other : Bool) (old new : Puts) (before after : ℕ) (result : Result A ServeFault)
    → others ≡ texts → other ≡ spelt
    → PutsTexts texts spelt old new before after result → PutsTexts others other old new before after result
putting texts others spelt other old new before after result same alike puts =
    subst (λ (t : List Text). PutsTexts t other old new before after result) (sym same)
    (subst (λ (b : Bool). PutsTexts texts b old new before after result) (sym alike) puts)

module _ {K : Types} (w : State K) where
  -- a live scope has one piece, and another one has none
  piece_live : (s : ℕ) → is_live w s ≡ true → piece w s ≡ piece_html s (nodes_of w s) ∷ []
  piece_live s live = pick_true (piece_html s (nodes_of w s) ∷ []) [] live

  piece_gone : (s : ℕ) → is_live w s ≡ false → piece w s ≡ []
  piece_gone s gone = pick_false (piece_html s (nodes_of w s) ∷ []) [] gone

  spelt_live : (s : ℕ) → is_live w s ≡ true → is_spelt w s ≡ are_namable (nodes_of w s)
  spelt_live s live = pick_true (are_namable (nodes_of w s)) true live

  -- nothing is put of a scope that isn't live
  pub nothing_put : (s : ℕ) (old : Puts) (before : ℕ) → is_live w s ≡ false
      → PutsTexts {A = ℕ} (piece w s) (is_spelt w s) old old before before (Ok 0)
  nothing_put s old before gone =
      putting [] (piece w s) (is_spelt w s) (is_spelt w s) old old before before (Ok 0) (piece_gone s gone) refl
      (record { ok = sym (grown_none old); front = front_none old []; later = omega arith; cause = tt })

  pub none_counted : (s : ℕ) → is_live w s ≡ false → 0 ≡ length (piece w s)
  none_counted s gone = ap length (sym (piece_gone s gone))

  -- the piece of a live one can't be spelt
  pub piece_unspelt : (s : ℕ) (old : Puts) (before : ℕ) (error : HtmlError) → is_live w s ≡ true
      → (error ≡ spellings.BadName → are_namable (nodes_of w s) ≡ false)
      → PutsTexts {A = ℕ} (piece w s) (is_spelt w s) old old before before (Err (html_fault error))
  piece_unspelt s old before error live bad =
      unspelt (piece w s) (is_spelt w s) old before error (λ is. spelt_live s live ∙ bad is)

  -- it is refused by the out, or is put
  pub piece_unput : (s : ℕ) (text : Text) (old new : Puts) (before after : ℕ) (error : OutError) → is_live w s ≡ true
      → text ≡ piece_html s (nodes_of w s)
      → Writes (text ∷ []) old new before after (Err error)
      → PutsTexts {A = ℕ} (piece w s) (is_spelt w s) old new before after (Err (put_fault error))
  piece_unput s text old new before after error live is writes =
      putting (text ∷ []) (piece w s) (is_spelt w s) (is_spelt w s) old new before after (Err (put_fault error))
      (piece_live s live ∙ ap (λ (t : Text). t ∷ []) (sym is)) refl (unput text (is_spelt w s) old new before after error writes)

  pub piece_put : (s : ℕ) (text : Text) (old new : Puts) (before after : ℕ) → is_live w s ≡ true
      → text ≡ piece_html s (nodes_of w s)
      → Writes (text ∷ []) old new before after (Ok tt)
      → PutsTexts {A = ℕ} (piece w s) (is_spelt w s) old new before after (Ok 1)
  piece_put s text old new before after live is writes =
      putting (text ∷ []) (piece w s) (is_spelt w s) (is_spelt w s) old new before after (Ok 1)
      (piece_live s live ∙ ap (λ (t : Text). t ∷ []) (sym is)) refl (put_one text (is_spelt w s) old new before after 1 writes)

  pub one_counted : (s : ℕ) → is_live w s ≡ true → 1 ≡ length (piece w s)
  one_counted s live = ap length (sym (piece_live s live))

  -- so is the page
  pub page_unput : (text : Text) (old new : Puts) (before after : ℕ) (error : OutError)
      → text ≡ page w
      → Writes (text ∷ []) old new before after (Err error)
      → PutsTexts {A = Unit {0}} (page w ∷ []) (are_namable (nodes_of w 0)) old new before after (Err (put_fault error))
  page_unput text old new before after error is writes =
      putting (text ∷ []) (page w ∷ []) (are_namable (nodes_of w 0)) (are_namable (nodes_of w 0)) old new before after (Err (put_fault error))
      (ap (λ (t : Text). t ∷ []) (sym is)) refl (unput text (are_namable (nodes_of w 0)) old new before after error writes)

  pub page_put : (text : Text) (old new : Puts) (before after : ℕ)
      → text ≡ page w
      → Writes (text ∷ []) old new before after (Ok tt)
      → PutsTexts {A = Unit {0}} (page w ∷ []) (are_namable (nodes_of w 0)) old new before after (Ok tt)
  page_put text old new before after is writes =
      putting (text ∷ []) (page w ∷ []) (are_namable (nodes_of w 0)) (are_namable (nodes_of w 0)) old new before after (Ok tt)
      (ap (λ (t : Text). t ∷ []) (sym is)) refl (put_one text (are_namable (nodes_of w 0)) old new before after tt writes)

  -- scopes and then others
  pieces_both : (a b : List ℕ) → pieces w (a ++ b) ≡ pieces w a ++ pieces w b
  pieces_both [] b = refl
  pieces_both (s ∷ a) b = ap (λ (t : List Text). piece w s ++ t) (pieces_both a b) ∙ sym (append_assoc (piece w s) (pieces w a) (pieces w b))

  -- a name that can't be spelt in the pieces of one of them
  unspelt_in : (a : List ℕ) (s : ℕ) (b : List ℕ) → is_spelt w s ≡ false → are_spelt w (a ++ s ∷ b) ≡ false
  unspelt_in [] s b bad = ap (λ (x : Bool). x && are_spelt w b) bad
  unspelt_in (x ∷ a) s b bad = ap (λ (y : Bool). is_spelt w x && y) (unspelt_in a s b bad) ∙ and_false (is_spelt w x)

  -- those so far were put
  pub record PutSoFar (scopes : List ℕ) (old now : Puts) (before after count : ℕ) : Type 0 where
    pub put : now ≡ grown old (pieces w scopes)
    pub later : before ≤ after
    pub counted : count ≡ length (pieces w scopes)

  pub none_put : (old : Puts) (before : ℕ) → PutSoFar [] old old before before 0
  none_put old before = record { put = sym (grown_none old); later = omega arith; counted = refl }

  -- the next one was put, too
  more_put : (a : List ℕ) (s : ℕ) (old mid now : Puts) (before between after count own all : ℕ)
      → PutSoFar a old mid before between count
      → PutsTexts (piece w s) (is_spelt w s) mid now between after (Ok own)
      → own ≡ length (piece w s)
      → all ≡ count + own
      → PutSoFar (a ++ s ∷ []) old now before after all
  more_put a s old mid now before between after count own all first second is total = record {
    put =
        second.ok ∙ ap (λ (o : Puts). grown o (piece w s)) first.put ∙ grown_both old (pieces w a) (piece w s)
        ∙ ap (λ (t : List Text). grown old t) (sym (one_more a s));
    later = omega (arith, first.later, second.later);
    counted = total ∙ ap (λ (n : ℕ). n + own) first.counted ∙ ap (λ (n : ℕ). length (pieces w a) + n) is
        ∙ sym (length-append (pieces w a) (piece w s)) ∙ ap length (sym (one_more a s));
  }
    where
      one_more : (a : List ℕ) (s : ℕ) → pieces w (a ++ s ∷ []) ≡ pieces w a ++ piece w s
      one_more a s = pieces_both a (s ∷ []) ∙ ap (λ (t : List Text). pieces w a ++ t) (append-nil (piece w s))

  -- it wasn't put, or not whole, and then none
  one_failed : (a : List ℕ) (s : ℕ) (b : List ℕ) (old mid now : Puts) (before between after count : ℕ) (fault : ServeFault)
      → PutSoFar a old mid before between count
      → PutsTexts {A = ℕ} (piece w s) (is_spelt w s) mid now between after (Err fault)
      → PutsTexts {A = ℕ} (pieces w (a ++ s ∷ b)) (are_spelt w (a ++ s ∷ b)) old now before after (Err fault)
  one_failed a s b old mid now before between after count fault first second = record {
    ok = tt;
    front =
        subst (λ (t : List Text). AddsFront old now t) (sym (pieces_both a (s ∷ b)))
        (front_after old mid now (pieces w a) (piece w s ++ pieces w b) first.put (front_more mid now (piece w s) (pieces w b) second.front));
    later = omega (arith, first.later, second.later);
    cause = caused fault second.cause;
  }
    where
      caused : (f : ServeFault) → PutBy (is_spelt w s) between after f → PutBy (are_spelt w (a ++ s ∷ b)) before after f
      caused (faults.Run what) h = h
      caused faults.BadName h = unspelt_in a s b h
      caused faults.OutFault h = omega (arith, h, first.later)
      caused faults.OutOfMemory h = tt

  -- it was put, and its count is wanting
  one_uncounted : (a : List ℕ) (s : ℕ) (b : List ℕ) (old mid now : Puts) (before between after count own : ℕ)
      → PutSoFar a old mid before between count
      → PutsTexts (piece w s) (is_spelt w s) mid now between after (Ok own)
      → PutsTexts {A = ℕ} (pieces w (a ++ s ∷ b)) (are_spelt w (a ++ s ∷ b)) old now before after (Err faults.OutOfMemory)
  one_uncounted a s b old mid now before between after count own first second = record {
    ok = tt;
    front =
        subst (λ (t : List Text). AddsFront old now t) (sym (pieces_both a (s ∷ b)))
        (front_after old mid now (pieces w a) (piece w s ++ pieces w b) first.put (front_first mid now (piece w s) (pieces w b) second.ok));
    later = omega (arith, first.later, second.later);
    cause = tt;
  }

  -- all were put
  all_put : (scopes : List ℕ) (old now : Puts) (before after count : ℕ)
      → PutSoFar scopes old now before after count
      → PutsTexts (pieces w scopes) (are_spelt w scopes) old now before after (Ok count)
  all_put scopes old now before after count done = record {
    ok = done.put;
    front = front_whole old now (pieces w scopes) done.put;
    later = done.later;
    cause = tt;
  }

-- the numbers of scopes
abbrev pub numbers : List ScopeId → List ℕ
numbers scopes = map (λ scope. scope.0) scopes

numbers_both : (a b : List ScopeId) → numbers (a ++ b) ≡ numbers a ++ numbers b
numbers_both [] b = refl
numbers_both (s ∷ a) b = ap (λ (ns : List ℕ). s.0 ∷ ns) (numbers_both a b)

-- one more of them
numbers_more : (scopes : List ScopeId) (at : ℕ) (other : ScopeId) → at < length scopes
    → numbers (take (at + 1) scopes) ≡ numbers (take at scopes) ++ (get_or scopes at other).0 ∷ []
numbers_more scopes at other within =
    let one : at + 1 ≡ suc at = omega arith in
    ap (λ count. numbers (take count scopes)) one ∙ ap numbers (take-suc scopes at other within)
    ∙ numbers_both (take at scopes) (get_or scopes at other ∷ [])

-- those before one, it, and those after it
numbers_cut : (scopes : List ScopeId) (at : ℕ) (other : ScopeId) → at < length scopes
    → numbers scopes ≡ numbers (take at scopes) ++ (get_or scopes at other).0 ∷ numbers (drop (at + 1) scopes)
numbers_cut scopes at other within =
    ap numbers (sym (take-append-drop (at + 1) scopes)) ∙ numbers_both (take (at + 1) scopes) (drop (at + 1) scopes)
    ∙ ap (λ (ns : List ℕ). ns ++ numbers (drop (at + 1) scopes)) (numbers_more scopes at other within)
    ∙ append_assoc (numbers (take at scopes)) ((get_or scopes at other).0 ∷ []) (numbers (drop (at + 1) scopes))

module _ {K : Types} (w : State K) where
  -- the piece of the scope at a place was put
  pub scope_put : (scopes : List ScopeId) (at : ℕ) (other : ScopeId) (old mid now : Puts) (before between after count own all : ℕ)
      → at < length scopes
      → PutSoFar w (numbers (take at scopes)) old mid before between count
      → PutsTexts (piece w (get_or scopes at other).0) (is_spelt w (get_or scopes at other).0) mid now between after (Ok own)
      → own ≡ length (piece w (get_or scopes at other).0)
      → all ≡ count + own
      → PutSoFar w (numbers (take (at + 1) scopes)) old now before after all
  scope_put scopes at other old mid now before between after count own all within first second is total =
      subst (λ (ns : List ℕ). PutSoFar w ns old now before after all) (sym (numbers_more scopes at other within))
      (more_put w (numbers (take at scopes)) (get_or scopes at other).0 old mid now before between after count own all first second is total)

  -- it wasn't
  pub scope_failed : (scopes : List ScopeId) (at : ℕ) (other : ScopeId) (old mid now : Puts) (before between after count : ℕ)
      (fault : ServeFault)
      → at < length scopes
      → PutSoFar w (numbers (take at scopes)) old mid before between count
      → PutsTexts {A = ℕ} (piece w (get_or scopes at other).0) (is_spelt w (get_or scopes at other).0) mid now between after (Err fault)
      → PutsTexts {A = ℕ} (pieces w (numbers scopes)) (are_spelt w (numbers scopes)) old now before after (Err fault)
  scope_failed scopes at other old mid now before between after count fault within first second =
      subst (λ (ns : List ℕ). PutsTexts {A = ℕ} (pieces w ns) (are_spelt w ns) old now before after (Err fault))
      (sym (numbers_cut scopes at other within))
      (one_failed w (numbers (take at scopes)) (get_or scopes at other).0 (numbers (drop (at + 1) scopes)) old mid now before between after
      count fault first second)

  -- it was put, and isn't counted
  pub scope_uncounted : (scopes : List ScopeId) (at : ℕ) (other : ScopeId) (old mid now : Puts) (before between after count own : ℕ)
      → at < length scopes
      → PutSoFar w (numbers (take at scopes)) old mid before between count
      → PutsTexts (piece w (get_or scopes at other).0) (is_spelt w (get_or scopes at other).0) mid now between after (Ok own)
      → PutsTexts {A = ℕ} (pieces w (numbers scopes)) (are_spelt w (numbers scopes)) old now before after (Err faults.OutOfMemory)
  scope_uncounted scopes at other old mid now before between after count own within first second =
      subst (λ (ns : List ℕ). PutsTexts {A = ℕ} (pieces w ns) (are_spelt w ns) old now before after (Err faults.OutOfMemory))
      (sym (numbers_cut scopes at other within))
      (one_uncounted w (numbers (take at scopes)) (get_or scopes at other).0 (numbers (drop (at + 1) scopes)) old mid now before between
      after count own first second)

  -- all were put
  pub scopes_put : (scopes : List ScopeId) (at : ℕ) (old now : Puts) (before after count : ℕ) → length scopes ≤ at
      → PutSoFar w (numbers (take at scopes)) old now before after count
      → PutsTexts (pieces w (numbers scopes)) (are_spelt w (numbers scopes)) old now before after (Ok count)
  scopes_put scopes at old now before after count all done =
      all_put w (numbers scopes) old now before after count
      (subst (λ (ns : List ScopeId). PutSoFar w (numbers ns) old now before after count) (take_all at scopes all) done)

  -- and counted
  pub scopes_counted : (scopes : List ScopeId) (at : ℕ) (old now : Puts) (before after count : ℕ) → length scopes ≤ at
      → PutSoFar w (numbers (take at scopes)) old now before after count
      → count ≡ length (pieces w (numbers scopes))
  scopes_counted scopes at old now before after count all done =
      subst (λ (ns : List ScopeId). count ≡ length (pieces w (numbers ns))) (take_all at scopes all) done.counted
