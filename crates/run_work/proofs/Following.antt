-- States that come of one another by what is met, part after part.
use Rattle.std.proofs.Common.{List, [], ◌∷◌, ◌++◌, ◌≡◌, refl, sym, ◌∙◌, subst}
use Rattle.rt_model.specs.OneLog.{types}
use Rattle.rt_model.specs.World.{Application}
use Rattle.rt_model.specs.Laws.{Tests}
use Rattle.tree_marks.specs.Marks.{Mark}
use Rattle.run_work.specs.Met.{Follows, Meets}

module _ {M S : Type 0} (one : M → S → S → Type 0) where
  -- one thing
  pub met : (m : M) (a b : S) → one m a b → Follows one (m ∷ []) a b
  met m a b h = (b, h, refl)

  -- some things, and then others
  pub follows_both : (ms ns : List M) (a b c : S) → Follows one ms a b → Follows one ns b c → Follows one (ms ++ ns) a c
  follows_both [] ns a b c h g = subst (λ (x : S). Follows one ns x c) h g
  follows_both (m ∷ ms) ns a b c h g = (h.0, h.1, follows_both ms ns h.0 b c h.2 g)

  -- the same things
  pub told : (ms ns : List M) (a b : S) → Follows one ms a b → ms ≡ ns → Follows one ns a b
  told ms ns a b h same = subst (λ (xs : List M). Follows one xs a b) same h

  -- the same things, told of what is the same
  pub told_of : {A : Type 0} (ms : A → List M) (x y : A) (a b : S) → Follows one (ms x) a b → x ≡ y → Follows one (ms y) a b
  told_of {A = A} ms x y a b h same = subst (λ (z : A). Follows one (ms z) a b) same h

  -- the same thing, told of what is the same
  pub met_of : {A : Type 0} (m : A → M) (x y : A) (a b : S) → one (m x) a b → x ≡ y → one (m y) a b
  met_of {A = A} m x y a b h same = subst (λ (z : A). one (m z) a b) same h

  -- the old goes, the new comes, and behind both the one gives way to the other
  pub changes : (m w : M) (olds news : List M) (a b c d e : S) → one m a b → Follows one olds b c → Follows one news c d → one w d e
      → Follows one (m ∷ (olds ++ news) ++ w ∷ []) a e
  changes m w olds news a b c d e first gone came last =
      (b, first, follows_both (olds ++ news) (w ∷ []) b d e (follows_both olds news b c d gone came) (met w d e last))

  -- one part more, where it was known how all goes on from there
  pub one_more : (part left both whole : List M) (start a b : S) → both ≡ part ++ left
      → ((end : S) → Follows one both a end → Follows one whole start end)
      → Follows one part a b
      → (end : S) → Follows one left b end → Follows one whole start end
  one_more part left both whole start a b parts so_far here end rest =
      so_far end (told (part ++ left) both a end (follows_both part left a b end here rest) (sym parts))

  -- where nothing is left all was met
  pub all_met : (left whole : List M) (start a : S) → left ≡ []
      → ((end : S) → Follows one left a end → Follows one whole start end)
      → Follows one whole start a
  all_met left whole start a none so_far = so_far a (told [] left a a refl (sym none))

-- the same by marks that are these whatever the application

module _ {C Q V H T E L S : Type 0} (one : Mark (types C Q V H T E L) → S → S → Type 0) where
  -- the same marks
  pub meets_told : (fs gs : Application (types C Q V H T E L) → List (Mark (types C Q V H T E L))) (a b : S)
      → Meets one a b fs
      → ((app : Application (types C Q V H T E L)) → Tests C app.same_component → fs app ≡ gs app)
      → Meets one a b gs
  meets_told fs gs a b h same = (h.0, h.1, λ app tests. h.2 app tests ∙ same app tests)

  -- one mark, and then others
  pub meets_first : (m : Mark (types C Q V H T E L)) (fs : Application (types C Q V H T E L) → List (Mark (types C Q V H T E L))) (a b c : S)
      → one m a b → Meets one b c fs → Meets one a c (λ app. m ∷ fs app)
  meets_first m fs a b c first h = (m ∷ h.0, (b, first, h.1), λ app tests t. m ∷ h.2 app tests t)

  -- some marks, and then others
  pub meets_both : (fs gs : Application (types C Q V H T E L) → List (Mark (types C Q V H T E L))) (a b c : S)
      → Meets one a b fs → Meets one b c gs → Meets one a c (λ app. fs app ++ gs app)
  meets_both fs gs a b c h k =
      (h.0 ++ k.0, follows_both one h.0 k.0 a b c h.1 k.1, λ app tests t. h.2 app tests t ++ k.2 app tests t)

  -- one part more, where it was known how all goes on from there
  pub meets_more : (part left both whole : Application (types C Q V H T E L) → List (Mark (types C Q V H T E L))) (start a b : S)
      → ((app : Application (types C Q V H T E L)) → both app ≡ part app ++ left app)
      → ((end : S) → Meets one a end both → Meets one start end whole)
      → Meets one a b part
      → (end : S) → Meets one b end left → Meets one start end whole
  meets_more part left both whole start a b parts so_far here end rest =
      so_far end (meets_told (λ app. part app ++ left app) both a end (meets_both part left a b end here rest) (λ app tests. sym (parts app)))

  -- where nothing is left all was met
  pub meets_all : (left whole : Application (types C Q V H T E L) → List (Mark (types C Q V H T E L))) (start a : S)
      → ((app : Application (types C Q V H T E L)) → left app ≡ [])
      → ((end : S) → Meets one a end left → Meets one start end whole)
      → Meets one start a whole
  meets_all left whole start a none so_far = so_far a ([], refl, λ app tests. sym (none app))
