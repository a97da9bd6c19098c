-- A patch that goes on from its start to its end writes what the definitions write of the two trees.
use Rattle.std.specs.Prelude.{ℕ, true, false, List, [], ◌++◌, map, None, ◌≡◌, ◌≢◌}
use Rattle.rt_model.specs.Caused.{Both, Written, tree_written}
use Rattle.rt_model.specs.Document.{Edit, Forest}
use Rattle.rt_model.specs.Lists.{joined}
use Rattle.rt_model.specs.OneLog.{types}
use Rattle.rt_model.specs.Run.{child_at}
use Rattle.rt_model.specs.Tree.{Tree, Spot, node_at, component_at}
use Rattle.rt_model.specs.View.{tree_view}
use Rattle.rt_model.specs.World.{Application}
use Rattle.law_moves.specs.Meets.{ChildBrings, TreeMeets, tree_claims}
use Rattle.law_moves.specs.Settings.{Brings}
use Rattle.tree_marks.specs.Marks.{Mark, tree_marks}
use Rattle.tree_marks.specs.Spots.{brings}
use Rattle.run_places.specs.Places.{side_of}
use Rattle.run_shown.specs.Given.{given_to}
use Rattle.run_shown.specs.Tops.{tops_of}
use Rattle.run_shown.specs.Unknowns.{is_given}
use Rattle.law_patch.specs.Fresh.{all_fresh}
use Rattle.rt_tree.specs.declared.patch.Patch.{Patch}
use Rattle.rt_tree.specs.declared.step.PatchStep.{PatchStep}
use Rattle.rt_tree.specs.declared.step.PatchStep.TheVariants as s
use Rattle.rt_tree.specs.Awaits.{awaited, no_answer}
use Rattle.rt_tree.specs.Runs.{Runs, edits_of}
use Rattle.rt_tree.specs.Served.{edits_in, edits_left, marks_left}
use Rattle.law_served.specs.KnownSpots.{Each, KnownAt, StartsWith}

module _ {P C Q V H T E L : Type 0} where
  -- no child scope stands there yet
  abbrev pub FreeAt : Patch P C Q V H T E L → Spot (types C Q V H T E L) → Type 0
  FreeAt p (node_at q k) = Unit {0}
  FreeAt p (component_at q c) = child_at (side_of p.new.side).children q ≡ None

  -- a patch at its start, whose marks are those of two trees: it knows what stays, and has no child scope where one comes new
  pub record Starts (app : Application (types C Q V H T E L)) (p : Patch P C Q V H T E L)
      (new old : Tree (types C Q V H T E L)) : Type 0 where
    pub free : awaited p.phase ≡ no_answer
    pub shown : p.shown ≡ true
    pub none : edits_left p ≡ []
    pub marks : marks_left p ≡ tree_marks app [] new old
    pub known : StartsWith (λ q s. KnownAt q s) (λ m. brings m) p (marks_left p)
    pub apart : Each (λ q s. FreeAt q s) p (all_fresh (marks_left p))

  -- one at its end: nothing is left, and each child scope whose nodes were given shows something
  pub record Ends (r : Patch P C Q V H T E L) : Type 0 where
    pub marks : marks_left r ≡ []
    pub edits : edits_left r ≡ []
    pub some : (t : ℕ) → is_given r.given t ≡ true → tops_of (given_to r.given t) ≢ []

  -- both blocks in the end, by what their child scopes show before and after, and by what fed ones write
  abbrev pub both_end : Patch P C Q V H T E L → (ℕ → Forest) → (ℕ → Forest) → (ℕ → Written) → Both (types C Q V H T E L)
  both_end r before after under = record {
    old = side_of r.old;
    new = side_of r.new.side;
    old_child = before;
    new_child = after;
    under = under;
    stop = None;
    on_way = λ t. false;
  }

  -- the nodes that were given for a scope are those that it shows, and no fed one is refused a place
  pub record Shows (r : Patch P C Q V H T E L) (before after : ℕ → Forest) (under : ℕ → Written) : Type 0 where
    pub old : (t : ℕ) → is_given r.given t ≡ true → given_to r.given t ≡ before t
    pub new : (t : ℕ) → is_given r.given t ≡ true → given_to r.given t ≡ after t
    pub goes_on : (t : ℕ) → (under t).stopped ≡ false

  -- what a fed child scope writes stands at its step
  abbrev pub fed_in : (ℕ → Written) → PatchStep P C Q V H T E L → List Edit
  fed_in under (s.Feed t component) = (under t.0).edits
  fed_in under (s.Make component) = []
  fed_in under (s.Nodes t) = []
  fed_in under (s.Edit edit) = []
  fed_in under (s.Remove t) = []
  fed_in under (s.Drawn id places path) = []
  fed_in under (s.Gone id) = []
  fed_in under s.Done = []

  -- the edits of steps, with those of fed child scopes
  abbrev pub edits_with : (ℕ → Written) → List (PatchStep P C Q V H T E L) → List Edit
  edits_with under ss = joined (map (λ step. edits_in step ++ fed_in under step) ss)

-- it writes what the definitions write
module _ (P : Type 0) {C Q V H T E L : Type 0} where
  abbrev pub RunIsWritten : Application (types C Q V H T E L) → Type 0
  RunIsWritten app =
      (p r : Patch P C Q V H T E L) (ss : List (PatchStep P C Q V H T E L))
      (met : List (Mark (types C Q V H T E L) × Patch P C Q V H T E L))
      (new old : Tree (types C Q V H T E L)) (before after : ℕ → Forest) (under : ℕ → Written)
      → Runs app p ss met r
      → Starts app p new old
      → Ends r
      → Shows r before after under
      → edits_with under ss ≡ (tree_written app (both_end r before after under) [] new old).edits

  -- and where the trees meet that makes what the new one shows of what the old one showed, in every setting
  abbrev pub RunBrings : Application (types C Q V H T E L) → Type 0
  RunBrings app =
      (p r : Patch P C Q V H T E L) (ss : List (PatchStep P C Q V H T E L))
      (met : List (Mark (types C Q V H T E L) × Patch P C Q V H T E L))
      (new old : Tree (types C Q V H T E L)) (before after : ℕ → Forest) (under : ℕ → Written) (claims : ℕ → ℕ → ℕ)
      → Runs app p ss met r
      → Starts app p new old
      → Ends r
      → Shows r before after under
      → TreeMeets app (both_end r before after under) (λ t. ChildBrings (both_end r before after under) claims t) [] new old
      → Brings
      (edits_with under ss)
      (tree_view (side_of r.old) before [] old)
      (tree_view (side_of r.new.side) after [] new)
      (λ n. tree_claims app (both_end r before after under) claims n [] new old)

  -- where the block isn't shown no edit is given
  abbrev pub RunHides : Application (types C Q V H T E L) → Type 0
  RunHides app =
      (p r : Patch P C Q V H T E L) (ss : List (PatchStep P C Q V H T E L))
      (met : List (Mark (types C Q V H T E L) × Patch P C Q V H T E L))
      → Runs app p ss met r
      → p.shown ≡ false
      → edits_left p ≡ []
      → edits_of ss ≡ []
