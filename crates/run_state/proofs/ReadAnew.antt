-- Commands in turn, and those that reset a reactive context and read into it, which are one change of it.
use Rattle.std.proofs.Common.{◌≡◌, ℕ, ◌+◌, ◌<◌, ◌≤◌, Bool, true, false, List, [], ◌∷◌, ◌++◌, ◌||◌, length, get_or, drop, map, refl, sym, ap, ◌∙◌}
use Rattle.std.specs.Prelude.{Option, Some, None, if◌then◌else◌}
use Rattle.std.proofs.lemmas.List.{drop_more, map-append}
use Rattle.rt_cells.specs.declared.sources.Source.{Source}
use Rattle.rt_model.specs.Lists.{at, put}
use Rattle.rt_model.specs.Tree.{Types}
use Rattle.rt_model.specs.World as world
use Rattle.rt_model.specs.State as model
use Rattle.rt_model.specs.Commands.{change_context, command, commands, one_more_source}
use Rattle.rt_model.proofs.Maps.{at_put_here, eq_same}
use Rattle.run_records.specs.Records.{source_of}
use Rattle.run_state.specs.Anew.{read_anew, reading_of}
use Rattle.run_state.specs.Sources.{joined, joined_all}
use Rattle.run_state.proofs.Contexts.{joined-is}
use Rattle.run_state.proofs.Each.{drop-all}
use Rattle.run_state.proofs.Rereads.{put_over}

-- one more source is read in a loop
pub read_step : (xs : List Source) (i : ℕ) (d : Source) (b : Bool) (old new : List Source) → i < length xs → new ≡ (if b then joined old (get_or xs i d) else old)
    → (if b then joined_all new (drop (i + 1) xs) else new) ≡ (if b then joined_all old (drop i xs) else old)
read_step xs i d true old new within is = ap (λ ys. joined_all ys (drop (i + 1) xs)) is ∙ ap (λ zs. joined_all old zs) (sym (drop_more xs i d within))
read_step xs i d false old new within is = is

-- and at its end all are
pub read_end : (xs : List Source) (i : ℕ) (b : Bool) (now all : List Source) → length xs ≤ i → (if b then joined_all now (drop i xs) else now) ≡ all → now ≡ all
read_end xs i true now all end is = sym (ap (λ zs. joined_all now zs) (drop-all xs i end)) ∙ is
read_end xs i false now all end is = is

-- what is read after a beginning
pub begun_then : (b : Bool) (old now xs : List Source) → now ≡ (if b then [] else old) → (if b then joined_all now xs else now) ≡ (if b then joined_all [] xs else old)
begun_then true old now xs is = ap (λ ys. joined_all ys xs) is
begun_then false old now xs is = is

module _ {K : Types} where
  -- commands in turn
  pub commands_append : (app : world.Application K) (w : model.State K) (s : ℕ) (polled : Option ℕ) (cs ds : List (world.Command K))
      → commands app w s polled (cs ++ ds) ≡ commands app (commands app w s polled cs) s polled ds
  commands_append app w s polled [] ds = refl
  commands_append app w s polled (c ∷ cs) ds = commands_append app (command app w s polled c) s polled cs ds

  -- one more source is left to be read
  pub one_more_read : (former n : ℕ) (old new : List Source) (x : Source) → former ≡ n → new ≡ old ++ x ∷ []
      → read_anew {K = K} n new ≡ read_anew former old ++ reading_of n x ∷ []
  one_more_read former n old new x same is =
      ap (λ (ys : List Source). read_anew {K = K} n ys) is
      ∙ ap (λ (cs : List (world.Command K)). world.Reset n ∷ cs) (map-append (reading_of {K = K} n) old (x ∷ []))
      ∙ ap (λ (m : ℕ). read_anew {K = K} m old ++ reading_of n x ∷ []) (sym same)

  abbrev with_contexts : model.State K → List (ℕ × model.ContextRow K) → model.State K
  with_contexts w cs = record w { contexts = cs }

  abbrev changed_found : model.State K → ℕ → (model.ContextRow K → model.ContextRow K) → Option (model.ContextRow K) → model.State K
  changed_found w n f found = elim found [ None ↦ w | Some x ↦ record w { contexts = put w.contexts n (f x) } ]

  -- two changes of one context are one
  context_twice : (w : model.State K) (n : ℕ) (f h k : model.ContextRow K → model.ContextRow K) → ((x : model.ContextRow K) → h (f x) ≡ k x)
      → change_context (change_context w n f) n h ≡ change_context w n k
  context_twice w n f h k same = by (at w.contexts n) refl
    where
      by : (o : Option (model.ContextRow K)) → at w.contexts n ≡ o → change_context (changed_found w n f o) n h ≡ changed_found w n k o
      by None e = ap (λ o. changed_found w n h o) e
      by (Some x) e =
          ap (λ o. changed_found (with_contexts w (put w.contexts n (f x))) n h o) (at_put_here w.contexts n (f x) n (eq_same n))
          ∙ ap (λ es. with_contexts w es) (put_over w.contexts n (f x) (h (f x)))
          ∙ ap (λ (y : model.ContextRow K). with_contexts w (put w.contexts n y)) (same x)

  -- a context with other sources
  abbrev with_sources : List Source → model.ContextRow K → model.ContextRow K
  with_sources xs x = record x { sources = map source_of xs }

  module _ (app : world.Application K) (s : ℕ) (polled : Option ℕ) (n : ℕ) where
    -- sources that are read into a context in turn
    reads_on : (w : model.State K) (ys xs : List Source)
        → commands app (change_context w n (λ x. with_sources ys x)) s polled (map (reading_of n) xs)
        ≡ change_context w n (λ x. with_sources (joined_all ys xs) x)
    reads_on w ys [] = refl
    reads_on w ys (y ∷ xs) =
        ap (λ (v : model.State K). commands app v s polled (map (reading_of n) xs))
        (context_twice w n (λ x. with_sources ys x) (λ x. record x { sources = one_more_source x.sources (source_of y) }) (λ x. with_sources (joined ys y) x)
        (λ x. ap (λ (zs : List world.Source). let z : model.ContextRow K = record x { sources = zs } in z) (sym (joined-is ys y))))
        ∙ reads_on w (joined ys y) xs

    -- a reset and what is read then are one change
    pub anew_is : (w : model.State K) (xs : List Source) → commands app w s polled (read_anew n xs) ≡ change_context w n (λ x. with_sources (joined_all [] xs) x)
    anew_is w xs = reads_on w [] xs
