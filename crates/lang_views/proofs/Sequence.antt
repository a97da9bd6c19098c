-- Programs one after another: grouped either way they are the same, and nothing after a program changes nothing.
use Rattle.std.proofs.Common.{◌≡◌, refl}
use Rattle.rt_model.specs.Tree.{Types}
use Rattle.rt_model.specs.Program.{Program, done, current_scope, parent_scope, current_task, rendering, generation, read, error, consume_context, has_context, new_context, run_in, reset_and_run_in, leave, new_cell, write, drop_cell, spawn, remove_future, wake, set_active, queue_effect, after_suspense_resolved, freeze, provide, needs_update, captured, throw, clear_errors, hook_is_new, use_hook, use_effect}
use Rattle.rt_language.specs.Sequence.{go_on}

module _ {K : Types} {A B C : Type 0} where
  -- two groupings of three programs
  pub go_on-assoc : (p : Program K A) (f : A → Program K B) (g : B → Program K C) → go_on (go_on p f) g ≡ go_on p (λ x. go_on (f x) g)
  unfolding go_on
  go_on-assoc (done a) f g = refl
  go_on-assoc (current_scope next) f g = λ i. current_scope (λ x. go_on-assoc (next x) f g i)
  go_on-assoc (parent_scope next) f g = λ i. parent_scope (λ x. go_on-assoc (next x) f g i)
  go_on-assoc (current_task next) f g = λ i. current_task (λ x. go_on-assoc (next x) f g i)
  go_on-assoc (rendering next) f g = λ i. rendering (λ x. go_on-assoc (next x) f g i)
  go_on-assoc (generation next) f g = λ i. generation (λ x. go_on-assoc (next x) f g i)
  go_on-assoc (read n next) f g = λ i. read n (λ x. go_on-assoc (next x) f g i)
  go_on-assoc (error next) f g = λ i. error (λ x. go_on-assoc (next x) f g i)
  go_on-assoc (consume_context from k next) f g = λ i. consume_context from k (λ x. go_on-assoc (next x) f g i)
  go_on-assoc (has_context k next) f g = λ i. has_context k (λ x. go_on-assoc (next x) f g i)
  go_on-assoc (new_context t next) f g = λ i. new_context t (λ x. go_on-assoc (next x) f g i)
  go_on-assoc (run_in n rest) f g = λ i. run_in n (go_on-assoc rest f g i)
  go_on-assoc (reset_and_run_in n rest) f g = λ i. reset_and_run_in n (go_on-assoc rest f g i)
  go_on-assoc (leave rest) f g = λ i. leave (go_on-assoc rest f g i)
  go_on-assoc (new_cell v next) f g = λ i. new_cell v (λ x. go_on-assoc (next x) f g i)
  go_on-assoc (write n v rest) f g = λ i. write n v (go_on-assoc rest f g i)
  go_on-assoc (drop_cell n rest) f g = λ i. drop_cell n (go_on-assoc rest f g i)
  go_on-assoc (spawn a forever isomorphic next) f g = λ i. spawn a forever isomorphic (λ x. go_on-assoc (next x) f g i)
  go_on-assoc (remove_future t rest) f g = λ i. remove_future t (go_on-assoc rest f g i)
  go_on-assoc (wake t rest) f g = λ i. wake t (go_on-assoc rest f g i)
  go_on-assoc (set_active t b rest) f g = λ i. set_active t b (go_on-assoc rest f g i)
  go_on-assoc (queue_effect e rest) f g = λ i. queue_effect e (go_on-assoc rest f g i)
  go_on-assoc (after_suspense_resolved e rest) f g = λ i. after_suspense_resolved e (go_on-assoc rest f g i)
  go_on-assoc (freeze rest) f g = λ i. freeze (go_on-assoc rest f g i)
  go_on-assoc (provide root k v rest) f g = λ i. provide root k v (go_on-assoc rest f g i)
  go_on-assoc (needs_update s rest) f g = λ i. needs_update s (go_on-assoc rest f g i)
  go_on-assoc (captured text next) f g = λ i. captured text (λ x. go_on-assoc (next x) f g i)
  go_on-assoc (throw e rest) f g = λ i. throw e (go_on-assoc rest f g i)
  go_on-assoc (clear_errors rest) f g = λ i. clear_errors (go_on-assoc rest f g i)
  go_on-assoc (hook_is_new next) f g = λ i. hook_is_new (λ x. go_on-assoc (next x) f g i)
  go_on-assoc (use_hook k v next) f g = λ i. use_hook k v (λ x. go_on-assoc (next x) f g i)
  go_on-assoc (use_effect k e next) f g = λ i. use_effect k e (λ x. go_on-assoc (next x) f g i)

module _ {K : Types} {A : Type 0} where
  -- nothing after a program
  pub go_on-done : (p : Program K A) → go_on p (λ a. done a) ≡ p
  unfolding go_on
  go_on-done (done a) = refl
  go_on-done (current_scope next) = λ i. current_scope (λ x. go_on-done (next x) i)
  go_on-done (parent_scope next) = λ i. parent_scope (λ x. go_on-done (next x) i)
  go_on-done (current_task next) = λ i. current_task (λ x. go_on-done (next x) i)
  go_on-done (rendering next) = λ i. rendering (λ x. go_on-done (next x) i)
  go_on-done (generation next) = λ i. generation (λ x. go_on-done (next x) i)
  go_on-done (read n next) = λ i. read n (λ x. go_on-done (next x) i)
  go_on-done (error next) = λ i. error (λ x. go_on-done (next x) i)
  go_on-done (consume_context from k next) = λ i. consume_context from k (λ x. go_on-done (next x) i)
  go_on-done (has_context k next) = λ i. has_context k (λ x. go_on-done (next x) i)
  go_on-done (new_context t next) = λ i. new_context t (λ x. go_on-done (next x) i)
  go_on-done (run_in n rest) = λ i. run_in n (go_on-done rest i)
  go_on-done (reset_and_run_in n rest) = λ i. reset_and_run_in n (go_on-done rest i)
  go_on-done (leave rest) = λ i. leave (go_on-done rest i)
  go_on-done (new_cell v next) = λ i. new_cell v (λ x. go_on-done (next x) i)
  go_on-done (write n v rest) = λ i. write n v (go_on-done rest i)
  go_on-done (drop_cell n rest) = λ i. drop_cell n (go_on-done rest i)
  go_on-done (spawn a forever isomorphic next) = λ i. spawn a forever isomorphic (λ x. go_on-done (next x) i)
  go_on-done (remove_future t rest) = λ i. remove_future t (go_on-done rest i)
  go_on-done (wake t rest) = λ i. wake t (go_on-done rest i)
  go_on-done (set_active t b rest) = λ i. set_active t b (go_on-done rest i)
  go_on-done (queue_effect e rest) = λ i. queue_effect e (go_on-done rest i)
  go_on-done (after_suspense_resolved e rest) = λ i. after_suspense_resolved e (go_on-done rest i)
  go_on-done (freeze rest) = λ i. freeze (go_on-done rest i)
  go_on-done (provide root k v rest) = λ i. provide root k v (go_on-done rest i)
  go_on-done (needs_update s rest) = λ i. needs_update s (go_on-done rest i)
  go_on-done (captured text next) = λ i. captured text (λ x. go_on-done (next x) i)
  go_on-done (throw e rest) = λ i. throw e (go_on-done rest i)
  go_on-done (clear_errors rest) = λ i. clear_errors (go_on-done rest i)
  go_on-done (hook_is_new next) = λ i. hook_is_new (λ x. go_on-done (next x) i)
  go_on-done (use_hook k v next) = λ i. use_hook k v (λ x. go_on-done (next x) i)
  go_on-done (use_effect k e next) = λ i. use_effect k e (λ x. go_on-done (next x) i)
