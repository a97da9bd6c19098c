-- What the program comes to, by what its parts come to.
use Rattle.std.proofs.Common.{◌≡◌, ◌≢◌, ◌⊎◌, ℕ, true, List, Option, Some, None, Result, Ok, Err, refl, sym, ◌∙◌, inl, inr}
use Rattle.rt_language.specs.Generated.{generated}
use Rattle.show_words.specs.Asked.{Asked, Lacks, alone}
use Rattle.show_words.specs.Words.{wish_of, reads_source, AskForSource}
use Rattle.show_words.specs.Runs.{Chooses, ReadsFor, Prints, PrintsFront}
use Rattle.rt_show.specs.Statuses.{Comes, Cut, ReadsAsked}
use Rattle.show_words.specs.declared.words.Wish.{Wish}
use Rattle.show_words.specs.declared.words.Wish.TheVariants.{Make}
use Rattle.show_words.specs.declared.reason.Stop.{Stop}
use Rattle.show_words.specs.declared.reason.Stop.TheVariants as stops
use Rattle.show_streams.specs.Writes.{Puts}

-- something is asked for, for which the source is read
pub asks : (words : List (List ℕ)) (wish : Wish) → wish_of words ≡ Some wish → reads_source wish ≡ true → AskForSource words
asks words wish asked reads = record { wish = wish; asked = asked; reads = reads }

pub asked_known : (words : List (List ℕ)) (wish : Wish) → wish_of words ≡ Some wish → wish_of words ≢ None
asked_known words wish asked unknown = absurd (cc (sym asked ∙ unknown))

-- the source may be read where it is asked for
pub reads_run : (words : List (List ℕ)) (wish : Wish) (left after : Option (List ℕ)) (sb sa : ℕ) → wish_of words ≡ Some wish
    → reads_source wish ≡ true → ReadsAsked words left after sb sa
reads_run words wish left after sb sa asked reads = inl (asks words wish asked reads)

-- else it stays as it was
pub reads_none : (words : List (List ℕ)) (left after : Option (List ℕ)) (sb sa : ℕ) → after ≡ left → sa ≡ sb → ReadsAsked words left after sb sa
reads_none words left after sb sa same none = inr (same, none)

-- reading stopped, and nothing was written
pub comes_reading : (words : List (List ℕ)) (wish : Wish) (left after : Option (List ℕ)) (old new : Puts) (sb sa ob oa : ℕ) (stop : Stop)
    → wish_of words ≡ Some wish → reads_source wish ≡ true → ReadsFor (Lacks wish) left after sb sa stop → new ≡ old
    → Comes words left after old new sb sa ob oa (Err stop)
unfolding asks
comes_reading words wish left after old new sb sa ob oa stops.Form asked reads read same = (asks words wish asked reads, read, same)
comes_reading words wish left after old new sb sa ob oa stops.Source asked reads read same = (asks words wish asked reads, read, same)
comes_reading words wish left after old new sb sa ob oa stops.OutOfMemory asked reads read same = (asked_known words wish asked, inl same)
comes_reading words wish left after old new sb sa ob oa stops.Words asked reads read same = absurd read
comes_reading words wish left after old new sb sa ob oa stops.Fault asked reads read same = absurd read
comes_reading words wish left after old new sb sa ob oa stops.Out asked reads read same = absurd read

little : (words : List (List ℕ)) (wish : Wish) (said : Asked) (left after : Option (List ℕ)) (old new : Puts) → wish_of words ≡ Some wish
    → Chooses wish said left after → ((new ≡ old) ⊎ PrintsFront wish said old new) → (new ≡ old) ⊎ Cut words left after old new
little words wish said left after old new asked chosen (inl same) = inl same
little words wish said left after old new asked chosen (inr front) =
    inr (record { wish = wish; asked = asked; said = said; chosen = chosen; prints = front })

-- what was chosen was done, or stopped
pub comes_printing : (words : List (List ℕ)) (wish : Wish) (said : Asked) (left after : Option (List ℕ)) (old new : Puts) (sb sa ob oa : ℕ)
    (result : Result (Unit {0}) Stop)
    → wish_of words ≡ Some wish → Chooses wish said left after → Prints wish said old new ob oa result
    → Comes words left after old new sb sa ob oa result
comes_printing words wish said left after old new sb sa ob oa (Ok u) asked chosen prints =
    record { wish = wish; asked = asked; said = said; chosen = chosen; prints = prints }
comes_printing words wish said left after old new sb sa ob oa (Err stops.Fault) asked chosen prints =
    record { wish = wish; asked = asked; said = said; chosen = chosen; prints = prints }
comes_printing words wish said left after old new sb sa ob oa (Err stops.Out) asked chosen prints =
    (prints.0, record { wish = wish; asked = asked; said = said; chosen = chosen; prints = prints.1 })
comes_printing words wish said left after old new sb sa ob oa (Err stops.OutOfMemory) asked chosen prints =
    (asked_known words wish asked, little words wish said left after old new asked chosen prints)
comes_printing words wish said left after old new sb sa ob oa (Err stops.Words) asked chosen prints = absurd prints
comes_printing words wish said left after old new sb sa ob oa (Err stops.Form) asked chosen prints = absurd prints
comes_printing words wish said left after old new sb sa ob oa (Err stops.Source) asked chosen prints = absurd prints

-- the generated application is chosen without a read
pub chooses_made : (rows : ℕ) (left after : Option (List ℕ)) → after ≡ left → Chooses (Make rows) (alone (generated rows)) left after
chooses_made rows left after same = (refl, same)

pub ruleset comings = (asks, reads_run, reads_none, comes_reading, comes_printing, chooses_made)
