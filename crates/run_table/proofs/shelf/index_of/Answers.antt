use Rattle.run_table.proofs.shelf.index_of.Goals as goal

pub rising_index-requires : goal.rising_index-requires
rising_index-requires g c = record { rises = c.requires.rises c.if-rising.true }
