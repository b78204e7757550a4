-- The ledger is the one that the blank is of.
use Rattle.sweep_command.proofs.row.is_observable.Given as goal

abbrev pub ghosts-search : goal.ghosts-search
ghosts-search a = record { name = a.blank.name; parts = a.blank.parts }
