-- The names are those that were given.
use Rattle.graph_text.proofs.graph_reading.read_graph.Given as goal

abbrev pub ghosts-read_named : goal.ghosts-read_named
ghosts-read_named a = record { names = a.names.now }
