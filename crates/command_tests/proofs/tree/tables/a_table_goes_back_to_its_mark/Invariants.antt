use Rattle.command_tests.proofs.tree.tables.a_table_goes_back_to_its_mark.Given as goal

abbrev pub ghosts-grown_and_back : goal.ghosts-grown_and_back
ghosts-grown_and_back g a = record { name = a.blank.name; parts = a.blank.parts }
