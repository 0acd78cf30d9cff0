use Rattle.core_tests.proofs.piece_tests.second_pixel.Given as goal

abbrev pub ghosts-committed : goal.ghosts-committed
ghosts-committed g a = record { name = a.blank.name; parts = a.blank.parts }
