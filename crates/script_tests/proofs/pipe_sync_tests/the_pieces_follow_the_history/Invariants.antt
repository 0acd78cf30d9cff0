use Rattle.script_tests.proofs.pipe_sync_tests.the_pieces_follow_the_history.Given as goal

-- the ledger is that of the blank
abbrev pub ghosts-followed : goal.ghosts-followed
ghosts-followed g a = record { name = a.blank.name; parts = a.blank.parts }
