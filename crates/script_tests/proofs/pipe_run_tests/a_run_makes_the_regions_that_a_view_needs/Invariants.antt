use Rattle.script_tests.proofs.pipe_run_tests.a_run_makes_the_regions_that_a_view_needs.Given as goal

-- the ledger is that of the blank
abbrev pub ghosts-shown : goal.ghosts-shown
ghosts-shown g a = record { name = a.blank.name; parts = a.blank.parts }
