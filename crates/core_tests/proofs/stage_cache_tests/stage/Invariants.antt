use Rattle.core_tests.proofs.stage_cache_tests.stage.Given as goal

abbrev pub ghosts-committed : goal.ghosts-committed
ghosts-committed g a = record { name = a.blank.name; parts = a.blank.parts }
