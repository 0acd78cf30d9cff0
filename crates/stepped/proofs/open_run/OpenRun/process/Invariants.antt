use Rattle.stepped.proofs.open_run.OpenRun.process.Given as goal

abbrev pub ghosts-process : goal.ghosts-process
ghosts-process g a = record { name = a.blank.name; parts = a.blank.parts }
