use Rattle.stepped.proofs.open_run.plan.Given as goal

abbrev pub ghosts-planned : goal.ghosts-planned
ghosts-planned a = record { name = a.blank.name; parts = a.blank.parts }
