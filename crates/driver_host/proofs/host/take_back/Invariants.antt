use Rattle.driver_host.proofs.host.take_back.Given as goal

abbrev pub ghosts-take_back_tables : goal.ghosts-take_back_tables
ghosts-take_back_tables a = record { name = a.blank.name; parts = a.blank.parts }
