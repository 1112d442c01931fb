use Rattle.kernel_tests.proofs.caps.four_full_owners_are_taken_back_in_each_order.Given as goal

abbrev pub ghosts-each_order : goal.ghosts-each_order
ghosts-each_order g a = record { name = a.blank.name; parts = a.blank.parts }
