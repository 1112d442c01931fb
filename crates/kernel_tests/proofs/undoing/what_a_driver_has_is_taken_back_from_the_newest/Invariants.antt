use Rattle.kernel_tests.proofs.undoing.what_a_driver_has_is_taken_back_from_the_newest.Given as goal

abbrev pub ghosts-three_histories : goal.ghosts-three_histories
ghosts-three_histories g a = record { name = a.blank.name; parts = a.blank.parts }
