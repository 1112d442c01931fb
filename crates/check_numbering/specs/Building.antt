-- The atoms and the checks of a function so far, as the rules pass them on.
use Rattle.check_numbering.specs.declared.build.Build.{Build}
use Rattle.deputy_rules.specs.Numbering.{Numbered}

abbrev pub numbers_of : Build → Numbered
numbers_of b = record { atoms = b.atoms; checks = b.checks }
