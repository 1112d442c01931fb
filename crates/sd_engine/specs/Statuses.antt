-- The statuses as numbers and names.
use Rattle.std.specs.Prelude.{ℕ, List, codes}
use Rattle.sd_engine.specs.declared.status.Status.{Status}
use Rattle.sd_engine.specs.declared.status.Status.TheVariants.{Done, Refused, Usage, ReadFault, WriteFault, OutOfMemory, TooLong, BadScenario, DriverFailed}

-- the exit status of a status
abbrev pub number_of : Status → ℕ
number_of Done = 0
number_of Refused = 1
number_of Usage = 2
number_of ReadFault = 3
number_of WriteFault = 4
number_of OutOfMemory = 5
number_of TooLong = 6
number_of BadScenario = 7
number_of DriverFailed = 8

-- its name
abbrev pub name_of : Status → List ℕ
name_of Done = codes "Done"
name_of Refused = codes "Refused"
name_of Usage = codes "Usage"
name_of ReadFault = codes "ReadFault"
name_of WriteFault = codes "WriteFault"
name_of OutOfMemory = codes "OutOfMemory"
name_of TooLong = codes "TooLong"
name_of BadScenario = codes "BadScenario"
name_of DriverFailed = codes "DriverFailed"
