use Rattle.std.proofs.Common.{rules, arith}
use Rattle.kernel_tables.specs.TableRows.{device_row}
use Rattle.kernel_tables.proofs.Looking.{at_row, past_place}
use Rattle.kernel_tables.proofs.rows.device.Goals as goal

pub returns-then-place-devices : goal.returns-then-place-devices
returns-then-place-devices c = past_place device_row c.args.devices.now c.args.k c.if-place-devices.true

pub returns : goal.returns
returns c = at_row device_row c.args.devices.now c.args.k (record { owner = 0; number = 0; detail = tt }) _ (omega arith) (search rules)
