use Rattle.std.proofs.Common.{List, ◌++◌, map, ap, ◌∙◌}
use Rattle.std.specs.List.{list_any}
use Rattle.claim_table.specs.Ordered.{last_of_each}
use Rattle.claim_table.specs.ClaimRows.{ClaimRows, is_wide}
use Rattle.kernel_tables.specs.declared.row.Row.{Row}
use Rattle.kernel_tables.specs.TableRows.{line_row, ports_row, device_row, param_row}
use Rattle.kernel_tables.proofs.Looking.{found_first, found_then, in_list}
use Rattle.kernel_tables.proofs.rows.claim.Goals as goal

abbrev param_rows : ClaimRows → List Row
param_rows t = map param_row (last_of_each t.params)

abbrev device_rows : ClaimRows → List Row
device_rows t = map device_row t.devices

abbrev ports_rows : ClaimRows → List Row
ports_rows t = map ports_row t.ports

abbrev line_rows : ClaimRows → List Row
line_rows t = map line_row t.lines

pub range-requires : goal.range-requires
range-requires c = ap (list_any is_wide) c.ports.ensures.value ∙ c.ports.ensures.narrow

pub returns-in-At : goal.returns-in-At
returns-in-At c =
    let t = c.args.claims.now in
    found_first (line_rows t) (ports_rows t ++ (device_rows t ++ param_rows t)) c.args.k c.line.result c.in-At.row
    (in_list line_row _ t.lines c.args.k c.line.result c.line.ensures c.lines.ensures) c.in-At.is

pub returns-in-At-range : goal.returns-in-At-range
returns-in-At-range c =
    let t = c.args.claims.now in
    found_then (line_rows t) (ports_rows t ++ (device_rows t ++ param_rows t)) c.args.k c.in-Past.past c.line.result _
    (in_list line_row _ t.lines c.args.k c.line.result c.line.ensures c.lines.ensures) c.in-Past.is
    (found_first (ports_rows t) (device_rows t ++ param_rows t) c.in-Past.past c.range.result c.in-At-range.row
    (in_list ports_row _ t.ports c.in-Past.past c.range.result c.range.ensures c.ports.ensures.value) c.in-At-range.is)

pub returns-in-At-device : goal.returns-in-At-device
returns-in-At-device c =
    let t = c.args.claims.now in
    found_then (line_rows t) (ports_rows t ++ (device_rows t ++ param_rows t)) c.args.k c.in-Past.past c.line.result _
    (in_list line_row _ t.lines c.args.k c.line.result c.line.ensures c.lines.ensures) c.in-Past.is
    (found_then (ports_rows t) (device_rows t ++ param_rows t) c.in-Past.past c.in-Past-range.past c.range.result _
    (in_list ports_row _ t.ports c.in-Past.past c.range.result c.range.ensures c.ports.ensures.value) c.in-Past-range.is
    (found_first (device_rows t) (param_rows t) c.in-Past-range.past c.device.result c.in-At-device.row
    (in_list device_row _ t.devices c.in-Past-range.past c.device.result c.device.ensures c.devices.ensures) c.in-At-device.is))

pub returns : goal.returns
returns c =
    let t = c.args.claims.now in
    found_then (line_rows t) (ports_rows t ++ (device_rows t ++ param_rows t)) c.args.k c.in-Past.past c.line.result _
    (in_list line_row _ t.lines c.args.k c.line.result c.line.ensures c.lines.ensures) c.in-Past.is
    (found_then (ports_rows t) (device_rows t ++ param_rows t) c.in-Past.past c.in-Past-range.past c.range.result _
    (in_list ports_row _ t.ports c.in-Past.past c.range.result c.range.ensures c.ports.ensures.value) c.in-Past-range.is
    (found_then (device_rows t) (param_rows t) c.in-Past-range.past c.in-Past-device.past c.device.result _
    (in_list device_row _ t.devices c.in-Past-range.past c.device.result c.device.ensures c.devices.ensures) c.in-Past-device.is
    (in_list param_row _ (last_of_each t.params) c.in-Past-device.past c.param.result c.param.ensures c.latest_params.ensures)))
