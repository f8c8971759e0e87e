use Rattle.std.proofs.Common.{◌∙◌}
use Rattle.std.specs.Prelude.{codes, string_bytes}
use Rattle.onfi_param.specs.Fields.{column_cycles, row_cycles}
use Rattle.onfi_console.specs.Described.{cycle_lines}
use Rattle.onfi_console.proofs.Appended.{two_lines}
use Rattle.onfi_console.proofs.device.put_cycles.Goals as goal

pub returns : goal.returns
unfolding cycle_lines
returns c =
    let page = c.args.page.now in
    two_lines c.put_line-2.result (string_bytes c.args.text.now) (string_bytes c.put_line.new.text) (string_bytes c.put_line-2.new.text)
    (codes "column-address-cycles,") (codes "row-address-cycles,") c.from.result c.from-2.result (column_cycles page) (row_cycles page)
    (c.from.ensures ∙ c.column_cycles.ensures.value) (c.from-2.ensures ∙ c.row_cycles.ensures.value) c.in_ok-put_line.ensures c.put_line-2.ensures
