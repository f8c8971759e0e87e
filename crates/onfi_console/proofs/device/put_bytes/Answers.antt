use Rattle.std.proofs.Common.{arith}
use Rattle.std.proofs.lemmas.Grind.{common_steps}
use Rattle.std.specs.Prelude.{codes, string_bytes}
use Rattle.onfi_param.specs.Fields.{data_bytes, spare_bytes}
use Rattle.onfi_console.specs.Described.{byte_lines}
use Rattle.onfi_console.proofs.Appended.{two_lines}
use Rattle.onfi_console.proofs.device.put_bytes.Goals as goal

pub returns : goal.returns
unfolding byte_lines
returns c =
    let page = c.args.page.now in
    two_lines c.put_line-2.result (string_bytes c.args.text.now) (string_bytes c.put_line.new.text) (string_bytes c.put_line-2.new.text) (codes "data-bytes,")
    (codes "spare-bytes,") c.from.result c.from-2.result (data_bytes page) (spare_bytes page) (grind (arith, common_steps)) (grind (arith, common_steps))
    c.in_ok-put_line.ensures c.put_line-2.ensures
