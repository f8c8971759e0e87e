use Rattle.std.proofs.Common.{◌++◌, ◌/◌, ◌%◌}
use Rattle.std.specs.Prelude.{codes, string_bytes}
use Rattle.onfi_console.specs.Described.{line, feature_lines}
use Rattle.onfi_console.proofs.Appended.{behind, put_behind}
use Rattle.onfi_console.proofs.device.put_features.Goals as goal

pub returns : goal.returns
unfolding feature_lines
returns c =
    let features = c.args.features in
    let text = string_bytes c.args.text.now in
    let first = string_bytes c.put_line.new.text in
    let second = string_bytes c.put_line-2.new.text in
    let wide = line (codes "wide-bus,") (features % 2) in
    let several = line (codes "several-luns,") (features / 2 % 2) in
    put_behind c.put_line-3.result text second (string_bytes c.put_line-3.new.text) (wide ++ several) (line (codes "any-page-order,") (features / 4 % 2))
    (behind text first second wide several c.in_ok-put_line.ensures c.in_ok-put_line-2.ensures) c.put_line-3.ensures
