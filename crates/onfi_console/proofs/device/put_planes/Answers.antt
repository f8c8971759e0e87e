use Rattle.std.proofs.Common.{◌/◌, ◌%◌}
use Rattle.std.specs.Prelude.{codes, string_bytes}
use Rattle.onfi_console.specs.Described.{line, plane_lines}
use Rattle.onfi_console.proofs.Appended.{put_behind}
use Rattle.onfi_console.proofs.device.put_planes.Goals as goal

pub returns : goal.returns
unfolding plane_lines
returns c =
    let features = c.args.features in
    put_behind c.put_line-2.result (string_bytes c.args.text.now) (string_bytes c.put_line.new.text) (string_bytes c.put_line-2.new.text)
    (line (codes "multi-plane-writes,") (features / 8 % 2)) (line (codes "multi-plane-reads,") (features / 64 % 2)) c.in_ok-put_line.ensures c.put_line-2.ensures
