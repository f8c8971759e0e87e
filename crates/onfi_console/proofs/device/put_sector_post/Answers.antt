use Rattle.std.proofs.Common.{◌++◌}
use Rattle.std.specs.Fmt.{decimal}
use Rattle.std.specs.Prelude.{codes, string_bytes}
use Rattle.onfi_console.specs.Described.{line, sector_post_row}
use Rattle.onfi_console.proofs.Appended.{put_behind}
use Rattle.onfi_console.proofs.device.put_sector_post.Goals as goal

pub returns : goal.returns
unfolding sector_post_row
returns c =
    put_behind c.put_line.result (string_bytes c.args.text.now) (string_bytes c.put_number.new.text) (string_bytes c.put_line.new.text)
    (codes "sectorpost," ++ decimal c.args.count) (line (codes ",") c.args.post) (rw c.from.ensures at c.in_ok-put_number.ensures) c.put_line.ensures
