use Rattle.std.proofs.Common.{map}
use Rattle.std.specs.Prelude.{string_bytes}
use Rattle.onfi_console.proofs.ReadersLemmas.{asked_is_read}
use Rattle.onfi_console.proofs.command_line.words.Goals as goal

pub returns-in-Ok-clause-reads : goal.returns-in-Ok-clause-reads
returns-in-Ok-clause-reads c = asked_is_read (map string_bytes c.args.words.now) c.in-Ok.parsed c.in-Ok.ensures.asks
