-- How long a command holds its LUN.
use Rattle.std.specs.Prelude.{ℕ, ◌+◌}
use Rattle.onfi_timing.specs.declared.spans.Spans.{Spans}
use Rattle.onfi_chip.specs.declared.closer.Closer.{Closer}
use Rattle.onfi_chip.specs.declared.closer.Closer.TheVariants.{More, Last}

-- the command and the wait after it, in ns
abbrev pub hold : Closer → Spans → ℕ
hold More spans = spans.cmd + spans.gap
hold Last spans = spans.cmd + spans.array
