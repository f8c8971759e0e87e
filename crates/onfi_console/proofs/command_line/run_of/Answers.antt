use Rattle.std.proofs.Common.{refl}
use Rattle.clap.proofs.WalkLemmas.{first_value-rows}
use Rattle.onfi_console.proofs.command_line.run_of.Goals as goal

pub returns-clause-named : goal.returns-clause-named
returns-clause-named c =
    let by = rw first_value-rows at c.in_ok-by.ensures in
    let early = rw first_value-rows at c.in_ok-early.ensures.value in
    let limit = rw first_value-rows at c.in_ok-limit.ensures.value in
    let clock = rw first_value-rows at c.in_ok-clocked.ensures in
    (refl, record { is_by = by; is_early = early; plans = c.in_ok-early.ensures.plans; is_limit = limit; is_clock = clock })
