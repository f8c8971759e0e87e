use Rattle.std.proofs.Common.{refl}
use Rattle.clap.proofs.WalkLemmas.{first_value-rows}
use Rattle.onfi_console.proofs.command_line.plan_of.Goals as goal

pub returns-clause-named : goal.returns-clause-named
returns-clause-named c =
    let by = rw first_value-rows at c.in_ok-by.ensures in
    let early = rw first_value-rows at c.is_given-early.ensures in
    let limit = rw first_value-rows at c.in_ok-limit.ensures.value in
    let workers = rw first_value-rows at c.in_ok-workers.ensures.value in
    let trace = rw first_value-rows at c.output_of-output.ensures in
    let output = rw first_value-rows at trace in
    (refl, record { is_by = by; is_early = early; is_limit = limit; is_workers = workers; is_output = output })
