use Rattle.std.proofs.Common.{map}
use Rattle.std.specs.Prelude.{string_bytes}
use Rattle.clap.specs.Words.{found_of, rows_of}
use Rattle.clap.proofs.WalkLemmas.{first_value-rows}
use Rattle.onfi_console.proofs.WordsLemmas.{named}
use Rattle.onfi_console.proofs.command_line.read_words.Goals as goal

pub returns-clause-asks : goal.returns-clause-asks
returns-clause-asks c =
    let script = rw first_value-rows at c.get_str.ensures in
    let plan = rw (first_value-rows, first_value-rows) at c.second_file.ensures in
    let trace = rw first_value-rows at c.get_str-2.ensures in
    let quiet = rw first_value-rows at c.is_given.ensures in
    named c.in-Ok.matches (map string_bytes c.args.words.now) c.in-Some.name.now (rows_of (found_of c.in-Some.used.now))
    (record { named = c.in-Ok-read_named.named; script = c.get_str.result; plan = c.second_file.result; trace_file = c.get_str-2.result; quiet = c.is_given.result })
    c.in-Ok.ensures c.in-Some.ensures.name c.in-Some.ensures.rows (record { is_named = c.in-Ok-read_named.ensures.named; is_script = script; is_plan = plan; is_trace = trace; is_quiet = quiet })
