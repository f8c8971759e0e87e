use Rattle.std.proofs.Common.{◌≡◌, codes, refl, sym, ◌∙◌}
use Rattle.clap.specs.Words.{found_of, rows_of}
use Rattle.clap.proofs.WalkLemmas.{first_value-rows}
use Rattle.onfi_console.specs.Words as spec
use Rattle.onfi_console.proofs.command_line.check_command.Goals as goal

pub check_by-requires-clause-judged : goal.check_by-requires-clause-judged
check_by-requires-clause-judged c =
    let legal : c.is_given-legal.result ≡ spec.given (codes "legal") (rows_of (found_of c.args.used.now)) = rw first_value-rows at c.is_given-legal.ensures in
    sym legal ∙ c.if-not-legal.true

pub check_by-requires-clause-former : goal.check_by-requires-clause-former
check_by-requires-clause-former c =
    let remember : c.is_given-remember.result ≡ spec.given (codes "remember") (rows_of (found_of c.args.used.now)) = rw first_value-rows at c.is_given-remember.ensures in
    sym remember

pub returns-clause-command : goal.returns-clause-command
returns-clause-command c =
    let legal : c.is_given-legal.result ≡ spec.given (codes "legal") (rows_of (found_of c.args.used.now)) = rw first_value-rows at c.is_given-legal.ensures in
    let remember : c.is_given-remember.result ≡ spec.given (codes "remember") (rows_of (found_of c.args.used.now)) = rw first_value-rows at c.is_given-remember.ensures in
    let by = rw first_value-rows at c.in_ok-leave_out.ensures in
    (refl, refl, sym legal ∙ c.if-not-legal.false, sym remember ∙ c.if-remember.false, by)
