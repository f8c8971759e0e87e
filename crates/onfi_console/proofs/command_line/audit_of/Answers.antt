use Rattle.std.proofs.Common.{◌≡◌, refl, sym, ◌∙◌, codes}
use Rattle.clap.specs.Words.{found_of, rows_of}
use Rattle.clap.proofs.WalkLemmas.{first_value-rows}
use Rattle.onfi_console.specs.Words as spec
use Rattle.onfi_console.proofs.command_line.audit_of.Goals as goal

pub audit_optimum_of-requires : goal.audit_optimum_of-requires
audit_optimum_of-requires c =
    let optimum : c.is_given-optimum.result ≡ spec.given (codes "optimum") (rows_of (found_of c.args.used.now)) = rw first_value-rows at c.is_given-optimum.ensures in
    sym optimum ∙ c.if-optimum.true

pub returns-clause-named : goal.returns-clause-named
returns-clause-named c =
    let rows = rows_of (found_of c.args.used.now) in
    let optimum : c.is_given-optimum.result ≡ spec.given (codes "optimum") rows = rw first_value-rows at c.is_given-optimum.ensures in
    let limit = rw first_value-rows at c.has_value.ensures in
    let csv = rw first_value-rows at c.is_given.ensures in (
      refl,
      record {
        no_optimum = sym optimum ∙ c.if-optimum.false;
        no_limit = sym limit ∙ c.if-has_value.false;
        no_table = sym csv ∙ c.if-is_given.false;
        is_all = c.in_ok-options.ensures.all;
        is_by_status = c.in_ok-options.ensures.by_status;
        is_tolerance = c.in_ok-options.ensures.tolerance;
        is_one_status = c.in_ok-options.ensures.one_status;
      },
    )
