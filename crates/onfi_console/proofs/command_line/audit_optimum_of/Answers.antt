use Rattle.std.proofs.Common.{◌≡◌, refl, subst, sym, codes, ◌∙◌}
use Rattle.std.specs.Prelude.{IfSome}
use Rattle.clap.specs.Words.{first_of, found_of, rows_of}
use Rattle.clap.proofs.WalkLemmas.{first_value-rows}
use Rattle.onfi_console.specs.Words as spec
use Rattle.onfi_console.proofs.command_line.audit_optimum_of.Goals as goal

pub returns-clause-named : goal.returns-clause-named
returns-clause-named c =
    let rows = rows_of (found_of c.args.used.now) in
    let named = rw first_value-rows at c.in_ok-nodes.ensures.value in
    let by_status = rw first_value-rows at c.is_given-by_status.ensures in
    let one_status = rw first_value-rows at c.is_given-one_status.ensures in
    let tolerance = rw first_value-rows at c.has_value.ensures in
    let csv = rw first_value-rows at c.is_given-csv.ensures in
    let same : c.unwrap-limit.result ≡ c.in_ok-nodes.nodes = subst (λ o. IfSome o (λ l. l ≡ c.in_ok-nodes.nodes)) c.unwrap-limit.ensures c.of.ensures.value in (
      refl,
      record {
        optimum = c.requires;
        stated = sym by_status ∙ c.if-by_status.false;
        no_tolerance = sym tolerance ∙ c.if-has_value.false;
        each_status = sym one_status ∙ c.if-one_status.false;
        is_limit = subst (λ n. spec.IsLimit 65536 (first_of (codes "limit") rows) n) (sym same) named;
        is_all = rw first_value-rows at c.is_given-all.ensures;
        is_table = csv;
      },
    )
