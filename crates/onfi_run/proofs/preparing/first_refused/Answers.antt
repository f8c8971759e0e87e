use Rattle.std.proofs.Common.{sym, ap, ◌∙◌}
use Rattle.onfi_run.specs.Prepared.{row_fault}
use Rattle.onfi_run.proofs.Rows.{fine_so_far, refused_here, all_fine}
use Rattle.onfi_run.proofs.preparing.first_refused.Goals as goal

pub returns-in-Some : goal.returns-in-Some
returns-in-Some c =
    let b = c.args.bounds.now in
    refused_here b.channels b.hosts b.geometry c.args.rows.now c.loop-at.at c.index-rows-at.result c.in-Some.fault c.loop-at-test.true
    (sym c.in-Some.is ∙ c.in_ok-fault.ensures ∙ ap (row_fault b.channels b.hosts b.geometry) c.index-rows-at.is) c.loop-at.invariant

pub loop-at-preserved : goal.loop-at-preserved
loop-at-preserved c =
    let b = c.args.bounds.now in
    fine_so_far b.channels b.hosts b.geometry c.args.rows.now c.loop-at.at c.index-rows-at.result c.loop-at-test.true
    (sym c.in_default.is ∙ c.in_ok-fault.ensures ∙ ap (row_fault b.channels b.hosts b.geometry) c.index-rows-at.is) c.loop-at.invariant

pub returns : goal.returns
returns c =
    let b = c.args.bounds.now in
    all_fine b.channels b.hosts b.geometry c.args.rows.now c.loop-at.at c.loop-at-test.false c.loop-at.invariant
