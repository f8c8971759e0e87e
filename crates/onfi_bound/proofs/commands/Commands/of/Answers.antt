use Rattle.std.proofs.Common.{◌∙◌, ap, arith}
use Rattle.onfi_group.specs.Words.{total}
use Rattle.onfi_problem.specs.declared.moves.Lun.{Lun}
use Rattle.onfi_problem.specs.Position.{waiting_of}
use Rattle.onfi_bound.specs.Commands.{one_of}
use Rattle.onfi_bound.proofs.Parts.{place_at}
use Rattle.onfi_bound.proofs.Counting.{one_lun, all_counted}
use Rattle.onfi_bound.proofs.commands.Commands.of.Goals as goal

pub with_lun-counts-requires-clause-place : goal.with_lun-counts-requires-clause-place
with_lun-counts-requires-clause-place c =
    let x = c.args.problem.now in
    let blank : Lun = record { next = 0; place = 0; time = 0 } in
    rw c.groups-groups.ensures.value (place_at x.problem x.groups c.luns-lun-items.result.now c.loop-lun.lun-index blank c.in_limits.ensures.limits c.luns-lun-items.ensures.states c.loop-lun-test.true)

pub loop-lun-preserved : goal.loop-lun-preserved
loop-lun-preserved c =
    let x = c.args.problem.now in
    let blank : Lun = record { next = 0; place = 0; time = 0 } in
    record {
      same = λ operation. one_lun operation x.groups _ c.luns-lun-items.result.now c.loop-lun.lun-index blank _ _ _ c.loop-lun-test.true c.groups-groups.ensures.value (c.loop-lun.invariant.same operation) (c.with_lun-counts.ensures.counts operation);
      few = λ operation. (let f = c.loop-lun.invariant.few operation in let g = c.with_lun-counts.ensures.few operation in omega arith);
    }

pub returns : goal.returns
returns c = λ operation.
    let x = c.args.problem.now in
    let first = c.of_wants-counts.ensures.counts operation ∙ (ap (λ z. total (one_of operation) (waiting_of c.waiting.result.now z)) c.wants.ensures.value ∙ ap (total (one_of operation)) c.waiting.ensures.value) in
    all_counted operation x.problem x.groups c.luns-lun-items.result.now c.luns-lun-items.ensures.states c.loop-lun.lun-index _ _ c.loop-lun-test.false (c.loop-lun.invariant.same operation) first
