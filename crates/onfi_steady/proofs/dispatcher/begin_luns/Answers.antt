use Rattle.std.proofs.Common.{arith}
use Rattle.onfi_steady.specs.Selecting.{IsBegunAt}
use Rattle.onfi_steady.proofs.Beginning.{each_below, one_set}
use Rattle.onfi_steady.proofs.dispatcher.begin_luns.Goals as goal

pub loop-at-init : goal.loop-at-init
loop-at-init c = record { begun = λ i h. absurd (omega arith) }

pub loop-at-preserved : goal.loop-at-preserved
loop-at-preserved c = record {
  begun = one_set (IsBegunAt c.args.spans.now c.args.luns.now) c.loop-at.books c.loop-at.at _ (let t = c.loop-at-test.true in let s = c.loop-at.auto.books in omega arith) c.begin_lun.ensures c.loop-at.invariant.begun;
}

pub returns-clause-few : goal.returns-clause-few
returns-clause-few c = let s = c.loop-at.auto.books in let f = c.requires.few in omega arith

pub returns-clause-begun : goal.returns-clause-begun
returns-clause-begun c =
    each_below (IsBegunAt c.args.spans.now c.args.luns.now) c.loop-at.books c.loop-at.at (let t = c.loop-at-test.false in let s = c.loop-at.auto.books in omega arith) c.loop-at.invariant.begun
