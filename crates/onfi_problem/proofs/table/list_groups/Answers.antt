use Rattle.std.proofs.Common.{◌≡◌, ◌<◌, ◌++◌, length, ap, arith, length-set}
use Rattle.onfi_problem.proofs.Listed.{own_more, opened_more, last_more, grown_more}
use Rattle.onfi_problem.proofs.table.list_groups.Goals as goal

pub loop-lun-preserved : goal.loop-lun-preserved
loop-lun-preserved c =
    let i = c.loop-lun.invariant in
    let rules = c.args.rules.now in
    let all = c.args.wants.now in
    let old = c.args.groups.now.items in
    let groups = c.loop-lun.groups.items in
    let own = c.in_ok-own.own.items in
    let first = c.loop-lun.first in
    let lun = c.loop-lun.lun in
    let e = c.in_ok-append.ensures.items in
    let n : c.len.result ≡ length (groups ++ own) = let k = c.len.ensures in let o = c.append.new.self.ok.0 in let q = ap length e in omega arith in
    let few : lun < 8 = let a = c.loop-lun-test.true in let b = c.requires.luns in omega arith in
    rw (e, n) (record {
      opened = opened_more rules all old groups own first lun i.last i.long few i.opened;
      last = last_more rules all old groups own first lun i.last i.long few;
      long = simp length-set i.long;
      own = own_more rules all old groups own first lun i.last i.long few i.own c.in_ok-own.ensures.candidates;
      grown = grown_more rules all old groups own first lun i.last i.long few i.grown.0 i.grown.1;
    })
