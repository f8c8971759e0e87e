use Rattle.std.proofs.Common.{◌≡◌, length, ℕ, ◌+◌, get_or, sym, ap, subst, arith}
use Rattle.std.proofs.lemmas.List.{length-append, length_push}
use Rattle.onfi_problem.specs.declared.lun_state.LunState.{LunState}
use Rattle.onfi_problem.specs.Checks.{IsLun}
use Rattle.onfi_problem.proofs.Sums.{lun_at}
use Rattle.onfi_problem.proofs.Listed.{states_more}
use Rattle.onfi_problem.proofs.table.open_luns.Goals as goal

pub open_lun-requires-clause-lun : goal.open_lun-requires-clause-lun
open_lun-requires-clause-lun c =
    let x = c.index-states-at.result in
    let rules = c.args.rules.now in
    let z : 0 + c.loop-at.at ≡ c.loop-at.at = omega arith in
    let a = lun_at rules 0 c.args.states.now c.loop-at.at x c.requires.luns c.loop-at-test.true in
    let b = subst (λ (n : ℕ). IsLun rules n (get_or c.args.states.now c.loop-at.at x)) z a in
    subst (λ (y : LunState). IsLun rules c.loop-at.at y) (sym c.index-states-at.is) b

pub loop-at-preserved : goal.loop-at-preserved
loop-at-preserved c =
    let g = c.in_ok-lun.ensures.grown in
    let few = c.loop-at.invariant.few in
    let l = length-append c.loop-at.groups.items g.0 in
    let n = ap length g.1 in
    let m = g.2 in
    let luns = c.loop-at.invariant.luns in
    rw c.push.ensures.items (record {
      states = states_more c.loop-at.groups.items c.open_lun.new.groups.items g.0 c.loop-at.luns.items c.args.states.now c.loop-at.at c.index-states-at.result c.in_ok-lun.lun c.loop-at-test.true c.index-states-at.is g.1 c.loop-at.invariant.states c.in_ok-lun.ensures.state;
      few = omega arith;
      luns = let k = length_push c.loop-at.luns.items c.in_ok-lun.lun in omega arith;
    })
