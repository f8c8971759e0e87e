use Rattle.std.proofs.Common.{◌≡◌, ◌+◌, sym, arith}
use Rattle.onfi_bound.specs.Bounds.{lead}
use Rattle.onfi_bound.proofs.Ends.{lead_small}
use Rattle.onfi_bound.proofs.Whole.{lead_some}
use Rattle.onfi_bound.proofs.left.Sums.lead.Goals as goal

pub overflow_add-result : goal.overflow_add-result
overflow_add-result c =
    let p = c.args.problem.now.problem in
    let e : c.in-Some.start + c.args.self.now.posts ≡ lead p = lead_some p c.in-Some.start _ c.args.first c.requires.first (sym c.in-Some.is) c.requires.sums.posts in
    let h = lead_small p c.bus_free-bus_free.ensures.limits in
    omega arith

pub returns-in-Some-clause-small : goal.returns-in-Some-clause-small
returns-in-Some-clause-small c =
    let p = c.args.problem.now.problem in
    let e : c.in-Some.start + c.args.self.now.posts ≡ lead p = lead_some p c.in-Some.start _ c.args.first c.requires.first (sym c.in-Some.is) c.requires.sums.posts in
    let h = lead_small p c.bus_free-bus_free.ensures.limits in
    omega arith
