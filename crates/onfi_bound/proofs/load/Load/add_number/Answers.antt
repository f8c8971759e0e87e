use Rattle.std.proofs.Common.{◌<◌, length, sym, ap, ◌∙◌, subst, arith}
use Rattle.std.specs.List.{AllByRecursion as All}
use Rattle.onfi_problem.specs.Problem.{IsWant}
use Rattle.onfi_problem.specs.Position.{waiting_of}
use Rattle.onfi_bound.proofs.Steps.{no_want}
use Rattle.onfi_bound.proofs.Loading.{waits_at, marked}
use Rattle.onfi_bound.proofs.load.Load.add_number.Goals as goal

pub add-requires-clause-want : goal.add-requires-clause-want
add-requires-clause-want c =
    let long = ap length c.wants-wants.ensures.value in
    let waits = ap (waiting_of c.waiting.result.now) c.wants-wants.ensures.value ∙ c.waiting.ensures.value in
    let legal = subst (All IsWant) (sym waits) c.in_limits.ensures.limits.problem.wants in
    waits_at IsWant c.waiting.result.now c.wants-wants.result.now c.args.number no_want (omega arith) c.if-not-waits.false legal

pub add-requires-clause-lun : goal.add-requires-clause-lun
add-requires-clause-lun c =
    let p = c.args.problem.now.problem in
    let long = ap length c.wants-wants.ensures.value in
    let waits = ap (waiting_of c.waiting.result.now) c.wants-wants.ensures.value ∙ c.waiting.ensures.value in
    let there = subst (All (λ w. w.lun < length p.luns)) (sym waits) c.in_limits.ensures.limits.problem.in_range in
    let h = waits_at (λ w. w.lun < length p.luns) c.waiting.result.now c.wants-wants.result.now c.args.number no_want (omega arith) c.if-not-waits.false there in
    omega arith

pub returns : goal.returns
returns c =
    let x = c.args.problem.now in
    let long = ap length c.wants-wants.ensures.value in
    let before = c.deref.ensures.0 ∙ (c.list_marked.ensures.wants ∙ ap (waiting_of c.args.self.now.marks) c.wants-wants.ensures.value) in
    let more = rw (c.timing-timing.ensures, c.rules-rules.ensures, c.wants-wants.ensures.value) at c.add.ensures.load in
    marked x c.args.number c.args.self.now c.add.new.self no_want c.deref.result.now (omega arith) c.requires.number before c.add.ensures.marks c.requires.load more
