use Rattle.std.proofs.Common.{◌≡◌, length, ap, subst, arith}
use Rattle.std.specs.Prelude.{IsTrue, ◌↔◌, map}
use Rattle.onfi_demand.specs.Left.{left_on}
use Rattle.onfi_demand.specs.Work.{left_of}
use Rattle.onfi_known_check.proofs.Marks.{described, not_described}
use Rattle.onfi_known_check.proofs.known.Known.describes.Goals as goal

pub returns-then-are_same : goal.returns-then-are_same
returns-then-are_same c =
    let count = ap length c.wants-count.ensures.value in
    let few = c.wants-count.ensures.few in
    let left = subst (λ z. IsTrue c.are_left.result ↔ (map left_of z ≡ map left_on c.args.problem.now.problem.luns)) c.as_slice.ensures.value c.are_left.ensures in
    described c.args.problem.now.all c.args.self.now c.args.problem.now.problem c.waiting.result.now _ c.are_same.result c.are_left.result count (omega (arith, c.are_same.ensures.marks)) (omega (arith, c.are_same.ensures.others)) c.requires c.waiting.ensures.value c.are_same.ensures.same left c.if-are_same.true

pub returns-else-are_same : goal.returns-else-are_same
returns-else-are_same c =
    let count = ap length c.wants-count.ensures.value in
    let few = c.wants-count.ensures.few in (
      λ t. cc,
      λ d. absurd (not_described c.args.problem.now.all c.args.self.now c.args.problem.now.problem c.waiting.result.now _ c.are_same.result count (omega (arith, c.are_same.ensures.marks)) (omega (arith, c.are_same.ensures.others)) c.requires c.waiting.ensures.value c.are_same.ensures.same c.if-are_same.false d),
    )
