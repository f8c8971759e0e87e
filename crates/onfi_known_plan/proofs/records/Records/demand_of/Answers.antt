use Rattle.std.proofs.Common.{◌≡◌, length, refl, subst, rules}
use Rattle.std.specs.Prelude.{slice_get, Some}
use Rattle.std.proofs.lemmas.Option.{slice_get_read}
use Rattle.onfi_known_plan.proofs.Again.{again_by}
use Rattle.onfi_known_plan.proofs.records.Records.demand_of.Goals as goal

pub returns : goal.returns
returns c =
    let node = c.in_ok-node.node.now in
    let nodes = c.deref.result.now in
    let at = c.in_ok-node.ensures.lookup.3 in
    let there = subst (λ z. slice_get z c.args.number ≡ Some node) c.deref.ensures.value (slice_get_read nodes (length nodes) c.args.number node refl at.0 (at.1 node)) in
    again_by c.args.problem.now.all c.args.problem.now.problem c.args.self.now.nodes.items c.args.number c.args.times.now node c.in_limits.ensures.limits c.requires.times there (search rules) (search rules)
