use Rattle.std.proofs.Common.{◌≡◌, length, sym, ap, ◌∙◌, subst, arith}
use Rattle.std.proofs.lemmas.List.{length-map}
use Rattle.onfi_problem.specs.declared.moves.Lun.{Lun}
use Rattle.onfi_problem.specs.Position.{state_of}
use Rattle.onfi_bound.specs.Loads.{IsTally}
use Rattle.onfi_bound.proofs.Tallying.{state_at}
use Rattle.onfi_bound.proofs.Parts.{place_at}
use Rattle.onfi_bound.proofs.tally.Tally.of.Goals as goal

abbrev none : Lun
none = record { next = 0; place = 0; time = 0 }

pub add_lun-requires-clause-place : goal.add_lun-requires-clause-place
add_lun-requires-clause-place c =
    let x = c.args.problem.now in
    place_at x.problem x.groups c.luns-state-items.result.now c.loop-lun.lun none c.in_limits.ensures.limits c.luns-state-items.ensures.states c.loop-lun-test.true

pub add_lun-requires-clause-state : goal.add_lun-requires-clause-state
add_lun-requires-clause-state c = state_at c.args.problem.now.groups c.luns-state-items.result.now c.args.problem.now.problem.luns c.loop-lun.lun none c.luns-state-items.ensures.states c.loop-lun-test.true

pub returns : goal.returns
returns c =
    let x = c.args.problem.now in
    let luns = c.luns-state-items.result.now in
    let many : length luns ≡ length x.problem.luns = sym (length-map luns (state_of x.groups)) ∙ ap length c.luns-state-items.ensures.states in
    let all : c.loop-lun.lun ≡ length x.problem.luns = omega (arith, many, c.loop-lun-test.false, c.loop-lun.auto.lun-end) in
    subst (λ n. IsTally x.problem n c.loop-lun.tally) all c.loop-lun.invariant
