use Rattle.std.proofs.Common.{◌≡◌, refl, ap, ◌∙◌}
use Rattle.onfi_chip.specs.Chip.{Chip, Failures, no_failures}
use Rattle.onfi_chip.specs.Numbers.{failed}
use Rattle.onfi_chip.specs.Sim.{chip_of}
use Rattle.onfi_chip.proofs.sim.SimChip.new.Goals as goal

pub returns-clause-opened : goal.returns-clause-opened
returns-clause-opened c =
    let told : Failures = record {
      bus = failed c.new-3.result.failing.items c.new-3.result.made;
      unready = failed c.new-4.result.failing.items c.new-4.result.made;
    } in
    let none : told ≡ no_failures = rw (c.new-3.ensures.none, c.new-4.ensures.none) refl in
    ap (λ (f : Failures). record (chip_of c.in_ok-dies.dies) { failures = f }) none
    ∙ ap (λ (chip : Chip). record chip { failures = no_failures }) c.in_ok-dies.ensures
