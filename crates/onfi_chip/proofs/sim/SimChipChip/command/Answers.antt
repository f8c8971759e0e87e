use Rattle.std.proofs.Common.{refl, sym, ap, ◌∙◌}
use Rattle.onfi_request.specs.declared.request.Request.{Request}
use Rattle.onfi_chip.specs.declared.sim.SimChip.{SimChip}
use Rattle.onfi_chip.specs.Chip.{Chip}
use Rattle.onfi_chip.specs.Calls.{command_of}
use Rattle.onfi_chip.specs.Sim.{chip_of}
use Rattle.onfi_chip.specs.SimChip.{failures_of}
use Rattle.onfi_chip.proofs.SimCalls.{as_many, if_ok, if_err, in_range, request_is, has_done, by_closer}
use Rattle.onfi_chip.proofs.sim.SimChipChip.command.Goals as goal

pub returns-then-is_err-clause-err : goal.returns-then-is_err-clause-err
returns-then-is_err-clause-err c =
    ap (λ (chip : Chip). record chip { failures = failures_of c.args.self.now }) (if_err c.take.result (sym c.is_err.ensures.value ∙ c.if-is_err.true) c.take.ensures.err)

pub returns-clause-ok : goal.returns-clause-ok
returns-clause-ok c r h =
    let old = c.args.self.now in
    let place = c.place-place.ensures r.place (in_range old.dies.geometry r h.carried.fits) h.carried.row_is in
    let carried = request_is r c.args.opener c.place-place.result c.args.bytes.now h.carried.kind_is place h.carried.bytes_are in
    let took = if_ok c.take.result (sym c.is_err.ensures.value ∙ c.if-is_err.false) c.take.ensures.ok ∙ ap (λ (q : Request). command_of c.args.closer (chip_of old.dies) q c.args.now) carried in
    let fine = c.step-2.ensures.fine (sym c.fails.ensures.value ∙ c.if-fails.false) in
    let new : SimChip = record { dies = c.take.new.self; calls = c.step-2.new.self; statuses = old.statuses; arrays = old.arrays } in
    has_done old new (command_of c.args.closer (chip_of old.dies) r c.args.now) _ took (by_closer c.args.closer (chip_of old.dies) (failures_of old) r c.args.now)
    (as_many old new fine refl)
