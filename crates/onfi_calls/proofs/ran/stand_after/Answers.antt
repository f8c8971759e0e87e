use Rattle.std.proofs.Common.{◌∙◌, ap, map}
use Rattle.std.specs.Prelude.{slice_get}
use Rattle.onfi_flight.proofs.Lists.{index_get}
use Rattle.onfi_calls.specs.Ran.{lun_in}
use Rattle.onfi_calls.specs.PlainSchedule.{written_schedule, written_want}
use Rattle.onfi_calls.proofs.ran.stand_after.Goals as goal

pub returns : goal.returns
returns c = record {
  bus_free = c.bus_free.ensures;
  lun = λ state at.
      c.lun_in.ensures
      ∙ ap (λ x. lun_in x c.name_group.result)
      (c.index-luns-from.is
      ∙ index_get c.luns.result.now c.from.result state _
      (ap (λ xs. slice_get xs c.from.result) c.luns.ensures.value ∙ ap (slice_get c.args.flight.now.now.luns) c.from.ensures ∙ at))
      ∙ ap (lun_in state) c.name_group.ensures;
  wants = c.plain_wants.ensures ∙ ap (map written_want) c.wants.ensures.value;
  schedule = c.schedule.ensures ∙ ap written_schedule c.left.ensures;
}
