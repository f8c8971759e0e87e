use Rattle.std.proofs.Common.{[], ap, ◌∙◌}
use Rattle.std.specs.Prelude.{slice_index_or}
use Rattle.onfi_calls.specs.declared.schedule.PlainRest.{PlainRest}
use Rattle.onfi_calls.specs.ReadSchedule.{rest_of}
use Rattle.onfi_calls.proofs.RanInPlace.{first_starts, next_starts}
use Rattle.onfi_calls.proofs.delay.starts_due.Goals as goal

pub returns-in-Some-clause-value : goal.returns-in-Some-clause-value
returns-in-Some-clause-value c = λ wants.
    c.starts_in.ensures.value ∙ first_starts wants c.args.rest.now c.args.groups.now c.args.due.now.lun c.in-Some.at _ c.args.due.now.place c.in-Some.is (c.requires.place c.in-Some.at c.in-Some.is)

pub returns-in-None-clause-value : goal.returns-in-None-clause-value
returns-in-None-clause-value c = λ wants.
    let d : PlainRest = record { starts = 0; start = [] } in
    c.starts_left.ensures.value ∙ ap (λ i. rest_of (slice_index_or c.args.rest.now i d)) c.from.ensures
    ∙ next_starts wants c.args.rest.now c.args.groups.now c.args.due.now.lun d c.args.due.now.place c.in-None.is c.requires.lun
