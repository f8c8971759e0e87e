use Rattle.std.proofs.Common.{◌++◌, List, length, drop, take, ap, ◌∙◌, arith}
use Rattle.std.proofs.lemmas.List.{length-take}
use Rattle.onfi_calls.specs.declared.channel.PlainWant.{PlainWant}
use Rattle.onfi_calls.proofs.StepTaken.{step_given, step_there}
use Rattle.onfi_calls.proofs.ran.run_due.Goals as goal

pub bounds-channel-from : goal.bounds-channel-from
bounds-channel-from c =
    let channel = c.args.channel.now in
    let there = step_there channel (take c.args.count.now c.args.wants.now) c.args.schedule.now c.args.lun c.args.number c.args.started c.in-Some.step c.from.result c.in-Some.ensures c.from.ensures in
    let taken = length-take channel.lun_count channel.lun in
    omega (arith, there, taken)

pub returns-in-Some : goal.returns-in-Some
returns-in-Some c =
    step_given c.args.channel.now c.args.wants.now c.args.count.now c.args.schedule.now c.args.lun c.args.number c.args.started c.in-Some.step c.wants_left-left.result.items
    c.delay_schedule.result c.from.result c.len.result c.put.new.room c.in-Some.ensures c.wants_left-left.ensures c.delay_schedule.ensures c.from.ensures c.len.ensures.value
    (c.put.ensures ∙ ap (λ (xs : List PlainWant). xs ++ drop (length xs) c.args.wants.now) c.as_slice.ensures.value)
