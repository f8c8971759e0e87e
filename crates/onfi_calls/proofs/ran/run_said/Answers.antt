use Rattle.std.proofs.Common.{◌≡◌, ◌<◌, ◌≤◌, length, refl, rules, ap, ◌∙◌, subst, arith}
use Rattle.std.proofs.lemmas.List.{length-map}
use Rattle.onfi_problem.specs.Left.{InLimits}
use Rattle.onfi_flight.specs.Flight.{Flight}
use Rattle.onfi_calls.specs.Problem.{luns_of}
use Rattle.onfi_calls.specs.Ran.{IsBehind, Kept, is_illegal, is_late, is_no_flight, is_not_due, is_over, is_too_soon}
use Rattle.onfi_calls.specs.PlainSchedule.{written_want}
use Rattle.onfi_calls.proofs.Standing.{fewer_wants, plain_there, ran_behind, same_luns}
use Rattle.onfi_calls.proofs.Stated.{measured_by}
use Rattle.onfi_calls.proofs.ran.run_said.Goals as goal

pub fill-requires-clause-measured : goal.fill-requires-clause-measured
fill-requires-clause-measured c = measured_by c.idle-flight.result _ c.idle-flight.ensures c.requires.measured

pub returns-in-Err-clause-none : goal.returns-in-Err-clause-none
returns-in-Err-clause-none c = is_no_flight c.in-Err.ensures.none

pub returns-in-Done-clause-none : goal.returns-in-Done-clause-none
returns-in-Done-clause-none c = is_over c.fill.new.flight c.in-Ok.ensures.said c.in-Done.ensures.tells.0 c.in-Done.ensures.tells.1 refl

pub returns-in-Illegal-clause-none : goal.returns-in-Illegal-clause-none
returns-in-Illegal-clause-none c = is_illegal c.fill.new.flight c.in-Ok.ensures.said c.in-Illegal.ensures.tells refl

pub returns-then-not-is_due-clause-none : goal.returns-then-not-is_due-clause-none
returns-then-not-is_due-clause-none c = is_not_due c.fill.new.flight c.in-Ok.ensures.said c.in-Due.due c.in-Due.ensures.tells (search rules) refl

pub returns-then-started-due-clause-none : goal.returns-then-started-due-clause-none
returns-then-started-due-clause-none c =
    let lun_is : c.in-Due.due.lun ≡ c.args.lun = search rules in
    let number_is : c.in-Due.due.phase ≡ c.args.number = search rules in
    is_too_soon c.fill.new.flight c.in-Ok.ensures.said c.in-Due.due (record { is = c.in-Due.ensures.tells; lun_is = lun_is; number_is = number_is }) c.if-started-due.true refl

pub stand_after-requires-clause-there : goal.stand_after-requires-clause-there
stand_after-requires-clause-there c =
    plain_there c.args.channel.now c.args.wants.now c.fill.new.flight c.in-Due.due c.args.started c.in-Ok.ensures.said.said.problem c.in-Due.ensures.tells

pub stand_after-requires-clause-same : goal.stand_after-requires-clause-same
stand_after-requires-clause-same c =
    ap (λ (f : Flight). length f.now.luns) c.in-Ok-run_late.ensures.ran
    ∙ same_luns c.args.channel.now c.args.wants.now c.fill.new.flight c.in-Due.due c.args.started c.in-Ok.ensures.said.said.problem c.in-Due.ensures.tells

pub returns-in-Ok-run_late-clause-ran : goal.returns-in-Ok-run_late-clause-ran
returns-in-Ok-run_late-clause-ran c =
    let old : Kept = record { channel = c.args.channel.now; wants = c.args.wants.now; schedule = c.args.schedule.now } in
    let due = c.in-Due.due in
    let lun_is : due.lun ≡ c.args.lun = search rules in
    let number_is : due.phase ≡ c.args.number = search rules in
    let on_time : due.start ≤ c.args.started = search rules in
    let ran = c.in-Ok-run_late.ensures.ran in
    ran_behind old c.fill.new.flight due c.args.lun c.args.number c.args.started c.stand_after.result c.in-Ok.ensures.said
    (record { is = c.in-Due.ensures.tells; lun_is = lun_is; number_is = number_is }) on_time
    (subst (λ (f : Flight). IsBehind (luns_of c.args.channel.now) due f c.stand_after.result) ran c.stand_after.ensures)
    (subst (λ (f : Flight). InLimits f.now) ran c.in-Ok-run_late.ensures.limits)

pub returns-in-Ok-run_late-clause-there : goal.returns-in-Ok-run_late-clause-there
returns-in-Ok-run_late-clause-there c =
    let lun_is : c.in-Due.due.lun ≡ c.args.lun = search rules in
    subst (λ n. n < length (luns_of c.args.channel.now)) lun_is
    (plain_there c.args.channel.now c.args.wants.now c.fill.new.flight c.in-Due.due c.args.started c.in-Ok.ensures.said.said.problem c.in-Due.ensures.tells)

pub returns-in-Ok-run_late-clause-fewer : goal.returns-in-Ok-run_late-clause-fewer
returns-in-Ok-run_late-clause-fewer c =
    let few = fewer_wants c.args.channel.now c.args.wants.now c.fill.new.flight c.in-Due.due c.args.started c.in-Ok.ensures.said.said.problem c.in-Due.ensures.tells in
    let ran = ap (λ (f : Flight). length f.now.wants) c.in-Ok-run_late.ensures.ran in
    let told = ap length c.stand_after.ensures.wants in
    let same = length-map c.run_late.new.flight.now.wants written_want in
    omega (arith, few, ran, told, same)

pub returns-clause-none : goal.returns-clause-none
returns-clause-none c =
    let said = c.in-Ok.ensures.said in
    let lun_is : c.in-Due.due.lun ≡ c.args.lun = search rules in
    let number_is : c.in-Due.due.phase ≡ c.args.number = search rules in
    let on_time : c.in-Due.due.start ≤ c.args.started = search rules in
    let late = c.in-Err-run_late.ensures.late said.limits said.measured in
    is_late c.fill.new.flight said c.in-Due.due (record { is = c.in-Due.ensures.tells; lun_is = lun_is; number_is = number_is }) on_time late.1 late.0
