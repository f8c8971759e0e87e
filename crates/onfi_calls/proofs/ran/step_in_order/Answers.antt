use Rattle.std.proofs.Common.{◌≡◌, ◌+◌, ◌<◌, ◌^◌, List, length, ap, ◌∙◌, arith}
use Rattle.onfi_timing.specs.Phases.{phase_length}
use Rattle.onfi_request.specs.declared.want.Want.{Want}
use Rattle.onfi_group.specs.Group.{group_spans}
use Rattle.onfi_flight.specs.Flight.{Flight}
use Rattle.onfi_calls.specs.InOrder.{flight_of}
use Rattle.onfi_calls.specs.Problem.{luns_of}
use Rattle.onfi_calls.proofs.Standing.{plain_there}
use Rattle.onfi_calls.proofs.StepTaken.{limits_after}
use Rattle.onfi_calls.proofs.ran.step_in_order.Goals as goal

pub lun_after-lun-requires-clause-there : goal.lun_after-lun-requires-clause-there
lun_after-lun-requires-clause-there c =
    let channel = c.args.channel.now in
    let f : Flight = flight_of c.args.timing.now c.rules-rules.result channel.bus_free (luns_of channel) c.args.wants.now c.args.schedule.now in
    plain_there channel c.args.wants.now f c.in_ok-due.due c.args.started c.in_ok-due.ensures.said.said.problem c.in_ok-due.ensures.due

pub lun_after-lun-requires-clause-within : goal.lun_after-lun-requires-clause-within
lun_after-lun-requires-clause-within c = c.in_ok-due.ensures.due.within

pub returns : goal.returns
returns c =
    let timing = c.args.timing.now in
    let channel = c.args.channel.now in
    let due = c.in_ok-due.due in
    let said = c.in_ok-due.ensures.said in
    let is = c.in_ok-due.ensures.due in
    let same = c.is_due.ensures.0 c.if-not-is_due.false in
    let early : c.args.started < 2 ^ 61 = (let sooner = c.if-started-ge-HALF.false in omega (arith, sooner)) in
    let spans = group_spans timing due.group in
    let long : c.phase_length.result ≡ phase_length spans (length due.group) due.phase =
    c.phase_length.ensures.length ∙ ap (λ (g : List Want). phase_length (group_spans timing g) (length g) c.from.result) c.members.ensures.value
    ∙ ap (phase_length spans (length due.group)) c.from.ensures in
    record {
      timing = timing;
      rules = c.rules-rules.result;
      said = said;
      there = record { is = is; lun_is = same.0; number_is = same.1 };
      on_time = (let later = c.if-started-due.false in omega (arith, later));
      early = early;
      even = c.in_ok-due.ensures.even;
      limits = limits_after timing c.rules-rules.result channel.bus_free (luns_of channel) c.args.wants.now c.args.schedule.now due c.args.started said.limits c.in_ok-due.ensures.early is early;
      ended = ap (λ n. c.args.started + n) long;
      lun_is = c.lun_after-lun.ensures;
    }
