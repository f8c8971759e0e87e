use Rattle.std.proofs.Common.{◌≡◌, ◌+◌, List, length, drop, sym, ap, ◌∙◌, arith}
use Rattle.std.specs.Prelude.{slice_set}
use Rattle.onfi_timing.specs.Phases.{phase_length}
use Rattle.onfi_request.specs.declared.want.Want.{Want}
use Rattle.onfi_group.specs.Group.{group_spans}
use Rattle.onfi_schedule.specs.Schedule.{Schedule}
use Rattle.onfi_flight.specs.Flight.{Flight, groups_left, starts_of, wants_behind}
use Rattle.onfi_flight.proofs.Begins.{due_lun, run_is}
use Rattle.onfi_flight.proofs.flight.Flight.run.Goals as goal

pub set-requires : goal.set-requires
set-requires c =
    let low = due_lun c.args.self.now c.args.due.now c.requires.due in
    let same = ap (λ (f : Flight). length f.now.luns) c.self.view_is in
    omega (arith, c.from-lun.ensures, low, same)

pub returns : goal.returns
returns c =
    let due = c.args.due.now in
    let left = c.self.inside.left in
    let spans = group_spans c.self.inside.timing due.group in
    let long : c.phase_length.result ≡ phase_length spans (length due.group) due.phase =
    c.phase_length.ensures.length ∙ ap (λ (g : List Want). phase_length (group_spans c.self.inside.timing g) (length g) c.from.result) c.members-members.ensures.value
    ∙ ap (phase_length spans (length due.group)) c.from.ensures in
    run_is _ c.args.self.now due c.args.started _ _ _ _ c.self.view_is c.requires.due (ap (λ n. c.args.started + n) long)
    (c.set.ensures ∙ ap (λ l. slice_set c.self.inside.luns l c.lun_after.result) c.from-lun.ensures ∙ ap (slice_set c.self.inside.luns due.lun) c.lun_after.ensures)
    (c.wants_after-self-inside.ensures ∙ ap (λ (f : Flight). wants_behind due.place due.group f.now.wants) (sym c.self.view_is))
    (c.leave.ensures ∙ ap (λ l. let s : Schedule = record { rest = slice_set left.rest l c.rest_after-rest.result; groups = groups_left due.place left.groups } in s) c.from-lun.ensures
    ∙ ap (λ starts. let s : Schedule = record { rest = slice_set left.rest due.lun starts; groups = groups_left due.place left.groups } in s) (c.rest_after-rest.ensures ∙ ap (λ (f : Flight). drop 1 (starts_of f.left due.lun due.place)) (sym c.self.view_is)))
