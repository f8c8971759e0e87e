use Rattle.std.proofs.Common.{◌≡◌, true, length, map, take, Some, sym, ap, ◌∙◌, subst, arith}
use Rattle.std.specs.Prelude.{◌==◌, slice_get}
use Rattle.std.proofs.lemmas.Bool.{eq-eqb}
use Rattle.std.proofs.lemmas.Option.{slice_get-get_or}
use Rattle.onfi_group.specs.Group.{IsStartable}
use Rattle.onfi_script.specs.PlanLine.{want_named}
use Rattle.onfi_calls.specs.Problem.{wants_of}
use Rattle.onfi_calls.specs.ReadSchedule.{group_of, groups_of}
use Rattle.onfi_calls.proofs.DueInPlace.{first_in_place}
use Rattle.onfi_calls.proofs.least_due.first_due.Goals as goal

pub returns : goal.returns
returns c = λ timing is.
    let rules = c.args.rules.now in
    let ws = wants_of rules.plane_bits c.args.wants.now in
    let said = c.in-Some.said.now in
    let lun = c.in-Some-get.lun.now in
    let look = c.in-Some.ensures.lookup.3 in
    let look_lun = c.in-Some-get.ensures.lookup.3 in
    let groups = ap (λ n. take n c.args.schedule.now.group) c.from.ensures in
    let there : slice_get (groups_of c.args.schedule.now) c.args.first.at ≡ Some said =
    ap (λ xs. slice_get xs c.args.first.at) (sym groups) ∙ slice_get-get_or (take c.from.result c.args.schedule.now.group) c.args.first.at said look.0 ∙ ap Some (sym (look.1 said)) in
    let at = c.from-at.ensures ∙ c.lun.ensures in
    let state : slice_get c.args.luns.now c.from-at.result ≡ Some lun = slice_get-get_or c.args.luns.now c.from-at.result lun look_lun.0 ∙ ap Some (sym (look_lun.1 lun)) in
    let items = c.as_slice.ensures.value ∙ c.few_wants_of-wants.ensures in
    let named : c.group_named-group.result ≡ (group_of ws said).members =
    c.group_named-group.ensures ∙ ap (λ xs. map (want_named xs) (take c.from-2.result said.want)) items ∙ ap (λ n. map (want_named ws) (take n said.want)) c.from-2.ensures in
    let none : (lun.members == 0) ≡ true = eq-eqb lun.members 0 c.if-lun-ne0.false in
    let sooner = c.if-first-ge-HALF.false in
    let rest = ap (λ n. length (take n c.args.schedule.now.rest)) c.from-3.ensures in
    let startable = subst (λ xs. IsStartable rules xs c.group_named-group.result) (c.as_slice-else-at-schedule.ensures.value ∙ c.few_wants_of-wants.ensures)
    (c.is_startable.ensures.0 c.if-not-is_startable.false) in
    first_in_place timing rules c.args.bus_free c.args.luns.now c.args.wants.now c.args.schedule.now c.args.first said lun c.group_named-group.result c.from-at.result there named state none
    (omega (arith, c.max.ensures, c.if-first-max.false)) (omega (arith, rest, c.if-at-schedule.false)) startable (omega (arith, sooner)) at is
