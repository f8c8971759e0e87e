use Rattle.std.proofs.Common.{length, get_or, ap, ◌∙◌, arith, length-set}
use Rattle.onfi_group.specs.Group.{lun_of}
use Rattle.onfi_problem.specs.declared.moves.Move.TheVariants.{Next}
use Rattle.onfi_schedule.specs.Schedule.{Schedule}
use Rattle.onfi_schedule.specs.Runs.{empty}
use Rattle.onfi_planner.specs.declared.search.Begun.{Begun}
use Rattle.onfi_planner.specs.Planning.{run_of}
use Rattle.onfi_planner.proofs.Whole.{legal_plan}
use Rattle.onfi_planner.proofs.Stacking.{Fits, none_placed, next_fits, start_fits, start_room, start_some, next_stacked, start_stacked, stacked_all}
use Rattle.onfi_planner.proofs.placing.schedule_of.Goals as goal
use Rattle.onfi_planner.proofs.placing.schedule_of.Goals.{After-lun-lun, in-Next, in-Start}

abbrev none : Begun
none = record { step = Next 0; start = 0 }

pub loop-begun-init : goal.loop-begun-init
loop-begun-init c =
    ap (λ gs. record { rest = c.no_starts-rest.result.items; groups = gs }) c.new_in-groups.ensures ∙ none_placed c.args.problem.now.problem c.lun_count.result c.no_starts-rest.result.items c.lun_count.ensures.value c.no_starts-rest.ensures

pub put_in_front-requires : goal.put_in_front-requires
put_in_front-requires c =
    let fits = next_fits c.args.problem.now c.args.steps.now c.loop-begun.begun-index none c.requires.limits.problem c.requires.run c.loop-begun-test.true c.in-Next.lun (record { rest = c.loop-begun.rest.items; groups = c.loop-begun.groups.items }) c.in-Next.is c.loop-begun.invariant in
    record { there = fits.there; room = fits.room; small = fits.small }

pub group-group-requires : goal.group-group-requires
group-group-requires c = start_some c.args.problem.now c.args.steps.now c.loop-begun.begun-index none c.requires.limits.problem c.requires.run c.loop-begun-test.true c.in-Start.lun c.in-Start.place c.in-Start.is

fits_in_front : (c : After-lun-lun) → Fits c.loop-begun.rest.items c.lun-lun.result (get_or c.args.steps.now c.loop-begun.begun-index none).start
fits_in_front c = start_fits c.args.problem.now c.args.steps.now c.loop-begun.begun-index none c.requires.limits.problem c.requires.run c.loop-begun-test.true c.in-Start.lun c.in-Start.place c.lun-lun.result (record { rest = c.loop-begun.rest.items; groups = c.loop-begun.groups.items }) c.in-Start.is (c.lun-lun.ensures ∙ ap lun_of c.group-group.ensures) c.loop-begun.invariant

pub put_in_front-requires-in-Start : goal.put_in_front-requires-in-Start
put_in_front-requires-in-Start c =
    let fits = fits_in_front (goal.at.put_in_front-requires-in-Start c).After-lun-lun in
    record { there = fits.there; room = fits.room; small = fits.small }

pub take_starts-starts-requires : goal.take_starts-starts-requires
take_starts-starts-requires c =
    let there = (fits_in_front (goal.at.take_starts-starts-requires c).After-lun-lun).there in
    let e = ap length c.put_in_front-in-Start.ensures ∙ length-set c.loop-begun.rest.items c.lun-lun.result _ in
    omega arith

pub insert-requires : goal.insert-requires
insert-requires c = (
  omega arith,
  (
    omega arith,
    start_room c.args.problem.now c.args.steps.now c.loop-begun.begun-index none c.requires.limits.problem c.requires.run c.loop-begun-test.true c.requires.limits c.in-Start.lun c.in-Start.place (record { rest = c.loop-begun.rest.items; groups = c.loop-begun.groups.items }) c.in-Start.is c.loop-begun.invariant,
  ),
)

pub loop-begun-preserved : goal.loop-begun-preserved
loop-begun-preserved c =
    let x = c.args.problem.now in
    let steps = c.args.steps.now in
    let i = c.loop-begun.begun-index in
    let s : Schedule = record { rest = c.loop-begun.rest.items; groups = c.loop-begun.groups.items } in
    elim c.match-begun.branch [
      | in-Next w ↦ rw (w.rest-is, w.groups-is) (next_stacked x.groups steps i none (empty x.problem) s w.in-Next.lun _ c.loop-begun-test.true c.loop-begun.invariant w.in-Next.is w.put_in_front.ensures)
      | in-Start w ↦ (
          let lun = w.lun-lun.ensures ∙ ap lun_of w.group-group.ensures in
          let fits = start_fits c.args.problem.now c.args.steps.now c.loop-begun.begun-index none c.requires.limits.problem c.requires.run c.loop-begun-test.true w.in-Start.lun w.in-Start.place w.lun-lun.result s w.in-Start.is lun c.loop-begun.invariant in
          rw (w.rest-is, w.groups-is) (start_stacked x.groups steps i none (empty x.problem) s w.in-Start.lun w.in-Start.place w.lun-lun.result _ _ w.take_starts-starts.result w.new.result _ c.loop-begun-test.true c.loop-begun.invariant w.in-Start.is lun fits.there w.put_in_front-in-Start.ensures w.take_starts-starts.ensures.none w.take_starts-starts.ensures.taken (w.new.ensures.members ∙ (w.copy.ensures ∙ w.group-group.ensures)) w.new.ensures.starts w.insert.ensures.items))
    ]

pub returns : goal.returns
returns c =
    let x = c.args.problem.now in
    let steps = run_of x.groups c.args.steps.now in
    let is = stacked_all x.problem x.groups c.args.steps.now c.loop-begun.begun-index c.requires.run.0 (record { rest = c.loop-begun.rest.items; groups = c.loop-begun.groups.items }) c.new-2.result c.requires.run.2 c.loop-begun-test.false c.loop-begun.invariant c.new-2.ensures.rest c.new-2.ensures.groups in
    let plan = legal_plan x.problem steps c.new-2.result in
    record {
      is = is;
      legal = (plan c.requires.run.0 c.requires.limits.problem c.requires.run.2 is).0;
      rising = (plan c.requires.run.0 c.requires.limits.problem c.requires.run.2 is).2;
      finish = λ f run. (plan f c.requires.limits.problem run is).1;
    }
