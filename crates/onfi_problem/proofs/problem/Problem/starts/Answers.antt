use Rattle.std.proofs.Common.{◌≡◌, ◌∙◌, ◌<◌, length, sym, arith}
use Rattle.std.specs.List.{AllByRecursion as All}
use Rattle.onfi_group.specs.Group.{lun_of}
use Rattle.onfi_group.specs.Words.{Has}
use Rattle.onfi_problem.proofs.Ranges.{room_for, one_started, starts_no, at_in_range, named_more}
use Rattle.onfi_problem.proofs.problem.Problem.starts.Goals as goal
use Rattle.onfi_problem.proofs.problem.Problem.starts.Goals.{then-can_start, else-can_start}

pub can_start-requires-clause-listed : goal.can_start-requires-clause-listed
can_start-requires-clause-listed c =
    let x = c.args.self.now in
    at_in_range x.problem.wants x.groups c.args.from (λ g. All (Has x.all) g) c.loop-place.place c.args.to
    c.loop-place.auto.place c.loop-place-test.true c.requires.within c.requires.listed

pub push-requires : goal.push-requires
push-requires c =
    let x = c.args.self.now in
    let can = sym c.can_start.ensures ∙ c.if-can_start.true in
    room_for x.problem.wants x.groups c.args.from c.loop-place.place c.args.to c.args.moves.now c.loop-place.moves
    c.loop-place.auto.place c.loop-place-test.true c.requires.within can c.loop-place.invariant.moves c.requires.room

pub loop-place-preserved : goal.loop-place-preserved
loop-place-preserved c =
    let x = c.args.self.now in
    let here : c.loop-place.place < length x.groups = let a = c.loop-place-test.true in let b = c.requires.within in omega arith in
    let lun = at_in_range x.problem.wants x.groups c.args.from (λ g. lun_of g ≡ c.args.lun) c.loop-place.place c.args.to
    c.loop-place.auto.place c.loop-place-test.true c.requires.within c.requires.luns in
    elim c.if-can_start.branch [
      | then-can_start w ↦ (
          let can = sym c.can_start.ensures ∙ w.if-can_start.true in
          rw (w.moves-is, w.push.ensures) (record {
            moves = one_started x.problem.wants x.groups c.args.from c.args.lun c.loop-place.place c.args.moves.now c.loop-place.moves
                c.loop-place.auto.place here can c.loop-place.invariant.moves;
            named = λ a. named_more x.groups c.args.lun c.loop-place.place c.loop-place.moves c.requires.few lun (c.loop-place.invariant.named a);
          }))
      | else-can_start w ↦ (
          let can = sym c.can_start.ensures ∙ w.if-can_start.false in
          let s = starts_no x.problem.wants x.groups c.args.from c.loop-place.place c.loop-place.auto.place here can in
          rw (w.moves-is, s) (record { moves = c.loop-place.invariant.moves; named = c.loop-place.invariant.named }))
    ]
