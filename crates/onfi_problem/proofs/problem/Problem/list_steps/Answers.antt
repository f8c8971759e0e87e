use Rattle.std.proofs.Common.{◌+◌, arith}
use Rattle.std.proofs.lemmas.List.{length-map}
use Rattle.onfi_problem.specs.declared.moves.Lun.{Lun}
use Rattle.onfi_problem.specs.Position.{state_of}
use Rattle.onfi_problem.proofs.Steps.{places_few, luns_of_own, own_listed, free_room, run_room, free_more, run_more, named_next, end_moves, end_few}
use Rattle.onfi_problem.proofs.problem.Problem.list_steps.Goals as goal
use Rattle.onfi_problem.proofs.problem.Problem.list_steps.Goals.{then-state-eq0, else-state-eq0}

pub starts-requires-clause-places : goal.starts-requires-clause-places
starts-requires-clause-places c =
    let t = c.self.inside in
    let at = c.loop-at.at in
    let h = rw c.deref-state-items.ensures.0 at c.loop-at-test.true in
    let p = places_few t.timing t.rules t.bus_free t.luns.items t.wants.items t.waiting t.groups.items t.first t.start_marks.items
    c.self.invariant.0 c.self.invariant.1 (at + 1) (omega arith) in
    omega arith

pub starts-requires-clause-luns : goal.starts-requires-clause-luns
starts-requires-clause-luns c =
    let t = c.self.inside in
    let v = c.self.view_is in
    let at = c.loop-at.at in
    let h = rw c.deref-state-items.ensures.0 at c.loop-at-test.true in
    rw (← v) (luns_of_own t.timing t.rules t.bus_free t.luns.items t.wants.items t.waiting t.groups.items t.first t.start_marks.items
    c.self.invariant.0 c.self.invariant.1 at h)

pub starts-requires-clause-listed : goal.starts-requires-clause-listed
starts-requires-clause-listed c =
    let t = c.self.inside in
    let v = c.self.view_is in
    let at = c.loop-at.at in
    let h = rw c.deref-state-items.ensures.0 at c.loop-at-test.true in
    rw (← v) (own_listed t.timing t.rules t.bus_free t.luns.items t.wants.items t.waiting t.groups.items t.first t.start_marks.items
    c.self.invariant.0 c.self.invariant.1 at h)

pub starts-requires-clause-room : goal.starts-requires-clause-room
starts-requires-clause-room c =
    let t = c.self.inside in
    let v = c.self.view_is in
    let at = c.loop-at.at in
    let blank : Lun = record { next = 0; place = 0; time = 0 } in
    let h = rw c.deref-state-items.ensures.0 at c.loop-at-test.true in
    let so_far = rw (← v) at c.loop-at.invariant.moves in
    let e = rw c.deref-state-items.ensures.0 at c.if-state-eq0.true in
    rw (← v) (free_room t.timing t.rules t.bus_free t.luns.items t.wants.items t.waiting t.groups.items t.first t.start_marks.items
    c.self.invariant.0 c.self.invariant.1 at blank h c.loop-at.moves so_far e)

pub push-requires : goal.push-requires
push-requires c =
    let t = c.self.inside in
    let v = c.self.view_is in
    let at = c.loop-at.at in
    let blank : Lun = record { next = 0; place = 0; time = 0 } in
    let h = rw c.deref-state-items.ensures.0 at c.loop-at-test.true in
    let so_far = rw (← v) at c.loop-at.invariant.moves in
    let e = rw c.deref-state-items.ensures.0 at c.if-state-eq0.false in
    run_room t.timing t.rules t.bus_free t.luns.items t.wants.items t.waiting t.groups.items t.first t.start_marks.items
    c.self.invariant.0 c.self.invariant.1 at blank h c.loop-at.moves so_far e

pub loop-at-preserved : goal.loop-at-preserved
loop-at-preserved c =
    let t = c.self.inside in
    let v = c.self.view_is in
    let at = c.loop-at.at in
    let blank : Lun = record { next = 0; place = 0; time = 0 } in
    let h = rw c.deref-state-items.ensures.0 at c.loop-at-test.true in
    let so_far = rw (← v) at c.loop-at.invariant.moves in
    elim c.if-state-eq0.branch [
      | then-state-eq0 w ↦ (
          let e = rw c.deref-state-items.ensures.0 at w.if-state-eq0.true in
          let m = rw (← v) at w.starts.ensures.moves in
          rw w.moves-is (record {
            moves = rw (← v) (free_more t.timing t.rules t.bus_free t.luns.items t.wants.items t.waiting t.groups.items t.first t.start_marks.items
                c.self.invariant.0 c.self.invariant.1 at blank h c.loop-at.moves so_far w.starts.new.moves e m);
            named = w.starts.ensures.named c.loop-at.invariant.named;
          }))
      | else-state-eq0 w ↦ (
          let e = rw c.deref-state-items.ensures.0 at w.if-state-eq0.false in
          let l = length-map t.luns.items (state_of t.groups.items) in
          rw (w.moves-is, w.push.ensures) (record {
            moves = rw (← v) (run_more t.timing t.rules t.bus_free t.luns.items t.wants.items t.waiting t.groups.items t.first t.start_marks.items
                c.self.invariant.0 c.self.invariant.1 at blank h c.loop-at.moves so_far e);
            named = named_next c.args.self.now.groups at c.loop-at.moves (omega arith) c.loop-at.invariant.named;
          }))
    ]

pub returns-clause-moves : goal.returns-clause-moves
returns-clause-moves c =
    let t = c.self.inside in
    let v = c.self.view_is in
    let end = rw c.deref-state-items.ensures.0 at c.loop-at-test.false in
    let all_of = rw (← v) at c.loop-at.invariant.moves in
    rw (← v) (end_moves t.timing t.rules t.bus_free t.luns.items t.wants.items t.waiting t.groups.items t.first t.start_marks.items
    c.self.invariant.0 c.self.invariant.1 c.loop-at.moves c.loop-at.at end all_of)

pub returns-clause-few : goal.returns-clause-few
returns-clause-few c =
    let t = c.self.inside in
    let v = c.self.view_is in
    let end = rw c.deref-state-items.ensures.0 at c.loop-at-test.false in
    let all_of = rw (← v) at c.loop-at.invariant.moves in
    end_few t.timing t.rules t.bus_free t.luns.items t.wants.items t.waiting t.groups.items t.first t.start_marks.items
    c.self.invariant.0 c.self.invariant.1 c.loop-at.moves c.loop-at.at end all_of
