use Rattle.std.proofs.Common.{sym, ap, subst, ◌∙◌}
use Rattle.onfi_timing.specs.Kinds.{operation_of}
use Rattle.onfi_chip.specs.declared.post.Post.{Post}
use Rattle.onfi_chip.specs.declared.sim.SimChip.{SimChip}
use Rattle.onfi_chip.specs.Calls.{TellsAnswer}
use Rattle.onfi_die.specs.Shapes.{shape_of}
use Rattle.onfi_chip.proofs.SimCalls.{as_many, posts_there, post_done, is_status}
use Rattle.onfi_chip.proofs.sim.SimChipChip.status.Goals as goal

pub returns-else-count-clause-ready : goal.returns-else-count-clause-ready
returns-else-count-clause-ready c ready post left h =
    let old = c.args.self.now in
    let place = c.place-place.ensures post.place h.in_range h.row_is in
    let told = c.post-post.ensures.taken post left h.ready (posts_there old c.args.now c.args.row post left c.place-place.result place h) in
    let first = c.requires.2 in
    let there = c.place-place.ensures c.requires.0.place first.in_range first.row_is in
    let told_first = c.post-post.ensures.taken c.requires.0 c.requires.1 first.ready (posts_there old c.args.now c.args.row c.requires.0 c.requires.1 c.place-place.result there first) in
    let calls = c.count-bus_fails.ensures.fine c.if-bus_fails.false in
    let statuses = c.count.ensures.fine c.if-count.false in
    let status = is_status (shape_of old.dies.geometry) c.post-post.result.kind c.post-post.result.answer (λ e. c.requires.3 (ap (λ (q : Post). operation_of q.kind) (sym told_first.0) ∙ e)) c.post-post.ensures.form in
    let new : SimChip = record { dies = c.post-post.new.self; calls = c.count-bus_fails.new.self; statuses = c.count.new.self; arrays = old.arrays } in (
      subst (λ (q : Post). TellsAnswer c.encode_status.result q.answer) told.0 (c.encode_status.ensures.told status),
      post_done old new c.args.now post left c.place-place.result place told.1 (as_many old new calls statuses),
    )
