use Rattle.std.proofs.Common.{[], ◌≡◌, ◌<◌, length, arith, rules}
use Rattle.std.proofs.Math.Seq.{take-length}
use Rattle.onfi_group.specs.Joining.{none}
use Rattle.onfi_group.proofs.Growing.{grows_kept, grows_left}
use Rattle.onfi_group.proofs.listing.grow.Goals as goal
use Rattle.onfi_group.proofs.listing.grow.Goals.{in-Some+in_ok-push-2, in_default}

pub loop-at-init : goal.loop-at-init
loop-at-init c = record { before = search rules; grows = record { more = []; grown = let a = c.of.ensures in let b = c.in_ok-push.ensures.items in rw a at b; joined = none } }

pub loop-at-preserved : goal.loop-at-preserved
loop-at-preserved c =
    let i = c.loop-at.invariant in
    let lt : c.loop-at.at < length c.args.groups.now.items = omega arith in
    elim c.match-join.branch [
      | in-Some+in_ok-push-2 w ↦ (
          let made = w.in-Some.ensures.value in
          let grown = grows_kept i.grows lt c.index.result.now w.in-Some.more c.index.ensures made.0 made.1 in
          record { before = i.before; grows = rw (w.groups-is, w.in_ok-push-2.ensures.items) grown })
      | in_default w ↦ record { before = i.before; grows = rw w.groups-is (grows_left i.grows lt c.index.result.now c.index.ensures w.in_default.ensures.none) }
    ]

pub returns : goal.returns
returns c =
    let g = c.loop-at.invariant.grows in
    let old = c.args.groups.now.items in
    let e : c.loop-at.at ≡ length old = let b = c.loop-at.invariant.before in omega arith in
    (g.more, g.grown, rw (e, take-length old) at g.joined)
