use Rattle.std.proofs.Common.{◌≡◌, ◌-◌, length, ◌∙◌, arith}
use Rattle.std.specs.Prelude.{nat_lt, if◌then◌else◌}
use Rattle.std.proofs.lemmas.Bool.{lt-ltb, le-ltb}
use Rattle.onfi_flight.proofs.Begins.{member_at}
use Rattle.onfi_flight.proofs.due.Due.member.Goals.{then-phase-members, else-phase-members}
use Rattle.onfi_flight.proofs.due.Due.member.Goals as goal

pub returns : goal.returns
returns c =
    let due = c.args.self.now in
    let number : c.if-phase-members.number ≡ (if nat_lt due.phase (length due.group) then due.phase else due.phase - length due.group) = elim c.if-phase-members.branch [
      | then-phase-members w ↦ w.number-is ∙ (let t = w.if-phase-members.true in let a = c.from-phase.ensures in let b = c.len-members.ensures.value in rw (lt-ltb due.phase (length due.group) (omega arith)) a)
      | else-phase-members w ↦ w.number-is ∙ (let t = w.if-phase-members.false in let a = c.from-phase.ensures in let b = c.len-members.ensures.value in rw (le-ltb due.phase (length due.group) (omega arith)) (omega arith))
    ] in
    rw c.members.ensures.value (member_at due.group due.phase c.if-phase-members.number _ c.requires number)
