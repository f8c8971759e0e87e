use Rattle.std.proofs.Common.{◌≡◌, inl, inr, arith}
use Rattle.onfi_cert.specs.declared.token.Token.TheVariants.{Trail}
use Rattle.onfi_problem.specs.Moves.{after}
use Rattle.onfi_problem.specs.Position.{move_of}
use Rattle.onfi_check.proofs.ByDie.{by_bus, by_trail}
use Rattle.onfi_check.proofs.closes.closes_after.Goals as goal

pub returns-in-Bus : goal.returns-in-Bus
returns-in-Bus c =
    let reached = c.bus_reaches_after.ensures in
    let below = after c.args.problem.now.problem (move_of c.args.problem.now.groups c.args.m) in
    by_bus below c.args.e c.args.token c.bus_reaches_after.result c.in-Bus.is ((λ r. let le = reached.0 r in omega arith), λ le. reached.1 (omega arith))

pub returns-in_default : goal.returns-in_default
returns-in_default c =
    let is : c.args.token ≡ Trail = elim c.requires.leaf [ inl bus ↦ absurd (c.in_default.not-Bus bus) | inr trail ↦ trail ] in
    let reached = c.trail_reaches_after.ensures in
    let below = after c.args.problem.now.problem (move_of c.args.problem.now.groups c.args.m) in
    by_trail below c.args.e c.args.token c.trail_reaches_after.result is
    ((λ r. let (t, ends, le) = reached.0 r in (t, ends, omega arith)), λ (t, ends, le). reached.1 (t, ends, omega arith))
