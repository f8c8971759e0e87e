use Rattle.std.proofs.Common.{◌≡◌, None}
use Rattle.onfi_core.proofs.Becoming.{flown, on_time}
use Rattle.onfi_core.proofs.half.Half.next_due.Goals as goal

pub due-requires-clause-flown : goal.due-requires-clause-flown
due-requires-clause-flown c = flown c.self.inside.setup _ c.self.invariant.sound

pub due-requires-clause-problem : goal.due-requires-clause-problem
due-requires-clause-problem c = c.self.invariant.sound.problem

pub due-requires-clause-on_time : goal.due-requires-clause-on_time
due-requires-clause-on_time c =
    let going : c.self.inside.stopped ≡ None = cc in
    on_time c.self.inside.setup _ c.self.invariant.sound going
