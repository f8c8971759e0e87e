use Rattle.std.proofs.Common.{subst}
use Rattle.std.specs.Prelude.{IfSome}
use Rattle.std.specs.List.{AllByRecursion as Each}
use Rattle.onfi_core.specs.Kept.{IsReached, KeepsPromise}
use Rattle.onfi_core.specs.Queues.{CoreView, states_in}
use Rattle.onfi_core.specs.Reaching.{Reaches}
use Rattle.onfi_core.specs.Steps.{IsBest, IsPromised}
use Rattle.onfi_core.proofs.Channels.{all_promised}
use Rattle.onfi_core.proofs.Cores.{all_best, all_kept_by_events, all_reached, all_such, all_those}
use Rattle.onfi_core.proofs.machine.Core.is_reached.Goals as goal

pub returns-clause-by_events : goal.returns-clause-by_events
returns-clause-by_events g c =
    let such = IsPromised g.P.Planner.exact g.P.Planner.certifies in
    let P : CoreView g.row.C.Denot → Type 0 = λ v. Each (Reaches such v.0) (states_in g.C.Chip.state v) in
    subst P c.self.view_is (all_reached g.C.Chip.state such c.self.inside.setup c.self.inside.channels.items c.self.invariant)

pub returns-clause-reached : goal.returns-clause-reached
returns-clause-reached g c =
    let st = g.C.Chip.state in
    let such = IsPromised g.P.Planner.exact g.P.Planner.certifies in
    let P : CoreView g.row.C.Denot → Type 0 = λ v. Each (IsReached v.0) (states_in st v) in
    let s = c.self.inside.setup in
    let cs = states_in st (s, c.self.inside.channels.items) in
    subst P c.self.view_is (all_those such s cs (all_kept_by_events such s cs (all_reached st such s c.self.inside.channels.items c.self.invariant)))

pub returns-clause-keeps : goal.returns-clause-keeps
returns-clause-keeps g c =
    let st = g.C.Chip.state in
    let exact = g.P.Planner.exact in
    let certifies = g.P.Planner.certifies in
    let such = IsPromised exact certifies in
    let P : CoreView g.row.C.Denot → Type 0 = λ v. Each (KeepsPromise exact certifies v.0) (states_in st v) in
    let s = c.self.inside.setup in
    let cs = states_in st (s, c.self.inside.channels.items) in
    subst P c.self.view_is (all_promised exact certifies s cs (all_kept_by_events such s cs (all_reached st such s c.self.inside.channels.items c.self.invariant)))

pub returns-clause-promised : goal.returns-clause-promised
returns-clause-promised g c =
    let st = g.C.Chip.state in
    let such = IsPromised g.P.Planner.exact g.P.Planner.certifies in
    let P : CoreView g.row.C.Denot → Type 0 = λ v. Each (λ c. IfSome c.half.last such) (states_in st v) in
    let s = c.self.inside.setup in
    let cs = states_in st (s, c.self.inside.channels.items) in
    subst P c.self.view_is (all_such such s cs (all_kept_by_events such s cs (all_reached st such s c.self.inside.channels.items c.self.invariant)))

pub returns-clause-best : goal.returns-clause-best
returns-clause-best g c is =
    let st = g.C.Chip.state in
    let such = IsPromised g.P.Planner.exact g.P.Planner.certifies in
    let P : CoreView g.row.C.Denot → Type 0 = λ v. Each (λ c. IfSome c.half.last IsBest) (states_in st v) in
    let s = c.self.inside.setup in
    let cs = states_in st (s, c.self.inside.channels.items) in
    subst P c.self.view_is (all_best g.P.Planner.exact g.P.Planner.certifies s cs is (all_kept_by_events such s cs (all_reached st such s c.self.inside.channels.items c.self.invariant)))
