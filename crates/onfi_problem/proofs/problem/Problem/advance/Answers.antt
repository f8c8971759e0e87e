use Rattle.std.proofs.Common.{◌≡◌, get_or, sym, subst}
use Rattle.onfi_problem.specs.declared.moves.Move.{Move}
use Rattle.onfi_problem.specs.Moves.{IsMove, move_lun}
use Rattle.onfi_problem.specs.Position.{Position, move_of, lun_named, moved}
use Rattle.onfi_problem.proofs.After.{lun_here, made, IsUndo}
use Rattle.onfi_problem.proofs.problem.Problem.advance.Goals.{After-deref}
use Rattle.onfi_problem.proofs.problem.Problem.advance.Goals as goal

pub bounds-deref-lun : goal.bounds-deref-lun
bounds-deref-lun c =
    let t = c.self.inside in
    let v = c.self.view_is in
    let im = subst (λ (z : Position). IsMove z.problem (move_of z.groups c.args.m.now)) (sym v) c.requires.step in
    let of = subst (λ (z : Position). move_lun (move_of z.groups c.args.m.now) ≡ lun_named c.args.m.now) (sym v) c.requires.lun in
    rw c.deref.ensures.0 (lun_here t.timing t.rules t.bus_free t.luns.items t.wants.items t.waiting t.groups.items c.self.invariant.0 c.args.m.now c.lun-lun.result im of c.lun-lun.ensures)

-- what the undo gives back, whichever move was made
undo : (c : After-deref) (n : Move) (new : Position) → c.args.m.now ≡ n → new ≡ moved c.args.self.now n → IsUndo c.args.self.now new (record { lun = c.lun-lun.result; state = get_or c.deref.result.now c.lun-lun.result (record { next = 0; place = 0; time = 0 }); bus_free = c.self.inside.bus_free; waiting = c.self.inside.waiting })
undo c n new is e =
    let t = c.self.inside in
    made t.timing t.rules t.bus_free t.luns.items t.wants.items t.waiting t.groups.items c.self.invariant.0 c.args.self.now new c.args.m.now n c.deref.result.now c.lun-lun.result _ c.self.view_is c.requires.step c.requires.lun is e c.lun-lun.ensures c.deref.ensures.0

pub returns-in-Next-clause-undo : goal.returns-in-Next-clause-undo
returns-in-Next-clause-undo c = (undo (goal.at.returns-in-Next-clause-undo c).After-deref _ _ c.in-Next.is c.go_on.ensures).undone

pub returns-in-Next-clause-within : goal.returns-in-Next-clause-within
returns-in-Next-clause-within c = (undo (goal.at.returns-in-Next-clause-within c).After-deref _ _ c.in-Next.is c.go_on.ensures).within

pub returns-in-Next-clause-limits : goal.returns-in-Next-clause-limits
returns-in-Next-clause-limits c = (undo (goal.at.returns-in-Next-clause-limits c).After-deref _ _ c.in-Next.is c.go_on.ensures).limits

pub returns-in-Start-clause-undo : goal.returns-in-Start-clause-undo
returns-in-Start-clause-undo c = (undo (goal.at.returns-in-Start-clause-undo c).After-deref _ _ c.in-Start.is c.start.ensures).undone

pub returns-in-Start-clause-within : goal.returns-in-Start-clause-within
returns-in-Start-clause-within c = (undo (goal.at.returns-in-Start-clause-within c).After-deref _ _ c.in-Start.is c.start.ensures).within

pub returns-in-Start-clause-limits : goal.returns-in-Start-clause-limits
returns-in-Start-clause-limits c = (undo (goal.at.returns-in-Start-clause-limits c).After-deref _ _ c.in-Start.is c.start.ensures).limits
