use Rattle.std.proofs.Common.{◌≡◌, sym, subst, arith}
use Rattle.std.specs.Prelude.{get_or, slice_set}
use Rattle.onfi_problem.specs.declared.moves.Lun.{Lun}
use Rattle.onfi_problem.specs.declared.moves.Move.TheVariants.{Next as KeptNext}
use Rattle.onfi_problem.specs.Moves.{IsMove, Next}
use Rattle.onfi_problem.specs.Position.{Position, moved}
use Rattle.onfi_problem.specs.Kept.{position_of}
use Rattle.onfi_problem.proofs.Lists.{refilled}
use Rattle.onfi_problem.proofs.Places.{length_set}
use Rattle.onfi_problem.proofs.After.{now, FindsNext, finds_next, went_on, next_kept, read_group}
use Rattle.onfi_problem.proofs.problem.Problem.go_on.Goals.{After-deref, After-run-bus_free}
use Rattle.onfi_problem.proofs.problem.Problem.go_on.Goals as goal

abbrev blank : Lun
blank = record { next = 0; place = 0; time = 0 }

step : (c : After-deref) → IsMove (now c.self.inside.timing c.self.inside.rules c.self.inside.bus_free c.self.inside.luns.items c.self.inside.wants.items c.self.inside.waiting c.self.inside.groups.items c.self.invariant.0).problem (Next c.args.lun)
step c = subst (λ (z : Position). IsMove z.problem (Next c.args.lun)) (sym c.self.view_is) c.requires

finds : (c : After-deref) → FindsNext c.self.inside.timing c.self.inside.rules c.self.inside.bus_free c.self.inside.groups.items c.self.inside.luns.items c.args.lun (get_or c.self.inside.luns.items c.args.lun blank)
finds c = let t = c.self.inside in finds_next t.timing t.rules t.bus_free t.luns.items t.wants.items t.waiting t.groups.items c.self.invariant.0 c.args.lun blank (step c)

pub index-group-requires : goal.index-group-requires
index-group-requires c = rw c.deref.ensures.0 (let p = (finds (goal.at.index-group-requires c).After-deref).place in let o = c.self.inside.groups.ok.0 in omega arith)

pub run-bus_free-requires-clause-start : goal.run-bus_free-requires-clause-start
run-bus_free-requires-clause-start c =
    let s = (finds (goal.at.run-bus_free-requires-clause-start c).After-deref).start in
    let m = rw c.deref.ensures.0 at c.max-start.ensures in
    omega arith

pub run-bus_free-requires-clause-next : goal.run-bus_free-requires-clause-next
run-bus_free-requires-clause-next c =
    let f = finds (goal.at.run-bus_free-requires-clause-next c).After-deref in
    let i = read_group c.self.inside.groups.items _ c.index-group.result.now f.place (rw c.deref.ensures.0 at c.index-group.ensures) in
    rw c.deref.ensures.0 (rw i at f.next)

pub bounds-deref_mut-lun : goal.bounds-deref_mut-lun
bounds-deref_mut-lun c = rw c.deref_mut.ensures.value (finds (goal.at.bounds-deref_mut-lun c).After-deref).lun

-- the position that the phase leaves
left : (c : After-run-bus_free) → IsMove (now c.self.inside.timing c.self.inside.rules c.self.inside.bus_free c.self.inside.luns.items c.self.inside.wants.items c.self.inside.waiting c.self.inside.groups.items c.self.invariant.0).problem (Next c.args.lun) → position_of c.self.inside.timing c.self.inside.rules c.run-bus_free.result.0 (slice_set c.self.inside.luns.items c.args.lun c.run-bus_free.result.1) c.self.inside.wants.items c.self.inside.waiting c.self.inside.groups.items ≡ moved (now c.self.inside.timing c.self.inside.rules c.self.inside.bus_free c.self.inside.luns.items c.self.inside.wants.items c.self.inside.waiting c.self.inside.groups.items c.self.invariant.0) (KeptNext c.args.lun)
left c step =
    let t = c.self.inside in
    let f = finds_next t.timing t.rules t.bus_free t.luns.items t.wants.items t.waiting t.groups.items c.self.invariant.0 c.args.lun blank step in
    let i = read_group t.groups.items (get_or t.luns.items c.args.lun blank).place c.index-group.result.now f.place (rw c.deref.ensures.0 at c.index-group.ensures) in
    let q = rw (c.max-start.ensures, c.deref.ensures.0) at c.run-bus_free.ensures.ended in
    let s = rw c.deref.ensures.0 at (c.run-bus_free.ensures.state t.groups.items (rw c.deref.ensures.0 i)) in
    went_on t.timing t.rules t.bus_free t.luns.items t.wants.items t.waiting t.groups.items c.self.invariant.0 c.args.lun blank c.index-group.result.now c.run-bus_free.result.0 c.run-bus_free.result.1 step i q s

pub invariant_of-self : goal.invariant_of-self
invariant_of-self c =
    let t = c.self.inside in
    let at = goal.at.invariant_of-self c in
    let im = step at.After-deref in
    rw (refilled t.luns.items c.deref_mut.result.now c.args.lun c.run-bus_free.result.1 c.deref_mut.ensures.value) (next_kept t.timing t.rules t.bus_free t.luns.items t.wants.items t.waiting t.groups.items c.self.invariant.0 c.args.lun _ im (left at.After-run-bus_free im), rw length_set c.self.invariant.1)

pub returns : goal.returns
returns c =
    let at = goal.at.returns c in
    rw (← c.self.view_is, refilled c.self.inside.luns.items c.deref_mut.result.now c.args.lun c.run-bus_free.result.1 c.deref_mut.ensures.value) (left at.After-run-bus_free (step at.After-deref))
