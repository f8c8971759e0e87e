use Rattle.std.proofs.Common.{[], ◌≡◌, get_or, sym, subst, arith}
use Rattle.std.specs.Prelude.{slice_index_or, slice_set}
use Rattle.onfi_problem.specs.declared.moves.Lun.{Lun}
use Rattle.onfi_problem.specs.declared.moves.Move.TheVariants.{Start as KeptStart}
use Rattle.onfi_problem.specs.Moves.{IsMove, Start}
use Rattle.onfi_problem.specs.Position.{Position, moved}
use Rattle.onfi_problem.specs.Kept.{position_of}
use Rattle.onfi_problem.proofs.Lists.{refilled}
use Rattle.onfi_problem.proofs.Places.{length_set}
use Rattle.onfi_group.specs.Group.{lun_of}
use Rattle.onfi_problem.proofs.After.{now, FindsStart, finds_start, started, start_kept, read_group, in_table}
use Rattle.onfi_problem.proofs.problem.Problem.start.Goals.{After-deref, After-leave}
use Rattle.onfi_problem.proofs.problem.Problem.start.Goals as goal

abbrev blank : Lun
blank = record { next = 0; place = 0; time = 0 }

step : (c : After-deref) → IsMove (now c.self.inside.timing c.self.inside.rules c.self.inside.bus_free c.self.inside.luns.items c.self.inside.wants.items c.self.inside.waiting c.self.inside.groups.items c.self.invariant.0).problem (Start (slice_index_or c.self.inside.groups.items c.args.place [])) × (lun_of (slice_index_or c.self.inside.groups.items c.args.place []) ≡ c.args.lun)
step c = (subst (λ (z : Position). IsMove z.problem (Start (slice_index_or z.groups c.args.place []))) (sym c.self.view_is) c.requires.step, subst (λ (z : Position). lun_of (slice_index_or z.groups c.args.place []) ≡ c.args.lun) (sym c.self.view_is) c.requires.lun)

finds : (c : After-deref) → FindsStart c.self.inside.bus_free c.self.inside.luns.items c.args.lun (get_or c.self.inside.luns.items c.args.lun blank)
finds c = let t = c.self.inside in finds_start t.timing t.rules t.bus_free t.luns.items t.wants.items t.waiting t.groups.items c.self.invariant.0 c.args.lun blank (slice_index_or t.groups.items c.args.place []) (step c).0 (step c).1

pub run-bus_free-requires-clause-start : goal.run-bus_free-requires-clause-start
run-bus_free-requires-clause-start c =
    let s = (finds (goal.at.run-bus_free-requires-clause-start c).After-deref).start in
    let m = rw c.deref.ensures.0 at c.max-start.ensures in
    omega arith

pub bounds-deref-lun : goal.bounds-deref-lun
bounds-deref-lun c = rw c.deref.ensures.0 (finds (goal.at.bounds-deref-lun c).After-deref).lun

pub bounds-deref_mut-lun : goal.bounds-deref_mut-lun
bounds-deref_mut-lun c = rw c.deref_mut.ensures.value (finds (goal.at.bounds-deref_mut-lun c).After-deref).lun

-- the position that the phase leaves
left : (c : After-leave) → IsMove (now c.self.inside.timing c.self.inside.rules c.self.inside.bus_free c.self.inside.luns.items c.self.inside.wants.items c.self.inside.waiting c.self.inside.groups.items c.self.invariant.0).problem (Start (slice_index_or c.self.inside.groups.items c.args.place [])) → lun_of (slice_index_or c.self.inside.groups.items c.args.place []) ≡ c.args.lun → position_of c.self.inside.timing c.self.inside.rules c.run-bus_free.result.0 (slice_set c.self.inside.luns.items c.args.lun c.run-bus_free.result.1) c.self.inside.wants.items c.leave.new.waiting c.self.inside.groups.items ≡ moved (now c.self.inside.timing c.self.inside.rules c.self.inside.bus_free c.self.inside.luns.items c.self.inside.wants.items c.self.inside.waiting c.self.inside.groups.items c.self.invariant.0) (KeptStart c.args.lun c.args.place)
left c im of =
    let t = c.self.inside in
    let i = read_group t.groups.items c.args.place c.index-group.result.now (in_table t.groups.items c.args.place im.2.group.some) c.index-group.ensures in
    let q = rw (c.max-start.ensures, c.deref.ensures.0) at c.run-bus_free.ensures.ended in
    let s = c.run-bus_free.ensures.state t.groups.items i in
    let l = rw c.as_slice.ensures.value at c.leave.ensures in
    started t.timing t.rules t.bus_free t.luns.items t.wants.items t.waiting t.groups.items c.self.invariant.0 c.args.lun c.args.place blank c.index-group.result.now c.run-bus_free.result.0 c.run-bus_free.result.1 c.leave.new.waiting im of i q s l

pub invariant_of-self : goal.invariant_of-self
invariant_of-self c =
    let t = c.self.inside in
    let at = goal.at.invariant_of-self c in
    let (im, of) = step at.After-deref in
    rw (refilled t.luns.items c.deref_mut.result.now c.args.lun c.run-bus_free.result.1 c.deref_mut.ensures.value) (start_kept t.timing t.rules t.bus_free t.luns.items t.wants.items t.waiting t.groups.items c.self.invariant.0 c.args.lun c.args.place _ im (left at.After-leave im of), rw length_set c.self.invariant.1)

pub returns : goal.returns
returns c =
    let at = goal.at.returns c in
    let (im, of) = step at.After-deref in
    rw (← c.self.view_is, refilled c.self.inside.luns.items c.deref_mut.result.now c.args.lun c.run-bus_free.result.1 c.deref_mut.ensures.value) (left at.After-leave im of)
