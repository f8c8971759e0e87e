use Rattle.std.proofs.Common.{◌≡◌, ◌∙◌, sym, ap, length, map, refl}
use Rattle.std.proofs.lemmas.List.{length-map}
use Rattle.onfi_problem.specs.Position.{state_of}
use Rattle.onfi_problem.specs.Problem.{IsWant}
use Rattle.onfi_problem.proofs.Perm.{All-weaker}
use Rattle.onfi_problem.proofs.Marks.{all_wait}
use Rattle.onfi_problem.proofs.Sums.{luns_of}
use Rattle.onfi_problem.proofs.problem.Problem.open.Goals as goal

pub open_luns-requires-clause-luns : goal.open_luns-requires-clause-luns
open_luns-requires-clause-luns c = luns_of c.args.rules c.args.states.now c.requires.problem.running

pub list_groups-requires-clause-planes : goal.list_groups-requires-clause-planes
list_groups-requires-clause-planes c = All-weaker _ _ (λ w (h : IsWant w). h.plane) c.args.wants.now c.requires.problem.wants

pub invariant_of-result : goal.invariant_of-result
invariant_of-result c =
    let w = c.inline-wants.ensures in
    let groups = c.list_groups.new.groups.items in
    let luns = c.in_ok-luns.luns.items in
    let g = c.in_ok-first.ensures.grown in
    let few = c.requires.small.wants in
    let e : map (state_of groups) luns ≡ c.args.states.now = ap (λ z. map (state_of z) luns) g.1 ∙ c.in_ok-luns.ensures.states g.0 in
    let m = all_wait 8 c.args.wants.now few in
    let n = sym (length-map luns (state_of groups)) ∙ ap length e in
    rw w (
      record { limits = rw (e, m) c.requires; few = few; wants = c.requires.problem.wants; ids = c.requires.problem.ids },
      rw n (record { opened = c.in_ok-first.ensures.opened; own = c.in_ok-first.ensures.own; asked = rw c.as_slice.ensures.value at c.in_ok-start_marks.ensures }),
    )

pub returns-clause-ok : goal.returns-clause-ok
returns-clause-ok c =
    let w = c.inline-wants.ensures in
    let groups = c.list_groups.new.groups.items in
    let luns = c.in_ok-luns.luns.items in
    let g = c.in_ok-first.ensures.grown in
    let few = c.requires.small.wants in
    let e : map (state_of groups) luns ≡ c.args.states.now = ap (λ z. map (state_of z) luns) g.1 ∙ c.in_ok-luns.ensures.states g.0 in
    let m = all_wait 8 c.args.wants.now few in
    rw (w, e, m) refl
