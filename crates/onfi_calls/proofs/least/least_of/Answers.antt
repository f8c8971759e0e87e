use Rattle.std.proofs.Common.{◌≤◌, ◌+◌, sym, subst, arith}
use Rattle.std.specs.Prelude.{IfSome, Option}
use Rattle.onfi_calls.specs.declared.least.Start.{Start}
use Rattle.onfi_calls.proofs.InPlace.{turn_first, turn_next}
use Rattle.onfi_calls.proofs.least.least_of.Goals as goal

pub returns-then-next-first : goal.returns-then-next-first
returns-then-next-first c =
    let both = c.in-Some-Some in
    turn_next c.args.rests.now c.args.groups.now c.least_rest.result c.least_group.result c.least_rest.ensures c.least_group.ensures both.next both.is-0
    (subst (λ (o : Option Start). IfSome o (λ s. both.next.time ≤ s.time)) (sym both.is-1) c.if-next-first.true)

pub returns-else-next-first : goal.returns-else-next-first
returns-else-next-first c =
    let both = c.in-Some-Some in
    let less = c.if-next-first.false in
    turn_first c.args.rests.now c.args.groups.now c.least_rest.result c.least_group.result c.least_rest.ensures c.least_group.ensures both.first both.is-1
    (subst (λ (o : Option Start). IfSome o (λ s. both.first.time + 1 ≤ s.time)) (sym both.is-0) (omega (arith, less)))

pub returns-in-Some-None : goal.returns-in-Some-None
returns-in-Some-None c =
    let both = c.in-Some-None in
    turn_next c.args.rests.now c.args.groups.now c.least_rest.result c.least_group.result c.least_rest.ensures c.least_group.ensures both.next both.is-0
    (subst (λ (o : Option Start). IfSome o (λ s. both.next.time ≤ s.time)) (sym both.is-1) tt)

pub returns-in-None-Some : goal.returns-in-None-Some
returns-in-None-Some c =
    let both = c.in-None-Some in
    turn_first c.args.rests.now c.args.groups.now c.least_rest.result c.least_group.result c.least_rest.ensures c.least_group.ensures both.first both.is-1
    (subst (λ (o : Option Start). IfSome o (λ s. both.first.time + 1 ≤ s.time)) (sym both.is-0) tt)
