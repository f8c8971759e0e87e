use Rattle.std.proofs.Common.{◌≡◌, ◌≤◌, ◌+◌, ℕ, refl, subst, arith}
use Rattle.onfi_problem.specs.Position.{Position}
use Rattle.onfi_known_plan.specs.Walks.{IsProved}
use Rattle.onfi_known_plan.proofs.Tree.{better_more, is_searched, nodes_later, tree_at}
use Rattle.onfi_known_plan.proofs.planning.search_tree.Goals as goal

pub walk-requires : goal.walk-requires
walk-requires c = tree_at c.args.problem.now c.in_ok-root.root.problem c.in_ok-root.root c.in_ok-root.ensures refl

pub walk_on-requires : goal.walk_on-requires
walk_on-requires c = tree_at c.args.problem.now c.walk.new.at c.in_ok-root.root c.in_ok-root.ensures c.in_ok-found.ensures.problem

pub returns-then-not-is_outdone : goal.returns-then-not-is_outdone
returns-then-not-is_outdone c =
    let root = c.in_ok-root.root in
    let found = c.in_ok-found.ensures in
    let stands = c.is_outdone.ensures.stands c.if-not-is_outdone.true in
    is_searched c.args.problem.now root c.args.limit _ c.in_ok-root.ensures found.found refl found.opened found.nodes (λ q. found.proved q (stands q)) (λ q. found.counted q (stands q)) found.full found.over

pub returns : goal.returns
returns c =
    let root = c.in_ok-root.root in
    let found = c.in_ok-found in
    let written = c.in_ok-written in
    let e = found.ensures.problem in
    let le = found.ensures.found.sooner in
    is_searched c.args.problem.now root c.args.limit _ c.in_ok-root.ensures (better_more root.problem c.walk.new.at root.best c.walk.new.best c.walk_on.new.best e found.ensures.found written.ensures.found) refl written.ensures.opened
    (nodes_later c.walk.new.at root.problem c.walk.new.best.finish root.best.finish written.written.opened e le written.ensures.nodes)
    (λ q. subst (λ (z : Position). IsProved z written.written.tokens.items c.walk_on.new.best.finish) e (written.ensures.proved q))
    written.ensures.counted written.ensures.full (λ q. nodes_later c.walk.new.at root.problem c.walk.new.best.finish root.best.finish (c.args.limit + 1) e le (written.ensures.over q))
