use Rattle.std.proofs.Common.{◌≡◌, ◌+◌, ◌*◌, ◌≤◌, ◌↔◌, List, length, drop}
use Rattle.onfi_problem.specs.Position.{moves_of}
use Rattle.onfi_cert.specs.declared.token.Token.{Token}
use Rattle.onfi_check.specs.Ends.{IsAsked}
use Rattle.onfi_check.specs.Reading.{BeginsEach, BeginsRest, ReadOn}
use Rattle.onfi_check.proofs.walk.+read.Given as goal

abbrev pub decreases-read_tree : goal.decreases-read_tree
decreases-read_tree g l = 5 * length (g.S.TokenSource.left l.tokens.now.source) + 3

abbrev pub decreases-read_branch : goal.decreases-read_branch
decreases-read_branch g l = 5 * length (g.S.TokenSource.left l.tokens.now.source) + 2

abbrev pub decreases-read_children : goal.decreases-read_children
decreases-read_children g l = 5 * length (g.S.TokenSource.left l.tokens.now.source) + 1

abbrev pub decreases-read_child : goal.decreases-read_child
decreases-read_child g l = 5 * length (g.S.TokenSource.left l.tokens.now.source)

abbrev pub decreases-read_below : goal.decreases-read_below
decreases-read_below g l = 5 * length (g.S.TokenSource.left l.tokens.now.source) + 4

abbrev pub invariant-read_children-loop-m : goal.invariant-read_children-loop-m
invariant-read_children-loop-m g l =
    let p = l.fn.problem.problem in
    let all = moves_of l.fn.problem.groups l.listed in
    let begun = g.S.TokenSource.left l.fn.tokens.source in
    let left = g.S.TokenSource.left l.tokens.source in
    record {
      problem : l.problem ≡ l.fn.problem;
      fewer : length left ≤ length begun;
      read : ReadOn l.fn.tokens.place l.tokens.place begun left;
      behind : g.S.TokenSource.behind l.tokens.source ≡ g.S.TokenSource.behind l.fn.tokens.source;
      asked : IsAsked p all l.standing.asked;
      same : (rest : List Token) → BeginsRest p l.node.e (moves_of l.fn.problem.groups (drop l.m-index l.listed)) all l.standing.awaited l.standing.leaving left rest ↔ BeginsEach p l.node.e all begun rest;
    }
