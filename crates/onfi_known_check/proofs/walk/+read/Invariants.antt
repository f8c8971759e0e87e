use Rattle.std.proofs.Common.{◌≡◌, ◌+◌, ◌*◌, ◌≤◌, length, take}
use Rattle.onfi_problem.specs.Position.{moves_of}
use Rattle.onfi_known_check.specs.Faults.{ReadOn}
use Rattle.onfi_known_check.specs.Proves.{Children}
use Rattle.onfi_known_check.specs.declared.token.TheConstants.{MOST_KNOWN}
use Rattle.onfi_known_check.proofs.walk.+read.Given as goal

abbrev pub decreases-read_tree : goal.decreases-read_tree
decreases-read_tree g l = 5 * length (g.S.TokenSource.left l.tokens.now.source) + 3

abbrev pub decreases-read_branch : goal.decreases-read_branch
decreases-read_branch g l = 5 * length (g.S.TokenSource.left l.tokens.now.source) + 2

abbrev pub decreases-read_children : goal.decreases-read_children
decreases-read_children g l = 5 * length (g.S.TokenSource.left l.tokens.now.source) + 1

abbrev pub decreases-read_child : goal.decreases-read_child
decreases-read_child g l = 5 * length (g.S.TokenSource.left l.tokens.now.source)

abbrev pub decreases-read_below : goal.decreases-read_below
decreases-read_below g l = 5 * length (g.S.TokenSource.left l.tokens.now.source) + 4

abbrev pub invariant-read_children-loop-m : goal.invariant-read_children-loop-m
invariant-read_children-loop-m g l =
    let x = l.fn.problem in
    let all = moves_of x.groups l.listed in
    let begun = g.S.TokenSource.left l.fn.tokens.source in
    let left = g.S.TokenSource.left l.tokens.source in
    record {
      problem : l.problem ≡ l.fn.problem;
      fewer : length left ≤ length begun;
      read : ReadOn l.fn.tokens.place l.tokens.place begun left;
      behind : g.S.TokenSource.behind l.tokens.source ≡ g.S.TokenSource.behind l.fn.tokens.source;
      few : length l.fn.known.items ≤ MOST_KNOWN → length l.known.items ≤ MOST_KNOWN;
      room : length l.standing.given.items ≤ l.m-index;
      children : Children l.e x.all x.problem all (moves_of x.groups (take l.m-index l.listed)) l.fn.known.items begun l.standing.asked l.standing.given.items l.known.items left;
    }
