use Rattle.std.proofs.Common.{[], sym, ◌∙◌, subst, arith}
use Rattle.std.proofs.lemmas.Result.{err_from_is_err_and}
use Rattle.onfi_check.specs.Reading.{Begins}
use Rattle.onfi_check.proofs.Tokens.{begins_with_all, none_accepted, none_behind}
use Rattle.onfi_check.proofs.Placing.{fault_of, fits_whole, no_tree_behind, nothing_front, trailing_at}
use Rattle.onfi_check.proofs.walk.read_whole.Goals as goal

pub returns-in_default-clause-err : goal.returns-in_default-clause-err
returns-in_default-clause-err g c = none_accepted c.args.problem.now.problem c.args.e (g.S.TokenSource.left c.args.tokens.now.source) c.in_default.ensures.end.0

pub returns-in_err-read_tree-clause-err : goal.returns-in_err-read_tree-clause-err
returns-in_err-read_tree-clause-err g c =
    let p = c.args.problem.now.problem in
    let tokens = g.S.TokenSource.left c.args.tokens.now.source in
    let r = err_from_is_err_and c.from_residual.result c.from_residual.ensures.1 in
    rw r.1 (λ a. c.in_err-read_tree.ensures.err [] (subst (λ z. Begins p c.args.e z []) c.in-Some.ensures.token (begins_with_all p c.args.e tokens a)))

pub returns-in-Some-take-clause-err : goal.returns-in-Some-take-clause-err
returns-in-Some-take-clause-err g c =
    let p = c.args.problem.now.problem in
    let tokens = g.S.TokenSource.left c.args.tokens.now.source in
    let read = subst (λ z. Begins p c.args.e z (g.S.TokenSource.left c.read_tree.new.tokens.source)) (sym c.in-Some.ensures.token) c.in_ok-read_tree.ensures.ok in
    none_behind p c.args.e tokens (g.S.TokenSource.left c.read_tree.new.tokens.source) (g.S.TokenSource.left c.take-2.new.self.source) c.in-Some-take.field-0-0 c.in-Some-take.ensures.token read

pub returns-in_default-clause-kind : goal.returns-in_default-clause-kind
returns-in_default-clause-kind g c = (nothing_front c.args.problem.now.problem c.args.e (g.S.TokenSource.left c.args.tokens.now.source) c.in_default.ensures.end.0, c.in_default.ensures.end.1)

pub returns-in_err-read_tree-clause-kind : goal.returns-in_err-read_tree-clause-kind
returns-in_err-read_tree-clause-kind g c =
    let p = c.args.problem.now.problem in
    let tokens = g.S.TokenSource.left c.args.tokens.now.source in
    let left = g.S.TokenSource.left c.take.new.self.source in
    let rest = g.S.TokenSource.left c.read_tree.new.tokens.source in
    let r = err_from_is_err_and c.from_residual.result c.from_residual.ensures.1 in
    rw (r.1, r.2) (fault_of p c.args.e tokens rest _ (no_tree_behind p c.args.e tokens left c.in-Some.token c.in-Some.ensures.token c.in_err-read_tree.ensures.err) (fits_whole c.in-Some.place tokens left rest c.in-Some.token _ c.in-Some.ensures.token (c.in-Some.ensures.place ∙ c.requires.first) c.in_err-read_tree.ensures.kind))

pub returns-in-Some-take-clause-kind : goal.returns-in-Some-take-clause-kind
returns-in-Some-take-clause-kind g c =
    let p = c.args.problem.now.problem in
    let tokens = g.S.TokenSource.left c.args.tokens.now.source in
    let begun = g.S.TokenSource.left c.take.new.self.source in
    let left = g.S.TokenSource.left c.read_tree.new.tokens.source in
    let first = c.in-Some.ensures.next in
    let zero = c.requires.first in
    let read = subst (λ z. Begins p c.args.e z left) (sym c.in-Some.ensures.token) c.in_ok-read_tree.ensures.ok in
    trailing_at p c.args.e c.take.new.self.place c.read_tree.new.tokens.place c.in-Some-take.place tokens begun left (g.S.TokenSource.left c.take-2.new.self.source) c.in-Some.token c.in-Some-take.field-0-0 (omega arith) c.in-Some.ensures.token c.in_ok-read_tree.ensures.read c.in-Some-take.ensures.token c.in-Some-take.ensures.place read
