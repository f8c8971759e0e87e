use Rattle.std.proofs.Common.{sym, ◌∙◌, subst, arith}
use Rattle.std.proofs.lemmas.Result.{err_from_is_err_and}
use Rattle.onfi_known_check.proofs.Placing.{fault_of, fits_whole, no_tree_behind, nothing_front, read_end, read_more, read_one, trailing_at}
use Rattle.onfi_known_check.specs.Proves.{Proves}
use Rattle.onfi_known_check.proofs.Refusing.{of_so, trailing}
use Rattle.onfi_known_check.proofs.walk.read_whole.Goals as goal

pub returns-in-Some-take-clause-err : goal.returns-in-Some-take-clause-err
returns-in-Some-take-clause-err g c =
    let x = c.args.problem.now in
    let limits = c.in_limits.ensures.limits in
    let tokens = g.S.TokenSource.left c.args.tokens.now.source in
    let left = g.S.TokenSource.left c.read_tree.new.tokens.source in
    let d = c.in_ok-read_tree.field-0 in
    let proves = subst (λ z. Proves c.args.e x.all x.problem c.args.known.now.items z d c.read_tree.new.known.items left) (sym c.in-Some.ensures.token) c.in_ok-read_tree.ensures.ok in
    trailing c.args.e x.all x.problem tokens left (g.S.TokenSource.left c.take-2.new.self.source) c.in-Some-take.field-0-0 d c.read_tree.new.known.items (record { problem = limits.problem; small = limits.small }) (subst (λ z. Proves c.args.e x.all x.problem z tokens d c.read_tree.new.known.items left) c.requires.none proves) c.in-Some-take.ensures.token

pub returns-in_default-clause-kind : goal.returns-in_default-clause-kind
returns-in_default-clause-kind g c = (nothing_front c.args.e c.args.problem.now.all c.args.problem.now.problem (g.S.TokenSource.left c.args.tokens.now.source) c.in_default.ensures.end.0, c.in_default.ensures.end.1)

pub returns-in_default-clause-read : goal.returns-in_default-clause-read
returns-in_default-clause-read g c = read_end c.args.tokens.now.place c.take.new.self.place (g.S.TokenSource.left c.args.tokens.now.source) (g.S.TokenSource.left c.take.new.self.source) c.in_default.ensures.last c.in_default.ensures.end.0 c.in_default.ensures.end.1

pub returns-in_err-read_tree-clause-kind : goal.returns-in_err-read_tree-clause-kind
returns-in_err-read_tree-clause-kind g c =
    let x = c.args.problem.now in
    let tokens = g.S.TokenSource.left c.args.tokens.now.source in
    let left = g.S.TokenSource.left c.take.new.self.source in
    let rest = g.S.TokenSource.left c.read_tree.new.tokens.source in
    let r = err_from_is_err_and c.from_residual.result c.from_residual.ensures.1 in
    rw (r.1, r.2) (fault_of c.args.e x.all x.problem tokens rest _ (of_so _ _ _ (no_tree_behind c.args.e x.all x.problem c.args.known.now.items tokens left c.in-Some.token c.in-Some.ensures.token c.requires.none) c.in_err-read_tree.ensures.err) (fits_whole c.in-Some.place tokens left rest c.in-Some.token _ c.in-Some.ensures.token (c.in-Some.ensures.place ∙ c.requires.first) c.in_err-read_tree.ensures.kind))

pub returns-in_err-read_tree-clause-read : goal.returns-in_err-read_tree-clause-read
returns-in_err-read_tree-clause-read g c = read_more c.args.tokens.now.place c.take.new.self.place c.read_tree.new.tokens.place (g.S.TokenSource.left c.args.tokens.now.source) (g.S.TokenSource.left c.take.new.self.source) (g.S.TokenSource.left c.read_tree.new.tokens.source) (read_one c.args.tokens.now.place c.take.new.self.place (g.S.TokenSource.left c.args.tokens.now.source) (g.S.TokenSource.left c.take.new.self.source) c.in-Some.token c.in-Some.ensures.token c.in-Some.ensures.next) c.read_tree.ensures.read

pub returns-in-Some-take-clause-kind : goal.returns-in-Some-take-clause-kind
returns-in-Some-take-clause-kind g c =
    let x = c.args.problem.now in
    let tokens = g.S.TokenSource.left c.args.tokens.now.source in
    let begun = g.S.TokenSource.left c.take.new.self.source in
    let left = g.S.TokenSource.left c.read_tree.new.tokens.source in
    let first = c.in-Some.ensures.next in
    let zero = c.requires.first in
    let d = c.in_ok-read_tree.field-0 in
    let proves = subst (λ z. Proves c.args.e x.all x.problem c.args.known.now.items z d c.read_tree.new.known.items left) (sym c.in-Some.ensures.token) c.in_ok-read_tree.ensures.ok in
    trailing_at c.args.e x.all x.problem c.take.new.self.place c.read_tree.new.tokens.place c.in-Some-take.place tokens begun left (g.S.TokenSource.left c.take-2.new.self.source) c.in-Some.token c.in-Some-take.field-0-0 d c.read_tree.new.known.items (omega arith) c.in-Some.ensures.token c.read_tree.ensures.read c.in-Some-take.ensures.token c.in-Some-take.ensures.place (subst (λ z. Proves c.args.e x.all x.problem z tokens d c.read_tree.new.known.items left) c.requires.none proves)

pub returns-in-Some-take-clause-read : goal.returns-in-Some-take-clause-read
returns-in-Some-take-clause-read g c =
    let tokens = g.S.TokenSource.left c.args.tokens.now.source in
    let begun = g.S.TokenSource.left c.take.new.self.source in
    let left = g.S.TokenSource.left c.read_tree.new.tokens.source in
    let more = g.S.TokenSource.left c.take-2.new.self.source in
    let first = c.args.tokens.now.place in
    let next = c.take.new.self.place in
    let last = c.read_tree.new.tokens.place in
    read_more first next c.take-2.new.self.place tokens begun more (read_one first next tokens begun c.in-Some.token c.in-Some.ensures.token c.in-Some.ensures.next)
    (read_more next last c.take-2.new.self.place begun left more c.read_tree.ensures.read (read_one last c.take-2.new.self.place left more c.in-Some-take.field-0-0 c.in-Some-take.ensures.token c.in-Some-take.ensures.next))
