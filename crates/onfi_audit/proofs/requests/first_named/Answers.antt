use Rattle.onfi_group.proofs.Lists.{Has-get}
use Rattle.onfi_audit.proofs.requests.first_named.Goals as goal

pub returns-then-names-clause-some : goal.returns-then-names-clause-some
returns-then-names-clause-some c = (Has-get c.args.wants.now c.loop-want.want-index _ c.loop-want-test.true, c.names.ensures.0 c.if-names.true)
