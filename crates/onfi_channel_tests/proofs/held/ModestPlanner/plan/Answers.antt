use Rattle.std.proofs.Common.{arith, refl, sym}
use Rattle.onfi_check.specs.Tree.{ByBus, Closed}
use Rattle.onfi_channel_tests.proofs.held.ModestPlanner.plan.Goals as goal

pub returns-clause-shown : goal.returns-clause-shown
returns-clause-shown c = (Closed ByBus, sym c.in_ok-tokens.ensures.items, omega arith)

pub returns-clause-kind : goal.returns-clause-kind
returns-clause-kind c = (c.in_ok-tokens.tokens, refl)
