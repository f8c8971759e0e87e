use Rattle.onfi_calls.proofs.Breaches.{near}
use Rattle.onfi_calls.proofs.broken.find_broken.Goals as goal

pub plain_breach-requires : goal.plain_breach-requires
plain_breach-requires c = near c.args.stand.now.problem.problem c.args.stand.now.schedule c.in-Some.breach c.bus_free-bus_free.ensures.limits.small.few_luns c.in-Some.ensures.told
