use Rattle.onfi_schedule.specs.Names.{named}
use Rattle.onfi_schedule.proofs.Telling.{starts_within}
use Rattle.onfi_schedule.proofs.bus.within.Goals as goal

pub returns-clause-told : goal.returns-clause-told
returns-clause-told c = λ p s two. starts_within (named p s) c.args.slot.now c.args.holder.now two c.requires.begun c.requires.lasts
