use Rattle.std.proofs.Common.{[]}
use Rattle.onfi_queue.specs.declared.view.View.TheVariants.{AtIntake}
use Rattle.onfi_queue.proofs.rule.open_line.Given as goal

abbrev pub ghosts-pick : goal.ghosts-pick
ghosts-pick a = record { first = AtIntake a.opened [] 0 [] }
