use Rattle.std.proofs.Common.{[], false, None}
use Rattle.onfi_reply.specs.declared.view.View.TheVariants.{AtPoster}
use Rattle.onfi_reply.proofs.rule.open_line.Given as goal

abbrev pub ghosts-pick : goal.ghosts-pick
ghosts-pick a = record { first = AtPoster a.opened [] false None }
