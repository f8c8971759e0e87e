use Rattle.std.proofs.Common.{◌≡◌, take, replicate}
use Rattle.std.specs.Prelude.{if◌then◌else◌}
use Rattle.onfi_die.specs.declared.page.Page.TheVariants.{Erased, Torn}
use Rattle.onfi_die.proofs.pages.make_all.Given as goal

abbrev pub invariant-loop-page : goal.invariant-loop-page
invariant-loop-page l = take l.page-index l.pages ≡ replicate l.page-index (if l.torn then Torn else Erased)
