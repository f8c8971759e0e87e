use Rattle.std.proofs.Common.{◌≡◌, replicate}
use Rattle.onfi_die.specs.declared.page.Page.TheVariants.{Erased}
use Rattle.onfi_die.proofs.pages.erased_pages.Given as goal

abbrev pub invariant-loop-page : goal.invariant-loop-page
invariant-loop-page l = l.pages.items ≡ replicate l._page Erased
