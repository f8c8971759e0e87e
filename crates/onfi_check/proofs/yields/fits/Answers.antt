use Rattle.std.proofs.Common.{subst}
use Rattle.std.proofs.lemmas.Bool.{false≢true}
use Rattle.onfi_check.specs.Ends.{IsLastEnd}
use Rattle.onfi_check.proofs.Fitting.{fits_by_end, none_fits}
use Rattle.onfi_check.proofs.yields.fits.Goals as goal

pub returns-in-Some : goal.returns-in-Some
returns-in-Some c = λ moves lun is.
    let x = c.args.problem.now in
    let known = subst (IsLastEnd x.problem moves lun) c.in-Some.is is in
    fits_by_end x.problem moves c.args.own lun c.in-Some.end c.may_go.result known c.may_go.ensures.value

pub returns-in-None : goal.returns-in-None
returns-in-None c = λ moves lun is.
    let x = c.args.problem.now in
    let known = subst (IsLastEnd x.problem moves lun) c.in-None.is is in
    ((λ t. absurd (false≢true t)), λ f. absurd (none_fits x.problem moves c.args.own lun known f))
