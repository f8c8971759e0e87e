use Rattle.std.proofs.Common.{◌∙◌, codes, refl, sym, subst}
use Rattle.clap.specs.Words.{first_of, found_of, rows_of}
use Rattle.clap.proofs.WalkLemmas.{first_value-rows}
use Rattle.onfi_planners.specs.declared.by.By.TheVariants as way
use Rattle.onfi_console.specs.Words as spec
use Rattle.onfi_console.proofs.command_line.check_by.Goals as goal

pub returns-then-remember-clause-command : goal.returns-then-remember-clause-command
returns-then-remember-clause-command c =
    let text = first_of (codes "by") (rows_of (found_of c.args.used.now)) in
    let none = rw first_value-rows at c.in_ok-leave_out.ensures in
    (refl, refl, (c.requires.judged, subst (λ r. spec.IsCheckBy text r way.Within) (sym (c.requires.former ∙ c.if-remember.true)) (none, refl)))

pub returns-in-Plain-clause-command : goal.returns-in-Plain-clause-command
returns-in-Plain-clause-command c =
    let text = first_of (codes "by") (rows_of (found_of c.args.used.now)) in
    let by : spec.IsBy text c.in_ok-by_of.field-0 = rw first_value-rows at c.in_ok-by_of.ensures in
    (refl, refl, (c.requires.judged, subst (λ r. spec.IsCheckBy text r way.Plain) (sym (c.requires.former ∙ c.if-remember.false)) (subst (spec.IsBy text) c.in-Plain.is by)))

pub returns-in-Within-clause-command : goal.returns-in-Within-clause-command
returns-in-Within-clause-command c =
    let text = first_of (codes "by") (rows_of (found_of c.args.used.now)) in
    let by : spec.IsBy text c.in_ok-by_of.field-0 = rw first_value-rows at c.in_ok-by_of.ensures in
    (refl, refl, (c.requires.judged, subst (λ r. spec.IsCheckBy text r way.Within) (sym (c.requires.former ∙ c.if-remember.false)) (subst (spec.IsBy text) c.in-Within.is by)))
