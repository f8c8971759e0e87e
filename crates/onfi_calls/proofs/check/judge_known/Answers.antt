use Rattle.std.proofs.Common.{◌≡◌, ◌≤◌, sym, subst, arith, ap, ◌∙◌}
use Rattle.onfi_schedule.specs.Schedule.{finish}
use Rattle.onfi_known_check.specs.Faults.{IsTextFault}
use Rattle.onfi_calls.specs.Check.{asked, is_known}
use Rattle.onfi_calls.proofs.Verdicts.{asked_named, shown_known}
use Rattle.onfi_calls.proofs.check.judge_known.Goals as goal

pub returns-in-Ok-clause-shown : goal.returns-in-Ok-clause-shown
returns-in-Ok-clause-shown c =
    let e = c.in-Ok.ensures in
    let x = c.args.stand.now.problem in
    let s = c.args.stand.now.schedule in
    let none = c.if-below-eq0.true in
    let is : asked x.problem s c.args.below ≡ finish x.problem s = ap (asked x.problem s) none in
    shown_known x s c.args.below c.in-Ok.finish c.in-Ok.finish c.args.certificate.now c.requires.begun (is ∙ e.optimal.1) e.optimal.0.legal e.optimal.1 (omega arith)
    (λ other legal. subst (λ n. n ≤ finish x.problem other) e.optimal.1 (e.optimal.0.least other legal)) e.accepted

pub returns-in-Err-clause-refused : goal.returns-in-Err-clause-refused
returns-in-Err-clause-refused c =
    let x = c.args.stand.now.problem in
    let s = c.args.stand.now.schedule in
    let none = c.if-below-eq0.true in
    let is : asked x.problem s c.args.below ≡ finish x.problem s = ap (asked x.problem s) none in
    is_known c.in-Err.fault c.requires.other
    (subst (λ n. IsTextFault x.problem.wants x.problem s n c.args.certificate.now c.in-Err.fault) (sym is)
    (subst (λ all. IsTextFault all x.problem s (finish x.problem s) c.args.certificate.now c.in-Err.fault) c.requires.begun c.in-Err.ensures.fault)) c.of_known_text.ensures

pub returns-in-Ok-check_known_within-clause-shown : goal.returns-in-Ok-check_known_within-clause-shown
returns-in-Ok-check_known_within-clause-shown c =
    let e = c.in-Ok-check_known_within.ensures in
    let x = c.args.stand.now.problem in
    let s = c.args.stand.now.schedule in
    shown_known x s c.args.below c.args.below c.in-Ok-check_known_within.finish c.args.certificate.now c.requires.begun (asked_named x.problem s c.args.below c.if-below-eq0.false) e.legal e.finish
    e.below e.least e.accepted

pub returns-in-Err-check_known_within-clause-refused : goal.returns-in-Err-check_known_within-clause-refused
returns-in-Err-check_known_within-clause-refused c =
    let x = c.args.stand.now.problem in
    let s = c.args.stand.now.schedule in
    is_known c.in-Err-check_known_within.fault c.requires.other
    (subst (λ n. IsTextFault x.problem.wants x.problem s n c.args.certificate.now c.in-Err-check_known_within.fault) (sym (asked_named x.problem s c.args.below c.if-below-eq0.false))
    (subst (λ all. IsTextFault all x.problem s c.args.below c.args.certificate.now c.in-Err-check_known_within.fault) c.requires.begun c.in-Err-check_known_within.ensures.fault))
    c.of_known_text-in-Err-check_known_within.ensures
