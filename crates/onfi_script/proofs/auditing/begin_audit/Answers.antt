use Rattle.std.proofs.Common.{Ok, Err, ap, sym, ◌∙◌, subst, refl}
use Rattle.std.proofs.lemmas.Result.{err_from_is_err_and}
use Rattle.onfi_audit.specs.Audit.{opening}
use Rattle.onfi_script.specs.Answer.{TellsProblem}
use Rattle.onfi_script.specs.Auditing.{AcceptsAll, TellsBegun, bare, has_fault, is_begun, refuses_want, requests_of}
use Rattle.onfi_script.specs.Setup.{asks_amiss}
use Rattle.onfi_script.specs.SetupOf.{problem_of}
use Rattle.onfi_script.proofs.Logs.{told_is}
use Rattle.onfi_script.proofs.Scripts.{if_refused}
use Rattle.onfi_script.proofs.auditing.begin_audit.Goals as goal

pub returns-in_err-problem : goal.returns-in_err-problem
returns-in_err-problem c =
    let rows = c.args.rows.now in
    let p = problem_of c.args.setup in
    let told = rw c.new.ensures.items at c.in_err-problem.ensures.told in
    let e = err_from_is_err_and c.from_residual.result c.from_residual.ensures.1 in
    rw (e.1, e.2) (if_refused c.in_err-problem.field-0.0 (λ refusal. TellsProblem rows (bare p) (Err refusal)) (λ refusal. TellsBegun rows p (Err refusal))
    (λ refusal h. has_fault refusal h refl) told)

pub returns-in_err-accept_all : goal.returns-in_err-accept_all
returns-in_err-accept_all c =
    let rows = c.args.rows.now in
    let p = problem_of c.args.setup in
    let told = rw c.new.ensures.items at c.in_ok-problem.ensures.told in
    let same = told_is rows (bare p) c.in_ok-problem.problem.problem told in
    let opened = subst (λ q. TellsProblem rows (bare p) (Ok q)) same told in
    let begins = c.open_audit-audit.ensures ∙ ap opening same in
    let why = rw (begins, c.as_slice.ensures.value) at c.in_err-accept_all.ensures in
    let e = err_from_is_err_and c.from_residual-in_err-accept_all.result c.from_residual-in_err-accept_all.ensures.1 in
    rw (e.1, e.2) (if_refused c.in_err-accept_all.field-0.0 (λ refusal. AcceptsAll p.wants (opening (bare p)) (Err refusal)) (λ refusal. TellsBegun rows p (Err refusal))
    (λ refusal h. refuses_want refusal opened h refl) why)

pub returns : goal.returns
returns c =
    let rows = c.args.rows.now in
    let p = problem_of c.args.setup in
    let a = c.accept_all.new.audit in
    let told = rw c.new.ensures.items at c.in_ok-problem.ensures.told in
    let same = told_is rows (bare p) c.in_ok-problem.problem.problem told in
    let opened = subst (λ q. TellsProblem rows (bare p) (Ok q)) same told in
    let accepts = subst (λ ws. AcceptsAll ws c.open_audit-audit.result (Ok a)) c.as_slice.ensures.value c.in_ok-accept_all.ensures in
    let begins = subst (λ b. AcceptsAll p.wants b (Ok a)) (c.open_audit-audit.ensures ∙ ap opening same) accepts in
    let right = sym (c.asks_amiss.ensures ∙ ap (asks_amiss rows) c.as_slice-2.ensures.value) ∙ c.if-asks_amiss.false in
    (is_begun a opened begins right refl, c.requests_of.ensures ∙ ap requests_of c.as_slice-3.ensures.value)
