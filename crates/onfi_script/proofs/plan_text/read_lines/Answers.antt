use Rattle.std.proofs.Common.{sym, ◌∙◌}
use Rattle.onfi_log.specs.Parts.{parts}
use Rattle.onfi_script.specs.PlanText.{lines_of}
use Rattle.onfi_script.proofs.PlanLemmas.{plan_ended, read_on}
use Rattle.onfi_script.proofs.plan_text.read_lines.Goals as goal

pub returns-then-is_certificate-clause-read : goal.returns-then-is_certificate-clause-read
returns-then-is_certificate-clause-read c =
    plan_ended c.args.wants.now c.loop-line.plan c.loop-line.left.now c.in-Some.line.now c.in-Some.behind.now (lines_of c.args.wants.now c.args.finish (parts 10 c.args.text.now))
    c.in-Some.ensures.some (sym c.is_certificate.ensures ∙ c.if-is_certificate.true) c.loop-line.invariant

pub loop-line-preserved : goal.loop-line-preserved
loop-line-preserved c =
    read_on c.args.wants.now c.loop-line.plan c.loop-line.left.now c.in-Some.line.now c.in-Some.behind.now c.read_line.new.self (lines_of c.args.wants.now c.args.finish (parts 10 c.args.text.now))
    c.in-Some.ensures.some (sym c.is_certificate.ensures ∙ c.if-is_certificate.false) c.in_default-read_line.ensures.read c.loop-line.invariant
