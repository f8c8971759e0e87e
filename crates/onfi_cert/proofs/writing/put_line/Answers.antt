use Rattle.std.proofs.Common.{ap, ◌∙◌, inl, inr, arith}
use Rattle.std.proofs.lemmas.Grind.{common_steps}
use Rattle.onfi_cert.proofs.Put.{put_next}
use Rattle.onfi_cert.proofs.writing.put_line.Goals as goal
use Rattle.onfi_cert.proofs.writing.put_line.Goals.{then-at-gt0+in_ok-push, else-at-gt0}

pub loop-at-preserved : goal.loop-at-preserved
loop-at-preserved g c =
    put_next g.T.Spelled.spelling g.T.Spelled.Kept c.args.out.now.items c.loop-at.out.items c.if-at-gt0.out.items c.put.new.out.items c.args.tokens.now c.loop-at.at
    c.index-tokens-at.result c.loop-at-test.true c.index-tokens-at.is c.loop-at.invariant c.in_ok-put.ensures.kept
    (elim c.if-at-gt0.branch [
      | then-at-gt0+in_ok-push w ↦ inl (omega arith, ap (λ v. v.items) w.out-is ∙ w.in_ok-push.ensures.items)
      | else-at-gt0 w ↦ inr (omega arith, ap (λ v. v.items) w.out-is)
    ]) c.in_ok-put.ensures.spelled

pub returns-clause-spelled : goal.returns-clause-spelled
returns-clause-spelled g c = grind (arith, common_steps)

pub returns-clause-kept : goal.returns-clause-kept
returns-clause-kept g c = grind (arith, common_steps)
