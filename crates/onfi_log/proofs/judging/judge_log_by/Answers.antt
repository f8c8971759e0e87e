use Rattle.std.proofs.Common.{◌≡◌, ◌+◌, ◌++◌, string_bytes, ap, ◌∙◌, subst, arith}
use Rattle.onfi_log.specs.Entry.{phases_in}
use Rattle.onfi_log.specs.Judging.{Takes}
use Rattle.onfi_log.specs.Parts.{parts}
use Rattle.onfi_log.specs.Text.{AnswersFrom, AnswersLogBy, answer_of, breach_text, broken, wrong}
use Rattle.onfi_log.proofs.Answering.{answered, broken_at, broken_on, if_ok, right_at, wrong_at}
use Rattle.onfi_log.proofs.judging.judge_log_by.Goals.{in-Some-2+in_ok-put_breach+else-not-all, in_default-2}
use Rattle.onfi_log.proofs.judging.judge_log_by.Goals as goal

pub returns-in_default-read_entry : goal.returns-in_default-read_entry
returns-in_default-read_entry c =
    let l = c.loop-line in
    let a = c.args in
    if_ok (λ r. answer_of r ≡ wrong l.number (string_bytes l.found)) (λ r. AnswersLogBy a.requests a.manner a.audit a.all a.text.now (answer_of r)) c.answer_wrong.result
    (λ r e. answered a.manner a.all a.requests a.audit c.in_ok-judged.judged a.text.now (answer_of r)
    c.in_ok-judged.ensures.begins c.in_ok-judged.ensures.fresh (l.invariant.goes (answer_of r)
    (wrong_at a.manner.readies a.all l.judged l.number l.phases (string_bytes l.found) l.left.now c.in-Some.line.now c.in-Some.behind.now (answer_of r) c.in-Some.ensures.some
    c.in_default-read_entry.ensures.value e)))
    c.answer_wrong.ensures

pub returns-then-not-all : goal.returns-then-not-all
returns-then-not-all c =
    let l = c.loop-line in
    let a = c.args in
    let entry = c.in-Some-read_entry.entry in
    let step = subst (λ o. Takes l.judged entry o c.take.new.self) c.in-Some-2.is c.in_ok-breach.ensures in
    let text = c.in_ok-put_breach.ensures ∙ ap (λ lun. string_bytes l.found ++ breach_text l.number lun c.in-Some-2.breach) c.lun.ensures in
    answered a.manner a.all a.requests a.audit c.in_ok-judged.judged a.text.now (answer_of c.answer_broken.result)
    c.in_ok-judged.ensures.begins c.in_ok-judged.ensures.fresh (l.invariant.goes (answer_of c.answer_broken.result)
    (broken_at a.manner.readies a.all l.judged l.number l.phases (string_bytes l.found) l.left.now c.in-Some.line.now c.in-Some.behind.now (answer_of c.answer_broken.result) c.in-Some.ensures.some
    entry c.take.new.self c.in-Some-read_entry.ensures.value c.in-Some-2.breach step c.if-not-all.true (c.answer_broken.ensures ∙ ap broken text)))

pub loop-line-preserved : goal.loop-line-preserved
loop-line-preserved c =
    let l = c.loop-line in
    let a = c.args in
    let entry = c.in-Some-read_entry.entry in
    let k = c.take.new.self in
    let left = parts 10 c.in-Some.behind.now in
    record {
      counted = omega (arith, l.invariant.counted, c.phases-phases.ensures.few);
      few = omega (arith, l.invariant.few, c.in-Some.ensures.shorter);
      goes = λ answer h.
          let h' = subst (λ n. AnswersFrom a.manner.readies a.all k (l.number + 1) (l.phases + n) (string_bytes c.match-branch-3.found) left answer) c.phases-phases.ensures.value h in
          l.invariant.goes answer (elim c.match-branch-3.branch [
            | in-Some-2+in_ok-put_breach+else-not-all w ↦ (
                let step = subst (λ o. Takes l.judged entry o k) w.in-Some-2.is c.in_ok-breach.ensures in
                let text = ap string_bytes w.found-is ∙ w.in_ok-put_breach.ensures ∙ ap (λ lun. string_bytes l.found ++ breach_text l.number lun w.in-Some-2.breach) w.lun.ensures in
                let goes = subst (λ f. AnswersFrom a.manner.readies a.all k (l.number + 1) (l.phases + phases_in entry) f left answer) text h' in
                broken_on a.manner.readies a.all l.judged l.number l.phases (string_bytes l.found) l.left.now c.in-Some.line.now c.in-Some.behind.now answer c.in-Some.ensures.some
                entry k c.in-Some-read_entry.ensures.value w.in-Some-2.breach step w.if-not-all.false goes)
            | in_default-2 w ↦ (
                let step = subst (λ o. Takes l.judged entry o k) w.in_default-2.is c.in_ok-breach.ensures in
                let goes = subst (λ f. AnswersFrom a.manner.readies a.all k (l.number + 1) (l.phases + phases_in entry) f left answer) (ap string_bytes w.found-is) h' in
                right_at a.manner.readies a.all l.judged l.number l.phases (string_bytes l.found) l.left.now c.in-Some.line.now c.in-Some.behind.now answer c.in-Some.ensures.some
                entry k c.in-Some-read_entry.ensures.value step goes)
          ]);
    }
