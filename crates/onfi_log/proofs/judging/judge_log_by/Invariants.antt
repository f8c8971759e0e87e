use Rattle.std.proofs.Common.{◌+◌, ◌<◌, ◌≤◌, [], length, string_bytes}
use Rattle.onfi_log.specs.Parts.{parts}
use Rattle.onfi_log.specs.Text.{Answer, AnswersFrom}
use Rattle.onfi_log.proofs.judging.judge_log_by.Given as goal

abbrev pub invariant-loop-line : goal.invariant-loop-line
invariant-loop-line l = record {
  counted : l.phases < l.number;
  few : l.number + length l.left ≤ length l.text + 1;
  goes : (answer : Answer) → AnswersFrom l.manner.readies l.all l.judged l.number l.phases (string_bytes l.found) (parts 10 l.left) answer
      → AnswersFrom l.manner.readies l.all l.initial.judged 1 0 [] (parts 10 l.text) answer;
}

abbrev pub decreases-loop-line : goal.decreases-loop-line
decreases-loop-line l = length l.left
