-- From what was written to what a run promises.
use Rattle.std.proofs.Common.{◌≡◌, ℕ, Bool, List, Ok, Err, Some, None, refl, sym, subst, take}
use Rattle.std.specs.Prelude.{Option, Result, IfOk, IfErr, IfSome}
use Rattle.std.specs.Io.KnownBytes.{Appends}
use Rattle.onfi_script.specs.Text.{Answer, memory}
use Rattle.onfi_script.specs.declared.transfer.EngineFault.{EngineFault}
use Rattle.onfi_script.specs.declared.transfer.EngineFault.TheVariants.{Write}
use Rattle.onfi_run.specs.Running.{IsAnswer, Answers, BeginsAnswer, is_memory}

-- an answer to what the reader had
abbrev pub AnswersInput : Bool → Option ℕ → Option (List ℕ) → Answer → Type 0
AnswersInput clocked nodes input answer = IfSome input (λ xs. IsAnswer clocked nodes xs answer)

pub memory_answers : (clocked : Bool) (nodes : Option ℕ) (input : Option (List ℕ)) → AnswersInput clocked nodes input memory
memory_answers clocked nodes None = tt
memory_answers clocked nodes (Some xs) = is_memory refl

told_status : (clocked : Bool) (nodes : Option ℕ) (input old new : Option (List ℕ)) (answer : Answer) (s : ℕ) → AnswersInput clocked nodes input answer → s ≡ answer.status → Appends old new answer.text → Answers clocked nodes input old new s
told_status clocked nodes None old new answer s is e w = tt
told_status clocked nodes (Some xs) old new answer s is e w = (answer, is, sym e, w)

told_start : (clocked : Bool) (nodes : Option ℕ) (input old new : Option (List ℕ)) (answer : Answer) (n : ℕ) → AnswersInput clocked nodes input answer → Appends old new (take n answer.text) → BeginsAnswer clocked nodes input old new
told_start clocked nodes None old new answer n is w = tt
told_start clocked nodes (Some xs) old new answer n is w = (answer, n, is, w)

pub told : (clocked : Bool) (nodes : Option ℕ) (input old new : Option (List ℕ)) (answer : Answer) (r : Result ℕ EngineFault) → AnswersInput clocked nodes input answer → IfOk r (λ s. (s ≡ answer.status) × Appends old new answer.text) → IfOk r (λ s. Answers clocked nodes input old new s)
told clocked nodes input old new answer (Ok s) is w = told_status clocked nodes input old new answer s is w.0 w.1
told clocked nodes input old new answer (Err e) is w = tt

pub told_part : (clocked : Bool) (nodes : Option ℕ) (input old new : Option (List ℕ)) (answer : Answer) (r : Result ℕ EngineFault) → AnswersInput clocked nodes input answer → IfErr r (λ e. (e ≡ Write) × (n : ℕ) × Appends old new (take n answer.text)) → r ≡ Err Write → BeginsAnswer clocked nodes input old new
told_part clocked nodes input old new answer (Ok s) is w e = absurd (cc)
told_part clocked nodes input old new answer (Err f) is w e = told_start clocked nodes input old new answer w.1 is w.2

-- an answer to bytes that were all that the reader had
pub answered : (clocked : Bool) (nodes : Option ℕ) (input : Option (List ℕ)) (bytes : List ℕ) (answer : Answer) → IfSome input (λ xs. bytes ≡ xs) → IsAnswer clocked nodes bytes answer → AnswersInput clocked nodes input answer
answered clocked nodes None bytes answer all is = tt
answered clocked nodes (Some xs) bytes answer all is = subst (λ (ys : List ℕ). IsAnswer clocked nodes ys answer) all is
