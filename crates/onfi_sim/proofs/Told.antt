-- From what was written to what is carried out.
use Rattle.std.proofs.Common.{◌≡◌, ◌≤◌, ℕ, List, Ok, Err, Some, None, true, false, refl, ap, sym, inl, inr, take, subst, suc, zero, arith}
use Rattle.std.proofs.lemmas.Bool.Decides.{nat_tests}
use Rattle.std.specs.Prelude.{Bool, Option, Result, IfOk, IfErr, IfSome, nat_le}
use Rattle.std.specs.Io.KnownBytes.{Appends}
use Rattle.std.specs.declared.alloc.AllocError.{AllocError}
use Rattle.onfi_script.specs.AnswerOf.{answer_of, told_of}
use Rattle.onfi_script.specs.Text.{Answer, memory}
use Rattle.onfi_script.specs.declared.text.Answer.{Answer as Made}
use Rattle.onfi_script.specs.declared.transfer.EngineFault.{EngineFault}
use Rattle.onfi_script.specs.declared.transfer.EngineFault.TheVariants.{Write}
use Rattle.onfi_console.specs.declared.parsed.Named.{Named}
use Rattle.onfi_console.specs.declared.parsed.Named.TheVariants.{Problem, Run, Device, Audit, Gaps}
use Rattle.onfi_console.specs.declared.parsed.RunOptions.{RunOptions}
use Rattle.onfi_run.specs.Running.{is_memory, Answers as RunAnswers, BeginsAnswer as BeginsRun}
use Rattle.onfi_script.specs.Answer.{Answers, AnswersBy, BeginsAnswer, BeginsAnswerBy, IsAnswerBy, PartsTell}
use Rattle.onfi_script.specs.Auditing.{AnswersAuditBy}
use Rattle.onfi_script.specs.Gaps.{AnswersGaps}
use Rattle.onfi_script.specs.declared.auditing.AuditOptions.{AuditOptions}
use Rattle.onfi_script.specs.declared.auditing.GapOptions.{GapOptions}
use Rattle.onfi_script.specs.declared.command.Command.{Command}
use Rattle.onfi_console.specs.Described.{IsDescription}
use Rattle.onfi_sim.specs.Carrying.{AnswersNamed, BeginsToCarryOut, CarriesOut, TellsBy, nodes_of}

-- that memory ran out may be the answer to all that is named
pub memory_answers : (named : Named) (xs : List ℕ) → AnswersNamed named xs memory
memory_answers (Problem command workers) xs = inl refl
memory_answers (Run options) xs = is_memory refl
memory_answers Device xs = inl refl
memory_answers (Audit options) xs = inl refl
memory_answers (Gaps options) xs = inl refl

-- an answer to what was read is one to what the reader had
read_answers : (named : Named) (input : Option (List ℕ)) (xs : List ℕ) (answer : Answer)
    → IfSome input (λ ys. xs ≡ ys) → AnswersNamed named xs answer → IfSome input (λ ys. AnswersNamed named ys answer)
read_answers named None xs answer e is = tt
read_answers named (Some ys) xs answer e is = subst (λ zs. AnswersNamed named zs answer) e is

-- .. and what stands in place of none
pub all_answers : (named : Named) (input : Option (List ℕ)) (xs : List ℕ) (r : Result Made AllocError)
    → IfSome input (λ ys. xs ≡ ys) → IfOk r (λ a. AnswersNamed named xs (answer_of a)) → IfSome input (λ ys. AnswersNamed named ys (told_of r))
all_answers named input xs (Ok a) e is = read_answers named input xs (answer_of a) e is
all_answers named None xs (Err refused) e is = tt
all_answers named (Some ys) xs (Err refused) e is = memory_answers named ys

-- that memory ran out answers what the reader had
pub memory_told : (named : Named) (input : Option (List ℕ)) → IfSome input (λ ys. AnswersNamed named ys memory)
memory_told named None = tt
memory_told named (Some ys) = memory_answers named ys

pub told : (named : Named) (input old new : Option (List ℕ)) (answer : Answer) (r : Result ℕ EngineFault)
    → IfSome input (λ xs. AnswersNamed named xs answer) → IfOk r (λ s. (s ≡ answer.status) × Appends old new answer.text)
    → IfOk r (λ s. CarriesOut named input old new s)
told named None old new answer (Ok s) is w = tt
told named (Some xs) old new answer (Ok s) is w = (answer, is, sym w.0, w.1)
told named input old new answer (Err e) is w = tt

pub told_part : (named : Named) (input old new : Option (List ℕ)) (answer : Answer) (r : Result ℕ EngineFault)
    → IfSome input (λ xs. AnswersNamed named xs answer) → IfErr r (λ e. (e ≡ Write) × (n : ℕ) × Appends old new (take n answer.text))
    → r ≡ Err Write → BeginsToCarryOut named input old new
told_part named input old new answer (Ok s) is w e = absurd (cc)
told_part named None old new answer (Err f) is w e = tt
told_part named (Some xs) old new answer (Err f) is w e = (answer, w.1, is, w.2)

-- .. where a beginning is given alone
pub begun : (named : Named) (input old new : Option (List ℕ)) (answer : Answer)
    → IfSome input (λ xs. AnswersNamed named xs answer) → (n : ℕ) × Appends old new (take n answer.text) → BeginsToCarryOut named input old new
begun named None old new answer is w = tt
begun named (Some xs) old new answer is w = (answer, w.0, is, w.1)

pub one_worker : (workers : ℕ) → workers ≤ 1 → nat_le workers 1 ≡ true
one_worker zero few = refl
one_worker (suc zero) few = refl
one_worker (suc (suc n)) few = absurd (omega (arith, few))

pub several_workers : (workers : ℕ) → 2 ≤ workers → nat_le workers 1 ≡ false
several_workers workers some = grind (arith, nat_tests)

-- one search answers what one worker does
pub by_one : (command : Command) (workers : ℕ) (input old new : Option (List ℕ)) (r : Result ℕ EngineFault) → workers ≤ 1
    → IfOk r (λ s. Answers command input old new s) → IfOk r (λ s. CarriesOut (Problem command workers) input old new s)
by_one command workers input old new r few is =
    let P : Bool → Type 0 = λ b. IfOk r (λ s. IfSome input (λ xs. (answer : Answer) × IsAnswerBy (TellsBy b) command xs answer × (answer.status ≡ s) × Appends old new answer.text)) in
    subst P (sym (one_worker workers few)) is

pub one_begun : (command : Command) (workers : ℕ) (input old new : Option (List ℕ)) → workers ≤ 1
    → BeginsAnswer command input old new → BeginsToCarryOut (Problem command workers) input old new
one_begun command workers input old new few is =
    let P : Bool → Type 0 = λ b. IfSome input (λ xs. (answer : Answer) × (n : ℕ) × IsAnswerBy (TellsBy b) command xs answer × Appends old new (take n answer.text)) in
    subst P (sym (one_worker workers few)) is

-- parts answer what several do
pub by_several : (command : Command) (workers : ℕ) (input old new : Option (List ℕ)) (r : Result ℕ EngineFault) → 2 ≤ workers
    → IfOk r (λ s. AnswersBy PartsTell command input old new s) → IfOk r (λ s. CarriesOut (Problem command workers) input old new s)
by_several command workers input old new r some is =
    let P : Bool → Type 0 = λ b. IfOk r (λ s. IfSome input (λ xs. (answer : Answer) × IsAnswerBy (TellsBy b) command xs answer × (answer.status ≡ s) × Appends old new answer.text)) in
    subst P (sym (several_workers workers some)) is

pub several_begun : (command : Command) (workers : ℕ) (input old new : Option (List ℕ)) → 2 ≤ workers
    → BeginsAnswerBy PartsTell command input old new → BeginsToCarryOut (Problem command workers) input old new
several_begun command workers input old new some is =
    let P : Bool → Type 0 = λ b. IfSome input (λ xs. (answer : Answer) × (n : ℕ) × IsAnswerBy (TellsBy b) command xs answer × Appends old new (take n answer.text)) in
    subst P (sym (several_workers workers some)) is

-- a description, a verdict on a log, and one with what it measures, or that memory ran out
pub described : (xs : List ℕ) (r : Result Made AllocError) → IfOk r (λ a. IsDescription xs (answer_of a)) → IfOk r (λ a. AnswersNamed Device xs (answer_of a))
described xs (Ok a) is = inr is
described xs (Err refused) is = tt

pub audited : (options : AuditOptions) (xs : List ℕ) (r : Result Made AllocError) → IfOk r (λ a. AnswersAuditBy options xs (answer_of a)) → IfOk r (λ a. AnswersNamed (Audit options) xs (answer_of a))
audited options xs (Ok a) is = inr is
audited options xs (Err refused) is = tt

pub measured : (options : GapOptions) (xs : List ℕ) (r : Result Made AllocError) → IfOk r (λ a. AnswersGaps options xs (answer_of a)) → IfOk r (λ a. AnswersNamed (Gaps options) xs (answer_of a))
measured options xs (Ok a) is = inr is
measured options xs (Err refused) is = tt

-- a run within that many nodes, and a beginning of its answer
pub run_told : (options : RunOptions) (nodes : Option ℕ) (input old new : Option (List ℕ)) (r : Result ℕ EngineFault) → nodes ≡ nodes_of options
    → IfOk r (λ s. RunAnswers options.clocked nodes input old new s) → IfOk r (λ s. CarriesOut (Run options) input old new s)
run_told options nodes input old new r e is = subst (λ n. IfOk r (λ s. RunAnswers options.clocked n input old new s)) e is

pub run_begun : (options : RunOptions) (nodes : Option ℕ) (input old new : Option (List ℕ)) → nodes ≡ nodes_of options
    → BeginsRun options.clocked nodes input old new → BeginsToCarryOut (Run options) input old new
run_begun options nodes input old new e is = subst (λ n. BeginsRun options.clocked n input old new) e is
