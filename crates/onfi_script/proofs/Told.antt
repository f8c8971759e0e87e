-- From what was written to what the engine promises.
use Rattle.std.proofs.Common.{◌≡◌, ℕ, List, Ok, Err, Some, None, refl, sym, inl, take, subst}
use Rattle.std.specs.Prelude.{Option, Result, IfOk, IfErr, IfSome}
use Rattle.std.specs.Io.KnownBytes.{Appends}
use Rattle.onfi_request.specs.declared.want.Want.{Want}
use Rattle.onfi_problem.specs.Problem.{Problem}
use Rattle.onfi_schedule.specs.Schedule.{Schedule, Legal}
use Rattle.onfi_check.specs.declared.fault.TextFault.{TextFault}
use Rattle.onfi_check.specs.declared.fault.TextFault.TheVariants.{Cert}
use Rattle.onfi_known_check.specs.declared.fault.KnownFault.{KnownFault}
use Rattle.onfi_known_check.specs.declared.fault.KnownFault.TheVariants.{Above}
use Rattle.onfi_known_check.specs.declared.fault.KnownTextFault.{KnownTextFault}
use Rattle.onfi_known_check.specs.Faults.{IsTextFault}
use Rattle.onfi_script.specs.Text.{Answer, memory}
use Rattle.std.specs.declared.alloc.AllocError.{AllocError}
use Rattle.onfi_script.specs.declared.text.Answer.{Answer as Made}
use Rattle.onfi_script.specs.AnswerOf.{answer_of, told_of}
use Rattle.onfi_script.specs.Answer.{AnswersBy, BeginsAnswerBy, IsAnswerBy}
use Rattle.onfi_script.specs.declared.command.Command.{Command}
use Rattle.onfi_script.specs.declared.transfer.EngineFault.{EngineFault}
use Rattle.onfi_script.specs.declared.transfer.EngineFault.TheVariants.{Write}

pub memory_answers : (Tells : ℕ → Problem → ℕ → Type 0) (command : Command) (input : Option (List ℕ)) → IfSome input (λ xs. IsAnswerBy Tells command xs memory)
memory_answers Tells command None = tt
memory_answers Tells command (Some xs) = inl refl

-- an answer to what was read is one to what the reader had
read_answers : (Tells : ℕ → Problem → ℕ → Type 0) (command : Command) (input : Option (List ℕ)) (xs : List ℕ) (answer : Answer)
    → IfSome input (λ ys. xs ≡ ys) → IsAnswerBy Tells command xs answer → IfSome input (λ ys. IsAnswerBy Tells command ys answer)
read_answers Tells command None xs answer e is = tt
read_answers Tells command (Some ys) xs answer e is = subst (λ zs. IsAnswerBy Tells command zs answer) e is

-- .. and what stands in place of none
pub all_answers : (Tells : ℕ → Problem → ℕ → Type 0) (command : Command) (input : Option (List ℕ)) (xs : List ℕ) (r : Result Made AllocError)
    → IfSome input (λ ys. xs ≡ ys) → IfOk r (λ a. IsAnswerBy Tells command xs (answer_of a)) → IfSome input (λ ys. IsAnswerBy Tells command ys (told_of r))
all_answers Tells command input xs (Ok a) e is = read_answers Tells command input xs (answer_of a) e is
all_answers Tells command input xs (Err refused) e is = memory_answers Tells command input

pub told : (Tells : ℕ → Problem → ℕ → Type 0) (command : Command) (input old new : Option (List ℕ)) (answer : Answer) (r : Result ℕ EngineFault)
    → IfSome input (λ xs. IsAnswerBy Tells command xs answer) → IfOk r (λ s. (s ≡ answer.status) × Appends old new answer.text)
    → IfOk r (λ s. AnswersBy Tells command input old new s)
told Tells command None old new answer (Ok s) is w = tt
told Tells command (Some xs) old new answer (Ok s) is w = (answer, is, sym w.0, w.1)
told Tells command input old new answer (Err e) is w = tt

pub told_part : (Tells : ℕ → Problem → ℕ → Type 0) (command : Command) (input old new : Option (List ℕ)) (answer : Answer) (r : Result ℕ EngineFault)
    → IfSome input (λ xs. IsAnswerBy Tells command xs answer) → IfErr r (λ e. (e ≡ Write) × (n : ℕ) × Appends old new (take n answer.text))
    → r ≡ Err Write → BeginsAnswerBy Tells command input old new
told_part Tells command input old new answer (Ok s) is w e = absurd (cc)
told_part Tells command None old new answer (Err f) is w e = tt
told_part Tells command (Some xs) old new answer (Err f) is w e = (answer, w.1, is, w.2)

-- a certificate's schedule that is reported as one that ends too soon is legal
pub above_is_legal : (all : List Want) (p : Problem) (s : Schedule) (below : ℕ) (text : List ℕ) (fault : TextFault KnownFault KnownTextFault)
    → IsTextFault all p s below text fault → fault ≡ Cert Above → Legal p s
above_is_legal all p s below text fault is e = let (tokens, certificate, ends) = subst (IsTextFault all p s below text) e is in ends.0
