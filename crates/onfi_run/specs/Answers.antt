-- What a host got from a channel.
use Rattle.std.specs.Prelude.{◌≡◌, ◌≤◌, ℕ, zero, suc, max, Bool, true, false, if◌then◌else◌, List, [], ◌∷◌, map, Some, None, IfSome, IsTrue}
use Rattle.std.specs.List.{list_all}
use Rattle.std.specs.Option.{is_some}
use Rattle.onfi_timing.specs.declared.kind.Kind.{Kind}
use Rattle.onfi_timing.specs.declared.operation.Operation.{Operation}
use Rattle.onfi_timing.specs.declared.operation.Operation.TheVariants.{Read, Program, Erase}
use Rattle.onfi_timing.specs.Kinds.{operation_of}
use Rattle.onfi_request.specs.declared.answer.Answer.{Answer}
use Rattle.onfi_request.specs.declared.answer.Answer.TheVariants as answer
use Rattle.onfi_request.specs.declared.reply.Reply.{Reply}
use Rattle.onfi_run.specs.declared.completion.Completion.{Completion}
use Rattle.onfi_run.specs.Arriving.{Expected}
use Rattle.onfi_run.specs.Report.{AnswersView}

-- a read gives a page, the others say whether they succeeded
abbrev pub suits_operation : Operation → Answer → Bool
suits_operation Read (answer.Read bytes) = true
suits_operation Read answer.Done = false
suits_operation Read answer.Failed = false
suits_operation Program (answer.Read bytes) = false
suits_operation Program answer.Done = true
suits_operation Program answer.Failed = true
suits_operation Erase (answer.Read bytes) = false
suits_operation Erase answer.Done = true
suits_operation Erase answer.Failed = true

abbrev pub suits : Kind → Answer → Bool
suits kind answer = suits_operation (operation_of kind) answer

-- an answer suits its operation, and no reply was collected before its operation was submitted
pub record IsSuited (c : Completion) : Type 0 where
  pub suits_it : IfSome c.answer (λ a. suits c.kind a ≡ true)
  pub in_order : c.sent ≤ c.at

-- each operation has its answer
abbrev pub is_complete : AnswersView → Bool
is_complete got = list_all (λ (c : Completion). is_some c.answer) got

abbrev pub IsComplete : AnswersView → Type 0
IsComplete got = IsTrue (is_complete got)

-- nothing yet of an operation that is expected
abbrev pub awaited : Expected → Completion
awaited e = record { kind = e.kind; arrives = e.arrives; answer = None; sent = 0; at = 0 }

abbrev pub awaiting : List Expected → AnswersView
awaiting all = map awaited all

-- its host submitted it at that moment
abbrev pub submitted : ℕ → Completion → Completion
submitted now c = record c { sent = now; at = now }

-- its host collected its reply at that moment, if the answer suits it; a moment before that of its submission counts as that
abbrev pub came : ℕ → Answer → Completion → Completion
came now a c = if suits c.kind a then record c { answer = Some a; at = max now c.sent } else c

-- with the element at a place changed, where there is one
abbrev pub changed : {X : Type 0} → (X → X) → List X → ℕ → List X
changed f [] at = []
changed f (x ∷ xs) zero = f x ∷ xs
changed f (x ∷ xs) (suc at) = x ∷ changed f xs at

-- with a reply that was collected at that moment
abbrev pub with_reply : ℕ → AnswersView → Reply → AnswersView
with_reply now got reply = changed (came now reply.answer) got reply.serial

-- .. with these replies, one after another
abbrev pub with_replies : ℕ → AnswersView → List Reply → AnswersView
with_replies now got [] = got
with_replies now got (reply ∷ replies) = with_replies now (with_reply now got reply) replies

-- these are more answers of replies, which were collected at that moment
abbrev pub AddsReplies : ℕ → AnswersView → AnswersView → Type 0
AddsReplies now old new = (more : List Reply) × (new ≡ with_replies now old more)
