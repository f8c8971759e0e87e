-- What a stop says of a script.
use Rattle.std.specs.Prelude.{◌≡◌, ℕ, Result, Ok, Err, MatchResult}
use Rattle.onfi_script.specs.declared.fault.Refusal.{Refusal}
use Rattle.onfi_script.specs.declared.fault.ScriptFault.{ScriptFault}
use Rattle.onfi_script.specs.declared.fault.RowStop.{RowStop}
use Rattle.onfi_script.specs.declared.fault.RowStop.TheVariants as of
use Rattle.onfi_script.specs.declared.fault.Stop.{Stop}
use Rattle.onfi_script.specs.declared.fault.Stop.TheVariants.{Refused, Memory}

-- a fact of the refusal, where there is one; refused memory says nothing
abbrev pub IfRefused : Stop → (Refusal → Type 0) → Type 0
IfRefused (Refused refusal) P = P refusal
IfRefused Memory P = Unit {0}

-- the same of a row's fault
abbrev pub IfFault : RowStop → (ScriptFault → Type 0) → Type 0
IfFault (of.Fault fault) P = P fault
IfFault of.Memory P = Unit {0}

-- .. reported of row number `row`
abbrev pub stop_at : ℕ → RowStop → Stop
stop_at row (of.Fault fault) = Refused (record { row = row; fault = fault })
stop_at row of.Memory = Memory

-- `Told` holds of what was read, seen by `view`, or of why nothing was read, where the stop says so by `If`
abbrev pub Tells : {A B E S : Type 0} → (S → (E → Type 0) → Type 0) → (A → B) → Result A S → (Result B E → Type 0) → Type 0
Tells If view result Told = MatchResult result (λ x. Told (Ok (view x))) (λ stop. If stop (λ fault. Told (Err fault)))

-- .. what was read is what the text says
abbrev pub Gives : {A B E S : Type 0} → (S → (E → Type 0) → Type 0) → (A → B) → Result A S → Result B E → Type 0
Gives If view result said = Tells If view result (λ told. said ≡ told)
