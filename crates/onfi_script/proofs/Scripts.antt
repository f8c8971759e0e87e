-- From the rows of a script to the problem that they set up.
use Rattle.std.proofs.Common.{List, Ok, Err, refl}
use Rattle.std.specs.Prelude.{Result}
use Rattle.onfi_script.specs.declared.fault.Refusal.{Refusal}
use Rattle.onfi_script.specs.declared.fault.RowStop.{RowStop}
use Rattle.onfi_script.specs.declared.fault.RowStop.TheVariants as of
use Rattle.onfi_script.specs.declared.fault.Stop.{Stop}
use Rattle.onfi_script.specs.declared.fault.Stop.TheVariants.{Refused, Memory}
use Rattle.onfi_script.specs.declared.row.Row.{Row}
use Rattle.onfi_script.specs.Answer.{TellsSetup, has_no_device}
use Rattle.onfi_script.specs.Device.{TellsDevice}
use Rattle.onfi_script.specs.Stop.{IfFault, IfRefused, Tells, stop_at}

pub if_refused : (stop : Stop) (P Q : Refusal → Type 0) → ((refusal : Refusal) → P refusal → Q refusal) → IfRefused stop P → IfRefused stop Q
if_refused (Refused refusal) P Q f h = f refusal h
if_refused Memory P Q f h = tt

pub gives_more : {A B : Type 0} (view : A → B) (r : Result A Stop) (P Q : Result B Refusal → Type 0) → ((told : Result B Refusal) → P told → Q told)
    → Tells IfRefused view r P → Tells IfRefused view r Q
gives_more view (Ok x) P Q f h = f (Ok (view x)) h
gives_more view (Err stop) P Q f h = if_refused stop (λ refusal. P (Err refusal)) (λ refusal. Q (Err refusal)) (λ refusal. f (Err refusal)) h

pub no_device : (rows : List Row) (stop : RowStop) → IfFault stop (λ fault. TellsDevice rows (Err fault))
    → IfRefused (stop_at 0 stop) (λ refusal. TellsSetup rows (Err refusal))
no_device rows (of.Fault fault) h = has_no_device fault h refl
no_device rows of.Memory h = tt
