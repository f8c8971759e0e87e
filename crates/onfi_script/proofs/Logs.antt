-- From the rows of a script to what a log begins with.
use Rattle.std.proofs.Common.{◌≡◌, ℕ, suc, ◌<◌, List, [], ◌∷◌, length, drop, get_or, None, Ok, Err, inl, inr, ap, sym, subst, refl}
use Rattle.std.proofs.Math.Seq.{drop-cons}
use Rattle.std.specs.Prelude.{Result, MatchResult, position}
use Rattle.onfi_audit.specs.Audit.{Audit, accepting}
use Rattle.onfi_request.specs.declared.want.Want.{Want}
use Rattle.onfi_problem.specs.Problem.{Problem}
use Rattle.onfi_script.specs.declared.device.Device.{Device}
use Rattle.onfi_script.specs.declared.fault.Refusal.{Refusal}
use Rattle.onfi_script.specs.declared.fault.RowStop.{RowStop}
use Rattle.onfi_script.specs.declared.fault.RowStop.TheVariants as of
use Rattle.onfi_script.specs.declared.fault.Stop.{Stop}
use Rattle.onfi_script.specs.declared.purpose.Purpose.TheVariants as for_a
use Rattle.onfi_script.specs.declared.row.Row.{Row}
use Rattle.onfi_script.specs.Answer.{TellsProblem, is_too_many, is_bad_lun, lacks_lengths, is_late, is_problem}
use Rattle.onfi_script.specs.Auditing.{AcceptsAll, Begun, TellsBegun, TellsLog, TellsOpening, has_no_device, has_opening, has_rows, is_refused, next_of, requests_of}
use Rattle.onfi_script.specs.Device.{TellsDevice}
use Rattle.onfi_script.specs.Input.{TellsRows}
use Rattle.onfi_script.specs.Setup.{SetsUp, is_beyond}
use Rattle.onfi_script.specs.Stop.{IfFault, IfRefused, stop_at}
use Rattle.onfi_script.proofs.Scripts.{if_refused}

-- the first want is accepted, and the others by what it leaves
pub accepted_first : (w : Want) (ws : List Want) (a b : Audit) (told : Result Audit Refusal) → AcceptsAll (w ∷ []) a (Ok b) → AcceptsAll ws b told → AcceptsAll (w ∷ ws) a told
accepted_first w ws a b told (inl (is, same)) rest =
    let left : accepting a (next_of a w) ≡ b = cc in
    inl (is, subst (λ x. AcceptsAll ws x told) (sym left) rest)
accepted_first w ws a b told (inr (fault, why, same)) rest = cc

-- the first want isn't accepted
pub refused_first : (w : Want) (ws : List Want) (a : Audit) (refusal : Refusal) → AcceptsAll (w ∷ []) a (Err refusal) → AcceptsAll (w ∷ ws) a (Err refusal)
refused_first w ws a refusal (inl (is, same)) = cc
refused_first w ws a refusal (inr why) = inr why

-- a want isn't accepted after those before it
pub refused_at : (ws : List Want) (i : ℕ) (none : Want) (a b : Audit) (refusal : Refusal) → i < length ws
    → ((told : Result Audit Refusal) → AcceptsAll (drop i ws) a told → AcceptsAll ws b told) → AcceptsAll (get_or ws i none ∷ []) a (Err refusal) → AcceptsAll ws b (Err refusal)
refused_at ws i none a b refusal there all why =
    all (Err refusal) (subst (λ l. AcceptsAll l a (Err refusal)) (sym (drop-cons ws i none there)) (refused_first (get_or ws i none) (drop (suc i) ws) a refusal why))

-- a problem that is given is the one that was set up
pub told_is : (rows : List Row) (p q : Problem) → TellsProblem rows p (Ok q) → q ≡ p
told_is rows p q (is_too_many why same) = cc
told_is rows p q (is_bad_lun small why same) = cc
told_is rows p q (lacks_lengths small sound why same) = cc
told_is rows p q (is_late small sound lengths why same) = cc
told_is rows p q (is_problem limits lengths same) = cc

pub no_device : (rows : List Row) (stop : RowStop) → IfFault stop (λ fault. TellsDevice rows (Err fault))
    → IfRefused (stop_at 0 stop) (λ refusal. TellsOpening rows (Err refusal))
no_device rows (of.Fault fault) h = has_no_device fault h refl
no_device rows of.Memory h = tt

-- what a log begins with by the problem, it begins with by the rows
pub opened_by : (rows : List Row) (device : Device) (p : Problem) (r : Result Begun Stop) → TellsDevice rows (Ok device) → position (is_beyond device) rows ≡ None → SetsUp rows device p
    → MatchResult r (λ b. TellsBegun rows p (Ok b.0) × (b.1 ≡ requests_of p.wants)) (λ stop. IfRefused stop (λ refusal. TellsBegun rows p (Err refusal)))
    → MatchResult r (λ b. TellsOpening rows (Ok b)) (λ stop. IfRefused stop (λ refusal. TellsOpening rows (Err refusal)))
opened_by rows device p (Ok (a, requests)) described inside set (begun, same) = has_opening device p a described inside set begun (ap (λ r. let b : Result Begun Refusal = Ok (a, r) in b) same)
opened_by rows device p (Err stop) described inside set why =
    if_refused stop (λ refusal. TellsBegun rows p (Err refusal)) (λ refusal. TellsOpening rows (Err refusal))
    (λ refusal begun. is_refused device p refusal described inside set begun refl) why

-- .. and by an input of these rows
pub read_by : (input : List ℕ) (rows : List Row) (r : Result Begun Stop) → TellsRows for_a.Problem input (Ok rows)
    → MatchResult r (λ b. TellsOpening rows (Ok b)) (λ stop. IfRefused stop (λ refusal. TellsOpening rows (Err refusal)))
    → MatchResult r (λ b. TellsLog input (Ok b)) (λ stop. IfRefused stop (λ refusal. TellsLog input (Err refusal)))
read_by input rows (Ok b) read opened = has_rows rows read opened
read_by input rows (Err stop) read why = if_refused stop (λ refusal. TellsOpening rows (Err refusal)) (λ refusal. TellsLog input (Err refusal)) (λ refusal. has_rows rows read) why
