-- Marks and wants, gone through together.
use Rattle.std.proofs.Common.{◌≡◌, ℕ, ◌+◌, ◌<◌, Bool, true, false, List, [], ◌∷◌, ◌++◌, length, drop, slice_index_or, sym, ap, ◌∙◌, append_assoc}
use Rattle.std.specs.Prelude.{if◌then◌else◌}
use Rattle.std.proofs.lemmas.List.{at_drop_more}
use Rattle.onfi_timing.specs.declared.kind.Kind.TheVariants.{Read}
use Rattle.onfi_request.specs.declared.want.Want.{Want}
use Rattle.onfi_problem.specs.Position.{waiting_of}

pub waiting_at : (marks : List Bool) (wants : List Want) (i : ℕ) (m : Bool) (d : Want) → i < length marks → i < length wants → waiting_of (drop i marks) (drop i wants) ≡ (if slice_index_or marks i m then slice_index_or wants i d ∷ waiting_of (drop (i + 1) marks) (drop (i + 1) wants) else waiting_of (drop (i + 1) marks) (drop (i + 1) wants))
waiting_at marks wants i m d h k =
    at_drop_more (λ (ms : List Bool). waiting_of ms (drop i wants)) marks i m h
    ∙ at_drop_more (λ (ws : List Want). waiting_of (slice_index_or marks i m ∷ drop (i + 1) marks) ws) wants i d k

-- one that waits goes after the others
pub one_waits : (marks : List Bool) (wants before : List Want) (i : ℕ) (m : Bool) (d : Want) (all : List Want) → i < length marks → i < length wants → slice_index_or marks i m ≡ true → before ++ waiting_of (drop i marks) (drop i wants) ≡ all → (before ++ slice_index_or wants i d ∷ []) ++ waiting_of (drop (i + 1) marks) (drop (i + 1) wants) ≡ all
one_waits marks wants before i m d all h k is e =
    let next : waiting_of (drop i marks) (drop i wants) ≡ slice_index_or wants i d ∷ waiting_of (drop (i + 1) marks) (drop (i + 1) wants) = rw is at (waiting_at marks wants i m d h k) in
    rw append_assoc (ap (λ ws. before ++ ws) (sym next) ∙ e)

-- one that doesn't is passed over
pub none_waits : (marks : List Bool) (wants before : List Want) (i : ℕ) (m : Bool) (all : List Want) → i < length marks → i < length wants → slice_index_or marks i m ≡ false → before ++ waiting_of (drop i marks) (drop i wants) ≡ all → before ++ waiting_of (drop (i + 1) marks) (drop (i + 1) wants) ≡ all
none_waits marks wants before i m all h k is e =
    let d : Want = record { id = 0; kind = Read; lun = 0; plane = 0; block = 0; page = 0 } in
    let next : waiting_of (drop i marks) (drop i wants) ≡ waiting_of (drop (i + 1) marks) (drop (i + 1) wants) = rw is at (waiting_at marks wants i m d h k) in
    ap (λ ws. before ++ ws) (sym next) ∙ e
