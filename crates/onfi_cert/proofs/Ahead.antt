-- What a reader gives, and what stays ahead.
use Rattle.std.proofs.Common.{◌≡◌, ◌<◌, List, [], ◌∷◌, ◌++◌, length, drop, ap, arith}
use Rattle.std.specs.Prelude.{Option, Some, None, Ok}
use Rattle.onfi_cert.specs.declared.fault.LineFault.{LineFault}
use Rattle.onfi_cert.specs.Reading.{Line}
use Rattle.onfi_cert.specs.Ahead.{first_of_line, later, next_of}

token_first : {T : Type 0} (ts : List T) (f : Option LineFault) (t : T) → first_of_line ts f ≡ Ok (Some t) → ts ≡ t ∷ drop 1 ts
token_first (u ∷ us) f t e =
    let same : u ≡ t = cc in
    ap (λ x. x ∷ us) same
token_first [] None t e = cc
token_first [] (Some x) t e = cc

pub token_given : {T : Type 0} (a : Line T) (t : T) → next_of a ≡ Ok (Some t) → a.tokens ≡ t ∷ (later a).tokens
token_given a t e = token_first a.tokens a.fault t e

pub fewer : {T : Type 0} (a : Line T) (t : T) → next_of a ≡ Ok (Some t) → length (later a).tokens < length a.tokens
fewer a t e = omega (arith, ap length (token_given a t e))

-- that many tokens were taken from the front
pub record Taken {T : Type 0} (first now : Line T) (front : List T) : Type 0 where
  pub fault : now.fault ≡ first.fault
  pub tokens : front ++ now.tokens ≡ first.tokens
