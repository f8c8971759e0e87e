use Rattle.std.proofs.Common.{ap, ◌%◌, ◌<◌, ℕ, subst, sym}
use Rattle.std.proofs.lemmas.Nat.{one_shl, pow_pos}
use Rattle.onfi_addr.proofs.bits.low_bits.Goals as goal

pub nonzero_rem-result : goal.nonzero_rem-result
nonzero_rem-result c = subst (λ (n : ℕ). 0 < n) (sym (one_shl c.args.bits 64 c.requires)) (pow_pos c.args.bits)

pub returns : goal.returns
returns c = ap (λ n. c.args.number % n) (one_shl c.args.bits 64 c.requires)
