use Rattle.std.proofs.Common.{◌≡◌, subst, ◌+◌, drop, sym, ap, ◌∙◌, arith}
use Rattle.std.proofs.Math.ListN.{drop_of_length-le}
use Rattle.onfi_param.specs.Crc.{IsCheckValue}
use Rattle.onfi_param.proofs.Division.{after_bytes, crc_of}
use Rattle.onfi_param.proofs.Division.{crc_is_check_value, after_bytes-is-crc, all_bytes, after_bytes_at}
use Rattle.onfi_param.proofs.Unique.{one_check_value}
use Rattle.onfi_param.proofs.crc.crc16.Goals as goal

pub loop-byte-preserved : goal.loop-byte-preserved
loop-byte-preserved c =
    ap (λ r. after_bytes r (drop (c.loop-byte.byte-index + 1) c.args.bytes.now)) c.take_byte-register.ensures
    ∙ after_bytes_at c.loop-byte.register c.loop-byte.byte-index c.args.bytes.now (omega arith)
    ∙ c.loop-byte.invariant

pub returns-clause-remainder : goal.returns-clause-remainder
unfolding after_bytes
returns-clause-remainder c =
    let none = drop_of_length-le c.args.bytes.now c.loop-byte-test.false in
    let value : c.loop-byte.register ≡ crc_of c.args.bytes.now =
    sym (ap (after_bytes c.loop-byte.register) none) ∙ c.loop-byte.invariant
    ∙ after_bytes-is-crc c.args.bytes.now (all_bytes c.args.bytes.now (λ i. omega (arith, c.type_inv.bytes i))) in
    subst (IsCheckValue c.args.bytes.now) (sym value) (crc_is_check_value c.args.bytes.now)

pub returns-clause-no_other : goal.returns-clause-no_other
unfolding after_bytes
returns-clause-no_other c = λ value is.
    let none = drop_of_length-le c.args.bytes.now c.loop-byte-test.false in
    let crc : c.loop-byte.register ≡ crc_of c.args.bytes.now =
    sym (ap (after_bytes c.loop-byte.register) none) ∙ c.loop-byte.invariant
    ∙ after_bytes-is-crc c.args.bytes.now (all_bytes c.args.bytes.now (λ i. omega (arith, c.type_inv.bytes i))) in
    one_check_value c.args.bytes.now value _ is (crc_is_check_value c.args.bytes.now) ∙ sym crc
