use Rattle.std.proofs.Common.{◌≡◌, false, length, take, Some, sym, ap, ◌∙◌, refl, arith}
use Rattle.std.specs.Prelude.{◌==◌}
use Rattle.std.proofs.lemmas.Bool.{ne_eqb}
use Rattle.std.proofs.lemmas.Option.{slice_get-get_or}
use Rattle.onfi_calls.specs.Problem.{members_of, wants_of}
use Rattle.onfi_calls.proofs.DueInPlace.{next_in_place}
use Rattle.onfi_calls.proofs.least_due.next_due.Goals as goal

pub returns : goal.returns
returns c =
    let bits = c.args.rules.now.plane_bits in
    let lun = c.in-Some.lun.now in
    let look = c.in-Some.ensures.lookup.3 in
    let there = slice_get-get_or c.args.luns.now c.args.next.at lun look.0 ∙ ap Some (sym (look.1 lun)) in
    let some : (lun.members == 0) ≡ false = ne_eqb lun.members 0 c.if-lun-eq0.false in
    let made : c.few_wants_of-members.result.items ≡ wants_of bits (members_of lun) = c.few_wants_of-members.ensures ∙ ap (λ n. wants_of bits (take n lun.member)) c.from.ensures in
    let count = ap length made in
    let sooner = c.if-next-ge-HALF.false in
    next_in_place bits c.args.bus_free c.args.luns.now c.args.next lun c.of.result c.args.next.at there some (omega (arith, c.max.ensures, c.if-next-max.false))
    (omega (arith, c.len.ensures.value, count, c.from-2.ensures, c.if-len-from.false)) (omega (arith, sooner)) (c.of.ensures ∙ c.as_slice.ensures.value ∙ made) refl
