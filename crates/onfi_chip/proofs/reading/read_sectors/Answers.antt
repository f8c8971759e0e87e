use Rattle.std.proofs.Common.{◌≡◌, ◌++◌, length, drop, take, sym, ap, ◌∙◌, arith}
use Rattle.std.proofs.lemmas.Grind.{common_steps}
use Rattle.std.proofs.Math.Seq.{take-append_seam}
use Rattle.onfi_request.specs.declared.answer.Answer.TheVariants.{Read}
use Rattle.onfi_chip.proofs.reading.read_sectors.Goals as goal

pub returns-in-Ok-clause-answer : goal.returns-in-Ok-clause-answer
returns-in-Ok-clause-answer g c post left h =
    let len : c.args.room.len ≡ length c.sectors_out.new.out = grind (arith, common_steps) in
    let out = c.sectors_out.new.out in
    let filled : take c.args.room.len (out ++ drop (length out) c.args.room.items) ≡ out = ap (λ n. take n (out ++ drop (length out) c.args.room.items)) len ∙ take-append_seam out (drop (length out) c.args.room.items) in
    ap Read (c.of.ensures ∙ filled) ∙ sym (c.in-Ok.ensures.ok post left h).0

pub returns-in-Ok-clause-done : goal.returns-in-Ok-clause-done
returns-in-Ok-clause-done g c post left h = (c.in-Ok.ensures.ok post left h).1
