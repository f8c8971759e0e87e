use Rattle.std.proofs.Common.{length, map, ap, arith}
use Rattle.std.proofs.lemmas.List.{length-append, length-map}
use Rattle.onfi_log.specs.Parts.{parts}
use Rattle.onfi_log.proofs.PartsLemmas.{some_parts}
use Rattle.onfi_log.proofs.line.words.Goals as goal

pub returns : goal.returns
returns c =
    let words = c.loop-at.words.items in
    let left = parts 32 c.loop-at.left.now in
    omega (
      arith,
      ap length c.loop-at.invariant.cut,
      length-append (map (λ w. w.now) words) left,
      length-map words (λ w. w.now),
      c.loop-at.invariant.count,
      c.loop-at-test.false,
      c.loop-at.auto._at-end,
      some_parts 32 c.loop-at.left.now,
    )
