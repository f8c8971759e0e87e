use Rattle.std.proofs.Common.{◌+◌, ◌∙◌, sym, arith}
use Rattle.std.proofs.lemmas.List.{drop_all, drop_more}
use Rattle.onfi_gap.proofs.Pieces.{all_found, before_next, on_with, on_without, put_before}
use Rattle.onfi_gap.proofs.finding.find_pieces.Goals.{then-begins_at+in_ok-find_piece, else-begins_at}
use Rattle.onfi_gap.proofs.finding.find_pieces.Goals as goal

pub loop-at-preserved : goal.loop-at-preserved
loop-at-preserved c =
    let a = c.args in
    let l = c.loop-at in
    let here = drop_more a.lines.now l.at _ c.loop-at-test.true in
    elim c.if-begins_at.branch [
      | then-begins_at+in_ok-find_piece w ↦ (
          let k = w.in_ok-find_piece.ensures in
          rw w.found-is (record {
            within = k.within;
            before = put_before k.put l.invariant.before;
            goes = on_with a.terms.now.timing a.terms.now.rules a.terms.now.limit _ a.notes.now l.walk c.step.new.self l.found.from (l.at + 1) _ _ _ here c.in_ok-step.ensures
                w.find_piece.new.found.from l.found.pieces.items w.find_piece.new.found.pieces.items (sym c.begins_at.ensures ∙ w.if-begins_at.true) k.next k.put l.invariant.goes;
          }))
      | else-begins_at w ↦ rw w.found-is (record {
        within = l.invariant.within;
        before = before_next l.invariant.before;
        goes = on_without a.terms.now.timing a.terms.now.rules a.terms.now.limit _ a.notes.now l.walk c.step.new.self l.found.from (l.at + 1) _ _ _ here c.in_ok-step.ensures
            l.found.pieces.items (sym c.begins_at.ensures ∙ w.if-begins_at.false) l.invariant.goes;
      })
    ]

pub returns-clause-pieces : goal.returns-clause-pieces
returns-clause-pieces c =
    let l = c.loop-at in
    all_found c.args.terms.now.timing c.args.terms.now.rules c.args.terms.now.limit _ c.args.notes.now l.walk l.found.from (l.at + 1) _ l.found.pieces.items
    (drop_all l.at c.args.lines.now (omega (arith, c.loop-at-test.false))) l.invariant.goes
