use Rattle.std.proofs.Common.{◌≡◌, true, false, sym, ◌∙◌}
use Rattle.onfi_seq.specs.Driver.{channel_in}
use Rattle.onfi_seq.proofs.Passing.{asks_more, in_time_all}
use Rattle.onfi_seq.proofs.driver.Driver.ask_all.Goals as goal
use Rattle.onfi_seq.proofs.driver.Driver.ask_all.Goals.{then-ask, else-ask}

pub loop-lun-preserved : goal.loop-lun-preserved
loop-lun-preserved g c =
    let l = c.loop-lun in
    let e = c.ask.ensures in
    let s = c.args.self.now.0.setup in
    let old = channel_in g.C.Chip.state c.args.self.now in
    let mid = channel_in g.C.Chip.state l.self in
    let new = channel_in g.C.Chip.state c.ask.new.self in
    record {
      asked = asks_more s l.self.0.setup l.lun old mid new l.invariant.setup l.invariant.asked e.asked;
      kept = in_time_all old mid new l.invariant.kept e.kept;
      setup = e.setup ∙ l.invariant.setup;
      found_is = λ none. elim c.if-ask.branch [
        | then-ask w ↦ absurd (let q : true ≡ false = sym w.found-is ∙ none in cc)
        | else-ask w ↦ e.found w.if-ask.false ∙ l.invariant.found_is (sym w.found-is ∙ none)
      ];
      phases = λ over. l.invariant.phases (e.phases over);
    }
