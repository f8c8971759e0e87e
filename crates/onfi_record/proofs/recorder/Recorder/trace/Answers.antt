use Rattle.std.proofs.Common.{Global, Vec, ℕ, ap, sym, ◌∙◌}
use Rattle.onfi_record.specs.Recording.{chip_in}
use Rattle.onfi_record.proofs.Coming.{trace_told}
use Rattle.onfi_record.proofs.recorder.Recorder.trace.Goals as goal

pub returns : goal.returns
returns g c =
    let log = c.log-log.result.now in
    let whole = sym (ap (λ l. l.is_whole) c.log-log.ensures.log) ∙ c.if-not-log.false in
    let ran = c.log-log.ensures.recorded whole in
    trace_told (λ (v : Vec ℕ Global). v.items) c.args.self.now.0 (chip_in g.C.Chip.state c.args.self.now) c.as_slice.result.now c.text_of.result ran
    (c.as_slice.ensures.value ∙ ap (λ l. l.lines.items) c.log-log.ensures.log) c.text_of.ensures
