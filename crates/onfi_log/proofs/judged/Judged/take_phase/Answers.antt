use Rattle.onfi_log.proofs.Answering.{if_ok}
use Rattle.onfi_log.proofs.judged.Judged.take_phase.Goals as goal

pub returns : goal.returns
returns c = if_ok _ _ c.step.result (λ breach steps. (c.face.new.self, c.face.ensures, steps)) c.step.ensures
