use Rattle.std.proofs.Common.{sym, subst}
use Rattle.onfi_seq.specs.Sequencer.{Seen}
use Rattle.onfi_seq.specs.Turned.{IsPostRefused}
use Rattle.onfi_seq.proofs.sequencer.Sequencer.take_turn.Goals as goal

pub serve-requires-clause-posts : goal.serve-requires-clause-posts
serve-requires-clause-posts g c host low =
    let told = c.in-Full.ensures in
    subst (λ (q : Seen). IsPostRefused q host) (sym told.0) (told.1 host low)
