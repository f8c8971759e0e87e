use Rattle.std.proofs.Common.{[], ◌∷◌, refl}
use Rattle.onfi_seq.proofs.Keeping.{kept_opened}
use Rattle.onfi_seq.proofs.sequencer.Sequencer.open_with.Goals as goal

pub invariant_of-result : goal.invariant_of-result
invariant_of-result g c = rw c.in_ok-driver.ensures (kept_opened c.args.setup c.args.channel c.args.intake c.args.posters (0 ∷ 0 ∷ 0 ∷ 0 ∷ []) c.requires.hosts c.requires.intake c.requires.posters refl)
