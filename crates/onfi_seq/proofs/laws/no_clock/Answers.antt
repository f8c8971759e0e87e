use Rattle.onfi_seq.proofs.AtOnce.{passes_nothing, turned_at_once, waits_never}
use Rattle.onfi_seq.proofs.laws.no_clock.Goals as goal

pub returns : goal.returns
returns c = record {
  passes = passes_nothing;
  waits = waits_never;
  at_once = λ q q' answer turned. turned_at_once q answer q' turned;
}
