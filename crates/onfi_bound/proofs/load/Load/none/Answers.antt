use Rattle.std.proofs.Common.{refl}
use Rattle.onfi_bound.proofs.Loading.{nothing_taken}
use Rattle.onfi_bound.proofs.load.Load.none.Goals as goal

pub returns-clause-load : goal.returns-clause-load
returns-clause-load c =
    λ timing rules. nothing_taken timing rules _ c.none.ensures.commands c.none.ensures.posts c.none.ensures.operations refl refl
