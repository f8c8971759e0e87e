use Rattle.onfi_addr.proofs.FaultLemmas.{limits}
use Rattle.onfi_addr.proofs.geometry.Geometry.of.Goals as goal

pub layout_of-requires : goal.layout_of-requires
layout_of-requires c = limits c.args.page.now c.in-None.ensures.none
