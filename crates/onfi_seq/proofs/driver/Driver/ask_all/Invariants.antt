use Rattle.std.proofs.Common.{◌≡◌, true, false}
use Rattle.onfi_core.specs.Steps.{none_left}
use Rattle.onfi_seq.specs.Driver.{AsksBelow, channel_in, in_time}
use Rattle.onfi_seq.proofs.driver.Driver.ask_all.Given as goal

abbrev pub invariant-loop-lun : goal.invariant-loop-lun
invariant-loop-lun g l = record {
  asked : AsksBelow l.fn.self.0.setup l.lun (channel_in g.C.Chip.state l.fn.self) (channel_in g.C.Chip.state l.self);
  kept : channel_in g.C.Chip.state l.self ≡ in_time (channel_in g.C.Chip.state l.fn.self) (channel_in g.C.Chip.state l.self);
  setup : l.self.0.setup ≡ l.fn.self.0.setup;
  found_is : l.found ≡ false → l.self.0.half.now.luns ≡ l.fn.self.0.half.now.luns;
  phases : none_left l.self.0.half ≡ true → none_left l.fn.self.0.half ≡ true;
}
