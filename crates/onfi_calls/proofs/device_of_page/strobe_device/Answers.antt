use Rattle.std.proofs.Common.{◌∙◌, ap}
use Rattle.onfi_calls.specs.Refusal.{whole}
use Rattle.onfi_calls.specs.Device.{no_page, no_geometry, no_sheet, no_strobes, no_timing}
use Rattle.onfi_calls.proofs.device_of_page.strobe_device.Goals as goal

pub returns-in-Err-clause-none : goal.returns-in-Err-clause-none
returns-in-Err-clause-none c = no_page c.in-Err.status c.in-Err.ensures.none c.whole.ensures

pub returns-in-Err-of-clause-none : goal.returns-in-Err-of-clause-none
returns-in-Err-of-clause-none c =
    no_geometry c.in-Ok.page c.in-Err-of.fault c.in-Ok.ensures.page c.in-Err-of.ensures.refused (c.whole-in-Err-of.ensures ∙ ap whole c.geometry_status.ensures)

pub returns-in-Err-read-clause-none : goal.returns-in-Err-read-clause-none
returns-in-Err-read-clause-none c =
    no_sheet c.in-Ok.page c.in-Err-read.fault c.in-Ok.ensures.page c.in-Ok-of.ensures.taken.0 c.in-Err-read.ensures c.sheet_refusal.ensures

pub returns-in-Err-read-2-clause-none : goal.returns-in-Err-read-2-clause-none
returns-in-Err-read-2-clause-none c =
    no_strobes c.in-Ok.page c.in-Ok-read.sheet c.in-Err-read-2.fault c.in-Ok.ensures.page c.in-Ok-of.ensures.taken.0 c.in-Ok-read.ensures c.in-Err-read-2.ensures
    c.strobe_refusal.ensures

pub returns-in-Ok-of_strobed_sectors-clause-device : goal.returns-in-Ok-of_strobed_sectors-clause-device
returns-in-Ok-of_strobed_sectors-clause-device c = record {
  page = c.in-Ok.page;
  copy = c.in-Ok.ensures.page;
  sound = c.in-Ok-of.ensures.taken.0;
  geometry = c.in-Ok-of.geometry;
  layout = c.in-Ok-of.ensures.taken.1;
  sheet = c.in-Ok-read.sheet;
  is_sheet = c.in-Ok-read.ensures;
  strobes = c.in-Ok-read-2.strobes;
  are_strobes = c.in-Ok-read-2.ensures;
  timing = c.in-Ok-of_strobed_sectors.timing;
  is_timing = c.in-Ok-of_strobed_sectors.ensures;
  lengths = c.plain_lengths.result;
  posts = c.plain_lengths.ensures;
  written = c.plain_device.ensures;
}

pub returns-in-Err-of_strobed_sectors-clause-none : goal.returns-in-Err-of_strobed_sectors-clause-none
returns-in-Err-of_strobed_sectors-clause-none c =
    no_timing c.in-Ok.page c.in-Ok-read.sheet c.in-Ok-read-2.strobes c.in-Err-of_strobed_sectors.fault c.in-Ok.ensures.page c.in-Ok-of.ensures.taken.0
    c.in-Ok-read.ensures c.in-Ok-read-2.ensures c.in-Err-of_strobed_sectors.ensures c.strobe_refusal-in-Err-of_strobed_sectors.ensures
