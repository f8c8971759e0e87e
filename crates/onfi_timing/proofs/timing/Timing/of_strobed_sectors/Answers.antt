use Rattle.std.proofs.Common.{rules}
use Rattle.onfi_timing.proofs.Posts.{strobed_too}
use Rattle.onfi_timing.proofs.timing.Timing.of_strobed_sectors.Goals as goal

pub returns : goal.returns
returns c = record {
  pages = strobed_too c.args.page.now c.args.geometry.now c.args.sheet.now c.args.strobes.now c.in_ok-timing.timing c.with_posts.result c.with_posts.ensures.pages c.in_ok-timing.ensures.table;
  values = c.in-Ok.values;
  sheet_gives = c.in-Ok.ensures;
  strobe_values = c.in-Ok-of.by_strobes;
  strobes_give = c.in-Ok-of.ensures.0;
  sectors = search rules;
}
