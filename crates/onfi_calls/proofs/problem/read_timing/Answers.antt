use Rattle.std.proofs.Common.{◌≤◌, rules, sym, ◌∙◌}
use Rattle.onfi_calls.specs.Refused.{is_timing}
use Rattle.onfi_calls.proofs.Stated.{short_posts}
use Rattle.onfi_calls.proofs.problem.read_timing.Goals as goal

pub with_posts-requires : goal.with_posts-requires
with_posts-requires c = record { short = short_posts c.args.channel.now.lengths.sectors (sym c.have_long.ensures ∙ c.if-have_long.false) }

pub returns-in-Err-clause-unsaid : goal.returns-in-Err-clause-unsaid
returns-in-Err-clause-unsaid c = (let few : c.args.channel.now.lun_count ≤ 8 = search rules in is_timing few c.in-Err.ensures.err)
