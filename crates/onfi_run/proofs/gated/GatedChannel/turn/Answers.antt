use Rattle.onfi_chip.specs.SimChip.{chip_in}
use Rattle.onfi_record.specs.Recording.{chip_in as recorded}
use Rattle.onfi_core.specs.Steps.{none_left}
use Rattle.onfi_seq.specs.Sequencer.{seen_in}
use Rattle.onfi_run.proofs.Limits.{over_kept, right_is_sound}
use Rattle.onfi_run.proofs.Proceeding.{refused_kept}
use Rattle.onfi_run.proofs.Same.{same_queues}
use Rattle.onfi_run.proofs.gated.GatedChannel.turn.Goals as goal

pub returns-clause-turned : goal.returns-clause-turned
returns-clause-turned g c = record { answer = c.turn_at-turn.result; turned = c.turn_at-turn.ensures.turned; planned = c.turn_at-turn.ensures.planned; told = c.progress.ensures }

pub returns-clause-same : goal.returns-clause-same
returns-clause-same g c = same_queues (seen_in (recorded chip_in) c.args.self.now.sequencer) (seen_in (recorded chip_in) c.turn_at-turn.new.self) c.turn_at-turn.ensures.same

pub returns-clause-refused : goal.returns-clause-refused
returns-clause-refused g c =
    refused_kept c.args.now (seen_in (recorded chip_in) c.args.self.now.sequencer) (seen_in (recorded chip_in) c.turn_at-turn.new.self) (none_left c.turn_at-turn.new.self.0.half) c.turn_at-turn.result c.progress.result c.turn_at-turn.ensures.turned c.progress.ensures

pub returns-clause-short : goal.returns-clause-short
returns-clause-short g c = c.turn_at-turn.ensures.short

pub returns-clause-over : goal.returns-clause-over
returns-clause-over g c =
    over_kept c.args.now (seen_in (recorded chip_in) c.args.self.now.sequencer) (seen_in (recorded chip_in) c.turn_at-turn.new.self) (none_left c.turn_at-turn.new.self.0.half) c.turn_at-turn.result c.progress.result c.turn_at-turn.ensures.turned
    (right_is_sound _ (seen_in (recorded chip_in) c.turn_at-turn.new.self) c.turn_at-turn.ensures.right) c.progress.ensures
