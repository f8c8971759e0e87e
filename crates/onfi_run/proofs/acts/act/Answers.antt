use Rattle.std.proofs.Common.{◌∙◌, sym}
use Rattle.std.proofs.lemmas.Bool.{or_parts}
use Rattle.onfi_run.proofs.Acting.{acts_collecting, acts_then}
use Rattle.onfi_run.proofs.Resting.{stands_as}
use Rattle.onfi_run.proofs.Sends.{same_keys}
use Rattle.onfi_run.proofs.acts.act.Goals as goal

pub returns-clause-same : goal.returns-clause-same
returns-clause-same g c =
    let was = c.pass_rows-passed.new.station in
    same_keys was.ports.items c.collect_all-collected.new.self.ports.items c.collect_all-collected.ensures.same ∙ c.pass_rows-passed.ensures.acts.same

pub returns-clause-acts : goal.returns-clause-acts
returns-clause-acts g c =
    let was = c.pass_rows-passed.new.station in
    let is = c.collect_all-collected.new.self in
    let collected = c.collect_all-collected.ensures in
    acts_then _ _ _ c.args.station.now was is c.pass_rows-passed.ensures.acts (acts_collecting _ _ _ was is collected.number collected.passed collected.same collected.moments)

pub returns-clause-rests : goal.returns-clause-rests
returns-clause-rests g c none =
    let both = or_parts c.pass_rows-passed.result c.collect_all-collected.result (sym c.either.ensures ∙ none) in
    let stands = c.pass_rows-passed.ensures.stands both.0 in
    let emptied = c.collect_all-collected.ensures.emptied both.1 in (
      stands.0,
      record {
        stands = stands_as g.A.Channels.ended c.args.now c.args.course.now.rows.now _ _ c.args.station.now.number _ c.args.station.now.passed _ c.args.station.now.ports.items _
            stands.0 (c.collect_all-collected.ensures.number ∙ c.pass_rows-passed.ensures.acts.number)
            (c.collect_all-collected.ensures.passed ∙ stands.2) (emptied.0 ∙ stands.1) stands.3;
        emptied = emptied.1;
      },
    )
