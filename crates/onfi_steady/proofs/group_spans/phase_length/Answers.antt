use Rattle.std.proofs.Common.{◌≡◌, ◌≤◌, ◌∙◌, ap, length, rules, sym}
use Rattle.onfi_timing.specs.declared.spans.Spans.{Spans}
use Rattle.onfi_timing.specs.Kinds.{spans_of}
use Rattle.onfi_timing.specs.Phases.{phase_length}
use Rattle.onfi_group.specs.Group.{group_spans}
use Rattle.onfi_steady.specs.Slots.{wants_in}
use Rattle.onfi_steady.proofs.Slots.{post_of}
use Rattle.onfi_steady.proofs.group_spans.phase_length.Goals as goal

pub returns-in-Some-clause-length : goal.returns-in-Some-clause-length
returns-in-Some-clause-length c = λ timing of.
    let ms = c.args.members.now in
    let n = c.from-phase.result in
    let found = c.in-Some.ensures.lookup in
    let late : length ms ≤ n = search rules in
    let same : n ≡ c.args.phase = search rules in
    ap (λ (s : Spans). s.post) (c.of_kind-in-Some.ensures timing of ∙ ap (spans_of timing) c.kind-in-Some.ensures)
    ∙ (sym (post_of timing ms n c.in-Some.member.now late found.3.0 found.1) ∙ ap (phase_length (group_spans timing (wants_in ms)) (length (wants_in ms))) same)
