use Rattle.std.proofs.Common.{◌<◌, refl, sym, ap, subst, ◌∙◌}
use Rattle.std.specs.Prelude.{IsSome}
use Rattle.std.specs.Option.{unwrap_or}
use Rattle.onfi_request.specs.declared.answer.Answer.TheVariants.{Read as Gave}
use Rattle.onfi_die.specs.declared.page.Page.TheVariants.{Erased}
use Rattle.onfi_die.specs.declared.shape.Shape.{Shape}
use Rattle.onfi_die.specs.Block.{put_out, shown}
use Rattle.onfi_die.specs.Contents.{fresh, answer_of}
use Rattle.onfi_die.specs.Prepared.{kind_of, HasRoom, IsAnswerTo}
use Rattle.onfi_die.specs.Requests.{request_of}
use Rattle.onfi_die.specs.Store.{Stored, IsKept, blocks_of}
use Rattle.onfi_die.proofs.Keeping.{stored, shape_found, blocks_ran, answer_ran, put_shape, put_still, put_no_more, not_kept, read_if_none, read_changes_nothing, read_of_none}
use Rattle.onfi_die.proofs.store.Store.run.Goals as goal

pub read-requires-clause-read : goal.read-requires-clause-read
read-requires-clause-read c =
    read_if_none c.args.operation c.args.self.now c.self.inside.kept.entries c.args.place.lun c.args.place.block c.key_of.result (ap (λ (s : Stored). s.kept) (sym c.self.view_is)) c.key_of.ensures c.in_default.ensures.value c.requires.kept

pub read-requires-clause-room : goal.read-requires-clause-room
read-requires-clause-room c = subst (λ (s : Stored). HasRoom s.device.shape.bytes c.args.operation) (sym c.self.view_is) c.requires.room

pub returns-in_default-clause-blocks : goal.returns-in_default-clause-blocks
returns-in_default-clause-blocks c =
    let read = read_if_none c.args.operation c.args.self.now c.self.inside.kept.entries c.args.place.lun c.args.place.block c.key_of.result (ap (λ (s : Stored). s.kept) (sym c.self.view_is)) c.key_of.ensures c.in_default.ensures.value c.requires.kept in
    ap (λ m. blocks_of (stored c.self.inside.shape c.self.inside.faults.items m)) (ap (λ m. m.entries) c.get_mut.follows.holds-at-none) ∙ ap blocks_of c.self.view_is
    ∙ sym (read_changes_nothing c.args.self.now.device (request_of c.args.place c.args.operation) (blocks_of c.args.self.now) read)

pub returns-in_default-clause-answer : goal.returns-in_default-clause-answer
returns-in_default-clause-answer c =
    let none = not_kept c.args.self.now c.self.inside.kept.entries c.args.place.lun c.args.place.block c.key_of.result (ap (λ (s : Stored). s.kept) (sym c.self.view_is)) c.key_of.ensures c.in_default.ensures.value in
    let read = read_if_none c.args.operation c.args.self.now c.self.inside.kept.entries c.args.place.lun c.args.place.block c.key_of.result (ap (λ (s : Stored). s.kept) (sym c.self.view_is)) c.key_of.ensures c.in_default.ensures.value c.requires.kept in
    let r = request_of c.args.place c.args.operation in
    c.read.ensures.answer ∙ ap (λ (s : Stored). Gave (put_out s.device.shape (kind_of c.args.operation) (shown s.device.shape.bytes Erased))) c.self.view_is
    ∙ sym (read_of_none c.args.self.now.device r read)
    ∙ ap (λ o. answer_of c.args.self.now.device r (unwrap_or o (fresh c.args.self.now.device))) (sym none)

pub returns-in_default-clause-form : goal.returns-in_default-clause-form
returns-in_default-clause-form c =
    subst (λ (s : Stored). IsAnswerTo s.device.shape (kind_of c.args.operation) c.read.result) c.self.view_is c.read.ensures.form

pub run-requires-clause-page : goal.run-requires-clause-page
run-requires-clause-page c =
    let shape = shape_found c.self.inside.shape c.self.inside.kept.entries c.key_of.result c.in-Some.kept.now c.self.invariant c.in-Some.ensures.value in
    subst (λ (s : Shape). c.args.place.page < s.pages) (sym (shape ∙ ap (λ (s : Stored). s.device.shape) c.self.view_is)) c.requires.page

pub run-requires-clause-room : goal.run-requires-clause-room
run-requires-clause-room c =
    let shape = shape_found c.self.inside.shape c.self.inside.kept.entries c.key_of.result c.in-Some.kept.now c.self.invariant c.in-Some.ensures.value in
    subst (λ (s : Shape). HasRoom s.bytes c.args.operation) (sym (shape ∙ ap (λ (s : Stored). s.device.shape) c.self.view_is)) c.requires.room

pub invariant_of-self-2 : goal.invariant_of-self-2
invariant_of-self-2 c =
    let shape = shape_found c.self.inside.shape c.self.inside.kept.entries c.key_of.result c.in-Some.kept.now c.self.invariant c.in-Some.ensures.value in
    let found : IsSome _ = subst IsSome c.in-Some.ensures.value refl in
    put_shape c.self.inside.shape c.self.inside.kept (c.get_mut.follows.lender c.run.new.self) c.key_of.result c.run.new.self ((c.get_mut.follows.holds c.run.new.self).3 found) c.self.invariant (c.run.ensures.shape ∙ shape)

pub returns-clause-blocks : goal.returns-clause-blocks
returns-clause-blocks c =
    let found : IsSome _ = subst IsSome c.in-Some.ensures.value refl in
    blocks_ran c.self.inside.shape c.self.inside.faults.items c.as_slice.result.now c.args.self.now c.self.inside.kept (c.get_mut.follows.lender c.run.new.self) (request_of c.args.place c.args.operation) c.key_of.result c.in-Some.kept.now c.run.new.self
    c.self.view_is c.key_of.ensures c.self.invariant c.in-Some.ensures.value c.as_slice.ensures.value ((c.get_mut.follows.holds c.run.new.self).3 found) c.run.ensures.contents

pub returns-clause-answer : goal.returns-clause-answer
returns-clause-answer c =
    answer_ran c.self.inside.shape c.self.inside.faults.items c.as_slice.result.now c.args.self.now c.self.inside.kept.entries (request_of c.args.place c.args.operation) c.key_of.result c.in-Some.kept.now c.run.result
    c.self.view_is c.key_of.ensures c.self.invariant c.in-Some.ensures.value c.as_slice.ensures.value c.run.ensures.answer

pub returns-clause-form : goal.returns-clause-form
returns-clause-form c =
    let shape = shape_found c.self.inside.shape c.self.inside.kept.entries c.key_of.result c.in-Some.kept.now c.self.invariant c.in-Some.ensures.value in
    subst (λ (s : Shape). IsAnswerTo s (kind_of c.args.operation) c.run.result) (shape ∙ ap (λ (s : Stored). s.device.shape) c.self.view_is) c.run.ensures.form

pub returns-clause-others : goal.returns-clause-others
returns-clause-others c lun block h =
    let found : IsSome _ = subst IsSome c.in-Some.ensures.value refl in
    put_still c.self.inside.kept (c.get_mut.follows.lender c.run.new.self) c.key_of.result c.run.new.self ((c.get_mut.follows.holds c.run.new.self).3 found) lun block (subst (IsKept lun block) (sym c.self.view_is) h)

pub returns-clause-no_more : goal.returns-clause-no_more
returns-clause-no_more c lun block h =
    let found : IsSome _ = subst IsSome c.in-Some.ensures.value refl in
    subst (IsKept lun block) c.self.view_is
    (put_no_more c.self.inside.kept (c.get_mut.follows.lender c.run.new.self) c.key_of.result c.in-Some.kept.now c.run.new.self c.in-Some.ensures.value ((c.get_mut.follows.holds c.run.new.self).3 found) lun block h)
