use Rattle.std.proofs.Common.{◌≡◌, OnErr, ◌∙◌, subst, Result, Ok, Err}
use Rattle.onfi_die.specs.Shapes.{Device}
use Rattle.onfi_die.specs.Contents.{answer_of}
use Rattle.onfi_die.specs.Blocks.{Blocks, changed, block_of}
use Rattle.onfi_die.specs.Store.{blocks_of}
use Rattle.onfi_die.proofs.Same.{same_changed, same_answer}
use Rattle.onfi_die.proofs.store.Store.apply.Goals as goal

on_err : {A E P : Type 0} (r : Result A E) → P → OnErr r P
on_err (Ok x) p = tt
on_err (Err e) p = p

pub returns-in_err-keep-clause-err : goal.returns-in_err-keep-clause-err
returns-in_err-keep-clause-err c = on_err c.from_residual-in_err-keep.result c.keep.ensures.blocks

pub returns-clause-blocks : goal.returns-clause-blocks
returns-clause-blocks c =
    let r = c.args.request.now in
    let o = c.in_ok-operation.operation in
    subst (λ (d : Device). blocks_of c.run.new.self ≡ changed d r (blocks_of c.args.self.now)) c.keep.ensures.device
    (subst (λ (bs : Blocks). blocks_of c.run.new.self ≡ changed c.keep.new.self.device r bs) c.keep.ensures.blocks
    (c.run.ensures.blocks ∙ same_changed c.keep.new.self.device o r (blocks_of c.keep.new.self) c.in_ok-operation.ensures.kind (λ k. c.in_ok-operation.ensures.data k ∙ c.as_slice.ensures)))

pub returns-clause-answer : goal.returns-clause-answer
returns-clause-answer c =
    let r = c.args.request.now in
    let o = c.in_ok-operation.operation in
    subst (λ (d : Device). c.run.result ≡ answer_of d r (block_of r (blocks_of c.args.self.now))) c.keep.ensures.device
    (subst (λ (bs : Blocks). c.run.result ≡ answer_of c.keep.new.self.device r (block_of r bs)) c.keep.ensures.blocks
    (c.run.ensures.answer ∙ same_answer c.keep.new.self.device o r (block_of r (blocks_of c.keep.new.self)) c.in_ok-operation.ensures.kind (λ k. c.in_ok-operation.ensures.data k ∙ c.as_slice.ensures)))
