use Rattle.std.proofs.Common.{◌≡◌, sym, ap, subst, ◌∙◌}
use Rattle.onfi_request.specs.declared.answer.Answer.{Answer}
use Rattle.onfi_request.specs.declared.answer.Answer.TheVariants.{Read}
use Rattle.onfi_timing.specs.declared.kind.Kind.TheVariants.{ReadSectors}
use Rattle.onfi_die.specs.declared.prepared.Prepared.{Prepared}
use Rattle.onfi_die.specs.Block.{put_out, shown}
use Rattle.onfi_die.specs.Prepared.{kind_of, IsAnswerTo}
use Rattle.onfi_die.proofs.Outputs.{length_part, length_shown}
use Rattle.onfi_die.proofs.prepared.Prepared.read.Goals as goal

pub returns-in-ReadSectors-clause-answer : goal.returns-in-ReadSectors-clause-answer
returns-in-ReadSectors-clause-answer c =
    let shape = c.args.shape in
    let content = shown shape.bytes c.args.page.now in
    let told = c.read_part-in-ReadSectors.ensures shape.bytes c.requires.wide c.part-from.ensures.within in
    let cut = c.part-from.ensures.cut content (length_shown shape.bytes c.args.page.now c.requires.wide) in
    subst (λ (o : Prepared). c.read_part-in-ReadSectors.result ≡ Read (put_out shape (kind_of o) content)) (sym c.in-ReadSectors.is) (told ∙ ap Read cut)

pub returns-in-ReadSectors-clause-form : goal.returns-in-ReadSectors-clause-form
returns-in-ReadSectors-clause-form c =
    let shape = c.args.shape in
    let content = shown shape.bytes c.args.page.now in
    let told = c.read_part-in-ReadSectors.ensures shape.bytes c.requires.wide c.part-from.ensures.within in
    let size = length_part shape.bytes c.part-from.result.0 c.part-from.result.1 content (length_shown shape.bytes c.args.page.now c.requires.wide) c.part-from.ensures.within in
    subst (λ (o : Prepared). IsAnswerTo shape (kind_of o) c.read_part-in-ReadSectors.result) (sym c.in-ReadSectors.is)
    (subst (λ (a : Answer). IsAnswerTo shape (ReadSectors c.in-ReadSectors.first c.in-ReadSectors.count) a) (sym told) (size ∙ c.part-from.ensures.length))
