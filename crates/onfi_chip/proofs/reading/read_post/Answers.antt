use Rattle.std.proofs.Common.{◌≡◌, sym, ap, subst, ◌∙◌}
use Rattle.std.proofs.lemmas.Result.{IfOk-weaker}
use Rattle.onfi_addr.specs.declared.place.Place.{Place}
use Rattle.onfi_addr.specs.Rows.{row_of}
use Rattle.onfi_chip.specs.Calls.{IsNextPost}
use Rattle.onfi_chip.proofs.reading.read_post.Goals as goal

pub returns-in-Read-clause-answer : goal.returns-in-Read-clause-answer
returns-in-Read-clause-answer g c =
    let row : row_of c.args.geometry.now c.args.fetch.place ≡ c.row-row.result = ap (λ (p : Place). row_of c.args.geometry.now p) (sym c.place.ensures) ∙ sym c.row-row.ensures.value in
    IfOk-weaker c.read_data.result _ _ (λ answer f post left h. f post left (subst (λ r. IsNextPost (g.C.Chip.state c.args.chip.now) c.args.now r post left) row h)) c.read_data.ensures.answer

pub returns-in-Read-clause-done : goal.returns-in-Read-clause-done
returns-in-Read-clause-done g c =
    let row : row_of c.args.geometry.now c.args.fetch.place ≡ c.row-row.result = ap (λ (p : Place). row_of c.args.geometry.now p) (sym c.place.ensures) ∙ sym c.row-row.ensures.value in
    IfOk-weaker c.read_data.result _ _ (λ answer f post left h. f post left (subst (λ r. IsNextPost (g.C.Chip.state c.args.chip.now) c.args.now r post left) row h)) c.read_data.ensures.done

pub returns-in-ReadSectors-clause-answer : goal.returns-in-ReadSectors-clause-answer
returns-in-ReadSectors-clause-answer g c =
    let row : row_of c.args.geometry.now c.args.fetch.place ≡ c.row-row.result = ap (λ (p : Place). row_of c.args.geometry.now p) (sym c.place.ensures) ∙ sym c.row-row.ensures.value in
    IfOk-weaker c.read_sectors.result _ _ (λ answer f post left h. f post left (subst (λ r. IsNextPost (g.C.Chip.state c.args.chip.now) c.args.now r post left) row h)) c.read_sectors.ensures.answer

pub returns-in-ReadSectors-clause-done : goal.returns-in-ReadSectors-clause-done
returns-in-ReadSectors-clause-done g c =
    let row : row_of c.args.geometry.now c.args.fetch.place ≡ c.row-row.result = ap (λ (p : Place). row_of c.args.geometry.now p) (sym c.place.ensures) ∙ sym c.row-row.ensures.value in
    IfOk-weaker c.read_sectors.result _ _ (λ answer f post left h. f post left (subst (λ r. IsNextPost (g.C.Chip.state c.args.chip.now) c.args.now r post left) row h)) c.read_sectors.ensures.done

pub returns-in-Program-clause-answer : goal.returns-in-Program-clause-answer
returns-in-Program-clause-answer g c =
    let row : row_of c.args.geometry.now c.args.fetch.place ≡ c.row-row.result = ap (λ (p : Place). row_of c.args.geometry.now p) (sym c.place.ensures) ∙ sym c.row-row.ensures.value in
    IfOk-weaker c.read_status.result _ _ (λ answer f post left h. f post left (subst (λ r. IsNextPost (g.C.Chip.state c.args.chip.now) c.args.now r post left) row h)) c.read_status.ensures.answer

pub returns-in-Program-clause-done : goal.returns-in-Program-clause-done
returns-in-Program-clause-done g c =
    let row : row_of c.args.geometry.now c.args.fetch.place ≡ c.row-row.result = ap (λ (p : Place). row_of c.args.geometry.now p) (sym c.place.ensures) ∙ sym c.row-row.ensures.value in
    IfOk-weaker c.read_status.result _ _ (λ answer f post left h. f post left (subst (λ r. IsNextPost (g.C.Chip.state c.args.chip.now) c.args.now r post left) row h)) c.read_status.ensures.done
