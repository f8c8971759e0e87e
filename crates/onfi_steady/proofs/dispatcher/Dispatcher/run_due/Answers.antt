use Rattle.std.proofs.Common.{◌≡◌, ◌∙◌, Some, ap, get_or, true, inl, inr, refl, subst, sym}
use Rattle.std.specs.Prelude.{slice_get, slice_set}
use Rattle.std.proofs.lemmas.Option.{get_or_from_slice_get}
use Rattle.onfi_steady.specs.declared.lun_books.LunBooks.{LunBooks}
use Rattle.onfi_steady.specs.LunBooks.{HasBegun, HasGoneOn, IsLun}
use Rattle.onfi_steady.specs.Selecting.{can_run}
use Rattle.onfi_steady.specs.Dispatcher.{luns_of}
use Rattle.onfi_steady.proofs.Dispatching.{begins_there, due_lun, gone_on, group_begun, lun_at, take_changed}
use Rattle.onfi_steady.proofs.Selecting.{none_or_some}
use Rattle.onfi_steady.proofs.dispatcher.Dispatcher.run_due.Goals as goal

pub returns-clause-ran : goal.returns-clause-ran
returns-clause-ran c = λ timing books is.
    let old = c.args.self.now in
    let l = get_or old.lun c.from.result c.index-self-from.result in
    let after = c.run_phase-self.new.self in
    let ended = c.run_phase-self.result in
    let due = due_lun old c.requires.due in
    let kept : slice_get old.lun c.from.result ≡ Some due.lun = subst (λ i. slice_get old.lun i ≡ Some due.lun) (sym c.from.ensures) due.kept in
    let same : l ≡ due.lun = get_or_from_slice_get old.lun c.from.result due.lun c.index-self-from.result kept in
    let there : slice_get (luns_of old) old.due.lun ≡ Some l = due.there ∙ ap Some (sym same) in
    let changed = take_changed old.due.luns old.lun c.from.result after ∙ ap (λ i. slice_set (luns_of old) i after) c.from.ensures in
    let runs = subst (λ (z : LunBooks). can_run old.due.erase z ≡ true) (sym same) due.runs in
    let lun : IsLun timing books.rules l = lun_at timing books (luns_of old) old.due.lun l is.luns there in
    elim (none_or_some l.run.members) [
      | inl none ↦ group_begun timing books old _ l after c.args.started ended is (record { spans = refl; rules = refl }) refl there changed none refl (begins_there old.due.erase l runs none)
          (λ group begin. subst (λ z. HasBegun timing z old.due.lun old.due.erase group l after c.args.started ended) is.rules (c.run_phase-self.ensures.begins timing group is.spans none begin))
      | inr some ↦ gone_on timing books old _ l after c.args.started ended is (record { spans = refl; rules = refl }) refl there changed some
          (subst (λ z. HasGoneOn timing z l after c.args.started ended) is.rules (c.run_phase-self.ensures.goes timing is.spans (subst (λ z. IsLun timing z l) (sym is.rules) lun) some)) refl
    ]
