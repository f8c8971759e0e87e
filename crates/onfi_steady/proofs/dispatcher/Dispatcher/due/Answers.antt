use Rattle.std.proofs.Common.{◌≡◌, ◌∙◌, get_or, subst, sym, true}
use Rattle.onfi_steady.specs.declared.lun_books.LunBooks.{LunBooks}
use Rattle.onfi_steady.specs.Selecting.{can_run}
use Rattle.onfi_steady.specs.Dispatcher.{luns_of}
use Rattle.onfi_steady.proofs.Beginning.{phase_due}
use Rattle.onfi_steady.proofs.Changing.{lun_there}
use Rattle.onfi_steady.proofs.Dispatching.{due_lun, lun_at, the_same}
use Rattle.onfi_steady.proofs.dispatcher.Dispatcher.due.Goals as goal

pub returns-clause-due : goal.returns-clause-due
returns-clause-due c = λ timing books next is due.
    let d = c.args.self.now in
    let l = get_or d.lun c.from.result c.index-self-from.result in
    let on = due_lun d due.is in
    let there = lun_there d d.due.lun c.from.result c.index-self-from.result on.lun c.from.ensures on.there in
    let runs = subst (λ (z : LunBooks). can_run d.due.erase z ≡ true) (sym (the_same l on.lun (sym there ∙ on.there))) on.runs in
    phase_due timing books d l next is due there runs c.phase.result (c.phase.ensures.goes timing books.rules (lun_at timing books (luns_of d) d.due.lun l is.luns there))
    (c.phase.ensures.begins timing)

pub returns-clause-some : goal.returns-clause-some
returns-clause-some c = λ timing books is due.
    let d = c.args.self.now in
    let l = get_or d.lun c.from.result c.index-self-from.result in
    let on = due_lun d due in
    let there = lun_there d d.due.lun c.from.result c.index-self-from.result on.lun c.from.ensures on.there in
    let runs = subst (λ (z : LunBooks). can_run d.due.erase z ≡ true) (sym (the_same l on.lun (sym there ∙ on.there))) on.runs in
    c.phase.ensures.some timing books.rules (lun_at timing books (luns_of d) d.due.lun l is.luns there) runs
