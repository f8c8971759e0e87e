use Rattle.std.proofs.Common.{◌↔◌, arith, List, Some, IsNone, subst, sym, ◌∙◌}
use Rattle.std.proofs.lemmas.Bool.{true≢false}
use Rattle.std.proofs.lemmas.Grind.{common_steps}
use Rattle.onfi_request.specs.declared.want.Want.{Want}
use Rattle.onfi_group.specs.Words.{Has}
use Rattle.onfi_group.specs.Group.{IsGroup}
use Rattle.onfi_schedule.proofs.groups.group_fault.Goals as goal

pub returns-else-is_group-clause-told : goal.returns-else-is_group-clause-told
returns-else-is_group-clause-told c = λ p s er there.
    let starts = c.args.group.now.starts in
    let members = c.members-members.ensures.value ∙ c.members.ensures in
    let none : IsNone (Some c.fault_of.result) ↔ IsGroup c.args.rules.now c.args.group.now.members = grind (arith, common_steps) in
    c.fault_of.ensures.told p s starts er
    (subst (λ (ms : List Want). Has s.groups (record { members = ms; starts = starts })) (sym members) there)
    (rw c.members-members.ensures.value c.members-members.ensures.few)
    (λ g. true≢false (none.1 (subst (λ (ms : List Want). IsGroup c.args.rules.now ms) members g)))
