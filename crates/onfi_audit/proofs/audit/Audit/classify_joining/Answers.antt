use Rattle.std.proofs.Common.{ap, subst, arith}
use Rattle.onfi_group.specs.Group.{IsGroup}
use Rattle.onfi_audit.specs.Audit.{Audit}
use Rattle.onfi_audit.specs.declared.audit.judging.Coming.TheVariants as coming
use Rattle.onfi_audit.proofs.audit.Audit.classify_joining.Goals as goal

pub returns-clause-ok : goal.returns-clause-ok
returns-clause-ok c =
    let is = c.in-Ok.ensures.ok in
    let made = c.in-Some.ensures.group in
    let group = subst (λ r. IsGroup r c.in-Some.group) (ap (λ (x : Audit). x.rules) c.self.view_is) made.1 in
    let bus = ap (λ (x : Audit). x.bus_free) c.self.view_is in (
      record {
        command = c.requires.command;
        want = c.in-Ok.want;
        first = is.0;
        named = is.1;
        group = subst (IsGroup c.args.self.now.rules) made.0 group;
        on_time = omega (arith, bus, c.if-self-line.false, c.if-line-from.false);
      },
      ap (λ g. coming.Joins g c.in-Ok.want) made.0,
    )
