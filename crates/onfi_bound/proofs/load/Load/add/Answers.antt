use Rattle.std.proofs.Common.{◌<◌, ◌∷◌, [], if◌then◌else◌, true, length, inl, inr, sym, ap, ◌∙◌, arith}
use Rattle.onfi_timing.specs.Kinds.{operation_of, spans_of}
use Rattle.onfi_problem.specs.Problem.{IsWant}
use Rattle.onfi_problem.specs.Left.{want_command, want_post}
use Rattle.onfi_problem.proofs.Perm.{All-append}
use Rattle.onfi_problem.proofs.Wants.{total-append}
use Rattle.onfi_bound.specs.Bounds.{same_operation}
use Rattle.onfi_bound.specs.Parts.{has_operation}
use Rattle.onfi_bound.proofs.GroupPosts.{total_few}
use Rattle.onfi_bound.proofs.Loading.{IsOwnFirst, any_more, firsts_with, firsts_short, works_with, works_short}
use Rattle.onfi_bound.proofs.load.Load.add.Goals as goal
use Rattle.onfi_bound.proofs.load.Load.add.Goals.{then-self-lun-eq0, else-self-lun-eq0}

pub with_want-self-requires-clause-commands : goal.with_want-self-requires-clause-commands
with_want-self-requires-clause-commands c =
    let few = total_few (want_command c.args.timing.now) c.args.before.now (λ w. let r = (spans_of c.args.timing.now w.kind).in_range in omega arith) in
    omega arith

pub with_want-self-requires-clause-posts : goal.with_want-self-requires-clause-posts
with_want-self-requires-clause-posts c =
    let few = total_few (want_post c.args.timing.now) c.args.before.now (λ w. let r = (spans_of c.args.timing.now w.kind).in_range in omega arith) in
    omega arith

pub returns-clause-load : goal.returns-clause-load
returns-clause-load c =
    let timing = c.args.timing.now in
    let rules = c.args.rules.now in
    let ws = c.args.before.now in
    let w = c.args.want.now in
    let load = c.args.self.now in
    let h = c.requires.load in
    let s = c.spans-spans.ensures in
    let wait = c.wait_of-wait.ensures in
    let sums = c.with_want-self.ensures in
    let first = c.if-self-lun-eq0.self in
    let within : w.lun < length load.firsts = omega arith in
    let within' : w.lun < length load.work = omega arith in
    let way : IsOwnFirst timing w load first = elim c.if-self-lun-eq0.branch [
      | then-self-lun-eq0 v ↦ inl (v.if-self-lun-eq0.true, rw (← s) v.self-is)
      | else-self-lun-eq0 v ↦ inr (let n = v.if-self-lun-eq0.false in omega arith, rw (← s) (v.self-is ∙ v.min.ensures))
    ] in
    record {
      takes = record {
        commands = (let t = total-append (want_command timing) ws (w ∷ []) in let a = h.takes.commands in let e = ap (λ z. z.cmd) s in omega arith);
        posts = (let t = total-append (want_post timing) ws (w ∷ []) in let a = h.takes.posts in let e = ap (λ z. z.post) s in omega arith);
        operations = λ operation. (sums.operations operation ∙ ap (λ z. if has_operation load.sums.operations operation then true else same_operation operation z) c.operation.ensures) ∙ (ap (λ b. if b then true else same_operation operation (operation_of w.kind)) (h.takes.operations operation) ∙ sym (any_more (λ v. same_operation operation (operation_of v.kind)) ws w));
        firsts = firsts_with timing rules ws w load h first within c.requires.lun way;
        short = firsts_short timing rules ws w load h first within way;
        work = rw s (works_with timing rules ws w load h c.wait_of-wait.result within' c.requires.lun c.requires.want.plane wait.page_fits wait.above_fits (rw s at wait.value));
      };
      legal = All-append IsWant ws (w ∷ []) h.legal (c.requires.want, tt);
      short = rw s (works_short timing rules ws w load h c.wait_of-wait.result within' wait.short);
    }
