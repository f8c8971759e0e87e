use Rattle.std.proofs.Common.{◌≡◌, ◌-◌, ℕ, List, Option, inl, inr, length, sym, ap, ◌∙◌, subst, arith}
use Rattle.std.specs.List.{AllByRecursion as All}
use Rattle.onfi_problem.specs.Moves.{IsMove}
use Rattle.onfi_problem.specs.Position.{move_of}
use Rattle.onfi_problem.specs.Starts.{IsNamed}
use Rattle.onfi_problem.proofs.Lists.{All-map}
use Rattle.onfi_problem.proofs.Perm.{All-has}
use Rattle.onfi_planner.specs.Planning.{run_of}
use Rattle.onfi_planner.proofs.Halfway.{closed_by, open_node, steps_same}
use Rattle.onfi_planner.proofs.Splitting.{closed_found, closed_opens, closed_parts, parts_all, parts_few, found_length, found_within, part_over, Split, split_made, split_found, split_opens, split_over, split_parts}
use Rattle.onfi_planner.proofs.parts.search_parts.Given.{Over}
use Rattle.onfi_planner.proofs.parts.search_parts.Goals.{In-Ok}
use Rattle.onfi_planner.proofs.parts.search_parts.Goals as goal

pub returns-then-is_some-clause-found : goal.returns-then-is_some-clause-found
returns-then-is_some-clause-found g c = closed_found c.args.root.now.problem c.args.root.now c.requires.root (closed_by c.args.root.now.problem.problem c.args.root.now.best.finish c.closing_token.result c.if-is_some.ensures c.closing_token.ensures)

pub returns-then-is_some-clause-opened : goal.returns-then-is_some-clause-opened
returns-then-is_some-clause-opened g c = closed_opens c.args.root.now.problem c.args.root.now c.requires.root (closed_by c.args.root.now.problem.problem c.args.root.now.best.finish c.closing_token.result c.if-is_some.ensures c.closing_token.ensures)

pub returns-then-is_some-clause-parts : goal.returns-then-is_some-clause-parts
returns-then-is_some-clause-parts g c = closed_parts c.args.root.now.problem c.args.root.now c.args.limit (closed_by c.args.root.now.problem.problem c.args.root.now.best.finish c.closing_token.result c.if-is_some.ensures c.closing_token.ensures)

pub search_each-requires-clause-moves : goal.search_each-requires-clause-moves
search_each-requires-clause-moves g c = λ _ _.
    let x = c.args.root.now.problem in
    let items = c.as_slice.result.now in
    let are = steps_same x items _ c.as_slice.ensures.value c.steps-moves.ensures.moves in
    let (yields, ay, parts) = c.in_ok-parts.ensures in
    subst (All (λ m. IsMove x.problem (move_of x.groups m))) (sym (c.as_slice-2.ensures.value ∙ parts)) (parts_all _ yields items (All-map (move_of x.groups) (IsMove x.problem) items are.moves_only))

pub search_each-requires-clause-named : goal.search_each-requires-clause-named
search_each-requires-clause-named g c = λ _ _.
    let x = c.args.root.now.problem in
    let items = c.as_slice.result.now in
    let named = subst (All (IsNamed x.groups)) (sym c.as_slice.ensures.value) c.steps-moves.ensures.named in
    let (yields, ay, parts) = c.in_ok-parts.ensures in
    subst (All (IsNamed x.groups)) (sym (c.as_slice-2.ensures.value ∙ parts)) (parts_all _ yields items named)

pub returns-in-Err-Over-clause-over : goal.returns-in-Err-Over-clause-over
returns-in-Err-Over-clause-over g c = λ n e.
    let x = c.args.root.now.problem in
    let items = c.as_slice.result.now in
    let are = steps_same x items _ c.as_slice.ensures.value c.steps-moves.ensures.moves in
    let (yields, ay, parts) = c.in_ok-parts.ensures in
    let first = c.args.root.now.best in
    let moves = subst (All (λ m. IsMove x.problem (move_of x.groups m))) (sym (c.as_slice-2.ensures.value ∙ parts)) (parts_all _ yields items (All-map (move_of x.groups) (IsMove x.problem) items are.moves_only)) in
    let (m, has, over) = c.in-Err-Over.ensures.over c.in-Err-Over.field-0-is in
    let opens = open_node x first.finish c.closing_token.result _ (sym c.if-is_some.ensures) c.closing_token.ensures in
    let told : n ≡ c.args.limit = cc in
    inl (told, part_over x m first.finish c.args.limit (run_of x.groups first.steps.items) c.requires.root.first_run opens (All-has _ c.as_slice-2.result.now m moves has) over)

pub first_best-opened-requires-clause-few : goal.first_best-opened-requires-clause-few
first_best-opened-requires-clause-few g c =
    let x = c.args.root.now.problem in
    let (yields, ay, parts) = c.in_ok-parts.ensures in
    let found = c.in-Ok.found in
    let long = found_length x c.args.root.now.best.finish c.args.limit c.as_slice-2.result.now found.items c.in-Ok.ensures.found in
    let same = ap length (c.as_slice-2.ensures.value ∙ parts) in
    let few = parts_few yields c.as_slice.result.now in
    let all = ap length c.as_slice.ensures.value in
    let kept = found.ok.0 in
    omega arith

pub first_best-opened-requires-clause-small : goal.first_best-opened-requires-clause-small
first_best-opened-requires-clause-small g c =
    found_within c.args.root.now.problem c.args.root.now.best.finish c.args.limit 1048576 c.as_slice-2.result.now c.in-Ok.found.items c.requires.few c.in-Ok.ensures.found

-- the root, split into the parts that were searched
split : (g : Over) (c : In-Ok g) → (yields : List (Option ℕ)) × Split c.args.root.now.problem c.as_slice.result.now yields c.args.root.now.best.finish c.args.limit (run_of c.args.root.now.problem.groups c.args.root.now.best.steps.items) c.in-Ok.found.items
split g c =
    let x = c.args.root.now.problem in
    let items = c.as_slice.result.now in
    let (yields, ay, parts) = c.in_ok-parts.ensures in
    let opens = open_node x c.args.root.now.best.finish c.closing_token.result _ (sym c.if-is_some.ensures) c.closing_token.ensures in
    (yields, split_made x c.args.root.now items c.steps-moves.result c.as_slice-2.result.now c.in_ok-parts.parts.items yields c.args.limit c.in-Ok.found.items c.requires.root c.as_slice.ensures.value c.steps-moves.ensures.moves c.steps-moves.ensures.named ay opens c.as_slice-2.ensures.value parts c.in-Ok.ensures.found)

pub returns-then-opened-gt-MOST-clause-over : goal.returns-then-opened-gt-MOST-clause-over
returns-then-opened-gt-MOST-clause-over g c = λ n e.
    let (yields, split) = split g (goal.at.returns-then-opened-gt-MOST-clause-over g c).In-Ok in
    let told : c.first_best-opened.result - 1 ≡ n = cc in
    let more = c.if-opened-gt-MOST.true in
    inr (omega arith, split_over c.args.root.now.problem c.as_slice.result.now yields c.args.root.now.best.finish c.args.limit n c.first_best-opened.result _ c.in-Ok.found.items split c.first_best-opened.ensures.opened (omega arith))

pub returns-clause-found : goal.returns-clause-found
returns-clause-found g c =
    let (yields, split) = split g (goal.at.returns-clause-found g c).In-Ok in
    let best = c.first_best-opened.ensures in
    split_found c.args.root.now.problem c.as_slice.result.now yields c.args.limit c.in-Ok.found.items c.args.root.now.best c.first_best-opened.new.best split c.requires.root.small best.sooner best.least best.one

pub returns-clause-opened : goal.returns-clause-opened
returns-clause-opened g c =
    let (yields, split) = split g (goal.at.returns-clause-opened g c).In-Ok in
    split_opens c.args.root.now.problem c.as_slice.result.now yields c.args.root.now.best.finish c.args.limit c.first_best-opened.new.best.finish c.first_best-opened.result _ c.in-Ok.found.items split c.first_best-opened.ensures.least c.first_best-opened.ensures.opened

pub returns-clause-parts : goal.returns-clause-parts
returns-clause-parts g c =
    let (yields, split) = split g (goal.at.returns-clause-parts g c).In-Ok in
    split_parts c.args.root.now.problem c.as_slice.result.now yields c.args.root.now.best.finish c.args.limit c.first_best-opened.new.best.finish c.first_best-opened.result _ c.in-Ok.found.items split c.first_best-opened.ensures.least c.first_best-opened.ensures.opened
