use Rattle.std.proofs.Common.{[], ◌≡◌, ◌+◌, ◌++◌, ◌∙◌, ap, drop, subst, sym}
use Rattle.std.specs.List.{cons_option}
use Rattle.std.specs.Option.{option_map, option_or}
use Rattle.onfi_script.specs.Seen.{moment_in}
use Rattle.onfi_run.specs.Answers.{awaited, awaiting}
use Rattle.onfi_run.specs.Arriving.{expected, expected_from, expected_on}
use Rattle.onfi_run.proofs.Arrivals.{next_expected, none_expected}
use Rattle.onfi_run.proofs.answers.await_answers_on.Goals as goal

pub loop-row-init : goal.loop-row-init
loop-row-init c = ap (λ l. l ++ awaiting (expected_on c.args.rows.now c.args.host c.args.channel)) (sym c.new-places.ensures.items)

pub loop-row-preserved : goal.loop-row-preserved
loop-row-preserved c =
    let rows = c.args.rows.now in
    let host = c.args.host in
    let channel = c.args.channel in
    let at = c.loop-row.row-index in
    let row = c.row-item.result in
    let had = c.loop-row.places.items in
    let has = c.put_awaited.new.places.items in
    let arrives = c.loop-row.arrives in
    let put = c.in_ok-put_awaited.ensures ∙ ap (λ o. had ++ cons_option (option_map (λ k. awaited (expected arrives k)) o) []) c.kind_in.ensures in
    let then : c.or-arrives.result ≡ option_or (moment_in row) arrives = c.or-arrives.ensures ∙ ap (λ o. option_or o arrives) c.moment.ensures in
    subst (λ a. awaiting (expected_on rows host channel) ≡ has ++ awaiting (expected_from a (drop (at + 1) rows) host channel)) (sym then)
    (c.loop-row.invariant ∙ next_expected arrives rows host channel at row had has c.loop-row-test.true c.row-item.is put)

pub returns : goal.returns
returns c = sym (c.loop-row.invariant ∙ none_expected c.loop-row.arrives c.args.rows.now c.args.host c.args.channel c.loop-row.row-index c.loop-row.places.items c.loop-row-test.false)
