use Rattle.std.proofs.Common.{◌++◌, refl, sym, ap, ◌∙◌, Vec, Global}
use Rattle.std.specs.Option.{option_to_list}
use Rattle.std.proofs.lemmas.List.{get_or_default}
use Rattle.onfi_planner.proofs.dealing.take_last.Goals as goal

pub returns : goal.returns
returns g c =
    let rest = c.pop.new.self in
    let there = c.index_mut.ensures.value ∙ get_or_default c.args.shares.now.items c.args.worker c.index_mut.result.now rest c.requires.there in
    (rest, refl, ap (λ (v : Vec g.row.X.Denot Global). v.items) (sym there) ∙ (c.pop.ensures.items ∙ ap (λ o. rest.items ++ option_to_list o) c.unwrap.ensures))
