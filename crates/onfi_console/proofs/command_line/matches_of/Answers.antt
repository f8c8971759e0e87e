use Rattle.std.proofs.Common.{◌≡◌, IfOk, map, string_bytes, true, refl, subst}
use Rattle.std.proofs.lemmas.Result.{IfOk-weaker}
use Rattle.clap.specs.Words.{HasMatchesOf, subcommand_of, subcommand_rows_of}
use Rattle.clap.specs.Simple.{is_simple}
use Rattle.onfi_console.specs.Words as spec
use Rattle.onfi_console.proofs.command_line.matches_of.Goals as goal

-- the command is one of which the words give the matches
simple : is_simple spec.app ≡ true
simple = refl

pub returns : goal.returns
returns c =
    let words = map string_bytes c.args.words.now in
    let has = subst (λ app. IfOk c.try_get_matches_from.result (HasMatchesOf app words)) (c.in_ok-app.ensures) c.try_get_matches_from.ensures.matches in
    IfOk-weaker c.try_get_matches_from.result (HasMatchesOf spec.app words) (λ m. subcommand_rows_of m ≡ subcommand_of spec.app words) (λ m finds. (finds simple).1) has
