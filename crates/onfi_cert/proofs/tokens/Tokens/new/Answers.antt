use Rattle.std.proofs.Common.{sym, subst}
use Rattle.onfi_cert.specs.Reading.{Holds}
use Rattle.onfi_cert.specs.Text.{header}
use Rattle.onfi_cert.specs.declared.limits.TheConstants.{MOST_TOKENS}
use Rattle.onfi_cert.proofs.Spellings.{language}
use Rattle.onfi_cert.proofs.Whole.{start_holds}
use Rattle.onfi_cert.proofs.tokens.Tokens.new.Goals as goal

pub returns-in-Some-clause-ok : goal.returns-in-Some-clause-ok
returns-in-Some-clause-ok c =
    let held = start_holds language MOST_TOKENS header c.in-Some.strict c.args.text.now c.in-Some.bytes.now c.in-Some.ensures.some in
    subst (Holds c.args.text.now c.in-Some.strict) (sym c.new.ensures) held
