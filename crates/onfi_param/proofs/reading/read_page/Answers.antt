use Rattle.std.proofs.Common.{arith, inl, inr, refl, sym, ◌∙◌}
use Rattle.std.proofs.lemmas.Bool.{cases_lt, false≢true}
use Rattle.onfi_param.proofs.CopyLemmas.{none_behind, none_here, copy_size}
use Rattle.onfi_param.proofs.reading.read_page.Goals as goal

pub returns-clause-no_copy : goal.returns-clause-no_copy
returns-clause-no_copy c = (
  λ _. (
    c.if-bytes-lt-PAGE_BYTES.false,
    λ number page. elim (cases_lt number c.loop-number.number) [
      | inl before ↦ c.loop-number.invariant number before page
      | inr behind ↦ none_behind c.args.bytes.now number (omega arith) page
    ],
  ),
  λ _. refl,
)

pub is_copy-requires : goal.is_copy-requires
is_copy-requires c = copy_size c.args.bytes.now c.loop-number.number (omega (arith, c.loop-number-test.true))

pub of-requires : goal.of-requires
of-requires c = copy_size c.args.bytes.now c.loop-number.number (omega (arith, c.loop-number-test.true))

pub returns-then-is_copy-clause-no_copy : goal.returns-then-is_copy-clause-no_copy
returns-then-is_copy-clause-no_copy c = (λ e. absurd (let no : ⊥ = cc in no), λ h. absurd (h.1 c.loop-number.number (c.is_copy.ensures.0 c.if-is_copy.true)))

pub loop-number-preserved : goal.loop-number-preserved
loop-number-preserved c = none_here c.args.bytes.now c.loop-number.number c.loop-number.invariant (λ page. false≢true (sym c.if-is_copy.false ∙ c.is_copy.ensures.1 page))
