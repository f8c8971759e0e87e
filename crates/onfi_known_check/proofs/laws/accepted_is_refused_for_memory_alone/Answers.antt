use Rattle.onfi_known_check.proofs.Refused.{memory_alone, memory_alone_of_text}
use Rattle.onfi_known_check.proofs.laws.accepted_is_refused_for_memory_alone.Goals as goal

pub returns-clause-tokens : goal.returns-clause-tokens
returns-clause-tokens c = memory_alone

pub returns-clause-text : goal.returns-clause-text
returns-clause-text c = memory_alone_of_text
