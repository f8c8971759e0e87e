-- A command that is made step by step.
use Rattle.std.proofs.Common.{◌≡◌, Bool, ◌||◌, false, ap, ◌∙◌}
use Rattle.clap.specs.Words.{App, Rule, Shape, with_rule, with_subcommand}

pub one_more : (x y z : App) (r s : Rule) → z ≡ with_rule x r → x ≡ y → r ≡ s → z ≡ with_rule y s
one_more x y z r s h e f = h ∙ ap (λ a. with_rule a r) e ∙ ap (λ r. with_rule y r) f

pub still_none : (x y z : Bool) → x ≡ (y || z) → y ≡ false → z ≡ false → x ≡ false
still_none x y z h e f = h ∙ ap (λ b. b || z) e ∙ f

pub one_below : (x y z : App) (s t : Shape) → z ≡ with_subcommand x s → x ≡ y → s ≡ t → z ≡ with_subcommand y t
one_below x y z s t h e f = h ∙ ap (λ a. with_subcommand a s) e ∙ ap (λ s. with_subcommand y s) f
