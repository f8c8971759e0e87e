-- What pieces make that are appended to a text one by one.
use Rattle.std.proofs.Common.{◌≡◌, ◌∙◌, ap, ℕ, List, ◌++◌, append_assoc}
use Rattle.std.specs.Prelude.{Result, OnOk}
use Rattle.std.proofs.lemmas.Result.{on_ok_weaker}
use Rattle.onfi_console.specs.Described.{line}

-- a piece after another
pub behind : (text first both a b : List ℕ) → first ≡ text ++ a → both ≡ first ++ b → both ≡ text ++ (a ++ b)
behind text first both a b is more = more ∙ ap (λ t. t ++ b) is ∙ append_assoc text a b

-- .. where the second was put
pub put_behind : {T E : Type 0} (r : Result T E) (text first both a b : List ℕ) → first ≡ text ++ a → OnOk r (both ≡ first ++ b) → OnOk r (both ≡ text ++ (a ++ b))
put_behind r text first both a b is = on_ok_weaker r (λ more. behind text first both a b is more)

-- two lines whose numbers are these
pub two_lines : {T E : Type 0} (r : Result T E) (text first both one other : List ℕ) (n m k l : ℕ) → n ≡ k → m ≡ l → first ≡ text ++ line one n
    → OnOk r (both ≡ first ++ line other m) → OnOk r (both ≡ text ++ (line one k ++ line other l))
two_lines r text first both one other n m k l at_one at_other is = on_ok_weaker r (λ more.
    behind text first both (line one k) (line other l) (is ∙ ap (λ x. text ++ line one x) at_one) (more ∙ ap (λ x. first ++ line other x) at_other))
