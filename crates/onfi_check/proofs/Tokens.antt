-- The tokens of one tree, with nothing after them.
use Rattle.std.proofs.Common.{◌≡◌, ℕ, List, [], ◌∷◌, sym, ◌∙◌, subst, append-nil}
use Rattle.onfi_problem.specs.Problem.{Problem}
use Rattle.onfi_cert.specs.declared.token.Token.{Token}
use Rattle.onfi_check.specs.Tree.{preorder, AcceptsTokens}
use Rattle.onfi_check.specs.Reading.{Begins}
use Rattle.onfi_check.proofs.Spelled.{one_tree}
use Rattle.onfi_check.proofs.OneList.{nothing_begins}

pub begins_with_all : (p : Problem) (e : ℕ) (tokens : List Token) → AcceptsTokens tokens p e → Begins p e tokens []
begins_with_all p e tokens (tree, t, a) = (tree, sym t ∙ sym (append-nil (preorder tree)), a)

pub none_accepted : (p : Problem) (e : ℕ) (tokens : List Token) → tokens ≡ [] → AcceptsTokens tokens p e → ⊥
none_accepted p e tokens n a = nothing_begins p e [] (subst (λ z. Begins p e z []) n (begins_with_all p e tokens a))

pub none_behind : (p : Problem) (e : ℕ) (tokens left more : List Token) (token : Token) → left ≡ token ∷ more → Begins p e tokens left → AcceptsTokens tokens p e → ⊥
none_behind p e tokens left more token n (tree, t, a) accepted =
    let (u, s, b) = begins_with_all p e tokens accepted in
    let same = one_tree tree u left [] (sym t ∙ s) in
    let q : token ∷ more ≡ [] = sym n ∙ same.1 in
    cc
