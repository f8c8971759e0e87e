-- A list of tokens begins with at most one tree.
use Rattle.std.proofs.Common.{◌≡◌, ℕ, List, ◌∷◌, ◌++◌, Option, Some, None, refl, sym, ap, ◌∙◌, arith, append_assoc}
use Rattle.onfi_cert.specs.declared.token.Token.{Token}
use Rattle.onfi_cert.specs.declared.token.Token.TheVariants.{Branch, Bus, Lead, Trail, Die, Yield, End}
use Rattle.onfi_check.specs.Tree.{Tree, Forest, Closing, token_of, preorder, preorders, width, Closed, Opened, NoMore, Child, Yields, AtEnd, ByBus, ByLead, ByTrail, ByDie}

-- what a token closes a node by
closing_of : Token → Option Closing
closing_of End = Some AtEnd
closing_of Bus = Some ByBus
closing_of Lead = Some ByLead
closing_of Trail = Some ByTrail
closing_of (Die lun) = Some (ByDie lun)
closing_of (Branch n) = None
closing_of (Yield lun) = None

closing_back : (c : Closing) → closing_of (token_of c) ≡ Some c
unfolding closing_of
closing_back AtEnd = refl
closing_back ByBus = refl
closing_back ByLead = refl
closing_back ByTrail = refl
closing_back (ByDie lun) = refl

not_branch : (c : Closing) (n : ℕ) → token_of c ≡ Branch n → ⊥
unfolding closing_of
not_branch c n e = let a = closing_back c in let b : closing_of (token_of c) ≡ None = ap closing_of e in cc

pub not_yield : (t : Tree) (lun : ℕ) (s s' : List Token) → preorder t ++ s ≡ Yield lun ∷ s' → ⊥
unfolding closing_of
not_yield (Closed c) lun s s' e = let h : token_of c ≡ Yield lun = cc in let a = closing_back c in let b : closing_of (token_of c) ≡ None = ap closing_of h in cc
not_yield (Opened f) lun s s' e = cc

mutual
  pub one_tree : (t u : Tree) (s s' : List Token) → preorder t ++ s ≡ preorder u ++ s' → (t ≡ u) × (s ≡ s')
  one_tree (Closed c) (Closed d) s s' e =
      let h : token_of c ≡ token_of d = cc in
      let k = sym (closing_back c) ∙ (ap closing_of h ∙ closing_back d) in
      let q : c ≡ d = cc in
      (ap Closed q, cc)
  one_tree (Closed c) (Opened g) s s' e = let h : token_of c ≡ Branch (width g) = cc in absurd (not_branch c (width g) h)
  one_tree (Opened f) (Closed d) s s' e = let h : Branch (width f) ≡ token_of d = cc in absurd (not_branch d (width f) (sym h))
  one_tree (Opened f) (Opened g) s s' e =
      let h : width f ≡ width g = cc in
      let k : preorders f ++ s ≡ preorders g ++ s' = cc in
      let r = one_forest f g s s' h k in
      (ap Opened r.0, r.1)

  one_forest : (f g : Forest) (s s' : List Token) → width f ≡ width g → preorders f ++ s ≡ preorders g ++ s' → (f ≡ g) × (s ≡ s')
  one_forest NoMore NoMore s s' w e = (refl, e)
  one_forest NoMore (Child u g) s s' w e = absurd (omega arith)
  one_forest NoMore (Yields l g) s s' w e = absurd (omega arith)
  one_forest (Child t f) NoMore s s' w e = absurd (omega arith)
  one_forest (Yields l f) NoMore s s' w e = absurd (omega arith)
  one_forest (Child t f) (Child u g) s s' w e =
      let e' : preorder t ++ (preorders f ++ s) ≡ preorder u ++ (preorders g ++ s') = sym (append_assoc (preorder t) (preorders f) s) ∙ (e ∙ append_assoc (preorder u) (preorders g) s') in
      let a = one_tree t u (preorders f ++ s) (preorders g ++ s') e' in
      let b = one_forest f g s s' (omega arith) a.1 in
      let a0 = a.0 in let b0 = b.0 in
      (cc, b.1)
  one_forest (Child t f) (Yields l g) s s' w e = absurd (not_yield t l (preorders f ++ s) (preorders g ++ s') (sym (append_assoc (preorder t) (preorders f) s) ∙ e))
  one_forest (Yields l f) (Child u g) s s' w e = absurd (not_yield u l (preorders g ++ s') (preorders f ++ s) (sym (append_assoc (preorder u) (preorders g) s') ∙ sym e))
  one_forest (Yields l f) (Yields m g) s s' w e =
      let k : preorders f ++ s ≡ preorders g ++ s' = cc in
      let h : l ≡ m = cc in
      let b = one_forest f g s s' (omega arith) k in
      let b0 = b.0 in
      (cc, b.1)
