-- A die token closes a node by the bound of its LUN, a bus token by the bus bound, and a trail token by the trail bound.
use Rattle.std.proofs.Common.{◌≡◌, ℕ, ◌≤◌, ◌<◌, ◌↔◌, Bool, IsTrue, length, Some, sym, ap, ◌∙◌, subst}
use Rattle.onfi_problem.specs.Problem.{Problem}
use Rattle.onfi_bound.specs.Bounds.{bus, die, trail}
use Rattle.onfi_cert.specs.declared.token.Token.{Token}
use Rattle.onfi_cert.specs.declared.token.Token.TheVariants.{Bus, Die, Trail}
use Rattle.onfi_check.specs.Tree.{Closing, Closes, token_of, AtEnd, ByBus, ByLead, ByTrail, ByDie}

pub by_die : (p : Problem) (e : ℕ) (token : Token) (lun n : ℕ) (reached : Bool) → token ≡ Die lun → n ≡ lun → IsTrue reached ↔ ((n < length p.luns) × (e ≤ die p n)) → IsTrue reached ↔ ((c : Closing) × (token_of c ≡ token) × Closes p e c)
by_die p e token lun n reached t q h = ((λ r. (ByDie n, ap Die q ∙ sym t, h.0 r)), λ (c, k, b). h.1 (back c (k ∙ t) b))
  where
    back : (c : Closing) → token_of c ≡ Die lun → Closes p e c → (n < length p.luns) × (e ≤ die p n)
    back AtEnd k b = cc
    back ByBus k b = cc
    back ByLead k b = cc
    back ByTrail k b = cc
    back (ByDie l) k b = let s : l ≡ lun = cc in subst (λ z. (z < length p.luns) × (e ≤ die p z)) (s ∙ sym q) b

pub by_bus : (p : Problem) (e : ℕ) (token : Token) (reached : Bool) → token ≡ Bus → IsTrue reached ↔ (e ≤ bus p)
    → IsTrue reached ↔ ((c : Closing) × (token_of c ≡ token) × Closes p e c)
by_bus p e token reached t h = ((λ r. (ByBus, sym t, h.0 r)), λ (c, k, b). h.1 (back c (k ∙ t) b))
  where
    back : (c : Closing) → token_of c ≡ Bus → Closes p e c → e ≤ bus p
    back AtEnd k b = cc
    back ByBus k b = b
    back ByLead k b = cc
    back ByTrail k b = cc
    back (ByDie lun) k b = cc

pub by_trail : (p : Problem) (e : ℕ) (token : Token) (reached : Bool) → token ≡ Trail → IsTrue reached ↔ ((t : ℕ) × (trail p ≡ Some t) × (e ≤ t))
    → IsTrue reached ↔ ((c : Closing) × (token_of c ≡ token) × Closes p e c)
by_trail p e token reached t h = ((λ r. (ByTrail, sym t, h.0 r)), λ (c, k, b). h.1 (back c (k ∙ t) b))
  where
    back : (c : Closing) → token_of c ≡ Trail → Closes p e c → (t : ℕ) × (trail p ≡ Some t) × (e ≤ t)
    back AtEnd k b = cc
    back ByBus k b = cc
    back ByLead k b = cc
    back ByTrail k b = b
    back (ByDie lun) k b = cc
