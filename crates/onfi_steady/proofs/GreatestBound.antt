-- The greatest of bounds that are tried one after another.
use Rattle.std.proofs.Common.{◌≡◌, ℕ, ◌+◌, ◌<◌, ◌≤◌, inl, inr, List, [], ◌∷◌, ◌++◌, length, refl, sym, ap, ◌∙◌, subst, arith}
use Rattle.std.proofs.lemmas.Bool.{cases_eq, cases_lt, lt-ltb, le-ltb}
use Rattle.onfi_problem.specs.Problem.{Problem}
use Rattle.onfi_bound.specs.declared.bound.Bound.{Bound}
use Rattle.onfi_bound.specs.declared.bound.Bound.TheVariants.{Bus, Lead, Trail, Die}
use Rattle.onfi_bound.specs.declared.bound.BoundAt.{BoundAt}
use Rattle.onfi_bound.specs.Bounds.{bus, lead, die}
use Rattle.onfi_bound.specs.Reaching.{Reaches, ComesTo, place_of}
use Rattle.onfi_steady.specs.Below.{IsGreatestBefore, greater}

through : (a b c : ℕ) → a ≤ b → b ≤ c → a ≤ c
through a b c h k = omega arith

no_more : (a b : ℕ) → a ≡ b → a + 1 ≤ b → ⊥
no_more a b e h = omega arith

at_least : (a b : ℕ) → a ≡ b → a ≤ b
at_least a b e = omega arith

-- what reaches a number reaches each below it
reaches_less : (p : Problem) (b : Bound) (e f : ℕ) → e ≤ f → Reaches p f b → Reaches p e b
reaches_less p Bus e f h r = through e f (bus p) h r
reaches_less p Lead e f h r = through e f (lead p) h r
reaches_less p Trail e f h (t, q, k) = (t, q, through e f t h k)
reaches_less p (Die lun) e f h (there, k) = (there, through e f (die p lun) h k)

not_above : (p : Problem) (b : Bound) (at : ℕ) → ComesTo p at b → Reaches p (at + 1) b → ⊥
not_above p Bus at c r = no_more at (bus p) c r
not_above p Lead at c r = no_more at (lead p) c r
not_above p Trail at c (t, q, k) = let e : at ≡ t = cc in no_more at t e k
not_above p (Die lun) at c (there, k) = no_more at (die p lun) c k

one_at : (b c : Bound) → place_of b ≡ place_of c → b ≡ c
one_at Bus Bus e = refl
one_at Bus Lead e = absurd (omega arith)
one_at Bus Trail e = absurd (omega arith)
one_at Bus (Die m) e = absurd (omega arith)
one_at Lead Bus e = absurd (omega arith)
one_at Lead Lead e = refl
one_at Lead Trail e = absurd (omega arith)
one_at Lead (Die m) e = absurd (omega arith)
one_at Trail Bus e = absurd (omega arith)
one_at Trail Lead e = absurd (omega arith)
one_at Trail Trail e = refl
one_at Trail (Die m) e = absurd (omega arith)
one_at (Die l) Bus e = absurd (omega arith)
one_at (Die l) Lead e = absurd (omega arith)
one_at (Die l) Trail e = absurd (omega arith)
one_at (Die l) (Die m) e = let q : l ≡ m = omega arith in ap Die q

-- of those before a place, and the one at it
most_with : (p : Problem) (place most : ℕ) (bound : Bound) → place_of bound ≡ place → (Reaches p most bound → ⊥) → ((b : Bound) → place_of b < place → Reaches p most b → ⊥) → (b : Bound) → place_of b < place + 1 → Reaches p most b → ⊥
most_with p place most bound e own known b h r = elim (cases_eq (place_of b) place) [
  | inl q ↦ own (subst (Reaches p most) (one_at b bound (q ∙ sym e)) r)
  | inr d ↦ known b (omega arith) r
]

greater_than : (p : Problem) (place : ℕ) (g : BoundAt) (bound : Bound) (at : ℕ) → g.at < at → place_of bound ≡ place → ComesTo p at bound → Reaches p at bound → IsGreatestBefore p place g → IsGreatestBefore p (place + 1) (record { bound = bound; at = at })
greater_than p place g bound at h e comes reaches known = record {
  is_first = record {
    is_first = record { reaches = reaches; none_before = λ b k r. known.most b (omega arith) (reaches_less p b (g.at + 1) at (omega arith) r) };
    comes_to = comes;
  };
  most = most_with p place (at + 1) bound e (not_above p bound at comes) (λ b k r. known.most b k (reaches_less p b (g.at + 1) (at + 1) (omega arith) r));
}

not_greater : (p : Problem) (place : ℕ) (g : BoundAt) (bound : Bound) (at : ℕ) → at ≤ g.at → place_of bound ≡ place → ComesTo p at bound → IsGreatestBefore p place g → IsGreatestBefore p (place + 1) g
not_greater p place g bound at h e comes known = record {
  is_first = known.is_first;
  most = most_with p place (g.at + 1) bound e (λ r. not_above p bound at comes (reaches_less p bound (at + 1) (g.at + 1) (omega arith) r)) known.most;
}

-- one bound more
pub greater_more : (p : Problem) (place : ℕ) (g : BoundAt) (bound : Bound) (at : ℕ) → place_of bound ≡ place → ComesTo p at bound → Reaches p at bound → IsGreatestBefore p place g → IsGreatestBefore p (place + 1) (greater g bound at)
greater_more p place g bound at e comes reaches known = elim (cases_lt g.at at) [
  | inl h ↦ rw (lt-ltb g.at at h) (greater_than p place g bound at h e comes reaches known)
  | inr h ↦ rw (le-ltb g.at at h) (not_greater p place g bound at h e comes known)
]

pub die_more : (p : Problem) (g : BoundAt) (lun at : ℕ) → lun < length p.luns → at ≡ die p lun → IsGreatestBefore p (3 + lun) g → IsGreatestBefore p (3 + (lun + 1)) (greater g (Die lun) at)
die_more p g lun at there e known =
    let next : 3 + lun + 1 ≡ 3 + (lun + 1) = omega arith in
    subst (λ z. IsGreatestBefore p z (greater g (Die lun) at)) next (greater_more p (3 + lun) g (Die lun) at refl e (there, at_least at (die p lun) e) known)
