-- The phase that a group has next, as it is looked up.
use mathlib.Core.Bool.{beq}
use Rattle.std.proofs.Common.{◌≡◌, ℕ, zero, suc, ◌*◌, ◌-◌, ◌%◌, ◌<◌, ◌≤◌, Bool, true, false, List, [], ◌∷◌, length, get_or, Some, refl, sym, ap, ◌∙◌, arith}
use Rattle.std.specs.Prelude.{not, slice_get}
use Rattle.std.proofs.Math.Nat.{mod-lt}
use Rattle.onfi_addr.specs.Rows.{plane_at}
use Rattle.std.proofs.lemmas.Bool.{lt-ltb, le-ltb}
use Rattle.onfi_request.specs.declared.want.Want.{Want}
use Rattle.onfi_audit.specs.declared.line.Line.{Line}
use Rattle.onfi_audit.specs.Audit.{IsPhaseOf, Names}

pub found_at : {A : Type 0} (xs : List A) (i : ℕ) (x d : A) → i < length xs → x ≡ get_or xs i d → slice_get xs i ≡ Some x
found_at [] i x d h e = absurd (omega arith)
found_at (y ∷ xs) zero x d h e = ap Some (sym e)
found_at (y ∷ xs) (suc i) x d h e = found_at xs i x d (omega arith) e

same_bool : (b p : Bool) → not (beq b p) ≡ false → p ≡ b
same_bool true true h = refl
same_bool true false h = sym h
same_bool false true h = h
same_bool false false h = refl

-- a line that was found to be that phase
pub record IsFound (line : Line) (group : List Want) (phase : ℕ) : Type 0 where
  pub is : IsPhaseOf line group phase
  pub within : phase < 2 * length group

module _ (line : Line) (group : List Want) (phase at : ℕ) (m : Want) (b : Bool) (low : at < length group) (elem : m ≡ get_or group at m) (named : Names line m) (same : not (beq b line.is_post) ≡ false) where
  pub post_found : length group ≤ phase → at ≡ phase - length group → b ≡ true → IsFound line group phase
  post_found late e is_true =
      let no = le-ltb phase (length group) late in
      record {
        is = record { member = m; there = rw no (ap (slice_get group) (sym e) ∙ found_at group at m m low elem); named = named; part = rw no (same_bool b line.is_post same ∙ is_true) };
        within = omega arith;
      }

  pub command_found : phase < length group → at ≡ phase → b ≡ false → IsFound line group phase
  command_found soon e is_false =
      let yes = lt-ltb phase (length group) soon in
      record {
        is = record { member = m; there = rw yes (ap (slice_get group) (sym e) ∙ found_at group at m m low elem); named = named; part = rw yes (same_bool b line.is_post same ∙ is_false) };
        within = omega arith;
      }

-- a plane of at most two bits
pub few_planes : (bits block : ℕ) → bits ≤ 2 → plane_at bits block ≤ 3
few_planes zero block h = let m : block % 1 < 1 = mod-lt block (omega arith) in omega (arith, m)
few_planes (suc zero) block h = let m : block % 2 < 2 = mod-lt block (omega arith) in omega (arith, m)
few_planes (suc (suc zero)) block h = let m : block % 4 < 4 = mod-lt block (omega arith) in omega (arith, m)
few_planes (suc (suc (suc n))) block h = absurd (omega arith)
