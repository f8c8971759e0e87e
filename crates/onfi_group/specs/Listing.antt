-- Which groups a list of wants gives on a LUN, listed in the order of their places.
use Rattle.std.specs.Prelude.{◌≡◌, ℕ, ◌+◌, ◌^◌, ◌<◌, if◌then◌else◌, List, [], ◌∷◌}
use Rattle.std.specs.List.{AllByRecursion as Each}
use Rattle.onfi_request.specs.declared.want.Want.{Want}
use Rattle.onfi_group.specs.declared.rules.Rules.{Rules}
use Rattle.onfi_group.specs.Words.{Has, Pairs, total}
use Rattle.onfi_group.specs.Group.{IsGroup, IsStartable, lun_of, on_block, mask_of}

-- a group of the LUN, of wants of the list, whatever stands before them on their blocks
pub record IsCandidate (rules : Rules) (wants : List Want) (at : ℕ) (members : List Want) : Type 0 where
  pub group : IsGroup rules members
  pub lun : lun_of members ≡ at
  pub listed : Each (Has wants) members

-- in rising bit mask of the members' places, which ids give
abbrev pub MasksRise : List Want → List (List Want) → Type 0
MasksRise wants groups = Pairs (λ a b. mask_of wants a < mask_of wants b) groups

-- all candidates, and no other group, in rising bit mask of their places; so each stands there once
pub record AreCandidates (rules : Rules) (wants : List Want) (lun : ℕ) (groups : List (List Want)) : Type 0 where
  pub only : Each (IsCandidate rules wants lun) groups
  pub each : (members : List Want) → IsCandidate rules wants lun members → Has groups members
  pub order : MasksRise wants groups

-- the place of the first want on that want's block
abbrev pub first_place : List Want → Want → ℕ
first_place [] m = 0
first_place (w ∷ wants) m = if on_block m w then 0 else 1 + first_place wants m

-- the places of the first wants on the members' blocks, as bits
abbrev pub first_mask : List Want → List Want → ℕ
first_mask wants members = total (λ m. 2 ^ first_place wants m) members

-- all groups that may be started on the LUN, and no other, in rising bit mask of their places; so each stands there once
-- (each member is the first want on its block, so the block gives its place, whatever the ids)
pub record AreStartable (rules : Rules) (wants : List Want) (lun : ℕ) (groups : List (List Want)) : Type 0 where
  pub only : Each (λ members. IsStartable rules wants members × (lun_of members ≡ lun)) groups
  pub each : (members : List Want) → IsStartable rules wants members → lun_of members ≡ lun → Has groups members
  pub order : Pairs (λ a b. first_mask wants a < first_mask wants b) groups
