-- How a group grows by one want.
use Rattle.std.specs.Prelude.{◌≡◌, ◌≢◌, nat_lt, if◌then◌else◌, IsTrue, List, [], ◌∷◌, ◌++◌}
use Rattle.onfi_timing.specs.declared.operation.Operation.TheVariants.{Erase}
use Rattle.onfi_timing.specs.Kinds.{operation_of}
use Rattle.onfi_request.specs.declared.want.Want.{Want}
use Rattle.onfi_group.specs.declared.rules.Rules.{Rules}
use Rattle.onfi_group.specs.Group.{IsGroup, above_planes}

-- what a member shares with the first one
pub record GoesWith (rules : Rules) (first member : Want) : Type 0 where
  pub operation : operation_of member.kind ≡ operation_of first.kind
  pub lun : member.lun ≡ first.lun
  pub page : operation_of first.kind ≢ Erase → member.page ≡ first.page
  pub strict : IsTrue rules.strict → above_planes rules member ≡ above_planes rules first

-- the members and this want, at its plane
abbrev pub joined : Want → List Want → List Want
joined w [] = w ∷ []
joined w (m ∷ ms) = if nat_lt m.plane w.plane then m ∷ joined w ms else w ∷ m ∷ ms

-- each of the lists with the want put in, where that is a group, in their order
pub data AreJoined (rules : Rules) (w : Want) : List (List Want) → List (List Want) → Type 0 where
  none : AreJoined rules w [] []
  kept : (g : List Want) (gs more : List (List Want)) → IsGroup rules (joined w g) → AreJoined rules w gs more → AreJoined rules w (g ∷ gs) (joined w g ∷ more)
  left : (g : List Want) (gs more : List (List Want)) → (IsGroup rules (joined w g) → ⊥) → AreJoined rules w gs more → AreJoined rules w (g ∷ gs) more

-- after the old groups come the want alone, and what it makes with each of them
abbrev pub HasGrown : Rules → Want → List (List Want) → List (List Want) → Type 0
HasGrown rules w old new = (more : List (List Want)) × (new ≡ old ++ (w ∷ []) ∷ more) × AreJoined rules w old more
