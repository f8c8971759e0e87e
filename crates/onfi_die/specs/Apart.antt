-- Requests on different blocks.
use Rattle.std.specs.Prelude.{◌≡◌, ◌≢◌, ℕ, ◌⊎◌, List, [], ◌∷◌, map}
use Rattle.std.specs.List.{filter}
use Rattle.onfi_request.specs.Words.{Pairs}
use Rattle.onfi_request.specs.declared.answer.Answer.{Answer}
use Rattle.onfi_request.specs.declared.request.Request.{Request}
use Rattle.onfi_die.specs.Shapes.{Device}
use Rattle.onfi_die.specs.Contents.{runs, answer_of}
use Rattle.onfi_die.specs.Blocks.{Blocks, is_on, block_of, changed, happen, answers}

-- the requests name different blocks
abbrev pub OnOthers : Request → Request → Type 0
OnOthers a b = (a.place.lun ≢ b.place.lun) ⊎ (a.place.block ≢ b.place.block)

-- in either order the blocks and the answers are the same
pub record ChangePlaces (device : Device) (a b : Request) (blocks : Blocks) : Type 0 where
  pub contents : (lun block : ℕ) → happen device (a ∷ b ∷ []) blocks lun block ≡ happen device (b ∷ a ∷ []) blocks lun block
  pub first : answer_of device a (block_of a (changed device b blocks)) ≡ answer_of device a (block_of a blocks)
  pub second : answer_of device b (block_of b (changed device a blocks)) ≡ answer_of device b (block_of b blocks)

-- the answer of a request as the blocks stand
abbrev pub answer_now : Device → Blocks → Request → Answer
answer_now device blocks r = answer_of device r (block_of r blocks)

pub record AreApart : Type 0 where
  -- two requests on different blocks change places without changing contents or answers
  pub two : (device : Device) (a b : Request) (blocks : Blocks) → OnOthers a b → ChangePlaces device a b blocks
  -- each block sees its own requests alone
  pub own : (device : Device) (rs : List Request) (blocks : Blocks) (lun block : ℕ) → happen device rs blocks lun block ≡ runs device (filter (is_on lun block) rs) (blocks lun block)
  -- requests on different blocks get the answers that each gets alone
  pub alone : (device : Device) (rs : List Request) (blocks : Blocks) → Pairs OnOthers rs → answers device rs blocks ≡ map (answer_now device blocks) rs
