-- The blocks of a device by LUN and number, and what requests do to them.
use Rattle.std.specs.Prelude.{ℕ, ◌==◌, Bool, false, if◌then◌else◌, List, [], ◌∷◌}
use Rattle.onfi_request.specs.declared.answer.Answer.{Answer}
use Rattle.onfi_request.specs.declared.request.Request.{Request}
use Rattle.onfi_die.specs.Shapes.{Device}
use Rattle.onfi_die.specs.Contents.{Contents, fresh, contents_after, answer_of}

-- by LUN and number
abbrev pub Blocks : Type 0
Blocks = ℕ → ℕ → Contents

abbrev pub fresh_blocks : Device → Blocks
fresh_blocks device lun block = fresh device

-- the request names the block
abbrev pub is_on : ℕ → ℕ → Request → Bool
is_on lun block r = if r.place.lun == lun then r.place.block == block else false

abbrev pub block_of : Request → Blocks → Contents
block_of r blocks = blocks r.place.lun r.place.block

-- the request changes its block alone
abbrev pub changed : Device → Request → Blocks → Blocks
changed device r blocks lun block = if is_on lun block r then contents_after device r (blocks lun block) else blocks lun block

-- the requests, one after another
abbrev pub happen : Device → List Request → Blocks → Blocks
happen device [] blocks = blocks
happen device (r ∷ rs) blocks = happen device rs (changed device r blocks)

-- their answers
abbrev pub answers : Device → List Request → Blocks → List Answer
answers device [] blocks = []
answers device (r ∷ rs) blocks = answer_of device r (block_of r blocks) ∷ answers device rs (changed device r blocks)
