-- An operation with all the memory that it needs.
use Rattle.std.specs.Prelude.{◌≡◌, ℕ, List, [], length}
use Rattle.onfi_timing.specs.declared.kind.Kind.{Kind}
use Rattle.onfi_timing.specs.declared.kind.Kind.TheVariants as kind
use Rattle.onfi_request.specs.declared.answer.Answer.{Answer}
use Rattle.onfi_request.specs.declared.answer.Answer.TheVariants as answer
use Rattle.onfi_die.specs.Block.{length_out}
use Rattle.onfi_die.specs.declared.prepared.Prepared.{Prepared}
use Rattle.onfi_die.specs.declared.prepared.Prepared.TheVariants.{Read, Program, Erase, ReadSectors}
use Rattle.onfi_die.specs.declared.shape.Shape.{Shape}

abbrev pub kind_of : Prepared → Kind
kind_of (Read room) = kind.Read
kind_of (ReadSectors first count room) = kind.ReadSectors first count
kind_of (Program content) = kind.Program
kind_of Erase = kind.Erase

-- what a program writes; the others bring nothing
abbrev pub data_of : Prepared → List ℕ
data_of (Read room) = []
data_of (ReadSectors first count room) = []
data_of (Program content) = content
data_of Erase = []

-- a read has room for the bytes of a page, and a program brings as many
abbrev pub HasRoom : ℕ → Prepared → Type 0
HasRoom bytes (Read room) = length room.items ≡ bytes
HasRoom bytes (ReadSectors first count room) = length room.items ≡ bytes
HasRoom bytes (Program content) = length content ≡ bytes
HasRoom bytes Erase = Unit {0}

-- a read gives as many bytes as it puts out, the others say whether they succeeded
abbrev pub IsAnswerTo : Shape → Kind → Answer → Type 0
IsAnswerTo shape kind.Read (answer.Read content) = length content ≡ shape.bytes
IsAnswerTo shape kind.Read answer.Done = ⊥
IsAnswerTo shape kind.Read answer.Failed = ⊥
IsAnswerTo shape (kind.ReadSectors first count) (answer.Read content) = length content ≡ length_out shape (kind.ReadSectors first count)
IsAnswerTo shape (kind.ReadSectors first count) answer.Done = ⊥
IsAnswerTo shape (kind.ReadSectors first count) answer.Failed = ⊥
IsAnswerTo shape kind.Program (answer.Read content) = ⊥
IsAnswerTo shape kind.Program answer.Done = Unit {0}
IsAnswerTo shape kind.Program answer.Failed = Unit {0}
IsAnswerTo shape kind.Erase (answer.Read content) = ⊥
IsAnswerTo shape kind.Erase answer.Done = Unit {0}
IsAnswerTo shape kind.Erase answer.Failed = Unit {0}
