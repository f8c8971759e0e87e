-- The lengths of what is left of a group of which the operation, the number of members and the sectors of the posts that are left
-- are known.
use Rattle.std.specs.Prelude.{ℕ, ◌-◌, ◌++◌, List, length, map, replicate, take}
use Rattle.onfi_timing.specs.declared.operation.Operation.{Operation}
use Rattle.onfi_timing.specs.declared.operation.Operation.TheVariants.{Read, Program, Erase}
use Rattle.onfi_timing.specs.declared.spans.Spans.{Spans}
use Rattle.onfi_timing.specs.declared.timing.Timing.{Timing}
use Rattle.onfi_timing.specs.Kinds.{operation_spans, sector_spans}
use Rattle.onfi_timing.specs.Phases.{Lengths, posts_from}
use Rattle.onfi_demand.specs.declared.group_lengths.GroupLengths.{GroupLengths}
use Rattle.onfi_demand.specs.Left.{LunLeft, Idle, Rest}

-- the post of an operation: that of a read is by the number of its sectors
abbrev pub post_of : Timing → Operation → ℕ → ℕ
post_of timing Read count = (sector_spans timing count).post
post_of timing Program count = timing.program.post
post_of timing Erase count = timing.erase.post

-- what members share is of these lengths, and the posts are these
abbrev pub with_posts : Spans → List ℕ → Lengths
with_posts spans posts = record { cmd = spans.cmd; gap = spans.gap; array = spans.array; posts = posts }

-- how many posts of k members are left from phase n on
abbrev pub posts_count : ℕ → ℕ → ℕ
posts_count k n = k - (n - k)

-- the posts of k members, of which the last put out that many sectors; those before them are over and count as 0
abbrev pub posts_left : Timing → Operation → ℕ → List ℕ → List ℕ
posts_left timing operation k sectors = replicate (k - length sectors) 0 ++ map (post_of timing operation) sectors

abbrev pub lengths_left : Timing → Operation → ℕ → List ℕ → Lengths
lengths_left timing operation k sectors = with_posts (operation_spans timing operation) (posts_left timing operation k sectors)

-- the posts that are left of what a LUN does
abbrev pub posts_rest : Timing → LunLeft → ℕ
posts_rest timing Idle = 0
posts_rest timing (Rest operation k sectors n) = posts_from (lengths_left timing operation k sectors) k n

-- the lengths that a program keeps
abbrev pub lengths_of : GroupLengths → Lengths
lengths_of kept = with_posts kept.shared (take kept.members kept.posts)
