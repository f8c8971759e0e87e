-- The answers of a group whose members are on different blocks.
use Rattle.std.specs.Prelude.{◌≡◌, List, map}
use Rattle.onfi_request.specs.declared.request.Request.{Request}
use Rattle.onfi_request.specs.Words.{Pairs}
use Rattle.onfi_die.specs.Shapes.{Device}
use Rattle.onfi_die.specs.Blocks.{Blocks}
use Rattle.onfi_die.specs.Apart.{OnOthers, answer_now}
use Rattle.onfi_chip.specs.declared.post.Post.{Post}
use Rattle.onfi_chip.specs.Chip.{posts_of}

-- the post of a request that happens as the blocks stand
abbrev pub post_now : Device → Blocks → Request → Post
post_now device blocks r = record { kind = r.kind; place = r.place; answer = answer_now device blocks r }

-- each member of the group has the answer that it has alone
abbrev pub PostsAreAlone : Type 0
PostsAreAlone = (device : Device) (rs : List Request) (blocks : Blocks) → Pairs OnOthers rs → posts_of device rs blocks ≡ map (post_now device blocks) rs
