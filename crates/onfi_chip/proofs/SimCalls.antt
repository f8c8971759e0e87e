-- The calls of a simulated chip.
use Rattle.std.proofs.Common.{◌≡◌, ◌≢◌, ℕ, ◌+◌, ◌<◌, true, false, List, ◌∷◌, Result, Ok, Err, OnOk, OnErr, refl, sym, ap, subst, ◌∙◌, arith}
use Rattle.std.specs.Prelude.{Some, slice_get, slice_set}
use Rattle.std.specs.Result.{is_err}
use Rattle.onfi_addr.specs.declared.geometry.Geometry.{Geometry}
use Rattle.onfi_addr.specs.declared.place.Place.{Place}
use Rattle.onfi_addr.specs.Rows.{IsInRange}
use Rattle.onfi_timing.specs.declared.kind.Kind.{Kind}
use Rattle.onfi_timing.specs.declared.kind.Kind.TheVariants as kind
use Rattle.onfi_timing.specs.declared.operation.Operation.TheVariants as operation
use Rattle.onfi_timing.specs.Kinds.{operation_of, spans_of}
use Rattle.onfi_request.specs.declared.answer.Answer.{Answer}
use Rattle.onfi_request.specs.declared.answer.Answer.TheVariants.{Read, Done, Failed}
use Rattle.onfi_request.specs.declared.request.Request.{Request}
use Rattle.onfi_request.specs.Range.{Fits, IsPageFor}
use Rattle.onfi_die.specs.declared.shape.Shape.{Shape}
use Rattle.onfi_die.specs.Prepared.{IsAnswerTo}
use Rattle.onfi_chip.specs.declared.closer.Closer.{Closer}
use Rattle.onfi_chip.specs.declared.closer.Closer.TheVariants.{More, Last}
use Rattle.onfi_chip.specs.declared.post.Post.{Post}
use Rattle.onfi_chip.specs.declared.sim.SimChip.{SimChip}
use Rattle.onfi_chip.specs.Chip.{Chip, Failures, after_post, posted}
use Rattle.onfi_chip.specs.Chip.Lun.{Posting}
use Rattle.onfi_chip.specs.Calls.{AreNoFewer, command_of, HasDone, IsNextPost, IsStatus}
use Rattle.onfi_chip.specs.Sim.{chip_of}
use Rattle.onfi_chip.specs.SimChip.{chip_in, failures_of}

pub if_ok : {A E P : Type 0} (r : Result A E) → is_err r ≡ false → OnOk r P → P
if_ok (Ok x) e p = p
if_ok (Err x) e p = cc

pub if_err : {A E P : Type 0} (r : Result A E) → is_err r ≡ true → OnErr r P → P
if_err (Ok x) e p = cc
if_err (Err x) e p = p

page_in : (g : Geometry) (k : Kind) (page : ℕ) → IsPageFor g k page → page < g.pages_per_block
page_in g kind.Read page h = h
page_in g (kind.ReadSectors first count) page h = h
page_in g kind.Program page h = h
page_in g kind.Erase page h = let some = g.some_page in omega (arith, h, some)

pub in_range : (g : Geometry) (r : Request) → Fits g r → IsInRange g r.place
in_range g r h = record { lun_there = h.lun; block_there = h.block; page_there = page_in g r.kind r.place.page h.page }

pub request_is : (r : Request) (k : Kind) (p : Place) (bytes : List ℕ) → r.kind ≡ k → p ≡ r.place → r.bytes ≡ bytes → record { kind = k; place = p; bytes = bytes } ≡ r
request_is r k p bytes ek ep eb =
    ap (λ (q : Kind). record { kind = q; place = p; bytes = bytes }) (sym ek)
    ∙ ap (λ (q : Place). record { kind = r.kind; place = q; bytes = bytes }) ep
    ∙ ap (λ (q : List ℕ). record { kind = r.kind; place = r.place; bytes = q }) (sym eb)

-- no call more that failed, of either sort
pub as_many : (old new : SimChip) → (failures_of new).bus ≡ (failures_of old).bus → (failures_of new).unready ≡ (failures_of old).unready → failures_of new ≡ failures_of old
as_many old new b u = rw (b, u) refl

no_fewer : (f : Failures) → AreNoFewer f f
no_fewer f = record { bus = omega arith; unready = omega arith }

-- what the dies did, the chip did
pub has_done : (old new : SimChip) (base after : Chip) → chip_of new.dies ≡ base → after ≡ record base { failures = failures_of old } → failures_of new ≡ failures_of old → HasDone after (chip_in new)
has_done old new base after e a n =
    subst (λ (y : Chip). HasDone y (chip_in new)) (sym a)
    record {
      state = ap (λ (c : Chip). record c { failures = failures_of new }) e;
      count = subst (AreNoFewer (failures_of old)) (sym n) (no_fewer (failures_of old));
    }

pub by_closer : (closer : Closer) (c : Chip) (n : Failures) (r : Request) (now : ℕ) → command_of closer (record c { failures = n }) r now ≡ record (command_of closer c r now) { failures = n }
by_closer More c n r now = refl
by_closer Last c n r now = refl

-- the LUN of the place is that of the post
pub posts_there : (sim : SimChip) (now row : ℕ) (post : Post) (left : List Post) (place : Place) → place ≡ post.place → (h : IsNextPost (chip_in sim) now row post left) → slice_get sim.dies.luns place.lun ≡ Some (Posting (post ∷ left) h.ready)
posts_there sim now row post left place e h = subst (λ (q : Place). slice_get sim.dies.luns q.lun ≡ Some (Posting (post ∷ left) h.ready)) (sym e) h.there

pub post_done : (old new : SimChip) (now : ℕ) (post : Post) (left : List Post) (place : Place) → place ≡ post.place →
    chip_of new.dies ≡ record (chip_of old.dies) { luns = slice_set old.dies.luns place.lun (after_post left (now + (spans_of old.dies.timing post.kind).post)) } →
    failures_of new ≡ failures_of old → HasDone (posted (chip_in old) post left now) (chip_in new)
post_done old new now post left place p e n =
    let to : Chip = record (chip_of old.dies) { luns = slice_set old.dies.luns post.place.lun (after_post left (now + (spans_of old.dies.timing post.kind).post)) } in
    has_done old new to (posted (chip_in old) post left now)
    (e ∙ ap (λ (q : Place). record (chip_of old.dies) { luns = slice_set old.dies.luns q.lun (after_post left (now + (spans_of old.dies.timing post.kind).post)) }) p)
    refl n

pub is_read : (shape : Shape) (k : Kind) (answer : Answer) → operation_of k ≡ operation.Read → IsAnswerTo shape k answer → ((content : List ℕ) → answer ≡ Read content → ⊥) → ⊥
is_read shape k (Read content) e h n = n content refl
is_read shape kind.Read Done e h n = h
is_read shape kind.Read Failed e h n = h
is_read shape (kind.ReadSectors first count) Done e h n = h
is_read shape (kind.ReadSectors first count) Failed e h n = h
is_read shape kind.Program Done e h n = absurd cc
is_read shape kind.Program Failed e h n = absurd cc
is_read shape kind.Erase Done e h n = absurd cc
is_read shape kind.Erase Failed e h n = absurd cc

pub is_status : (shape : Shape) (k : Kind) (answer : Answer) → operation_of k ≢ operation.Read → IsAnswerTo shape k answer → IsStatus answer
is_status shape kind.Read answer n h = absurd (n refl)
is_status shape (kind.ReadSectors first count) answer n h = absurd (n refl)
is_status shape kind.Program (Read content) n h = h
is_status shape kind.Program Done n h = tt
is_status shape kind.Program Failed n h = tt
is_status shape kind.Erase (Read content) n h = h
is_status shape kind.Erase Done n h = tt
is_status shape kind.Erase Failed n h = tt
