-- The moves of a LUN on the chip.
use Rattle.std.proofs.Common.{◌≡◌, ℕ, suc, ◌+◌, List, [], ◌∷◌, ◌++◌, length, true, Option, Some, refl, sym, ap, subst, ◌∙◌, arith, length-append}
use Rattle.std.specs.Prelude.{slice_get}
use Rattle.onfi_addr.specs.declared.geometry.Geometry.{Geometry}
use Rattle.onfi_addr.specs.declared.place.Place.{Place}
use Rattle.onfi_addr.specs.Rows.{IsInRange, row_of}
use Rattle.onfi_timing.specs.declared.kind.Kind.{Kind}
use Rattle.onfi_timing.specs.declared.spans.Spans.{Spans}
use Rattle.onfi_timing.specs.declared.timing.Timing.{Timing}
use Rattle.onfi_timing.specs.Kinds.{spans_of}
use Rattle.onfi_request.specs.declared.request.Request.{Request}
use Rattle.onfi_request.specs.Parts.{has_part}
use Rattle.onfi_die.specs.Shapes.{Device}
use Rattle.onfi_die.specs.Blocks.{Blocks, changed}
use Rattle.onfi_problem.proofs.Places.{get_set_same, get_set_other}
use Rattle.onfi_chip.specs.declared.closer.Closer.{Closer}
use Rattle.onfi_chip.specs.declared.closer.Closer.TheVariants as closer
use Rattle.onfi_chip.specs.declared.post.Post.{Post}
use Rattle.onfi_chip.specs.Chip.{Chip, Lun, device_in, taken, posts_of, group_with, spans_for, after_post, posted}
use Rattle.onfi_chip.specs.Chip.Lun.{Commanding, Posting}
use Rattle.onfi_chip.specs.Hold.{hold}
use Rattle.onfi_chip.specs.Calls.{command_of, HasDone, IsNextPost}
use Rattle.onfi_chip.specs.declared.fetch.Fetch.{Fetch}
use Rattle.onfi_lun.specs.declared.states.Posting.{Posting as InPosts}
use Rattle.onfi_lun.specs.declared.lun.Lun.{Lun as Typed}
use Rattle.onfi_lun.specs.declared.lun.Commanded.{Commanded}
use Rattle.onfi_lun.specs.declared.lun.Commanded.TheVariants as commanded
use Rattle.onfi_lun.specs.declared.lun.Posted.{Posted}
use Rattle.onfi_lun.specs.declared.lun.Posted.TheVariants as behind
use Rattle.onfi_lun.specs.declared.target.Target.{Target}
use Rattle.onfi_lun.specs.Phases.{IsOf, IsCommanded, IsMade, IsPosted, IsBehind, IsDue, OthersStay}

length_posts : (device : Device) (rs : List Request) (blocks : Blocks) → length (posts_of device rs blocks) ≡ length rs
length_posts device [] blocks = refl
length_posts device (r ∷ rs) blocks = ap suc (length_posts device rs (changed device r blocks))

-- Commands

-- the LUN took these commands, and its state before is no matter otherwise
pub command_made :
    (c : Closer) (target : Target) (old new : Chip) (r : Request) (now number commands ready : ℕ) (y : Lun) (made : Commanded) → IsOf target old → HasDone (command_of c old r now) new → r.place.lun ≡ number → slice_get old.luns number ≡ Some y →
    commands ≡ length (taken (Some y)) + 1 → ready ≡ now + hold c (spans_of target.timing r.kind) → IsMade c number commands ready made → IsCommanded c new number made
command_made closer.More target old new r now number commands ready y (commanded.Last lun) of done at there count time made = made
command_made closer.Last target old new r now number commands ready y (commanded.More lun) of done at there count time made = made
command_made closer.More target old new r now number commands ready y (commanded.More lun) of done at there count time made =
    let there' : slice_get old.luns r.place.lun ≡ Some y = subst (λ n. slice_get old.luns n ≡ Some y) (sym at) there in
    let group : List Request = group_with old r in
    let spans : spans_for old r ≡ spans_of target.timing r.kind = ap (λ (t : Timing). spans_of t r.kind) of.timing in
    let until : now + (spans_for old r).cmd + (spans_for old r).gap ≡ lun.state.ready = ap (λ (s : Spans). now + s.cmd + s.gap) spans ∙ omega (arith, time, made.2) in
    let set : slice_get new.luns r.place.lun ≡ Some (Commanding group (now + (spans_for old r).cmd + (spans_for old r).gap)) =
    ap (λ (x : Chip). slice_get x.luns r.place.lun) done.state ∙ get_set_same old.luns r.place.lun y _ there' in
    let size : length group ≡ length (taken (Some y)) + 1 = ap (λ o. length (taken o ++ r ∷ [])) there' ∙ length-append (taken (Some y)) (r ∷ []) in (
      made.0,
      (
        group,
        record {
          there = subst (λ n. slice_get new.luns n ≡ Some (Commanding group lun.state.ready)) (at ∙ sym made.0) (set ∙ ap (λ t. Some (Commanding group t)) until);
          count = made.1 ∙ count ∙ sym size;
        },
      ),
    )
command_made closer.Last target old new r now number commands ready y (commanded.Last lun) of done at there count time made =
    let there' : slice_get old.luns r.place.lun ≡ Some y = subst (λ n. slice_get old.luns n ≡ Some y) (sym at) there in
    let posts : List Post = posts_of (device_in old) (group_with old r) old.blocks in
    let spans : spans_for old r ≡ spans_of target.timing r.kind = ap (λ (t : Timing). spans_of t r.kind) of.timing in
    let until : now + (spans_for old r).cmd + (spans_for old r).array ≡ lun.state.ready = ap (λ (s : Spans). now + s.cmd + s.array) spans ∙ omega (arith, time, made.2) in
    let set : slice_get new.luns r.place.lun ≡ Some (Posting posts (now + (spans_for old r).cmd + (spans_for old r).array)) =
    ap (λ (x : Chip). slice_get x.luns r.place.lun) done.state ∙ get_set_same old.luns r.place.lun y _ there' in
    let size : length posts ≡ length (taken (Some y)) + 1 = length_posts (device_in old) (group_with old r) old.blocks ∙ ap (λ o. length (taken o ++ r ∷ [])) there' ∙ length-append (taken (Some y)) (r ∷ []) in (
      made.0,
      (
        posts,
        record {
          there = subst (λ n. slice_get new.luns n ≡ Some (Posting posts lun.state.ready)) (at ∙ sym made.0) (set ∙ ap (λ t. Some (Posting posts t)) until);
          count = made.1 ∙ count ∙ sym size;
        },
      ),
    )

-- Posts

-- the due post is the next one of the chip's group, at the row of what is fetched
pub next_post : (target : Target) (old : Chip) (lun : Typed InPosts) (now : ℕ) (fetch : Fetch) (post : Post) (left : List Post) → IsOf target old → IsDue target.geometry old lun now fetch post left → IsNextPost old now (row_of target.geometry fetch.place) post left
next_post target old lun now fetch post left of due = record {
  ready = lun.state.ready;
  there = subst (λ n. slice_get old.luns n ≡ Some (Posting (post ∷ left) lun.state.ready)) (sym due.lun_is) due.posting.there;
  over = due.over;
  in_range = subst (λ (g : Geometry). IsInRange g post.place) (sym of.geometry) due.in_range;
  part = subst (λ (g : Geometry). has_part g post.kind ≡ true) (sym of.geometry) due.part;
  row_is = ap (λ (g : Geometry). row_of g post.place) of.geometry ∙ ap (λ (p : Place). row_of target.geometry p) due.place;
}

pub post_others : (old new : Chip) (post : Post) (left : List Post) (now : ℕ) → HasDone (posted old post left now) new → OthersStay post.place.lun old new
post_others old new post left now done other d = ap (λ (x : Chip). slice_get x.luns other) done.state ∙ get_set_other old.luns post.place.lun other (after_post left (now + (spans_of old.timing post.kind).post)) d

behind_post : (target : Target) (old new : Chip) (lun : Typed InPosts) (now : ℕ) (fetch : Fetch) (post : Post) (left : List Post) → IsOf target old → IsDue target.geometry old lun now fetch post left → HasDone (posted old post left now) new →
    slice_get new.luns lun.number ≡ Some (after_post left (now + (spans_of target.timing fetch.kind).post))
behind_post target old new lun now fetch post left of due done =
    let there : slice_get old.luns post.place.lun ≡ Some (Posting (post ∷ left) lun.state.ready) = subst (λ n. slice_get old.luns n ≡ Some (Posting (post ∷ left) lun.state.ready)) (sym due.lun_is) due.posting.there in
    let set : slice_get new.luns post.place.lun ≡ Some (after_post left (now + (spans_of old.timing post.kind).post)) =
    ap (λ (x : Chip). slice_get x.luns post.place.lun) done.state ∙ get_set_same old.luns post.place.lun (Posting (post ∷ left) lun.state.ready) _ there in
    ap (λ n. slice_get new.luns n) (sym due.lun_is) ∙ set ∙ ap (λ (t : Timing). Some (after_post left (now + (spans_of t post.kind).post))) of.timing ∙ ap (λ (k : Kind). Some (after_post left (now + (spans_of target.timing k).post))) due.kind

pub post_made : (target : Target) (old new : Chip) (lun : Typed InPosts) (now ready : ℕ) (fetch : Fetch) (post : Post) (left : List Post) (made : Posted) → IsOf target old → IsDue target.geometry old lun now fetch post left → HasDone (posted old post left now) new →
    ready ≡ now + (spans_of target.timing fetch.kind).post → IsBehind lun.number lun.state.left ready made → IsPosted left new lun.number made
post_made target old new lun now ready fetch post [] (behind.More l) of due done time made = absurd (let c = due.posting.count in let s = l.state.some in let m = made.1 in omega (arith, c, s, m))
post_made target old new lun now ready fetch post [] (behind.Last l) of due done time made =
    (made.0, ap (λ n. slice_get new.luns n) made.0 ∙ behind_post target old new lun now fetch post [] of due done)
post_made target old new lun now ready fetch post (x ∷ left) (behind.More l) of due done time made =
    let at = behind_post target old new lun now fetch post (x ∷ left) of due done in
    let count : l.state.left ≡ length (x ∷ left) = (let c = due.posting.count in let m = made.1 in omega (arith, c, m)) in (
      made.0,
      record {
        there = ap (λ n. slice_get new.luns n) made.0 ∙ at ∙ ap (λ t. Some (Posting (x ∷ left) t)) (sym time ∙ sym made.2);
        count = count;
      },
    )
post_made target old new lun now ready fetch post (x ∷ left) (behind.Last l) of due done time made = absurd (let c = due.posting.count in let m = made.1 in omega (arith, c, m))

-- What is known of the chip says what the typed LUN has

pub device_kept : (c : Closer) (target : Target) (old new : Chip) (r : Request) (now : ℕ) → IsOf target old → HasDone (command_of c old r now) new → IsOf target new
device_kept closer.More target old new r now of done = record { geometry = ap (λ (x : Chip). x.geometry) done.state ∙ of.geometry; timing = ap (λ (x : Chip). x.timing) done.state ∙ of.timing }
device_kept closer.Last target old new r now of done = record { geometry = ap (λ (x : Chip). x.geometry) done.state ∙ of.geometry; timing = ap (λ (x : Chip). x.timing) done.state ∙ of.timing }

pub same_posts : (o : Option Lun) (ps qs : List Post) (t u : ℕ) → o ≡ Some (Posting ps t) → o ≡ Some (Posting qs u) → (ps ≡ qs) × (t ≡ u)
same_posts o ps qs t u e f = (cc, cc)

-- after the last command
pub launched_at : (old new : Chip) (r : Request) (now : ℕ) (y : Lun) → HasDone (command_of closer.Last old r now) new → slice_get old.luns r.place.lun ≡ Some y →
    slice_get new.luns r.place.lun ≡ Some (Posting (posts_of (device_in old) (taken (Some y) ++ r ∷ []) old.blocks) (now + (spans_for old r).cmd + (spans_for old r).array))
launched_at old new r now y done there =
    ap (λ (x : Chip). slice_get x.luns r.place.lun) done.state ∙ get_set_same old.luns r.place.lun y _ there
    ∙ ap (λ o. Some (Posting (posts_of (device_in old) (taken o ++ r ∷ []) old.blocks) (now + (spans_for old r).cmd + (spans_for old r).array))) there
