-- A group's requests, run one after another.
use Rattle.std.proofs.Common.{◌≡◌, ℕ, ◌<◌, List, [], ◌∷◌, ◌++◌, sym, ap, subst, ◌∙◌, append_assoc}
use Rattle.std.specs.Prelude.{map}
use Rattle.std.specs.List.{AllByRecursion as Each}
use Rattle.onfi_timing.specs.declared.kind.Kind.{Kind}
use Rattle.onfi_request.specs.declared.answer.Answer.{Answer}
use Rattle.onfi_die.specs.Shapes.{Device}
use Rattle.onfi_die.specs.Contents.{answer_of}
use Rattle.onfi_die.specs.Blocks.{Blocks, block_of, changed, happen}
use Rattle.onfi_die.specs.Prepared.{kind_of, IsAnswerTo, HasRoom}
use Rattle.onfi_die.specs.Store.{Stored, IsKept, blocks_of}
use Rattle.onfi_chip.specs.declared.member.Member.{Member}
use Rattle.onfi_chip.specs.declared.post.Post.{Post}
use Rattle.onfi_chip.specs.Chip.{posts_of}
use Rattle.onfi_chip.specs.Sim.{request_in, IsReady, IsPost}

-- of all members the rest are left, and what the others did and answered is done
pub record HasRun (before now : Stored) (all rest : List Member) (old new : List Post) : Type 0 where
  pub device : now.device ≡ before.device
  pub ready : Each (IsReady now) rest
  pub formed : Each (IsPost before.device.shape) new
  pub others : (lun block : ℕ) → IsKept lun block before → IsKept lun block now
  pub blocks : happen before.device (map request_in rest) (blocks_of now) ≡ happen before.device (map request_in all) (blocks_of before)
  pub posts : new ++ posts_of before.device (map request_in rest) (blocks_of now) ≡ old ++ posts_of before.device (map request_in all) (blocks_of before)

pub Each-push : {A : Type 0} (P : A → Type 0) (xs : List A) (x : A) → Each P xs → P x → Each P (xs ++ x ∷ [])
Each-push P [] x h p = (p, tt)
Each-push P (y ∷ xs) x h p = (h.0, Each-push P xs x h.1 p)

pub still_ready : (now next : Stored) (m : Member) → next.device ≡ now.device → ((lun block : ℕ) → IsKept lun block now → IsKept lun block next) → IsReady now m → IsReady next m
still_ready now next m d k r = record {
  kept = λ n. k m.place.lun m.place.block (r.kept n);
  page = subst (λ (e : Device). m.place.page < e.shape.pages) (sym d) r.page;
  room = subst (λ (e : Device). HasRoom e.shape.bytes m.operation) (sym d) r.room;
}

pub all_ready : (now next : Stored) (ms : List Member) → next.device ≡ now.device → ((lun block : ℕ) → IsKept lun block now → IsKept lun block next) → Each (IsReady now) ms → Each (IsReady next) ms
all_ready now next [] d k h = tt
all_ready now next (m ∷ ms) d k h = (still_ready now next m d k h.0, all_ready now next ms d k h.1)

posts_step : (device : Device) (m : Member) (rest : List Member) (blocks blocks' : Blocks) (answer : Answer) (new : List Post) →
    blocks' ≡ changed device (request_in m) blocks → answer ≡ answer_of device (request_in m) (block_of (request_in m) blocks) →
    (new ++ record { kind = kind_of m.operation; place = m.place; answer = answer } ∷ []) ++ posts_of device (map request_in rest) blocks' ≡ new ++ posts_of device (map request_in (m ∷ rest)) blocks
posts_step device m rest blocks blocks' answer new e a =
    append_assoc new _ (posts_of device (map request_in rest) blocks')
    ∙ ap (λ (bs : Blocks). new ++ record { kind = kind_of m.operation; place = m.place; answer = answer } ∷ posts_of device (map request_in rest) bs) e
    ∙ ap (λ (x : Answer). new ++ record { kind = kind_of m.operation; place = m.place; answer = x } ∷ posts_of device (map request_in rest) (changed device (request_in m) blocks)) a

pub one_more_run :
    (before now next : Stored) (all rest : List Member) (m : Member) (kind : Kind) (answer : Answer) (old new : List Post) →
    HasRun before now all (m ∷ rest) old new → kind ≡ kind_of m.operation → next.device ≡ now.device →
    blocks_of next ≡ changed now.device (request_in m) (blocks_of now) →
    answer ≡ answer_of now.device (request_in m) (block_of (request_in m) (blocks_of now)) →
    IsAnswerTo now.device.shape (kind_of m.operation) answer → ((lun block : ℕ) → IsKept lun block now → IsKept lun block next) →
    HasRun before next all rest old (new ++ record { kind = kind; place = m.place; answer = answer } ∷ [])
one_more_run before now next all rest m kind answer old new h k d e a w o =
    let e' : blocks_of next ≡ changed before.device (request_in m) (blocks_of now) = subst (λ (x : Device). blocks_of next ≡ changed x (request_in m) (blocks_of now)) h.device e in
    let a' : answer ≡ answer_of before.device (request_in m) (block_of (request_in m) (blocks_of now)) = subst (λ (x : Device). answer ≡ answer_of x (request_in m) (block_of (request_in m) (blocks_of now))) h.device a in
    let w' : IsAnswerTo before.device.shape (kind_of m.operation) answer = subst (λ (x : Device). IsAnswerTo x.shape (kind_of m.operation) answer) h.device w in
    let done : HasRun before next all rest old (new ++ record { kind = kind_of m.operation; place = m.place; answer = answer } ∷ []) = record {
      device = d ∙ h.device;
      ready = all_ready now next rest d o h.ready.1;
      formed = Each-push (IsPost before.device.shape) new _ h.formed w';
      others = λ lun block z. o lun block (h.others lun block z);
      blocks = ap (happen before.device (map request_in rest)) e' ∙ h.blocks;
      posts = posts_step before.device m rest (blocks_of now) (blocks_of next) answer new e' a' ∙ h.posts;
    } in
    subst (λ (q : Kind). HasRun before next all rest old (new ++ record { kind = q; place = m.place; answer = answer } ∷ [])) (sym k) done
