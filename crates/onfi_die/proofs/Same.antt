-- A prepared operation does what its request does.
use Rattle.std.proofs.Common.{◌≡◌, ℕ, Bool, List, [], refl, sym, ap, subst}
use Rattle.std.proofs.Math.Path.{fun_ext}
use Rattle.onfi_timing.specs.declared.kind.Kind.{Kind}
use Rattle.onfi_timing.specs.declared.kind.Kind.TheVariants as kind
use Rattle.onfi_request.specs.declared.request.Request.{Request}
use Rattle.onfi_die.specs.declared.page.Page.{Page}
use Rattle.onfi_die.specs.declared.prepared.Prepared.{Prepared}
use Rattle.onfi_die.specs.declared.prepared.Prepared.TheVariants.{Read, ReadSectors, Program, Erase}
use Rattle.onfi_die.specs.declared.shape.Shape.{Shape}
use Rattle.onfi_die.specs.Shapes.{Device}
use Rattle.onfi_die.specs.Block.{Did, did}
use Rattle.onfi_die.specs.Contents.{Contents, contents_after, answer_of, fails}
use Rattle.onfi_die.specs.Blocks.{Blocks, changed}
use Rattle.onfi_die.specs.Prepared.{kind_of, data_of}
use Rattle.onfi_die.specs.Requests.{request_of}

same_did : (shape : Shape) (o : Prepared) (k : Kind) (bytes : List ℕ) (page : ℕ) (fault : Bool) (pages : List Page) → kind_of o ≡ k → (k ≡ kind.Program → data_of o ≡ bytes) → did shape (kind_of o) page (data_of o) fault pages ≡ did shape k page bytes fault pages
same_did shape (Read room) k bytes page fault pages e h = subst (λ q. did shape kind.Read page (data_of (Read room)) fault pages ≡ did shape q page bytes fault pages) e refl
same_did shape (ReadSectors first count room) k bytes page fault pages e h =
    subst (λ q. did shape (kind.ReadSectors first count) page [] fault pages ≡ did shape q page bytes fault pages) e refl
same_did shape (Program content) k bytes page fault pages e h =
    subst (λ q. did shape kind.Program page content fault pages ≡ did shape q page bytes fault pages) e (ap (λ bs. did shape kind.Program page bs fault pages) (h (sym e)))
same_did shape Erase k bytes page fault pages e h = subst (λ q. did shape kind.Erase page (data_of Erase) fault pages ≡ did shape q page bytes fault pages) e refl

pub same_contents : (device : Device) (o : Prepared) (r : Request) (c : Contents) → kind_of o ≡ r.kind → (r.kind ≡ kind.Program → data_of o ≡ r.bytes) → contents_after device (request_of r.place o) c ≡ contents_after device r c
unfolding contents_after
same_contents device o r c e h =
    let d = same_did device.shape o r.kind r.bytes r.place.page (fails device r.place.lun r.place.block c.changes) c.pages e h in
    rw (d, e) refl

pub same_answer : (device : Device) (o : Prepared) (r : Request) (c : Contents) → kind_of o ≡ r.kind → (r.kind ≡ kind.Program → data_of o ≡ r.bytes) → answer_of device (request_of r.place o) c ≡ answer_of device r c
unfolding answer_of
same_answer device o r c e h =
    let d = same_did device.shape o r.kind r.bytes r.place.page (fails device r.place.lun r.place.block c.changes) c.pages e h in
    ap (λ (x : Did). x.answer) d

pub same_changed : (device : Device) (o : Prepared) (r : Request) (blocks : Blocks) → kind_of o ≡ r.kind → (r.kind ≡ kind.Program → data_of o ≡ r.bytes) → changed device (request_of r.place o) blocks ≡ changed device r blocks
same_changed device o r blocks e h = fun_ext (λ lun. fun_ext (λ block. let d = same_contents device o r (blocks lun block) e h in rw d refl))
