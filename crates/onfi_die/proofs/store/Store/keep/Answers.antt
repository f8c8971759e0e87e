use Rattle.std.proofs.Common.{◌≡◌, refl, sym, ap, subst, ◌∙◌}
use Rattle.onfi_die.specs.declared.kept.Kept.{Kept}
use Rattle.onfi_die.specs.Shapes.{Device}
use Rattle.onfi_die.specs.Contents.{fresh}
use Rattle.onfi_die.specs.Store.{IsKept, blocks_of, contents_of}
use Rattle.onfi_die.proofs.Keeping.{put_shape, put_still, put_fresh}
use Rattle.onfi_die.proofs.store.Store.keep.Goals as goal

pub invariant_of-self-2 : goal.invariant_of-self-2
invariant_of-self-2 c =
    let k : Kept = record { block = c.in_ok-block.block; changes = c.none.result } in
    let shape : k.block.shape ≡ c.self.inside.shape = c.in_ok-block.ensures.shape in
    put_shape c.self.inside.shape c.self.inside.kept c.insert.new.self c.key_of-key.result k c.in_ok-insert.ensures.updates c.self.invariant shape

pub returns-clause-others : goal.returns-clause-others
returns-clause-others c lun block h =
    let k : Kept = record { block = c.in_ok-block.block; changes = c.none.result } in
    put_still c.self.inside.kept c.insert.new.self c.key_of-key.result k c.in_ok-insert.ensures.updates lun block (subst (IsKept lun block) (sym c.self.view_is) h)

pub returns-clause-blocks : goal.returns-clause-blocks
returns-clause-blocks c =
    let device : Device = record { shape = c.self.inside.shape; faults = c.self.inside.faults.items } in
    let k : Kept = record { block = c.in_ok-block.block; changes = c.none.result } in
    let opens : contents_of k ≡ fresh device = rw (c.in_ok-block.ensures.pages, c.none.ensures) refl in
    put_fresh device c.self.inside.kept c.insert.new.self c.key_of-key.result k c.in_ok-insert.ensures.updates (sym c.contains_key.ensures ∙ c.if-contains_key.false) opens ∙ ap blocks_of c.self.view_is
