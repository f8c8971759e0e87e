use Rattle.std.proofs.Common.{◌≡◌, ◌<◌, List, [], length, map, refl, subst, sym, ap, ◌∙◌, ℕ}
use Rattle.std.specs.Prelude.{slice_index_or}
use Rattle.std.proofs.lemmas.List.{length-map}
use Rattle.onfi_problem.specs.declared.moves.Lun.{Lun}
use Rattle.onfi_problem.specs.declared.moves.Move.{Move}
use Rattle.onfi_problem.specs.declared.moves.Move.TheVariants.{Next, Start}
use Rattle.onfi_problem.specs.Moves.{IsMove, move_lun}
use Rattle.onfi_problem.specs.Position.{Position, lun_named, move_of, state_of}
use Rattle.onfi_problem.proofs.PhaseEnds.{goes_from, next_within, start_within}
use Rattle.onfi_problem.proofs.problem.Problem.earliest.Goals as goal

-- the LUN of a move is there
within : (x : Position) (luns : List Lun) → map (state_of x.groups) luns ≡ x.problem.luns → (m : Move)
    → IsMove x.problem (move_of x.groups m) → move_lun (move_of x.groups m) ≡ lun_named m → lun_named m < length luns
within x luns states (Next lun) step same = next_within x.problem x.groups luns states lun step
within x luns states (Start lun place) step same = start_within x.problem x.groups luns states (slice_index_or x.groups place []) lun step same

pub bounds-deref-lun : goal.bounds-deref-lun
bounds-deref-lun c =
    let x = c.args.self.now in
    let states : map (state_of x.groups) c.deref.result.now ≡ x.problem.luns = rw (← c.self.view_is, c.deref.ensures.0) refl in
    rw c.lun.ensures (within x c.deref.result.now states c.args.m.now c.requires.step c.requires.lun)

pub returns : goal.returns
returns c =
    let x = c.args.self.now in
    let states : map (state_of x.groups) c.deref.result.now ≡ x.problem.luns = rw (← c.self.view_is, c.deref.ensures.0) refl in
    let blank : Lun = record { next = 0; place = 0; time = 0 } in
    let there : lun_named c.args.m.now < length x.problem.luns = subst (λ (n : ℕ). lun_named c.args.m.now < n) (sym (length-map c.deref.result.now (state_of x.groups)) ∙ ap length states) (within x c.deref.result.now states c.args.m.now c.requires.step c.requires.lun) in
    rw (c.max.ensures, c.lun.ensures, c.requires.lun, goes_from x.problem x.groups c.deref.result.now states (lun_named c.args.m.now) blank there, ← c.self.view_is) refl
