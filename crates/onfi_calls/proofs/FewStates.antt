-- What at most eight LUNs do, with free ones after them.
use Rattle.std.proofs.Common.{◌≡◌, ℕ, List, length, take, drop, replicate, sym, ap, ◌∙◌}
use Rattle.std.proofs.lemmas.List.{length-map}
use Rattle.std.proofs.Math.Seq.{take-append_seam}
use Rattle.onfi_problem.specs.declared.lun_state.LunState.{LunState}
use Rattle.onfi_problem.specs.declared.lun_state.LunState.TheVariants.{Free}
use Rattle.onfi_calls.specs.declared.channel.PlainLun.{PlainLun}
use Rattle.onfi_calls.specs.Problem.{state_of, states_of}
use Rattle.onfi_calls.specs.PlainSchedule.{filled}

pub states_said : (bits : ℕ) (luns : List PlainLun) (whole : List LunState) → whole ≡ filled 8 (Free 0) (states_of bits luns) → take (length luns) whole ≡ states_of bits luns
states_said bits luns whole is =
    let said = states_of bits luns in
    let count : length said ≡ length luns = length-map luns (state_of bits) in
    ap (take (length luns)) is ∙ ap (λ n. take n (filled 8 (Free 0) said)) (sym count) ∙ take-append_seam said (drop (length said) (replicate 8 (Free 0)))
