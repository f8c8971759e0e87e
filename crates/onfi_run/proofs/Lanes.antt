-- Channels as they open.
use Rattle.std.proofs.Common.{◌≡◌, ℕ, ◌+◌, List, [], ◌∷◌, ◌++◌, length, refl, sym, subst, add-zero, arith}
use Rattle.onfi_core.specs.declared.setup.Setup.{Setup}
use Rattle.onfi_script.specs.declared.row.Row.{Row}
use Rattle.onfi_run.specs.declared.gated.Gated.{Gated}
use Rattle.onfi_run.specs.declared.lane.Lane.{Lane}
use Rattle.onfi_run.specs.Opening.{IsOpened, AreOpened}

-- one channel more
pub opened_more : {P G : Type 0} (setup : Setup) (rows : List Row) (number : ℕ) (gates : List G) (gate : G) (lanes : List (Lane (Gated P G))) (lane : Lane (Gated P G)) → AreOpened setup rows number gates lanes
    → IsOpened setup rows (number + length gates) gate lane → AreOpened setup rows number (gates ++ gate ∷ []) (lanes ++ lane ∷ [])
opened_more setup rows number [] gate [] lane all one = (subst (λ n. IsOpened setup rows n gate lane) (add-zero number) one, tt)
opened_more setup rows number (g ∷ gates) gate [] lane all one = absurd all
opened_more setup rows number [] gate (l ∷ lanes) lane all one = absurd all
opened_more setup rows number (g ∷ gates) gate (l ∷ lanes) lane (here, all) one =
    let n : number + length (g ∷ gates) ≡ number + 1 + length gates = omega arith in
    (here, opened_more setup rows (number + 1) gates gate lanes lane all (subst (λ n. IsOpened setup rows n gate lane) n one))

-- .. where all are given by equations
pub opened_with : {P G : Type 0} (setup : Setup) (rows : List Row) (gates left : List G) (gate : G) (lanes all : List (Lane (Gated P G))) (lane : Lane (Gated P G)) (number : ℕ) → gates ≡ left ++ gate ∷ [] → number ≡ length left
    → AreOpened setup rows 0 left lanes → IsOpened setup rows number gate lane → all ≡ lanes ++ lane ∷ [] → AreOpened setup rows 0 gates all
opened_with setup rows gates left gate lanes all lane number gates_are number_is opened one all_are =
    let n : number ≡ 0 + length left = omega (arith, number_is) in
    let more = opened_more setup rows 0 left gate lanes lane opened (subst (λ k. IsOpened setup rows k gate lane) n one) in
    subst (λ gs. AreOpened setup rows 0 gs all) (sym gates_are) (subst (λ ls. AreOpened setup rows 0 (left ++ gate ∷ []) ls) (sym all_are) more)

pub opened_count : {P G : Type 0} (setup : Setup) (rows : List Row) (number : ℕ) (gates : List G) (lanes : List (Lane (Gated P G))) → AreOpened setup rows number gates lanes → length lanes ≡ length gates
opened_count setup rows number [] [] all = refl
opened_count setup rows number (g ∷ gates) [] all = absurd all
opened_count setup rows number [] (l ∷ lanes) all = absurd all
opened_count setup rows number (g ∷ gates) (l ∷ lanes) (here, all) = let n = opened_count setup rows (number + 1) gates lanes all in omega (arith, n)
