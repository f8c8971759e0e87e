-- A schedule of the right shape has few starts.
use Rattle.std.proofs.Common.{◌≡◌, ◌≢◌, ℕ, ◌+◌, ◌*◌, ◌≤◌, List, [], ◌∷◌, length, inl, inr, refl, sym, ap, ◌∙◌, arith, length-append}
use Rattle.std.proofs.lemmas.Bool.Decides.{nat_tests}
use Rattle.std.specs.List.{AllByRecursion as All}
use Rattle.onfi_request.specs.declared.want.Want.{Want}
use Rattle.onfi_group.specs.Words.{Has, Pairs, total, number}
use Rattle.onfi_problem.specs.Problem.{has_id}
use Rattle.onfi_problem.specs.declared.lun_state.LunState.{LunState}
use Rattle.onfi_problem.proofs.Perm.{All-append, All-has, All-each}
use Rattle.onfi_problem.proofs.Wants.{Rising, total-append, number_has}
use Rattle.onfi_problem.proofs.Totals.{split_total}
use Rattle.onfi_schedule.specs.Schedule.{Placed, Schedule, all_members}
use Rattle.onfi_schedule.specs.Conditions.{HasShape, HoldsOnce, StartsFit, MembersAmong, id_count, start_count}

pub id_count_is : (groups : List Placed) (id : ℕ) → id_count groups id ≡ number (has_id id) (all_members groups)
id_count_is [] id = refl
id_count_is (g ∷ groups) id = ap (λ n. number (has_id id) g.members + n) (id_count_is groups id) ∙ sym (total-append _ g.members (all_members groups))

pub members_among : (wants : List Want) (groups : List Placed) → All (MembersAmong wants) groups → All (Has wants) (all_members groups)
members_among wants [] h = tt
members_among wants (g ∷ groups) h = All-append (Has wants) g.members (all_members groups) h.0 (members_among wants groups h.1)

starts_are : (groups : List Placed) → All StartsFit groups → start_count groups ≡ 2 * length (all_members groups)
starts_are [] h = refl
starts_are (g ∷ groups) h = let e = starts_are groups h.1 in omega (arith, h.0, length-append g.members (all_members groups))

-- where each id is there once, ids differ
apart_ids : (ms : List Want) → ((m : Want) → Has ms m → number (has_id m.id) ms ≤ 1) → Pairs (λ a b. a.id ≢ b.id) ms
apart_ids [] h = tt
apart_ids (m ∷ ms) h = (
  All-each (λ b. m.id ≢ b.id) ms (λ b k e. let here = h m (inl refl) in let there = number_has ms b k in let same : 1 ≤ number (has_id m.id) ms = rw e there in grind (arith, nat_tests)),
  apart_ids ms (λ b k. let here = h b (inr k) in omega (arith, here)),
)

total_length : (ms : List Want) → total (λ _. 1) ms ≡ length ms
total_length [] = refl
total_length (m ∷ ms) = let e = total_length ms in omega arith

pub few_starts : (states : List LunState) (wants : List Want) (s : Schedule) → Rising wants → length wants ≤ 8 → HasShape states wants s → start_count s.groups ≤ 16
few_starts states wants s rising few shape =
    let ms = all_members s.groups in
    let among = members_among wants s.groups shape.members in
    let once : (m : Want) → Has ms m → number (has_id m.id) ms ≤ 1 = λ m k. (let e = All-has (HoldsOnce s.groups) wants m shape.once (All-has (Has wants) ms m among k) in let e' = id_count_is s.groups m.id in omega arith) in
    let all = split_total (λ _. 1) ms wants rising among (apart_ids ms once) in
    let counted = starts_are s.groups shape.starts in
    omega (arith, total_length ms, total_length wants)
