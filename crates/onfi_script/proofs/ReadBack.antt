-- The text of a schedule is read as that schedule.
use Rattle.std.proofs.Common.{◌≡◌, ◌<◌, ◌≤◌, ℕ, suc, zero, ◌+◌, ◌^◌, Bool, true, false, List, [], ◌∷◌, ◌++◌, length, map, get_or, take, Ok, Some, refl, sym, ap, ◌∙◌, arith, cond, codes, append_assoc, append-nil, length-append}
use Rattle.std.specs.Prelude.{◌==◌, ◌&&◌, ◌||◌, nat_lt, nat_le, find}
use Rattle.std.specs.List.{flat_map, list_all, list_any, AllByRecursion as Each}
use Rattle.std.specs.Fmt.{decimal}
use Rattle.std.proofs.Math.Seq.{take-suc}
use Rattle.std.proofs.lemmas.List.{length-map, take_all}
use Rattle.std.proofs.lemmas.Bool.Decides.{nat_tests}
use Rattle.onfi_request.specs.declared.want.Want.{Want}
use Rattle.onfi_schedule.specs.Schedule.{Placed, Schedule}
use Rattle.onfi_script.specs.declared.plan_line.Line.{Line}
use Rattle.onfi_script.specs.declared.plan_line.Line.TheVariants.{Rest, Group}
use Rattle.onfi_script.specs.declared.plan_line.RestLine.{RestLine}
use Rattle.onfi_log.specs.Parts.{parts}
use Rattle.onfi_script.specs.PlanLine.{and_then, numbers, want_named, line_of, line_of_words, finish_of, number_in_words}
use Rattle.onfi_script.specs.PlanText.{Plan, takes, with_line, is_certificate, and_on, lines_of, plan_after, plan_of, starts_in, starts_on, rests, names_absent, schedule_on}
use Rattle.onfi_script.specs.Laws.{AreStarts, IsLineOf, HasText, rest_written, written}
use Rattle.onfi_script.specs.Text.{spaced, joined, ids, group_line, rest_lines, below_line, schedule_text}
use Rattle.onfi_script.proofs.PlanLemmas.{finish_told, plan_ended, line_taken}
use Rattle.onfi_timing.proofs.Written.{number_again}
use Rattle.onfi_script.proofs.Spelled.{Lacks, decimal_lacks, numbers_read, part_ended, part_whole, spaced_parts, joined_parts, lacks_both, lacks_by, lacks_more, same, spaced_lacks, joined_lacks, differs}

-- the line `rest` without its LF
abbrev rest_text : ℕ → List ℕ → List ℕ
rest_text lun starts = codes "rest" ++ 32 ∷ (decimal lun ++ spaced starts)

rest_read : (wants : List Want) (lun : ℕ) (starts : List ℕ) → lun < 2 ^ 63 → 1 ≤ length starts → AreStarts starts
    → line_of wants (rest_text lun starts) ≡ Some (Rest (record { lun = lun; starts = starts }))
rest_read wants lun starts small some are =
    ap (line_of_words wants) (part_ended 32 (codes "rest") (decimal lun ++ spaced starts) (lacks_by 32 (codes "rest") refl)
    ∙ ap (λ l. codes "rest" ∷ l) (spaced_parts (decimal lun) starts (decimal_lacks 32 lun (omega arith) (λ a b. omega arith)) are.small))
    ∙ ap (λ o. and_then o (λ lun. and_then (numbers 8 (map decimal starts)) (λ starts. Some (Rest (record { lun = lun; starts = starts }))))) (number_again lun small)
    ∙ ap (λ o. and_then o (λ starts. Some (Rest (record { lun = lun; starts = starts })))) (numbers_read 8 starts some are.few are.small)

rest_ends : (lun : ℕ) (starts : List ℕ) → lun < 2 ^ 63 → AreStarts starts → Lacks 10 (rest_text lun starts)
rest_ends lun starts small are =
    lacks_both 10 (codes "rest") (32 ∷ (decimal lun ++ spaced starts)) (lacks_by 10 (codes "rest") refl)
    (lacks_more 10 32 (decimal lun ++ spaced starts) refl
    (lacks_both 10 (decimal lun) (spaced starts) (decimal_lacks 10 lun (omega arith) (λ a b. omega arith)) (spaced_lacks 10 starts refl (λ a b. omega arith) are.small)))

-- the numbers of a group's members
abbrev numbers_of : List Want → List ℕ
numbers_of wants = map (λ w. w.id) wants

small_numbers : (wants : List Want) → Each (λ w. w.id < 2 ^ 63) wants → Each (λ n. n < 2 ^ 63) (numbers_of wants)
small_numbers [] h = h
small_numbers (w ∷ wants) h = (h.0, small_numbers wants h.1)

all_named : (wants members : List Want) → Each (λ w. want_named wants w.id ≡ w) members → map (want_named wants) (numbers_of members) ≡ members
all_named wants [] h = refl
all_named wants (w ∷ members) h = ap (λ x. x ∷ map (want_named wants) (numbers_of members)) h.0 ∙ ap (λ l. w ∷ l) (all_named wants members h.1)

ids_lack : (byte : ℕ) (members : List Want) → (43 == byte) ≡ false → (48 ≤ byte → byte ≤ 57 → ⊥) → Each (λ w. w.id < 2 ^ 63) members → Lacks byte (ids members)
ids_lack byte [] plus none small = lacks_by byte [] refl
ids_lack byte (w ∷ members) plus none small =
    lacks_both byte (decimal w.id) (joined members) (decimal_lacks byte w.id (omega (arith, small.0)) none) (joined_lacks byte members plus none small.1)

ids_parts : (members : List Want) → 1 ≤ length members → Each (λ w. w.id < 2 ^ 63) members → parts 43 (ids members) ≡ map decimal (numbers_of members)
ids_parts [] some small = absurd (omega arith)
ids_parts (w ∷ members) some small = joined_parts (decimal w.id) members (decimal_lacks 43 w.id (omega (arith, small.0)) (λ a b. omega arith)) small.1

-- the line `group` without its LF
abbrev group_text : Placed → List ℕ
group_text g = codes "group" ++ 32 ∷ (ids g.members ++ spaced g.starts)

group_read : (wants : List Want) (g : Placed) → IsLineOf wants g → line_of wants (group_text g) ≡ Some (Group g)
group_read wants g is =
    let many = length-map g.members (λ w. w.id) in
    ap (line_of_words wants) (part_ended 32 (codes "group") (ids g.members ++ spaced g.starts) (lacks_by 32 (codes "group") refl)
    ∙ ap (λ l. codes "group" ∷ l) (spaced_parts (ids g.members) g.starts (ids_lack 32 g.members refl (λ a b. omega arith) is.ids) is.starts.small))
    ∙ ap (λ l. and_then (numbers 4 l) (λ ids. and_then (numbers 8 (map decimal g.starts)) (λ starts. Some (Group (record { members = map (want_named wants) ids; starts = starts }))))) (ids_parts g.members is.some is.ids)
    ∙ ap (λ o. and_then o (λ ids. and_then (numbers 8 (map decimal g.starts)) (λ starts. Some (Group (record { members = map (want_named wants) ids; starts = starts })))))
    (numbers_read 4 (numbers_of g.members) (omega (arith, is.some, many)) (omega (arith, is.few, many)) (small_numbers g.members is.ids))
    ∙ ap (λ o. and_then o (λ starts. Some (Group (record { members = map (want_named wants) (numbers_of g.members); starts = starts })))) (numbers_read 8 g.starts is.some_starts is.starts.few is.starts.small)
    ∙ ap (λ (ms : List Want). Some (Group (record { members = ms; starts = g.starts }))) (all_named wants g.members is.named)

group_ends : (wants : List Want) (g : Placed) → IsLineOf wants g → Lacks 10 (group_text g)
group_ends wants g is =
    lacks_both 10 (codes "group") (32 ∷ (ids g.members ++ spaced g.starts)) (lacks_by 10 (codes "group") refl)
    (lacks_more 10 32 (ids g.members ++ spaced g.starts) refl
    (lacks_both 10 (ids g.members) (spaced g.starts) (ids_lack 10 g.members refl (λ a b. omega arith) is.ids) (spaced_lacks 10 g.starts refl (λ a b. omega arith) is.starts.small)))

step : (wants : List Want) (plan : Plan) (line : List ℕ) (l : Line) (behind : List ℕ) → Lacks 10 line → is_certificate line ≡ false → line_of wants line ≡ Some l → takes plan l ≡ true
    → plan_after wants plan (parts 10 (line ++ 10 ∷ behind)) ≡ plan_after wants (with_line plan l) (parts 10 behind)
step wants plan line l behind lacks other read may =
    line_taken wants plan (line ++ 10 ∷ behind) line behind l (with_line plan l) (plan_after wants plan (parts 10 (line ++ 10 ∷ behind))) (part_ended 10 line behind lacks) other (sym read) may refl refl

abbrev plan_with : ℕ → List RestLine → List Placed → Plan
plan_with finish lines groups = record { finish = finish; rest = lines; groups = groups }

abbrev Below : ℕ → List RestLine → Type 0
Below lun lines = Each (λ line. line.lun < lun) lines

below_later : (lun : ℕ) (lines : List RestLine) → Below lun lines → Below (lun + 1) lines
below_later lun [] h = h
below_later lun (line ∷ lines) h = (omega (arith, h.0), below_later lun lines h.1)

below_more : (lun : ℕ) (starts : List ℕ) (lines : List RestLine) → Below lun lines → Below (lun + 1) (lines ++ record { lun = lun; starts = starts } ∷ [])
below_more lun starts [] h = (omega arith, tt)
below_more lun starts (line ∷ lines) h = (omega (arith, h.0), below_more lun starts lines h.1)

all_below : (lun : ℕ) (lines : List RestLine) → Below lun lines → list_all (λ other. nat_lt other.lun lun) lines ≡ true
all_below lun [] h = refl
all_below lun (line ∷ lines) h =
    let before : nat_lt line.lun lun ≡ true = let b = h.0 in grind (arith, nat_tests) in
    ap (λ b. b && list_all (λ other. nat_lt other.lun lun) lines) before ∙ all_below lun lines h.1

three : (a b c : Bool) → a ≡ true → b ≡ true → c ≡ true → (a && b && c) ≡ true
three true true true x y z = refl
three true true false x y z = cc
three true false c x y z = cc
three false b c x y z = cc

regroup_rest : (d s y m : List ℕ) → ((codes "rest " ++ d ++ s ++ codes "\n") ++ y) ++ m ≡ (codes "rest" ++ 32 ∷ (d ++ s)) ++ 10 ∷ (y ++ m)
regroup_rest d s y m = simp append_assoc

rests_walk : (wants : List Want) (rest : List (List ℕ)) (lun finish : ℕ) (lines : List RestLine) (more : List ℕ) → Each AreStarts rest → Below lun lines → length lines + length rest ≤ 8 → lun + length rest ≤ 8
    → plan_after wants (plan_with finish lines []) (parts 10 (rest_lines lun rest ++ more)) ≡ plan_after wants (plan_with finish (lines ++ rest_written lun rest) []) (parts 10 more)
unfolding rest_lines
rests_walk wants [] lun finish lines more are below few there = ap (λ x. plan_after wants (plan_with finish x []) (parts 10 more)) (sym (append-nil lines))
rests_walk wants ([] ∷ rest) lun finish lines more are below few there =
    rests_walk wants rest (lun + 1) finish lines more are.1 (below_later lun lines below) (omega arith) (omega arith)
rests_walk wants ((t ∷ ts) ∷ rest) lun finish lines more are below few there =
    let starts = t ∷ ts in
    let line : RestLine = record { lun = lun; starts = starts } in
    let room : nat_lt (length lines) 8 ≡ true = let l : length lines < 8 = omega arith in grind (arith, nat_tests) in
    ap (λ x. plan_after wants (plan_with finish lines []) (parts 10 x)) (regroup_rest (decimal lun) (spaced starts) (rest_lines (lun + 1) rest) more)
    ∙ step wants (plan_with finish lines []) (rest_text lun starts) (Rest line) (rest_lines (lun + 1) rest ++ more) (rest_ends lun starts (omega arith) are.0) refl
    (rest_read wants lun starts (omega arith) (omega arith) are.0) (three (list_all (λ other. nat_lt other.lun lun) lines) (nat_lt (length lines) 8) true (all_below lun lines below) room refl)
    ∙ rests_walk wants rest (lun + 1) finish (lines ++ line ∷ []) more are.1 (below_more lun starts lines below) (omega (arith, length-append lines (line ∷ []))) (omega arith)
    ∙ ap (λ x. plan_after wants (plan_with finish x []) (parts 10 more)) (append_assoc lines (line ∷ []) (rest_written (lun + 1) rest))

regroup_group : (d s y m : List ℕ) → ((codes "group " ++ d ++ s ++ codes "\n") ++ y) ++ m ≡ (codes "group" ++ 32 ∷ (d ++ s)) ++ 10 ∷ (y ++ m)
regroup_group d s y m = simp append_assoc

groups_walk : (wants : List Want) (todo : List Placed) (finish : ℕ) (lines : List RestLine) (groups : List Placed) (more : List ℕ) → Each (IsLineOf wants) todo → length groups + length todo ≤ 8
    → plan_after wants (plan_with finish lines groups) (parts 10 (flat_map group_line todo ++ more)) ≡ plan_after wants (plan_with finish lines (groups ++ todo)) (parts 10 more)
groups_walk wants [] finish lines groups more are few = ap (λ x. plan_after wants (plan_with finish lines x) (parts 10 more)) (sym (append-nil groups))
groups_walk wants (g ∷ todo) finish lines groups more are few =
    let room : nat_lt (length groups) 8 ≡ true = let l : length groups < 8 = omega arith in grind (arith, nat_tests) in
    ap (λ x. plan_after wants (plan_with finish lines groups) (parts 10 x)) (regroup_group (ids g.members) (spaced g.starts) (flat_map group_line todo) more)
    ∙ step wants (plan_with finish lines groups) (group_text g) (Group g) (flat_map group_line todo ++ more) (group_ends wants g are.0) refl (group_read wants g are.0) room
    ∙ groups_walk wants todo finish lines (groups ++ g ∷ []) more are.1 (omega (arith, length-append groups (g ∷ [])))
    ∙ ap (λ x. plan_after wants (plan_with finish lines x) (parts 10 more)) (append_assoc groups (g ∷ []) todo)

regroup_text : (d r g c : List ℕ) → (codes "ONFIPLAN 1\n" ++ (codes "finish " ++ d) ++ codes "\n" ++ [] ++ r ++ g) ++ c ≡ codes "ONFIPLAN 1" ++ 10 ∷ ((codes "finish" ++ 32 ∷ d) ++ 10 ∷ (r ++ (g ++ c)))
regroup_text d r g c = simp append_assoc

finish_read : (ends : ℕ) → ends < 2 ^ 63 → finish_of (codes "finish" ++ 32 ∷ decimal ends) ≡ Some ends
finish_read ends small =
    ap (number_in_words (codes "finish")) (part_ended 32 (codes "finish") (decimal ends) (lacks_by 32 (codes "finish") refl)
    ∙ ap (λ l. codes "finish" ∷ l) (part_whole 32 (decimal ends) (decimal_lacks 32 ends (omega arith) (λ a b. omega arith))))
    ∙ number_again ends small

finish_ends : (ends : ℕ) → ends < 2 ^ 63 → Lacks 10 (codes "finish" ++ 32 ∷ decimal ends)
finish_ends ends small =
    lacks_both 10 (codes "finish") (32 ∷ decimal ends) (lacks_by 10 (codes "finish") refl) (lacks_more 10 32 (decimal ends) refl (decimal_lacks 10 ends (omega arith) (λ a b. omega arith)))

no_below : (ends : ℕ) → below_line ends ends ≡ []
no_below ends = let none : nat_lt ends ends ≡ false = grind (arith, nat_tests) in ap (λ b. cond b (codes "below " ++ decimal ends ++ codes "\n") []) none

pub text_read : (wants : List Want) (s : Schedule) (ends : ℕ) (line more : List ℕ) → HasText wants s → ends < 2 ^ 63 → is_certificate line ≡ true → Lacks 10 line
    → plan_of wants (schedule_text s ends ends ++ (line ++ 10 ∷ more)) ≡ Ok (written s ends, line ++ 10 ∷ more)
text_read wants s ends line more has small certificate lacks =
    let c = line ++ 10 ∷ more in
    let r = rest_lines 0 s.rest in
    let g = flat_map group_line s.groups in
    let second = codes "finish" ++ 32 ∷ decimal ends in
    let left = r ++ (g ++ c) in
    let text = codes "ONFIPLAN 1" ++ 10 ∷ (second ++ 10 ∷ left) in
    ap (λ b. plan_of wants ((codes "ONFIPLAN 1\n" ++ (codes "finish " ++ decimal ends) ++ codes "\n" ++ b ++ r ++ g) ++ c)) (no_below ends)
    ∙ ap (plan_of wants) (regroup_text (decimal ends) r g c)
    ∙ ap (λ o. and_on o (λ o. lines_of wants o.0 o.1)) (finish_told text (codes "ONFIPLAN 1") (second ++ 10 ∷ left) second left (Some ends) (part_ended 10 (codes "ONFIPLAN 1") (second ++ 10 ∷ left) (lacks_by 10 (codes "ONFIPLAN 1") refl)) refl
    (part_ended 10 second left (finish_ends ends small)) (sym (finish_read ends small)))
    ∙ rests_walk wants s.rest 0 ends [] (g ++ c) has.rest tt (omega (arith, has.luns)) (omega (arith, has.luns))
    ∙ groups_walk wants s.groups ends (rest_written 0 s.rest) [] c has.groups (omega (arith, has.few))
    ∙ plan_ended wants (written s ends) c line more (plan_after wants (written s ends) (parts 10 c)) (part_ended 10 line more lacks) certificate refl

not_found : (rest : List (List ℕ)) (lun k : ℕ) → k < lun → starts_on (rest_written lun rest) k ≡ []
not_found [] lun k h = refl
not_found ([] ∷ rest) lun k h = not_found rest (lun + 1) k (omega arith)
not_found ((t ∷ ts) ∷ rest) lun k h =
    ap (λ b. starts_in (cond b (Some (record { lun = lun; starts = t ∷ ts })) (find (λ line. line.lun == k) (rest_written (lun + 1) rest)))) (differs lun k (λ e. omega arith))
    ∙ not_found rest (lun + 1) k (omega arith)

found : (rest : List (List ℕ)) (lun i : ℕ) → i < length rest → starts_on (rest_written lun rest) (lun + i) ≡ get_or rest i []
found [] lun i h = absurd (omega arith)
found ([] ∷ rest) lun zero h = not_found rest (lun + 1) (lun + 0) (omega arith)
found ([] ∷ rest) lun (suc i) h = let e : lun + suc i ≡ lun + 1 + i = omega arith in ap (starts_on (rest_written (lun + 1) rest)) e ∙ found rest (lun + 1) i (omega arith)
found ((t ∷ ts) ∷ rest) lun zero h =
    let e : lun ≡ lun + 0 = omega arith in
    ap (λ b. starts_in (cond b (Some (record { lun = lun; starts = t ∷ ts })) (find (λ line. line.lun == lun + 0) (rest_written (lun + 1) rest)))) (ap (λ k. lun == k) (sym e) ∙ same lun)
found ((t ∷ ts) ∷ rest) lun (suc i) h =
    let e : lun + suc i ≡ lun + 1 + i = omega arith in
    ap (λ b. starts_in (cond b (Some (record { lun = lun; starts = t ∷ ts })) (find (λ line. line.lun == lun + suc i) (rest_written (lun + 1) rest)))) (differs lun (lun + suc i) (λ f. omega arith))
    ∙ ap (starts_on (rest_written (lun + 1) rest)) e ∙ found rest (lun + 1) i (omega arith)

rests_taken : (rest : List (List ℕ)) (n : ℕ) → n ≤ length rest → rests (rest_written 0 rest) n ≡ take n rest
unfolding rests
rests_taken rest zero h = refl
rests_taken rest (suc n) h =
    let e : 0 + n ≡ n = omega arith in
    ap (λ l. l ++ starts_on (rest_written 0 rest) n ∷ []) (rests_taken rest n (omega arith))
    ∙ ap (λ x. take n rest ++ x ∷ []) (ap (starts_on (rest_written 0 rest)) (sym e) ∙ found rest 0 n (omega arith))
    ∙ sym (take-suc rest n [] (omega arith))

none_absent : (rest : List (List ℕ)) (lun most : ℕ) → lun + length rest ≤ most → names_absent most (rest_written lun rest) ≡ false
none_absent [] lun most h = refl
none_absent ([] ∷ rest) lun most h = none_absent rest (lun + 1) most (omega arith)
none_absent ((t ∷ ts) ∷ rest) lun most h =
    let there : nat_le most lun ≡ false = let l : lun < most = omega arith in grind (arith, nat_tests) in
    ap (λ b. b || list_any (λ line. nat_le most line.lun) (rest_written (lun + 1) rest)) there ∙ none_absent rest (lun + 1) most (omega arith)

pub schedule_read : (s : Schedule) (ends : ℕ) → schedule_on (length s.rest) (written s ends) ≡ s
schedule_read s ends =
    let luns = length s.rest in
    let lines = rest_written 0 s.rest in
    ap (λ b. let r : Schedule = record { rest = cond b (rests lines luns ++ [] ∷ []) (rests lines luns); groups = s.groups } in r) (none_absent s.rest 0 luns (omega arith))
    ∙ ap (λ l. let r : Schedule = record { rest = l; groups = s.groups } in r) (rests_taken s.rest luns (omega arith) ∙ take_all luns s.rest (omega arith))
