-- Groups that grow by a command.
use Rattle.std.proofs.Common.{◌≡◌, ℕ, ◌+◌, ◌<◌, false, List, [], ◌∷◌, ◌++◌, length, Some, refl, sym, ap, ◌∙◌, subst, append_assoc, arith}
use Rattle.std.specs.Prelude.{slice_get}
use Rattle.std.specs.List.{AllByRecursion as All}
use Rattle.std.proofs.lemmas.Bool.{lt-ltb, le-ltb, eq-eqb}
use Rattle.std.proofs.lemmas.List.{length-append}
use Rattle.onfi_timing.specs.declared.timing.Timing.{Timing}
use Rattle.onfi_timing.specs.Kinds.{spans_of}
use Rattle.onfi_timing.specs.Phases.{phase_length, wait_before}
use Rattle.onfi_request.specs.declared.want.Want.{Want}
use Rattle.onfi_group.specs.declared.rules.Rules.{Rules}
use Rattle.onfi_group.specs.Words.{Pairs}
use Rattle.onfi_group.specs.Group.{IsGroup, group_spans, kind_of, lun_of}
use Rattle.onfi_group.proofs.Lists.{Has-append_left}
use Rattle.onfi_group.proofs.Placing.{part_is_group}
use Rattle.onfi_problem.specs.declared.lun_state.LunState.TheVariants.{Running}
use Rattle.onfi_problem.specs.Moves.{lun_after}
use Rattle.onfi_problem.proofs.LunAfter.{lun_after_running}
use Rattle.onfi_audit.specs.declared.line.Line.{Line}
use Rattle.onfi_audit.specs.Audit.{IsPhaseOf, Names, opened}
use Rattle.onfi_audit.specs.Legal.{state_at}

kind_grown : (ms : List Want) (m : Want) (rest : List Want) → kind_of (ms ++ m ∷ rest) ≡ kind_of (ms ++ m ∷ [])
kind_grown [] m rest = refl
kind_grown (x ∷ ms) m rest = refl

pub lun_grown : (ms : List Want) (m : Want) (rest : List Want) → lun_of (ms ++ m ∷ rest) ≡ lun_of (ms ++ m ∷ [])
lun_grown [] m rest = refl
lun_grown (x ∷ ms) m rest = refl

pub cmd_grown : (timing : Timing) (ms : List Want) (m : Want) (rest : List Want) → (group_spans timing (ms ++ m ∷ rest)).cmd ≡ (group_spans timing (ms ++ m ∷ [])).cmd
cmd_grown timing ms m rest = ap (λ k. (spans_of timing k).cmd) (kind_grown ms m rest)

gap_grown : (timing : Timing) (ms : List Want) (m : Want) (rest : List Want) → (group_spans timing (ms ++ m ∷ rest)).gap ≡ (group_spans timing (ms ++ m ∷ [])).gap
gap_grown timing ms m rest = ap (λ k. (spans_of timing k).gap) (kind_grown ms m rest)

array_grown : (timing : Timing) (ms : List Want) (m : Want) (rest : List Want) → (group_spans timing (ms ++ m ∷ rest)).array ≡ (group_spans timing (ms ++ m ∷ [])).array
array_grown timing ms m rest = ap (λ k. (spans_of timing k).array) (kind_grown ms m rest)

pub longer : (ms : List Want) (m : Want) (rest : List Want) → length ms < length (ms ++ m ∷ rest)
longer ms m rest = let e = length-append ms (m ∷ rest) in omega arith

pub get_grown : (ms : List Want) (m : Want) (rest : List Want) → slice_get (ms ++ m ∷ rest) (length ms) ≡ Some m
get_grown [] m rest = refl
get_grown (x ∷ ms) m rest = get_grown ms m rest

-- its command is as long as that of any
pub command_length : (timing : Timing) (ms : List Want) (m : Want) (rest : List Want) → phase_length (group_spans timing (ms ++ m ∷ rest)) (length (ms ++ m ∷ rest)) (length ms) ≡ (group_spans timing (ms ++ m ∷ [])).cmd
command_length timing ms m rest = rw (lt-ltb (length ms) (length (ms ++ m ∷ rest)) (longer ms m rest)) (cmd_grown timing ms m rest)

-- what the LUN does after it
pub after_command : (timing : Timing) (ms : List Want) (m : Want) (rest : List Want) (ended : ℕ) → lun_after timing (ms ++ m ∷ rest) (length ms) ended ≡ state_at (opened timing (ms ++ m ∷ []) ended) rest
after_command timing ms m [] ended =
    let g = ms ++ m ∷ [] in
    let size : length ms + 1 ≡ length g = sym (length-append ms (m ∷ [])) in
    let same = le-ltb (length g) (length g) (omega arith) in
    let eq = eq-eqb (length g) (length g) refl in
    lun_after_running timing g (length ms) ended (omega arith)
    ∙ ap (λ n. Running g n (ended + wait_before (group_spans timing g) (length g) n)) size
    ∙ rw (same, eq) refl
after_command timing ms m (x ∷ rest) ended =
    let g = ms ++ m ∷ x ∷ rest in
    let one = length-append ms (m ∷ []) in
    let all = length-append ms (m ∷ x ∷ rest) in
    let size : length ms + 1 ≡ length (ms ++ m ∷ []) = sym one in
    let less = lt-ltb (length (ms ++ m ∷ [])) (length g) (omega arith) in
    lun_after_running timing g (length ms) ended (omega arith)
    ∙ ap (λ n. Running g n (ended + wait_before (group_spans timing g) (length g) n)) size
    ∙ rw less (ap (λ t. Running g (length (ms ++ m ∷ [])) (ended + t)) (gap_grown timing ms m (x ∷ rest)))
    ∙ ap (λ h. Running h (length (ms ++ m ∷ [])) (ended + (group_spans timing (ms ++ m ∷ [])).gap)) (sym (append_assoc ms (m ∷ []) (x ∷ rest)))

-- a line that is that command
pub command_of : (line : Line) (ms : List Want) (m : Want) (rest : List Want) → line.is_post ≡ false → Names line m → IsPhaseOf line (ms ++ m ∷ rest) (length ms)
command_of line ms m rest part named =
    let less = lt-ltb (length ms) (length (ms ++ m ∷ rest)) (longer ms m rest) in
    record { member = m; there = rw less (get_grown ms m rest); named = named; part = rw less part }

-- .. and back
pub record IsCommandOf (line : Line) (m : Want) : Type 0 where
  pub part : line.is_post ≡ false
  pub named : Names line m

pub of_command : (line : Line) (ms : List Want) (m : Want) (rest : List Want) → IsPhaseOf line (ms ++ m ∷ rest) (length ms) → IsCommandOf line m
of_command line ms m rest is =
    let less = lt-ltb (length ms) (length (ms ++ m ∷ rest)) (longer ms m rest) in
    let there : slice_get (ms ++ m ∷ rest) (length ms) ≡ Some is.member = rw less at is.there in
    let same : Some m ≡ Some is.member = sym (get_grown ms m rest) ∙ there in
    let e : is.member ≡ m = cc in
    record { part = rw less at is.part; named = subst (Names line) e is.named }

-- a beginning of a group is one
Pairs-left : {A : Type 0} (R : A → A → Type 0) (xs ys : List A) → Pairs R (xs ++ ys) → Pairs R xs
Pairs-left R [] ys h = tt
Pairs-left R (x ∷ xs) ys h = (All-left (R x) xs ys h.0, Pairs-left R xs ys h.1)
  where
    All-left : {A : Type 0} (P : A → Type 0) (us vs : List A) → All P (us ++ vs) → All P us
    All-left P [] vs k = tt
    All-left P (u ∷ us) vs k = (k.0, All-left P us vs k.1)

pub Pairs-behind : {A : Type 0} (R : A → A → Type 0) (xs : List A) (y : A) (ys : List A) → Pairs R (xs ++ y ∷ ys) → All (R y) ys
Pairs-behind R [] y ys h = h.0
Pairs-behind R (x ∷ xs) y ys h = Pairs-behind R xs y ys h.1

pub begins_group : (rules : Rules) (ms : List Want) (m : Want) (rest : List Want) → IsGroup rules (ms ++ m ∷ rest) → IsGroup rules (ms ++ m ∷ [])
begins_group rules ms m rest g =
    let same = append_assoc ms (m ∷ []) rest in
    let whole : IsGroup rules ((ms ++ m ∷ []) ++ rest) = subst (IsGroup rules) (sym same) g in
    let one = length-append ms (m ∷ []) in
    let all = length-append (ms ++ m ∷ []) rest in
    part_is_group rules ((ms ++ m ∷ []) ++ rest) (ms ++ m ∷ []) whole (omega arith) (omega arith)
    (Pairs-left (λ a b. a.plane < b.plane) (ms ++ m ∷ []) rest whole.planes)
    (λ x h. Has-append_left (ms ++ m ∷ []) rest x h)
