-- A plan text, read line by line.
use Rattle.std.proofs.Common.{◌≡◌, ◌<◌, ℕ, true, false, List, [], ◌∷◌, length, Ok, Err, Some, None, refl, sym, ap, ◌∙◌, arith, cond, codes}
use Rattle.std.specs.Prelude.{Option, Result, option_map}
use Rattle.std.specs.List.{join_with_byte}
use Rattle.std.specs.Str.{bytes_eq}
use Rattle.std.proofs.lemmas.List.Splits.{join_with_byte-slice_split}
use Rattle.onfi_request.specs.declared.want.Want.{Want}
use Rattle.onfi_script.specs.declared.plan_line.Line.{Line}
use Rattle.onfi_log.specs.Parts.{parts}
use Rattle.onfi_script.specs.PlanLine.{line_of, finish_of, below_of}
use Rattle.onfi_script.specs.PlanText.{Plan, takes, with_line, next_number, is_certificate, told, grown, plan_after, opened, behind_head, behind_finish, below_first}
use Rattle.onfi_log.proofs.PartsLemmas.{some_parts}

head_taken : (head : List ℕ) (more : List (List ℕ)) → 0 < length more → bytes_eq head (codes "ONFIPLAN 1") ≡ true → opened (head ∷ more) ≡ behind_head more
head_taken head [] h e = absurd (omega arith)
head_taken head (next ∷ more) h e = ap (λ b. cond b (behind_head (next ∷ more)) (Err 1)) e

finish_taken : (line : List ℕ) (more : List (List ℕ)) → 0 < length more → behind_head (line ∷ more) ≡ behind_finish (finish_of line) more
finish_taken line [] h = absurd (omega arith)
finish_taken line (next ∷ more) h = refl

pub finish_told : (text head behind line left : List ℕ) (o : Option ℕ) → parts 10 text ≡ head ∷ parts 10 behind → bytes_eq head (codes "ONFIPLAN 1") ≡ true
    → parts 10 behind ≡ line ∷ parts 10 left → o ≡ finish_of line → opened (parts 10 text) ≡ behind_finish o (parts 10 left)
finish_told text head behind line left o cut is second told' =
    ap opened cut ∙ head_taken head (parts 10 behind) (some_parts 10 behind) is
    ∙ ap behind_head second ∙ finish_taken line (parts 10 left) (some_parts 10 left)
    ∙ ap (λ o. behind_finish o (parts 10 left)) (sym told')

pub below_taken : (line : List ℕ) (more : List (List ℕ)) → 0 < length more → below_first (line ∷ more) ≡ option_map (λ below. (below, more)) (below_of line)
below_taken line [] h = absurd (omega arith)
below_taken line (next ∷ more) h = refl

walked : (wants : List Want) (plan : Plan) (line : List ℕ) (more : List (List ℕ)) → 0 < length more
    → plan_after wants plan (line ∷ more)
    ≡ cond (is_certificate line) (Ok (plan, join_with_byte 10 (line ∷ more))) (told (next_number plan) (grown plan (line_of wants line)) (λ plan. plan_after wants plan more))
unfolding plan_after
walked wants plan line [] h = absurd (omega arith)
walked wants plan line (next ∷ more) h = refl

pub plan_ended : (wants : List Want) (plan : Plan) (left line behind : List ℕ) (all : Result (Plan × List ℕ) ℕ) → parts 10 left ≡ line ∷ parts 10 behind → is_certificate line ≡ true
    → all ≡ plan_after wants plan (parts 10 left) → all ≡ Ok (plan, left)
plan_ended wants plan left line behind all cut is e =
    e ∙ ap (plan_after wants plan) cut ∙ walked wants plan line (parts 10 behind) (some_parts 10 behind)
    ∙ ap (λ b. cond b (Ok (plan, join_with_byte 10 (line ∷ parts 10 behind))) (told (next_number plan) (grown plan (line_of wants line)) (λ plan. plan_after wants plan (parts 10 behind)))) is
    ∙ ap (λ l. let r : Result (Plan × List ℕ) ℕ = Ok (plan, join_with_byte 10 l) in r) (sym cut)
    ∙ ap (λ t. let r : Result (Plan × List ℕ) ℕ = Ok (plan, t) in r) (join_with_byte-slice_split 10 left)

gone_on : (wants : List Want) (plan : Plan) (left line behind : List ℕ) (o : Option Line) (all : Result (Plan × List ℕ) ℕ) → parts 10 left ≡ line ∷ parts 10 behind → is_certificate line ≡ false
    → o ≡ line_of wants line → all ≡ plan_after wants plan (parts 10 left) → all ≡ told (next_number plan) (grown plan o) (λ plan. plan_after wants plan (parts 10 behind))
gone_on wants plan left line behind o all cut is said e =
    e ∙ ap (plan_after wants plan) cut ∙ walked wants plan line (parts 10 behind) (some_parts 10 behind)
    ∙ ap (λ b. cond b (Ok (plan, join_with_byte 10 (line ∷ parts 10 behind))) (told (next_number plan) (grown plan (line_of wants line)) (λ plan. plan_after wants plan (parts 10 behind)))) is
    ∙ ap (λ o. told (next_number plan) (grown plan o) (λ plan. plan_after wants plan (parts 10 behind))) (sym said)

pub read_on : (wants : List Want) (plan : Plan) (left line behind : List ℕ) (next : Plan) (all : Result (Plan × List ℕ) ℕ) → parts 10 left ≡ line ∷ parts 10 behind → is_certificate line ≡ false
    → grown plan (line_of wants line) ≡ Some next → all ≡ plan_after wants plan (parts 10 left) → all ≡ plan_after wants next (parts 10 behind)
read_on wants plan left line behind next all cut is more e =
    gone_on wants plan left line behind (line_of wants line) all cut is refl e ∙ ap (λ o. told (next_number plan) o (λ plan. plan_after wants plan (parts 10 behind))) more

pub read_wrong : (wants : List Want) (plan : Plan) (left line behind : List ℕ) (number : ℕ) (all : Result (Plan × List ℕ) ℕ) → parts 10 left ≡ line ∷ parts 10 behind → is_certificate line ≡ false
    → grown plan (line_of wants line) ≡ None → number ≡ next_number plan → all ≡ plan_after wants plan (parts 10 left) → all ≡ Err number
read_wrong wants plan left line behind number all cut is none same e =
    gone_on wants plan left line behind (line_of wants line) all cut is refl e ∙ ap (λ o. told (next_number plan) o (λ plan. plan_after wants plan (parts 10 behind))) none ∙ ap Err (sym same)

pub line_taken : (wants : List Want) (plan : Plan) (left line behind : List ℕ) (l : Line) (next : Plan) (all : Result (Plan × List ℕ) ℕ) → parts 10 left ≡ line ∷ parts 10 behind → is_certificate line ≡ false
    → Some l ≡ line_of wants line → takes plan l ≡ true → next ≡ with_line plan l → all ≡ plan_after wants plan (parts 10 left) → all ≡ plan_after wants next (parts 10 behind)
line_taken wants plan left line behind l next all cut is said takes' more e =
    gone_on wants plan left line behind (Some l) all cut is said e
    ∙ ap (λ b. told (next_number plan) (cond b (Some (with_line plan l)) None) (λ plan. plan_after wants plan (parts 10 behind))) takes'
    ∙ ap (λ p. plan_after wants p (parts 10 behind)) (sym more)

pub text_ended : (wants : List Want) (plan : Plan) (left : List ℕ) (all : Result (Plan × List ℕ) ℕ) → parts 10 left ≡ left ∷ []
    → all ≡ plan_after wants plan (parts 10 left) → all ≡ Err (next_number plan)
unfolding plan_after
text_ended wants plan left all none e = e ∙ ap (plan_after wants plan) none
