-- Texts of certificates that remember states, and how they are read.
use Rattle.std.proofs.Common.{◌≡◌, ◌<◌, ◌≤◌, inl, inr, ℕ, zero, suc, ◌+◌, ◌^◌, List, [], ◌∷◌, ◌++◌, Bool, true, false, not, cond, length, drop, get_or, refl, sym, ap, ◌∙◌, subst, arith, length-append, lit<}
use Rattle.std.specs.Prelude.{Option, Some, None, Result, Ok, Err, IfErr, OnOk, is_err, ◌≢◌, ◌==◌}
use mathlib.Core.Bool.{beq}
use Rattle.onfi_cert.specs.declared.fault.LineFault.{LineFault}
use Rattle.onfi_cert.specs.declared.fault.LineFault.TheVariants as of
use Rattle.onfi_cert.specs.Ahead.{ahead_of}
use Rattle.onfi_cert.specs.Reading.{EndsBy, HoldsLine, Line, led}
use Rattle.onfi_cert.specs.Text.{fronted_of}
use Rattle.onfi_cert.specs.Reading.IsWrongAfter.{no_token, no_end, goes_on}
use Rattle.onfi_cert.proofs.Whole.{holds_once, start_holds}
use Rattle.onfi_known_check.specs.declared.token.Token.{Token}
use Rattle.onfi_known_check.specs.Faults.{HasNoToken, IsWrongAt, NoHeader}
use Rattle.onfi_known_check.specs.Text.{Holds, InRange, IsCertificate, IsReading, MOST, header, line, spelling}
use Rattle.onfi_known_check.specs.Word.{token_of}
use Rattle.onfi_known_check.proofs.Spelled.{language}

one_option : (r s : Bool) (xs ys : List ℕ) → header r ++ xs ≡ header s ++ ys → (r ≡ s) × (xs ≡ ys)
one_option false false xs ys e = (refl, ap (drop 20) e)
one_option true true xs ys e = (refl, ap (drop 27) e)
one_option false true xs ys e = absurd (let bad : 51 ≡ 52 = ap (λ l. get_or l 9 0) e in omega arith)
one_option true false xs ys e = absurd (let bad : 52 ≡ 51 = ap (λ l. get_or l 9 0) e in omega arith)

abbrev HoldsUpTo : ℕ → List ℕ → Bool → Line Token → Type 0
HoldsUpTo most text strict read = HoldsLine header InRange spelling most text strict read

-- a limit that isn't met may be greater
more_room : (most : ℕ) (ts : List Token) (bytes : List ℕ) (e : Option LineFault) → MOST ≤ most → e ≢ Some of.TooLong
    → EndsBy InRange spelling MOST ts bytes e → EndsBy InRange spelling most ts bytes e
more_room most ts bytes None more h ends = ends
more_room most ts bytes (Some (of.BadToken p)) more h (at, no_token rest same none room) = (at, no_token rest same none (omega arith))
more_room most ts bytes (Some (of.BadToken p)) more h (at, no_end same) = (at, no_end same)
more_room most ts bytes (Some (of.BadToken p)) more h (at, goes_on b rest same) = (at, goes_on b rest same)
more_room most ts bytes (Some of.TooLong) more h ends = absurd (h refl)

abbrev whole : List Token → Line Token
whole tokens = record { tokens = tokens; fault = None }

certificate_holds : (most : ℕ) (text : List ℕ) (strict : Bool) (ts : List Token) → length ts ≤ most → IsCertificate text strict ts
    → HoldsUpTo most text strict (whole ts)
certificate_holds most text strict ts few c = record { in_range = c.in_range; few = few; bytes = line ts; spelled = c.spelled; ends = refl }

-- a text is that of one option and one list of tokens
pub one_certificate : (text : List ℕ) (r s : Bool) (ts us : List Token) → IsCertificate text r ts → IsCertificate text s us → (r ≡ s) × (ts ≡ us)
one_certificate text r s ts us c d =
    let most : ℕ = length ts + length us in
    let same = holds_once language most header text r s (whole ts) (whole us) one_option
    (certificate_holds most text r ts (omega arith) c) (certificate_holds most text s us (omega arith) d) in
    (same.0, ap (λ (a : Line Token). a.tokens) same.1)

-- a text without a header is no certificate
pub no_certificate : (text : List ℕ) (strict : Bool) (ts : List Token) → NoHeader text → IsCertificate text strict ts → ⊥
no_certificate text strict ts none c = none strict (line ts) c.spelled

-- .. nor is one that goes wrong after its header
pub no_bad_token : (text : List ℕ) (place : ℕ) (strict : Bool) (ts : List Token) → HasNoToken text place → IsCertificate text strict ts → ⊥
no_bad_token text place strict ts (r, a, h, bad) c = by_fault bad
  where
    not_long : IsWrongAt place a → a.fault ≢ Some of.TooLong
    not_long (inl e) q = let differ = sym e ∙ q in cc
    not_long (inr (e, _, _)) q = let differ = sym e ∙ q in cc

    most : ℕ
    most = MOST + length ts

    raised : HoldsUpTo most text r a
    raised = record {
      in_range = h.in_range;
      few = omega (arith, h.few);
      bytes = h.bytes;
      spelled = h.spelled;
      ends = more_room most a.tokens h.bytes a.fault (omega arith) (not_long bad) h.ends;
    }

    same : a ≡ whole ts
    same =
        let certificate = certificate_holds most text strict ts (omega arith) c in
        (holds_once language most header text r strict a (whole ts) one_option raised certificate).1

    by_fault : IsWrongAt place a → ⊥
    by_fault (inl e) = let differ = sym e ∙ ap (λ (x : Line Token). x.fault) same in cc
    by_fault (inr (_, none, _)) =
        let empty = ap length (sym none ∙ ap (λ (x : Line Token). x.tokens) same) in
        let some = c.some in
        absurd (omega arith)

fronted_long : (ts : List Token) → length ts ≤ length (fronted_of spelling ts)
fronted_long [] = omega arith
fronted_long (t ∷ ts) =
    let below = fronted_long ts in
    let long = length-append (spelling t) (fronted_of spelling ts) in
    omega arith

led_long : (b : Bool) (x y : List ℕ) → length x ≤ length y → length (cond b x y) ≤ length y
led_long true x y h = h
led_long false x y h = omega arith

led_length : (bytes : List ℕ) → length (led bytes) ≤ length bytes + 1
led_length [] = omega arith
led_length (b ∷ []) = led_long (b == 10) (b ∷ []) (32 ∷ b ∷ []) (omega arith)
led_length (b ∷ c ∷ rest) = omega arith

header_long : (strict : Bool) → 1 ≤ length (header strict)
header_long true = omega arith
header_long false = omega arith

-- a text has fewer tokens than bytes
not_too_long : (text : List ℕ) (strict : Bool) (a : Line Token) → Holds text strict a → length text < 2 ^ 64 → a.fault ≢ Some of.TooLong
not_too_long text strict a h short e =
    let (full, (more, spelled)) = subst (EndsBy InRange spelling MOST a.tokens h.bytes) e h.ends in
    let long = fronted_long a.tokens in
    let led_is = ap length spelled ∙ length-append (fronted_of spelling a.tokens) (32 ∷ more) in
    let bytes_long = led_length h.bytes in
    let text_long = ap length h.spelled ∙ length-append (header strict) h.bytes in
    let head = header_long strict in
    let all : 2 ^ 64 ≡ MOST + 1 = refl in
    absurd (omega arith)

-- a reader stands before a text's first token
pub begins : {text : List ℕ} {strict : Bool} {source : Line Token} (bytes : List ℕ) → text ≡ header strict ++ bytes → length text < 2 ^ 64
    → source ≡ ahead_of token_of MOST 0 bytes → IsReading text strict source 0 source
begins {text} {strict} {source} bytes e short is = record {
  holds = subst (Holds text strict) (sym is) (start_holds language MOST header strict text bytes e);
  short = short;
  fault_is = refl;
  counted = omega arith;
}

-- fewer tokens are ahead of it than a number may count
pub few_ahead : {text : List ℕ} {strict : Bool} {source : Line Token} → IsReading text strict source 0 source → length source.tokens < 2 ^ 64
few_ahead is =
    let few = is.holds.few in
    let small : MOST < 2 ^ 64 = lit< tt in
    omega arith

-- some tokens of the text were read
pub read_on : {text : List ℕ} {strict : Bool} {source now : Line Token} {place : ℕ} → IsReading text strict source 0 source → now.fault ≡ source.fault
    → place + length now.tokens ≡ length source.tokens → IsReading text strict source place now
read_on is fault counted = record { holds = is.holds; short = is.short; fault_is = fault; counted = counted }

-- a line that was read to its end, where it has a fault
pub missed : {text : List ℕ} {strict : Bool} {a left : Line Token} {place end : ℕ} {now : Option LineFault} (r : Result (Unit {0}) LineFault)
    → IsReading text strict a place left → end ≡ place + length left.tokens → now ≡ left.fault → IfErr r (λ e. now ≡ Some e) → is_err r ≡ true
    → HasNoToken text end
missed (Ok u) is count same told h = cc
missed {text} {strict} {a} (Err of.TooLong) is count same told h =
    absurd (not_too_long text strict a is.holds is.short (sym is.fault_is ∙ sym same ∙ told))
missed {text} {strict} {a} (Err (of.BadToken p)) is count same told h =
    let fault : a.fault ≡ Some (of.BadToken p) = sym is.fault_is ∙ sym same ∙ told in
    let at = (subst (EndsBy InRange spelling MOST a.tokens is.holds.bytes) fault is.holds.ends).0 in
    (strict, a, is.holds, inl (fault ∙ ap (λ n. Some (of.BadToken n)) (at ∙ sym is.counted ∙ sym count)))

-- .. where it has none, and tokens
pub ended : {text : List ℕ} {strict : Bool} {a left : Line Token} {place end : ℕ} {now : Option LineFault} (r : Result (Unit {0}) LineFault)
    → IsReading text strict a place left → end ≡ place + length left.tokens → now ≡ left.fault → OnOk r (now ≡ None) → is_err r ≡ false → end ≢ 0
    → IsCertificate text strict a.tokens
ended (Err e) is count same told h some = cc
ended {text} {strict} {a} {left} {place} {end} (Ok u) is count same told h some =
    let counted : end ≡ length a.tokens = count ∙ is.counted in
    let well = subst (EndsBy InRange spelling MOST a.tokens is.holds.bytes) (sym is.fault_is ∙ sym same ∙ told) is.holds.ends in
    record {
      some = at_least (length a.tokens) (λ e. some (counted ∙ e));
      in_range = is.holds.in_range;
      spelled = is.holds.spelled ∙ ap (λ z. header strict ++ z) well;
    }
  where
    at_least : (n : ℕ) → n ≢ 0 → 1 ≤ n
    at_least zero h = absurd (h refl)
    at_least (suc n) h = omega arith

pub same_flag : (a b : Bool) → not (beq a b) ≡ false → a ≡ b
same_flag true true e = refl
same_flag true false e = cc
same_flag false true e = cc
same_flag false false e = refl

pub other_flag : (a b : Bool) → not (beq a b) ≡ true → a ≢ b
other_flag true true e = cc
other_flag true false e = λ q. cc
other_flag false true e = λ q. cc
other_flag false false e = cc
