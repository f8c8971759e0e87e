-- Lengths are stated of all that is put out of a page of a run's device.
use Rattle.std.proofs.Common.{◌≡◌, ℕ, zero, suc, ◌+◌, ◌*◌, ◌<◌, ◌≤◌, List, true, false, Option, Some, None, refl, ap, ◌∙◌, subst, sym, Ok, arith}
use Rattle.std.specs.Prelude.{◌&&◌, Bool, is_some, map, nat_le, slice_index_or}
use Rattle.std.specs.List.{list_any}
use Rattle.std.proofs.Math.Nat.{one-le-mul}
use Rattle.std.proofs.lemmas.Bool.Decides.{nat_tests}
use Rattle.onfi_addr.specs.declared.geometry.Geometry.{Geometry}
use Rattle.onfi_addr.specs.Rows.{page_bytes_of}
use Rattle.onfi_timing.specs.declared.sheet.Sheet.{Sheet}
use Rattle.onfi_timing.specs.declared.spans.Spans.{Spans}
use Rattle.onfi_timing.specs.declared.strobe_values.StrobeValues.{StrobeValues}
use Rattle.onfi_timing.specs.declared.strobes.Strobes.{Strobes}
use Rattle.onfi_timing.specs.declared.timing.Timing.{Timing}
use Rattle.onfi_timing.specs.declared.values.Values.{Values}
use Rattle.onfi_timing.specs.Kinds.{stated, states_count}
use Rattle.onfi_timing.specs.SectorPosts.{HasPosts, bytes_of, counts, output_time, post_or_none, sector_post, sector_posts, strobed_output}
use Rattle.onfi_timing.specs.Strobes.{bytes_out, ns_up}
use Rattle.onfi_timing.specs.Table.{Gives, command_cycles}
use Rattle.onfi_request.specs.Parts.{has_sectors}
use Rattle.onfi_core.specs.Stated.{StatesParts}
use Rattle.onfi_core.proofs.Stated.{all_stated}
use Rattle.onfi_script.specs.declared.device.PageDevice.{PageDevice}
use Rattle.onfi_script.specs.declared.row.Row.{Row}
use Rattle.onfi_script.specs.declared.row_name.Form.{Form}
use Rattle.onfi_script.specs.declared.row_name.Form.TheVariants.{First, Second}
use Rattle.onfi_script.specs.Device.{IsPageDevice, IsTimed, TellsChips, TellsChipsInForm, TellsPaged, is_page, page_bytes, sector_in}
use Rattle.onfi_script.specs.Layout.{with_sectors}
use Rattle.onfi_script.specs.Seen.{seen}

-- ---- counts
is_post : (o : Option Spans) (post : ℕ) → post_or_none o ≡ post → 1 ≤ post → is_some o ≡ true
is_post None post is some = absurd (omega (arith, is, some))
is_post (Some s) post is some = refl

at_place : (f : ℕ → ℕ) (before : ℕ) → before < 7 → slice_index_or (map f counts) before 0 ≡ f (suc before)
at_place f zero h = refl
at_place f (suc zero) h = refl
at_place f (suc (suc zero)) h = refl
at_place f (suc (suc (suc zero))) h = refl
at_place f (suc (suc (suc (suc zero)))) h = refl
at_place f (suc (suc (suc (suc (suc zero))))) h = refl
at_place f (suc (suc (suc (suc (suc (suc zero)))))) h = refl
at_place f (suc (suc (suc (suc (suc (suc (suc before))))))) h = absurd (omega (arith, h))

has_bytes : (g : Geometry) (count : ℕ) → has_sectors g 0 count ≡ true → bytes_of (page_bytes_of g) g.sector_bytes count ≡ Some (count * g.sector_bytes)
has_bytes g count h =
    let some : nat_le 1 g.sector_bytes ≡ true = grind (arith, nat_tests) in
    let within : nat_le (count * g.sector_bytes) (page_bytes_of g) ≡ true = grind (arith, nat_tests) in
    rw (some, within) refl

-- where each output takes some time, lengths are stated of all counts that a page has
by_time : (time : ℕ → ℕ) → ((bytes : ℕ) → 1 ≤ time bytes) → (g : Geometry) (t : Timing) → HasPosts t (sector_posts time (page_bytes_of g) g.sector_bytes)
    → (count : ℕ) → 1 ≤ count → count < 8 → has_sectors g 0 count ≡ true → states_count t count ≡ true
by_time time some g t has zero h few p = absurd (omega (arith, h))
by_time time some g t has (suc before) h few p =
    let post : ℕ → ℕ = sector_post time (page_bytes_of g) g.sector_bytes in
    let long : post (suc before) ≡ time (suc before * g.sector_bytes) = rw (has_bytes g (suc before) p) refl in
    let there = has before ∙ at_place post before (omega (arith, few)) ∙ long in
    is_post (stated t (suc before)) (time (suc before * g.sector_bytes)) there (some (suc before * g.sector_bytes))

-- ---- outputs take some time
same_cycle : (sheet : Sheet) (v w : Values) → Gives sheet v → Gives sheet w → v.t_wc ≡ w.t_wc
same_cycle sheet v w one other = let a = one.t_wc in let b = other.t_wc in cc

some_cycles : (g : Geometry) (v : Values) → 1 ≤ v.t_wc → 1 ≤ command_cycles g * v.t_wc
some_cycles g v some = one-le-mul (omega arith) some

some_output : (page : List ℕ) (g : Geometry) (v : Values) → 1 ≤ v.t_wc → (bytes : ℕ) → 1 ≤ output_time page g v bytes
some_output page g v some bytes = let cycles = some_cycles g v some in omega (arith, cycles)

some_ns : (plain more : ℕ) → 1 ≤ plain → 1 ≤ ns_up (1000 * plain + more)
some_ns plain more h = omega (arith, h)

some_strobed : (page : List ℕ) (g : Geometry) (v : Values) (s : StrobeValues) → 1 ≤ v.t_wc → (bytes : ℕ) → 1 ≤ strobed_output page g v s bytes
some_strobed page g v s some bytes =
    let cycles = some_cycles g v some in
    some_ns _ (bytes_out s bytes) (omega (arith, cycles))

-- ---- devices
no_sectors : (g : Geometry) (t : Timing) → g.sector_bytes ≡ 0 → StatesParts g t
no_sectors g t none = all_stated g t (λ count h few p. absurd (grind (arith, nat_tests)))

by_sheet : (page : List ℕ) (g : Geometry) (sheet : Sheet) (strobes : Option Strobes) (t : Timing) → IsTimed page g sheet strobes g.sector_bytes t → StatesParts g t
by_sheet page g sheet None t timed =
    let some = subst (λ n. 1 ≤ n) (same_cycle sheet timed.pages.values timed.values timed.pages.given timed.given) timed.pages.write_cycle in
    all_stated g t (by_time (output_time page g timed.values) (some_output page g timed.values some) g t timed.sectors)
by_sheet page g sheet (Some strobes) t timed =
    all_stated g t (by_time (strobed_output page g timed.values timed.strobe_values) (some_strobed page g timed.values timed.strobe_values timed.sheet_gives.write_cycle) g t timed.sectors)

-- a page has the sectors of the row, or none
paged : (bytes : List ℕ) (sheet : Sheet) (strobes : Option Strobes) (sector : ℕ) (g : Geometry) (t : Timing) → IsPageDevice bytes sheet strobes sector g t → StatesParts g t
paged bytes sheet strobes sector g t d = by_fit (nat_le 1 sector && nat_le sector (page_bytes_of d.layout.whole_pages)) refl
  where
    by_fit : (b : Bool) → (nat_le 1 sector && nat_le sector (page_bytes_of d.layout.whole_pages)) ≡ b → StatesParts g t
    by_fit true fits =
        let is : g.sector_bytes ≡ sector = ap (λ (h : Geometry). h.sector_bytes) d.layout.sectors ∙ rw fits refl in
        by_sheet d.page g sheet strobes t (subst (λ n. IsTimed d.page g sheet strobes n t) (sym is) d.timing)
    by_fit false past =
        let same : g.sector_bytes ≡ d.layout.whole_pages.sector_bytes = ap (λ (h : Geometry). h.sector_bytes) d.layout.sectors ∙ rw past refl in
        no_sectors g t (same ∙ d.layout.layout.sector_bytes)

of_page : (rows : List Row) (d : PageDevice) → TellsPaged rows (Ok d) → StatesParts d.geometry d.timing
of_page rows d told = by_page (list_any is_page rows) refl
  where
    by_page : (b : Bool) → list_any is_page rows ≡ b → StatesParts d.geometry d.timing
    by_page true has = paged (page_bytes rows) (seen rows).sheet (seen rows).strobes (sector_in rows) d.geometry d.timing (rw has at told)
    by_page false none = absurd (let no = rw none at told in cc)

in_form : (rows : List Row) (form : Option Form) (d : PageDevice) → TellsChipsInForm rows form (Ok d) → StatesParts d.geometry d.timing
in_form rows None d told = of_page rows d told
in_form rows (Some First) d told = no_sectors d.geometry d.timing told.layout.whole_pages
in_form rows (Some Second) d told = of_page rows d told

-- the device of a run states the lengths of all that a page has
pub chips_stated : (rows : List Row) (d : PageDevice) → TellsChips rows (Ok d) → StatesParts d.geometry d.timing
chips_stated rows d told = in_form rows (seen rows).form d told
