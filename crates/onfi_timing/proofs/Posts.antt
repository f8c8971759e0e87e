-- Posts of reads of some sectors, one count after another.
use Rattle.std.proofs.Common.{◌≡◌, ◌≢◌, ◌<◌, ◌≤◌, ℕ, zero, suc, ◌+◌, List, length, Bool, true, false, None, refl, sym, ap, ◌∙◌, arith}
use Rattle.std.specs.Prelude.{◌==◌, nat_lt, slice_index_or}
use Rattle.std.proofs.lemmas.Bool.{eqb-true, eqb-false, ltb-true, ltb-false}
use Rattle.std.proofs.lemmas.List.{get_or_past}
use Rattle.onfi_addr.specs.declared.geometry.Geometry.{Geometry}
use Rattle.onfi_timing.specs.declared.sheet.Sheet.{Sheet}
use Rattle.onfi_timing.specs.declared.strobes.Strobes.{Strobes}
use Rattle.onfi_timing.specs.declared.timing.Timing.{Timing}
use Rattle.onfi_timing.specs.Kinds.{stated}
use Rattle.onfi_timing.specs.SectorPosts.{HasPages, HasPosts, post_or_none}
use Rattle.onfi_timing.specs.Strobes.{IsStrobedTiming}

-- the first `at` posts are stated, and no others
pub record Stating (before timing : Timing) (posts : List ℕ) (at : ℕ) : Type 0 where
  pub pages : HasPages before timing
  pub done : (n : ℕ) → n < at → post_or_none (stated timing (suc n)) ≡ slice_index_or posts n 0
  pub more : (n : ℕ) → at ≤ n → stated timing (suc n) ≡ None

-- one post more
pub stated_too : (before timing after : Timing) (posts : List ℕ) (at : ℕ) → Stating before timing posts at → HasPages timing after
    → post_or_none (stated after (suc at)) ≡ slice_index_or posts at 0
    → ((n : ℕ) → n ≢ at → stated after (suc n) ≡ stated timing (suc n)) → Stating before after posts (at + 1)
stated_too before timing after posts at so_far pages own others = record {
  pages = record { read = pages.read ∙ so_far.pages.read; program = pages.program ∙ so_far.pages.program; erase = pages.erase ∙ so_far.pages.erase };
  done = λ n h. by_place n h (n == at) refl;
  more = λ n h. others n (λ e. absurd (omega arith)) ∙ so_far.more n (omega arith);
}
  where
    by_place : (n : ℕ) → n < at + 1 → (b : Bool) → (n == at) ≡ b → post_or_none (stated after (suc n)) ≡ slice_index_or posts n 0
    by_place n h true e = let same : n ≡ at = eqb-true n at e in rw same own
    by_place n h false e = let other = eqb-false n at e in let less : n < at = omega arith in ap post_or_none (others n other) ∙ so_far.done n less

-- the lengths of pages are those by strobes, whatever is stated of sectors
pub strobed_too : (page : List ℕ) (g : Geometry) (sheet : Sheet) (strobes : Strobes) (before after : Timing) → HasPages before after
    → IsStrobedTiming page g sheet strobes before → IsStrobedTiming page g sheet strobes after
strobed_too page g sheet strobes before after same was = record {
  values = was.values;
  sheet_gives = was.sheet_gives;
  strobe_values = was.strobe_values;
  strobes_give = was.strobes_give;
  none_missing = was.none_missing;
  read_cycle = was.read_cycle;
  write_cycle = was.write_cycle;
  table = record {
    read = rw same.read was.table.read;
    program = rw same.program was.table.program;
    erase = rw same.erase was.table.erase;
  };
}

-- all seven
pub all_stated : (before timing : Timing) (posts : List ℕ) → Stating before timing posts 7 → length posts ≡ 7 → HasPosts timing posts
all_stated before timing posts all long n = by_order (nat_lt n 7) refl
  where
    by_order : (b : Bool) → nat_lt n 7 ≡ b → post_or_none (stated timing (suc n)) ≡ slice_index_or posts n 0
    by_order true e = all.done n (ltb-true n 7 e)
    by_order false e =
        let many : 7 ≤ n = ltb-false n 7 e in
        let past : length posts ≤ n = omega arith in
        ap post_or_none (all.more n many) ∙ sym (get_or_past posts n 0 past)
