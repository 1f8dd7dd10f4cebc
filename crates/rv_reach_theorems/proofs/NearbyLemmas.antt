-- What leads to a place of its own section, and reaches it, still does where calls are cut and paddings taken out.

use Rattle.std.proofs.Common.{◌≡◌, ℕ, ◌+◌, ◌-◌, ◌*◌, ◌/◌, ◌%◌, ◌^◌, ◌≤◌, ◌<◌, ◌⊎◌, inl, inr, true, List, ℤ, pos, negsuc, ◌+ℤ◌, ◌-ℤ◌, Option, Some, refl, sym, ap, ◌∙◌, subst, arith}
use Rattle.std.specs.Prelude.{unwrap_or}
use Rattle.std.specs.Int.{w64, int_wrap}
use Rattle.std.proofs.lemmas.Int.{ints}
use Rattle.std.proofs.lemmas.Bool.{cases_lt}
use Rattle.rv_isa.specs.declared.kind.Kind.{Kind}
use Rattle.rv_isa.specs.declared.kind.Kind.TheVariants as kinds
use Rattle.rv_size_laws.specs.Offsets.{IsImmediate, Reaches}
use Rattle.rv_size_laws.proofs.ReachingLemmas.{Nearer, Ahead, Behind}
use Rattle.rv_reloc_laws.specs.Ranges.{IsInRange, Takes}
use Rattle.rv_object_laws.specs.Object.{Relocation, Section, Object}
use Rattle.rv_link_laws.specs.Moves.{Move, moves, new_offset}
use Rattle.rv_link_laws.specs.Inputs.{InputSection, start_of}
use Rattle.rv_link_laws.specs.Values.{target, moved}
use Rattle.rv_link_laws.specs.Untaken.{IsTaken}
use Rattle.rv_link_laws.specs.Layout.{Layout, outer_in}
use Rattle.rv_cut_laws.specs.Cutting.{are_cuts}
use Rattle.rv_cut_laws.proofs.ShiftsLemmas as cut
use Rattle.rv_cut_laws.proofs.ShiftsLemmas.{more_dropped}
use Rattle.rv_reach_theorems.specs.Reach.{is_short_branch}
use Rattle.rv_reach_theorems.proofs.MovingLemmas as padding
use Rattle.rv_reach_theorems.proofs.MovingLemmas.{IsPaddedText}
use Rattle.rv_reach_theorems.proofs.NearsLemmas.{half_of}
use Rattle.rv_reach_theorems.proofs.ReachedLemmas.{value_is, jump_range, not_odd}

-- ---- no farther apart

pub nearer_of : (a b c d : ℕ) → a % 2 ≡ 0 → b % 2 ≡ 0 → c % 2 ≡ 0 → d % 2 ≡ 0 → (a ≤ b → (c ≤ d) × (d + a ≤ c + b)) → (b ≤ a → (d ≤ c) × (c + b ≤ d + a))
    → Nearer (pos d -ℤ pos c) (pos b -ℤ pos a)
nearer_of a b c d ea eb ec ed up down = by (cases_lt b a)
  where
    by : (b < a) ⊎ (a ≤ b) → Nearer (pos d -ℤ pos c) (pos b -ℤ pos a)
    by (inr le) =
        let both = up le in
        let p = both.0 in
        let q = both.1 in
        let m = (c + b - (d + a)) / 2 in
        let half : c + b ≡ d + a + 2 * m = omega (arith, q, ea, eb, ec, ed) in
        Ahead m (omega (arith, ints, p)) (omega (arith, ints, half))
    by (inl less) =
        let both = down (omega (arith, less)) in
        let p = both.0 in
        let q = both.1 in
        let m = (d + a - (c + b)) / 2 in
        let half : d + a ≡ c + b + 2 * m = omega (arith, q, ea, eb, ec, ed) in
        Behind m (omega (arith, ints, p)) (omega (arith, ints, half))

-- in a section with these calls cut, and then its paddings taken out
module _ (size : ℕ) (ms : List Move) (order : are_cuts 0 size ms ≡ true) (s : Section) (padded : IsPaddedText s) (start : ℕ) where
  abbrev left : ℕ → ℕ
  left n = new_offset (moves start s) (new_offset ms n)

  left_even : (n : ℕ) → n % 2 ≡ 0 → left n % 2 ≡ 0
  left_even n e =
      let a = cut.stays_even 0 size n ms order e in
      let b = padding.drops_even start (new_offset ms n) s padded a in
      let c = padding.within start (new_offset ms n) s padded in
      omega (arith, a, b, c)

  left_closer : (a b : ℕ) → a ≤ b → (left a ≤ left b) × (left b + a ≤ left a + b)
  left_closer a b le =
      let up = cut.rising 0 size a b ms order le in
      let low_a = cut.within 0 size a ms order in
      let low_b = cut.within 0 size b ms order in
      let more = more_dropped a b ms le in
      let up' = padding.rises start (new_offset ms a) (new_offset ms b) s padded up in
      let more' = more_dropped (new_offset ms a) (new_offset ms b) (moves start s) up in
      let pad_a = padding.within start (new_offset ms a) s padded in
      let pad_b = padding.within start (new_offset ms b) s padded in
      (up', omega (arith, low_a, low_b, more, more', pad_a, pad_b, up))

  pub closer : (a b : ℕ) → a % 2 ≡ 0 → b % 2 ≡ 0 → Nearer (pos (start + left b) -ℤ pos (start + left a)) (pos b -ℤ pos a)
  closer a b ea eb =
      subst (λ z. Nearer z (pos b -ℤ pos a)) (let x = left a in let y = left b in let e : pos y -ℤ pos x ≡ pos (start + y) -ℤ pos (start + x) = omega (arith, ints) in e)
      (nearer_of a b (left a) (left b) ea eb (left_even a ea) (left_even b eb) (left_closer a b) (left_closer b a))

-- ---- fields

branch_range : (z : ℤ) → IsImmediate (2 ^ 12) z → IsInRange kinds.Branch z
branch_range (pos n) h = let even : n % 2 ≡ 0 = h.even in let high = h.high in (omega (arith, ints), omega (arith, ints, even, high))
branch_range (negsuc n) h = let low = h.low in (omega (arith, ints, low), omega (arith, ints))

short_range : (z : ℤ) → IsImmediate (2 ^ 8) z → IsInRange kinds.RvcBranch z
short_range (pos n) h = let even : n % 2 ≡ 0 = h.even in let high = h.high in (omega (arith, ints), omega (arith, ints, even, high))
short_range (negsuc n) h = let low = h.low in (omega (arith, ints, low), omega (arith, ints))

-- a branch to a place that has an address, and that it reaches from its own
module _ (us : List Object) (p : Layout) (i : InputSection) (place : ℕ) (symbol : Option ℕ) (addend : ℤ) (to from : ℕ) (low : to < 2 ^ 64)
    (target_is : target (outer_in us p) (p.starts i.file) i.object symbol ≡ Some (to % 2 ^ 64)) (from_is : moved (start_of p.starts i) i.section place ≡ from) where
  abbrev it : Kind → Relocation
  it kind = record { place = place; kind = kind; symbol = symbol; addend = addend }

  abbrev away : ℤ
  away = (pos to -ℤ pos from) +ℤ addend

  worth_is : (half : ℕ) → half ≤ 2 ^ 20 → IsImmediate half away
      → int_wrap w64 ((pos (unwrap_or (target (outer_in us p) (p.starts i.file) i.object symbol) 0) +ℤ addend) -ℤ pos (moved (start_of p.starts i) i.section place)) ≡ away
  worth_is half most h =
      ap (λ n. int_wrap w64 ((pos (unwrap_or (target (outer_in us p) (p.starts i.file) i.object symbol) 0) +ℤ addend) -ℤ pos n)) from_is
      ∙ value_is to (unwrap_or (target (outer_in us p) (p.starts i.file) i.object symbol) 0) from addend half most h low (ap (λ o. unwrap_or o 0) target_is)

  pub taken_by : (kind : Kind) → is_short_branch kind ≡ true → Reaches (half_of kind) addend (pos to -ℤ pos from) → IsTaken us p i (it kind)
  taken_by kinds.Branch short r = record {
    found = refl;
    alone = λ e. absurd (cc);
    takes = subst (Takes kinds.Branch) (sym (worth_is (2 ^ 12) (omega arith) r.added)) (record { range = branch_range away r.added; even = λ e odd. not_odd away r.added.even odd });
  }
  taken_by kinds.RvcBranch short r = record {
    found = refl;
    alone = λ e. absurd (cc);
    takes = subst (Takes kinds.RvcBranch) (sym (worth_is (2 ^ 8) (omega arith) r.added)) (record { range = short_range away r.added; even = λ e odd. not_odd away r.added.even odd });
  }
  taken_by kinds.RvcJump short r = record {
    found = refl;
    alone = λ e. absurd (cc);
    takes = subst (Takes kinds.RvcJump) (sym (worth_is (2 ^ 11) (omega arith) r.added)) (record { range = jump_range away r.added; even = λ e odd. not_odd away r.added.even odd });
  }
  taken_by _ short r = absurd (cc)
