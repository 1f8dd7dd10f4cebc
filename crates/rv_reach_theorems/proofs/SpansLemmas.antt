-- Where the places of a text stand once it is placed: as far apart as the sizes of its calls have them, but for what its
-- paddings drop, which is more the further on a place is.

use Rattle.std.proofs.Common.{◌≡◌, ℕ, zero, suc, ◌+◌, ◌-◌, ◌*◌, ◌/◌, ◌%◌, ◌<◌, ◌≤◌, ◌⊎◌, inl, inr, Bool, true, false, ◌&&◌, nat_lt, max, List, [], ◌∷◌, ◌++◌, map, Some, pos, ◌-ℤ◌, refl, sym, ap, subst, ◌∙◌, arith}
use Rattle.std.specs.Prelude.{◌==◌, filter, if◌then◌else◌}
use Rattle.std.specs.List.{AllByRecursion, slice_get}
use Rattle.std.proofs.lemmas.Int.{ints}
use Rattle.std.proofs.lemmas.Bool.{and_parts}
use Rattle.rv_size_laws.specs.Alignment.{aligned}
use Rattle.rv_isa.specs.declared.kind.Kind.TheVariants as kinds
use Rattle.rv_size_laws.specs.Calls as layout
use Rattle.rv_size_laws.specs.Calls.{InOrder}
use Rattle.rv_size_laws.proofs.ReachingLemmas.{Nearer, Ahead, Behind}
use Rattle.rv_size_laws.proofs.DroppingLemmas.{dropped_most}
use Rattle.rv_size_laws.proofs.AlignmentLemmas.{aligned_even}
use Rattle.rv_object_laws.specs.Object.{Relocation, Section, Object, size_of}
use Rattle.rv_object_laws.specs.Valid.{is_align}
use Rattle.rv_link_laws.specs.Moves.{Move, dropped, new_offset, full_padding, has_padding, alignment_of, by_place, alignments_of, moves}
use Rattle.rv_link_laws.specs.Inputs.{Starts, InputSection, goes_to_text, inputs_from, inputs_of, raised, begins_at, start_of, size, Stand}
use Rattle.rv_link_laws.specs.CallSites.{is_call, start_padding, base, sites_of}
use Rattle.rv_link_laws.specs.Shortened.{Sizes, sizes_by, is_shortened, cuts, shortened_kind, shortened_relocation, shortened_text, shortened_section, shortened_sections, shortened_object, shortened_from}
use Rattle.rv_link_laws.proofs.ListsLemmas.{above}
use Rattle.rv_link_laws.proofs.MovesLemmas.{raised_inserted}
use Rattle.rv_link_laws.proofs.InputsLemmas.{raised_most}
use Rattle.rv_cut_laws.proofs.CallKindsLemmas.{call_no_align}
use Rattle.rv_cut_laws.proofs.ShiftsLemmas as cut
use Rattle.rv_cut_laws.proofs.ShiftsLemmas.{more_dropped}
use Rattle.rv_unique_theorems.proofs.MultiplesLemmas.{aligned_near}
use Rattle.rv_reach_theorems.proofs.MovingLemmas as padding
use Rattle.rv_reach_theorems.proofs.MovingLemmas.{IsPaddedText}
use Rattle.rv_reach_theorems.proofs.LinesLemmas.{IsFramed, Frames}

-- ---- what is left of a section

abbrev pub left_section : List Object → List ℕ → InputSection → Section
left_section os kept i = shortened_text (sizes_by os kept i.file i.index) i.section

abbrev pub left_input : List Object → List ℕ → InputSection → InputSection
left_input os kept i = record {
  file = i.file;
  object = shortened_object (sizes_by os kept i.file) i.object;
  index = i.index;
  section = left_section os kept i;
}

module _ (os : List Object) (kept : List ℕ) where
  lefts_from : (file : ℕ) (o : Object) (index : ℕ) (ss : List Section)
      → inputs_from goes_to_text file (shortened_object (sizes_by os kept file) o) index (shortened_sections (sizes_by os kept file) index ss) ≡ map (left_input os kept) (inputs_from goes_to_text file o index ss)
  lefts_from file o index [] = refl
  lefts_from file o index (s ∷ ss) = go (goes_to_text s) refl (lefts_from file o (suc index) ss)
    where
      rest : List InputSection
      rest = inputs_from goes_to_text file (shortened_object (sizes_by os kept file) o) (suc index) (shortened_sections (sizes_by os kept file) (suc index) ss)

      more : List InputSection
      more = inputs_from goes_to_text file o (suc index) ss

      own : Section → InputSection
      own x = record { file = file; object = shortened_object (sizes_by os kept file) o; index = index; section = x }

      here : InputSection
      here = record { file = file; object = o; index = index; section = s }

      left : Section
      left = shortened_text (sizes_by os kept file index) s

      go : (b : Bool) → goes_to_text s ≡ b → rest ≡ map (left_input os kept) more
          → (if goes_to_text (shortened_section (sizes_by os kept file index) s) then own (shortened_section (sizes_by os kept file index) s) ∷ rest else rest)
          ≡ map (left_input os kept) (if goes_to_text s then here ∷ more else more)
      go true e ih =
          ap (λ b. if goes_to_text (if b then left else s) then own (if b then left else s) ∷ rest else rest) e
          ∙ ap (λ b. if b then own left ∷ rest else rest) e ∙ ap (λ l. own left ∷ l) ih
          ∙ ap (λ b. map (left_input os kept) (if b then here ∷ more else more)) (sym e)
      go false e ih =
          ap (λ b. if goes_to_text (if b then left else s) then own (if b then left else s) ∷ rest else rest) e
          ∙ ap (λ b. if b then own s ∷ rest else rest) e ∙ ih
          ∙ ap (λ b. map (left_input os kept) (if b then here ∷ more else more)) (sym e)

  map_join : (xs ys : List InputSection) → map (left_input os kept) (xs ++ ys) ≡ map (left_input os kept) xs ++ map (left_input os kept) ys
  map_join [] ys = refl
  map_join (x ∷ xs) ys = ap (λ l. left_input os kept x ∷ l) (map_join xs ys)

  pub lefts : (file : ℕ) (us : List Object) → inputs_of goes_to_text file (shortened_from (sizes_by os kept) file us) ≡ map (left_input os kept) (inputs_of goes_to_text file us)
  lefts file [] = refl
  lefts file (o ∷ us) =
      ap (λ l. l ++ inputs_of goes_to_text (suc file) (shortened_from (sizes_by os kept) (suc file) us)) (lefts_from file o 0 o.sections)
      ∙ ap (λ l. map (left_input os kept) (inputs_from goes_to_text file o 0 o.sections) ++ l) (lefts (suc file) us)
      ∙ sym (map_join (inputs_from goes_to_text file o 0 o.sections) (inputs_of goes_to_text (suc file) us))

-- ---- it begins at the same multiple

raised_ordered : (rs : List Relocation) (a : ℕ) → raised (by_place rs) a ≡ raised rs a
raised_ordered [] a = refl
raised_ordered (r ∷ rs) a = raised_inserted r (by_place rs) a ∙ ap (λ n. max (alignment_of r) n) (raised_ordered rs a)

align_stays : (sizes : Sizes) (r : Relocation) → is_align (shortened_kind sizes r) ≡ is_align r.kind
align_stays sizes r = by (is_shortened sizes r) refl
  where
    two : (c : Bool) → is_align (if c then kinds.RvcJump else kinds.Jal) ≡ false
    two true = refl
    two false = refl

    by : (b : Bool) → is_shortened sizes r ≡ b → is_align (if b then (if sizes r.place == 2 then kinds.RvcJump else kinds.Jal) else r.kind) ≡ is_align r.kind
    by false e = refl
    by true e = two (sizes r.place == 2) ∙ sym (call_no_align r.kind (and_parts (is_call r.kind) (nat_lt (sizes r.place) 8) e).0)

raised_left : (sizes : Sizes) (ms : List Move) (rs : List Relocation) (a : ℕ)
    → raised (filter has_padding (map (shortened_relocation sizes ms) rs)) a ≡ raised (filter has_padding rs) a
raised_left sizes ms [] a = refl
raised_left sizes ms (r ∷ rs) a =
    ap (λ b. raised (if b && nat_lt 0 (full_padding r) then shortened_relocation sizes ms r ∷ more else more) a) (align_stays sizes r) ∙ by (has_padding r) (raised_left sizes ms rs a)
  where
    more : List Relocation
    more = filter has_padding (map (shortened_relocation sizes ms) rs)

    by : (b : Bool) → raised more a ≡ raised (filter has_padding rs) a
        → raised (if b then shortened_relocation sizes ms r ∷ more else more) a ≡ raised (if b then r ∷ filter has_padding rs else filter has_padding rs) a
    by true ih = ap (λ n. max (alignment_of r) n) ih
    by false ih = ih

pub begins_same : (sizes : Sizes) (s : Section) → goes_to_text s ≡ true → begins_at (shortened_text sizes s) ≡ begins_at s
begins_same sizes s text =
    let a = max (if goes_to_text s then 2 else 1) s.alignment in
    let new = map (shortened_relocation sizes (cuts sizes s)) s.relocations in
    ap (λ b. raised (if b then by_place (filter has_padding new) else []) a) text
    ∙ raised_ordered (filter has_padding new) a
    ∙ raised_left sizes (cuts sizes s) s.relocations a
    ∙ sym (raised_ordered (filter has_padding s.relocations) a)
    ∙ ap (λ b. raised (if b then by_place (filter has_padding s.relocations) else []) a) (sym text)

pub begins_some : (s : Section) → goes_to_text s ≡ true → 2 ≤ begins_at s
begins_some s text =
    let a = s.alignment in
    let most = raised_most (alignments_of s) (max (if goes_to_text s then 2 else 1) s.alignment) in
    let two = ap (λ b. max (if b then 2 else 1) s.alignment) text in
    omega (arith, most, two)

-- ---- what is known of a section, by itself

pub record IsPlain (os : List Object) (kept : List ℕ) (i : InputSection) : Type 0 where
  pub text : goes_to_text i.section ≡ true
  pub padded : IsPaddedText (left_section os kept i)
  pub even : begins_at i.section % 2 ≡ 0
  pub even_size : size_of i.section.contents % 2 ≡ 0
  pub ends : size_of (left_section os kept i).contents ≡ new_offset (cuts (sizes_by os kept i.file i.index) i.section) (size_of i.section.contents)

module _ (os : List Object) (kept : List ℕ) (start : ℕ) (starts : Starts) where
  abbrev pub taken : InputSection → List Move
  taken i = cuts (sizes_by os kept i.file i.index) i.section

  -- how much paddings of a section drop before an offset
  abbrev pub padded : InputSection → ℕ → ℕ
  padded i n = dropped (moves (starts i.file i.index) (left_section os kept i)) (new_offset (taken i) n)

  -- where an offset of a section comes to stand
  abbrev pub address : InputSection → ℕ → ℕ
  address i n = starts i.file i.index + new_offset (moves (starts i.file i.index) (left_section os kept i)) (new_offset (taken i) n)

  -- and where the sizes of calls alone put it
  abbrev pub line : InputSection → ℕ → ℕ
  line i n = base os i.file i.index + n

  abbrev pub gone_at : InputSection → ℕ → ℕ
  gone_at i n = layout.dropped (sites_of os) kept (line i n)

  -- a place behind an address, before which paddings drop no less than so much
  pub record IsPlaced (stop extra : ℕ) (i : InputSection) (n : ℕ) : Type 0 where
    pub more : ℕ
    pub whole : start + line i n ≡ gone_at i n + address i n + more
    pub above : stop ≤ address i n
    pub rises : extra ≤ more
    pub even : layout.new_offset (sites_of os) kept (line i n) % 2 ≡ 0 → more % 2 ≡ 0
    pub stays : n % 2 ≡ 0 → layout.new_offset (sites_of os) kept (line i n) % 2 ≡ 0

  -- two places, one before the other
  pub record AreInLine (i : InputSection) (n : ℕ) (j : InputSection) (m : ℕ) : Type 0 where
    pub less : ℕ
    pub more : ℕ
    pub first : start + line i n ≡ gone_at i n + address i n + less
    pub second : start + line j m ≡ gone_at j m + address j m + more
    pub above : address i n ≤ address j m
    pub rises : less ≤ more
    pub even_first : layout.new_offset (sites_of os) kept (line i n) % 2 ≡ 0 → less % 2 ≡ 0
    pub even_second : layout.new_offset (sites_of os) kept (line j m) % 2 ≡ 0 → more % 2 ≡ 0

  -- ---- one section

  module _ (at gone stop extra : ℕ) (i : InputSection) (frame : IsFramed os kept at gone i) (plain : IsPlain os kept i) (start_is : starts i.file i.index ≡ aligned (begins_at (left_section os kept i)) stop)
      (whole : start + at ≡ gone + stop + extra) (even_start : start % 2 ≡ 0) (even_stop : stop % 2 ≡ 0) (even_extra : extra % 2 ≡ 0) (order : InOrder 0 (sites_of os)) where
    abbrev pad : ℕ
    pad = start_padding i.section

    abbrev s0 : ℕ
    s0 = starts i.file i.index

    begins : s0 ≡ aligned (begins_at i.section) stop
    begins = start_is ∙ ap (λ n. aligned n stop) (begins_same (sizes_by os kept i.file i.index) i.section plain.text)

    start_above : stop ≤ s0
    start_above =
        let some = begins_some i.section plain.text in
        let up = above (begins_at i.section) stop (omega (arith, some)) in
        let e = begins in omega (arith, up, e)

    start_even : s0 % 2 ≡ 0
    start_even = ap (λ n. n % 2) begins ∙ aligned_even (begins_at i.section) stop plain.even

    start_near : s0 ≤ stop + pad
    start_near =
        let near = aligned_near (begins_at i.section) stop in
        let e = begins in
        let a = begins_at i.section in
        let some = begins_some i.section plain.text in
        let even = plain.even in
        let even_s = start_even in
        omega (arith, near, e, some, even, even_s, even_stop)

    abbrev ahead : ℕ
    ahead = stop + start_padding i.section - starts i.file i.index

    even_ahead : ahead % 2 ≡ 0
    even_ahead =
        let a = begins_at i.section in
        let some = begins_some i.section plain.text in
        let even = plain.even in
        let even_s = start_even in
        let near = start_near in
        omega (arith, some, even, even_s, near, even_stop)

    abbrev excess : ℕ → ℕ
    excess n = extra + (stop + start_padding i.section - starts i.file i.index) + padded i n

    cut_low : (n : ℕ) → dropped (taken i) n ≤ n
    cut_low n = cut.within 0 (size_of i.section.contents) n (taken i) frame.allowed.order

    padded_low : (n : ℕ) → padded i n ≤ new_offset (taken i) n
    padded_low n = padding.within s0 (new_offset (taken i) n) (left_section os kept i) plain.padded

    gone_is : (n : ℕ) → n ≤ size_of i.section.contents → gone_at i n ≡ gone + dropped (taken i) n
    gone_is n le = ap (λ b. layout.dropped (sites_of os) kept (b + n)) frame.begins ∙ frame.drops n le

    whole_at : (n : ℕ) → n ≤ size_of i.section.contents → start + line i n ≡ gone_at i n + address i n + excess n
    whole_at n le =
        let b = frame.begins in
        let g = gone_is n le in
        let c = cut_low n in
        let p = padded_low n in
        let near = start_near in
        let up = start_above in
        omega (arith, whole, b, g, c, p, near, up)

    line_is : (n : ℕ) → n ≤ size_of i.section.contents → layout.new_offset (sites_of os) kept (line i n) + start ≡ stop + extra + pad + new_offset (taken i) n
    line_is n le =
        let b = frame.begins in
        let g = gone_is n le in
        let c = cut_low n in
        let low = dropped_most (sites_of os) kept (line i n) order in
        omega (arith, whole, b, g, c, low)

    even_pad : pad % 2 ≡ 0
    even_pad = let some = begins_some i.section plain.text in let even = plain.even in omega (arith, some, even)

    left_even : (n : ℕ) → n ≤ size_of i.section.contents → layout.new_offset (sites_of os) kept (line i n) % 2 ≡ 0 → new_offset (taken i) n % 2 ≡ 0
    left_even n le even = let e = line_is n le in let p = even_pad in omega (arith, e, p, even, even_start, even_stop, even_extra)

    line_even : (n : ℕ) → n ≤ size_of i.section.contents → new_offset (taken i) n % 2 ≡ 0 → layout.new_offset (sites_of os) kept (line i n) % 2 ≡ 0
    line_even n le even = let e = line_is n le in let p = even_pad in omega (arith, e, p, even, even_start, even_stop, even_extra)

    excess_even : (n : ℕ) → new_offset (taken i) n % 2 ≡ 0 → excess n % 2 ≡ 0
    excess_even n even =
        let d = padding.drops_even s0 (new_offset (taken i) n) (left_section os kept i) plain.padded even in
        let a = even_ahead in omega (arith, d, a, even_extra)

    cut_even : (n : ℕ) → n % 2 ≡ 0 → new_offset (taken i) n % 2 ≡ 0
    cut_even n even = cut.stays_even 0 (size_of i.section.contents) n (taken i) frame.allowed.order even

    placed : (n : ℕ) → n ≤ size_of i.section.contents → IsPlaced stop extra i n
    placed n le = record {
      more = excess n;
      whole = whole_at n le;
      above = (let up = start_above in omega (arith, up));
      rises = omega arith;
      even = λ even. excess_even n (left_even n le even);
      stays = λ even. line_even n le (cut_even n even);
    }

    address_up : (n m : ℕ) → n ≤ m → address i n ≤ address i m
    address_up n m le =
        let up = padding.rises s0 (new_offset (taken i) n) (new_offset (taken i) m) (left_section os kept i) plain.padded (cut.rising 0 (size_of i.section.contents) n m (taken i) frame.allowed.order le) in
        omega (arith, up)

    excess_up : (n m : ℕ) → n ≤ m → excess n ≤ excess m
    excess_up n m le =
        let up = more_dropped (new_offset (taken i) n) (new_offset (taken i) m) (moves s0 (left_section os kept i)) (cut.rising 0 (size_of i.section.contents) n m (taken i) frame.allowed.order le) in
        omega (arith, up)

    in_line : (n m : ℕ) → n ≤ size_of i.section.contents → m ≤ size_of i.section.contents → n ≤ m → AreInLine i n i m
    in_line n m low high le = record {
      less = excess n;
      more = excess m;
      first = whole_at n low;
      second = whole_at m high;
      above = address_up n m le;
      rises = excess_up n m le;
      even_first = λ even. excess_even n (left_even n low even);
      even_second = λ even. excess_even m (left_even m high even);
    }

    -- ---- its end

    abbrev n0 : ℕ
    n0 = size_of i.section.contents

    stop_is : start_of starts (left_input os kept i) + size starts (left_input os kept i) ≡ address i n0
    stop_is = ap (λ n. s0 + new_offset (moves s0 (left_section os kept i)) n) plain.ends

    next_whole : start + (at + start_padding i.section + n0) ≡ gone + dropped (taken i) n0 + (start_of starts (left_input os kept i) + size starts (left_input os kept i)) + excess n0
    next_whole =
        let b = frame.begins in
        let g = gone_is n0 (omega arith) in
        let w = whole_at n0 (omega arith) in
        let e = stop_is in
        let z = start_of starts (left_input os kept i) + size starts (left_input os kept i) in
        let k : start + (at + pad + n0) ≡ gone + dropped (taken i) n0 + z + excess n0 = omega (arith, b, g, w, e) in k

    next_even : (start_of starts (left_input os kept i) + size starts (left_input os kept i)) % 2 ≡ 0
    next_even =
        let y = cut_even n0 plain.even_size in
        let d = padding.drops_even s0 (new_offset (taken i) n0) (left_section os kept i) plain.padded y in
        let e = start_even in
        let low = padded_low n0 in
        ap (λ n. n % 2) stop_is ∙ (let k : address i n0 % 2 ≡ 0 = omega (arith, y, d, e, low) in k)

    next_extra : excess n0 % 2 ≡ 0
    next_extra = excess_even n0 (cut_even n0 plain.even_size)

    before_next : (n : ℕ) → n ≤ n0 → (address i n ≤ start_of starts (left_input os kept i) + size starts (left_input os kept i)) × (excess n ≤ excess n0)
    before_next n le = (subst (λ z. address i n ≤ z) (sym stop_is) (address_up n n0 le), excess_up n n0 le)

  -- ---- all of them

  placed_in : (at gone stop extra : ℕ) (is : List InputSection) → Frames os kept at gone is → AllByRecursion (IsPlain os kept) is → Stand starts stop (map (left_input os kept) is)
      → start + at ≡ gone + stop + extra → start % 2 ≡ 0 → stop % 2 ≡ 0 → extra % 2 ≡ 0 → InOrder 0 (sites_of os)
      → (k : ℕ) (i : InputSection) → slice_get is k ≡ Some i → (n : ℕ) → n ≤ size_of i.section.contents → IsPlaced stop extra i n
  placed_in at gone stop extra [] frames plains stand whole e f g order k i there n le = absurd (cc)
  placed_in at gone stop extra (h ∷ is) (frame, frames) (plain, plains) (here, stand) whole e f g order zero i there n le =
      let same : h ≡ i = cc in
      subst (λ x. n ≤ size_of x.section.contents → IsPlaced stop extra x n) same (placed at gone stop extra h frame plain here whole e f g order n) le
  placed_in at gone stop extra (h ∷ is) (frame, frames) (plain, plains) (here, stand) whole e f g order (suc k) i there n le =
      let n0 = size_of h.section.contents in
      let it = placed_in (at + start_padding h.section + n0) (gone + dropped (taken h) n0) (start_of starts (left_input os kept h) + size starts (left_input os kept h))
      (extra + (stop + start_padding h.section - starts h.file h.index) + padded h n0) is frames plains stand
      (next_whole at gone stop extra h frame plain here whole e f g order) e (next_even at gone stop extra h frame plain here whole e f g order) (next_extra at gone stop extra h frame plain here whole e f g order) order k i there n le in
      let last = before_next at gone stop extra h frame plain here whole e f g order 0 (omega arith) in
      let first = placed at gone stop extra h frame plain here whole e f g order 0 (omega arith) in
      record {
        more = it.more;
        whole = it.whole;
        above = (let a = it.above in let b = last.0 in let c = first.above in omega (arith, a, b, c));
        rises = (let a = it.rises in omega (arith, a));
        even = it.even;
        stays = it.stays;
      }

  pub in_order : (at gone stop extra : ℕ) (is : List InputSection) → Frames os kept at gone is → AllByRecursion (IsPlain os kept) is → Stand starts stop (map (left_input os kept) is)
      → start + at ≡ gone + stop + extra → start % 2 ≡ 0 → stop % 2 ≡ 0 → extra % 2 ≡ 0 → InOrder 0 (sites_of os)
      → (k : ℕ) (i : InputSection) → slice_get is k ≡ Some i → (l : ℕ) (j : InputSection) → slice_get is l ≡ Some j → (n m : ℕ) → n ≤ size_of i.section.contents → m ≤ size_of j.section.contents
      → (k < l) ⊎ ((k ≡ l) × (n ≤ m)) → AreInLine i n j m
  in_order at gone stop extra [] frames plains stand whole e f g order k i there l j there' n m low high before = absurd (cc)
  in_order at gone stop extra (h ∷ is) (frame, frames) (plain, plains) (here, stand) whole e f g order zero i there zero j there' n m low high before =
      let one : h ≡ i = cc in
      let two : h ≡ j = cc in
      subst (λ x. n ≤ size_of x.section.contents → AreInLine x n j m) one
      (subst (λ x. m ≤ size_of x.section.contents → n ≤ size_of h.section.contents → AreInLine h n x m) two
      (λ high low. in_line at gone stop extra h frame plain here whole e f g order n m low high (up before)) high) low
    where
      up : (0 < 0) ⊎ ((◌≡◌ {A = ℕ} 0 0) × (n ≤ m)) → n ≤ m
      up (inl less) = absurd (omega (arith, less))
      up (inr both) = both.1
  in_order at gone stop extra (h ∷ is) (frame, frames) (plain, plains) (here, stand) whole e f g order zero i there (suc l) j there' n m low high before =
      let one : h ≡ i = cc in
      subst (λ x. n ≤ size_of x.section.contents → AreInLine x n j m) one two low
    where
      n0 : ℕ
      n0 = size_of h.section.contents

      it : IsPlaced (start_of starts (left_input os kept h) + size starts (left_input os kept h)) (extra + (stop + start_padding h.section - starts h.file h.index) + padded h (size_of h.section.contents)) j m
      it = placed_in (at + start_padding h.section + size_of h.section.contents) (gone + dropped (taken h) (size_of h.section.contents)) (start_of starts (left_input os kept h) + size starts (left_input os kept h))
          (extra + (stop + start_padding h.section - starts h.file h.index) + padded h (size_of h.section.contents)) is frames plains stand
          (next_whole at gone stop extra h frame plain here whole e f g order) e (next_even at gone stop extra h frame plain here whole e f g order) (next_extra at gone stop extra h frame plain here whole e f g order) order l j there' m high

      two : n ≤ size_of h.section.contents → AreInLine h n j m
      two le =
          let first = placed at gone stop extra h frame plain here whole e f g order n le in
          let last = before_next at gone stop extra h frame plain here whole e f g order n le in
          record {
            less = extra + (stop + start_padding h.section - starts h.file h.index) + padded h n;
            more = it.more;
            first = whole_at at gone stop extra h frame plain here whole e f g order n le;
            second = it.whole;
            above = (let a = last.0 in let b = it.above in omega (arith, a, b));
            rises = (let a = last.1 in let b = it.rises in omega (arith, a, b));
            even_first = λ even. excess_even at gone stop extra h frame plain here whole e f g order n (left_even at gone stop extra h frame plain here whole e f g order n le even);
            even_second = it.even;
          }
  in_order at gone stop extra (h ∷ is) (frame, frames) (plain, plains) (here, stand) whole e f g order (suc k) i there zero j there' n m low high before = go before
    where
      go : (suc k < 0) ⊎ ((◌≡◌ {A = ℕ} (suc k) 0) × (n ≤ m)) → AreInLine i n j m
      go (inl less) = absurd (omega (arith, less))
      go (inr both) = let same = both.0 in absurd (omega (arith, same))
  in_order at gone stop extra (h ∷ is) (frame, frames) (plain, plains) (here, stand) whole e f g order (suc k) i there (suc l) j there' n m low high before =
      let n0 = size_of h.section.contents in
      in_order (at + start_padding h.section + n0) (gone + dropped (taken h) n0) (start_of starts (left_input os kept h) + size starts (left_input os kept h))
      (extra + (stop + start_padding h.section - starts h.file h.index) + padded h n0) is frames plains stand
      (next_whole at gone stop extra h frame plain here whole e f g order) e (next_even at gone stop extra h frame plain here whole e f g order) (next_extra at gone stop extra h frame plain here whole e f g order)
      order k i there l j there' n m low high (less before)
    where
      less : (suc k < suc l) ⊎ ((suc k ≡ suc l) × (n ≤ m)) → (k < l) ⊎ ((k ≡ l) × (n ≤ m))
      less (inl le) = inl (omega (arith, le))
      less (inr both) = let same = both.0 in inr (omega (arith, same), both.1)

  pub stays_even : (at gone stop extra : ℕ) (is : List InputSection) → Frames os kept at gone is → AllByRecursion (IsPlain os kept) is → Stand starts stop (map (left_input os kept) is)
      → start + at ≡ gone + stop + extra → start % 2 ≡ 0 → stop % 2 ≡ 0 → extra % 2 ≡ 0 → InOrder 0 (sites_of os)
      → (k : ℕ) (i : InputSection) → slice_get is k ≡ Some i → (n : ℕ) → n ≤ size_of i.section.contents → n % 2 ≡ 0 → layout.new_offset (sites_of os) kept (line i n) % 2 ≡ 0
  stays_even at gone stop extra is frames plains stand whole e f g order k i there n le even = (placed_in at gone stop extra is frames plains stand whole e f g order k i there n le).stays even

  -- ---- distances

  module _ (order : InOrder 0 (sites_of os)) (i : InputSection) (n : ℕ) (j : InputSection) (m : ℕ) (two : AreInLine i n j m)
      (even_i : layout.new_offset (sites_of os) kept (line i n) % 2 ≡ 0) (even_j : layout.new_offset (sites_of os) kept (line j m) % 2 ≡ 0) where
    abbrev half_more : ℕ
    half_more = (two.more - two.less) / 2

    pub nearer_ahead : Nearer (pos (address j m) -ℤ pos (address i n)) (pos (layout.new_offset (sites_of os) kept (line j m)) -ℤ pos (layout.new_offset (sites_of os) kept (line i n)))
    nearer_ahead =
        let a = two.first in
        let b = two.second in
        let c = two.above in
        let d = two.rises in
        let p = two.even_first even_i in
        let q = two.even_second even_j in
        let low_i = dropped_most (sites_of os) kept (line i n) order in
        let low_j = dropped_most (sites_of os) kept (line j m) order in
        let half : two.more ≡ two.less + 2 * half_more = omega (arith, d, p, q) in
        Ahead half_more (omega (arith, ints, c)) (omega (arith, ints, a, b, half, low_i, low_j))

    pub nearer_behind : Nearer (pos (address i n) -ℤ pos (address j m)) (pos (layout.new_offset (sites_of os) kept (line i n)) -ℤ pos (layout.new_offset (sites_of os) kept (line j m)))
    nearer_behind =
        let a = two.first in
        let b = two.second in
        let c = two.above in
        let d = two.rises in
        let p = two.even_first even_i in
        let q = two.even_second even_j in
        let low_i = dropped_most (sites_of os) kept (line i n) order in
        let low_j = dropped_most (sites_of os) kept (line j m) order in
        let half : two.more ≡ two.less + 2 * half_more = omega (arith, d, p, q) in
        Behind half_more (omega (arith, ints, c)) (omega (arith, ints, a, b, half, low_i, low_j))
