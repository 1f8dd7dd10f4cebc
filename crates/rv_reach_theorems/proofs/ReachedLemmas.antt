-- The field of each call that relaxation shortens takes its value where the text is placed.

use Rattle.std.proofs.Common.{rules, ◌≡◌, ℕ, zero, suc, ◌+◌, ◌-◌, ◌%◌, ◌^◌, ◌<◌, ◌≤◌, min, ◌⊎◌, inl, inr, Bool, true, false, not, ◌&&◌, List, [], ◌∷◌, length, map, Option, Some, None, option_map, slice_index, ℤ, pos, negsuc, ◌+ℤ◌, ◌-ℤ◌, ◌≤ℤ◌, ◌<ℤ◌, neg_ℤ, FitsSigned, refl, sym, ap, subst, ◌∙◌, arith}
use Rattle.std.specs.Prelude.{◌==◌, filter, unwrap_or, if◌then◌else◌}
use Rattle.std.specs.List.{AllByRecursion, slice_get}
use Rattle.std.specs.Int.{w64, int_wrap, cast_signed}
use Rattle.std.proofs.lemmas.Int.{ints, int_wrap_fits, int_wrap-add_right, int_wrap-add_same}
use Rattle.std.proofs.lemmas.Bool.{or_right, cases_lt}
use Rattle.std.proofs.lemmas.Option.{slice_get-map}
use Rattle.rv_list_laws.proofs.EachLemmas.{each_get}
use Rattle.rv_size_laws.specs.Sites.{size_at}
use Rattle.rv_isa.specs.declared.kind.Kind.{Kind}
use Rattle.rv_isa.specs.declared.kind.Kind.TheVariants as kinds
use Rattle.rv_reloc_laws.specs.Ranges.{IsInRange, IsOdd, Takes}
use Rattle.rv_size_laws.specs.declared.site.Site.{Site}
use Rattle.rv_size_laws.specs.Offsets.{IsEven, IsImmediate, Reaches}
use Rattle.rv_size_laws.specs.Calls as layout
use Rattle.rv_size_laws.specs.Calls.{Offers, half, site_at, bytes_of, InOrder, IsText, IsFamily, IsGreatestClosed, ReachesFrom, is_call as is_call_site}
use Rattle.rv_size_laws.proofs.ReachingLemmas.{Nearer, reaches_nearer}
use Rattle.rv_size_laws.proofs.ShorteningLemmas.{greatest_reaching}
use Rattle.rv_object_laws.specs.Object.{Relocation, Section, Object, size_of}
use Rattle.rv_object_laws.specs.Valid.{are_paddings}
use Rattle.rv_link_laws.specs.declared.bounds.Ground.{Ground}
use Rattle.rv_link_laws.specs.Moves.{Move, dropped, moves, new_offset, has_padding}
use Rattle.rv_link_laws.specs.Inputs.{Starts, InputSection, goes_to_text, inputs, Stand}
use Rattle.rv_link_laws.specs.Names.{Place}
use Rattle.rv_link_laws.specs.Values.{target}
use Rattle.rv_link_laws.specs.CallSites.{is_call, start_padding, base, home, moving, past_end, text_offset, excess, constant, target_place, is_text_place, is_permitted, may_change, changes, call_site, site_of, sites_of}
use Rattle.rv_link_laws.specs.Shortened.{Sizes, sizes_by, is_shortened, cuts, shortened_kind, shortened_relocation, shortened_text, shortened}
use Rattle.rv_object_laws.specs.Whole.{IsWhole}
use Rattle.rv_link_laws.specs.Without.{without}
use Rattle.rv_link_laws.specs.Layout.{Layout, IsLayout, regions_of, outer_in}
use Rattle.rv_link_laws.specs.Untaken.{IsTaken}
use Rattle.rv_link_laws.proofs.ChangesLemmas as permitted
use Rattle.rv_link_laws.proofs.TextInputsLemmas.{IsTextInput, whole_inputs}
use Rattle.rv_link_laws.proofs.TextLineLemmas.{site_call, whole_text}
use Rattle.rv_link_laws.proofs.WholeLemmas.{whole_left}
use Rattle.rv_link_laws.proofs.TextPlacesLemmas.{target_named}
use Rattle.rv_link_laws.specs.Ground.{IsGround}
use Rattle.rv_link_laws.specs.Lists.{In}
use Rattle.rv_cut_laws.specs.Cutting.{are_cuts}
use Rattle.rv_cut_laws.proofs.ChangesLemmas as changed
use Rattle.rv_cut_laws.proofs.ListsLemmas.{filter_in, ordered_in}
use Rattle.rv_cut_laws.proofs.SectionsLemmas.{short_parts, same_text}
use Rattle.rv_cut_laws.proofs.ShortLemmas.{size_left, paddings_stay}
use Rattle.rv_cut_laws.proofs.ShiftsLemmas as cut
use Rattle.rv_unique_theorems.proofs.MultiplesLemmas.{BeginsSo, all_begin}
use Rattle.rv_reach_theorems.specs.Reach.{is_short_call, ForEachLeft, ShortCallsReach}
use Rattle.rv_reach_theorems.proofs.MovingLemmas.{rises, ended, within as within_paddings}
use Rattle.rv_reach_theorems.proofs.LinesLemmas.{IsFramed, Frames, frames, all_dropped}
use Rattle.rv_reach_theorems.proofs.SpansLemmas.{left_section, left_input, lefts, IsPlain, address, in_order, stays_even, nearer_ahead, nearer_behind}
use Rattle.rv_reach_theorems.proofs.TargetsLemmas.{IsAt, IsInText, in_text, place_at, stands, target_stands}
use Rattle.rv_reach_theorems.proofs.ShorterLemmas.{sounds, IsEvenCode, evens, ordered_all, index_of, in_at, kept_here, IsLow, lows}

-- ---- values that reach are in range

jal_range : (z : ℤ) → IsImmediate (2 ^ 20) z → IsInRange kinds.Jal z
jal_range (pos n) h = let even : n % 2 ≡ 0 = h.even in let high = h.high in (omega (arith, ints), omega (arith, ints, even, high))
jal_range (negsuc n) h = let low = h.low in (omega (arith, ints, low), omega (arith, ints))

pub jump_range : (z : ℤ) → IsImmediate (2 ^ 11) z → IsInRange kinds.RvcJump z
jump_range (pos n) h = let even : n % 2 ≡ 0 = h.even in let high = h.high in (omega (arith, ints), omega (arith, ints, even, high))
jump_range (negsuc n) h = let low = h.low in (omega (arith, ints, low), omega (arith, ints))

pub not_odd : (z : ℤ) → IsEven z → IsOdd z → ⊥
not_odd z even odd = absurd (omega (arith, even, odd))

takes_jal : (z : ℤ) → IsImmediate (2 ^ 20) z → Takes kinds.Jal z
takes_jal z h = record { range = jal_range z h; even = λ target odd. not_odd z h.even odd }

takes_jump : (z : ℤ) → IsImmediate (2 ^ 11) z → Takes kinds.RvcJump z
takes_jump z h = record { range = jump_range z h; even = λ target odd. not_odd z h.even odd }

even_from : (a b : ℕ) (z : ℤ) → IsEven z → IsEven ((pos a -ℤ pos b) +ℤ z) → b % 2 ≡ 0 → a % 2 ≡ 0
even_from a b (pos n) one two even = let p : n % 2 ≡ 0 = one in omega (arith, ints, p, two, even)
even_from a b (negsuc n) one two even = let p : suc n % 2 ≡ 0 = one in omega (arith, ints, p, two, even)

half_most : (k : ℕ) → half k ≤ 2 ^ 20
half_most k = by (k == 2)
  where
    by : (b : Bool) → (if b then 2 ^ 11 else 2 ^ 20) ≤ 2 ^ 20
    by true = omega arith
    by false = omega arith

fits_small : (v : ℤ) → neg_ℤ (pos (2 ^ 20)) ≤ℤ v → v <ℤ pos (2 ^ 20) → FitsSigned w64 v
fits_small v low high = search rules

immediate_fits : (h : ℕ) (v : ℤ) → h ≤ 2 ^ 20 → IsImmediate h v → FitsSigned w64 v
immediate_fits h v most it =
    let down = it.low in
    let up = it.high in
    let low_v : neg_ℤ (pos (2 ^ 20)) ≤ℤ v = omega (arith, ints, down, most) in
    let high_v : v <ℤ pos (2 ^ 20) = omega (arith, ints, up, most) in
    fits_small v low_v high_v

-- the value as the field has it
pub value_is : (a s p : ℕ) (z : ℤ) (h : ℕ) → h ≤ 2 ^ 20 → IsImmediate h ((pos a -ℤ pos p) +ℤ z) → a < 2 ^ 64 → s ≡ a % 2 ^ 64 → int_wrap w64 ((pos s +ℤ z) -ℤ pos p) ≡ (pos a -ℤ pos p) +ℤ z
value_is a s p z h most it low e =
    let same : s ≡ a = omega (arith, e, low) in
    let v = (pos a -ℤ pos p) +ℤ z in
    ap (λ n. int_wrap w64 ((pos n +ℤ z) -ℤ pos p)) same
    ∙ ap (int_wrap w64) (let k : (pos a +ℤ z) -ℤ pos p ≡ (pos a -ℤ pos p) +ℤ z = omega (arith, ints) in k)
    ∙ int_wrap_fits w64 v (immediate_fits h v most it)

same_word : (s n : ℕ) → s ≡ n % 2 ^ 64 → int_wrap w64 (pos s) ≡ int_wrap w64 (pos n)
unfolding int_wrap
same_word s n e = ap (cast_signed w64) (let k : s % 2 ^ 64 ≡ n % 2 ^ 64 = omega (arith, e) in k)

-- and so where the symbol lies past the end of its section, which is counted with the addend
past_value : (a s p past : ℕ) (q z : ℤ) (h : ℕ) → h ≤ 2 ^ 20 → z ≡ int_wrap w64 (q +ℤ pos past) → IsImmediate h ((pos a -ℤ pos p) +ℤ z) → s ≡ (a + past) % 2 ^ 64
    → int_wrap w64 ((pos s +ℤ q) -ℤ pos p) ≡ (pos a -ℤ pos p) +ℤ z
past_value a s p past q z h most is it e =
    let v = (pos a -ℤ pos p) +ℤ z in
    ap (int_wrap w64) (let k : (pos s +ℤ q) -ℤ pos p ≡ pos s +ℤ (q -ℤ pos p) = omega (arith, ints) in k)
    ∙ int_wrap-add_same w64 (pos s) (pos (a + past)) (q -ℤ pos p) (same_word s (a + past) e)
    ∙ ap (int_wrap w64) (let k : pos (a + past) +ℤ (q -ℤ pos p) ≡ (pos a -ℤ pos p) +ℤ (q +ℤ pos past) = omega (arith, ints) in k)
    ∙ sym (int_wrap-add_right w64 (pos a -ℤ pos p) (q +ℤ pos past))
    ∙ ap (λ c. int_wrap w64 ((pos a -ℤ pos p) +ℤ c)) (sym is)
    ∙ int_wrap_fits w64 v (immediate_fits h v most it)

-- ---- lists

unmapped : (P : InputSection → Type 0) (f : InputSection → InputSection) (xs : List InputSection) → AllByRecursion P (map f xs) → AllByRecursion (λ x. P (f x)) xs
unmapped P f [] h = tt
unmapped P f (x ∷ xs) (one, h) = (one, unmapped P f xs h)

pub record HasFrame (os : List Object) (kept : List ℕ) (i : InputSection) : Type 0 where
  pub at : ℕ
  pub gone : ℕ
  pub frame : IsFramed os kept at gone i

pub frame_at : (os : List Object) (kept : List ℕ) (at gone : ℕ) (is : List InputSection) → Frames os kept at gone is → (k : ℕ) (i : InputSection) → slice_get is k ≡ Some i → HasFrame os kept i
frame_at os kept at gone [] h k i e = absurd (cc)
frame_at os kept at gone (x ∷ is) (one, h) zero i e = let same : x ≡ i = cc in subst (HasFrame os kept) same (record { at = at; gone = gone; frame = one })
frame_at os kept at gone (x ∷ is) (one, h) (suc k) i e =
    frame_at os kept (at + start_padding x.section + size_of x.section.contents) (gone + dropped (cuts (sizes_by os kept x.file x.index) x.section) (size_of x.section.contents)) is h k i e

-- ---- what is left of objects

module _ (os : List Object) (whole : AllByRecursion IsWhole os) (kept : List ℕ) (greatest : IsGreatestClosed (sites_of os) kept) (bounds : Ground) (p : Layout) (begins : IsGround bounds)
    (placed : IsLayout (shortened kept os) bounds p) where
  abbrev left : List Object
  left = shortened kept os

  abbrev starts : Starts
  starts = p.starts

  abbrev is : List InputSection
  is = inputs goes_to_text os

  abbrev sites : List Site
  sites = sites_of os

  abbrev its : InputSection → Sizes
  its i = sizes_by os kept i.file i.index

  abbrev N : ℕ → ℕ
  N x = layout.new_offset (sites_of os) kept x

  text : IsText sites
  text = whole_text os whole

  order : InOrder 0 sites
  order = text.in_order

  family : IsFamily sites kept
  family = greatest.closed.family

  inputs_are : AllByRecursion (IsTextInput os) is
  inputs_are = whole_inputs os whole

  pub all_frames : Frames os kept 0 0 is
  all_frames = frames os kept 1 0 0 0 is kept inputs_are (ordered_all 1 os) (record {
    stands = record { base_is = λ g y later. omega arith; size_is = λ o le. refl; many = family.same_length; order = order };
    drops = λ n le. (let d = layout.dropped sites kept n in let e : d ≡ 0 + d = omega arith in e);
    offered = family.offered;
    there = λ s i. i;
  })

  left_is : inputs goes_to_text left ≡ map (left_input os kept) is
  left_is = lefts os kept 1 os

  abbrev IsLeftLow : InputSection → Type 0
  IsLeftLow i = IsLow p (left_input os kept i)

  all_lows : AllByRecursion IsLeftLow is
  all_lows = unmapped (IsLow p) (left_input os kept) is (subst (AllByRecursion (IsLow p)) left_is (lows left bounds p placed))

  plains_from : (at gone : ℕ) (js : List InputSection) → Frames os kept at gone js → AllByRecursion (IsTextInput os) js → AllByRecursion BeginsSo js → AllByRecursion IsEvenCode js → AllByRecursion IsLeftLow js
      → AllByRecursion (IsPlain os kept) js
  plains_from at gone [] f a b c d = tt
  plains_from at gone (i ∷ js) (f, fs) (a, as') (b, bs) (c, cs) (d, ds') = (
    record {
      text = a.text;
      padded = record {
        text = a.text;
        low = d.0;
        paddings = subst (λ (x : Section). are_paddings x.executable x.contents x.relocations ≡ true) (same_text (its i) i.section a.text)
            (paddings_stay i.section (cuts (its i) i.section) i.section.executable a.inside f.allowed a.paddings);
      };
      even = b;
      even_size = c;
      ends = size_left i.section (cuts (its i) i.section) a.inside f.allowed;
    },
    plains_from (at + start_padding i.section + size_of i.section.contents) (gone + dropped (cuts (its i) i.section) (size_of i.section.contents)) js fs as' bs cs ds',
  )

  pub plains : AllByRecursion (IsPlain os kept) is
  plains = plains_from 0 0 is all_frames inputs_are (all_begin os (sounds os whole)) (evens 1 os whole) all_lows

  stand : Stand starts bounds.text (map (left_input os kept) is)
  stand = subst (Stand starts bounds.text) left_is placed.text.1

  even_start : bounds.text % 2 ≡ 0
  even_start = let page : bounds.text % 4096 ≡ 0 = begins.0 in omega (arith, page)

  begun : bounds.text + 0 ≡ 0 + bounds.text + 0
  begun = omega arith

  -- ---- two places

  pub near : (k : ℕ) (i : InputSection) → slice_get is k ≡ Some i → (l : ℕ) (j : InputSection) → slice_get is l ≡ Some j → (n m : ℕ) → n ≤ size_of i.section.contents → m ≤ size_of j.section.contents
      → N (base os i.file i.index + n) % 2 ≡ 0 → N (base os j.file j.index + m) % 2 ≡ 0
      → Nearer (pos (address os kept bounds.text starts j m) -ℤ pos (address os kept bounds.text starts i n)) (pos (N (base os j.file j.index + m)) -ℤ pos (N (base os i.file i.index + n)))
  near k i there l j there' n m low high even_i even_j = by (cases_lt k l)
    where
      ahead : (k < l) ⊎ ((k ≡ l) × (n ≤ m)) → Nearer (pos (address os kept bounds.text starts j m) -ℤ pos (address os kept bounds.text starts i n)) (pos (N (base os j.file j.index + m)) -ℤ pos (N (base os i.file i.index + n)))
      ahead before =
          nearer_ahead os kept bounds.text starts order i n j m
          (in_order os kept bounds.text starts 0 0 bounds.text 0 is all_frames plains stand begun even_start even_start refl order k i there l j there' n m low high before) even_i even_j

      behind : (l < k) ⊎ ((l ≡ k) × (m ≤ n)) → Nearer (pos (address os kept bounds.text starts j m) -ℤ pos (address os kept bounds.text starts i n)) (pos (N (base os j.file j.index + m)) -ℤ pos (N (base os i.file i.index + n)))
      behind before =
          nearer_behind os kept bounds.text starts order j m i n
          (in_order os kept bounds.text starts 0 0 bounds.text 0 is all_frames plains stand begun even_start even_start refl order l j there' k i there m n high low before) even_j even_i

      by : (k < l) ⊎ (l ≤ k) → Nearer (pos (address os kept bounds.text starts j m) -ℤ pos (address os kept bounds.text starts i n)) (pos (N (base os j.file j.index + m)) -ℤ pos (N (base os i.file i.index + n)))
      by (inl less) = ahead (inl less)
      by (inr le) = more (cases_lt l k)
        where
          more : (l < k) ⊎ (k ≤ l) → Nearer (pos (address os kept bounds.text starts j m) -ℤ pos (address os kept bounds.text starts i n)) (pos (N (base os j.file j.index + m)) -ℤ pos (N (base os i.file i.index + n)))
          more (inl less) = behind (inl less)
          more (inr up) = last (cases_lt n m)
            where
              last : (n < m) ⊎ (m ≤ n) → Nearer (pos (address os kept bounds.text starts j m) -ℤ pos (address os kept bounds.text starts i n)) (pos (N (base os j.file j.index + m)) -ℤ pos (N (base os i.file i.index + n)))
              last (inl less) = ahead (inr (omega (arith, le, up), omega (arith, less)))
              last (inr down) = behind (inr (omega (arith, le, up), down))

  pub even_at : (k : ℕ) (i : InputSection) → slice_get is k ≡ Some i → (n : ℕ) → n ≤ size_of i.section.contents → n % 2 ≡ 0 → N (base os i.file i.index + n) % 2 ≡ 0
  even_at k i there n low even = stays_even os kept bounds.text starts 0 0 bounds.text 0 is all_frames plains stand begun even_start even_start refl order k i there n low even

  -- each place has an address of 64 bits
  pub address_low : (k : ℕ) (i : InputSection) → slice_get is k ≡ Some i → (n : ℕ) → n ≤ size_of i.section.contents → address os kept bounds.text starts i n < 2 ^ 64
  address_low k i there n low =
      let room = each_get IsLeftLow is k i all_lows there in
      let plain = each_get (IsPlain os kept) is k i plains there in
      let frame = frame_at os kept 0 0 is all_frames k i there in
      let up = cut.rising 0 (size_of i.section.contents) n (size_of i.section.contents) (cuts (its i) i.section) frame.frame.allowed.order low in
      let goes : ℕ → ℕ = λ m. starts i.file i.index + new_offset (moves (starts i.file i.index) (left_section os kept i)) m in
      let most : goes (new_offset (cuts (its i) i.section) (size_of i.section.contents)) < 2 ^ 64 = subst (λ m. goes m < 2 ^ 64) plain.ends room.1 in
      let before =
      rises (starts i.file i.index) (new_offset (cuts (its i) i.section) n) (new_offset (cuts (its i) i.section) (size_of i.section.contents)) (left_section os kept i) plain.padded up in
      omega (arith, most, before)

  -- a place past the end of its section stands as far past the end
  past_end_is : (k : ℕ) (i : InputSection) → slice_get is k ≡ Some i → (n : ℕ)
      → address os kept bounds.text starts i n ≡ address os kept bounds.text starts i (min n (size_of i.section.contents)) + (n - size_of i.section.contents)
  past_end_is k i there n = by (cases_lt (size_of i.section.contents) n)
    where
      ms : List Move
      ms = cuts (its i) i.section

      left_of : Section
      left_of = left_section os kept i

      size : ℕ
      size = size_of i.section.contents

      plain : IsPlain os kept i
      plain = each_get (IsPlain os kept) is k i plains there

      order_is : are_cuts 0 size ms ≡ true
      order_is = (frame_at os kept 0 0 is all_frames k i there).frame.allowed.order

      by : (size < n) ⊎ (n ≤ size) → address os kept bounds.text starts i n ≡ address os kept bounds.text starts i (min n size) + (n - size)
      by (inr low) =
          let same : min n size ≡ n = omega (arith, low) in
          let none : n - size ≡ 0 = omega (arith, low) in
          (let a = address os kept bounds.text starts i n in let e : a ≡ a + 0 = omega arith in e) ∙ ap (λ m. address os kept bounds.text starts i m + 0) (sym same) ∙ ap (λ m. address os kept bounds.text starts i (min n size) + m) (sym none)
      by (inl past) =
          let same : min n size ≡ size = omega (arith, past) in
          let dropped_all = all_dropped 0 size n ms order_is (omega (arith, past)) in
          let within_all = cut.within 0 size size ms order_is in
          let cut_size = plain.ends in
          let moved : new_offset ms n ≡ new_offset ms size + (n - size) = omega (arith, dropped_all, within_all, past) in
          let up : size_of left_of.contents ≤ new_offset ms n = omega (arith, cut_size, moved) in
          let padded_all = ended (starts i.file i.index) (new_offset ms n) left_of plain.padded up in
          let low = within_paddings (starts i.file i.index) (new_offset ms size) left_of plain.padded in
          let whole = padded_all ∙ ap (dropped (moves (starts i.file i.index) left_of)) cut_size in
          let sum : address os kept bounds.text starts i n ≡ address os kept bounds.text starts i size + (n - size) = omega (arith, moved, whole, low) in
          sum ∙ ap (λ m. address os kept bounds.text starts i m + (n - size)) (sym same)

  -- ---- a call

  module _ (k : ℕ) (i : InputSection) (there : slice_get is k ≡ Some i) (n : ℕ) (q : Relocation) (at_q : slice_get i.section.relocations n ≡ Some q) (short : is_shortened (its i) q ≡ true) where
    input : IsTextInput os i
    input = each_get (IsTextInput os) is k i inputs_are there

    frame : HasFrame os kept i
    frame = frame_at os kept 0 0 is all_frames k i there

    abbrev first : ℕ
    first = base os i.file i.index

    in_q : In q i.section.relocations
    in_q = in_at i.section.relocations n q at_q

    allowed : is_permitted os i q ≡ true
    allowed = frame.frame.each q in_q short

    is_call_q : is_call q.kind ≡ true
    is_call_q = (short_parts (its i) q short).0

    no_padding : has_padding q ≡ false
    no_padding = by (has_padding q) refl
      where
        by : (b : Bool) → has_padding q ≡ b → has_padding q ≡ false
        by false e = e
        by true e = absurd (let clash : true ≡ false = sym is_call_q ∙ changed.padding_no_call q e in cc)

    in_changes : In q (changes os i)
    in_changes = ordered_in q (filter (may_change os i) i.section.relocations) (filter_in (may_change os i) q i.section.relocations in_q (or_right (has_padding q) (is_permitted os i q) allowed))

    in_sites : In (call_site os i (first + q.place) q) sites
    in_sites =
        subst (λ s. In s sites) (site_call os i first q no_padding)
        (subst (λ b. In (site_of os i b q) sites) (sym frame.frame.begins) (frame.frame.there q in_changes))

    abbrev number : ℕ
    number = (index_of (call_site os i (base os i.file i.index + q.place) q) (sites_of os) in_sites).0

    within : number < length sites
    within = (index_of (call_site os i (first + q.place) q) sites in_sites).1

    site_is : site_at sites number ≡ call_site os i (first + q.place) q
    site_is = (index_of (call_site os i (first + q.place) q) sites in_sites).2

    kept_is : slice_index kept number ≡ its i q.place
    kept_is =
        sym (kept_here 0 sites kept order family.same_length number within (ap (λ (s : Site). is_call_site s.kind) site_is))
        ∙ ap (λ (s : Site). size_at sites kept s.offset) site_is

    few : its i q.place < 8
    few = (short_parts (its i) q short).1

    reaching : ReachesFrom sites kept (first + q.place) (call_site os i (first + q.place) q).kind (its i q.place)
    reaching =
        subst (λ m. ReachesFrom sites kept (first + q.place) (call_site os i (first + q.place) q).kind m) kept_is
        (subst (λ (s : Site). ReachesFrom sites kept s.offset s.kind (slice_index kept number)) site_is
        (greatest_reaching sites text kept greatest number
        (let eight = ap (λ (s : Site). bytes_of s.kind) site_is in let same = kept_is in let less = few in omega (arith, eight, same, less))))

    offered : Offers (call_site os i (first + q.place) q).kind (its i q.place)
    offered =
        subst (λ m. Offers (call_site os i (first + q.place) q).kind m) kept_is
        (subst (λ (s : Site). Offers s.kind (slice_index kept number)) site_is (family.offered number))

    low_q : q.place ≤ size_of i.section.contents
    low_q = let inside = changed.call_inside i.section q (record { fit = input.inside; paddings = input.paddings }) in_q is_call_q in omega (arith, inside)

    even_q : N (first + q.place) % 2 ≡ 0
    even_q = even_at k i there q.place low_q (changed.permitted os i q allowed).even

    -- ---- where it leads

    pub record LeadsTo : Type 0 where
      pub to : ℕ
      pub past : ℕ
      pub target_is : target (outer_in left p) (starts i.file) (left_input os kept i).object q.symbol ≡ Some ((to + past) % 2 ^ 64)
      pub constant_is : constant os i q ≡ int_wrap w64 (q.addend +ℤ pos past)
      pub reaches : Reaches (half (its i q.place)) (constant os i q) (pos to -ℤ pos (address os kept bounds.text starts i q.place))

    leads_to : (t : Option Place) → target_place os i q ≡ t → is_text_place os t ≡ true
        → Reaches (half (its i q.place)) (constant os i q) (pos (N (text_offset os t)) -ℤ pos (N (first + q.place))) → LeadsTo
    leads_to None e leads far = absurd (cc)
    leads_to (Some t) e leads far = record {
      to = address os kept bounds.text starts j moves_at;
      past = t.offset - size_of j.section.contents;
      target_is = target_stands os kept starts (regions_of p) i q t it input.at e ∙ ap (λ a. Some (a % 2 ^ 64)) (sym address_is ∙ past_end_is spot.number j spot.there t.offset);
      constant_is = ap (λ o. int_wrap w64 (q.addend +ℤ pos (excess os o))) e ∙ ap (λ x. int_wrap w64 (q.addend +ℤ pos (past_end x t.offset))) home_is;
      reaches = reaches_nearer (half (its i q.place)) (constant os i q)
          (pos (address os kept bounds.text starts j moves_at) -ℤ pos (address os kept bounds.text starts i q.place)) (pos (N (base os j.file j.index + moves_at)) -ℤ pos (N (first + q.place)))
          (near k i there spot.number j spot.there q.place moves_at low_q low_t even_q even_t) far_j;
    }
      where
        it : IsInText os t
        it = in_text os t leads

        spot : IsAt is t.file t.section it.section
        spot = place_at os t it (target_named os i q t input.counted input.at e).counted

        j : InputSection
        j = spot.input

        home_is : home os t ≡ Some j.section
        home_is = it.there ∙ ap (λ x. Some x) (sym spot.section)

        -- it moves as this offset does
        moves_at : ℕ
        moves_at = min t.offset (size_of j.section.contents)

        line_is : base os j.file j.index + moves_at ≡ text_offset os (Some t)
        line_is =
            ap (λ f. base os f j.index + moves_at) spot.in_file ∙ ap (λ x. base os t.file x + moves_at) spot.at_index
            ∙ sym (ap (λ x. base os t.file t.section + moving x t.offset) home_is)

        far_j : Reaches (half (its i q.place)) (constant os i q) (pos (N (base os j.file j.index + moves_at)) -ℤ pos (N (first + q.place)))
        far_j = subst (λ x. Reaches (half (its i q.place)) (constant os i q) (pos (N x) -ℤ pos (N (first + q.place)))) (sym line_is) far

        even_t : N (base os j.file j.index + moves_at) % 2 ≡ 0
        even_t = even_from (N (base os j.file j.index + moves_at)) (N (first + q.place)) (constant os i q) far_j.alone.even far_j.added.even even_q

        low_t : moves_at ≤ size_of j.section.contents
        low_t = omega arith

        stood : ℕ → ℕ → Section → ℕ
        stood f x s = starts f x + new_offset (moves (starts f x) (shortened_text (sizes_by os kept f x) s)) (new_offset (cuts (sizes_by os kept f x) s) t.offset)

        address_is : address os kept bounds.text starts j t.offset ≡ stands os kept starts t it.section
        address_is = ap (λ f. stood f j.index j.section) spot.in_file ∙ ap (λ x. stood t.file x j.section) spot.at_index ∙ ap (stood t.file t.section) spot.section

    leads : LeadsTo
    leads = leads_to (target_place os i q) refl (permitted.permitted os i q allowed).leads reaching

    -- ---- its field

    abbrev now : Kind → Relocation
    now kind = record { place = new_offset (cuts (its i) i.section) q.place; kind = kind; symbol = q.symbol; addend = q.addend }

    abbrev away : ℤ
    away = (pos leads.to -ℤ pos (address os kept bounds.text p.starts i q.place)) +ℤ constant os i q

    worth_is : int_wrap w64 ((pos (unwrap_or (target (outer_in left p) (starts i.file) (left_input os kept i).object q.symbol) 0) +ℤ q.addend) -ℤ pos (address os kept bounds.text starts i q.place)) ≡ away
    worth_is =
        past_value leads.to (unwrap_or (target (outer_in left p) (starts i.file) (left_input os kept i).object q.symbol) 0) (address os kept bounds.text starts i q.place) leads.past q.addend (constant os i q)
        (half (its i q.place)) (half_most (its i q.place)) leads.constant_is leads.reaches.added (ap (λ o. unwrap_or o 0) leads.target_is)

    takes_four : its i q.place ≡ 4 → IsTaken left p (left_input os kept i) (now kinds.Jal)
    takes_four four = record {
      found = refl;
      alone = λ e. absurd (cc);
      takes = subst (Takes kinds.Jal) (sym worth_is) (takes_jal away (subst (λ m. IsImmediate (half m) away) four leads.reaches.added));
    }

    takes_two : its i q.place ≡ 2 → IsTaken left p (left_input os kept i) (now kinds.RvcJump)
    takes_two two = record {
      found = refl;
      alone = λ e. absurd (cc);
      takes = subst (Takes kinds.RvcJump) (sym worth_is) (takes_jump away (subst (λ m. IsImmediate (half m) away) two leads.reaches.added));
    }

    kind_is : (m : ℕ) → its i q.place ≡ m → shortened_kind (its i) q ≡ (if m == 2 then kinds.RvcJump else kinds.Jal)
    kind_is m e = ap (λ b. if b then (if its i q.place == 2 then kinds.RvcJump else kinds.Jal) else q.kind) short ∙ ap (λ m. if m == 2 then kinds.RvcJump else kinds.Jal) e

    pub is_taken : IsTaken left p (left_input os kept i) (shortened_relocation (its i) (cuts (its i) i.section) q)
    is_taken = by offered
      where
        by : Offers (call_site os i (first + q.place) q).kind (its i q.place) → IsTaken left p (left_input os kept i) (now (shortened_kind (its i) q))
        by (inl eight) = absurd (let less = few in omega (arith, eight, less))
        by (inr (inl four)) = subst (λ kind. IsTaken left p (left_input os kept i) (now kind)) (sym (kind_is 4 four)) (takes_four four)
        by (inr (inr two)) = subst (λ kind. IsTaken left p (left_input os kept i) (now kind)) (sym (kind_is 2 two.0)) (takes_two two.0)

-- ---- all of them

-- a call is short only where it was shortened
was_shortened : (sizes : Sizes) (q : Relocation) → is_short_call q.kind (shortened_kind sizes q) ≡ true → is_shortened sizes q ≡ true
was_shortened sizes q h = by (is_shortened sizes q) refl h
  where
    never : (b : Bool) → (b && not b) ≡ true → false ≡ true
    never true e = e
    never false e = e

    by : (b : Bool) → is_shortened sizes q ≡ b → is_short_call q.kind (if b then (if sizes q.place == 2 then kinds.RvcJump else kinds.Jal) else q.kind) ≡ true → is_shortened sizes q ≡ true
    by true e k = e
    by false e k = e ∙ never (is_call q.kind) k

abbrev Reaches_in : List Object → Layout → (before now : Relocation) → (of to : InputSection) → Type 0
Reaches_in left p before now i j = is_short_call before.kind now.kind ≡ true → IsTaken left p j now

same_reach : (os left : List Object) (p : Layout) → left ≡ os → ForEachLeft os left (Reaches_in left p)
same_reach os left p same section place i j before now at_i at_j at_before at_now short =
    let both : ◌≡◌ {A = Option InputSection} (Some i) (Some j) = sym at_i ∙ ap (λ u. slice_get (inputs goes_to_text u) section) (sym same) ∙ at_j in
    let here : i ≡ j = cc in
    let two : ◌≡◌ {A = Option Relocation} (Some before) (Some now) = sym at_before ∙ ap (λ (x : InputSection). slice_get x.section.relocations place) here ∙ at_now in
    let one : before ≡ now = cc in
    absurd (never (is_call before.kind) (ap (λ (x : Relocation). is_call before.kind && not (is_call x.kind)) one ∙ short))
  where
    never : (b : Bool) → (b && not b) ≡ true → ⊥
    never true e = absurd (cc)
    never false e = absurd (cc)

short_reach : (os : List Object) → AllByRecursion IsWhole os → (kept : List ℕ) → IsGreatestClosed (sites_of os) kept → (bounds : Ground) (p : Layout) → IsGround bounds → IsLayout (shortened kept os) bounds p
    → ForEachLeft os (shortened kept os) (Reaches_in (shortened kept os) p)
short_reach os whole kept greatest bounds p begins placed section place i j before now at_i at_j at_before at_now short =
    let sizes = sizes_by os kept i.file i.index in
    let ms = cuts sizes i.section in
    let left_j : ◌≡◌ {A = Option InputSection} (Some (left_input os kept i)) (Some j) =
    sym (ap (λ l. slice_get l section) (lefts os kept 1 os) ∙ slice_get-map (left_input os kept) (inputs goes_to_text os) section ∙ ap (option_map (left_input os kept)) at_i) ∙ at_j in
    let here : left_input os kept i ≡ j = cc in
    let left_now : ◌≡◌ {A = Option Relocation} (Some (shortened_relocation sizes ms before)) (Some now) =
    sym (slice_get-map (shortened_relocation sizes ms) i.section.relocations place ∙ ap (option_map (shortened_relocation sizes ms)) at_before)
    ∙ ap (λ (x : InputSection). slice_get x.section.relocations place) here ∙ at_now in
    let one : shortened_relocation sizes ms before ≡ now = cc in
    subst (λ x. IsTaken (shortened kept os) p x now) here
    (subst (λ x. IsTaken (shortened kept os) p (left_input os kept i) x) one
    (is_taken os whole kept greatest bounds p begins placed section i at_i place before at_before
    (was_shortened sizes before (ap (λ (x : Relocation). is_short_call before.kind x.kind) one ∙ short))))

pub short_calls_reach : ShortCallsReach
short_calls_reach os drops us bounds false p whole same begins placed = same_reach (without drops os) us p same
short_calls_reach all drops us bounds true p whole (kept, greatest, same) begins placed =
    let os = without drops all in
    subst (λ u. IsLayout u bounds p → ForEachLeft os u (Reaches_in u p)) (sym same) (short_reach os (whole_left drops all whole) kept greatest bounds p begins) placed
