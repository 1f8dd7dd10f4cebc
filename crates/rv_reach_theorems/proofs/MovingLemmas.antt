-- What the paddings of a section of text do to offsets: they stay in order, and even.

use Rattle.std.proofs.Common.{◌≡◌, ℕ, ◌+◌, ◌-◌, ◌%◌, ◌^◌, ◌<◌, ◌≤◌, Bool, true, false, min, max, List, [], ◌∷◌, length, refl, sym, ap, subst, ◌∙◌, arith}
use Rattle.std.specs.Prelude.{filter, if◌then◌else◌}
use Rattle.std.specs.List.{list_all}
use Rattle.std.proofs.lemmas.Bool.{and_parts}
use Rattle.rv_list_laws.proofs.NumbersLemmas.{span_within}
use Rattle.rv_size_laws.specs.Alignment.{aligned}
use Rattle.rv_object_laws.specs.Object.{Relocation, Section, size_of}
use Rattle.rv_object_laws.specs.Padding.{no_operations}
use Rattle.rv_object_laws.specs.Valid.{is_padding, are_all_apart, are_paddings}
use Rattle.rv_link_laws.specs.Moves.{dropped, new_offset, full_padding, has_padding, alignment_of, by_place, alignments_of, plan, moves}
use Rattle.rv_link_laws.specs.Inputs.{goes_to_text}
use Rattle.rv_link_laws.proofs.MovesLemmas.{none_before}
use Rattle.rv_cut_laws.specs.Alignments.{are_alignments}
use Rattle.rv_cut_laws.proofs.AlignmentsLemmas.{next_alignment, other_alignments}
use Rattle.rv_cut_laws.proofs.ApartLemmas.{of_section}
use Rattle.rv_cut_laws.proofs.OrderedLemmas.{AreOrdered, ordered}
use Rattle.rv_unique_theorems.proofs.EvensLemmas.{section_padded, dropped_even}

-- ---- and no more than lies between

slow_from : (base gone stop a b : ℕ) (rs : List Relocation) → are_alignments stop rs ≡ true → a ≤ b → dropped (plan base gone rs) b ≤ dropped (plan base gone rs) a + (b - max a stop)
slow_from base gone stop a b [] h le = omega arith
slow_from base gone stop a b (r ∷ rs) h le =
    let least = aligned (alignment_of r) (base + (r.place - gone)) - (base + (r.place - gone)) in
    let next = gone + (full_padding r - least) in
    let one = next_alignment stop r rs h in
    let rest = slow_from base next (r.place + full_padding r) a b rs (other_alignments stop r rs h) le in
    let all = span_within r.place (full_padding r) (length (no_operations least)) a b stop one.from le (dropped (plan base next rs) b) (dropped (plan base next rs) a) (r.place + full_padding r) refl rest in
    all

-- ---- of a section of text

pub record IsPaddedText (s : Section) : Type 0 where
  pub text : goes_to_text s ≡ true
  pub low : size_of s.contents < 2 ^ 64
  pub paddings : are_paddings s.executable s.contents s.relocations ≡ true

alignments_stand : (s : Section) → IsPaddedText s → are_alignments 0 (alignments_of s) ≡ true
alignments_stand s it =
    ap (λ b. are_alignments 0 (if b then by_place (filter has_padding s.relocations) else [])) it.text
    ∙ of_section s.contents s.executable s.relocations (and_parts s.loaded s.executable it.text).1 it.low it.paddings

pub slow : (start a b : ℕ) (s : Section) → IsPaddedText s → a ≤ b → dropped (moves start s) b ≤ dropped (moves start s) a + (b - a)
slow start a b s it le = let all = slow_from start 0 0 a b (alignments_of s) (alignments_stand s it) le in omega (arith, all)

pub within : (start a : ℕ) (s : Section) → IsPaddedText s → dropped (moves start s) a ≤ a
within start a s it =
    let all = slow start 0 a s it (omega arith) in
    let none = none_before (moves start s) in omega (arith, all, none)

pub rises : (start a b : ℕ) (s : Section) → IsPaddedText s → a ≤ b → new_offset (moves start s) a ≤ new_offset (moves start s) b
rises start a b s it le =
    let all = slow start a b s it le in
    let low = within start a s it in omega (arith, all, low, le)

pub drops_even : (start a : ℕ) (s : Section) → IsPaddedText s → a % 2 ≡ 0 → dropped (moves start s) a % 2 ≡ 0
drops_even start a s it even = dropped_even start 0 a (alignments_of s) (section_padded s it.paddings) even

-- ---- past its end

ordered_up : (at size : ℕ) (rs : List Relocation) → AreOrdered at rs size → at ≤ size
ordered_up at size [] h = h
ordered_up at size (r ∷ rs) h = let one = h.0 in let more = ordered_up (r.place + full_padding r) size rs h.1 in omega (arith, one, more)

same_drop : (full left place size a p q : ℕ) → place + full ≤ size → size ≤ a → p ≡ q → min (full - left) (a - (place + left)) + p ≡ min (full - left) (size - (place + left)) + q
same_drop full left place size a p q ends le e = omega (arith, ends, le, e)

ended_from : (base gone at size a : ℕ) (rs : List Relocation) → AreOrdered at rs size → size ≤ a → dropped (plan base gone rs) a ≡ dropped (plan base gone rs) size
ended_from base gone at size a [] h le = refl
ended_from base gone at size a (r ∷ rs) h le =
    let least = aligned (alignment_of r) (base + (r.place - gone)) - (base + (r.place - gone)) in
    let next = gone + (full_padding r - least) in
    same_drop (full_padding r) (length (no_operations least)) r.place size a (dropped (plan base next rs) a) (dropped (plan base next rs) size) (ordered_up (r.place + full_padding r) size rs h.1) le
    (ended_from base next (r.place + full_padding r) size a rs h.1 le)

alignments_end : (s : Section) → IsPaddedText s → AreOrdered 0 (alignments_of s) (size_of s.contents)
alignments_end s it =
    let executable = (and_parts s.loaded s.executable it.text).1 in
    let all = of_code s.executable executable it.paddings in
    subst (λ b. AreOrdered 0 (if b then by_place (filter has_padding s.relocations) else []) (size_of s.contents)) (sym it.text) (ordered s.contents s.relocations all.0 all.1)
  where
    of_code : (e : Bool) → e ≡ true → are_paddings e s.contents s.relocations ≡ true → (list_all (is_padding true s.contents) s.relocations ≡ true) × (are_all_apart s.relocations ≡ true)
    of_code true e h = and_parts (list_all (is_padding true s.contents) s.relocations) (are_all_apart s.relocations) h
    of_code false e h = absurd (cc)

-- no more is dropped behind the end than before it
pub ended : (start a : ℕ) (s : Section) → IsPaddedText s → size_of s.contents ≤ a → dropped (moves start s) a ≡ dropped (moves start s) (size_of s.contents)
ended start a s it le = ended_from start 0 0 (size_of s.contents) a (alignments_of s) (alignments_end s it) le
