-- The memory of a linked program's image: its rights are those of the map's regions, and its bytes are theirs.

use Rattle.std.proofs.Common.{◌≡◌, ℕ, suc, ◌+◌, ◌-◌, ◌<◌, ◌≤◌, Bool, true, false, List, [], ◌∷◌, ◌++◌, length, refl, sym, ap, ◌∙◌, subst, arith, map, append_assoc, length-append, Option, Some, None, is_some, inl, inr}
use Rattle.std.proofs.lemmas.Bool.Decides.{nat_tests}
use Rattle.std.proofs.lemmas.Bool.{eqb-true, not-false}
use Rattle.std.proofs.lemmas.List.{length-replicate}
use Rattle.std.proofs.Math.Seq.{get_or-append_seam}
use Rattle.std.specs.Prelude.{◌&&◌, ◌||◌, ◌==◌, nat_le, nat_lt, if◌then◌else◌, filter, slice_index}
use Rattle.rv_list_laws.proofs.TruthLemmas.{or_false}
use Rattle.rv_isa_laws.specs.Bytes.{zeros}
use Rattle.rv_isa_laws.specs.Memory.{Mem, Right, Read, Write, Execute}
use Rattle.rv_image_laws.specs.Linked.{Linked}
use Rattle.rv_image_laws.specs.Free.{free_until}
use Rattle.rv_image_laws.proofs.FreeLemmas.{free_apart}
use Rattle.rv_image_laws.specs.Executable.{Part, memory_size_of, all_parts, has_memory, segment_of_part, linked_image}
use Rattle.rv_image_laws.specs.Segment.{Segment}
use Rattle.rv_isa_laws.specs.Platform.{stack_start, stack_end}
use Rattle.rv_image_laws.specs.Memory.{mem_of, lies_in, segment_at, byte_in, right_in}
use Rattle.rv_source_laws.specs.Start.{is_within, is_in, right_at}
use Rattle.rv_chain_laws.specs.PlatformRun.{lies_at}
use Rattle.rv_runs_theorems.proofs.WordsLemmas.{HasBytes, bytes_behind}
use Rattle.rv_runs_theorems.proofs.RegionsLemmas.{bytes_front}

-- the regions hold their bytes, one after the other, bss after the data, all in free memory
pub record AreRegions (l : Linked) : Type 0 where
  pub text : l.map.text.start + length l.text ≡ l.map.text.end
  pub rodata : l.map.rodata.start + length l.rodata ≡ l.map.rodata.end
  pub «data» : l.map.data.start + length l.data ≡ l.map.data.end
  pub rodata_after : l.map.text.end ≤ l.map.rodata.start
  pub data_after : l.map.rodata.end ≤ l.map.data.start
  pub bss_after : l.map.data.end ≤ l.map.bss.start
  pub bss_ends : l.map.bss.start ≤ l.map.bss.end
  pub below : l.map.bss.end ≤ free_until l.map.text.start

-- ---- a part without memory is no segment, and holds no address

part_size : (part : Part) → length (part.stored ++ zeros part.zeros) ≡ memory_size_of part
part_size part = length-append part.stored (zeros part.zeros) ∙ ap (λ n. length part.stored + n) (length-replicate {A = ℕ} part.zeros 0)

empty_none : (part : Part) (x : ℕ) → has_memory part ≡ false → lies_in (segment_of_part part) x ≡ false
empty_none part x e =
    let none : memory_size_of part ≡ 0 = eqb-true (memory_size_of part) 0 (not-false (memory_size_of part == 0) e) in
    let short : length (part.stored ++ zeros part.zeros) ≡ 0 = part_size part ∙ none in
    ap (λ n. nat_le part.address x && nat_lt x (part.address + n)) short ∙ empty part.address
  where
    empty : (a : ℕ) → (nat_le a x && nat_lt x (a + 0)) ≡ false
    empty a = grind (arith, nat_tests)

kept : (ps : List Part) (x : ℕ) → segment_at (map segment_of_part (filter has_memory ps)) x ≡ segment_at (map segment_of_part ps) x
kept [] x = refl
kept (part ∷ ps) x = go (has_memory part) refl (kept ps x)
  where
    go : (b : Bool) → has_memory part ≡ b → segment_at (map segment_of_part (filter has_memory ps)) x ≡ segment_at (map segment_of_part ps) x
        → segment_at (map segment_of_part (if b then part ∷ filter has_memory ps else filter has_memory ps)) x ≡ segment_at (map segment_of_part (part ∷ ps)) x
    go true e rest = ap (λ o. if lies_in (segment_of_part part) x then Some (segment_of_part part) else o) rest
    go false e rest = rest ∙ ap (λ b. if b then Some (segment_of_part part) else segment_at (map segment_of_part ps) x) (sym (empty_none part x e))

-- ---- one of three segments

abbrev pick : Segment → Segment → Segment → Bool → Bool → Bool → Option Segment
pick t r d in_t in_r in_d = if in_t then Some t else (if in_r then Some r else (if in_d then Some d else None))

no_both : {A : Type 0} → true ≡ false → A
no_both e = absurd (cc)

module _ (a b c : ℕ) (t r d : List ℕ) where
  abbrev text_part : Segment
  text_part = record { address = a; bytes = t; flags = 1 }

  abbrev rodata_part : Segment
  rodata_part = record { address = b; bytes = r; flags = 4 }

  abbrev data_part : Segment
  data_part = record { address = c; bytes = d; flags = 6 }

  abbrev picked : Bool → Bool → Bool → Option Segment
  picked in_t in_r in_d = pick text_part rodata_part data_part in_t in_r in_d

  executes : (in_t in_r in_d : Bool) → right_in (picked in_t in_r in_d) Execute ≡ in_t
  executes true in_r in_d = refl
  executes false true in_d = refl
  executes false false true = refl
  executes false false false = refl

  writes : (in_t in_r in_d : Bool) → (in_t ≡ true → in_d ≡ false) → (in_r ≡ true → in_d ≡ false) → right_in (picked in_t in_r in_d) Write ≡ in_d
  writes true in_r in_d f g = sym (f refl)
  writes false true in_d f g = sym (g refl)
  writes false false true f g = refl
  writes false false false f g = refl

  reads : (in_t in_r in_d stack : Bool) → (in_t ≡ true → in_r ≡ false) → (in_t ≡ true → in_d ≡ false) → (right_in (picked in_t in_r in_d) Read || stack) ≡ (in_r || in_d || stack)
  reads true in_r in_d stack f g = sym (ap (λ b. b || in_d || stack) (f refl) ∙ ap (λ b. false || b || stack) (g refl))
  reads false true in_d stack f g = refl
  reads false false true stack f g = refl
  reads false false false stack f g = refl

  is_picked : (in_t in_r in_d : Bool) → is_some (picked in_t in_r in_d) ≡ (in_t || in_r || in_d)
  is_picked true in_r in_d = refl
  is_picked false true in_d = refl
  is_picked false false true = refl
  is_picked false false false = refl

  byte_text : (in_t in_r in_d : Bool) (x : ℕ) → in_t ≡ true → byte_in (picked in_t in_r in_d) x ≡ slice_index t (x - a)
  byte_text true in_r in_d x e = refl
  byte_text false in_r in_d x e = absurd (cc)

  byte_rodata : (in_t in_r in_d : Bool) (x : ℕ) → in_t ≡ false → in_r ≡ true → byte_in (picked in_t in_r in_d) x ≡ slice_index r (x - b)
  byte_rodata true in_r in_d x e f = absurd (cc)
  byte_rodata false true in_d x e f = refl
  byte_rodata false false in_d x e f = absurd (cc)

  byte_data : (in_t in_r in_d : Bool) (x : ℕ) → in_t ≡ false → in_r ≡ false → in_d ≡ true → byte_in (picked in_t in_r in_d) x ≡ slice_index d (x - c)
  byte_data true in_r in_d x e f g = absurd (cc)
  byte_data false true in_d x e f g = absurd (cc)
  byte_data false false true x e f g = refl
  byte_data false false false x e f g = absurd (cc)

  byte_none : (in_t in_r in_d : Bool) (x : ℕ) → in_t ≡ false → in_r ≡ false → in_d ≡ false → byte_in (picked in_t in_r in_d) x ≡ 0
  byte_none true in_r in_d x e f g = absurd (cc)
  byte_none false true in_d x e f g = absurd (cc)
  byte_none false false true x e f g = absurd (cc)
  byte_none false false false x e f g = refl

-- ---- bytes of a segment

has_from : (m : Mem) (a : ℕ) (all front back : List ℕ) → ((x : ℕ) → a ≤ x → x < a + length all → m.byte x ≡ slice_index all (x - a)) → all ≡ front ++ back → HasBytes m (a + length front) back
has_from m a all front [] same e = tt
has_from m a all front (b ∷ back) same e =
    let x = a + length front in
    let long : length all ≡ length front + suc (length back) = ap (λ l. length l) e ∙ length-append front (b ∷ back) in
    let at : x - a ≡ length front = omega arith in
    let here : slice_index all (x - a) ≡ b = ap (λ i. slice_index all i) at ∙ ap (λ l. slice_index l (length front)) e ∙ get_or-append_seam front b back 0 in
    let moved : all ≡ (front ++ b ∷ []) ++ back = e ∙ sym (append_assoc front (b ∷ []) back) in
    let next : a + length (front ++ b ∷ []) ≡ x + 1 = ap (λ n. a + n) (length-append front (b ∷ [])) ∙ omega arith in
    (same x (omega arith) (omega arith) ∙ here, subst (λ y. HasBytes m y back) next (has_from m a all (front ++ b ∷ []) back same moved))

has_all : (m : Mem) (a : ℕ) (all : List ℕ) → ((x : ℕ) → a ≤ x → x < a + length all → m.byte x ≡ slice_index all (x - a)) → HasBytes m a all
has_all m a all same = subst (λ y. HasBytes m y all) (let e : a + 0 ≡ a = omega arith in e) (has_from m a all [] all same refl)

within-true : (a b x : ℕ) → a ≤ x → x < b → is_within a b x ≡ true
within-true a b x lo hi = grind (arith, nat_tests)

within-low : (a b x : ℕ) → x < a → is_within a b x ≡ false
within-low a b x lo = grind (arith, nat_tests)

within-high : (a b x : ℕ) → b ≤ x → is_within a b x ≡ false
within-high a b x hi = grind (arith, nat_tests)

from_within : (a b x : ℕ) → is_within a b x ≡ true → a ≤ x
from_within a b x inside = grind (arith, nat_tests)

pub apart : (a b c d x : ℕ) → b ≤ c → is_within a b x ≡ true → is_within c d x ≡ false
apart a b c d x le inside = grind (arith, nat_tests)

module _ (l : Linked) (are : AreRegions l) where
  abbrev m : Mem
  m = mem_of (linked_image l)

  abbrev t : List ℕ
  t = l.text ++ zeros 0

  abbrev r : List ℕ
  r = l.rodata ++ zeros 0

  abbrev d : List ℕ
  d = l.data ++ zeros (l.map.bss.end - l.map.data.end)

  abbrev found_at : ℕ → Option Segment
  found_at x = picked l.map.text.start l.map.rodata.start l.map.data.start t r d (is_in l.map.text x) (is_in l.map.rodata x) (is_within l.map.data.start l.map.bss.end x)

  length-t : l.map.text.start + length t ≡ l.map.text.end
  length-t = ap (λ n. l.map.text.start + n) (length-append l.text (zeros 0)) ∙ (let a = are.text in let e : l.map.text.start + (length l.text + 0) ≡ l.map.text.end = omega arith in e)

  length-r : l.map.rodata.start + length r ≡ l.map.rodata.end
  length-r = ap (λ n. l.map.rodata.start + n) (length-append l.rodata (zeros 0)) ∙ (let a = are.rodata in let e : l.map.rodata.start + (length l.rodata + 0) ≡ l.map.rodata.end = omega arith in e)

  length-d : l.map.data.start + length d ≡ l.map.bss.end
  length-d =
      let a = are.data in
      let b = are.bss_after in
      let c = are.bss_ends in
      let z : length (zeros (l.map.bss.end - l.map.data.end)) ≡ l.map.bss.end - l.map.data.end = length-replicate {A = ℕ} (l.map.bss.end - l.map.data.end) 0 in
      let s : length d ≡ length l.data + length (zeros (l.map.bss.end - l.map.data.end)) = length-append l.data (zeros (l.map.bss.end - l.map.data.end)) in
      omega arith

  segment-is : (x : ℕ) → segment_at (linked_image l).segments x ≡ found_at x
  segment-is x =
      kept (all_parts l) x
      ∙ ap (λ e. pick (text_part l.map.text.start l.map.rodata.start l.map.data.start t r d) (rodata_part l.map.text.start l.map.rodata.start l.map.data.start t r d) (data_part l.map.text.start l.map.rodata.start l.map.data.start t r d)
      (is_within l.map.text.start e x) (is_within l.map.rodata.start (l.map.rodata.start + length r) x) (is_within l.map.data.start (l.map.data.start + length d) x)) length-t
      ∙ ap (λ e. pick (text_part l.map.text.start l.map.rodata.start l.map.data.start t r d) (rodata_part l.map.text.start l.map.rodata.start l.map.data.start t r d) (data_part l.map.text.start l.map.rodata.start l.map.data.start t r d)
      (is_in l.map.text x) (is_within l.map.rodata.start e x) (is_within l.map.data.start (l.map.data.start + length d) x)) length-r
      ∙ ap (λ e. pick (text_part l.map.text.start l.map.rodata.start l.map.data.start t r d) (rodata_part l.map.text.start l.map.rodata.start l.map.data.start t r d) (data_part l.map.text.start l.map.rodata.start l.map.data.start t r d)
      (is_in l.map.text x) (is_in l.map.rodata x) (is_within l.map.data.start e x)) length-d

  -- the segments lie where the program does
  pub lies-are : (x : ℕ) → is_some (segment_at (linked_image l).segments x) ≡ lies_at l.map x
  lies-are x = ap (λ o. is_some o) (segment-is x) ∙ is_picked _ _ _ t r d (is_in l.map.text x) (is_in l.map.rodata x) (is_within l.map.data.start l.map.bss.end x)

  text_rodata : (x : ℕ) → is_in l.map.text x ≡ true → is_in l.map.rodata x ≡ false
  text_rodata x = apart l.map.text.start l.map.text.end l.map.rodata.start l.map.rodata.end x are.rodata_after

  rodata_ordered : l.map.rodata.start ≤ l.map.rodata.end
  rodata_ordered = let a = are.rodata in omega arith

  data_ordered : l.map.data.start ≤ l.map.data.end
  data_ordered = let a = are.data in omega arith

  text_data : (x : ℕ) → is_in l.map.text x ≡ true → is_within l.map.data.start l.map.bss.end x ≡ false
  text_data x =
      let a = are.rodata_after in
      let b = rodata_ordered in
      let c = are.data_after in
      apart l.map.text.start l.map.text.end l.map.data.start l.map.bss.end x (omega arith)

  rodata_data : (x : ℕ) → is_in l.map.rodata x ≡ true → is_within l.map.data.start l.map.bss.end x ≡ false
  rodata_data x = apart l.map.rodata.start l.map.rodata.end l.map.data.start l.map.bss.end x are.data_after

  -- the rights
  pub rights-are : (x : ℕ) (right : Right) → m.has x right ≡ right_at l.map x right
  rights-are x Execute =
      ap (λ o. right_in o Execute || false) (segment-is x) ∙ or_false _ ∙ executes _ _ _ t r d (is_in l.map.text x) (is_in l.map.rodata x) (is_within l.map.data.start l.map.bss.end x)
  rights-are x Write =
      ap (λ o. right_in o Write || is_within stack_start stack_end x) (segment-is x)
      ∙ ap (λ b. b || is_within stack_start stack_end x) (writes _ _ _ t r d (is_in l.map.text x) (is_in l.map.rodata x) (is_within l.map.data.start l.map.bss.end x) (text_data x) (rodata_data x))
  rights-are x Read =
      ap (λ o. right_in o Read || is_within stack_start stack_end x) (segment-is x)
      ∙ reads _ _ _ t r d (is_in l.map.text x) (is_in l.map.rodata x) (is_within l.map.data.start l.map.bss.end x) (is_within stack_start stack_end x) (text_rodata x) (text_data x)

  -- the bytes
  pub text_held : HasBytes m l.map.text.start l.text
  text_held =
      bytes_front m l.map.text.start l.text (zeros 0)
      (has_all m l.map.text.start t (λ x lo hi. ap (λ o. byte_in o x) (segment-is x)
      ∙ byte_text _ _ _ t r d (is_in l.map.text x) (is_in l.map.rodata x) (is_within l.map.data.start l.map.bss.end x) x (within-true l.map.text.start l.map.text.end x lo (subst (λ e. x < e) length-t hi))))

  pub rodata_held : HasBytes m l.map.rodata.start l.rodata
  rodata_held =
      bytes_front m l.map.rodata.start l.rodata (zeros 0)
      (has_all m l.map.rodata.start r (λ x lo hi.
      let a = are.rodata_after in
      let le : l.map.text.end ≤ x = omega arith in
      ap (λ o. byte_in o x) (segment-is x)
      ∙ byte_rodata _ _ _ t r d (is_in l.map.text x) (is_in l.map.rodata x) (is_within l.map.data.start l.map.bss.end x) x
      (within-high l.map.text.start l.map.text.end x le) (within-true l.map.rodata.start l.map.rodata.end x lo (subst (λ e. x < e) length-r hi))))

  all_data : HasBytes m l.map.data.start d
  all_data =
      has_all m l.map.data.start d (λ x lo hi.
      let a = are.rodata_after in
      let b = rodata_ordered in
      let c = are.data_after in
      let le : l.map.text.end ≤ x = omega arith in
      let le' : l.map.rodata.end ≤ x = omega arith in
      ap (λ o. byte_in o x) (segment-is x)
      ∙ byte_data _ _ _ t r d (is_in l.map.text x) (is_in l.map.rodata x) (is_within l.map.data.start l.map.bss.end x) x
      (within-high l.map.text.start l.map.text.end x le) (within-high l.map.rodata.start l.map.rodata.end x le') (within-true l.map.data.start l.map.bss.end x lo (subst (λ e. x < e) length-d hi)))

  pub data_held : HasBytes m l.map.data.start l.data
  data_held = bytes_front m l.map.data.start l.data (zeros (l.map.bss.end - l.map.data.end)) all_data

  pub bss_held : HasBytes m l.map.data.end (zeros (l.map.bss.end - l.map.data.end))
  bss_held = subst (λ x. HasBytes m x (zeros (l.map.bss.end - l.map.data.end))) are.data (bytes_behind m l.map.data.start l.data (zeros (l.map.bss.end - l.map.data.end)) all_data)

  -- in no region
  elsewhere : (x : ℕ) → is_in l.map.text x ≡ false → is_in l.map.rodata x ≡ false → is_within l.map.data.start l.map.bss.end x ≡ false → m.byte x ≡ 0
  elsewhere x te re de =
      ap (λ o. byte_in o x) (segment-is x)
      ∙ byte_none _ _ _ t r d (is_in l.map.text x) (is_in l.map.rodata x) (is_within l.map.data.start l.map.bss.end x) x te re de

  behind_zero : (x : ℕ) → l.map.bss.end ≤ x → m.byte x ≡ 0
  behind_zero x high =
      let a = are.rodata_after in
      let b = rodata_ordered in
      let c = are.data_after in
      let e = data_ordered in
      let f = are.bss_after in
      let g = are.bss_ends in
      let te : l.map.text.end ≤ x = omega arith in
      let re : l.map.rodata.end ≤ x = omega arith in
      elsewhere x (within-high l.map.text.start l.map.text.end x te) (within-high l.map.rodata.start l.map.rodata.end x re) (within-high l.map.data.start l.map.bss.end x high)

  before_zero : (x : ℕ) → x < l.map.text.start → m.byte x ≡ 0
  before_zero x low =
      let a = are.rodata_after in
      let b = rodata_ordered in
      let c = are.data_after in
      let e = are.text in
      let rs : x < l.map.rodata.start = omega arith in
      let ds : x < l.map.data.start = omega arith in
      elsewhere x (within-low l.map.text.start l.map.text.end x low) (within-low l.map.rodata.start l.map.rodata.end x rs) (within-low l.map.data.start l.map.bss.end x ds)

  -- in the stack
  pub stack_zero : (x : ℕ) → stack_start ≤ x → x < stack_end → m.byte x ≡ 0
  stack_zero x low high = elim (free_apart l.map.text.start l.map.bss.end are.below) [
    | inl under ↦ behind_zero x (omega (arith, under, low))
    | inr over ↦ before_zero x (omega (arith, over, high))
  ]

  -- an address of the text is none of the stack
  pub text_off_stack : (x : ℕ) → is_in l.map.text x ≡ true → is_within stack_start stack_end x ≡ false
  text_off_stack x inside = elim (free_apart l.map.text.start l.map.bss.end are.below) [
    | inl under ↦
        let a = are.rodata_after in
        let b = rodata_ordered in
        let c = are.data_after in
        let e = data_ordered in
        let f = are.bss_after in
        let g = are.bss_ends in
        apart l.map.text.start l.map.text.end stack_start stack_end x (omega (arith, under)) inside
    | inr over ↦ within-high stack_start stack_end x (omega (arith, over, from_within l.map.text.start l.map.text.end x inside))
  ]
