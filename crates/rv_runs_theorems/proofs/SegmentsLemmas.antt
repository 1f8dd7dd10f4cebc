-- The bytes of a row in the segments of a linked program: those of the text, where the row lies there.

use Rattle.std.proofs.Common.{◌≡◌, ℕ, zero, suc, ◌+◌, ◌-◌, ◌<◌, ◌≤◌, Bool, true, false, List, [], ◌∷◌, ◌++◌, length, take, drop, map, filter, refl, sym, ap, ◌∙◌, subst, arith, Option, Some, None}
use Rattle.std.proofs.lemmas.Bool.{cond-true, cond-false}
use Rattle.std.proofs.lemmas.Bool.Decides.{nat_tests}
use Rattle.std.proofs.lemmas.List.{append-nil}
use Rattle.std.specs.Prelude.{◌&&◌, ◌==◌, not, nat_le, if◌then◌else◌}
use Rattle.std.specs.List.{AllByRecursion, find}
use Rattle.rv_isa_laws.specs.Memory.{Mem}
use Rattle.rv_map_laws.specs.declared.map.Row.{Row}
use Rattle.rv_elf_laws.specs.Numbers.{pf_x}
use Rattle.rv_image_laws.specs.Linked.{Linked}
use Rattle.rv_image_laws.specs.Segment.{Segment}
use Rattle.rv_image_laws.specs.Executable.{Part, all_parts, has_memory, segment_of_part, linked_image}
use Rattle.rv_listing_laws.specs.Listing.{holds, bytes_in, row_bytes}
use Rattle.rv_runs_theorems.proofs.WordsLemmas.{HasBytes}

-- ---- the segment that holds a row

none_holds : (row : Row) (ps : List Part) → AllByRecursion (λ part. holds row (segment_of_part part) ≡ false) ps → find (holds row) (map segment_of_part (filter has_memory ps)) ≡ None
none_holds row [] h = refl
none_holds row (part ∷ ps) (no_part, more) = go (has_memory part) (none_holds row ps more)
  where
    go : (b : Bool) → find (holds row) (map segment_of_part (filter has_memory ps)) ≡ None
        → find (holds row) (map segment_of_part (if b then part ∷ filter has_memory ps else filter has_memory ps)) ≡ None
    go true rest = cond-false _ _ _ no_part ∙ rest
    go false rest = rest

first_holds : (row : Row) (part : Part) (ps : List Part) → has_memory part ≡ true → holds row (segment_of_part part) ≡ true
    → find (holds row) (map segment_of_part (filter has_memory (part ∷ ps))) ≡ Some (segment_of_part part)
first_holds row part ps some has =
    ap (λ b. find (holds row) (map segment_of_part (if b then part ∷ filter has_memory ps else filter has_memory ps))) some
    ∙ cond-true _ _ _ has

-- ---- bytes that memory has

dropped : (m : Mem) (a k : ℕ) (xs : List ℕ) → HasBytes m a xs → HasBytes m (a + k) (drop k xs)
dropped m a zero xs h = subst (λ x. HasBytes m x xs) (let e : a ≡ a + 0 = omega arith in e) h
dropped m a (suc k) [] h = tt
dropped m a (suc k) (x ∷ xs) (h, hs) = subst (λ y. HasBytes m y (drop k xs)) (let e : a + 1 + k ≡ a + suc k = omega arith in e) (dropped m (a + 1) k xs hs)

length_dropped : (k : ℕ) (xs : List ℕ) → k ≤ length xs → length (drop k xs) + k ≡ length xs
length_dropped zero xs le = omega arith
length_dropped (suc k) [] le = absurd (omega arith)
length_dropped (suc k) (x ∷ xs) le = let e = length_dropped k xs (omega arith) in omega arith

taken : (m : Mem) (a : ℕ) (xs ys : List ℕ) → HasBytes m a xs → HasBytes m a ys → length ys ≤ length xs → take (length ys) xs ≡ ys
taken m a xs [] h k le = refl
taken m a [] (y ∷ ys) h k le = absurd (omega arith)
taken m a (x ∷ xs) (y ∷ ys) (h, hs) (k, ks) le =
    ap (λ z. z ∷ take (length ys) xs) (sym h ∙ k) ∙ ap (λ zs. y ∷ zs) (taken m (a + 1) xs ys hs ks (omega arith))

-- ---- the row's bytes

some_memory : (n : ℕ) → 0 < n → not (n == 0) ≡ true
some_memory n some = grind (arith, nat_tests)

inside : (low a b high : ℕ) → low ≤ a → b ≤ high → (nat_le low a && nat_le b high) ≡ true
inside low a b high lo hi = grind (arith, nat_tests)

outside : (low a b high : ℕ) → high < b → (nat_le low a && nat_le b high) ≡ false
outside low a b high past = grind (arith, nat_tests)

no_bytes : (o : Option Segment) (row : Row) → row.bytes ≡ 0 → bytes_in row o ≡ []
no_bytes None row none = refl
no_bytes (Some s) row none = ap (λ n. take n (drop (row.address - s.address) s.bytes)) none

module _ (l : Linked) (row : Row) where
  abbrev text_part : Part
  text_part = record { address = l.map.text.start; stored = l.text; zeros = 0; flags = pf_x }

  abbrev other_parts : List Part
  other_parts = drop 1 (all_parts l)

  -- a row without bytes has none
  pub bytes_empty : row.bytes ≡ 0 → row_bytes (linked_image l).segments row ≡ []
  bytes_empty none = no_bytes (find (holds row) (linked_image l).segments) row none

  -- nor has one behind the text: the other segments can't be executed
  pub bytes_behind_text : l.map.text.start + length l.text ≤ row.address → 0 < row.bytes → row_bytes (linked_image l).segments row ≡ []
  bytes_behind_text behind some =
      let long : length (l.text ++ []) ≡ length l.text = ap length (append-nil l.text) in
      let text_no : (nat_le l.map.text.start row.address && nat_le (row.address + row.bytes) (l.map.text.start + length (l.text ++ []))) ≡ false =
      outside l.map.text.start row.address (row.address + row.bytes) (l.map.text.start + length (l.text ++ [])) (omega (arith, long, behind, some)) in
      ap (bytes_in row) (none_holds row (all_parts l) (text_no, (refl, (refl, tt))))

  -- one that lies in the text has those that memory has there
  pub bytes_in_text : (m : Mem) (bytes : List ℕ) → HasBytes m l.map.text.start l.text → HasBytes m row.address bytes → length bytes ≡ row.bytes
      → l.map.text.start ≤ row.address → row.address + row.bytes ≤ l.map.text.start + length l.text → 0 < row.bytes → row_bytes (linked_image l).segments row ≡ bytes
  bytes_in_text m bytes text has long low high some =
      let start = l.map.text.start in
      let k = row.address - start in
      let same : l.text ++ [] ≡ l.text = append-nil l.text in
      let size : length (l.text ++ []) ≡ length l.text = ap length same in
      let at : start + k ≡ row.address = omega (arith, low) in
      let left = length_dropped k l.text (omega (arith, low, high, some)) in
      let text_yes : (nat_le start row.address && nat_le (row.address + row.bytes) (start + length (l.text ++ []))) ≡ true =
      inside start row.address (row.address + row.bytes) (start + length (l.text ++ [])) low (omega (arith, size, high)) in
      let memory : not (length l.text + 0 == 0) ≡ true = some_memory (length l.text + 0) (omega (arith, low, high, some)) in
      let there : HasBytes m row.address (drop k l.text) = subst (λ x. HasBytes m x (drop k l.text)) at (dropped m start k l.text text) in
      ap (bytes_in row) (first_holds row text_part other_parts memory text_yes)
      ∙ ap (λ xs. take row.bytes (drop k xs)) same
      ∙ ap (λ n. take n (drop k l.text)) (sym long)
      ∙ taken m row.address (drop k l.text) bytes there has (omega (arith, left, long, low, high))
