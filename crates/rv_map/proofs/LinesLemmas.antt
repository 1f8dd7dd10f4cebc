-- A line that was written is read again, whatever follows it.

use Rattle.std.proofs.Common.{◌≡◌, ℕ, ◌<◌, ◌≤◌, false, List, [], ◌∷◌, ◌++◌, length, get_or, inl, inr, ltb, leb, Some, IsTrue, codes, refl, sym, ap, ◌∙◌, append_assoc, arith}
use Rattle.std.specs.List.{list_all, flat_map}
use Rattle.std.specs.Fmt.{digits}
use Rattle.std.proofs.lemmas.Bool.{and_parts, leb-true}
use Rattle.std.proofs.lemmas.List.Sums.{AllPass-from_list_all}
use Rattle.rv_map_laws.specs.declared.map.Region.{Region}
use Rattle.rv_map_laws.specs.declared.map.Row.{Row}
use Rattle.rv_map_laws.specs.declared.map.SectionId.{SectionId}
use Rattle.rv_map_laws.specs.Map.{Map, Global}
use Rattle.rv_map_laws.specs.Name.{is_name, is_name_byte}
use Rattle.rv_map_laws.specs.Limits.{IsNumber, IsRegion, IsGlobal, IsDrop, IsRow, IsMap}
use Rattle.rv_map_laws.specs.Text.{hexadecimal, line_text, gap_line, global_line, drop_line, row_line, head_lines}
use Rattle.rv_map.specs.Numeral.{IsBase, is_digit}
use Rattle.rv_map.specs.Reading.{number_at, region_at, global_at, drop_at, row_at, head_at}
use Rattle.rv_map.proofs.CuttingLemmas.{cut_again, behind_again}
use Rattle.rv_map.proofs.NumbersLemmas.{number_again, digits_pass_at, digit_above}

-- a word, the byte after it, and what follows
abbrev then : List ℕ → ℕ → List ℕ → List ℕ
then word end rest = word ++ end ∷ rest

-- the two words that end a line
pair_spelt : (a b rest : List ℕ) → then a 32 (then b 10 []) ++ rest ≡ then a 32 (then b 10 rest)
pair_spelt a b rest = append_assoc a (32 ∷ then b 10 []) rest ∙ ap (then a 32) (append_assoc b (10 ∷ []) rest)

digits_high : (base n : ℕ) → IsBase base → (k : ℕ) → k < length (digits base false n) → 48 ≤ get_or (digits base false n) k 0
digits_high base n is k l = digit_above base (get_or (digits base false n) k 0) (AllPass-from_list_all (is_digit base) (digits base false n) (digits_pass_at base n is) k 0 l)

pub number_at_again : (base end n : ℕ) (rest : List ℕ) → IsBase base → end < 48 → IsNumber n → number_at base end (digits base false n ++ end ∷ rest) ≡ Some (n, rest)
unfolding number_at
number_at_again base end n rest is low small =
    rw (cut_again end (digits base false n) rest (λ k l e. omega (arith, digits_high base n is k l)), number_again base n is small) refl

decimal_at : (end n : ℕ) (rest : List ℕ) → end < 48 → IsNumber n → number_at 10 end (then (digits 10 false n) end rest) ≡ Some (n, rest)
decimal_at end n rest low small = number_at_again 10 end n rest (inl refl) low small

hexadecimal_at : (end n : ℕ) (rest : List ℕ) → end < 48 → IsNumber n → number_at 16 end (then (hexadecimal n) end rest) ≡ Some (n, rest)
hexadecimal_at end n rest low small = number_at_again 16 end n rest (inr refl) low small

pub region_again : (front : List ℕ) (r : Region) (rest : List ℕ) → IsRegion r → region_at front (front ++ (line_text (hexadecimal r.start ∷ hexadecimal r.end ∷ []) ++ rest)) ≡ Some (r, rest)
unfolding region_at line_text
region_again front r rest is =
    rw (
      behind_again front (line_text (hexadecimal r.start ∷ hexadecimal r.end ∷ []) ++ rest),
      pair_spelt (hexadecimal r.start) (hexadecimal r.end) rest,
      hexadecimal_at 32 r.start (then (hexadecimal r.end) 10 rest) (omega arith) is.0,
      hexadecimal_at 10 r.end rest (omega arith) is.1,
    ) refl

pub gap_again : (g : Region) (rest : List ℕ) → IsRegion g → region_at (codes "gap ") (line_text (gap_line g) ++ rest) ≡ Some (g, rest)
unfolding line_text
gap_again g rest is = region_again (codes "gap ") g rest is

name_high : (name : List ℕ) → IsTrue (is_name name) → (k : ℕ) → k < length name → 33 ≤ get_or name k 0
name_high name is k l =
    let bytes = and_parts (ltb 0 (length name)) (list_all is_name_byte name) is in
    let byte = AllPass-from_list_all is_name_byte name bytes.1 k 0 l in
    leb-true 33 _ (and_parts (leb 33 (get_or name k 0)) (leb (get_or name k 0) 126) byte).0

pub global_again : (g : Global) (rest : List ℕ) → IsGlobal g → global_at (line_text (global_line g) ++ rest) ≡ Some (g, rest)
unfolding global_at line_text
global_again g rest is =
    rw (
      behind_again (codes "global ") (then g.name 32 (then (hexadecimal g.address) 10 []) ++ rest),
      pair_spelt g.name (hexadecimal g.address) rest,
      cut_again 32 g.name (then (hexadecimal g.address) 10 rest) (λ k l e. omega (arith, name_high g.name is.0 k l)),
      hexadecimal_at 10 g.address rest (omega arith) is.1,
      is.0,
    ) refl

pub drop_again : (d : SectionId) (rest : List ℕ) → IsDrop d → drop_at (line_text (drop_line d) ++ rest) ≡ Some (d, rest)
unfolding drop_at line_text
drop_again d rest is =
    let file = digits 10 false d.file in
    let section = digits 10 false d.section in
    rw (
      behind_again (codes "drop ") (then file 32 (then section 10 []) ++ rest),
      pair_spelt file section rest,
      decimal_at 32 d.file (then section 10 rest) (omega arith) is.0,
      decimal_at 10 d.section rest (omega arith) is.1,
    ) refl

row_spelt : (a b c d e f rest : List ℕ) → then a 32 (then b 32 (then c 32 (then d 32 (then e 32 (then f 10 []))))) ++ rest ≡ then a 32 (then b 32 (then c 32 (then d 32 (then e 32 (then f 10 rest)))))
row_spelt a b c d e f rest = simp append_assoc

pub row_again : (r : Row) (rest : List ℕ) → IsRow r → row_at (line_text (row_line r) ++ rest) ≡ Some (r, rest)
unfolding row_at line_text
row_again r rest is =
    let file = digits 10 false r.file in
    let line = digits 10 false r.line in
    let ordinal = digits 10 false r.ordinal in
    let address = hexadecimal r.address in
    let bytes = digits 10 false r.bytes in
    let instructions = digits 10 false r.instructions in
    rw (
      behind_again (codes "row ") (then file 32 (then line 32 (then ordinal 32 (then address 32 (then bytes 32 (then instructions 10 []))))) ++ rest),
      row_spelt file line ordinal address bytes instructions rest,
      decimal_at 32 r.file (then line 32 (then ordinal 32 (then address 32 (then bytes 32 (then instructions 10 rest))))) (omega arith) is.0,
      decimal_at 32 r.line (then ordinal 32 (then address 32 (then bytes 32 (then instructions 10 rest)))) (omega arith) is.1,
      decimal_at 32 r.ordinal (then address 32 (then bytes 32 (then instructions 10 rest))) (omega arith) is.2,
      hexadecimal_at 32 r.address (then bytes 32 (then instructions 10 rest)) (omega arith) is.3,
      decimal_at 32 r.bytes (then instructions 10 rest) (omega arith) is.4,
      decimal_at 10 r.instructions rest (omega arith) is.5,
    ) refl

-- the lines that every map has, from left to right
abbrev bounds : Region → List ℕ
bounds r = line_text (hexadecimal r.start ∷ hexadecimal r.end ∷ [])

abbrev pub head_text : Map → List ℕ → List ℕ
head_text m rest =
    codes "rvmap 1" ++ 10 ∷ (codes "text " ++ (bounds m.text ++ (codes "rodata " ++ (bounds m.rodata ++ (codes "data " ++ (bounds m.«data»
    ++ (codes "bss " ++ (bounds m.bss ++ (codes "entry " ++ (then (hexadecimal m.entry) 10 rest))))))))))

pub head_spelt : (m : Map) (rest : List ℕ) → flat_map line_text (head_lines m) ++ rest ≡ head_text m rest
unfolding head_lines line_text
head_spelt m rest = simp append_assoc

abbrev pub only_head : Map → Map
only_head m = record m { gaps = []; globals = []; drops = []; rows = [] }

head_read : (m : Map) (rest : List ℕ) → IsMap m → head_at (head_text m rest) ≡ Some (only_head m, rest)
unfolding head_at
head_read m rest is =
    let entry = then (hexadecimal m.entry) 10 rest in
    let at_entry = codes "entry " ++ entry in
    let at_bss = codes "bss " ++ (bounds m.bss ++ at_entry) in
    let at_data = codes "data " ++ (bounds m.«data» ++ at_bss) in
    let at_rodata = codes "rodata " ++ (bounds m.rodata ++ at_data) in
    let at_text = codes "text " ++ (bounds m.text ++ at_rodata) in
    rw (
      behind_again (codes "rvmap 1" ++ 10 ∷ []) at_text,
      region_again (codes "text ") m.text at_rodata is.text,
      region_again (codes "rodata ") m.rodata at_data is.rodata,
      region_again (codes "data ") m.«data» at_bss is.«data»,
      region_again (codes "bss ") m.bss at_entry is.bss,
      behind_again (codes "entry ") entry,
      hexadecimal_at 10 m.entry rest (omega arith) is.entry,
    ) refl

pub head_again : (m : Map) (rest : List ℕ) → IsMap m → head_at (flat_map line_text (head_lines m) ++ rest) ≡ Some (only_head m, rest)
head_again m rest is = ap head_at (head_spelt m rest) ∙ head_read m rest is

-- ---- what is read is a line

pub region_taken : (front : List ℕ) (start end : ℕ) (r0 r1 r2 r3 : List ℕ) → r0 ≡ front ++ r1 → r1 ≡ then (hexadecimal start) 32 r2 → r2 ≡ then (hexadecimal end) 10 r3
    → r0 ≡ front ++ (line_text (hexadecimal start ∷ hexadecimal end ∷ []) ++ r3)
unfolding line_text
region_taken front start end r0 r1 r2 r3 e0 e1 e2 = simp (e0, e1, e2, append_assoc) refl

pub gap_taken : (g : Region) (r0 r1 : List ℕ) → r0 ≡ codes "gap " ++ (line_text (hexadecimal g.start ∷ hexadecimal g.end ∷ []) ++ r1) → r0 ≡ line_text (gap_line g) ++ r1
unfolding line_text
gap_taken g r0 r1 e = e

pub global_taken : (name : List ℕ) (address : ℕ) (r0 r1 r2 r3 : List ℕ) → r0 ≡ codes "global " ++ r1 → r1 ≡ then name 32 r2 → r2 ≡ then (hexadecimal address) 10 r3
    → r0 ≡ line_text (global_line (record { name = name; address = address })) ++ r3
unfolding line_text
global_taken name address r0 r1 r2 r3 e0 e1 e2 = simp (e0, e1, e2, append_assoc) refl

pub drop_taken : (d : SectionId) (r0 r1 r2 r3 : List ℕ) → r0 ≡ codes "drop " ++ r1 → r1 ≡ then (digits 10 false d.file) 32 r2 → r2 ≡ then (digits 10 false d.section) 10 r3
    → r0 ≡ line_text (drop_line d) ++ r3
unfolding line_text
drop_taken d r0 r1 r2 r3 e0 e1 e2 = simp (e0, e1, e2, append_assoc) refl

pub row_taken : (r : Row) (r0 r1 r2 r3 r4 r5 r6 r7 : List ℕ) → r0 ≡ codes "row " ++ r1 → r1 ≡ then (digits 10 false r.file) 32 r2 → r2 ≡ then (digits 10 false r.line) 32 r3
    → r3 ≡ then (digits 10 false r.ordinal) 32 r4 → r4 ≡ then (hexadecimal r.address) 32 r5 → r5 ≡ then (digits 10 false r.bytes) 32 r6
    → r6 ≡ then (digits 10 false r.instructions) 10 r7 → r0 ≡ line_text (row_line r) ++ r7
unfolding line_text
row_taken r r0 r1 r2 r3 r4 r5 r6 r7 e0 e1 e2 e3 e4 e5 e6 = simp (e0, e1, e2, e3, e4, e5, e6, append_assoc) refl

pub head_taken : (m : Map) (r0 r1 r2 r3 r4 r5 r6 r7 : List ℕ) → r0 ≡ (codes "rvmap 1" ++ 10 ∷ []) ++ r1 → r1 ≡ codes "text " ++ (bounds m.text ++ r2)
    → r2 ≡ codes "rodata " ++ (bounds m.rodata ++ r3) → r3 ≡ codes "data " ++ (bounds m.«data» ++ r4) → r4 ≡ codes "bss " ++ (bounds m.bss ++ r5)
    → r5 ≡ codes "entry " ++ r6 → r6 ≡ then (hexadecimal m.entry) 10 r7 → r0 ≡ flat_map line_text (head_lines m) ++ r7
head_taken m r0 r1 r2 r3 r4 r5 r6 r7 e0 e1 e2 e3 e4 e5 e6 =
    e0 ∙ ap (λ x. (codes "rvmap 1" ++ 10 ∷ []) ++ x)
    (e1 ∙ ap (λ x. codes "text " ++ (bounds m.text ++ x))
    (e2 ∙ ap (λ x. codes "rodata " ++ (bounds m.rodata ++ x))
    (e3 ∙ ap (λ x. codes "data " ++ (bounds m.«data» ++ x))
    (e4 ∙ ap (λ x. codes "bss " ++ (bounds m.bss ++ x))
    (e5 ∙ ap (λ x. codes "entry " ++ x) e6)))))
    ∙ sym (head_spelt m r7)
