-- The lengths of a unit lead to what they say.

use Rattle.std.proofs.Common.{◌≡◌, ◌∙◌, ℕ, ◌+◌, ◌<◌, ◌^◌, List, ◌∷◌, ◌++◌, length, take, drop, ap, sym, arith, subst}
use Rattle.std.specs.Int.{w32, to_le_bytes, from_le_bytes}
use Rattle.std.proofs.lemmas.Nat.{from_le_bytes-to_le_bytes_4}
use Rattle.std.proofs.lemmas.List.{length-append, take_at, drop_at}
use Rattle.rv_debug_laws.specs.declared.line_row.SourceFile.{SourceFile}
use Rattle.rv_debug_laws.specs.LineProgram.{line_table}
use Rattle.rv_debug_laws.specs.LineUnit.{IsUnit, header, unit_header, program_of, sized, table_at, unit_bytes, unit_of}

-- as many bytes as the first four say
sized_found : (bytes rest : List ℕ) → length bytes < 2 ^ 32 → take (4 + from_le_bytes w32 (take 4 (sized bytes ++ rest))) (sized bytes ++ rest) ≡ sized bytes
sized_found bytes rest h =
    let number : from_le_bytes w32 (take 4 (sized bytes ++ rest)) ≡ length bytes = from_le_bytes-to_le_bytes_4 (length bytes) h in
    ap (λ n. take (4 + n) (sized bytes ++ rest)) number
    ∙ take_at (sized bytes) rest (4 + length bytes) (omega arith)

inner : (fields program : List ℕ) → List ℕ
inner fields program = 5 ∷ 0 ∷ 8 ∷ 0 ∷ sized fields ++ program

inner_length : (fields program : List ℕ) → length (5 ∷ 0 ∷ 8 ∷ 0 ∷ sized fields ++ program) ≡ 8 + length fields + length program
inner_length fields program = omega (arith, length-append fields program)

pub unit_found : (unit directory program rest : List ℕ) (files : List SourceFile) → IsUnit unit directory files program → unit_of (unit ++ rest) ≡ unit
unit_found unit directory program rest files h =
    let within : length (5 ∷ 0 ∷ 8 ∷ 0 ∷ sized h.fields ++ program) < 2 ^ 32 = omega (arith, inner_length h.fields program, h.short) in
    let P : List ℕ → Type 0 = λ u. unit_of (u ++ rest) ≡ u in
    subst P (sym h.is) (sized_found (5 ∷ 0 ∷ 8 ∷ 0 ∷ sized h.fields ++ program) rest within)

pub program_found : (unit directory program : List ℕ) (files : List SourceFile) → IsUnit unit directory files program → program_of unit ≡ program
program_found unit directory program files h =
    let number : from_le_bytes w32 (to_le_bytes w32 (length h.fields)) ≡ length h.fields = from_le_bytes-to_le_bytes_4 (length h.fields) (omega (arith, h.short)) in
    let u = unit_bytes h.fields program in
    ap program_of h.is ∙ ap (λ n. drop (12 + n) u) number
    ∙ drop_at (to_le_bytes w32 (length (5 ∷ 0 ∷ 8 ∷ 0 ∷ sized h.fields ++ program)) ++ 5 ∷ 0 ∷ 8 ∷ 0 ∷ sized h.fields) program (12 + length h.fields) (omega arith)

header_found : (unit directory program : List ℕ) (files : List SourceFile) → IsUnit unit directory files program → unit_header unit ≡ header
header_found unit directory program files h =
    ap unit_header h.is ∙ ap (λ f. unit_header (to_le_bytes w32 (length (5 ∷ 0 ∷ 8 ∷ 0 ∷ sized h.fields ++ program)) ++ 5 ∷ 0 ∷ 8 ∷ 0 ∷ to_le_bytes w32 (length h.fields) ++ f ++ program)) h.has.is

pub table_found : (unit directory program rest : List ℕ) (files : List SourceFile) → IsUnit unit directory files program → table_at (unit ++ rest) ≡ line_table header program
unfolding table_at
table_found unit directory program rest files h =
    ap (λ u. line_table (unit_header u) (program_of u)) (unit_found unit directory program rest files h)
    ∙ ap (λ d. line_table d (program_of unit)) (header_found unit directory program files h)
    ∙ ap (λ p. line_table header p) (program_found unit directory program files h)
