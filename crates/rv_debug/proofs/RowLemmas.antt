-- Rows after one another.

use Rattle.std.proofs.Common.{◌≡◌, ◌∙◌, ℕ, ◌+◌, ◌-◌, ◌*◌, ◌/◌, ◌%◌, pos, negsuc, ◌+ℤ◌, true, false, List, [], ◌∷◌, ◌++◌, Option, Some, None, ap, arith, append_assoc, append-nil, refl, subst, sym}
use Rattle.std.proofs.lemmas.Bool.{le-leb}
use Rattle.std.proofs.lemmas.Int.{ints}
use Rattle.rv_debug_laws.specs.declared.line_row.LineRow.{LineRow}
use Rattle.rv_debug_laws.specs.LineProgram.{Registers, Row, End, appends, instruction, special, start}
use Rattle.rv_debug_laws.specs.LineUnit.{header}
use Rattle.rv_debug_laws.specs.LineTable.{registers_at, break_behind, code_end, entries_of, is_continued}
use Rattle.rv_debug.specs.Table.{AppendsTable}
use Rattle.rv_debug.specs.Writing.{IsSpecial, Does, Joins, Writes, WritesBefore, registers_of}
use Rattle.rv_debug.proofs.StepLemmas.{one, then_wrote, whole, before_others, wrote_nothing}

special_does : (r : Registers) (opcode bytes from line : ℕ) → IsSpecial opcode bytes from line →
    Does (record r { line = pos from }) (opcode ∷ []) (Row (record r { address = r.address + bytes; line = pos line }) ∷ [])
    (record r { address = r.address + bytes; line = pos line })
unfolding instruction special
special_does r opcode bytes from line h =
    let after : Registers = record r { address = r.address + bytes; line = pos line } in
    let place : r.address + 1 * ((opcode - 13) / 14) ≡ r.address + bytes = omega (arith, h.low, h.high, h.is) in
    let lands : pos from +ℤ (negsuc 4 +ℤ pos ((opcode - 13) % 14)) ≡ pos line = omega (arith, ints, h.low, h.high, h.is) in
    one (record r { line = pos from }) after opcode [] (Row after ∷ [])
    (λ rest. rw (le-leb 13 opcode (omega (arith, h.low, h.is)))
    (ap (λ a. appends (record r { address = a; line = pos from +ℤ (negsuc 4 +ℤ pos ((opcode - 13) % 14)) })) place
    ∙ ap (λ z. appends (record r { address = r.address + bytes; line = z })) lands))

pub wrote_special : (old new : List ℕ) (opcode bytes from line : ℕ) → IsSpecial opcode bytes from line → new ≡ old ++ opcode ∷ [] → (r : Registers) →
    Writes old new (record r { line = pos from }) (Row (record r { address = r.address + bytes; line = pos line }) ∷ [])
    (record r { address = r.address + bytes; line = pos line })
wrote_special old new opcode bytes from line h is r = record { bytes = opcode ∷ []; written = is; does = special_does r opcode bytes from line h }

pub wrote_plain : (old one two new : List ℕ) (bytes from line : ℕ) →
    ((r : Registers) → Writes old one r [] (record r { address = r.address + bytes })) →
    ((r : Registers) → Writes one two (record r { line = pos from }) [] (record r { line = pos line })) →
    ((r : Registers) → Writes two new r (Row r ∷ []) r) → (r : Registers) →
    Writes old new (record r { line = pos from }) (Row (record r { address = r.address + bytes; line = pos line }) ∷ [])
    (record r { address = r.address + bytes; line = pos line })
wrote_plain old one two new bytes from line first second third r =
    then_wrote (then_wrote (first (record r { line = pos from })) (second (record r { address = r.address + bytes })))
    (third (record r { address = r.address + bytes; line = pos line }))

-- a row behind the code of the last one
pub wrote_next : (old mid new : List ℕ) (last row : LineRow) → row.address ≡ code_end last →
    ((r : Registers) → Writes old mid (record r { file = last.file }) [] (record r { file = row.file })) →
    ((r : Registers) → Writes mid new (record r { line = pos last.line })
    (Row (record r { address = r.address + last.bytes; line = pos row.line }) ∷ [])
    (record r { address = r.address + last.bytes; line = pos row.line })) →
    Writes old new (registers_at last) (Row (registers_at row) ∷ []) (registers_at row)
wrote_next old mid new last row place first second =
    let P : ℕ → Type 0 = λ a.
    Writes old new (registers_at last) (Row (record (registers_at row) { address = a }) ∷ []) (record (registers_at row) { address = a }) in
    subst P (sym place) (then_wrote (first (registers_at last)) (second (record (registers_at last) { file = row.file })))

-- the first row of a sequence
pub wrote_first : (old mid new : List ℕ) (row : LineRow) →
    ((r : Registers) → Writes old mid r [] (record r { address = row.address })) →
    Writes mid new (registers_at (record { address = row.address; bytes = 0; file = 1; line = 1 })) (Row (registers_at row) ∷ []) (registers_at row) →
    Writes old new (start header) (Row (registers_at row) ∷ []) (registers_at row)
unfolding start
wrote_first old mid new row first second = then_wrote (first (start header)) second

-- the end of a sequence
pub wrote_break : (old mid new : List ℕ) (row : LineRow) (rest : List LineRow) → is_continued row rest ≡ false →
    ((r : Registers) → Writes old mid r [] (record r { address = r.address + row.bytes })) →
    ((r : Registers) → Writes mid new r (End r.address ∷ []) (start header)) →
    Writes old new (registers_at row) (break_behind row rest) (start header)
wrote_break old mid new row rest ends first second =
    rw ends (then_wrote (first (registers_at row)) (second (record (registers_at row) { address = row.address + row.bytes })))

-- no end of a sequence
pub wrote_no_break : (old : List ℕ) (row : LineRow) (rest : List LineRow) → is_continued row rest ≡ true →
    Writes old old (registers_at row) (break_behind row rest) (registers_at row)
wrote_no_break old row rest on = rw on (wrote_nothing old (registers_at row))

-- nothing is written before the first row
pub none_written : (old : List ℕ) (rows : List LineRow) → WritesBefore old old rows rows None
none_written old rows = record { done = []; whole = refl; written = wrote_nothing old (start header); joins = tt }

-- a row, and what comes behind it
pub one_more : (old mid far new : List ℕ) (rows here rest tail : List LineRow) (row : LineRow) (before after : Option LineRow) →
    here ≡ row ∷ rest → tail ≡ rest → WritesBefore old mid rows here before →
    Writes mid far (registers_of before) (Row (registers_at row) ∷ []) (registers_at row) →
    Writes far new (registers_at row) (break_behind row tail) (registers_of after) → Joins after tail →
    WritesBefore old new rows rest after
one_more old mid far new rows here rest tail row before after is same so_far first second joins = record {
  done = so_far.done ++ (Row (registers_at row) ∷ break_behind row rest);
  whole = append_assoc so_far.done (Row (registers_at row) ∷ break_behind row rest) (entries_of rest)
      ∙ ap (λ l. so_far.done ++ entries_of l) (sym is) ∙ so_far.whole;
  written = then_wrote so_far.written
      (then_wrote first (subst (λ l. Writes far new (registers_at row) (break_behind row l) (registers_of after)) same second));
  joins = subst (λ l. Joins after l) same joins;
}

-- the row that comes next goes on where the sequence does
pub joins_next : (before : Option LineRow) (here rest : List LineRow) (row : LineRow) → here ≡ row ∷ rest → Joins before here → Joins before (row ∷ [])
joins_next None here rest row is h = tt
joins_next (Some last) here rest row is h = sym (ap (is_continued last) is) ∙ h

-- the whole program
pub wrote_program : (old new : List ℕ) (rows rest : List LineRow) (before : Option LineRow) → rest ≡ [] →
    WritesBefore old new rows rest before → AppendsTable old new rows
wrote_program old new rows rest before none so_far = go before (subst (λ l. WritesBefore old new rows l before) none so_far)
  where
    go : (b : Option LineRow) → WritesBefore old new rows [] b → AppendsTable old new rows
    go (Some last) h = absurd (cc)
    go None h =
        let same : h.done ≡ entries_of rows = sym (append-nil h.done) ∙ h.whole in
        let all : Writes old new (start header) (entries_of rows) (start header) =
        subst (λ es. Writes old new (start header) es (start header)) same h.written in (
          all.bytes,
          all.written,
          whole all.bytes (entries_of rows) (start header) all.does,
          before_others all.bytes (entries_of rows) all.does,
        )
