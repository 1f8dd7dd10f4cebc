-- Statements in few bytes: what a record says of its source.

use Rattle.std.specs.Prelude.{◌≡◌, ℕ, ◌+◌, ◌≤◌, Bool, nat_le, List, map, length, get_or}
use Rattle.std.specs.List.{slice_range}
use Rattle.rv_expression_laws.specs.Bytes.{digits_value}
use Rattle.rv_statement_laws.specs.Statement as specs
use Rattle.rv_statement.specs.View.{plain_of, statement_of}
use Rattle.rv_statement.specs.declared.statement.Plain.{Plain}
use Rattle.rv_statement.specs.declared.statement.Plain.TheVariants as plains
use Rattle.rv_statement.specs.declared.statement.Statement.{Statement}
use Rattle.rv_statement.specs.declared.record.Short.{Short}
use Rattle.rv_statement.specs.declared.record.Short.TheVariants as shorts
use Rattle.rv_statement.specs.declared.record.Words.{Words}
use Rattle.rv_statement.specs.declared.record.Words.TheVariants as words
use Rattle.rv_statement.specs.declared.record.Record.{Record}

-- a part of a source, by its length and its offset
abbrev pub part : List ℕ → ℕ → ℕ → List ℕ
part source count start = slice_range source start (start + count)

-- the instruction of few bytes
abbrev pub plain_in : Short → Plain
plain_in (shorts.Registers operation rd rs1 rs2) = plains.Registers operation rd rs1 rs2
plain_in (shorts.Load operation rd rs1) = plains.Load operation rd rs1
plain_in (shorts.Store operation rs2 rs1) = plains.Store operation rs2 rs1
plain_in (shorts.Jalr rd rs1) = plains.Jalr rd rs1
plain_in (shorts.JalrLinked rs1) = plains.JalrLinked rs1
plain_in shorts.Ecall = plains.Ecall
plain_in shorts.Ebreak = plains.Ebreak
plain_in shorts.Nop = plains.Nop
plain_in (shorts.Unary operation rd rs) = plains.Unary operation rd rs
plain_in (shorts.Compare operation rd rs1 rs2) = plains.Compare operation rd rs1 rs2
plain_in (shorts.Jr rs) = plains.Jr rs
plain_in shorts.Ret = plains.Ret
plain_in (shorts.Parcel operation a b) = plains.Parcel operation a b

-- what words say that keep nothing whole
abbrev pub packed_kind : List ℕ → Words → specs.StatementKind
packed_kind source (words.Plain short) = plain_of (plain_in short)
packed_kind source (words.Numbered count start) =
    specs.Numbered (digits_value 10 (part source count start))
packed_kind source (words.Whole index) = specs.Directs specs.Ignored

-- the statement of words with their line, among those that are kept whole
abbrev pub statement_in : List ℕ → List Statement → ℕ → Words → specs.Statement
statement_in source whole line (words.Whole index) =
    get_or (map statement_of whole) index
    (record { line = line; kind = specs.Directs specs.Ignored })
statement_in source whole line says = record { line = line; kind = packed_kind source says }

abbrev pub recorded : List ℕ → List Statement → Record → specs.Statement
recorded source whole r = statement_in source whole r.line r.words

-- how many bytes the source has at least, by the part that words name
abbrev pub part_end : Words → ℕ
part_end (words.Numbered count start) = start + count
part_end _ = 0

-- how many statements are kept whole at least, by the index that words name
abbrev pub least_whole : Words → ℕ
least_whole (words.Whole index) = index + 1
least_whole _ = 0

-- the part and the index of a record lie within
abbrev pub has_its_part : ℕ → Record → Bool
has_its_part size r = nat_le (part_end r.words) size

abbrev pub has_its_whole : ℕ → Record → Bool
has_its_whole count r = nat_le (least_whole r.words) count

-- words say this of the source, and keep nothing whole
pub record IsPacked (source : List ℕ) (says : Words) (kind : specs.StatementKind) : Type 0 where
  pub inside : part_end says ≤ length source
  pub alone : least_whole says ≡ 0
  pub same : packed_kind source says ≡ kind
