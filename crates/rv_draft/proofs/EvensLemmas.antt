-- The padding of an alignment in code has an even count of bytes.

use Rattle.std.proofs.Common.{◌≡◌, ℕ, zero, suc, ◌+◌, ◌*◌, ◌%◌, ◌^◌, Bool, true, false, List, length, Option, Some, None, refl, ap, ◌∙◌, arith}
use Rattle.std.proofs.Math.Nat.{pow-succ'}
use Rattle.std.proofs.lemmas.List.{length-append}
use Rattle.rv_expression_laws.specs.Values.{Value}
use Rattle.rv_statement_laws.specs.Statement.{StatementKind, Label, Numbered, Instruction, Directs, Expression}
use Rattle.rv_unit_laws.specs.Tables.{Tables, alignment_of}
use Rattle.rv_unit_laws.proofs.GrownLemmas.{AlignsToPower, directive_aligned}
use Rattle.rv_source_laws.specs.Located.{Located}
use Rattle.rv_object_laws.specs.Padding.{no_operations}
use Rattle.rv_source_laws.specs.Sizes.{code_padding}
use Rattle.rv_assemble_laws.specs.LaidStatements.{expression_value}
use Rattle.rv_instruction.specs.declared.encoded.Coded.{Coded}
use Rattle.rv_draft.specs.Contents.{statement_padding, padding_at, bytes_coded}
use Rattle.rv_draft.specs.Code.{code_bytes}
use Rattle.rv_object_laws.proofs.NopsLemmas.{length_even}

-- ---- and powers of two

padding_even : (a : Option ℕ) → AlignsToPower a → code_padding a % 2 ≡ 0
padding_even None h = refl
padding_even (Some n) (zero, e) = let one : n ≡ 1 = e in omega (arith, one)
padding_even (Some n) (suc k, e) = let twice : n ≡ 2 * 2 ^ k = e ∙ pow-succ' 2 k in omega (arith, twice)

pub padding_of_even : (executable : Bool) (v : Expression → Value) (kind : StatementKind) → statement_padding executable v kind % 2 ≡ 0
padding_of_even true v (Directs directive) = padding_even (alignment_of v directive) (directive_aligned v directive)
padding_of_even false v (Directs directive) = refl
padding_of_even b v (Label name) = refl
padding_of_even b v (Numbered number) = refl
padding_of_even b v (Instruction mnemonic operands) = refl

-- nothing before a number
pub none_more : (n : ℕ) → n ≡ 0 + n
none_more n = omega arith

-- what a statement has as code is as long as its size says
pub code_long : (t : Tables) (s : Located) (found : List Coded) → length (code_bytes (padding_at t s) found) ≡ padding_at t s + length (bytes_coded found)
code_long t s found =
    length-append (no_operations (padding_at t s)) (bytes_coded found)
    ∙ ap (λ n. n + length (bytes_coded found)) (length_even (padding_at t s) (padding_of_even s.home.executable (λ e. expression_value t s e) s.kind))
