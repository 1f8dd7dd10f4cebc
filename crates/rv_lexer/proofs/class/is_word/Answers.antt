-- The table has `1` at each byte of a word.
use Rattle.std.proofs.Common.{◌≡◌, ℕ, ◌==◌, ◌<◌, Bool, true, false, map, cond, get_or, refl, ap, ◌∙◌, arith}
use Rattle.std.proofs.lemmas.List.FromFn.{get_or-map-range_with_len}
use Rattle.std.specs.List.{range_with_len}
use Rattle.rv_expression_laws.specs.Bytes.{is_word}
use Rattle.rv_lexer.specs.declared.class.TheConstants.{WORD_BYTES}
use Rattle.rv_lexer.proofs.class.is_word.Goals as goal

abbrev mark : ℕ → ℕ
mark b = cond (is_word b) 49 48

table_is : WORD_BYTES ≡ map mark (range_with_len 0 256)
table_is = refl

marked : (t : Bool) → (cond t 49 48 == 49) ≡ t
marked true = refl
marked false = refl

read : (b : ℕ) → b < 256 → (get_or WORD_BYTES b 0 == 49) ≡ is_word b
read b h =
    ap (λ (n : ℕ). n == 49) (ap (λ t. get_or t b 0) table_is ∙ get_or-map-range_with_len mark 0 256 b b 0 h (omega arith))
    ∙ marked (is_word b)

pub returns : goal.returns
returns c = rw c.from.ensures (read c.args.byte (omega arith))
