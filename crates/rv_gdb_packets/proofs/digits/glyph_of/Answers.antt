use Rattle.std.proofs.Common.{ℕ, Bool, true, false, eqb, eqb→eq, get_or, refl, arith}
use Rattle.std.proofs.lemmas.Bool.{agree_below_at}
use Rattle.std.specs.Fmt.{digit_glyph}
use Rattle.rv_gdb_packets.specs.declared.digits.TheConstants.{GLYPHS}
use Rattle.rv_gdb_packets.proofs.digits.glyph_of.Goals as goal

abbrev is_glyph : ℕ → Bool
is_glyph n = eqb (get_or GLYPHS n 0) (digit_glyph false n)

pub returns : goal.returns
returns c =
    let each = agree_below_at is_glyph (λ n. true) 16 c.args.value refl (omega arith) in
    eqb→eq (get_or GLYPHS c.args.value 0) (digit_glyph false c.args.value) (rw each tt)
