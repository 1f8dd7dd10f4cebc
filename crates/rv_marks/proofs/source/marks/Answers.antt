use Rattle.std.proofs.Common.{◌∙◌, [], ◌++◌, length, map, refl, ap, sym, append-nil, arith}
use Rattle.rv_lexer.specs.Cursor.{remaining}
use Rattle.rv_lexer.specs.Token.{token_of}
use Rattle.rv_debug_laws.specs.Marks.{marks_from}
use Rattle.rv_marks.specs.Reading.{kinds_of, mark_of, read_with}
use Rattle.rv_marks.proofs.MarksLemmas.{last_one}
use Rattle.rv_marks.proofs.source.marks.Goals as goal

pub loop-reader-preserved : goal.loop-reader-preserved
loop-reader-preserved c =
    c.in_ok-take.ensures (token_of c.loop-reader.cursor.next) (remaining c.advance.new.self) refl
    ∙ ap (read_with c.loop-reader.reader) (sym c.advance.ensures) ∙ c.loop-reader.invariant

pub loop-reader-smaller : goal.loop-reader-smaller
loop-reader-smaller c = let shorter = ap length c.advance.ensures in omega (arith, shorter)

pub returns : goal.returns
returns c = λ short.
    let ended = sym c.is_last.ensures ∙ c.loop-reader-test.false in
    sym (append-nil (map mark_of c.take-2.new.self.marks.items))
    ∙ c.in_ok-take-2.ensures (token_of c.loop-reader.cursor.next) [] refl
    ∙ ap (read_with c.loop-reader.reader) (sym (last_one c.loop-reader.cursor ended))
    ∙ c.loop-reader.invariant
    ∙ (λ i. map mark_of (c.new-2.ensures.items i) ++ marks_from 1 (kinds_of (c.new-3.ensures.items i)) (remaining c.new-cursor.result))
    ∙ ap (λ ts. marks_from 1 [] ts) (c.new-cursor.ensures ∙ c.new.ensures.whole short)
