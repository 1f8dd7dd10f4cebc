use Rattle.std.proofs.Common.{◌∙◌, false, [], map, length, ap, sym, arith}
use Rattle.rv_lexer.specs.Cursor.{remaining}
use Rattle.rv_lexer.specs.Token.{token_of}
use Rattle.rv_debug_sources.specs.Reading.{found_with}
use Rattle.rv_debug_sources.specs.Sources.{nothing_read, read_all, statements_from}
use Rattle.rv_marks.proofs.MarksLemmas.{last_one}
use Rattle.rv_debug_sources.proofs.source.read.Goals as goal

pub loop-reader-preserved : goal.loop-reader-preserved
loop-reader-preserved c =
    c.in_ok-take.ensures (remaining c.advance.new.self)
    ∙ ap (found_with c.loop-reader.reader) (sym c.advance.ensures) ∙ c.loop-reader.invariant

pub loop-reader-smaller : goal.loop-reader-smaller
loop-reader-smaller c = let shorter = ap length c.advance.ensures in omega (arith, shorter)

pub returns : goal.returns
returns c = λ short.
    let ended = sym c.is_last.ensures ∙ c.loop-reader-test.false in
    c.in_ok-take-2.ensures []
    ∙ ap (found_with c.loop-reader.reader) (sym (last_one c.loop-reader.cursor ended))
    ∙ c.loop-reader.invariant
    ∙ (λ i. read_all (record { edits = c.new-2.ensures.items i; said = c.new-3.ensures i })
    (statements_from (map token_of (c.new-4.ensures.items i)) (remaining c.new-cursor.result)))
    ∙ ap (λ ts. read_all nothing_read (statements_from [] ts)) (c.new-cursor.ensures ∙ c.new.ensures.whole short)
