use Rattle.std.proofs.Common.{rules, ◌≡◌, length, sym, ap, ◌∙◌, arith}
use Rattle.rv_listing_laws.specs.Lines.{front, length_read, line}
use Rattle.rv_disasm.proofs.FourLemmas.{front_four, added_line}
use Rattle.rv_disasm.proofs.line.put_kept_line.Goals as goal

pub keep-requires-clause-line : goal.keep-requires-clause-line
keep-requires-clause-line c reader =
    let bytes = c.args.bytes.now in
    let same = ap (front reader) c.first_word-word.ensures.bytes ∙ front_four reader bytes (omega (arith, c.if-bytes-lt4.false)) in
    let new = c.deref.ensures.value ∙ c.in_ok-count.ensures.text reader in
    let start : c.len-start.result ≡ length c.args.text.now.items = search rules in
    let text = added_line c.args.text.now.items c.deref.result.now (line c.args.address (front reader bytes)) c.len-start.result new start in
    (text ∙ ap (line c.args.address) (sym same), c.in_ok-count.ensures.count reader ∙ ap length_read (sym same))
