use Rattle.std.proofs.Common.{◌≡◌, ◌∙◌, ◌+◌, ◌-◌, ◌*◌, ◌/◌, ◌<◌, pos, length, sym, ap, arith}
use Rattle.rv_debug_laws.specs.Carried.{relocated}
use Rattle.rv_debug_sections.specs.Views.{plain_source}
use Rattle.rv_debug_sections.proofs.RelocatedLemmas.{by_records, one_more, one_none}
use Rattle.rv_debug_sections.proofs.fill.relocate_by.Goals as goal

pub returns-then-not-relocate-clause-no : goal.returns-then-not-relocate-clause-no
returns-then-not-relocate-clause-no c =
    let o = plain_source c.args.source.now in
    let table = c.args.records.now in
    let i = c.loop-index.index in
    let bytes = c.loop-index.bytes in
    let some : 0 < length table / 24 - i = omega arith in λ no.
    c.loop-index.invariant
    ∙ one_none o c.args.place (pos c.args.lost) table (24 * i) (length table / 24 - i) bytes some
    (ap (λ r. relocated o c.args.place (pos c.args.lost) r bytes) (sym c.rela_from-rela.ensures) ∙ c.relocate.ensures.no c.if-not-relocate.true)

pub loop-index-preserved : goal.loop-index-preserved
loop-index-preserved c =
    let o = plain_source c.args.source.now in
    let table = c.args.records.now in
    let i = c.loop-index.index in
    let bytes = c.loop-index.bytes in
    let new = c.relocate.new.bytes in
    let some : 0 < length table / 24 - i = omega arith in
    let next : 24 * i + 24 ≡ 24 * (i + 1) = omega arith in
    let left : length table / 24 - i - 1 ≡ length table / 24 - (i + 1) = omega arith in
    c.loop-index.invariant
    ∙ one_more o c.args.place (pos c.args.lost) table (24 * i) (length table / 24 - i) bytes new some
    (ap (λ r. relocated o c.args.place (pos c.args.lost) r bytes) (sym c.rela_from-rela.ensures) ∙ c.relocate.ensures.yes c.if-not-relocate.false)
    ∙ (λ j. by_records o c.args.place (pos c.args.lost) table (next j) (left j) new)
