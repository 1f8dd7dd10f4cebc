use Rattle.std.proofs.Common.{◌≡◌, ◌∙◌, ◌+◌, ◌++◌, [], ◌∷◌, length, map, drop, ap, sym, refl, arith, append-nil}
use Rattle.std.specs.List.{list_all}
use Rattle.std.proofs.lemmas.Bool.{and_from}
use Rattle.std.proofs.lemmas.List.{map-append, length-drop}
use Rattle.std.proofs.lemmas.List.Folds.{list_all-append}
use Rattle.rv_firmware.specs.Blocks.{block_of, cells_of, cells_from, is_line}
use Rattle.rv_firmware.proofs.LinesLemmas.{line_added, no_cells}
use Rattle.rv_firmware.proofs.lines.put_lines.Goals as goal

pub loop-at-preserved : goal.loop-at-preserved
loop-at-preserved c =
    let bytes = c.args.block.bytes.now in let address = c.args.block.address in let at = c.loop-at.at in
    let line = block_of c.line-next.result in let before = map block_of c.loop-at.lines.items in
    let shown : map block_of c.push.new.self.items ≡ before ++ line ∷ [] =
    ap (map block_of) c.in_ok-push.ensures.items ∙ map-append block_of c.loop-at.lines.items (c.line-next.result ∷ []) in (
      c.line-next.ensures.within,
      λ h. ap (list_all is_line) shown ∙ list_all-append is_line before (line ∷ [])
          ∙ and_from _ _ (c.loop-at.invariant.1 h) (and_from _ _ c.line-next.ensures.line refl),
      ap (λ bs. cells_of bs ++ cells_from (address + (at + length line.bytes)) (drop (at + length line.bytes) bytes)) shown
          ∙ line_added before line address at bytes c.line-next.ensures.address c.line-next.ensures.bytes c.line-next.ensures.within
          ∙ c.loop-at.invariant.2,
    )

pub returns-clause-cells : goal.returns-clause-cells
returns-clause-cells c =
    let bytes = c.args.block.bytes.now in let address = c.args.block.address in let at = c.loop-at.at in
    let none : cells_from (address + at) (drop at bytes) ≡ [] = no_cells (address + at) (drop at bytes) (omega (arith, length-drop at bytes, c.loop-at-test.false)) in
    let so_far = cells_of (map block_of c.loop-at.lines.items) in
    let first = cells_of (map block_of c.args.lines.now.items) in
    sym (append-nil so_far) ∙ ap (λ cs. so_far ++ cs) (sym none) ∙ c.loop-at.invariant.2
    ∙ ap (λ cs. first ++ cs) (sym (append-nil (cells_from address bytes)))
