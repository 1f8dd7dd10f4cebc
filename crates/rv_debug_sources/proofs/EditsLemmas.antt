-- A source with its edits, one after another.

use Rattle.std.proofs.Common.{◌≡◌, ℕ, ◌+◌, Bool, List, ◌∷◌, ◌++◌, drop, ap, ◌∙◌, sym}
use Rattle.rv_debug_sources.specs.declared.edit.Edit.{Edit}
use Rattle.rv_debug_sources.specs.LineText.{part}
use Rattle.rv_debug_sources.specs.Sources.{with_edited, with_change_in}

-- one more edit
pub edit_step : (plain : Bool) (source : List ℕ) (at : ℕ) (es : List Edit) (i : ℕ) (e : Edit) (text one new whole : List ℕ) → drop i es ≡ e ∷ drop (i + 1) es →
    one ≡ text ++ part at e.start source → new ≡ with_change_in plain one e.change → with_edited plain source text at (drop i es) ≡ whole →
    with_edited plain source new e.stop (drop (i + 1) es) ≡ whole
edit_step plain source at es i e text one new whole here first second so_far =
    let rest = drop (i + 1) es in
    ap (λ t. with_edited plain source t e.stop rest) (second ∙ ap (λ t. with_change_in plain t e.change) first)
    ∙ ap (λ (l : List Edit). with_edited plain source text at l) (sym here) ∙ so_far
