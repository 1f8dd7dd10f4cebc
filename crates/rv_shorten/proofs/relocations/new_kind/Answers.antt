use Rattle.std.proofs.Common.{◌<◌, ◌≢◌, inr, cond, length, map, slice_index_or, sym, ap, ◌∙◌, arith}
use Rattle.std.proofs.lemmas.Bool.{eq-eqb, ne_eqb}
use Rattle.rv_link_laws.specs.CallSites.{is_call}
use Rattle.rv_isa.specs.declared.kind.Kind.TheVariants as kinds
use Rattle.rv_shorten.specs.Cut.{move_of}
use Rattle.rv_cut_laws.specs.Cutting.{cut_at}
use Rattle.rv_shorten.proofs.OrderLemmas.{zeros, as_pieces}
use Rattle.rv_shorten.proofs.CutKindsLemmas.{one_at, same_at, absent, kept_kind, left_kind}
use Rattle.rv_shorten.proofs.relocations.new_kind.Goals as goal
use Rattle.rv_shorten.proofs.relocations.new_kind.Goals.{then-index-cuts-via-then-index-cuts, then-index-cuts-via-else-index-cuts+then-cuts-index}

pub count_before-index-requires : goal.count_before-index-requires
count_before-index-requires c = as_pieces 0 0 c.args.cuts.now c.requires

pub returns-then-index-cuts : goal.returns-then-index-cuts
returns-then-index-cuts c =
    let cs = c.args.cuts.now in
    let r = c.args.relocation.now in
    let k = c.count_before-index.result in
    let point = c.count_before-index.ensures.point in
    kept_kind r.kind (is_call r.kind) (cut_at (map move_of cs) r.place) (inr (elim c.then-index-cuts.branch [ then-index-cuts-via-then-index-cuts w ↦ (let end = w.if-index-cuts.true in absent r.place cs k c.requires point.0 (λ d inside. absurd (omega (arith, end)))) | then-index-cuts-via-else-index-cuts+then-cuts-index w ↦ (let other = w.if-cuts-index.true in absent r.place cs k c.requires point.0 (λ d inside. let from = point.1 k d (omega arith) inside in let same = same_at cs k d zeros inside in let apart : r.place ≢ (slice_index_or cs k d).place = (λ e. other (same ∙ sym e)) in omega (arith, from))) ]))

pub returns-then-cuts-index-eq2 : goal.returns-then-cuts-index-eq2
returns-then-cuts-index-eq2 c =
    let cs = c.args.cuts.now in
    let r = c.args.relocation.now in
    let k = c.count_before-index.result in
    let inside : k < length cs = omega (arith, c.count_before-index.ensures.bound, c.if-index-cuts.false) in
    sym (ap (λ b. cond b kinds.RvcJump kinds.Jal) (eq-eqb (slice_index_or cs k zeros).left 2 c.if-cuts-index-eq2.true))
    ∙ left_kind r.kind (is_call r.kind) (cut_at (map move_of cs) r.place) (slice_index_or cs k zeros) (sym c.is_call.ensures ∙ c.if-not-is_call.false)
    (one_at r.place cs k zeros inside c.count_before-index.ensures.point.0 c.if-cuts-index.false)

pub returns-else-cuts-index-eq2 : goal.returns-else-cuts-index-eq2
returns-else-cuts-index-eq2 c =
    let cs = c.args.cuts.now in
    let r = c.args.relocation.now in
    let k = c.count_before-index.result in
    let inside : k < length cs = omega (arith, c.count_before-index.ensures.bound, c.if-index-cuts.false) in
    sym (ap (λ b. cond b kinds.RvcJump kinds.Jal) (ne_eqb (slice_index_or cs k zeros).left 2 c.if-cuts-index-eq2.false))
    ∙ left_kind r.kind (is_call r.kind) (cut_at (map move_of cs) r.place) (slice_index_or cs k zeros) (sym c.is_call.ensures ∙ c.if-not-is_call.false)
    (one_at r.place cs k zeros inside c.count_before-index.ensures.point.0 c.if-cuts-index.false)
