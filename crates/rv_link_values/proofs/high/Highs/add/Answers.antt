use Rattle.std.proofs.Common.{rules, ◌≡◌, ◌∙◌, ap, sym, Some, None, true, false, cond, option_map, [], ◌∷◌, ◌&&◌, ◌==◌}
use Rattle.std.specs.Prelude.{if◌then◌else◌}
use Rattle.std.specs.BTreeMap.{get}
use Rattle.rv_object_types.specs.Parts.{relocation_of}
use Rattle.rv_link_laws.specs.Moves.{new_offset}
use Rattle.rv_link_laws.specs.Values.{is_high}
use Rattle.rv_cut_laws.specs.Cutting.{cut_relocation}
use Rattle.rv_shorten.specs.Sections.{moves_in}
use Rattle.rv_relax.specs.Kept.{moves_of}
use Rattle.rv_link_values.specs.Highs.{else_found, found, high_to, place_at, place_cmp}
use Rattle.rv_link_values.proofs.AddingLemmas.{put_found, put_nothing, same_place, stays_high}
use Rattle.rv_link_values.proofs.high.Highs.add.Goals as goal

pub returns-then-not-is_high : goal.returns-then-not-is_high
returns-then-not-is_high c = λ f n x.
    let r = relocation_of c.args.relocation.now in
    let ms = moves_in c.args.section.now in
    let q = cut_relocation ms r in
    let low : is_high r.kind ≡ false = search rules in
    put_nothing (is_high q.kind) (c.args.file.0 == f) (c.args.index.0 == n) (new_offset (moves_of c.args.plan.now) q.place == x) q (found c.args.self.now f n x) (stays_high ms r ∙ low)

pub returns : goal.returns
returns c = λ f n x.
    let r = relocation_of c.args.relocation.now in
    let ms = moves_in c.args.section.now in
    let d = c.relocation-relocation.result in
    let is : relocation_of d ≡ cut_relocation ms r = c.relocation-relocation.ensures in
    let first : true ≡ is_high r.kind = search rules in
    let high : true ≡ is_high d.kind = first ∙ sym (stays_high ms r) ∙ ap (λ q. is_high q.kind) (sym is) in
    let new = new_offset (moves_of c.args.plan.now) in
    let there = place_at f n x in
    let before = found c.args.self.now f n x in
    let old = get place_cmp c.args.self.now.by_place there in
    ap (option_map relocation_of) (c.in_ok-insert.ensures.updates.0 there)
    ∙ ap (λ b. option_map relocation_of (cond b (Some d) old)) (same_place _ there)
    ∙ put_found (is_high d.kind) (c.args.file.0 == f) (c.args.index.0 == n) (c.new_offset.result == x) d _ high
    ∙ ap (λ k. if (c.args.file.0 == f) && (c.args.index.0 == n) then else_found (cond (is_high d.kind && (k == x)) (Some (relocation_of d)) None) before else before) c.new_offset.ensures
    ∙ ap (λ q. if (c.args.file.0 == f) && (c.args.index.0 == n) then else_found (high_to new x (q ∷ [])) before else before) is
