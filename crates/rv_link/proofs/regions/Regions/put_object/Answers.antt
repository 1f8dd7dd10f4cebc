use Rattle.std.proofs.Common.{◌≡◌, ◌<◌, ◌+◌, length, sym, vec_len, ap, ◌∙◌, subst, arith}
use Rattle.std.proofs.lemmas.List.{length-map}
use Rattle.rv_list_laws.proofs.MapLemmas.{get_map_read}
use Rattle.rv_shorten.specs.View.{short_object_of}
use Rattle.rv_shorten.specs.Sections.{short_section_of}
use Rattle.rv_link_laws.specs.Names.{object_at}
use Rattle.rv_link.specs.Filled.{objects_of}
use Rattle.rv_link.specs.Regions.{left_from, left_files, AreGrown}
use Rattle.rv_link_laws.proofs.ListsLemmas.{found_at}
use Rattle.rv_link.proofs.TurnsLemmas.{grown_along, file_opens, file_closes}
use Rattle.rv_link.proofs.regions.Regions.put_object.Goals as goal

pub loop-index-init : goal.loop-index-init
loop-index-init c =
    let os = objects_of c.args.fixed.now in
    let inside : c.args.file.0 < length os = subst (λ n. c.args.file.0 < n) (sym (length-map c.args.fixed.now.objects.now short_object_of)) c.requires.file in
    grown_along os c.args.fixed.now.placement.now (left_files os c.args.file.0) (left_from os c.args.file.0 0) c.args.self.now (λ goes. file_opens os c.args.file.0 inside goes) c.requires.grown

pub returns-clause-grown : goal.returns-clause-grown
returns-clause-grown c =
    let objects = c.args.fixed.now.objects.now in
    let os = objects_of c.args.fixed.now in
    let p = c.args.fixed.now.placement.now in
    let file = c.args.file.0 in
    let o = c.index-fixed-file.result in
    let there : object_at os (file + 1) ≡ short_object_of o = found_at os file (short_object_of o) (get_map_read short_object_of objects file o c.requires.file c.index-fixed-file.is) in
    let long : length (object_at os (file + 1)).sections ≡ length o.sections.items = ap (λ x. length x.sections) there ∙ length-map o.sections.items short_section_of in
    let same : c.len-index-end.result ≡ vec_len o.sections = c.len-index-end.ensures ∙ ap (λ z. vec_len z.sections) (sym c.index-fixed-file.is) in
    let own : c.len-index-end.result ≡ length o.sections.items = omega (arith, same, o.sections.ok.0) in
    let last : c.loop-index.index ≡ length (object_at os (file + 1)).sections = omega (arith, own, long) in
    grown_along os p (left_from os file (length (object_at os (file + 1)).sections)) (left_files os (file + 1)) c.loop-index.self (λ goes. file_closes os file goes)
    (subst (λ n. AreGrown os p (left_from os file n) c.loop-index.self) last c.loop-index.invariant)
