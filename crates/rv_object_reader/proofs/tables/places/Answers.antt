use Rattle.std.proofs.Common.{◌≡◌, ◌+◌, ap, ◌∙◌, arith}
use Rattle.rv_object_file_laws.specs.Parts.{is_kept}
use Rattle.rv_object_reader.specs.Found.{section_at}
use Rattle.rv_object_reader.proofs.KeptSectionsLemmas.{places_more, counted_more, within_more, places_all}
use Rattle.rv_object_reader.proofs.tables.places.Goals as goal

pub loop-earlier-preserved : goal.loop-earlier-preserved
loop-earlier-preserved c =
    let file = c.args.names.now.view.file.now in
    let i = c.loop-earlier.earlier in
    let was = c.loop-earlier.invariant in
    let kept : c.is_kept-kept.result ≡ is_kept file (section_at file (i + 1)) =
    c.is_kept-kept.ensures (i + 1) ∙ ap (λ h. is_kept file (record { index = i + 1; header = h })) c.section_header-header.ensures in
    record {
      made = places_more file i c.loop-earlier.places.items c.push-in-loop-earlier.new.self.items c.is_kept-kept.result c.loop-earlier.next c.place.result
          (omega arith) was.made was.next kept c.place.ensures c.in_ok-push-2.ensures.items;
      next = counted_more file i c.is_kept-kept.result c.loop-earlier.next c.following-next.result was.next kept c.following-next.ensures;
      within = within_more c.is_kept-kept.result c.loop-earlier.next c.following-next.result i was.within c.following-next.ensures;
    }

pub returns : goal.returns
returns c =
    let file = c.args.names.now.view.file.now in
    c.loop-earlier.invariant.made ∙ places_all file c.loop-earlier.earlier (omega arith)
