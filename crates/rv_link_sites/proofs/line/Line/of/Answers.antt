use Rattle.std.proofs.Common.{◌≡◌, ◌≤◌, ◌++◌, ◌∷◌, [], length, map, ap, ◌∙◌, arith, rules}
use Rattle.std.proofs.lemmas.List.{length-append}
use Rattle.rv_object_types.specs.Sections.{section_of}
use Rattle.rv_link_sites.specs.Line.{ended, places}
use Rattle.rv_link_sites.proofs.StepsLemmas.{files_ended, many_places, object_entries, object_ends, object_places}
use Rattle.rv_link_sites.proofs.line.Line.of.Goals as goal

pub loop-object-preserved : goal.loop-object-preserved
loop-object-preserved c =
    let stop = c.loop-object.stop in
    let i = c.loop-object.object-index in
    let xs = c.args.objects.now in
    let x = c.object-item.result in
    let inside = c.loop-object-test.true in
    let is = c.object-item.is in
    let old = c.loop-object.places.items in
    let new = c.put_file.new.places.items in
    let own = map section_of x.sections.items in
    let same = c.as_slice.ensures.value in
    let ends = c.in_ok-stop.ensures.end ∙ ap (λ l. ended stop (map section_of l)) same in
    let grown = c.in_ok-stop.ensures.places ∙ ap (λ l. old ++ places stop (map section_of l)) same in
    let at : c.len.result ≡ length old = omega (arith, c.len.ensures, c.loop-object.places.ok.0) in
    let all = ap length grown ∙ length-append old (places stop own) in
    let two = many_places stop own in
    record {
      files = object_entries stop i xs x inside is c.loop-object.files.items _ _ (length old) (length new) (c.in_ok-push.ensures.items ∙ ap (λ n. c.loop-object.files.items ++ (n ∷ [])) at) (omega (arith, all, two)) c.loop-object.invariant.files;
      places = object_places stop i xs x inside is c.in_ok-stop.stop ends old new _ grown c.loop-object.invariant.places;
      ends = object_ends stop i xs x inside is c.in_ok-stop.stop ends _ c.loop-object.invariant.ends;
      low = c.in_ok-stop.ensures.low;
    }

pub returns-clause-low : goal.returns-clause-low
returns-clause-low c =
    let past : length c.args.objects.now ≤ c.loop-object.object-index = search rules in
    let end = files_ended c.loop-object.stop c.loop-object.object-index _ c.args.objects.now past c.loop-object.invariant.ends in
    omega (arith, end, c.loop-object.places.ok, c.loop-object.places.small, c.loop-object.invariant.low)
