use Rattle.std.proofs.Common.{◌≡◌, List, map, subst, ap, ◌∙◌, rules}
use Rattle.rv_size_laws.specs.declared.site.Site.{Site}
use Rattle.rv_size_laws.specs.Calls.{IsGreatestClosed}
use Rattle.rv_object_types.specs.View.{object_of}
use Rattle.rv_shorten.specs.Cuts.{object_cuts}
use Rattle.rv_shorten.specs.View.{moves_by_section, short_object_of}
use Rattle.rv_link_laws.specs.Shortened.{shortened}
use Rattle.rv_relax.specs.Plan.{objects_of_line}
use Rattle.rv_relax.proofs.CallSizesLemmas.{told_shortened}
use Rattle.rv_relax.proofs.plan.Cut.of.Goals as goal

pub returns-clause-calls : goal.returns-clause-calls
returns-clause-calls c =
    let os = objects_of_line c.args.text_line.now in
    let given = c.objects-objects.ensures in
    let kept = c.in_ok-kept.field-0.kept.items in
    let left = c.in_ok-objects.objects.items in
    let greatest = subst (λ (l : List Site). IsGreatestClosed l kept) c.sites-sites.ensures.value c.in_ok-kept.ensures.greatest in
    let lent : c.deref.result.now ≡ kept = search rules in
    let same : map short_object_of left ≡ shortened kept os = c.in_ok-objects.ensures.left ∙ ap (λ k. shortened k (map object_of c.objects-objects.result.now)) lent ∙ ap (shortened kept) given in
    told_shortened os left kept greatest (c.in_ok-objects.ensures.whole ∙ given) same

pub returns-clause-cuts : goal.returns-clause-cuts
returns-clause-cuts c =
    let os = objects_of_line c.args.text_line.now in
    let given = c.objects-objects.ensures in
    let kept = c.in_ok-kept.field-0.kept.items in
    let left = c.in_ok-objects.objects.items in
    let greatest = subst (λ (l : List Site). IsGreatestClosed l kept) c.sites-sites.ensures.value c.in_ok-kept.ensures.greatest in
    let lent : c.deref.result.now ≡ kept = search rules in
    let same : map short_object_of left ≡ shortened kept os = c.in_ok-objects.ensures.left ∙ ap (λ k. shortened k (map object_of c.objects-objects.result.now)) lent ∙ ap (shortened kept) given in
    let cuts : map moves_by_section left ≡ object_cuts kept os = c.in_ok-objects.ensures.cuts ∙ ap (λ k. object_cuts k (map object_of c.objects-objects.result.now)) lent ∙ ap (object_cuts kept) given in
    (kept, greatest, same, cuts)
