use Rattle.std.proofs.Common.{◌≡◌, List, length, map, sym, ap, subst, ◌∙◌}
use Rattle.std.proofs.lemmas.Result.{IfOk-weaker}
use Rattle.rv_size_laws.specs.declared.site.Site.{Site}
use Rattle.rv_size_laws.specs.Calls.{IsText}
use Rattle.rv_object_types.specs.View.{object_of}
use Rattle.rv_link_laws.specs.Shortened.{shortened}
use Rattle.rv_shorten.specs.Cuts.{object_cuts, walked_cuts}
use Rattle.rv_shorten.specs.View.{moves_by_section, short_object_of}
use Rattle.rv_cut_laws.specs.Walk.{AreWalked, walked}
use Rattle.rv_shorten.proofs.CodeObjectsLemmas.{sound_objects}
use Rattle.rv_shorten.proofs.CutsLemmas.{cuts_are}
use Rattle.rv_cut_laws.proofs.LaidLemmas.{walk_is}
use Rattle.rv_shorten.proofs.objects.shorten.Goals as goal

pub shorten_all-requires-clause-walked : goal.shorten_all-requires-clause-walked
shorten_all-requires-clause-walked c =
    let os = map object_of c.args.objects.now in
    let kept = c.args.kept.now in
    let is = c.requires.sites in
    let walk = walk_is os kept (sound_objects c.args.objects.now) (subst IsText is c.requires.text) (c.requires.family ∙ ap (λ (l : List Site). length l) is) in
    subst (λ (l : List Site). AreWalked os l kept) (sym is) walk.allowed

pub returns-clause-left : goal.returns-clause-left
returns-clause-left c =
    let os = map object_of c.args.objects.now in
    let kept = c.args.kept.now in
    let is = c.requires.sites in
    let walk = walk_is os kept (sound_objects c.args.objects.now) (subst IsText is c.requires.text) (c.requires.family ∙ ap (λ (l : List Site). length l) is) in
    IfOk-weaker c.shorten_all.result (λ left. map short_object_of left.items ≡ walked os c.args.sites.now kept) (λ left. map short_object_of left.items ≡ shortened kept os)
    (λ left made. made ∙ ap (λ (l : List Site). walked os l kept) is ∙ walk.same) c.shorten_all.ensures.left

pub returns-clause-cuts : goal.returns-clause-cuts
returns-clause-cuts c =
    let os = map object_of c.args.objects.now in
    let kept = c.args.kept.now in
    let is = c.requires.sites in
    let cuts = cuts_are os kept (sound_objects c.args.objects.now) (subst IsText is c.requires.text) (c.requires.family ∙ ap (λ (l : List Site). length l) is) in
    IfOk-weaker c.shorten_all.result (λ left. map moves_by_section left.items ≡ walked_cuts os c.args.sites.now kept) (λ left. map moves_by_section left.items ≡ object_cuts kept os)
    (λ left made. made ∙ ap (λ (l : List Site). walked_cuts os l kept) is ∙ cuts) c.shorten_all.ensures.cuts
