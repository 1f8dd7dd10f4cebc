use Rattle.std.proofs.Common.{◌≡◌, ℕ, ◌≤◌, ◌*◌, ◌^◌, ◌++◌, [], List, map, subst, ap, ◌∙◌}
use Rattle.rv_object_laws.specs.Object.{Object}
use Rattle.rv_object_types.specs.View.{object_of}
use Rattle.rv_link_laws.specs.CallSites.{sites_of}
use Rattle.rv_link_sites.specs.Line.{ended_files}
use Rattle.rv_link_sites.specs.Text.{objects_of}
use Rattle.rv_link_sites.proofs.TargetsLemmas.{are_within}
use Rattle.rv_link_sites.proofs.walk.sites.Goals as goal

-- what was put behind nothing, for the objects of the text
all_of : {A : Type 0} (f : List Object → List A) (os own : List Object) (none new : List A) → none ≡ [] → new ≡ none ++ f own → own ≡ os → new ≡ f os
all_of f os own none new empty is same = is ∙ ap (λ l. l ++ f own) empty ∙ ap f same

low : (os own : List Object) → own ≡ os → ended_files 0 own ≤ 9 * 2 ^ 123 → ended_files 0 os ≤ 9 * 2 ^ 123
low os own same h = subst (λ l. ended_files 0 l ≤ 9 * 2 ^ 123) same h

pub returns-clause-sites : goal.returns-clause-sites
returns-clause-sites c =
    all_of sites_of (map object_of c.args.objects.now) (objects_of c.in_ok-text.text) c.new-sites.result.items c.put_all.new.sites.items c.new-sites.ensures.items c.in_ok-put_all.ensures c.in_ok-text.ensures.same

pub returns-clause-within : goal.returns-clause-within
returns-clause-within c =
    let os = map object_of c.args.objects.now in
    let same = c.in_ok-text.ensures.same in
    let is : c.put_all.new.sites.items ≡ sites_of os = all_of sites_of os (objects_of c.in_ok-text.text) c.new-sites.result.items c.put_all.new.sites.items c.new-sites.ensures.items c.in_ok-put_all.ensures same in
    are_within c.args.objects.now _ is (low os _ same c.in_ok-text.ensures.laid.low)
