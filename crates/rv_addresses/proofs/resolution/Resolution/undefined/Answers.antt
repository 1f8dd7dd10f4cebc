use Rattle.std.proofs.Common.{◌≡◌, ◌<◌, ◌≤◌, ◌∙◌, None, length, get_or, map, option_map, rules, ap, sym, subst}
use Rattle.std.proofs.lemmas.List.{at_drop_all, get_or_default}
use Rattle.rv_list_laws.proofs.MapLemmas.{get_map_read}
use Rattle.rv_object_laws.specs.Object.{Object}
use Rattle.rv_link_laws.specs.Names.{outer_address}
use Rattle.rv_shorten.specs.View.{short_object_of}
use Rattle.rv_addresses.specs.Meant.{name_bytes}
use Rattle.rv_link_laws.specs.Undefined.{first_some, undefined_in, first_undefined}
use Rattle.rv_addresses.specs.Resolved.{AreResolved}
use Rattle.rv_link_laws.proofs.FirstSomeLemmas.{none_here, one_here}
use Rattle.rv_addresses.proofs.ResolvedLemmas.{all_resolved}
use Rattle.rv_addresses.proofs.resolution.Resolution.undefined.Goals as goal

pub loop-file-preserved : goal.loop-file-preserved
loop-file-preserved c =
    let i = c.loop-file.file in
    let xs = c.args.self.now.objects.now in
    let inside : i < length xs = search rules in
    let x = get_or xs i c.index-self-file.result in
    let is : x ≡ get_or xs i x = get_or_default xs i c.index-self-file.result x inside in
    none_here (λ (o : Object). first_some (undefined_in (map short_object_of xs) o) o.sections) short_object_of xs i x inside is
    (sym (c.undefined_in.ensures (get_map_read short_object_of xs i x inside is)) ∙ ap (option_map name_bytes) c.in-None.is)
    ∙ c.loop-file.invariant

pub returns-in-Some-clause-first : goal.returns-in-Some-clause-first
returns-in-Some-clause-first c =
    let i = c.loop-file.file in
    let xs = c.args.self.now.objects.now in
    let inside : i < length xs = search rules in
    let x = get_or xs i c.index-self-file.result in
    let is : x ≡ get_or xs i x = get_or_default xs i c.index-self-file.result x inside in
    one_here (λ (o : Object). first_some (undefined_in (map short_object_of xs) o) o.sections) short_object_of xs i x _ inside is
    (sym (c.undefined_in.ensures (get_map_read short_object_of xs i x inside is)) ∙ ap (option_map name_bytes) c.in-Some.is)
    ∙ c.loop-file.invariant

pub returns-clause-resolved : goal.returns-clause-resolved
returns-clause-resolved c = λ starts m e.
    let n = c.loop-file.file in
    let xs = c.args.self.now.objects.now in
    let os = map short_object_of xs in
    let past : length xs ≤ n = search rules in
    let none : first_undefined os ≡ None = sym c.loop-file.invariant ∙ at_drop_all (λ l. first_some (λ (o : Object). first_some (undefined_in os o) o.sections) (map short_object_of l)) xs n past in
    subst (λ g. AreResolved starts os (outer_address os g)) (sym e) (all_resolved os starts m none)
