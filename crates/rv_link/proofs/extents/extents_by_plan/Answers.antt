use Rattle.std.proofs.Common.{◌≡◌, List, map, ap, sym, subst}
use Rattle.std.proofs.lemmas.Result.{err_from_is_err_and}
use Rattle.rv_shorten.specs.declared.object.ShortObject.{ShortObject}
use Rattle.rv_shorten.specs.View.{short_object_of}
use Rattle.rv_link_laws.specs.Layout.{IsLayout}
use Rattle.rv_names.specs.Names.{IsNames}
use Rattle.rv_placement.specs.Placement.{layout_of}
use Rattle.rv_addresses.specs.Ended.{short_ended_from}
use Rattle.rv_addresses.specs.Extents.{sizes_in, addresses_of, extents_by}
use Rattle.rv_link.proofs.extents.extents_by_plan.Goals as goal

pub invariant_of-resolved : goal.invariant_of-resolved
invariant_of-resolved c = record { named = subst (λ l. IsNames (map short_object_of l) c.args.names.now) (sym c.as_slice-objects.ensures.value) c.requires.names }

pub placed-requires-clause-same : goal.placed-requires-clause-same
placed-requires-clause-same c = ap (λ (l : List ShortObject). map short_object_of l) c.as_slice-objects.ensures.value

pub returns-clause-extents : goal.returns-clause-extents
returns-clause-extents c =
    let same = c.as_slice-objects.ensures.value in
    let sizes = sizes_in c.args.sizes.now in
    let layout = layout_of c.in_ok-placement.placement in
    let stands = c.in_ok-placement.ensures.placed in
    record {
      layout = layout;
      laid = subst (λ (l : List ShortObject). IsLayout (map short_object_of l) c.args.bounds layout) same stands.laid;
      reach = subst (λ (l : List ShortObject). map (λ row. row.items) c.in_ok-extents.extents.items ≡ extents_by (addresses_of (map short_object_of l) layout) (addresses_of (short_ended_from sizes 0 l) layout)) same
          (c.in_ok-extents.ensures c.args.bounds stands);
    }

pub returns-in_err-placement-clause-refuses : goal.returns-in_err-placement-clause-refuses
returns-in_err-placement-clause-refuses c =
    let found = err_from_is_err_and c.from_residual.result c.from_residual.ensures.1 in
    rw (found.1, found.2) c.in_err-placement.ensures.refuses

pub returns-in_err-extents-clause-refuses : goal.returns-in_err-extents-clause-refuses
returns-in_err-extents-clause-refuses c =
    let found = err_from_is_err_and c.from_residual-in_err-extents.result c.from_residual-in_err-extents.ensures.1 in
    rw (found.1, found.2) tt
