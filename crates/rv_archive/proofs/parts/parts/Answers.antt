use Rattle.std.proofs.Common.{◌∷◌, [], List, map, refl, sym, ap, subst, ◌∙◌, arith}
use Rattle.std.proofs.lemmas.List.{map-append}
use Rattle.std.proofs.lemmas.Result.{err_from_is_err_and}
use Rattle.rv_archive_laws.specs.Parts.{magic_size, StandInRow}
use Rattle.rv_archive.specs.declared.parts.Part.{Part}
use Rattle.rv_archive.specs.View.{plain_part}
use Rattle.rv_archive.proofs.PartsLemmas.{place_is, row_more}
use Rattle.rv_archive.proofs.parts.parts.Goals as goal

pub loop-place-init : goal.loop-place-init
loop-place-init c = record {
  stand = subst (λ (ps : List Part). StandInRow c.args.file.now magic_size (map plain_part ps) magic_size) (sym c.new-parts.ensures.items) refl;
  near = omega (arith, c.requires);
}

pub loop-place-preserved : goal.loop-place-preserved
loop-place-preserved c =
    let file = c.args.file.now in
    let part = c.in_ok-part.part in
    let is = ap (map plain_part) c.in_ok-push.ensures.items ∙ map-append plain_part c.loop-place.parts.items (part ∷ []) in
    record {
      stand = subst (StandInRow file magic_size (map plain_part c.push.new.self.items)) (sym c.next_place-place.ensures)
          (row_more file magic_size (map plain_part c.loop-place.parts.items) (map plain_part c.push.new.self.items) c.loop-place.place (plain_part part) is c.loop-place.invariant.stand c.in_ok-part.ensures.exact);
      near = omega (arith, c.next_place-place.ensures, c.in_ok-part.ensures.within);
    }

pub loop-place-smaller : goal.loop-place-smaller
loop-place-smaller c =
    let at = place_is c.args.file.now c.loop-place.place (plain_part c.in_ok-part.part) c.in_ok-part.ensures.exact in
    omega (arith, at, c.next_place-place.ensures, c.loop-place-test.true)

pub returns-in_err-part-clause-refuses : goal.returns-in_err-part-clause-refuses
returns-in_err-part-clause-refuses c =
    let found = err_from_is_err_and c.from_residual.result c.from_residual.ensures.1 in
    rw (found.1, found.2)
    (map plain_part c.loop-place.parts.items, c.loop-place.place, c.loop-place.invariant.stand, (omega (arith, c.loop-place-test.true), c.in_err-part.ensures.exact))

pub returns-clause-found : goal.returns-clause-found
returns-clause-found c = (c.loop-place.place, c.loop-place.invariant.stand, omega (arith, c.loop-place-test.false))
