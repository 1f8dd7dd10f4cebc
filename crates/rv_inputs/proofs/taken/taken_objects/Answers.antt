use Rattle.std.proofs.Common.{◌≡◌, List, ℕ, Some, length, map, sym, ap, subst, ◌∙◌, arith}
use Rattle.std.specs.List.{slice_get}
use Rattle.std.proofs.lemmas.List.{length-map}
use Rattle.std.proofs.lemmas.Result.{err_from_is_err_and}
use Rattle.rv_inputs.specs.Views.{gathering_of, object_of}
use Rattle.rv_inputs.proofs.SelectionLemmas.{refused_by}
use Rattle.rv_inputs.proofs.WholeLemmas.{gathered_whole}
use Rattle.rv_inputs.proofs.taken.taken_objects.Goals as goal

pub taken_numbers-requires : goal.taken_numbers-requires
taken_numbers-requires c = gathered_whole c.args.inputs.now (gathering_of c.in_ok-gathered.gathered) c.in_ok-gathered.ensures.gathers

pub numbered-requires : goal.numbered-requires
numbered-requires c = λ i n here.
    let below = c.in_ok-numbers.ensures.within i n (subst (λ (ns : List ℕ). slice_get ns i ≡ Some n) c.as_slice-2.ensures.value here) in
    let long = length-map c.in_ok-gathered.gathered.objects.items object_of in
    let same = ap length c.as_slice.ensures.value in
    omega (arith, below, long, same)

pub returns-in_err-numbers-clause-refuses : goal.returns-in_err-numbers-clause-refuses
returns-in_err-numbers-clause-refuses c =
    let found = err_from_is_err_and c.from_residual-in_err-numbers.result c.from_residual-in_err-numbers.ensures.1 in
    rw (found.1, found.2)
    (refused_by c.args.inputs.now (gathering_of c.in_ok-gathered.gathered) c.in_err-numbers.field-0.0 c.in_ok-gathered.ensures.gathers c.in_err-numbers.ensures.refuses)

pub returns-clause-taken : goal.returns-clause-taken
returns-clause-taken c = record {
  gathering = gathering_of c.in_ok-gathered.gathered;
  gathers = c.in_ok-gathered.ensures.gathers;
  numbers = c.in_ok-numbers.numbers.items;
  takes = c.in_ok-numbers.ensures.takes;
  objects = sym (λ i. map (slice_get (map object_of (c.as_slice.ensures.value i))) (c.as_slice-2.ensures.value i)) ∙ c.in_ok-taken.ensures;
}
