use Rattle.std.proofs.Common.{◌≡◌, ◌+◌, false, List, [], get_or, take, ap, sym, subst, ◌∙◌, arith}
use Rattle.std.proofs.lemmas.List.{take_all}
use Rattle.std.proofs.lemmas.Result.{err_from_is_err_and}
use Rattle.rv_inputs.specs.declared.input.Form.TheVariants as forms
use Rattle.rv_inputs.specs.declared.input.Input.{Input}
use Rattle.rv_inputs.specs.Gathered.{no_files, Gathers}
use Rattle.rv_inputs.specs.Views.{gathering_of}
use Rattle.rv_inputs.specs.Taken.{IsNotAdded}
use Rattle.rv_inputs.proofs.GatheringLemmas.{gathers_next, adds_files, refused_at}
use Rattle.rv_inputs.proofs.gathering.gather.Goals as goal

pub loop-i-init : goal.loop-i-init
loop-i-init c = record { gathers = c.new-gathered.ensures; files = ap (λ g. g.files) c.new-gathered.ensures }

-- what stands for an input behind the last one
abbrev none : Input
none = record { bytes = record { ref_ptr = (0, 0); now = [] }; form = forms.Object; joins = false }

pub loop-i-preserved : goal.loop-i-preserved
loop-i-preserved c =
    let from = gathering_of c.loop-i.gathered in let to = gathering_of c.add.new.self in let added = c.in_ok-add.ensures.added in
    record {
      gathers = gathers_next c.args.inputs.now c.loop-i.i none from to c.loop-i-test.true c.loop-i.invariant.gathers added;
      files = adds_files (get_or c.args.inputs.now c.loop-i.i none) from to added ∙ ap (λ n. n + 1) c.loop-i.invariant.files;
    }

pub returns-in_err-add-clause-refuses : goal.returns-in_err-add-clause-refuses
returns-in_err-add-clause-refuses c =
    let fault = c.in_err-add.field-0.0 in
    let refused = subst (λ n. IsNotAdded n (get_or c.args.inputs.now c.loop-i.i none).bytes.now fault) c.loop-i.invariant.files c.in_err-add.ensures.refuses in
    let found = err_from_is_err_and c.from_residual.result c.from_residual.ensures.1 in
    rw (found.1, found.2) (refused_at c.args.inputs.now c.loop-i.i none (gathering_of c.loop-i.gathered) fault c.loop-i-test.true c.loop-i.invariant.gathers refused)

pub returns-clause-gathers : goal.returns-clause-gathers
returns-clause-gathers c =
    subst (λ (xs : List Input). Gathers xs no_files (gathering_of c.loop-i.gathered)) (take_all c.loop-i.i c.args.inputs.now (omega (arith, c.loop-i-test.false))) c.loop-i.invariant.gathers
