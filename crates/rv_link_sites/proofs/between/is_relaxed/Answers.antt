use Rattle.std.proofs.Common.{◌≡◌, Some, map, ◌∙◌, rules}
use Rattle.rv_object_types.specs.Parts.{relocation_of}
use Rattle.rv_link_sites.proofs.AloneLemmas.{rise_behind, relaxed_before, relaxed_behind}
use Rattle.rv_link_sites.proofs.between.is_relaxed.Goals as goal

pub returns-then-eq : goal.returns-then-eq
returns-then-eq c = λ rs before rise.
    let is : c.args.before.relaxed ≡ Some c.args.call.now.place = search rules in
    relaxed_before rs (relocation_of c.args.call.now) (map relocation_of c.args.after.now) c.args.before before rise c.requires is

pub returns : goal.returns
returns c = λ rs before rise.
    let not' : c.args.before.relaxed ≡ Some c.args.call.now.place → ⊥ = search rules in
    c.begin_with_relax.ensures (rise_behind 0 rs (relocation_of c.args.call.now) (map relocation_of c.args.after.now) rise)
    ∙ relaxed_behind rs (relocation_of c.args.call.now) (map relocation_of c.args.after.now) c.args.before before rise c.requires not'
