use Rattle.std.proofs.Common.{◌≡◌, max, rules}
use Rattle.rv_object_types.specs.Parts.{relocation_of}
use Rattle.rv_link_sites.specs.Between.{field_end}
use Rattle.rv_link_sites.proofs.AloneLemmas.{before_more}
use Rattle.rv_link_sites.proofs.between.Before.and.Goals as goal

pub returns : goal.returns
returns c = λ rs before.
    let r = relocation_of c.args.relocation.now in
    let end : c.max.result ≡ max c.args.self.end (field_end r) = search rules in
    before_more rs r c.args.self (record { end = c.max.result; relaxed = c.later.result }) before end c.later.ensures
